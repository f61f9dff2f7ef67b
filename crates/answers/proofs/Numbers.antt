-- What C is answered: a number that the machine holds, and the answer of a check in its terms.
-- Assumes nothing.
use mathlib.Core.Path.{◌≡◌, refl, ap, ap₂, ◌∙◌}
use mathlib.Core.List.{List, [], ◌∷◌}
use Prim.Native.Nat.{ℕ, zero, suc, ◌≤◌, ◌<◌}
use native.Mathlib.Omega.{arith}
use lib.ListN.{length, set}
use lib.IntN.{ℤ, pos, negsuc, neg_ℤ, ◌-ℤ◌}
use mir.Syntax.{w32}
use mir.Val.{SFits, to_z, of_z}
use Rattle.laws.specs.Choose.{is_le, not_le}
use Rattle.laws.specs.Whole.{same, count, neg}
use Rattle.laws.proofs.Operations.{differ}
use Rattle.laws.specs.Machine.{back}
use Rattle.rules.specs.declared.refusals.Refusal.{Refusal}
use Rattle.rules.specs.declared.refusals.Refusal.TheVariants.{Length}
use Rattle.rules.specs.Refusals.{Answer}
use Rattle.std.specs.declared.result.Result.TheVariants.{Ok, Err}
use Rattle.rules.specs.declared.counts.Counts.{Counts}
use Rattle.rules.specs.declared.counts.Visited.{Visited}
use Rattle.rules.specs.Refusals.{answered, length_told, counted, changed_in, stored_in}
use Rattle.std.specs.declared.result.Result.{Result}
use Rattle.rules.specs.Refusals.{number_of, place_refused, settle}
use Rattle.rules.specs.Record.{answer_bytes}
use Rattle.rules.specs.CSide.{c_answer}
use Rattle.rules.proofs.Numbered.{number_most}
use Rattle.checks.proofs.Checks.{stop, go_on, unless_bad, unless_good, settle_refused}
use Rattle.answers.specs.Told.{placed, tallied, Counted, Told, Few, refusal_in, bytes_in, listed, Reported, FilterTold}

-- a count that the machine holds
pub held : (z : ℤ) (n : ℕ) → z ≡ pos n → n < 2147483648 → to_z w32 (of_z w32 z) ≡ pos n
held z n e h = rw e (back (pos n) h)

-- minus a small count
pub held_below : (z : ℤ) (n : ℕ) → z ≡ neg_ℤ (pos n) → n ≤ 255 → to_z w32 (of_z w32 z) ≡ neg_ℤ (pos n)
held_below z zero e h = rw e (back (pos 0) (omega arith))
held_below z (suc n) e h = rw e (back (negsuc n) (omega arith))

-- minus a refusal's number
pub held_minus : (z : ℤ) (r : Refusal) → z ≡ neg_ℤ (pos (number_of r)) → to_z w32 (of_z w32 z) ≡ neg_ℤ (pos (number_of r))
held_minus z r e = held_below z (number_of r) e (number_most r)

-- 0 less a refusal's number, as the machine takes it off: it fits, and is minus that number
less : (n : ℕ) → pos 0 -ℤ pos n ≡ neg_ℤ (pos n)
less n = same (pos 0 -ℤ pos n) (neg_ℤ (pos n)) (differ 0 n) (neg (pos n) (count n)) (omega arith)

taken_off : (n : ℕ) → n ≤ 255 → pos 0 -ℤ to_z w32 n ≡ neg_ℤ (pos n)
taken_off n h = ap (λ (z : ℤ). pos 0 -ℤ z) (held (pos n) n refl (omega arith)) ∙ less n

below_fits : (n : ℕ) → n ≤ 255 → SFits w32 (neg_ℤ (pos n))
below_fits zero h = record { sfits = omega arith }
below_fits (suc n) h = record { sfits = omega arith }

module _ (r : Refusal) {n : ℕ} (e : n ≡ number_of r) where
  small : n ≤ 255
  small = omega (arith, number_most r)

  pub number_fits : SFits w32 (pos n)
  number_fits = record { sfits = omega (arith, small) }

  pub minus_fits : SFits w32 (pos 0 -ℤ to_z w32 n)
  minus_fits = rw (taken_off n small) (below_fits n small)

  pub minus_is : to_z w32 (of_z w32 (pos 0 -ℤ to_z w32 n)) ≡ neg_ℤ (pos (number_of r))
  minus_is = held_minus _ r (taken_off n small ∙ ap (λ (k : ℕ). neg_ℤ (pos k)) e)

-- the answer of a check
pub answer_refused : (a : Answer) (n : ℕ) {r : Refusal} → Err r ≡ a → neg_ℤ (pos (number_of r)) ≡ c_answer a n
unfolding c_answer
answer_refused a n e = rw (← e)

pub answer_accepted : (a : Answer) (n : ℕ) {m : ℕ} → Ok tt ≡ a → m ≡ n → pos m ≡ c_answer a n
unfolding c_answer
answer_accepted a n e f = rw (← e) (ap pos f)

-- ---- an answer and the place of a refusal

-- a list takes no number beyond its end
pub set_beyond : (l : List ℕ) (at k : ℕ) → length l ≤ at → l ≡ set l at k
set_beyond [] at k h = refl
set_beyond (x ∷ l) zero k h = absurd (omega arith)
set_beyond (x ∷ l) (suc at) k h = ap (λ (m : List ℕ). x ∷ m) (set_beyond l at k (omega arith))

pub tallied_by : (stored changed : ℕ) (l : List ℕ) {m n : List ℕ} → m ≡ set l 0 stored → n ≡ set m 1 changed → n ≡ tallied stored changed l
unfolding tallied
tallied_by stored changed l e f = f ∙ ap (λ (m : List ℕ). set m 1 changed) e

-- counts put twice are the last ones
pub tallied_last : (a b c d : ℕ) (l : List ℕ) → tallied a b (tallied c d l) ≡ tallied a b l
unfolding tallied
tallied_last a b c d [] = refl
tallied_last a b c d (x ∷ []) = refl
tallied_last a b c d (x ∷ (y ∷ l)) = refl

pub count_told : {a : Answer} (lent : List ℕ) {n : ℕ} {z : ℤ} → a ≡ Ok tt → n < 2147483648 → z ≡ pos n → Counted a n lent (to_z w32 (of_z w32 z)) lent
unfolding c_answer placed
count_told lent {n} {z} e h f = rw e (record { answer = held z n f h; place_is = refl })

pub count_refused : {a : Answer} {r : Refusal} (lent : List ℕ) (n : ℕ) {z : ℤ} {k : ℕ} {place : List ℕ} → a ≡ Err r → k ≡ place_refused r → place ≡ set lent 0 k → z ≡ neg_ℤ (pos (number_of r)) → Counted a n lent (to_z w32 (of_z w32 z)) place
unfolding c_answer placed
count_refused {a} {r} lent n {z} e f g h = rw e (record { answer = held_minus z r h; place_is = g ∙ ap (λ (k : ℕ). set lent 0 k) f })

held_answer : (z : ℤ) (a : Answer) (n : ℕ) → n < 2147483648 → z ≡ c_answer a n → to_z w32 (of_z w32 z) ≡ c_answer a n
unfolding c_answer
held_answer z (Ok tt) n h e = held z n e h
held_answer z (Err r) n h e = held_minus z r e

-- handed on by an export, whose check b gave the answer a with the count m
pub counted_on : {a b : Answer} {m n : ℕ} {lent place : List ℕ} {z : ℤ} → a ≡ b → m ≡ n → m < 2147483648 → Counted a m lent z place → Counted b n lent (to_z w32 (of_z w32 z)) place
counted_on {a} {b} {m} {n} {lent} {place} {z} e f h t =
    record { answer = held_answer z b n (omega (arith, f)) (t.answer ∙ ap₂ c_answer e f); place_is = t.place_is ∙ ap (λ (a : Answer). placed a lent) e }

pub told_by : {a b : Answer} {lent place : List ℕ} {z : ℤ} → a ≡ b → Told a lent z place → Told b lent (to_z w32 (of_z w32 z)) place
told_by e t = counted_on e refl (omega arith) t

-- a refusal of the settings' own list, where the check's answer would be a count
pub refused_by_holds : {b : Answer} (n : ℕ) {r : Refusal} {lent place : List ℕ} {z : ℤ} → Err r ≡ b → Told (Err r) lent z place → Counted b n lent (to_z w32 (of_z w32 z)) place
unfolding c_answer
refused_by_holds n {r} {z = z} e t = rw (← e) (record { answer = held_minus z r t.answer; place_is = t.place_is })

-- ---- an entry that filters, with its counts

pub filter_counted : {a : Result Counts Refusal} (lent k : List ℕ) {n : Counts} {m : List ℕ} → a ≡ Ok n → m ≡ tallied n.stored n.changed k → Told (answered a) lent (pos 0) lent × (m ≡ tallied (stored_in a) (changed_in a) k)
unfolding c_answer placed
filter_counted lent k e f = rw e (record { answer = refl; place_is = refl }, f)

pub none_counted : {a : Result Counts Refusal} {r : Refusal} (k : List ℕ) {p q m : List ℕ} {z : ℤ} → a ≡ Err r → Told (Err r) p z q × (m ≡ tallied 0 0 k) → Told (answered a) p (to_z w32 (of_z w32 z)) q × (m ≡ tallied (stored_in a) (changed_in a) k)
none_counted k e t = rw e (told_by refl t.0, t.1)

-- ---- a record's bytes

pub bytes_few : {a : Result Visited Refusal} {v : Visited} → Few (length_told a) → a ≡ Ok v → v.bytes < 2147483648
bytes_few {v = v} few e = let most = few v.bytes (ap length_told e) in omega (arith, most)

pub bytes_told : {a : Result Visited Refusal} (lent k : List ℕ) {v : Visited} {m : List ℕ} {z : ℤ} → Few (length_told a) → a ≡ Ok v → m ≡ tallied v.stored v.changed k → z ≡ pos v.bytes
    → Counted (refusal_in (length_told a)) (bytes_in (length_told a)) lent (to_z w32 (of_z w32 z)) lent × (m ≡ tallied (stored_in (counted a)) (changed_in (counted a)) k)
unfolding refusal_in bytes_in c_answer placed
bytes_told lent k {v} {z = z} few e f h = let most = bytes_few few e in rw e (record { answer = held z v.bytes h most; place_is = refl }, f)

pub bytes_refused : {a : Result Visited Refusal} {r : Refusal} (k : List ℕ) {p q m : List ℕ} {z : ℤ} → a ≡ Err r → Told (Err r) p z q × (m ≡ tallied 0 0 k)
    → Counted (refusal_in (length_told a)) (bytes_in (length_told a)) p (to_z w32 (of_z w32 z)) q × (m ≡ tallied (stored_in (counted a)) (changed_in (counted a)) k)
unfolding refusal_in bytes_in
bytes_refused k e t = rw e (told_by refl t.0, t.1)

-- handed on by an export: the answer a is the bytes n where the check accepts
pub counted_by : {a : Result ℕ Refusal} (check : Answer) (n : ℕ) {lent place : List ℕ} {z : ℤ} → a ≡ answer_bytes check n → Few a → Counted (refusal_in a) (bytes_in a) lent z place → Counted check n lent (to_z w32 (of_z w32 z)) place
unfolding answer_bytes refusal_in bytes_in c_answer placed
counted_by {a} (Ok tt) n {lent} {place} {z} e few t =
    let most = few n e in
    let u : Counted (Ok tt) n lent z place = rw e at t in
    record { answer = held z n u.answer (omega (arith, most)); place_is = u.place_is }
counted_by {a} (Err r) n {lent} {place} {z} e few t =
    let u : Counted (Err r) 0 lent z place = rw e at t in
    record { answer = held_minus z r u.answer; place_is = u.place_is }

-- ---- what is left of the lent lists, told to C

module _ {A : Type 0} {check : Answer} (lent new : A) {p q : List ℕ} {z : ℤ} where
  pub reported_refused : {r : Refusal} → Err r ≡ check → Told (Err r) p z q → Reported check lent new p (to_z w32 (of_z w32 z)) lent q
  reported_refused e t = record { told = told_by e t; left_is = settle_refused _ _ _ e }

  -- by a check of the entry's own
  pub reported_on : {own a : Answer} {left : A} → own ≡ check → a ≡ own → left ≡ settle own lent new → Told a p z q → Reported check lent new p (to_z w32 (of_z w32 z)) left q
  reported_on e f g t = record { told = told_by (f ∙ e) t; left_is = g ∙ ap (λ (x : Answer). settle x lent new) e }

-- two lists that are left by one check
pub settled : {A B : Type 0} (check : Answer) (a b : A) (c d : B) {m : A} {n : B} → m ≡ settle check a b → n ≡ settle check c d → ◌≡◌ {A = A × B} (m, n) (settle check (a, c) (b, d))
unfolding settle
settled (Ok tt) a b c d e f = cc
settled (Err r) a b c d e f = cc

-- a settings list: too short, and long enough
module _ (n : ℕ) (settings : List ℤ) (check : Answer) where
  pub short_is : length settings < n → Err Length ≡ listed n settings check
  unfolding listed
  short_is h = stop _ _ (unless_bad _ _ (not_le n (length settings) h))

  pub long_is : n ≤ length settings → check ≡ listed n settings check
  unfolding listed
  long_is h = go_on _ _ _ (unless_good _ _ (is_le n (length settings) h)) refl

  module _ {A : Type 0} (lent new : A) {p q : List ℕ} {z : ℤ} where
    pub short : length settings < n → Told (Err Length) p z q → Reported (listed n settings check) lent new p (to_z w32 (of_z w32 z)) lent q
    short h t = reported_refused lent new (short_is h) t

    pub long : n ≤ length settings → {a : Answer} {left : A} → a ≡ check → left ≡ settle check lent new → Told a p z q → Reported (listed n settings check) lent new p (to_z w32 (of_z w32 z)) left q
    long h e f t = reported_on lent new (long_is h) e f t

-- ---- counts beside an answer

module _ {A : Type 0} {check : Answer} (lent new : A) (stored changed : ℕ) {p q k m : List ℕ} {z : ℤ} where
  pub filter_refused : {r : Refusal} → Err r ≡ check → Told (Err r) p z q × (m ≡ tallied 0 0 k) → FilterTold check lent new stored changed p k (to_z w32 (of_z w32 z)) lent q m
  filter_refused e t = record { reported = reported_refused lent new e t.0; counts_are = t.1 ∙ ap₂ (λ (s c : ℕ). tallied s c k) (settle_refused _ _ _ e) (settle_refused _ _ _ e) }

  -- those of a check of the entry's own
  pub filter_on : {own : Answer} (a : Result Counts Refusal) {left : A} → own ≡ check → answered a ≡ own → left ≡ settle own lent new → stored_in a ≡ settle own 0 stored → changed_in a ≡ settle own 0 changed
      → Told (answered a) p z q × (m ≡ tallied (stored_in a) (changed_in a) k)
      → FilterTold check lent new stored changed p k (to_z w32 (of_z w32 z)) left q m
  filter_on a e f g s c t = record {
    reported = reported_on lent new e f g t.0;
    counts_are = t.1 ∙ ap₂ (λ (s c : ℕ). tallied s c k) (s ∙ ap (λ (x : Answer). settle x 0 stored) e) (c ∙ ap (λ (x : Answer). settle x 0 changed) e);
  }
