-- Two good records are called equal exactly where their bytes are.
-- Assumes nothing.
use mathlib.Core.Path.{◌≡◌, refl, sym, ap, ap₂, ◌∙◌}
use mathlib.Core.Bool.{Bool, true, false}
use mathlib.Core.List.{List, [], ◌∷◌, ◌++◌}
use Prim.Native.Nat.{ℕ, zero, suc, ◌≤◌, ◌<◌, min}
use native.Mathlib.Nat.{le_step, lt-suc_self}
use native.Mathlib.Omega.{arith}
use borrow.Author.Tests.{eqb-true, ltb-true, ltb-false, eq-eqb}
use lib.Dec.{ltb}
use lib.ListN.{get_or}
use Rattle.laws.specs.Choose.{pick, all, all_parts}
use Rattle.laws.specs.Loops.{each}
use Rattle.rules.specs.declared.edge.Edge.{Edge}
use Rattle.std.specs.declared.result.Result.TheVariants.{Ok}
use Rattle.std.specs.declared.option.Option.{Option}
use Rattle.std.specs.declared.option.Option.TheVariants.{Some, None}
use Rattle.rules.specs.Refusals.{first, found_unless}
use Rattle.rules.specs.Record.{record_of, edges_in, entry_count}
use Rattle.rules.specs.Replay.{record_check}
use Rattle.checks.proofs.First.{nothing_all, all_nothing, unless_nothing}
use Rattle.replay.proofs.Theorems.{write_checked}
use Rattle.compared.specs.declared.beside.Difference.TheVariants.{Equal, FirstGoesOn, SecondGoesOn}
use Rattle.compared.specs.Compare.{same_numbers, edge_of, first_difference, said_of, difference_of}
use Rattle.compared.proofs.Apart.{apart}

-- ---- edges

same_is : (e f : Edge) → same_numbers e f ≡ true → e ≡ f
unfolding same_numbers
same_is e f h =
    let p = all_parts _ _ h in
    let q = all_parts _ _ p.1 in
    let r = all_parts _ _ q.1 in
    let t = all_parts _ _ r.1 in
    let u = all_parts _ _ t.1 in
    let v = all_parts _ _ u.1 in
    let ex : e.x ≡ f.x = eqb-true _ _ p.0 in
    let ey : e.y ≡ f.y = eqb-true _ _ q.0 in
    let ed : e.dir ≡ f.dir = eqb-true _ _ r.0 in
    let ep : e.pair ≡ f.pair = eqb-true _ _ t.0 in
    let eq : e.q ≡ f.q = eqb-true _ _ u.0 in
    let es : e.side ≡ f.side = eqb-true _ _ v.0 in
    λ i. record { x = ex i; y = ey i; dir = ed i; pair = ep i; q = eq i; side = es i }

same_self : (e : Edge) → same_numbers e e ≡ true
unfolding same_numbers all
same_self e = rw (eq-eqb e.x e.x refl, eq-eqb e.y e.y refl, eq-eqb e.dir e.dir refl, eq-eqb e.pair e.pair refl, eq-eqb e.q e.q refl, eq-eqb e.side e.side refl)

each_alike : (f g : ℕ → Edge) (n : ℕ) → ((k : ℕ) → k < n → f k ≡ g k) → each n (λ k. f k ∷ []) ≡ each n (λ k. g k ∷ [])
unfolding each
each_alike f g zero h = refl
each_alike f g (suc n) h =
    ap₂ (λ (xs ys : List Edge). xs ++ ys) (each_alike f g n (λ k l. h k (le_step l))) (ap (λ (e : Edge). e ∷ []) (h n (lt-suc_self n)))

-- ---- records

record Alike (a b : List ℕ) : Type 0 where
  pub counts : entry_count a ≡ entry_count b
  pub none : first_difference a b ≡ None

-- what "equal" says
equal_says : (a b : List ℕ) {n : ℕ} → difference_of a b ≡ Equal n → Alike a b
unfolding difference_of said_of pick
equal_says a b {n} h = go (first_difference a b) refl h
  where
    counts : (s t : Bool) → ltb (entry_count b) (entry_count a) ≡ s → ltb (entry_count a) (entry_count b) ≡ t
        → pick s (FirstGoesOn (entry_count b) (edge_of a (entry_count b))) (pick t (SecondGoesOn (entry_count a) (edge_of b (entry_count a))) (Equal (entry_count a))) ≡ Equal n
        → entry_count a ≡ entry_count b
    counts true t p q e = absurd (let z : ◌≡◌ {A = ℕ} 0 1 = cc in omega arith)
    counts false true p q e = absurd (let z : ◌≡◌ {A = ℕ} 0 1 = cc in omega arith)
    counts false false p q e =
        let x : entry_count a ≤ entry_count b = ltb-false (entry_count b) (entry_count a) p in
        let y : entry_count b ≤ entry_count a = ltb-false (entry_count a) (entry_count b) q in
        omega arith

    go : (r : Option ℕ) → first_difference a b ≡ r → said_of a b r ≡ Equal n → Alike a b
    go (Some k) f e = absurd (let z : ◌≡◌ {A = ℕ} 0 1 = cc in omega arith)
    go None f e = record { counts = counts _ _ refl refl e; none = f }

same_edges : (a b : List ℕ) → Alike a b → edges_in a ≡ edges_in b
unfolding edges_in first_difference
same_edges a b h =
    each_alike (edge_of a) (edge_of b) (entry_count a) (λ k l.
    let c = h.counts in
    same_is _ _ (unless_nothing _ k (nothing_all (apart a b) (min (entry_count a) (entry_count b)) h.none k (omega arith))))
    ∙ ap (λ (n : ℕ). each n (λ k. edge_of b k ∷ [])) h.counts

module _ (a b : List ℕ) (good : record_check a ≡ Ok tt) (other : record_check b ≡ Ok tt) (small : (k : ℕ) → get_or a k 0 < 256) (bytes : (k : ℕ) → get_or b k 0 < 256) where
  -- records called equal have equal bytes
  pub equal_bytes : {n : ℕ} → difference_of a b ≡ Equal n → a ≡ b
  equal_bytes h = sym (write_checked a small good) ∙ ap record_of (same_edges a b (equal_says a b h)) ∙ write_checked b bytes other

-- and a record is called equal to itself
pub equal_self : (a : List ℕ) → difference_of a a ≡ Equal (entry_count a)
unfolding difference_of first_difference said_of pick found_unless
equal_self a =
    let none : first (min (entry_count a) (entry_count a)) (apart a a) ≡ None = all_nothing (apart a a) _ (λ k h. same k) in
    rw none (go (ltb (entry_count a) (entry_count a)) refl)
  where
    same : (k : ℕ) → apart a a k ≡ None
    same k = rw (same_self (edge_of a k))

    go : (t : Bool) → ltb (entry_count a) (entry_count a) ≡ t
        → pick t (FirstGoesOn (entry_count a) (edge_of a (entry_count a))) (pick t (SecondGoesOn (entry_count a) (edge_of a (entry_count a))) (Equal (entry_count a))) ≡ Equal (entry_count a)
    go true e = absurd (let h : entry_count a < entry_count a = ltb-true (entry_count a) (entry_count a) e in omega arith)
    go false e = refl
