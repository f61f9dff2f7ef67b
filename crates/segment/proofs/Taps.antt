-- The stores of a line: a sample that is read just before it is moved is still as it was, and what the code stores by a sign and a size
-- is what the rules store by D. Assumes nothing.
use Rattle.std.proofs.Common.{◌≡◌, ℕ, ◌+◌, ◌-◌, ◌*◌, ◌%◌, ◌<◌, ◌≤◌, max, Bool, List, [], ◌∷◌, ◌++◌, length, get_or, set, ℤ, sym, refl, ap, ◌∙◌, ap₂, mul-le-mul_right, mod-eq_of_lt, add-mul, le_antisymm, arith, length-append, get_or-set_other}
use Rattle.laws.specs.Lists.{Each, each_append, each_loop}
use Rattle.laws.specs.Loops.{each, each_same, singles_length}
use Rattle.laws.specs.Stores.{Store, puts, puts_append, puts_one, puts_none, puts_more, puts_other, puts_length, puts_set}
use Rattle.laws.specs.Changes.{differ, changes, changes_one, changes_more, changes_append, Put, put_as, put_one, put_then, put_none, put_more, length_more}
use Rattle.laws.specs.Whole.{within}
use Rattle.rules.specs.declared.counts.Counts.{Counts}
use Rattle.rules.specs.Taps.{weight_of, difference, before, after}
use Rattle.rules.specs.Segment.{p_at, q_at}
use Rattle.taps.specs.Signed.{signed, along, against}
use Rattle.taps.proofs.Signs.{before_is, after_is}
use Rattle.segment.specs.Fit.{Spread}
use Rattle.segment.specs.Sides.{along_stores, against_stores, both_stores, Paired, difference_in, before_taps, after_taps, line_taps, Scales, none, Tapped}
use Rattle.segment.proofs.Places.{line_in}

-- ---- places of one line
p_apart : (at step j i : ℕ) → 1 ≤ step → j < i → (i + 1) * step ≤ at → p_at at step j ≡ p_at at step i → ⊥
p_apart at step j i s h r q =
    let l : j + 1 + 1 ≤ i + 1 = omega arith in
    omega (arith, mul-le-mul_right step l, add-mul (j + 1) 1 step)

q_apart : (at step j i : ℕ) → 1 ≤ step → j < i → q_at at step j ≡ q_at at step i → ⊥
q_apart at step j i s h q =
    let l : j + 1 ≤ i = omega arith in
    omega (arith, mul-le-mul_right step l, add-mul j 1 step)

p_below : (at step n i k : ℕ) → 1 ≤ step → i < n → n * step ≤ at → p_at at step i ≡ q_at at step k → ⊥
p_below at step n i k s h r q =
    let l : i + 1 ≤ n = omega arith in
    omega (arith, mul-le-mul_right step l, add-mul i 1 step)

-- ---- one side, one store more
module _ (top at step s by : ℕ) (plus : Bool) (l : List ℕ) (one : 1 ≤ step) where
  before_unread : (i : ℕ) {q : List ℕ} → (i + 1) * step ≤ at → q ≡ puts (along_stores top at step s plus by l i) l → get_or q (p_at at step i) 0 ≡ get_or l (p_at at step i) 0
  before_unread i h e =
      ap (λ (x : List ℕ). get_or x (p_at at step i) 0) e
      ∙ puts_other (along_stores top at step s plus by l i) l (p_at at step i)
      (each_loop (λ st. st.0 ≡ p_at at step i → ⊥) i (λ j. (p_at at step j, along top (get_or l (p_at at step j) 0) plus (by * (s - j))) ∷ [])
      (λ j b. (p_apart at step j i one b h, tt)))

  pub before_more : (i v d : ℕ) {q : List ℕ} {m n : ℕ} → (i + 1) * step ≤ at → Put (along_stores top at step s plus by l i) l q m n
      → v ≡ along top (get_or q (p_at at step i) 0) plus (by * (s - i)) → d ≡ differ (get_or q (p_at at step i) 0) v
      → Put (along_stores top at step s plus by l (i + 1)) l (set q (p_at at step i) v) m (n + d)
  before_more i v d {q} {m} {n} h e g k =
      let u = before_unread i h e.list in
      put_more (λ j. (p_at at step j, along top (get_or l (p_at at step j) 0) plus (by * (s - j))) ∷ []) l i e
      (put_one q (p_at at step i) v (along top (get_or l (p_at at step i) 0) plus (by * (s - i))) n d (g ∙ ap (λ (x : ℕ). along top x plus (by * (s - i))) u) k)
      (u, tt)

  after_unread : (i : ℕ) {q : List ℕ} → q ≡ puts (against_stores top at step s plus by l i) l → get_or q (q_at at step i) 0 ≡ get_or l (q_at at step i) 0
  after_unread i e =
      ap (λ (x : List ℕ). get_or x (q_at at step i) 0) e
      ∙ puts_other (against_stores top at step s plus by l i) l (q_at at step i)
      (each_loop (λ st. st.0 ≡ q_at at step i → ⊥) i (λ j. (q_at at step j, against top (get_or l (q_at at step j) 0) plus (by * (s - j))) ∷ [])
      (λ j b. (q_apart at step j i one b, tt)))

  pub after_more : (i v d : ℕ) {q : List ℕ} {m n : ℕ} → Put (against_stores top at step s plus by l i) l q m n
      → v ≡ against top (get_or q (q_at at step i) 0) plus (by * (s - i)) → d ≡ differ (get_or q (q_at at step i) 0) v
      → Put (against_stores top at step s plus by l (i + 1)) l (set q (q_at at step i) v) m (n + d)
  after_more i v d {q} {m} {n} e g k =
      let u = after_unread i e.list in
      put_more (λ j. (q_at at step j, against top (get_or l (q_at at step j) 0) plus (by * (s - j))) ∷ []) l i e
      (put_one q (q_at at step i) v (against top (get_or l (q_at at step i) 0) plus (by * (s - i))) n d (g ∙ ap (λ (x : ℕ). against top x plus (by * (s - i))) u) k)
      (u, tt)

-- ---- both sides, one store more on each

module _ (top at step s by : ℕ) (plus : Bool) (l : List ℕ) (one : 1 ≤ step) where
  -- one store, and the first i of them
  abbrev P1 : ℕ → List Store
  P1 i = (p_at at step i, along top (get_or l (p_at at step i) 0) plus (by * (s - i))) ∷ []

  abbrev Q1 : ℕ → List Store
  Q1 i = (q_at at step i, against top (get_or l (q_at at step i) 0) plus (by * (s - i))) ∷ []

  abbrev P : ℕ → List Store
  P i = along_stores top at step s plus by l i

  abbrev Q : ℕ → List Store
  Q i = against_stores top at step s plus by l i

  -- the plane q after i stores on either side; those that changed a sample took the count from m to n
  abbrev pub Pairs : ℕ → List ℕ → ℕ → ℕ → Type 0
  Pairs i q m n = Paired top at step s plus by l i q m n

  pub pair_none : (m : ℕ) → Pairs 0 l m m
  pair_none m = record {
    list = puts_none _ l ∙ puts_none _ (puts (P 0) l);
    count = omega (arith, (put_none (λ j. P1 j) l 0).count, (put_none (λ j. Q1 j) l 0).count);
  }

  -- counted from another number on
  pub pair_on : (i : ℕ) {q : List ℕ} {n : ℕ} (m : ℕ) → Pairs i q 0 n → Pairs i q m (m + n)
  pair_on i m e = record { list = e.list; count = omega (arith, e.count) }

  -- those after the edge store nowhere before it
  none_before_edge : (i : ℕ) → (i + 1) * step ≤ at → Each (λ (st : Store). st.0 ≡ p_at at step i → ⊥) (Q i)
  none_before_edge i h =
      each_loop (λ (st : Store). st.0 ≡ p_at at step i → ⊥) i (λ j. (q_at at step j, against top (get_or l (q_at at step j) 0) plus (by * (s - j))) ∷ [])
      (λ j b. (λ z. p_below at step (i + 1) i j one (omega arith) h (sym z), tt))

  -- p_i is as it was, and so is q_i after p_i was stored
  unread_p : (i : ℕ) {q : List ℕ} → (i + 1) * step ≤ at → q ≡ puts (Q i) (puts (P i) l) → get_or q (p_at at step i) 0 ≡ get_or (puts (P i) l) (p_at at step i) 0
  unread_p i h e = ap (λ (x : List ℕ). get_or x (p_at at step i) 0) e ∙ puts_other (Q i) (puts (P i) l) (p_at at step i) (none_before_edge i h)

  unread_q : (i : ℕ) {q : List ℕ} → (i + 1) * step ≤ at → q ≡ puts (Q i) (puts (P (i + 1)) l) → get_or q (q_at at step i) 0 ≡ get_or l (q_at at step i) 0
  unread_q i h e =
      ap (λ (x : List ℕ). get_or x (q_at at step i) 0) e
      ∙ puts_other (Q i) (puts (P (i + 1)) l) (q_at at step i) (each_loop (λ (st : Store). st.0 ≡ q_at at step i → ⊥) i Q1 (λ j b. (q_apart at step j i one b, tt)))
      ∙ puts_other (P (i + 1)) l (q_at at step i) (each_loop (λ (st : Store). st.0 ≡ q_at at step i → ⊥) (i + 1) P1 (λ j b. (p_below at step (i + 1) j i one b h, tt)))

  pair_before : (i v : ℕ) {q : List ℕ} → (i + 1) * step ≤ at → q ≡ puts (Q i) (puts (P i) l) → v ≡ along top (get_or q (p_at at step i) 0) plus (by * (s - i))
      → set q (p_at at step i) v ≡ puts (Q i) (puts (P (i + 1)) l)
  pair_before i v {q} h e g =
      ap (λ (x : List ℕ). set x (p_at at step i) v) e
      ∙ puts_set (Q i) (puts (P i) l) (p_at at step i) v (none_before_edge i h)
      ∙ ap (λ (x : List ℕ). puts (Q i) x)
      (puts_more P1 l i refl (puts_one (puts (P i) l) (p_at at step i) v (along top (get_or l (p_at at step i) 0) plus (by * (s - i)))
      (g ∙ ap (λ (x : ℕ). along top x plus (by * (s - i))) (unread_p i h e ∙ before_unread top at step s by plus l one i h refl))))

  pub pair_more : (m i v u a b : ℕ) {q : List ℕ} {n : ℕ} → (i + 1) * step ≤ at → Pairs i q m n
      → v ≡ along top (get_or q (p_at at step i) 0) plus (by * (s - i)) → a ≡ differ (get_or q (p_at at step i) 0) v
      → u ≡ against top (get_or (set q (p_at at step i) v) (q_at at step i) 0) plus (by * (s - i)) → b ≡ differ (get_or (set q (p_at at step i) v) (q_at at step i) 0) u
      → Pairs (i + 1) (set (set q (p_at at step i) v) (q_at at step i) u) m (n + (a + b))
  pair_more m i v u a b {q} {n} h e g ga f fb =
      let mid = pair_before i v h e.list g in
      let p = unread_p i h e.list ∙ before_unread top at step s by plus l one i h refl in
      let r = unread_q i h mid in
      let x : a ≡ changes (P1 i) l = ga ∙ ap₂ differ p (g ∙ ap (λ (x : ℕ). along top x plus (by * (s - i))) p) ∙ sym (changes_one _ _ l) in
      let y : b ≡ changes (Q1 i) l = fb ∙ ap₂ differ r (f ∙ ap (λ (x : ℕ). against top x plus (by * (s - i))) r) ∙ sym (changes_one _ _ l) in
      record {
        list = puts_more Q1 (puts (P (i + 1)) l) i mid (puts_one (set q (p_at at step i) v) (q_at at step i) u (against top (get_or l (q_at at step i) 0) plus (by * (s - i)))
            (f ∙ ap (λ (x : ℕ). against top x plus (by * (s - i))) r));
        count = omega (arith, e.count, x, y, changes_more P1 l i, changes_more Q1 l i);
      }

  -- both samples read before either is stored; twice d of them changed, and twice k of those before
  pub pair_plain : (i v u k d : ℕ) {q : List ℕ} → (i + 1) * step ≤ at → Pairs i q 0 (2 * k)
      → v ≡ along top (get_or q (p_at at step i) 0) plus (by * (s - i)) → u ≡ against top (get_or q (q_at at step i) 0) plus (by * (s - i))
      → differ (get_or q (p_at at step i) 0) v + differ (get_or q (q_at at step i) 0) u ≡ 2 * d
      → Pairs (i + 1) (set (set q (p_at at step i) v) (q_at at step i) u) 0 (2 * (k + d))
  pair_plain i v u k d {q} h e g f t =
      let w : get_or (set q (p_at at step i) v) (q_at at step i) 0 ≡ get_or q (q_at at step i) 0 =
      get_or-set_other q (p_at at step i) (q_at at step i) v 0 (λ z. p_below at step (i + 1) i i one (omega arith) h (sym z)) in
      let r = pair_more 0 i v u (differ (get_or q (p_at at step i) 0) v) (differ (get_or q (q_at at step i) 0) u) h e g refl
      (f ∙ ap (λ (x : ℕ). against top x plus (by * (s - i))) (sym w)) (ap (λ (x : ℕ). differ x u) (sym w)) in
      record { list = r.list; count = omega (arith, r.count, t) }

  pub pair_all : (i : ℕ) {q : List ℕ} {m n : ℕ} → Pairs i q m n → i ≤ s → s ≤ i → Pairs s q m n
  pair_all i {q} {m} {n} e a b = let f : Pairs s q m n = rw (le_antisymm a b) at e in f

  pub pair_put : {q : List ℕ} {m n : ℕ} → Pairs s q m n → Put (both_stores top at step s s plus by by l) l q m n
  pair_put {q} {m} {n} f = record { list = f.list ∙ sym (puts_append (P s) (Q s) l); count = f.count ∙ ap (λ (x : ℕ). m + x) (sym (changes_append (P s) (Q s) l)) }

-- ---- a side by D
module _ (top at step s size by : ℕ) (plus : Bool) (e : by ≡ size * weight_of s) (l : List ℕ) where
  along_is : along_stores top at step s plus by l s ≡ before_taps top at step s (signed plus size) l
  along_is = each_same _ _ s (λ i h. ap (λ (v : ℕ). (p_at at step i, v) ∷ []) (before_is top (get_or l (p_at at step i) 0) s i size by plus e))

  against_is : against_stores top at step s plus by l s ≡ after_taps top at step s (signed plus size) l
  against_is = each_same _ _ s (λ i h. ap (λ (v : ℕ). (q_at at step i, v) ∷ []) (after_is top (get_or l (q_at at step i) 0) s i size by plus e))

-- the samples after the edge are as they were before those before it moved
module _ (top at step n w bn bw : ℕ) (plus : Bool) (a b : List ℕ) (one : 1 ≤ step) (low : n * step ≤ at) where
  still : (i : ℕ) → b ≡ puts (along_stores top at step n plus bn a n) a → get_or b (q_at at step i) 0 ≡ get_or a (q_at at step i) 0
  still i e =
      ap (λ (x : List ℕ). get_or x (q_at at step i) 0) e
      ∙ puts_other (along_stores top at step n plus bn a n) a (q_at at step i)
      (each_loop (λ (st : Store). st.0 ≡ q_at at step i → ⊥) n (λ j. (p_at at step j, along top (get_or a (p_at at step j) 0) plus (bn * (n - j))) ∷ [])
      (λ j c. (p_below at step n j i one c low, tt)))

  after_still : b ≡ puts (along_stores top at step n plus bn a n) a → against_stores top at step w plus bw b w ≡ against_stores top at step w plus bw a w
  after_still e = each_same _ _ w (λ i h. ap (λ (x : ℕ). (q_at at step i, against top x plus (bw * (w - i))) ∷ []) (still i e))

  -- one side after the other; a, b and c are the plane before, between and after
  pub sides_then : (c : List ℕ) {i k m : ℕ} → Put (along_stores top at step n plus bn a n) a b i k → Put (against_stores top at step w plus bw b w) b c k m
      → Put (both_stores top at step n w plus bn bw a) a c i m
  sides_then c e f =
      put_then (along_stores top at step n plus bn a n) (against_stores top at step w plus bw a w) a e (put_as (after_still e.list) f)
      (each_loop (λ (st : Store). get_or b st.0 0 ≡ get_or a st.0 0) w (λ i. (q_at at step i, against top (get_or a (q_at at step i) 0) plus (bw * (w - i))) ∷ [])
      (λ i h. (still i e.list, tt)))

-- D from the four samples that the code reads
read_difference : (l : List ℕ) (at step m : ℕ) → within m (difference (get_or l (at - step - step) 0) (get_or l (at - step) 0) (get_or l at 0) (get_or l (at + step) 0)) ≡ difference_in l at step m
read_difference l at step m =
    let o : at - step - step ≡ p_at at step 1 = omega arith in
    let p : at - step ≡ p_at at step 0 = omega arith in
    let q : at ≡ q_at at step 0 = omega arith in
    let r : at + step ≡ q_at at step 1 = omega arith in
    cc

-- a line's taps: a and c are the plane before and after
pub line_both : (top at step n w m size wn ww bn bw : ℕ) (plus : Bool) (a c : List ℕ) {i k : ℕ} → Scales n w m wn ww
    → signed plus size ≡ within m (difference (get_or a (at - step - step) 0) (get_or a (at - step) 0) (get_or a at 0) (get_or a (at + step) 0)) → bn ≡ size * wn → bw ≡ size * ww
    → Put (both_stores top at step n w plus bn bw a) a c i k → Put (line_taps top at step n w m a) a c i k
unfolding line_taps
line_both top at step n w m size wn ww bn bw plus a c sc hs hn hw e =
    let x : bn ≡ size * weight_of n = rw (← sc.weight_before) hn in
    let y : bw ≡ size * weight_of w = rw (← sc.weight_after) hw in
    let hd : signed plus size ≡ difference_in a at step m = hs ∙ read_difference a at step m in
    put_as
    (ap₂ (λ (s t : List Store). s ++ t)
    (along_is top at step n size bn plus x a ∙ ap (λ (z : ℤ). before_taps top at step n z a) hd)
    (against_is top at step w size bw plus y a ∙ ap (λ (z : ℤ). after_taps top at step w z a) hd))
    e

-- of equal widths
pub line_equal : (top at step n w m size wn ww by : ℕ) (plus : Bool) (a c : List ℕ) {i k : ℕ} → n ≡ w → Scales n w m wn ww
    → signed plus size ≡ within m (difference (get_or a (at - step - step) 0) (get_or a (at - step) 0) (get_or a at 0) (get_or a (at + step) 0)) → by ≡ size * ww
    → Put (both_stores top at step w w plus by by a) a c i k → Put (line_taps top at step n w m a) a c i k
line_equal top at step n w m size wn ww by plus a c q sc hs hw e =
    let z : ww ≡ wn = sc.weight_after ∙ ap weight_of (sym q) ∙ sym sc.weight_before in
    line_both top at step n w m size wn ww by by plus a c sc hs (hw ∙ ap (λ (x : ℕ). size * x) z) hw (rw q e)

-- "how many samples were stored on a line"
pub line_stored : (top at step n w m : ℕ) (l : List ℕ) → n + w ≡ length (line_taps top at step n w m l)
unfolding line_taps
line_stored top at step n w m l =
    let d = difference_in l at step m in
    ap₂ (λ (x y : ℕ). x + y)
    (sym (singles_length (λ i. (p_at at step i, before top (get_or l (p_at at step i) 0) d n i)) n))
    (sym (singles_length (λ i. (q_at at step i, after top (get_or l (q_at at step i) 0) d w i)) w))
    ∙ sym (length-append (before_taps top at step n d l) (after_taps top at step w d l))

-- ---- one line more
pub as_long : (ss : List Store) (l : List ℕ) {q : List ℕ} {n : ℕ} → q ≡ puts ss l → length l ≡ n → length q ≡ n
as_long ss l e h = ap length e ∙ puts_length ss l ∙ h

taps_agree : (top at step n w m : ℕ) (l q : List ℕ) → ((k : ℕ) → k < max n 2 → get_or q (p_at at step k) 0 ≡ get_or l (p_at at step k) 0) → ((k : ℕ) → k < max w 2 → get_or q (q_at at step k) 0 ≡ get_or l (q_at at step k) 0)
    → line_taps top at step n w m q ≡ line_taps top at step n w m l
unfolding line_taps
taps_agree top at step n w m l q hp hq =
    let d : difference_in q at step m ≡ difference_in l at step m =
    rw (hp 1 (omega arith), hp 0 (omega arith), hq 0 (omega arith), hq 1 (omega arith)) in
    ap₂ (λ (x y : List Store). x ++ y)
    (each_same _ _ n (λ i h. ap₂ (λ (x : ℕ) (z : ℤ). (p_at at step i, before top x z n i) ∷ []) (hp i (omega arith)) d))
    (each_same _ _ w (λ i h. ap₂ (λ (x : ℕ) (z : ℤ). (q_at at step i, after top x z w i) ∷ []) (hq i (omega arith)) d))

none_stored : (f : ℕ → List Store) → 0 ≡ 0 + length (each 0 f)
unfolding each
none_stored f = omega arith

pub taps_none : (f : ℕ → List Store) (l : List ℕ) → Tapped (each 0 f) l none none l
taps_none f l = record { put = put_none f l 0; stored = none_stored f }

module _ (top at step line n w m : ℕ) (l : List ℕ) (r : Spread at step line (max n 2) (max w 2)) where
  abbrev taps : ℕ → List Store
  taps j = line_taps top (at + j * line) step n w m l

  -- the store of p_k and of q_k of line i
  abbrev one_p : ℕ → ℕ → List Store
  one_p i k = (p_at (at + i * line) step k, before top (get_or l (p_at (at + i * line) step k) 0) (difference_in l (at + i * line) step m) n k) ∷ []

  abbrev one_q : ℕ → ℕ → List Store
  one_q i k = (q_at (at + i * line) step k, after top (get_or l (q_at (at + i * line) step k) 0) (difference_in l (at + i * line) step m) w k) ∷ []

  -- lines before line j store nowhere on it
  none_before : (j k : ℕ) → j < 4 → k < max n 2 → Each (λ (st : Store). st.0 ≡ p_at (at + j * line) step k → ⊥) (each j taps)
  unfolding line_taps
  none_before j k hj hk =
      each_loop (λ (st : Store). st.0 ≡ p_at (at + j * line) step k → ⊥) j taps
      (λ i b. each_append (λ (st : Store). st.0 ≡ p_at (at + j * line) step k → ⊥) (each n (one_p i)) (each w (one_q i))
      (each_loop (λ (st : Store). st.0 ≡ p_at (at + j * line) step k → ⊥) n (one_p i) (λ p c. (λ z. absurd (let f = r.befores i p j k (omega arith) (omega arith) hj hk z in omega arith), tt)))
      (each_loop (λ (st : Store). st.0 ≡ p_at (at + j * line) step k → ⊥) w (one_q i) (λ p c. (λ z. r.across j k i p hj hk (omega arith) (omega arith) (sym z), tt))))

  none_after : (j k : ℕ) → j < 4 → k < max w 2 → Each (λ (st : Store). st.0 ≡ q_at (at + j * line) step k → ⊥) (each j taps)
  unfolding line_taps
  none_after j k hj hk =
      each_loop (λ (st : Store). st.0 ≡ q_at (at + j * line) step k → ⊥) j taps
      (λ i b. each_append (λ (st : Store). st.0 ≡ q_at (at + j * line) step k → ⊥) (each n (one_p i)) (each w (one_q i))
      (each_loop (λ (st : Store). st.0 ≡ q_at (at + j * line) step k → ⊥) n (one_p i) (λ p c. (λ z. r.across i p j k (omega arith) (omega arith) hj hk z, tt)))
      (each_loop (λ (st : Store). st.0 ≡ q_at (at + j * line) step k → ⊥) w (one_q i) (λ p c. (λ z. absurd (let f = r.afters i p j k (omega arith) (omega arith) hj hk z in omega arith), tt))))

  -- so that it is still as it was
  module _ (j : ℕ) (hj : j < 4) {q : List ℕ} (e : q ≡ puts (each j taps) l) where
    still_p : (k : ℕ) → k < max n 2 → get_or q (p_at (at + j * line) step k) 0 ≡ get_or l (p_at (at + j * line) step k) 0
    still_p k h = ap (λ (x : List ℕ). get_or x (p_at (at + j * line) step k) 0) e ∙ puts_other (each j taps) l (p_at (at + j * line) step k) (none_before j k hj h)

    still_q : (k : ℕ) → k < max w 2 → get_or q (q_at (at + j * line) step k) 0 ≡ get_or l (q_at (at + j * line) step k) 0
    still_q k h = ap (λ (x : List ℕ). get_or x (q_at (at + j * line) step k) 0) e ∙ puts_other (each j taps) l (q_at (at + j * line) step k) (none_after j k hj h)

    still_line : Each (λ (st : Store). get_or q st.0 0 ≡ get_or l st.0 0) (taps j)
    unfolding line_taps
    still_line =
        each_append (λ (st : Store). get_or q st.0 0 ≡ get_or l st.0 0) (each n (one_p j)) (each w (one_q j))
        (each_loop (λ (st : Store). get_or q st.0 0 ≡ get_or l st.0 0) n (one_p j) (λ k c. (still_p k (omega arith), tt)))
        (each_loop (λ (st : Store). get_or q st.0 0 ≡ get_or l st.0 0) w (one_q j) (λ k c. (still_q k (omega arith), tt)))

  -- one line more, whose q0 stands at h
  pub line_more : (j h : ℕ) {q c : List ℕ} {a b d : Counts} → j < 4 → h ≡ at + j * line → Tapped (each j taps) l a b q → Tapped (line_taps top h step n w m q) q b d c
      → Tapped (each (j + 1) taps) l a d c
  line_more j h {q} hj hh e g =
      let t : line_taps top h step n w m q ≡ taps j = ap (λ (x : ℕ). line_taps top x step n w m q) hh ∙ taps_agree top (at + j * line) step n w m l q (still_p j hj e.put.list) (still_q j hj e.put.list) in
      record {
        put = put_more taps l j e.put (put_as t g.put) (still_line j hj e.put.list);
        stored = omega (arith, e.stored, g.stored, ap length t, length_more taps j refl refl);
      }

-- ---- the next line's q0, which wraps at most beyond the last line
pub next_line : (at line j here : ℕ) {r : ℕ} → at + 3 * line < 18446744073709551616 → here ≡ at + j * line → r ≡ (here + line) % 18446744073709551616
    → j + 1 < 4 → r ≡ at + (j + 1) * line
next_line at line j here {r} h e g b =
    let m = line_in (j + 1) line b in
    let x : here + line ≡ at + (j + 1) * line = omega (arith, add-mul j 1 line) in
    g ∙ ap (λ (y : ℕ). y % 18446744073709551616) x ∙ mod-eq_of_lt (omega arith)
