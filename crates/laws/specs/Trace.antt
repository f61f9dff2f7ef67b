-- Runs of operations, up to the order of independent neighbours. `Ind a b` says that a and b may be swapped, and `Same Ind xs ys`
-- that ys comes from xs by such swaps: where swapped operations commute, both runs leave the same state and the same counts.
-- Assumes nothing.
use Rattle.std.specs.Prelude.{◌≡◌, List, [], ◌∷◌, ◌++◌, ℕ, suc, ◌+◌, ◌≤◌, length}
use Rattle.std.proofs.Math.Path.{refl, ap}
use Rattle.std.proofs.Common.{sym, ◌∙◌, subst, append_assoc, append-nil, add-one, le_antisymm, arith}
use Rattle.laws.specs.Loops.{each}
use Rattle.laws.specs.Lists.{Each, Pairs}

-- ---- lists that differ in the order of independent neighbours

pub data Same {E : Type 0} (Ind : E → E → Type 0) : List E → List E → Type 0 where
  same : {xs : List E} → Same Ind xs xs
  swap : {a b : E} {xs : List E} → Ind a b → Same Ind (a ∷ b ∷ xs) (b ∷ a ∷ xs)
  after : {a : E} {xs ys : List E} → Same Ind xs ys → Same Ind (a ∷ xs) (a ∷ ys)
  and_then : {xs ys zs : List E} → Same Ind xs ys → Same Ind ys zs → Same Ind xs zs

module _ {E : Type 0} {Ind : E → E → Type 0} where
  pub same_eq : {xs ys : List E} → xs ≡ ys → Same Ind xs ys
  same_eq {xs} e = subst (λ (l : List E). Same Ind xs l) e same

  pub prefix : (zs : List E) {xs ys : List E} → Same Ind xs ys → Same Ind (zs ++ xs) (zs ++ ys)
  prefix [] s = s
  prefix (z ∷ zs) s = after (prefix zs s)

  pub suffix : (zs : List E) {xs ys : List E} → Same Ind xs ys → Same Ind (xs ++ zs) (ys ++ zs)
  suffix zs same = same
  suffix zs (swap h) = swap h
  suffix zs (after s) = after (suffix zs s)
  suffix zs (and_then s t) = and_then (suffix zs s) (suffix zs t)

  pub beside : {xs ys us vs : List E} → Same Ind xs ys → Same Ind us vs → Same Ind (xs ++ us) (ys ++ vs)
  beside {ys = ys} {us = us} s t = and_then (suffix us s) (prefix ys t)

  pub back : ((a b : E) → Ind a b → Ind b a) → {xs ys : List E} → Same Ind xs ys → Same Ind ys xs
  back turn same = same
  back turn (swap {a = a} {b = b} h) = swap (turn a b h)
  back turn (after s) = after (back turn s)
  back turn (and_then s t) = and_then (back turn t) (back turn s)

  pub each_same : (P : E → Type 0) {xs ys : List E} → Same Ind xs ys → Each P xs → Each P ys
  each_same P same h = h
  each_same P (swap t) h = (h.1.0, (h.0, h.1.1))
  each_same P (after t) h = (h.0, each_same P t h.1)
  each_same P (and_then t u) h = each_same P u (each_same P t h)

  pub length_same : {xs ys : List E} → Same Ind xs ys → length xs ≡ length ys
  length_same same = refl
  length_same (swap t) = refl
  length_same (after t) = ap suc (length_same t)
  length_same (and_then t u) = length_same t ∙ length_same u

  -- one operation past a block
  pub past : (x : E) (ys zs : List E) → Each (Ind x) ys → Same Ind (x ∷ (ys ++ zs)) (ys ++ (x ∷ zs))
  past x [] zs h = same
  past x (y ∷ ys) zs h = and_then (swap h.0) (after (past x ys zs h.1))

  -- a block past a block
  pub blocks : (xs ys : List E) → Pairs Ind xs ys → Same Ind (xs ++ ys) (ys ++ xs)
  blocks [] ys h = same_eq (sym (append-nil ys))
  blocks (x ∷ xs) ys h = and_then (after (blocks xs ys h.1)) (past x ys xs h.0)

  -- the two middle ones of four blocks
  pub middle : (us bs cs ds : List E) → Pairs Ind bs cs → Same Ind ((us ++ bs) ++ (cs ++ ds)) ((us ++ cs) ++ (bs ++ ds))
  middle us bs cs ds h =
      and_then (same_eq (append_assoc us bs (cs ++ ds) ∙ ap (λ (l : List E). us ++ l) (sym (append_assoc bs cs ds))))
      (and_then (prefix us (suffix ds (blocks bs cs h)))
      (same_eq (ap (λ (l : List E). us ++ l) (append_assoc cs bs ds) ∙ sym (append_assoc us cs (bs ++ ds)))))

-- ---- what a run does to a state

module _ {E S : Type 0} (step : E → S → S) where
  abbrev pub run : List E → S → S
  run [] s = s
  run (e ∷ es) s = run es (step e s)

  pub run_append : (xs ys : List E) (s : S) → run (xs ++ ys) s ≡ run ys (run xs s)
  run_append [] ys s = refl
  run_append (x ∷ xs) ys s = run_append xs ys (step x s)

  -- a loop's turns, and one list after another: what the code's invariant needs
  pub run_then : (xs ys : List E) (s : S) {t u : S} → t ≡ run xs s → u ≡ run ys t → u ≡ run (xs ++ ys) s
  run_then xs ys s e g = g ∙ ap (run ys) e ∙ sym (run_append xs ys s)

  pub run_none : (f : ℕ → List E) (s : S) → s ≡ run (each 0 f) s
  unfolding each
  run_none f s = refl

  pub run_more : (f : ℕ → List E) (n : ℕ) (s : S) {t u : S} → t ≡ run (each n f) s → u ≡ run (f n) t → u ≡ run (each (n + 1) f) s
  unfolding each
  run_more f n s e g = run_then (each n f) (f n) s e g ∙ ap (λ (k : ℕ). run (each k f) s) (sym (add-one n))

  pub run_end : (f : ℕ → List E) (k n : ℕ) (s : S) {t : S} → t ≡ run (each k f) s → k ≤ n → n ≤ k → t ≡ run (each n f) s
  run_end f k n s e a b = e ∙ ap (λ (j : ℕ). run (each j f) s) (le_antisymm a b)

  -- what every operation keeps
  pub run_keep : (P : S → Type 0) (Good : E → Type 0) → ((e : E) (s : S) → Good e → P s → P (step e s)) → (xs : List E) → Each Good xs → (s : S) → P s → P (run xs s)
  run_keep P Good h [] g s p = p
  run_keep P Good h (x ∷ xs) g s p = run_keep P Good h xs g.1 (step x s) (h x s g.0 p)

  -- independent operations that are Good commute
  abbrev pub Commutes : (E → Type 0) → (E → E → Type 0) → Type 0
  Commutes Good Ind = (a b : E) → Good a → Good b → Ind a b → (s : S) → step b (step a s) ≡ step a (step b s)

  -- the same run
  pub sound : (Good : E → Type 0) {Ind : E → E → Type 0} → Commutes Good Ind
      → {xs ys : List E} → Same Ind xs ys → Each Good xs → (s : S) → run xs s ≡ run ys s
  sound Good c same g s = refl
  sound Good c (swap {a = a} {b = b} {xs = xs} h) g s = ap (run xs) (c a b g.0 g.1.0 h s)
  sound Good c (after {a = a} t) g s = sound Good c t g.1 (step a s)
  sound Good c (and_then t u) g s = sound Good c t g s ∙ sound Good c u (each_same Good t g) s

  -- a number for each operation, summed over the run: counts
  module _ (cost : E → S → ℕ) where
    abbrev pub total : List E → S → ℕ
    total [] s = 0
    total (e ∷ es) s = cost e s + total es (step e s)

    pub total_append : (xs ys : List E) (s : S) → total (xs ++ ys) s ≡ total xs s + total ys (run xs s)
    total_append [] ys s = omega arith
    total_append (x ∷ xs) ys s = omega (arith, total_append xs ys (step x s))

    -- an operation's number does not change when an independent one runs before it
    abbrev pub Quiet : (E → Type 0) → (E → E → Type 0) → Type 0
    Quiet Good Ind = (a b : E) → Good a → Good b → Ind a b → (s : S) → cost b (step a s) ≡ cost b s

    pub total_same : (Good : E → Type 0) {Ind : E → E → Type 0} → ((a b : E) → Ind a b → Ind b a) → Commutes Good Ind → Quiet Good Ind
        → {xs ys : List E} → Same Ind xs ys → Each Good xs → (s : S) → total xs s ≡ total ys s
    total_same Good turn c q same g s = refl
    total_same Good turn c q (swap {a = a} {b = b} {xs = xs} h) g s =
        let e : total xs (step b (step a s)) ≡ total xs (step a (step b s)) = ap (total xs) (c a b g.0 g.1.0 h s) in
        omega (arith, q a b g.0 g.1.0 h s, q b a g.1.0 g.0 (turn a b h) s)
    total_same Good turn c q (after {a = a} t) g s = ap (λ (n : ℕ). cost a s + n) (total_same Good turn c q t g.1 (step a s))
    total_same Good turn c q (and_then t u) g s = total_same Good turn c q t g s ∙ total_same Good turn c q u (each_same Good t g) s
