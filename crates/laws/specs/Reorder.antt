-- A list in another order: which orders may be run in place of the first. `Lt a b` says that a stands before b in the first list,
-- and `accept` is the test that accepts exactly the orders that may. Assumes nothing.
use Rattle.std.specs.Prelude.{◌≡◌, refl, ◌⊎◌, Bool, true, false, not, ◌&&◌, ◌||◌, List, [], ◌∷◌, ◌++◌, ℕ, suc, ◌+◌, ◌≤◌, ◌<◌, T, eqb, ltb}
use Rattle.std.proofs.Common.{sym, ap, ◌∙◌, subst, inl, inr, not-suc-le-zero, arith, eqb→eq, ltb→lt, lt→ltb, T_not}
use Rattle.std.proofs.Math.Decide.{dec_le}
use Rattle.std.proofs.Math.Dec.{not_T}
use Rattle.laws.specs.Tests.{choose, and_l, and_r, and_i, bit, bit_yes, bit_no, eqb_of}
use Rattle.laws.specs.Lists.{Each, Some, each_map, each_both, each_append, each_left, each_right, AllPairs, all_pairs_map, all_pairs_both}
use Rattle.laws.specs.Trace.{Same, same, swap, after, and_then, same_eq, past, each_same}

one_of : (n : ℕ) → n ≡ 1 → T (eqb n 1)
one_of n e = eqb_of n 1 e tt

-- ---- permutations, pairs in order

module _ {E : Type 0} where
  -- ys has the elements of xs, each as often
  abbrev pub Perm : List E → List E → Type 0
  Perm [] ys = ys ≡ []
  Perm (x ∷ xs) ys = (us : List E) × (vs : List E) × (ys ≡ us ++ (x ∷ vs)) × Perm xs (us ++ vs)

  -- of two elements that are not independent the earlier stands first in the first list too
  abbrev pub InOrder : (E → E → Type 0) → (E → E → Type 0) → List E → Type 0
  InOrder Ind Lt ys = AllPairs (λ y z. Ind y z ⊎ Lt y z) ys

  each_insert : (P : E → Type 0) (us vs : List E) (x : E) → P x → Each P (us ++ vs) → Each P (us ++ (x ∷ vs))
  each_insert P us vs x p h = each_append P us (x ∷ vs) (each_left P us vs h) (p, each_right P us vs h)

  each_remove : (P : E → Type 0) (us vs : List E) (x : E) → Each P (us ++ (x ∷ vs)) → Each P (us ++ vs)
  each_remove P us vs x h = each_append P us vs (each_left P us (x ∷ vs) h) (each_right P us (x ∷ vs) h).1

  pub perm_each : (P : E → Type 0) (xs ys : List E) → Perm xs ys → Each P xs → Each P ys
  perm_each P [] ys p h = subst (λ (l : List E). Each P l) (sym p) tt
  perm_each P (x ∷ xs) ys p h =
      subst (λ (l : List E). Each P l) (sym p.2) (each_insert P p.0 p.1 x h.0 (perm_each P xs (p.0 ++ p.1) p.3 h.1))

  -- the pairs of a list that has x in the middle: those before it with it, and those of the rest
  pairs_before : (Q : E → E → Type 0) (us vs : List E) (x : E) → AllPairs Q (us ++ (x ∷ vs)) → Each (λ u. Q u x) us
  pairs_before Q [] vs x h = tt
  pairs_before Q (u ∷ us) vs x h = ((each_right (Q u) us (x ∷ vs) h.0).0, pairs_before Q us vs x h.1)

  pairs_rest : (Q : E → E → Type 0) (us vs : List E) (x : E) → AllPairs Q (us ++ (x ∷ vs)) → AllPairs Q (us ++ vs)
  pairs_rest Q [] vs x h = h.1
  pairs_rest Q (u ∷ us) vs x h = (each_remove (Q u) us vs x h.0, pairs_rest Q us vs x h.1)

  -- tests over a list
  abbrev pub allb : (E → Bool) → List E → Bool
  allb f [] = true
  allb f (x ∷ xs) = f x && allb f xs

  abbrev pub pairsb : (E → E → Bool) → List E → Bool
  pairsb f [] = true
  pairsb f (x ∷ xs) = allb (f x) xs && pairsb f xs

  of_allb : (f : E → Bool) (xs : List E) → T (allb f xs) → Each (λ x. T (f x)) xs
  of_allb f [] t = tt
  of_allb f (x ∷ xs) t = (and_l (f x) (allb f xs) t, of_allb f xs (and_r (f x) (allb f xs) t))

  to_allb : (f : E → Bool) (xs : List E) → Each (λ x. T (f x)) xs → T (allb f xs)
  to_allb f [] h = tt
  to_allb f (x ∷ xs) h = and_i (f x) (allb f xs) h.0 (to_allb f xs h.1)

  of_pairsb : (f : E → E → Bool) (xs : List E) → T (pairsb f xs) → AllPairs (λ x y. T (f x y)) xs
  of_pairsb f [] t = tt
  of_pairsb f (x ∷ xs) t = (of_allb (f x) xs (and_l (allb (f x) xs) (pairsb f xs) t), of_pairsb f xs (and_r (allb (f x) xs) (pairsb f xs) t))

  to_pairsb : (f : E → E → Bool) (xs : List E) → AllPairs (λ x y. T (f x y)) xs → T (pairsb f xs)
  to_pairsb f [] h = tt
  to_pairsb f (x ∷ xs) h = and_i (allb (f x) xs) (pairsb f xs) (to_allb (f x) xs h.0) (to_pairsb f xs h.1)

-- ---- an order that may be run, and the other way round

module _ {E : Type 0} (Ind Lt : E → E → Type 0) (turn : (a b : E) → Ind a b → Ind b a) (asym : (a b : E) → Lt a b → Lt b a → ⊥) where
  free : (x u : E) → (Ind u x ⊎ Lt u x) → Lt x u → Ind x u
  free x u (inl i) l = turn u x i
  free x u (inr k) l = absurd (asym u x k l)

  -- xs stands in the order, ys has the same elements, and each two of ys that conflict stand in the order
  pub reorder : (xs ys : List E) → AllPairs Lt xs → Perm xs ys → InOrder Ind Lt ys → Same Ind xs ys
  reorder [] ys s p o = same_eq (sym p)
  reorder (x ∷ xs) ys s p o =
      let us : List E = p.0 in
      let vs : List E = p.1 in
      let o' : InOrder Ind Lt (us ++ (x ∷ vs)) = subst (λ (l : List E). InOrder Ind Lt l) p.2 o in
      let later : Each (Lt x) us = each_left (Lt x) us vs (perm_each (Lt x) xs (us ++ vs) p.3 s.0) in
      let past_us : Each (Ind x) us = each_both (λ u. Ind u x ⊎ Lt u x) (Lt x) (Ind x) (free x) us (pairs_before (λ y z. Ind y z ⊎ Lt y z) us vs x o') later in
      and_then (after (reorder xs (us ++ vs) s.1 p.3 (pairs_rest (λ y z. Ind y z ⊎ Lt y z) us vs x o')))
      (and_then (past x us vs past_us) (same_eq (sym p.2)))

  -- a swap of independent neighbours takes no conflicting pair out of order
  pub still_in_order : {xs ys : List E} → Same Ind xs ys → InOrder Ind Lt xs → InOrder Ind Lt ys
  still_in_order same h = h
  still_in_order (swap {a = a} {b = b} t) h = ((inl (turn a b t), h.1.0), (h.0.1, h.1.1))
  still_in_order (after {a = a} t) h = (each_same (λ z. Ind a z ⊎ Lt a z) t h.0, still_in_order t h.1)
  still_in_order (and_then t u) h = still_in_order u (still_in_order t h)

-- ---- how often an element stands in a list: a permutation, by counts

abbrev pub skip : Bool → ℕ → ℕ
skip true n = 0
skip false n = suc n

module _ {E : Type 0} (eq : E → E → Bool) where
  abbrev pub count : E → List E → ℕ
  count a [] = 0
  count a (x ∷ xs) = bit (eq a x) + count a xs

  -- the place of an element in a list
  abbrev pub number : E → List E → ℕ
  number a [] = 0
  number a (x ∷ xs) = skip (eq a x) (number a xs)

  abbrev pub Distinct : List E → Type 0
  Distinct xs = AllPairs (λ a b. T (not (eq a b))) xs

-- ---- the test of an order, over what it uses: a statement that names it carries no proofs

module _ {E : Type 0} (eq : E → E → Bool) (conflict : E → E → Bool) where
  -- none is missing or repeated; none is wrong; no pair is out of order
  abbrev pub onceb : List E → List E → Bool
  onceb xs ys = allb (λ x. eqb (count eq x ys) 1) xs

  abbrev pub knownb : List E → List E → Bool
  knownb xs ys = allb (λ y. eqb (count eq y xs) 1) ys

  abbrev pub orderb : List E → List E → Bool
  orderb xs ys = pairsb (λ y z. not (conflict y z) || ltb (number eq y xs) (number eq z xs)) ys

  abbrev pub accept : List E → List E → Bool
  accept xs ys = onceb xs ys && (knownb xs ys && orderb xs ys)

  -- each element of xs stands in ys as often as there, and no other; two that conflict stand in the order of xs
  pub record Accepted (xs : List E) (ys : List E) : Type 0 where
    pub once : (a : E) → count eq a ys ≡ count eq a xs
    pub ordered : AllPairs (λ y z. T (conflict y z) → number eq y xs < number eq z xs) ys

module _ {E : Type 0} (eq : E → E → Bool) where
  pub count_append : (a : E) (xs ys : List E) → count eq a (xs ++ ys) ≡ count eq a xs + count eq a ys
  count_append a [] ys = omega arith
  count_append a (x ∷ xs) ys = omega (arith, count_append a xs ys)

  pub count_same : {Ind : E → E → Type 0} (a : E) {xs ys : List E} → Same Ind xs ys → count eq a xs ≡ count eq a ys
  count_same a same = refl
  count_same a (swap t) = omega arith
  count_same a (after {a = b} t) = ap (λ (n : ℕ). bit (eq a b) + n) (count_same a t)
  count_same a (and_then t u) = count_same a t ∙ count_same a u

  module _ (eq_is : (a b : E) → T (eq a b) → a ≡ b) (eq_self : (a : E) → T (eq a a)) where
    -- an element that is counted can be taken out
    pub take_out : (x : E) (ys : List E) → 0 < count eq x ys → (us : List E) × (vs : List E) × (ys ≡ us ++ (x ∷ vs))
    take_out x [] h = absurd (not-suc-le-zero h)
    take_out x (y ∷ ys) h = go (eq x y) (eq_is x y) h (take_out x ys)
      where
        go : (b : Bool) → (T b → x ≡ y) → 0 < bit b + count eq x ys → (0 < count eq x ys → (us : List E) × (vs : List E) × (ys ≡ us ++ (x ∷ vs)))
            → (us : List E) × (vs : List E) × (y ∷ ys ≡ us ++ (x ∷ vs))
        go true e k r = ([], ys, ap (λ (z : E). z ∷ ys) (sym (e tt)))
        go false e k r = let q = r (omega arith) in (y ∷ q.0, q.1, ap (λ (l : List E). y ∷ l) q.2)

    pub perm_of_count : (xs ys : List E) → ((a : E) → count eq a xs ≡ count eq a ys) → Perm xs ys
    perm_of_count [] [] h = refl
    perm_of_count [] (y ∷ ys) h = absurd (let z : count eq y [] ≡ bit (eq y y) + count eq y ys = h y in omega (arith, bit_yes (eq y y) (eq_self y)))
    perm_of_count (x ∷ xs) ys h =
        let q = take_out x ys (omega (arith, h x, bit_yes (eq x x) (eq_self x))) in (
          q.0,
          q.1,
          q.2,
          perm_of_count xs (q.0 ++ q.1)
              (λ a. omega (arith, h a, ap (count eq a) q.2, count_append a q.0 (x ∷ q.1), count_append a q.0 q.1)),
        )

    pub count_of_perm : (a : E) (xs ys : List E) → Perm xs ys → count eq a xs ≡ count eq a ys
    count_of_perm a [] ys p = ap (count eq a) (sym p)
    count_of_perm a (x ∷ xs) ys p =
        omega (arith, count_of_perm a xs (p.0 ++ p.1) p.3, ap (count eq a) p.2, count_append a p.0 (x ∷ p.1), count_append a p.0 p.1)

    pub each_counted : (P : E → Type 0) (xs : List E) → Each P xs → (a : E) → 0 < count eq a xs → P a
    each_counted P xs h a k =
        let q = take_out a xs k in
        (each_right P q.0 (a ∷ q.1) (subst (λ (l : List E). Each P l) q.2 h)).0

    pub counted_each : (P : E → Type 0) (xs : List E) → ((a : E) → 0 < count eq a xs → P a) → Each P xs
    counted_each P [] f = tt
    counted_each P (x ∷ xs) f = (f x (omega (arith, bit_yes (eq x x) (eq_self x))), counted_each P xs (λ a k. f a (omega arith)))

    pub some_counted : (a : E) (xs : List E) → Some (λ x. x ≡ a) xs → 0 < count eq a xs
    some_counted a [] h = absurd h
    some_counted a (x ∷ xs) (inl q) = let b : bit (eq a x) ≡ 1 = bit_yes (eq a x) (subst (λ (y : E). T (eq a y)) (sym q) (eq_self a)) in omega arith
    some_counted a (x ∷ xs) (inr h) = omega (arith, some_counted a xs h)

    skip_no : (b : Bool) (n : ℕ) → T (not b) → skip b n ≡ suc n
    skip_no true n t = absurd t
    skip_no false n t = refl

    skip_yes : (b : Bool) (n : ℕ) → T b → skip b n ≡ 0
    skip_yes true n t = refl
    skip_yes false n t = absurd t

    eq_turn : (a b : E) → T (not (eq a b)) → T (not (eq b a))
    eq_turn a b n = not_T (eq b a) (λ t. T_not (eq a b) n (subst (λ (z : E). T (eq a z)) (sym (eq_is b a t)) (eq_self a)))

    -- a list of distinct elements stands in the order of its numbers
    pub numbered : (xs : List E) → Distinct eq xs → AllPairs (λ a b. number eq a xs < number eq b xs) xs
    numbered [] d = tt
    numbered (x ∷ xs) d = (
      each_map (λ b. T (not (eq x b))) (λ b. number eq x (x ∷ xs) < number eq b (x ∷ xs))
          (λ b n. omega (arith, skip_yes (eq x x) (number eq x xs) (eq_self x), skip_no (eq b x) (number eq b xs) (eq_turn x b n))) xs d.0,
      all_pairs_both (λ a b. number eq a xs < number eq b xs) (λ b. T (not (eq x b))) (λ a b. number eq a (x ∷ xs) < number eq b (x ∷ xs))
          (λ a b p q l. omega (arith, skip_no (eq a x) (number eq a xs) (eq_turn x a p), skip_no (eq b x) (number eq b xs) (eq_turn x b q))) xs (numbered xs d.1) d.0,
    )

    count_none : (a : E) (xs : List E) → Each (λ b. T (not (eq a b))) xs → count eq a xs ≡ 0
    count_none a [] h = refl
    count_none a (x ∷ xs) h = omega (arith, bit_no (eq a x) h.0, count_none a xs h.1)

    pub count_distinct : (xs : List E) → Distinct eq xs → (a : E) → 0 < count eq a xs → count eq a xs ≡ 1
    count_distinct [] d a k = absurd (not-suc-le-zero k)
    count_distinct (x ∷ xs) d a k = choose (eq a x)
        (λ t. omega (arith, bit_yes (eq a x) t, count_none a xs (subst (λ (z : E). Each (λ b. T (not (eq z b))) xs) (sym (eq_is a x t)) d.0)))
        (λ n. let z : bit (eq a x) ≡ 0 = bit_no (eq a x) n in omega (arith, count_distinct xs d.1 a (omega arith)))

    -- ---- the test accepts exactly the orders that may be run

    module _ (conflict : E → E → Bool) (conflict_turn : (a b : E) → T (conflict a b) → T (conflict b a)) where
      abbrev pub Apart : E → E → Type 0
      Apart a b = T (not (conflict a b))

      free_turn : (a b : E) → Apart a b → Apart b a
      free_turn a b n = not_T (conflict b a) (λ t. T_not (conflict a b) n (conflict_turn b a t))

      abbrev Less : List E → E → E → Type 0
      Less xs a b = number eq a xs < number eq b xs

      -- the pair test says what it should
      either : (xs : List E) (y z : E) → (T (conflict y z) → Less xs y z) → Apart y z ⊎ Less xs y z
      either xs y z f = choose (conflict y z) (λ t. inr (f t)) (λ n. inl n)

      test_of : (c : Bool) (m n : ℕ) → (T c → m < n) → T (not c || ltb m n)
      test_of true m n f = lt→ltb m n (f tt)
      test_of false m n f = tt

      of_test : (c : Bool) (m n : ℕ) → T (not c || ltb m n) → T c → m < n
      of_test true m n t c = ltb→lt m n t
      of_test false m n t c = absurd c

      pub accepted_same : (xs ys : List E) → Distinct eq xs → Accepted eq conflict xs ys → Same Apart xs ys
      accepted_same xs ys d a =
          reorder Apart (Less xs) free_turn (λ p q l k. omega arith) xs ys (numbered xs d) (perm_of_count xs ys (λ e. sym (a.once e)))
          (all_pairs_map (λ y z. T (conflict y z) → Less xs y z) (λ y z. Apart y z ⊎ Less xs y z) (either xs) ys a.ordered)

      of_either : (xs : List E) (y z : E) → Apart y z ⊎ Less xs y z → T (conflict y z) → Less xs y z
      of_either xs y z (inl n) t = absurd (T_not (conflict y z) n t)
      of_either xs y z (inr l) t = l

      pub same_accepted : (xs ys : List E) → Distinct eq xs → Same Apart xs ys → Accepted eq conflict xs ys
      same_accepted xs ys d s = record {
        once = λ a. sym (count_same a s);
        ordered = all_pairs_map (λ y z. Apart y z ⊎ Less xs y z) (λ y z. T (conflict y z) → Less xs y z) (of_either xs) ys
            (still_in_order Apart (Less xs) free_turn (λ p q l k. omega arith) s
            (all_pairs_map (Less xs) (λ y z. Apart y z ⊎ Less xs y z) (λ y z l. inr l) xs (numbered xs d)));
      }

      -- the test, one way
      pub accept_means : (xs ys : List E) → T (accept eq conflict xs ys) → Accepted eq conflict xs ys
      accept_means xs ys t =
          let r : T (knownb eq conflict xs ys && orderb eq conflict xs ys) = and_r (onceb eq conflict xs ys) (knownb eq conflict xs ys && orderb eq conflict xs ys) t in
          let t₁ : Each (λ x. T (eqb (count eq x ys) 1)) xs = of_allb (λ x. eqb (count eq x ys) 1) xs (and_l (onceb eq conflict xs ys) (knownb eq conflict xs ys && orderb eq conflict xs ys) t) in
          let t₂ : Each (λ y. T (eqb (count eq y xs) 1)) ys = of_allb (λ y. eqb (count eq y xs) 1) ys (and_l (knownb eq conflict xs ys) (orderb eq conflict xs ys) r) in
          record {
            once = λ a. cases a t₁ t₂;
            ordered = all_pairs_map (λ y z. T (not (conflict y z) || ltb (number eq y xs) (number eq z xs))) (λ y z. T (conflict y z) → number eq y xs < number eq z xs)
                (λ y z. of_test (conflict y z) (number eq y xs) (number eq z xs)) ys
                (of_pairsb (λ y z. not (conflict y z) || ltb (number eq y xs) (number eq z xs)) ys (and_r (knownb eq conflict xs ys) (orderb eq conflict xs ys) r));
          }
        where
          cases : (a : E) → Each (λ x. T (eqb (count eq x ys) 1)) xs → Each (λ y. T (eqb (count eq y xs) 1)) ys → count eq a ys ≡ count eq a xs
          cases a t₁ t₂ = elim (dec_le 1 (count eq a xs)) [
            | yes h ↦ let e : count eq a ys ≡ 1 = eqb→eq (count eq a ys) 1 (each_counted (λ x. T (eqb (count eq x ys) 1)) xs t₁ a h) in
                e ∙ sym (eqb→eq (count eq a xs) 1 (each_counted (λ y. T (eqb (count eq y xs) 1)) ys t₂ a (omega arith)))
            | no h ↦ elim (dec_le 1 (count eq a ys)) [
              | yes k ↦ absurd (h (let e : count eq a xs ≡ 1 = eqb→eq (count eq a xs) 1 (each_counted (λ y. T (eqb (count eq y xs) 1)) ys t₂ a k) in omega arith))
              | no k ↦ omega arith
            ]
          ]

      -- and the other
      pub accept_holds : (xs ys : List E) → Distinct eq xs → Accepted eq conflict xs ys → T (accept eq conflict xs ys)
      accept_holds xs ys d a =
          and_i (onceb eq conflict xs ys) (knownb eq conflict xs ys && orderb eq conflict xs ys) (to_allb (λ x. eqb (count eq x ys) 1) xs (counted_each (λ x. T (eqb (count eq x ys) 1)) xs (λ e k. one_of (count eq e ys) (a.once e ∙ count_distinct xs d e k))))
          (and_i (knownb eq conflict xs ys) (orderb eq conflict xs ys) (to_allb (λ y. eqb (count eq y xs) 1) ys (counted_each (λ y. T (eqb (count eq y xs) 1)) ys (λ e k. one_of (count eq e xs) (count_distinct xs d e (omega (arith, a.once e))))))
          (to_pairsb (λ y z. not (conflict y z) || ltb (number eq y xs) (number eq z xs)) ys
          (all_pairs_map (λ y z. T (conflict y z) → number eq y xs < number eq z xs) (λ y z. T (not (conflict y z) || ltb (number eq y xs) (number eq z xs)))
          (λ y z. test_of (conflict y z) (number eq y xs) (number eq z xs)) ys a.ordered)))

      -- the same as four refusals that are not given: wrong, repeated, missing, out of order
      pub record NoRefusal (xs : List E) (ys : List E) : Type 0 where
        pub no_wrong : Each (λ y. 0 < count eq y xs) ys
        pub no_repeat : Distinct eq ys
        pub no_missing : Each (λ x. 0 < count eq x ys) xs
        pub no_swap : AllPairs (λ y z. T (conflict y z) → number eq y xs < number eq z xs) ys

      pub accepted_unrefused : (xs ys : List E) → Distinct eq xs → NoRefusal xs ys → Accepted eq conflict xs ys
      accepted_unrefused xs ys d r = record { once = λ a. cases a; ordered = r.no_swap }
        where
          cases : (a : E) → count eq a ys ≡ count eq a xs
          cases a = elim (dec_le 1 (count eq a xs)) [
            | yes h ↦ count_distinct ys r.no_repeat a (each_counted (λ x. 0 < count eq x ys) xs r.no_missing a h) ∙ sym (count_distinct xs d a h)
            | no h ↦ elim (dec_le 1 (count eq a ys)) [
              | yes k ↦ absurd (h (each_counted (λ y. 0 < count eq y xs) ys r.no_wrong a k))
              | no k ↦ omega arith
            ]
          ]

      -- a list whose counts are at most 1 has distinct elements
      distinct_of_count : (ys : List E) → ((a : E) → count eq a ys ≤ 1) → Distinct eq ys
      distinct_of_count [] h = tt
      distinct_of_count (y ∷ ys) h = (
        counted_each (λ b. T (not (eq y b))) ys
            (λ b k. not_T (eq y b) (λ t. let z : bit (eq b y) ≡ 1 = bit_yes (eq b y) (subst (λ (c : E). T (eq c y)) (eq_is y b t) (eq_self y)) in omega (arith, h b))),
        distinct_of_count ys (λ a. omega (arith, h a)),
      )

      count_most_one : (xs : List E) → Distinct eq xs → (a : E) → count eq a xs ≤ 1
      count_most_one xs d a = elim (dec_le 1 (count eq a xs)) [ yes h ↦ omega (arith, count_distinct xs d a h) | no h ↦ omega arith ]

      pub unrefused_accepted : (xs ys : List E) → Distinct eq xs → Accepted eq conflict xs ys → NoRefusal xs ys
      unrefused_accepted xs ys d a = record {
        no_wrong = counted_each (λ y. 0 < count eq y xs) ys (λ e k. omega (arith, a.once e));
        no_repeat = distinct_of_count ys (λ e. omega (arith, a.once e, count_most_one xs d e));
        no_missing = counted_each (λ x. 0 < count eq x ys) xs (λ e k. omega (arith, a.once e));
        no_swap = a.ordered;
      }
