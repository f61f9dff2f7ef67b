-- Exactly when: a chain of checks in document 01's order gives each number exactly when its test fails and all before it hold, and accepts exactly when all hold.
-- Assumes nothing.
use mathlib.Core.Path.{◌≡◌, refl, sym, ap, ◌∙◌, subst}
use mathlib.Core.Logic.{◌⊎◌, inl, inr, ⊎_elim, ◌↔◌}
use mathlib.Core.Bool.{Bool, true, false, ◌&&◌}
use mathlib.Core.List.{List, [], ◌∷◌, ◌++◌}
use Prim.Native.Nat.{ℕ, zero, suc, ◌+◌, ◌≤◌, ◌<◌}
use native.Mathlib.Omega.{arith}
use borrow.Author.Tests.{ltb-true}
use Rattle.rules.specs.declared.refusals.Refusal.{Refusal}
use Rattle.rules.specs.Refusals.{Answer}
use Rattle.std.specs.declared.result.Result.TheVariants.{Ok, Err}
use Rattle.std.specs.declared.option.Option.{Option}
use Rattle.std.specs.declared.option.Option.TheVariants.{Some, None}
use Rattle.rules.specs.Refusals.{number_of, place_refused, or_else, unless, found, only_if}
use Rattle.checks.specs.Exactly.{Test, ask, seek, seek_any, and_then, asked_if, Holds, Fails, answer_of, Check, check, refusal_of, chain, turn_of, has_place, placed, in_order, Given, Each, Exactly, Among}
use Rattle.checks.proofs.Checks.{refused_not}

-- ---- one test

-- it holds, or fails at some place
outcome : (t : Test) → Holds t ⊎ ((p : ℕ) × Fails t p)
outcome (ask true) = inl refl
outcome (ask false) = inr (0, (refl, refl))
outcome (seek (Some k)) = inr (k, refl)
outcome (seek None) = inl refl
outcome (seek_any (Some k)) = inr (0, ((k, refl), refl))
outcome (seek_any None) = inl refl
outcome (and_then s t) =
    ⊎_elim
    (λ h. ⊎_elim (λ i. inl (h, i)) (λ f. inr (f.0, inr (h, f.1))) (outcome t))
    (λ f. inr (f.0, inl f.1))
    (outcome s)
outcome (asked_if true t) = ⊎_elim (λ h. inl (λ e. h)) (λ f. inr (f.0, (refl, f.1))) (outcome t)
outcome (asked_if false t) = inl (λ e. absurd (let z : ◌≡◌ {A = ℕ} 0 1 = cc in omega arith))

module _ (r : ℕ → Refusal) where
  held : (t : Test) → Holds t → answer_of r t ≡ Ok tt
  unfolding unless found or_else only_if
  held (ask b) h = rw h
  held (seek f) h = rw h
  held (seek_any f) h = rw h
  held (and_then s t) h = rw (held s h.0) (held t h.1)
  held (asked_if true t) h = held t (h refl)
  held (asked_if false t) h = refl

  failed : (t : Test) (p : ℕ) → Fails t p → answer_of r t ≡ Err (r p)
  unfolding unless found or_else only_if
  failed (ask b) p h = rw (h.0, h.1)
  failed (seek f) p h = rw h
  failed (seek_any f) p h = rw (h.0.1, h.1)
  failed (and_then s t) p h =
      ⊎_elim (λ f. rw (failed s p f)) (λ g. rw (held s g.0) (failed t p g.1)) h
  failed (asked_if b t) p h = rw h.0 (failed t p h.1)

-- ---- numbers and places of the table

number_is : (n k p : ℕ) → n < turn_of k → number_of (refusal_of k p) ≡ k
number_is n zero p l = absurd (omega arith)
number_is n (suc zero) p l = refl
number_is n (suc (suc zero)) p l = refl
number_is n (suc (suc (suc zero))) p l = refl
number_is n (suc (suc (suc (suc zero)))) p l = refl
number_is n (suc (suc (suc (suc (suc zero))))) p l = refl
number_is n (suc (suc (suc (suc (suc (suc zero)))))) p l = refl
number_is n (suc (suc (suc (suc (suc (suc (suc zero))))))) p l = refl
number_is n (suc (suc (suc (suc (suc (suc (suc (suc zero)))))))) p l = refl
number_is n (suc (suc (suc (suc (suc (suc (suc (suc (suc zero))))))))) p l = refl
number_is n (suc (suc (suc (suc (suc (suc (suc (suc (suc (suc zero)))))))))) p l = refl
number_is n (suc (suc (suc (suc (suc (suc (suc (suc (suc (suc (suc zero))))))))))) p l = refl
number_is n (suc (suc (suc (suc (suc (suc (suc (suc (suc (suc (suc (suc zero)))))))))))) p l = refl
number_is n (suc (suc (suc (suc (suc (suc (suc (suc (suc (suc (suc (suc (suc zero))))))))))))) p l = refl
number_is n (suc (suc (suc (suc (suc (suc (suc (suc (suc (suc (suc (suc (suc (suc zero)))))))))))))) p l = refl
number_is n (suc (suc (suc (suc (suc (suc (suc (suc (suc (suc (suc (suc (suc (suc (suc zero))))))))))))))) p l = refl
number_is n (suc (suc (suc (suc (suc (suc (suc (suc (suc (suc (suc (suc (suc (suc (suc (suc k)))))))))))))))) p l = absurd (omega arith)

no_place : {X : Type 0} → false ≡ true → X
no_place e = absurd (let z : ◌≡◌ {A = ℕ} 0 1 = cc in omega arith)

-- the place reported is p where the number has one, and else 0
place_is : (n k p : ℕ) → n < turn_of k → (has_place k ≡ true) ⊎ (p ≡ 0) → place_refused (refusal_of k p) ≡ p
place_is n zero p l h = absurd (omega arith)
place_is n (suc zero) p l h = ⊎_elim no_place sym h
place_is n (suc (suc zero)) p l h = ⊎_elim no_place sym h
place_is n (suc (suc (suc zero))) p l h = ⊎_elim no_place sym h
place_is n (suc (suc (suc (suc zero)))) p l h = refl
place_is n (suc (suc (suc (suc (suc zero))))) p l h = ⊎_elim no_place sym h
place_is n (suc (suc (suc (suc (suc (suc zero)))))) p l h = refl
place_is n (suc (suc (suc (suc (suc (suc (suc zero))))))) p l h = refl
place_is n (suc (suc (suc (suc (suc (suc (suc (suc zero)))))))) p l h = refl
place_is n (suc (suc (suc (suc (suc (suc (suc (suc (suc zero))))))))) p l h = refl
place_is n (suc (suc (suc (suc (suc (suc (suc (suc (suc (suc zero)))))))))) p l h = ⊎_elim no_place sym h
place_is n (suc (suc (suc (suc (suc (suc (suc (suc (suc (suc (suc zero))))))))))) p l h = ⊎_elim no_place sym h
place_is n (suc (suc (suc (suc (suc (suc (suc (suc (suc (suc (suc (suc zero)))))))))))) p l h = refl
place_is n (suc (suc (suc (suc (suc (suc (suc (suc (suc (suc (suc (suc (suc zero))))))))))))) p l h = refl
place_is n (suc (suc (suc (suc (suc (suc (suc (suc (suc (suc (suc (suc (suc (suc zero)))))))))))))) p l h = ⊎_elim no_place sym h
place_is n (suc (suc (suc (suc (suc (suc (suc (suc (suc (suc (suc (suc (suc (suc (suc zero))))))))))))))) p l h = ⊎_elim no_place sym h
place_is n (suc (suc (suc (suc (suc (suc (suc (suc (suc (suc (suc (suc (suc (suc (suc (suc k)))))))))))))))) p l h = absurd (omega arith)

and_parts : (a b : Bool) → (a && b) ≡ true → (a ≡ true) × (b ≡ true)
and_parts true b e = (refl, e)
and_parts false b e = no_place e

-- a test that fails reports its own place, or 0
place_of : (k : ℕ) (t : Test) (p : ℕ) → placed k t ≡ true → Fails t p → (has_place k ≡ true) ⊎ (p ≡ 0)
place_of k (ask b) p e f = inr f.1
place_of k (seek g) p e f = inl e
place_of k (seek_any g) p e f = inr f.1
place_of k (and_then s t) p e f =
    let b = and_parts _ _ e in ⊎_elim (λ g. place_of k s p b.0 g) (λ g. place_of k t p b.1 g.1) f
place_of k (asked_if b t) p e f = place_of k t p e f.1

-- ---- a chain

else_accepted : (a : Answer) → a ≡ or_else a (Ok tt)
unfolding or_else
else_accepted (Ok tt) = refl
else_accepted (Err r) = refl

module _ (c : Check) where
  chain_more : (cs : List Check) → chain (c ∷ cs) ≡ or_else (answer_of (refusal_of c.number) c.test) (chain cs)
  chain_more [] = else_accepted (answer_of (refusal_of c.number) c.test)
  chain_more (d ∷ cs) = refl

  goes_on_holds : (cs : List Check) → Holds c.test → chain (c ∷ cs) ≡ chain cs
  unfolding or_else
  goes_on_holds cs h = chain_more cs ∙ rw (held (refusal_of c.number) c.test h)

  stops : (cs : List Check) (p : ℕ) → Fails c.test p → chain (c ∷ cs) ≡ Err (refusal_of c.number p)
  unfolding or_else
  stops cs p f = chain_more cs ∙ rw (failed (refusal_of c.number) c.test p f)

-- one chain after another
pub else_joined : (a b c : Answer) → or_else (or_else a b) c ≡ or_else a (or_else b c)
unfolding or_else
else_joined (Ok tt) b c = refl
else_joined (Err r) b c = refl

pub chain_joined : (c : Check) (cs ds : List Check) → or_else (chain (c ∷ cs)) (chain ds) ≡ chain (c ∷ cs ++ ds)
chain_joined c [] ds = sym (chain_more c ds)
chain_joined c (d ∷ cs) ds = else_joined _ (chain (d ∷ cs)) (chain ds) ∙ ap (or_else (answer_of (refusal_of c.number) c.test)) (chain_joined d cs ds)

-- what the order says of its first check
record Stands (n : ℕ) (c : Check) (cs : List Check) : Type 0 where
  later : n < turn_of c.number
  places : placed c.number c.test ≡ true
  rest : in_order (turn_of c.number) cs ≡ true

stands : (n : ℕ) (c : Check) (cs : List Check) → in_order n (c ∷ cs) ≡ true → Stands n c cs
stands n c cs e =
    let a = and_parts _ _ e in let b = and_parts _ _ a.1 in record { later = ltb-true _ _ a.0; places = b.0; rest = b.1 }

-- the refusal of a check that fails at p has the check's number and the place p
module _ (n : ℕ) (c : Check) (cs : List Check) (s : Stands n c cs) (p : ℕ) where
  its_number : number_of (refusal_of c.number p) ≡ c.number
  its_number = number_is n c.number p s.later

  its_place : Fails c.test p → place_refused (refusal_of c.number p) ≡ p
  its_place f = place_is n c.number p s.later (place_of c.number c.test p s.places f)

same_refusal : {a : Answer} {r t : Refusal} → a ≡ Err r → a ≡ Err t → r ≡ t
same_refusal e f = cc

-- a chain refuses only by numbers whose turn is still to come
comes_later : (n : ℕ) (cs : List Check) → in_order n cs ≡ true → (r : Refusal) → chain cs ≡ Err r → n < turn_of (number_of r)
comes_later n [] e r f = refused_not (sym f)
comes_later n (c ∷ cs) e r f =
    let s = stands n c cs e in
    ⊎_elim
    (λ h. let l = comes_later (turn_of c.number) cs s.rest r (sym (goes_on_holds c cs h) ∙ f) in omega (arith, s.later))
    (λ g. subst (λ (k : ℕ). n < turn_of k) (sym (its_number n c cs s g.0) ∙ ap number_of (same_refusal (stops c cs g.0 g.1) f)) s.later)
    (outcome c.test)

-- ---- exactly when

-- one check of an answer that is the rest of a chain where all before it hold
module _ (a : Answer) (before : Type 0) (n : ℕ) (c : Check) (cs : List Check) (s : Stands n c cs) (is : before → a ≡ chain (c ∷ cs)) where
  given_by : (p : ℕ) → before → Fails c.test p → Given a c.number p
  given_by p b f =
      record { refusal = refusal_of c.number p; is = is b ∙ stops c cs p f; number = its_number n c cs s p; place = its_place n c cs s p f }

  fails_at : (p : ℕ) → before → Given a c.number p → Fails c.test p
  fails_at p b g =
      ⊎_elim
      (λ h. absurd (let l = comes_later (turn_of c.number) cs s.rest g.refusal (sym (is b ∙ goes_on_holds c cs h) ∙ g.is) in let e = ap turn_of g.number in omega arith))
      (λ f. subst (Fails c.test) (sym (its_place n c cs s f.0 f.1) ∙ ap place_refused (same_refusal (is b ∙ stops c cs f.0 f.1) g.is) ∙ g.place) f.1)
      (outcome c.test)

  holds_accepted : before → a ≡ Ok tt → Holds c.test
  holds_accepted b e = ⊎_elim (λ h. h) (λ f. refused_not (sym (is b ∙ stops c cs f.0 f.1) ∙ e)) (outcome c.test)

  holds_later : (k p : ℕ) → before → turn_of c.number < turn_of k → Given a k p → Holds c.test
  holds_later k p b l g =
      ⊎_elim
      (λ h. h)
      (λ f. absurd (let e = ap turn_of (sym (its_number n c cs s f.0) ∙ ap number_of (same_refusal (is b ∙ stops c cs f.0 f.1) g.is) ∙ g.number) in omega arith))
      (outcome c.test)

each : (a : Answer) (before : Type 0) (n : ℕ) (cs : List Check) → in_order n cs ≡ true → (before → a ≡ chain cs) → (a ≡ Ok tt → before) → ((k p : ℕ) → n < turn_of k → Given a k p → before) → Each a before cs
each a before n [] e is accepted given = (accepted, is)
each a before n (c ∷ cs) e is accepted given =
    let s = stands n c cs e in (
      λ p. (λ g. let b = given c.number p s.later g in (b, fails_at a before n c cs s is p b g), λ f. given_by a before n c cs s is p f.0 f.1),
      each a (before × Holds c.test) (turn_of c.number) cs s.rest
          (λ b. is b.0 ∙ goes_on_holds c cs b.1)
          (λ h. (accepted h, holds_accepted a before n c cs s is (accepted h) h))
          (λ k p l g. let b = given k p (let m = s.later in omega arith) g in (b, holds_later a before n c cs s is k p b l g)),
    )

-- the law: an answer that is a chain of checks in document 01's order
pub exactly : (cs : List Check) → in_order 0 cs ≡ true → {a : Answer} → a ≡ chain cs → Exactly a cs
exactly cs o {a} e = each a (Unit {0}) 0 cs o (λ b. e) (λ h. tt) (λ k p l g. tt)

-- ---- no other number

among : (a : Answer) (before : Type 0) (cs : List Check) → before → Each a before cs → (k p : ℕ) → Given a k p → Among k cs
among a before [] b e k p g = refused_not (sym g.is ∙ e.1 b)
among a before (c ∷ cs) b e k p g =
    ⊎_elim
    (λ h. inr (among a (before × Holds c.test) cs (b, h) e.1 k p g))
    (λ f. let o = (e.0 f.0).1 (b, f.1) in inl (sym g.number ∙ ap number_of (same_refusal g.is o.is) ∙ o.number))
    (outcome c.test)

-- no number is given but those of the tests
pub no_other : (cs : List Check) {a : Answer} → Exactly a cs → (k p : ℕ) → Given a k p → Among k cs
no_other cs {a} e k p g = among a (Unit {0}) cs tt e k p g
