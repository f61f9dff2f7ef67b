-- CCSO of a plane, and of three, by what the callees gave. Assumes nothing.
use mathlib.Core.Path.{◌≡◌, refl}
use mathlib.Core.Bool.{true, false}
use mathlib.Core.List.{List}
use Prim.Native.Nat.{ℕ, ◌+◌, ◌-◌, ◌*◌}
use native.Mathlib.Omega.{arith}
use borrow.Author.Rules.{rules}
use lib.ListN.{take, drop}
use lib.IntN.{ℤ}
use Rattle.laws.specs.Choose.{pick_yes, pick_no, told_yes_not, told_no_not}
use Rattle.rules.specs.declared.settings.Frame.{Frame}
use Rattle.rules.specs.declared.settings.Ccso.{Ccso}
use Rattle.rules.specs.declared.refusals.Refusal.{Refusal}
use Rattle.rules.specs.Refusals.{Answer}
use Rattle.std.specs.declared.result.Result.TheVariants.{Ok, Err}
use Rattle.rules.specs.Refusals.{or_else, settle}
use Rattle.rules.specs.Frame.{planes}
use Rattle.checks.proofs.Checks.{only_yes, only_no}
use Rattle.ccso.specs.Stated.{Stated}
use Rattle.by_settings.specs.Rooms.{flags_room, offsets_room}
use Rattle.by_settings.specs.Numbers.{ccso_asked}
use Rattle.by_settings.specs.Offsets.{Asked, wanted, flags_of, offsets_of, plane_answer, plane_after, PlaneOffset, planes_answer, refused_plane, planes_after, PlanesOffset}

-- the n elements from k on, as a part of a list that ends before k + n
part : {A : Type 0} (n k : ℕ) (xs : List A) → take (k + n - k) (drop k xs) ≡ take n (drop k xs)
part n k xs = let e : k + n - k ≡ n = omega arith in rw e

pub flags_part : (p : ℕ) (xs : List ℕ) → take (flags_room * p + flags_room - flags_room * p) (drop (flags_room * p) xs) ≡ flags_of p xs
unfolding flags_of
flags_part p xs = part flags_room (flags_room * p) xs

pub offsets_part : (p : ℕ) (xs : List ℤ) → take (offsets_room * p + offsets_room - offsets_room * p) (drop (offsets_room * p) xs) ≡ offsets_of p xs
unfolding offsets_of
offsets_part p xs = part offsets_room (offsets_room * p) xs

-- ---- one plane

module _ (f : Frame) (s : Asked) (luma : List ℕ) (p : ℕ) (t : List ℕ) where
  -- not asked for
  pub kept : false ≡ wanted f s.places p → PlaneOffset f s luma p t (Ok tt) t
  unfolding plane_answer plane_after
  kept e = record { answer = only_no _ _ e; samples = pick_no _ _ _ t e refl }

  -- asked for, with the plane's own settings, flags and offsets
  pub offset : {c : Ccso} {flags : List ℕ} {offsets : List ℤ} {r : Answer} {left : List ℕ} → Stated c luma flags offsets t r left
      → true ≡ wanted f s.places p → c ≡ ccso_asked f s.numbers p → flags ≡ flags_of p s.flags → offsets ≡ offsets_of p s.offsets
      → PlaneOffset f s luma p t r left
  unfolding plane_answer plane_after
  offset {c} {flags} {offsets} {r} {left} d e read hf ho =
      let w : Stated (ccso_asked f s.numbers p) luma (flags_of p s.flags) (offsets_of p s.offsets) t r left = rw (read, hf, ho) at d in
      record { answer = only_yes _ _ r e w.answer; samples = pick_yes _ _ _ left e w.target }

pub ruleset gating = (rules, told_yes_not, told_no_not, kept, offset, flags_part, offsets_part)

-- ---- three planes: the first, the second or none before the last was refused

module _ (f : Frame) (s : Asked) (luma : List ℕ) (y u v : List ℕ) {a : Answer} {y' : List ℕ} (first : PlaneOffset f s luma 0 y a y') where
  pub at_first : {x : Refusal} → a ≡ Err x → PlanesOffset f s luma (planes y u v) (record { plane = 0; answer = a }) (planes y' u v)
  unfolding planes_answer refused_plane planes_after or_else settle
  at_first e =
      rw e (record { answer = rw (← first.answer, e); plane = rw (← first.answer, e); samples = rw (← first.samples, ← first.answer, e) })

  module _ (on : a ≡ Ok tt) {b : Answer} {u' : List ℕ} (second : PlaneOffset f s luma 1 u b u') where
    pub at_second : {x : Refusal} → b ≡ Err x → PlanesOffset f s luma (planes y u v) (record { plane = 1; answer = b }) (planes y' u' v)
    unfolding planes_answer refused_plane planes_after or_else settle
    at_second e =
        rw e (record { answer = rw (← first.answer, on, ← second.answer, e); plane = rw (← first.answer, on, ← second.answer, e); samples = rw (← first.samples, ← first.answer, on, ← second.samples, ← second.answer, e) })

    pub at_third : b ≡ Ok tt → {c : Answer} {v' : List ℕ} → PlaneOffset f s luma 2 v c v' → PlanesOffset f s luma (planes y u v) (record { plane = 2; answer = c }) (planes y' u' v')
    unfolding planes_answer refused_plane planes_after or_else settle
    at_third e third = record {
      answer = rw (← first.answer, on, ← second.answer, e) third.answer;
      plane = rw (← first.answer, on, ← second.answer, e);
      samples = rw (← first.samples, ← first.answer, on, ← second.samples, ← second.answer, e, ← third.samples);
    }

pub ruleset planewise = (rules, at_first, at_second, at_third)
