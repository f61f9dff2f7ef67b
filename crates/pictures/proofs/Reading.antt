-- A plane read row by row: which rows of a file it is made of so far. Assumes nothing.
use mathlib.Core.Path.{◌≡◌, refl, sym, ap, ◌∙◌}
use mathlib.Core.Bool.{Bool, true, false, not}
use mathlib.Core.List.{List, ◌++◌}
use Prim.Native.Nat.{ℕ, ◌+◌, ◌-◌, ◌*◌, ◌≤◌, ◌<◌, min}
use native.Mathlib.Decide.{dec_lt}
use native.Mathlib.Omega.{arith}
use borrow.Author.Tests.{le-ltb, leb-true, not-false}
use lib.Dec.{leb, ltb, eqb}
use lib.ListN.{length, take, drop}
use lib.Seq.{drop_at, length-take-le}
use Rattle.laws.specs.Choose.{pick, pick_yes, pick_no, is_eq, not_eq, true_not_false}
use Rattle.laws.specs.Loops.{each, each_same, singles_length}
use Rattle.y4m.specs.Rows.{padded_at}
use Rattle.pictures.specs.declared.planes.Shape.{Shape}
use Rattle.pictures.specs.Storing.{stored}
use Rattle.pictures.specs.Rows.{NextRow, padded_row, row_put, file_row, FilePlane}
use Rattle.pictures.proofs.Storing.{pieces_none, pieces_more, pieces_end}

-- ---- one row

pub next_row_read : (n : ℕ) (before : List ℕ) (more : Bool) (r : ℕ) (ys : List ℕ) → more ≡ true → n ≤ length before → length ys ≡ length (take n before) → NextRow more n before (ys ++ drop n before) r
next_row_read n before more r ys m b h =
    record { rest = drop_at ys (drop n before) n (h ∙ length-take-le n before b); same = λ e. true_not_false (sym e ∙ m) }

padded_length : (wide : Bool) (s : Shape) (bytes : List ℕ) → length (padded_row wide s bytes) ≡ s.stride
unfolding padded_row
padded_length wide s bytes = singles_length (λ k. padded_at wide s.width bytes k) s.stride

same_row : (wide : Bool) (s : Shape) (f g : ℕ → List ℕ) (k : ℕ) → f (min k (s.height - 1)) ≡ g (min k (s.height - 1)) → file_row wide s f k ≡ file_row wide s g k
unfolding file_row
same_row wide s f g k e = ap (padded_row wide s) e

-- a row that was put into the plane
placed : (wide : Bool) (s : Shape) (bytes plane : List ℕ) (at : ℕ) (t : Bool) {q : List ℕ} → t ≡ leb (at + s.stride) (length plane) → t ≡ true
    → q ≡ row_put wide s bytes at plane → q ≡ stored plane at (padded_row wide s bytes)
unfolding row_put
placed wide s bytes plane at t e h g = g ∙ sym (pick_yes (leb (at + s.stride) (length plane)) _ _ _ (sym h ∙ e) refl)

-- there was room for it
pub room_told : (t : Bool) (a n m : ℕ) → t ≡ leb a n → not t ≡ false → n ≡ m → a ≤ m
room_told t a n m e h l = rw l at (leb-true a n (sym e ∙ not-false t h))

-- ---- the plane so far

module _ (wide : Bool) (s : Shape) (before : List ℕ) where
  -- r rows, and the buffer with the last one where the plane is to go on with that
  pub record SoFar (plane buffer : List ℕ) (r : ℕ) : Type 0 where
    pub bytes : ℕ → List ℕ
    pub rows : plane ≡ stored before 0 (each r (file_row wide s bytes))
    pub last : s.height ≤ r → buffer ≡ bytes (s.height - 1)

  pub so_far_none : (buffer : List ℕ) → SoFar before buffer 0
  so_far_none buffer = record { bytes = λ k. buffer; rows = pieces_none (file_row wide s (λ k. buffer)) 0 before 0; last = λ h. refl }

  -- a row more, of bytes that are known
  one_more : (bytes : ℕ → List ℕ) (at r : ℕ) (next : List ℕ) {q q' : List ℕ} → at ≡ s.stride * r → next ≡ bytes (min r (s.height - 1))
      → q ≡ stored before 0 (each r (file_row wide s bytes)) → q' ≡ stored q at (padded_row wide s next) → q' ≡ stored before 0 (each (r + 1) (file_row wide s bytes))
  unfolding file_row
  one_more bytes at r next {q} a n e g =
      pieces_more (file_row wide s bytes) s.stride before 0 r (λ k b. padded_length wide s (bytes (min k (s.height - 1)))) e
      (g ∙ ap (λ (x : List ℕ). stored q at (padded_row wide s x)) n ∙ ap (λ (i : ℕ). stored q i (file_row wide s bytes r)) place)
    where
      place : at ≡ 0 + s.stride * r
      place = omega arith

  pub so_far_more : (at r n : ℕ) (plane buffer next : List ℕ) (t : Bool) (u : ℕ) {q : List ℕ} → at ≡ s.stride * r → SoFar plane buffer r
      → NextRow (ltb r s.height) n buffer next u → t ≡ leb (at + s.stride) (length plane) → not t ≡ false → q ≡ row_put wide s next at plane → SoFar q next (r + 1)
  so_far_more at r n plane buffer next t u {q} a f x e h g =
      elim (dec_lt r s.height) [
        | yes b ↦ record { bytes = with; rows = one_more with at r next a (here b) (f.rows ∙ ap (stored before 0) (each_same (file_row wide s f.bytes) (file_row wide s with) r (λ k l. kept k l))) put; last = λ l. here_last b l }
        | no b ↦ record { bytes = f.bytes; rows = one_more f.bytes at r next a (again b) f.rows put; last = λ l. (x.same (le-ltb r s.height (omega arith))).1 ∙ f.last (omega arith) }
      ]
    where
      with : ℕ → List ℕ
      with k = pick (eqb k r) next (f.bytes k)

      put : q ≡ stored plane at (padded_row wide s next)
      put = placed wide s next plane at t e (not-false t h) g

      here : r < s.height → next ≡ with (min r (s.height - 1))
      here b = pick_yes (eqb (min r (s.height - 1)) r) next (f.bytes (min r (s.height - 1))) next (is_eq (min r (s.height - 1)) r (omega arith)) refl

      here_last : r < s.height → s.height ≤ r + 1 → next ≡ with (s.height - 1)
      here_last b l = pick_yes (eqb (s.height - 1) r) next (f.bytes (s.height - 1)) next (is_eq (s.height - 1) r (omega arith)) refl

      kept : (k : ℕ) → k < r → file_row wide s f.bytes k ≡ file_row wide s with k
      kept k l = same_row wide s f.bytes with k (pick_no (eqb (min k (s.height - 1)) r) next (f.bytes (min k (s.height - 1))) (f.bytes (min k (s.height - 1))) (not_eq (min k (s.height - 1)) r (λ z. absurd (omega arith))) refl)

      end : ¬ (r < s.height) → s.height - 1 ≡ min r (s.height - 1)
      end b = omega arith

      again : ¬ (r < s.height) → next ≡ f.bytes (min r (s.height - 1))
      again b = (x.same (le-ltb r s.height (omega arith))).1 ∙ f.last (omega arith) ∙ ap f.bytes (end b)

  pub so_far_end : (r : ℕ) (plane buffer : List ℕ) → SoFar plane buffer r → r ≤ s.rows → s.rows ≤ r → s.stride * s.rows ≤ length before → FilePlane wide s before plane
  so_far_end r plane buffer f a b w =
      record { bytes = f.bytes; whole = w; plane = pieces_end (file_row wide s f.bytes) 0 before 0 r s.rows f.rows a b }
