-- Kept cells: one of a halved plane has one of luma's, the marks of the rectangles are marks, and each cell's by the rectangles that it lies in. Assumes nothing.
use mathlib.Core.Path.{◌≡◌, refl, sym, ◌∙◌}
use mathlib.Core.Logic.{◌⊎◌, inl, inr}
use mathlib.Core.Bool.{Bool, true, false}
use mathlib.Core.List.{List}
use Prim.Native.Nat.{ℕ, zero, suc, ◌+◌, ◌*◌, ◌-◌, ◌/◌, ◌≤◌, ◌<◌}
use native.Mathlib.Decide.{dec_le}
use native.Mathlib.Omega.{arith}
use borrow.Author.Tests.{eq-eqb, ne_eqb, le-leb}
use lib.ListN.{length, get_or}
use Rattle.laws.specs.Choose.{pick, either, true_not_false, tests}
use Rattle.laws.specs.Loops.{turns, turns_none, turns_more, turns_end, turns_keep}
use Rattle.rules.specs.declared.settings.Keep.{Keep}
use Rattle.rules.specs.Refusals.{Answer}
use Rattle.std.specs.declared.result.Result.TheVariants.{Ok, Err}
use Rattle.std.specs.declared.option.Option.TheVariants.{None}
use Rattle.rules.specs.Refusals.{or_else, unless, found}
use Rattle.rules.specs.TuGrid.{cells_ok}
use Rattle.rules.specs.Plane.{bad_keep}
use Rattle.rules.specs.Keep.{in_rectangle, keep_check, keep_after}
use Rattle.tiles.proofs.Turns.{turns_hit}
use Rattle.rectangle.specs.Cut.{Inside}
use Rattle.rectangle.specs.Stated.{Stated}
use Rattle.rectangle.proofs.Rows.{inside_true, true_inside}
use Rattle.rectangle.proofs.Theorems.{refused_as_lent, as_long, inside_kept, outside_as_before, still_good}
use Rattle.by_settings.specs.declared.lists.Lists.{Lists}
use Rattle.by_settings.specs.declared.kept.Cells.{Cells}
use Rattle.by_settings.specs.Lists.{lists_asked, between}
use Rattle.by_settings.specs.Kept.{Among, first_in, count_in, rectangle_of, kept_by, kept_asked}

-- ---- the laws of the code's needs

-- how many rows or columns: as many as luma's, none of none, or halved and rounded out
module _ (ss first count : ℕ) {x : ℕ} where
  pub count_whole : ss ≡ 0 → x ≡ count → x ≡ count_in ss first count
  unfolding count_in pick either
  count_whole e f = rw e f

  pub count_none : (ss ≡ 0 → ⊥) → count ≡ 0 → x ≡ count → x ≡ count_in ss first count
  unfolding count_in pick either
  count_none some e f = rw (ne_eqb ss 0 some, eq-eqb count 0 e) f

  pub count_halved : (ss ≡ 0 → ⊥) → (count ≡ 0 → ⊥) → x ≡ (first + count + 1) / 2 - first / 2 → x ≡ count_in ss first count
  unfolding count_in pick either
  count_halved some more e = rw (ne_eqb ss 0 some, ne_eqb count 0 more) e

-- a rectangle by its numbers
pub rectangle_is : (s : Cells) (xs : List ℕ) (i : ℕ) {row col h w a b : ℕ}
    → a ≡ get_or xs (4 * i) 0 → row ≡ first_in s.ssy a → b ≡ get_or xs (4 * i + 1) 0 → col ≡ first_in s.ssx b
    → h ≡ count_in s.ssy (get_or xs (4 * i) 0) (get_or xs (4 * i + 2) 0)
    → w ≡ count_in s.ssx (get_or xs (4 * i + 1) 0) (get_or xs (4 * i + 3) 0)
    → record { cols = s.cols; rows = s.rows; row = row; col = col; h = h; w = w } ≡ rectangle_of s xs i
unfolding rectangle_of
rectangle_is s xs i e f g k m n = rw (f, e, k, g, m, n)

-- one rectangle more
pub keep_more : (s : Cells) (xs keep : List ℕ) (i : ℕ) {y z : List ℕ} {r : Keep} → y ≡ turns i (λ k. keep_after (rectangle_of s xs k)) keep → r ≡ rectangle_of s xs i → z ≡ keep_after r y
    → z ≡ turns (i + 1) (λ k. keep_after (rectangle_of s xs k)) keep
keep_more s xs keep i e f g = turns_more _ keep i e (rw f at g)

-- those of the settings, by where their list begins and ends
pub kept_so : (s : Cells) (shorts places keep : List ℕ) (l : Lists) {m : List ℕ} → l ≡ lists_asked (length shorts) places
    → m ≡ kept_by s (between shorts l.keeps l.keepsend) keep → m ≡ kept_asked s shorts places keep
unfolding kept_asked
kept_so s shorts places keep l e f = rw e at f

pub ruleset keeping = (tests, count_whole, turns_none, turns_end)

-- ---- one direction of a halved plane: a cell is among those kept where one of its two luma cells is, and nowhere else

pub halved_has : (first count k : ℕ) → Among first count k → Among (first_in 1 first) (count_in 1 first count) (k / 2)
unfolding first_in count_in pick either
halved_has first count k a =
    rw (ne_eqb count 0 (omega arith)) (record { from = omega arith; below = omega arith })

pub halved_only : (first count c : ℕ) → Among (first_in 1 first) (count_in 1 first count) c → Among first count (2 * c) ⊎ Among first count (2 * c + 1)
unfolding first_in count_in pick either
halved_only first zero c a = let h = a.from in let l = a.below in absurd (omega arith)
halved_only first (suc n) c a =
    let h = a.from in
    let l = a.below in
    let e : count_in 1 first (suc n) ≡ (first + suc n + 1) / 2 - first / 2 = sym (count_halved 1 first (suc n) (omega arith) (omega arith) refl) in
    elim (dec_le first (2 * c)) [
      | yes y ↦ inl (record { from = y; below = omega arith })
      | no y ↦ inr (record { from = omega arith; below = omega arith })
    ]

-- ---- the marks

-- one rectangle leaves good marks good, be it refused or not
good_after : (s : Keep) (m : List ℕ) → bad_keep (s.rows * s.cols) m ≡ None → bad_keep (s.rows * s.cols) (keep_after s m) ≡ None
good_after s m good = go (keep_check s m) refl
  where
    go : (a : Answer) → keep_check s m ≡ a → bad_keep (s.rows * s.cols) (keep_after s m) ≡ None
    go (Ok tt) e = let p : Stated s m (Ok tt) (keep_after s m) = record { answer = sym e; marks = refl } in still_good p
    go (Err r) e = let p : Stated s m (Err r) (keep_after s m) = record { answer = sym e; marks = refl } in rw (refused_as_lent p) good

-- no rectangle makes a mark other than 0 or 1, so that no plane refuses the program's own marks by 6
pub kept_good : (s : Cells) (xs keep : List ℕ) → bad_keep (s.rows * s.cols) keep ≡ None → bad_keep (s.rows * s.cols) (kept_by s xs keep) ≡ None
unfolding kept_by rectangle_of
kept_good s xs keep good =
    turns_keep (λ i. keep_after (rectangle_of s xs i)) keep (λ m. bad_keep (s.rows * s.cols) m ≡ None) (length xs / 4) good (λ i m h. good_after (rectangle_of s xs i) m)

-- ---- each cell's mark, over good marks that are long enough

module _ (s : Cells) (xs keep : List ℕ) (sized : cells_ok s.cols s.rows ≡ true) (long : s.rows * s.cols ≤ length keep)
    (good : bad_keep (s.rows * s.cols) keep ≡ None) where
  -- what every rectangle finds
  pub record Good (m : List ℕ) : Type 0 where
    pub as_many : length m ≡ length keep
    pub good_marks : bad_keep (s.rows * s.cols) m ≡ None

  accepts : (i : ℕ) (m : List ℕ) → Good m → keep_check (rectangle_of s xs i) m ≡ Ok tt
  unfolding keep_check rectangle_of or_else unless found
  accepts i m g = let h : s.rows * s.cols ≤ length m = rw g.as_many long in rw (sized, le-leb _ _ h, g.good_marks)

  one : (i : ℕ) (m : List ℕ) → Good m → Stated (rectangle_of s xs i) m (Ok tt) (keep_after (rectangle_of s xs i) m)
  one i m g = record { answer = sym (accepts i m g); marks = refl }

  good_on : (i : ℕ) (m : List ℕ) → Good m → Good (keep_after (rectangle_of s xs i) m)
  unfolding rectangle_of
  good_on i m g = record { as_many = as_long (one i m g) ∙ g.as_many; good_marks = good_after (rectangle_of s xs i) m g.good_marks }

  start : Good keep
  start = record { as_many = refl; good_marks = good }

  module _ (r c : ℕ) (hr : r < s.rows) (hc : c < s.cols) where
    abbrev Mark : List ℕ → ℕ
    Mark m = get_or m (r * s.cols + c) 0

    hit : (i : ℕ) (m : List ℕ) → Inside (rectangle_of s xs i) r c → Good m → Mark (keep_after (rectangle_of s xs i) m) ≡ 1
    unfolding rectangle_of
    hit i m p g = inside_kept (one i m g) r c hr hc p

    miss : (i : ℕ) (m : List ℕ) → (Inside (rectangle_of s xs i) r c → ⊥) → Good m → Mark (keep_after (rectangle_of s xs i) m) ≡ Mark m
    unfolding rectangle_of
    miss i m off g = outside_as_before (one i m g) r c hr hc off

    stays : (i : ℕ) (m : List ℕ) → Good m → Mark m ≡ 1 → Mark (keep_after (rectangle_of s xs i) m) ≡ 1
    stays i m g e = go (in_rectangle (rectangle_of s xs i) r c) refl
      where
        go : (b : Bool) → in_rectangle (rectangle_of s xs i) r c ≡ b → Mark (keep_after (rectangle_of s xs i) m) ≡ 1
        go true f = hit i m (true_inside _ r c f) g
        go false f = miss i m (λ p. true_not_false (sym f ∙ inside_true p)) g ∙ e

    -- a cell that lies in a rectangle is kept
    pub in_one : (i : ℕ) → i < length xs / 4 → Inside (rectangle_of s xs i) r c → Mark (kept_by s xs keep) ≡ 1
    unfolding kept_by
    in_one i h p =
        (turns_hit (λ m. Good m × (Mark m ≡ 1)) Good (λ k. keep_after (rectangle_of s xs k)) (length xs / 4) i keep h (λ k m g. good_on k m g) start (λ m g. (good_on i m g, hit i m p g))
        (λ k m a b q. (good_on k m q.0, stays k m q.0 q.1))).1

    -- and one that lies in none is as it was
    pub in_none : ((i : ℕ) → i < length xs / 4 → Inside (rectangle_of s xs i) r c → ⊥) → Mark (kept_by s xs keep) ≡ Mark keep
    unfolding kept_by
    in_none off =
        (turns_keep (λ k. keep_after (rectangle_of s xs k)) keep (λ m. Good m × (Mark m ≡ Mark keep)) (length xs / 4) (start, refl)
        (λ k m h q. (good_on k m q.0, miss k m (off k h) q.0 ∙ q.1))).1
