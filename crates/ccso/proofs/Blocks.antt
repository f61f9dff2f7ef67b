-- A row of the target in blocks: a store of the run is one of the rules, a block whose flag is 0 is kept, and block after block is the row.
-- Assumes nothing.
use mathlib.Core.Path.{◌≡◌, refl, sym, ap, ◌∙◌}
use mathlib.Core.List.{List}
use Prim.Native.Nat.{ℕ, ◌+◌, ◌-◌, ◌*◌, ◌/◌, ◌≤◌, ◌<◌, min}
use native.Mathlib.Nat.{add-mul, one-mul, zero-mul, mul-le-mul, lt_of_lt_of_le}
use native.Mathlib.Omega.{arith}
use borrow.Author.Rules.{rules}
use lib.ListN.{get_or, set}
use lib.IntN.{ℤ}
use mir.Syntax.{w64}
use mir.Val.{Fits}
use lib.Seq.{set-get_or}
use borrow.Author.Tests.{eq-eqb, ne_eqb}
use Rattle.laws.specs.Choose.{pick}
use Rattle.laws.specs.Loops.{turns, turns_same, turns_keep, turns_add, turns_end}
use Rattle.laws.proofs.Loops.{loops}
use Rattle.rules.specs.declared.settings.Ccso.{Ccso}
use Rattle.rules.specs.Numbers.{down}
use Rattle.rules.specs.Frame.{superblocks}
use Rattle.rules.specs.Ccso.{target_width, target_height, block_of, sample_at, ccso_cell, ccso_row, ccso_of}
use Rattle.ccso_sample.specs.declared.taps.Row.{Row}
use Rattle.ccso_sample.specs.Ranges.{Ranges, Sized}
use Rattle.ccso_sample.specs.declared.counts.Sizes.{Sizes}
use Rattle.ccso_sample.specs.Lists.{RowOf, moved_at}
use Rattle.ccso.specs.Lists.{CcsoFits, moved_cell, columns_to, block_row}
use Rattle.ccso_sample.proofs.Places.{cell_below, block_start, block_number, block_below, block_end, width_most, height_most, target_below, sample_fits, sample_bytes}

-- one store, at the place that the code counts from the row's start
pub cell_is : {s : Ccso} {r : Row} → RowOf s r → (luma : List ℕ) (offsets : List ℤ) (x v : ℕ) (t : List ℕ) → v ≡ moved_at s luma offsets x r.y (get_or t (r.at + x) 0) → set t (r.at + x) v ≡ moved_cell s luma offsets r.y x t
unfolding moved_cell
cell_is o luma offsets x v t e = rw (← o.at, e)

-- a store of the rules, by the flag of its block
module _ (s : Ccso) (luma flags : List ℕ) (offsets : List ℤ) (y x : ℕ) (t : List ℕ) where
  pub cell_on : (get_or flags (block_of s x y) 0 ≡ 0 → ⊥) → moved_cell s luma offsets y x t ≡ ccso_cell s luma flags offsets y x t
  unfolding moved_cell ccso_cell sample_at moved_at pick
  cell_on h = rw (ne_eqb _ _ h)

  pub cell_off : get_or flags (block_of s x y) 0 ≡ 0 → ccso_cell s luma flags offsets y x t ≡ t
  unfolding ccso_cell sample_at pick
  cell_off h = rw (eq-eqb _ _ h) (set-get_or t (y * target_width s + x) 0)

-- the columns before each block: no fewer than before the last, and all of them before the last block's end
columns_rise : (s : Ccso) (b : ℕ) → columns_to s b ≤ columns_to s (b + 1)
unfolding columns_to
columns_rise s b = omega (arith, add-mul b 1 (down s.ssx 64))

all_columns : {s : Ccso} → Ranges s → (b : ℕ) → b ≡ superblocks s.width → columns_to s b ≡ target_width s
unfolding columns_to target_width
all_columns {s} a b e = rw e (omega (arith, block_end s.ssx s.width a.ssx_most))

-- a flag's place is no wrapped sum
pub flag_fits : {s : Ccso} → Ranges s → (i : ℕ) → i < superblocks s.height * superblocks s.width → Fits w64 i
unfolding superblocks
flag_fits {s} a i h = record { fits = omega (arith, mul-le-mul high wide) }
  where
    high : (s.height + 63) / 64 ≤ 64
    high = omega (arith, a.height_most)

    wide : (s.width + 63) / 64 ≤ 64
    wide = omega (arith, a.width_most)

-- block b of a row
module _ {s : Ccso} (a : Ranges s) {r : Row} (o : RowOf s r) (b : ℕ) (h : b < superblocks s.width) where
  pub flag_below : r.flags + b < superblocks s.height * superblocks s.width
  unfolding target_height
  flag_below = rw o.flags (cell_below _ _ _ _ (block_below s.ssy s.height r.y a.ssy_most o.inside) h)

  pub start_below : b * down s.ssx 64 < target_width s
  unfolding target_width
  start_below = block_start s.ssx s.width b a.ssx_most h

  -- the code's start and end of it
  module _ {z : Sizes} (d : Sized s z) (end : ℕ) (e : end ≡ min (b * z.blockw + z.blockw) z.width) where
    pub start_le : b * z.blockw ≤ end
    start_le = rw (e, d.blockw, d.width) (omega (arith, start_below))

    pub count_le : b * z.blockw + (end - b * z.blockw) ≤ target_width s
    count_le = rw (e, d.blockw, d.width) (omega (arith, start_below))

  starts : columns_to s b ≡ b * down s.ssx 64
  unfolding columns_to
  starts = omega (arith, start_below)

  ends : columns_to s (b + 1) ≡ min (b * down s.ssx 64 + down s.ssx 64) (target_width s)
  unfolding columns_to
  ends = ap (λ (n : ℕ). min n (target_width s)) (next_block b (down s.ssx 64))
    where
      next_block : (b w : ℕ) → (b + 1) * w ≡ b * w + w
      next_block b w = add-mul b 1 w ∙ ap (λ (n : ℕ). b * w + n) (one-mul w)

  -- its columns have its flag
  column_flag : (j : ℕ) → j < columns_to s (b + 1) - columns_to s b → block_of s (columns_to s b + j) r.y ≡ r.flags + b
  unfolding block_of
  column_flag j l = ap (λ (n : ℕ). r.y / down s.ssy 64 * superblocks s.width + n) number ∙ ap (λ (n : ℕ). n + b) (sym o.flags)
    where
      number : (columns_to s b + j) / down s.ssx 64 ≡ b
      number = block_number s.ssx b (columns_to s b + j) a.ssx_most (omega (arith, starts)) (omega (arith, starts, ends, l))

  module _ (luma flags : List ℕ) (offsets : List ℤ) (t : List ℕ) where
    pub block_kept : get_or flags (r.flags + b) 0 ≡ 0 → t ≡ block_row s luma flags offsets r.y b t
    unfolding block_row
    block_kept e =
        turns_keep (λ j. ccso_cell s luma flags offsets r.y (columns_to s b + j)) t (λ q. t ≡ q) (columns_to s (b + 1) - columns_to s b) refl
        (λ j q l p. p ∙ sym (cell_off s luma flags offsets r.y (columns_to s b + j) q (ap (λ (i : ℕ). get_or flags i 0) (column_flag j l) ∙ e)))

    moved_block : (get_or flags (r.flags + b) 0 ≡ 0 → ⊥) → (start count : ℕ) (q : List ℕ) → start ≡ columns_to s b → count ≡ columns_to s (b + 1) - columns_to s b → q ≡ turns count (λ j. moved_cell s luma offsets r.y (start + j)) t → q ≡ block_row s luma flags offsets r.y b t
    unfolding block_row
    moved_block f start count q e d g =
        (rw (e, d) at g)
        ∙ turns_same _ _ t (columns_to s (b + 1) - columns_to s b)
        (λ j p l. cell_on s luma flags offsets r.y (columns_to s b + j) p (λ w. f (ap (λ (i : ℕ). get_or flags i 0) (sym (column_flag j l)) ∙ w)))

    pub block_moved : {z : Sizes} → Sized s z → (get_or flags (r.flags + b) 0 ≡ 0 → ⊥) → (end : ℕ) (q : List ℕ) → end ≡ min (b * z.blockw + z.blockw) z.width → q ≡ turns (end - b * z.blockw) (λ j. moved_cell s luma offsets r.y (b * z.blockw + j)) t → q ≡ block_row s luma flags offsets r.y b t
    block_moved {z} d f end q e g = moved_block f (b * z.blockw) (end - b * z.blockw) q start_is (rw (start_is, end_is)) g
      where
        start_is : b * z.blockw ≡ columns_to s b
        start_is = ap (λ (n : ℕ). b * n) d.blockw ∙ sym starts

        end_is : end ≡ columns_to s (b + 1)
        end_is = e ∙ rw (d.blockw, d.width) (sym ends)

-- block after block is the row
module _ (s : Ccso) (luma flags : List ℕ) (offsets : List ℤ) (y : ℕ) (t : List ℕ) where
  pub blocks_none : t ≡ turns (columns_to s 0) (λ x. ccso_cell s luma flags offsets y x) t
  unfolding columns_to turns
  blocks_none =
      let z : 0 ≡ min (0 * down s.ssx 64) (target_width s) = omega (arith, zero-mul (down s.ssx 64)) in
      ap (λ (n : ℕ). turns n (λ x. ccso_cell s luma flags offsets y x) t) z

  pub blocks_more : (b : ℕ) (q p : List ℕ) → q ≡ turns (columns_to s b) (λ x. ccso_cell s luma flags offsets y x) t → p ≡ block_row s luma flags offsets y b q → p ≡ turns (columns_to s (b + 1)) (λ x. ccso_cell s luma flags offsets y x) t
  unfolding block_row
  blocks_more b q p e g =
      (rw e at g)
      ∙ turns_add (λ x. ccso_cell s luma flags offsets y x) t (columns_to s b) (columns_to s (b + 1) - columns_to s b)
      ∙ ap (λ (n : ℕ). turns n (λ x. ccso_cell s luma flags offsets y x) t) rising
    where
      rising : columns_to s b + (columns_to s (b + 1) - columns_to s b) ≡ columns_to s (b + 1)
      rising = omega (arith, columns_rise s b)

  pub blocks_end : Ranges s → (b m : ℕ) (q : List ℕ) → m ≡ superblocks s.width → m ≤ b → b ≤ m → q ≡ turns (columns_to s b) (λ x. ccso_cell s luma flags offsets y x) t → q ≡ ccso_row s luma flags offsets y t
  unfolding ccso_row
  blocks_end a b m q e h l g = g ∙ ap (λ (n : ℕ). turns n (λ x. ccso_cell s luma flags offsets y x) t) (all_columns a b (omega arith))

-- a target of the same length fits as well
pub fit_same : {s : Ccso} {luma : List ℕ} {offsets : List ℤ} {n k m : ℕ} → k ≡ n → CcsoFits s luma offsets n m → CcsoFits s luma offsets k m
fit_same e f = rw e f

-- the row that a row's number names
pub row_at : (s : Ccso) (luma flags : List ℕ) (offsets : List ℤ) (t : List ℕ) {y y' : ℕ} → y ≡ y' → ccso_row s luma flags offsets y t ≡ ccso_row s luma flags offsets y' t
row_at s luma flags offsets t e = ap (λ (n : ℕ). ccso_row s luma flags offsets n t) e

-- row after row is the target
pub rows_end : (s : Ccso) (luma flags : List ℕ) (offsets : List ℤ) (t : List ℕ) (y m : ℕ) (q : List ℕ) → m ≡ target_height s → m ≤ y → y ≤ m → q ≡ turns y (λ i. ccso_row s luma flags offsets i) t → q ≡ ccso_of s luma flags offsets t
unfolding ccso_of
rows_end s luma flags offsets t y m q e h l g = turns_end (λ i. ccso_row s luma flags offsets i) t y (target_height s) g (omega arith) (omega arith)

-- what closes the needs of the functions over columns, blocks and rows
pub ruleset stores = (rules, target_below, sample_fits, sample_bytes, lt_of_lt_of_le, cell_is)

pub ruleset blocks = (rules, flag_below, flag_fits, start_le, block_kept, block_moved)

pub ruleset row_blocks = (rules, blocks_none)

pub ruleset target_rows = (loops, height_most, rows_end)
