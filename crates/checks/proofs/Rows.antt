-- Boxes of samples: which callers' boxes lie within their lists, and that a row whose largest is not over top has no sample over it.
-- Assumes nothing.
use mathlib.Core.Path.{◌≡◌, sym}
use mathlib.Core.List.{List}
use Prim.Native.Nat.{ℕ, ◌+◌, ◌*◌, ◌^◌, ◌≤◌, ◌<◌}
use native.Mathlib.Nat.{mul-le-mul_right, suc-mul, add-mul}
use native.Mathlib.Omega.{arith}
use mir.Val.{Fits}
use mir.Syntax.{w64}
use Rattle.laws.specs.Largest.{largest, largest_none, largest_more, largest_end, under_largest}
use Rattle.std.specs.declared.option.Option.TheVariants.{None}
use Rattle.rules.specs.Refusals.{over_row, over_top}
use Rattle.checks.specs.Rows.{Box}
use Rattle.checks.proofs.First.{firsts, all_nothing, over_good}

-- ---- boxes that lie within a list

-- a whole plane
pub box_whole : {stride count rows size : ℕ} → count ≤ stride → rows * stride ≤ size → Box 0 stride count rows size
box_whole a b = record { inside = omega arith }

-- a box inside of a plane, its first sample in row y and column x
pub box_inner : (x y : ℕ) {stride count rows size : ℕ} → x + count ≤ stride → (y + rows) * stride ≤ size → Box (y * stride + x) stride count rows size
box_inner x y {stride} {count} {rows} a b = record { inside = omega (arith, add-mul y rows stride) }

pub ruleset boxes = (box_whole, box_inner)

-- ---- a row of a box

pub row_inside : {start stride count rows size : ℕ} (y : ℕ) → Box start stride count rows size → y < rows → start + y * stride + count ≤ size
row_inside {stride = stride} y b h = omega (arith, mul-le-mul_right stride h, suc-mul y stride)

pub row_fits : {start stride count rows size : ℕ} (y : ℕ) → Box start stride count rows size → size < 2 ^ 64 → y < rows → Fits w64 (y * stride)
row_fits y b s h = record { fits = omega (arith, row_inside y b h) }

pub start_fits : {start stride count rows size : ℕ} (y : ℕ) → Box start stride count rows size → size < 2 ^ 64 → y < rows → Fits w64 (start + y * stride)
start_fits y b s h = record { fits = omega (arith, row_inside y b h) }

-- ---- a row's largest

pub row_clean : (top m : ℕ) (xs : List ℕ) (start count : ℕ) → m ≡ largest xs start count → m ≤ top → None ≡ over_row top xs start count
unfolding over_row
row_clean top m xs start count e l =
    sym (all_nothing (λ x. over_top top xs (start + x)) count (λ x lt. sym (over_good top xs (start + x) (let u = under_largest xs start count x lt in omega arith))))

pub ruleset rows = (firsts, largest_none, largest_more, largest_end, row_clean, row_inside, row_fits, start_fits)
