-- Document 01, "Thresholds": q and side of an edge from the qindex of its two blocks.
-- Assumes nothing.
use Rattle.std.specs.Prelude.{ℕ, ◌+◌, ◌*◌, ◌-◌, ◌/◌, ◌^◌, min, max, ◌≡◌, Bool, true, false, List, eqb, leb, get_or, length, ℤ, pos, negsuc, ◌+ℤ◌, ◌-ℤ◌, ◌*ℤ◌}
use Rattle.laws.specs.Choose.{pick, both}
use Rattle.laws.specs.Whole.{over, between}
use Rattle.rules.specs.Numbers.{depth_ok, highest_of, offset_of, shift_of, delta_ok}
use Rattle.rules.specs.SideTable.{side_table}
use Rattle.rules.specs.Refusals.{or_else, unless, found, first, found_unless}
use Rattle.rules.specs.declared.refusals.Refusal.TheVariants.{Depth, Steps, Setting}
use Rattle.rules.specs.Refusals.{Answer}
use Rattle.std.specs.declared.result.Result.TheVariants.{Ok, Err}
use Rattle.std.specs.declared.result.Result.{Result}
use Rattle.rules.specs.declared.refusals.Refusal.{Refusal}
use Rattle.rules.specs.declared.refusals.Thresholds.{Thresholds}
use Rattle.std.specs.declared.option.Option.{Option}
use Rattle.std.specs.declared.option.Option.TheVariants.{Some}

-- "i is qindex + 8·delta."
unfoldable pub index_of : ℕ → ℤ → ℤ
index_of qindex delta = pos qindex +ℤ pos 8 *ℤ delta

abbrev pub is_zero : ℤ → Bool
is_zero (pos n) = eqb n 0
is_zero (negsuc n) = false

-- "AC step a(i): i = 0 gives 64; otherwise i is limited to 1..highest qindex and looked up."
unfoldable pub step_of : ℕ → List ℕ → ℤ → ℕ
step_of depth steps i = pick (is_zero i) 64 (get_or steps (between 1 (highest_of depth) i) 0)

-- "q(i) = floor(floor((a+4)/8)/64)."
unfoldable pub quant_of : ℕ → ℕ
quant_of a = (a + 4) / 8 / 64

-- "floor(max(t + 2^(12-depth), 0) / 2^(13-depth))"
unfoldable pub lowered : ℕ → ℤ → ℕ
lowered depth t = over (t +ℤ pos (2 ^ (12 - depth))) / 2 ^ shift_of depth

-- "Side: index i - side offset limited to 0..295, entry t of SIDE_THRESHOLDS"
unfoldable pub side_of : ℕ → ℤ → ℕ
side_of depth i = lowered depth (get_or side_table (between 0 295 (i -ℤ pos (offset_of depth))) (pos 0))

-- "Two blocks: if both values are nonzero, floor((a+b+1)/2); else the nonzero one, else 0."
unfoldable pub both_of : ℕ → ℕ → ℕ
both_of a b = pick (eqb a 0) b (pick (eqb b 0) a ((a + b + 1) / 2))

-- q and side of an edge: one delta for q and one for side
unfoldable pub q_threshold : ℕ → List ℕ → ℕ → ℕ → ℤ → ℕ
q_threshold depth steps curr prev delta =
    both_of (quant_of (step_of depth steps (index_of curr delta))) (quant_of (step_of depth steps (index_of prev delta)))

unfoldable pub side_threshold : ℕ → ℕ → ℕ → ℤ → ℕ
side_threshold depth curr prev delta = both_of (side_of depth (index_of curr delta)) (side_of depth (index_of prev delta))

-- ---- refusals

-- "Step table: 352 entries, entry 0 is 64, each at most 1,048,576."
unfoldable pub step_good : List ℕ → ℕ → Bool
step_good steps k = both (leb (get_or steps k 0) 1048576) (pick (eqb k 0) (eqb (get_or steps k 0) 64) true)

-- "4: first bad entry, 0 for length"
unfoldable pub bad_step : List ℕ → Option ℕ
bad_step steps = pick (eqb (length steps) 352) (first 352 (λ k. found_unless (step_good steps k) k)) (Some 0)

-- the checks that thresholds, a plane and a frame share
unfoldable pub steps_check : List ℕ → Answer
steps_check steps = found (bad_step steps) Steps

unfoldable pub deltas_check : ℤ → ℤ → Answer
deltas_check deltaq deltaside = unless (both (delta_ok deltaq) (delta_ok deltaside)) Setting

-- order 1, 4, 5
unfoldable pub thresholds_check : ℕ → List ℕ → ℤ → ℤ → Answer
thresholds_check depth steps deltaq deltaside =
    or_else (unless (depth_ok depth) Depth) (or_else (steps_check steps) (deltas_check deltaq deltaside))

-- the answer: both thresholds, or the refusal
unfoldable pub answer_thresholds : Answer → ℕ → ℕ → Result Thresholds Refusal
answer_thresholds (Ok tt) q side = Ok (record { q = q; side = side })
answer_thresholds (Err r) q side = Err r

unfoldable pub thresholds_of : ℕ → ℕ → ℤ → ℤ → ℕ → List ℕ → Result Thresholds Refusal
thresholds_of curr prev deltaq deltaside depth steps =
    answer_thresholds (thresholds_check depth steps deltaq deltaside)
    (q_threshold depth steps curr prev deltaq) (side_threshold depth curr prev deltaside)
