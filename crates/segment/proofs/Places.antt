-- Where the samples of an edge stand: within the plane, on each of the four lines.
-- Assumes nothing.
use Rattle.std.proofs.Common.{◌≡◌, ℕ, ◌+◌, ◌-◌, ◌*◌, ◌<◌, ◌≤◌, mul-le-mul_right, arith}
use Rattle.segment.specs.Sides.{Lane, Lanes}

pub before_in : (i s step at : ℕ) → i < s → s * step ≤ at → (i + 1) * step ≤ at
before_in i s step at h k = let l : i + 1 ≤ s = omega arith in omega (arith, mul-le-mul_right step l)

pub after_in : (i s step : ℕ) → i < s → i * step ≤ (s - 1) * step
after_in i s step h = let l : i ≤ s - 1 = omega arith in mul-le-mul_right step l

pub line_in : (j line : ℕ) → j < 4 → j * line ≤ 3 * line
line_in j line h = let l : j ≤ 3 = omega arith in mul-le-mul_right line l

-- each of the four lines has room, wherever its q0 is known to stand
pub lane_line : {at step line n w size : ℕ} → Lanes at step line n w size → (j here k : ℕ) → j < 4 → here ≡ at + j * line → k ≡ size → Lane here step n w k
lane_line {at} {step} {line} r j here k h p e = let m = line_in j line h in record {
  step_some = r.step_some;
  after_some = r.after_some;
  before_most = r.before_most;
  after_most = r.after_most;
  low = omega arith;
  low_2 = omega arith;
  high = omega arith;
  high_2 = omega arith;
}
