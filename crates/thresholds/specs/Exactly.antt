-- Document 01's tests of `combine_thresholds`, in their order 1, 4, 5.
-- Assumes nothing.
use Rattle.std.specs.Prelude.{List, [], ◌∷◌, ℕ, ℤ}
use Rattle.laws.specs.Choose.{both}
use Rattle.rules.specs.Numbers.{depth_ok, delta_ok}
use Rattle.rules.specs.Thresholds.{bad_step}
use Rattle.checks.specs.Exactly.{ask, seek, Check, check}

abbrev pub tests : ℕ → List ℕ → ℤ → ℤ → List Check
tests depth steps deltaq deltaside =
    check 1 (ask (depth_ok depth)) ∷ check 4 (seek (bad_step steps)) ∷ check 5 (ask (both (delta_ok deltaq) (delta_ok deltaside))) ∷ []
