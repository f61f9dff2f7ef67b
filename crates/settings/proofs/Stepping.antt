-- A step from line to line of a text. Assumes nothing.
use mathlib.Core.Path.{◌≡◌, refl, ap}
use mathlib.Core.List.{List}
use Prim.Native.Nat.{ℕ, ◌+◌, ◌-◌, ◌<◌}
use native.Mathlib.Omega.{arith}
use lib.ListN.{length}
use Rattle.text.specs.Places.{seek, newline_at, remark_at}
use Rattle.settings.specs.declared.walk.Line.{Line}
use Rattle.settings.specs.declared.walk.Walk.{Walk}
use Rattle.settings.specs.Text.{line_end}
use Rattle.settings.specs.Walked.{Stepped}

pub line_end_is : (xs : List ℕ) (at : ℕ) → line_end xs at ≡ seek (newline_at xs) at (length xs - at)
unfolding line_end
line_end_is xs at = refl

-- as the callees found the line's ends
module _ (xs : List ℕ) (at e : ℕ) (ends : e ≡ seek (newline_at xs) at (length xs - at)) where
  pub stop_is : (stop : ℕ) → stop ≡ seek (remark_at xs) at (e - at) → stop ≡ seek (remark_at xs) at (line_end xs at - at)
  unfolding line_end
  stop_is stop h = rw (← ends) h

  pub next_is : e + 1 ≡ line_end xs at + 1
  unfolding line_end
  next_is = ap (λ (n : ℕ). n + 1) ends

-- what is left of the text gets less
pub stepped_less : {xs : List ℕ} {before after : Walk} {line : Line} → Stepped xs before line after → length xs + 1 - after.at < length xs + 1 - before.at
stepped_less t = omega (arith, t.forward, t.here)
