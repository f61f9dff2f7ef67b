-- What a step from line to line of a text gives. Assumes nothing.
use Rattle.std.specs.Prelude.{ℕ, ◌+◌, ◌-◌, ◌≤◌, ◌<◌, ◌≡◌, List, length, Option, None, Some}
use Rattle.text.specs.Places.{seek, remark_at}
use Rattle.settings.specs.declared.walk.Line.{Line}
use Rattle.settings.specs.declared.walk.Walk.{Walk}
use Rattle.settings.specs.Text.{line_end}

-- the line is the one that was next, in the text, and the walk is behind it
pub record Stepped (xs : List ℕ) (before : Walk) (line : Line) (after : Walk) : Type 0 where
  pub here : before.at < length xs
  pub number : line.number ≡ before.number
  pub at : line.at ≡ before.at
  pub stop : line.stop ≡ seek (remark_at xs) before.at (line_end xs before.at - before.at)
  pub from : before.at ≤ line.stop
  pub within : line.stop ≤ length xs
  pub next : after.at ≡ line_end xs before.at + 1
  pub count : after.number ≡ before.number + 1
  pub forward : before.at < after.at
  pub inside : after.at ≤ length xs + 1

-- where no line is left the walk stays
abbrev pub Next : List ℕ → Walk → Option Line → Walk → Type 0
Next xs before None after = (length xs ≤ before.at) × (after ≡ before)
Next xs before (Some line) after = Stepped xs before line after
