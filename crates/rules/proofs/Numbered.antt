-- A refusal's number is small, whichever refusal it is.
-- Assumes nothing.
use Prim.Native.Nat.{◌≤◌}
use native.Mathlib.Omega.{arith}
use Rattle.rules.specs.declared.refusals.Refusal.{Refusal}
use Rattle.rules.specs.declared.refusals.Refusal.TheVariants.{Depth, Size, Length, Steps, Setting, Cell, Room, Sample, Leaf, Buffer, Header, Cut, Entry, Filled, Spent}
use Rattle.rules.specs.Refusals.{number_of}

pub number_most : (r : Refusal) → number_of r ≤ 255
number_most Depth = omega arith
number_most Size = omega arith
number_most Length = omega arith
number_most (Steps k) = omega arith
number_most Setting = omega arith
number_most (Cell k) = omega arith
number_most (Room k) = omega arith
number_most (Sample k) = omega arith
number_most (Leaf k) = omega arith
number_most Buffer = omega arith
number_most Header = omega arith
number_most (Cut k) = omega arith
number_most (Entry k) = omega arith
number_most Filled = omega arith
number_most Spent = omega arith
