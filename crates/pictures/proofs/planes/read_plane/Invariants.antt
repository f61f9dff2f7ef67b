-- `read_plane` reads a row and puts it into the plane, a turn each. Assumes nothing.
use mathlib.Core.Path.{◌≡◌}
use Prim.Native.Nat.{◌*◌, ◌≤◌}
use lib.ListN.{length}
use Rattle.pictures.proofs.Reading.{SoFar}
use Rattle.pictures.proofs.planes.read_plane.Given as goal

abbrev pub invariant-loop-r : goal.invariant-loop-r
invariant-loop-r l = (length l.bytes ≡ 8192) × (l.at ≤ 4096 * l.r) × (l.r ≤ l.s.rows) × (length l.plane ≡ length l.initial.plane) × (l.at ≡ l.s.stride * l.r) × (l.at ≤ length l.initial.plane) × SoFar l.wide l.s l.initial.plane l.plane l.bytes l.r
