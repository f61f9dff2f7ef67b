-- CCSO over a picture's planes, where the settings ask for it: luma is plane 0, U 1, V 2.
-- Assumes nothing.
use Rattle.std.specs.Prelude.{◌≡◌, Bool, List, ℕ, ◌+◌, ◌*◌, ◌≤◌, eqb, ltb, get_or, take, drop, ℤ}
use Rattle.laws.specs.Choose.{pick, either, both}
use Rattle.rules.specs.declared.settings.Frame.{Frame}
use Rattle.rules.specs.Refusals.{Answer}
use Rattle.rules.specs.Refusals.{or_else, only_if, settle}
use Rattle.rules.specs.Ccso.{ccso_check, ccso_after}
use Rattle.rules.specs.Frame.{Planes, planes}
use Rattle.by_settings.specs.Rooms.{numbers_room, flags_room, offsets_room, planes_room, ccso_kind}
use Rattle.by_settings.specs.Numbers.{offsets_from, ccso_asked}
use Rattle.by_settings.specs.declared.gated.Applied.{Applied}

-- what the settings hold for CCSO; `places` says where the numbers of each kind of setting end
pub record Asked : Type 0 where
  pub numbers : List ℤ
  pub flags : List ℕ
  pub offsets : List ℤ
  pub places : List ℕ

abbrev pub asked : List ℤ → List ℕ → List ℤ → List ℕ → Asked
asked numbers flags offsets places = record { numbers = numbers; flags = flags; offsets = offsets; places = places }

-- how long these lists are at least
pub record OffsetsLong (numbers flags offsets places : ℕ) : Type 0 where
  pub numbers_long : numbers_room ≤ numbers
  pub flags_long : planes_room flags_room ≤ flags
  pub offsets_long : planes_room offsets_room ≤ offsets
  pub places_long : ccso_kind 2 + 1 ≤ places

-- the settings have numbers for plane p, and the picture has the plane
unfoldable pub wanted : Frame → List ℕ → ℕ → Bool
wanted f places p = both (ltb (offsets_from p) (get_or places (ccso_kind p) 0)) (either (eqb p 0) f.haschroma)

-- the flags and the offsets of plane p
unfoldable pub flags_of : ℕ → List ℕ → List ℕ
flags_of p flags = take flags_room (drop (flags_room * p) flags)

unfoldable pub offsets_of : ℕ → List ℤ → List ℤ
offsets_of p offsets = take offsets_room (drop (offsets_room * p) offsets)

-- ---- one plane, whose samples are t

unfoldable pub plane_answer : Frame → Asked → List ℕ → ℕ → List ℕ → Answer
plane_answer f s luma p t =
    only_if (wanted f s.places p) (ccso_check (ccso_asked f s.numbers p) luma (flags_of p s.flags) (offsets_of p s.offsets) t)

unfoldable pub plane_after : Frame → Asked → List ℕ → ℕ → List ℕ → List ℕ
plane_after f s luma p t =
    pick (wanted f s.places p) (ccso_after (ccso_asked f s.numbers p) luma (flags_of p s.flags) (offsets_of p s.offsets) t) t

pub record PlaneOffset (f : Frame) (s : Asked) (luma : List ℕ) (p : ℕ) (lent : List ℕ) (r : Answer) (left : List ℕ) : Type 0 where
  pub answer : r ≡ plane_answer f s luma p lent
  pub samples : left ≡ plane_after f s luma p lent

-- ---- all three, each by the same luma; a plane after one that was refused is left as lent

unfoldable pub planes_answer : Frame → Asked → List ℕ → Planes → Answer
planes_answer f s luma b = or_else (plane_answer f s luma 0 b.y) (or_else (plane_answer f s luma 1 b.u) (plane_answer f s luma 2 b.v))

-- the plane that was refused, 2 where none was
unfoldable pub refused_plane : Frame → Asked → List ℕ → Planes → ℕ
refused_plane f s luma b = settle (plane_answer f s luma 0 b.y) 0 (settle (plane_answer f s luma 1 b.u) 1 2)

unfoldable pub planes_after : Frame → Asked → List ℕ → Planes → Planes
planes_after f s luma b =
    planes (plane_after f s luma 0 b.y)
    (settle (plane_answer f s luma 0 b.y) b.u (plane_after f s luma 1 b.u))
    (settle (or_else (plane_answer f s luma 0 b.y) (plane_answer f s luma 1 b.u)) b.v (plane_after f s luma 2 b.v))

pub record PlanesOffset (f : Frame) (s : Asked) (luma : List ℕ) (lent : Planes) (r : Applied) (left : Planes) : Type 0 where
  pub answer : r.answer ≡ planes_answer f s luma lent
  pub plane : r.plane ≡ refused_plane f s luma lent
  pub samples : left ≡ planes_after f s luma lent
