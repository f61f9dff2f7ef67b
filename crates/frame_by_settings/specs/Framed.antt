-- The frame by the settings' own lists, and where it was refused.
-- Assumes nothing.
use Rattle.std.specs.Prelude.{◌≡◌, List, ℕ, ◌≤◌, length, get_or, Result, Ok, Err, IfErr}
use Rattle.rules.specs.declared.settings.Frame.{Frame}
use Rattle.rules.specs.declared.refusals.Refusal.{Refusal}
use Rattle.rules.specs.declared.refusals.Refusal.TheVariants.{Depth, Size, Length, Steps, Setting, Cell, Room, Sample, Leaf, Buffer, Header, Cut, Entry, Filled, Spent}
use Rattle.rules.specs.Frame.{Planes, Given, given}
use Rattle.by_settings.specs.declared.places.Place.{Place}
use Rattle.by_settings.specs.declared.lists.Lists.{Lists}
use Rattle.by_settings.specs.Rooms.{fewest_shorts, steps_room, kinds, steps_kind}
use Rattle.by_settings.specs.Lists.{lists_asked, steps_asked, between}
use Rattle.by_settings.specs.Places.{in_steps, in_frame, place_in, sample_place, leaves_place}
use Rattle.frame_by_settings.specs.Deblocked.{Starts, Keeps, starts, Deblocked, room_place}
use Rattle.rules.specs.declared.counts.Counts.{Counts}
use Rattle.frame_by_settings.specs.declared.lists.Refused.{Refused}

-- how long the short numbers, the steps and the places are at least
pub record ListsLong (shorts steps places : ℕ) : Type 0 where
  pub shorts_long : fewest_shorts ≤ shorts
  pub steps_long : steps_room ≤ steps
  pub places_long : kinds ≤ places

-- the lists of a frame among the short numbers, and n steps
abbrev pub given_by : Lists → ℕ → List ℕ → List ℕ → Given
given_by l n shorts steps =
    given (between steps 0 n) (between shorts 0 l.entries) (between shorts l.leaves l.leavesend)
    (between shorts l.chroma l.chromaend)
    (between shorts l.skips l.skipsend)

-- as the settings have them
unfoldable pub given_asked : List ℕ → List ℕ → List ℕ → Given
given_asked shorts steps places = given_by (lists_asked (length shorts) places) (steps_asked (get_or places steps_kind 0)) shorts steps

-- the tile starts of luma and of chroma there
abbrev pub starts_by : Lists → List ℕ → Starts
starts_by l shorts = starts (between shorts l.tiles l.tilesend) (between shorts l.chromatiles l.chromatilesend)

unfoldable pub starts_asked : List ℕ → List ℕ → Starts
starts_asked shorts places = starts_by (lists_asked (length shorts) places) shorts

-- a sample, a cell, a leaf or a step; any other refusal is of the whole frame; ts are luma's tile starts
unfoldable pub refusal_place : Frame → Given → List ℕ → Planes → Refusal → Place
refusal_place f n ts p Depth = place_in in_frame 0 0
refusal_place f n ts p Size = place_in in_frame 0 0
refusal_place f n ts p Length = place_in in_frame 0 0
refusal_place f n ts p (Steps k) = place_in in_steps k 0
refusal_place f n ts p Setting = place_in in_frame 0 0
refusal_place f n ts p (Cell k) = place_in in_frame 0 0
refusal_place f n ts p (Room k) = room_place f n.leaves n.skips n.sbq ts k
refusal_place f n ts p (Sample k) = sample_place f p.y p.u k
refusal_place f n ts p (Leaf k) = leaves_place n.leaves n.chroma_leaves n.skips k
refusal_place f n ts p Buffer = place_in in_frame 0 0
refusal_place f n ts p Header = place_in in_frame 0 0
refusal_place f n ts p (Cut k) = place_in in_frame 0 0
refusal_place f n ts p (Entry k) = place_in in_frame 0 0
refusal_place f n ts p Filled = place_in in_frame 0 0
refusal_place f n ts p Spent = place_in in_frame 0 0

-- the answer without its place
abbrev pub answer_in : Result Counts Refused → Result Counts Refusal
answer_in (Ok n) = Ok n
answer_in (Err x) = Err x.refusal

-- the counts, or the refusal with its place, and the planes afterwards
pub record DeblockedAt (f : Frame) (n : Given) (t : Starts) (k : Keeps) (lent : Planes) (o : Result Counts Refused) (left : Planes) : Type 0 where
  pub deblocked : Deblocked f n t k lent (answer_in o) left
  pub place : IfErr o (λ x. x.place ≡ refusal_place f n t.luma lent x.refusal)
