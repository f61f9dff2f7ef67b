-- A frame's settings as a list of fifteen numbers, its check, what it leaves and what it counts.
-- Assumes nothing.
use Rattle.std.specs.Prelude.{◌≡◌, Bool, List, ℕ, eqb, leb, ℤ}
use Rattle.laws.specs.Choose.{both}
use Rattle.rules.specs.declared.settings.Frame.{Frame}
use Rattle.rules.specs.declared.refusals.Refusal.TheVariants.{Depth, Size}
use Rattle.rules.specs.Refusals.{Answer}
use Rattle.rules.specs.Numbers.{depth_ok}
use Rattle.rules.specs.Refusals.{or_else, unless, settle}
use Rattle.rules.specs.Frame.{Given, Lent, Done, or_done, frame_of, frame_stored, frame_changed}
use Rattle.numbers.specs.Settings.{count_at, number_at}
use Rattle.answers.specs.Told.{listed, tallied, Told}

-- has_chroma and chroma_deblock are 0 or 1
unfoldable pub frame_settings : List ℤ → Frame
frame_settings l = record {
  width = count_at l 0;
  height = count_at l 1;
  ssx = count_at l 2;
  ssy = count_at l 3;
  haschroma = eqb (count_at l 4) 1;
  chromadeblock = eqb (count_at l 5) 1;
  depth = count_at l 6;
  deltay = number_at l 7;
  deltauv = number_at l 8;
  lumastride = count_at l 9;
  chromastride = count_at l 10;
  capw = count_at l 11;
  caph = count_at l 12;
  ccapw = count_at l 13;
  ccaph = count_at l 14;
}

unfoldable pub flags_ok : List ℤ → Bool
flags_ok l = both (leb (count_at l 4) 1) (leb (count_at l 5) 1)

-- a flag other than 0 and 1 is refused by 2, after 1 as in document 01's order
unfoldable pub list_check : List ℤ → Answer
list_check l = listed 15 l (or_else (unless (depth_ok (count_at l 6)) Depth) (unless (flags_ok l) Size))

unfoldable pub c_frame_of : List ℤ → Given → Lent → Done
c_frame_of settings n l = or_done (list_check settings) l (frame_of (frame_settings settings) n l)

-- ticket 4: stored and changed samples; "A refusal reports zero for both."
unfoldable pub c_frame_stored : List ℤ → Given → Lent → ℕ
c_frame_stored settings n l = settle (list_check settings) 0 (frame_stored (frame_settings settings) n l)

unfoldable pub c_frame_changed : List ℤ → Given → Lent → ℕ
c_frame_changed settings n l = settle (list_check settings) 0 (frame_changed (frame_settings settings) n l)

-- what C is told: the answer r, and the lent lists and the counts afterwards
pub record FrameTold (settings : List ℤ) (n : Given) (l : Lent) (place counts : List ℕ) (r : ℤ) (left : Lent) (placed tally : List ℕ) : Type 0 where
  pub told : Told (c_frame_of settings n l).answer place r placed
  pub lists_are : left ≡ (c_frame_of settings n l).lists
  pub counts_are : tally ≡ tallied (c_frame_stored settings n l) (c_frame_changed settings n l) counts
