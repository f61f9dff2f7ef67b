-- The settings' numbers by their places, as the filters' own settings.
-- Assumes nothing.
use Rattle.std.specs.Prelude.{not, List, ℕ, ◌+◌, ◌*◌, eqb, ℤ}
use Rattle.laws.specs.Choose.{pick}
use Rattle.rules.specs.declared.settings.Frame.{Frame}
use Rattle.rules.specs.declared.settings.Ccso.{Ccso}
use Rattle.numbers.specs.Settings.{number_at, count_at}
use Rattle.y4m.specs.declared.header.Header.{Header}
use Rattle.by_settings.specs.Rooms.{numbers_each}

-- ---- where each number of a frame stands

-- luma's delta, and chroma's
abbrev pub deltay_at : ℕ
deltay_at = 1

abbrev pub deltauv_at : ℕ
deltauv_at = 2

-- luma's caps, and chroma's
abbrev pub capw_at : ℕ
capw_at = 3

abbrev pub caph_at : ℕ
caph_at = 4

abbrev pub ccapw_at : ℕ
ccapw_at = 5

abbrev pub ccaph_at : ℕ
ccaph_at = 6

-- 0 where chroma is not deblocked
abbrev pub chroma_at : ℕ
chroma_at = 7

-- ---- the settings that they make

unfoldable pub frame_asked : Header → List ℤ → ℕ → ℕ → Frame
frame_asked h numbers stride chromastride = record {
  width = h.width;
  height = h.height;
  ssx = h.layout.ssx;
  ssy = h.layout.ssy;
  haschroma = h.layout.chroma;
  chromadeblock = not (eqb (count_at numbers chroma_at) 0);
  depth = h.layout.depth;
  deltay = number_at numbers deltay_at;
  deltauv = number_at numbers deltauv_at;
  lumastride = stride;
  chromastride = chromastride;
  capw = count_at numbers capw_at;
  caph = count_at numbers caph_at;
  ccapw = count_at numbers ccapw_at;
  ccaph = count_at numbers ccaph_at;
}

-- where the eleven numbers of plane p begin: luma is 0, U is 1, V is 2
abbrev pub offsets_from : ℕ → ℕ
offsets_from p = numbers_each + numbers_each * p

-- scale, both cuts, the class numbers, two taps, band log2; luma has no subsampling
unfoldable pub ccso_asked : Frame → List ℤ → ℕ → Ccso
ccso_asked f numbers p = record {
  width = f.width;
  height = f.height;
  ssx = pick (eqb p 0) 0 f.ssx;
  ssy = pick (eqb p 0) 0 f.ssy;
  depth = f.depth;
  scale = count_at numbers (offsets_from p);
  lo = number_at numbers (offsets_from p + 1);
  hi = number_at numbers (offsets_from p + 2);
  below = count_at numbers (offsets_from p + 3);
  within = count_at numbers (offsets_from p + 4);
  above = count_at numbers (offsets_from p + 5);
  dx0 = number_at numbers (offsets_from p + 6);
  dy0 = number_at numbers (offsets_from p + 7);
  dx1 = number_at numbers (offsets_from p + 8);
  dy1 = number_at numbers (offsets_from p + 9);
  bandlog = count_at numbers (offsets_from p + 10);
}
