-- Parts of the checks: the settings' in three, as the code makes it, and the samples'.
-- Assumes nothing.
use Rattle.std.specs.Prelude.{Bool, List, [], ◌∷◌, leb, ℕ, ◌*◌}
use Rattle.std.specs.Int.Signed.{le_z}
use Rattle.laws.specs.Choose.{all}
use Rattle.rules.specs.declared.settings.Ccso.{Ccso}
use Rattle.rules.specs.Numbers.{in_range}
use Rattle.rules.specs.declared.refusals.Refusal.TheVariants.{Sample}
use Rattle.rules.specs.Refusals.{Answer}
use Rattle.rules.specs.Numbers.{top_of}
use Rattle.rules.specs.Refusals.{or_else, found, over_row}
use Rattle.rules.specs.Ccso.{target_width, target_height, cut_ok, tap_ok, band_ok}

unfoldable pub cuts_ok : Ccso → Bool
cuts_ok s = all (in_range 1 16 s.scale ∷ cut_ok s.lo ∷ cut_ok s.hi ∷ le_z s.lo s.hi ∷ [])

unfoldable pub classes_ok : Ccso → Bool
classes_ok s = all (leb s.below 3 ∷ leb s.within 3 ∷ leb s.above 3 ∷ [])

unfoldable pub taps_ok : Ccso → Bool
taps_ok s = all (tap_ok s.dx0 ∷ tap_ok s.dy0 ∷ tap_ok s.dx1 ∷ tap_ok s.dy1 ∷ band_ok s ∷ [])

-- "for CCSO, at all of luma, then the target"
unfoldable pub samples_check : Ccso → List ℕ → List ℕ → Answer
samples_check s luma t =
    or_else (found (over_row (top_of s.depth) luma 0 (s.height * s.width)) Sample)
    (found (over_row (top_of s.depth) t 0 (target_height s * target_width s)) Sample)
