-- `apply_edge_gated` gives each number exactly when document 01's test for it fails and those before it hold; and it accepts something.
-- Assumes nothing.
use mathlib.Core.Path.{◌≡◌, refl, ◌∙◌}
use mathlib.Core.List.{List, [], ◌∷◌}
use Prim.Native.Nat.{ℕ}
use lib.IntN.{ℤ, pos}
use lib.ListN.{replicate}
use Rattle.laws.specs.Choose.{pick, either, both, all}
use Rattle.rules.specs.declared.settings.Ccso.{Ccso}
use Rattle.rules.specs.Refusals.{Answer}
use Rattle.std.specs.declared.result.Result.TheVariants.{Ok}
use Rattle.rules.specs.Numbers.{depth_ok, top_of, in_range, in_range_z, subsampling_ok, down}
use Rattle.rules.specs.Refusals.{or_else, unless, found, sooner, first, found_if, found_unless, over_top, over_row}
use Rattle.rules.specs.Frame.{halved, superblocks}
use Rattle.rules.specs.Ccso.{target_width, target_height, ccso_sizes_ok, band_ok, offset_count, ccso_lengths_ok, ccso_settings_ok, offset_ok, bad_offset, ccso_check}
use Rattle.checks.specs.Exactly.{Exactly}
use Rattle.checks.proofs.Exactly.{exactly, else_joined}
use Rattle.ccso.specs.Exactly.{tests}

pub exactly_when : (s : Ccso) (luma flags : List ℕ) (offsets : List ℤ) (t : List ℕ) {r : Answer} → r ≡ ccso_check s luma flags offsets t → Exactly r (tests s luma flags offsets t)
unfolding ccso_check
exactly_when s luma flags offsets t e = exactly (tests s luma flags offsets t) refl (e ∙ rw else_joined)

-- one sample, its block on, all offsets 0
pub accepts : ccso_check record { width = 1; height = 1; ssx = 0; ssy = 0; depth = 8; scale = 1; lo = pos 0; hi = pos 0; below = 0; within = 1; above = 2; dx0 = pos 1; dy0 = pos 0; dx1 = pos 0; dy1 = pos 1; bandlog = 0 } (100 ∷ []) (1 ∷ []) (replicate 16 (pos 0)) (108 ∷ []) ≡ Ok tt
unfolding pick either both all depth_ok top_of in_range in_range_z subsampling_ok or_else unless found sooner first found_if found_unless over_top over_row halved superblocks target_width target_height ccso_sizes_ok band_ok offset_count ccso_lengths_ok ccso_settings_ok offset_ok bad_offset ccso_check down
accepts = refl
