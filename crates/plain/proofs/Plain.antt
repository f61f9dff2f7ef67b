-- The plain order, which is the band of all rows, gives document 01's plane and counts. Assumes nothing.
use mathlib.Core.Path.{◌≡◌, sym, ◌∙◌}
use mathlib.Core.List.{List}
use Prim.Native.Nat.{ℕ, ◌≤◌}
use native.Mathlib.Nat.{le_refl}
use native.Mathlib.Omega.{arith}
use lib.ListN.{length}
use Rattle.laws.specs.Trace.{Same, and_then, same_eq}
use Rattle.rules.specs.declared.settings.Plane.{Plane}
use Rattle.rules.specs.Refusals.{Answer}
use Rattle.std.specs.declared.result.Result.TheVariants.{Ok}
use Rattle.rules.specs.Plane.{Grid, edges_of, plane_check, plane_after, plane_stored, plane_changed}
use Rattle.rules.specs.Rows.{band_of}
use Rattle.checks.proofs.Checks.{settle_accepted}
use Rattle.segment.specs.Boxes.{Free}
use Rattle.rules.specs.declared.counts.Visited.{Visited}
use Rattle.plane.specs.Checked.{Checked, Stated}
use Rattle.plane.proofs.Accepting.{checked}
use Rattle.orders.proofs.Plain.{edges_plain, same_run, same_stored, same_changed}
use Rattle.bands.specs.Ran.{RanBand}
use Rattle.bands.proofs.Bands.{whole_band}

module _ (s : Plane) (steps : List ℕ) (g : Grid) (l : List ℕ) {a : Answer} (is : a ≡ plane_check s steps g l) (e : a ≡ Ok tt) where
  ok : plane_check s steps g l ≡ Ok tt
  ok = sym is ∙ e

  -- what the run of all rows asks
  pub whole_asks : Checked s steps g (length l) × (0 ≤ s.rows) × (s.rows ≤ s.rows)
  whole_asks = (checked s steps g l ok, omega arith, le_refl s.rows)

  edges_whole : Same Free (edges_of s steps g) (band_of s steps g 0 s.rows)
  edges_whole = and_then (edges_plain s steps g whole_asks.0.sizes_ok) (same_eq (sym (whole_band s steps g)))

  -- an accepted plane in the plain order is as document 01's order leaves it
  pub stated_plain : {x : Visited} {m : List ℕ} → RanBand s steps g 0 s.rows l x m → Stated s steps g l (Ok (record { stored = x.stored; changed = x.changed })) m
  unfolding plane_after plane_stored plane_changed
  stated_plain run = record {
    answer = sym e ∙ is;
    plane = settle_accepted _ _ _ _ (sym e ∙ is) (run.plane ∙ sym (same_run s steps g l ok edges_whole));
    stored = settle_accepted _ _ _ _ (sym e ∙ is) (run.stored ∙ sym (same_stored s steps g l ok edges_whole));
    changed = settle_accepted _ _ _ _ (sym e ∙ is) (run.changed ∙ sym (same_changed s steps g l ok edges_whole));
  }
