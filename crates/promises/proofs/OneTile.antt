-- Ticket 5: "An empty list gives today's samples." With no tile start no vertical edge is shortened and 5 is given for the deltas alone, as document 01 says.
-- Assumes nothing.
use mathlib.Core.Path.{◌≡◌, refl, subst}
use mathlib.Core.Bool.{false}
use mathlib.Core.List.{List, []}
use Prim.Native.Nat.{ℕ, ◌*◌, ◌%◌}
use lib.Dec.{eqb}
use lib.ListN.{length, get_or}
use Rattle.laws.specs.Choose.{pick}
use Rattle.rules.specs.declared.settings.Plane.{Plane}
use Rattle.rules.specs.declared.refusals.Refusal.TheVariants.{Depth, Size, Length, Cell, Room, Sample}
use Rattle.std.specs.declared.result.Result.{Result}
use Rattle.rules.specs.declared.counts.Counts.{Counts}
use Rattle.rules.specs.declared.refusals.Refusal.{Refusal}
use Rattle.rules.specs.Numbers.{depth_ok}
use Rattle.rules.specs.Refusals.{or_else, unless, found, first}
use Rattle.rules.specs.Lengths.{pair_of}
use Rattle.rules.specs.Thresholds.{q_threshold, side_threshold, steps_check, deltas_check}
use Rattle.rules.specs.Plane.{keeping, cell_of, cell_before, index_at, starts_tile, shortened_at, edge_at, plane_sizes_ok, plane_lengths_ok, bad_start, tiles_check, bad_cell, no_room, over_plane, plane_check}
use Rattle.plane.specs.Checked.{Stated}

module _ (s : Plane) (steps v h w t q ks l : List ℕ) where
  -- "vertical edges never are"
  pub never_shortened : (r c : ℕ) → shortened_at s (keeping v h w t q [] ks) 0 r c ≡ false
  unfolding shortened_at starts_tile pick
  never_shortened r c = refl

  -- so every edge is document 01's, and with it the list of edges, its record, its plane and its counts
  pub edge_alone : (dir r c : ℕ) → edge_at s steps (keeping v h w t q [] ks) dir r c
      ≡ record {
        x = c * 4;
        y = r * 4;
        dir = dir;
        pair = pair_of (index_at s (keeping v h w t q [] ks) dir r c) s.chroma (pick (eqb dir 0) false (eqb (r % s.sbh) 0));
        q = q_threshold s.depth steps (get_or q (cell_of s r c) 0) (get_or q (cell_before s dir r c) 0) s.deltaq;
        side = side_threshold s.depth (get_or q (cell_of s r c) 0) (get_or q (cell_before s dir r c) 0) s.deltaside;
      }
  unfolding edge_at shortened_at starts_tile
  edge_alone dir r c = refl

  -- the checks are document 01's alone
  pub checks_alone : plane_check s steps (keeping v h w t q [] ks) l
      ≡ or_else (unless (depth_ok s.depth) Depth)
      (or_else (unless (plane_sizes_ok s) Size)
      (or_else (unless (plane_lengths_ok s (keeping v h w t q [] ks) (length l)) Length)
      (or_else (steps_check steps)
      (or_else (deltas_check s.deltaq s.deltaside)
      (or_else (found (bad_cell s (keeping v h w t q [] ks)) Cell)
      (or_else (found (no_room s (keeping v h w t q [] ks)) Room)
      (found (over_plane s l) Sample)))))))
  unfolding plane_check tiles_check bad_start first found or_else
  checks_alone = refl

  -- of whatever the entry may answer and leave with an empty list: answer, plane and counts are those of one tile
  pub empty_list : (ts : List ℕ) → ts ≡ [] → {a : Result Counts Refusal} {m : List ℕ} → Stated s steps (keeping v h w t q ts ks) l a m → Stated s steps (keeping v h w t q [] ks) l a m
  empty_list ts e {a} {m} done = subst (λ (us : List ℕ). Stated s steps (keeping v h w t q us ks) l a m) e done
