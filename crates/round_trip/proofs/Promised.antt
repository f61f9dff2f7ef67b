-- Demand 3 at every edge of an accepted record, each on the plane that the entries before it left, and that a sample within no edge's widths stays.
-- Assumes nothing.
use mathlib.Core.Path.{◌≡◌, ap, ◌∙◌}
use mathlib.Core.List.{List}
use Prim.Native.Nat.{ℕ, ◌*◌}
use lib.ListN.{get_or}
use Rattle.rules.specs.declared.settings.Replay.{Replay}
use Rattle.std.specs.declared.result.Result.TheVariants.{Ok}
use Rattle.std.specs.declared.result.Result.{Result}
use Rattle.rules.specs.declared.counts.Counts.{Counts}
use Rattle.rules.specs.declared.refusals.Refusal.{Refusal}
use Rattle.rules.specs.Refusals.{answered}
use Rattle.rules.specs.Numbers.{top_of}
use Rattle.rules.specs.Record.{edges_in}
use Rattle.rules.specs.Replay.{replay_check}
use Rattle.promises.specs.Edges.{EachEdge, SparedBy}
use Rattle.promises.proofs.Edges.{edges_promised, spared_kept}
use Rattle.replay.specs.Fit.{held, Replayed}
use Rattle.replay.proofs.Theorems.{accepted_inside, runs_entries}

pub replay_demand_3 : (s : Replay) (bytes keep l : List ℕ) → replay_check s bytes keep l ≡ Ok tt → EachEdge (top_of s.depth) s.stride (held s keep) (edges_in bytes) l
replay_demand_3 s bytes keep l ok = edges_promised (top_of s.depth) s.stride (held s keep) (4 * s.cols) (4 * s.rows) (edges_in bytes) l (accepted_inside s bytes keep l ok)

-- whatever the entry may leave of an accepted record
pub replay_kept : (s : Replay) (bytes keep l : List ℕ) {a : Result Counts Refusal} {m : List ℕ} → Replayed s bytes keep l a m → answered a ≡ Ok tt → (i : ℕ) → SparedBy (top_of s.depth) s.stride (held s keep) (edges_in bytes) l i
    → get_or m i 0 ≡ get_or l i 0
replay_kept s bytes keep l done ok i h =
    ap (λ (x : List ℕ). get_or x i 0) (runs_entries s bytes keep l done ok) ∙ spared_kept (top_of s.depth) s.stride (held s keep) (edges_in bytes) l i h
