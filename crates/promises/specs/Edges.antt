-- What a run of edges promises of each sample at each edge, as document 01's demand 3 says it of a segment, and ticket 7 of kept cells.
-- l is the plane as lent. Assumes nothing.
use Rattle.std.specs.Prelude.{◌≡◌, Bool, true, false, List, [], ◌∷◌, ◌++◌, ℕ, get_or}
use Rattle.rules.specs.declared.edge.Edge.{Edge}
use Rattle.rules.specs.declared.settings.Plane.{Plane}
use Rattle.rules.specs.Numbers.{top_of}
use Rattle.rules.specs.Segment.{run_edges}
use Rattle.rules.specs.Plane.{Grid, kept_by}
use Rattle.segment.specs.Promises.{Demand3, Outside}

-- ---- any list of edges, in rows of `stride` samples of 0..top, of which some may be kept

-- one edge: every sample that it stores lies near the ramp, and every sample outside of its widths or in a kept cell stays as the edge found it
pub record Promised (top stride : ℕ) (kept : ℕ → Bool) (e : Edge) (found left : List ℕ) : Type 0 where
  pub near : Demand3 top stride kept e found left
  pub beside : (i : ℕ) → Outside stride e found i → get_or left i 0 ≡ get_or found i 0
  pub held : (i : ℕ) → kept i ≡ true → get_or left i 0 ≡ get_or found i 0

-- every edge of a list, each on the plane that the edges before it left
pub record EachEdge (top stride : ℕ) (kept : ℕ → Bool) (es : List Edge) (l : List ℕ) : Type 0 where
  pub each_edge : (before after : List Edge) (e : Edge) → es ≡ before ++ (e ∷ after)
      → Promised top stride kept e (run_edges top stride kept before l) (run_edges top stride kept (before ++ (e ∷ [])) l)

-- a place outside of the widths of every edge of a list, each on the plane that the edges before it left
pub record SparedBy (top stride : ℕ) (kept : ℕ → Bool) (es : List Edge) (l : List ℕ) (i : ℕ) : Type 0 where
  pub outside : (before after : List Edge) (e : Edge) → es ≡ before ++ (e ∷ after) → Outside stride e (run_edges top stride kept before l) i

-- ---- the same with a plane's depth, stride and keep marks

abbrev pub left_by : Plane → Grid → List Edge → List ℕ → List ℕ
left_by s g es l = run_edges (top_of s.depth) s.stride (kept_by s g) es l

abbrev pub EachPromised : Plane → Grid → List Edge → List ℕ → Type 0
EachPromised s g es l = EachEdge (top_of s.depth) s.stride (kept_by s g) es l

abbrev pub Spared : Plane → Grid → List Edge → List ℕ → ℕ → Type 0
Spared s g es l i = SparedBy (top_of s.depth) s.stride (kept_by s g) es l i
