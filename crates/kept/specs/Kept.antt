-- What an edge next to kept cells stores: every sample of its window as the rules move it, less those that are kept.
-- Assumes nothing.
use Rattle.std.specs.Prelude.{◌≡◌, Bool, false, List, [], ◌∷◌, ◌++◌, ℕ, ◌+◌, ◌*◌, ◌-◌, ◌≤◌, ◌<◌, T, eqb, length, get_or, ℤ}
use Rattle.laws.specs.Boxes.{in_box}
use Rattle.laws.specs.Changes.{changes}
use Rattle.laws.specs.Loops.{each}
use Rattle.laws.specs.Outside.{outside}
use Rattle.laws.specs.Stores.{Store, puts}
use Rattle.laws.specs.Whole.{within}
use Rattle.rules.specs.declared.counts.Counts.{Counts}
use Rattle.rules.specs.declared.edge.Edge.{Edge}
use Rattle.rules.specs.declared.edge.Line.{Line}
use Rattle.rules.specs.Taps.{difference}
use Rattle.rules.specs.Width.{blank}
use Rattle.rules.specs.Segment.{p_at, q_at, stores_before, stores_after, kept_in}
use Rattle.taps.specs.Signed.{along, against}
use Rattle.segment.specs.Boxes.{write_box}
use Rattle.segment.specs.Fit.{InPlane}

-- ---- one side of a line, one line, and four

-- k stores of a side of width s, by D·W as a sign and a size, of the samples p of a window
abbrev pub along_line : ℕ → ℕ → ℕ → ℕ → Bool → ℕ → List ℕ → ℕ → List Store
along_line top at step s plus by p k = each k (λ i. (p_at at step i, along top (get_or p i 0) plus (by * (s - i))) ∷ [])

abbrev pub against_line : ℕ → ℕ → ℕ → ℕ → Bool → ℕ → List ℕ → ℕ → List Store
against_line top at step s plus by p k = each k (λ i. (q_at at step i, against top (get_or p i 0) plus (by * (s - i))) ∷ [])

-- D of a line, limited to ±m
abbrev pub limited_in : Line → ℕ → ℤ
limited_in l m = within m (difference (get_or l.p 1 0) (get_or l.p 0 0) (get_or l.q 0 0) (get_or l.q 1 0))

unfoldable pub line_open : ℕ → ℕ → ℕ → ℕ → ℕ → ℕ → Line → List Store
line_open top at step n w m l = stores_before top at step n (limited_in l m) l.p n ++ stores_after top at step w (limited_in l m) l.q w

unfoldable pub lines_open : ℕ → ℕ → ℕ → ℕ → ℕ → ℕ → ℕ → List Line → List Store
lines_open top at step line n w m ls = each 4 (λ j. line_open top (at + j * line) step n w m (get_or ls j blank))

-- ---- planes that hold the samples of a window

-- a side's, where each of them stands
pub record Holds (place : ℕ → ℕ) (s : ℕ) (p : List ℕ) (l : List ℕ) : Type 0 where
  pub at : (i : ℕ) → i < s → get_or l (place i) 0 ≡ get_or p i 0

-- a line's
pub record HoldsLine (at step n w : ℕ) (x : Line) (l : List ℕ) : Type 0 where
  pub before : Holds (p_at at step) n x.p l
  pub after : Holds (q_at at step) w x.q l

-- four lines'
pub record HoldsLines (at step line n w : ℕ) (ls : List Line) (l : List ℕ) : Type 0 where
  pub each_line : (j : ℕ) → j < 4 → HoldsLine (at + j * line) step n w (get_or ls j blank) l

-- ---- the plane m after those stores into q that are not kept, with the counts of these taken from n to r: on any plane that the window is of
pub record Swept (kept : ℕ → Bool) (ss : List Store) (Of : List ℕ → Type 0) (q : List ℕ) (n r : Counts) (m : List ℕ) : Type 0 where
  pub list : m ≡ puts (outside kept ss) q
  pub stored : r.stored ≡ n.stored + length (outside kept ss)
  pub changed : (l : List ℕ) → Of l → r.changed ≡ n.changed + changes (outside kept ss) l

-- by at most k more
pub record Few (k : ℕ) (n r : Counts) : Type 0 where
  pub stored_few : r.stored ≤ n.stored + k
  pub changed_few : r.changed ≤ n.changed + k

-- ---- an edge of some plane of samples that lie in rows of stride samples, size of them in all
pub record Somewhere (stride : ℕ) (e : Edge) (size : ℕ) : Type 0 where
  pub columns : ℕ
  pub rows : ℕ
  pub in_plane : InPlane stride columns rows e size

-- ---- an edge none of whose samples is kept

-- two cells before a cell in a line, it itself, and the next
pub record FourOpen (keep : List ℕ) (cell step : ℕ) : Type 0 where
  pub here : eqb (get_or keep cell 0) 1 ≡ false
  pub next : eqb (get_or keep (cell + step) 0) 1 ≡ false
  pub back : eqb (get_or keep (cell - step) 0) 1 ≡ false
  pub back_2 : eqb (get_or keep (cell - 2 * step) 0) 1 ≡ false

pub record Open (cols stride : ℕ) (keep : List ℕ) (e : Edge) : Type 0 where
  pub none : (k : ℕ) → T (in_box stride (write_box e) k) → kept_in cols stride keep k ≡ false
