-- A sequence of calls, what its caller keeps to, and the picture that it sends.
-- Assumes nothing.
use Rattle.std.specs.Prelude.{◌≡◌, List, ℕ, zero, suc, ◌+◌, ◌*◌, ◌≤◌, ◌<◌, length, get_or}
use Rattle.rules.specs.declared.settings.Plane.{Plane}
use Rattle.rules.specs.declared.rows.RowState.{RowState}
use Rattle.rules.specs.declared.rows.RowsAnswer.{RowsAnswer}
use Rattle.std.specs.declared.result.Result.TheVariants.{Ok}
use Rattle.rules.specs.Plane.{Grid}
use Rattle.rules.specs.Rows.{fresh}
use Rattle.rows.specs.Stated.{Stated}

-- two planes have the same 4·mi_cols samples in each row from `from` up to `upto`
pub record SameRows (s : Plane) (from upto : ℕ) (l m : List ℕ) : Type 0 where
  pub at : (x y : ℕ) → x < 4 * s.cols → from ≤ y → y < upto → get_or l (y * s.stride + x) 0 ≡ get_or m (y * s.stride + x) 0

-- n calls, with "the same settings and grids each time": call k is handed the state st k, told that a k rows are filled and lent the plane lent k; it answers r k and leaves left k
pub record Calls (s : Plane) (steps : List ℕ) (g : Grid) (n : ℕ) (a : ℕ → ℕ) (st : ℕ → RowState) (lent left : ℕ → List ℕ) (r : ℕ → RowsAnswer) : Type 0 where
  pub stated : (k : ℕ) → k < n → Stated s steps g (st k) (a k) (lent k) (r k) (left k)
  -- "the caller begins with the state of held count 0"
  pub begins : st 0 ≡ fresh
  -- "hands each call the state that the last one answered"
  pub handed : (k : ℕ) → suc k < n → st (suc k) ≡ (r k).state
  -- "and hasn't altered filled rows"
  pub unaltered : (k : ℕ) → suc k < n → SameRows s 0 (a k) (lent (suc k)) (left k)

-- every call is accepted
pub record AllAccepted (n : ℕ) (r : ℕ → RowsAnswer) : Type 0 where
  pub each : (k : ℕ) → k < n → (r k).answer ≡ Ok tt

-- how many rows are filled before call k
abbrev pub held_at : (ℕ → ℕ) → ℕ → ℕ
held_at a zero = 0
held_at a (suc k) = a k

-- the calls send the picture p: each call's newly filled rows are the picture's, and the rows after them may hold anything
pub record Sends (s : Plane) (n : ℕ) (a : ℕ → ℕ) (lent : ℕ → List ℕ) (p : List ℕ) : Type 0 where
  pub new_rows : (k : ℕ) → k < n → SameRows s (held_at a k) (a k) (lent k) p
  pub long : (k : ℕ) → k < n → length (lent k) ≡ length p
