-- What a row of the target is made of, and what the lent lists promise the run.
-- Assumes nothing.
use Rattle.std.specs.Prelude.{List, ℕ, ◌+◌, ◌*◌, ◌-◌, ◌≤◌, min, get_or, set, ℤ}
use Rattle.laws.specs.Loops.{turns}
use Rattle.rules.specs.declared.settings.Ccso.{Ccso}
use Rattle.rules.specs.Numbers.{down}
use Rattle.rules.specs.Frame.{superblocks}
use Rattle.rules.specs.Ccso.{target_width, target_height, ccso_cell}
use Rattle.ccso_sample.specs.Lists.{Lit, Small, moved_at}

-- one store of the run, where the block's flag is on
unfoldable pub moved_cell : Ccso → List ℕ → List ℤ → ℕ → ℕ → List ℕ → List ℕ
moved_cell s luma offsets y x t =
    set t (y * target_width s + x) (moved_at s luma offsets x y (get_or t (y * target_width s + x) 0))

-- every list of the run: what luma and the offsets promise, and a target of n samples and m flags that are long enough
pub record CcsoFits (s : Ccso) (luma : List ℕ) (offsets : List ℤ) (n m : ℕ) : Type 0 where
  pub lit : Lit s luma
  pub small : Small s offsets
  pub target : target_height s * target_width s ≤ n
  pub flags : superblocks s.height * superblocks s.width ≤ m

-- how many columns of a row stand before block b
unfoldable pub columns_to : Ccso → ℕ → ℕ
columns_to s b = min (b * down s.ssx 64) (target_width s)

-- the columns of block b of row y, as the rules have them
unfoldable pub block_row : Ccso → List ℕ → List ℕ → List ℤ → ℕ → ℕ → List ℕ → List ℕ
block_row s luma flags offsets y b t =
    turns (columns_to s (b + 1) - columns_to s b) (λ j. ccso_cell s luma flags offsets y (columns_to s b + j)) t
