-- What a built qindex grid holds: at each cell the entry of its superblock.
-- Assumes nothing.
use mathlib.Core.Path.{◌≡◌, sym, ◌∙◌}
use mathlib.Core.List.{List}
use Prim.Native.Nat.{ℕ, ◌+◌, ◌*◌, ◌<◌}
use native.Mathlib.Omega.{arith}
use lib.ListN.{length, get_or, length-set}
use lib.Seq.{get_or-set_other, get_or-set_same}
use Rattle.laws.specs.Loops.{turns_keep}
use Rattle.rules.specs.declared.settings.QindexGrid.{QindexGrid}
use Rattle.rules.specs.QindexGrid.{superblock_of, q_cell, q_row, q_grid_of}
use Rattle.tiles.proofs.Turns.{turns_hit}
use Rattle.tiles.proofs.Places.{same_row, same_col}

module _ (s : QindexGrid) (sbq : List ℕ) (r c : ℕ) (hr : r < s.rows) (hc : c < s.cols) where
  abbrev Is : ℕ → List ℕ → Type 0
  Is x l = get_or l (r * s.cols + c) 0 ≡ x

  abbrev Has : List ℕ → Type 0
  Has l = r * s.cols + c < length l

  q_has : (r' c' : ℕ) (l : List ℕ) → Has l → Has (q_cell s sbq r' c' l)
  unfolding q_cell
  q_has r' c' l h = rw length-set h

  q_miss : (r' c' x : ℕ) (l : List ℕ) → c' < s.cols → (r' ≡ r → c' ≡ c → ⊥) → Is x l → Is x (q_cell s sbq r' c' l)
  unfolding q_cell
  q_miss r' c' x l hc' off k =
      get_or-set_other l (r' * s.cols + c') (r * s.cols + c) _ 0
      (λ q. off (sym (same_row r r' c c' s.cols hc hc' q)) (sym (same_col r r' c c' s.cols hc hc' q)))
      ∙ k

  q_hit : (l : List ℕ) → Has l → Is (get_or sbq (superblock_of s (length sbq) r c) 0) (q_cell s sbq r c l)
  unfolding q_cell
  q_hit l h = get_or-set_same l (r * s.cols + c) _ 0 h

  -- a cell holds its superblock's entry
  pub q_cell_is : (l : List ℕ) → Has l → Is (get_or sbq (superblock_of s (length sbq) r c) 0) (q_grid_of s sbq l)
  unfolding q_grid_of q_row
  q_cell_is l k =
      turns_hit (Is (get_or sbq (superblock_of s (length sbq) r c) 0)) Has (λ j. q_row s sbq j) s.rows r l hr
      (λ j y q. turns_keep _ y Has s.cols q (λ c' z h. q_has j c' z)) k
      (λ y q. turns_hit (Is (get_or sbq (superblock_of s (length sbq) r c) 0)) Has (λ j. q_cell s sbq r j) s.cols c y hc (λ j z. q_has r j z) q q_hit (λ j z lt h. q_miss r j _ z h (λ a b. omega arith)))
      (λ j y lt h p. turns_keep (λ c'. q_cell s sbq j c') y (Is (get_or sbq (superblock_of s (length sbq) r c) 0)) s.cols p (λ c' z h'. q_miss j c' _ z h' (λ a b. omega arith)))
