-- Shifts to the left by a subsampling of 0 or 1, and the entry of a cell's superblock.
-- Assumes nothing.
use mathlib.Core.Path.{◌≡◌}
use Prim.Native.Nat.{ℕ, zero, suc, ◌+◌, ◌-◌, ◌*◌, ◌/◌, ◌≤◌, ◌<◌, min}
use mir.Val.{Fits}
use mir.Syntax.{w64}
use native.Mathlib.Nat.{mul-le-mul}
use native.Mathlib.Omega.{arith}
use Rattle.rules.specs.declared.settings.QindexGrid.{QindexGrid}
use Rattle.rules.specs.Numbers.{up}
use Rattle.rules.specs.QindexGrid.{superblock_of}
use Rattle.rounding.proofs.Shifts.{is_one}

pub up_none : (ss n : ℕ) → ss ≡ 0 → n ≡ up ss n
unfolding up
up_none ss n e = rw e (omega arith)

pub up_double : (ss n : ℕ) → ss ≤ 1 → (ss ≡ 0 → ⊥) → n * 2 ≡ up ss n
unfolding up
up_double ss n h f = rw (is_one ss h f)

-- a cell's superblock: the numbers fit, and its entry is there
up_most : (ss n : ℕ) → ss ≤ 1 → n < 1024 → up ss n ≤ 2046
unfolding up
up_most zero n a h = omega arith
up_most (suc k) n a h = let e : suc k ≡ 1 = omega arith in rw e (omega arith)

module _ (a ssy r : ℕ) (e : a ≡ up ssy r) (hy : ssy ≤ 1) (hr : r < 1024) (sbcols : ℕ) (hs : sbcols ≤ 128) where
  line_most : a / 16 * sbcols ≤ 127 * 128
  line_most = let m = up_most ssy r hy hr in let h : a / 16 ≤ 127 = omega arith in mul-le-mul h hs

  pub line_fits : Fits w64 (a / 16 * sbcols)
  line_fits = record { fits = omega (arith, line_most) }

  pub superblock_fits : (b ssx c : ℕ) → b ≡ up ssx c → ssx ≤ 1 → c < 1024 → Fits w64 (a / 16 * sbcols + b / 16)
  superblock_fits b ssx c f hx hc = let m = up_most ssx c hx hc in let h : b / 16 ≤ 127 = omega arith in record { fits = omega (arith, line_most) }

pub superblock_is : (s : QindexGrid) (count r c y x i : ℕ) → y ≡ up s.ssy r → x ≡ up s.ssx c → i ≡ min (y / 16 * s.sbcols + x / 16) (count - 1) → i ≡ superblock_of s count r c
unfolding superblock_of
superblock_is s count r c y x i e f h = rw (← e, ← f) h

pub superblock_below : (s : QindexGrid) (count r c i : ℕ) → 1 ≤ count → i ≡ superblock_of s count r c → i < count
unfolding superblock_of
superblock_below s count r c i h e = omega arith
