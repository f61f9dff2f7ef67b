-- The CCSO settings of a plane, number by number as they were read. Assumes nothing.
use mathlib.Core.Path.{◌≡◌}
use mathlib.Core.List.{List}
use Prim.Native.Nat.{ℕ, ◌+◌}
use lib.Dec.{eqb}
use lib.IntN.{ℤ}
use Rattle.laws.specs.Choose.{pick}
use Rattle.rules.specs.declared.settings.Frame.{Frame}
use Rattle.numbers.specs.Settings.{number_at, count_at}
use Rattle.by_settings.specs.Numbers.{offsets_from, ccso_asked}

module _ (f : Frame) (numbers : List ℤ) (p : ℕ) where
  pub ccso_read : {ssx ssy scale below within above bandlog : ℕ} {lo hi dx0 dy0 dx1 dy1 : ℤ}
      → ssx ≡ pick (eqb p 0) 0 f.ssx
      → ssy ≡ pick (eqb p 0) 0 f.ssy
      → scale ≡ count_at numbers (offsets_from p)
      → lo ≡ number_at numbers (offsets_from p + 1)
      → hi ≡ number_at numbers (offsets_from p + 2)
      → below ≡ count_at numbers (offsets_from p + 3)
      → within ≡ count_at numbers (offsets_from p + 4)
      → above ≡ count_at numbers (offsets_from p + 5)
      → dx0 ≡ number_at numbers (offsets_from p + 6)
      → dy0 ≡ number_at numbers (offsets_from p + 7)
      → dx1 ≡ number_at numbers (offsets_from p + 8)
      → dy1 ≡ number_at numbers (offsets_from p + 9)
      → bandlog ≡ count_at numbers (offsets_from p + 10)
      → record { width = f.width; height = f.height; ssx = ssx; ssy = ssy; depth = f.depth; scale = scale; lo = lo; hi = hi; below = below; within = within; above = above; dx0 = dx0; dy0 = dy0; dx1 = dx1; dy1 = dy1; bandlog = bandlog } ≡ ccso_asked f numbers p
  unfolding ccso_asked
  ccso_read e0 e1 e2 e3 e4 e5 e6 e7 e8 e9 e10 e11 e12 = rw (e0, e1, e2, e3, e4, e5, e6, e7, e8, e9, e10, e11, e12)
