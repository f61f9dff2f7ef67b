-- The keep marks of luma and of chroma by the settings' rectangles: luma's cells are the rectangles' own, chroma's by its subsampling. Assumes nothing.
use Rattle.std.specs.Prelude.{◌≡◌, ℕ, ◌/◌, List}
use Rattle.y4m.specs.declared.header.Header.{Header}
use Rattle.pictures.specs.declared.planes.Shape.{Shape}
use Rattle.by_settings.specs.declared.kept.Cells.{Cells}
use Rattle.by_settings.specs.Kept.{kept_asked}

-- a plane's cells of 4x4 samples, its size rounded up to 8
abbrev pub cells_of : Shape → ℕ → ℕ → Cells
cells_of s ssx ssy =
    record {
      cols = s.stride / 4;
      rows = s.rows / 4;
      ssx = ssx;
      ssy = ssy;
    }

-- the marks k and m afterwards, of marks keep and chroma
pub record Marked (h : Header) (l c : Shape) (shorts places keep chroma k m : List ℕ) : Type 0 where
  pub of_luma : k ≡ kept_asked (cells_of l 0 0) shorts places keep
  pub of_chroma : m ≡ kept_asked (cells_of c h.layout.ssx h.layout.ssy) shorts places chroma
