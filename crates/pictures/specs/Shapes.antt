-- The shape of a plane: that of a picture by its subsampling, and one within the largest, padded as a frame counts. Assumes nothing.
use Rattle.std.specs.Prelude.{◌≡◌, ℕ, ◌≤◌}
use Rattle.rules.specs.Frame.{up_to_eight, halved}
use Rattle.pictures.specs.declared.planes.Shape.{Shape}

-- a plane's size by the picture's, and the same rounded up to 8
unfoldable pub shape_of : ℕ → ℕ → ℕ → ℕ → Shape
shape_of width height ssx ssy =
    record {
      width = halved ssx width;
      height = halved ssy height;
      stride = up_to_eight (halved ssx width);
      rows = up_to_eight (halved ssy height);
    }

pub record ShapeFits (s : Shape) : Type 0 where
  pub some : 1 ≤ s.width
  pub wide : s.width ≤ s.stride
  pub stride : s.stride ≤ 4096
  pub high : s.height ≤ 4096
  pub rows : s.rows ≤ 4096
  pub padded : s.stride ≡ up_to_eight s.width
  pub padded_rows : s.rows ≡ up_to_eight s.height
