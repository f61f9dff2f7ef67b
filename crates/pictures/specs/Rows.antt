-- Rows of a plane: from bytes with padding, without it, and to bytes. Assumes nothing.
use Rattle.std.specs.Prelude.{◌≡◌, Bool, false, List, [], ◌∷◌, ℕ, ◌+◌, ◌-◌, ◌*◌, ◌≤◌, min, leb, length, take, drop}
use Rattle.laws.specs.Choose.{pick}
use Rattle.laws.specs.Loops.{each}
use Rattle.y4m.specs.Rows.{padded_at, byte_of}
use Rattle.pictures.specs.Storing.{stored}
use Rattle.pictures.specs.declared.planes.Shape.{Shape}

-- how many bytes a row of a file has
unfoldable pub row_bytes : ℕ → Bool → ℕ
row_bytes width wide = pick wide (2 * width) width

-- a row of a file as samples, the last one again up to the stride
unfoldable pub padded_row : Bool → Shape → List ℕ → List ℕ
padded_row wide s bytes = each s.stride (λ k. padded_at wide s.width bytes k ∷ [])

-- a plane with that row at a place; as it was where the row does not fit
unfoldable pub row_put : Bool → Shape → List ℕ → ℕ → List ℕ → List ℕ
row_put wide s bytes at plane = pick (leb (at + s.stride) (length plane)) (stored plane at (padded_row wide s bytes)) plane

-- what can be said of a file's next row, of n bytes to a buffer's front: where there is no more, the buffer is as it was
pub record NextRow (more : Bool) (n : ℕ) (before after : List ℕ) (r : ℕ) : Type 0 where
  pub rest : drop n after ≡ drop n before
  pub same : more ≡ false → (r ≡ n) × (after ≡ before)

-- row r of a plane of rows of a file, which goes on with the last one
unfoldable pub file_row : Bool → Shape → (ℕ → List ℕ) → ℕ → List ℕ
file_row wide s bytes r = padded_row wide s (bytes (min r (s.height - 1)))

-- the plane has room for its rows, and they are the padded rows of a file, whose bytes are no part of the logic
pub record FilePlane (wide : Bool) (s : Shape) (before after : List ℕ) : Type 0 where
  pub bytes : ℕ → List ℕ
  pub whole : s.stride * s.rows ≤ length before
  pub plane : after ≡ stored before 0 (each s.rows (file_row wide s bytes))

-- row r of a plane without its padding; nothing where the plane ends before
unfoldable pub bare_row : Shape → List ℕ → ℕ → List ℕ
bare_row s plane r = pick (leb (s.stride * r + s.width) (length plane)) (take s.width (drop (s.stride * r) plane)) []

-- a plane whose rows follow each other from its front
unfoldable pub packed : Shape → List ℕ → List ℕ
packed s plane = stored plane 0 (each s.height (bare_row s plane))

-- n bytes of a row of samples, at the front of a buffer
unfoldable pub row_out : Bool → List ℕ → ℕ → List ℕ → List ℕ
row_out wide row n buffer = stored buffer 0 (each n (λ i. byte_of wide row i ∷ []))
