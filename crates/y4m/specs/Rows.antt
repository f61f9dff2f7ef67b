-- Rows of samples as bytes: one byte a sample, or two with the low one first. Assumes nothing.
use Rattle.std.specs.Prelude.{ℕ, ◌-◌, ◌*◌, ◌%◌, List, Bool, get_or, ltb}
use Rattle.laws.specs.Choose.{pick}
use Rattle.low_first.specs.Bytes.{number_in, byte_at}

-- sample k of a row of bytes
unfoldable pub sample_at : Bool → List ℕ → ℕ → ℕ
sample_at wide bytes k = pick wide (number_in 2 bytes (2 * k)) (get_or bytes k 0)

-- the same of a row that goes on with its last sample
unfoldable pub padded_at : Bool → ℕ → List ℕ → ℕ → ℕ
padded_at wide width bytes k = sample_at wide bytes (pick (ltb k width) k (width - 1))

-- byte i of a row of samples
unfoldable pub byte_of : Bool → List ℕ → ℕ → ℕ
byte_of wide row i = pick wide (byte_at 2 row i) (get_or row i 0 % 256)
