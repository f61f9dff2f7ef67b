-- A number as a type of its own: what is read where it fits, and that the line is given up where it does not. Assumes nothing.
use Rattle.std.specs.Prelude.{ℕ, ℤ, Bool, List, pos, neg_ℤ, ltb, false}
use Rattle.text.specs.declared.number.Cursor.{Cursor}
use Rattle.text.specs.declared.number.Number.{Number}
use Rattle.text.specs.declared.typed.Unsigned.{Unsigned}
use Rattle.text.specs.declared.typed.Signed.{Signed}
use Rattle.text.specs.declared.typed.Answered.{Answered}
use Rattle.text.specs.Numbers.{pick, number_at}

-- a cursor from which nothing more is read
unfoldable pub failed : Cursor → Cursor
failed c = record { at = c.end; end = c.end; good = false }

-- a number without a sign that is at most most
unfoldable pub unsigned_of : ℕ → Number → Unsigned
unsigned_of most n =
    pick n.negative (record { value = 0; rest = failed n.rest })
    (pick (ltb most n.size) (record { value = 0; rest = failed n.rest }) (record { value = n.size; rest = n.rest }))

-- a sign and a size as a number
abbrev pub signed : Bool → ℕ → ℤ
signed negative size = pick negative (neg_ℤ (pos size)) (pos size)

-- no i32 where it is below -2147483648
unfoldable pub below_zero : ℕ → Cursor → Signed
below_zero size rest = pick (ltb 2147483648 size) (record { value = pos 0; rest = failed rest }) (record { value = neg_ℤ (pos size); rest = rest })

-- no i32 where it is above 2147483647
unfoldable pub from_zero : ℕ → Cursor → Signed
from_zero size rest = pick (ltb 2147483647 size) (record { value = pos 0; rest = failed rest }) (record { value = pos size; rest = rest })

unfoldable pub signed_of : Number → Signed
signed_of n = pick n.negative (below_zero n.size n.rest) (from_zero n.size n.rest)

-- an answer: the refusal's number, 0 for none, and its place
unfoldable pub answered_at : List ℕ → Cursor → Answered
answered_at text c = told (unsigned_of 20 (number_at text c))
  where
    told : Unsigned → Answered
    told n = record {
      number = n.value;
      place = (unsigned_of 4294967295 (number_at text n.rest)).value;
      stored = 0;
      changed = 0;
      rest = (unsigned_of 4294967295 (number_at text n.rest)).rest;
    }

-- an answer with both counts after its place
unfoldable pub counted_at : List ℕ → Cursor → Answered
counted_at text c = counted (answered_at text c)
  where
    counted : Answered → Answered
    counted t = record {
      number = t.number;
      place = t.place;
      stored = (unsigned_of 4294967295 (number_at text t.rest)).value;
      changed = (unsigned_of 4294967295 (number_at text (unsigned_of 4294967295 (number_at text t.rest)).rest)).value;
      rest = (unsigned_of 4294967295 (number_at text (unsigned_of 4294967295 (number_at text t.rest)).rest)).rest;
    }
