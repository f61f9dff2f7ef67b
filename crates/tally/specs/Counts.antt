-- What is counted of a case, and when an answer is the stream's. Assumes nothing.
use Rattle.std.specs.Prelude.{ℕ, ◌+◌, ◌%◌, ◌^◌, Bool, List, [], ◌∷◌, ◌==◌, Option, None, Some, nat_lt, slice_index, slice_set}
use Rattle.laws.specs.Choose.{pick, both}
use Rattle.rules.specs.Refusals.{number_of, place_refused}
use Rattle.rules.specs.declared.refusals.Refusal.{Refusal}
use Rattle.rules.specs.Refusals.{Answer, answered, stored_in, changed_in}
use Rattle.std.specs.declared.result.Result.TheVariants.{Ok, Err}
use Rattle.std.specs.declared.result.Result.{Result}
use Rattle.rules.specs.declared.counts.Counts.{Counts}
use Rattle.tally.specs.declared.Tally.{Tally}
use Rattle.tally.specs.declared.Outcome.{Outcome}

-- a count and one more, as 64 bits hold it
unfoldable pub next_of : ℕ → ℕ
next_of n = (n + 1) % 2 ^ 64

-- one more at place k
unfoldable pub bumped : List ℕ → ℕ → List ℕ
bumped xs k = slice_set xs k (next_of (slice_index xs k))

abbrev pub counts : List ℕ → List ℕ → ℕ → ℕ → Tally
counts numbers widths different unread = record { numbers = numbers; widths = widths; different = different; unread = unread }

unfoldable pub no_counts : Tally
no_counts = counts (0 ∷ 0 ∷ 0 ∷ 0 ∷ 0 ∷ 0 ∷ 0 ∷ 0 ∷ 0 ∷ 0 ∷ 0 ∷ 0 ∷ 0 ∷ 0 ∷ 0 ∷ 0 ∷ 0 ∷ 0 ∷ 0 ∷ 0 ∷ 0 ∷ []) (0 ∷ 0 ∷ 0 ∷ 0 ∷ 0 ∷ 0 ∷ 0 ∷ 0 ∷ 0 ∷ []) 0 0

unfoldable pub unread_more : Tally → Tally
unread_more t = counts t.numbers t.widths t.different (next_of t.unread)

-- a line that is no case
unfoldable pub no_case : Tally → Bool → Tally
no_case t read = pick read t (unread_more t)

unfoldable pub different_more : Tally → Tally
different_more t = counts t.numbers t.widths (next_of t.different) t.unread

-- a number of document 01 or of a ticket, or 0; any other is a line that can't be read
unfoldable pub number_more : Tally → ℕ → Tally
number_more t n = pick (nat_lt n 21) (counts (bumped t.numbers n) t.widths t.different t.unread) (unread_more t)

unfoldable pub case_more : Tally → ℕ → Bool → Tally
case_more t n same = pick same (number_more t n) (different_more (number_more t n))

unfoldable pub width_more : Tally → ℕ → Tally
width_more t w = pick (nat_lt w 9) (counts t.numbers (bumped t.widths w) t.different t.unread) t

-- a width more, where there is one
unfoldable pub some_width_more : Tally → Option ℕ → Tally
some_width_more t None = t
some_width_more t (Some w) = width_more t w

-- a line more, and how its case came out if it could be read
unfoldable pub line_more : Tally → Option Outcome → Tally
line_more t None = unread_more t
line_more t (Some o) = some_width_more (case_more t o.number o.same) o.width

-- a refusal has this number and this place
unfoldable pub is_refusal : Refusal → ℕ → ℕ → Bool
is_refusal r n k = both (number_of r == n) (place_refused r == k)

-- an answer is what the stream says: accepted where the number is 0
unfoldable pub is_answer : Answer → ℕ → ℕ → Bool
is_answer (Ok tt) n k = n == 0
is_answer (Err r) n k = is_refusal r n k

-- an answer with its counts is what the stream says
unfoldable pub is_counted : Result Counts Refusal → ℕ → ℕ → ℕ → ℕ → Bool
is_counted a n k stored changed = both (stored_in a == stored) (both (changed_in a == changed) (is_answer (answered a) n k))

-- an answer with the counts that stand beside it, a refusal's too, is what the stream says
unfoldable pub is_counted_beside : Answer → Counts → ℕ → ℕ → ℕ → ℕ → Bool
is_counted_beside a c n k stored changed = both (c.stored == stored) (both (c.changed == changed) (is_answer a n k))
