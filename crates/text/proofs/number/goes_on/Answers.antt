-- `goes_on` says whether a byte is a digit that there is room for. Assumes nothing.
use Rattle.text.proofs.Runs.{digit_yes, digit_no}
use Rattle.text.proofs.number.goes_on.Goals as goal

pub returns-then-is_ascii_digit : goal.returns-then-is_ascii_digit
returns-then-is_ascii_digit c = digit_yes c.args.b c.args.value (rw c.if-is_ascii_digit.true at c.is_ascii_digit.ensures.cases)

pub returns-else-is_ascii_digit : goal.returns-else-is_ascii_digit
returns-else-is_ascii_digit c = rw c.if-is_ascii_digit.false (digit_no c.args.b c.args.value (rw c.if-is_ascii_digit.false at c.is_ascii_digit.ensures.cases))
