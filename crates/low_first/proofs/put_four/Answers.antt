-- `put_four` puts four bytes, low first. Assumes nothing.
use mathlib.Core.Path.{◌∙◌}
use Rattle.low_first.proofs.RoundTrip.{length_low_first, low_first_four, put_part}
use Rattle.low_first.proofs.put_four.Goals as goal

pub returns : goal.returns
returns c = put_part 4 _ _ _ c.args.at (c.copy_from_slice.ensures.after ∙ c.to_le_bytes.ensures ∙ low_first_four c.args.v) (length_low_first 4 c.args.v) c.requires
