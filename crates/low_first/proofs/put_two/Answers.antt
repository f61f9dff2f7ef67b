-- `put_two` puts two bytes, low first. Assumes nothing.
use mathlib.Core.Path.{◌∙◌}
use Rattle.low_first.proofs.RoundTrip.{length_low_first, low_first_two, put_part}
use Rattle.low_first.proofs.put_two.Goals as goal

pub returns : goal.returns
returns c = put_part 2 _ _ _ c.args.at (c.copy_from_slice.ensures.after ∙ c.to_le_bytes.ensures ∙ low_first_two c.args.v) (length_low_first 2 c.args.v) c.requires
