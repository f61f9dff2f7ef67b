-- `is_frame` is put together from what its callees read. Assumes nothing.
use Rattle.y4m.proofs.Heading.{heading}
use Rattle.y4m.proofs.header.is_frame.Goals as goal

pub returns : goal.returns
returns c = search heading
