-- `read_header` is put together from what its callees read. Assumes nothing.
use Rattle.y4m.proofs.Heading.{heading as needs}
use Rattle.y4m.proofs.header.read_header.Goals as goal

pub returns : goal.returns
returns c = search needs
