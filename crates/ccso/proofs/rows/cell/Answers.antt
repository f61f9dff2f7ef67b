-- `cell` is one store of the rules, within the target. Assumes nothing.
use Rattle.ccso.proofs.Blocks.{stores}
use Rattle.ccso.proofs.rows.cell.Goals as goal

pub returns : goal.returns
returns c = search stores
