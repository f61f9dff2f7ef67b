-- `read_list` puts one entry after the other to the front of the list. Assumes nothing.
use Rattle.text.proofs.Filled.{entering as needs}
use Rattle.text.proofs.lists.read_list.Goals as goal

pub loop-i-init : goal.loop-i-init
loop-i-init g c = search needs

pub loop-i-preserved : goal.loop-i-preserved
loop-i-preserved g c = search needs

pub returns : goal.returns
returns g c = search needs
