-- `sizes_of` halves, shifts and counts as the rules do. Assumes nothing.
use Rattle.rules.specs.Ccso.{target_width, target_height}
use borrow.Author.Rules.{rules}
use Rattle.ccso_sample.proofs.counts.sizes_of.Goals as goal

pub returns : goal.returns
unfolding target_width target_height
returns c = search rules
