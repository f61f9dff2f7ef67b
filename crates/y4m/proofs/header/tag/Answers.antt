-- `tag` walks to the first such letter. Assumes nothing.
use borrow.Author.Rules.{rules}
use Rattle.y4m.proofs.Heading.{tagging as needs, tag_over}
use Rattle.y4m.proofs.header.tag.Goals as goal

pub returns-then-is_tag : goal.returns-then-is_tag
returns-then-is_tag c = search needs

pub loop-at-preserved : goal.loop-at-preserved
loop-at-preserved c = search needs

pub returns : goal.returns
returns c = record { value = tag_over _ _ _ c.loop-at.invariant.1 (search rules); upper_bound = search rules }
