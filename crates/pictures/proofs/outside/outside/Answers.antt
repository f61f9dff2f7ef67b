-- `outside` walks to the first leaf beyond. Assumes nothing.
use borrow.Author.Rules.{rules}
use Rattle.pictures.proofs.Beyond.{finding as needs, is_outside, outside_is}
use Rattle.text.proofs.Seeking.{seek_here}
use Rattle.pictures.proofs.outside.outside.Goals as goal

pub returns-then-is_beyond : goal.returns-then-is_beyond
returns-then-is_beyond c =
    record {
      first = (search rules, outside_is _ _ _ _ c.loop-k.invariant.0 (seek_here _ _ _ _ c.loop-k-test.true (is_outside _ _ _ _ _ c.is_beyond.ensures c.if-is_beyond.true) c.loop-k.invariant.1));
      none = search rules;
    }

pub loop-k-preserved : goal.loop-k-preserved
loop-k-preserved c = search needs

pub returns : goal.returns
returns c = record { first = search needs; none = λ h. search needs }
