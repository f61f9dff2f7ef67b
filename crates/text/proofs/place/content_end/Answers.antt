-- `content_end` looks for what ends the content. Assumes nothing.
use Rattle.laws.specs.Choose.{tests}
use Rattle.text.specs.Places.{remark, remark_at}
use Rattle.text.proofs.place.content_end.Goals as goal

pub returns-clause-value : goal.returns-clause-value
unfolding remark remark_at
returns-clause-value c = c.first.ensures.value remark (λ b r e. search tests)
