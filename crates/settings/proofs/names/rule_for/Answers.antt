-- `rule_for` tells the kinds apart. Assumes nothing.
use mathlib.Core.Path.{◌∙◌}
use Rattle.laws.specs.Choose.{pick}
use Rattle.settings.specs.Rules.{tiles_from, keeps_from, rule_of}
use Rattle.settings.proofs.names.rule_for.Goals as goal

pub returns-in-Version : goal.returns-in-Version
unfolding rule_of pick
returns-in-Version c = c.put.ensures ∙ rw c.in-Version.is

pub returns-in-Qindex : goal.returns-in-Qindex
unfolding rule_of pick
returns-in-Qindex c = c.put-in-Qindex.ensures ∙ rw c.in-Qindex.is

pub returns-in-Steps : goal.returns-in-Steps
unfolding rule_of pick
returns-in-Steps c = c.put-in-Steps.ensures ∙ rw c.in-Steps.is

pub returns-in-Leaf : goal.returns-in-Leaf
unfolding rule_of pick
returns-in-Leaf c = rw c.in-Leaf.is (cc)

pub returns-in-LeafUv : goal.returns-in-LeafUv
unfolding rule_of pick
returns-in-LeafUv c = rw c.in-LeafUv.is (cc)

pub returns-in-Skip : goal.returns-in-Skip
unfolding rule_of pick
returns-in-Skip c = rw c.in-Skip.is (cc)

pub returns-in-DeltaY : goal.returns-in-DeltaY
unfolding rule_of pick
returns-in-DeltaY c = c.put-in-DeltaY.ensures ∙ rw c.in-DeltaY.is

pub returns-in-DeltaUv : goal.returns-in-DeltaUv
unfolding rule_of pick
returns-in-DeltaUv c = c.put-in-DeltaUv.ensures ∙ rw c.in-DeltaUv.is

pub returns-in-CapY : goal.returns-in-CapY
unfolding rule_of pick
returns-in-CapY c = c.put-in-CapY.ensures ∙ rw c.in-CapY.is

pub returns-in-CapUv : goal.returns-in-CapUv
unfolding rule_of pick
returns-in-CapUv c = c.put-in-CapUv.ensures ∙ rw c.in-CapUv.is

pub returns-in-Chroma : goal.returns-in-Chroma
unfolding rule_of pick
returns-in-Chroma c = c.put-in-Chroma.ensures ∙ rw c.in-Chroma.is

pub returns-in-CcsoY : goal.returns-in-CcsoY
unfolding rule_of pick
returns-in-CcsoY c = c.put-in-CcsoY.ensures ∙ rw c.in-CcsoY.is

pub returns-in-CcsoU : goal.returns-in-CcsoU
unfolding rule_of pick
returns-in-CcsoU c = c.put-in-CcsoU.ensures ∙ rw c.in-CcsoU.is

pub returns-in-CcsoV : goal.returns-in-CcsoV
unfolding rule_of pick
returns-in-CcsoV c = c.put-in-CcsoV.ensures ∙ rw c.in-CcsoV.is

pub returns-in-FlagsY : goal.returns-in-FlagsY
unfolding rule_of pick
returns-in-FlagsY c = c.put-in-FlagsY.ensures ∙ rw c.in-FlagsY.is

pub returns-in-FlagsU : goal.returns-in-FlagsU
unfolding rule_of pick
returns-in-FlagsU c = c.put-in-FlagsU.ensures ∙ rw c.in-FlagsU.is

pub returns-in-FlagsV : goal.returns-in-FlagsV
unfolding rule_of pick
returns-in-FlagsV c = c.put-in-FlagsV.ensures ∙ rw c.in-FlagsV.is

pub returns-in-OffsetY : goal.returns-in-OffsetY
unfolding rule_of pick
returns-in-OffsetY c = c.put-in-OffsetY.ensures ∙ rw c.in-OffsetY.is

pub returns-in-OffsetU : goal.returns-in-OffsetU
unfolding rule_of pick
returns-in-OffsetU c = c.put-in-OffsetU.ensures ∙ rw c.in-OffsetU.is

pub returns-in-OffsetV : goal.returns-in-OffsetV
unfolding rule_of pick
returns-in-OffsetV c = c.put-in-OffsetV.ensures ∙ rw c.in-OffsetV.is

pub returns-in-TilesY : goal.returns-in-TilesY
unfolding rule_of tiles_from pick
returns-in-TilesY c = rw c.in-TilesY.is (cc)

pub returns-in-TilesUv : goal.returns-in-TilesUv
unfolding rule_of tiles_from pick
returns-in-TilesUv c = rw c.in-TilesUv.is (cc)

pub returns-in-Keep : goal.returns-in-Keep
unfolding rule_of keeps_from tiles_from pick
returns-in-Keep c = rw c.in-Keep.is (cc)
