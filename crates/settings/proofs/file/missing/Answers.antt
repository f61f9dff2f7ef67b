-- `missing` asks one place after the other. Assumes nothing.
use Rattle.laws.specs.Choose.{tests}
use Rattle.settings.specs.Text.{missing_of}
use Rattle.settings.proofs.file.missing.Goals as goal

pub returns-else-alone-3 : goal.returns-else-alone-3
unfolding missing_of
returns-else-alone-3 c = search tests depth 8

pub returns-then-places-eq0 : goal.returns-then-places-eq0
unfolding missing_of
returns-then-places-eq0 c = search tests

pub returns-then-places-eq0-2 : goal.returns-then-places-eq0-2
unfolding missing_of
returns-then-places-eq0-2 c = search tests

pub returns-then-alone : goal.returns-then-alone
unfolding missing_of
returns-then-alone c = search tests

pub returns-then-alone-2 : goal.returns-then-alone-2
unfolding missing_of
returns-then-alone-2 c = search tests

pub returns-then-alone-3 : goal.returns-then-alone-3
unfolding missing_of
returns-then-alone-3 c = search tests depth 8
