-- `ladder::filter_lengths` meets its contract: each rung by its size index, plane kind and shortening.
-- Assumes nothing.
use Rattle.rules.specs.Lengths.{pair_of}
use Rattle.lengths.proofs.Picks.{ladders}
use Rattle.lengths.proofs.ladder.filter_lengths.Goals as goal

pub returns-in-0-default-default : goal.returns-in-0-default-default
unfolding pair_of
returns-in-0-default-default c = search ladders depth 14

pub returns-in-1-true-true : goal.returns-in-1-true-true
unfolding pair_of
returns-in-1-true-true c = search ladders depth 14

pub returns-in-1-default-default : goal.returns-in-1-default-default
unfolding pair_of
returns-in-1-default-default c = search ladders depth 14

pub returns-in-1-default-default-2 : goal.returns-in-1-default-default-2
unfolding pair_of
returns-in-1-default-default-2 c = search ladders depth 14

pub returns-in-2-true-true : goal.returns-in-2-true-true
unfolding pair_of
returns-in-2-true-true c = search ladders depth 14

pub returns-in-2-true-false : goal.returns-in-2-true-false
unfolding pair_of
returns-in-2-true-false c = search ladders depth 14

pub returns-in-2-false-default : goal.returns-in-2-false-default
unfolding pair_of
returns-in-2-false-default c = search ladders depth 14

pub returns-in_default-false-true : goal.returns-in_default-false-true
unfolding pair_of
returns-in_default-false-true c = let n = c.in_default-false-true.is-0 in search (ladders, n.0.0, n.0.1, n.1) depth 14

pub returns-in_default-false-false : goal.returns-in_default-false-false
unfolding pair_of
returns-in_default-false-false c = let n = c.in_default-false-false.is-0 in search (ladders, n.0.0, n.0.1, n.1) depth 14

pub returns-in_default-true-true : goal.returns-in_default-true-true
unfolding pair_of
returns-in_default-true-true c = let n = c.in_default-true-true.is-0 in search (ladders, n.0.0, n.0.1, n.1) depth 14

pub returns-in_default-true-false : goal.returns-in_default-true-false
unfolding pair_of
returns-in_default-true-false c = let n = c.in_default-true-false.is-0 in search (ladders, n.0.0, n.0.1, n.1) depth 14
