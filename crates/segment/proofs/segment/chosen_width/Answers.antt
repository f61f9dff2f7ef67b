-- The lines read, and the width chosen from them: each step by its law.
use Rattle.segment.proofs.Edges.{read_room, choice_fits}
use Rattle.segment.proofs.Near.{chosen_near}
use Rattle.segment.proofs.segment.chosen_width.Goals as goal

pub read_lines-lines-requires : goal.read_lines-lines-requires
read_lines-lines-requires c = read_room _ c.requires.0 c.reach_before.ensures c.reach_after.ensures

pub filt_choice-requires : goal.filt_choice-requires
filt_choice-requires c = choice_fits _ c.requires.0 c.most_after-p.ensures c.requires.1

pub returns : goal.returns
returns c =
    let start = c in
    chosen_near start.args.e _ start.requires.0.pair_is c.reach_before.ensures c.reach_after.ensures c.read_lines-lines.ensures c.most_before-n.ensures c.most_after-p.ensures c.filt_choice.ensures
