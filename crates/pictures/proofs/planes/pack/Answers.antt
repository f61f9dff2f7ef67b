-- `pack` moves a row a turn, towards the front. Assumes nothing.
use borrow.Author.Rules.{rules}
use borrow.Author.Count.{below_more}
use Rattle.pictures.proofs.Copies.{moved}
use Rattle.pictures.proofs.Places.{next_row}
use Rattle.pictures.proofs.Packing.{Holds, at_row, pack_more, packing}
use Rattle.pictures.proofs.planes.pack.Goals as goal

pub loop-r-init : goal.loop-r-init
loop-r-init c = search packing

pub returns-then-plane-from : goal.returns-then-plane-from
returns-then-plane-from c = search packing

pub loop-r-preserved : goal.loop-r-preserved
loop-r-preserved c =
    let i = c.loop-r.invariant in
    let h : Holds c.args.s c.args.plane.now c.loop-r._r =
    at_row c.args.s c.args.plane.now _ _ _ c.if-plane-from.false i.3 i.4
    in (
      search rules,
      search rules,
      search rules,
      search rules,
      next_row _ _ _ i.4,
      next_row _ _ _ i.5,
      below_more _ _ i.6 h,
      pack_more _ _ _ _ _ c.requires i.4 i.5 h i.6 i.7 (moved _ _ _ _ c.if-plane-from.false (search rules) c.copy_within.ensures.after),
    )

pub returns : goal.returns
returns c = search packing
