-- `read_plane` reads a row and puts it into the plane, a turn each. Assumes nothing.
use borrow.Author.Rules.{rules}
use Rattle.pictures.proofs.Places.{next_row}
use Rattle.pictures.proofs.Reading.{room_told, so_far_none, so_far_more}
use Rattle.pictures.proofs.planes.read_plane.Goals as goal

pub loop-r-init : goal.loop-r-init
loop-r-init c = search (rules, so_far_none)

pub loop-r-preserved : goal.loop-r-preserved
loop-r-preserved c =
    let i = c.loop-r.invariant in
    let put = c.put_row.ensures in
    let row = c.read_row-k.ensures in (
      search rules,
      search rules,
      search rules,
      search rules,
      search (rules, next_row),
      room_told _ _ _ _ put.value c.if-not-put_row.false-raw i.3,
      so_far_more _ _ _ _ _ _ _ _ _ _ _ i.4 i.6 row put.value c.if-not-put_row.false-raw put.plane_after,
    )
