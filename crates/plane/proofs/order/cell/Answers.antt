-- `cell` meets its contract. Assumes nothing.
use borrow.Author.Rules.{rules}
use Rattle.plane.proofs.Runs.{field_as}
use Rattle.plane.proofs.Superblocks.{row_in, column_in, is_one, row_visit, column_visit}
use Rattle.plane.proofs.order.cell.Goals as goal

pub in_row-requires : goal.in_row-requires
in_row-requires c =
    let given = c.requires in
    let branch = c.if-dir-eq0 in
    (field_as branch.true given.0, given.1, (row_in given.2 branch.true).0, (row_in given.2 branch.true).1, given.3)

pub returns-then-dir-eq0 : goal.returns-then-dir-eq0
returns-then-dir-eq0 c =
    let done = c.in_row.ensures in
    record { ran = row_visit _ c.args.p _ _ c.if-dir-eq0.true done.ran; few = done.few }

pub in_column-requires : goal.in_column-requires
in_column-requires c =
    let given = c.requires in
    let branch = c.if-dir-eq0 in
    (field_as (is_one given.2.two branch.false) given.0, given.1, (column_in given.2 branch.false).0, (column_in given.2 branch.false).1, given.3)

pub returns : goal.returns
returns c =
    let given = c.requires in
    let done = c.in_column.ensures in
    record { ran = column_visit _ c.args.p _ _ (is_one given.2.two c.if-dir-eq0.false) done.ran; few = done.few }
