-- `run_noted` meets its contract: the walk is handed the keep marks that it has to look at. Assumes nothing.
use mir.Syntax.{w32}
use mir.Facts.{to_z-of_z}
use native.Mathlib.Omega.{arith}
use borrow.Author.Rules.{rules}
use Rattle.laws.specs.Lists.{front}
use Rattle.plane_checks.proofs.Accepted.{cells_fit}
use Rattle.plane.proofs.Accepting.{lengths, field_vert, field_horz, ran_plane}
use Rattle.plane.proofs.Marked.{noted_asked}
use Rattle.plane.proofs.run.run_noted.Goals as goal

pub asked-n-requires : goal.asked-n-requires
asked-n-requires c = (lengths _ _ _ c.requires.lengths).lists.keep

pub run-requires : goal.run-requires
run-requires c =
    let start = c.args in
    let its-struct-told2 = c.struct_told-2-1 in
    let its-thresholds-by-qindex = c.thresholds_by_qindex-levels in
    let its-table-of = c.table_of-table in
    let given = c.requires in
    let s = start.s in
    let told = its-struct-told2.given in
    let q_fits = to_z-of_z {w = w32} {z = s.deltaq} (record { sfits = told.1.1.1.1.1.1.1.1.1.0.1 }) in
    let side_fits = to_z-of_z {w = w32} {z = s.deltaside} (record { sfits = told.1.1.1.1.1.1.1.1.1.1.0.1 }) in
    let by = rw (q_fits, side_fits) at its-thresholds-by-qindex.ensures in
    let made = its-table-of.ensures in
    (field_vert _ _ _ _ _ _ _ (given) by made, field_horz _ _ _ _ _ _ _ (given) by made)

pub returns : goal.returns
returns c =
    let start = c.args in
    let its-struct-told2 = c.struct_told-2-1 in
    let its-thresholds-by-qindex = c.thresholds_by_qindex-levels in
    let given = c.requires in
    let its-asked = c.asked-n in
    let its-table-of = c.table_of-table in
    let its-run = c.run in
    let s = start.s in
    let told = its-struct-told2.given in
    let q_fits = to_z-of_z {w = w32} {z = s.deltaq} (record { sfits = told.1.1.1.1.1.1.1.1.1.0.1 }) in
    let side_fits = to_z-of_z {w = w32} {z = s.deltaside} (record { sfits = told.1.1.1.1.1.1.1.1.1.1.0.1 }) in
    let by = rw (q_fits, side_fits) at its-thresholds-by-qindex.ensures in
    noted_asked _ _ _ _ _ _ _ _ _ (given) its-asked.ensures
    (ran_plane _ _ _ _ _ _ _ (given) by its-table-of.ensures _ _ _ its-run.ensures)
