-- `run_band` meets its contract: the sweeps are handed the keep marks that they have to look at. Assumes nothing.
use mir.Syntax.{w32}
use mir.Facts.{to_z-of_z}
use borrow.Author.Rules.{rules}
use Rattle.laws.specs.Lists.{front}
use Rattle.plane_checks.proofs.Accepted.{cells_fit}
use Rattle.plane.proofs.Accepting.{lengths, of_table, field_vert, field_horz}
use Rattle.bands.proofs.Bands.{band_asked}
use Rattle.bands.proofs.band.run_band.Goals as goal

pub asked-n-requires : goal.asked-n-requires
asked-n-requires c = (lengths _ _ _ c.requires.0.lengths).lists.keep

pub both_ways-requires : goal.both_ways-requires
both_ways-requires c =
    let s = c.args.s in
    let told = c.struct_told-2-1.given in
    let q_fits = to_z-of_z {w = w32} {z = s.deltaq} (record { sfits = told.1.1.1.1.1.1.1.1.1.0.1 }) in
    let side_fits = to_z-of_z {w = w32} {z = s.deltaside} (record { sfits = told.1.1.1.1.1.1.1.1.1.1.0.1 }) in
    let by = rw (q_fits, side_fits) at c.thresholds_by_qindex-levels.ensures in
    let made = c.table_of-table.ensures in
    let given = c.requires in
    (field_vert _ _ _ _ _ _ _ given.0 by made, field_horz _ _ _ _ _ _ _ given.0 by made, given.1, given.2)

pub returns : goal.returns
returns c =
    let s = c.args.s in
    let told = c.struct_told-2-1.given in
    let q_fits = to_z-of_z {w = w32} {z = s.deltaq} (record { sfits = told.1.1.1.1.1.1.1.1.1.0.1 }) in
    let side_fits = to_z-of_z {w = w32} {z = s.deltaside} (record { sfits = told.1.1.1.1.1.1.1.1.1.1.0.1 }) in
    let by = rw (q_fits, side_fits) at c.thresholds_by_qindex-levels.ensures in
    let given = c.requires in
    band_asked _ _ _ _ _ _ _ _ _ _ given.0 given.1 given.2 c.asked-n.ensures
    (c.both_ways.ensures _ _ (of_table _ _ _ _ _ _ _ given.0 by c.table_of-table.ensures))
