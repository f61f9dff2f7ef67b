-- `block` keeps its columns where the flag is 0, else moves each. Assumes nothing.
use Rattle.ccso.proofs.Blocks.{blocks, flag_below, start_below, count_le}
use Rattle.ccso_sample.proofs.Places.{width_most, block_most}
use native.Mathlib.Omega.{arith}
use Rattle.ccso.proofs.rows.block.Goals as goal

pub overflow_add-at : goal.overflow_add-at
overflow_add-at c = search blocks

pub bounds-flags-at : goal.bounds-flags-at
bounds-flags-at c = omega (arith, (flag_below c.requires.raised.ranges c.requires.row_of _ c.requires.b_bound), c.requires.ccso_fits.flags)

pub returns-then-flag-eq0 : goal.returns-then-flag-eq0
returns-then-flag-eq0 c = search blocks

pub overflow_mul-start : goal.overflow_mul-start
overflow_mul-start c =
    record {
      fits =
          rw
          c.requires.sized.blockw
          (omega (
            arith,
            (start_below c.requires.raised.ranges c.requires.row_of _ c.requires.b_bound),
            width_most c.requires.raised.ranges,
          ));
    }

pub overflow_add-start : goal.overflow_add-start
overflow_add-start c =
    record {
      fits =
          rw
          c.requires.sized.blockw
          (omega (
            arith,
            (start_below c.requires.raised.ranges c.requires.row_of _ c.requires.b_bound),
            width_most c.requires.raised.ranges,
            block_most _ c.requires.raised.ranges.ssx_most,
          ));
    }

pub overflow_sub-end : goal.overflow_sub-end
overflow_sub-end c = search blocks

pub cells-requires : goal.cells-requires
cells-requires c = record {
  raised = c.requires.raised;
  row_of = c.requires.row_of;
  lit = (c.requires.ccso_fits.lit, c.requires.ccso_fits.small, c.requires.ccso_fits.target);
  count_bound = count_le
      c.requires.raised.ranges
      c.requires.row_of
      _
      c.requires.b_bound
      c.requires.sized
      _
      c.min-end.ensures;
}

pub returns : goal.returns
returns c = search blocks
