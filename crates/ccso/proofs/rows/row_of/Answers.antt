-- `row_of` finds where the row's lists start; its products fit. Assumes nothing.
use Rattle.ccso_sample.proofs.Places.{row_starts as needs, line, height_most, width_most, product_fits, block_some, blocks_most, tap_row_is}
use Rattle.rules.specs.Numbers.{up}
use native.Mathlib.Nat.{div-le_self}
use native.Mathlib.Omega.{arith}
use mathlib.Core.Path.{refl, ap}
use Prim.Native.Nat.{ℕ, ◌*◌}
use Rattle.ccso.proofs.rows.row_of.Goals as goal

pub overflow_mul-at : goal.overflow_mul-at
overflow_mul-at c = search needs

pub limited-row0-requires : goal.limited-row0-requires
limited-row0-requires c = search needs

pub limited-row1-requires : goal.limited-row1-requires
limited-row1-requires c = search needs

pub overflow_mul-result : goal.overflow_mul-result
overflow_mul-result c = product_fits _ _ (omega (arith, c.requires.y_bound, height_most c.requires.raised.ranges)) (omega (arith, c.requires.sized.width, width_most c.requires.raised.ranges))

pub overflow_mul-result-2 : goal.overflow_mul-result-2
overflow_mul-result-2 c = product_fits _ _ (omega (arith, line c.requires.raised _ c.requires.y_bound, c.requires.raised.ranges.height_most)) c.requires.raised.ranges.width_most

pub nonzero_div-result : goal.nonzero_div-result
nonzero_div-result c = rw c.requires.sized.blockh (block_some _ c.requires.raised.ranges.ssy_most)

pub overflow_mul-result-5 : goal.overflow_mul-result-5
overflow_mul-result-5 c =
    product_fits _ _
    (omega (arith, div-le_self c.args.y c.args.z.blockh, c.requires.y_bound, height_most c.requires.raised.ranges))
    (omega (arith, c.requires.sized.blocks, blocks_most c.requires.raised.ranges))

pub returns : goal.returns
unfolding up
returns c =
    let u = c.requires.raised in
    let z = c.requires.sized in (
      record {
        inside = c.requires.y_bound;
        at = rw z.width;
        centre = rw u.down;
        tap0 = ap (λ (n : ℕ). n * c.args.s.width) (tap_row_is u _ _ _ (c.limited-row0.ensures.1 _ u.dy0));
        tap1 = ap (λ (n : ℕ). n * c.args.s.width) (tap_row_is u _ _ _ (c.limited-row1.ensures.1 _ u.dy1));
        flags = rw (z.blockh, z.blocks);
      },
      refl,
    )
