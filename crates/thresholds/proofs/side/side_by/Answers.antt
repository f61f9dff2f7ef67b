-- `side_by` is the side threshold of the index. Assumes nothing.
use native.Mathlib.Omega.{arith}
use mathlib.Core.Path.{refl}
use mir.Facts.{to_z-of_z}
use mir.Syntax.{w32}
use Rattle.thresholds.proofs.Sides.{place_within, short, side_is}
use Rattle.thresholds.proofs.SideRule.{InRange, side_range}
use borrow.Author.Rules.{rules}
use Rattle.thresholds.proofs.side.side_by.Goals as goal

pub returns : goal.returns
returns c =
    let ranged : InRange c.side_entry.result = rw c.side_entry.ensures (side_range _ (place_within _ c.limited-k.ensures)) in
    let e = rw (short c.side_entry.result ranged) at c.from.ensures in
    let p = rw (to_z-of_z {w = w32} (record { sfits = c.from.type_inv }), e) at c.from-2.ensures in
    side_is
    _
    _
    _
    _
    c.offset.ensures
    refl
    refl
    c.limited-k.ensures
    c.side_entry.ensures
    p.0
    p.1
    c.lower.ensures
