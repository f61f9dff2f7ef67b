-- `named` tells the fifteen names from all other words. Assumes nothing.
use borrow.Author.Tests.{ne_eqb}
use Rattle.laws.specs.Choose.{pick}
use Rattle.y4m.specs.Formats.{layout_of}
use Rattle.y4m.proofs.format.named.Goals as goal

pub returns-in-3420720 : goal.returns-in-3420720
unfolding layout_of pick
returns-in-3420720 c = rw (c.lay_out.ensures, c.in-3420720.is)

pub returns-in-14691882314524007 : goal.returns-in-14691882314524007
unfolding layout_of pick
returns-in-14691882314524007 c = rw (c.lay_out-in-14691882314524007.ensures, c.in-14691882314524007.is)

pub returns-in-3761121885403047730 : goal.returns-in-3761121885403047730
unfolding layout_of pick
returns-in-3761121885403047730 c = rw (c.lay_out-in-3761121885403047730.ensures, c.in-3761121885403047730.is)

pub returns-in-3761121898036749430 : goal.returns-in-3761121898036749430
unfolding layout_of pick
returns-in-3761121898036749430 c = rw (c.lay_out-in-3761121898036749430.ensures, c.in-3761121898036749430.is)

pub returns-in-57390165668144 : goal.returns-in-57390165668144
unfolding layout_of pick
returns-in-57390165668144 c = rw (c.lay_out-in-57390165668144.ensures, c.in-57390165668144.is)

pub returns-in-57390165668146 : goal.returns-in-57390165668146
unfolding layout_of pick
returns-in-57390165668146 c = rw (c.lay_out-in-57390165668146.ensures, c.in-57390165668146.is)

pub returns-in-3420722 : goal.returns-in-3420722
unfolding layout_of pick
returns-in-3420722 c = rw (c.lay_out-in-3420722.ensures, c.in-3420722.is)

pub returns-in-57390199222576 : goal.returns-in-57390199222576
unfolding layout_of pick
returns-in-57390199222576 c = rw (c.lay_out-in-57390199222576.ensures, c.in-57390199222576.is)

pub returns-in-57390199222578 : goal.returns-in-57390199222578
unfolding layout_of pick
returns-in-57390199222578 c = rw (c.lay_out-in-57390199222578.ensures, c.in-57390199222578.is)

pub returns-in-3421236 : goal.returns-in-3421236
unfolding layout_of pick
returns-in-3421236 c = rw (c.lay_out-in-3421236.ensures, c.in-3421236.is)

pub returns-in-57398822711600 : goal.returns-in-57398822711600
unfolding layout_of pick
returns-in-57398822711600 c = rw (c.lay_out-in-57398822711600.ensures, c.in-57398822711600.is)

pub returns-in-57398822711602 : goal.returns-in-57398822711602
unfolding layout_of pick
returns-in-57398822711602 c = rw (c.lay_out-in-57398822711602.ensures, c.in-57398822711602.is)

pub returns-in-1836019311 : goal.returns-in-1836019311
unfolding layout_of pick
returns-in-1836019311 c = rw (c.lay_out-in-1836019311.ensures, c.in-1836019311.is)

pub returns-in-120325361578288 : goal.returns-in-120325361578288
unfolding layout_of pick
returns-in-120325361578288 c = rw (c.lay_out-in-120325361578288.ensures, c.in-120325361578288.is)

pub returns-in-120325361578290 : goal.returns-in-120325361578290
unfolding layout_of pick
returns-in-120325361578290 c = rw (c.lay_out-in-120325361578290.ensures, c.in-120325361578290.is)

pub returns-in_default : goal.returns-in_default
unfolding layout_of pick
returns-in_default c =
    rw (
      c.lay_out-in_default.ensures,
      ne_eqb _ _ c.in_default.in_default-own.rest.0.0.0.0.0.0.0.0.0.0.0.0.0.0.1,
      ne_eqb _ _ c.in_default.in_default-own.rest.0.0.0.0.0.0.0.0.0.0.0.0.0.1,
      ne_eqb _ _ c.in_default.in_default-own.rest.0.0.0.0.0.0.0.0.0.0.0.0.1,
      ne_eqb _ _ c.in_default.in_default-own.rest.0.0.0.0.0.0.0.0.0.0.0.1,
      ne_eqb _ _ c.in_default.in_default-own.rest.0.0.0.0.0.0.0.0.0.0.1,
      ne_eqb _ _ c.in_default.in_default-own.rest.0.0.0.0.0.0.0.0.0.1,
      ne_eqb _ _ c.in_default.in_default-own.rest.0.0.0.0.0.0.0.0.1,
      ne_eqb _ _ c.in_default.in_default-own.rest.0.0.0.0.0.0.0.1,
      ne_eqb _ _ c.in_default.in_default-own.rest.0.0.0.0.0.0.1,
      ne_eqb _ _ c.in_default.in_default-own.rest.0.0.0.0.0.1,
      ne_eqb _ _ c.in_default.in_default-own.rest.0.0.0.0.1,
      ne_eqb _ _ c.in_default.in_default-own.rest.0.0.0.1,
      ne_eqb _ _ c.in_default.in_default-own.rest.0.0.1,
      ne_eqb _ _ c.in_default.in_default-own.rest.0.1,
      ne_eqb _ _ c.in_default.in_default-own.rest.1,
    )
