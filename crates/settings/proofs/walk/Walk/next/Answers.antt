-- `next` reads the line's ends, and steps behind it. Assumes nothing.
use mathlib.Core.Path.{refl}
use native.Mathlib.Omega.{arith}
use Rattle.settings.proofs.Stepping.{stop_is, next_is}
use Rattle.settings.proofs.walk.Walk.next.Goals as goal

pub returns : goal.returns
returns c =
    let a = c.line_end-end.ensures in
    let b = c.content_end-stop.ensures in
    record {
      here = c.if-n-at.false;
      number = refl;
      at = refl;
      stop = stop_is _ _ _ a.value _ b.value;
      from = omega (arith, b.lower_bound);
      within = omega (arith, a.lower_bound, b.lower_bound);
      next = next_is _ _ _ a.value;
      count = refl;
      forward = omega (arith, a.lower_bound);
      inside = omega (arith, a.lower_bound);
    }
