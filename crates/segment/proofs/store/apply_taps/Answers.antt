-- Both sides of the line, by one law.
use Rattle.std.proofs.Common.{ℕ, ◌+◌, ap, arith}
use Rattle.segment.proofs.Taps.{sides_then, line_both, line_equal, line_stored}
use Rattle.segment.proofs.store.apply_taps.Goals as goal
use Rattle.segment.proofs.store.apply_taps.Goals.{then-t, else-t}

pub returns : goal.returns
returns c =
    let start = c.args in
    let t = start.t in
    let l = start.plane.now in
    let a = c.moves_after-after.ensures in
    let stored = ap (λ (x : ℕ). start.sofar.stored + x) (line_stored t.top start.at start.step t.n t.w t.limit l) in
    elim c.if-t.branch [
      | then-t w ↦
          let both = w.both_sides-changed.ensures in
          let put = rw (a.0, a.2) at both.0 in
          rw (w.plane-is, w.changed-is) (record { put = line_equal _ _ _ _ _ _ _ _ _ _ _ l _ w.if-t.true t.scales c.limited-d.ensures.0 a.1 put; stored = stored }, omega arith, omega (arith, both.1))
      | else-t w ↦
          let b = w.moves_before.ensures in
          let p = w.side_before-p.ensures in
          let q = w.side_after-changed.ensures in
          let first = rw (b.0, b.2) at p.0 in
          let second = rw (a.0, a.2) at q.0 in
          let lane = c.requires.0 in
          let put = sides_then _ _ _ _ t.w _ _ _ l _ lane.step_some lane.low _ first second in
          rw (w.plane-is, w.changed-is) (record { put = line_both _ _ _ _ _ _ _ _ _ _ _ _ l _ t.scales c.limited-d.ensures.0 b.1 a.1 put; stored = stored }, omega arith, omega (arith, p.1, q.1))
    ]
