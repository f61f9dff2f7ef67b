-- The width chosen, and the taps where they are asked for: each step by its law.
-- a switch is not both on and off
use Rattle.std.proofs.Common.{◌≡◌, ℕ, Bool, true, false, sym, refl, ◌∙◌, arith}
use Rattle.segment.proofs.Edges.{widths_fit, lanes_fit, filtered_none, filtered_some, chosen_alone}
use Rattle.segment.proofs.segment.filter_segment.Goals as goal

differs : {b : Bool} → b ≡ true → b ≡ false → ⊥
differs {b} h g = let z : true ≡ false = sym h ∙ g in let y : ◌≡◌ {A = ℕ} 0 1 = cc in omega arith

pub returns-then-w-eq0 : goal.returns-then-w-eq0
returns-then-w-eq0 c =
    let its-chosen-width = c.chosen_width-w in
    let e = c.args.e in
    (λ h. filtered_none _ _ e _ its-chosen-width.ensures c.if-w-eq0.true, λ h. chosen_alone e _ (sym c.if-w-eq0.true ∙ its-chosen-width.ensures))

pub new-requires : goal.new-requires
new-requires c =
    let start = c in
    let f = widths_fit start.args.e _ start.requires.0 c.chosen_width-w.ensures c.if-w-eq0.false c.most_before.ensures c.min-n.ensures in
    (start.requires.0.q_most, omega arith, omega arith, omega arith, omega arith)

pub filter_lines-t-requires : goal.filter_lines-t-requires
filter_lines-t-requires c =
    let t = c.new.ensures in
    rw (t.0, t.1) (lanes_fit c.args.e _ c.requires.0 c.chosen_width-w.ensures c.if-w-eq0.false c.most_before.ensures c.min-n.ensures)

pub returns : goal.returns
returns c =
    let start = c in
    let t = c.new.ensures in
    let lines = rw (t.0, t.1, t.2, t.3) at c.filter_lines-t.ensures in (
      λ h. filtered_some _ start.args.e _ _ start.requires.0 c.chosen_width-w.ensures c.if-w-eq0.false c.most_before.ensures c.min-n.ensures lines refl,
      λ h. absurd (differs c.if-not-stores.false h),
    )
