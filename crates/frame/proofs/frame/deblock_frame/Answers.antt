-- `deblock_frame` at its ways out: refused early, and filtered by grids that are built. Assumes nothing.
use mathlib.Core.Path.{refl, sym, ap, ◌∙◌}
use mathlib.Core.List.{[]}
use Rattle.rules.specs.declared.lent.GridLengths.{GridLengths}
use Rattle.frame.proofs.Given.{luma_sampled, u_sampled, v_sampled, luma_stepped, chroma_stepped, luma_starts, chroma_starts, luma_marks, chroma_marks, luma_built, chroma_built}
use Rattle.frame.proofs.Grids.{gridded}
use Rattle.frame.proofs.Ways.{frame_refused, frame_built_holds}
use Rattle.checks.proofs.Checks.{handed}
use Rattle.frame.proofs.frame.deblock_frame.Goals as goal

pub returns-in_err-frame_early : goal.returns-in_err-frame_early
returns-in_err-frame_early c =
    rw (handed _ c.from_residual.ensures) (frame_refused _ _ _ _ _ c.grid_lengths-luma.ensures c.grid_lengths-chroma.ensures (c.in_err-frame_early.ensures _) refl)

pub build-requires : goal.build-requires
build-requires c =
    let is = rw (c.grid_lengths-luma.ensures, c.grid_lengths-chroma.ensures) at (c.in_ok-frame_early.ensures []) in
    let ok = sym is in
    λ _. luma_built _ _ _ _ _ _ _ ok

pub build-requires-2 : goal.build-requires-2
build-requires-2 c =
    let is = rw (c.grid_lengths-luma.ensures, c.grid_lengths-chroma.ensures) at (c.in_ok-frame_early.ensures []) in
    let ok = sym is in
    chroma_built _ _ _ _ _ _ _ ok

pub filter-requires : goal.filter-requires
filter-requires c =
    let is = rw (c.grid_lengths-luma.ensures, c.grid_lengths-chroma.ensures) at (c.in_ok-frame_early.ensures []) in
    let ok = sym is in
    let k = c.build.auto in
    let luma = gridded _ _ _ _ (luma_sampled _ _ _ _ _ _ _ ok) (luma_built _ _ _ _ _ _ _ ok) k.vedge k.hedge k.sqw k.sqh k.qindex refl (luma_starts _ _ _ _ _ _ _ ok) (luma_marks _ _ _ _ _ _ _ ok) (c.build.ensures _ _) in
    let j = c.build-2.auto in
    record {
      stepped = (luma_stepped _ _ _ _ _ _ _ ok, luma);
      stepped_2 = λ on. (
        chroma_stepped _ _ _ _ _ _ _ ok,
        gridded _ _ _ _ (u_sampled _ _ _ _ _ _ _ ok on) (chroma_built _ _ _ _ _ _ _ ok on) j.vedge j.hedge j.sqw j.sqh j.qindex on (chroma_starts _ _ _ _ _ _ _ ok on) (chroma_marks _ _ _ _ _ _ _ ok on) (c.build-2.ensures _ _),
        gridded _ _ _ _ (v_sampled _ _ _ _ _ _ _ ok on) (chroma_built _ _ _ _ _ _ _ ok on) j.vedge j.hedge j.sqw j.sqh j.qindex on (chroma_starts _ _ _ _ _ _ _ ok on) (chroma_marks _ _ _ _ _ _ _ ok on) (c.build-2.ensures _ _),
      );
    }

pub returns : goal.returns
returns c =
    frame_built_holds _ _ _ _ _ c.grid_lengths-luma.ensures c.grid_lengths-chroma.ensures (c.in_ok-frame_early.ensures _) refl (c.build.ensures _ _) (c.build-2.ensures _ _) c.filter.ensures
