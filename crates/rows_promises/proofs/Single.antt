-- One call: what it says where it is accepted, when it is accepted, and that it leaves the rows that were called final before it and those that are not filled yet.
-- Assumes nothing.
use mathlib.Core.Path.{◌≡◌, refl, sym, ap, ◌∙◌}
use mathlib.Core.Bool.{true, false, not}
use mathlib.Core.List.{List}
use Prim.Native.Nat.{ℕ, ◌+◌, ◌*◌, ◌-◌, ◌/◌, ◌%◌, ◌<◌}
use native.Mathlib.Omega.{arith}
use borrow.Author.Tests.{le-leb, eq-eqb}
use lib.Dec.{T}
use lib.ListN.{length, get_or}
use Rattle.laws.specs.Choose.{both, all}
use Rattle.laws.specs.Boxes.{in_box, row_of}
use Rattle.rules.specs.declared.settings.Plane.{Plane}
use Rattle.rules.specs.declared.rows.RowState.{RowState}
use Rattle.rules.specs.declared.rows.RowsAnswer.{RowsAnswer}
use Rattle.rules.specs.declared.refusals.Refusal.TheVariants.{Sample}
use Rattle.rules.specs.Refusals.{Answer}
use Rattle.std.specs.declared.result.Result.TheVariants.{Ok, Err}
use Rattle.rules.specs.Numbers.{top_of}
use Rattle.rules.specs.Refusals.{settle}
use Rattle.rules.specs.Segment.{run_edges}
use Rattle.rules.specs.Counts.{stored_by, changed_by}
use Rattle.rules.specs.Plane.{Grid, kept_by, plane_check}
use Rattle.rules.specs.Rows.{band_of, call_edges, final_of, count_ok, counts_ok, settings_check, rows_check, rows_after, rows_stored, rows_changed, state_after, rows_state, rows_final}
use Rattle.checks.proofs.Checks.{else_parts, found_nothing}
use Rattle.segment.proofs.Local.{run_frame_holds}
use Rattle.plane.proofs.Accepting.{plane_parts}
use Rattle.rows.specs.Stated.{Stated}
use Rattle.rows.proofs.Calls.{Counts, Passed, passed, call_accepted}
use Rattle.rows_promises.specs.Calls.{SameRows}
use Rattle.rows_promises.proofs.Low.{plane_low, low_new}
use Rattle.rows_promises.proofs.Agree.{run_outside}
use Rattle.rows_promises.proofs.Reach.{rows_box, band_reach, band_final}

-- ---- an accepted call

pub record Done (s : Plane) (steps : List ℕ) (g : Grid) (st : RowState) (filled : ℕ) (l : List ℕ) (a : RowsAnswer) (m : List ℕ) : Type 0 where
  pub passes : Passed s steps g st filled l
  pub plane : m ≡ run_edges (top_of s.depth) s.stride (kept_by s g) (band_of s steps g (st.held / 4) (filled / 4)) l
  pub stored : a.stored ≡ stored_by (top_of s.depth) s.stride (kept_by s g) (band_of s steps g (st.held / 4) (filled / 4)) l
  pub changed : a.changed ≡ changed_by (top_of s.depth) s.stride (kept_by s g) (band_of s steps g (st.held / 4) (filled / 4)) l
  pub state : a.state ≡ record { held = filled; spent = false }
  pub final_rows : a.finalrows ≡ final_of s.rows filled

module _ {s : Plane} {steps : List ℕ} {g : Grid} {st : RowState} {filled : ℕ} {l : List ℕ} {a : RowsAnswer} {m : List ℕ} (said : Stated s steps g st filled l a m) where
  pub done_of : a.answer ≡ Ok tt → Done s steps g st filled l a m
  unfolding rows_after rows_stored rows_changed rows_state rows_final state_after call_edges settle
  done_of told =
      let ok = sym said.answer ∙ told in
      record {
        passes = passed s steps g st filled l ok;
        plane = said.plane ∙ ap (λ (x : Answer). settle x l (run_edges (top_of s.depth) s.stride (kept_by s g) (band_of s steps g (st.held / 4) (filled / 4)) l)) ok;
        stored = said.stored ∙ ap (λ (x : Answer). settle x 0 (stored_by (top_of s.depth) s.stride (kept_by s g) (band_of s steps g (st.held / 4) (filled / 4)) l)) ok;
        changed = said.changed ∙ ap (λ (x : Answer). settle x 0 (changed_by (top_of s.depth) s.stride (kept_by s g) (band_of s steps g (st.held / 4) (filled / 4)) l)) ok;
        state = said.state ∙ ap (λ (x : Answer). state_after x st filled) ok;
        final_rows = said.final_rows ∙ ap (λ (x : Answer). settle x 0 (final_of s.rows filled)) ok;
      }

  -- "rows called final are not changed again": an accepted call with held count H called so many rows final, and no call that is handed that count changes them, accepted or refused
  pub final_kept : SameRows s 0 (final_of s.rows st.held) m l
  unfolding rows_after settle call_edges
  final_kept = go (rows_check s steps g st filled l) refl said.plane
    where
      go : (x : Answer) → rows_check s steps g st filled l ≡ x → m ≡ settle x l (run_edges (top_of s.depth) s.stride (kept_by s g) (call_edges s steps g st filled) l) → SameRows s 0 (final_of s.rows st.held) m l
      go (Err r) e is = record { at = λ x y hx lo hi. ap (λ (q : List ℕ). get_or q (y * s.stride + x) 0) is }
      go (Ok tt) e is =
          let p = passed s steps g st filled l e in
          let c = p.counts in
          let fours : 4 * (st.held / 4) ≡ st.held = omega (arith, c.held_fours) in
          record {
            at = λ x y hx lo hi.
                let row : (y * s.stride + x) / s.stride ≡ y = row_of s.stride x y (omega (arith, hx, p.checks.sizes_ok.wide)) in
                let below : (y * s.stride + x) / s.stride < final_of s.rows (4 * (st.held / 4)) = rw (row, fours) hi in
                ap (λ (q : List ℕ). get_or q (y * s.stride + x) 0) is
                ∙ run_frame_holds (top_of s.depth) s.stride (kept_by s g) (4 * s.cols) (4 * s.rows) (length l) (y * s.stride + x) (band_of s steps g (st.held / 4) (filled / 4))
                (band_final s steps g (length l) p.checks (st.held / 4) (filled / 4) (omega (arith, c.up)) (omega (arith, c.filled_most)) (y * s.stride + x) below) l;
          }

  -- a place that is none of the filled rows' samples, in a row that is not filled yet or beside the rows, is not written, accepted or refused
  pub unfilled_kept : (i : ℕ) → T (not (in_box s.stride (rows_box s 0 filled) i)) → get_or m i 0 ≡ get_or l i 0
  unfolding rows_after settle call_edges
  unfilled_kept i out = go (rows_check s steps g st filled l) refl said.plane
    where
      go : (x : Answer) → rows_check s steps g st filled l ≡ x → m ≡ settle x l (run_edges (top_of s.depth) s.stride (kept_by s g) (call_edges s steps g st filled) l) → get_or m i 0 ≡ get_or l i 0
      go (Err r) e is = ap (λ (q : List ℕ). get_or q i 0) is
      go (Ok tt) e is =
          let p = passed s steps g st filled l e in
          let c = p.counts in
          let fours : 4 * (filled / 4) ≡ filled = omega (arith, c.filled_fours) in
          ap (λ (q : List ℕ). get_or q i 0) is
          ∙ run_outside (top_of s.depth) s.stride (kept_by s g) (4 * s.cols) (4 * s.rows) (length l) (rows_box s 0 filled) (band_of s steps g (st.held / 4) (filled / 4))
          (rw fours at (band_reach s steps g (length l) p.checks (st.held / 4) (filled / 4) (omega (arith, c.up)) (omega (arith, c.filled_most)))) l i out

-- ---- when a call is accepted

counts_yes : (rows held filled : ℕ) → Counts rows held filled → counts_ok rows held filled ≡ true
unfolding counts_ok count_ok all both
counts_yes rows held filled c =
    rw (
      le-leb held (4 * rows) c.held_most,
      eq-eqb (held % 4) 0 c.held_fours,
      le-leb filled (4 * rows) c.filled_most,
      eq-eqb (filled % 4) 0 c.filled_fours,
      le-leb held filled c.up,
    )

-- a call whose new rows are those of a picture that the whole run accepts, with good counts
pub call_accepts : (s : Plane) (steps : List ℕ) (g : Grid) (st : RowState) (filled : ℕ) (l p : List ℕ) → plane_check s steps g p ≡ Ok tt
    → length l ≡ length p → st.spent ≡ false → Counts s.rows st.held filled → SameRows s st.held filled l p → rows_check s steps g st filled l ≡ Ok tt
call_accepts s steps g st filled l p ok long unspent c same =
    let parts = else_parts _ _ (sym (plane_parts s steps g p) ∙ ok) in
    let settings : settings_check s steps g (length l) ≡ (Ok tt) = rw long parts.0 in
    let low = plane_low s p (found_nothing _ Sample parts.1) in
    let new = low_new s l st.held filled (record { at = λ x y hx lo hi. rw (same.at x y hx lo hi) (low.at x y hx (omega arith) (omega (arith, hi, c.filled_most))) }) in
    sym (call_accepted s steps g st filled l unspent refl settings refl (ap not (counts_yes s.rows st.held filled c)) refl new)
