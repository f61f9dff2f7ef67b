-- Ticket 5 of a frame: with two empty lists of tile starts its checks and planes are those of one tile; and where it does not filter chroma, chroma's list is not looked at, nor are ticket 7's keep marks of chroma.
-- Assumes nothing.
use mathlib.Core.Path.{◌≡◌, refl, sym, ap, subst, ◌∙◌}
use mathlib.Core.Bool.{Bool, true, false}
use mathlib.Core.List.{List, []}
use Prim.Native.Nat.{ℕ}
use Rattle.laws.specs.Choose.{pick}
use Rattle.rules.specs.declared.settings.Frame.{Frame}
use Rattle.rules.specs.declared.lent.FrameLengths.{FrameLengths}
use Rattle.rules.specs.Refusals.{Answer}
use Rattle.std.specs.declared.result.Result.TheVariants.{Ok, Err}
use Rattle.std.specs.declared.result.Result.{Result}
use Rattle.rules.specs.declared.counts.Counts.{Counts}
use Rattle.rules.specs.declared.refusals.Refusal.{Refusal}
use Rattle.rules.specs.Refusals.{or_else, found, only_if, first}
use Rattle.rules.specs.Thresholds.{steps_check}
use Rattle.rules.specs.Plane.{keeping, bad_start, tiles_check}
use Rattle.rules.specs.Frame.{Planes, Given, Lent, Done, grids, lent, done, chroma_on, built_grids, frame_shape, frame_lengths, luma_long, given_long, frame_settings, frame_tiles, frame_leaves, frame_given, frame_keep, frame_early, frame_room, frame_late, run_frame, run_frame_stored, run_frame_changed, frame_built, or_done, frame_of, frame_stored, frame_changed}
use Rattle.frame.specs.Stated.{Stated}
use Rattle.frame_promises.proofs.Answers.{early_of}

-- ---- no tile start

only_accepted : (t : Bool) → only_if t (Ok tt) ≡ Ok tt
unfolding only_if
only_accepted true = refl
only_accepted false = refl

-- no list refuses
no_starts : (f : Frame) → frame_tiles f [] [] ≡ Ok tt
unfolding frame_tiles tiles_check bad_start first found or_else
no_starts f = only_accepted (chroma_on f)

-- the early checks are those without
pub checks_alone : (f : Frame) (k : FrameLengths) (ks es : List ℕ) (n : Given) → frame_early f k [] [] ks es n ≡ or_else (frame_shape f k) (or_else (or_else (steps_check n.steps) (or_else (frame_settings f) (frame_leaves n))) (frame_keep f ks es))
unfolding frame_early frame_given or_else
checks_alone f k ks es n = rw (no_starts f)

-- of whatever the entry may answer and leave with two empty lists: answer, lists and counts are those of one tile
pub empty_lists : (f : Frame) (n : Given) (p : Planes) (v h w t q ks v' h' w' t' q' es ts us : List ℕ) → ts ≡ [] → us ≡ [] → {a : Result Counts Refusal} {m : Lent}
    → Stated f n (lent p (grids (keeping v h w t q ts ks) (keeping v' h' w' t' q' us es))) a m → Stated f n (lent p (grids (keeping v h w t q [] ks) (keeping v' h' w' t' q' [] es))) a m
empty_lists f n p v h w t q ks v' h' w' t' q' es ts us e g {a} {m} done =
    subst (λ (xs : List ℕ). Stated f n (lent p (grids (keeping v h w t q [] ks) (keeping v' h' w' t' q' xs es))) a m) g
    (subst (λ (xs : List ℕ). Stated f n (lent p (grids (keeping v h w t q xs ks) (keeping v' h' w' t' q' us es))) a m) e done)

-- ---- a frame that does not filter chroma

-- lent with other lists of chroma's tile starts and keep marks
abbrev pub relisted : List ℕ → List ℕ → Lent → Lent
relisted us es l = let g = l.grids.chroma in lent l.planes (grids l.grids.luma (keeping g.vedge g.hedge g.sqw g.sqh g.qindex us es))

module _ (f : Frame) (n : Given) (l : Lent) (us es : List ℕ) (off : chroma_on f ≡ false) where
  early_same : early_of f n (relisted us es l) ≡ early_of f n l
  unfolding frame_early frame_shape frame_lengths luma_long given_long frame_given frame_tiles frame_keep only_if
  early_same = rw off

  abbrev built_of : Lent → Done
  built_of k = frame_built f n.steps (built_grids f n k.grids) k.planes

  built_same : built_of (relisted us es l) ≡ done (built_of l).answer (relisted us es (built_of l).lists)
  unfolding frame_built frame_late frame_room run_frame built_grids only_if pick
  built_same = rw off

  same_by : (a : Answer) → or_done a (relisted us es l) (built_of (relisted us es l)) ≡ done (or_done a l (built_of l)).answer (relisted us es (or_done a l (built_of l)).lists)
  unfolding or_done
  same_by (Err r) = refl
  same_by (Ok tt) = built_same

  frame_same : frame_of f n (relisted us es l) ≡ done (frame_of f n l).answer (relisted us es (frame_of f n l).lists)
  unfolding frame_of
  frame_same = rw early_same (same_by (early_of f n l))

  stored_same : frame_stored f n (relisted us es l) ≡ frame_stored f n l
  unfolding frame_stored run_frame_stored built_grids pick
  stored_same = rw (frame_same, off)

  changed_same : frame_changed f n (relisted us es l) ≡ frame_changed f n l
  unfolding frame_changed run_frame_changed built_grids pick
  changed_same = rw (frame_same, off)

  -- what the entry may answer and leave, it may with any such lists of chroma's: the same answer and counts, and the same lists but for those two
  pub chroma_unread : {a : Result Counts Refusal} {m : Lent} → Stated f n l a m → Stated f n (relisted us es l) a (relisted us es m)
  chroma_unread x = record {
    answer = x.answer ∙ sym (ap (λ (d : Done). d.answer) frame_same);
    lists = ap (relisted us es) x.lists ∙ sym (ap (λ (d : Done). d.lists) frame_same);
    stored = x.stored ∙ sym stored_same;
    changed = x.changed ∙ sym changed_same;
  }
