-- What the entry's equation says, read off: one result; a refusal other than 7 and 8 leaves every list as lent; refusals 7 and 8 leave the planes
-- as lent and the grids built; a frame without chroma leaves chroma's lists as lent.
-- Assumes nothing.
use mathlib.Core.Path.{◌≡◌, refl, sym, ap, ◌∙◌}
use mathlib.Core.Bool.{Bool, true, false, not}
use mathlib.Core.List.{List}
use Prim.Native.Nat.{ℕ}
use native.Mathlib.Omega.{arith}
use Rattle.laws.specs.Choose.{pick}
use Rattle.rules.specs.declared.settings.Frame.{Frame}
use Rattle.rules.specs.declared.lent.FrameLengths.{FrameLengths}
use Rattle.rules.specs.declared.refusals.Refusal.{Refusal}
use Rattle.rules.specs.declared.refusals.Refusal.TheVariants.{Depth, Size, Length, Steps, Setting, Cell, Room, Sample, Leaf, Buffer, Header, Cut, Entry, Filled, Spent}
use Rattle.rules.specs.Refusals.{Answer}
use Rattle.std.specs.declared.result.Result.TheVariants.{Ok, Err}
use Rattle.std.specs.declared.result.Result.{Result}
use Rattle.rules.specs.declared.counts.Counts.{Counts}
use Rattle.rules.specs.Refusals.{answered, changed_in, stored_in}
use Rattle.std.specs.declared.option.Option.{Option}
use Rattle.std.specs.declared.option.Option.TheVariants.{Some, None}
use Rattle.rules.specs.Refusals.{or_else, unless, found, only_if, settle}
use Rattle.rules.specs.Thresholds.{steps_check}
use Rattle.rules.specs.Plane.{tiles_check}
use Rattle.rules.specs.Frame.{Planes, Grids, Given, Lent, Done, lent, done, lengths_of, chroma_on, built_grids, frame_sizes, frame_lengths, frame_shape, frame_settings, frame_tiles, frame_leaves, frame_given, frame_keep, frame_early, frame_room, frame_samples, frame_late, run_frame, frame_built, or_done, frame_of}
use Rattle.frame.specs.Stated.{Stated}
use Rattle.frame_promises.proofs.Answers.{early_of}

-- any two results that the statement allows are equal: answer, every list, and both counts
pub one_result : {f : Frame} {n : Given} {l : Lent} {a b : Result Counts Refusal} {m k : Lent} → Stated f n l a m → Stated f n l b k
    → (answered a ≡ answered b) × (m ≡ k) × (stored_in a ≡ stored_in b) × (changed_in a ≡ changed_in b)
one_result x y = (x.answer ∙ sym y.answer, x.lists ∙ sym y.lists, x.stored ∙ sym y.stored, x.changed ∙ sym y.changed)

-- ---- 7 and 8 are not among the early checks

abbrev pub before7 : Refusal → Bool
before7 Depth = true
before7 Size = true
before7 Length = true
before7 (Steps k) = true
before7 Setting = true
before7 (Cell k) = true
before7 (Room k) = false
before7 (Sample k) = false
before7 (Leaf k) = true
before7 Buffer = false
before7 Header = false
before7 (Cut k) = false
before7 (Entry k) = false
before7 Filled = false
before7 Spent = false

-- an answer whose refusal, where it has one, is of a kind
abbrev Of : (Refusal → Bool) → Answer → Bool
Of kind (Ok tt) = true
Of kind (Err r) = kind r

module _ (kind : Refusal → Bool) where
  else_of : (a b : Answer) → Of kind a ≡ true → Of kind b ≡ true → Of kind (or_else a b) ≡ true
  unfolding or_else
  else_of (Ok tt) b e g = g
  else_of (Err r) b e g = e

  unless_of : (t : Bool) (r : Refusal) → kind r ≡ true → Of kind (unless t r) ≡ true
  unfolding unless
  unless_of true r e = refl
  unless_of false r e = e

  found_of : (m : Option ℕ) (r : ℕ → Refusal) → ((k : ℕ) → kind (r k) ≡ true) → Of kind (found m r) ≡ true
  unfolding found
  found_of (Some k) r e = e k
  found_of None r e = refl

  only_of : (t : Bool) (a : Answer) → Of kind a ≡ true → Of kind (only_if t a) ≡ true
  unfolding only_if
  only_of true a e = e
  only_of false a e = refl

  both_found : (t : Bool) (a b : Option ℕ) (r : ℕ → Refusal) → ((k : ℕ) → kind (r k) ≡ true) → Of kind (or_else (found a r) (only_if t (found b r))) ≡ true
  both_found t a b r e = else_of _ _ (found_of a r e) (only_of t _ (found_of b r e))

early_sizes : (f : Frame) → Of before7 (frame_sizes f) ≡ true
unfolding frame_sizes
early_sizes f = else_of before7 _ _ (unless_of before7 _ Size refl) (only_of before7 _ _ (unless_of before7 _ Size refl))

early_lengths : (f : Frame) (k : FrameLengths) → Of before7 (frame_lengths f k) ≡ true
unfolding frame_lengths
early_lengths f k =
    else_of before7 _ _ (unless_of before7 _ Length refl)
    (else_of before7 _ _ (only_of before7 _ _ (unless_of before7 _ Length refl)) (unless_of before7 _ Length refl))

early_leaves : (n : Given) → Of before7 (frame_leaves n) ≡ true
unfolding frame_leaves
early_leaves n =
    else_of before7 _ _ (found_of before7 _ Leaf (λ _. refl))
    (else_of before7 _ _ (found_of before7 _ Leaf (λ _. refl)) (found_of before7 _ Leaf (λ _. refl)))

early_tiles : (f : Frame) (ts us : List ℕ) → Of before7 (frame_tiles f ts us) ≡ true
unfolding frame_tiles tiles_check
early_tiles f ts us = both_found before7 _ _ _ (λ k. Setting) (λ _. refl)

early_keep : (f : Frame) (ks es : List ℕ) → Of before7 (frame_keep f ks es) ≡ true
unfolding frame_keep
early_keep f ks es = both_found before7 _ _ _ Cell (λ _. refl)

early_checks : (f : Frame) (k : FrameLengths) (ts us ks es : List ℕ) (n : Given) → Of before7 (frame_early f k ts us ks es n) ≡ true
unfolding frame_early frame_shape frame_given steps_check frame_settings
early_checks f k ts us ks es n =
    else_of before7 _ _ (else_of before7 _ _ (unless_of before7 _ Depth refl) (else_of before7 _ _ (early_sizes f) (early_lengths f k)))
    (else_of before7 _ _
    (else_of before7 _ _ (found_of before7 _ Steps (λ _. refl)) (else_of before7 _ _ (unless_of before7 _ Setting refl) (else_of before7 _ _ (early_tiles f ts us) (early_leaves n))))
    (early_keep f ks es))

abbrev from7 : Refusal → Bool
from7 r = not (before7 r)

late_checks : (f : Frame) (g : Grids) (p : Planes) → Of from7 (frame_late f g p) ≡ true
unfolding frame_late frame_room frame_samples
late_checks f g p =
    else_of from7 _ _ (both_found from7 _ _ _ Room (λ _. refl))
    (else_of from7 _ _ (found_of from7 _ Sample (λ _. refl)) (only_of from7 _ _ (else_of from7 _ _ (found_of from7 _ Sample (λ _. refl)) (found_of from7 _ Sample (λ _. refl)))))

module _ (f : Frame) (n : Given) (l : Lent) where
  pub kept_early : {r : Refusal} → early_of f n l ≡ Err r → frame_of f n l ≡ done (Err r) l
  unfolding frame_of or_done
  kept_early e = rw e

  module _ (ok : early_of f n l ≡ Ok tt) where
    pub kept_late : {r : Refusal} → frame_late f (built_grids f n l.grids) l.planes ≡ Err r → frame_of f n l ≡ done (Err r) (lent l.planes (built_grids f n l.grids))
    unfolding frame_of or_done frame_built settle
    kept_late e = rw (ok, e)

    pub ran : frame_late f (built_grids f n l.grids) l.planes ≡ Ok tt → frame_of f n l ≡ done (Ok tt) (lent (run_frame f n.steps (built_grids f n l.grids) l.planes) (built_grids f n l.grids))
    unfolding frame_of or_done frame_built settle
    ran e = rw (ok, e)

  abbrev after : Lent
  after = (frame_of f n l).lists

  abbrev built : Done
  built = frame_built f n.steps (built_grids f n l.grids) l.planes

  -- ---- chroma's lists of a frame without chroma, whatever the answer

  settled : (a : Answer) (p q : Planes) → q.u ≡ p.u → q.v ≡ p.v → ((settle a p q).u ≡ p.u) × ((settle a p q).v ≡ p.v)
  unfolding settle
  settled (Ok tt) p q e g = (e, g)
  settled (Err r) p q e g = (refl, refl)

  planes_kept : chroma_on f ≡ false → (built.lists.planes.u ≡ l.planes.u) × (built.lists.planes.v ≡ l.planes.v)
  unfolding frame_built run_frame pick
  planes_kept off =
      settled (frame_late f (built_grids f n l.grids) l.planes) l.planes (run_frame f n.steps (built_grids f n l.grids) l.planes) (rw off) (rw off)

  grid_kept : chroma_on f ≡ false → built.lists.grids.chroma ≡ l.grids.chroma
  unfolding frame_built built_grids pick
  grid_kept off = rw off

  chroma_by : chroma_on f ≡ false → (a : Answer) → ((or_done a l built).lists.planes.u ≡ l.planes.u) × ((or_done a l built).lists.planes.v ≡ l.planes.v) × ((or_done a l built).lists.grids.chroma ≡ l.grids.chroma)
  unfolding or_done
  chroma_by off (Err r) = (refl, refl, refl)
  chroma_by off (Ok tt) = ((planes_kept off).0, (planes_kept off).1, grid_kept off)

  pub chroma_kept : chroma_on f ≡ false → (after.planes.u ≡ l.planes.u) × (after.planes.v ≡ l.planes.v) × (after.grids.chroma ≡ l.grids.chroma)
  unfolding frame_of
  chroma_kept off = chroma_by off (early_of f n l)

  -- ---- a refusal leaves the planes as lent, whatever its number

  kept_by : (a : Answer) (q : Planes) {r : Refusal} → a ≡ Err r → settle a l.planes q ≡ l.planes
  unfolding settle
  kept_by a q h = rw h

  refused_by_holds : (a : Answer) {r : Refusal} → (or_done a l built).answer ≡ Err r → (or_done a l built).lists.planes ≡ l.planes
  unfolding or_done frame_built
  refused_by_holds (Err x) h = refl
  refused_by_holds (Ok tt) h = kept_by (frame_late f (built_grids f n l.grids) l.planes) _ h

  pub refused_kept : {r : Refusal} → (frame_of f n l).answer ≡ Err r → after.planes ≡ l.planes
  unfolding frame_of
  refused_kept e = refused_by_holds (early_of f n l) e

  -- ---- one by 7 has passed every early check

  room_by : (a : Answer) {k : ℕ} → Of before7 a ≡ true → (or_done a l built).answer ≡ Err (Room k) → a ≡ Ok tt
  unfolding or_done
  room_by (Ok tt) h g = refl
  room_by (Err x) h g = let z : true ≡ false = sym h ∙ ap (Of before7) g in absurd (let y : ◌≡◌ {A = ℕ} 0 1 = cc in omega arith)

  pub room_early : {k : ℕ} → (frame_of f n l).answer ≡ Err (Room k) → early_of f n l ≡ Ok tt
  unfolding frame_of
  room_early e = room_by (early_of f n l) (early_checks f (lengths_of n l) _ _ _ _ n) e

  -- ---- one before 7 leaves every list as lent, the grids too

  not_both : {X : Type 0} (b : Bool) → b ≡ true → not b ≡ true → X
  not_both true e g = absurd (let y : ◌≡◌ {A = ℕ} 0 1 = cc in omega arith)
  not_both false e g = absurd (let y : ◌≡◌ {A = ℕ} 0 1 = cc in omega arith)

  as_lent : (a : Answer) {r : Refusal} → before7 r ≡ true → (or_done a l built).answer ≡ Err r → or_done a l built ≡ done (Err r) l
  unfolding or_done frame_built
  as_lent (Err x) h e = ap (λ (b : Answer). done b l) e
  as_lent (Ok tt) {r} h e = not_both (before7 r) h (sym (ap (Of from7) e) ∙ late_checks f (built_grids f n l.grids) l.planes)

  pub refused_early : {r : Refusal} → before7 r ≡ true → (frame_of f n l).answer ≡ Err r → frame_of f n l ≡ done (Err r) l
  unfolding frame_of
  refused_early h e = as_lent (early_of f n l) h e

  -- ticket 7: so does one for a keep mark
  pub mark_refused : {k : ℕ} → (frame_of f n l).answer ≡ Err (Cell k) → frame_of f n l ≡ done (Err (Cell k)) l
  mark_refused e = refused_early refl e
