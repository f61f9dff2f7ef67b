-- The lone segment's promises: demand 3, every other sample kept, samples within 0..top, equal planes within the reach, one answer, and its
-- counts.
-- Assumes nothing.
use mathlib.Core.Path.{◌≡◌, refl, sym, ap, ap₂, ◌∙◌}
use mathlib.Core.List.{List}
use Prim.Native.Nat.{ℕ, ◌+◌, ◌*◌, ◌≤◌, ◌<◌}
use native.Mathlib.Omega.{arith}
use lib.ListN.{get_or, length}
use Rattle.laws.specs.Outside.{outside}
use Rattle.laws.specs.Stores.{puts, puts_agree_in}
use Rattle.rules.specs.declared.edge.Edge.{Edge}
use Rattle.rules.specs.declared.edge.Place.{Place}
use Rattle.rules.specs.declared.edge.Line.{Line}
use Rattle.rules.specs.declared.settings.Lone.{Lone}
use Rattle.rules.specs.Refusals.{Answer}
use Rattle.std.specs.declared.result.Result.TheVariants.{Ok, Err}
use Rattle.rules.specs.declared.refusals.Refusal.{Refusal}
use Rattle.std.specs.declared.result.Result.{Result}
use Rattle.rules.specs.declared.refusals.Refusal.{Refusal}
use Rattle.rules.specs.declared.refusals.Filtered.{Filtered}
use Rattle.rules.specs.Numbers.{top_of}
use Rattle.rules.specs.Refusals.{settle}
use Rattle.rules.specs.Lengths.{reach_before, reach_after}
use Rattle.rules.specs.Segment.{edge_place, window_of, chosen_of, stores_of, width_at, none_kept, open_stores, segment_of}
use Rattle.rules.specs.Counts.{stored_at, changed_at}
use Rattle.rules.specs.Lone.{edge_of, lone_check, lone_plane, answer_width, lone_width, lone_stored, lone_changed}
use Rattle.segment.specs.Fit.{EdgeFits, InPlane, AlikeInReach}
use Rattle.segment.specs.Promises.{p_place, q_place, narrow_at, Demand3, Outside}
use Rattle.segment.proofs.Places.{before_in, after_in, line_in}
use Rattle.segment.proofs.Edges.{fit_of}
use Rattle.segment.proofs.Window.{window_agree}
use Rattle.segment.proofs.Demand.{demand_3, edge_kept, edge_most, edge_length}
use Rattle.segment.proofs.Counts.{stored_is, stored_most, changed_most}
use Rattle.lone.specs.Stated.{width_in, stored_in, changed_in, Stated}
use Rattle.lone.proofs.Accepted.{passed}

-- ---- the plane afterwards
lone_new : (s : Lone) (l : List ℕ) → lone_check s l ≡ Ok tt → lone_plane s l ≡ segment_of (top_of s.depth) s.stride none_kept (edge_of s) l
unfolding lone_plane settle
lone_new s l h = rw h

lone_width_holds : (s : Lone) (l : List ℕ) → lone_check s l ≡ Ok tt → lone_width s l ≡ answer_width (Ok tt) (width_at s.stride (edge_of s) l)
unfolding lone_width
lone_width_holds s l h = rw h

module _ (s : Lone) (l : List ℕ) (h : lone_check s l ≡ Ok tt) where
  pub lone_demand_3 : Demand3 (top_of s.depth) s.stride none_kept (edge_of s) l (lone_plane s l)
  lone_demand_3 = rw (lone_new s l h) (demand_3 (top_of s.depth) s.stride none_kept (edge_of s) l (passed s l h).inside)

  pub lone_kept : (i : ℕ) → Outside s.stride (edge_of s) l i → get_or (lone_plane s l) i 0 ≡ get_or l i 0
  lone_kept i o = rw (lone_new s l h) (edge_kept (top_of s.depth) s.stride none_kept (edge_of s) l i o)

-- accepted or refused
pub lone_most : (s : Lone) (l : List ℕ) (i : ℕ) → get_or l i 0 ≤ top_of s.depth → get_or (lone_plane s l) i 0 ≤ top_of s.depth
unfolding lone_plane settle
lone_most s l i b = go (lone_check s l)
  where
    go : (a : Answer) → get_or (settle a l (segment_of (top_of s.depth) s.stride none_kept (edge_of s) l)) i 0 ≤ top_of s.depth
    go (Ok tt) = edge_most (top_of s.depth) s.stride none_kept (edge_of s) l i b
    go (Err r) = b

pub lone_length : (s : Lone) (l : List ℕ) → length (lone_plane s l) ≡ length l
unfolding lone_plane settle
lone_length s l = go (lone_check s l)
  where
    go : (a : Answer) → length (settle a l (segment_of (top_of s.depth) s.stride none_kept (edge_of s) l)) ≡ length l
    go (Ok tt) = edge_length (top_of s.depth) s.stride none_kept (edge_of s) l
    go (Err r) = refl

-- ---- "Two accepted lone segments with the same settings, whose planes are equal within an edge's reach on its four lines, get equal new samples there.";
-- ticket 7: "01's claim on two lone segments asks equal marks too where a segment takes any", and none takes any
module _ (top stride : ℕ) (e : Edge) (l m : List ℕ) (h : AlikeInReach (edge_place stride e) l m) where
  same_width : width_at stride e l ≡ width_at stride e m
  unfolding width_at
  same_width = ap (λ (ls : List Line). chosen_of (edge_place stride e) ls) (window_agree (edge_place stride e) l m h)

  same_sample : (i : ℕ) → i < length l → i < length m → get_or l i 0 ≡ get_or m i 0 → get_or (segment_of top stride none_kept e l) i 0 ≡ get_or (segment_of top stride none_kept e m) i 0
  unfolding segment_of
  same_sample i hl hm eq =
      ap (λ (ls : List Line). get_or (puts (outside none_kept (stores_of top (edge_place stride e) ls)) l) i 0) (window_agree (edge_place stride e) l m h)
      ∙ puts_agree_in (open_stores top stride none_kept e m) l m i hl hm eq

-- the samples within the reach lie in the plane
module _ (g : Place) {size : ℕ} (fit : EdgeFits g size) where
  p_reached : (j k : ℕ) → j < 4 → k < reach_before g.pair → p_place g j k < size
  p_reached j k hj hk = let r = fit.room in omega (arith, before_in k (reach_before g.pair) g.step g.at hk r.low, line_in j g.line hj)

  q_reached : (j k : ℕ) → j < 4 → k < reach_after g.pair → q_place g j k < size
  q_reached j k hj hk = let r = fit.room in omega (arith, after_in k (reach_after g.pair) g.step hk, line_in j g.line hj)

module _ (s : Lone) (l m : List ℕ) (hl : lone_check s l ≡ Ok tt) (hm : lone_check s m ≡ Ok tt) (h : AlikeInReach (edge_place s.stride (edge_of s)) l m) where
  pub lone_same_width : lone_width s l ≡ lone_width s m
  lone_same_width =
      lone_width_holds s l hl ∙ ap (λ (w : ℕ). answer_width (Ok tt) w) (same_width (top_of s.depth) s.stride (edge_of s) l m h) ∙ sym (lone_width_holds s m hm)

  lone_same : (i : ℕ) → i < length l → i < length m → get_or l i 0 ≡ get_or m i 0 → get_or (lone_plane s l) i 0 ≡ get_or (lone_plane s m) i 0
  lone_same i bl bm eq = rw (lone_new s l hl, lone_new s m hm) (same_sample (top_of s.depth) s.stride (edge_of s) l m h i bl bm eq)

  pub lone_same_samples : AlikeInReach (edge_place s.stride (edge_of s)) (lone_plane s l) (lone_plane s m)
  lone_same_samples =
      let g = edge_place s.stride (edge_of s) in
      let fl = fit_of (passed s l hl).inside refl in
      let fm = fit_of (passed s m hm).inside refl in
      record {
        before = λ j k hj hk. lone_same (p_place g j k) (p_reached g fl j k hj hk) (p_reached g fm j k hj hk) (h.before j k hj hk);
        after = λ j k hj hk. lone_same (q_place g j k) (q_reached g fl j k hj hk) (q_reached g fm j k hj hk) (h.after j k hj hk);
      }

-- ---- two results that the entry's statement allows are equal
same_filtered : (r t : Result Filtered Refusal) → width_in r ≡ width_in t → stored_in r ≡ stored_in t → changed_in r ≡ changed_in t → r ≡ t
same_filtered (Ok f) (Ok g) w s c =
    let k : f.width ≡ g.width = cc in
    ap (λ (x : ℕ). Ok (record { width = x; stored = f.stored; changed = f.changed })) k
    ∙ ap₂ (λ (x y : ℕ). Ok (record { width = g.width; stored = x; changed = y })) s c
same_filtered (Ok f) (Err r) w s c = absurd (let z : ◌≡◌ {A = ℕ} 0 1 = cc in omega arith)
same_filtered (Err r) (Ok g) w s c = absurd (let z : ◌≡◌ {A = ℕ} 0 1 = cc in omega arith)
same_filtered (Err r) (Err t) w s c = cc

pub lone_unique : (s : Lone) (l : List ℕ) {r t : Result Filtered Refusal} {m n : List ℕ} → Stated s l r m → Stated s l t n → (r ≡ t) × (m ≡ n)
lone_unique s l {r} {t} a b = (same_filtered r t (a.width ∙ sym b.width) (a.stored ∙ sym b.stored) (a.changed ∙ sym b.changed), a.plane ∙ sym b.plane)

-- ---- document 02, ticket 4: stored is 4(n+w), 0 where no sample after the edge is filtered, at most 64; and changed is never more
module _ (s : Lone) (l : List ℕ) (h : lone_check s l ≡ Ok tt) where
  lone_counts : (lone_stored s l ≡ stored_at (top_of s.depth) s.stride none_kept (edge_of s) l) × (lone_changed s l ≡ changed_at (top_of s.depth) s.stride none_kept (edge_of s) l)
  unfolding lone_stored lone_changed settle
  lone_counts = (rw h, rw h)

  pub lone_stored_holds : lone_stored s l ≡ 4 * (narrow_at s.stride (edge_of s) l + width_at s.stride (edge_of s) l)
  lone_stored_holds = lone_counts.0 ∙ stored_is (top_of s.depth) s.stride none_kept (edge_of s) l (λ k. refl)

  pub lone_stored_most : lone_stored s l ≤ 64
  lone_stored_most = omega (arith, lone_counts.0, stored_most (top_of s.depth) s.stride none_kept (edge_of s) l (passed s l h).inside.pair_is)

-- accepted or refused
pub lone_changed_most : (s : Lone) (l : List ℕ) → lone_changed s l ≤ lone_stored s l
unfolding lone_stored lone_changed settle
lone_changed_most s l = go (lone_check s l)
  where
    go : (a : Answer) → settle a 0 (changed_at (top_of s.depth) s.stride none_kept (edge_of s) l) ≤ settle a 0 (stored_at (top_of s.depth) s.stride none_kept (edge_of s) l)
    go (Ok tt) = changed_most (top_of s.depth) s.stride none_kept (edge_of s) l
    go (Err r) = omega arith

pub lone_refused_none : (s : Lone) (l : List ℕ) {r : Refusal} → lone_check s l ≡ Err r → (lone_stored s l ≡ 0) × (lone_changed s l ≡ 0)
unfolding lone_stored lone_changed settle
lone_refused_none s l h = (rw h, rw h)
