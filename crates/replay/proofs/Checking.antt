-- The checks of a record and its plane: the answer at each way out of the code, and what the entry states of it.
-- Assumes nothing.
use Rattle.std.proofs.Common.{◌≡◌, ℕ, ◌*◌, ◌≤◌, true, false, List, length, sym, refl, ap, ◌∙◌, leb-true}
use Rattle.laws.specs.Choose.{both_parts}
use Rattle.rules.specs.declared.settings.Replay.{Replay}
use Rattle.rules.specs.declared.refusals.Refusal.{Refusal}
use Rattle.rules.specs.declared.refusals.Refusal.TheVariants.{Header, Cut, Entry, Cell, Room, Sample}
use Rattle.rules.specs.Refusals.{Answer}
use Rattle.std.specs.declared.result.Result.TheVariants.{Ok, Err}
use Rattle.std.specs.declared.option.Option.{Option}
use Rattle.std.specs.declared.option.Option.TheVariants.{Some, None}
use Rattle.rules.specs.Numbers.{depth_ok, top_of}
use Rattle.rules.specs.Refusals.{or_else, found, over_box}
use Rattle.rules.specs.Record.{edges_in}
use Rattle.rules.specs.Plane.{bad_keep}
use Rattle.rules.specs.Replay.{replay_sizes_ok, replay_long, header_ok, cut_entry, bad_entry, no_room_in, over_replay, record_check, replay_check, replay_of, replay_after, replay_stored, replay_changed}
use Rattle.checks.proofs.Checks.{stop, stop_by, go_on, go_on_by, unless_bad, unless_good, found_bad, found_good, found_bad_by, found_good_by, settle_refused, settle_accepted, else_parts, unless_true, found_nothing}
use Rattle.replay.specs.Fit.{Ranged, Roomy, room_check, Runnable, in_word, Ran, Replayed}
use Rattle.replay.proofs.Entries.{sized_of, header_there}

-- ---- the record's own checks

module _ (bytes : List ℕ) where
  pub header_refused : false ≡ header_ok bytes → Err Header ≡ record_check bytes
  unfolding record_check
  header_refused h = stop _ _ (unless_bad _ _ h)

  module _ (h : true ≡ header_ok bytes) where
    pub cut_refused : {n : ℕ} → Some n ≡ cut_entry bytes → Err (Cut n) ≡ record_check bytes
    unfolding record_check
    cut_refused c = go_on _ _ _ (unless_good _ _ h) (stop _ _ (found_bad _ _ _ c refl))

    module _ (w : None ≡ cut_entry bytes) {f : Option ℕ} (asked : f ≡ bad_entry bytes) where
      last : {a : Answer} → a ≡ found (bad_entry bytes) Entry → a ≡ record_check bytes
      unfolding record_check
      last e = go_on _ _ _ (unless_good _ _ h) (go_on _ _ _ (found_good _ _ w) e)

      pub entry_refused : {k : ℕ} → f ≡ Some k → Err (Entry k) ≡ record_check bytes
      entry_refused e = last (found_bad_by _ _ _ _ asked e refl)

      pub record_passed : f ≡ None → Ok tt ≡ record_check bytes
      record_passed e = last (found_good_by _ _ _ asked e)

-- what they say
pub record Own (bytes : List ℕ) : Type 0 where
  pub header : header_ok bytes ≡ true
  pub whole : cut_entry bytes ≡ None
  pub ranged : Ranged bytes

pub own : (bytes : List ℕ) → record_check bytes ≡ Ok tt → Own bytes
unfolding record_check
own bytes h =
    let a = else_parts _ _ h in
    let b = else_parts _ _ a.1 in
    let there = unless_true _ _ a.0 in
    record {
      header = there;
      whole = found_nothing _ _ b.0;
      ranged = record { header_there = header_there bytes (sym there); entries_ok = found_nothing _ _ b.1 };
    }

-- ---- 6, 7 and 8

module _ (s : Replay) (bytes keep l : List ℕ) {e : Option ℕ} (marked : e ≡ bad_keep (s.rows * s.cols) keep) where
  pub keep_refused : {k : ℕ} → e ≡ Some k → Err (Cell k) ≡ room_check s bytes keep l
  unfolding room_check
  keep_refused q = stop _ _ (found_bad_by _ _ _ _ marked q refl)

  module _ (good : e ≡ None) {f : Option ℕ} (sought : f ≡ no_room_in s bytes) where
    pub room_refused : {k : ℕ} → f ≡ Some k → Err (Room k) ≡ room_check s bytes keep l
    unfolding room_check
    room_refused q = go_on _ _ _ (found_good_by _ _ _ marked good) (stop _ _ (found_bad_by _ _ _ _ sought q refl))

    module _ (room : f ≡ None) {top : ℕ} (deep : top ≡ top_of s.depth) {g : Option ℕ} (over : g ≡ over_box top l 0 s.stride (4 * s.cols) (4 * s.rows)) where
      over_is : g ≡ over_replay s l
      over_is = over ∙ ap (λ (t : ℕ). over_box t l 0 s.stride (4 * s.cols) (4 * s.rows)) deep

      pub sample_refused : {k : ℕ} → g ≡ Some k → Err (Sample k) ≡ room_check s bytes keep l
      unfolding room_check
      sample_refused q = go_on _ _ _ (found_good_by _ _ _ marked good) (go_on _ _ _ (found_good_by _ _ _ sought room) (found_bad_by _ _ _ _ over_is q refl))

      pub room_passed : g ≡ None → Ok tt ≡ room_check s bytes keep l
      unfolding room_check
      room_passed q = go_on _ _ _ (found_good_by _ _ _ marked good) (go_on _ _ _ (found_good_by _ _ _ sought room) (found_good_by _ _ _ over_is q))

-- ---- lengths

pub longs : (s : Replay) (k n : ℕ) → true ≡ replay_long s k n → (4 * s.rows * s.stride ≤ n) × (s.rows * s.cols ≤ k)
unfolding replay_long
longs s k n h = let p = both_parts _ _ (sym h) in (leb-true _ _ p.0, leb-true _ _ p.1)

-- ---- the record's checks after 1, 2 and 3, and then 6, 7 and 8

module _ (s : Replay) (bytes keep l : List ℕ) (d : true ≡ depth_ok s.depth) (z : true ≡ replay_sizes_ok s) (p : true ≡ replay_long s (length keep) (length l)) {a : Answer} (asked : a ≡ record_check bytes) where
  later : {b : Answer} → b ≡ or_else (record_check bytes) (room_check s bytes keep l) → b ≡ replay_check s bytes keep l
  unfolding replay_check room_check
  later h = go_on _ _ _ (unless_good _ _ d) (go_on _ _ _ (unless_good _ _ z) (go_on _ _ _ (unless_good _ _ p) h))

  pub record_refused : {r : Refusal} → a ≡ Err r → Err r ≡ replay_check s bytes keep l
  record_refused e = later (stop_by _ _ _ asked e)

  pub roomy_by : a ≡ Ok tt → Roomy s bytes (length l) (length keep)
  roomy_by e = record { depth = sym d; sized = sized_of s z; ranged = (own bytes (sym asked ∙ e)).ranged; plane_long = (longs s _ _ p).0; keep_long = (longs s _ _ p).1 }

  pub replay_passed : {b : Answer} → a ≡ Ok tt → b ≡ room_check s bytes keep l → b ≡ replay_check s bytes keep l
  replay_passed e h = later (go_on_by _ _ _ _ asked e h)

-- ---- what an accepted record says

pub record Passed (s : Replay) (bytes keep l : List ℕ) : Type 0 where
  pub depth_ok : depth_ok s.depth ≡ true
  pub runs : Runnable s bytes (length l) (top_of s.depth)
  pub record_ok : record_check bytes ≡ Ok tt
  pub clean : over_replay s l ≡ None
  pub keep_long : s.rows * s.cols ≤ length keep
  pub keep_ok : bad_keep (s.rows * s.cols) keep ≡ None

pub passed : (s : Replay) (bytes keep l : List ℕ) → replay_check s bytes keep l ≡ Ok tt → Passed s bytes keep l
unfolding replay_check
passed s bytes keep l h =
    let a = else_parts _ _ h in
    let b = else_parts _ _ a.1 in
    let c = else_parts _ _ b.1 in
    let d = else_parts _ _ c.1 in
    let e = else_parts _ _ d.1 in
    let f = else_parts _ _ e.1 in
    let long = longs s _ _ (sym (unless_true _ _ c.0)) in
    let good = own bytes d.0 in
    record {
      depth_ok = unless_true _ _ a.0;
      runs = record {
        sized = sized_of s (sym (unless_true _ _ b.0));
        ranged = good.ranged;
        room = found_nothing _ _ f.0;
        plane_long = long.0;
        top_is = refl;
      };
      record_ok = d.0;
      clean = found_nothing _ _ f.1;
      keep_long = long.1;
      keep_ok = found_nothing _ _ e.0;
    }

-- ---- the entry, by the answer of its checks

module _ (s : Replay) (bytes keep l : List ℕ) {a : Answer} (is : a ≡ replay_check s bytes keep l) where
  pub replayed_refused : {r : Refusal} → a ≡ Err r → Replayed s bytes keep l (Err r) l
  unfolding replay_after replay_stored replay_changed
  replayed_refused e = record {
    answer = sym e ∙ is;
    plane = settle_refused _ _ _ (sym e ∙ is);
    stored = ap in_word (settle_refused _ 0 _ (sym e ∙ is));
    changed = ap in_word (settle_refused _ 0 _ (sym e ∙ is));
  }

  pub replayed_run : {x y : ℕ} {m : List ℕ} → a ≡ Ok tt → Ran s keep (edges_in bytes) l x y m → Replayed s bytes keep l (Ok (record { stored = x; changed = y })) m
  unfolding replay_after replay_of replay_stored replay_changed
  replayed_run e run = record {
    answer = sym e ∙ is;
    plane = settle_accepted _ _ _ _ (sym e ∙ is) run.plane;
    stored = run.stored_is ∙ ap in_word (settle_accepted _ 0 _ _ (sym e ∙ is) refl);
    changed = run.changed_is ∙ ap in_word (settle_accepted _ 0 _ _ (sym e ∙ is) refl);
  }

  pub depth_by : a ≡ Ok tt → depth_ok s.depth ≡ true
  depth_by e = (passed s bytes keep l (sym is ∙ e)).depth_ok

  pub runnable_by : {top : ℕ} → a ≡ Ok tt → top ≡ top_of s.depth → Runnable s bytes (length l) top
  runnable_by e deep = rw deep (passed s bytes keep l (sym is ∙ e)).runs

  -- what is asked of the keep marks before the run
  pub marks_by : a ≡ Ok tt → s.rows * s.cols ≤ length keep
  marks_by e = (passed s bytes keep l (sym is ∙ e)).keep_long
