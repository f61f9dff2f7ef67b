-- The place of each kind of refusal, and the settings' own lists as those that a frame is lent. Assumes nothing.
use mathlib.Core.Path.{◌≡◌, sym, ap, ◌∙◌}
use mathlib.Core.List.{List}
use Prim.Native.Nat.{ℕ}
use borrow.Author.Rules.{rules}
use lib.ListN.{length, get_or}
use Rattle.rules.specs.declared.settings.Frame.{Frame}
use Rattle.rules.specs.declared.refusals.Refusal.{Refusal}
use Rattle.rules.specs.declared.refusals.Refusal.TheVariants.{Depth, Size, Length, Steps, Setting, Cell, Room, Sample, Leaf, Buffer, Header, Cut, Entry, Filled, Spent}
use Rattle.std.specs.declared.result.Result.{Result}
use Rattle.rules.specs.declared.counts.Counts.{Counts}
use Rattle.rules.specs.Refusals.{answered, changed_in, stored_in}
use Rattle.rules.specs.Refusals.{Answer}
use Rattle.std.specs.declared.result.Result.TheVariants.{Ok, Err}
use Rattle.rules.specs.Frame.{Planes, Given}
use Rattle.frame.proofs.Given.{luma_sampled, luma_built}
use Rattle.frame_promises.proofs.Theorems.{refused_kept, room_early}
use Rattle.by_settings.specs.declared.places.Place.{Place}
use Rattle.by_settings.specs.declared.lists.Lists.{Lists}
use Rattle.by_settings.specs.Lists.{lists_asked, steps_asked}
use Rattle.by_settings.specs.Places.{place_in, sample_place, leaves_place}
use Rattle.frame_by_settings.specs.declared.lists.Refused.{Refused}
use Rattle.frame_by_settings.specs.Deblocked.{Starts, Keeps, over_zeros, deblocked, Deblocked, LumaFit, room_place}
use Rattle.frame_by_settings.specs.Framed.{given_by, given_asked, starts_by, starts_asked, refusal_place, DeblockedAt}

module _ (f : Frame) (n : Given) (ts : List ℕ) (p : Planes) (r : Refusal) {x : Place} where
  pub at_sample : {k : ℕ} → r ≡ Sample k → x ≡ sample_place f p.y p.u k → x ≡ refusal_place f n ts p r
  unfolding refusal_place
  at_sample e g = rw e g

  pub at_room : {k : ℕ} → r ≡ Room k → x ≡ room_place f n.leaves n.skips n.sbq ts k → x ≡ refusal_place f n ts p r
  unfolding refusal_place
  at_room e g = rw e g

  pub at_leaf : {k : ℕ} → r ≡ Leaf k → x ≡ leaves_place n.leaves n.chroma_leaves n.skips k → x ≡ refusal_place f n ts p r
  unfolding refusal_place
  at_leaf e g = rw e g

  pub at_step : {k : ℕ} → r ≡ Steps k → x ≡ place_in 7 k 0 → x ≡ refusal_place f n ts p r
  unfolding refusal_place
  at_step e g = rw e g

  pub of_depth : r ≡ Depth → x ≡ place_in 8 0 0 → x ≡ refusal_place f n ts p r
  unfolding refusal_place
  of_depth e g = rw e g

  pub of_size : r ≡ Size → x ≡ place_in 8 0 0 → x ≡ refusal_place f n ts p r
  unfolding refusal_place
  of_size e g = rw e g

  pub of_length : r ≡ Length → x ≡ place_in 8 0 0 → x ≡ refusal_place f n ts p r
  unfolding refusal_place
  of_length e g = rw e g

  pub of_setting : r ≡ Setting → x ≡ place_in 8 0 0 → x ≡ refusal_place f n ts p r
  unfolding refusal_place
  of_setting e g = rw e g

  pub of_cell : {k : ℕ} → r ≡ Cell k → x ≡ place_in 8 0 0 → x ≡ refusal_place f n ts p r
  unfolding refusal_place
  of_cell e g = rw e g

  pub of_buffer : r ≡ Buffer → x ≡ place_in 8 0 0 → x ≡ refusal_place f n ts p r
  unfolding refusal_place
  of_buffer e g = rw e g

  pub of_header : r ≡ Header → x ≡ place_in 8 0 0 → x ≡ refusal_place f n ts p r
  unfolding refusal_place
  of_header e g = rw e g

  pub of_cut : {k : ℕ} → r ≡ Cut k → x ≡ place_in 8 0 0 → x ≡ refusal_place f n ts p r
  unfolding refusal_place
  of_cut e g = rw e g

  pub of_entry : {k : ℕ} → r ≡ Entry k → x ≡ place_in 8 0 0 → x ≡ refusal_place f n ts p r
  unfolding refusal_place
  of_entry e g = rw e g

  pub of_filled : r ≡ Filled → x ≡ place_in 8 0 0 → x ≡ refusal_place f n ts p r
  unfolding refusal_place
  of_filled e g = rw e g

  pub of_spent : r ≡ Spent → x ≡ place_in 8 0 0 → x ≡ refusal_place f n ts p r
  unfolding refusal_place
  of_spent e g = rw e g

pub ruleset refusing = (rules, at_sample, at_room, at_leaf, at_step, of_depth, of_size, of_length, of_setting, of_cell, of_buffer, of_header, of_cut, of_entry, of_filled, of_spent)

-- ---- what a deblocked frame tells

module _ {f : Frame} {n : Given} {t : Starts} {k : Keeps} {p left : Planes} {a : Result Counts Refusal} (d : Deblocked f n t k p a left) where
  -- a frame that lacks room has passed its early checks
  pub luma_fit : {r : Refusal} {i : ℕ} → a ≡ Err r → r ≡ Room i → LumaFit f n.leaves n.skips (length n.sbq)
  unfolding deblocked
  luma_fit e is =
      let ok = room_early f n (over_zeros t k p) (sym d.answer ∙ ap answered e ∙ ap Err is) in
      record { size = length p.y; sampled = luma_sampled _ _ _ _ _ _ _ ok; built = luma_built _ _ _ _ _ _ _ ok }

  -- a refused one has its planes as lent
  kept : {r : Refusal} → answered a ≡ Err r → left ≡ p
  unfolding deblocked
  kept e = d.samples ∙ refused_kept f n (over_zeros t k p) (sym d.answer ∙ e)

  pub told_refused : {r : Refusal} {x : Place} → a ≡ Err r → x ≡ refusal_place f n t.luma left r → DeblockedAt f n t k p (Err (record { refusal = r; place = x })) left
  told_refused e g = record { deblocked = rw e at d; place = rw (kept (ap answered e)) at g }

  pub told_accepted : {x : Counts} → a ≡ Ok x → DeblockedAt f n t k p (Ok x) left
  told_accepted e = record { deblocked = rw e at d; place = tt }

-- the lists l and m steps, as the settings have them
pub told_so : (f : Frame) (shorts steps places : List ℕ) (k : Keeps) (p : Planes) (l : Lists) (m : ℕ) → l ≡ lists_asked (length shorts) places → m ≡ steps_asked (get_or places 3 0)
    → {o : Result Counts Refused} {left : Planes} → DeblockedAt f (given_by l m shorts steps) (starts_by l shorts) k p o left → DeblockedAt f (given_asked shorts steps places) (starts_asked shorts places) k p o left
unfolding given_asked starts_asked
told_so f shorts steps places k p l m is-l is_m d = rw (is-l, is_m) at d

pub ruleset settled = (rules, told_so)
