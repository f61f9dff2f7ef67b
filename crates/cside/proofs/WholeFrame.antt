-- What C is told of a frame by its settings as a list, and that its statement allows one result.
-- Assumes nothing.
use mathlib.Core.Path.{◌≡◌, sym, ap₂, ◌∙◌}
use mathlib.Core.List.{List}
use Prim.Native.Nat.{ℕ}
use lib.IntN.{ℤ}
use mir.Syntax.{w32}
use mir.Val.{to_z, of_z}
use Rattle.rules.specs.declared.settings.Frame.{Frame}
use Rattle.rules.specs.declared.refusals.Refusal.{Refusal}
use Rattle.rules.specs.Refusals.{Answer}
use Rattle.std.specs.declared.result.Result.TheVariants.{Ok, Err}
use Rattle.std.specs.declared.result.Result.{Result}
use Rattle.rules.specs.declared.counts.Counts.{Counts}
use Rattle.rules.specs.Refusals.{answered, changed_in, stored_in}
use Rattle.rules.specs.Frame.{Given, Lent, or_done}
use Rattle.checks.proofs.Checks.{settle_refused, settle_accepted}
use Rattle.frame.specs.Stated.{Stated}
use Rattle.answers.specs.Told.{tallied, Told}
use Rattle.answers.proofs.Numbers.{told_by}
use Rattle.answers.proofs.Unique.{told_unique}
use Rattle.by_list.specs.Frames.{frame_settings, list_check, c_frame_of, c_frame_stored, c_frame_changed, FrameTold}

module _ (settings : List ℤ) (n : Given) (l : Lent) {a : Answer} (is : a ≡ list_check settings) {p q k t : List ℕ} {z : ℤ} where
  pub frame_refused : {r : Refusal} → a ≡ Err r → Told (Err r) p z q × (t ≡ tallied 0 0 k) → FrameTold settings n l p k (to_z w32 (of_z w32 z)) l q t
  unfolding c_frame_of or_done c_frame_stored c_frame_changed
  frame_refused {r} e u =
      let no : Err r ≡ list_check settings = sym e ∙ is in
      let own : Err r ≡ (c_frame_of settings n l).answer = rw (← no) in
      record {
        told = told_by own u.0;
        lists_are = rw (← no);
        counts_are = u.1 ∙ ap₂ (λ (s c : ℕ). tallied s c k) (settle_refused _ _ _ no) (settle_refused _ _ _ no);
      }

  pub frame_told : {f : Frame} {x : Result Counts Refusal} {m : Lent} → a ≡ Ok tt → f ≡ frame_settings settings → Stated f n l x m → Told (answered x) p z q × (t ≡ tallied (stored_in x) (changed_in x) k)
      → FrameTold settings n l p k (to_z w32 (of_z w32 z)) m q t
  unfolding c_frame_of or_done c_frame_stored c_frame_changed
  frame_told {f} {x} {m} e read d u =
      let w : Stated (frame_settings settings) n l x m = rw read at d in
      let ok : Ok tt ≡ list_check settings = sym e ∙ is in
      let own : answered x ≡ (c_frame_of settings n l).answer = rw (← ok) w.answer in
      record {
        told = told_by own u.0;
        lists_are = rw (← ok) w.lists;
        counts_are = u.1 ∙ ap₂ (λ (s c : ℕ). tallied s c k) (settle_accepted _ _ _ _ ok w.stored) (settle_accepted _ _ _ _ ok w.changed);
      }

-- ---- two results that the statement allows are equal

module _ {settings : List ℤ} {n : Given} {l : Lent} where
  pub frame_unique : {place counts p q x y : List ℕ} {r s : ℤ} {k m : Lent} → FrameTold settings n l place counts r k p x → FrameTold settings n l place counts s m q y
      → (r ≡ s) × (k ≡ m) × (p ≡ q) × (x ≡ y)
  frame_unique t u =
      let e = told_unique t.told u.told in
      (e.0, t.lists_are ∙ sym u.lists_are, e.1, t.counts_are ∙ sym u.counts_are)
