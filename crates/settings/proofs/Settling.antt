-- What a line says, put together from what its parts say. Assumes nothing.
use mathlib.Core.Path.{◌≡◌, refl, sym, ap, ◌∙◌}
use mathlib.Core.List.{List, [], ◌∷◌}
use mathlib.Core.Bool.{Bool, true, false, not}
use Prim.Native.Nat.{ℕ, zero, suc, ◌-◌, ◌<◌}
use native.Mathlib.Omega.{arith}
use borrow.Author.Tests.{eq-eqb, ne_eqb, eqb-true, lt-ltb, lt-leb}
use lib.ListN.{length, get_or, set, get_or-eq_default}
use lib.IntN.{ℤ, pos, negsuc}
use lib.Dec.{eqb, leb, ltb}
use mir.Syntax.{w32}
use mir.Val.{SFits, to_z, of_z}
use mir.Facts.{to_z-of_z}
use Rattle.std.specs.Prelude.{Option}
use Rattle.laws.specs.Choose.{pick, pick_yes, both, either, true_not_false}
use Rattle.laws.specs.Whole.{over, under}
use Rattle.text.specs.declared.spell.Word.{Word}
use Rattle.text.specs.Places.{seek, ink_at}
use Rattle.text.specs.Words.{word_at}
use Rattle.text.specs.declared.number.Cursor.{Cursor}
use Rattle.settings.specs.declared.file.Settings.{Settings}
use Rattle.settings.specs.declared.kinds.Kind.{Kind}
use Rattle.settings.specs.declared.kinds.Kind.TheVariants.{Version, Qindex, Steps as «StepsKind», Leaf, LeafUv, Skip, DeltaY, DeltaUv, CapY, CapUv, Chroma, CcsoY, CcsoU, CcsoV, FlagsY, FlagsU, FlagsV, OffsetY, OffsetU, OffsetV, TilesY, TilesUv, Keep}
use Rattle.settings.specs.declared.names.Destination.{Destination}
use Rattle.settings.specs.declared.names.Destination.TheVariants.{Numbers, Shorts, Steps, Flags, Offsets, Tiles}
use Rattle.settings.specs.declared.names.Rule.{Rule}
use Rattle.settings.specs.declared.kinds.Expected.{Expected}
use Rattle.settings.specs.declared.kinds.Expected.TheVariants.{Name, Setting}
use Rattle.settings.specs.Kinds.{number_of, expected_number}
use Rattle.settings.specs.declared.values.Taken.{Taken}
use Rattle.settings.specs.Names.{kind_of}
use Rattle.settings.specs.Values.{read_signed, read_up_to, read_offset, taken_to}
use Rattle.settings.specs.Lines.{Lists, Kept, State, Said, Lent, lists, in_numbers, in_shorts, in_steps, in_flags, in_offsets, take_of, start_of, whole_of, is_one, version_bad, is_flag, flag_bad, verdict_of, settled, judged, ruled, rule_for, fill_of, too_soon, setting_of, named_of, inked_of, line_of}

-- ---- the lists' lengths

pub kept_same : (s : Lists) → Kept s s
kept_same s = record { numbers = refl; shorts = refl; steps = refl; flags = refl; offsets = refl }

pub kept_then : {a b c : Lists} → Kept a b → Kept b c → Kept a c
kept_then h k =
    record { numbers = k.numbers ∙ h.numbers; shorts = k.shorts ∙ h.shorts; steps = k.steps ∙ h.steps; flags = k.flags ∙ h.flags; offsets = k.offsets ∙ h.offsets }

-- ---- the lists are those that were lent

pub lent_same : (s : Settings) → Lent s s
lent_same s = record { numbers = refl; shorts = refl; steps = refl; flags = refl; offsets = refl; places = refl }

pub lent_then : {a b c : Settings} → Lent a b → Lent b c → Lent a c
lent_then h k =
    record {
      numbers = k.numbers ∙ h.numbers;
      shorts = k.shorts ∙ h.shorts;
      steps = k.steps ∙ h.steps;
      flags = k.flags ∙ h.flags;
      offsets = k.offsets ∙ h.offsets;
      places = k.places ∙ h.places;
    }

-- where one list was written
module _ (s : Lists) where
  pub kept_numbers : (l : List ℤ) → length l ≡ length s.numbers → Kept s (lists l s.shorts s.steps s.flags s.offsets)
  kept_numbers l e = record { numbers = e; shorts = refl; steps = refl; flags = refl; offsets = refl }

  pub kept_shorts : (l : List ℕ) → length l ≡ length s.shorts → Kept s (lists s.numbers l s.steps s.flags s.offsets)
  kept_shorts l e = record { numbers = refl; shorts = e; steps = refl; flags = refl; offsets = refl }

  pub kept_steps : (l : List ℕ) → length l ≡ length s.steps → Kept s (lists s.numbers s.shorts l s.flags s.offsets)
  kept_steps l e = record { numbers = refl; shorts = refl; steps = e; flags = refl; offsets = refl }

  pub kept_flags : (l : List ℕ) → length l ≡ length s.flags → Kept s (lists s.numbers s.shorts s.steps l s.offsets)
  kept_flags l e = record { numbers = refl; shorts = refl; steps = refl; flags = e; offsets = refl }

  pub kept_offsets : (l : List ℤ) → length l ≡ length s.offsets → Kept s (lists s.numbers s.shorts s.steps s.flags l)
  kept_offsets l e = record { numbers = refl; shorts = refl; steps = refl; flags = refl; offsets = e }

-- ---- the numbers go to the list that is theirs

module _ (xs : List ℕ) (c : Cursor) (list : Destination) (from end : ℕ) (s : Lists) (t : Taken) where
  pub take_numbers : (l : List ℤ) → list ≡ Numbers → record { list = l; left = t } ≡ taken_to xs (read_signed xs) s.numbers from end c
      → record { lists = lists l s.shorts s.steps s.flags s.offsets; left = t } ≡ take_of xs c list from end s
  unfolding take_of in_numbers
  take_numbers l k e = rw k (ap (in_numbers s) e)

  pub take_shorts : (l : List ℕ) → list ≡ Shorts → record { list = l; left = t } ≡ taken_to xs (read_up_to 65535 xs) s.shorts from end c
      → record { lists = lists s.numbers l s.steps s.flags s.offsets; left = t } ≡ take_of xs c list from end s
  unfolding take_of in_shorts
  take_shorts l k e = rw k (ap (in_shorts s) e)

  pub take_steps : (l : List ℕ) → list ≡ Steps → record { list = l; left = t } ≡ taken_to xs (read_up_to 4294967295 xs) s.steps from end c
      → record { lists = lists s.numbers s.shorts l s.flags s.offsets; left = t } ≡ take_of xs c list from end s
  unfolding take_of in_steps
  take_steps l k e = rw k (ap (in_steps s) e)

  pub take_flags : (l : List ℕ) → list ≡ Flags → record { list = l; left = t } ≡ taken_to xs (read_up_to 1 xs) s.flags from end c
      → record { lists = lists s.numbers s.shorts s.steps l s.offsets; left = t } ≡ take_of xs c list from end s
  unfolding take_of in_flags
  take_flags l k e = rw k (ap (in_flags s) e)

  pub take_offsets : (l : List ℤ) → list ≡ Offsets → record { list = l; left = t } ≡ taken_to xs (read_offset xs) s.offsets from end c
      → record { lists = lists s.numbers s.shorts s.steps s.flags l; left = t } ≡ take_of xs c list from end s
  unfolding take_of in_offsets
  take_offsets l k e = rw k (ap (in_offsets s) e)

  pub take_tiles : (l : List ℕ) → list ≡ Tiles → record { list = l; left = t } ≡ taken_to xs (read_up_to 65535 xs) s.shorts from end c
      → record { lists = lists s.numbers l s.steps s.flags s.offsets; left = t } ≡ take_of xs c list from end s
  unfolding take_of in_shorts
  take_tiles l k e = rw k (ap (in_shorts s) e)

-- ---- where they begin

pub start_numbers : (list : Destination) (from place : ℕ) → list ≡ Numbers → from ≡ start_of list from place
unfolding start_of
start_numbers list from place e = rw e

pub start_tiles : (list : Destination) (from place : ℕ) → list ≡ Tiles → from ≡ start_of list from place
unfolding start_of
start_tiles list from place e = rw e

pub start_on : (list : Destination) (from place : ℕ) → (list ≡ Numbers → ⊥) → (list ≡ Tiles → ⊥) → place ≡ start_of list from place
unfolding start_of
start_on Numbers from place h g = absurd (h refl)
start_on Shorts from place h g = refl
start_on Steps from place h g = refl
start_on Flags from place h g = refl
start_on Offsets from place h g = refl
start_on Tiles from place h g = absurd (g refl)

-- ---- tests

above_one : (n : ℕ) → ltb 1 n ≡ not (leb n 1)
above_one zero = refl
above_one (suc zero) = refl
above_one (suc (suc n)) = rw (lt-ltb 1 (suc (suc n)) (omega arith), lt-leb (suc (suc n)) 1 (omega arith))

either_none : (b : Bool) → b ≡ either b false
unfolding either
either_none true = refl
either_none false = refl

judged_by : (p q a b : Bool) (kind : ℕ) → (p ≡ true → kind ≡ 1) → (q ≡ true → kind ≡ 11) → either (both p a) (both q b) ≡ true
    → kind ≡ pick (both p a) 1 (pick (both q b) 11 0)
unfolding either both pick
judged_by true q true b kind f g h = f refl
judged_by true true false true kind f g h = g refl
judged_by true true false false kind f g h = true_not_false h
judged_by true false false b kind f g h = true_not_false h
judged_by false true a true kind f g h = g refl
judged_by false true a false kind f g h = true_not_false h
judged_by false false a b kind f g h = true_not_false h

number_judged : (kind : ℕ) (a b : Bool) → either (both (eqb kind 1) a) (both (eqb kind 11) b) ≡ true
    → kind ≡ pick (both (eqb kind 1) a) 1 (pick (both (eqb kind 11) b) 11 0)
number_judged kind a b h = judged_by (eqb kind 1) (eqb kind 11) a b kind (eqb-true kind 1) (eqb-true kind 11) h

nothing_judged : (a b : Bool) → either a b ≡ false → ◌≡◌ {A = ℕ} 0 (pick a 1 (pick b 11 0))
unfolding either pick
nothing_judged false false h = refl
nothing_judged false true h = true_not_false (sym h)
nothing_judged true b h = true_not_false (sym h)

-- ---- the version

one_is : (z : ℤ) → eqb (over z) 1 ≡ is_one z
unfolding is_one
one_is (pos n) = refl
one_is (negsuc n) = refl

pub version_none : (numbers : List ℤ) → length numbers ≡ 0 → true ≡ not (is_one (get_or numbers 0 (pos 0)))
unfolding is_one
version_none [] e = refl
version_none (z ∷ zs) e = absurd (omega arith)

-- as `Gap::from` gave it
pub version_some : (up : ℕ) (numbers : List ℤ) → SFits w32 (get_or numbers 0 (pos 0)) → up ≡ over (to_z w32 (of_z w32 (get_or numbers 0 (pos 0))))
    → not (eqb up 1) ≡ not (is_one (get_or numbers 0 (pos 0)))
version_some up numbers f e = rw (e, to_z-of_z f, one_is (get_or numbers 0 (pos 0)))

-- ---- the flag

flag_is : (z : ℤ) → under z ≡ 0 → leb (over z) 1 ≡ is_flag z
unfolding is_flag
flag_is (pos n) h = refl
flag_is (negsuc n) h = absurd (omega arith)

flag_below : (z : ℤ) → (under z ≡ 0 → ⊥) → false ≡ is_flag z
unfolding is_flag
flag_below (pos n) h = absurd (h refl)
flag_below (negsuc n) h = refl

pub flag_none : (numbers : List ℤ) → length numbers < 8 → false ≡ not (is_flag (get_or numbers 7 (pos 0)))
unfolding is_flag
flag_none numbers h = rw (get_or-eq_default numbers (pos 0) {n = 7} (omega arith))

-- as `Gap::from` gave it
module _ (numbers : List ℤ) (down up : ℕ) (f : SFits w32 (get_or numbers 7 (pos 0)))
    (e : (up ≡ over (to_z w32 (of_z w32 (get_or numbers 7 (pos 0))))) × (down ≡ under (to_z w32 (of_z w32 (get_or numbers 7 (pos 0)))))) where
  below_is : down ≡ under (get_or numbers 7 (pos 0))
  below_is = e.1 ∙ ap (λ (z : ℤ). under z) (to_z-of_z f)

  above_is : up ≡ over (get_or numbers 7 (pos 0))
  above_is = e.0 ∙ ap (λ (z : ℤ). over z) (to_z-of_z f)

  pub flag_down : (down ≡ 0 → ⊥) → true ≡ not (is_flag (get_or numbers 7 (pos 0)))
  flag_down n = rw (← flag_below (get_or numbers 7 (pos 0)) (λ z. n (below_is ∙ z)))

  pub flag_up : down ≡ 0 → ltb 1 up ≡ not (is_flag (get_or numbers 7 (pos 0)))
  flag_up n = rw (← flag_is (get_or numbers 7 (pos 0)) (sym below_is ∙ n), ← above_is) (above_one up)

-- ---- which kind asks for which

-- a kind by its number
named : ℕ → Kind
named n =
    pick (eqb n 1) Version
    (pick (eqb n 2) Qindex
    (pick (eqb n 3) StepsKind
    (pick (eqb n 4) Leaf
    (pick (eqb n 5) LeafUv
    (pick (eqb n 6) Skip
    (pick (eqb n 7) DeltaY
    (pick (eqb n 8) DeltaUv
    (pick (eqb n 9) CapY
    (pick (eqb n 10) CapUv
    (pick (eqb n 11) Chroma
    (pick (eqb n 12) CcsoY
    (pick (eqb n 13) CcsoU
    (pick (eqb n 14) CcsoV
    (pick (eqb n 15) FlagsY
    (pick (eqb n 16) FlagsU
    (pick (eqb n 17) FlagsV
    (pick (eqb n 18) OffsetY
    (pick (eqb n 19) OffsetU
    (pick (eqb n 20) OffsetV
    (pick (eqb n 21) TilesY
    (pick (eqb n 22) TilesUv
    (pick (eqb n 23) Keep
    Version))))))))))))))))))))))

named_is : (kind : Kind) → named (number_of kind) ≡ kind
unfolding named pick
named_is Version = refl
named_is Qindex = refl
named_is StepsKind = refl
named_is Leaf = refl
named_is LeafUv = refl
named_is Skip = refl
named_is DeltaY = refl
named_is DeltaUv = refl
named_is CapY = refl
named_is CapUv = refl
named_is Chroma = refl
named_is CcsoY = refl
named_is CcsoU = refl
named_is CcsoV = refl
named_is FlagsY = refl
named_is FlagsU = refl
named_is FlagsV = refl
named_is OffsetY = refl
named_is OffsetU = refl
named_is OffsetV = refl
named_is TilesY = refl
named_is TilesUv = refl
named_is Keep = refl

pub kind_some : (kind : Kind) → number_of kind ≡ 0 → ⊥
kind_some Version h = omega arith
kind_some Qindex h = omega arith
kind_some StepsKind h = omega arith
kind_some Leaf h = omega arith
kind_some LeafUv h = omega arith
kind_some Skip h = omega arith
kind_some DeltaY h = omega arith
kind_some DeltaUv h = omega arith
kind_some CapY h = omega arith
kind_some CapUv h = omega arith
kind_some Chroma h = omega arith
kind_some CcsoY h = omega arith
kind_some CcsoU h = omega arith
kind_some CcsoV h = omega arith
kind_some FlagsY h = omega arith
kind_some FlagsU h = omega arith
kind_some FlagsV h = omega arith
kind_some OffsetY h = omega arith
kind_some OffsetU h = omega arith
kind_some OffsetV h = omega arith
kind_some TilesY h = omega arith
kind_some TilesUv h = omega arith
kind_some Keep h = omega arith

pub expected_some : (e : Expected) → expected_number e ≡ 0 → ⊥
expected_some Name h = omega arith
expected_some (Setting kind) h = kind_some kind h

not_number : (kind other : Kind) → (kind ≡ other → ⊥) → eqb (number_of kind) (number_of other) ≡ false
not_number kind other h = ne_eqb _ _ (λ e. h (sym (named_is kind) ∙ ap named e ∙ named_is other))

pub version_asked : (kind : Kind) (numbers : List ℤ) (r : Bool) → kind ≡ Version → r ≡ not (is_one (get_or numbers 0 (pos 0)))
    → r ≡ either (version_bad (number_of kind) numbers) (flag_bad (number_of kind) numbers)
unfolding version_bad flag_bad both
version_asked kind numbers r k e = rw k (e ∙ either_none (not (is_one (get_or numbers 0 (pos 0)))))

pub flag_asked : (kind : Kind) (numbers : List ℤ) (r : Bool) → kind ≡ Chroma → r ≡ not (is_flag (get_or numbers 7 (pos 0)))
    → r ≡ either (version_bad (number_of kind) numbers) (flag_bad (number_of kind) numbers)
unfolding version_bad flag_bad both either
flag_asked kind numbers r k e = rw k e

pub none_asked : (kind : Kind) (numbers : List ℤ) → (kind ≡ Version → ⊥) → (kind ≡ Chroma → ⊥)
    → false ≡ either (version_bad (number_of kind) numbers) (flag_bad (number_of kind) numbers)
unfolding version_bad flag_bad both either
none_asked kind numbers h g = rw (not_number kind Version h, not_number kind Chroma g)

pub soon_never : (kind : Kind) (first : ℕ) → kind ≡ Version → false ≡ too_soon (number_of kind) first
unfolding too_soon both
soon_never kind first k = rw k

pub soon_asked : (kind : Kind) (first : ℕ) → (kind ≡ Version → ⊥) → eqb first 0 ≡ too_soon (number_of kind) first
unfolding too_soon both
soon_asked kind first h = rw (not_number kind Version h)

-- ---- the verdict

module _ (t : Taken) (from : ℕ) (each : Option ℕ) (kind : ℕ) (numbers : List ℤ) (w : Bool) (asked : w ≡ whole_of t from each) where
  pub verdict_cut : w ≡ false → kind ≡ verdict_of t from each kind numbers
  unfolding verdict_of pick
  verdict_cut h = rw (← asked, h)

  module _ (read : w ≡ true) (b : Bool) (told : b ≡ either (version_bad kind numbers) (flag_bad kind numbers)) where
    pub verdict_bad : b ≡ true → kind ≡ verdict_of t from each kind numbers
    unfolding verdict_of version_bad flag_bad
    verdict_bad h = pick_yes _ _ _ _ (sym read ∙ asked) (number_judged kind _ _ (sym told ∙ h))

    pub verdict_good : b ≡ false → 0 ≡ verdict_of t from each kind numbers
    unfolding verdict_of
    verdict_good h = pick_yes _ _ _ _ (sym read ∙ asked) (nothing_judged _ _ (sym told ∙ h))

-- ---- the line's numbers, judged

module _ (xs : List ℕ) (at end kind n from k : ℕ) (s : State) (rule : Rule) (ls : Lists) (t : Taken) (numbered : n ≡ kind)
    (ruling : rule ≡ rule_for kind s) (starts : from ≡ start_of rule.list rule.from (get_or s.places n 0))
    (takes : record { lists = ls; left = t } ≡ take_of xs (record { at = at; end = end; good = true }) rule.list from rule.end s.lists)
    (judges : k ≡ verdict_of t from rule.each kind ls.numbers) where
  fill_is : settled kind s.places (record { lists = ls; left = t }) k ≡ fill_of xs at end kind s
  unfolding fill_of ruled judged
  fill_is = rw (← ruling, ← numbered, ← starts, ← takes, numbered, ← judges)

  -- the places are those of before
  module _ (ps : List ℕ) (same : ps ≡ s.places) where
    pub fill_bad : (k ≡ 0 → ⊥) → record { state = record { lists = ls; places = ps }; answer = k } ≡ fill_of xs at end kind s
    unfolding settled pick
    fill_bad h =
        let e : record { state = record { lists = ls; places = ps }; answer = k } ≡ settled kind s.places (record { lists = ls; left = t }) k = rw (ne_eqb _ _ h, same) in
        e ∙ fill_is

    pub fill_good : k ≡ 0 → record { state = record { lists = ls; places = set ps n t.at }; answer = 0 } ≡ fill_of xs at end kind s
    unfolding settled pick
    fill_good h =
        let e : record { state = record { lists = ls; places = set ps n t.at }; answer = 0 } ≡ settled kind s.places (record { lists = ls; left = t }) k = rw (h, same, numbered) in
        e ∙ fill_is

-- ---- the line, by its name

module _ (xs : List ℕ) (at end kind : ℕ) (s : State) (soon : Bool) (asked : soon ≡ too_soon kind (get_or s.places 1 0)) where
  pub setting_soon : soon ≡ true → record { state = s; answer = 1 } ≡ setting_of xs at end kind s
  unfolding setting_of pick
  setting_soon h = rw (← asked, h)

  pub setting_on : (p : Said) → soon ≡ false → p ≡ fill_of xs at end kind s → p ≡ setting_of xs at end kind s
  unfolding setting_of pick
  setting_on p h e = rw (← asked, h) e

module _ (xs : List ℕ) (from end at : ℕ) (s : State) (walked : at ≡ seek (ink_at xs) from (end - from)) where
  pub line_empty : at ≡ end → record { state = s; answer = 0 } ≡ line_of xs from end s
  unfolding line_of inked_of pick
  line_empty h = rw (← walked, eq-eqb _ _ h)

  module _ (w : Word) (k : ℕ) (some : (at ≡ end → ⊥)) (read : w ≡ word_at xs at end) (known : k ≡ kind_of w.value) where
    pub line_unknown : k ≡ 0 → record { state = s; answer = 24 } ≡ line_of xs from end s
    unfolding line_of inked_of named_of pick
    line_unknown h = rw (← walked, ne_eqb _ _ some, ← read, ← known, eq-eqb _ _ h)

    pub line_known : (p : Said) → (k ≡ 0 → ⊥) → p ≡ setting_of xs w.next end k s → p ≡ line_of xs from end s
    unfolding line_of inked_of named_of pick
    line_known p h e = rw (← walked, ne_eqb _ _ some, ← read, ← known, ne_eqb _ _ h) e
