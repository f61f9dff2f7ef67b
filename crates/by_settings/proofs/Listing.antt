-- The lists of the settings by the ends that were limited. Assumes nothing.
use mathlib.Core.Path.{◌≡◌, sym, ◌∙◌}
use mathlib.Core.List.{List}
use Prim.Native.Nat.{ℕ, ◌+◌, ◌*◌, ◌-◌, ◌≤◌, min, max}
use native.Mathlib.Omega.{arith}
use native.Mathlib.Nat.{le_trans}
use borrow.Author.Rules.{rules}
use borrow.Author.Tests.{eq-eqb, ne_eqb}
use Rattle.laws.specs.Choose.{pick}
use Rattle.settings.specs.Rules.{leaf_room, tiles_from, keeps_from}
use Rattle.by_settings.specs.declared.lists.Lists.{Lists}
use Rattle.by_settings.specs.Rooms.{qindex_room, tiles_room, keeps_room, fewest_shorts, leaf_kind, chroma_leaf_kind, skip_kind, tiles_kind, chroma_tiles_kind, keep_kind}
use Rattle.by_settings.specs.Lists.{end_of, lists_asked, ListsWithin}

-- a place limited to those from one to another
abbrev limited : ℕ → ℕ → ℕ → ℕ
limited p from end = max from (min p end)

-- it lies between the two
in_limits : {from end e : ℕ} (p : ℕ) → e ≡ limited p from end → from ≤ end → (from ≤ e) × (e ≤ end)
in_limits p h le = (omega arith, omega arith)

-- every list by the room of each sort of leaves: the ends of luma's leaves, of the skip leaves, of the tile starts and of the kept rectangles, and chroma's leaves
abbrev listed : ℕ → ℕ → ℕ → ℕ → ℕ → ℕ → ℕ → ℕ → Lists
listed room l from end s t u k = record {
  entries = qindex_room;
  leaves = qindex_room;
  leavesend = l;
  chroma = from;
  chromaend = end;
  skips = qindex_room + room + room;
  skipsend = s;
  tiles = qindex_room + room + room + room;
  tilesend = t;
  chromatiles = qindex_room + room + room + room + tiles_room;
  chromatilesend = u;
  keeps = qindex_room + room + room + room + tiles_room + tiles_room;
  keepsend = k;
}

-- room is what each sort of leaves has
module _ (n room : ℕ) (places : List ℕ) (l c s t u k : ℕ) (has : room ≡ leaf_room n)
    (el : l ≡ end_of places leaf_kind qindex_room (qindex_room + room)) (ec : c ≡ end_of places chroma_leaf_kind (qindex_room + room) (qindex_room + room + room))
    (es : s ≡ end_of places skip_kind (qindex_room + room + room) (qindex_room + room + room + room))
    (et : t ≡ end_of places tiles_kind (qindex_room + room + room + room) (qindex_room + room + room + room + tiles_room))
    (eu : u ≡ end_of places chroma_tiles_kind (qindex_room + room + room + room + tiles_room) (qindex_room + room + room + room + tiles_room + tiles_room))
    (ek : k ≡ end_of places keep_kind (qindex_room + room + room + room + tiles_room + tiles_room) (qindex_room + room + room + room + tiles_room + tiles_room + keeps_room)) where
  -- chroma without leaves of its own
  pub lists_shared : c ≡ qindex_room + room → listed room l qindex_room l s t u k ≡ lists_asked n places
  unfolding lists_asked keeps_from tiles_from pick
  lists_shared h = rw (← has, el, es, et, eu, ek, eq-eqb _ _ (sym ec ∙ h))

  -- chroma with its own
  pub lists_own : (c ≡ qindex_room + room → ⊥) → listed room l (qindex_room + room) c s t u k ≡ lists_asked n places
  unfolding lists_asked keeps_from tiles_from pick
  lists_own h = rw (← has, el, es, et, eu, ek, ← ec, ne_eqb c (qindex_room + room) h)

grows : (a b : ℕ) → a ≤ a + b
grows a b = omega arith

-- the ends of the rooms, by what is there for three sorts of leaves, two lists of tile starts and the rectangles
module _ (n room : ℕ) (some : fewest_shorts ≤ n) (fits : 3 * room ≤ n - fewest_shorts) where
  entries_fit : qindex_room ≤ n
  entries_fit = omega arith

  one_in : qindex_room + room ≤ n
  one_in = omega arith

  two_in : qindex_room + room + room ≤ n
  two_in = omega arith

  three_in : qindex_room + room + room + room ≤ n
  three_in = omega arith

  four_in : qindex_room + room + room + room + tiles_room ≤ n
  four_in = omega arith

  five_in : qindex_room + room + room + room + tiles_room + tiles_room ≤ n
  five_in = omega arith

  six_in : qindex_room + room + room + room + tiles_room + tiles_room + keeps_room ≤ n
  six_in = omega arith

-- every list lies within the numbers, whatever the places after the last ones are
module _ (n room : ℕ) (pl ps pt pu pk : ℕ) (l s t u k : ℕ) (some : fewest_shorts ≤ n) (fits : 3 * room ≤ n - fewest_shorts)
    (el : l ≡ limited pl qindex_room (qindex_room + room))
    (es : s ≡ limited ps (qindex_room + room + room) (qindex_room + room + room + room))
    (et : t ≡ limited pt (qindex_room + room + room + room) (qindex_room + room + room + room + tiles_room))
    (eu : u ≡ limited pu (qindex_room + room + room + room + tiles_room) (qindex_room + room + room + room + tiles_room + tiles_room))
    (ek : k ≡ limited pk (qindex_room + room + room + room + tiles_room + tiles_room) (qindex_room + room + room + room + tiles_room + tiles_room + keeps_room)) where
  luma_ends : (qindex_room ≤ l) × (l ≤ qindex_room + room)
  luma_ends = in_limits pl el (grows qindex_room room)

  skips_ends : (qindex_room + room + room ≤ s) × (s ≤ qindex_room + room + room + room)
  skips_ends = in_limits ps es (grows (qindex_room + room + room) room)

  tiles_ends : (qindex_room + room + room + room ≤ t) × (t ≤ qindex_room + room + room + room + tiles_room)
  tiles_ends = in_limits pt et (grows (qindex_room + room + room + room) tiles_room)

  chromatiles_ends : (qindex_room + room + room + room + tiles_room ≤ u) × (u ≤ qindex_room + room + room + room + tiles_room + tiles_room)
  chromatiles_ends = in_limits pu eu (grows (qindex_room + room + room + room + tiles_room) tiles_room)

  keeps_ends : (qindex_room + room + room + room + tiles_room + tiles_room ≤ k) × (k ≤ qindex_room + room + room + room + tiles_room + tiles_room + keeps_room)
  keeps_ends = in_limits pk ek (grows (qindex_room + room + room + room + tiles_room + tiles_room) keeps_room)

  within_of : (from end : ℕ) → from ≤ end → end ≤ n → ListsWithin (listed room l from end s t u k) n
  within_of from end a b = record {
    entries_in = entries_fit n room some fits;
    leaves_from = luma_ends.0;
    leaves_in = le_trans luma_ends.1 (one_in n room some fits);
    chroma_from = a;
    chroma_in = b;
    skips_from = skips_ends.0;
    skips_in = le_trans skips_ends.1 (three_in n room some fits);
    tiles_from = tiles_ends.0;
    tiles_in = le_trans tiles_ends.1 (four_in n room some fits);
    chromatiles_from = chromatiles_ends.0;
    chromatiles_in = le_trans chromatiles_ends.1 (five_in n room some fits);
    keeps_from = keeps_ends.0;
    keeps_in = le_trans keeps_ends.1 (six_in n room some fits);
  }

  pub within_shared : ListsWithin (listed room l qindex_room l s t u k) n
  within_shared = within_of qindex_room l luma_ends.0 (le_trans luma_ends.1 (one_in n room some fits))

  pub within_own : {c : ℕ} (pc : ℕ) → c ≡ limited pc (qindex_room + room) (qindex_room + room + room) → ListsWithin (listed room l (qindex_room + room) c s t u k) n
  within_own {c} pc ec =
      let ends = in_limits pc ec (grows (qindex_room + room) room) in
      within_of (qindex_room + room) c ends.0 (le_trans ends.1 (two_in n room some fits))

pub ruleset listing = (rules, lists_shared, lists_own, within_shared, within_own)
