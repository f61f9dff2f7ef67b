-- The lists of the settings among their n short numbers: the qindex entries, then luma's leaves, chroma's leaves, skip leaves, luma's tile starts and chroma's, and the kept rectangles,
-- each from a place of its own to the place after its last number. Assumes nothing.
use Rattle.std.specs.Prelude.{List, ℕ, ◌+◌, ◌-◌, ◌≤◌, min, max, eqb, get_or, take, drop}
use Rattle.laws.specs.Choose.{pick}
use Rattle.settings.specs.Rules.{leaf_room, tiles_from, keeps_from}
use Rattle.by_settings.specs.declared.lists.Lists.{Lists}
use Rattle.by_settings.specs.Rooms.{qindex_room, tiles_room, keeps_room, steps_room, leaf_kind, chroma_leaf_kind, skip_kind, tiles_kind, chroma_tiles_kind, keep_kind}

-- the end of a list that begins at `from` and has room up to `end`, by the place after the last number of its kind
abbrev pub end_of : List ℕ → ℕ → ℕ → ℕ → ℕ
end_of places kind from end = max from (min (get_or places kind 0) end)

-- where chroma's leaves begin, and where the skip leaves do
abbrev pub chroma_from : ℕ → ℕ
chroma_from n = qindex_room + leaf_room n

abbrev pub skips_from : ℕ → ℕ
skips_from n = chroma_from n + leaf_room n

-- each by its kind; chroma has luma's leaves where it has none of its own, and no tile starts but its own
unfoldable pub lists_asked : ℕ → List ℕ → Lists
lists_asked n places = record {
  entries = qindex_room;
  leaves = qindex_room;
  leavesend = end_of places leaf_kind qindex_room (chroma_from n);
  chroma = pick (eqb (end_of places chroma_leaf_kind (chroma_from n) (skips_from n)) (chroma_from n)) qindex_room (chroma_from n);
  chromaend = pick (eqb (end_of places chroma_leaf_kind (chroma_from n) (skips_from n)) (chroma_from n)) (end_of places leaf_kind qindex_room (chroma_from n)) (end_of places chroma_leaf_kind (chroma_from n) (skips_from n));
  skips = skips_from n;
  skipsend = end_of places skip_kind (skips_from n) (tiles_from n);
  tiles = tiles_from n;
  tilesend = end_of places tiles_kind (tiles_from n) (tiles_from n + tiles_room);
  chromatiles = tiles_from n + tiles_room;
  chromatilesend = end_of places chroma_tiles_kind (tiles_from n + tiles_room) (keeps_from n);
  keeps = keeps_from n;
  keepsend = end_of places keep_kind (keeps_from n) (keeps_from n + keeps_room);
}

-- the numbers from a place to another
abbrev pub between : List ℕ → ℕ → ℕ → List ℕ
between xs from end = take (end - from) (drop from xs)

-- the steps given, as many as there is room for; all of the published table where none is
unfoldable pub steps_asked : ℕ → ℕ
steps_asked n = pick (eqb n 0) steps_room (min n steps_room)

-- every list begins before it ends, within n numbers
pub record ListsWithin (l : Lists) (n : ℕ) : Type 0 where
  pub entries_in : l.entries ≤ n
  pub leaves_from : l.leaves ≤ l.leavesend
  pub leaves_in : l.leavesend ≤ n
  pub chroma_from : l.chroma ≤ l.chromaend
  pub chroma_in : l.chromaend ≤ n
  pub skips_from : l.skips ≤ l.skipsend
  pub skips_in : l.skipsend ≤ n
  pub tiles_from : l.tiles ≤ l.tilesend
  pub tiles_in : l.tilesend ≤ n
  pub chromatiles_from : l.chromatiles ≤ l.chromatilesend
  pub chromatiles_in : l.chromatilesend ≤ n
  pub keeps_from : l.keeps ≤ l.keepsend
  pub keeps_in : l.keepsend ≤ n
