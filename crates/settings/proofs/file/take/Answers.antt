-- `take` goes by the list. Assumes nothing.
use mathlib.Core.Path.{refl}
use Rattle.settings.proofs.Settling.{kept_numbers, kept_shorts, kept_steps, kept_flags, kept_offsets, take_numbers, take_shorts, take_steps, take_flags, take_offsets, take_tiles}
use Rattle.settings.proofs.file.take.Goals as goal

pub returns-in-Numbers : goal.returns-in-Numbers
returns-in-Numbers c =
    let e = c.put.ensures in
    record {
      from_le_at = e.from_le_at;
      lent = record { numbers = refl; shorts = refl; steps = refl; flags = refl; offsets = refl; places = refl };
      kept = kept_numbers _ _ e.list_len_unchanged;
      places_unchanged = refl;
      result_after = take_numbers _ _ _ _ _ _ _ _ c.in-Numbers.is e.result_value;
    }

pub returns-in-Shorts : goal.returns-in-Shorts
returns-in-Shorts c =
    let e = c.put-in-Shorts.ensures in
    record {
      from_le_at = e.from_le_at;
      lent = record { numbers = refl; shorts = refl; steps = refl; flags = refl; offsets = refl; places = refl };
      kept = kept_shorts _ _ e.list_len_unchanged;
      places_unchanged = refl;
      result_after = take_shorts _ _ _ _ _ _ _ _ c.in-Shorts.is e.result_value;
    }

pub returns-in-Steps : goal.returns-in-Steps
returns-in-Steps c =
    let e = c.put-in-Steps.ensures in
    record {
      from_le_at = e.from_le_at;
      lent = record { numbers = refl; shorts = refl; steps = refl; flags = refl; offsets = refl; places = refl };
      kept = kept_steps _ _ e.list_len_unchanged;
      places_unchanged = refl;
      result_after = take_steps _ _ _ _ _ _ _ _ c.in-Steps.is e.result_value;
    }

pub returns-in-Flags : goal.returns-in-Flags
returns-in-Flags c =
    let e = c.put-in-Flags.ensures in
    record {
      from_le_at = e.from_le_at;
      lent = record { numbers = refl; shorts = refl; steps = refl; flags = refl; offsets = refl; places = refl };
      kept = kept_flags _ _ e.list_len_unchanged;
      places_unchanged = refl;
      result_after = take_flags _ _ _ _ _ _ _ _ c.in-Flags.is e.result_value;
    }

pub returns-in-Offsets : goal.returns-in-Offsets
returns-in-Offsets c =
    let e = c.put-in-Offsets.ensures in
    record {
      from_le_at = e.from_le_at;
      lent = record { numbers = refl; shorts = refl; steps = refl; flags = refl; offsets = refl; places = refl };
      kept = kept_offsets _ _ e.list_len_unchanged;
      places_unchanged = refl;
      result_after = take_offsets _ _ _ _ _ _ _ _ c.in-Offsets.is e.result_value;
    }

pub returns-in-Tiles : goal.returns-in-Tiles
returns-in-Tiles c =
    let e = c.put-in-Tiles.ensures in
    record {
      from_le_at = e.from_le_at;
      lent = record { numbers = refl; shorts = refl; steps = refl; flags = refl; offsets = refl; places = refl };
      kept = kept_shorts _ _ e.list_len_unchanged;
      places_unchanged = refl;
      result_after = take_tiles _ _ _ _ _ _ _ _ c.in-Tiles.is e.result_value;
    }
