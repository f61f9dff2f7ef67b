-- Where the numbers of each kind of setting go. Assumes nothing.
use Rattle.std.specs.Prelude.{ℕ, Option, None, Some, ◌+◌, ◌*◌, ◌-◌, ◌/◌, min, List, [], ◌∷◌, eqb}
use Rattle.laws.specs.Choose.{pick}
use Rattle.laws.specs.Loops.{each}
use Rattle.settings.specs.declared.names.Destination.{Destination}
use Rattle.settings.specs.declared.names.Destination.TheVariants.{Numbers, Shorts, Steps, Flags, Offsets, Tiles}
use Rattle.settings.specs.declared.names.Rule.{Rule}

-- a list, the first place there, room for so many numbers from it on, and how many numbers a line has, where that is settled
abbrev pub room : Destination → ℕ → ℕ → Option ℕ → Rule
room list from size each = record { list = list; from = from; end = from + size; each = each }

-- how many numbers each sort of leaves has room for in a list of n short numbers: a third of what the 4096 qindex entries, the 2046 tile starts and the 4096 kept rectangles leave, 1048576 leaves at most
unfoldable pub leaf_room : ℕ → ℕ
leaf_room n = min ((n - 22526) / 3) (4 * 1048576)

-- where the skip leaves end and luma's tile starts begin, 1023 of them as chroma's after them: more columns have no plane
unfoldable pub tiles_from : ℕ → ℕ
tiles_from n = 4096 + leaf_room n + leaf_room n + leaf_room n

-- where chroma's tile starts end and the rectangles of kept cells begin, 4096 of them, four numbers each
unfoldable pub keeps_from : ℕ → ℕ
keeps_from n = tiles_from n + 1023 + 1023

-- A kind that is none has no room.
-- Of n short numbers 4096 are qindex entries, and then come the leaves of each sort, four numbers a leaf; sixteen places for the CCSO numbers of a plane.
unfoldable pub rule_of : ℕ → ℕ → Rule
rule_of n kind =
    pick (eqb kind 1) (room Numbers 0 1 (Some 1))
    (pick (eqb kind 2) (room Shorts 0 4096 None)
    (pick (eqb kind 3) (room Steps 0 352 None)
    (pick (eqb kind 4) (room Shorts 4096 (leaf_room n) (Some 4))
    (pick (eqb kind 5) (room Shorts (4096 + leaf_room n) (leaf_room n) (Some 4))
    (pick (eqb kind 6) (room Shorts (4096 + leaf_room n + leaf_room n) (leaf_room n) (Some 4))
    (pick (eqb kind 7) (room Numbers 1 1 (Some 1))
    (pick (eqb kind 8) (room Numbers 2 1 (Some 1))
    (pick (eqb kind 9) (room Numbers 3 2 (Some 2))
    (pick (eqb kind 10) (room Numbers 5 2 (Some 2))
    (pick (eqb kind 11) (room Numbers 7 1 (Some 1))
    (pick (eqb kind 12) (room Numbers 16 11 (Some 11))
    (pick (eqb kind 13) (room Numbers 32 11 (Some 11))
    (pick (eqb kind 14) (room Numbers 48 11 (Some 11))
    (pick (eqb kind 15) (room Flags 0 4096 None)
    (pick (eqb kind 16) (room Flags 4096 4096 None)
    (pick (eqb kind 17) (room Flags 8192 4096 None)
    (pick (eqb kind 18) (room Offsets 0 128 None)
    (pick (eqb kind 19) (room Offsets 128 128 None)
    (pick (eqb kind 20) (room Offsets 256 128 None)
    (pick (eqb kind 21) (room Tiles (tiles_from n) 1023 None)
    (pick (eqb kind 22) (room Tiles (tiles_from n + 1023) 1023 None)
    (pick (eqb kind 23) (room Shorts (keeps_from n) 16384 (Some 4))
    (room Numbers 0 0 None)))))))))))))))))))))))

-- the first places of the kinds 0 to 23, in this order
unfoldable pub first_places : ℕ → List ℕ
first_places n = each 24 (λ kind. (rule_of n kind).from ∷ [])
