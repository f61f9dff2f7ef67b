-- Document 01, "CCSO apply": the offset of each sample from its luma neighbourhood, and the checks 1, 2, 3, 5, 8.
-- Assumes nothing.
use Rattle.std.specs.Prelude.{Bool, true, false, List, [], ◌∷◌, ℕ, ◌+◌, ◌*◌, ◌-◌, ◌/◌, ◌^◌, eqb, leb, get_or, length, set, ℤ, pos, neg_ℤ, ◌+ℤ◌, ◌-ℤ◌, ◌*ℤ◌}
use Rattle.std.specs.Int.Signed.{lt_z, le_z}
use Rattle.laws.specs.Choose.{pick, both, all}
use Rattle.laws.specs.Loops.{turns}
use Rattle.laws.specs.Whole.{limit, between}
use Rattle.rules.specs.declared.settings.Ccso.{Ccso}
use Rattle.rules.specs.declared.refusals.Refusal.TheVariants.{Depth, Size, Length, Setting, Sample}
use Rattle.rules.specs.Refusals.{Answer}
use Rattle.std.specs.declared.option.Option.{Option}
use Rattle.rules.specs.Numbers.{depth_ok, top_of, in_range, in_range_z, subsampling_ok, down, up}
use Rattle.rules.specs.Refusals.{or_else, unless, found, settle, first, found_unless, over_row}
use Rattle.rules.specs.Frame.{halved, superblocks}

-- "Target size is luma size shifted, rounded up."
unfoldable pub target_width : Ccso → ℕ
target_width s = halved s.ssx s.width

unfoldable pub target_height : Ccso → ℕ
target_height s = halved s.ssy s.height

-- "Blocks are 64 >> subsampling", in "rows of ceil(luma width/64)"
unfoldable pub block_of : Ccso → ℕ → ℕ → ℕ
block_of s x y = y / down s.ssy 64 * superblocks s.width + x / down s.ssx 64

-- luma at column x and row y
unfoldable pub luma_at : Ccso → List ℕ → ℕ → ℕ → ℕ
luma_at s luma x y = get_or luma (y * s.width + x) 0

-- "c = luma at the shifted-up place"
unfoldable pub centre_of : Ccso → List ℕ → ℕ → ℕ → ℕ
centre_of s luma x y = luma_at s luma (up s.ssx x) (up s.ssy y)

-- "tap places are limited to the picture, as extend_luma replicates"
unfoldable pub tap_of : Ccso → List ℕ → ℤ → ℤ → ℕ → ℕ → ℕ
tap_of s luma dx dy x y =
    luma_at s luma (between 0 (s.width - 1) (pos (up s.ssx x) +ℤ dx)) (between 0 (s.height - 1) (pos (up s.ssy y) +ℤ dy))

-- "Difference below lo, in lo..hi, above hi gives the first, second, third class number."
unfoldable pub class_of : Ccso → ℤ → ℕ
class_of s d = pick (lt_z d s.lo) s.below (pick (le_z d s.hi) s.within s.above)

unfoldable pub tap_class : Ccso → ℕ → ℕ → ℕ
tap_class s tap c = class_of s (pos tap -ℤ pos c)

-- "Place = 16·floor(c / 2^(depth-b)) + 4·class0 + class1"
unfoldable pub offset_place : Ccso → ℕ → ℕ → ℕ → ℕ
offset_place s c class0 class1 = 16 * (c / 2 ^ (s.depth - s.bandlog)) + 4 * class0 + class1

-- "sample plus offset·scale, limited to 0..top"
unfoldable pub offset_sample : Ccso → ℕ → ℤ → ℕ
offset_sample s sample offset = limit (top_of s.depth) (pos sample +ℤ offset *ℤ pos s.scale)

unfoldable pub place_at : Ccso → List ℕ → ℕ → ℕ → ℕ
place_at s luma x y =
    offset_place s (centre_of s luma x y)
    (tap_class s (tap_of s luma s.dx0 s.dy0 x y) (centre_of s luma x y))
    (tap_class s (tap_of s luma s.dx1 s.dy1 x y) (centre_of s luma x y))

-- "flag 0 keeps the block"
unfoldable pub sample_at : Ccso → List ℕ → List ℕ → List ℤ → ℕ → ℕ → ℕ → ℕ
sample_at s luma flags offsets x y sample =
    pick (eqb (get_or flags (block_of s x y) 0) 0) sample (offset_sample s sample (get_or offsets (place_at s luma x y) (pos 0)))

-- ---- the target, row by row; each sample looks at luma and itself alone

unfoldable pub ccso_cell : Ccso → List ℕ → List ℕ → List ℤ → ℕ → ℕ → List ℕ → List ℕ
ccso_cell s luma flags offsets y x t =
    set t (y * target_width s + x) (sample_at s luma flags offsets x y (get_or t (y * target_width s + x) 0))

unfoldable pub ccso_row : Ccso → List ℕ → List ℕ → List ℤ → ℕ → List ℕ → List ℕ
ccso_row s luma flags offsets y t = turns (target_width s) (λ x. ccso_cell s luma flags offsets y x) t

unfoldable pub ccso_of : Ccso → List ℕ → List ℕ → List ℤ → List ℕ → List ℕ
ccso_of s luma flags offsets t = turns (target_height s) (λ y. ccso_row s luma flags offsets y) t

-- ---- the checks

-- "luma 1..4096 each way, subsampling as for a frame"
unfoldable pub ccso_sizes_ok : Ccso → Bool
ccso_sizes_ok s = all (in_range 1 4096 s.width ∷ in_range 1 4096 s.height ∷ subsampling_ok s.ssx s.ssy ∷ [])

-- "band log2 b 0..3; with b good, at least 16·2^b offsets"
unfoldable pub band_ok : Ccso → Bool
band_ok s = leb s.bandlog 3

unfoldable pub offset_count : Ccso → ℕ
offset_count s = 16 * 2 ^ s.bandlog

unfoldable pub ccso_lengths_ok : Ccso → ℕ → ℕ → ℕ → ℕ → Bool
ccso_lengths_ok s luma target flags offsets =
    all
    (leb (s.height * s.width) luma
    ∷ leb (target_height s * target_width s) target
    ∷ leb (superblocks s.height * superblocks s.width) flags
    ∷ pick (band_ok s) (leb (offset_count s) offsets) true
    ∷ [])

-- "scale 1..16; cuts lo <= hi in -4095..4095; three class numbers 0..3; two taps, dx and dy each -16..16"
abbrev pub cut_ok : ℤ → Bool
cut_ok z = in_range_z (neg_ℤ (pos 4095)) (pos 4095) z

abbrev pub tap_ok : ℤ → Bool
tap_ok z = in_range_z (neg_ℤ (pos 16)) (pos 16) z

unfoldable pub ccso_settings_ok : Ccso → Bool
ccso_settings_ok s =
    all
    (in_range 1 16 s.scale
    ∷ cut_ok s.lo
    ∷ cut_ok s.hi
    ∷ le_z s.lo s.hi
    ∷ leb s.below 3
    ∷ leb s.within 3
    ∷ leb s.above 3
    ∷ tap_ok s.dx0
    ∷ tap_ok s.dy0
    ∷ tap_ok s.dx1
    ∷ tap_ok s.dy1
    ∷ band_ok s
    ∷ [])

-- "those in -10..7": the offsets in use
unfoldable pub offset_ok : List ℤ → ℕ → Bool
offset_ok offsets k = in_range_z (neg_ℤ (pos 10)) (pos 7) (get_or offsets k (pos 0))

unfoldable pub bad_offset : Ccso → List ℤ → Option ℕ
bad_offset s offsets = first (offset_count s) (λ k. found_unless (offset_ok offsets k) k)

-- order 1, 2, 3, 5, 8; "for CCSO, at all of luma, then the target"
unfoldable pub ccso_check : Ccso → List ℕ → List ℕ → List ℤ → List ℕ → Answer
ccso_check s luma flags offsets t =
    or_else (unless (depth_ok s.depth) Depth)
    (or_else (unless (ccso_sizes_ok s) Size)
    (or_else (unless (ccso_lengths_ok s (length luma) (length t) (length flags) (length offsets)) Length)
    (or_else (unless (ccso_settings_ok s) Setting)
    (or_else (found (bad_offset s offsets) (λ k. Setting))
    (or_else (found (over_row (top_of s.depth) luma 0 (s.height * s.width)) Sample)
    (found (over_row (top_of s.depth) t 0 (target_height s * target_width s)) Sample))))))

-- the target afterwards
unfoldable pub ccso_after : Ccso → List ℕ → List ℕ → List ℤ → List ℕ → List ℕ
ccso_after s luma flags offsets t = settle (ccso_check s luma flags offsets t) t (ccso_of s luma flags offsets t)
