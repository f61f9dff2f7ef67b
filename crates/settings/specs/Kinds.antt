-- The kinds of settings and what was expected, by their numbers. Assumes nothing.
use Rattle.std.specs.Prelude.{ℕ, ◌<◌, ◌≡◌, ◌⊎◌, Option, None, Some, Result, Ok, Err, MatchResult}
use Rattle.settings.specs.declared.kinds.Kind.{Kind}
use Rattle.settings.specs.declared.kinds.Kind.TheVariants.{Version, Qindex, Steps, Leaf, LeafUv, Skip, DeltaY, DeltaUv, CapY, CapUv, Chroma, CcsoY, CcsoU, CcsoV, FlagsY, FlagsU, FlagsV, OffsetY, OffsetU, OffsetV, TilesY, TilesUv, Keep}
use Rattle.settings.specs.declared.kinds.NoKind.{NoKind}
use Rattle.settings.specs.declared.kinds.Expected.{Expected}
use Rattle.settings.specs.declared.kinds.Expected.TheVariants.{Name, Setting}

-- the number of a kind
abbrev pub number_of : Kind → ℕ
number_of Version = 1
number_of Qindex = 2
number_of Steps = 3
number_of Leaf = 4
number_of LeafUv = 5
number_of Skip = 6
number_of DeltaY = 7
number_of DeltaUv = 8
number_of CapY = 9
number_of CapUv = 10
number_of Chroma = 11
number_of CcsoY = 12
number_of CcsoU = 13
number_of CcsoV = 14
number_of FlagsY = 15
number_of FlagsU = 16
number_of FlagsV = 17
number_of OffsetY = 18
number_of OffsetU = 19
number_of OffsetV = 20
number_of TilesY = 21
number_of TilesUv = 22
number_of Keep = 23

-- 0 for none
abbrev pub number_or_none : Option Kind → ℕ
number_or_none None = 0
number_or_none (Some kind) = number_of kind

-- the result is the kind of this number, or the number that no kind has
abbrev pub Numbers : ℕ → Result Kind NoKind → Type 0
Numbers n r = MatchResult r (λ kind. number_of kind ≡ n) (λ e. (e.0 ≡ n) × ((n ≡ 0) ⊎ (23 < n)))

-- the number of what was expected, 24 for any name
abbrev pub expected_number : Expected → ℕ
expected_number Name = 24
expected_number (Setting kind) = number_of kind

-- the same of an answer, 0 where nothing is amiss
abbrev pub answer_of : {A : Type 0} → Result A Expected → ℕ
answer_of (Ok _) = 0
answer_of (Err e) = expected_number e
