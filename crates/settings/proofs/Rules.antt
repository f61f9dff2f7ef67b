-- The first places, put into an array one kind at a time. Assumes nothing.
use mathlib.Core.Path.{◌≡◌, sym, ap, ◌∙◌}
use mathlib.Core.List.{List, [], ◌∷◌}
use mathlib.Core.Logic.{◌⊎◌, inl, inr}
use Prim.Native.Nat.{ℕ, ◌+◌, ◌≤◌, ◌<◌}
use native.Mathlib.Omega.{arith}
use lib.ListN.{length, set}
use lib.Seq.{ext_get_or}
use Rattle.laws.specs.Loops.{each, filled, filled_more, filled_end, filled_length, filled_at, singles_length}
use Rattle.laws.proofs.Loops.{singles_at}
use Rattle.std.specs.Prelude.{Option, Result, Ok, Err}
use Rattle.std.specs.Result.{result_ok}
use Rattle.settings.specs.declared.kinds.Kind.{Kind}
use Rattle.settings.specs.declared.kinds.NoKind.{NoKind}
use Rattle.settings.specs.declared.names.Rule.{Rule}
use Rattle.settings.specs.Kinds.{number_or_none, Numbers}
use Rattle.settings.specs.Rules.{rule_of, first_places}

-- a list filled to its end is the list of the values
filled_all : (start : List ℕ) (f : ℕ → ℕ) (n : ℕ) → length start ≡ n → filled start f n ≡ each n (λ k. f k ∷ [])
filled_all start f n e =
    ext_get_or 0 _ _ (filled_length start f n ∙ e ∙ sym (singles_length f n))
    (λ k h. let b : k < n = omega (arith, filled_length start f n) in
    filled_at start f 0 n k b (omega arith) ∙ sym (singles_at f 0 n k b))

abbrev pub from_of : ℕ → ℕ → ℕ
from_of n kind = (rule_of n kind).from

-- as the rule has it
pub from_is : (n kind k : ℕ) (r : Rule) → k ≡ kind → r ≡ rule_of n k → r.from ≡ from_of n kind
from_is n kind k r h e = ap (λ (x : Rule). x.from) e ∙ ap (from_of n) h

module _ (n : ℕ) (start : List ℕ) where
  -- one more kind
  pub places_more : (kind v : ℕ) (q : List ℕ) → v ≡ from_of n kind → q ≡ filled start (from_of n) kind → set q kind v ≡ filled start (from_of n) (kind + 1)
  places_more kind v q e inv = filled_more start (from_of n) kind inv (ap (λ (x : ℕ). set q kind x) e)

  pub places_end : (kind : ℕ) (q : List ℕ) → length start ≡ 24 → kind ≤ 24 → 24 ≤ kind → q ≡ filled start (from_of n) kind → q ≡ first_places n
  unfolding first_places
  places_end kind q l a b inv = filled_end start (from_of n) kind 24 inv a b ∙ filled_all start (from_of n) 24 l

none_below : (k : ℕ) → k < 24 → (k ≡ 0) ⊎ (23 < k) → 0 ≡ k
none_below k h (inl e) = sym e
none_below k h (inr g) = absurd (omega arith)

-- the kind of a number below 24, or none
pub ok_is : (k : ℕ) (r : Result Kind NoKind) (o : Option Kind) → k < 24 → Numbers k r → o ≡ result_ok r → number_or_none o ≡ k
ok_is k (Ok kind) o h n e = rw e n
ok_is k (Err _) o h n e =
    rw e (none_below k h n.1)
