-- Laws of the packed thresholds: from last_qindex on nothing changes, and an edge's thresholds from two packed numbers.
-- Assumes nothing.
use mathlib.Core.Path.{◌≡◌, sym, ap, ◌∙◌}
use mathlib.Core.Bool.{true, false}
use mathlib.Core.List.{List}
use Prim.Native.Nat.{ℕ, ◌+◌, ◌*◌, ◌-◌, ◌/◌, ◌%◌, ◌≤◌, min, max}
use native.Mathlib.Decide.{dec_le}
use native.Mathlib.Omega.{arith}
use lib.ListN.{get_or, replicate, length-replicate, get_or-replicate}
use lib.IntN.{ℤ, pos, ◌-ℤ◌}
use Rattle.laws.specs.Choose.{pick}
use Rattle.laws.specs.Loops.{filled, filled_at, filled_beyond}
use Rattle.laws.specs.Whole.{Is, over, under, self, count, between, between_is}
use Rattle.laws.proofs.Operations.{plus, minus, scale}
use Rattle.laws.specs.declared.whole.Gap.{Gap}
use Rattle.std.specs.declared.result.Result.TheVariants.{Ok}
use Rattle.rules.specs.Numbers.{depth_ok, delta_ok, highest_of, offset_of}
use Rattle.rules.proofs.Depths.{by_depth}
use Rattle.rules.specs.Thresholds.{index_of, is_zero, step_of, quant_of, lowered, side_of, both_of, steps_check, q_threshold, side_threshold}
use Rattle.thresholds.specs.Index.{whole, IndexIs}
use Rattle.thresholds.specs.ByQindex.{packed_of, last_qindex, steady_from, ByQindex}
use Rattle.thresholds.proofs.Indices.{small}
use Rattle.thresholds.proofs.Quants.{highest, not_zero}
use Rattle.thresholds.proofs.SideRule.{entry}
use Rattle.thresholds.proofs.Sides.{offset_most, side_most}

-- an index in counts
index_is : (qindex : ℕ) (delta : ℤ) → Is (index_of qindex delta) (qindex + 8 * over delta) (0 + 8 * under delta)
unfolding index_of
index_is qindex delta = plus (pos qindex) _ (count qindex) (scale 8 delta (self delta))

-- the side table's last entry is reached no sooner than the highest qindex
highest_sooner : (d : ℕ) → depth_ok d ≡ true → highest_of d ≤ offset_of d + 295
unfolding highest_of offset_of pick
highest_sooner d ok = by_depth (λ d. highest_of d ≤ offset_of d + 295) (omega arith) (omega arith) (omega arith) d ok

-- from there on, the step is that of the highest qindex, and the side threshold that of the last entry
module _ (d : ℕ) (delta : ℤ) (qindex : ℕ) (ok : depth_ok d ≡ true) (far : 8 * under delta + offset_of d + 295 ≤ qindex) where
  last_step : (steps : List ℕ) → step_of d steps (index_of qindex delta) ≡ get_or steps (highest_of d) 0
  unfolding step_of pick
  last_step steps =
      let m = highest d ok in
      let l = highest_sooner d ok in
      let z : is_zero (index_of qindex delta) ≡ false = not_zero (index_of qindex delta) (index_is qindex delta) (λ e. omega arith) in
      let b : between 1 (highest_of d) (index_of qindex delta) ≡ highest_of d = between_is 1 (highest_of d) _ m.some (index_is qindex delta) ∙ omega arith in
      rw (z, b)

  last_side : side_of d (index_of qindex delta) ≡ lowered d (entry 295)
  unfolding side_of
  last_side =
      let b : between 0 295 (index_of qindex delta -ℤ pos (offset_of d)) ≡ 295 = between_is 0 295 _ (omega arith) (minus (index_of qindex delta) (pos (offset_of d)) (index_is qindex delta) (count (offset_of d))) ∙ omega arith in
      ap (λ (k : ℕ). lowered d (entry k)) b

-- that qindex as the code has it, and that it is last_qindex at most
pub steady_is : (d : ℕ) (deltaq deltaside : ℤ) {a b m o : ℕ} → a ≡ under deltaq → b ≡ under deltaside → m ≡ max a b → o ≡ offset_of d → 8 * m + o + 295 ≡ steady_from d deltaq deltaside
unfolding steady_from
steady_is d deltaq deltaside p q r s = omega arith

pub steady_most : (d : ℕ) (deltaq deltaside : ℤ) → depth_ok d ≡ true → delta_ok deltaq ≡ true → delta_ok deltaside ≡ true → steady_from d deltaq deltaside ≤ last_qindex
unfolding steady_from
steady_most d deltaq deltaside ok fineq fineside =
    let q = small deltaq fineq in
    let s = small deltaside fineside in
    let o = offset_most d ok in
    omega arith

module _ (d : ℕ) (steps : List ℕ) (deltaq deltaside : ℤ) (ok : depth_ok d ≡ true) (fineq : delta_ok deltaq ≡ true) (fineside : delta_ok deltaside ≡ true) where
  last_packed : (qindex : ℕ) → steady_from d deltaq deltaside ≤ qindex → packed_of d steps deltaq deltaside qindex ≡ quant_of (get_or steps (highest_of d) 0) * 65536 + lowered d (entry 295)
  unfolding packed_of steady_from
  last_packed qindex far = rw (last_step d deltaq qindex ok (omega arith) steps, last_side d deltaside qindex ok (omega arith))

  -- two of those from there on
  alike : (p q : ℕ) → steady_from d deltaq deltaside ≤ p → steady_from d deltaq deltaside ≤ q → packed_of d steps deltaq deltaside p ≡ packed_of d steps deltaq deltaside q
  alike p q f g = last_packed p f ∙ sym (last_packed q g)

  -- a list of the last one alone, filled up to there, is the table
  pub by_qindex : (last n : ℕ) {table : List ℕ} → last ≡ packed_of d steps deltaq deltaside last_qindex → n ≡ steady_from d deltaq deltaside
      → table ≡ filled (replicate 1416 last) (packed_of d steps deltaq deltaside) n → ByQindex d steps deltaq deltaside table
  by_qindex last n is full e = record { at = λ qindex. rw e (place qindex) }
    where
      most : steady_from d deltaq deltaside ≤ last_qindex
      most = steady_most d deltaq deltaside ok fineq fineside

      place : (qindex : ℕ) → get_or (filled (replicate 1416 last) (packed_of d steps deltaq deltaside) n) (min qindex last_qindex) 0 ≡ packed_of d steps deltaq deltaside qindex
      place qindex = elim (dec_le n qindex) [
        | yes far ↦
            let m = most in
            filled_beyond (replicate 1416 last) (packed_of d steps deltaq deltaside) 0 n (min qindex last_qindex) (omega arith)
            ∙ get_or-replicate 1416 (min qindex last_qindex) last 0 (omega arith)
            ∙ is
            ∙ alike last_qindex qindex most (omega arith)
        | no near ↦
            let m = most in
            let l = length-replicate {A = ℕ} 1416 last in
            let e : min qindex last_qindex ≡ qindex = omega arith in
            rw e (filled_at (replicate 1416 last) (packed_of d steps deltaq deltaside) 0 n qindex (omega arith) (omega arith))
      ]

-- a packed number, the deltas read from where the machine held them
pub packed_is : (d : ℕ) (steps : List ℕ) (deltaq deltaside : ℤ) (qindex : ℕ) {heldq heldside : ℤ} {g h : Gap} {q side : ℕ} → heldq ≡ deltaq → heldside ≡ deltaside → IndexIs qindex heldq g → IndexIs qindex heldside h → q ≡ quant_of (step_of d steps (whole g)) → side ≡ side_of d (whole h) → q * 65536 + side ≡ packed_of d steps deltaq deltaside qindex
unfolding packed_of
packed_is d steps deltaq deltaside qindex e f i j p s =
    let q' = p ∙ ap (λ z. quant_of (step_of d steps z)) (i.is ∙ ap (index_of qindex) e) in
    let s' = s ∙ ap (side_of d) (j.is ∙ ap (index_of qindex) f) in
    rw (q', s')

-- taken apart
module _ (d : ℕ) (steps : List ℕ) (deltaq deltaside : ℤ) (ok : depth_ok d ≡ true) (good : steps_check steps ≡ Ok tt) where
  packed_q : (qindex : ℕ) → packed_of d steps deltaq deltaside qindex / 65536 ≡ quant_of (step_of d steps (index_of qindex deltaq))
  unfolding packed_of
  packed_q qindex = omega (arith, side_most d (index_of qindex deltaside) ok)

  packed_side : (qindex : ℕ) → packed_of d steps deltaq deltaside qindex % 65536 ≡ side_of d (index_of qindex deltaside)
  unfolding packed_of
  packed_side qindex = omega (arith, side_most d (index_of qindex deltaside) ok)

  -- an edge's thresholds from its two blocks' packed numbers
  module _ (curr prev : ℕ) {a b : ℕ} (e : a ≡ packed_of d steps deltaq deltaside curr) (f : b ≡ packed_of d steps deltaq deltaside prev) where
    pub edge_q : both_of (a / 65536) (b / 65536) ≡ q_threshold d steps curr prev deltaq
    unfolding q_threshold
    edge_q = rw (e, f, packed_q curr, packed_q prev)

    pub edge_side : both_of (a % 65536) (b % 65536) ≡ side_threshold d curr prev deltaside
    unfolding side_threshold
    edge_side = rw (e, f, packed_side curr, packed_side prev)
