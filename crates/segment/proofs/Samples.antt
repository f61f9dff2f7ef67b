-- What an edge stores: a property of every store, and what stands at each sample within the widths afterwards.
-- Assumes nothing.
use Rattle.std.proofs.Common.{◌≡◌, ℕ, ◌+◌, ◌*◌, ◌<◌, ◌≤◌, List, [], ◌∷◌, length, get_or, sym, refl, inl, arith}
use Rattle.laws.specs.Lists.{Each, Some, each_append, each_loop, some_left, some_right, some_loop}
use Rattle.laws.specs.Loops.{each}
use Rattle.laws.specs.Stores.{Store, puts, Only, puts_at}
use Rattle.rules.specs.declared.edge.Line.{Line}
use Rattle.rules.specs.Width.{blank}
use Rattle.rules.specs.Taps.{before, after}
use Rattle.rules.specs.Segment.{p_at, q_at, difference_of, line_stores, four_stores}
use Rattle.segment.specs.Fit.{Spread}

module _ (top at step line n w q : ℕ) (ls : List Line) where
  -- where p_k and q_k of line j stand, and what is stored there
  abbrev p_p : ℕ → ℕ → ℕ
  p_p j k = p_at (at + j * line) step k

  abbrev q_p : ℕ → ℕ → ℕ
  q_p j k = q_at (at + j * line) step k

  abbrev new_p : ℕ → ℕ → ℕ
  new_p j k = before top (get_or (get_or ls j blank).p k 0) (difference_of (get_or ls j blank) q w) n k

  abbrev new_q : ℕ → ℕ → ℕ
  new_q j k = after top (get_or (get_or ls j blank).q k 0) (difference_of (get_or ls j blank) q w) w k

  abbrev stores : List Store
  stores = four_stores top at step line n w q ls

  -- a property of every store, and one store that has one
  pub all_stores : (P : Store → Type 0) → ((j k : ℕ) → j < 4 → k < n → P (p_p j k, new_p j k)) → ((j k : ℕ) → j < 4 → k < w → P (q_p j k, new_q j k)) → Each P stores
  unfolding four_stores line_stores
  all_stores P hp hq =
      each_loop P 4 (λ j. line_stores top (at + j * line) step n w q (get_or ls j blank))
      (λ j b. each_append P (each n (λ k. (p_p j k, new_p j k) ∷ [])) (each w (λ k. (q_p j k, new_q j k) ∷ []))
      (each_loop P n (λ k. (p_p j k, new_p j k) ∷ []) (λ k c. (hp j k b c, tt)))
      (each_loop P w (λ k. (q_p j k, new_q j k) ∷ []) (λ k c. (hq j k b c, tt))))

  some_p : (P : Store → Type 0) (j k : ℕ) → j < 4 → k < n → P (p_p j k, new_p j k) → Some P stores
  unfolding four_stores line_stores
  some_p P j k b c h =
      some_loop P 4 (λ j. line_stores top (at + j * line) step n w q (get_or ls j blank)) j b
      (some_left P (each n (λ k. (p_p j k, new_p j k) ∷ [])) (each w (λ k. (q_p j k, new_q j k) ∷ []))
      (some_loop P n (λ k. (p_p j k, new_p j k) ∷ []) k c (inl h)))

  some_q : (P : Store → Type 0) (j k : ℕ) → j < 4 → k < w → P (q_p j k, new_q j k) → Some P stores
  unfolding four_stores line_stores
  some_q P j k b c h =
      some_loop P 4 (λ j. line_stores top (at + j * line) step n w q (get_or ls j blank)) j b
      (some_right P (each n (λ k. (p_p j k, new_p j k) ∷ [])) (each w (λ k. (q_p j k, new_q j k) ∷ []))
      (some_loop P w (λ k. (q_p j k, new_q j k) ∷ []) k c (inl h)))

  module _ {b a : ℕ} (r : Spread at step line b a) (hn : n ≤ b) (hw : w ≤ a) (l : List ℕ) where
    pub sample_before : (j k : ℕ) → j < 4 → k < n → p_p j k < length l → get_or (puts stores l) (p_p j k) 0 ≡ new_p j k
    sample_before j k hj hk c =
        puts_at (p_p j k) (new_p j k) stores l c
        (all_stores (Only (p_p j k) (new_p j k))
        (λ i m hi hm z. let f = r.befores i m j k hi (omega arith) hj (omega arith) z in rw (f.0, f.1))
        (λ i m hi hm z. absurd (r.across j k i m hj (omega arith) hi (omega arith) (sym z))))
        (some_p (λ st. st.0 ≡ p_p j k) j k hj hk refl)

    pub sample_after : (j k : ℕ) → j < 4 → k < w → q_p j k < length l → get_or (puts stores l) (q_p j k) 0 ≡ new_q j k
    sample_after j k hj hk c =
        puts_at (q_p j k) (new_q j k) stores l c
        (all_stores (Only (q_p j k) (new_q j k))
        (λ i m hi hm z. absurd (r.across i m j k hi (omega arith) hj (omega arith) z))
        (λ i m hi hm z. let f = r.afters i m j k hi (omega arith) hj (omega arith) z in rw (f.0, f.1)))
        (some_q (λ st. st.0 ≡ q_p j k) j k hj hk refl)
