-- Entries noted in a buffer: one list after another, and that in a buffer with room the noted entries and the header are the record.
-- Assumes nothing.
use mathlib.Core.Path.{◌≡◌, refl, sym, ap, ap₂, ◌∙◌}
use mathlib.Core.Bool.{Bool, true, false}
use mathlib.Core.List.{List, [], ◌∷◌, ◌++◌}
use Prim.Native.Nat.{ℕ, suc, ◌+◌, ◌*◌, ◌≤◌, ◌<◌}
use native.Mathlib.Nat.{zero-add}
use native.Mathlib.Omega.{arith}
use borrow.Author.Rules.{rules}
use borrow.Author.Tests.{le-leb, lt-leb}
use lib.Dec.{leb}
use lib.ListN.{length, drop}
use lib.Seq.{sets, length-sets, sets-eq}
use Rattle.laws.specs.Choose.{pick}
use Rattle.laws.specs.Sets.{sets_append}
use Rattle.rules.specs.declared.edge.Edge.{Edge}
use Rattle.rules.specs.Record.{header, entry_of, entries_of, record_of, buffer_after}
use Rattle.records.specs.Noted.{noted_one, noted}
use Rattle.records.proofs.RoundTrip.{entry_length, record_length_holds}

-- ---- one entry

module _ (at : ℕ) (e : Edge) (b : List ℕ) where
  pub note_short : length b < at + 10 → b ≡ noted_one at e b
  unfolding noted_one pick
  note_short h = rw (lt-leb (at + 10) (length b) h)

  pub note_fits : {c : List ℕ} → at + 10 ≤ length b → c ≡ sets b at (entry_of e) → c ≡ noted_one at e b
  unfolding noted_one pick
  note_fits h g = rw (le-leb (at + 10) (length b) h) g

  note_length : length (noted_one at e b) ≡ length b
  unfolding noted_one pick
  note_length = go (leb (at + 10) (length b))
    where
      go : (t : Bool) → length (pick t (sets b at (entry_of e)) b) ≡ length b
      go true = length-sets b at (entry_of e)
      go false = refl

-- ---- lists of them

pub noted_length : (at : ℕ) (es : List Edge) (b : List ℕ) → length (noted at es b) ≡ length b
unfolding noted
noted_length at [] b = refl
noted_length at (e ∷ es) b = noted_length (at + 10) es (noted_one at e b) ∙ note_length at e b

noted_append : (at : ℕ) (xs ys : List Edge) (b : List ℕ) → noted at (xs ++ ys) b ≡ noted (at + 10 * length xs) ys (noted at xs b)
unfolding noted
noted_append at [] ys b = (let e : at ≡ at + 10 * 0 = omega arith in ap (λ (n : ℕ). noted n ys b) e)
noted_append at (x ∷ xs) ys b =
    noted_append (at + 10) xs ys (noted_one at x b)
    ∙ (let e : at + 10 + 10 * length xs ≡ at + 10 * suc (length xs) = omega arith in ap (λ (n : ℕ). noted n ys (noted (at + 10) xs (noted_one at x b))) e)

-- the first list from a place on, and the second from where the first ended
pub noted_then : (at : ℕ) (xs ys : List Edge) (b : List ℕ) {n : ℕ} {c d : List ℕ} → c ≡ noted at xs b → n ≡ at + 10 * length xs → d ≡ noted n ys c → d ≡ noted at (xs ++ ys) b
noted_then at xs ys b e l g = g ∙ ap₂ (λ (m : ℕ) (x : List ℕ). noted m ys x) l e ∙ sym (noted_append at xs ys b)

-- where they all fit, they stand one after the other
pub noted_sets : (at : ℕ) (es : List Edge) (b : List ℕ) → at + 10 * length es ≤ length b → noted at es b ≡ sets b at (entries_of es)
unfolding noted entries_of
noted_sets at [] b h = refl
noted_sets at (e ∷ es) b h =
    let first : noted_one at e b ≡ sets b at (entry_of e) = sym (note_fits at e b (omega arith) refl) in
    let place : at + 10 ≡ at + length (entry_of e) = omega (arith, entry_length e) in
    noted_sets (at + 10) es (noted_one at e b) (omega (arith, note_length at e b))
    ∙ ap₂ (λ (c : List ℕ) (n : ℕ). sets c n (entries_of es)) first place
    ∙ sets_append (entry_of e) (entries_of es) b at

-- the header, then the entries from byte 5 on, in a buffer with room: the record, and the buffer's bytes after it
pub record_noted : (es : List Edge) (b : List ℕ) {c d : List ℕ} → 5 + 10 * length es ≤ length b → c ≡ sets b 0 header → d ≡ noted 5 es c → d ≡ buffer_after es b
unfolding buffer_after record_of
record_noted es b {c} h e g =
    let long : length c ≡ length b = ap length e ∙ length-sets b 0 header in
    g
    ∙ noted_sets 5 es c (omega arith)
    ∙ ap (λ (x : List ℕ). sets x 5 (entries_of es)) e
    ∙ sets_append header (entries_of es) b 0
    ∙ sets-eq (header ++ entries_of es) b 0 (omega (arith, record_length_holds es))
    ∙ ap (λ (n : ℕ). (header ++ entries_of es) ++ drop n b) (zero-add (length (header ++ entries_of es)))

pub ruleset notes = (rules, note_short, note_fits)
