-- A record there and back: reading what was written gives the edges, and writing what was read from a good record gives its bytes.
-- Assumes nothing.
use mathlib.Core.Path.{◌≡◌, refl, sym, ap, ap₂, ◌∙◌}
use mathlib.Core.List.{List, [], ◌∷◌, ◌++◌, append_assoc, append-nil}
use Prim.Native.Nat.{ℕ, zero, suc, ◌+◌, ◌*◌, ◌-◌, ◌/◌, ◌%◌, ◌≤◌, ◌<◌}
use native.Mathlib.Nat.{not-suc-le-zero, mod-eq_of_lt}
use lib.Arith.{digits_div, digits_mod}
use native.Mathlib.Numerals.{add-one}
use native.Mathlib.Omega.{arith}
use borrow.Author.Rules.{rules}
use lib.ListN.{length, get_or, set, take, drop, length-append, length-drop, take-append-drop}
use lib.Seq.{sets, split_at, ext_get_or, take-add, take_all, length-take-le, drop-drop, drop-cons, get_or_at}
use Rattle.laws.specs.Lists.{Each}
use Rattle.laws.specs.Loops.{each, singles_length}
use Rattle.laws.proofs.Loops.{singles_at}
use Rattle.laws.specs.Sets.{sets_then}
use Rattle.low_first.specs.Bytes.{low_first, number_in}
use Rattle.low_first.proofs.RoundTrip.{length_low_first, read_put, put_read}
use Rattle.rules.specs.declared.edge.Edge.{Edge}
use Rattle.rules.specs.Record.{header, entry_of, entries_of, record_of, buffer_after, edge_in, entry_at, entry_count, edges_in}
use Rattle.records.specs.Fit.{InBytes}

-- ---- lengths

pub entry_length : (e : Edge) → length (entry_of e) ≡ 10
unfolding entry_of low_first
entry_length e = refl

pub entries_length : (es : List Edge) → length (entries_of es) ≡ 10 * length es
unfolding entries_of
entries_length [] = refl
entries_length (e ∷ es) = omega (arith, length-append (entry_of e) (entries_of es), entry_length e, entries_length es)

-- "5 + 10 times the marked edges"
pub record_length_holds : (es : List Edge) → length (record_of es) ≡ 5 + 10 * length es
unfolding record_of
record_length_holds es = omega (arith, length-append header (entries_of es), entries_length es)

pub entries_append : (xs ys : List Edge) → entries_of (xs ++ ys) ≡ entries_of xs ++ entries_of ys
unfolding entries_of
entries_append [] ys = refl
entries_append (x ∷ xs) ys = ap (λ (l : List ℕ). entry_of x ++ l) (entries_append xs ys) ∙ sym (append_assoc (entry_of x) (entries_of xs) (entries_of ys))

-- ---- an entry read where it was put

module _ (e : Edge) (front back : List ℕ) (at : ℕ) (h : InBytes e) (l : length front ≡ at) where
  -- what stands before y, before the direction, before q and before side
  abbrev fx : List ℕ
  fx = front ++ low_first 2 e.x

  abbrev fy : List ℕ
  fy = fx ++ low_first 2 e.y

  abbrev fd : List ℕ
  fd = fy ++ (e.dir ∷ [])

  abbrev fp : List ℕ
  fp = fd ++ (e.pair ∷ [])

  abbrev fq : List ℕ
  fq = fp ++ low_first 2 e.q

  -- and what stands after x, and so on
  abbrev bq : List ℕ
  bq = low_first 2 e.side ++ back

  abbrev bp : List ℕ
  bp = low_first 2 e.q ++ bq

  abbrev by : List ℕ
  by = e.dir ∷ e.pair ∷ bp

  abbrev bx : List ℕ
  bx = low_first 2 e.y ++ by

  abbrev whole : List ℕ
  whole = (front ++ entry_of e) ++ back

  length_fx : length fx ≡ at + 2
  length_fx = omega (arith, length-append front (low_first 2 e.x), length_low_first 2 e.x)

  length_fy : length fy ≡ at + 4
  length_fy = omega (arith, length-append fx (low_first 2 e.y), length_low_first 2 e.y, length_fx)

  length_fd : length fd ≡ at + 5
  length_fd = omega (arith, length-append fy (e.dir ∷ []), length_fy)

  length_fp : length fp ≡ at + 6
  length_fp = omega (arith, length-append fd (e.pair ∷ []), length_fd)

  length_fq : length fq ≡ at + 8
  length_fq = omega (arith, length-append fp (low_first 2 e.q), length_low_first 2 e.q, length_fp)

  by_x : whole ≡ front ++ low_first 2 e.x ++ bx
  unfolding entry_of
  by_x = simp append_assoc

  by_y : whole ≡ fx ++ low_first 2 e.y ++ by
  unfolding entry_of
  by_y = simp append_assoc

  by_dir : whole ≡ fy ++ (e.dir ∷ e.pair ∷ bp)
  unfolding entry_of
  by_dir = simp append_assoc

  by_pair : whole ≡ fd ++ (e.pair ∷ bp)
  unfolding entry_of
  by_pair = simp append_assoc

  by_q : whole ≡ fp ++ low_first 2 e.q ++ bq
  unfolding entry_of
  by_q = simp append_assoc

  by_side : whole ≡ fq ++ low_first 2 e.side ++ back
  unfolding entry_of
  by_side = simp append_assoc

  read_x : number_in 2 whole at ≡ e.x
  read_x = ap (λ (b : List ℕ). number_in 2 b at) by_x ∙ read_put 2 e.x front bx at l h.x_fits

  read_y : number_in 2 whole (at + 2) ≡ e.y
  read_y = ap (λ (b : List ℕ). number_in 2 b (at + 2)) by_y ∙ read_put 2 e.y fx by (at + 2) length_fx h.y_fits

  read_dir : get_or whole (at + 4) 0 ≡ e.dir
  read_dir = ap (λ (b : List ℕ). get_or b (at + 4) 0) by_dir ∙ get_or_at fy e.dir (e.pair ∷ bp) 0 (at + 4) length_fy

  read_pair : get_or whole (at + 5) 0 ≡ e.pair
  read_pair = ap (λ (b : List ℕ). get_or b (at + 5) 0) by_pair ∙ get_or_at fd e.pair bp 0 (at + 5) length_fd

  read_q : number_in 2 whole (at + 6) ≡ e.q
  read_q = ap (λ (b : List ℕ). number_in 2 b (at + 6)) by_q ∙ read_put 2 e.q fp bq (at + 6) length_fp h.q_fits

  read_side : number_in 2 whole (at + 8) ≡ e.side
  read_side = ap (λ (b : List ℕ). number_in 2 b (at + 8)) by_side ∙ read_put 2 e.side fq back (at + 8) length_fq h.side_fits

  pub read_entry : edge_in whole at ≡ e
  unfolding edge_in
  read_entry = rw (read_x, read_y, read_dir, read_pair, read_q, read_side)

-- ---- a list read where it was written

abbrev no_edge : Edge
no_edge = record { x = 0; y = 0; dir = 0; pair = 0; q = 0; side = 0 }

-- one element of a list whose elements all have a property
each_at : (P : Edge → Type 0) (es : List Edge) (k : ℕ) (d : Edge) → Each P es → k < length es → P (get_or es k d)
each_at P [] k d h b = absurd (not-suc-le-zero b)
each_at P (e ∷ es) zero d h b = h.0
each_at P (e ∷ es) (suc k) d h b = each_at P es k d h.1 (omega arith)

-- the record before entry k, the entry, and the record after it
around : (es : List Edge) (k : ℕ) → k < length es
    → record_of es ≡ ((header ++ entries_of (take k es)) ++ entry_of (get_or es k no_edge)) ++ entries_of (drop (suc k) es)
unfolding record_of entries_of
around es k h =
    ap (λ (l : List Edge). header ++ entries_of l) (split_at es k no_edge h)
    ∙ ap (λ (l : List ℕ). header ++ l) (entries_append (take k es) (get_or es k no_edge ∷ drop (suc k) es))
    ∙ simp append_assoc

pub read_record : (es : List Edge) → Each InBytes es → edges_in (record_of es) ≡ es
unfolding edges_in entry_count entry_at
read_record es h =
    let count : (length (record_of es) - 5) / 10 ≡ length es = omega (arith, record_length_holds es) in
    let f : ℕ → Edge = λ k. edge_in (record_of es) (5 + 10 * k) in
    ext_get_or no_edge (edges_in (record_of es)) es (singles_length f ((length (record_of es) - 5) / 10) ∙ count)
    (λ k b.
    let within : k < length es = omega (arith, singles_length f ((length (record_of es) - 5) / 10)) in
    singles_at f no_edge ((length (record_of es) - 5) / 10) k (omega arith)
    ∙ ap (λ (l : List ℕ). edge_in l (5 + 10 * k)) (around es k within)
    ∙ read_entry (get_or es k no_edge) (header ++ entries_of (take k es)) (entries_of (drop (suc k) es)) (5 + 10 * k)
    (each_at InBytes es k no_edge h within)
    (omega (arith, length-append header (entries_of (take k es)), entries_length (take k es), length-take-le k es (omega arith))))

-- ---- a good record written again

-- n bytes at a place, then m after them
part_then : (bytes : List ℕ) (n m at next : ℕ) → at + n ≡ next → take (n + m) (drop at bytes) ≡ take n (drop at bytes) ++ take m (drop next bytes)
part_then bytes n m at next e = take-add n m (drop at bytes) ∙ ap (λ (l : List ℕ). take n (drop at bytes) ++ take m l) (drop-drop n at bytes ∙ ap (λ (k : ℕ). drop k bytes) e)

-- a good record: the header, whole entries, and bytes
pub record Good (bytes : List ℕ) : Type 0 where
  pub header_is : take 5 bytes ≡ header
  pub entries_whole : length bytes ≡ 5 + 10 * entry_count bytes
  pub small : (k : ℕ) → get_or bytes k 0 < 256

module _ (bytes : List ℕ) (small : (k : ℕ) → get_or bytes k 0 < 256) where
  -- two bytes as they stand
  pair_of : (at next : ℕ) → at + 1 ≡ next → at + 2 ≤ length bytes → get_or bytes at 0 ∷ get_or bytes next 0 ∷ [] ≡ take 2 (drop at bytes)
  pair_of at next e h =
      sym (ap (take 2) (drop-cons bytes at 0 (omega arith) ∙ ap (λ (l : List ℕ). get_or bytes at 0 ∷ l)
      (ap (λ (k : ℕ). drop k bytes) (sym (add-one at) ∙ e) ∙ drop-cons bytes next 0 (omega arith))))

  -- an entry of bytes is written as it stood
  write_entry : (at : ℕ) → at + 10 ≤ length bytes → entry_of (edge_in bytes at) ≡ take 10 (drop at bytes)
  unfolding entry_of edge_in
  write_entry at h =
      ap₂ (λ (a r : List ℕ). a ++ r) (put_read 2 bytes at small (omega arith))
      (ap₂ (λ (a r : List ℕ). a ++ r) (put_read 2 bytes (at + 2) small (omega arith))
      (ap₂ (λ (a r : List ℕ). a ++ r) (pair_of (at + 4) (at + 5) (omega arith) (omega arith))
      (ap₂ (λ (a r : List ℕ). a ++ r) (put_read 2 bytes (at + 6) small (omega arith)) (put_read 2 bytes (at + 8) small (omega arith)))))
      ∙ sym
      (part_then bytes 2 8 at (at + 2) refl
      ∙ ap (λ (l : List ℕ). take 2 (drop at bytes) ++ l)
      (part_then bytes 2 6 (at + 2) (at + 4) (omega arith)
      ∙ ap (λ (l : List ℕ). take 2 (drop (at + 2) bytes) ++ l)
      (part_then bytes 2 4 (at + 4) (at + 6) (omega arith)
      ∙ ap (λ (l : List ℕ). take 2 (drop (at + 4) bytes) ++ l) (part_then bytes 2 2 (at + 6) (at + 8) (omega arith)))))

  -- n of them
  write_entries : (n : ℕ) → 5 + 10 * n ≤ length bytes → entries_of (each n (λ k. edge_in bytes (entry_at k) ∷ [])) ≡ take (10 * n) (drop 5 bytes)
  unfolding each entries_of entry_at
  write_entries zero h = refl
  write_entries (suc n) h =
      entries_append (each n (λ k. edge_in bytes (5 + 10 * k) ∷ [])) (edge_in bytes (5 + 10 * n) ∷ [])
      ∙ ap₂ (λ (a r : List ℕ). a ++ r) (write_entries n (omega arith))
      (append-nil (entry_of (edge_in bytes (5 + 10 * n))) ∙ write_entry (5 + 10 * n) (omega arith))
      ∙ sym (part_then bytes (10 * n) 10 5 (5 + 10 * n) refl)
      ∙ (let e : 10 * n + 10 ≡ 10 * suc n = omega arith in ap (λ (k : ℕ). take k (drop 5 bytes)) e)

-- "reading then writing a good record returns its bytes"
pub write_record : (bytes : List ℕ) → Good bytes → record_of (edges_in bytes) ≡ bytes
unfolding record_of edges_in
write_record bytes g =
    ap₂ (λ (a r : List ℕ). a ++ r) (sym g.header_is)
    (write_entries bytes g.small (entry_count bytes) (let w = g.entries_whole in omega arith)
    ∙ take_all (10 * entry_count bytes) (drop 5 bytes) (let w = g.entries_whole in omega (arith, length-drop 5 bytes)))
    ∙ take-append-drop 5 bytes

-- ---- an entry as the code puts it

-- the low byte of a number, and what stands above it
low_byte : (q r : ℕ) → r < 256 → (q * 256 + r) % 256 ≡ r
low_byte q r h = digits_mod q h

above_byte : (q r : ℕ) → r < 256 → (q * 256 + r) / 256 ≡ q
above_byte q r h = digits_div q h

-- two numbers of one byte as one of two, and two of two bytes as one of four
two_bytes : (a b : ℕ) → a < 256 → b < 256 → low_first 2 (a + 256 * b) ≡ a ∷ b ∷ []
unfolding low_first
two_bytes a b h k =
    let split : a + 256 * b ≡ b * 256 + a = omega arith in
    rw (split, low_byte b a h, above_byte b a h, mod-eq_of_lt k)

four_bytes : (a b : ℕ) → a < 65536 → low_first 4 (a + 65536 * b) ≡ low_first 2 a ++ low_first 2 b
unfolding low_first
four_bytes a b h =
    let small : a / 256 < 256 = omega arith in
    let split : a + 65536 * b ≡ (b * 256 + a / 256) * 256 + a % 256 = omega arith in
    let rest : a / 256 % 256 ≡ a / 256 = mod-eq_of_lt small in
    rw (split, low_byte (b * 256 + a / 256) (a % 256) (omega arith), above_byte (b * 256 + a / 256) (a % 256) (omega arith), low_byte b (a / 256) small, above_byte b (a / 256) small, rest)

pub entry_put : (e : Edge) (l : List ℕ) (at : ℕ) {a b c : List ℕ} {i j k : ℕ} → InBytes e
    → i ≡ e.x + 65536 * e.y → a ≡ sets l at (low_first 4 i)
    → j ≡ e.dir + 256 * e.pair → b ≡ sets a (at + 4) (low_first 2 j)
    → k ≡ e.q + 65536 * e.side → c ≡ sets b (at + 6) (low_first 4 k) → c ≡ sets l at (entry_of e)
unfolding entry_of
entry_put e l at h ei pa ej pb ek pc =
    let xy = low_first 2 e.x ++ low_first 2 e.y in
    let dp = e.dir ∷ e.pair ∷ [] in
    let qs = low_first 2 e.q ++ low_first 2 e.side in
    let places : low_first 4 (e.x + 65536 * e.y) ≡ xy = four_bytes e.x e.y h.x_fits in
    let kinds : low_first 2 (e.dir + 256 * e.pair) ≡ dp = two_bytes e.dir e.pair h.dir_fits h.pair_fits in
    let levels : low_first 4 (e.q + 65536 * e.side) ≡ qs = four_bytes e.q e.side h.q_fits in
    let first : length xy ≡ 4 = omega (arith, length-append (low_first 2 e.x) (low_first 2 e.y), length_low_first 2 e.x, length_low_first 2 e.y) in
    let second : length (xy ++ dp) ≡ 6 = omega (arith, length-append xy dp) in
    let sb = sets_then xy dp l at (at + 4) (pa ∙ ap (sets l at) (ap (low_first 4) ei ∙ places)) (omega arith) (pb ∙ ap (sets _ (at + 4)) (ap (low_first 2) ej ∙ kinds)) in
    let order : (xy ++ dp) ++ qs ≡ low_first 2 e.x ++ (low_first 2 e.y ++ (dp ++ qs)) = simp append_assoc in
    sets_then (xy ++ dp) qs l at (at + 6) sb (omega arith) (pc ∙ ap (sets _ (at + 6)) (ap (low_first 4) ek ∙ levels)) ∙ ap (sets l at) order

pub ruleset entries = (rules, entry_put)
