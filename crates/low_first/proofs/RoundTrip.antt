-- Numbers in bytes, there and back: what was put is read again, what was read is put back as it stood; and bytes put one number after the other.
-- Assumes nothing.
use mathlib.Core.Path.{◌≡◌, refl, sym, ap, ap₂, ◌∙◌}
use mathlib.Core.List.{List, [], ◌∷◌, ◌++◌, append_assoc, append-nil}
use Prim.Native.Nat.{ℕ, zero, suc, ◌+◌, ◌-◌, ◌*◌, ◌/◌, ◌%◌, ◌^◌, ◌≤◌, ◌<◌}
use native.Mathlib.Nat.{pow-succ', zero-mul, suc-mul}
use native.Mathlib.Numerals.{add-one}
use native.Mathlib.Omega.{arith}
use borrow.Author.Rules.{rules}
use borrow.Rule.Slice.PartMut.{put_mid}
use lib.ListN.{length, get_or, take, drop, length-append, length-drop, drop_of_length-le}
use lib.Seq.{sets, sets-eq, drop-cons, get_or_at, append_snoc, take_at, drop-append-add, drop-drop}
use Rattle.laws.specs.Lists.{Each}
use Rattle.laws.specs.Loops.{each, each_more, each_end}
use Rattle.low_first.specs.Bytes.{number_in, low_first}

pub length_low_first : (n v : ℕ) → length (low_first n v) ≡ n
unfolding low_first
length_low_first zero v = refl
length_low_first (suc n) v = ap suc (length_low_first n (v / 256))

-- each is a byte
pub bytes_low_first : (n v : ℕ) → Each (λ b. b < 256) (low_first n v)
unfolding low_first
bytes_low_first zero v = tt
bytes_low_first (suc n) v = (omega arith, bytes_low_first n (v / 256))

-- a number that fits n bytes is read where its bytes stand
pub read_put : (n v : ℕ) (front back : List ℕ) (at : ℕ) → length front ≡ at → v < 256 ^ n → number_in n (front ++ low_first n v ++ back) at ≡ v
unfolding number_in low_first
read_put zero v front back at e h = omega arith
read_put (suc n) v front back at e h =
    let b = v % 256 in
    let r = low_first n (v / 256) in
    let first : get_or (front ++ (b ∷ r) ++ back) at 0 ≡ b = ap (λ (l : List ℕ). get_or l at 0) (append_assoc front (b ∷ r) back) ∙ get_or_at front b (r ++ back) 0 at e in
    let next = read_put n (v / 256) (front ++ (b ∷ [])) back (at + 1) (omega (arith, length-append front (b ∷ []))) (omega (arith, pow-succ' 256 n)) in
    let rest : number_in n (front ++ (b ∷ r) ++ back) (at + 1) ≡ v / 256 = ap (λ (l : List ℕ). number_in n (l ++ back) (at + 1)) (sym (append_snoc front b r)) ∙ next in
    omega arith

-- what stands in n bytes of a list is put back as it stood
pub put_read : (n : ℕ) (bytes : List ℕ) (at : ℕ) → ((k : ℕ) → get_or bytes k 0 < 256) → at + n ≤ length bytes → low_first n (number_in n bytes at) ≡ take n (drop at bytes)
unfolding number_in low_first
put_read zero bytes at small h = refl
put_read (suc n) bytes at small h =
    let b = small at in
    let r = number_in n bytes (at + 1) in
    rw (drop-cons bytes at 0 (omega arith))
    (ap₂ (λ (x : ℕ) (l : List ℕ). x ∷ l) (omega arith) (ap (low_first n) (omega arith) ∙ put_read n bytes (at + 1) small (omega arith) ∙ ap (λ (k : ℕ). take n (drop k bytes)) (add-one at)))

-- the bytes of the next number, put after those before it
pub put_next : (n v : ℕ) (front back : List ℕ) (at : ℕ) → length front ≡ at → n ≤ length back → sets (front ++ back) at (low_first n v) ≡ (front ++ low_first n v) ++ drop n back
put_next n v front back at e h =
    let l = length_low_first n v in
    let last : at + length (low_first n v) ≡ length front + n = omega arith in
    sets-eq (low_first n v) (front ++ back) at (omega (arith, length-append front back))
    ∙ ap₂ (λ (x y : List ℕ). x ++ low_first n v ++ y) (take_at front back at e) (ap (λ (k : ℕ). drop k (front ++ back)) last ∙ drop-append-add front back n)

-- ---- a loop that puts numbers of n bytes one after the other

length_each : (n : ℕ) (f : ℕ → ℕ) (k : ℕ) → length (each k (λ i. low_first n (f i))) ≡ k * n
unfolding each
length_each n f zero = sym (zero-mul n)
length_each n f (suc k) =
    omega (arith, length-append (each k (λ i. low_first n (f i))) (low_first n (f k)), length_each n f k, length_low_first n (f k), suc-mul k n)

module _ (n : ℕ) (f : ℕ → ℕ) (start : List ℕ) where
  pub puts_none : (at : ℕ) → at ≡ 0 → start ≡ each 0 (λ i. low_first n (f i)) ++ drop at start
  unfolding each
  puts_none at e = rw e

  -- one more number, at the place after those before it
  pub puts_more : (k at next : ℕ) {q r : List ℕ} {v : ℕ} → q ≡ each k (λ i. low_first n (f i)) ++ drop at start → at ≡ k * n → next ≡ at + n → next ≤ length start
      → v ≡ f k → r ≡ sets q at (low_first n v) → r ≡ each (k + 1) (λ i. low_first n (f i)) ++ drop next start
  puts_more k at next {q} {r} {v} e a b h g s =
      s
      ∙ ap₂ (λ (l : List ℕ) (v : ℕ). sets l at (low_first n v)) e g
      ∙ put_next n (f k) (each k (λ i. low_first n (f i))) (drop at start) at (omega (arith, length_each n f k)) (omega (arith, length-drop at start))
      ∙ ap₂ (λ (l m : List ℕ). l ++ m) (each_more (λ i. low_first n (f i)) k refl refl) (drop-drop n at start ∙ ap (λ (k : ℕ). drop k start) (sym b))

  -- every number is put, and no byte is left
  pub puts_end : (k m at : ℕ) {q : List ℕ} → q ≡ each k (λ i. low_first n (f i)) ++ drop at start → k ≤ m → m ≤ k → length start ≤ at → q ≡ each m (λ i. low_first n (f i))
  puts_end k m at e a b h = each_end (λ i. low_first n (f i)) k m (e ∙ ap (λ (l : List ℕ). each k (λ i. low_first n (f i)) ++ l) (drop_of_length-le start h) ∙ append-nil _) a b

pub ruleset putting = (rules, puts_none, puts_more, puts_end)

-- ---- as code reads and puts them, byte by byte

pub read_two : (bytes : List ℕ) (at : ℕ) {r : ℕ} → r ≡ get_or bytes at 0 + 256 * get_or bytes (at + 1) 0 → r ≡ number_in 2 bytes at
unfolding number_in
read_two bytes at e = omega arith

pub read_four : (bytes : List ℕ) (at : ℕ) {a b c d : ℕ} → a ≡ get_or bytes at 0 → b ≡ get_or bytes (at + 1) 0 → c ≡ get_or bytes (at + 2) 0 → d ≡ get_or bytes (at + 3) 0
    → a + 256 * b + 65536 * c + 16777216 * d ≡ number_in 4 bytes at
unfolding number_in
read_four bytes at e f g h =
    let second : at + 1 + 1 ≡ at + 2 = omega arith in
    let third : at + 2 + 1 ≡ at + 3 = omega arith in
    rw (second, third) (omega arith)

-- the bytes as the library writes them
pub low_first_two : (v : ℕ) → v % 256 ∷ v / 256 % 256 ∷ [] ≡ low_first 2 v
unfolding low_first
low_first_two v = refl

pub low_first_four : (v : ℕ) → v % 256 ∷ v / 256 % 256 ∷ v / 65536 % 256 ∷ v / 16777216 % 256 ∷ [] ≡ low_first 4 v
unfolding low_first
low_first_four v =
    let third : v / 65536 ≡ v / 256 / 256 = omega arith in
    let last : v / 16777216 ≡ v / 256 / 256 / 256 = omega arith in
    rw (third, last)

-- ys copied to a part of n places
pub put_part : (n : ℕ) (l ys xs : List ℕ) (at : ℕ) → ys ≡ xs → length xs ≡ n → at + n ≤ length l → put_mid at (at + n - at) l ys ≡ sets l at xs
put_part n l ys xs at e h b =
    let k : at + n - at ≡ length xs = omega arith in
    rw (k, e, drop-drop (length xs) at l) (sym (sets-eq xs l at (omega arith) ∙ append_assoc (take at l) xs (drop (at + length xs) l)))
