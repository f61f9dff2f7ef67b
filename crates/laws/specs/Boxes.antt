-- Boxes of columns and rows in a list that holds rows of s numbers: which places lie in one, and when two have a place in common.
-- Assumes nothing.
use Rattle.std.specs.Prelude.{◌≡◌, Bool, not, ◌&&◌, ℕ, ◌+◌, ◌*◌, ◌/◌, ◌%◌, ◌≤◌, ◌<◌, max, T, leb, ltb}
use Rattle.std.proofs.Common.{sym, ap, ◌∙◌, mod-eq_of_lt, arith, leb→le, le→leb, ltb→lt, lt→ltb, T_not}
use Rattle.std.proofs.Math.Nat.{mul-add-mod_self_right, mul-add-div_right, div-eq_of_lt}
use Rattle.laws.specs.Tests.{and_l, and_r, and_i}
use Rattle.laws.specs.Footprints.{Disjoint}

-- columns x0 .. x1 - 1, rows y0 .. y1 - 1
pub record Box : Type 0 where
  pub x0 : ℕ
  pub x1 : ℕ
  pub y0 : ℕ
  pub y1 : ℕ

-- the test of a place
abbrev pub in_box : ℕ → Box → ℕ → Bool
in_box s b p = leb b.x0 (p % s) && (ltb (p % s) b.x1 && (leb b.y0 (p / s) && ltb (p / s) b.y1))

pub record In (b : Box) (x : ℕ) (y : ℕ) : Type 0 where
  pub left : b.x0 ≤ x
  pub right : x < b.x1
  pub top : b.y0 ≤ y
  pub bottom : y < b.y1

pub in_of : (s : ℕ) (b : Box) (p : ℕ) → T (in_box s b p) → In b (p % s) (p / s)
in_of s b p t =
    let c₁ : Bool = leb b.x0 (p % s) in
    let c₂ : Bool = ltb (p % s) b.x1 in
    let c₃ : Bool = leb b.y0 (p / s) in
    let c₄ : Bool = ltb (p / s) b.y1 in
    let t₂ : T (c₂ && (c₃ && c₄)) = and_r c₁ (c₂ && (c₃ && c₄)) t in
    let t₃ : T (c₃ && c₄) = and_r c₂ (c₃ && c₄) t₂ in
    record {
      left = leb→le b.x0 (p % s) (and_l c₁ (c₂ && (c₃ && c₄)) t);
      right = ltb→lt (p % s) b.x1 (and_l c₂ (c₃ && c₄) t₂);
      top = leb→le b.y0 (p / s) (and_l c₃ c₄ t₃);
      bottom = ltb→lt (p / s) b.y1 (and_r c₃ c₄ t₃);
    }

pub of_in : (s : ℕ) (b : Box) (p : ℕ) → In b (p % s) (p / s) → T (in_box s b p)
of_in s b p h =
    let c₁ : Bool = leb b.x0 (p % s) in
    let c₂ : Bool = ltb (p % s) b.x1 in
    let c₃ : Bool = leb b.y0 (p / s) in
    let c₄ : Bool = ltb (p / s) b.y1 in
    and_i c₁ (c₂ && (c₃ && c₄)) (le→leb b.x0 (p % s) h.left)
    (and_i c₂ (c₃ && c₄) (lt→ltb (p % s) b.x1 h.right)
    (and_i c₃ c₄ (le→leb b.y0 (p / s) h.top) (lt→ltb (p / s) b.y1 h.bottom)))

-- the place of column x, row y, and back
pub col_of : (s x y : ℕ) → x < s → (y * s + x) % s ≡ x
col_of s x y h = mul-add-mod_self_right y s x ∙ mod-eq_of_lt h

pub row_of : (s x y : ℕ) → x < s → (y * s + x) / s ≡ y
row_of s x y h = mul-add-div_right (omega arith) y x ∙ (let e : x / s ≡ 0 = div-eq_of_lt h in omega arith)

-- two places of a row's columns are equal where their columns and rows are
pub cell_of : (s x y x' y' : ℕ) → x < s → x' < s → y * s + x ≡ y' * s + x' → (y ≡ y') × (x ≡ x')
cell_of s x y x' y' h k e = (
  sym (row_of s x y h) ∙ ap (λ (i : ℕ). i / s) e ∙ row_of s x' y' k,
  sym (col_of s x y h) ∙ ap (λ (i : ℕ). i % s) e ∙ col_of s x' y' k,
)

pub in_at : (s : ℕ) (b : Box) (x y : ℕ) → x < s → In b x y → T (in_box s b (y * s + x))
in_at s b x y h i = of_in s b (y * s + x) (rw (col_of s x y h, row_of s x y h) i)

-- two boxes have a place in common
abbrev pub meets : Box → Box → Bool
meets a b = ltb a.x0 b.x1 && (ltb b.x0 a.x1 && (ltb a.y0 b.y1 && ltb b.y0 a.y1))

pub record Meet (a b : Box) : Type 0 where
  pub xab : a.x0 < b.x1
  pub xba : b.x0 < a.x1
  pub yab : a.y0 < b.y1
  pub yba : b.y0 < a.y1

pub meet_of : (a b : Box) → T (meets a b) → Meet a b
meet_of a b t =
    let c₁ : Bool = ltb a.x0 b.x1 in
    let c₂ : Bool = ltb b.x0 a.x1 in
    let c₃ : Bool = ltb a.y0 b.y1 in
    let c₄ : Bool = ltb b.y0 a.y1 in
    let t₂ : T (c₂ && (c₃ && c₄)) = and_r c₁ (c₂ && (c₃ && c₄)) t in
    let t₃ : T (c₃ && c₄) = and_r c₂ (c₃ && c₄) t₂ in
    record {
      xab = ltb→lt a.x0 b.x1 (and_l c₁ (c₂ && (c₃ && c₄)) t);
      xba = ltb→lt b.x0 a.x1 (and_l c₂ (c₃ && c₄) t₂);
      yab = ltb→lt a.y0 b.y1 (and_l c₃ c₄ t₃);
      yba = ltb→lt b.y0 a.y1 (and_r c₃ c₄ t₃);
    }

pub of_meet : (a b : Box) → Meet a b → T (meets a b)
of_meet a b h =
    let c₁ : Bool = ltb a.x0 b.x1 in
    let c₂ : Bool = ltb b.x0 a.x1 in
    let c₃ : Bool = ltb a.y0 b.y1 in
    let c₄ : Bool = ltb b.y0 a.y1 in
    and_i c₁ (c₂ && (c₃ && c₄)) (lt→ltb a.x0 b.x1 h.xab)
    (and_i c₂ (c₃ && c₄) (lt→ltb b.x0 a.x1 h.xba)
    (and_i c₃ c₄ (lt→ltb a.y0 b.y1 h.yab) (lt→ltb b.y0 a.y1 h.yba)))

pub apart : (s : ℕ) (a b : Box) → T (not (meets a b)) → Disjoint (in_box s a) (in_box s b)
apart s a b n p ta tb =
    let ia : In a (p % s) (p / s) = in_of s a p ta in
    let ib : In b (p % s) (p / s) = in_of s b p tb in
    T_not (meets a b) n (of_meet a b (omega arith))

-- the test is exact, for boxes that are not empty and lie within a row's length
pub common : (s : ℕ) (a b : Box) → a.x0 < a.x1 → a.y0 < a.y1 → b.x0 < b.x1 → b.y0 < b.y1 → a.x1 ≤ s
    → T (meets a b) → (p : ℕ) × T (in_box s a p) × T (in_box s b p)
common s a b ax ay bx by fits t =
    let m : Meet a b = meet_of a b t in
    let x : ℕ = max a.x0 b.x0 in
    let y : ℕ = max a.y0 b.y0 in
    let h : x < s = omega arith in (
      y * s + x,
      in_at s a x y h (record { left = omega arith; right = omega arith; top = omega arith; bottom = omega arith }),
      in_at s b x y h (record { left = omega arith; right = omega arith; top = omega arith; bottom = omega arith }),
    )

-- ---- a box inside of another

pub record Inside (a b : Box) : Type 0 where
  pub ix0 : b.x0 ≤ a.x0
  pub ix1 : a.x1 ≤ b.x1
  pub iy0 : b.y0 ≤ a.y0
  pub iy1 : a.y1 ≤ b.y1

pub inside_trans : (a b c : Box) → Inside a b → Inside b c → Inside a c
inside_trans a b c h k = record { ix0 = omega arith; ix1 = omega arith; iy0 = omega arith; iy1 = omega arith }

pub in_inside : (s : ℕ) (a b : Box) → Inside a b → (p : ℕ) → T (in_box s a p) → T (in_box s b p)
in_inside s a b h p t = let i : In a (p % s) (p / s) = in_of s a p t in of_in s b p (omega arith)

pub meets_inside : (a b a' b' : Box) → Inside a a' → Inside b b' → T (meets a b) → T (meets a' b')
meets_inside a b a' b' ia ib t = let m : Meet a b = meet_of a b t in of_meet a' b' (omega arith)

pub meet_turn : (a b : Box) → Meet a b → Meet b a
meet_turn a b m = record { xab = m.xba; xba = m.xab; yab = m.yba; yba = m.yab }
