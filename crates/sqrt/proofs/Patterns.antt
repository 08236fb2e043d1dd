-- The bit patterns of doubles: what a pattern below the infinity's stands for, and the pattern of a number of smallest doubles. Assumes nothing.
use mathlib.Core.Path.{◌≡◌, refl, sym, ap, ◌∙◌, subst}
use mathlib.Core.Logic.{◌⊎◌, inl, inr}
use Prim.Native.Nat.{ℕ, zero, suc, ◌+◌, ◌-◌, ◌*◌, ◌/◌, ◌%◌, ◌^◌, ◌≤◌, ◌<◌}
use native.Mathlib.Nat.{le_trans, le_of_eq, lt_of_le_of_lt, eq-or-lt_of_le, mul-le-mul_right, mul-div_cancel, mul-pos, mul-one, suc-mul}
use native.Mathlib.Nat.{lt-suc_self, zero-add, add_comm, mod-eq_of_lt, not-le_of_lt}
use native.Mathlib.Omega.{arith}
use mathlib.Core.Bool.{Bool, true, false, not, cond, true≢false}
use lib.Dec.{T, leb, eqb, leb→le, eqb→eq, not_T}
use lib.Pow.{pow-add, pow_pos, pow-lt, shl_lt}
use lib.Ieee.{Float, nan, inf, fin, Format, binary64, prec, low, down, hid, size, odd, of_fields, of_bits, to_bits, nan_bits}
use lib.Ieee.Bits.{is_false, cond_no, nan_bits_is}
use lib.Ieee.Fits.{down_pos}
use lib.Ieee.Exact.{HasValue, odd_sign}
use borrow.Author.Tests.{eq-eqb, ne_eqb}
use Rattle.rounding.proofs.Numbers.{value_no_nan}
use Rattle.sqrt.specs.Inner.Steps.{units_of}
use Rattle.sqrt.proofs.Powers.{joined}
use Rattle.sqrt.proofs.Shift.{size_exact}

-- ---- what the fields of a pattern are read as

of_bits_is : (b : ℕ) → of_bits binary64 b ≡ of_fields binary64 (leb (2 ^ 63) b) (b % 2 ^ 63 / 2 ^ 52) (b % 2 ^ 52)
unfolding of_bits
of_bits_is b = refl

at_zero : (s : Bool) (t : ℕ) → of_fields binary64 s 0 t ≡ odd 53 s t 0 1074
unfolding of_fields
at_zero s t = refl

under_ones : (s : Bool) (t x : ℕ) → (suc x ≡ 2047 → ⊥) → of_fields binary64 s (suc x) t ≡ odd 53 s (2 ^ 52 + t) x 1074
unfolding of_fields
under_ones s t x h =
    cond_no (eqb (suc x) 2047) (cond (eqb t 0) (inf s) nan) (odd 53 s (2 ^ 52 + t) x 1074)
    (not_T (eqb (suc x) 2047) (λ (u : T (eqb (suc x) 2047)). h (eqb→eq (suc x) 2047 u)))

-- a pattern with the sign clear
unsigned : (b : ℕ) → b < 2 ^ 63 → of_bits binary64 b ≡ of_fields binary64 false (b / 2 ^ 52) (b % 2 ^ 52)
unsigned b h =
    of_bits_is b
    ∙ ap (λ (s : Bool). of_fields binary64 s (b % 2 ^ 63 / 2 ^ 52) (b % 2 ^ 52))
    (is_false (leb (2 ^ 63) b) (not_T (leb (2 ^ 63) b) (λ (u : T (leb (2 ^ 63) b)). not-le_of_lt h (leb→le (2 ^ 63) b u))))
    ∙ ap (λ (x : ℕ). of_fields binary64 false (x / 2 ^ 52) (b % 2 ^ 52)) (mod-eq_of_lt h)

fields_value : (x t : ℕ) → x < 2047 → HasValue (of_fields binary64 false x t) false (cond (eqb x 0) t ((t + 2 ^ 52) * 2 ^ (x - 1))) (2 ^ 1074)
fields_value zero t h =
    subst (λ (v : Float). HasValue v false t (2 ^ 1074)) (sym (at_zero false t))
    (subst (λ (n : ℕ). HasValue (odd 53 false t 0 1074) false n (2 ^ 1074)) (mul-one t) (odd_sign 53 false t 0 1074))
fields_value (suc x) t h =
    let d : suc x ≡ 2047 → ⊥ = λ e. omega arith in
    let p : suc x - 1 ≡ x = omega arith in
    let q : suc x ≡ 0 → ⊥ = λ e. omega arith in
    subst (λ (n : ℕ). HasValue (of_fields binary64 false (suc x) t) false n (2 ^ 1074))
    (ap (λ (y : ℕ). y * 2 ^ x) (add_comm (2 ^ 52) t) ∙ ap (λ (y : ℕ). (t + 2 ^ 52) * 2 ^ y) (sym p)
    ∙ sym (ap (λ (b : Bool). cond b t ((t + 2 ^ 52) * 2 ^ (suc x - 1))) (ne_eqb (suc x) 0 q)))
    (subst (λ (v : Float). HasValue v false ((2 ^ 52 + t) * 2 ^ x) (2 ^ 1074)) (sym (under_ones false t x d)) (odd_sign 53 false (2 ^ 52 + t) x 1074))

-- `units_of` by cases
pub units_low : (b : ℕ) → b / 2 ^ 52 ≡ 0 → units_of b ≡ b % 2 ^ 52
units_low b e = ap (λ (s : Bool). cond s (b % 2 ^ 52) ((b % 2 ^ 52 + 2 ^ 52) * 2 ^ (b / 2 ^ 52 - 1))) (eq-eqb (b / 2 ^ 52) 0 e)

pub units_high : (b : ℕ) → (b / 2 ^ 52 ≡ 0 → ⊥) → units_of b ≡ (b % 2 ^ 52 + 2 ^ 52) * 2 ^ (b / 2 ^ 52 - 1)
units_high b e = ap (λ (s : Bool). cond s (b % 2 ^ 52) ((b % 2 ^ 52 + 2 ^ 52) * 2 ^ (b / 2 ^ 52 - 1))) (ne_eqb (b / 2 ^ 52) 0 e)

pub high_digits : (b : ℕ) → (b / 2 ^ 52 ≡ 0 → ⊥) → units_of b * 2 ^ 52 ≡ (b % 2 ^ 52 + 2 ^ 52) * 2 ^ (b / 2 ^ 52 + 51)
high_digits b n =
    let f = b / 2 ^ 52 in
    let e : f - 1 + 52 ≡ f + 51 = omega arith in
    ap (λ (x : ℕ). x * 2 ^ 52) (units_high b n) ∙ joined (b % 2 ^ 52 + 2 ^ 52) (f - 1) 52 (f + 51) e

pub units_pos : (b : ℕ) → 0 < b → 0 < units_of b
units_pos b h = go (eqb (b / 2 ^ 52) 0) (eqb→eq (b / 2 ^ 52) 0)
  where
    some : (b : ℕ) → 0 < b → b / 2 ^ 52 ≡ 0 → 0 < b % 2 ^ 52
    some b h e = omega arith

    more : (t : ℕ) → 0 < t + 2 ^ 52
    more t = omega arith

    go : (s : Bool) → (T s → b / 2 ^ 52 ≡ 0) → 0 < cond s (b % 2 ^ 52) ((b % 2 ^ 52 + 2 ^ 52) * 2 ^ (b / 2 ^ 52 - 1))
    go true e = some b h (e tt)
    go false e = mul-pos (more (b % 2 ^ 52)) (pow_pos (b / 2 ^ 52 - 1))

-- a pattern below the infinity's is that of a double from 0 up: `units_of` smallest doubles
pub value_of : (b : ℕ) → b < 0x7ff0_0000_0000_0000 → HasValue (of_bits binary64 b) false (units_of b) (2 ^ 1074)
value_of b l =
    let w : b < 2 ^ 63 = omega arith in
    let x : b / 2 ^ 52 < 2047 = omega arith in
    subst (λ (v : Float). HasValue v false (units_of b) (2 ^ 1074)) (sym (unsigned b w)) (fields_value (b / 2 ^ 52) (b % 2 ^ 52) x)

-- ---- the pattern of q * 2 ^ k smallest doubles, for a q of 53 digits, or the next power of two

pub to_bits_value : (f : Format) (v : Float) (a : ℕ) → HasValue v false a (2 ^ low f) → to_bits f v ≡ (size a - prec f) * hid f + a / 2 ^ (size a - prec f)
unfolding to_bits
to_bits_value f nan a h = elim h [ ]
to_bits_value f (inf _) a h = elim h [ ]
to_bits_value f (fin true m e) a h = absurd (true≢false h.0)
to_bits_value f (fin false m e) a h =
    ap (λ (n : ℕ). 0 + (size n - prec f) * hid f + n / 2 ^ (size n - prec f)) (ap (λ (x : ℕ). x / down e) h.1 ∙ mul-div_cancel a (down_pos e))
    ∙ ap (λ (x : ℕ). x + a / 2 ^ (size a - prec f)) (zero-add ((size a - prec f) * hid f))

pub finite_no_nan : (b : ℕ) → b < 0x7ff0_0000_0000_0000 → T (not (nan_bits binary64 b))
finite_no_nan b l = subst (λ (v : Bool). T (not v)) (sym (nan_bits_is binary64 b)) (value_no_nan (of_bits binary64 b) false (units_of b) (2 ^ 1074) (value_of b l))

-- with z the size, and d of its digits dropped
bits_at : (q k z d p : ℕ) → size (q * 2 ^ k) ≡ z → z - 53 ≡ d → q * 2 ^ k ≡ p * 2 ^ d →
    (size (q * 2 ^ k) - 53) * 2 ^ 52 + q * 2 ^ k / 2 ^ (size (q * 2 ^ k) - 53) ≡ d * 2 ^ 52 + p
bits_at q k z d p a b e =
    ap (λ (x : ℕ). x * 2 ^ 52 + q * 2 ^ k / 2 ^ x) (ap (λ (x : ℕ). x - 53) a ∙ b)
    ∙ ap (λ (x : ℕ). d * 2 ^ 52 + x) (ap (λ (x : ℕ). x / 2 ^ d) e ∙ mul-div_cancel p (pow_pos d))

pub bits_of_lem : (q k : ℕ) → 2 ^ 52 ≤ q → q ≤ 2 ^ 53 → (size (q * 2 ^ k) - 53) * 2 ^ 52 + q * 2 ^ k / 2 ^ (size (q * 2 ^ k) - 53) ≡ k * 2 ^ 52 + q
bits_of_lem q k lo hi = go (eq-or-lt_of_le hi)
  where
    up_one : (k : ℕ) → suc (52 + k) ≡ 53 + k
    up_one k = omega arith

    up_two : (k : ℕ) → suc (53 + k) ≡ 54 + k
    up_two k = omega arith

    less : (k : ℕ) → suc (52 + k) - 53 ≡ k
    less k = omega arith

    less_one : (k : ℕ) → suc (53 + k) - 53 ≡ suc k
    less_one k = omega arith

    carry : (k q : ℕ) → q ≡ 2 ^ 53 → suc k * 2 ^ 52 + 2 ^ 52 ≡ k * 2 ^ 52 + q
    carry k q e = omega (arith, suc-mul k (2 ^ 52))

    go : (q ≡ 2 ^ 53) ⊎ (q < 2 ^ 53) → (size (q * 2 ^ k) - 53) * 2 ^ 52 + q * 2 ^ k / 2 ^ (size (q * 2 ^ k) - 53) ≡ k * 2 ^ 52 + q
    go (inr l) =
        bits_at q k (suc (52 + k)) k q
        (size_exact (52 + k) (q * 2 ^ k) (le_trans (le_of_eq (pow-add 2 52 k)) (mul-le-mul_right (2 ^ k) lo))
        (subst (λ (x : ℕ). q * 2 ^ k < 2 ^ x) (sym (up_one k)) (shl_lt 53 k l)))
        (less k)
        refl
    go (inl e) =
        let p : q * 2 ^ k ≡ 2 ^ (53 + k) = ap (λ (x : ℕ). x * 2 ^ k) e ∙ sym (pow-add 2 53 k) in
        bits_at q k (suc (53 + k)) (suc k) (2 ^ 52)
        (size_exact (53 + k) (q * 2 ^ k) (le_of_eq (sym p)) (lt_of_le_of_lt (le_of_eq p) (pow-lt (lt-suc_self (53 + k)))))
        (less_one k)
        (p ∙ ap (λ (x : ℕ). 2 ^ x) (turn k) ∙ pow-add 2 52 (suc k))
        ∙ carry k q e
      where
        turn : (k : ℕ) → 53 + k ≡ 52 + suc k
        turn k = omega arith
