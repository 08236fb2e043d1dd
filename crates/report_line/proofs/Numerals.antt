-- Digits and how many there are. Assumes nothing.
use mathlib.Core.Path.{◌≡◌, refl, sym, ap, ◌∙◌}
use mathlib.Core.Bool.{Bool, cond}
use mathlib.Core.List.{List, [], ◌∷◌, ◌++◌, append_assoc}
use Prim.Native.Nat.{ℕ, zero, suc, ◌+◌, ◌-◌, ◌*◌, ◌/◌, ◌%◌, ◌^◌, ◌≤◌, ◌<◌}
use native.Mathlib.Nat.{div-one, div-div-eq-div-mul, mul_comm, pow-succ'}
use lib.Pow.{pow-add}
use Rattle.std.proofs.Common.{add-one}
use native.Mathlib.Decide.{dec_le}
use native.Mathlib.Omega.{arith}
use lib.Dec.{ltb}
use lib.Ieee.{Float, binary64, to_bits}
use lib.ListN.{length, length-append}
use borrow.Author.Tests.{lt-ltb, le-ltb}
use Rattle.std.specs.Fmt.{decimal as decimal_of}
use Rattle.std.proofs.lemmas.Fmt.{decimal_by_steps}
use Rattle.report_line.specs.Numerals.{glyph, digits, places_in, places, decimal, pattern}

-- ---- digits

pub glyph_low : (d : ℕ) → d < 10 → glyph d ≡ 48 + d
unfolding glyph
glyph_low d h = ap (λ (b : Bool). cond b (48 + d) (55 + d)) (lt-ltb d 10 h)

pub glyph_high : (d : ℕ) → 10 ≤ d → glyph d ≡ 55 + d
unfolding glyph
glyph_high d h = ap (λ (b : Bool). cond b (48 + d) (55 + d)) (le-ltb d 10 h)

pub no_digits : (b k n : ℕ) → k ≡ 0 → digits b k n ≡ []
unfolding digits
no_digits b k n e = ap (λ (z : ℕ). digits b z n) e

pub last_digit : (b k j n : ℕ) → k ≡ suc j → digits b k n ≡ digits b j (n / b) ++ (glyph (n % b) ∷ [])
unfolding digits
last_digit b k j n e = ap (λ (z : ℕ). digits b z n) e

pub digits_length : (b k n : ℕ) → length (digits b k n) ≡ k
unfolding digits
digits_length b zero n = refl
digits_length b (suc k) n =
    omega (arith, length-append (digits b k (n / b)) (glyph (n % b) ∷ []), digits_length b k (n / b))

-- ---- decimal places

same_places : (d e n : ℕ) → n ≤ d → n ≤ e → places_in d n ≡ places_in e n
unfolding places_in
same_places zero zero n h g = refl
same_places zero (suc e) n h g = sym (ap (λ (b : Bool). cond b 1 (suc (places_in e (n / 10)))) (lt-ltb n 10 (omega arith)))
same_places (suc d) zero n h g = ap (λ (b : Bool). cond b 1 (suc (places_in d (n / 10)))) (lt-ltb n 10 (omega arith))
same_places (suc d) (suc e) n h g =
    ap (λ (z : ℕ). cond (ltb n 10) 1 (suc z)) (same_places d e (n / 10) (omega arith) (omega arith))

pub one_place : (n : ℕ) → n < 10 → places n ≡ 1
unfolding places places_in
one_place n h =
    same_places n (suc n) n (omega arith) (omega arith)
    ∙ ap (λ (b : Bool). cond b 1 (suc (places_in n (n / 10)))) (lt-ltb n 10 h)

pub more_places : (n : ℕ) → 10 ≤ n → places n ≡ suc (places (n / 10))
unfolding places places_in
more_places n h =
    same_places n (suc n) n (omega arith) (omega arith)
    ∙ ap (λ (b : Bool). cond b 1 (suc (places_in n (n / 10)))) (le-ltb n 10 h)
    ∙ ap suc (same_places n (n / 10) (n / 10) (omega arith) (omega arith))

tenth : (n p q : ℕ) → n < q → q ≡ 10 * p → n / 10 < p
tenth n p q h e = omega arith

pub few_places : (k n : ℕ) → n < 10 ^ suc k → places n ≤ suc k
few_places zero n h = omega (arith, one_place n h)
few_places (suc k) n h = pick (dec_le 10 n) (few_places k (n / 10))
  where
    pick : Dec (10 ≤ n) → (n / 10 < 10 ^ suc k → places (n / 10) ≤ suc k) → places n ≤ suc (suc k)
    pick (yes g) tenths =
        omega (arith, more_places n g, tenths (tenth n (10 ^ suc k) (10 ^ suc (suc k)) h (pow-succ' 10 (suc k))))
    pick (no g) tenths = omega (arith, one_place n (omega arith))

-- a `u64` has at most 20
pub twenty_places : (n : ℕ) → n < 2 ^ 64 → places n ≤ 20
twenty_places n h = few_places 19 n (omega arith)

pub decimal_length : (n : ℕ) → length (decimal n) ≡ places n
unfolding decimal
decimal_length n = digits_length 10 (places n) n

pub pattern_length : (x : Float) → length (pattern x) ≡ 16
unfolding pattern
pattern_length x = digits_length 16 16 (to_bits binary64 x)

-- ---- what std writes of a number is its decimal
pub same_decimal : (n : ℕ) → n < 2 ^ 64 → decimal_of n ≡ decimal n
unfolding decimal digits
same_decimal n h = decimal_by_steps (λ (n : ℕ) (ds : List ℕ). ds ≡ digits 10 (places n) n) one more n h
  where
    one : (n : ℕ) → n < 10 → ((48 + n) ∷ []) ≡ digits 10 (places n) n
    one n h =
        let itself : n % 10 ≡ n = omega arith in
        let last : glyph (n % 10) ≡ 48 + n = glyph_low (n % 10) (omega arith) ∙ ap (λ (z : ℕ). 48 + z) itself in
        sym (ap (λ (k : ℕ). digits 10 k n) (one_place n h) ∙ ap (λ (z : ℕ). z ∷ []) last)

    more : (n : ℕ) (ds : List ℕ) → 10 ≤ n → ds ≡ digits 10 (places (n / 10)) (n / 10) → ds ++ ((48 + n % 10) ∷ []) ≡ digits 10 (places n) n
    more n ds h e =
        ap (λ (l : List ℕ). l ++ ((48 + n % 10) ∷ [])) e
        ∙ ap (λ (d : ℕ). digits 10 (places (n / 10)) (n / 10) ++ (d ∷ [])) (sym (glyph_low (n % 10) (omega arith)))
        ∙ sym (ap (λ (k : ℕ). digits 10 k n) (more_places n h))

pub numbered : (l : List ℕ) (n after : ℕ) → n < 2 ^ 64 → (l ++ decimal_of n) ++ (after ∷ []) ≡ l ++ (decimal n ++ (after ∷ []))
numbered l n after h = ap (λ (z : List ℕ). (l ++ z) ++ (after ∷ [])) (same_decimal n h) ∙ append_assoc l (decimal n) (after ∷ [])

-- ---- hex digit by hex digit
hex_power : (k : ℕ) → 2 ^ (4 * k) ≡ 16 ^ k
hex_power zero = refl
hex_power (suc k) =
    let four_more : 4 * suc k ≡ 4 * k + 4 = omega arith in
    ap (λ (z : ℕ). 2 ^ z) four_more ∙ pow-add 2 (4 * k) 4 ∙ ap (λ (z : ℕ). z * 16) (hex_power k) ∙ mul_comm (16 ^ k) 16 ∙ sym (pow-succ' 16 k)

shift : (i : ℕ) → i < 16 → 2 ^ (60 - 4 * i) ≡ 16 ^ (15 - i)
shift i h = let fours : 60 - 4 * i ≡ 4 * (15 - i) = omega arith in ap (λ (z : ℕ). 2 ^ z) fours ∙ hex_power (15 - i)

tail : (b i : ℕ) → i < 16 → b / 2 ^ (60 - 4 * i) / 16 ≡ b / 16 ^ (16 - i)
tail b i h =
    let one_more : suc (15 - i) ≡ 16 - i = omega arith in
    div-div-eq-div-mul b (2 ^ (60 - 4 * i)) 16
    ∙ ap (λ (z : ℕ). b / z) (ap (λ (z : ℕ). z * 16) (shift i h) ∙ mul_comm (16 ^ (15 - i)) 16 ∙ sym (pow-succ' 16 (15 - i)) ∙ ap (λ (z : ℕ). 16 ^ z) one_more)

head : (b i : ℕ) → i < 16 → b / 2 ^ (60 - 4 * i) ≡ b / 16 ^ (16 - (i + 1))
head b i h = let same : 15 - i ≡ 16 - (i + 1) = omega arith in ap (λ (z : ℕ). b / z) (shift i h ∙ ap (λ (z : ℕ). 16 ^ z) same)

pub next_digit : (l : List ℕ) (b i : ℕ) → i < 16
    → (l ++ digits 16 i (b / 16 ^ (16 - i))) ++ (glyph (b / 2 ^ (60 - 4 * i) % 16) ∷ []) ≡ l ++ digits 16 (i + 1) (b / 16 ^ (16 - (i + 1)))
next_digit l b i h =
    let n = b / 2 ^ (60 - 4 * i) in
    append_assoc l (digits 16 i (b / 16 ^ (16 - i))) (glyph (n % 16) ∷ [])
    ∙ ap (λ (z : ℕ). l ++ (digits 16 i z ++ (glyph (n % 16) ∷ []))) (sym (tail b i h))
    ∙ ap (λ (z : List ℕ). l ++ z) (sym (last_digit 16 (i + 1) i n (add-one i)))
    ∙ ap (λ (z : ℕ). l ++ digits 16 (i + 1) z) (head b i h)

-- all sixteen, and a byte behind them
pub whole_pattern : (l t : List ℕ) (x : Float) (b i after : ℕ) → b ≡ to_bits binary64 x → i ≡ 16 → t ≡ l ++ digits 16 i (b / 16 ^ (16 - i))
    → t ++ (after ∷ []) ≡ l ++ (pattern x ++ (after ∷ []))
unfolding pattern
whole_pattern l t x b i after e f g =
    ap (λ (z : List ℕ). z ++ (after ∷ [])) (g ∙ ap (λ (z : ℕ). l ++ digits 16 z (b / 16 ^ (16 - z))) f ∙ ap (λ (z : ℕ). l ++ digits 16 16 z) (div-one b ∙ e))
    ∙ append_assoc l (digits 16 16 (to_bits binary64 x)) (after ∷ [])
