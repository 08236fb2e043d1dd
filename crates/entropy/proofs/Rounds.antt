-- The rounds of the definition, one by one, as the code's loops run them: doublings until 1, and squarings. Assumes nothing.
use mathlib.Core.Path.{◌≡◌, refl, sym, ap, ◌∙◌, subst}
use Prim.Native.Nat.{ℕ, zero, suc, ◌+◌, ◌-◌, ◌*◌, ◌^◌, ◌≤◌, ◌<◌}
use native.Mathlib.Nat.{zero-lt-suc, pow-suc, lt_of_lt_of_le}
use native.Mathlib.Omega.{arith}
use mathlib.Core.Bool.{Bool, true, false, cond}
use lib.Dec.{lit≤}
use lib.Pow.{pow_mono}
use lib.Ieee.{Float, binary64, mul, lt, le}
use Rattle.rounding.specs.Doubles.{one, two, half}
use Rattle.entropy.specs.Entropy.{doubled_times, doublings, whole_bits, leading, squared_once, digit, squared_times, log_digits}

-- ---- doublings
pub doublings_more : (n : ℕ) (x : Float) → lt x one ≡ true → doublings (suc n) x ≡ suc (doublings n (mul binary64 x two))
unfolding doublings
doublings_more n x e = rw e

pub doublings_done : (n : ℕ) (x : Float) → lt x one ≡ false → doublings n x ≡ 0
unfolding doublings
doublings_done zero x e = refl
doublings_done (suc n) x e = rw e

few_or_none : (b : Bool) (k n : ℕ) → k ≤ n → cond b (suc k) 0 ≤ suc n
few_or_none true k n h = omega arith
few_or_none false k n h = omega arith

pub doublings_few : (n : ℕ) (x : Float) → doublings n x ≤ n
unfolding doublings
doublings_few zero x = lit≤ tt
doublings_few (suc n) x = few_or_none (lt x one) (doublings n (mul binary64 x two)) n (doublings_few n (mul binary64 x two))

-- x is p doubled j times, and the doublings of p are j and those of x
pub record Doubling (p x : Float) (j : ℕ) : Type 0 where
  pub few : j ≤ 8
  pub value : x ≡ doubled_times j p
  pub rest : j + doublings (8 - j) x ≡ whole_bits p

pub doubling_first : (p : Float) → Doubling p p 0
unfolding doubled_times
doubling_first p = record { few = lit≤ tt; value = refl; rest = none (doublings 8 p) }
  where
    none : (n : ℕ) → 0 + n ≡ n
    none n = omega arith

module _ (p x : Float) (j : ℕ) (d : Doubling p x j) where
  pub doubling_next : j < 8 → lt x one ≡ true → Doubling p (mul binary64 x two) (j + 1)
  unfolding doubled_times
  doubling_next l e =
      let s : 8 - j ≡ suc (8 - (j + 1)) = step j l in
      let r : doublings (8 - j) x ≡ suc (doublings (8 - (j + 1)) (mul binary64 x two)) = ap (λ (n : ℕ). doublings n x) s ∙ doublings_more (8 - (j + 1)) x e in
      record {
        few = omega arith;
        value = ap (λ (z : Float). mul binary64 z two) d.value ∙ ap (λ (i : ℕ). doubled_times i p) (one_more j);
        rest = over j (doublings (8 - (j + 1)) (mul binary64 x two)) ∙ ap (λ (n : ℕ). j + n) (sym r) ∙ d.rest;
      }
    where
      step : (j : ℕ) → j < 8 → 8 - j ≡ suc (8 - (j + 1))
      step j h = omega arith

      over : (j n : ℕ) → j + 1 + n ≡ j + suc n
      over j n = omega arith

      one_more : (j : ℕ) → suc j ≡ j + 1
      one_more j = omega arith

  ended : doublings (8 - j) x ≡ 0 → (x ≡ leading p) × (j ≡ whole_bits p)
  ended e =
      let w : j ≡ whole_bits p = none j ∙ ap (λ (n : ℕ). j + n) (sym e) ∙ d.rest in
      (d.value ∙ ap (λ (i : ℕ). doubled_times i p) w, w)
    where
      none : (n : ℕ) → n ≡ n + 0
      none n = omega arith

  pub doubling_at_one : lt x one ≡ false → (x ≡ leading p) × (j ≡ whole_bits p)
  doubling_at_one e = ended (doublings_done (8 - j) x e)

  pub doubling_at_eight : 8 ≤ j → (x ≡ leading p) × (j ≡ whole_bits p)
  unfolding doublings
  doubling_at_eight h = ended (ap (λ (n : ℕ). doublings n x) (gone j h))
    where
      gone : (j : ℕ) → 8 ≤ j → 8 - j ≡ 0
      gone j h = omega arith

-- ---- squarings
pub once_high : (x : Float) → le two (mul binary64 x x) ≡ true → squared_once x ≡ mul binary64 (mul binary64 x x) half
unfolding squared_once
once_high x e = rw e

pub once_low : (x : Float) → le two (mul binary64 x x) ≡ false → squared_once x ≡ mul binary64 x x
unfolding squared_once
once_low x e = rw e

pub digit_high : (x : Float) → le two (mul binary64 x x) ≡ true → digit x ≡ 1
unfolding digit
digit_high x e = rw e

pub digit_low : (x : Float) → le two (mul binary64 x x) ≡ false → digit x ≡ 0
unfolding digit
digit_low x e = rw e

digit_small : (x : Float) → digit x ≤ 1
unfolding digit
digit_small x = go (le two (mul binary64 x x))
  where
    go : (b : Bool) → cond b 1 0 ≤ 1
    go true = lit≤ tt
    go false = lit≤ tt

pub digits_below : (i : ℕ) (x : Float) → log_digits i x < 2 ^ i
unfolding log_digits
digits_below zero x = zero-lt-suc 0
digits_below (suc i) x =
    subst (λ (n : ℕ). log_digits i x * 2 + digit (squared_times i x) < n) (sym (pow-suc 2 i))
    (more (log_digits i x) (digit (squared_times i x)) (2 ^ i) (digits_below i x) (digit_small (squared_times i x)))
  where
    more : (n d t : ℕ) → n < t → d ≤ 1 → n * 2 + d < t * 2
    more n d t h g = omega arith

-- x and the number `bits` are what i squarings of `start` give
pub record Squaring (start x : Float) (bits i : ℕ) : Type 0 where
  pub few : i ≤ 24
  pub value : x ≡ squared_times i start
  pub digits : bits ≡ log_digits i start

pub squaring_first : (start : Float) → Squaring start start 0 0
unfolding squared_times log_digits
squaring_first start = record { few = lit≤ tt; value = refl; digits = refl }

one_more : (i : ℕ) → suc i ≡ i + 1
one_more i = omega arith

module _ (start x : Float) (bits i : ℕ) (s : Squaring start x bits i) (l : i < 24) where
  next : (z : Float) (d : ℕ) → squared_once x ≡ z → digit x ≡ d → Squaring start z (bits * 2 + d) (i + 1)
  unfolding squared_times log_digits
  next z d e g = record {
    few = omega arith;
    value = sym e ∙ ap squared_once s.value ∙ ap (λ (n : ℕ). squared_times n start) (one_more i);
    digits = ap (λ (n : ℕ). n * 2 + d) s.digits ∙ ap (λ (n : ℕ). log_digits i start * 2 + n) (sym g ∙ ap digit s.value)
        ∙ ap (λ (n : ℕ). log_digits n start) (one_more i);
  }

  pub squaring_high : le two (mul binary64 x x) ≡ true → Squaring start (mul binary64 (mul binary64 x x) half) (bits * 2 + 1) (i + 1)
  squaring_high e = next (mul binary64 (mul binary64 x x) half) 1 (once_high x e) (digit_high x e)

  pub squaring_low : le two (mul binary64 x x) ≡ false → Squaring start (mul binary64 x x) (bits * 2) (i + 1)
  squaring_low e = subst (λ (n : ℕ). Squaring start (mul binary64 x x) n (i + 1)) (none (bits * 2)) (next (mul binary64 x x) 0 (once_low x e) (digit_low x e))
    where
      none : (n : ℕ) → n + 0 ≡ n
      none n = omega arith

  -- few enough that one more digit fits
  pub squaring_room : bits < 2 ^ 24
  squaring_room = subst (λ (n : ℕ). n < 2 ^ 24) (sym s.digits) (lt_of_lt_of_le (digits_below i start) (pow_mono (weak l)))
    where
      weak : {a b : ℕ} → a < b → a ≤ b
      weak h = omega arith
