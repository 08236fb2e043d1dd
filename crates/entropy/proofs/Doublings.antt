-- Doubling a double below 1 is exact: so `leading p` is 2 ^ whole_bits times p, from 1 to below 2. Assumes nothing.
use mathlib.Core.Path.{◌≡◌, refl, sym, ap, ◌∙◌, subst}
use Prim.Native.Nat.{ℕ, zero, suc, ◌+◌, ◌*◌, ◌^◌, ◌≤◌, ◌<◌}
use native.Mathlib.Nat.{mul-one, mul_assoc, mul-le-mul_right, lt_of_mul-lt-mul_right, le_of_mul-le-mul_right, mul-lt-mul_of_pos_right, pow-suc, lt_of_lt_of_le}
use native.Mathlib.Omega.{arith}
use mathlib.Core.Bool.{Bool, true, false}
use lib.Dec.{T, lit≤}
use lib.Pow.{pow_mono}
use lib.Ieee.{Float, binary64, emax, mul, fits, lt}
use lib.Ieee.Fits.{mul-fits}
use lib.Ieee.Exact.{HasValue}
use lib.Ieee.Positive.{num, den, positive, den_pos, value→cross, between, le→cross, own_value, value_pos}
use Rattle.rounding.proofs.FromZero.{nonneg_of_value}
use Rattle.rounding.proofs.Compare.{lt_true, lt_false}
use Rattle.rounding.proofs.Exact.{scale_up}
use Rattle.rounding.specs.Doubles.{one, two, least}
use Rattle.entropy.specs.Entropy.{doubled_times, doublings, whole_bits, leading}
use Rattle.entropy.specs.MinEntropy.{Probability}
use Rattle.entropy.proofs.Rounds.{doublings_more, doublings_done}

-- x is 2 ^ j times p, below 2
pub record Doubled (p x : Float) (j : ℕ) : Type 0 where
  pub value : HasValue x false (num p * 2 ^ j) (den p)
  pub double : T (fits binary64 x)
  pub below_two : num p * 2 ^ j < 2 * den p

-- and 1 at least
pub record Leading (p x : Float) (j : ℕ) : Type 0 where
  pub doubled : Doubled p x j
  pub from_one : den p ≤ num p * 2 ^ j

times_shift : (i : ℕ) (x : Float) → doubled_times i (mul binary64 x two) ≡ doubled_times (suc i) x
unfolding doubled_times
times_shift zero x = refl
times_shift (suc i) x = ap (λ (z : Float). mul binary64 z two) (times_shift i x)

module _ (p : Float) (r : Probability p) where
  pub p_positive : T (positive p)
  p_positive = between least p one tt tt r.from r.to

  pub num_above : 0 < num p
  num_above = value_pos p (num p) (den p) p_positive (den_pos p) (own_value p p_positive)

  pub to_one : num p ≤ den p
  to_one = omega (arith, le→cross p one p_positive tt r.to)

  pub from_least : den p ≤ num p * 2 ^ 8
  from_least = omega (arith, le→cross least p tt p_positive r.from)

  first : Doubled p p 0
  first = record {
    value = subst (λ (z : ℕ). HasValue p false z (den p)) (sym (mul-one (num p))) (own_value p p_positive);
    double = r.double;
    below_two = omega (arith, to_one, den_pos p);
  }

  module _ (x : Float) (j : ℕ) (d : Doubled p x j) where
    cross : num x * den p ≡ num p * 2 ^ j * den x
    cross = value→cross x (num p * 2 ^ j) (den p) d.value

    still_below : lt x one ≡ true → num p * 2 ^ j < den p
    still_below e =
        lt_of_mul-lt-mul_right (den x)
        (go (num x) (den x) (num p * 2 ^ j) (den p) cross
        (mul-lt-mul_of_pos_right (lt_true x one (nonneg_of_value x (num p * 2 ^ j) (den p) d.value) tt e) (den_pos p)))
      where
        go : (n d a c : ℕ) → n * c ≡ a * d → n * 1 * c < 1 * d * c → a * d < c * d
        go n d a c e h = omega arith

    at_one : lt x one ≡ false → den p ≤ num p * 2 ^ j
    at_one e =
        le_of_mul-le-mul_right
        (go (num x) (den x) (num p * 2 ^ j) (den p) cross
        (mul-le-mul_right (den p) (lt_false x one (nonneg_of_value x (num p * 2 ^ j) (den p) d.value) tt e))) (den_pos x)
      where
        go : (n d a c : ℕ) → n * c ≡ a * d → 1 * d * c ≤ n * 1 * c → c * d ≤ a * d
        go n d a c e h = omega arith

    next : lt x one ≡ true → Doubled p (mul binary64 x two) (suc j)
    next e =
        let q : num p * 2 ^ j * 2 ^ 1 ≡ num p * 2 ^ suc j = mul_assoc (num p) (2 ^ j) 2 ∙ ap (λ (z : ℕ). num p * z) (sym (pow-suc 2 j)) in
        record {
          value = subst (λ (z : ℕ). HasValue (mul binary64 x two) false z (den p)) q
              (scale_up binary64 x two (num p * 2 ^ j) (den p) 1 (den_pos p) d.double d.value (refl, refl)
              (room (num p * 2 ^ j) (den p) (still_below e)));
          double = mul-fits binary64 x two;
          below_two = subst (λ (z : ℕ). z < 2 * den p) q (omega (arith, still_below e));
        }
      where
        room : (a c : ℕ) → a < c → a * 2 ^ 1 < 2 ^ suc (emax binary64) * c
        room a c h = lt_of_lt_of_le (twice a c h) (mul-le-mul_right c (pow_mono {i = 1} {j = suc (emax binary64)} (lit≤ tt)))
          where
            twice : (a c : ℕ) → a < c → a * 2 ^ 1 < 2 ^ 1 * c
            twice a c h = omega arith

  over : (j k : ℕ) → j + suc k ≡ suc j + k
  over j k = omega arith

  none : (j : ℕ) → j ≡ j + 0
  none j = omega arith

  -- n doublings more are enough to reach 1
  abbrev Reached : ℕ → Float → ℕ → Type 0
  Reached n x j = Leading p (doubled_times (doublings n x) x) (j + doublings n x)

  -- with one more at hand: it is made if x is below 1
  one_more : (n : ℕ) (x : Float) (j : ℕ) → Doubled p x j → (Doubled p (mul binary64 x two) (suc j) → Reached n (mul binary64 x two) (suc j)) →
      (b : Bool) → lt x one ≡ b → Reached (suc n) x j
  unfolding doubled_times
  one_more n x j d ih true e =
      let y = mul binary64 x two in
      subst (λ (k : ℕ). Leading p (doubled_times k x) (j + k)) (sym (doublings_more n x e))
      (subst (λ (z : Float). Leading p z (j + suc (doublings n y))) (times_shift (doublings n y) x)
      (subst (λ (k : ℕ). Leading p (doubled_times (doublings n y) y) k) (sym (over j (doublings n y))) (ih (next x j d e))))
  one_more n x j d ih false e =
      subst (λ (k : ℕ). Leading p (doubled_times k x) (j + k)) (sym (doublings_done (suc n) x e))
      (subst (λ (k : ℕ). Leading p x k) (none j) (record { doubled = d; from_one = at_one x j d e }))

  reach : (n : ℕ) (x : Float) (j : ℕ) → Doubled p x j → den p ≤ num p * 2 ^ (j + n) → Reached n x j
  unfolding doublings doubled_times
  reach zero x j d h = record { doubled = subst (Doubled p x) (none j) d; from_one = h }
  reach (suc n) x j d h =
      one_more n x j d (λ d'. reach n (mul binary64 x two) (suc j) d' (subst (λ (k : ℕ). den p ≤ num p * 2 ^ k) (over j n) h)) (lt x one) refl

  pub leads : Leading p (leading p) (whole_bits p)
  leads = subst (λ (k : ℕ). Leading p (leading p) k) (start (whole_bits p)) (reach 8 p 0 first from_least)
    where
      start : (n : ℕ) → 0 + n ≡ n
      start n = omega arith
