-- The root's digits are the one number that is low enough and whose successor is not: each digit keeps that, and the power keeps the order of the
-- fractions. Assumes nothing.
use Rattle.std.proofs.Common.{◌≡◌, ℕ, zero, suc, ◌+◌, ◌*◌, ◌^◌, ◌<◌, ◌≤◌, Bool, true, false, ◌⊎◌, sym, refl, ap, ◌∙◌, subst, inl, inr, le_refl, le_of_lt, zero-lt-suc, le_antisymm, pow-suc, arith}
use lib.Ieee.{Float, le}
use Rattle.rounding.proofs.Order.{le_chain}
use Rattle.rounding.proofs.Compare.{holds, clash}
use Rattle.power.specs.Power.{power_of}
use Rattle.power.proofs.Unit.{power_keeps}
use Rattle.zero_count.specs.ZeroCount.{hundredth, fraction, low_enough, root_digits}
use Rattle.zero_count.specs.Inner.Bounds.{Encloses}
use Rattle.zero_count.proofs.Fractions.{fraction_double, part_unit, part_keeps}

-- ---- one digit more
module _ (i n m : ℕ) (k : Encloses i n m (suc m)) where
  deeper : (a : ℕ) (b : Bool) → low_enough i n a ≡ b → low_enough (suc i) n (a * 2) ≡ b
  deeper a b h = subst (λ (x : Float). le (power_of x n) hundredth ≡ b) (sym (fraction_double i a)) h

  room : suc m * 2 ≤ 2 ^ suc i
  room = subst (λ (z : ℕ). suc m * 2 ≤ z) (sym (pow-suc 2 i)) (omega (arith, k.within))

  stays : low_enough (suc i) n (m * 2 + 1) ≡ true → Encloses (suc i) n (m * 2 + 1) (suc (m * 2 + 1))
  stays h = record {
    apart = le_refl (suc (m * 2 + 1));
    within = subst (λ (z : ℕ). z ≤ 2 ^ suc i) (sym turn) room;
    from = inr h;
    to = subst (λ (z : ℕ). (z ≡ 2 ^ suc i) ⊎ (low_enough (suc i) n z ≡ false)) (sym turn) (elim k.to [
      | inl e ↦ inl (ap (λ (z : ℕ). z * 2) e ∙ sym (pow-suc 2 i))
      | inr g ↦ inr (deeper (suc m) false g)
    ]);
  }
    where
      turn : suc (m * 2 + 1) ≡ suc m * 2
      turn = omega arith

  goes : low_enough (suc i) n (m * 2 + 1) ≡ false → Encloses (suc i) n (m * 2) (suc (m * 2))
  goes h = record {
    apart = le_refl (suc (m * 2));
    within = omega (arith, room);
    from = elim k.from [ inl e ↦ inl (ap (λ (z : ℕ). z * 2) e) | inr g ↦ inr (deeper m true g) ];
    to = inr (subst (λ (z : ℕ). low_enough (suc i) n z ≡ false) turn h);
  }
    where
      turn : m * 2 + 1 ≡ suc (m * 2)
      turn = omega arith

digit : (i n : ℕ) (b : Bool) → low_enough (suc i) n (root_digits i n * 2 + 1) ≡ b → Encloses i n (root_digits i n) (suc (root_digits i n)) →
    Encloses (suc i) n (root_digits (suc i) n) (suc (root_digits (suc i) n))
unfolding root_digits
digit i n true e k = rw e (stays i n (root_digits i n) k e)
digit i n false e k = rw e (goes i n (root_digits i n) k e)

pub digits_enclosed : (i n : ℕ) → Encloses i n (root_digits i n) (suc (root_digits i n))
unfolding root_digits
digits_enclosed zero n = record { apart = zero-lt-suc 0; within = le_refl 1; from = inl refl; to = inl refl }
digits_enclosed (suc i) n = digit i n (low_enough (suc i) n (root_digits i n * 2 + 1)) refl (digits_enclosed i n)

pub digits_below : (i n : ℕ) → root_digits i n < 2 ^ i
digits_below i n = (digits_enclosed i n).within

-- ---- what is at most a number that is low enough is low enough
low_below : (n a b : ℕ) → a ≤ b → b ≤ 2 ^ 52 → low_enough 52 n b ≡ true → low_enough 52 n a ≡ false → ⊥
low_below n a b h l e g =
    let u = part_unit a (omega arith) in
    let v = part_unit b l in
    clash (low_enough 52 n a)
    (le_chain (power_of (fraction 52 a) n) (power_of (fraction 52 b) n) hundredth
    (power_keeps (fraction 52 a) (fraction 52 b) u v (part_keeps a b h) n) (holds (low_enough 52 n b) e))
    g

-- so bounds next to each other are the only ones
ordered : (n a b : ℕ) → Encloses 52 n a (suc a) → Encloses 52 n b (suc b) → a < b → ⊥
ordered n a b p q l = go p.to q.from
  where
    go : (suc a ≡ 2 ^ 52) ⊎ (low_enough 52 n (suc a) ≡ false) → (b ≡ 0) ⊎ (low_enough 52 n b ≡ true) → ⊥
    go (inl e) d = omega (arith, q.within)
    go (inr g) (inl e) = omega arith
    go (inr g) (inr h) = low_below n (suc a) b l (le_of_lt q.within) h g

pub enclosed_digits : (n m : ℕ) → Encloses 52 n m (suc m) → m ≡ root_digits 52 n
enclosed_digits n m p =
    let q = digits_enclosed 52 n in
    le_antisymm (below (root_digits 52 n) m (ordered n (root_digits 52 n) m q p)) (below m (root_digits 52 n) (ordered n m (root_digits 52 n) p q))
  where
    below : (a b : ℕ) → (a < b → ⊥) → b ≤ a
    below a b h = omega arith
