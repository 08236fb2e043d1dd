-- The steps of the search: each test moves one bound, and bounds next to each other are the digits and their successor. Assumes nothing.
use Rattle.std.proofs.Common.{◌≡◌, ℕ, suc, ◌+◌, ◌-◌, ◌^◌, ◌<◌, ◌≤◌, true, false, refl, subst, inl, inr, le_refl, le_of_lt, arith}
use Rattle.zero_count.specs.ZeroCount.{low_enough, root_digits}
use Rattle.zero_count.specs.Inner.Bounds.{Encloses}
use Rattle.zero_count.proofs.Digits.{enclosed_digits}

-- ---- from a guess
module _ (n g : ℕ) (l : g < 2 ^ 52) where
  pub above : low_enough 52 n g ≡ true → Encloses 52 n g (2 ^ 52)
  above h = record { apart = l; within = le_refl (2 ^ 52); from = inr h; to = inl refl }

  pub right_above : low_enough 52 n g ≡ true → low_enough 52 n (g + 1) ≡ false → Encloses 52 n g (g + 1)
  right_above h k = record { apart = omega arith; within = omega arith; from = inr h; to = inr k }

  pub below : 0 < g → low_enough 52 n g ≡ false → Encloses 52 n 0 g
  below p h = record { apart = p; within = le_of_lt l; from = inl refl; to = inr h }

  pub right_below : 0 < g → low_enough 52 n (g - 1) ≡ true → low_enough 52 n g ≡ false → Encloses 52 n (g - 1) g
  right_below p h k = record { apart = omega arith; within = le_of_lt l; from = inr h; to = inr k }

-- ---- a number between the bounds
module _ (n a m b : ℕ) (e : Encloses 52 n a b) (h : a < m) (k : m < b) where
  pub raise : low_enough 52 n m ≡ true → Encloses 52 n m b
  raise t = record { apart = k; within = e.within; from = inr t; to = e.to }

  pub lower : low_enough 52 n m ≡ false → Encloses 52 n a m
  lower t = record { apart = h; within = omega (arith, e.within); from = e.from; to = inr t }

-- ---- nothing between the bounds
pub met : (n a b : ℕ) → Encloses 52 n a b → b ≤ a + 1 → a ≡ root_digits 52 n
met n a b e h = enclosed_digits n a (subst (Encloses 52 n a) next e)
  where
    next : b ≡ suc a
    next = omega (arith, e.apart)
