-- The entry of a key is within the table and has the key, and no other key has it. Assumes nothing.
use Prim.Native.Nat.{ℕ, zero, suc, ◌≤◌, ◌<◌}
use mathlib.Core.Path.{◌≡◌, refl, sym, ap, ◌∙◌}
use mathlib.Core.Bool.{Bool, true, false, cond}
use mathlib.Core.List.{List}
use native.Mathlib.Omega.{arith}
use lib.Dec.{eqb}
use borrow.Author.Tests.{eqb-true}
use Rattle.table.specs.Inner.Table.{number, key, newest, entry_of}

module _ (m : List ℕ) (k : ℕ) where
  newest_within : (n : ℕ) → newest m k n ≤ n
  unfolding newest
  newest_within zero = omega arith
  newest_within (suc n) = go (eqb (key m (suc n)) k) (newest_within n)
    where
      go : (b : Bool) → newest m k n ≤ n → cond b (suc n) (newest m k n) ≤ suc n
      go true l = omega arith
      go false l = omega arith

  newest_key : (n e : ℕ) → newest m k n ≡ suc e → key m (suc e) ≡ k
  unfolding newest
  newest_key zero e q = absurd (omega arith)
  newest_key (suc n) e q = go (eqb (key m (suc n)) k) refl (newest_key n e) q
    where
      go : (b : Bool) → eqb (key m (suc n)) k ≡ b → (newest m k n ≡ suc e → key m (suc e) ≡ k) → cond b (suc n) (newest m k n) ≡ suc e →
          key m (suc e) ≡ k
      go true h ih r = sym (ap (key m) r) ∙ eqb-true (key m (suc n)) k h
      go false h ih r = ih r

  pub found_within : entry_of m k ≤ number m
  unfolding entry_of
  found_within = newest_within (number m)

  pub found_key : (e : ℕ) → entry_of m k ≡ suc e → key m (suc e) ≡ k
  unfolding entry_of
  found_key = newest_key (number m)

-- two keys are found at one entry only where they are one
pub found_once : (m : List ℕ) (k l e : ℕ) → entry_of m k ≡ suc e → entry_of m l ≡ suc e → k ≡ l
found_once m k l e h g = sym (found_key m k e h) ∙ found_key m l e g

-- where the first n keys are the same
pub newest_same : (m m' : List ℕ) (k n : ℕ) → ((e : ℕ) → e < n → key m' (suc e) ≡ key m (suc e)) → newest m' k n ≡ newest m k n
unfolding newest
newest_same m m' k zero f = refl
newest_same m m' k (suc n) f = rw (f n (omega arith), newest_same m m' k n (λ e l. f e (omega arith)))
