-- The contexts of bits, as the numbers of the bit rules and as the symbols that the general rules compare. Two places have the same number where
-- they have the same symbols, since each symbol more is a binary digit more; so a longer context tells the shorter ones at its place and before it.
-- Assumes nothing.
use Prim.Native.Nat.{ℕ, zero, suc, ◌+◌, ◌*◌, ◌-◌, ◌/◌, ◌%◌, ◌^◌, ◌≤◌, ◌<◌}
use mathlib.Core.Path.{◌≡◌, refl, sym, ap, ◌∙◌}
use mathlib.Core.Bool.{Bool, ◌&&◌, and_assoc, and-true}
use mathlib.Core.List.{List}
use native.Mathlib.Omega.{arith}
use native.Mathlib.Nat.{mul_assoc}
use lib.ListN.{get_or}
use lib.Dec.{eqb}
use lib.Pow.{split, low, mod-mod-pow}
use borrow.Author.Tests.{eqb-true, eqb-false, eq-eqb, ne_eqb}
use Rattle.mmc_bits.specs.Counters.{before, context, pair}
use Rattle.mmc_bits.specs.Inner.Steps.{Bits}
use Rattle.race.proofs.Cases.{tested}
use Rattle.mmc_bits.proofs.Room.{context_lt}
use Rattle.mmc_store.specs.Counts.{same}

-- what holds of 0 and of 1 holds of each bit
pub of_two : (P : ℕ → Type 0) → P 0 → P 1 → (x : ℕ) → x < 2 → P x
of_two P a b zero h = a
of_two P a b (suc zero) h = b
of_two P a b (suc (suc x)) h = absurd (omega arith)

-- the pair of the context of k and the bit x
abbrev pub key : List ℕ → ℕ → ℕ → ℕ → ℕ
key s L k x = context L s k * 2 + x

-- two numbers are equal where their last binary digits and what is before those are
digits : (c d x y : ℕ) → x < 2 → y < 2 → eqb (c * 2 + x) (d * 2 + y) ≡ (eqb c d && eqb x y)
digits c d x y l m = tested (eqb c d)
    (λ t. let e : c ≡ d = eqb-true _ _ t in
    tested (eqb x y)
    (λ u. let f : x ≡ y = eqb-true _ _ u in rw (t, u) (eq-eqb (c * 2 + x) (d * 2 + y) (omega arith)))
    (λ u. let f : x ≡ y → ⊥ = eqb-false _ _ u in rw (t, u) (ne_eqb (c * 2 + x) (d * 2 + y) (λ q. f (omega arith)))))
    (λ t. let e : c ≡ d → ⊥ = eqb-false _ _ t in rw t (ne_eqb (c * 2 + x) (d * 2 + y) (λ q. e (omega arith))))

-- the same contexts, from the last symbol back
same_next : (s : List ℕ) (L a b : ℕ) → same s (suc L) (suc a) (suc b) ≡ (same s L a b && eqb (get_or s a 0) (get_or s b 0))
unfolding same
same_next s zero a b =
    let e : suc a - 1 ≡ a = omega arith in
    let f : suc b - 1 ≡ b = omega arith in
    rw (e, f) (and-true (eqb (get_or s a 0) (get_or s b 0)))
same_next s (suc L) a b =
    let e : suc a - suc (suc L) ≡ a - suc L = omega arith in
    let f : suc b - suc (suc L) ≡ b - suc L = omega arith in
    ap (λ (t : Bool). eqb (get_or s (suc a - suc (suc L)) 0) (get_or s (suc b - suc (suc L)) 0) && t) (same_next s L a b)
    ∙ rw (e, f) (sym (and_assoc (eqb (get_or s (a - suc L) 0) (get_or s (b - suc L) 0)) (same s L a b) (eqb (get_or s a 0) (get_or s b 0))))

module _ (s : List ℕ) where
  context_none : (a : ℕ) → context 0 s a ≡ 0
  unfolding context
  context_none a = omega arith

  -- places of the same longer context have the same shorter one
  pub context_down : (L a b : ℕ) → context (suc L) s a ≡ context (suc L) s b → context L s a ≡ context L s b
  unfolding context
  context_down L a b e =
      let f : 1 + L ≡ suc L = omega arith in
      let g : (n : ℕ) → n % 2 ^ suc L % 2 ^ L ≡ n % 2 ^ L = λ n. rw f at (mod-mod-pow n 1 L) in
      sym (g (before s a)) ∙ ap (λ (n : ℕ). n % 2 ^ L) e ∙ g (before s b)

  pub pair_is : (L a : ℕ) → pair L s a ≡ key s L a (get_or s a 0)
  unfolding pair
  pair_is L a = refl

  module _ (bits : Bits s) where
    -- a context is the pair at the place before
    pub context_next : (L a : ℕ) → context (suc L) s (suc a) ≡ pair L s a
    unfolding context before pair
    context_next L a =
        let q = before s a / 2 ^ L in
        let p : 2 ^ suc L ≡ 2 ^ L * 2 = omega arith in
        let m : q * 2 ^ suc L ≡ q * 2 ^ L * 2 = rw p (sym (mul_assoc q (2 ^ L) 2)) in
        let e : before s a * 2 + get_or s a 0 ≡ q * 2 ^ suc L + (before s a % 2 ^ L * 2 + get_or s a 0) = omega (arith, split (before s a) L) in
        rw e (low q (suc L) (omega (arith, context_lt L s a, bits a)))

    same_is : (L a b : ℕ) → L ≤ a → L ≤ b → same s L a b ≡ eqb (context L s a) (context L s b)
    unfolding same
    same_is zero a b l m = rw (context_none a, context_none b)
    same_is (suc L) zero b l m = absurd (omega arith)
    same_is (suc L) (suc a) zero l m = absurd (omega arith)
    same_is (suc L) (suc a) (suc b) l m =
        same_next s L a b
        ∙ rw (context_next L a, context_next L b, pair_is L a, pair_is L b, same_is L a b (omega arith) (omega arith))
        (sym (digits (context L s a) (context L s b) (get_or s a 0) (get_or s b 0) (bits a) (bits b)))

    -- the place a has the pair of the context of k and the bit x
    pub pair_same : (L a k x : ℕ) → L ≤ a → L ≤ k → x < 2 → (same s L a k && eqb (get_or s a 0) x) ≡ eqb (pair L s a) (key s L k x)
    pair_same L a k x l m h =
        rw (same_is L a k l m, pair_is L a) (sym (digits (context L s a) (context L s k) (get_or s a 0) x (bits a) h))
