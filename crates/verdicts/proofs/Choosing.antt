-- The choice without a branch: the factor is 1 if a leader was right and 0 if none was. Assumes nothing.
use mathlib.Core.Path.{◌≡◌, refl}
use Prim.Native.Nat.{ℕ, ◌+◌, ◌-◌, ◌*◌, ◌/◌, ◌^◌, ◌≤◌, ◌<◌}
use native.Mathlib.Omega.{arith}
use lib.Bits.{bit_xor, xor_zero_r}
use Rattle.verdicts.specs.Inner.Planes.{Chosen}
use Rattle.verdicts.specs.declared.planes.Choice.{Choice}
use Rattle.verdicts.specs.declared.planes.Claimed.{Claimed}
use Rattle.race.proofs.Cases.{same?}

-- 1 if f is not 0
abbrev pub some_one : ℕ → ℕ
some_one f = (f + 4294967295) / 2 ^ 32

pub some_zero : (f : ℕ) → f ≡ 0 → some_one f ≡ 0
some_zero f e = omega arith

pub some_one_lem : (f : ℕ) → f < 2 ^ 32 → (f ≡ 0 → ⊥) → some_one f ≡ 1
some_one_lem f l n = omega arith

pub some_le : (f : ℕ) → f < 2 ^ 32 → some_one f ≤ 1
some_le f l = omega arith

times_one : (n s : ℕ) → s ≡ 1 → n * s ≡ n
times_one n s e = rw e (omega arith)

times_zero : (n s : ℕ) → s ≡ 0 → n * s ≡ 0
times_zero n s e = rw e (omega arith)

module _ (f n : ℕ) (l : f < 2 ^ 32) where
  pub claim_first : (f ≡ 0 → ⊥) → f + n * (1 - some_one f) ≡ f
  claim_first z = let e : 1 - some_one f ≡ 0 = omega (arith, some_one_lem f l z) in omega (arith, times_zero n (1 - some_one f) e)

  pub claim_near : f ≡ 0 → f + n * (1 - some_one f) ≡ n
  claim_near z = let e : 1 - some_one f ≡ 1 = omega (arith, some_zero f z) in omega (arith, times_one n (1 - some_one f) e)

  pub claim_part : n * (1 - some_one f) ≤ f + n * (1 - some_one f)
  claim_part = omega arith

  pub claim_fits : n < 2 ^ 32 → f + n * (1 - some_one f) < 2 ^ 32
  claim_fits h = same? f 0 (λ z. omega (arith, claim_near z)) (λ z. omega (arith, claim_first z))

pub chosen : (k : Claimed) (rights all : ℕ) → k.first < 2 ^ 32
    → Chosen k rights all
    (record {
      claim = k.first + k.near * (1 - some_one k.first);
      through = bit_xor rights (all * some_one k.first);
      away = all * (1 - some_one k.first);
      gained = some_one k.first;
    })
chosen k rights all l =
    record {
      leading = λ z. let e : some_one k.first ≡ 1 = some_one_lem k.first l z in
          (claim_first k.first k.near l z, rw (e, times_one all 1 refl), rw (e, times_zero all 0 refl), e);
      others = λ z. let e : some_one k.first ≡ 0 = some_zero k.first z in
          (claim_near k.first k.near l z, rw (e, times_zero all 0 refl) (xor_zero_r rights), rw (e, times_one all 1 refl), e);
    }

-- the largest score gains at most 1
pub chosen_le : {k : Claimed} {rights all : ℕ} {v : Choice} → Chosen k rights all v → v.gained ≤ 1
chosen_le {k} E = same? k.first 0 (λ z. omega (arith, (E.others z).3)) (λ z. omega (arith, (E.leading z).3))
