-- The digits of masks: each operation works on every digit apart. Assumes nothing.
use mathlib.Core.Path.{◌≡◌, sym, ap, ◌∙◌}
use Prim.Native.Nat.{ℕ, ◌+◌, ◌-◌, ◌*◌, ◌/◌, ◌%◌, ◌^◌, ◌≤◌, ◌<◌, min, max}
use native.Mathlib.Omega.{arith}
use lib.Dec.{eqb}
use mathlib.Core.Bool.{cond}
use borrow.Author.Tests.{ne_eqb}
use lib.Pow.{high, low, field, mod-mod-pow}
use lib.Bits.{bit_and, bit_or, bit_xor, and_mask, and_shr, or_shr, xor_shr, and_mod, or_mod, xor_mod}
use Rattle.verdicts.specs.Inner.Told.{digit}
use Rattle.race.proofs.Cases.{same?}

pub digit_le : (a j : ℕ) → digit a j ≤ 1
digit_le a j = omega arith

-- the digit that the code reads
pub digit_is : (a j : ℕ) → bit_and (a / 2 ^ j) 1 ≡ digit a j
digit_is a j = and_mask (a / 2 ^ j) 1

pub read_le : (a j : ℕ) → bit_and (a / 2 ^ j) 1 ≤ 1
read_le a j = omega (arith, digit_is a j)

pub digit_one : (b : ℕ) → b ≤ 1 → cond (eqb b 1) 1 0 ≡ b
digit_one b h = same? b 1 (λ e. rw e) (λ n. rw (ne_eqb b 1 n) (omega arith))

-- a digit is 0 or 1
pub digit_cases : {A : Type 0} (n : ℕ) → n ≤ 1 → (n ≡ 0 → A) → (n ≡ 1 → A) → A
digit_cases n l f g = same? n 0 f (λ e. g (omega arith))

-- a digit times a number
pub times_le : (a h : ℕ) → h ≤ 1 → a * h ≤ a
times_le a h l = digit_cases h l (λ e. rw e (omega arith)) (λ e. rw e (omega arith))

small_and : (m n : ℕ) → m ≤ 1 → n ≤ 1 → bit_and m n ≡ min m n
small_and m n l k =
    digit_cases m l
    (λ e. rw e (digit_cases n k (λ f. rw f) (λ f. rw f)))
    (λ e. rw e (digit_cases n k (λ f. rw f) (λ f. rw f)))

small_or : (m n : ℕ) → m ≤ 1 → n ≤ 1 → bit_or m n ≡ max m n
small_or m n l k =
    digit_cases m l
    (λ e. rw e (digit_cases n k (λ f. rw f) (λ f. rw f)))
    (λ e. rw e (digit_cases n k (λ f. rw f) (λ f. rw f)))

-- the sum without its carry
abbrev pub apart : ℕ → ℕ → ℕ
apart m n = max m n - min m n

small_xor : (m n : ℕ) → m ≤ 1 → n ≤ 1 → bit_xor m n ≡ apart m n
small_xor m n l k =
    digit_cases m l
    (λ e. rw e (digit_cases n k (λ f. rw f) (λ f. rw f)))
    (λ e. rw e (digit_cases n k (λ f. rw f) (λ f. rw f)))

module _ (a b j : ℕ) where
  pub digit_and : digit (bit_and a b) j ≡ min (digit a j) (digit b j)
  digit_and = ap (λ (n : ℕ). n % 2) (and_shr a b j) ∙ and_mod (a / 2 ^ j) (b / 2 ^ j) 1 ∙ small_and (digit a j) (digit b j) (digit_le a j) (digit_le b j)

  pub digit_or : digit (bit_or a b) j ≡ max (digit a j) (digit b j)
  digit_or = ap (λ (n : ℕ). n % 2) (or_shr a b j) ∙ or_mod (a / 2 ^ j) (b / 2 ^ j) 1 ∙ small_or (digit a j) (digit b j) (digit_le a j) (digit_le b j)

  pub digit_xor : digit (bit_xor a b) j ≡ apart (digit a j) (digit b j)
  digit_xor = ap (λ (n : ℕ). n % 2) (xor_shr a b j) ∙ xor_mod (a / 2 ^ j) (b / 2 ^ j) 1 ∙ small_xor (digit a j) (digit b j) (digit_le a j) (digit_le b j)

-- a digit put on top of a mask of l digits
module _ (g b l : ℕ) (small : g < 2 ^ l) (one : b ≤ 1) where
  pub digit_on : digit (b * 2 ^ l + g) l ≡ b
  digit_on = rw (high b l small) (omega arith)

  pub digit_under : (i : ℕ) → i < l → digit (b * 2 ^ l + g) i ≡ digit g i
  digit_under i h =
      let k : ℕ = l - i - 1 in
      let e : k + 1 + i ≡ l = omega arith in
      let f : (b * 2 ^ l + g) % 2 ^ (k + 1 + i) / 2 ^ i ≡ (b * 2 ^ l + g) / 2 ^ i % 2 ^ (k + 1) = field (b * 2 ^ l + g) (k + 1) i in
      let m : (b * 2 ^ l + g) % 2 ^ l ≡ g = low b l small in
      let n : g / 2 ^ i ≡ (b * 2 ^ l + g) / 2 ^ i % 2 ^ (k + 1) =
      ap (λ (x : ℕ). x / 2 ^ i) (sym m ∙ ap (λ (x : ℕ). (b * 2 ^ l + g) % 2 ^ x) (sym e)) ∙ f in
      sym (ap (λ (x : ℕ). x % 2) n ∙ mod-mod-pow ((b * 2 ^ l + g) / 2 ^ i) k 1)
