-- The laws of the table's entries that its readers need: how large a cutoff can be, and that the entropies in range are those whose entry the table has.
-- An entry j is that of the double j / 64, which is exact, so the test `j / 64 <= h` says that the entry of h is at least j. Assumes nothing.
use mathlib.Core.Path.{◌≡◌, refl, sym, ap, ◌∙◌, subst}
use Prim.Native.Nat.{ℕ, ◌+◌, ◌-◌, ◌*◌, ◌/◌, ◌^◌, ◌≤◌, ◌<◌, min}
use native.Mathlib.Nat.{le_trans, le_of_eq, le_antisymm, lt_of_not-le, not-le_of_lt, zero-lt-suc, mul-one, mul_comm, mul-le-mul_right}
use native.Mathlib.Nat.{le-div_iff_mul-le, div-lt_iff_lt-mul, lt_of_le_of_lt, lt_of_lt_of_le, lt_of_mul-lt-mul_right, min-eq_left, mul-div-mul_right, mul-lt-mul_of_pos_right}
use native.Mathlib.Omega.{arith}
use mathlib.Core.Logic.{◌⊎◌, inl, inr}
use mathlib.Core.Bool.{Bool, true, false, cond, true≢false}
use lib.IntN.{pos}
use lib.Dec.{T, leb, lit≤, ltb, le→leb, lt→ltb}
use borrow.Author.Tests.{leb-false, leb-true, ltb-false, ltb-true}
use lib.Pow.{pow_pos}
use lib.Ieee.{Float, nan, inf, fin, binary64, mul, fits, le, lt, up, down, to_unsigned}
use Rattle.std.specs.Float.{◌<ᶠ◌, minus_one, two_to}
use lib.Ieee.Bits.{is_true}
use lib.Ieee.Fits.{and_l, and_r, down_pos, mul-fits}
use lib.Ieee.Exact.{HasValue}
use lib.Ieee.Order.{le_of_values}
use lib.Ieee.Positive.{num, den, den_pos, between, own_value}
use Rattle.std.specs.Prelude.{Result, Ok, Err}
use Rattle.answer.specs.Numbers.{too_wide}
use Rattle.answer.specs.Results.{number_in, number_of, place_of}
use Rattle.answer.specs.declared.Refusal.{Refusal}
use Rattle.answer.proofs.Results.{held, held_kept, placeless}
use Rattle.cutoff.specs.declared.Cutoff.{Cutoff}
use Rattle.rounding.specs.Doubles.{eight, whole}
use Rattle.rounding.proofs.Exact.{held_whole, mul_held, scale_up}
use Rattle.rounding.proofs.FromZero.{nonneg_of_value, le_self, fractions_of_le}
use Rattle.rounding.proofs.Ranges.{whole_value}
use Rattle.rounding.proofs.Compare.{holds, clash}
use Rattle.cutoff.specs.Cutoff.{entries, spread, rounded_up, cutoff_at, Entry, sixty_fourth, in_range, entry_of, told}
use Rattle.cutoff.proofs.RoundedUp.{rounded_up_enough, rounded_up_least, rounded_up_above, rounded_up_pos, rounded_up_twice, rounded_up_thrice}

-- ---- the cutoffs
pub cutoff_above : (j : ℕ) → 1 ≤ j → j ≤ entries → 3 < cutoff_at j
unfolding cutoff_at entries spread
cutoff_above j h g = more (rounded_up spread j) (rounded_up_above spread j 2 h (omega arith))
  where
    more : (r : ℕ) → 2 < r → 3 < 1 + r
    more r h = omega arith

pub cutoff_small : (j : ℕ) → 1 ≤ j → cutoff_at j ≤ 1281
unfolding cutoff_at spread
cutoff_small j h = more (rounded_up spread j) (rounded_up_least spread j spread h (omega arith))
  where
    more : (r : ℕ) → r ≤ 1280 → 1 + r ≤ 1281
    more r h = omega arith

-- the first entry whose cutoff is no larger than n
abbrev pub first_entry : ℕ → ℕ
first_entry n = rounded_up spread (n - 1)

spread_pos : 0 < spread
unfolding spread
spread_pos = zero-lt-suc 1279

less_one : (n r : ℕ) → n ≡ 1 + r → n - 1 ≡ r
less_one n r e = omega arith

module _ (n : ℕ) (e : Entry n) where
  before : n - 1 ≡ rounded_up spread e.j
  unfolding cutoff_at
  before = less_one n (rounded_up spread e.j) e.is

  pub first_entry_to : first_entry n ≤ entries
  first_entry_to = le_trans (subst (λ (z : ℕ). rounded_up spread z ≤ e.j) (sym before) (rounded_up_twice spread e.j spread_pos e.from)) e.to

  pub first_entry_is : cutoff_at (first_entry n) ≡ n
  unfolding cutoff_at
  first_entry_is =
      ap (λ (z : ℕ). 1 + rounded_up spread (rounded_up spread z)) before
      ∙ ap (λ (z : ℕ). 1 + z) (rounded_up_thrice spread e.j spread_pos e.from) ∙ sym e.is

pub first_entry_from : (n : ℕ) → 2 ≤ n → 1 ≤ first_entry n
first_entry_from n h = rounded_up_pos spread (n - 1) spread_pos (less n h)
  where
    less : (n : ℕ) → 2 ≤ n → 0 < n - 1
    less n h = omega arith

-- its cutoff is n where one less would be too small
module _ (n : ℕ) (h : 2 ≤ n) where
  below : 0 < n - 1
  below = omega (arith, h)

  pub first_entry_has : first_entry n * (n - 2) < spread → cutoff_at (first_entry n) ≡ n
  unfolding cutoff_at
  first_entry_has l =
      let f = first_entry n in
      let F = first_entry_from n h in
      let from : n - 2 < rounded_up spread f = rounded_up_above spread f (n - 2) F (subst (λ (z : ℕ). z < spread) (mul_comm f (n - 2)) l) in
      let to : rounded_up spread f ≤ n - 1 = rounded_up_least spread f (n - 1) F (le_trans (rounded_up_enough spread (n - 1) below) (le_of_eq (mul_comm f (n - 1)))) in
      same (rounded_up spread f) from to
    where
      same : (r : ℕ) → n - 2 < r → r ≤ n - 1 → 1 + r ≡ n
      same r g l = omega (arith, h)

  pub first_entry_under : cutoff_at (first_entry n) ≡ n → first_entry n * (n - 2) < spread
  unfolding cutoff_at
  first_entry_under e =
      let f = first_entry n in
      lt_of_not-le (λ (g : spread ≤ f * (n - 2)). short (rounded_up spread f) e
      (rounded_up_least spread f (n - 2) (first_entry_from n h) (le_trans g (le_of_eq (mul_comm f (n - 2))))))
    where
      short : (r : ℕ) → 1 + r ≡ n → r ≤ n - 2 → ⊥
      short r e l = omega (arith, h)

-- a number is a cutoff or it is none
pub entry_or_not : (n : ℕ) → Entry n ⊎ (Entry n → ⊥)
entry_or_not n = by (leb 2 n) refl (leb (first_entry n) entries) refl (ltb (first_entry n * (n - 2)) spread) refl
  where
    by : (a : Bool) → leb 2 n ≡ a → (b : Bool) → leb (first_entry n) entries ≡ b → (c : Bool) → ltb (first_entry n * (n - 2)) spread ≡ c → Entry n ⊎ (Entry n → ⊥)
    by false u b v c w = inr (λ e. omega (arith, leb-false 2 n u, cutoff_above e.j e.from e.to, e.is))
    by true u false v c w = inr (λ e. not-le_of_lt (leb-false (first_entry n) entries v) (first_entry_to n e))
    by true u true v false w =
        inr (λ e. not-le_of_lt (first_entry_under n (leb-true 2 n u) (first_entry_is n e)) (ltb-false (first_entry n * (n - 2)) spread w))
    by true u true v true w =
        let h = leb-true 2 n u in
        inl (record {
          j = first_entry n;
          from = first_entry_from n h;
          to = leb-true (first_entry n) entries v;
          is = sym (first_entry_has n h (ltb-true (first_entry n * (n - 2)) spread w));
        })

-- ---- the entropies in range
pub in_range_lem : (h : Float) → le sixty_fourth h ≡ true → le h eight ≡ true → in_range h ≡ true
unfolding in_range
in_range_lem h e g = rw (e, g)

from_sixty_fourth : (h : Float) → in_range h ≡ true → T (le sixty_fourth h)
unfolding in_range
from_sixty_fourth h e = and_l (le sixty_fourth h) (le h eight) (holds (in_range h) e)

to_eight : (h : Float) → in_range h ≡ true → T (le h eight)
unfolding in_range
to_eight h e = and_r (le sixty_fourth h) (le h eight) (holds (in_range h) e)

-- j / 64
abbrev pub share : ℕ → Float
share j = mul binary64 (whole j) sixty_fourth

share_value : (j : ℕ) → j ≤ entries → HasValue (share j) false j 64
unfolding entries
share_value j h =
    subst (λ (z : ℕ). HasValue (share j) false z 64) (mul-one j)
    (mul_held binary64 (whole j) sixty_fourth j 1 1 64 (zero-lt-suc 0) (pow_pos 6) (whole_value binary64 j (le_trans h (lit≤ tt))) (refl, refl)
    (held_whole binary64 (j * 1) 6 (few j h (lit≤ tt)) (lit≤ tt)) (few j h (lit≤ tt)))
  where
    few : (j : ℕ) {n : ℕ} → j ≤ 512 → 513 ≤ n → j * 1 < n
    few j h g = omega arith

-- x is j / 64
module _ (h : Float) (e : in_range h ≡ true) (x : Float) (j : ℕ) (v : HasValue x false j 64) where
  value : HasValue h false (num h) (den h)
  value = own_value h (between sixty_fourth h eight tt tt (from_sixty_fourth h e) (to_eight h e))

  reached : T (le x h) → j ≤ entry_of h
  unfolding entry_of
  reached l = (le-div_iff_mul-le (den_pos h)).1 (le_trans (fractions_of_le x h j 64 (num h) (den h) v value l) (le_of_eq (mul_comm (num h) 64)))

  missed : le x h ≡ false → entry_of h < j
  unfolding entry_of
  missed t =
      (div-lt_iff_lt-mul (den_pos h)).1
      (lt_of_not-le (λ (g : j * den h ≤ 64 * num h). clash (le x h)
      (le_of_values x h j 64 (num h) (den h) (zero-lt-suc 63) (den_pos h) v value (le_trans g (le_of_eq (mul_comm 64 (num h))))) t))

  within : T (le h x) → entry_of h ≤ j
  unfolding entry_of
  within l =
      less (entry_of h) ((div-lt_iff_lt-mul (den_pos h)).1 (more (num h) (den h) (den_pos h) (fractions_of_le h x (num h) (den h) j 64 value v l)))
    where
      less : (n : ℕ) → n < j + 1 → n ≤ j
      less n h = omega arith

      more : (n d : ℕ) → 0 < d → n * 64 ≤ j * d → 64 * n < (j + 1) * d
      more n d D h = omega arith

-- 8 is the last entry's double
eight_value : HasValue eight false entries 64
unfolding entries
eight_value = (refl, refl)

pub entry_range : (h : Float) → in_range h ≡ true → (1 ≤ entry_of h) × (entry_of h ≤ entries)
entry_range h e = (reached h e sixty_fourth 1 (refl, refl) (from_sixty_fourth h e), within h e eight entries eight_value (to_eight h e))

module _ (h : Float) (e : in_range h ≡ true) (j : ℕ) (l : j ≤ entries) where
  pub share_reached : le (share j) h ≡ true → j ≤ entry_of h
  share_reached t = reached h e (share j) j (share_value j l) (holds (le (share j) h) t)

  pub share_missed : le (share j) h ≡ false → entry_of h < j
  share_missed t = missed h e (share j) j (share_value j l) t

-- ---- how many whole 1/64 a double in range has: 64 times it, which is exact, without its fraction
abbrev pub sixty_four : Float
sixty_four = fin false 1 (pos 6)

same_quotient : (n d a c : ℕ) → 0 < d → 0 < c → n * c ≡ a * d → n / d ≡ a / c
same_quotient n d a c D C e =
    sym (mul-div-mul_right n d C) ∙ ap (λ (z : ℕ). z / (d * c)) e ∙ ap (λ (z : ℕ). a * d / z) (mul_comm d c) ∙ mul-div-mul_right a c D

-- by any fraction that the value equals
without_fraction : (x : Float) (a c : ℕ) → 0 < c → HasValue x false a c → a / c ≤ 2 ^ 64 - 1 → to_unsigned 64 x ≡ a / c
unfolding to_unsigned
without_fraction nan a c C v h = absurd v
without_fraction (inf s) a c C v h = absurd v
without_fraction (fin s m e) a c C v h =
    let q = same_quotient (m * up e) (down e) a c (down_pos e) C v.1 in
    ap (λ (b : Bool). cond b 0 (min (m * up e / down e) (2 ^ 64 - 1))) v.0 ∙ ap (λ (n : ℕ). min n (2 ^ 64 - 1)) q ∙ min-eq_left h

over_minus_one : (x : Float) (a c : ℕ) → HasValue x false a c → minus_one <ᶠ x
unfolding lt
over_minus_one nan a c v = absurd v
over_minus_one (inf s) a c v = absurd v
over_minus_one (fin true m e) a c v = absurd (true≢false v.0)
over_minus_one (fin false m e) a c v = le→leb 1 (1 * down e + m * up e * 1) (omega (arith, down_pos e))

crossed : (n d a c p : ℕ) → 0 < d → n * c ≡ a * d → a < p * c → n * 1 < p * d
crossed n d a c p D e h =
    lt_of_mul-lt-mul_right c (lt_of_le_of_lt (le_of_eq (once n c ∙ e)) (lt_of_lt_of_le (mul-lt-mul_of_pos_right h D) (le_of_eq (turn p c d))))
  where
    once : (n c : ℕ) → n * 1 * c ≡ n * c
    once n c = omega arith

    turn : (p c d : ℕ) → p * c * d ≡ p * d * c
    turn p c d = omega arith

under_two_to : (x : Float) (a c : ℕ) → HasValue x false a c → a < 2 ^ 64 * c → x <ᶠ two_to 64
unfolding lt
under_two_to nan a c v h = absurd v
under_two_to (inf s) a c v h = absurd v
under_two_to (fin true m e) a c v h = absurd (true≢false v.0)
under_two_to (fin false m e) a c v h = lt→ltb (m * up e * 1) (2 ^ 64 * down e) (crossed (m * up e) (down e) a c (2 ^ 64) (down_pos e) v.1 h)

module _ (h : Float) (t : T (fits binary64 h)) (e : in_range h ≡ true) where
  own : HasValue h false (num h) (den h)
  own = own_value h (between sixty_fourth h eight tt tt (from_sixty_fourth h e) (to_eight h e))

  few : num h * 1 ≤ 8 * den h
  few = fractions_of_le h eight (num h) (den h) 8 1 own (refl, refl) (to_eight h e)

  under : (p : ℕ) → 1024 ≤ p → num h * 2 ^ 6 < p * den h
  under p P = lt_of_lt_of_le (more (num h) (den h) (den_pos h) few) (mul-le-mul_right (den h) P)
    where
      more : (n d : ℕ) → 0 < d → n * 1 ≤ 8 * d → n * 64 < 1024 * d
      more n d D l = omega arith

  product : HasValue (mul binary64 h sixty_four) false (num h * 2 ^ 6) (den h)
  product = scale_up binary64 h sixty_four (num h) (den h) 6 (den_pos h) t own (refl, refl) (under (2 ^ 1024) (lit≤ tt))

  pub product_over : minus_one <ᶠ mul binary64 h sixty_four
  product_over = over_minus_one (mul binary64 h sixty_four) (num h * 2 ^ 6) (den h) product

  pub product_under : mul binary64 h sixty_four <ᶠ two_to 64
  product_under = under_two_to (mul binary64 h sixty_four) (num h * 2 ^ 6) (den h) product (under (2 ^ 64) (lit≤ tt))

  pub whole_64ths : to_unsigned 64 (mul binary64 h sixty_four) ≡ entry_of h
  unfolding entry_of entries
  whole_64ths =
      let turn : num h * 2 ^ 6 / den h ≡ 64 * num h / den h = ap (λ (z : ℕ). z / den h) (mul_comm (num h) 64) in
      without_fraction (mul binary64 h sixty_four) (num h * 2 ^ 6) (den h) (den_pos h) product
      (le_trans (le_of_eq turn) (le_trans (entry_range h e).1 (lit≤ tt))) ∙ turn

-- ---- every entry is that of a double in range
pub record EntropyOf (j : ℕ) : Type 0 where
  pub entropy : Float
  pub double : T (fits binary64 entropy)
  pub taken : in_range entropy ≡ true
  pub is : entry_of entropy ≡ j

pub entry_of_share : (j : ℕ) → 1 ≤ j → j ≤ entries → EntropyOf j
entry_of_share j h g =
    let x = share j in
    let v : HasValue x false j 64 = share_value j g in
    let from : T (le sixty_fourth x) = le_of_values sixty_fourth x 1 64 j 64 (zero-lt-suc 63) (zero-lt-suc 63) (refl, refl) v (mul-le-mul_right 64 h) in
    let to : T (le x eight) = le_of_values x eight j 64 entries 64 (zero-lt-suc 63) (zero-lt-suc 63) v eight_value (mul-le-mul_right 64 g) in
    let t : in_range x ≡ true = in_range_lem x (is_true (le sixty_fourth x) from) (is_true (le x eight) to) in
    let l : T (le x x) = le_self x (nonneg_of_value x j 64 v) in
    record {
      entropy = x;
      double = mul-fits binary64 (whole j) sixty_fourth;
      taken = t;
      is = le_antisymm (within x t x j v l) (reached x t x j v l);
    }

-- ---- C is told which result it was: a refusal that names no place by its number, and a cutoff by itself
abbrev pub cutoff_in : Cutoff → Result ℕ Refusal
cutoff_in c = held c.cutoff c.number 0

pub refusal_told : (e : Refusal) → place_of e ≡ 0 → cutoff_in (told (Err e)) ≡ Err e
refusal_told e h = let none : ℕ = 0 in subst (λ (p : ℕ). held none (number_of e) p ≡ Err e) h (held_kept none e)

pub cutoff_told : (c : ℕ) → cutoff_in (told (Ok c)) ≡ Ok c
cutoff_told c = refl

pub cutoff_tells : (r : Result ℕ Refusal) → (number_in r ≡ too_wide → ⊥) → cutoff_in (told r) ≡ r
cutoff_tells (Ok c) h = cutoff_told c
cutoff_tells (Err e) h = refusal_told e (placeless e h)
