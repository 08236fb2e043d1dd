-- `cutoff::is_cutoff` meets its contract: a cutoff of any entry is that of the first entry whose cutoff is no larger, since rounding up three times is rounding
-- up once. That entry is no later, so it is in the table where the other is. Assumes nothing.
use borrow.Author.Tests.{lt-leb, lt-ltb, ltb-true}
use mathlib.Core.Path.{◌≡◌, sym, ap, ◌∙◌, subst}
use mathlib.Core.Bool.{Bool, true, false, false≢true}
use Prim.Native.Nat.{ℕ, ◌+◌, ◌-◌, ◌*◌, ◌/◌, ◌%◌, ◌≤◌, ◌<◌, ◌^◌, min}
use native.Mathlib.Nat.{lt_of_le_of_lt, mul-le-mul, not-le_of_lt}
use native.Mathlib.Omega.{arith}
use lib.Dec.{lit<, leb, ltb}
use Rattle.cutoff.specs.Cutoff.{Entry, entries, rounded_up, spread}
use Rattle.cutoff.proofs.Entries.{cutoff_above, first_entry_from, first_entry_has, first_entry_is, first_entry_to, first_entry_under, first_entry}
use Rattle.cutoff.proofs.RoundedUp.{div_ceil-rounded_up}
use Rattle.cutoff.proofs.is_cutoff.Goals as goal

abbrev Says : ℕ → Bool → Type 0
Says n b = (b ≡ true → Entry n) × (Entry n → b ≡ true)

refused : (n : ℕ) → (Entry n → ⊥) → Says n false
refused n h = (λ t. absurd (false≢true t), λ e. absurd (h e))

-- the answer at the first entry
past : (n f : ℕ) → f ≡ first_entry n → entries < f → Says n (leb f entries)
past n f e h =
    subst (Says n) (sym (lt-leb f entries h)) (refused n (λ a. not-le_of_lt (subst (λ (z : ℕ). entries < z) e h) (first_entry_to n a)))

tested : (n f m : ℕ) → 2 ≤ n → f ≡ first_entry n → m ≡ n - 2 → f ≤ entries → Says n (ltb (f * m) spread)
tested n f m h e d to =
    subst (λ (z : ℕ). Says n (ltb (z * m) spread)) (sym e) (subst (λ (z : ℕ). Says n (ltb (first_entry n * z) spread)) (sym d) (
      λ t. record {
        j = first_entry n;
        from = first_entry_from n h;
        to = subst (λ (z : ℕ). z ≤ entries) e to;
        is = sym (first_entry_has n h (ltb-true (first_entry n * (n - 2)) spread t));
      },
      λ a. lt-ltb (first_entry n * (n - 2)) spread (first_entry_under n h (first_entry_is n a)),
    ))

-- std's quotient is that entry
entry_is : (n d f : ℕ) → 2 ≤ n → d ≡ n → f ≡ 1280 / (d - 1) + min 1 (1280 % (d - 1)) → f ≡ first_entry n
unfolding spread
entry_is n d f h g e =
    e ∙ div_ceil-rounded_up 1280 (d - 1) (omega arith) ∙ ap (λ (z : ℕ). rounded_up 1280 (z - 1)) g

-- an entry times a 16-bit number
small : (f m : ℕ) → f ≤ 512 → m ≤ 65535 → f * m < 2 ^ 64
small f m h g = lt_of_le_of_lt (mul-le-mul h g) (lit< tt)

pub returns-then-n-lt2 : goal.returns-then-n-lt2
returns-then-n-lt2 c = refused c.args.n (λ e. omega (arith, cutoff_above e.j e.from e.to, e.is))

pub overflow_mul-result : goal.overflow_mul-result
overflow_mul-result c = record { fits = small c.div_ceil-entry.result (c.from-less_one.result - 1 - 1) (omega arith) (omega arith) }

pub returns-then-in_table : goal.returns-then-in_table
unfolding entries spread
returns-then-in_table c =
    let n = c.args.n in
    let d = c.from-less_one in
    tested n c.div_ceil-entry.result (d.result - 1 - 1) (omega arith) (entry_is n d.result c.div_ceil-entry.result (omega arith) d.ensures c.div_ceil-entry.ensures)
    (omega arith) (omega arith)

pub returns-else-in_table : goal.returns-else-in_table
unfolding entries spread
returns-else-in_table c =
    let n = c.args.n in
    let d = c.from-less_one in
    past n c.div_ceil-entry.result (entry_is n d.result c.div_ceil-entry.result (omega arith) d.ensures c.div_ceil-entry.ensures) (omega arith)
