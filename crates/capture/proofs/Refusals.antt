-- What is known of a capture that a bitstring track does not refuse. Assumes nothing.
use mathlib.Core.Path.{◌≡◌, ◌∙◌}
use mathlib.Core.Bool.{Bool, true, false, cond}
use mathlib.Core.List.{List}
use Prim.Native.Nat.{ℕ, ◌*◌, ◌≤◌, ◌<◌}
use native.Mathlib.Omega.{arith}
use borrow.Author.Tests.{ltb-false, lt-ltb, le-ltb}
use lib.Dec.{ltb}
use lib.ListN.{length}
use Rattle.answer.proofs.Order.{passed}
use Rattle.answer.specs.Numbers.{done, too_wide, too_long, too_short, not_run, bad_width}
use Rattle.capture.specs.Bits.{bit_count, source_refusal, wide}
use Rattle.capture.proofs.Reading.{taken_first}
use Rattle.capture.specs.Limit.{no_width, over_limit, symbol_limit}
use Rattle.capture.specs.Refusals.{bits_refusal, symbols_refusal}
use Rattle.capture.proofs.Limits.{Width, width_taken}

pub record Taken (s : List ℕ) (w least : ℕ) (short : Bool) : Type 0 where
  pub fits : length s ≤ symbol_limit
  pub width : Width w
  pub many : least ≤ bit_count s w
  pub room : short ≡ false

pub taken : (s : List ℕ) (w least : ℕ) (short : Bool) → bits_refusal s w least short ≡ 0 → Taken s w least short
taken s w least short h =
    let one = passed (over_limit s) too_long _ tt h in
    let seven = passed (no_width w) bad_width _ tt one.1 in
    let six = passed (ltb (bit_count s w) least) not_run _ tt seven.1 in
    let two = passed short too_short _ tt six.1 in
    record {
      fits = ltb-false symbol_limit (length s) one.0;
      width = width_taken w seven.0;
      many = ltb-false (bit_count s w) least six.0;
      room = two.0;
    }

-- a track over the symbols as they are is not refused by number 3
order_not_wide : (a b c : Bool) → cond a too_long (cond b not_run (cond c too_short done)) ≡ too_wide → ⊥
order_not_wide true b c h = omega (arith, h)
order_not_wide false true c h = omega (arith, h)
order_not_wide false false true h = omega (arith, h)
order_not_wide false false false h = omega (arith, h)

pub symbols_not_wide : (s : List ℕ) (least : ℕ) (short : Bool) → symbols_refusal s least short ≡ too_wide → ⊥
symbols_not_wide s least short h = order_not_wide (over_limit s) (ltb (length s) least) short h

-- the order past a source's own refusals, test by test
module _ (s : List ℕ) (w least : ℕ) (short : Bool) (source : source_refusal s w ≡ 0) where
  past_source : bits_refusal s w least short ≡ cond (ltb (bit_count s w) least) not_run (cond short too_short (cond (wide s w) too_wide done))
  past_source = taken_first (over_limit s) (no_width w) _ (λ n. n) source

  pub told_few : length s * w < least → bits_refusal s w least short ≡ not_run
  told_few h = past_source ∙ rw (lt-ltb _ _ h)

  module _ (many : least ≤ length s * w) where
    pub told_short : short ≡ true → bits_refusal s w least short ≡ too_short
    told_short h = past_source ∙ rw (le-ltb _ _ many, h)

    pub told_wide : short ≡ false → wide s w ≡ true → bits_refusal s w least short ≡ too_wide
    told_wide h v = past_source ∙ rw (le-ltb _ _ many, h, v)

    pub told_none : short ≡ false → wide s w ≡ false → bits_refusal s w least short ≡ done
    told_none h v = past_source ∙ rw (le-ltb _ _ many, h, v)
