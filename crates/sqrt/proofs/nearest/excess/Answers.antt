-- `sqrt::nearest::excess` meets its contract: the difference is taken from the high half of q down, and is none where it would go below 0. Assumes nothing.
use mathlib.Core.Path.{◌≡◌, sym, subst}
use Prim.Native.Nat.{ℕ, ◌+◌, ◌-◌, ◌*◌, ◌/◌, ◌%◌, ◌^◌, ◌≤◌, ◌<◌}
use Rattle.std.specs.Option.{SomeIff}
use Rattle.std.specs.Prelude.{Option, Some, None, IfSome}
use Rattle.sqrt.proofs.Excess.{Over, over_is}
use Rattle.sqrt.proofs.nearest.excess.Goals as goal

last : (m q : ℕ) (o : Option ℕ) (t s : ℕ) → SomeIff o (s ≤ t) (t - s) → (s ≤ t → Over m q (t - s)) → IfSome o (λ over. Over m q over)
last m q None t s e f = tt
last m q (Some x) t s e f = subst (Over m q) (sym e.1) (f e.0)

module _ (q : ℕ) (l : q < 2 ^ 53) where
  abbrev a : ℕ
  a = q / 2 ^ 26

  abbrev b : ℕ
  b = q % 2 ^ 26

  by_parts : (m high low : ℕ) → (a * a ≤ m) × (high ≡ m - a * a) → (a * b * 2 ≤ high * 2 ^ 26 + a) × (low ≡ high * 2 ^ 26 + a - a * b * 2)
      → b * b ≤ low * 2 ^ 26 + b → Over m q (low * 2 ^ 26 + b - b * b)
  by_parts m high low h w k =
      let j = subst (λ (x : ℕ). (a * b * 2 ≤ x * 2 ^ 26 + a) × (low ≡ x * 2 ^ 26 + a - a * b * 2)) h.1 w in
      let i = subst (λ (x : ℕ). b * b ≤ x * 2 ^ 26 + b) j.1 k in
      subst (λ (x : ℕ). Over m q (x * 2 ^ 26 + b - b * b)) (sym j.1) (over_is q l m h.0 j.0 i)

pub returns : goal.returns
returns c =
    let q = c.args.q in
    last c.args.m q _ (c.in_ok-low.low * 2 ^ 26 + q % 2 ^ 26) (q % 2 ^ 26 * (q % 2 ^ 26)) c.checked_sub-3.ensures
    (by_parts q c.requires.0 c.args.m c.in_ok-high.high c.in_ok-low.low c.in_ok-high.ensures c.in_ok-low.ensures)
