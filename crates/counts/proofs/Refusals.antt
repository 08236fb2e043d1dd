-- What is known where nothing is refused. Assumes nothing.
use mathlib.Core.Path.{◌≡◌, refl}
use mathlib.Core.Bool.{Bool, true, false, ◌&&◌, ◌||◌}
use Prim.Native.Nat.{ℕ, ◌≤◌}
use native.Mathlib.Nat.{pos_of_ne-zero}
use borrow.Author.Tests.{ltb-false, eqb-false, lt-ltb}
use lib.Dec.{ltb, eqb}
use Rattle.counts.specs.Counts.{count_limit, impossible_counts, impossible_run}
use Rattle.counts.specs.Inner.Possible.{Possible}

neither : (a b : Bool) → (a || b) ≡ false → (a ≡ false) × (b ≡ false)
neither true b h = (h, cc h)
neither false b h = (refl, h)

pub run_can_be : (run n : ℕ) → impossible_run run n ≡ false → (run ≤ n) × (n ≤ count_limit)
unfolding impossible_run
run_can_be run n h =
    let k = neither (ltb count_limit n) (ltb n run) h in
    (ltb-false n run k.1, ltb-false count_limit n k.0)

not_both : (a b : Bool) → (a && b) ≡ false → a ≡ true → b ≡ false
not_both true b h e = h
not_both false b h e = cc

-- what is known of counts that can be
pub counts_can_be : (c n run k : ℕ) → impossible_counts c n run k ≡ false → Possible c n run k
unfolding impossible_counts
counts_can_be c n run k h =
    let h0 = neither (ltb n c) _ h in
    let h1 = neither (ltb c run) _ h0.1 in
    let h2 = neither (ltb 0 c && eqb run 0) _ h1.1 in
    let h3 = neither (ltb k 1) _ h2.1 in
    let h4 = neither (ltb 256 k) _ h3.1 in
    record {
      hits = ltb-false n c h0.0;
      run_hits = ltb-false c run h1.0;
      some_run = λ l. pos_of_ne-zero (eqb-false run 0 (not_both (ltb 0 c) (eqb run 0) h2.0 (lt-ltb 0 c l)));
      least = ltb-false k 1 h3.0;
      most = ltb-false 256 k h4.0;
      few = ltb-false count_limit n h4.1;
    }
