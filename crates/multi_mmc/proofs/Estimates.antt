-- The answer from the outcome that the code hands over is that of the samples. Assumes nothing.
use mathlib.Core.Path.{◌≡◌, refl, ◌∙◌}
use mathlib.Core.List.{List, ◌++◌}
use Prim.Native.Nat.{ℕ, ◌-◌}
use lib.ListN.{length, replicate, drop}
use Rattle.answer.specs.declared.Answer.{Answer}
use Rattle.mmc_bits.specs.Levels.{levels, cap, first_place}
use Rattle.mmc_bits.specs.Space.{size, span, final}
use Rattle.mmc_bits.specs.Mmc as Bits
use Rattle.mmc_store.specs.Mmc as Store
use Rattle.mmc_store.specs.Space as StoreSpace
use Rattle.race.specs.declared.Outcome.{Outcome}
use Rattle.rating.specs.Rating.{rating_of}
use Rattle.multi_mmc.specs.Tracks.{bits_estimate, store_estimate}

pub bits_estimate_is : (b : List ℕ) {n : ℕ} {o : Outcome} {r : Answer} → n ≡ length b → o ≡ Bits.outcome_of levels cap b
    → r ≡ rating_of o (n - first_place) 2 → r ≡ bits_estimate b
unfolding bits_estimate
bits_estimate_is b l e p = p ∙ rw (e, l)

-- the counters that are lent to the race stand before the others
pub counters_final : (b counters : List ℕ) {t : List ℕ} → t ≡ span cap 1 levels b (length b) → t ++ drop 262140 counters ≡ final levels cap b counters
unfolding size
counters_final b counters e = rw e refl

-- and so are the numbers that are lent to the other
store_is : 16777216 ≡ StoreSpace.size levels
unfolding StoreSpace.size
store_is = refl

zeros_before : (n k : ℕ) (space : List ℕ) {t : List ℕ} → k ≡ n → t ≡ replicate n 0 → t ++ drop k space ≡ replicate n 0 ++ drop n space
zeros_before n k space p e = rw (p, e) refl

pub space_final : (space : List ℕ) {t : List ℕ} → t ≡ replicate (StoreSpace.size levels) 0 → t ++ drop 16777216 space ≡ StoreSpace.final levels space
unfolding StoreSpace.final
space_final space e = zeros_before (StoreSpace.size levels) 16777216 space store_is e

pub store_estimate_is : (s : List ℕ) (k : ℕ) {o : Outcome} {r : Answer} → o ≡ Store.outcome_of levels cap s
    → r ≡ rating_of o (length s - first_place) k → r ≡ store_estimate s k
unfolding store_estimate
store_estimate_is s k e p = p ∙ rw e
