-- What is above the planes, moved one number after the other. Assumes nothing.
use mathlib.Core.Path.{◌≡◌, refl, ◌∙◌}
use mathlib.Core.List.{List}
use Prim.Native.Nat.{ℕ, ◌+◌, ◌≤◌, ◌<◌}
use native.Mathlib.Omega.{arith}
use lib.ListN.{length, get_or, set, length-set}
use lib.Seq.{get_or-set_same, get_or-set_other}
use Rattle.race.proofs.Cases.{same?}
use Rattle.verdicts.specs.Inner.Told.{digit}
use Rattle.verdicts.specs.Inner.Planes.{Shifted}

-- the first j have been moved
pub record Moved (up₀ : List ℕ) (less gained : ℕ) (up : List ℕ) (j : ℕ) : Type 0 where
  pub some : j ≤ length up₀
  pub many : length up ≡ length up₀
  pub done : (q : ℕ) → q < j → get_or up q 0 + digit less q ≡ get_or up₀ q 0 + gained
  pub kept : (q : ℕ) → j ≤ q → get_or up q 0 ≡ get_or up₀ q 0

pub moved_none : (up : List ℕ) (less gained : ℕ) → Moved up less gained up 0
moved_none up less gained = record { some = omega arith; many = refl; done = λ q h. absurd (omega arith); kept = λ q h. refl }

module _ {up₀ : List ℕ} {less gained : ℕ} {up : List ℕ} {j : ℕ} (M : Moved up₀ less gained up j) (jl : j < length up₀) (v : ℕ)
    (e : v + digit less j ≡ get_or up j 0 + gained) where
  moved_done : (q : ℕ) → q < j + 1 → get_or (set up j v) q 0 + digit less q ≡ get_or up₀ q 0 + gained
  moved_done q h =
      same? q j
      (λ i. rw i (omega (arith, get_or-set_same up j v 0 (omega (arith, M.many)), M.kept j (omega arith))))
      (λ n. omega (arith, get_or-set_other up j q v 0 n, M.done q (omega arith)))

  pub moved_step : Moved up₀ less gained (set up j v) (j + 1)
  moved_step =
      record {
        some = omega arith;
        many = length-set up j v ∙ M.many;
        done = moved_done;
        kept = λ q h. get_or-set_other up j q v 0 (λ i. omega arith) ∙ M.kept q (omega arith);
      }

pub moved_all : {up₀ : List ℕ} {less gained : ℕ} {up : List ℕ} {j : ℕ} → Moved up₀ less gained up j → length up₀ ≤ j → Shifted up₀ less gained up
moved_all M h = record { many = M.many; each = λ q l. M.done q (omega arith) }
