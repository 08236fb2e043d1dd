-- The definitions at small values. Assumes nothing.
use mathlib.Core.Path.{◌≡◌, refl}
use mathlib.Core.List.{[], ◌∷◌}
use Rattle.mcw_bits.specs.Commonest.{occurrences, favourite, commonest, window}
use Rattle.mcw_bits.specs.Mcw.{least_samples}

most : commonest (3 ∷ 1 ∷ 3 ∷ 2 ∷ []) ≡ 3
unfolding commonest favourite occurrences
most = refl

-- a tie goes to the one seen latest, whichever symbol is larger
tie_late : commonest (1 ∷ 2 ∷ 2 ∷ 1 ∷ []) ≡ 1
unfolding commonest favourite occurrences
tie_late = refl

tie_late_zero : commonest (7 ∷ 0 ∷ []) ≡ 0
unfolding commonest favourite occurrences
tie_late_zero = refl

just_before : window (5 ∷ 6 ∷ 7 ∷ 8 ∷ 9 ∷ []) 4 2 ≡ 7 ∷ 8 ∷ []
just_before = refl

least : least_samples ≡ 4096
least = refl
