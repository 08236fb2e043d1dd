-- What C gets of several records tells how many are good, how the first bad one is refused, and where it starts: all but a refusal that names a place, which
-- no reader gives. Assumes nothing.
use mathlib.Core.Path.{◌≡◌, refl, ap}
use Prim.Native.Nat.{ℕ}
use Rattle.std.specs.Prelude.{Option, None, Some, Result, Ok, Err}
use Rattle.answer.proofs.Results.{held, plain_kept}
use Rattle.answer.specs.Numbers.{too_wide}
use Rattle.answer.specs.declared.Refusal.{Refusal}
use Rattle.rows.specs.Told.{number_told, row_told}
use Rattle.rows.specs.declared.Records.{Records}
use Rattle.rows.specs.declared.Row.{Row}

-- the refusal of a result, where it is one
abbrev pub refusal_in : Result ℕ Refusal → Option Refusal
refusal_in (Ok x) = None
refusal_in (Err e) = Some e

abbrev pub records_in : Row → Records
records_in r = record { good = r.good; bad = refusal_in (held 0 r.number 0); byte = r.byte }

bad_tells : (bad : Option Refusal) → (number_told bad ≡ too_wide → ⊥) → refusal_in (held 0 (number_told bad) 0) ≡ bad
bad_tells None h = refl
bad_tells (Some e) h = ap refusal_in (plain_kept 0 e h)

pub row_tells : (r : Records) → (number_told r.bad ≡ too_wide → ⊥) → records_in (row_told r) ≡ r
row_tells r h = λ i. record { good = r.good; bad = bad_tells r.bad h i; byte = r.byte }
