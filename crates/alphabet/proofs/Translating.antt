-- What a translator answers, by whether it refuses; one law for both numberings. Assumes nothing.
use mathlib.Core.Path.{◌≡◌, refl, sym, ◌∙◌}
use mathlib.Core.Bool.{Bool, true, false, cond}
use mathlib.Core.List.{List}
use Prim.Native.Nat.{ℕ, ◌≤◌}
use native.Mathlib.Omega.{arith}
use borrow.Author.Tests.{ne_eqb, ltb-false}
use lib.Dec.{eqb, ltb}
use lib.ListN.{length}
use Rattle.answer.specs.Numbers.{done, too_long, too_short}
use Rattle.answer.specs.Results.{number_of}
use Rattle.answer.specs.declared.Refusal.{Refusal}
use Rattle.answer.proofs.Results.{is_refusal}
use Rattle.std.specs.Prelude.{Ok, Err}
use Rattle.alphabet.specs.Alphabet.{alphabet_in, alphabet_number, alphabet_of, output_of, written, distinct}
use Rattle.capture.specs.Limit.{symbol_limit, over_limit}

module _ (translate : List ℕ → List ℕ) (s out : List ℕ) where
  pub alphabet_refused : (e : Refusal) → number_of e ≡ alphabet_number s out
      → (alphabet_in (Err e) ≡ alphabet_of s out) × (out ≡ output_of translate s out)
  alphabet_refused e n =
      let f : eqb (alphabet_number s out) done ≡ false = ne_eqb (alphabet_number s out) 0 (λ q. is_refusal e (n ∙ q)) in
      (rw (f, n), rw f)

  pub alphabet_done : done ≡ alphabet_number s out → {size : ℕ} {out' : List ℕ} → size ≡ distinct s → out' ≡ written (translate s) out
      → (alphabet_in (Ok size) ≡ alphabet_of s out) × (out' ≡ output_of translate s out)
  alphabet_done z p q = (rw (← z, p), rw (← z, q))

-- what is known where a translation is not refused
module _ (s out : List ℕ) where
  not_long : (a b : Bool) → cond a too_long (cond b too_short done) ≡ 0 → (a ≡ false) × (b ≡ false)
  not_long true b h = absurd (let z : 1 ≤ 0 = omega arith in omega arith)
  not_long false true h = absurd (let z : 1 ≤ 0 = omega arith in omega arith)
  not_long false false h = (refl, refl)

  pub alphabet_room : done ≡ alphabet_number s out → (length s ≤ symbol_limit) × (length s ≤ length out)
  alphabet_room h =
      let k = not_long (over_limit s) (ltb (length out) (length s)) (sym h) in
      (ltb-false symbol_limit (length s) k.0, ltb-false (length out) (length s) k.1)
