-- A start: the cutoff's own number is the start's, and a start that is taken leaves what no samples leave, since a cutoff is found exactly in range. Assumes
-- nothing.
use mathlib.Core.Path.{◌≡◌, refl, sym, ap, ◌∙◌}
use mathlib.Core.Bool.{Bool, true, false, cond}
use mathlib.Core.List.{[]}
use Prim.Native.Nat.{ℕ}
use native.Mathlib.Nat.{zero-min}
use native.Mathlib.Omega.{arith}
use lib.Ieee.{Float}
use Rattle.std.specs.Prelude.{Ok, Err}
use Rattle.answer.specs.Numbers.{done, out_of_range}
use Rattle.answer.specs.Results.{number_of}
use Rattle.answer.specs.declared.Refusal.{Refusal}
use Rattle.answer.proofs.Results.{is_refusal}
use Rattle.cutoff.specs.Cutoff.{cutoff_of, in_range, told}
use Rattle.cutoff.specs.declared.Cutoff.{Cutoff}
use Rattle.repetition.specs.declared.step.RepetitionTest.{RepetitionTest}
use Rattle.repetition.specs.History.{cutoff_for, last_sample, left, run, since}
use Rattle.repetition.specs.Repetition.{begin_number, begun}

abbrev pub Says : RepetitionTest → Float → ℕ → RepetitionTest → Type 0
Says st h n st' = (n ≡ begin_number h) × (st' ≡ begun st h)

-- the state with that cutoff and nothing heard
abbrev pub fresh : ℕ → RepetitionTest
fresh n = record { cutoff = n; last_sample = 0; count = 0 }

fresh-left : (h : Float) → fresh (cutoff_for h) ≡ left (since h [])
unfolding last_sample run
fresh-left h = λ i. record { cutoff = cutoff_for h; last_sample = 0; count = sym (zero-min (cutoff_for h)) i }

module _ (h : Float) (b : Bool) (e : in_range h ≡ b) where
  found : cutoff_of h ≡ cond b (record { number = done; cutoff = cutoff_for h }) (record { number = out_of_range; cutoff = 0 })
  unfolding cutoff_of
  found = ap (λ (t : Bool). cond t (record { number = done; cutoff = cutoff_for h }) (record { number = out_of_range; cutoff = 0 })) e

  answers : begin_number h ≡ cond b done out_of_range
  unfolding begin_number
  answers = ap (λ (t : Bool). cond t done out_of_range) e

  leaves : (st : RepetitionTest) → begun st h ≡ cond b (left (since h [])) st
  unfolding begun
  leaves st = ap (λ (t : Bool). cond t (left (since h [])) st) e

module _ (st : RepetitionTest) (h : Float) where
  pub refused : (e : Refusal) → told (Err e) ≡ cutoff_of h → Says st h (number_of e) st
  refused e k = by (in_range h) refl
    where
      by : (b : Bool) → in_range h ≡ b → Says st h (number_of e) st
      by true t = absurd (is_refusal e (ap (λ (a : Cutoff). a.number) (k ∙ found h true t)))
      by false t = (ap (λ (a : Cutoff). a.number) (k ∙ found h false t) ∙ sym (answers h false t), sym (leaves h false t st))

  pub taken : (n : ℕ) → told (Ok n) ≡ cutoff_of h → Says st h done (fresh n)
  taken n k = by (in_range h) refl
    where
      by : (b : Bool) → in_range h ≡ b → Says st h done (fresh n)
      by true t = (sym (answers h true t), ap (λ (a : Cutoff). fresh a.cutoff) (k ∙ found h true t) ∙ fresh-left h ∙ sym (leaves h true t st))
      by false t = absurd (omega (arith, ap (λ (a : Cutoff). a.number) (k ∙ found h false t)))
