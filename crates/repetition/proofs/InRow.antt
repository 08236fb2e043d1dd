-- The alarm after any list of samples since a start, by the calls alone: each call's state is what the next one finds, so the state before the last sample is what
-- the start and all samples before it leave, and the contract of that sample says the rest. Assumes nothing.
use mathlib.Core.Path.{◌≡◌, refl, sym, ap, ◌∙◌}
use mathlib.Core.Bool.{Bool, true, false, cond}
use mathlib.Core.List.{List, [], ◌∷◌, ◌++◌, append-nil, append_assoc}
use Prim.Native.Nat.{ℕ}
use native.Mathlib.Omega.{arith}
use lib.Dec.{T, leb}
use borrow.Author.Tests.{le-leb, leb-true}
use lib.Ieee.{Float, binary64, fits}
use Rattle.cutoff.specs.Cutoff.{in_range}
use Rattle.repetition.specs.declared.step.RepetitionTest.{RepetitionTest}
use Rattle.repetition.specs.declared.step.Alarm.{Alarm}
use Rattle.repetition.specs.History.{Bytes, Possible, cutoff_for, left, run, since}
use Rattle.repetition.specs.Repetition.{Sampled, answered, begun}
use Rattle.repetition.specs.InRow.{Exact, InRow}
use Rattle.repetition.proofs.Runs.{bytes_then}

module _ (h : Float) (double : T (fits binary64 h)) (taken : in_range h ≡ true) where
  possible : (s : List ℕ) → Bytes s → Possible (since h s)
  possible s b = (double, taken, b)

  -- t was heard, and s comes
  rows : (t s : List ℕ) → Bytes t → Bytes s → (st end : RepetitionTest) → st ≡ left (since h t) → InRow st s end → end ≡ left (since h (t ++ s))
  rows t [] bt bs st end e row = row ∙ e ∙ ap (λ (l : List ℕ). left (since h l)) (sym (append-nil t))
  rows t (x ∷ s) bt bs st end e (r, mid, sampled, row) =
      rows (t ++ x ∷ []) s (bytes_then t x bt bs.0) bs.1 mid end (sampled.known (since h t) (possible t bt) e).1 row
      ∙ ap (λ (l : List ℕ). left (since h l)) (append_assoc t (x ∷ []) s)

  started : (st : RepetitionTest) → begun st h ≡ left (since h [])
  unfolding begun
  started st = ap (λ (b : Bool). cond b (left (since h [])) st) taken

  one : (b : Bool) (n : ℕ) → n ≡ cond b 1 0 → n ≡ 1 → b ≡ true
  one true n e p = refl
  one false n e p = absurd (omega (arith, e, p))

  exact : (s : List ℕ) (r : Alarm) → r ≡ answered (since h s) → Exact h s r
  exact s r e = record {
    answered = ap (λ (a : Alarm). a.number) e;
    stands = λ p. ap (λ (a : Alarm). a.alarm) e ∙ ap (λ (b : Bool). cond b 1 0) (le-leb (cutoff_for h) (run s) p);
    only_then = λ p. leb-true (cutoff_for h) (run s) (one (leb (cutoff_for h) (run s)) r.alarm (ap (λ (a : Alarm). a.alarm) e) p);
  }

  -- a start, the samples s, and the sample x
  pub alarm_in_row : (s : List ℕ) (x : ℕ) → Bytes s → (any st mid end : RepetitionTest) (r : Alarm)
      → st ≡ begun any h → InRow st s mid → Sampled mid x r end → Exact h (s ++ x ∷ []) r
  alarm_in_row s x b any st mid end r begins row last =
      exact (s ++ x ∷ []) r (last.known (since h s) (possible s b) (rows [] s tt b st mid (begins ∙ started any) row)).0
