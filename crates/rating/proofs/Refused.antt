-- Nobody is laid on a refusal: none has number 0. Assumes nothing.
use mathlib.Core.Path.{◌≡◌, refl}
use Prim.Native.Nat.{ℕ}
use Rattle.answer.specs.Predicted.{predicted_by}
use Rattle.answer.specs.Results.{refused_by}
use Rattle.answer.specs.declared.Refusal.{Refusal}
use Rattle.answer.specs.declared.Refusal.TheVariants.{TooLong, TooShort, TooWide, Impossible, OutOfRange, NotRun, BadWidth, BadFrame, BadAnswer, BadState}

pub refusal_stays : (winner score : ℕ) (e : Refusal) → refused_by e ≡ predicted_by winner score (refused_by e)
refusal_stays w s TooLong = refl
refusal_stays w s TooShort = refl
refusal_stays w s (TooWide place) = refl
refusal_stays w s Impossible = refl
refusal_stays w s OutOfRange = refl
refusal_stays w s NotRun = refl
refusal_stays w s BadWidth = refl
refusal_stays w s BadFrame = refl
refusal_stays w s BadAnswer = refl
refusal_stays w s BadState = refl
