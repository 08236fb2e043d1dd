-- The 24 digits of `log_digits` are log2 of a double from 1 to 2, at most one unit above it and at most two below. Assumes nothing.
use Prim.Native.Nat.{ℕ, ◌*◌, ◌^◌, ◌≤◌}
use lib.Dec.{T, lit≤}
use lib.Ieee.{Float, binary64, fits}
use lib.Ieee.Positive.{num, den, positive}
use Rattle.entropy.specs.Entropy.{units, squared_times, log_digits}
use Rattle.entropy.proofs.Squares.{Tracks, tracks_low, tracks_high, followed}

-- m units is near log2 (a / b)
pub record Logged (a b m : ℕ) : Type 0 where
  pub low : 2 ^ m * b ^ units ≤ 2 * a ^ units
  pub high : a ^ units ≤ 4 * (2 ^ m * b ^ units)

pub logged : (x : Float) → T (positive x) → T (fits binary64 x) → den x ≤ num x → num x ≤ 2 * den x → Logged (num x) (den x) (log_digits 24 x)
unfolding units
logged x p t a b =
    let k : Tracks binary64 (num x) (den x) (squared_times 24 x) 24 (log_digits 24 x) = followed x p t a b 24 in
    record {
      low = tracks_low binary64 (num x) (den x) (squared_times 24 x) 24 (log_digits 24 x) (lit≤ tt) k;
      high = tracks_high binary64 (num x) (den x) (squared_times 24 x) 24 (log_digits 24 x) (lit≤ tt) k;
    }
