-- When two doubles are close, in the sentences of prediction.rs, "a combined absolute / relative / ULP closeness test". Definitions only.
use Rattle.std.specs.Prelude.{ℕ, ◌-◌, Bool, true, false, ◌&&◌, ◌||◌, cond, negsuc, leb, Float}
use Rattle.std.specs.Bool.{beq}
use Rattle.std.specs.Float.{fin, binary64}
use Rattle.std.specs.Float.Ieee.{lt, le, eq, sub, mul, is_nan, to_bits}
use Rattle.closeness.specs.Magnitude.{magnitude, is_infinite, is_negative}

-- 2 ^ -1022, the least double above 0 that is not subnormal: Rust's `f64::MIN_POSITIVE`
abbrev pub min_positive : Float
min_positive = fin false 1 (negsuc 1021)

-- "Is relative closeness going to be nonsense? (subnormal / overflow guards)": |a|, the difference or the measure is subnormal, or the difference overflows.
unfoldable pub relative_is_nonsense : Float → Float → Float → Bool
relative_is_nonsense absA diff measure = lt absA min_positive || (lt diff min_positive || (is_infinite diff || lt measure min_positive))

-- "Different signs can't be a few ULPs apart." Of one sign, the patterns of the magnitudes count the doubles between a and b; the difference is saturating.
unfoldable pub few_apart : Float → Float → ℕ → Bool
few_apart a b maxUlp =
    beq (is_negative a) (is_negative b)
    && leb (to_bits binary64 (magnitude b) - to_bits binary64 (magnitude a)) maxUlp

-- Of a and b with a "the closest to 0": "Relative closeness is nonsense; fall back to absolute." Else "Relative closeness is meaningful", or "check ULPs".
unfoldable pub close_ordered : Float → Float → Float → Float → ℕ → Bool
close_ordered a b maxAbs maxRel maxUlp =
    let diff = magnitude (sub binary64 b a) in
    let measure = mul binary64 (magnitude b) maxRel in
    cond (relative_is_nonsense (magnitude a) diff measure) (le diff maxAbs)
    (le diff measure || few_apart a b maxUlp)

-- "NaN is by definition not equal to anything." "Equal values." "If either is infinity but they are not equal, they aren't close." "Make A the closest to 0."
unfoldable pub rel_epsilon_equal : Float → Float → Float → Float → ℕ → Bool
rel_epsilon_equal a b maxAbs maxRel maxUlp =
    cond (is_nan a || is_nan b) false
    (cond (eq a b) true
    (cond (is_infinite a || is_infinite b) false
    (cond (lt (magnitude b) (magnitude a)) (close_ordered b a maxAbs maxRel maxUlp) (close_ordered a b maxAbs maxRel maxUlp))))
