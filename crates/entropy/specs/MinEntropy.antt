-- What `min_entropy` answers: "the logarithm behind min-entropy takes 1/256..1", else number 5. Definitions only.
use Rattle.std.specs.Prelude.{Bool, ◌&&◌, cond, T, Float}
use Rattle.std.specs.Float.{binary64}
use Rattle.std.specs.Float.Ieee.{fits, le}
use Rattle.rounding.specs.Doubles.{one, least}
use Rattle.answer.specs.Numbers.{done, out_of_range}
use Rattle.answer.specs.Refused.{refused_value}
use Rattle.answer.specs.declared.Value.{Value}
use Rattle.entropy.specs.Entropy.{entropy_of}

-- every comparison with a NaN is false, so a NaN is out of range
abbrev pub in_range : Float → Bool
in_range p = le least p && le p one

-- a double from 1/256 to 1: what the laws of the figure are about
pub record Probability (p : Float) : Type 0 where
  pub double : T (fits binary64 p)
  pub from : T (le least p)
  pub to : T (le p one)

unfoldable pub min_entropy_of : Float → Value
min_entropy_of p = cond (in_range p) (record { number = done; value = entropy_of p }) (refused_value out_of_range)
