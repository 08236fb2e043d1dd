-- What a lookup answers, and what a level says, as the code holds it. Definitions only.
use Rattle.std.specs.Prelude.{ℕ, ◌%◌, cond, eqb, Option, Some, None}
use Rattle.race.specs.Race.{Guess, silent, says}

-- the context whose best is v: "a context is present with its predicted symbol, or absent"
abbrev pub context_of : ℕ → Option ℕ
context_of v = cond (eqb v 0) None (Some (v % 256))

abbrev pub spoken : Guess → Option ℕ
spoken silent = None
spoken (says x) = Some x
