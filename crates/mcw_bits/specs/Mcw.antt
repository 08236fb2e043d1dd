-- MultiMCW, SP 800-90B 6.3.7: the race of four windows over a list of samples. Definitions only.
use Rattle.std.specs.Prelude.{cond, List, [], ◌∷◌, ℕ, ◌+◌, leb, length, get_or}
use Rattle.race.specs.Race.{Guess, silent, says, outcome_over}
use Rattle.race.specs.declared.Outcome.{Outcome}
use Rattle.mcw_bits.specs.Commonest.{commonest, window}

-- "Windows 63, 255, 1023, 4095."
abbrev pub windows : List ℕ
windows = 63 ∷ 255 ∷ 1023 ∷ 4095 ∷ []

abbrev pub size : ℕ → ℕ
size j = get_or windows j 0

-- "predictions start at place 63", that of the shortest window, so "N = length - 63"
abbrev pub first_place : ℕ
first_place = size 0

-- fewer samples than one more than the longest window are "not run"
abbrev pub least_samples : ℕ
least_samples = size 3 + 1

-- "A window W takes part from place W on. [...] Its prediction is the commonest symbol of the W samples just before"
unfoldable pub said : List ℕ → ℕ → ℕ → Guess
said s i j = cond (leb (size j) i) (says (commonest (window s i (size j)))) silent

-- how the race of the windows ends
abbrev pub outcome_of : List ℕ → Outcome
outcome_of s = outcome_over (length windows) first_place (said s) s
