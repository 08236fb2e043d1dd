-- The first nine rows of "Small captures to check by hand". Definitions only.
use Rattle.std.specs.Prelude.{ℕ, ◌≡◌, List, [], ◌∷◌, replicate}
use Rattle.answer.specs.declared.Answer.{Answer}
use Rattle.multi_mcw.specs.Tracks.{mcw_bits}
use Rattle.multi_mmc.specs.Tracks.{mmc_bits, mmc_literal}

-- which estimator the row runs
pub data Track : Type 0 where
  mmc_on_bits mmc_on_literals mcw_on_bits : Track

-- a row: the track, the samples, and the answer number, C, N and the longest run it must give
pub record Row : Type 0 where
  pub track : Track
  pub samples : List ℕ
  pub number : ℕ
  pub c : ℕ
  pub n : ℕ
  pub run : ℕ

abbrev row : Track → List ℕ → ℕ → ℕ → ℕ → ℕ → Row
row t s number c n run = record { track = t; samples = s; number = number; c = c; n = n; run = run }

abbrev pub rows : List Row
rows =
    row mmc_on_bits (0 ∷ 0 ∷ 0 ∷ 0 ∷ []) 0 2 2 2
    ∷ row mmc_on_bits (0 ∷ 1 ∷ 0 ∷ 1 ∷ []) 0 1 2 1
    ∷ row mmc_on_bits (0 ∷ 0 ∷ 1 ∷ 1 ∷ []) 0 0 2 0
    ∷ row mmc_on_bits (0 ∷ 0 ∷ 1 ∷ 0 ∷ 1 ∷ []) 0 1 3 1
    ∷ row mmc_on_bits (0 ∷ 0 ∷ 0 ∷ 1 ∷ []) 0 1 2 1
    ∷ row mmc_on_bits (0 ∷ 1 ∷ 1 ∷ 0 ∷ []) 0 0 2 0
    ∷ row mmc_on_literals (5 ∷ 5 ∷ 5 ∷ 5 ∷ []) 0 2 2 2
    ∷ row mmc_on_literals (10 ∷ 30 ∷ 10 ∷ 20 ∷ 10 ∷ 30 ∷ []) 0 1 4 1
    ∷ row mmc_on_bits (0 ∷ 0 ∷ 0 ∷ []) 6 0 0 0
    ∷ row mcw_on_bits (replicate 4095 0) 6 0 0 0
    ∷ []

-- what the row's estimator answers, with an output and work space at hand
abbrev pub answer_of : Track → List ℕ → List ℕ → List ℕ → Answer
answer_of mmc_on_bits s out space = mmc_bits s 1 space
answer_of mmc_on_literals s out space = mmc_literal s out space
answer_of mcw_on_bits s out space = mcw_bits s 1

-- the answer is the row's
pub record Right (out space : List ℕ) (r : Row) : Type 0 where
  pub number_is : (answer_of r.track r.samples out space).number ≡ r.number
  pub c_is : (answer_of r.track r.samples out space).estimate.c ≡ r.c
  pub n_is : (answer_of r.track r.samples out space).estimate.n ≡ r.n
  pub run_is : (answer_of r.track r.samples out space).estimate.max_run_len ≡ r.run

pub data All (P : Row → Type 0) : List Row → Type 0 where
  none : All P []
  more : {r : Row} {rs : List Row} → P r → All P rs → All P (r ∷ rs)
