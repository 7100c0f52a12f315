-- The words of a generated job.
use Rattle.std.specs.Prelude.{ℕ, ◌+◌, ◌*◌, ◌/◌, List, get_or}
use Rattle.rand_core.specs.Steps.{first_words}
use Rattle.rand_pcg.specs.Pcg.{pcg32}
use Rattle.dft_random.specs.Words.{generator}

-- a job of so many cells takes three words of the generator on stream 0 for each cell, and behind them four for each cube; there is a cube for each four cells
abbrev pub words_of : (seed size : ℕ) → List ℕ
words_of seed size = first_words pcg32 (size * 3 + size / 4 * 4) (generator seed 0)

-- the word of a number
abbrev pub word_at : List ℕ → ℕ → ℕ
word_at words number = get_or words number 0
