-- The bits that the channels take where no equation decides.
use Rattle.std.specs.Prelude.{ℕ, ◌+◌, ◌/◌, ◌%◌, ◌==◌, Bool, true, false, List, map, replicate, get_or}
use Rattle.std.specs.List.{range_with_len}
use Rattle.std.specs.Int.{bit_at as bit_of_word}
use Rattle.rand_core.specs.Steps.{first_words}
use Rattle.rand_pcg.specs.Pcg.{pcg32}
use Rattle.dft_config.specs.declared.config.FillRule.{FillRule}
use Rattle.dft_config.specs.declared.config.FillRule.TheVariants.{Zeros, Ones, Seed}
use Rattle.dft_random.specs.Words.{generator}

-- the bit of a column among words of 32 bits, the lowest bit of a word first
unfoldable pub bit_of_column : (words : List ℕ) → (column : ℕ) → Bool
bit_of_column words column = bit_of_word (get_or words (column / 32) 0) (column % 32) == 1

-- the words of 32 bits that so many columns take
abbrev pub words_of_32 : (columns : ℕ) → ℕ
words_of_32 columns = (columns + 31) / 32

-- the fill bits of a pattern, one a column: zeros, ones, or the bits of the words of the generator on the stream of the pattern's number
abbrev pub fill_of : FillRule → (pattern columns : ℕ) → List Bool
fill_of Zeros pattern columns = replicate columns false
fill_of Ones pattern columns = replicate columns true
fill_of (Seed seed) pattern columns = map (bit_of_column (first_words pcg32 (words_of_32 columns) (generator seed pattern))) (range_with_len 0 columns)
