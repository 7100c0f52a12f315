-- The cubes of a generated job: each gives bits to at most four flip-flops.
use Rattle.std.specs.Prelude.{ℕ, ◌+◌, ◌*◌, ◌/◌, ◌%◌, ◌^◌, ◌==◌, Bool, true, false, List, [], ◌++◌, codes, decimal, flat_map, slice_range, take}
use Rattle.std.specs.List.{list_any, range_with_len}
use Rattle.dft_base.specs.Lexing.{Text}
use Rattle.dft_generate.specs.Words.{word_at}

-- a care bit, as `cell f5 1`: the word's rest by the size is the cell, its highest bit the bit
unfoldable pub bit_line : (size word : ℕ) → Text
bit_line size word = codes "cell f" ++ (decimal (word % size) ++ (codes " " ++ (decimal (word / 2 ^ 31) ++ codes "\n")))

-- one of these words gives the cell
abbrev pub is_named : (size : ℕ) → (before : List ℕ) → (cell : ℕ) → Bool
is_named size before cell = list_any (λ word. word % size == cell) before

-- no line where it does
abbrev pub line_unless : (named : Bool) → (line : Text) → Text
line_unless true line = []
line_unless false line = line

-- the line of a word, where no word before it gives the same cell
abbrev pub new_bit_line : (size : ℕ) → (before : List ℕ) → (word : ℕ) → Text
new_bit_line size before word = line_unless (is_named size before (word % size)) (bit_line size word)

-- those of four words
unfoldable pub bit_lines : (size : ℕ) → (words : List ℕ) → Text
bit_lines size words =
    new_bit_line size (take 0 words) (word_at words 0)
    ++ (new_bit_line size (take 1 words) (word_at words 1) ++ (new_bit_line size (take 2 words) (word_at words 2) ++ new_bit_line size (take 3 words) (word_at words 3)))

-- the first line of a cube, as `cube k5 clk1`
unfoldable pub cube_line : (cube : ℕ) → Text
cube_line cube = codes "cube k" ++ (decimal cube ++ (codes " clk" ++ (decimal (cube % 2) ++ codes "\n")))

-- its words
abbrev pub words_in : (size : ℕ) → (words : List ℕ) → (cube : ℕ) → List ℕ
words_in size words cube = slice_range words (size * 3 + cube * 4) (size * 3 + cube * 4 + 4)

-- a cube: its first line, its care bits, `end`
unfoldable pub cube_lines : (size : ℕ) → (words : List ℕ) → (cube : ℕ) → Text
cube_lines size words cube = cube_line cube ++ (bit_lines size (words_in size words cube) ++ codes "end\n")

-- all cubes, numbered from 0
abbrev pub cubes_text : (size : ℕ) → (words : List ℕ) → Text
cubes_text size words = flat_map (cube_lines size words) (range_with_len 0 (size / 4))
