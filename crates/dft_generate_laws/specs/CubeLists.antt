-- The cubes that a generated cube text stands for.
use Rattle.std.specs.Prelude.{ℕ, suc, ◌+◌, ◌*◌, ◌/◌, ◌%◌, ◌^◌, ◌<◌, ◌≤◌, ◌==◌, Bool, true, false, List, [], ◌∷◌, ◌++◌, length, map, take, None}
use Rattle.std.specs.List.{All, range_with_len}
use Rattle.dft_netlist.specs.declared.ids.InstanceId.{InstanceId}
use Rattle.dft_cubes.specs.declared.cube.Cube.{Cube}
use Rattle.dft_generate.specs.Words.{word_at}
use Rattle.dft_generate.specs.Cubes.{is_named, words_in}
use Rattle.dft_generate_laws.specs.Designs.{numbered}

-- a bit of a cell
abbrev pub Given : Type 0
Given = InstanceId × Bool

-- the instance that is the flip-flop of a cell
abbrev pub flop_of : (cell : ℕ) → InstanceId
flop_of cell = record { 0 = suc (cell + cell) }

-- the cell of a word has its highest bit
abbrev pub bit_given : (size word : ℕ) → Given
bit_given size word = (flop_of (word % size), (word / 2 ^ 31) == 1)

-- nothing where it was given before
abbrev pub given_unless : (named : Bool) → Given → List Given
given_unless true given = []
given_unless false given = given ∷ []

-- the bit of a word, where no word before it gives the same cell
abbrev pub new_bit : (size : ℕ) → (before : List ℕ) → (word : ℕ) → List Given
new_bit size before word = given_unless (is_named size before (word % size)) (bit_given size word)

-- those of four words
abbrev pub bits_given : (size : ℕ) → (words : List ℕ) → List Given
bits_given size words = new_bit size (take 0 words) (word_at words 0) ++ (new_bit size (take 1 words) (word_at words 1) ++ (new_bit size (take 2 words) (word_at words 2) ++ new_bit size (take 3 words) (word_at words 3)))

-- a cube, as `k5`, with its clock
abbrev pub cube_in : (size : ℕ) → (words : List ℕ) → (cube : ℕ) → Cube
cube_in size words cube = record { name = numbered 107 cube; domains = record { first = cube % 2; second = None }; cells = bits_given size (words_in size words cube); ports = [] }

abbrev pub cubes_in : (size : ℕ) → (words : List ℕ) → List Cube
cubes_in size words = map (cube_in size words) (range_with_len 0 (size / 4))

-- there are words for each cell and each cube, each of 32 bits
pub record AreWords (size : ℕ) (words : List ℕ) : Type 0 where
  pub enough : size * 3 + size / 4 * 4 ≤ length words
  pub small : All (λ word. word < 2 ^ 32) words
