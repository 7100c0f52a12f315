-- The output of each gate, table and tie (IEEE 1364 gate tables), over bits and over three-valued bits.
use Rattle.std.specs.Prelude.{ℕ, Bool, true, false, not, List, [], ◌∷◌, ◌+◌, ◌*◌, ◌/◌, ◌%◌, ◌^◌, ◌==◌, ◌&&◌, ◌||◌, if◌then◌else◌, slice_index_or}
use Rattle.dft_base.specs.declared.tri.Tri.{Tri}
use Rattle.dft_base.specs.declared.tri.Tri.TheVariants.{Zero, One, Unknown}
use Rattle.dft_base.specs.Tri.{known, join}
use Rattle.dft_cells.specs.declared.kind.Gate.{Gate}
use Rattle.dft_cells.specs.declared.kind.Gate.TheVariants.{Buf, Inv, And, Nand, Or, Nor, Xor, Xnor, Mux2, Table, Tie0, Tie1}

-- whether all of the bits, any of them, or an odd number of them are 1
abbrev pub all_one : List Bool → Bool
all_one [] = true
all_one (b ∷ bs) = b && all_one bs

abbrev pub any_one : List Bool → Bool
any_one [] = false
any_one (b ∷ bs) = b || any_one bs

abbrev pub odd_ones : List Bool → Bool
odd_ones [] = false
odd_ones (b ∷ bs) = if b then not (odd_ones bs) else odd_ones bs

-- the bit at a place of a list
abbrev pub bit_at : List Bool → ℕ → Bool
bit_at bits i = slice_index_or bits i false

-- the sum of `bit i` times `2^i`
abbrev pub number_of : List Bool → ℕ
number_of [] = 0
number_of (b ∷ bs) = (if b then 1 else 0) + 2 * number_of bs

-- the bit at a place of a number
abbrev pub bit_of_number : ℕ → ℕ → Bool
bit_of_number n i = (n / 2 ^ i) % 2 == 1

-- the output bit of a gate, a table or a tie at its input bits
abbrev pub bit_of : Gate → List Bool → Bool
bit_of Buf bits = bit_at bits 0
bit_of Inv bits = not (bit_at bits 0)
bit_of And bits = all_one bits
bit_of Nand bits = not (all_one bits)
bit_of Or bits = any_one bits
bit_of Nor bits = not (any_one bits)
bit_of Xor bits = odd_ones bits
bit_of Xnor bits = not (odd_ones bits)
bit_of Mux2 bits = if bit_at bits 2 then bit_at bits 1 else bit_at bits 0
bit_of (Table number) bits = bit_of_number number (number_of bits)
bit_of Tie0 bits = false
bit_of Tie1 bits = true

-- what a function of bits gives at a value: where it is unknown, what both completions share
abbrev pub completing : (Bool → Tri) → Tri → Tri
completing f Zero = f false
completing f One = f true
completing f Unknown = join (f false) (f true)

-- the bit that all completions of the unknown inputs share, and otherwise Unknown
abbrev pub shared : (List Bool → Bool) → List Tri → Tri
shared f [] = known (f [])
shared f (t ∷ ts) = completing (λ b. shared (λ bs. f (b ∷ bs)) ts) t

-- the three-valued output of a gate, a table or a tie
abbrev pub tri_of : Gate → List Tri → Tri
tri_of gate values = shared (bit_of gate) values
