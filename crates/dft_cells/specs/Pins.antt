-- What the pins of a cell are for, and how many inputs each gate takes.
use Rattle.std.specs.Prelude.{◌≡◌, ℕ, ◌≤◌, ◌==◌, Bool, true, false, ◌&&◌, nat_le}
use Rattle.dft_cells.specs.declared.kind.Kind.{Kind}
use Rattle.dft_cells.specs.declared.kind.Kind.TheVariants as kind
use Rattle.dft_cells.specs.declared.kind.Gate.{Gate}
use Rattle.dft_cells.specs.declared.kind.Gate.TheVariants.{Buf, Inv, And, Nand, Or, Nor, Xor, Xnor, Mux2, Table, Tie0, Tie1}
use Rattle.dft_cells.specs.declared.kind.Role.{Role}
use Rattle.dft_cells.specs.declared.kind.Role.TheVariants as role

-- an input of a gate, a table or an opaque cell
abbrev pub is_input : Role → Bool
is_input role.Input = true
is_input _ = false

-- an output, or the inverse of one: it drives the net that it is joined to
abbrev pub is_output : Role → Bool
is_output role.Output = true
is_output role.Inverted = true
is_output _ = false

-- the gate, table or tie takes this number of inputs
abbrev pub TakesInputs : Gate → ℕ → Type 0
TakesInputs Buf n = n ≡ 1
TakesInputs Inv n = n ≡ 1
TakesInputs And n = (1 ≤ n) × (n ≤ 8)
TakesInputs Nand n = (1 ≤ n) × (n ≤ 8)
TakesInputs Or n = (1 ≤ n) × (n ≤ 8)
TakesInputs Nor n = (1 ≤ n) × (n ≤ 8)
TakesInputs Xor n = (1 ≤ n) × (n ≤ 8)
TakesInputs Xnor n = (1 ≤ n) × (n ≤ 8)
TakesInputs Mux2 n = n ≡ 3
TakesInputs (Table number) n = (1 ≤ n) × (n ≤ 6)
TakesInputs Tie0 n = n ≡ 0
TakesInputs Tie1 n = n ≡ 0

-- the test of it, where there is something to count; the keys of ties leave nothing to count
abbrev pub takes_inputs : Gate → ℕ → Bool
takes_inputs Buf n = n == 1
takes_inputs Inv n = n == 1
takes_inputs And n = nat_le 1 n && nat_le n 8
takes_inputs Nand n = nat_le 1 n && nat_le n 8
takes_inputs Or n = nat_le 1 n && nat_le n 8
takes_inputs Nor n = nat_le 1 n && nat_le n 8
takes_inputs Xor n = nat_le 1 n && nat_le n 8
takes_inputs Xnor n = nat_le 1 n && nat_le n 8
takes_inputs Mux2 n = n == 3
takes_inputs (Table number) n = nat_le 1 n && nat_le n 6
takes_inputs Tie0 n = true
takes_inputs Tie1 n = true

-- the test of a kind; the keys of flip-flops, lock-ups and opaque cells leave nothing to count
abbrev pub kind_takes_inputs : Kind → ℕ → Bool
kind_takes_inputs (kind.Gate gate) n = takes_inputs gate n
kind_takes_inputs (kind.Flop flop) n = true
kind_takes_inputs kind.Lockup n = true
kind_takes_inputs kind.Opaque n = true

-- whether this is a tie
abbrev pub is_tie : Gate → Bool
is_tie Tie0 = true
is_tie Tie1 = true
is_tie _ = false
