-- A netlist with two clocks and their inverses, and how it is judged, worked by hand.
use Rattle.std.proofs.Common.{◌≡◌, ℕ, true, false, List, [], ◌∷◌, ◌++◌, codes, Some, None, refl}
use Rattle.dft_cells.specs.declared.cell.Cell.{Cell}
use Rattle.dft_cells.specs.declared.kind.Kind.TheVariants as kind
use Rattle.dft_cells.specs.declared.kind.Gate.{Gate}
use Rattle.dft_cells.specs.declared.kind.Gate.TheVariants as gates
use Rattle.dft_cells.specs.declared.kind.Role.TheVariants as role
use Rattle.dft_netlist.specs.declared.instance.CellRef.TheVariants as cell_ref
use Rattle.dft_netlist.specs.declared.instance.Instance.{Instance}
use Rattle.dft_netlist.specs.declared.instance.Signal.TheVariants as signal
use Rattle.dft_netlist.specs.Netlist.{Netlist}
use Rattle.dft_rules.specs.declared.error.RuleError.TheVariants.{ClockAsData}
use Rattle.dft_rules.specs.declared.judged.Judged.TheVariants.{Scanned, Unscanned}
use Rattle.dft_base.specs.declared.rule.Rule.TheVariants.{S1}
use Rattle.dft_rules.specs.Refusals.{refusal}
use Rattle.dft_rules.specs.Rules.{judgements}
use Rattle.dft_rules.proofs.WorkedRules.{library, joined, example, example_config, two_clocks}

-- the same cells with an inverter
abbrev cells : List Cell
cells = library ++ record { name = codes "INV"; kind = kind.Gate gates.Inv; pins = record { name = codes "A"; role = role.Input } ∷ record { name = codes "Y"; role = role.Output } ∷ []; scan = None } ∷ []

-- an inverter of the library, and a gate of one input
abbrev inverter : (input output : ℕ) → Instance
inverter input output = record { name = Some (codes "u"); cell = cell_ref.Library (record { 0 = 4 }); pins = signal.Net (record { 0 = input }) ∷ signal.Net (record { 0 = output }) ∷ [] }

abbrev gate : Gate → (input output : ℕ) → Instance
gate k input output = record { name = None; cell = cell_ref.Gate k 1; pins = signal.Net (record { 0 = input }) ∷ signal.Net (record { 0 = output }) ∷ [] }

-- The four flip-flops with these nets for their clocks. Behind an inverter net 8 shows the inverse of `ca`, behind such a gate net 9 shows what the
-- gate makes of `cb`; net 10 shows what it makes of net 8.
abbrev pub turned : Gate → (zeroth first second third : ℕ) → Netlist
turned k zeroth first second third = record (example 1) {
  library = cells;
  nets = (example 1).nets ++ codes "na" ∷ codes "nb" ∷ codes "nna" ∷ [];
  instances = joined (codes "f0") 0 zeroth 2 4 ∷ joined (codes "f1") 0 first 4 5 ∷ joined (codes "f2") 0 second 5 6 ∷ joined (codes "f3") 0 third 6 3 ∷ inverter 0 8 ∷ gate k 1 9 ∷ gate k 8 10 ∷ [];
}

-- each clock through an inverter, a cell or a gate `not`: all four flip-flops fall
all_fall : judgements (turned gates.Inv 8 9 8 9) (example_config two_clocks [] 1) ≡ Some (Scanned 0 true) ∷ Some (Scanned 1 true) ∷ Some (Scanned 0 true) ∷ Some (Scanned 1 true) ∷ None ∷ None ∷ None ∷ []
all_fall = refl

all_pass : refusal (turned gates.Inv 8 9 8 9) (example_config two_clocks [] 4) ≡ None
unfolding refusal
all_pass = refl

-- one flip-flop on the inverse of `ca`
one_falls : judgements (turned gates.Inv 0 1 8 1) (example_config two_clocks [] 1) ≡ Some (Scanned 0 false) ∷ Some (Scanned 1 false) ∷ Some (Scanned 0 true) ∷ Some (Scanned 1 false) ∷ None ∷ None ∷ None ∷ []
one_falls = refl

-- two inverters give the clock itself
twice : judgements (turned gates.Inv 10 9 8 1) (example_config two_clocks [] 1) ≡ Some (Scanned 0 false) ∷ Some (Scanned 1 true) ∷ Some (Scanned 0 true) ∷ Some (Scanned 1 false) ∷ None ∷ None ∷ None ∷ []
twice = refl

-- a gate `nand` of one input is no inverter: what is behind it shows no clock, and the clock is its data
by_nand : judgements (turned gates.Nand 8 9 8 9) (example_config two_clocks [] 1) ≡ Some (Scanned 0 true) ∷ Some (Unscanned S1) ∷ Some (Scanned 0 true) ∷ Some (Unscanned S1) ∷ None ∷ None ∷ None ∷ []
by_nand = refl

clock_as_data : refusal (turned gates.Nand 0 1 0 1) (example_config two_clocks [] 1) ≡ Some (ClockAsData (codes "cb"))
unfolding refusal
clock_as_data = refl

-- so is the inverse of a clock where another gate reads it
inverse_as_data : refusal (turned gates.Nand 0 1 0 1) (example_config (codes "ca" ∷ []) [] 1) ≡ Some (ClockAsData (codes "na"))
unfolding refusal
inverse_as_data = refl
