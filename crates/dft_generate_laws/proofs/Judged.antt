-- How the instances of a generated netlist are judged: each flip-flop is scanned, in the domain of its clock.
use Rattle.std.proofs.Common.{◌≡◌, ℕ, zero, suc, ◌+◌, ◌*◌, ◌%◌, ◌<◌, true, false, List, [], Option, Some, None, codes, refl, ap, ◌∙◌, arith}
use Rattle.std.specs.Prelude.{is_some, option_and_then}
use Rattle.std.proofs.Math.Nat.{mod-lt}
use Rattle.dft_base.specs.Lexing.{Text}
use Rattle.dft_cells.specs.declared.kind.Kind.TheVariants as cell_kind
use Rattle.dft_cells.specs.declared.kind.Role.TheVariants as role
use Rattle.dft_cells.specs.declared.cell.Cell.{Cell}
use Rattle.dft_cells.specs.Standard.{standard_cells}
use Rattle.dft_netlist.specs.declared.instance.Instance.{Instance}
use Rattle.dft_netlist.specs.Connections.{input_net, pin_of}
use Rattle.dft_netlist.specs.Drivers.{Net, kind_of, kind_at, pins_at, shape_of_cell}
use Rattle.dft_netlist.specs.Names.{find_net, find_net_from}
use Rattle.dft_rules.specs.declared.judged.Judged.TheVariants.{Scanned}
use Rattle.dft_rules.specs.Rules.{may_be_scanned, clock_of_source, clocked_by, are_held, are_held_at, scan_cell_of, scan_cell_in, judged}
use Rattle.dft_generate.specs.Configurations.{configuration}
use Rattle.dft_generate.specs.Words.{word_at}
use Rattle.dft_generate_laws.specs.Designs.{design}
use Rattle.dft_generate_laws.proofs.CellLines.{each_kind, gate_known}
use Rattle.dft_generate_laws.proofs.Places.{gate_there, flop_there}
use Rattle.dft_generate_laws.proofs.Said.{nets_grow}

-- ---- clocks

pub clock0_net : (size : ℕ) (words : List ℕ) → input_net (design size words) (codes "clk0") ≡ Some (record { 0 = 0 })
clock0_net size words =
    let found : find_net (design size words) (codes "clk0") ≡ Some (record { 0 = 0 }) = ap (λ (xs : List Text). find_net_from 0 xs (codes "clk0")) (nets_grow size words).is in
    rw found refl

pub clock1_net : (size : ℕ) (words : List ℕ) → input_net (design size words) (codes "clk1") ≡ Some (record { 0 = 1 })
clock1_net size words =
    let found : find_net (design size words) (codes "clk1") ≡ Some (record { 0 = 1 }) = ap (λ (xs : List Text). find_net_from 0 xs (codes "clk1")) (nets_grow size words).is in
    rw found refl

clock_place : (size : ℕ) (words : List ℕ) (clock : ℕ) → clock < 2 → clock_of_source (design size words) configuration.domains (Net clock) ≡ Some (clock, false)
clock_place size words zero lt = rw (clock0_net size words) refl
clock_place size words (suc zero) lt = rw (clock0_net size words, clock1_net size words) refl
clock_place size words (suc (suc clock)) lt = absurd (omega (arith, lt))

-- ---- instances

-- a gate is not judged
pub judged_gate : (size : ℕ) (words : List ℕ) (k : ℕ) → k < size → judged (design size words) configuration (k + k) ≡ None
judged_gate size words k lt =
    let g = gate_known (word_at words (k * 3)) in
    let kind : may_be_scanned (kind_at (design size words) (k + k)) ≡ false =
    ap (λ (o : Option Instance). may_be_scanned (kind_of standard_cells o)) (gate_there size words k lt) ∙ ap (λ (o : Option Cell). may_be_scanned (shape_of_cell o).kind) g.there
    ∙ each_kind (λ k. may_be_scanned (cell_kind.Gate k) ≡ false) refl refl refl refl g.kind g.among in
    rw kind refl

-- a flip-flop is scanned
pub judged_flop : (size : ℕ) (words : List ℕ) (k : ℕ) → k < size → judged (design size words) configuration (suc (k + k)) ≡ Some (Scanned (k % 2) false)
judged_flop size words k lt =
    let n = design size words in
    let i : ℕ = suc (k + k) in
    let at = flop_there size words k lt in
    let kind : may_be_scanned (kind_at n i) ≡ true = ap (λ (o : Option Instance). may_be_scanned (kind_of standard_cells o)) at in
    let clock : clocked_by n configuration i ≡ Some (k % 2, false) =
    ap (λ (o : Option Instance). option_and_then (clock_of_source n configuration.domains) (pin_of role.Clock i (pins_at standard_cells o))) at ∙ clock_place size words (k % 2) (mod-lt k (omega arith)) in
    let held : are_held_at n configuration i ≡ true =
    ap (λ (o : Option Instance). are_held n [] (pin_of role.Reset i (pins_at standard_cells o)) (pin_of role.Preset i (pins_at standard_cells o))) at in
    let scans : is_some (scan_cell_of n i) ≡ true = ap (λ (o : Option Instance). is_some (option_and_then (λ (x : Instance). scan_cell_in standard_cells x.cell) o)) at in
    rw (kind, clock, held, scans) refl
