-- The standard library is well formed.
use Rattle.std.proofs.Common.{◌≡◌, ℕ, zero, suc, ◌≤◌, List, [], ◌∷◌, ◌++◌, slice_get, Some, refl, inr, arith}
use Rattle.std.specs.List.{AllByRecursion}
use Rattle.dft_base.proofs.ListLemmas.{all_append}
use Rattle.dft_cells.specs.declared.kind.Role.TheVariants.{Input, Output}
use Rattle.dft_cells.specs.WellFormed.{GateRoles, IsCell, HasScanCell, IsWellFormed}
use Rattle.dft_cells.specs.Standard.{standard_cells, and_gates, buffer_and_clock_gate, flip_flops, inverter_to_mux, nand_gates, nor_gates, or_gates, scan_flip_flops, tie_to_xor}

-- gates of two to four inputs
two : GateRoles (λ n. (1 ≤ n) × (n ≤ 8)) (Input ∷ Input ∷ Output ∷ [])
two = (2, (omega arith, omega arith), refl)

three : GateRoles (λ n. (1 ≤ n) × (n ≤ 8)) (Input ∷ Input ∷ Input ∷ Output ∷ [])
three = (3, (omega arith, omega arith), refl)

four : GateRoles (λ n. (1 ≤ n) × (n ≤ 8)) (Input ∷ Input ∷ Input ∷ Input ∷ Output ∷ [])
four = (4, (omega arith, omega arith), refl)

-- a fact of each element holds at each place
pub at_each : {X : Type 0} (P : X → Type 0) (xs : List X) → AllByRecursion P xs → (place : ℕ) (x : X) → slice_get xs place ≡ Some x → P x
at_each P [] all place x at = absurd (cc)
at_each P (y ∷ xs) all zero x at = let e : y ≡ x = cc in rw (← e) all.0
at_each P (y ∷ xs) all (suc place) x at = at_each P xs all.1 place x at

and_gates_fit : AllByRecursion IsCell and_gates
and_gates_fit = (record { roles = two; differ = refl; named = refl }, (record { roles = three; differ = refl; named = refl }, (record { roles = four; differ = refl; named = refl }, tt)))

buffer_and_clock_gate_fit : AllByRecursion IsCell buffer_and_clock_gate
buffer_and_clock_gate_fit = (record { roles = (1, refl, refl); differ = refl; named = refl }, (record { roles = (2, 1, refl); differ = refl; named = refl }, tt))

flip_flops_fit : AllByRecursion IsCell flip_flops
flip_flops_fit = (record { roles = inr refl; differ = refl; named = refl }, (record { roles = inr refl; differ = refl; named = refl }, (record { roles = inr refl; differ = refl; named = refl }, tt)))

inverter_to_mux_fit : AllByRecursion IsCell inverter_to_mux
inverter_to_mux_fit = (record { roles = (1, refl, refl); differ = refl; named = refl }, (record { roles = (2, 1, refl); differ = refl; named = refl }, (record { roles = refl; differ = refl; named = refl }, (record { roles = (3, refl, refl); differ = refl; named = refl }, tt))))

nand_gates_fit : AllByRecursion IsCell nand_gates
nand_gates_fit = (record { roles = two; differ = refl; named = refl }, (record { roles = three; differ = refl; named = refl }, (record { roles = four; differ = refl; named = refl }, tt)))

nor_gates_fit : AllByRecursion IsCell nor_gates
nor_gates_fit = (record { roles = two; differ = refl; named = refl }, (record { roles = three; differ = refl; named = refl }, (record { roles = four; differ = refl; named = refl }, tt)))

or_gates_fit : AllByRecursion IsCell or_gates
or_gates_fit = (record { roles = two; differ = refl; named = refl }, (record { roles = three; differ = refl; named = refl }, (record { roles = four; differ = refl; named = refl }, tt)))

scan_flip_flops_fit : AllByRecursion IsCell scan_flip_flops
scan_flip_flops_fit = (record { roles = inr refl; differ = refl; named = refl }, (record { roles = inr refl; differ = refl; named = refl }, (record { roles = inr refl; differ = refl; named = refl }, tt)))

tie_to_xor_fit : AllByRecursion IsCell tie_to_xor
tie_to_xor_fit = (record { roles = (0, refl, refl); differ = refl; named = refl }, (record { roles = (0, refl, refl); differ = refl; named = refl }, (record { roles = two; differ = refl; named = refl }, (record { roles = two; differ = refl; named = refl }, tt))))

cells_fit : AllByRecursion IsCell standard_cells
cells_fit = all_append IsCell (and_gates ++ buffer_and_clock_gate ++ flip_flops ++ inverter_to_mux ++ nand_gates ++ nor_gates ++ or_gates ++ scan_flip_flops) tie_to_xor (all_append IsCell (and_gates ++ buffer_and_clock_gate ++ flip_flops ++ inverter_to_mux ++ nand_gates ++ nor_gates ++ or_gates) scan_flip_flops (all_append IsCell (and_gates ++ buffer_and_clock_gate ++ flip_flops ++ inverter_to_mux ++ nand_gates ++ nor_gates) or_gates (all_append IsCell (and_gates ++ buffer_and_clock_gate ++ flip_flops ++ inverter_to_mux ++ nand_gates) nor_gates (all_append IsCell (and_gates ++ buffer_and_clock_gate ++ flip_flops ++ inverter_to_mux) nand_gates (all_append IsCell (and_gates ++ buffer_and_clock_gate ++ flip_flops) inverter_to_mux (all_append IsCell (and_gates ++ buffer_and_clock_gate) flip_flops (all_append IsCell (and_gates) buffer_and_clock_gate and_gates_fit buffer_and_clock_gate_fit) flip_flops_fit) inverter_to_mux_fit) nand_gates_fit) nor_gates_fit) or_gates_fit) scan_flip_flops_fit) tie_to_xor_fit

scans_fit : AllByRecursion (HasScanCell standard_cells) standard_cells
scans_fit = (tt, (tt, (tt, (tt, (tt, (record { other = _; at = refl; fits = refl; shared = refl }, (record { other = _; at = refl; fits = refl; shared = refl }, (record { other = _; at = refl; fits = refl; shared = refl }, (tt, (tt, (tt, (tt, (tt, (tt, (tt, (tt, (tt, (tt, (tt, (tt, (tt, (tt, (tt, (tt, (tt, (tt, (tt, (tt, tt))))))))))))))))))))))))))))

pub standard_fits : IsWellFormed standard_cells
standard_fits = record {
  count = omega arith;
  names = refl;
  each = at_each IsCell standard_cells cells_fit;
  scans = at_each (HasScanCell standard_cells) standard_cells scans_fit;
  dff = (5, _, refl, refl);
  lockup = (10, _, refl, refl);
}
