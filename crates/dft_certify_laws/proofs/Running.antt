-- No run loads what sums certify.
use Rattle.std.proofs.Common.{ℕ, zero, suc, ◌≡◌, Bool, true, false, List, [], ◌∷◌, Option, None, Some, is_none, is_some, option_and_then, slice_get, refl, sym, ap, subst, ◌∙◌}
use Rattle.std.specs.Prelude.{if◌then◌else◌}
use Rattle.std.proofs.lemmas.Option.{none-some, same_Some}
use Rattle.dft_netlist.specs.declared.ids.InstanceId.{InstanceId}
use Rattle.dft_netlist.specs.Netlist.{Netlist}
use Rattle.dft_netlist.specs.Names.{find_instance}
use Rattle.dft_config.specs.Loads.{bit_of_column}
use Rattle.dft_config.specs.declared.config.RingConfig.{RingConfig}
use Rattle.dft_cubes.specs.declared.cube.Cube.{Cube}
use Rattle.dft_merge.specs.Placement.{first_unscanned}
use Rattle.dft_merge.specs.Rows.{CellRows}
use Rattle.dft_report.specs.declared.report.SumLine.{SumLine}
use Rattle.dft_load_laws.specs.Loading.{HoldBits, after_load, rows_of}
use Rattle.dft_load_laws.proofs.Bringing.{loads_solve}
use Rattle.dft_certify.specs.Certifying.{if_scanned, scanned_named}
use Rattle.dft_certify.specs.Laws.{IsCertified, IsSumOf}
use Rattle.dft_certify.proofs.ExactLemmas.{certified_exactly}
use Rattle.dft_certify.proofs.NeverLemmas.{certified_is_never}
use Rattle.dft_certify_laws.specs.InRuns.{CertifiedInRuns}

-- ---- the care bits of lines

and_care : Option InstanceId → Bool → List (InstanceId × Bool) → List (InstanceId × Bool)
and_care None bit rest = rest
and_care (Some cell) bit rest = (cell, bit) ∷ rest

care_of : Netlist → CellRows → List SumLine → List (InstanceId × Bool)
care_of n row [] = []
care_of n row (line ∷ lines) = and_care (scanned_named n row line.name) line.bit (care_of n row lines)

-- they have load equations
row_by : (row : CellRows) (other cell : InstanceId) (t : Bool) → is_some (row other) ≡ t → (if t then Some other else None) ≡ Some cell → is_some (row cell) ≡ true
row_by row other cell true is e = ap (λ (c : InstanceId). is_some (row c)) (sym (same_Some other cell e)) ∙ is
row_by row other cell false is e = absurd (none-some cell e)

row_there : (row : CellRows) (o : Option InstanceId) (cell : InstanceId) → option_and_then (if_scanned row) o ≡ Some cell → is_some (row cell) ≡ true
row_there row None cell e = absurd (none-some cell e)
row_there row (Some other) cell e = row_by row other cell (is_some (row other)) refl e

some_not_none : (o : Option (List Bool)) → is_some o ≡ true → is_none o ≡ false
some_not_none None e = absurd (let f : false ≡ true = e in cc)
some_not_none (Some x) e = refl

scanned_by : (row : CellRows) (o : Option InstanceId) (bit : Bool) (rest : List (InstanceId × Bool)) → ((cell : InstanceId) → o ≡ Some cell → is_some (row cell) ≡ true) → first_unscanned row rest ≡ None → first_unscanned row (and_care o bit rest) ≡ None
unfolding and_care
scanned_by row None bit rest has none = none
scanned_by row (Some cell) bit rest has none = ap (λ (t : Bool). if t then Some cell else first_unscanned row rest) (some_not_none (row cell) (has cell refl)) ∙ none

all_scanned : (n : Netlist) (row : CellRows) (lines : List SumLine) → first_unscanned row (care_of n row lines) ≡ None
unfolding care_of
all_scanned n row [] = refl
all_scanned n row (line ∷ lines) = scanned_by row (scanned_named n row line.name) line.bit (care_of n row lines) (λ cell is. row_there row (find_instance n line.name) cell is) (all_scanned n row lines)

-- they are the cube's
held_by : (flops : ℕ → Bool) (o : Option InstanceId) (bit : Bool) (rest : List (InstanceId × Bool)) → ((cell : InstanceId) → o ≡ Some cell → flops cell.0 ≡ bit) → HoldBits flops rest → HoldBits flops (and_care o bit rest)
unfolding and_care
held_by flops None bit rest here more k given at = more k given at
held_by flops (Some cell) bit rest here more zero given at =
    let same : (cell, bit) ≡ given = same_Some (cell, bit) given at in
    ap (λ (g : InstanceId × Bool). flops g.0.0) (sym same) ∙ here cell refl ∙ ap (λ (g : InstanceId × Bool). g.1) same
held_by flops (Some cell) bit rest here more (suc k) given at = more k given at

all_held : (n : Netlist) (ring : RingConfig) (row : CellRows) (cells : List (InstanceId × Bool)) (flops : ℕ → Bool) (lines : List SumLine) → ((k : ℕ) (line : SumLine) → slice_get lines k ≡ Some line → IsSumOf n ring row cells line) → HoldBits flops cells →
    HoldBits flops (care_of n row lines)
unfolding care_of
all_held n ring row cells flops [] each hold k given at = absurd (none-some given at)
all_held n ring row cells flops (line ∷ lines) each hold k given at =
    let here = each zero line refl in
    held_by flops (scanned_named n row line.name) line.bit (care_of n row lines)
    (λ cell is. ap (λ (c : InstanceId). flops c.0) (sym (same_Some here.cell cell (sym here.named ∙ is))) ∙ hold here.place (here.cell, line.bit) here.care)
    (all_held n ring row cells flops lines (λ j other at_j. each (suc j) other at_j) hold) k given at

-- each line is a sum of one of them
there_by : (o : Option InstanceId) (bit : Bool) (rest : List (InstanceId × Bool)) (given : InstanceId × Bool) → (j : ℕ) → slice_get rest j ≡ Some given → (i : ℕ) × (slice_get (and_care o bit rest) i ≡ Some given)
unfolding and_care
there_by None bit rest given j at = (j, at)
there_by (Some cell) bit rest given j at = (suc j, at)

here_by : (o : Option InstanceId) (bit : Bool) (rest : List (InstanceId × Bool)) (cell : InstanceId) → o ≡ Some cell → (i : ℕ) × (slice_get (and_care o bit rest) i ≡ Some (cell, bit))
unfolding and_care
here_by None bit rest cell is = absurd (none-some cell is)
here_by (Some other) bit rest cell is = (zero, ap (λ (c : InstanceId). Some (c, bit)) (same_Some other cell is))

care_there : (n : Netlist) (row : CellRows) (lines : List SumLine) (k : ℕ) (line : SumLine) (cell : InstanceId) → slice_get lines k ≡ Some line → scanned_named n row line.name ≡ Some cell → (i : ℕ) × (slice_get (care_of n row lines) i ≡ Some (cell, line.bit))
unfolding care_of
care_there n row [] k line cell at is = absurd (none-some line at)
care_there n row (x ∷ lines) zero line cell at is =
    let same : x ≡ line = same_Some x line at in
    subst (λ (b : Bool). (i : ℕ) × (slice_get (and_care (scanned_named n row x.name) x.bit (care_of n row lines)) i ≡ Some (cell, b))) (ap (λ (l : SumLine). l.bit) same)
    (here_by (scanned_named n row x.name) x.bit (care_of n row lines) cell (ap (λ (l : SumLine). scanned_named n row l.name) same ∙ is))
care_there n row (x ∷ lines) (suc k) line cell at is =
    let more = care_there n row lines k line cell at is in
    there_by (scanned_named n row x.name) x.bit (care_of n row lines) (cell, line.bit) more.0 more.1

certified_care : (n : Netlist) (ring : RingConfig) (row : CellRows) (columns : ℕ) (cells : List (InstanceId × Bool)) (lines : List SumLine) → IsCertified n ring row columns cells lines → IsCertified n ring row columns (care_of n row lines) lines
certified_care n ring row columns cells lines is = record {
  each = λ k line at. (
      let own = is.each k line at in
      let there = care_there n row lines k line own.cell at own.named in
      record { cell = own.cell; named = own.named; place = there.0; care = there.1; variables = own.variables });
  once = is.once;
  even = is.even;
  odd = is.odd;
}

pub certified_in_runs : CertifiedInRuns
certified_in_runs n config ports rows cubes report ready suits are none k entry lines cube at is named table once =
    let row = rows_of n config rows in
    let it = (certified_exactly n config.ring row rows.columns cubes report).0 none k entry lines at is in
    let certified : IsCertified n config.ring row rows.columns cube.cells lines = subst (λ (c : Cube). IsCertified n config.ring row rows.columns c.cells lines) (same_Some it.0 cube (sym it.1 ∙ named)) it.2 in
    let loads = loads_solve n config ports rows table (care_of n row lines) ready suits are (all_scanned n row lines)
    (once.0, all_held n config.ring row cube.cells (after_load n config ports table once.0) lines certified.each once.1) in
    certified_is_never n config.ring row rows.columns (care_of n row lines) lines (certified_care n config.ring row rows.columns cube.cells lines certified) (bit_of_column config.ring table) loads
