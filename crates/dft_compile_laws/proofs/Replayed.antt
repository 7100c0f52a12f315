-- The ports of a replayed set are those of its vectors.
use Rattle.std.proofs.Common.{ℕ, ◌≡◌, ◌||◌, Bool, List, [], ◌∷◌, refl, sym, ap, subst}
use Rattle.std.specs.Prelude.{not}
use Rattle.std.specs.List.{list_any}
use Rattle.std.proofs.lemmas.Option.{none-some}
use Rattle.dft_base.specs.declared.tri.Tri.{Tri}
use Rattle.dft_abstract.specs.Cycle.{all_unknown}
use Rattle.dft_netlist.specs.Netlist.{Netlist}
use Rattle.dft_behavior.specs.Runs.{Vector}
use Rattle.dft_patterns.specs.declared.act.Act.{Act}
use Rattle.dft_patterns.specs.Patterns.{Patterns}
use Rattle.dft_replay.specs.Laws.{vectors_of as vectors_in}
use Rattle.dft_replay.specs.Rows.{act_on, is_pulse, nets_of, ports_of, pulses, row_of, rows_from, rows_of as replayed_rows}
use Rattle.dft_insert.specs.declared.style.Style.TheVariants.{Edt}
use Rattle.dft_insert.specs.Statements.{scanned}
use Rattle.dft_scan_behavior.specs.EdtVectors.{SuitsEdt}
use Rattle.dft_merge.proofs.StayLemmas.{cubes_stay}
use Rattle.dft_load_laws.specs.Loading.{rows_of}
use Rattle.dft_pattern_behavior.specs.Doing.{ports_by}
use Rattle.dft_pattern_behavior.proofs.Clocking.{set_suits}
use Rattle.dft_compile_laws.specs.Passing.{set_of}
use Rattle.dft_compile_laws.proofs.Listing.{rows_play}
use Rattle.dft_compile_laws.specs.Bringing.{CubesAreReplayed}
use Rattle.dft_compile_laws.proofs.Brought.{cubes_loaded}

pulses_same : (nets : List ℕ) (before : ℕ → Tri) (vectors : List (List Act)) (net : ℕ) → pulses nets vectors net ≡ list_any (λ (x : Vector). x.pulsed net) (vectors_in (rows_from nets before vectors))
pulses_same nets before [] net = refl
pulses_same nets before (acts ∷ vectors) net = ap (λ (b : Bool). is_pulse (act_on nets acts net) || b) (pulses_same nets (row_of nets before acts).vector.ports vectors net)

ports_same : (w : Netlist) (set : Patterns) → ports_by (vectors_in (replayed_rows w set)) ≡ ports_of w set
ports_same w set = λ i. record {
  is_clock = λ net. sym (pulses_same (nets_of w set.signals) all_unknown set.vectors net) i;
  is_reset = λ net. not (sym (pulses_same (nets_of w set.signals) all_unknown set.vectors net) i);
}

pub cubes_replayed : CubesAreReplayed
cubes_replayed n config rows window cubes placed [] start turns ready netlist are run c p cube at word =
    absurd (none-some (cubes_stay rows.columns (rows_of n config rows) window cubes placed [] are.places c p cube at word).pattern (cubes_stay rows.columns (rows_of n config rows) window cubes placed [] are.places c p cube at word).is)
cubes_replayed n config rows window cubes placed (q ∷ qs) start turns ready netlist are run c p cube at word =
    let w : Netlist = scanned Edt n config in
    let set : Patterns = set_of n config (q ∷ qs) in
    let xs : List Vector = vectors_in (replayed_rows w set) in
    let does = rows_play n config (q ∷ qs) netlist in
    let suits : SuitsEdt n config (ports_of w set) = subst (SuitsEdt n config) (ports_same w set) (set_suits n config q qs xs ready does) in
    cubes_loaded n config (ports_of w set) rows window cubes placed (q ∷ qs) xs start turns ready suits are does run c p cube at word
