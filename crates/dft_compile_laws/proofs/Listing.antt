-- The rows of a compiled set do its listed acts.
use Rattle.std.proofs.Common.{ℕ, ◌<◌, List, ◌++◌, length, map, sym, ap, subst, ◌∙◌}
use Rattle.std.proofs.lemmas.List.{map-append}
use Rattle.dft_base.specs.declared.dir.Dir.TheVariants.{Input, Output}
use Rattle.dft_netlist.specs.Netlist.{Netlist}
use Rattle.dft_abstract.specs.Cycle.{all_unknown}
use Rattle.dft_expect.specs.Captures.{output_bits}
use Rattle.dft_stitch.specs.Chains.{plan_of}
use Rattle.dft_patterns.specs.declared.signal.StilSignal.{StilSignal}
use Rattle.dft_replay.specs.Rows.{net_named, nets_of, rows_from}
use Rattle.dft_insert.specs.declared.style.Style.TheVariants.{Edt}
use Rattle.dft_insert.specs.Statements.{scanned}
use Rattle.dft_vectors.specs.Signals.{input_bits, signal_of}
use Rattle.dft_vectors.specs.VectorList.{vectors_of}
use Rattle.dft_vectors.proofs.OwnLemmas.{inputs_live, outputs_live}
use Rattle.dft_pattern_behavior.specs.Doing.{AllDo}
use Rattle.dft_compile_laws.specs.Passing.{RowsDo, SignalsStand}
use Rattle.dft_compile_laws.proofs.Fine.{fine_list}
use Rattle.dft_compile_laws.proofs.Rows.{all_nets, inputs_apart, nets_are, numbers, rows_do}

pub signals_at : SignalsStand
signals_at w sound =
    let ins : List StilSignal = map (signal_of w Input) (input_bits w.ports) in
    let outs : List StilSignal = map (signal_of w Output) (output_bits w.ports) in
    map-append (λ (s : StilSignal). net_named w s.name) ins outs
    ∙ ap (λ (ks : List ℕ). ks ++ nets_of w outs) (nets_are w Input (input_bits w.ports) sound (all_nets (λ k. k < length w.nets) (input_bits w.ports) (inputs_live w sound)))
    ∙ ap (λ (ks : List ℕ). numbers (input_bits w.ports) ++ ks) (nets_are w Output (output_bits w.ports) sound (all_nets (λ k. k < length w.nets) (output_bits w.ports) (outputs_live w sound)))

pub rows_play : RowsDo
rows_play n config patterns sound =
    let w : Netlist = scanned Edt n config in
    let vectors = vectors_of n config (plan_of n config) patterns in
    subst (λ (nets : List ℕ). AllDo w vectors (map (λ x. x.vector) (rows_from nets all_unknown vectors))) (sym (signals_at w sound))
    (rows_do w (numbers (output_bits w.ports)) all_unknown vectors (inputs_apart w sound) (fine_list n config patterns))
