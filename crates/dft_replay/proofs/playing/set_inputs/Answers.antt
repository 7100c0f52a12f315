-- One signal more.
use Rattle.std.proofs.Common.{◌≡◌, ◌+◌, ◌<◌, ℕ, List, ◌∙◌, sym, subst, length, get_or, arith}
use Rattle.std.proofs.lemmas.List.{length-map}
use Rattle.dft_netlist.specs.declared.ids.NetId.{NetId}
use Rattle.dft_netlist.specs.Orders.{numbers_of}
use Rattle.dft_cycle.specs.Machine.{Machine, value_at}
use Rattle.dft_replay.specs.Rows.{set_by}
use Rattle.dft_replay.specs.Vectors.{act_at}
use Rattle.dft_replay.proofs.VectorLemmas.{Told, none_told, all_told, told_more, told_same, number_of}
use Rattle.dft_replay.proofs.playing.set_inputs.Goals as goal
use Rattle.dft_replay.proofs.playing.set_inputs.Goals.{then-differ, else-differ}

pub loop-signal-init : goal.loop-signal-init
loop-signal-init c = none_told c.args.machine.now (numbers_of c.args.nets.now) c.args.acts.now c.requires.forced

pub loop-signal-preserved : goal.loop-signal-preserved
loop-signal-preserved c =
    let start : Machine = c.args.machine.now in
    let now : Machine = c.loop-signal.machine in
    let nets : List ℕ = numbers_of c.args.nets.now in
    let i : ℕ = c.loop-signal.signal in
    let net : ℕ = (get_or c.args.nets.now i (record { 0 = 0 })).0 in
    let long = length-map c.args.nets.now (λ (k : NetId). k.0) in
    let less : i < length nets = omega arith in
    let here : get_or nets i 0 ≡ net = sym (number_of c.args.nets.now i) in
    let sets : c.set_by-value.result ≡ set_by (act_at c.args.acts.now i) (value_at now.inputs net) = c.set_by-value.ensures ∙ (λ t. set_by (c.act_at.ensures t) (c.input-before.ensures t)) in
    elim c.if-differ.branch [
      | then-differ w ↦ subst (λ (m : Machine). Told start m nets c.args.acts.now (i + 1)) (sym w.machine-is)
          (told_more start now w.set.new.self nets c.args.acts.now i net c.set_by-value.result c.requires.forced c.requires.nets.differ less here c.loop-signal.invariant sets w.set.ensures)
      | else-differ w ↦ subst (λ (m : Machine). Told start m nets c.args.acts.now (i + 1)) (sym w.machine-is)
          (told_same start now nets c.args.acts.now i net c.set_by-value.result c.requires.nets.differ less here c.loop-signal.invariant sets (c.differ.ensures w.if-differ.false ∙ c.input-before.ensures))
    ]

pub returns-clause-inputs : goal.returns-clause-inputs
returns-clause-inputs c =
    let long = length-map c.args.nets.now (λ (k : NetId). k.0) in
    all_told c.args.machine.now c.loop-signal.machine (numbers_of c.args.nets.now) c.args.acts.now c.loop-signal.signal c.requires.nets.differ (c.requires.acts ∙ sym long) (omega arith) c.loop-signal.invariant
