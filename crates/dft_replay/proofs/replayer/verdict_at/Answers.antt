-- One vector more, or the verdict.
use Rattle.std.proofs.Common.{◌≡◌, ◌<◌, ◌∙◌, ℕ, List, [], sym, ap, subst, length, map, get_or, rules, arith}
use Rattle.std.proofs.lemmas.List.{length-map}
use Rattle.dft_netlist.specs.declared.ids.NetId.{NetId}
use Rattle.dft_netlist.specs.Netlist.{Netlist}
use Rattle.dft_behavior.specs.Logic.{logic_of}
use Rattle.dft_netlist.specs.Orders.{numbers_of}
use Rattle.dft_cycle.specs.Machine.{Machine, AreNets, logic}
use Rattle.dft_cycle.proofs.MachineRounds.{start_forced}
use Rattle.dft_patterns.specs.declared.act.Act.{Act}
use Rattle.dft_replay.specs.declared.verdict.Verdict.TheVariants.{Pass}
use Rattle.dft_cycle.specs.Machine.{value_at}
use Rattle.dft_replay.specs.Rows.{ports_in}
use Rattle.std.specs.Prelude.{count_by}
use Rattle.dft_replay.specs.Vectors.{is_compared, net_at, clocks_of, AreClocks}
use Rattle.dft_replay.proofs.VectorLemmas.{clock_live, clock_nets_live, are_clocks}
use Rattle.dft_replay.proofs.ReplayLemmas.{count_fits, few_counted, none_left, read_at, long_at, machine_means, ends, goes_on, starts}
use Rattle.dft_replay.proofs.replayer.verdict_at.Goals as goal

pub prepare-requires : goal.prepare-requires
prepare-requires c =
    let nets : List NetId = c.args.nets.now in
    let vectors : List (List Act) = c.args.vectors.now in
    let are : c.deref-2.result.now ≡ map (net_at nets) (clocks_of (length nets) vectors) = c.deref-2.ensures.value ∙ c.in_ok-clock_nets.ensures ∙ ap (map (net_at nets)) (c.deref.ensures.value ∙ c.in_ok-clocks.ensures) in
    subst (AreNets (length c.args.design.now.nets)) (sym are) (clock_nets_live (length c.args.design.now.nets) nets (clocks_of (length nets) vectors) c.requires.nets.live (λ s has. clock_live vectors (length nets) s has))

pub loop-vector-init : goal.loop-vector-init
loop-vector-init c =
    let n : Netlist = c.args.design.now in
    let nets : List NetId = c.args.nets.now in
    let vectors : List (List Act) = c.args.vectors.now in
    let m : Machine = c.in_ok-machine.machine in
    let start = c.in_ok-machine.ensures in
    let are : c.deref-2.result.now ≡ map (net_at nets) (clocks_of (length nets) vectors) = c.deref-2.ensures.value ∙ c.in_ok-clock_nets.ensures ∙ ap (map (net_at nets)) (c.deref.ensures.value ∙ c.in_ok-clocks.ensures) in
    record {
      netlist = start.netlist;
      clocks = start.clocks ∙ are;
      forced = (start_forced n c.deref-2.result.now m start).0;
      room = search rules;
      rest = λ verdict h. starts c.args.unknowns (logic_of n (ports_in (numbers_of nets) vectors)) n c.deref-2.result.now m (numbers_of nets) vectors verdict start h;
      few = omega arith;
    }

pub play-decision-requires-clause-clocks : goal.play-decision-requires-clause-clocks
play-decision-requires-clause-clocks c =
    let nets : List NetId = c.args.nets.now in
    let vectors : List (List Act) = c.args.vectors.now in
    let v : ℕ = c.loop-vector.vector in
    let acts : List Act = c.as_slice-acts.result.now in
    let less : v < length vectors = c.loop-vector-test.true in
    let here : get_or vectors v [] ≡ acts = read_at vectors v c.index-vectors-vector.result acts less c.index-vectors-vector.is c.as_slice-acts.ensures in
    subst (λ (signals : List ℕ). AreClocks c.loop-vector.machine nets signals acts) (sym (c.deref-in-loop-vector.ensures.value ∙ c.in_ok-clocks.ensures))
    (are_clocks c.loop-vector.machine nets vectors v acts c.loop-vector.invariant.clocks less here (long_at vectors v (length nets) acts c.requires.acts less here))

pub returns-in-Some-clause-verdict : goal.returns-in-Some-clause-verdict
returns-in-Some-clause-verdict c =
    let n : Netlist = c.args.design.now in
    let nets : List NetId = c.args.nets.now in
    let vectors : List (List Act) = c.args.vectors.now in
    let v : ℕ = c.loop-vector.vector in
    let acts : List Act = c.as_slice-acts.result.now in
    let m : Machine = c.loop-vector.machine in
    let less : v < length vectors = c.loop-vector-test.true in
    let here : get_or vectors v [] ≡ acts = read_at vectors v c.index-vectors-vector.result acts less c.index-vectors-vector.is c.as_slice-acts.ensures in
    let means : logic m ≡ logic_of n (ports_in (numbers_of nets) vectors) = machine_means n m nets vectors c.loop-vector.invariant.netlist c.loop-vector.invariant.clocks c.requires.nets.differ c.requires.acts in
    c.loop-vector.invariant.rest c.in-Some.verdict
    (ends c.args.unknowns (logic_of n (ports_in (numbers_of nets) vectors)) (numbers_of nets) vectors v c.loop-vector.compared acts m c.play-decision.new.machine c.play-decision.result c.in-Some.verdict means less here c.play-decision.ensures.played c.in-Some.is)

pub loop-vector-preserved : goal.loop-vector-preserved
loop-vector-preserved c =
    let n : Netlist = c.args.design.now in
    let nets : List NetId = c.args.nets.now in
    let vectors : List (List Act) = c.args.vectors.now in
    let v : ℕ = c.loop-vector.vector in
    let acts : List Act = c.as_slice-acts.result.now in
    let m : Machine = c.loop-vector.machine in
    let played = c.play-decision.ensures.played in
    let less : v < length vectors = c.loop-vector-test.true in
    let here : get_or vectors v [] ≡ acts = read_at vectors v c.index-vectors-vector.result acts less c.index-vectors-vector.is c.as_slice-acts.ensures in
    let same : length acts ≡ length nets = long_at vectors v (length nets) acts c.requires.acts less here in
    let means : logic m ≡ logic_of n (ports_in (numbers_of nets) vectors) = machine_means n m nets vectors c.loop-vector.invariant.netlist c.loop-vector.invariant.clocks c.requires.nets.differ c.requires.acts in
    let counted : c.len-in-loop-vector.result ≡ count_by is_compared acts = (let size = c.play-decision.ensures.counted in omega arith) in
    record {
      netlist = played.netlist ∙ c.loop-vector.invariant.netlist;
      clocks = played.clocks ∙ c.loop-vector.invariant.clocks;
      forced = played.forced;
      room = search rules;
      rest = λ verdict later. c.loop-vector.invariant.rest verdict
          (goes_on c.args.unknowns (logic_of n (ports_in (numbers_of nets) vectors)) (numbers_of nets) vectors v c.loop-vector.compared c.len-in-loop-vector.result acts m c.play-decision.new.machine c.play-decision.result verdict means less here (same ∙ sym (length-map nets (λ (k : NetId). k.0))) counted played c.in_default.is later);
      few = few_counted c.loop-vector.compared v (length nets) c.len-in-loop-vector.result acts c.loop-vector.invariant.few counted same;
    }

pub overflow_add-compared : goal.overflow_add-compared
overflow_add-compared c =
    let nets : List NetId = c.args.nets.now in
    let vectors : List (List Act) = c.args.vectors.now in
    let v : ℕ = c.loop-vector.vector in
    let acts : List Act = c.as_slice-acts.result.now in
    let less : v < length vectors = c.loop-vector-test.true in
    let here : get_or vectors v [] ≡ acts = read_at vectors v c.index-vectors-vector.result acts less c.index-vectors-vector.is c.as_slice-acts.ensures in
    let same : length acts ≡ length nets = long_at vectors v (length nets) acts c.requires.acts less here in
    let counted : c.len-in-loop-vector.result ≡ count_by is_compared acts = (let size = c.play-decision.ensures.counted in omega arith) in
    count_fits c.loop-vector.compared v (length vectors) (length nets) c.len-in-loop-vector.result acts c.loop-vector.invariant.few counted same less c.requires.vectors c.requires.signals

pub returns-clause-verdict : goal.returns-clause-verdict
returns-clause-verdict c =
    let n : Netlist = c.args.design.now in
    let nets : List NetId = c.args.nets.now in
    let vectors : List (List Act) = c.args.vectors.now in
    let m : Machine = c.loop-vector.machine in
    c.loop-vector.invariant.rest (Pass c.loop-vector.compared)
    (none_left c.args.unknowns (logic_of n (ports_in (numbers_of nets) vectors)) (value_at m.cells) (value_at m.inputs) c.loop-vector.vector c.loop-vector.compared (numbers_of nets) vectors c.loop-vector-test.false)
