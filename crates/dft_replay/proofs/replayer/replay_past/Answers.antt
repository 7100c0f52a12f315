-- The verdict at the nets of the signals is that of the patterns, and every design has an order.
use Rattle.std.proofs.Common.{◌≡◌, ◌∙◌, ℕ, List, sym, ap, subst, length}
use Rattle.std.specs.Prelude.{All}
use Rattle.dft_netlist.specs.Netlist.{Netlist}
use Rattle.dft_netlist.proofs.RankLemmas.{order_ranks}
use Rattle.dft_netlist.specs.Orders.{numbers_of}
use Rattle.dft_cycle.specs.Machine.{AreNets}
use Rattle.dft_patterns.specs.declared.act.Act.{Act}
use Rattle.dft_patterns.specs.Patterns.{Patterns}
use Rattle.dft_replay.specs.Fits.{first_misfit}
use Rattle.dft_replay.specs.Rows.{nets_of}
use Rattle.dft_replay.specs.Verdicts.{EndsAt, IsPlaced}
use Rattle.dft_replay.proofs.SignalLemmas.{signals_are, signal_count, few_signals, vectors_long, patterns_verdict}
use Rattle.dft_replay.proofs.replayer.replay_past.Goals as goal

pub verdict_at-requires-clause-ordered : goal.verdict_at-requires-clause-ordered
verdict_at-requires-clause-ordered c = order_ranks c.args.design.now c.soundness.ensures.ordered.order c.soundness.ensures.netlist c.soundness.ensures.ordered.is

pub verdict_at-requires-clause-nets : goal.verdict_at-requires-clause-nets
verdict_at-requires-clause-nets c =
    let n : Netlist = c.args.design.now in
    let p : Patterns = c.args.patterns.now in
    signals_are n p.signals c.deref.result.now c.requires.distinct (ap numbers_of c.deref.ensures.value ∙ c.in_ok-nets.ensures.nets ∙ ap (nets_of n) c.signals.ensures) (subst (AreNets (length n.nets)) (sym c.deref.ensures.value) c.in_ok-nets.ensures.live)

pub verdict_at-requires-clause-signals : goal.verdict_at-requires-clause-signals
verdict_at-requires-clause-signals c =
    let n : Netlist = c.args.design.now in
    let p : Patterns = c.args.patterns.now in
    let live : AreNets (length n.nets) c.deref.result.now = subst (AreNets (length n.nets)) (sym c.deref.ensures.value) c.in_ok-nets.ensures.live in
    let are : numbers_of c.deref.result.now ≡ nets_of n p.signals = ap numbers_of c.deref.ensures.value ∙ c.in_ok-nets.ensures.nets ∙ ap (nets_of n) c.signals.ensures in
    few_signals n c.deref.result.now c.soundness.ensures.netlist (signals_are n p.signals c.deref.result.now c.requires.distinct are live).differ live

pub verdict_at-requires-clause-acts : goal.verdict_at-requires-clause-acts
verdict_at-requires-clause-acts c =
    let n : Netlist = c.args.design.now in
    let p : Patterns = c.args.patterns.now in
    subst (λ (vectors : List (List Act)). All (λ acts. length acts ≡ length c.deref.result.now) vectors) (sym c.vectors.ensures)
    (vectors_long n p.signals p.vectors c.deref.result.now c.requires.fits (ap numbers_of c.deref.ensures.value ∙ c.in_ok-nets.ensures.nets ∙ ap (nets_of n) c.signals.ensures))

pub returns : goal.returns
returns c =
    let n : Netlist = c.args.design.now in
    let p : Patterns = c.args.patterns.now in
    let are : numbers_of c.deref.result.now ≡ nets_of n p.signals = ap numbers_of c.deref.ensures.value ∙ c.in_ok-nets.ensures.nets ∙ ap (nets_of n) c.signals.ensures in
    let ends : EndsAt c.args.unknowns n p c.in_ok-verdict.verdict = patterns_verdict c.args.unknowns n p c.deref.result.now p.signals c.vectors.result.now c.in_ok-verdict.verdict are (λ t. p.signals) c.vectors.ensures c.in_ok-verdict.ensures.verdict in
    record {
      fit = sym (ap (λ (signals : _). first_misfit n signals) c.signals.ensures) ∙ c.in_ok-nets.ensures.fit;
      ends = ends;
      placed = subst (λ (vectors : List (List Act)). IsPlaced (length vectors) (length p.signals) c.in_ok-verdict.verdict) c.vectors.ensures
          (subst (λ (count : ℕ). IsPlaced (length c.vectors.result.now) count c.in_ok-verdict.verdict) (signal_count n p.signals c.deref.result.now are) c.in_ok-verdict.ensures.placed);
      misfit = tt;
    }
