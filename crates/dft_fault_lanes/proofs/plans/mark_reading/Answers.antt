-- The steer's net, what cells read and what is compared is marked, and stays so.
use Rattle.std.proofs.Common.{ℕ, ◌≡◌, ◌∙◌, ap, length, inl, refl, sym, subst, arith}
use Rattle.dft_logic.specs.Circuit.{Circuit}
use Rattle.dft_replay.specs.Vectors.{AreSignals}
use Rattle.dft_fault_lanes.proofs.MarkLemmas.{reads_marked, enables_marked, net_marked}
use Rattle.dft_fault_lanes.proofs.plans.mark_reading.Goals as goal

pub mark_takers-requires : goal.mark_takers-requires
mark_takers-requires c = rw (c.deref.ensures.value, ap (λ (m : Circuit). m.flops) c.circuit.view_is) c.requires.cells

pub mark_compared-requires-clause-nets : goal.mark_compared-requires-clause-nets
mark_compared-requires-clause-nets c = subst (λ (n : ℕ). AreSignals n c.args.reading.nets.now) (sym (c.mark_takers.ensures.size ∙ c.mark_net.ensures.size ∙ c.requires.marked)) c.requires.nets

pub returns-clause-steered : goal.returns-clause-steered
returns-clause-steered c =
    net_marked (length c.args.circuit.now.ops) c.mark_compared.new.marked c.args.reading.steer.net.0
    (λ live. c.mark_compared.ensures.kept _ (c.mark_takers.ensures.kept _ (c.mark_net.ensures.all _ (omega (arith, live, c.requires.marked)) (inl refl))))

pub returns-clause-enables : goal.returns-clause-enables
returns-clause-enables c =
    let x = c.args.circuit.now in
    let size : length c.mark_net.new.marked ≡ length x.ops = c.mark_net.ensures.size ∙ c.requires.marked in
    λ cell. enables_marked x.flops (length x.ops) c.mark_compared.new.marked cell
    (λ k near live h. (let marks = (rw (c.deref.ensures.value, ap (λ (m : Circuit). m.flops) c.circuit.view_is) at c.mark_takers.ensures.enables) cell near in c.mark_compared.ensures.kept k (marks.all k (omega (arith, size, live)) h)))

pub returns-clause-reads : goal.returns-clause-reads
returns-clause-reads c =
    let x = c.args.circuit.now in
    let size : length c.mark_net.new.marked ≡ length x.ops = c.mark_net.ensures.size ∙ c.requires.marked in
    λ cell stays. reads_marked x.flops c.args.reading.steer (length x.ops) c.mark_compared.new.marked cell
    (λ k near live h. (let marks = (rw (c.deref.ensures.value, ap (λ (m : Circuit). m.flops) c.circuit.view_is) at c.mark_takers.ensures.reads) cell near stays in c.mark_compared.ensures.kept k (marks.all k (omega (arith, size, live)) h)))
