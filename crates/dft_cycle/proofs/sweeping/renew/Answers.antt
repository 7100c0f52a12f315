-- Nets that do not read it keep their drivers' values.
use Rattle.std.proofs.Common.{ℕ, map, ◌≡◌, ◌<◌, ◌∙◌, ap, length, arith, subst}
use Rattle.std.proofs.lemmas.List.{get_or_read}
use Rattle.dft_base.specs.declared.tri.Tri.{Tri}
use Rattle.dft_logic.specs.declared.circuit.Op.{Op}
use Rattle.dft_logic.specs.declared.circuit.Op.TheVariants.{Free}
use Rattle.dft_behavior.specs.Settled.{value_given}
use Rattle.dft_cycle.specs.Machine.{value_at}
use Rattle.dft_logic.specs.Circuit.{Circuit, IsCircuit, cell_of, meaning, Supply, leaves_from}
use Rattle.dft_takings.specs.Views.{view_base}
use Rattle.dft_logic.specs.Tables.{list_at}
use Rattle.dft_logic.specs.CircuitShown.{circuit_of}
use Rattle.dft_logic.proofs.CircuitReads.{op_read}
use Rattle.dft_logic.proofs.FlagLemmas.{blind}
use Rattle.dft_cycle.proofs.Sweepings.{written}
use Rattle.dft_cycle.proofs.sweeping.renew.Goals as goal

pub returns-clause-given : goal.returns-clause-given
returns-clause-given c = λ k down before.
    (let x = c.args.circuit.now in
    let net : ℕ = c.args.net.0 in
    let live : net < length c.args.values.now = (let less = c.requires.live in let e = c.requires.values in omega arith) in
    let readers : c.list_of-readers.result.now ≡ list_at x.readers net = c.list_of-readers.ensures ∙ ap (λ (m : Circuit). list_at m.readers net) c.circuit.view_is in
    let base : Supply = view_base (map cell_of x.flops) c.args.view.now in
    let given : Op → Tri = λ o. value_given (leaves_from base (value_at c.args.values.now)) (value_at c.args.values.now) net (meaning o) in
    let value : c.op_value-value.result ≡ given c.index.result.now = rw (c.deref.ensures.value, ap (λ (m : Circuit). m.flops) c.circuit.view_is) at c.op_value-value.ensures in
    written x.ops base c.args.values.now net k c.op_value-value.result live (value ∙ ap given (get_or_read x.ops net c.index.result.now c.requires.live (op_read (circuit_of c.circuit.inside) x _ _ c.circuit.view_is c.index.ensures) Free))
    (blind x net k c.list_of-readers.result.now (subst IsCircuit c.circuit.view_is c.circuit.invariant) c.requires.live readers (c.mark_all.ensures.lowered k down).1) before)
