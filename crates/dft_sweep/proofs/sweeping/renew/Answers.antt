-- Needed nets that do not read it keep their values.
use Rattle.std.proofs.Common.{ℕ, ◌<◌, ◌∙◌, inl, inr, ap, subst, length, arith}
use Rattle.dft_logic.specs.Circuit.{Circuit, IsCircuit, meaning, op_at}
use Rattle.dft_logic.specs.Tables.{list_at}
use Rattle.dft_logic.proofs.FlagLemmas.{blind}
use Rattle.dft_sweep.specs.Fields.{bit_at, meaning_at, sources_of}
use Rattle.dft_sweep.proofs.Sweeps.{reads_with, written}
use Rattle.dft_sweep.proofs.sweeping.renew.Goals as goal

pub returns-clause-given : goal.returns-clause-given
returns-clause-given c = λ k down before needs.
    (let f = c.args.field.now in
    let x = f.circuit.now in
    let net : ℕ = c.args.net.0 in
    let live : net < length c.args.values.now = (let less = c.requires.live in let e = c.requires.values in omega arith) in
    written (meaning_at f) (sources_of f.sources) c.args.values.now net k c.value_of-value.result live c.value_of-value.ensures
    (λ has. blind x net k c.list_of-readers.result.now (subst IsCircuit c.circuit.view_is c.circuit.invariant) c.requires.live (c.list_of-readers.ensures ∙ ap (λ (m : Circuit). list_at m.readers net) c.circuit.view_is) (c.mark_all.ensures.marked k needs down) (reads_with (bit_at f.stuck k) (meaning (op_at x.ops k)) net has)) (elim before [ inl e ↦ inl e | inr is ↦ inr (is needs) ]))
