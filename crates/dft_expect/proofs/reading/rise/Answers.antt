-- What is read is what has risen.
use Rattle.std.proofs.Common.{◌∙◌, ◌++◌, List, ap, map}
use Rattle.dft_base.specs.declared.tri.Tri.{Tri}
use Rattle.dft_netlist.specs.declared.ids.NetId.{NetId}
use Rattle.dft_evaluator.specs.Evaluations.{value_at}
use Rattle.dft_expect.proofs.ReadLemmas.{risen}
use Rattle.dft_expect.proofs.reading.rise.Goals as goal

pub returns : goal.returns
returns c = λ pattern count ready.
    (let fixed = c.args.fixed.now in
    let values = value_at c.args.evaluator.now c.args.place in
    risen fixed.design.now fixed.config.now pattern count c.args.domain values c.clock_of.result fixed.reads.now fixed.outputs.now c.args.response.now _ c.requires.fixed.can c.requires.fixed.reads c.requires.fixed.outputs c.clock_of.ensures
    (c.from_vec.ensures ∙ (rw c.as_slice-before.ensures at c.in_ok-cells.ensures))
    (c.from_vec-2.ensures ∙ c.in_ok-push_values.ensures ∙ ap (λ (l : List Tri). l ++ map (λ (net : NetId). values net.0) fixed.outputs.now) (c.in_ok-outputs.ensures.items ∙ c.as_slice.ensures)) ready)
