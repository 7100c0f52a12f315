use Rattle.std.proofs.Common.{[], Some, length, subst, sym, ◌∙◌}
use Rattle.dft_netlist.specs.declared.instance.CellRef.TheVariants.{Gate}
use Rattle.dft_netlist.specs.Sound.{IsInstance}
use Rattle.dft_parts.proofs.Fitting.{gate_fits}
use Rattle.dft_parts.proofs.parts_builder.PartsBuilder.gate.Goals as goal

pub instance-requires : goal.instance-requires
instance-requires c =
    let n = c.args.self.now.netlist in
    subst (IsInstance n.library (length n.nets) (Some []) (Gate c.args.kind (length c.args.inputs.now))) (sym (c.as_slice.ensures ∙ c.in_ok-pins.ensures))
    (gate_fits n.library (length n.nets) c.args.kind c.args.inputs.now c.args.output c.requires.primitive c.requires.width c.requires.inputs c.requires.output)
