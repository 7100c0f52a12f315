-- The flip-flop is that of the pins.
use Rattle.std.proofs.Common.{List, map, ap, ◌∙◌}
use Rattle.dft_logic.specs.declared.wires.Wire.{Wire}
use Rattle.dft_logic.specs.Compiling.{Wired, ports_by, wired_at}
use Rattle.dft_logic.proofs.BuildLemmas.{flop_is}
use Rattle.dft_logic.proofs.building.instance_flop.Goals as goal

pub returns : goal.returns
returns c =
    let wired : List Wire → List Wired = map wired_at in
    flop_is c.args.traced.design.now (ports_by c.args.traced.flags.now) c.args.number.0 c.kind.result (map wired_at c.deref.result.now) c.flop_at-flop.result c.flop_at-flop.ensures c.soundness.ensures.netlist c.soundness.ensures.library c.kind.ensures
    (ap wired c.deref.ensures.value ∙ c.in_ok-wires.ensures)
