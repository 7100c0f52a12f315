use Rattle.std.proofs.Common.{◌∙◌, sym}
use Rattle.dft_netlist.specs.Connections.{input_net}
use Rattle.dft_cubes.specs.Taking.{cube_of}
use Rattle.dft_cubes.proofs.GiveLemmas.{port_special, port_twice}
use Rattle.dft_cubes.proofs.giving.give_port.Goals as goal

pub returns-then-has_port-clause-refused : goal.returns-then-has_port-clause-refused
returns-then-has_port-clause-refused c =
    let cube = cube_of c.args.draft.now in
    let given = c.requires.marked.ports_given in
    port_twice c.args.here.now.config.now cube c.args.here.now.place c.args.name.now c.in_ok-from_slice-2.field-0 (input_net c.args.here.now.design.now c.args.name.now) c.in-Some.port
    (sym c.input.ensures.net ∙ c.in-Some.is) (sym (c.has_port.ensures cube.ports given) ∙ c.if-has_port.true) c.in_ok-from_slice-2.ensures

pub returns-then-is_special-clause-refused : goal.returns-then-is_special-clause-refused
returns-then-is_special-clause-refused c =
    let cube = cube_of c.args.draft.now in
    let given = c.requires.marked.ports_given in
    port_special c.args.here.now.config.now cube c.args.here.now.place c.args.name.now c.in_ok-from_slice-3.field-0 (input_net c.args.here.now.design.now c.args.name.now) c.in-Some.port
    (sym c.input.ensures.net ∙ c.in-Some.is) (sym (c.has_port.ensures cube.ports given) ∙ c.if-has_port.false) (sym c.is_special.ensures ∙ c.if-is_special.true) c.in_ok-from_slice-3.ensures
