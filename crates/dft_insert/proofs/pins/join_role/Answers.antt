use Rattle.std.proofs.Common.{◌∙◌, ap}
use Rattle.dft_netlist.specs.Connections.{same_role}
use Rattle.dft_scan_frame.specs.Pins.{number_of}
use Rattle.dft_insert.proofs.MadeParts.{role_pin_made, role_pin_none}
use Rattle.dft_insert.proofs.pins.join_role.Goals as goal

pub returns-in-Some-clause-makes : goal.returns-in-Some-clause-makes
returns-in-Some-clause-makes c =
    role_pin_made c.args.design.now c.args.cell c.args.role c.args.net c.in-Some.pin c.args.parts.now c.join.new.self (c.in-Some.ensures ∙ ap (number_of (same_role c.args.role) 0) c.scan_pins.ensures.roles) c.join.ensures

pub returns-in-None-clause-makes : goal.returns-in-None-clause-makes
returns-in-None-clause-makes c =
    role_pin_none c.args.design.now c.args.cell c.args.role c.args.net c.args.parts.now (c.in-None.ensures ∙ ap (number_of (same_role c.args.role) 0) c.scan_pins.ensures.roles)
