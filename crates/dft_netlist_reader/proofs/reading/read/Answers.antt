use Rattle.std.proofs.Common.{subst}
use Rattle.dft_verilog.specs.TextsSaid.{IsSaid}
use Rattle.dft_netlist_reader.proofs.ReadLemmas.{alone_stands, modules_stand}
use Rattle.dft_netlist_reader.proofs.reading.read.Goals as goal

pub returns-in_ok-finished-in-Alone-clause-joined : goal.returns-in_ok-finished-in-Alone-clause-joined
returns-in_ok-finished-in-Alone-clause-joined c =
    let said = subst (IsSaid c.args.library c.args.bytes.now) c.in-Alone.is c.in_ok-said.ensures.said in
    (alone_stands c.args.library c.args.bytes.now c.in-Alone.draft c.in_ok-finished-in-Alone.field-0 said c.in_ok-finished-in-Alone.ensures.ok).1

pub returns-in_ok-flatten-in-Modules-clause-joined : goal.returns-in_ok-flatten-in-Modules-clause-joined
returns-in_ok-flatten-in-Modules-clause-joined c =
    let said = subst (IsSaid c.args.library c.args.bytes.now) c.in-Modules.is c.in_ok-said.ensures.said in
    (modules_stand c.args.library c.args.bytes.now c.in-Modules.modules.items c.in_ok-flatten-in-Modules.field-0 said c.in_ok-flatten-in-Modules.ensures.flat).1
