use Rattle.std.proofs.Common.{◌∙◌, sym, subst, ap}
use Rattle.dft_netlist.specs.Netlist.{Netlist}
use Rattle.dft_config.specs.Config.{Config}
use Rattle.dft_scan_frame.specs.Statements.{CanFinish}
use Rattle.dft_insert.specs.Scanned.{scanned_netlist}
use Rattle.dft_insert.proofs.Finished.{can_be_finished}
use Rattle.dft_insert.proofs.insertion.insert.Goals as goal

pub finish-requires : goal.finish-requires
finish-requires c =
    let n : Netlist = c.args.design.now in
    let config : Config = c.args.config.now in
    subst CanFinish (sym (c.in_ok-builder.ensures.netlist ∙ ap (scanned_netlist c.args.style n config) c.requires.planned)) (can_be_finished c.args.style n config c.see_ready.ensures)
