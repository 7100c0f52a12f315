use Rattle.std.proofs.Common.{◌∙◌, ap, subst}
use Rattle.dft_netlist.specs.Netlist.{Netlist}
use Rattle.dft_netlist.specs.Orders.{IsOrder}
use Rattle.dft_netlist.specs.Sound.{IsNetlist}
use Rattle.dft_insert.specs.declared.style.Style.TheVariants.{Edt}
use Rattle.dft_insert.specs.Statements.{scanned}
use Rattle.dft_stitch.specs.Planning.{Planned}
use Rattle.dft_top.proofs.compiling.prepared.Goals as goal

pub returns-in-Ok : goal.returns-in-Ok
returns-in-Ok c =
    let given = c.in-Ok.ensures in
    let made = c.soundness.ensures in
    let same = c.scanned.ensures ∙ ap (λ (p : Planned). scanned Edt p.design p.config) given.prepared in record {
      is = given.prepared;
      ready = given.ready;
      accepted = given.accepted;
      sound = subst IsNetlist same made.netlist;
      order = made.ordered.order;
      ordered = subst (λ (w : Netlist). IsOrder w made.ordered.order) same made.ordered.is;
    }
