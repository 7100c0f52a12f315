use Rattle.std.proofs.Common.{◌≡◌, sym, subst}
use Rattle.dft_netlist.specs.Building.{IsUnconnected}
use Rattle.dft_parts.specs.Parts.{Making, with_pin}
use Rattle.dft_parts.specs.Shown.{making_of}
use Rattle.dft_parts.proofs.Joining.{pin_made}
use Rattle.dft_parts.proofs.parts_builder.PartsBuilder.pin.Goals as goal

pub returns : goal.returns
returns c =
    let s = making_of c.self.inside in
    subst (λ (old : Making). record s { netlist = c.connect.new.self } ≡ with_pin old c.args.instance c.args.pin c.args.net) c.self.view_is
    (pin_made s c.connect.new.self c.args.instance c.args.pin c.args.net (subst (λ (old : Making). IsUnconnected old.netlist c.args.instance c.args.pin) (sym c.self.view_is) c.requires.free) c.connect.ensures)
