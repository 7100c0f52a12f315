use Rattle.std.proofs.Common.{◌≡◌, Option, OnOk, sym, subst}
use Rattle.dft_netlist.specs.declared.ids.NetId.{NetId}
use Rattle.dft_verilog.specs.FinalNets.{name_unless}
use Rattle.dft_verilog.specs.SaidParts.{with_nets}
use Rattle.dft_verilog.proofs.SaidPartLemmas.{with_nets-none}
use Rattle.dft_verilog.proofs.module_nets.add_unnumbered.Goals as goal

pub returns-in-Some : goal.returns-in-Some
returns-in-Some c =
    subst (λ (o : Option NetId). c.args.made.now ≡ with_nets (name_unless o c.args.name.now) c.args.made.now) (sym c.in-Some.is) (sym (with_nets-none c.args.made.now))

pub returns-in-None : goal.returns-in-None
returns-in-None c =
    subst (λ (o : Option NetId). OnOk c.add_named.result (c.add_named.new.made ≡ with_nets (name_unless o c.args.name.now) c.args.made.now)) (sym c.in-None.is) c.add_named.ensures
