use Rattle.std.proofs.Common.{◌≡◌, Option, OnOk, sym, subst}
use Rattle.dft_netlist_text.specs.declared.text.Declared.{Declared}
use Rattle.dft_verilog.specs.SaidParts.{with_port}
use Rattle.dft_verilog.proofs.SaidPartLemmas.{with_port-none}
use Rattle.dft_verilog.proofs.module_nets.add_port.Goals as goal

pub returns-in-Some-clause-made : goal.returns-in-Some-clause-made
returns-in-Some-clause-made c =
    subst (λ (o : Option Declared). OnOk c.add_declared.result (c.add_declared.new.made ≡ with_port c.args.names.now c.args.name.now o c.args.made.now)) (sym c.in-Some.is) c.add_declared.ensures.made

pub returns-in-None-clause-made : goal.returns-in-None-clause-made
returns-in-None-clause-made c =
    subst (λ (o : Option Declared). c.args.made.now ≡ with_port c.args.names.now c.args.name.now o c.args.made.now) (sym c.in-None.is) (sym (with_port-none c.args.names.now c.args.name.now c.args.made.now))
