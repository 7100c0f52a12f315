use Rattle.std.proofs.Common.{◌≡◌, ◌∙◌, ◌+◌, List, length, ap, arith}
use Rattle.dft_base.specs.Lexing.{Text}
use Rattle.dft_netlist.specs.NetNumbers.{nets_from}
use Rattle.dft_modules.specs.Modules.{Module}
use Rattle.dft_verilog_draft.proofs.FreeLemmas.{OnOk-then}
use Rattle.dft_verilog.proofs.SaidPartLemmas.{declared_step}
use Rattle.dft_verilog.proofs.module_nets.add_declared.Goals as goal

pub returns-clause-made : goal.returns-clause-made
returns-clause-made c =
    let count = c.net_count-count.result in
    let bits : c.in_ok-bits.bits ≡ nets_from (length c.args.made.now.nets) count = c.in_ok-bits.ensures ∙ ap (λ (ns : List Text). nets_from (length ns) count) c.nets.ensures in
    OnOk-then c.add_run.result _ _
    (λ e. declared_step c.args.names.now c.args.name.now c.in_ok-name.name c.args.declared count c.in_ok-bits.bits c.args.made.now c.add_port.new.self c.add_run.new.made c.in_ok-name.ensures c.net_count-count.ensures.count bits c.in_ok-add_port.ensures.ok e)
    c.add_run.ensures.made

pub returns-clause-few : goal.returns-clause-few
returns-clause-few c =
    OnOk-then c.add_run.result (length c.add_run.new.made.nets ≡ length c.add_port.new.self.nets + c.net_count-count.result) _
    (λ e. omega (arith, e, ap (λ (m : Module). length m.nets) c.in_ok-add_port.ensures.ok, c.net_count-count.ensures.few)) c.add_run.ensures.count
