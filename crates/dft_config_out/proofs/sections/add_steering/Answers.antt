use Rattle.std.proofs.Common.{◌≡◌, ◌++◌, ◌∙◌, ap, codes}
use Rattle.dft_base.specs.Lexing.{Text}
use Rattle.dft_config_out.specs.Written.{port_line, steering_text}
use Rattle.dft_config_out.proofs.ItemLemmas.{three_added}
use Rattle.dft_config_out.proofs.sections.add_steering.Goals as goal

pub returns : goal.returns
unfolding steering_text
returns c =
    let line-0 = port_line (codes "\n[names]\nscan_enable = ") c.args.names.now.scan_enable in
    let e-0 : c.add_port.new.out.items ≡ c.args.out.now.items ++ line-0 = c.in_ok-add_port.ensures ∙ ap (λ (t : Text). c.args.out.now.items ++ port_line (codes "\n[names]\nscan_enable = ") t) c.as_slice.ensures.bytes in
    let line-1 = port_line (codes "edt_clock = ") c.args.names.now.edt_clock in
    let e-1 : c.add_port-2.new.out.items ≡ c.add_port.new.out.items ++ line-1 = c.in_ok-add_port-2.ensures ∙ ap (λ (t : Text). c.add_port.new.out.items ++ port_line (codes "edt_clock = ") t) c.as_slice-2.ensures.bytes in
    let line-2 = port_line (codes "edt_update = ") c.args.names.now.edt_update in
    let e-2 : c.add_port-3.new.out.items ≡ c.add_port-2.new.out.items ++ line-2 = c.in_ok-add_port-3.ensures ∙ ap (λ (t : Text). c.add_port-2.new.out.items ++ port_line (codes "edt_update = ") t) c.as_slice-3.ensures.bytes in
    three_added c.args.out.now.items c.add_port.new.out.items c.add_port-2.new.out.items c.add_port-3.new.out.items line-0 line-1 line-2 e-0 e-1 e-2
