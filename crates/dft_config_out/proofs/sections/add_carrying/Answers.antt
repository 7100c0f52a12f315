use Rattle.std.proofs.Common.{◌≡◌, ◌++◌, ◌∙◌, ap, codes}
use Rattle.dft_base.specs.Lexing.{Text}
use Rattle.dft_config_out.specs.Written.{carrying_text, port_line}
use Rattle.dft_config_out.proofs.ItemLemmas.{three_added}
use Rattle.dft_config_out.proofs.sections.add_carrying.Goals as goal

pub returns : goal.returns
unfolding carrying_text
returns c =
    let line-0 = port_line (codes "channel = ") c.args.names.now.channel in
    let e-0 : c.add_port.new.out.items ≡ c.args.out.now.items ++ line-0 = c.in_ok-add_port.ensures ∙ ap (λ (t : Text). c.args.out.now.items ++ port_line (codes "channel = ") t) c.as_slice.ensures.bytes in
    let line-1 = port_line (codes "mask = ") c.args.names.now.mask in
    let e-1 : c.add_port-2.new.out.items ≡ c.add_port.new.out.items ++ line-1 = c.in_ok-add_port-2.ensures ∙ ap (λ (t : Text). c.add_port.new.out.items ++ port_line (codes "mask = ") t) c.as_slice-2.ensures.bytes in
    let line-2 = port_line (codes "output = ") c.args.names.now.output in
    let e-2 : c.add_port-3.new.out.items ≡ c.add_port-2.new.out.items ++ line-2 = c.in_ok-add_port-3.ensures ∙ ap (λ (t : Text). c.add_port-2.new.out.items ++ port_line (codes "output = ") t) c.as_slice-3.ensures.bytes in
    three_added c.args.out.now.items c.add_port.new.out.items c.add_port-2.new.out.items c.add_port-3.new.out.items line-0 line-1 line-2 e-0 e-1 e-2
