use Rattle.std.proofs.Common.{codes}
use Rattle.dft_config_out.specs.Written.{loading_text, number_line}
use Rattle.dft_config_out.proofs.ItemLemmas.{three_added}
use Rattle.dft_config_out.proofs.sections.add_loading.Goals as goal

pub returns : goal.returns
unfolding loading_text
returns c =
    let made = c.args.made.now in
    three_added c.args.out.now.items c.add_short.new.out.items c.add_short-2.new.out.items c.extend_from_slice.new.self.items (number_line (codes "\nchains = ") made.chains) (number_line (codes "\nwarm = ") made.warm)
    (codes "\nwindow = 16\nfill = \"seed\"\nseed = 1\n") c.in_ok-add_short.ensures c.in_ok-add_short-2.ensures c.in_ok-extend_from_slice.ensures.items
