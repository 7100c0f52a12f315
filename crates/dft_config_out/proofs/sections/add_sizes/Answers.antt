use Rattle.std.proofs.Common.{codes}
use Rattle.dft_config_out.specs.Written.{number_line, sizes_text}
use Rattle.dft_config_out.proofs.ItemLemmas.{two_added}
use Rattle.dft_config_out.proofs.sections.add_sizes.Goals as goal

pub returns : goal.returns
unfolding sizes_text
returns c =
    let ring = c.args.ring.now in
    two_added c.args.out.now.items c.add_small.new.out.items c.add_small-2.new.out.items (number_line (codes "\n[ring]\nstages = ") ring.stages) (number_line (codes "\nchannels = ") ring.channels) c.in_ok-add_small.ensures c.in_ok-add_small-2.ensures
