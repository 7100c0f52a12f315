use Rattle.std.proofs.Common.{codes}
use Rattle.dft_config_out.specs.Written.{compactor_text, groups_text, number_line}
use Rattle.dft_config_out.proofs.ItemLemmas.{three_added}
use Rattle.dft_config_out.proofs.sections.add_compactor.Goals as goal

pub returns : goal.returns
unfolding compactor_text
returns c =
    let compactor = c.args.compactor.now in
    three_added c.args.out.now.items c.add_listed_groups.new.out.items c.add_small.new.out.items c.extend_from_slice.new.self.items (groups_text compactor) (number_line (codes "\nmask_inputs = ") compactor.mask_inputs) (codes "\n")
    c.in_ok-add_listed_groups.ensures c.in_ok-add_small.ensures c.in_ok-extend_from_slice.ensures.items
