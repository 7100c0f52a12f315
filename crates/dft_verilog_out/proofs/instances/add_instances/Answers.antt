use Rattle.std.proofs.Common.{◌∙◌, ap, sym, Some}
use Rattle.std.proofs.lemmas.Option.{slice_get-get_or}
use Rattle.dft_verilog_out.proofs.instances.add_instances.Goals as goal

pub add_instance-requires : goal.add_instance-requires
add_instance-requires c =
    c.requires c.loop-instance.instance-index _ (slice_get-get_or c.args.instances.now c.loop-instance.instance-index c.instance-item.result c.loop-instance-test.true ∙ ap Some (sym c.instance-item.is))
