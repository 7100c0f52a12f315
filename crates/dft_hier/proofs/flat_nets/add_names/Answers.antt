use Rattle.std.proofs.Common.{◌++◌}
use Rattle.dft_hier.proofs.GrowLemmas.{name_added, names_added}
use Rattle.dft_hier.proofs.flat_nets.add_names.Goals as goal

pub loop-name-preserved : goal.loop-name-preserved
loop-name-preserved c =
    name_added (λ name. c.args.prefix.now ++ name) c.args.names.now c.loop-name.name-index c.name-item.result c.in_ok-prefixed.field-0 c.in_ok-net.field-0 c.args.builder.now c.loop-name.builder c.net.new.self c.loop-name-test.true c.name-item.is c.in_ok-prefixed.ensures c.in_ok-net.ensures.ok c.in_ok-net.ensures.refused c.loop-name.invariant

pub returns : goal.returns
returns c = names_added (λ name. c.args.prefix.now ++ name) c.args.names.now c.loop-name.name-index c.args.builder.now c.loop-name.builder c.loop-name-test.false c.loop-name.invariant
