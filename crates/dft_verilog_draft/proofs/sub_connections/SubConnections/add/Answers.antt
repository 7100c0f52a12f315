use Rattle.std.proofs.Common.{ap, ◌∙◌}
use Rattle.dft_modules.specs.SubInstances.{was_named}
use Rattle.dft_verilog_draft.specs.NameSets.{has_word}
use Rattle.dft_verilog_draft.proofs.NameSetLemmas.{was_named_ports}
use Rattle.dft_verilog_draft.proofs.sub_connections.SubConnections.add.Goals as goal

pub add-requires : goal.add-requires
add-requires c =
    let word = c.args.port.now in
    ap (λ w. has_word c.self.inside.ports w) c.read.ensures ∙ ap (λ names. has_word names word) c.self.invariant
    ∙ was_named_ports c.self.inside.connections.items word ∙ ap (λ cs. was_named cs word) c.self.view_is ∙ c.requires.new
