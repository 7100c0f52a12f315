use Rattle.std.proofs.Common.{ap, ◌∙◌}
use Rattle.dft_netlist.specs.NameTables.{Store, look_up}
use Rattle.dft_netlist.proofs.StoreLemmas.{look_up-map}
use Rattle.dft_netlist.proofs.name_store.NameStore.get.Goals as goal

pub returns : goal.returns
returns c =
    c.copied.ensures ∙ c.get.ensures.value ∙ look_up-map (λ k. k.name) c.args.name.now c.self.inside.names.entries
    ∙ ap (λ (s : Store). look_up s.entries c.args.name.now) c.self.view_is
