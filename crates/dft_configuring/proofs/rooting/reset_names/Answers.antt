use Rattle.std.proofs.Common.{◌≡◌, ◌∙◌, ℕ, List, IfOk, ap, subst}
use Rattle.dft_base.specs.Lexing.{Text}
use Rattle.dft_configure.specs.Found.{numbers}
use Rattle.dft_configure.specs.Roots.{domains_of, resets_of}
use Rattle.dft_configuring.specs.Rooted.{reset_names, names_of_nets}
use Rattle.dft_configuring.proofs.RootsRange.{resets_live, nets_live}
use Rattle.dft_configuring.proofs.rooting.reset_names.Goals as goal

pub names_of_nets-requires : goal.names_of_nets-requires
names_of_nets-requires c = nets_live c.args.design.now c.deref.result.now (resets_of c.args.design.now (domains_of c.args.design.now)) (ap numbers c.deref.ensures.value ∙ c.requires.resets) (resets_live c.args.design.now)

pub returns : goal.returns
unfolding reset_names
returns c =
    subst (λ (nets : List ℕ). IfOk c.names_of_nets.result (λ (names : List Text). names ≡ names_of_nets c.args.design.now nets)) (ap numbers c.deref.ensures.value ∙ c.requires.resets) c.names_of_nets.ensures
