use Rattle.std.proofs.Common.{◌≡◌, ◌∙◌, ℕ, List, IfOk, ap, subst}
use Rattle.dft_base.specs.Lexing.{Text}
use Rattle.dft_configure.specs.Found.{numbers}
use Rattle.dft_configure.specs.Roots.{domains_of}
use Rattle.dft_configuring.specs.Rooted.{clock_names, names_of_nets}
use Rattle.dft_configuring.proofs.RootsRange.{domains_live, nets_live}
use Rattle.dft_configuring.proofs.rooting.clock_names.Goals as goal

pub names_of_nets-requires : goal.names_of_nets-requires
names_of_nets-requires c = nets_live c.args.design.now c.deref.result.now (domains_of c.args.design.now) (ap numbers c.deref.ensures.value ∙ c.requires.domains) (domains_live c.args.design.now)

pub returns : goal.returns
unfolding clock_names
returns c =
    subst (λ (nets : List ℕ). IfOk c.names_of_nets.result (λ (names : List Text). names ≡ names_of_nets c.args.design.now nets)) (ap numbers c.deref.ensures.value ∙ c.requires.domains) c.names_of_nets.ensures
