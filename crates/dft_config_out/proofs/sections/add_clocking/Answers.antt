use Rattle.std.proofs.Common.{◌≡◌, ◌++◌, ◌∙◌, ap, codes, List}
use Rattle.dft_base.specs.Lexing.{Text}
use Rattle.dft_config_out.specs.Written.{clocking_text, names_line}
use Rattle.dft_config_out.proofs.ItemLemmas.{two_added}
use Rattle.dft_config_out.proofs.sections.add_clocking.Goals as goal

pub returns : goal.returns
unfolding clocking_text
returns c =
    let made = c.args.made.now in
    let out = c.args.out.now.items in
    let mid = c.add_names_line.new.out.items in
    let clocks = names_line (codes "version = 1\ndomains = ") made.domains in
    let resets = names_line (codes "\nresets = ") made.resets in
    let first : mid ≡ out ++ clocks = c.in_ok-add_names_line.ensures ∙ ap (λ (l : List Text). out ++ names_line (codes "version = 1\ndomains = ") l) c.as_slice.ensures in
    let second : c.add_names_line-2.new.out.items ≡ mid ++ resets = c.in_ok-add_names_line-2.ensures ∙ ap (λ (l : List Text). mid ++ names_line (codes "\nresets = ") l) c.as_slice-2.ensures in
    two_added out mid c.add_names_line-2.new.out.items clocks resets first second
