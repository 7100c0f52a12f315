use Rattle.std.proofs.Common.{ap, ◌∙◌}
use Rattle.clap.specs.Words.{App, with_subcommand}
use Rattle.dft_command_line.specs.CommandLine.{configure_form, form_shape, generate_form, grade_form, seek_form}
use Rattle.dft_command_line.proofs.syntax.commands.Goals as goal

pub returns : goal.returns
returns c =
    let generate_is = c.in_ok-dft-2.ensures ∙ ap (λ (a : App). with_subcommand a (form_shape generate_form)) c.in_ok-dft.ensures in
    let grade_is = c.in_ok-dft-3.ensures ∙ ap (λ (a : App). with_subcommand a (form_shape grade_form)) generate_is in
    let configure_is = c.in_ok-dft-4.ensures ∙ ap (λ (a : App). with_subcommand a (form_shape configure_form)) grade_is in
    c.in_ok-dft-5.ensures ∙ ap (λ (a : App). with_subcommand a (form_shape seek_form)) configure_is
