use Rattle.std.proofs.Common.{ap, ◌∙◌}
use Rattle.clap.specs.Words.{App, with_subcommand}
use Rattle.dft_command_line.specs.CommandLine.{certify_form, compile_form, form_shape, replay_form, scan_form}
use Rattle.dft_command_line.proofs.syntax.first_commands.Goals as goal

pub returns : goal.returns
returns c =
    let replay_is = c.in_ok-dft.ensures ∙ ap (λ (a : App). with_subcommand a (form_shape replay_form)) c.plain.ensures in
    let scan_is = c.in_ok-dft-2.ensures ∙ ap (λ (a : App). with_subcommand a (form_shape scan_form)) replay_is in
    let compile_is = c.in_ok-dft-3.ensures ∙ ap (λ (a : App). with_subcommand a (form_shape compile_form)) scan_is in
    c.in_ok-dft-4.ensures ∙ ap (λ (a : App). with_subcommand a (form_shape certify_form)) compile_is
