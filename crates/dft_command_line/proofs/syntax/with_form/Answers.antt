use Rattle.std.proofs.Common.{ap, ◌∙◌}
use Rattle.clap.specs.Words.{App, app_of, with_subcommand}
use Rattle.dft_command_line.proofs.syntax.with_form.Goals as goal

pub returns : goal.returns
returns c = c.in_ok-dft.ensures.shape c.in_ok-form.ensures.local ∙ ap (λ (a : App). with_subcommand (app_of c.args.dft) a.top) c.in_ok-form.ensures.app
