use Rattle.std.proofs.Common.{◌≡◌, false, map, drop}
use Rattle.clap.specs.Words.{app_of}
use Rattle.clap.specs.declared.builder.command.Command.TheViews.{out-Command as fields_of}
use Rattle.dft_command_line.specs.CommandLine.{with_options}
use Rattle.dft_command_line.proofs.syntax.with_options.Given as goal

abbrev pub invariant-loop-name : goal.invariant-loop-name
invariant-loop-name l =
    (with_options l.required (app_of l.command) (map (λ name. name.now) (drop l.name-index l.names)) ≡ with_options l.required (app_of l.fn.command) (map (λ name. name.now) l.names))
    × ((fields_of l.command).has_globals ≡ false)
