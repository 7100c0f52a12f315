use Rattle.std.proofs.Common.{ap, map, List, ◌≡◌, ◌∙◌, string_bytes, Global}
use Rattle.std.proofs.lemmas.Result.{IfOk-weaker}
use Rattle.clap.specs.Words.{Text, app_of, fault_of, is_simple, is_simple_and_free, subcommand_of}
use Rattle.clap.proofs.FaultLemmas.{fails_as}
use Rattle.dft_command_line.specs.CommandLine.{dft_app}
use Rattle.dft_command_line.proofs.syntax.matches.Goals as goal

pub returns : goal.returns
returns c =
    let dft_is : app_of c.in_ok-dft.dft ≡ dft_app = c.in_ok-dft.ensures in
    let texts : List Text = map (string_bytes {Z = Global}) c.args.words.now in
    let parse = c.try_get_matches_from in
    record {
      kinds = fails_as _ _ _ (ap (λ a. fault_of a texts) dft_is) (parse.ensures.kinds (ap is_simple_and_free dft_is));
      found = IfOk-weaker parse.result _ _ (λ m h. (h (ap is_simple dft_is)).1 ∙ ap (λ a. subcommand_of a texts) dft_is) parse.ensures.matches;
    }
