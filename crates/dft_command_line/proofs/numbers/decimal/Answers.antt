use Rattle.std.proofs.Common.{rules, ◌≡◌, ◌∙◌, ◌≤◌, true, length}
use Rattle.std.specs.Char.{is_ascii_digit}
use Rattle.std.specs.List.{list_all}
use Rattle.dft_command_line.proofs.JobWords.{read_as}
use Rattle.dft_command_line.proofs.numbers.decimal.Goals as goal

pub returns : goal.returns
returns c =
    let few : length c.args.text.now ≤ c.args.most = search rules in
    let digits : list_all is_ascii_digit c.args.text.now ≡ true = search rules in
    c.ok.ensures.value ∙ read_as c.args.most c.args.text.now c.parse.result few digits c.parse.ensures.value.0
