use Rattle.std.proofs.Common.{rules, ◌≡◌, ◌∙◌, true, ap, subst, sym}
use Rattle.std.specs.Char.{is_ascii_digit}
use Rattle.std.specs.List.{list_all}
use Rattle.dft_explain.specs.Faults as spec
use Rattle.dft_explain.proofs.Decimals.{digits_are_text, read_as}
use Rattle.dft_explain.proofs.faults.decimal.Goals as goal

pub returns-in-Ok : goal.returns-in-Ok
returns-in-Ok c =
    let digits : list_all is_ascii_digit c.args.text.now ≡ true = search rules in
    let same : c.in-Ok.text.now ≡ c.args.text.now = search rules in
    let of_text = subst (λ t. list_all is_ascii_digit t ≡ true) (sym same) digits in
    c.ok.ensures.value ∙ (read_as c.in-Ok.text.now c.parse.result of_text c.parse.ensures.value.0 ∙ ap spec.decimal_of same)

pub returns-in-Err : goal.returns-in-Err
returns-in-Err c =
    let digits : list_all is_ascii_digit c.args.text.now ≡ true = search rules in
    absurd (c.in-Err.ensures.cases.0 (digits_are_text c.args.text.now digits))
