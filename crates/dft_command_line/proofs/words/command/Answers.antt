use Rattle.std.proofs.Common.{rules, ◌≡◌, true, false, true≢false, map, string_bytes, sym, ap, ◌∙◌, Global, List, ℕ}
use Rattle.std.specs.List.{list_all}
use Rattle.std.proofs.lemmas.List.Folds.{list_all-map}
use Rattle.dft_command_line.specs.CommandLine.{command_in, may_stand}
use Rattle.dft_command_line.proofs.Understood.{are_for, memory_alone, no_command}
use Rattle.dft_command_line.proofs.words.command.Goals as goal

pub returns-then-not-may_stand : goal.returns-then-not-may_stand
returns-then-not-may_stand c =
    let not_all : c.may_stand.result ≡ false = search rules in
    no_command _ (λ stand passes. true≢false (sym (c.may_stand.ensures ∙ sym (list_all-map may_stand (string_bytes {Z = Global}) c.args.words.now) ∙ stand) ∙ not_all))

pub returns-in-Ok : goal.returns-in-Ok
returns-in-Ok c =
    let words : List (List ℕ) = map (string_bytes {Z = Global}) c.args.words.now in
    let all : c.may_stand.result ≡ true = search rules in
    let stand : list_all may_stand words ≡ true = list_all-map may_stand (string_bytes {Z = Global}) c.args.words.now ∙ sym c.may_stand.ensures ∙ all in
    are_for words _ stand c.in-Ok.ensures.kinds (c.command_found.ensures ∙ ap command_in c.in-Ok.ensures.found)

pub returns : goal.returns
returns c = no_command _ (λ stand passes. c.in_default.not-OutOfMemory (c.kind.ensures ∙ memory_alone _ c.in-Err.error c.in-Err.ensures.kinds passes))
