use Rattle.std.proofs.Common.{rules, ◌≡◌, ◌∙◌, ◌∷◌, None, drop, map, string_bytes, sym, ap, ap₂}
use Rattle.dft_explain.specs.Faults as spec
use Rattle.dft_explain.specs.CodeFaults.{form_seen}
use Rattle.dft_explain.proofs.FaultLemmas.{right_option, whole_tail}
use Rattle.dft_explain.proofs.faults.wrong_option.Goals as goal

pub loop-rest-preserved : goal.loop-rest-preserved
loop-rest-preserved c =
    let form = form_seen c.args.form.now in
    let word = c.as_bytes-word.result.now in
    let before = map (λ name. name.now) c.loop-rest.before.items in
    let next = map string_bytes (drop 1 c.loop-rest.rest.now) in
    let first : map string_bytes c.loop-rest.rest.now ≡ word ∷ next = search rules in
    let right : spec.fault_of_option form before word next ≡ None = search rules in
    let names : map (λ name. name.now) c.push_name.new.before.items ≡ spec.names_with before (spec.name_in word) = search rules in
    let rest : map string_bytes c.words_after-rest.result.now ≡ spec.words_after (spec.joined_in word) next = c.words_after-rest.ensures ∙ ap₂ (λ j n. spec.words_after j (map string_bytes n)) c.joined_in.ensures (whole_tail c.loop-rest.rest.now) in
    ap₂ (λ b r. spec.wrong_option form b r) names rest ∙ (right_option form before word next right ∙ (ap (spec.wrong_option form before) (sym first) ∙ c.loop-rest.invariant))
