use Rattle.std.proofs.Common.{rules, [], ◌∷◌, length, sym, ◌∙◌, arith}
use Rattle.std.proofs.lemmas.List.{take_rest}
use Rattle.dft_lexing.proofs.RestLemmas.{rest_behind}
use Rattle.dft_lexing.proofs.blanks.rest_to.Goals as goal

pub loop-rest-preserved : goal.loop-rest-preserved
loop-rest-preserved c =
    let rest = c.loop-rest.rest.now in
    let more = rest_behind (c.args.first ∷ c.args.second ∷ []) (length c.args.text.now) rest _ (omega (arith, c.in-len1-up.len_at_least)) c.loop-rest.invariant.within
    (sym c.begins_with_pair.ensures ∙ c.if-begins_with_pair.false) (take_rest rest 1) in
    record { same = c.loop-rest.invariant.same ∙ more; within = search rules }
