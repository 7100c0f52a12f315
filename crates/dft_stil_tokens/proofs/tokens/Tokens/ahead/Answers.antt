use Rattle.std.proofs.Common.{arith}
use Rattle.dft_stil_tokens.specs.Cut.{shown}
use Rattle.dft_stil_tokens.proofs.FrontLemmas.{front_shows}
use Rattle.dft_stil_tokens.proofs.tokens.Tokens.ahead.Goals as goal

pub returns-clause-few : goal.returns-clause-few
returns-clause-few c =
    let text = c.skip_blanks-ahead.result.now in
    let e = (front_shows c.args.quoted text (shown c.cut-front.result) c.skip_blanks-ahead.ensures.begins c.cut-front.ensures.value c.cut-front.ensures.moves).left in
    omega (arith, e, c.skip_blanks-ahead.ensures.within)
