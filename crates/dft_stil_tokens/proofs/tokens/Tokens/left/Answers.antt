use Rattle.dft_stil_tokens.specs.Cut.{shown}
use Rattle.dft_stil_tokens.proofs.FrontLemmas.{front_shows}
use Rattle.dft_stil_tokens.proofs.tokens.Tokens.left.Goals as goal

pub returns-clause-value : goal.returns-clause-value
returns-clause-value c =
    let t = c.self.inside in
    let v = c.self.invariant in
    let e = (front_shows t.quoted t.ahead.now (shown t.front) v.begins v.cut v.moves).left in cc
