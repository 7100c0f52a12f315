use Rattle.std.proofs.Common.{◌≡◌, ◌-◌, length, ap, arith}
use Rattle.dft_stil_tokens.specs.Steps.{left}
use Rattle.dft_stil_tokens.specs.Cut.{shown}
use Rattle.dft_stil_tokens.proofs.FrontLemmas.{front_shows}
use Rattle.dft_stil_tokens.proofs.tokens.Tokens.take.Goals as goal

pub returns-clause-next : goal.returns-clause-next
returns-clause-next c =
    let t = c.self.inside in
    let v = c.self.invariant in
    let e = (front_shows t.quoted t.ahead.now (shown t.front) v.begins v.cut v.moves).next in cc

pub returns-clause-moves : goal.returns-clause-moves
returns-clause-moves c = λ some.
    let t = c.self.inside in
    let v = c.self.invariant in
    let e = (front_shows t.quoted t.ahead.now (shown t.front) v.begins v.cut v.moves).left in
    let old : left c.args.self.now ≡ length t.ahead.now - t.front.at = cc in
    let new = ap left c.self-2.view_is in
    omega (arith, old, new, c.ahead.ensures.few, c.split_at.ensures.back_len, v.inside, v.within)
