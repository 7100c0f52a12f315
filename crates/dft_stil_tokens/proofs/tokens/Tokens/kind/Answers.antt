use Rattle.std.proofs.Common.{◌≡◌, take, drop, subst}
use Rattle.dft_base.specs.Lexing.{Text}
use Rattle.dft_base.specs.Name.{IsName}
use Rattle.dft_stil_tokens.specs.Steps as spec
use Rattle.dft_stil_tokens.specs.Cut.{shown}
use Rattle.dft_stil_tokens.proofs.FrontLemmas.{front_shows}
use Rattle.dft_stil_tokens.proofs.tokens.Tokens.kind.Goals as goal

pub returns-clause-name : goal.returns-clause-name
returns-clause-name c = λ carries.
    let t = c.self.inside in
    let v = c.self.invariant in
    let e = (front_shows t.quoted t.ahead.now (shown t.front) v.begins v.cut v.moves).bytes in
    let same : drop t.front.prefix (take t.front.end t.ahead.now) ≡ spec.bytes c.args.self.now = cc in
    subst (λ (bytes : Text). IsName bytes) same (v.name carries)
