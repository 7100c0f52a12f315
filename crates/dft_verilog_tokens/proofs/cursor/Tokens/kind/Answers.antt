use Rattle.std.proofs.Common.{◌≡◌, take, drop, subst, ap}
use Rattle.dft_base.specs.Lexing.{Text}
use Rattle.dft_base.specs.Name.{IsName}
use Rattle.dft_netlist_text.specs.Steps as spec
use Rattle.dft_verilog_tokens.specs.Cut.{shown, carries_name}
use Rattle.dft_verilog_tokens.proofs.FrontLemmas.{front_shows}
use Rattle.dft_verilog_tokens.proofs.cursor.Tokens.kind.Goals as goal

pub returns-clause-word : goal.returns-clause-word
returns-clause-word c = λ carries.
    let t = c.self.inside in
    let v = c.self.invariant in
    let e = (front_shows t.behind_base t.ahead.now (shown t.front) v.begins v.cut v.moves).bytes in
    let same : drop t.front.prefix (take t.front.len t.ahead.now) ≡ spec.bytes c.args.self.now = cc in
    subst (λ (bytes : Text). IsName bytes) same (v.name carries)

pub returns-clause-name : goal.returns-clause-name
returns-clause-name c = λ is.
    let t = c.self.inside in
    let v = c.self.invariant in
    let e = (front_shows t.behind_base t.ahead.now (shown t.front) v.begins v.cut v.moves).bytes in
    let same : drop t.front.prefix (take t.front.len t.ahead.now) ≡ spec.bytes c.args.self.now = cc in
    subst (λ (bytes : Text). IsName bytes) same (v.name (ap carries_name is))
