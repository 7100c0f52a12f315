use Rattle.std.proofs.Common.{◌∙◌, ap, ap₂, arith}
use Rattle.dft_base.specs.Lexing.{tokens_from}
use Rattle.dft_netlist_text.specs.Lexemes.{front}
use Rattle.dft_netlist_text.specs.Steps.{left, next}
use Rattle.dft_verilog_tokens.specs.Cut.{shown}
use Rattle.dft_verilog_tokens.proofs.FrontLemmas.{front_shows}
use Rattle.dft_verilog_tokens.proofs.cursor.Tokens.take.Goals as goal

pub returns-clause-next : goal.returns-clause-next
returns-clause-next c =
    let t = c.self.inside in
    let v = c.self.invariant in
    c.skip_blanks-ahead.ensures.rest c.is_base_kind-behind_base.result
    ∙ ap₂ (λ mode text. tokens_from front mode 0 text) c.is_base_kind-behind_base.ensures c.split_at.ensures.back
    ∙ (front_shows t.behind_base t.ahead.now (shown t.front) v.begins v.cut v.moves).next
    ∙ ap next c.self.view_is

pub returns-clause-moves : goal.returns-clause-moves
returns-clause-moves c = λ some.
    let t = c.self.inside in
    let v = c.self.invariant in
    let text = c.skip_blanks-ahead in
    let token = c.cut-front in
    let old = (front_shows t.behind_base t.ahead.now (shown t.front) v.begins v.cut v.moves).left in
    let was = ap left c.self.view_is in
    let new = (front_shows c.is_base_kind-behind_base.result text.result.now (shown token.result) text.ensures.begins token.ensures.value (λ full. token.ensures.moves full text.ensures.begins)).left in
    omega (arith, old, was, new, text.ensures.within, c.split_at.ensures.back_len, v.inside, v.within)
