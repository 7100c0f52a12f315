use Rattle.dft_verilog_tokens.specs.Cut.{shown}
use Rattle.dft_verilog_tokens.proofs.FrontLemmas.{bytes_at}
use Rattle.dft_verilog_tokens.proofs.cursor.Tokens.bytes.Goals as goal

pub returns : goal.returns
returns c =
    let t = c.self.inside in
    let v = c.self.invariant in
    let e = bytes_at t.behind_base t.ahead.now (shown t.front) v.begins v.cut v.moves v.named in cc
