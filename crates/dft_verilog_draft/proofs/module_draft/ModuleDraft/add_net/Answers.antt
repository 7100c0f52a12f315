use Rattle.std.proofs.Common.{◌≡◌, ◌∙◌, ◌+◌, ◌∷◌, [], length, length-append, ap, arith, List, ℕ}
use Rattle.dft_netlist_text.specs.Modules.{Draft}
use Rattle.dft_verilog_draft.specs.ModuleDraftShown.{draft_of}
use Rattle.dft_verilog_draft.proofs.DraftLemmas.{IsDraft-nets}
use Rattle.dft_verilog_draft.proofs.module_draft.ModuleDraft.add_net.Goals as goal

pub invariant_of-self-2 : goal.invariant_of-self-2
invariant_of-self-2 c =
    let old : List (List ℕ) = c.self.inside.nets.items in
    let new : List (List ℕ) = c.push.new.self.items in
    let same : length old ≡ length c.args.self.now.nets = ap (λ (d : Draft). length d.nets) c.self.view_is in
    let more : length new ≡ length old + 1 = ap length c.in_ok-push.ensures.items ∙ length-append old (c.read.result ∷ []) in
    IsDraft-nets (draft_of c.self.inside) new (omega (arith, more)) (omega (arith, same, more, c.requires.room)) c.self.invariant
