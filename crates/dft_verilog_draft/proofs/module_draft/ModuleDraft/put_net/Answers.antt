use Rattle.std.proofs.Common.{◌<◌, length, ap, arith}
use Rattle.dft_netlist.specs.declared.limits.TheConstants.{MAX_NETS}
use Rattle.dft_netlist_text.specs.Modules.{Draft}
use Rattle.dft_verilog_draft.specs.ModuleDraftShown.{draft_of}
use Rattle.dft_verilog_draft.proofs.DraftLemmas.{IsDraft-net}
use Rattle.dft_verilog_draft.proofs.module_draft.ModuleDraft.put_net.Goals as goal

pub invariant_of-self-in-None : goal.invariant_of-self-in-None
invariant_of-self-in-None c =
    let d : Draft = draft_of c.self.inside in
    let room : length d.nets < MAX_NETS = omega (arith, ap (λ (x : Draft). length x.nets) c.self.view_is, c.requires.room) in
    let named = rw c.in-None.is at c.in_ok-put.ensures.names in
    rw (named, c.push_reserved.ensures.items, c.in_ok-reserve.ensures.items, c.read.ensures, c.read-in-None.ensures, c.next_shape.ensures, ← c.self.view_is)
    (IsDraft-net d c.args.word.now room c.self.invariant)
