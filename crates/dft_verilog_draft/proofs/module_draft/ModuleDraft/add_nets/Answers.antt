use Rattle.std.proofs.Common.{◌≡◌, ◌+◌, ◌≤◌, length, ap, arith, is_ok, List, ℕ}
use Rattle.dft_netlist_text.specs.Modules.{Draft}
use Rattle.dft_verilog_draft.specs.ModuleDraftShown.{draft_of}
use Rattle.dft_verilog_draft.proofs.DraftLemmas.{IsDraft-nets, length-appended}
use Rattle.dft_verilog_draft.proofs.module_draft.ModuleDraft.add_nets.Goals as goal

pub invariant_of-self : goal.invariant_of-self
invariant_of-self c =
    let old : List (List ℕ) = c.self.inside.nets.items in
    let new : List (List ℕ) = c.append.new.self.items in
    let same : length old ≡ length c.args.self.now.nets = ap (λ (d : Draft). length d.nets) c.self.view_is in
    let grown : (length old ≤ length new) × (length new ≤ length old + length c.args.names.items) = length-appended (is_ok c.append.result) old c.args.names.items new c.append.ensures.items in
    IsDraft-nets (draft_of c.self.inside) new grown.0 (omega (arith, same, grown.1, c.requires)) c.self.invariant
