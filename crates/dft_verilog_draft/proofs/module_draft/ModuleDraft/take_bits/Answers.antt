use Rattle.std.proofs.Common.{◌∙◌, length, drop, ap, List, ℕ}
use Rattle.dft_netlist_text.specs.Modules.{Draft}
use Rattle.dft_verilog_draft.specs.Free.{with_bits_of, and_bits}
use Rattle.dft_verilog_draft.specs.ModuleDraftShown.{draft_of}
use Rattle.dft_verilog_draft.proofs.DraftLemmas.{IsDraft-names}
use Rattle.dft_verilog_draft.proofs.FreeLemmas.{and_bits-with_bits_of, OnOk-then}
use Rattle.dft_verilog_draft.proofs.module_draft.ModuleDraft.take_bits.Goals as goal

pub invariant_of-self : goal.invariant_of-self
invariant_of-self c = IsDraft-names (draft_of c.self.inside) c.take_bits.new.self (c.take_bits.ensures.within (length c.self.inside.nets.items) c.self.invariant.names) c.self.invariant

pub returns-in-Some : goal.returns-in-Some
returns-in-Some c =
    let bits : List (List ℕ) = drop c.args.first c.self.inside.nets.items in
    OnOk-then c.take_bits.result _ _ (λ e.
    and_bits-with_bits_of c.args.range c.in-Some.field-0 bits (draft_of c.self.inside) c.take_bits.new.self c.in-Some.is (e ∙ ap (and_bits c.self.inside.names) (c.split_at.ensures.back ∙ ap (drop c.args.first) c.deref.ensures.value))
    ∙ ap (λ (d : Draft). with_bits_of c.args.range (drop c.args.first d.nets) d) c.self.view_is) c.take_bits.ensures.ok
