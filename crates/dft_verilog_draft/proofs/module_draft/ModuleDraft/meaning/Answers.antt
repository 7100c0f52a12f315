use Rattle.std.proofs.Common.{◌∙◌, ap, sym, subst, length, Option, IfSome}
use Rattle.dft_netlist_text.specs.declared.text.Meaning.{Meaning}
use Rattle.dft_netlist_text.specs.Modules.{Draft}
use Rattle.dft_verilog_draft.specs.Drafts.{IsMeaningWithin}
use Rattle.dft_verilog_draft.specs.TakenNames.{meaning_in}
use Rattle.dft_verilog_draft.proofs.DraftLemmas.{meaning-within}
use Rattle.dft_verilog_draft.proofs.module_draft.ModuleDraft.meaning.Goals as goal

pub returns-clause-within : goal.returns-clause-within
returns-clause-within c =
    subst (λ (m : Option Meaning). IfSome m (IsMeaningWithin (length c.args.self.now.nets))) (sym (c.meaning.ensures ∙ ap (λ (d : Draft). meaning_in d.names c.args.word.now) c.self.view_is))
    (subst (λ (d : Draft). IfSome (meaning_in d.names c.args.word.now) (IsMeaningWithin (length d.nets))) c.self.view_is
    (meaning-within (length c.self.inside.nets.items) c.self.inside.names c.args.word.now c.self.invariant.names))
