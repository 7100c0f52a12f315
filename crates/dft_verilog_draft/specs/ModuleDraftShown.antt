-- What a `ModuleDraft` shows, and what holds of it.
use Rattle.dft_netlist_text.specs.Modules.{Draft}
use Rattle.dft_verilog_draft.specs.Drafts.{IsDraft}
use Rattle.dft_verilog_draft.specs.declared.module_draft.ModuleDraft.TheInside.{Inside}

abbrev pub draft_of : Inside → Draft
draft_of d = record { name = d.name; library = d.library; names = d.names; ports = d.ports.items; nets = d.nets.items; instances = d.instances.items; joins = d.joins.items }

abbrev pub IsModuleDraft : Inside → Type 0
IsModuleDraft d = IsDraft (draft_of d)
