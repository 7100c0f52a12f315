use Rattle.std.proofs.Common.{◌≡◌, drop}
use Rattle.dft_netlist_text.specs.NetlistText.{first_undeclared}
use Rattle.dft_verilog_draft.proofs.module_draft.ModuleDraft.first_undeclared.Given as goal

-- the ports before are declared
abbrev pub invariant-loop-port : goal.invariant-loop-port
invariant-loop-port l = first_undeclared (drop l.port-index l.self.ports) ≡ first_undeclared l.self.ports
