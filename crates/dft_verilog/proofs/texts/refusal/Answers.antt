use Rattle.std.proofs.Common.{sym, subst}
use Rattle.dft_lexing.specs.Reading.{Faults}
use Rattle.dft_lexing.specs.declared.read_error.ReadError.{ReadError}
use Rattle.dft_modules.specs.declared.fault.ModulesFault.{ModulesFault}
use Rattle.dft_modules.specs.declared.fault.ModulesFault.TheVariants as fault
use Rattle.dft_netlist_text.specs.Steps.{refusal}
use Rattle.dft_verilog.proofs.ModulesLemmas.{refused_in}
use Rattle.dft_verilog.proofs.texts.refusal.Goals as goal

pub returns : goal.returns
returns c =
    subst (λ (e : ReadError ModulesFault). Faults (fault.Module (refusal c.args.tokens.now)) e) (sym c.in_module.ensures)
    (refused_in (refusal c.args.tokens.now) c.refusal.result c.refusal.ensures)
