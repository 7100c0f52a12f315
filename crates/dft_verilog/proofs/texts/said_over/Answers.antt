use Rattle.std.proofs.Common.{sym, subst}
use Rattle.dft_verilog.specs.TextsSaid.{modules_in}
use Rattle.dft_verilog.specs.declared.error.ModulesError.{ModulesError}
use Rattle.dft_verilog.specs.ModuleRefusals.{IsModulesRefused}
use Rattle.dft_verilog.proofs.ModulesLemmas.{modules_refused}
use Rattle.dft_verilog.proofs.TextLemmas.{text_said_by}
use Rattle.dft_verilog.proofs.texts.said_over.Goals as goal

pub returns-in-Ok-clause-said : goal.returns-in-Ok-clause-said
returns-in-Ok-clause-said c = text_said_by c.args.cells.now c.args.bytes.now c.in-Ok.said c.in-Ok.ensures.read c.in-Ok.ensures.alone

pub returns-in-Err-clause-refused : goal.returns-in-Err-clause-refused
returns-in-Err-clause-refused c =
    subst (λ (e : ModulesError). IsModulesRefused c.args.cells.now c.args.bytes.now e) (sym c.told_error.ensures) (modules_refused (modules_in c.args.bytes.now) c.args.cells.now c.args.bytes.now c.in-Err.error c.in-Err.ensures.read)
