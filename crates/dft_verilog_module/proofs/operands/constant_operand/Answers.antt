use Rattle.std.proofs.Common.{◌≡◌, false, List, length, sym, subst, rules, arith}
use Rattle.std.proofs.lemmas.Grind.{common_steps}
use Rattle.dft_netlist_text.specs.Expressions.{drives}
use Rattle.dft_netlist.specs.declared.instance.Signal.{Signal}
use Rattle.dft_verilog_draft.specs.Operands.{AreBits}
use Rattle.dft_verilog_draft.proofs.OperandLemmas.{and_constants}
use Rattle.dft_verilog_module.proofs.operands.constant_operand.Goals as goal

pub returns-clause-bits : goal.returns-clause-bits
returns-clause-bits c = λ d h.
    let off : drives c.args.site ≡ false = first_of (search rules, grind (arith, common_steps)) in
    subst (λ (bits : List Signal). AreBits (length d.nets) (drives c.args.site) bits) (sym c.in_ok-push_value.ensures) (and_constants _ _ _ _ off h)
