use Rattle.std.proofs.Common.{◌∙◌, sym, subst, arith}
use Rattle.dft_netlist.specs.declared.instance.Signal.{Signal}
use Rattle.dft_netlist_text.specs.Items.{One}
use Rattle.dft_netlist_text.specs.Steps.{Outcome}
use Rattle.dft_verilog_tokens.specs.Reading.{Reads}
use Rattle.dft_verilog_module.proofs.LoneNameLemmas.{lone_name-is}
use Rattle.dft_verilog_module.proofs.single_bits.single_bit.Goals as goal

pub returns-then-sees-clause-read : goal.returns-then-sees-clause-read
returns-then-sees-clause-read c =
    let is = lone_name-is c.args.site c.args.place c.args.draft.now c.args.tokens.now (omega (arith, c.left.ensures.value, c.if-left-gt0.true)) (sym c.sees.ensures.value ∙ c.if-sees.true) in
    subst (λ (x : Outcome One). Reads (λ (bit : Signal). (c.named_bit.new.draft, bit)) x c.named_bit.result c.named_bit.new.tokens) (sym is) c.named_bit.ensures.read
