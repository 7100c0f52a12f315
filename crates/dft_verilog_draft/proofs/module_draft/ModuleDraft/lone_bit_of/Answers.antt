use Rattle.std.proofs.Common.{List, sym, subst}
use Rattle.std.proofs.lemmas.Result.{err_from_is_err_and}
use Rattle.dft_base.specs.Parser.{Checked}
use Rattle.dft_netlist.specs.declared.instance.Signal.{Signal}
use Rattle.dft_netlist_text.specs.declared.text.Fault.{Fault}
use Rattle.dft_netlist_text.specs.Modules.{Draft}
use Rattle.dft_netlist_text.specs.Expressions.{SelectedName, Operand, bits_of_name}
use Rattle.dft_verilog_tokens.specs.Reading.{Checks}
use Rattle.dft_verilog_draft.specs.Selects.{lone_of}
use Rattle.dft_verilog_draft.proofs.LoneLemmas.{lone-made, lone-refused}
use Rattle.dft_verilog_draft.proofs.module_draft.ModuleDraft.lone_bit_of.Goals as goal

pub returns-in_err-read_meaning-clause-read : goal.returns-in_err-read_meaning-clause-read
returns-in_err-read_meaning-clause-read c =
    let named : SelectedName = record { word = c.args.word.now; what = c.args.what; place = c.args.spot.place } in
    let p = err_from_is_err_and c.from_residual.result c.from_residual.ensures.1 in
    rw (p.1, p.2) (lone-refused {X = Unit {0}} {Y = Signal} c.args.place (λ _. (c.read_meaning.new.self, c.read_meaning.new.bits)) (λ bit. (c.read_meaning.new.self, bit)) c.new-bits.result (bits_of_name c.args.spot.site c.args.spot.depth named c.args.self.now) c.in_err-read_meaning.field-0.0 c.new-bits.ensures c.in_err-read_meaning.ensures.read)

pub returns-clause-read : goal.returns-clause-read
returns-clause-read c =
    let named : SelectedName = record { word = c.args.word.now; what = c.args.what; place = c.args.spot.place } in
    let r : Checked Fault Operand = bits_of_name c.args.spot.site c.args.spot.depth named c.args.self.now in
    let d : Draft = c.read_meaning.new.self in
    let bits : List Signal = c.read_meaning.new.bits in
    let made = lone-made c.args.place r d bits (rw c.new-bits.ensures at c.in_ok-read_meaning.ensures.read) in
    subst (λ (x : Checked Fault (Draft × Signal)). Checks (λ bit. (d, bit)) x c.lone_of.result) (sym made)
    (subst (λ (b : List Signal). Checks (λ bit. (d, bit)) (lone_of c.args.place d b) c.lone_of.result) c.as_slice.ensures (c.lone_of.ensures.read d))
