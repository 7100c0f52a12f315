use Rattle.std.proofs.Common.{◌∙◌, sym}
use Rattle.dft_netlist_text.specs.Expressions.{SelectedName}
use Rattle.dft_verilog_draft.proofs.LoneLemmas.{lone_scalar}
use Rattle.dft_verilog_draft.proofs.OperandLemmas.{grows_not}
use Rattle.dft_verilog_draft.proofs.module_draft.ModuleDraft.lone_bit.Goals as goal

pub returns-in-Some : goal.returns-in-Some
returns-in-Some c =
    let named : SelectedName = record { word = c.args.word.now; what = c.args.what; place = c.args.spot.place } in
    let given = lone_scalar c.args.place c.args.spot.site c.args.spot.depth named c.args.self.now c.meaning-meaning.result c.in-Some.net
    c.meaning-meaning.ensures.meaning (sym c.lone_net.ensures ∙ c.in-Some.is) c.meaning-meaning.ensures.within in
    record { read = given.0; grown = grows_not c.args.self.now; bit = given.1 }
