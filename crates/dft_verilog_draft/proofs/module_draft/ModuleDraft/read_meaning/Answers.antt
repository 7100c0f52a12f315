use Rattle.dft_verilog_draft.proofs.NamingLemmas.{name_grows, name_bits}
use Rattle.dft_netlist_text.specs.Expressions.{drives}
use Rattle.dft_verilog_draft.proofs.module_draft.ModuleDraft.read_meaning.Goals as goal

pub returns-clause-grown : goal.returns-clause-grown
returns-clause-grown c =
    name_grows c.args.spot.site c.args.spot.depth (record { word = c.args.word.now; what = c.args.what; place = c.args.spot.place }) c.args.self.now c.bits_of_meaning.new.self c.args.bits.now c.bits_of_meaning.new.bits
    c.nets-nets.ensures.draft c.in_ok-bits_of_meaning.ensures

pub returns-clause-bits : goal.returns-clause-bits
returns-clause-bits c =
    name_bits c.args.spot.site c.args.spot.depth (record { word = c.args.word.now; what = c.args.what; place = c.args.spot.place }) c.args.self.now c.bits_of_meaning.new.self c.args.bits.now c.bits_of_meaning.new.bits
    (drives c.args.spot.site) c.nets-nets.ensures.draft c.in_ok-bits_of_meaning.ensures
