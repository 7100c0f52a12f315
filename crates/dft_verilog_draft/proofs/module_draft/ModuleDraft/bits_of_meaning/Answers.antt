use Rattle.std.proofs.Common.{◌∙◌, sym}
use Rattle.dft_verilog_draft.proofs.SelectLemmas.{name-implied}
use Rattle.dft_verilog_draft.proofs.module_draft.ModuleDraft.bits_of_meaning.Goals as goal

pub returns-in-None : goal.returns-in-None
returns-in-None c =
    rw (name-implied c.args.spot.site c.args.spot.depth (record { word = c.args.word.now; what = c.args.what; place = c.args.spot.place }) c.args.self.now (sym c.is_implied-implied.ensures ∙ c.if-implied-2.true) (sym c.requires.is ∙ c.in-None.is))
    (c.imply.ensures c.args.what)
