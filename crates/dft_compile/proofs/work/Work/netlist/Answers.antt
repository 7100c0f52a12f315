-- The text of the scanned netlist.
use Rattle.std.proofs.Common.{List, subst, sym}
use Rattle.std.proofs.lemmas.Result.{IfOk-weaker}
use Rattle.dft_cells.specs.declared.cell.Cell.{Cell}
use Rattle.dft_netlist.specs.Netlist.{Netlist}
use Rattle.dft_netlist_text.specs.NetlistText.{StandsFor}
use Rattle.dft_parts.proofs.Growing.{parts_grow}
use Rattle.dft_scan.proofs.JoinedLemmas.{scanned_joined}
use Rattle.dft_insert.specs.declared.style.Style.TheVariants.{Edt}
use Rattle.dft_insert.specs.Scanned.{framed, parts_of}
use Rattle.dft_insert.specs.Statements.{scanned}
use Rattle.dft_stitch.specs.Chains.{plan_of}
use Rattle.dft_verilog_out.specs.Named.{GatesAreJoined}
use Rattle.dft_compile.proofs.work.Work.netlist.Goals as goal

pub write-requires : goal.write-requires
write-requires c =
    let l = c.args.self.now.loads.now in
    subst GatesAreJoined (sym c.requires.scanned) (scanned_joined Edt l.design l.config c.soundness.ensures.range c.requires.joined)

pub returns-clause-reads : goal.returns-clause-reads
returns-clause-reads c =
    let n = c.args.self.now.loads.now.design in
    let config = c.args.self.now.loads.now.config in
    let made = c.args.self.now.scanned.now in
    IfOk-weaker c.write.result (λ text. StandsFor made.library text.items made) (λ text. StandsFor n.library text.items (scanned Edt n config))
    (λ text h. subst (λ (library : List Cell). StandsFor library text.items (scanned Edt n config)) (parts_grow (framed Edt n config) (parts_of Edt n config (plan_of n config))).library
    (subst (λ (x : Netlist). StandsFor x.library text.items x) c.requires.scanned h))
    c.write.ensures.reads
