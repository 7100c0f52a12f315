-- The cubes are placed, and the texts are made of that.
use Rattle.std.proofs.Common.{◌≡◌, ◌∙◌, ap, arith, length, subst, sym}
use Rattle.std.proofs.lemmas.Result.{IfErr-weaker, IfOk-weaker}
use Rattle.std.specs.Prelude.{IfErr, IfOk}
use Rattle.dft_netlist_text.specs.NetlistText.{StandsFor}
use Rattle.dft_merge.specs.Merging.{Merging, columns_in, rows_in}
use Rattle.dft_merge.specs.Rows.{StandApart}
use Rattle.dft_insert.specs.declared.style.Style.TheVariants.{Edt}
use Rattle.dft_insert.specs.Statements.{scanned}
use Rattle.dft_stitch.specs.Planning.{Planned}
use Rattle.dft_stitch.specs.Plans.{Plan}
use Rattle.dft_verilog_out.specs.Named.{GatesAreJoined}
use Rattle.dft_compile.specs.Compilation.{AreTextsOf, IsCompileOf}
use Rattle.dft_compile.specs.Refusals.{IsLate, IsRefusal, late_refusal}
use Rattle.dft_compile.proofs.TellingLemmas.{told_of}
use Rattle.dft_compile.proofs.WorkLemmas.{compiled_of, placed_by, placed_count, refused_of}
use Rattle.dft_compile.proofs.compiling.compile.Goals as goal

pub texts-requires : goal.texts-requires
texts-requires c =
    let same = c.in_ok-placed.ensures.same in
    let new = c.in_ok-merger.ensures in
    let none = ap (λ (m : Merging). length m.patterns) new in
    record {
      joined = subst (λ (p : Planned). GatesAreJoined p.design) (sym c.loads-loads.ensures) c.requires.joined;
      scanned = c.scanned.ensures ∙ ap (λ (p : Planned). scanned Edt p.design p.config) (sym c.loads-loads.ensures);
      merger = ap (λ (m : Merging). m.loads) c.close-merged.ensures ∙ ap (λ (m : Merging). m.loads) same ∙ ap (λ (m : Merging). m.loads) new;
      few = omega (arith, ap (λ (m : Merging). length m.patterns) c.close-merged.ensures, c.in_ok-placed.ensures.few, none, c.requires.cubes);
      cubes = c.requires.cubes;
      placed = ap length c.deref.ensures.value
          ∙ placed_count (columns_in c.in_ok-merger.merger) (rows_in c.in_ok-merger.merger) c.in_ok-merger.merger.window c.in_ok-merger.merger.patterns c.place_all.new.merger.patterns c.args.cubes.now c.in_ok-placed.placed.items c.in_ok-placed.ensures.placed;
    }

pub returns-clause-compile : goal.returns-clause-compile
returns-clause-compile c =
    let l = c.loads-loads.result.now in
    let known = c.soundness-2.ensures in
    let sound = rw c.design.ensures at c.soundness.ensures.netlist in
    let apart = subst (λ (p : Plan). StandApart p.chains) known.planned known.rows.apart in
    let told = told_of l.design l.config c.args.cubes.now known.range sound known.passed known.fits apart c.in_ok-placed.ensures.named c.requires.cubes c.requires.cells in
    let p = placed_by l c.args.cubes.now c.in_ok-merger.merger c.in_ok-placed.placed.items c.deref.result.now c.place_all.new.merger.patterns known.planned known.equations c.in_ok-merger.ensures c.deref.ensures.value c.in_ok-placed.ensures.placed in
    subst (λ (q : Planned). IfOk c.texts.result (IsCompileOf q.design q.config c.args.cubes.now)) c.loads-loads.ensures
    (IfOk-weaker c.texts.result (AreTextsOf l.design l.config c.args.cubes.now l.rows c.deref.result.now c.place_all.new.merger.patterns) (IsCompileOf l.design l.config c.args.cubes.now)
    (λ t h. compiled_of l.design l.config c.args.cubes.now l.rows c.deref.result.now c.place_all.new.merger.patterns t p told h) (rw c.close-merged.ensures at c.texts.ensures.texts))

pub returns-clause-reads : goal.returns-clause-reads
returns-clause-reads c =
    subst (λ (q : Planned). IfOk c.texts.result (λ t. StandsFor q.design.library t.netlist.items (scanned Edt q.design q.config))) c.loads-loads.ensures c.texts.ensures.reads

pub returns-clause-refused : goal.returns-clause-refused
returns-clause-refused c =
    let l = c.loads-loads.result.now in
    let known = c.soundness-2.ensures in
    let p = placed_by l c.args.cubes.now c.in_ok-merger.merger c.in_ok-placed.placed.items c.deref.result.now c.place_all.new.merger.patterns known.planned known.equations c.in_ok-merger.ensures c.deref.ensures.value c.in_ok-placed.ensures.placed in
    subst (λ (q : Planned). IfErr c.texts.result (IsLate q.design q.config c.args.cubes.now)) c.loads-loads.ensures
    (IfErr-weaker c.texts.result (IsRefusal (late_refusal l.design l.config c.args.cubes.now l.rows c.deref.result.now c.place_all.new.merger.patterns)) (IsLate l.design l.config c.args.cubes.now)
    (λ e h. refused_of l.design l.config c.args.cubes.now l.rows c.deref.result.now c.place_all.new.merger.patterns e p h) (rw c.close-merged.ensures at c.texts.ensures.refused))
