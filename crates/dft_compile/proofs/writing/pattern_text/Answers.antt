-- The text is short enough.
use Rattle.std.proofs.Common.{None, ◌∙◌, ap, subst}
use Rattle.std.proofs.lemmas.Result.{err_from_is_err_and}
use Rattle.dft_netlist.specs.Netlist.{Netlist}
use Rattle.dft_patterns.specs.Patterns.{Patterns}
use Rattle.dft_stitch.specs.Plans.{Plan}
use Rattle.dft_vectors.specs.VectorList.{patterns_of}
use Rattle.dft_encode.specs.Compiled.{ArePatterns}
use Rattle.dft_insert.specs.Statements.{scanned}
use Rattle.dft_insert.specs.declared.style.Style.TheVariants.{Edt}
use Rattle.dft_stil_out.specs.Written.{noted}
use Rattle.dft_compile.proofs.LateLemmas.{err_refused, short_refused}
use Rattle.dft_compile.proofs.WorkLemmas.{short_text}
use Rattle.dft_compile.proofs.writing.pattern_text.Goals as goal

pub returns-in_err-write-clause-memory : goal.returns-in_err-write-clause-memory
returns-in_err-write-clause-memory c =
    let l = c.args.merger.now.loads in
    let e = c.in_ok-encoded.encoded in
    let error = c.in_err-write.field-0.0 in
    let p = err_from_is_err_and c.from_residual-in_err-write.result c.from_residual-in_err-write.ensures.1 in
    let known = rw c.loads.ensures at c.soundness.ensures in
    let short = short_text l.design l.config c.args.scanned.now l.plan l.rows c.args.merger.now.patterns e known.range c.requires.scanned known.planned c.in_ok-encoded.ensures c.requires.short in
    err_refused None c.from_residual-in_err-write.result p.0 _ p.1 p.2 (short_refused (noted e.set) error short c.in_err-write.ensures.long)

pub returns-clause-text : goal.returns-clause-text
returns-clause-text c =
    let l = c.args.merger.now.loads in
    let is = c.in_ok-encoded.ensures in
    let known = rw c.loads.ensures at c.soundness.ensures in
    record {
      list = is.list;
      are = subst (λ (p : Plan). ArePatterns l.design l.config p l.rows c.args.merger.now.patterns is.list) known.planned is.are;
      text = c.in_ok-write.ensures.ok ∙ ap noted (is.set
          ∙ ap (λ (w : Netlist). patterns_of w l.design l.config l.plan is.list) c.requires.scanned
          ∙ ap (λ (p : Plan). patterns_of (scanned Edt l.design l.config) l.design l.config p is.list) known.planned);
      masked = is.masked;
    }
