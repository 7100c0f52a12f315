-- All lines.
use Rattle.std.proofs.Common.{ℕ, Bool, ◌+◌, ◌/◌, drop, replicate, refl, ap, ◌∙◌}
use Rattle.std.proofs.lemmas.List.{drop_all}
use Rattle.dft_base.specs.Solutions.{xor}
use Rattle.dft_equations.specs.LoadRows.{LoadRows}
use Rattle.dft_merge.specs.LoadPlan.{columns_by, rows_by}
use Rattle.dft_certify.specs.Certifying.{has_column, odd_in}
use Rattle.dft_certify.proofs.ParityLemmas.{even_uncertified, odd_certified, zeros_at, zeros_packed}
use Rattle.dft_certify.proofs.parity.is_certificate.Goals as goal
use Rattle.dft_certify.proofs.parity.is_certificate.Goals.{then-odd, else-odd}

pub loop-line-init : goal.loop-line-init
loop-line-init c =
    let is = c.in_ok-parity.ensures ∙ ap (λ (k : ℕ). replicate ((k + 63) / 64) 0) (c.columns.ensures ∙ ap (λ (r : LoadRows). r.columns) c.equations.ensures) in
    record {
      packed = zeros_packed (columns_by c.args.loads.now) c.in_ok-parity.parity.items is;
      odd = refl;
      columns = λ column. ap (λ (b : Bool). xor b (odd_in (has_column c.args.loads.now.design (rows_by c.args.loads.now) column) c.args.lines.now)) (zeros_at (columns_by c.args.loads.now) c.in_ok-parity.parity.items column is);
    }

pub returns : goal.returns
returns c =
    let lines = c.args.lines.now in
    let rest = drop c.loop-line.line-index lines in
    let none = drop_all c.loop-line.line-index lines c.loop-line-test.false in
    elim c.if-odd.branch [
      | then-odd w ↦ w.result-is
          ∙ odd_certified c.args.loads.now.design (rows_by c.args.loads.now) (columns_by c.args.loads.now) rest lines c.loop-line.parity.items w.deref.result.now c.loop-line.odd w.highest.result w.is_none.result none
          c.loop-line.invariant.packed c.loop-line.invariant.odd c.loop-line.invariant.columns w.if-odd.true w.deref.ensures.value w.highest.ensures w.is_none.ensures
      | else-odd w ↦ w.result-is ∙ even_uncertified c.args.loads.now.design (rows_by c.args.loads.now) (columns_by c.args.loads.now) rest lines c.loop-line.odd none c.loop-line.invariant.odd w.if-odd.false
    ]
