-- The row of a line.
use Rattle.std.proofs.Common.{List, ℕ, ap, sym, ◌∙◌, option_and_then}
use Rattle.dft_merge.specs.LoadPlan.{columns_by, rows_by}
use Rattle.dft_certify.specs.Certifying.{scanned_named}
use Rattle.dft_certify.proofs.ParityLemmas.{row_added}
use Rattle.dft_certify.proofs.parity.add_line.Goals as goal

pub returns-in-Some-clause-bits : goal.returns-in-Some-clause-bits
returns-in-Some-clause-bits c = λ column.
    row_added (columns_by c.args.loads.now) c.args.parity.now c.xor_into.new.target c.in-Some.words.now (option_and_then (rows_by c.args.loads.now) (scanned_named c.args.loads.now.design (rows_by c.args.loads.now) c.args.line.now.name)) column c.in-Some.ensures.0
    (ap (λ (name : List ℕ). option_and_then (rows_by c.args.loads.now) (scanned_named c.args.loads.now.design (rows_by c.args.loads.now) name)) (sym c.as_slice.ensures.bytes) ∙ c.in-Some.ensures.1) (c.xor_into.ensures.bits column)
