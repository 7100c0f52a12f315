-- A report and its written form, worked by hand.
use Rattle.std.proofs.Common.{◌≡◌, true, false, [], ◌∷◌, codes, Some, refl}
use Rattle.std.specs.Fmt as fmt
use Rattle.dft_base.specs.declared.rule.Rule.TheVariants.{S4}
use Rattle.dft_report.specs.declared.report.CubeLine.TheVariants.{Encoded, Unsolvable, Skipped}
use Rattle.dft_report.specs.declared.report.Report.{Report}
use Rattle.dft_report.specs.Written.{counts_text, header_line, chain_line, place_text, scanned_line, unscanned_line, sum_line, unsolvable_text, cube_lines, lines_before_cubes, written}

-- two chains of one cell each, the second of which takes its bits at falls, a flip-flop that is kept, and cubes of all kinds
abbrev pub example : Report
example = record {
  header = record { cells = 2; chains = 2; load = Some (record { cycles = 13; variables = 26 }) };
  chains = 1 ∷ 1 ∷ [];
  scanned = record { name = codes "f0"; domain = codes "clk"; chain = 0; place = 0; falling = false } ∷ record { name = codes "f1"; domain = codes "clk"; chain = 1; place = 0; falling = true } ∷ [];
  unscanned = record { name = codes "f2"; rule = S4 } ∷ [];
  cubes = record { name = codes "u"; outcome = Unsolvable (record { name = codes "f0"; bit = true; variables = [] } ∷ record { name = codes "f1"; bit = false; variables = record { channel = 0; cycle = 2 } ∷ record { channel = 1; cycle = 10 } ∷ [] } ∷ []) }
      ∷ record { name = codes "v"; outcome = Encoded 0 } ∷ record { name = codes "w"; outcome = Skipped (codes "f2") } ∷ [];
}

pub example_written : written example ≡ codes "edt report 1\ncells 2 chains 2 cycles 13 variables 26\nchain 0 length 1\nchain 1 length 1\nscanned f0 clk chain 0 place 0\nscanned f1 clk chain 1 place 0 falling\nunscanned f2 S4\ncube u unsolvable 2\nsum f0 1 -\nsum f1 0 0.2 1.10\ncube v encoded 0\ncube w skipped f2\n"
unfolding written lines_before_cubes counts_text header_line chain_line place_text scanned_line unscanned_line sum_line unsolvable_text cube_lines fmt.digits
example_written = refl
