-- The report and the counts of four flip-flops on two clocks, worked by hand.
use Rattle.std.proofs.Common.{◌≡◌, [], ◌∷◌, codes, refl}
use Rattle.std.specs.Fmt as fmt
use Rattle.dft_cells.specs.declared.kind.Gate.TheVariants.{Inv}
use Rattle.dft_rules.proofs.WorkedEdges.{turned}
use Rattle.dft_rules.proofs.WorkedRules.{example, example_config, two_clocks}
use Rattle.dft_report.specs.Written.{header_line, chain_line, place_text, scanned_line, unscanned_line, lines_before_cubes, written}
use Rattle.dft_scan.specs.declared.texts.Counts.{Counts}
use Rattle.dft_scan.specs.Scans.{counts_of, report_text}

-- one chain: first the cells of `ca`, then those of `cb`
all_scanned : report_text (example 1) (example_config two_clocks [] 1) ≡ codes "edt report 1\ncells 4 chains 1\nchain 0 length 4\nscanned f0 ca chain 0 place 0\nscanned f2 ca chain 0 place 1\nscanned f1 cb chain 0 place 2\nscanned f3 cb chain 0 place 3\n"
unfolding written lines_before_cubes header_line chain_line place_text scanned_line unscanned_line fmt.digits
all_scanned = refl

-- a kept flip-flop, in two chains
one_kept : report_text (example 1) (example_config two_clocks (codes "f2" ∷ []) 2) ≡ codes "edt report 1\ncells 3 chains 2\nchain 0 length 2\nchain 1 length 1\nscanned f0 ca chain 0 place 0\nscanned f1 cb chain 0 place 1\nscanned f3 cb chain 1 place 0\nunscanned f2 S4\n"
unfolding written lines_before_cubes header_line chain_line place_text scanned_line unscanned_line fmt.digits
one_kept = refl

-- a flip-flop behind a clock gate
behind_a_gate : report_text (example 7) (example_config two_clocks [] 1) ≡ codes "edt report 1\ncells 3 chains 1\nchain 0 length 3\nscanned f0 ca chain 0 place 0\nscanned f2 ca chain 0 place 1\nscanned f1 cb chain 0 place 2\nunscanned f3 S1\n"
unfolding written lines_before_cubes header_line chain_line place_text scanned_line unscanned_line fmt.digits
behind_a_gate = refl

-- each clock through an inverter
all_fall : report_text (turned Inv 8 9 8 9) (example_config two_clocks [] 1) ≡ codes "edt report 1\ncells 4 chains 1\nchain 0 length 4\nscanned f0 ca chain 0 place 0 falling\nscanned f2 ca chain 0 place 1 falling\nscanned f1 cb chain 0 place 2 falling\nscanned f3 cb chain 0 place 3 falling\n"
unfolding written lines_before_cubes header_line chain_line place_text scanned_line unscanned_line fmt.digits
all_fall = refl

-- one flip-flop on the inverse of `ca`, which is the first of the chain
one_falls : report_text (turned Inv 0 1 8 1) (example_config two_clocks [] 1) ≡ codes "edt report 1\ncells 4 chains 1\nchain 0 length 4\nscanned f2 ca chain 0 place 0 falling\nscanned f0 ca chain 0 place 1\nscanned f1 cb chain 0 place 2\nscanned f3 cb chain 0 place 3\n"
unfolding written lines_before_cubes header_line chain_line place_text scanned_line unscanned_line fmt.digits
one_falls = refl

abbrev counts : Counts
counts = record { cells = 3; unscanned = 1; chains = 1; lockups = 1 }

counted : counts_of (example 7) (example_config two_clocks [] 1) ≡ counts
counted = refl
