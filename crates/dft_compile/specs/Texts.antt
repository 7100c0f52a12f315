-- The texts of a compilation, and what is counted.
use Rattle.std.specs.Prelude.{ℕ, Bool, true, false, List, length, map, count_by}
use Rattle.dft_base.specs.Lexing.{Text}
use Rattle.dft_netlist.specs.Netlist.{Netlist}
use Rattle.dft_config.specs.Config.{Config}
use Rattle.dft_rules.specs.Rules.{judgements}
use Rattle.dft_stitch.specs.Chains.{plan_of}
use Rattle.dft_equations.specs.LoadRows.{LoadRows}
use Rattle.dft_cubes.specs.declared.cube.Cube.{Cube}
use Rattle.dft_cubes.specs.declared.cube.Merged.{Merged}
use Rattle.dft_merge.specs.declared.placed.Placed.{Placed}
use Rattle.dft_merge.specs.declared.placed.Placed.TheVariants.{Into, Unsolvable, Skipped}
use Rattle.dft_merge.specs.Rows.{cell_row}
use Rattle.dft_patterns.specs.Patterns.{Patterns}
use Rattle.dft_report.specs.Written as report
use Rattle.dft_stil_out.specs.Written as stil
use Rattle.dft_verilog_out.specs.Written as netlist
use Rattle.dft_scan.specs.Reports.{scanned_count}
use Rattle.dft_insert.specs.declared.style.Style.TheVariants.{Edt}
use Rattle.dft_insert.specs.Statements.{scanned}
use Rattle.dft_vectors.specs.PatternData.{PatternData, merged_of}
use Rattle.dft_vectors.specs.VectorList.{captures_in, patterns_of}
use Rattle.dft_encode.specs.Counts.{masked_in}
use Rattle.dft_encode.specs.Laws.{vectors_in}
use Rattle.dft_compile.specs.declared.texts.Counts.{Counts}
use Rattle.dft_compile.specs.Reports.{compile_report}

-- ---- texts

-- the written form of the scanned netlist, in style Edt
abbrev pub netlist_text : Netlist → Config → Text
netlist_text n config = netlist.written (scanned Edt n config)

-- the set of these patterns, in the signals of the scanned netlist
abbrev pub pattern_set : Netlist → Config → List PatternData → Patterns
pattern_set n config list = patterns_of (scanned Edt n config) n config (plan_of n config) list

-- its written form, with notes
abbrev pub pattern_text : Netlist → Config → List PatternData → Text
pattern_text n config list = stil.noted (pattern_set n config list)

-- the written form of the report, where this became of the cubes
abbrev pub report_text : Netlist → Config → LoadRows → List Cube → List Placed → Text
report_text n config rows cubes placed = report.written (compile_report n config (cell_row (plan_of n config).chains rows) cubes placed)

-- ---- counts

abbrev pub is_encoded : Placed → Bool
is_encoded (Into pattern) = true
is_encoded (Unsolvable positions) = false
is_encoded (Skipped cell) = false

abbrev pub is_unsolvable : Placed → Bool
is_unsolvable (Into pattern) = false
is_unsolvable (Unsolvable positions) = true
is_unsolvable (Skipped cell) = false

abbrev pub is_skipped : Placed → Bool
is_skipped (Into pattern) = false
is_skipped (Unsolvable positions) = false
is_skipped (Skipped cell) = true

-- what is counted, where this became of the cubes, these are their patterns, and so many chains are masked in them
abbrev pub counts_by : Netlist → Config → List Placed → List Merged → (masked : ℕ) → Counts
counts_by n config placed merged masked = record {
  cells = scanned_count (judgements n config);
  chains = length (plan_of n config).chains;
  cycles = (plan_of n config).cycles;
  patterns = length merged;
  encoded = count_by is_encoded placed;
  unsolvable = count_by is_unsolvable placed;
  skipped = count_by is_skipped placed;
  masked = masked;
  vectors = vectors_in (plan_of n config).cycles (captures_in merged);
}

-- the same of these patterns; a masked chain counts once for each pattern, and the vectors are those of the pattern set
abbrev pub counts_of : Netlist → Config → List Placed → List PatternData → Counts
counts_of n config placed list = record (counts_by n config placed (map merged_of list) (masked_in list)) { vectors = length (pattern_set n config list).vectors }
