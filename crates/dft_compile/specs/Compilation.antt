-- What a compilation gives.
use Rattle.std.specs.Prelude.{◌≡◌, ◌<◌, ◌^◌, List, length, None, Ok}
use Rattle.dft_netlist.specs.Netlist.{Netlist}
use Rattle.dft_config.specs.Config.{Config}
use Rattle.dft_equations.specs.LoadRows.{LoadRows}
use Rattle.dft_stitch.specs.Chains.{plan_of}
use Rattle.dft_cubes.specs.declared.cube.Cube.{Cube}
use Rattle.dft_cubes.specs.declared.cube.Merged.{Merged}
use Rattle.dft_merge.specs.declared.placed.Placed.{Placed}
use Rattle.dft_merge.specs.Rows.{cell_row}
use Rattle.dft_report_reader.specs.Reading.{report_of}
use Rattle.dft_vectors.specs.PatternData.{PatternData}
use Rattle.dft_encode.specs.Compiled.{ArePatterns, Placing}
use Rattle.dft_encode.specs.Counts.{masked_in}
use Rattle.dft_compile.specs.declared.texts.CompileTexts.{CompileTexts}
use Rattle.dft_compile.specs.declared.writing.PatternText.{PatternText}
use Rattle.dft_compile.specs.Refusals.{late_refusal}
use Rattle.dft_compile.specs.Reports.{compile_report}
use Rattle.dft_compile.specs.Texts.{counts_of, netlist_text, pattern_set, pattern_text, report_text}

-- the texts and the counts where this became of the cubes, and they are merged so: no check refuses them, and the patterns are those of the
-- merged cubes, whose vectors can be counted
pub record AreTextsOf (n : Netlist) (config : Config) (cubes : List Cube) (rows : LoadRows) (placed : List Placed) (merged : List Merged) (t : CompileTexts) : Type 0 where
  pub accepted : late_refusal n config cubes rows placed merged ≡ None
  pub list : List PatternData
  pub are : ArePatterns n config (plan_of n config) rows merged list
  pub few : length (pattern_set n config list).vectors < 2 ^ 32
  pub netlist : t.netlist.items ≡ netlist_text n config
  pub patterns : t.patterns.items ≡ pattern_text n config list
  pub report : t.report.items ≡ report_text n config rows cubes placed
  pub counts : t.counts ≡ counts_of n config placed list

-- The cubes are placed, and these are the texts and the counts of that; the text of the report is read as the report.
pub record IsCompileOf (n : Netlist) (config : Config) (cubes : List Cube) (t : CompileTexts) : Type 0 where
  pub placing : Placing config (plan_of n config) cubes
  pub texts : AreTextsOf n config cubes placing.rows placing.placed placing.merged t
  pub told : report_of (report_text n config placing.rows cubes placing.placed) ≡ Ok (compile_report n config (cell_row (plan_of n config).chains placing.rows) cubes placing.placed)

-- the text of the patterns of these merged cubes, and how many chains are masked in them
pub record IsPatternText (n : Netlist) (config : Config) (rows : LoadRows) (merged : List Merged) (p : PatternText) : Type 0 where
  pub list : List PatternData
  pub are : ArePatterns n config (plan_of n config) rows merged list
  pub text : p.text.items ≡ pattern_text n config list
  pub masked : p.masked ≡ masked_in list
