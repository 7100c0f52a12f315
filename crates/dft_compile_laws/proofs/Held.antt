-- Compilations hold.
use Rattle.std.proofs.Common.{ℕ, ◌≡◌, List, [], map, Some, option_map, slice_get, sym, ap, subst, ◌∙◌}
use Rattle.std.proofs.lemmas.Option.{slice_get-map}
use Rattle.dft_netlist.specs.Netlist.{Netlist}
use Rattle.dft_netlist.specs.Sound.{IsNetlist}
use Rattle.dft_config.specs.Config.{Config}
use Rattle.dft_stitch.specs.Chains.{plan_of}
use Rattle.dft_cubes.specs.declared.cube.Cube.{Cube}
use Rattle.dft_cubes.specs.declared.cube.Merged.{Merged}
use Rattle.dft_cubes.specs.Laws.{AreCubes}
use Rattle.dft_merge.specs.declared.placed.Placed.TheVariants.{Into}
use Rattle.dft_merge.specs.Placement.{PlacesAll}
use Rattle.dft_merge.specs.Staying.{IsMerged}
use Rattle.dft_merge.proofs.MergedLemmas.{patterns_sound}
use Rattle.dft_stil_out.proofs.WrittenStands.{stands_written}
use Rattle.dft_scan_frame.specs.Statements.{IsReady}
use Rattle.dft_insert.specs.declared.style.Style.TheVariants.{Edt}
use Rattle.dft_insert.specs.Statements.{scanned}
use Rattle.dft_vectors.specs.PatternData.{PatternData}
use Rattle.dft_pattern_behavior.specs.Listed as listed
use Rattle.dft_compile_laws.specs.Formed.{GiveNoClock}
use Rattle.dft_compile_laws.specs.Passing.{set_of}
use Rattle.dft_compile_laws.proofs.Forming.{written_formed}
use Rattle.dft_compile_laws.proofs.Listing.{rows_play}
use Rattle.dft_compile_laws.proofs.Standing.{patterns_stand}
use Rattle.dft_compile_laws.proofs.WrittenPassing.{written_pass}
use Rattle.dft_load_laws.specs.Loading.{rows_of}
use Rattle.dft_load_laws.proofs.Running.{loads_run}
use Rattle.dft_cube_reports.proofs.LineLemmas.{all_reports}
use Rattle.dft_compile_laws.specs.Bringing.{AreCompiled, merged_of}
use Rattle.dft_compile_laws.proofs.Brought.{cubes_captured, cubes_loaded}
use Rattle.dft_compile_laws.proofs.Replayed.{cubes_replayed}
use Rattle.dft_compile_laws.proofs.Reported.{encoded_placed, entries_exact, unscanned_skipped}
use Rattle.dft_compile_laws.proofs.Running.{sets_run}
use Rattle.dft_encode.specs.Compiled.{ArePatterns, Placing}
use Rattle.dft_compile_laws.specs.Holding.{CompilationsHold, IsBrought, played}

module _ (n : Netlist) (config : Config) (cubes : List Cube) (placing : Placing config (plan_of n config) cubes) (list : List PatternData) (ready : IsReady n config) (sound : AreCubes n config cubes) (are : ArePatterns n config (plan_of n config) placing.rows placing.merged list) where
  places : PlacesAll placing.rows.columns (rows_of n config placing.rows) config.window [] cubes placing.placed (map merged_of list)
  places = subst (λ (merged : List Merged). PlacesAll placing.rows.columns (rows_of n config placing.rows) config.window [] cubes placing.placed merged) (sym are.merged) placing.is

  compiled : AreCompiled n config placing.rows config.window cubes placing.placed list
  compiled = record { equations = placing.equations; places = places; loads = λ p d at. (are.each p d at).loads }

  -- what each pattern asks is sound
  merged_sound : (number : ℕ) (p : PatternData) → slice_get list number ≡ Some p → IsMerged n config p.merged
  merged_sound number p at =
      patterns_sound n config placing.rows.columns (rows_of n config placing.rows) config.window cubes placing.placed (map merged_of list) sound places number p.merged (slice_get-map merged_of list number ∙ ap (option_map merged_of) at)

  stand : listed.ArePatterns n config list
  stand = patterns_stand n config list ready (λ number p at. record { captured = (are.each number p at).captured; masks = (are.each number p at).masks; domains = (merged_sound number p at).domains })

  gives : GiveNoClock n config list
  gives number k p given at there = (merged_sound number p at).ports.no_clock k given there

  brought : IsNetlist (scanned Edt n config) → (c p : ℕ) (cube : Cube) → slice_get cubes c ≡ Some cube → slice_get placing.placed c ≡ Some (Into p) → IsBrought n config list cube p
  brought netlist c p cube at word =
      let it = cubes_captured n config placing.rows config.window cubes placing.placed list (played n config list) ready sound compiled (rows_play n config list netlist) c p cube at word in
      record {
        loaded = λ ports suits start turns run. cubes_loaded n config ports placing.rows config.window cubes placing.placed list (played n config list) start turns ready suits compiled (rows_play n config list netlist) run c p cube at word;
        replayed = λ start turns run. cubes_replayed n config placing.rows config.window cubes placing.placed list start turns ready netlist compiled run c p cube at word;
        captures = it;
      }

pub compilations_hold : CompilationsHold
compilations_hold n config order cubes placing list ready netlist ordered sound are =
    let stands = stand n config cubes placing list ready sound are in
    record {
      entries = all_reports n config placing.rows.columns (rows_of n config placing.rows) config.window [] placing.merged cubes placing.placed sound placing.is;
      encoded = λ c p cube entry at there encoded. brought n config cubes placing list ready sound are netlist c p cube at (encoded_placed n config placing.rows config.window cubes placing.placed placing.merged sound placing.is c p cube entry at there encoded);
      skipped = λ c cube cell at first. unscanned_skipped n config placing.rows config.window cubes placing.placed placing.merged sound placing.is c cube cell at first;
      loads = brought n config cubes placing list ready sound are netlist;
      tells = λ ports suits c cube at scanned. entries_exact n config ports placing.rows config.window cubes placing.placed placing.merged ready suits placing.equations sound placing.is c cube at scanned;
      carried = λ ports suits table. loads_run n config ports table ready suits;
      runs = λ ports start low. sets_run (scanned Edt n config) order (set_of n config list) ports start netlist ordered low;
      passes = written_pass n config list order ready netlist ordered stands;
      formed = λ few. written_formed n config list ready netlist stands (gives n config cubes placing list ready sound are) few;
      reads = (λ few.
          let formed = written_formed n config list ready netlist stands (gives n config cubes placing list ready sound are) few in
          stands_written (set_of n config list) formed.well formed.writable);
    }
