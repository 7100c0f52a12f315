-- What is reported of cubes is so.
use Rattle.std.proofs.Common.{ℕ, ◌≡◌, List, [], map, Some, slice_get, refl, sym, ap, subst, ◌∙◌}
use Rattle.std.proofs.lemmas.Option.{none-some, same_Some}
use Rattle.dft_netlist.specs.declared.ids.InstanceId.{InstanceId}
use Rattle.dft_netlist.specs.Netlist.{Netlist}
use Rattle.dft_config.specs.Config.{Config}
use Rattle.dft_config.specs.declared.config.RingConfig.{RingConfig}
use Rattle.dft_equations.specs.LoadRows.{LoadRows}
use Rattle.dft_cubes.specs.declared.cube.Cube.{Cube}
use Rattle.dft_cubes.specs.declared.cube.Merged.{Merged}
use Rattle.dft_cubes.specs.Laws.{AreCubes}
use Rattle.dft_merge.specs.declared.placed.Placed.{Placed}
use Rattle.dft_merge.specs.declared.placed.Placed.TheVariants as word
use Rattle.dft_merge.specs.Laws.{IsUnsolvable}
use Rattle.dft_merge.specs.Placement.{Places, PlacesAll, first_unscanned}
use Rattle.dft_merge.specs.Rows.{CellRows}
use Rattle.dft_replay.specs.Laws.{vectors_of as vectors_in}
use Rattle.dft_replay.specs.Rows.{rows_of as replayed_rows}
use Rattle.dft_report.specs.declared.report.CubeLine.{CubeLine}
use Rattle.dft_report.specs.declared.report.CubeLine.TheVariants.{Encoded, Unsolvable, Skipped}
use Rattle.dft_report.specs.declared.report.CubeReport.{CubeReport}
use Rattle.dft_cube_reports.specs.Laws.{Says}
use Rattle.dft_cube_reports.proofs.LineLemmas.{all_reports}
use Rattle.dft_cube_reports.proofs.PlacedLemmas.{step_at}
use Rattle.dft_insert.specs.declared.style.Style.TheVariants.{Edt}
use Rattle.dft_insert.specs.Statements.{scanned}
use Rattle.dft_compile_laws.specs.Passing.{set_of}
use Rattle.dft_compile_laws.proofs.Listing.{rows_play}
use Rattle.dft_load_laws.specs.Loading.{IsInto, rows_of}
use Rattle.dft_load_laws.proofs.Bringing.{placed_in_runs, unsolvable_in_runs}
use Rattle.dft_compile_laws.specs.Bringing.{merged_of}
use Rattle.dft_compile_laws.specs.Reporting.{EncodedAreBrought, EntriesAreExact, IsEncoded, IsNever, UnscannedAreSkipped, entries_of}
use Rattle.dft_compile_laws.proofs.Brought.{cubes_captured}
use Rattle.dft_compile_laws.proofs.Replayed.{cubes_replayed}

-- ---- words and lines

says_into : (n : Netlist) (ring : RingConfig) (row : CellRows) (cube : Cube) (told : Placed) (line : CubeLine) (p : ℕ) → Says n ring row cube told line → line ≡ Encoded p → told ≡ word.Into p
says_into n ring row cube (word.Into q) line p says is = let same : Encoded q ≡ Encoded p = sym says ∙ is in let e : q ≡ p = cc in ap word.Into e
says_into n ring row cube (word.Unsolvable ids) line p says is = absurd (let same : Unsolvable says.0 ≡ Encoded p = sym says.1 ∙ is in let f : ⊥ = cc in f)
says_into n ring row cube (word.Skipped cell) line p says is = absurd (let same : Skipped says.0 ≡ Encoded p = sym says.1 ∙ is in let f : ⊥ = cc in f)

into_says : (n : Netlist) (ring : RingConfig) (row : CellRows) (cube : Cube) (told : Placed) (line : CubeLine) → Says n ring row cube told line → IsInto told → IsEncoded line
into_says n ring row cube told line says into = (into.0, subst (λ (x : Placed). Says n ring row cube x line) into.1 says)

says_never : (n : Netlist) (ring : RingConfig) (row : CellRows) (cube : Cube) (told : Placed) (line : CubeLine) → Says n ring row cube told line → IsNever line → IsUnsolvable told
says_never n ring row cube (word.Into q) line says never = absurd (let same : Encoded q ≡ Unsolvable never.0 = sym says ∙ never.1 in let f : ⊥ = cc in f)
says_never n ring row cube (word.Unsolvable ids) line says never = (ids, refl)
says_never n ring row cube (word.Skipped cell) line says never = absurd (let same : Skipped says.0 ≡ Unsolvable never.0 = sym says.1 ∙ never.1 in let f : ⊥ = cc in f)

never_says : (n : Netlist) (ring : RingConfig) (row : CellRows) (cube : Cube) (told : Placed) (line : CubeLine) → Says n ring row cube told line → IsUnsolvable told → IsNever line
never_says n ring row cube told line says unsolvable = let its = subst (λ (x : Placed). Says n ring row cube x line) unsolvable.1 says in (its.0, its.1)

-- a cube that names a cell which is not scanned is skipped for it
told_skipped : (columns : ℕ) (row : CellRows) (window : ℕ) (old new : List Merged) (cube : Cube) (told : Placed) (cell : InstanceId) → first_unscanned row cube.cells ≡ Some cell → Places columns row window old cube told new → told ≡ word.Skipped cell
told_skipped columns row window old new cube (word.Skipped own) cell first places = ap word.Skipped (same_Some own cell (sym places.0 ∙ first))
told_skipped columns row window old new cube (word.Into p) cell first places = absurd (none-some cell (sym places.0 ∙ first))
told_skipped columns row window old new cube (word.Unsolvable ids) cell first places = absurd (none-some cell (sym places.0 ∙ first))

-- ---- entries

-- a cube that is reported encoded was placed in the pattern that is told
pub encoded_placed : (n : Netlist) (config : Config) (rows : LoadRows) (window : ℕ) (cubes : List Cube) (placed : List Placed) (patterns : List Merged) → (sound : AreCubes n config cubes) →
    (places : PlacesAll rows.columns (rows_of n config rows) window [] cubes placed patterns) → (c p : ℕ) (cube : Cube) (entry : CubeReport) → (at : slice_get cubes c ≡ Some cube) → (there : slice_get (entries_of n config rows cubes placed) c ≡ Some entry) →
    (encoded : entry.outcome ≡ Encoded p) → slice_get placed c ≡ Some (word.Into p)
encoded_placed n config rows window cubes placed patterns sound places c p cube entry at there encoded =
    let row = rows_of n config rows in
    let step = step_at rows.columns row window [] patterns cubes placed places c cube at in
    let own = (all_reports n config rows.columns row window [] patterns cubes placed sound places).each c cube step.told at step.at in
    let same : own.0 ≡ entry = same_Some own.0 entry (sym own.1 ∙ there) in
    let into : step.told ≡ word.Into p = says_into n config.ring row cube step.told own.0.outcome p own.2.says (ap (λ (e : CubeReport). e.outcome) same ∙ encoded) in
    step.at ∙ ap Some into

pub encoded_brought : EncodedAreBrought
encoded_brought n config rows window cubes placed patterns start turns ready netlist sound are run c p cube entry at there encoded =
    let told = encoded_placed n config rows window cubes placed (map merged_of patterns) sound are.places c p cube entry at there encoded in (
      cubes_replayed n config rows window cubes placed patterns start turns ready netlist are run c p cube at told,
      cubes_captured n config rows window cubes placed patterns (vectors_in (replayed_rows (scanned Edt n config) (set_of n config patterns))) ready sound are (rows_play n config patterns netlist) c p cube at told,
    )

pub unscanned_skipped : UnscannedAreSkipped
unscanned_skipped n config rows window cubes placed patterns sound places c cube cell at first =
    let row = rows_of n config rows in
    let step = step_at rows.columns row window [] patterns cubes placed places c cube at in
    let own = (all_reports n config rows.columns row window [] patterns cubes placed sound places).each c cube step.told at step.at in
    let told : step.told ≡ word.Skipped cell = told_skipped rows.columns row window step.old step.new cube step.told cell first step.places in
    let says : Says n config.ring row cube (word.Skipped cell) own.0.outcome = subst (λ (x : Placed). Says n config.ring row cube x own.0.outcome) told own.2.says in
    (own.0, own.1, record { name = own.2.name; cell_name = says.0; named = says.2; outcome = says.1 })

pub entries_exact : EntriesAreExact
entries_exact n config ports rows window cubes placed patterns ready suits are sound places c cube at scanned =
    let row = rows_of n config rows in
    let step = step_at rows.columns row window [] patterns cubes placed places c cube at in
    let own = (all_reports n config rows.columns row window [] patterns cubes placed sound places).each c cube step.told at step.at in
    let line : CubeLine = own.0.outcome in
    let says : Says n config.ring row cube step.told line = own.2.says in
    let into = placed_in_runs n config ports rows window step.old step.new cube step.told ready suits are scanned step.places in
    let never = unsolvable_in_runs n config ports rows window step.old step.new cube step.told ready suits are scanned step.places in (
      own.0,
      own.1,
      record {
        name = own.2.name;
        encoded = (λ is. into.0 (is.0, says_into n config.ring row cube step.told line is.0 says is.1), λ some. into_says n config.ring row cube step.told line says (into.1 some));
        unsolvable = (λ is. never.0 (says_never n config.ring row cube step.told line says is), λ none. never_says n config.ring row cube step.told line says (never.1 none));
      },
    )
