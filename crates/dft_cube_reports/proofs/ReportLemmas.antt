-- One cube more, and its bytes.
use Rattle.std.proofs.Common.{◌≡◌, ℕ, ◌+◌, ◌<◌, ◌≤◌, List, [], ◌∷◌, ◌++◌, length, drop, get_or, Option, None, Some, sym, ap, ap₂, ◌∙◌, arith}
use Rattle.std.specs.Option.{option_to_list}
use Rattle.std.specs.List.{cons_option}
use Rattle.std.proofs.lemmas.List.{drop_more, drop_all}
use Rattle.std.proofs.lemmas.List.Sums.{sum_by-cons}
use Rattle.dft_netlist.specs.Netlist.{Netlist}
use Rattle.dft_config.specs.declared.config.RingConfig.{RingConfig}
use Rattle.dft_cubes.specs.declared.cube.Cube.{Cube}
use Rattle.dft_merge.specs.declared.placed.Placed.{Placed}
use Rattle.dft_merge.specs.Rows.{CellRows}
use Rattle.dft_report.specs.declared.report.CubeReport.{CubeReport}
use Rattle.dft_report.specs.Written.{cube_lines}
use Rattle.dft_cube_reports.specs.Outcomes.{cube_report, cube_reports}
use Rattle.dft_cube_reports.specs.Lengths.{lines_length, option_length}
use Rattle.dft_cube_reports.proofs.VariableLemmas.{added}

pub counted : (report : Option CubeReport) (rest : List CubeReport) → lines_length (cons_option report rest) ≡ option_length report + lines_length rest
counted None rest = omega arith
counted (Some report) rest = sum_by-cons (λ (r : CubeReport). length (cube_lines r)) report rest

-- the reports from a place on
pub reports_at : (n : Netlist) (ring : RingConfig) (row : CellRows) (cubes : List Cube) (placed : List Placed) (k : ℕ) (cube : Cube) (place : Placed) → k < length cubes → length placed ≡ length cubes → cube ≡ get_or cubes k cube → place ≡ get_or placed k place →
    cube_reports n ring row (drop k cubes) (drop k placed) ≡ cons_option (cube_report n ring row cube place) (cube_reports n ring row (drop (k + 1) cubes) (drop (k + 1) placed))
reports_at n ring row cubes placed k cube place less same is at =
    ap₂ (cube_reports n ring row) (drop_more cubes k cube less ∙ ap (λ x. x ∷ drop (k + 1) cubes) (sym is)) (drop_more placed k place (omega arith) ∙ ap (λ x. x ∷ drop (k + 1) placed) (sym at))

pub no_reports : (n : Netlist) (ring : RingConfig) (row : CellRows) (cubes : List Cube) (placed : List Placed) (k : ℕ) → length cubes ≤ k → cube_reports n ring row (drop k cubes) (drop k placed) ≡ []
no_reports n ring row cubes placed k far = ap (λ l. cube_reports n ring row l (drop k placed)) (drop_all k cubes far)

-- the report of one cube more, if it has one
pub report_goes_on : (n : Netlist) (ring : RingConfig) (row : CellRows) (cubes : List Cube) (placed : List Placed) (k : ℕ) (cube : Cube) (place : Placed) (so_far new all : List CubeReport) → (less : k < length cubes) → (same : length placed ≡ length cubes) →
    (is : cube ≡ get_or cubes k cube) → (at : place ≡ get_or placed k place) → (more : new ≡ so_far ++ option_to_list (cube_report n ring row cube place)) → (before : so_far ++ cube_reports n ring row (drop k cubes) (drop k placed) ≡ all) →
    new ++ cube_reports n ring row (drop (k + 1) cubes) (drop (k + 1) placed) ≡ all
report_goes_on n ring row cubes placed k cube place so_far new all less same is at more before =
    let rest = cube_reports n ring row (drop (k + 1) cubes) (drop (k + 1) placed) in
    ap (λ (l : List CubeReport). l ++ rest) more ∙ added so_far (cube_report n ring row cube place) rest
    ∙ ap (λ (l : List CubeReport). so_far ++ l) (sym (reports_at n ring row cubes placed k cube place less same is at)) ∙ before

-- the bytes of one cube more
pub length_goes_on : (n : Netlist) (ring : RingConfig) (row : CellRows) (cubes : List Cube) (placed : List Placed) (k : ℕ) (cube : Cube) (place : Placed) (so_far more new all : ℕ) → (less : k < length cubes) → (same : length placed ≡ length cubes) →
    (is : cube ≡ get_or cubes k cube) → (at : place ≡ get_or placed k place) → (has : more ≡ option_length (cube_report n ring row cube place)) → (sum : new ≡ so_far + more) → (before : so_far + lines_length (cube_reports n ring row (drop k cubes) (drop k placed)) ≡ all) →
    new + lines_length (cube_reports n ring row (drop (k + 1) cubes) (drop (k + 1) placed)) ≡ all
length_goes_on n ring row cubes placed k cube place so_far more new all less same is at has sum before =
    let rest = cube_reports n ring row (drop (k + 1) cubes) (drop (k + 1) placed) in
    omega (arith, has, sum, before, counted (cube_report n ring row cube place) rest, ap lines_length (reports_at n ring row cubes placed k cube place less same is at))
