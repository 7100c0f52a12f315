-- Each cube has its lines.
use Rattle.std.proofs.Common.{◌≡◌, ℕ, zero, suc, ◌+◌, ◌<◌, ◌≤◌, inl, inr, Bool, true, false, cond, List, [], ◌∷◌, ◌++◌, length, Option, None, Some, slice_get, unwrap_or, refl, sym, subst, ap, arith}
use Rattle.std.specs.Prelude.{IsSome, is_none, option_map}
use Rattle.std.specs.List.{cons_option}
use Rattle.std.proofs.lemmas.Option.{same_Some, none-some}
use Rattle.dft_base.specs.Lexing.{Text}
use Rattle.dft_base.specs.Solutions.{Equation, StatesCertificate, StatesFrom, equation_at, ids_to}
use Rattle.dft_netlist.specs.declared.ids.InstanceId.{InstanceId}
use Rattle.dft_netlist.specs.Netlist.{Netlist}
use Rattle.dft_config.specs.declared.config.RingConfig.{RingConfig}
use Rattle.dft_cubes.specs.declared.cube.Cube.{Cube}
use Rattle.dft_cubes.specs.declared.cube.Merged.{Merged}
use Rattle.dft_merge.specs.declared.placed.Placed.{Placed}
use Rattle.dft_merge.specs.declared.placed.Placed.TheVariants.{Into, Unsolvable, Skipped}
use Rattle.dft_merge.specs.Placement.{Places, PlacesAll, equations_from, equations_of, first_unscanned}
use Rattle.dft_merge.specs.Rows.{CellRows}
use Rattle.dft_report.specs.declared.report.CubeLine.{CubeLine}
use Rattle.dft_report.specs.declared.report.CubeLine.TheVariants as line
use Rattle.dft_report.specs.declared.report.CubeReport.{CubeReport}
use Rattle.dft_report.specs.declared.report.SumLine.{SumLine}
use Rattle.dft_cube_reports.specs.Laws.{AreReportsOf, AreSumsAt, CubesHaveLines, IsReportOf, IsSumAt, Says}
use Rattle.dft_cube_reports.specs.Outcomes.{cell_name, cube_report, cube_reports, outcome_of, sum_as, sum_at, sums_of}

-- ---- the positions of a certificate

abbrev pub Below : ℕ → List ℕ → Type 0
Below b [] = Unit {0}
Below b (k ∷ ks) = (k < b) × Below b ks

abbrev IdsBelow : ℕ → List Equation → Type 0
IdsBelow b [] = Unit {0}
IdsBelow b (e ∷ es) = (e.id < b) × IdsBelow b es

pub both_below : (b : ℕ) (xs ys : List ℕ) → Below b xs → Below b ys → Below b (xs ++ ys)
both_below b [] ys h g = g
both_below b (x ∷ xs) ys h g = (h.0, both_below b xs ys h.1 g)

one_more : (b : ℕ) (es : List Equation) (e : Equation) → IdsBelow b es → e.id < b → IdsBelow b (es ++ e ∷ [])
one_more b [] e h less = (less, tt)
one_more b (x ∷ es) e h less = (h.0, one_more b es e h.1 less)

id_below : (b : ℕ) (es : List Equation) (j : ℕ) → IdsBelow b es → j < length es → (equation_at es j).id < b
id_below b [] j h less = absurd (omega (arith, less))
id_below b (e ∷ es) zero h less = h.0
id_below b (e ∷ es) (suc j) h less = id_below b es j h.1 (omega (arith, less))

pub if_below : (b id : ℕ) (t : Bool) → id < b → Below b (cond t (id ∷ []) [])
if_below b id true less = (less, tt)
if_below b id false less = tt

ids_below : (b m : ℕ) (picks : ℕ → Bool) (es : List Equation) → m ≤ length es → IdsBelow b es → Below b (ids_to m picks es)
ids_below b zero picks es le h = tt
ids_below b (suc m) picks es le h =
    both_below b (ids_to m picks es) (cond (picks m) ((equation_at es m).id ∷ []) []) (ids_below b m picks es (omega (arith, le)) h) (if_below b (equation_at es m).id (picks m) (id_below b es m h (omega (arith, le))))

states_below : (b n : ℕ) (kept es : List Equation) (ids : List ℕ) → IdsBelow b kept → IdsBelow b es → StatesFrom n kept es ids → Below b ids
states_below b n kept [] ids k h states = absurd states
states_below b n kept (e ∷ es) ids k h (inl more) = states_below b n (kept ++ e ∷ []) es ids (one_more b kept e k h.0) h.1 more.1
states_below b n kept (e ∷ es) ids k h (inr (inl more)) = states_below b n kept es ids k h.1 more.2
states_below b n kept (e ∷ es) ids k h (inr (inr ends)) =
    subst (Below b) (sym ends.named) (both_below b (ids_to (length kept) ends.picks kept) (e.id ∷ []) (ids_below b (length kept) ends.picks kept (omega arith) k) (h.0, tt))

equations_below : (b : ℕ) (row : CellRows) (k : ℕ) (cells : List (InstanceId × Bool)) → k + length cells ≤ b → IdsBelow b (equations_from row k cells)
equations_below b row k [] le = tt
equations_below b row k (given ∷ cells) le = (omega (arith, le), equations_below b row (suc k) cells (omega (arith, le)))

certificate_below : (n : ℕ) (row : CellRows) (cells : List (InstanceId × Bool)) (ids : List ℕ) → StatesCertificate n (equations_of row cells) ids → Below (length cells) ids
certificate_below n row cells ids states = states_below (length cells) n [] (equations_of row cells) ids tt (equations_below (length cells) row 0 cells (omega arith)) states

-- ---- sums

-- there is a cell at each position, and it has a name
cell_at : (cells : List (InstanceId × Bool)) (k : ℕ) → k < length cells → (given : InstanceId × Bool) × (slice_get cells k ≡ Some given)
cell_at [] k less = absurd (omega (arith, less))
cell_at (given ∷ cells) zero less = (given, refl)
cell_at (given ∷ cells) (suc k) less = cell_at cells k (omega (arith, less))

some_name : (o : Option Text) → IsSome o → (name : Text) × (o ≡ Some name)
some_name None is = absurd (let f : ⊥ = cc in f)
some_name (Some name) is = (name, refl)

sum_with : (n : Netlist) (ring : RingConfig) (row : CellRows) (cells : List (InstanceId × Bool)) (position : ℕ) (given : InstanceId × Bool) (name : Text) → slice_get cells position ≡ Some given → cell_name n given.0 ≡ Some name →
    (sum : SumLine) × (sum_at n ring row cells position ≡ Some sum) × IsSumAt n ring row cells position sum
sum_with n ring row cells position given name at named = (sum_as ring (unwrap_or (row given.0) []) given.1 name, rw (at, named) refl, record { given = given; at = at; name = name; named = named; is = refl })

-- the sum at a position
sum_is : (n : Netlist) (ring : RingConfig) (row : CellRows) (cells : List (InstanceId × Bool)) (position : ℕ) → ((k : ℕ) (given : InstanceId × Bool) → slice_get cells k ≡ Some given → IsSome (cell_name n given.0)) → position < length cells →
    (sum : SumLine) × (sum_at n ring row cells position ≡ Some sum) × IsSumAt n ring row cells position sum
sum_is n ring row cells position names less =
    let at = cell_at cells position less in
    let name = some_name (cell_name n at.0.0) (names position at.0 at.1) in
    sum_with n ring row cells position at.0 name.0 at.1 name.1

sums_more : (n : Netlist) (ring : RingConfig) (row : CellRows) (cells : List (InstanceId × Bool)) (position : ℕ) (positions : List ℕ) (sums : List SumLine) (sum : SumLine) → IsSumAt n ring row cells position sum → AreSumsAt n ring row cells positions sums →
    AreSumsAt n ring row cells (position ∷ positions) (sum ∷ sums)
sums_more n ring row cells position positions sums sum is are = record {
  count = ap suc are.count;
  each = each_sum;
} where
  each_sum : (k other : ℕ) → slice_get (position ∷ positions) k ≡ Some other → (s : SumLine) × (slice_get (sum ∷ sums) k ≡ Some s) × IsSumAt n ring row cells other s
  each_sum zero other at = (sum, refl, subst (λ (p : ℕ). IsSumAt n ring row cells p sum) (same_Some position other at) is)
  each_sum (suc k) other at = are.each k other at

all_sums : (n : Netlist) (ring : RingConfig) (row : CellRows) (cells : List (InstanceId × Bool)) (positions : List ℕ) → ((k : ℕ) (given : InstanceId × Bool) → slice_get cells k ≡ Some given → IsSome (cell_name n given.0)) → Below (length cells) positions →
    AreSumsAt n ring row cells positions (sums_of n ring row cells positions)
all_sums n ring row cells [] names below = record { count = refl; each = λ k other at. absurd (none-some other at) }
all_sums n ring row cells (position ∷ positions) names below =
    let one = sum_is n ring row cells position names below.0 in
    let rest = all_sums n ring row cells positions names below.1 in
    subst (λ (o : Option SumLine). AreSumsAt n ring row cells (position ∷ positions) (cons_option o (sums_of n ring row cells positions))) (sym one.1)
    (sums_more n ring row cells position positions (sums_of n ring row cells positions) one.0 one.2 rest)

-- ---- cubes

-- each cell that a cube gives has a name
abbrev HasNames : Netlist → Cube → Type 0
HasNames n cube = (k : ℕ) (given : InstanceId × Bool) → slice_get cube.cells k ≡ Some given → IsSome (cell_name n given.0)

abbrev HaveNames : Netlist → List Cube → Type 0
HaveNames n cubes = (c : ℕ) (cube : Cube) → slice_get cubes c ≡ Some cube → HasNames n cube

unscanned_case : (n : Netlist) (row : CellRows) (given : InstanceId × Bool) (cells : List (InstanceId × Bool)) (cell : InstanceId) (t : Bool) → IsSome (cell_name n given.0) → (first_unscanned row cells ≡ Some cell → IsSome (cell_name n cell)) →
    cond t (Some given.0) (first_unscanned row cells) ≡ Some cell → IsSome (cell_name n cell)
unscanned_case n row given cells cell true here later is = subst (λ (c : InstanceId). IsSome (cell_name n c)) (same_Some given.0 cell is) here
unscanned_case n row given cells cell false here later is = later is

-- the first cell that is not scanned is one of the cube's
unscanned_named : (n : Netlist) (row : CellRows) (cells : List (InstanceId × Bool)) (cell : InstanceId) → ((k : ℕ) (given : InstanceId × Bool) → slice_get cells k ≡ Some given → IsSome (cell_name n given.0)) → first_unscanned row cells ≡ Some cell → IsSome (cell_name n cell)
unscanned_named n row [] cell names is = absurd (none-some cell is)
unscanned_named n row (given ∷ cells) cell names is = unscanned_case n row given cells cell (is_none (row given.0)) (names zero given refl) (unscanned_named n row cells cell (λ k. names (suc k))) is

report_by : (n : Netlist) (ring : RingConfig) (row : CellRows) (cube : Cube) (placed : Placed) (outcome : CubeLine) → outcome_of n ring row cube placed ≡ Some outcome → Says n ring row cube placed outcome →
    (r : CubeReport) × (cube_report n ring row cube placed ≡ Some r) × IsReportOf n ring row cube placed r
report_by n ring row cube placed outcome is says = (record { name = cube.name; outcome = outcome }, rw is refl, record { name = refl; says = says })

-- a cube that is placed has its entry
one_report : (n : Netlist) (ring : RingConfig) (columns : ℕ) (row : CellRows) (window : ℕ) (old new : List Merged) (cube : Cube) (placed : Placed) → HasNames n cube → Places columns row window old cube placed new →
    (r : CubeReport) × (cube_report n ring row cube placed ≡ Some r) × IsReportOf n ring row cube placed r
one_report n ring columns row window old new cube (Into pattern) names places = report_by n ring row cube (Into pattern) (line.Encoded pattern) refl refl
one_report n ring columns row window old new cube (Unsolvable positions) names places =
    report_by n ring row cube (Unsolvable positions) (line.Unsolvable (sums_of n ring row cube.cells positions)) refl
    (sums_of n ring row cube.cells positions, refl, all_sums n ring row cube.cells positions names (certificate_below columns row cube.cells positions places.1))
one_report n ring columns row window old new cube (Skipped cell) names places =
    let name = some_name (cell_name n cell) (unscanned_named n row cube.cells cell names places.0) in
    report_by n ring row cube (Skipped cell) (line.Skipped name.0) (ap (option_map line.Skipped) name.1) (name.0, refl, name.1)

reports_more : (n : Netlist) (ring : RingConfig) (row : CellRows) (cube : Cube) (cubes : List Cube) (place : Placed) (placed : List Placed) (r : CubeReport) (reports : List CubeReport) → IsReportOf n ring row cube place r → AreReportsOf n ring row cubes placed reports →
    AreReportsOf n ring row (cube ∷ cubes) (place ∷ placed) (r ∷ reports)
reports_more n ring row cube cubes place placed r reports is are = record {
  count = ap suc are.count;
  each = each_report;
} where
  each_report : (c : ℕ) (other : Cube) (p : Placed) → slice_get (cube ∷ cubes) c ≡ Some other → slice_get (place ∷ placed) c ≡ Some p → (s : CubeReport) × (slice_get (r ∷ reports) c ≡ Some s) × IsReportOf n ring row other p s
  each_report zero other p at there =
      (r, refl, subst (λ (x : Cube). IsReportOf n ring row x p r) (same_Some cube other at) (subst (λ (q : Placed). IsReportOf n ring row cube q r) (same_Some place p there) is))
  each_report (suc c) other p at there = are.each c other p at there

reports_of : (n : Netlist) (ring : RingConfig) (columns : ℕ) (row : CellRows) (window : ℕ) (old new : List Merged) (cubes : List Cube) (placed : List Placed) → HaveNames n cubes → PlacesAll columns row window old cubes placed new →
    AreReportsOf n ring row cubes placed (cube_reports n ring row cubes placed)
reports_of n ring columns row window old new [] [] names places = record { count = refl; each = λ c cube p at there. absurd (none-some cube at) }
reports_of n ring columns row window old new [] (place ∷ placed) names places = absurd places
reports_of n ring columns row window old new (cube ∷ cubes) [] names places = absurd places
reports_of n ring columns row window old new (cube ∷ cubes) (place ∷ placed) names places =
    let one = one_report n ring columns row window old places.0 cube place (names zero cube refl) places.1.0 in
    let rest = reports_of n ring columns row window places.0 new cubes placed (λ c. names (suc c)) places.1.1 in
    subst (λ (o : Option CubeReport). AreReportsOf n ring row (cube ∷ cubes) (place ∷ placed) (cons_option o (cube_reports n ring row cubes placed))) (sym one.1)
    (reports_more n ring row cube cubes place placed one.0 (cube_reports n ring row cubes placed) one.2 rest)

pub all_reports : CubesHaveLines
all_reports n config columns row window old new cubes placed are places = reports_of n config.ring columns row window old new cubes placed (λ c cube at. (are.each c cube at).cells.named) places
