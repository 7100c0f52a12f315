-- What compilations write certifies.
use Rattle.std.proofs.Common.{ℕ, zero, suc, ◌+◌, ◌≡◌, Bool, true, false, cond, List, [], ◌∷◌, length, get_or, Option, None, Some, is_none, is_some, option_and_then, slice_get, unwrap_or, refl, sym, ap, subst, arith, ◌∙◌}
use Rattle.std.specs.Prelude.{if◌then◌else◌}
use Rattle.std.specs.Str.{bytes_eq}
use Rattle.std.proofs.lemmas.Option.{none-some, same_Some, slice_get-get_or, slice_get_within}
use Rattle.dft_base.specs.Lexing.{Text}
use Rattle.dft_base.specs.Solutions.{bit_at, xor}
use Rattle.dft_base.proofs.TextLemmas.{same_text, bytes_eq-self}
use Rattle.dft_netlist.specs.declared.ids.InstanceId.{InstanceId}
use Rattle.dft_netlist.specs.declared.instance.Instance.{Instance}
use Rattle.dft_netlist.specs.Names.{find_instance, find_instance_from, has_this_name, instance_name}
use Rattle.dft_netlist.specs.Netlist.{Netlist}
use Rattle.dft_netlist.specs.Sound.{IsNetlist}
use Rattle.dft_netlist.proofs.FindLemmas.{this_name}
use Rattle.dft_netlist.proofs.ListingLemmas.{found_by}
use Rattle.dft_config.specs.Config.{Config}
use Rattle.dft_config.specs.declared.config.RingConfig.{RingConfig}
use Rattle.dft_config.specs.Range.{IsInRange}
use Rattle.dft_equations.specs.LoadRows.{LoadRows}
use Rattle.dft_stitch.specs.Chains.{plan_of}
use Rattle.dft_stitch.proofs.OnceLemmas.{cells_once, cells_scanned}
use Rattle.dft_stitch.specs.Plans.{falling_head}
use Rattle.dft_cubes.specs.declared.cube.Cube.{Cube}
use Rattle.dft_cubes.specs.declared.cube.Merged.{Merged}
use Rattle.dft_cubes.specs.Laws.{AreCubes}
use Rattle.dft_merge.specs.declared.placed.Placed.{Placed}
use Rattle.dft_merge.specs.declared.placed.Placed.TheVariants as word
use Rattle.dft_merge.specs.Placement.{Places, PlacesAll, first_unscanned}
use Rattle.dft_merge.specs.Rows.{CellRows, StandApart}
use Rattle.dft_merge.proofs.MergerLemmas.{rows_are}
use Rattle.dft_merge.proofs.PlaceLemmas.{row_wide}
use Rattle.dft_report.specs.declared.report.CubeLine.{CubeLine}
use Rattle.dft_report.specs.declared.report.CubeLine.TheVariants.{Encoded, Unsolvable, Skipped}
use Rattle.dft_report.specs.declared.report.CubeReport.{CubeReport}
use Rattle.dft_report.specs.declared.report.SumLine.{SumLine}
use Rattle.dft_cube_reports.specs.Laws.{AreSumsAt, IsSumAt, Says}
use Rattle.dft_cube_reports.specs.Outcomes.{cube_reports}
use Rattle.dft_cube_reports.proofs.LineLemmas.{all_reports}
use Rattle.dft_cube_reports.proofs.PlacedLemmas.{step_at}
use Rattle.dft_load_laws.specs.Loading.{AreRows, rows_of}
use Rattle.dft_certify.specs.Certifying.{cube_named, has_column, if_scanned, odd_in, scanned_named}
use Rattle.dft_certify.specs.Laws.{AllCertified, IsCertified, IsSumOf}
use Rattle.dft_certify.proofs.ExactLemmas.{certified_exactly}
use Rattle.dft_certify_laws.specs.Written.{WrittenCertifies}
use Rattle.dft_certify_laws.proofs.Stated.{IsGood, bit_of_cell, differ_same, odd_ids, row_of_cell, stated_good}

-- ---- the cell of a name

-- what is found has the name, and something is found where something has it
first_at : (t : Bool) (from : ℕ) (x : Instance) (rest : List Instance) (name : Text) (k : InstanceId) → has_this_name x.name name ≡ t →
    (find_instance_from (suc from) rest name ≡ Some k → (j : ℕ) × (k.0 ≡ suc from + j) × (option_and_then instance_name (slice_get rest j) ≡ Some name)) →
    cond t (Some (record { 0 = from })) (find_instance_from (suc from) rest name) ≡ Some k → (j : ℕ) × (k.0 ≡ from + j) × (option_and_then instance_name (slice_get (x ∷ rest) j) ≡ Some name)
first_at true from x rest name k is more h = (zero, sym (ap (λ (i : InstanceId). i.0) (same_Some (record { 0 = from }) k h)) ∙ omega arith, this_name x.name name is)
first_at false from x rest name k is more h = let r = more h in (suc r.0, r.1 ∙ omega arith, r.2)

named_at : (from : ℕ) (instances : List Instance) (name : Text) (k : InstanceId) → find_instance_from from instances name ≡ Some k → (j : ℕ) × (k.0 ≡ from + j) × (option_and_then instance_name (slice_get instances j) ≡ Some name)
named_at from [] name k h = absurd (none-some k h)
named_at from (x ∷ rest) name k h = first_at (has_this_name x.name name) from x rest name k refl (named_at (suc from) rest name k) h

-- ---- scanned cells

scanned_by : (row : CellRows) (g : InstanceId × Bool) (cells : List (InstanceId × Bool)) (t : Bool) → is_none (row g.0) ≡ t → (if t then Some g.0 else first_unscanned row cells) ≡ None → (is_none (row g.0) ≡ false) × (first_unscanned row cells ≡ None)
scanned_by row g cells true is h = absurd (none-some g.0 (sym h))
scanned_by row g cells false is h = (is, h)

scanned_each : (row : CellRows) (cells : List (InstanceId × Bool)) → first_unscanned row cells ≡ None → (k : ℕ) (given : InstanceId × Bool) → slice_get cells k ≡ Some given → is_none (row given.0) ≡ false
scanned_each row [] none k given at = absurd (none-some given at)
scanned_each row (g ∷ cells) none zero given at = ap (λ (x : InstanceId × Bool). is_none (row x.0)) (sym (same_Some g given at)) ∙ (scanned_by row g cells (is_none (row g.0)) refl none).0
scanned_each row (g ∷ cells) none (suc k) given at = scanned_each row cells (scanned_by row g cells (is_none (row g.0)) refl none).1 k given at

some_row : (o : Option (List Bool)) → is_none o ≡ false → (r : List Bool) × (o ≡ Some r)
some_row None h = absurd (let f : true ≡ false = h in cc)
some_row (Some r) h = (r, refl)

-- ---- the lines of a stated certificate

module _ (n : Netlist) (ring : RingConfig) (row : CellRows) (columns : ℕ) (cells : List (InstanceId × Bool)) (sound : IsNetlist n) (scanned : first_unscanned row cells ≡ None) where
  line_cell : (p : ℕ) (line : SumLine) (is : IsSumAt n ring row cells p line) → scanned_named n row line.name ≡ Some is.given.0
  line_cell p line is =
      let r = some_row (row is.given.0) (scanned_each row cells scanned p is.given is.at) in
      ap (λ (l : SumLine). scanned_named n row l.name) is.is ∙ ap (option_and_then (if_scanned row)) (found_by n is.name is.given.0 (find_instance n is.name) sound refl is.named)
      ∙ ap (λ (o : Option (List Bool)). if is_some o then Some is.given.0 else None) r.1

  line_sum : (p : ℕ) (line : SumLine) → IsSumAt n ring row cells p line → IsSumOf n ring row cells line
  line_sum p line is = record {
    cell = is.given.0;
    named = line_cell p line is;
    place = p;
    care = is.at ∙ ap (λ (l : SumLine). Some (is.given.0, l.bit)) (sym is.is);
    variables = ap (λ (l : SumLine). l.variables) is.is;
  }

  line_column : (p c : ℕ) (line : SumLine) → IsSumAt n ring row cells p line → has_column n row c line ≡ bit_at (row_of_cell row (slice_get cells p)) c
  line_column p c line is =
      ap (λ (o : Option InstanceId). bit_at (unwrap_or (option_and_then row o) []) c) (line_cell p line is) ∙ ap (λ (o : Option (InstanceId × Bool)). bit_at (row_of_cell row o) c) (sym is.at)

  line_bit : (p : ℕ) (line : SumLine) → IsSumAt n ring row cells p line → line.bit ≡ bit_of_cell (slice_get cells p)
  line_bit p line is = ap (λ (l : SumLine). l.bit) is.is ∙ ap bit_of_cell (sym is.at)

  -- the line at a place is the sum at the position there
  at_place : (ids : List ℕ) (lines : List SumLine) → AreSumsAt n ring row cells ids lines → (k : ℕ) (line : SumLine) → slice_get lines k ≡ Some line → (p : ℕ) × (slice_get ids k ≡ Some p) × IsSumAt n ring row cells p line
  at_place ids lines are k line at =
      let within = slice_get_within lines k line at in
      let there : slice_get ids k ≡ Some (get_or ids k 0) = slice_get-get_or ids k 0 (let count = are.count in omega (arith, within, count)) in
      let own = are.each k (get_or ids k 0) there in
      (get_or ids k 0, there, subst (IsSumAt n ring row cells (get_or ids k 0)) (same_Some own.0 line (sym own.1 ∙ at)) own.2)

  rest_sums : (p : ℕ) (ids : List ℕ) (line : SumLine) (lines : List SumLine) → AreSumsAt n ring row cells (p ∷ ids) (line ∷ lines) → AreSumsAt n ring row cells ids lines
  rest_sums p ids line lines are = record { count = (let count = are.count in omega (arith, count)); each = λ k q at. are.each (suc k) q at }

  odd_lines : (test : SumLine → Bool) (f : ℕ → Bool) (ids : List ℕ) (lines : List SumLine) → AreSumsAt n ring row cells ids lines → ((p : ℕ) (line : SumLine) → IsSumAt n ring row cells p line → test line ≡ f p) → odd_in test lines ≡ odd_ids f ids
  odd_lines test f [] [] are same = refl
  odd_lines test f [] (line ∷ lines) are same = absurd (let count = are.count in omega (arith, count))
  odd_lines test f (p ∷ ids) [] are same = absurd (let count = are.count in omega (arith, count))
  odd_lines test f (p ∷ ids) (line ∷ lines) are same =
      let own = are.each zero p refl in
      let here : IsSumAt n ring row cells p line = subst (IsSumAt n ring row cells p) (same_Some own.0 line (sym own.1)) own.2 in
      (λ i. xor (same p line here i) (odd_lines test f ids lines (rest_sums p ids line lines are) same i))

  lines_certify : (ids : List ℕ) (lines : List SumLine) → IsGood columns row cells ids → AreSumsAt n ring row cells ids lines →
      ((j k : ℕ) (a b : InstanceId × Bool) → slice_get cells j ≡ Some a → slice_get cells k ≡ Some b → a.0.0 ≡ b.0.0 → j ≡ k) → IsCertified n ring row columns cells lines
  lines_certify ids lines good are once = record {
    each = λ k line at. (let it = at_place ids lines are k line at in line_sum it.0 line it.2);
    once = λ j k a b at_j at_k same. (
        let x = at_place ids lines are j a at_j in
        let y = at_place ids lines are k b at_k in
        let cell : x.2.given.0 ≡ y.2.given.0 = same_Some x.2.given.0 y.2.given.0 (sym (line_cell x.0 a x.2) ∙ same ∙ line_cell y.0 b y.2) in
        let place : x.0 ≡ y.0 = once x.0 y.0 x.2.given y.2.given x.2.at y.2.at (ap (λ (c : InstanceId). c.0) cell) in
        differ_same ids j k x.0 good.differ x.1 (y.1 ∙ ap Some (sym place)));
    even = λ c less. odd_lines (has_column n row c) (λ p. bit_at (row_of_cell row (slice_get cells p)) c) ids lines are (λ p line is. line_column p c line is) ∙ good.even c less;
    odd = odd_lines (λ line. line.bit) (λ p. bit_of_cell (slice_get cells p)) ids lines are line_bit ∙ good.odd;
  }

-- ---- the cube of a name

find_step : (cube x : Cube) (cubes : List Cube) (name : Text) (t : Bool) → bytes_eq x.name name ≡ t → (t ≡ true → x ≡ cube) → (t ≡ false → cube_named cubes name ≡ Some cube) → cond t (Some x) (cube_named cubes name) ≡ Some cube
find_step cube x cubes name true is here later = ap Some (here refl)
find_step cube x cubes name false is here later = later refl

find_cube : (cubes : List Cube) (name : Text) (k : ℕ) (cube : Cube) → slice_get cubes k ≡ Some cube → cube.name ≡ name → ((j : ℕ) (c : Cube) → slice_get cubes j ≡ Some c → c.name ≡ name → j ≡ k) → cube_named cubes name ≡ Some cube
find_cube [] name k cube at is one = absurd (none-some cube at)
find_cube (x ∷ cubes) name zero cube at is one =
    find_step cube x cubes name (bytes_eq x.name name) refl (λ t. same_Some x cube at) (λ f. absurd (let g : true ≡ false = sym (ap (λ (y : Text). bytes_eq y name) (ap (λ (c : Cube). c.name) (same_Some x cube at) ∙ is) ∙ bytes_eq-self name) ∙ f in cc))
find_cube (x ∷ cubes) name (suc k) cube at is one =
    find_step cube x cubes name (bytes_eq x.name name) refl (λ t. absurd (let e = one zero x refl (same_text x.name name t) in omega (arith, e)))
    (λ f. find_cube cubes name k cube at is (λ j c at_j same. (let e = one (suc j) c at_j same in omega (arith, e))))

-- ---- entries

one_list : (a b : List SumLine) → Unsolvable a ≡ Unsolvable b → a ≡ b
one_list a b same = cc

told_by : (n : Netlist) (ring : RingConfig) (row : CellRows) (columns window : ℕ) (cube : Cube) (told : Placed) (old new : List Merged) (outcome : CubeLine) (lines : List SumLine) → IsNetlist n →
    ((k : ℕ) (given : InstanceId × Bool) → slice_get cube.cells k ≡ Some given → (r : List Bool) → row given.0 ≡ Some r → length r ≡ columns) →
    ((j k : ℕ) (a b : InstanceId × Bool) → slice_get cube.cells j ≡ Some a → slice_get cube.cells k ≡ Some b → a.0.0 ≡ b.0.0 → j ≡ k) →
    Says n ring row cube told outcome → Places columns row window old cube told new → outcome ≡ Unsolvable lines → IsCertified n ring row columns cube.cells lines
told_by n ring row columns window cube (word.Into p) old new outcome lines sound wide once says places is = absurd (let same : Encoded p ≡ Unsolvable lines = sym says ∙ is in let f : ⊥ = cc in f)
told_by n ring row columns window cube (word.Skipped cell) old new outcome lines sound wide once says places is = absurd (let same : Skipped says.0 ≡ Unsolvable lines = sym says.1 ∙ is in let f : ⊥ = cc in f)
told_by n ring row columns window cube (word.Unsolvable ids) old new outcome lines sound wide once says places is =
    let same : says.0 ≡ lines = one_list says.0 lines (sym says.1 ∙ is) in
    let good = stated_good columns row cube.cells ids (λ k given at. (
    let r = some_row (row given.0) (scanned_each row cube.cells places.0 k given at) in
    ap (λ (o : Option (List Bool)). length (unwrap_or o [])) r.1 ∙ wide k given at r.0 r.1)) places.1 in
    subst (IsCertified n ring row columns cube.cells) same (lines_certify n ring row columns cube.cells sound places.0 ids says.0 good says.2 once)

stand_apart : (n : Netlist) (config : Config) → IsInRange config → StandApart (plan_of n config).chains
stand_apart n config range chain place other after cell one two =
    let scanned = cells_scanned n config chain place cell range one in
    let once = cells_once n config cell.0 scanned.domain scanned.falling range scanned.is in
    let first = once.only chain place one in
    let second = once.only other after two in
    (first.0 ∙ sym second.0, first.1 ∙ sym second.1)

all_certified : (n : Netlist) (config : Config) (rows : LoadRows) (window : ℕ) (cubes : List Cube) (placed : List Placed) (patterns : List Merged) → IsNetlist n → IsInRange config → AreRows n config rows → AreCubes n config cubes →
    PlacesAll rows.columns (rows_of n config rows) window [] cubes placed patterns → AllCertified n config.ring (rows_of n config rows) rows.columns cubes (cube_reports n config.ring (rows_of n config rows) cubes placed)
all_certified n config rows window cubes placed patterns sound range are given places k entry lines at is =
    let row = rows_of n config rows in
    let reports = all_reports n config rows.columns row window [] patterns cubes placed given places in
    let within = slice_get_within (cube_reports n config.ring row cubes placed) k entry at in
    let bare : Cube = record { name = []; domains = record { first = 0; second = None }; cells = []; ports = [] } in
    let cube : Cube = get_or cubes k bare in
    let there : slice_get cubes k ≡ Some cube = slice_get-get_or cubes k bare (let count = reports.count in omega (arith, within, count)) in
    let step = step_at rows.columns row window [] patterns cubes placed places k cube there in
    let own = reports.each k cube step.told there step.at in
    let same : own.0 ≡ entry = same_Some own.0 entry (sym own.1 ∙ at) in
    let name : cube.name ≡ entry.name = sym own.2.name ∙ ap (λ (e : CubeReport). e.name) same in
    let named : cube_named cubes entry.name ≡ Some cube = find_cube cubes entry.name k cube there name (λ j c at_j like. given.names j k c cube at_j there (like ∙ sym name)) in (
      cube,
      named,
      told_by n config.ring row rows.columns window cube step.told step.old step.new own.0.outcome lines sound
          (λ j g at_j r has. row_wide (plan_of n config).chains rows g.0 r (rows_are config.ring (plan_of n config).chains (falling_head (plan_of n config)) (plan_of n config).cycles rows are (stand_apart n config range)) has)
          (given.each k cube there).cells.once own.2.says step.places (ap (λ (e : CubeReport). e.outcome) same ∙ is),
    )

pub written_certifies : WrittenCertifies
written_certifies n config rows window cubes placed patterns report sound range are given places written =
    (certified_exactly n config.ring (rows_of n config rows) rows.columns cubes report).1
    (subst (AllCertified n config.ring (rows_of n config rows) rows.columns cubes) (sym written) (all_certified n config rows window cubes placed patterns sound range are given places))
