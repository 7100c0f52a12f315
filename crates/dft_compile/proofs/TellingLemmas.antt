-- What a compilation reports can be read: its names are names, its numbers are below 2^32, and there is a load.
use Rattle.std.proofs.Common.{◌≡◌, ℕ, zero, suc, ◌+◌, ◌%◌, ◌<◌, ◌≤◌, ◌^◌, inl, inr, Bool, true, false, cond, List, [], ◌∷◌, ◌++◌, length, map, Option, None, Some, option_and_then, slice_get, unwrap_or, Ok, refl, ap, subst, arith, ◌∙◌, div-le_self, length-append}
use Rattle.std.specs.Prelude.{flat_map, option_map, slice_index_or}
use Rattle.std.specs.List.{All, cons_option, enumerate_from, filter_map, AllByRecursion}
use Rattle.std.proofs.lemmas.List.{length-map}
use Rattle.std.proofs.lemmas.List.Sums.{count_by-le-length}
use Rattle.std.proofs.lemmas.Option.{none-some, same_Some, slice_get_within}
use Rattle.dft_base.specs.Lexing.{Text}
use Rattle.dft_base.specs.Name.{IsName}
use Rattle.dft_base.specs.Solutions.{Equation, StatesCertificate, StatesFrom, equation_at, ids_to}
use Rattle.dft_base.proofs.ListLemmas.{all_append}
use Rattle.dft_netlist.specs.declared.ids.InstanceId.{InstanceId}
use Rattle.dft_netlist.specs.declared.instance.Instance.{Instance}
use Rattle.dft_netlist.specs.Names.{IsNameIfAny, instance_name}
use Rattle.dft_netlist.specs.Netlist.{Netlist}
use Rattle.dft_netlist.specs.Sound.{IsNetlist}
use Rattle.dft_config.specs.Config.{Config}
use Rattle.dft_config.specs.declared.config.RingConfig.{RingConfig}
use Rattle.dft_config.specs.Range.{IsInRange}
use Rattle.dft_rules.specs.declared.judged.Judged.{Judged}
use Rattle.dft_rules.specs.declared.judged.Judged.TheVariants.{Scanned, Unscanned}
use Rattle.dft_rules.specs.Refusals as rules
use Rattle.dft_rules.specs.Refusals.{is_scanned}
use Rattle.dft_rules.specs.Rules.{judgements}
use Rattle.dft_stitch.specs.Chains.{clock_of, domain_in, is_falling, plan_of}
use Rattle.dft_stitch.specs.Limits.{refusal}
use Rattle.dft_cubes.specs.declared.cube.Cube.{Cube}
use Rattle.dft_cubes.specs.declared.cube.Merged.{Merged}
use Rattle.dft_merge.specs.declared.placed.Placed.{Placed}
use Rattle.dft_merge.specs.declared.placed.Placed.TheVariants as word
use Rattle.dft_merge.specs.Placement.{Places, PlacesAll, equations_from, equations_of}
use Rattle.dft_merge.specs.Rows.{CellRows, StandApart, cell_row}
use Rattle.dft_merge.proofs.MergerLemmas.{rows_are}
use Rattle.dft_merge.proofs.PlaceLemmas.{row_wide}
use Rattle.dft_report.specs.declared.report.CubeLine.{CubeLine}
use Rattle.dft_report.specs.declared.report.CubeLine.TheVariants as line
use Rattle.dft_report.specs.declared.report.CubeReport.{CubeReport}
use Rattle.dft_report.specs.declared.report.ScannedLine.{ScannedLine}
use Rattle.dft_report.specs.declared.report.SumLine.{SumLine}
use Rattle.dft_report.specs.declared.report.UnscannedLine.{UnscannedLine}
use Rattle.dft_report.specs.declared.report.Variable.{Variable}
use Rattle.dft_report_reader.specs.Reading.{report_of}
use Rattle.dft_report_reader.specs.WrittenRead.{IsCubeReadable, IsOutcomeReadable, IsReadable, IsScannedReadable, IsSmall, IsSumReadable, IsUnscannedReadable, IsVariableReadable}
use Rattle.dft_report_reader.proofs.Whole.{written_is_read}
use Rattle.dft_scan.specs.Reports.{domain_name, name_of, scanned_as, scanned_in, scanned_line, unscanned_as}
use Rattle.dft_scan.proofs.ListLemmas.{filter_shorter}
use Rattle.dft_scan.proofs.ShapeLemmas.{few_chains, judgement_count, short_chains}
use Rattle.dft_cube_reports.specs.Outcomes.{cell_name, cube_report, cube_reports, named_outcome, outcome_of, sum_as, sum_at, sum_line, sums_of, variable_of}
use Rattle.dft_encode.specs.Compiled.{Placing}
use Rattle.dft_encode.proofs.PlacingLemmas.{place_count}
use Rattle.dft_rules.proofs.Passed.{domain_is_named}
use Rattle.dft_stitch.proofs.ChainLimits.{limits}
use Rattle.dft_stitch.specs.Plans.{falling_head}
use Rattle.dft_encode.specs.Named.{AreCubesNamed}
use Rattle.dft_compile.specs.Reports.{compile_report}
use Rattle.dft_compile.specs.Texts.{report_text}

-- ---- lists

each_more : {X : Type 0} (P : X → Type 0) (o : Option X) (rest : List X) → ((x : X) → o ≡ Some x → P x) → AllByRecursion P rest → AllByRecursion P (cons_option o rest)
each_more P None rest here more = more
each_more P (Some x) rest here more = (here x refl, more)

-- ---- names

abbrev AreInstancesNamed : List Instance → Type 0
AreInstancesNamed instances = (place : ℕ) (instance : Instance) → slice_get instances place ≡ Some instance → IsNameIfAny instance.name

abbrev AreNames : List Text → Type 0
AreNames names = (place : ℕ) (name : Text) → slice_get names place ≡ Some name → IsName name

any_name : (o : Option Text) → ((name : Text) → o ≡ Some name → IsName name) → IsNameIfAny o
any_name None all = tt
any_name (Some name) all = all name refl

name_if : (o : Option Instance) → ((x : Instance) → o ≡ Some x → IsNameIfAny x.name) → IsNameIfAny (option_and_then instance_name o)
name_if None all = tt
name_if (Some x) all = all x refl

instance_named : (instances : List Instance) (k : ℕ) → AreInstancesNamed instances → IsNameIfAny (option_and_then instance_name (slice_get instances k))
instance_named instances k named = name_if (slice_get instances k) (named k)

domain_named : (domains : List Text) (o : Option ℕ) → AreNames domains → IsNameIfAny (option_and_then (slice_get domains) o)
domain_named domains None named = tt
domain_named domains (Some d) named = any_name (slice_get domains d) (named d)

-- ---- flip-flops

scanned_readable : (chain place : ℕ) (falling : Bool) (name domain : Option Text) (line : ScannedLine) → IsSmall chain → IsSmall place → IsNameIfAny name → IsNameIfAny domain → scanned_as chain place falling name domain ≡ Some line → IsScannedReadable line
scanned_readable chain place falling (Some name) (Some domain) line c p n d is = subst IsScannedReadable (same_Some _ line is) (n, d, c, p)
scanned_readable chain place falling (Some name) None line c p n d is = absurd (none-some line is)
scanned_readable chain place falling None domain line c p n d is = absurd (none-some line is)

unscanned_readable : (name : Option Text) (verdict : Option Judged) (line : UnscannedLine) → IsNameIfAny name → unscanned_as name verdict ≡ Some line → IsUnscannedReadable line
unscanned_readable (Some name) (Some (Unscanned rule)) line n is = subst IsUnscannedReadable (same_Some _ line is) n
unscanned_readable (Some name) (Some (Scanned domain falling)) line n is = absurd (none-some line is)
unscanned_readable (Some name) None line n is = absurd (none-some line is)
unscanned_readable None verdict line n is = absurd (none-some line is)

module _ (n : Netlist) (config : Config) (verdicts : List (Option Judged)) (instances : AreInstancesNamed n.instances) (domains : AreNames config.domains) where
  chain_readable : (chain place : ℕ) (cells : List InstanceId) → IsSmall chain → place + length cells < 2 ^ 32 → AllByRecursion IsScannedReadable (filter_map (λ at. scanned_line n config verdicts chain at.0 at.1) (enumerate_from place cells))
  chain_readable chain place [] small few = tt
  chain_readable chain place (cell ∷ cells) small few =
      each_more IsScannedReadable (scanned_line n config verdicts chain place cell) (filter_map (λ at. scanned_line n config verdicts chain at.0 at.1) (enumerate_from (place + 1) cells))
      (λ line is. scanned_readable chain place (is_falling (clock_of verdicts cell)) (name_of n cell.0) (domain_name config verdicts cell) line small (omega (arith, few)) (instance_named n.instances cell.0 instances)
      (domain_named config.domains (domain_in (clock_of verdicts cell)) domains) is)
      (chain_readable chain (place + 1) cells small (omega (arith, few)))

  chains_readable : (chain : ℕ) (chains : List (List InstanceId)) → chain + length chains ≤ 1024 → All (λ (cells : List InstanceId). length cells ≤ 65536) chains → AllByRecursion IsScannedReadable (flat_map (λ at. scanned_in n config verdicts at.0 at.1) (enumerate_from chain chains))
  chains_readable chain [] few short = tt
  chains_readable chain (cells ∷ chains) few short =
      all_append IsScannedReadable (scanned_in n config verdicts chain cells) (flat_map (λ at. scanned_in n config verdicts at.0 at.1) (enumerate_from (chain + 1) chains))
      (chain_readable chain 0 cells (omega (arith, few)) (let le = short 0 [] (omega arith) in omega (arith, le)))
      (chains_readable (chain + 1) chains (omega (arith, few)) (λ k d less. short (suc k) d (omega (arith, less))))

others_readable : (verdicts : List (Option Judged)) (k : ℕ) (instances : List Instance) → AreInstancesNamed instances → AllByRecursion IsUnscannedReadable (filter_map (λ at. unscanned_as at.1.name (slice_index_or verdicts at.0 None)) (enumerate_from k instances))
others_readable verdicts k [] named = tt
others_readable verdicts k (x ∷ instances) named =
    each_more IsUnscannedReadable (unscanned_as x.name (slice_index_or verdicts k None)) (filter_map (λ at. unscanned_as at.1.name (slice_index_or verdicts at.0 None)) (enumerate_from (k + 1) instances))
    (λ line is. unscanned_readable x.name (slice_index_or verdicts k None) line (named 0 x refl) is) (others_readable verdicts (k + 1) instances (λ j. named (suc j)))

lengths_small : (chains : List (List InstanceId)) → All (λ (cells : List InstanceId). length cells ≤ 65536) chains → AllByRecursion IsSmall (map length chains)
lengths_small [] short = tt
lengths_small (cells ∷ chains) short = ((let le = short 0 [] (omega arith) in omega (arith, le)), lengths_small chains (λ k d less. short (suc k) d (omega (arith, less))))

-- ---- sums

variable_readable : (ring : RingConfig) (column : ℕ) (is_in : Bool) (v : Variable) → 1 ≤ ring.channels → IsSmall column → variable_of ring column is_in ≡ Some v → IsVariableReadable v
variable_readable ring column true v some small is =
    let below : column % ring.channels ≤ column = omega arith in
    subst IsVariableReadable (same_Some _ v is) ((let le = below in omega (arith, le, small)), (let le = div-le_self column ring.channels in omega (arith, le, small)))
variable_readable ring column false v some small is = absurd (none-some v is)

variables_readable : (ring : RingConfig) (column : ℕ) (row : List Bool) → 1 ≤ ring.channels → column + length row < 2 ^ 32 → AllByRecursion IsVariableReadable (filter_map (λ at. variable_of ring at.0 at.1) (enumerate_from column row))
variables_readable ring column [] some few = tt
variables_readable ring column (bit ∷ row) some few =
    each_more IsVariableReadable (variable_of ring column bit) (filter_map (λ at. variable_of ring at.0 at.1) (enumerate_from (column + 1) row)) (λ v is. variable_readable ring column bit v some (omega (arith, few)) is)
    (variables_readable ring (column + 1) row some (omega (arith, few)))

named_sum : (ring : RingConfig) (row : List Bool) (bit : Bool) (o : Option Text) (sum : SumLine) → 1 ≤ ring.channels → length row < 2 ^ 32 → IsNameIfAny o → option_map (sum_as ring row bit) o ≡ Some sum → IsSumReadable sum
named_sum ring row bit None sum some few name is = absurd (none-some sum is)
named_sum ring row bit (Some x) sum some few name is = subst IsSumReadable (same_Some _ sum is) (name, variables_readable ring 0 row some (omega (arith, few)))

-- ---- certificates

one_id : (t : Bool) (id : ℕ) → length (cond t (id ∷ []) []) ≤ 1
one_id true id = omega arith
one_id false id = omega arith

ids_short : (m : ℕ) (picks : ℕ → Bool) (es : List Equation) → length (ids_to m picks es) ≤ m
ids_short zero picks es = omega arith
ids_short (suc m) picks es =
    omega (arith, length-append (ids_to m picks es) (cond (picks m) ((equation_at es m).id ∷ []) []), ids_short m picks es, one_id (picks m) (equation_at es m).id)

states_short : (n : ℕ) (kept es : List Equation) (ids : List ℕ) → StatesFrom n kept es ids → length ids ≤ length kept + length es
states_short n kept [] ids states = absurd states
states_short n kept (e ∷ es) ids (inl more) = omega (arith, states_short n (kept ++ e ∷ []) es ids more.1, length-append kept (e ∷ []))
states_short n kept (e ∷ es) ids (inr (inl more)) = let le = states_short n kept es ids more.2 in omega (arith, le)
states_short n kept (e ∷ es) ids (inr (inr ends)) =
    let size = ap length ends.named ∙ length-append (ids_to (length kept) ends.picks kept) (e.id ∷ []) in
    omega (arith, size, ids_short (length kept) ends.picks kept)

equation_count : (row : CellRows) (k : ℕ) (cells : List (InstanceId × Bool)) → length (equations_from row k cells) ≡ length cells
equation_count row k [] = refl
equation_count row k (given ∷ cells) = ap suc (equation_count row (suc k) cells)

pub certificate_short : (n : ℕ) (row : CellRows) (cells : List (InstanceId × Bool)) (ids : List ℕ) → StatesCertificate n (equations_of row cells) ids → length ids ≤ length cells
certificate_short n row cells ids states = omega (arith, states_short n [] (equations_of row cells) ids states, equation_count row 0 cells)

-- ---- cubes

pub pattern_small : (n : ℕ) (row : CellRows) (window : ℕ) (old new : List Merged) (cube : Cube) (p : ℕ) → Places n row window old cube (word.Into p) new → p ≤ length old
pattern_small n row window old new cube p (none, inl joins) = let less = slice_get_within old p joins.pattern joins.is in omega (arith, less)
pattern_small n row window old new cube p (none, inr begins) = omega (arith, begins.number)

skipped_readable : (o : Option Text) (outcome : CubeLine) → IsNameIfAny o → option_map line.Skipped o ≡ Some outcome → IsOutcomeReadable outcome
skipped_readable None outcome name is = absurd (none-some outcome is)
skipped_readable (Some cell) outcome name is = subst IsOutcomeReadable (same_Some _ outcome is) name

named_readable : (name : Text) (o : Option CubeLine) (r : CubeReport) → IsName name → ((outcome : CubeLine) → o ≡ Some outcome → IsOutcomeReadable outcome) → option_map (named_outcome name) o ≡ Some r → IsCubeReadable r
named_readable name None r is_name all is = absurd (none-some r is)
named_readable name (Some outcome) r is_name all is = subst IsCubeReadable (same_Some _ r is) (is_name, all outcome refl)

module _ (n : Netlist) (ring : RingConfig) (row : CellRows) (columns window : ℕ) (instances : AreInstancesNamed n.instances) (some : 1 ≤ ring.channels) (wide : (cell : InstanceId) → length (unwrap_or (row cell) []) < 2 ^ 32) where
  sum_readable : (o : Option (InstanceId × Bool)) (sum : SumLine) → option_and_then (sum_line n ring row) o ≡ Some sum → IsSumReadable sum
  sum_readable None sum is = absurd (none-some sum is)
  sum_readable (Some given) sum is = named_sum ring (unwrap_or (row given.0) []) given.1 (cell_name n given.0) sum some (wide given.0) (instance_named n.instances given.0.0 instances) is

  sums_readable : (cells : List (InstanceId × Bool)) (positions : List ℕ) → AllByRecursion IsSumReadable (sums_of n ring row cells positions)
  sums_readable cells [] = tt
  sums_readable cells (position ∷ positions) = each_more IsSumReadable (sum_at n ring row cells position) (sums_of n ring row cells positions) (sum_readable (slice_get cells position)) (sums_readable cells positions)

  outcome_readable : (old new : List Merged) (cube : Cube) (placed : Placed) (outcome : CubeLine) → length cube.cells < 2 ^ 32 → length old < 65536 → Places columns row window old cube placed new → outcome_of n ring row cube placed ≡ Some outcome → IsOutcomeReadable outcome
  outcome_readable old new cube (word.Into p) outcome cells few places is = subst IsOutcomeReadable (same_Some _ outcome is) (let le = pattern_small columns row window old new cube p places in omega (arith, le, few))
  outcome_readable old new cube (word.Unsolvable ids) outcome cells few places is =
      let short = certificate_short columns row cube.cells ids places.1 in
      let fewer = filter_shorter (sum_at n ring row cube.cells) ids in
      subst IsOutcomeReadable (same_Some _ outcome is) ((omega (arith, short, fewer, cells)), sums_readable cube.cells ids)
  outcome_readable old new cube (word.Skipped cell) outcome cells few places is = skipped_readable (cell_name n cell) outcome (instance_named n.instances cell.0 instances) is

  cubes_readable : (old new : List Merged) (cubes : List Cube) (placed : List Placed) → AreCubesNamed cubes → All (λ (cube : Cube). length cube.cells < 2 ^ 32) cubes → length old + length cubes ≤ 65536 → PlacesAll columns row window old cubes placed new →
      AllByRecursion IsCubeReadable (cube_reports n ring row cubes placed)
  cubes_readable old new [] placed named cells few places = tt
  cubes_readable old new (cube ∷ cubes) [] named cells few places = tt
  cubes_readable old new (cube ∷ cubes) (place ∷ placed) named cells few places =
      each_more IsCubeReadable (cube_report n ring row cube place) (cube_reports n ring row cubes placed)
      (λ r is. named_readable cube.name (outcome_of n ring row cube place) r (named 0 cube refl)
      (λ outcome told. outcome_readable old places.0 cube place outcome (cells 0 cube (omega arith)) (omega (arith, few)) places.1.0 told) is)
      (let more = place_count columns row window old places.0 cube place places.1.0 in
      cubes_readable places.0 new cubes placed (λ k. named (suc k)) (λ k d less. cells (suc k) d (omega (arith, less))) (omega (arith, few, more)) places.1.1)

-- ---- the report

row_short : (columns : ℕ) (o : Option (List Bool)) → ((r : List Bool) → o ≡ Some r → length r ≡ columns) → columns ≤ 16384 → length (unwrap_or o []) < 2 ^ 32
row_short columns None wide few = omega arith
row_short columns (Some r) wide few = let size = wide r refl in omega (arith, size, few)

module _ (n : Netlist) (config : Config) (cubes : List Cube) (range : IsInRange config) (sound : IsNetlist n) (passed : rules.refusal n config ≡ None) (fits : refusal n config ≡ None) (apart : StandApart (plan_of n config).chains) (named : AreCubesNamed cubes) (few : length cubes ≤ 65536)
    (cells : All (λ (cube : Cube). length cube.cells < 2 ^ 32) cubes) where
  readable : (p : Placing config (plan_of n config) cubes) → IsReadable (compile_report n config (cell_row (plan_of n config).chains p.rows) cubes p.placed)
  readable p =
      let chains = (plan_of n config).chains in
      let verdicts = judgements n config in
      let chain_count = few_chains n config range in
      let limit = limits n config fits in
      let rows = rows_are config.ring chains (falling_head (plan_of n config)) (plan_of n config).cycles p.rows p.equations apart in
      let cell_count = count_by-le-length is_scanned verdicts in
      let judged = judgement_count n config in
      record {
        header = (omega (arith, cell_count, judged, sound.few_instances), omega (arith, chain_count), ((let le = limit.0 in omega (arith, le)), (let le = limit.1 in omega (arith, le))));
        count = (let size = length-map chains (λ (xs : List InstanceId). length xs) in omega (arith, size, chain_count));
        chains = lengths_small chains (short_chains n config fits);
        scanned = chains_readable n config verdicts sound.named.instances (domain_is_named n config sound passed) 0 chains (omega (arith, chain_count)) (short_chains n config fits);
        unscanned = others_readable verdicts 0 n.instances sound.named.instances;
        cubes = cubes_readable n config.ring (cell_row chains p.rows) p.rows.columns config.window sound.named.instances range.ring.channels.0
            (λ cell. row_short p.rows.columns (cell_row chains p.rows cell) (λ r is. row_wide chains p.rows cell r rows is) (let le = limit.1 in omega (arith, le, p.equations.columns)))
            [] p.merged cubes p.placed named cells (omega (arith, few)) p.is;
        load = tt;
      }

  -- so its text is read as the report
  pub told_of : (p : Placing config (plan_of n config) cubes) → report_of (report_text n config p.rows cubes p.placed) ≡ Ok (compile_report n config (cell_row (plan_of n config).chains p.rows) cubes p.placed)
  told_of p = written_is_read (compile_report n config (cell_row (plan_of n config).chains p.rows) cubes p.placed) (readable p)
