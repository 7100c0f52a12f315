-- A generated job is refused only where its patterns have more vectors than are read; and not up to 16,240 cells.
use Rattle.std.proofs.Common.{ℕ, ◌≡◌, ◌<◌, ◌≤◌, ◌⊎◌, ◌∙◌, inl, inr, nat_lt, true, pos, List, [], ◌∷◌, codes, length, refl, sym, ap, subst, arith, Option, None, Some, option_map, Result, Ok, Err}
use Rattle.std.proofs.lemmas.Bool.{cases_lt}
use Rattle.std.proofs.lemmas.Bool.Decides.{nat_tests}
use Rattle.dft_config_out_laws.proofs.TextRead.{config_one}
use Rattle.dft_files.specs.Outside.{Held}
use Rattle.dft_cells.specs.declared.cell.Cell.{Cell}
use Rattle.dft_cells.specs.Standard.{standard_cells}
use Rattle.dft_config.specs.Config.{Config}
use Rattle.dft_config.specs.Range.{IsInRange}
use Rattle.dft_config_text.specs.Refusals.{IsConfig}
use Rattle.dft_netlist.specs.Netlist.{Netlist}
use Rattle.dft_netlist.specs.Orders.{IsOrder}
use Rattle.dft_netlist.specs.Sound.{IsNetlist}
use Rattle.dft_netlist.proofs.RankLemmas.{order_ranks}
use Rattle.dft_netlist_text.specs.NetlistText.{StandsFor}
use Rattle.dft_cells.specs.Cells.{find_cell}
use Rattle.dft_hier.specs.Laws.{Gives}
use Rattle.dft_hier.proofs.OneDesign.{gives_one}
use Rattle.dft_hier.proofs.OneModule.{one_module_gives}
use Rattle.dft_patterns.specs.Patterns.{Patterns, IsWellFormed}
use Rattle.dft_stil_text.specs.declared.limits.TheConstants.{MAX_VECTORS}
use Rattle.dft_stitch.specs.declared.error.StitchError.{StitchError}
use Rattle.dft_stitch.specs.Chains.{plan_of}
use Rattle.dft_rules.specs.declared.error.RuleError.{RuleError}
use Rattle.dft_scan_frame.specs.declared.error.InsertError.{InsertError}
use Rattle.dft_scan_frame.specs.Statements.{IsReady}
use Rattle.dft_insert.specs.declared.style.Style.TheVariants.{Edt}
use Rattle.dft_insert.specs.Statements.{scanned}
use Rattle.dft_insert.proofs.Keeping.{keeps_design}
use Rattle.dft_stil_tokens.specs.declared.blanks.TheConstants.{MAX_TEXT}
use Rattle.dft_stil_text.specs.declared.error.StilError.{StilError}
use Rattle.dft_stil_text.specs.PatternText as pattern
use Rattle.dft_replay.specs.declared.verdict.Verdict.TheVariants as verdict
use Rattle.dft_replay.specs.Fits.{first_misfit}
use Rattle.dft_replay.specs.Verdicts.{HasVerdict}
use Rattle.dft_report.specs.declared.error.ReportError.{ReportError}
use Rattle.dft_report.specs.declared.error.ReportError.TheVariants.{K6 as K6_of}
use Rattle.dft_report.specs.declared.limits.TheConstants.{MAX_BYTES}
use Rattle.dft_cubes.specs.declared.cube.Cube.{Cube}
use Rattle.dft_cubes.specs.Cubes.{cubes_of}
use Rattle.dft_cubes.specs.Laws.{AreCubes}
use Rattle.dft_vectors.specs.PatternData.{PatternData}
use Rattle.dft_encode.specs.Compiled.{ArePatterns, Placing}
use Rattle.dft_cubes.specs.declared.cube.Merged.{Merged}
use Rattle.dft_vectors.specs.VectorList.{captures_in}
use Rattle.dft_encode.specs.Laws.{vectors_in}
use Rattle.dft_compile.specs.declared.error.CompileError.TheVariants.{Insert, Patterns as TooManyPatterns, Report as TooLongReport, Rules, Stitch}
use Rattle.dft_stitch.specs.Planning.{Planned}
use Rattle.dft_compile.specs.declared.texts.Counts.{Counts}
use Rattle.dft_compile.specs.Refusals.{first_failing, first_refusal, of_length, too_long, too_many}
use Rattle.dft_compile.specs.Texts as compiled
use Rattle.dft_compile.proofs.BytesLemmas.{bytes_told, vector_count}
use Rattle.dft_compile.proofs.LateLemmas.{not_many, not_long}
use Rattle.dft_compile_laws.specs.Holding.{CompilationsHold, HoldsOf, without_notes}
use Rattle.dft_compile_laws.specs.Passing.{set_of}
use Rattle.dft_compile_laws.specs.Written.{all_compared}
use Rattle.dft_generate.specs.Configurations.{configuration}
use Rattle.dft_generate.specs.Configurations.{configuration_text as job_configuration}
use Rattle.dft_generate.specs.Cubes.{cubes_text as job_cubes}
use Rattle.dft_generate.specs.Jobs.{IsSize}
use Rattle.dft_generate.specs.Netlists.{netlist_text as job_netlist}
use Rattle.dft_generate.specs.Words.{words_of}
use Rattle.dft_generate_laws.proofs.ReadConfiguration.{configuration_read}
use Rattle.dft_generate_laws.specs.CubeLists.{cubes_in}
use Rattle.dft_generate_laws.specs.Designs.{design}
use Rattle.dft_generate_laws.proofs.Bytes.{pattern_texts_fit}
use Rattle.dft_generate_laws.proofs.CubeTexts.{cubes_are_read}
use Rattle.dft_generate_laws.proofs.Framed.{designs_are_accepted}
use Rattle.dft_generate_laws.proofs.Lengths.{texts_are_short}
use Rattle.dft_generate_laws.proofs.NetlistLaws.{netlists_are_read}
use Rattle.dft_generate_laws.proofs.Reported.{reports_fit}
use Rattle.dft_generate_laws.proofs.ScannedTexts.{scanned_are_short}
use Rattle.dft_generate_laws.proofs.Seeds.{seeds_give_words}
use Rattle.dft_generate_laws.proofs.Vectors.{patterns_fit}
use Rattle.dft_command_line.specs.Words.{JobNumbers}
use Rattle.dft_answers.specs.declared.answer.Code.TheVariants.{K6, P4}
use Rattle.dft_answers.specs.declared.answer.Refusal.{Refusal}
use Rattle.dft_answers.specs.declared.outcome.Outcome.{Outcome}
use Rattle.dft_answers.specs.declared.outcome.Outcome.TheVariants.{Finished, Refused}
use Rattle.dft_answers.specs.declared.outcome.Work.TheVariants.{Compiled}
use Rattle.dft_answers.specs.Refusals.{measured}
use Rattle.dft_answers.specs.Texts.{FileGives}
use Rattle.dft_top.specs.declared.limits.TheConstants.{MAX_CONFIG_BYTES, MAX_CUBE_BYTES, MAX_NETLIST_BYTES, MAX_PATTERN_BYTES}
use Rattle.dft_top.specs.Checks.{ConfigGives, ConfigText, CubeText, CubesGive, DesignGives, IsReadied, LibraryGives, NetlistGives, NetlistText, PatternText, PatternsGive}
use Rattle.dft_top.specs.Courses.{Reaches, Then}
use Rattle.dft_top.specs.Outcomes.{IsCompiled, IsOutcomeOfCubes, IsOutcomeOfJob, IsOutcomeOfPlacing, IsOutcomeOn, IsReplayedOf, course_of_compile, generated, job_files, made_files, made_held, refusal_of, texts_held}
use Rattle.dft_top.specs.Run.{MayBeRefused}
use Rattle.dft_top.proofs.Lengths.{late_short}
use Rattle.dft_top.proofs.ManyVectors.{replay_many}
use Rattle.dft_top.proofs.PassingFiles.{replay_read}
use Rattle.dft_top.proofs.Promised.{are_cubes}
use Rattle.dft_top.proofs.Readings.{accepted_or_refused, config_refused, cubes_refused, file_one, given_next, netlist_refused, ok_same, pattern_text_one}
use Rattle.dft_top.proofs.Replays.{on_passes}
use Rattle.dft_top.proofs.ScannedDesigns.{scanned_given}
use Rattle.dft_top.proofs.Steps.{CompileOf, CompileOn, CompileOver, CompileWith}

-- ---- steps that give one value and are not refused

abbrev GivesOnly : {A : Type 0} → (Result A Refusal → Type 0) → A → Type 0
GivesOnly {A} gives value = ((other : A) → gives (Ok other) → other ≡ value) × ((refusal : Refusal) → gives (Err refusal) → ⊥)

only_next : {A : Type 0} (gives : Result A Refusal → Type 0) (next : A → Outcome → Type 0) (o : Outcome) (value : A) → GivesOnly gives value → Then gives next o → gives (Ok value) × next value o
only_next gives next o value only (inl x) = subst (λ other. gives (Ok other) × next other o) (only.0 x.0 x.1.0) x.1
only_next gives next o value only (inr x) = absurd (only.1 x.0 x.1.0)

file_refused : {A : Type 0} (limit : ℕ) (option : List ℕ) (text_gives : List ℕ → Result A Refusal → Type 0) (text : List ℕ) (refusal : Refusal) → length text ≤ limit → (text_gives text (Err refusal) → ⊥) →
    FileGives limit option text_gives (Some text) (Err refusal) → ⊥
file_refused limit option text_gives text refusal short never (inl x) = let long = x.0 in omega (arith, short, long)
file_refused limit option text_gives text refusal short never (inr x) = never x.1

file_only : {A : Type 0} (limit : ℕ) (option : List ℕ) (text_gives : List ℕ → Result A Refusal → Type 0) (text : List ℕ) (value : A) → length text ≤ limit → GivesOnly (text_gives text) value → GivesOnly (FileGives limit option text_gives (Some text)) value
file_only limit option text_gives text value short only = (λ other x. only.0 other x.1, λ refusal x. file_refused limit option text_gives text refusal short (only.1 refusal) x)

config_only : (text : List ℕ) (c : Config) → IsConfig text c → GivesOnly (ConfigText text) c
config_only text c is = (λ other x. config_one text other c x.stands is, λ refusal x. config_refused text c refusal is x)

netlist_only : (cells : List Cell) (text : List ℕ) (n : Netlist) → Gives cells text n → GivesOnly (NetlistText cells text) n
netlist_only cells text n stands = (λ other x. gives_one cells text other n x.stands stands, λ refusal x. netlist_refused cells text n refusal stands x)

cubes_only : (n : Netlist) (c : Config) (text : List ℕ) (given : List Cube) → cubes_of n c text ≡ Ok given → GivesOnly (CubeText n c text) given
cubes_only n c text given read = (λ other x. ok_same (cubes_of n c text) other given x read, λ refusal x. cubes_refused n c text given refusal read x)

-- ---- the compilation

-- what is known where the cubes of a job are compiled
record IsReached (n : Netlist) (c : Config) (given : List Cube) (o : Outcome) : Type 0 where
  range : IsInRange c
  ready : IsReady n c
  sound : IsNetlist (scanned Edt n c)
  order : List ℕ
  ordered : IsOrder (scanned Edt n c) order
  cubes : AreCubes n c given
  outcome : IsOutcomeOfCubes n c given o

-- the texts of a job that are short and are read, and whose design no check refuses
record IsRead (netlist config cubes : List ℕ) (n : Netlist) (c : Config) (given : List Cube) : Type 0 where
  netlist_short : length netlist ≤ MAX_NETLIST_BYTES
  config_short : length config ≤ MAX_CONFIG_BYTES
  cubes_short : length cubes ≤ MAX_CUBE_BYTES
  stands : Gives standard_cells netlist n
  settings : IsConfig config c
  accepted : first_refusal n c ≡ None
  read : cubes_of n c cubes ≡ Ok given

design_given : (n : Netlist) (c : Config) (next : Planned → Outcome → Type 0) (o : Outcome) → first_refusal n c ≡ None → Then (DesignGives n c) next o → (prepared : Planned) × (IsReadied n c prepared × next prepared o)
design_given n c next o none (inl x) = x
design_given n c next o none (inr x) = absurd (accepted_or_refused (first_refusal n c) x.1.0.0 none x.1.0.1.0)

reached : (netlist config cubes : List ℕ) (n : Netlist) (c : Config) (given : List Cube) (o : Outcome) → IsRead netlist config cubes n c given → Reaches (course_of_compile job_files) (texts_held netlist config cubes) o → IsReached n c given o
reached netlist config cubes n c given o r x =
    let held : Held = texts_held netlist config cubes in
    let over = only_next (LibraryGives None held) (CompileOver job_files held) o standard_cells (λ other is. is, λ refusal never. never) x in
    let on = only_next (ConfigGives (codes "config") held) (CompileOn job_files standard_cells held) o c (file_only MAX_CONFIG_BYTES (codes "config") ConfigText config c r.config_short (config_only config c r.settings)) over.1 in
    let of = only_next (NetlistGives standard_cells (codes "netlist") held) (CompileOf job_files c held) o n
    (file_only MAX_NETLIST_BYTES (codes "netlist") (NetlistText standard_cells) netlist n r.netlist_short (netlist_only standard_cells netlist n r.stands)) on.1 in
    let with = design_given n c (CompileWith n c (codes "cubes") held) o r.accepted of.1 in
    let end = only_next (CubesGive n c (codes "cubes") held) (λ given. IsOutcomeOfCubes n c given) o given (file_only MAX_CUBE_BYTES (codes "cubes") (CubeText n c) cubes given r.cubes_short (cubes_only n c cubes given r.read)) with.1.1 in
    let readied = with.1.0 in
    record {
      range = on.0.1.range;
      ready = readied.ready;
      sound = readied.sound;
      order = readied.order;
      ordered = readied.ordered;
      cubes = are_cubes n c (codes "cubes") held given end.0;
      outcome = end.1;
    }

-- ---- the replay

-- what keeps its limits, however the cubes are placed
record IsWithin (n : Netlist) (c : Config) (given : List Cube) : Type 0 where
  library : n.library ≡ standard_cells
  named : find_cell standard_cells n.name ≡ None
  netlist_short : length (compiled.netlist_text n c) ≤ MAX_NETLIST_BYTES
  not_many : (placing : Placing c (plan_of n c) given) (list : List PatternData) → IsInRange c → ArePatterns n c (plan_of n c) placing.rows placing.merged list → too_many (length (compiled.pattern_text n c list)) ≡ None

-- what is compiled, and a replay that comes to its patterns
record IsPlayed (n : Netlist) (c : Config) (p : Patterns) (text : List ℕ) (counts : Counts) (replay o : Outcome) : Type 0 where
  order : List ℕ
  sound : IsNetlist (scanned Edt n c)
  ordered : IsOrder (scanned Edt n c) order
  short : length text ≤ MAX_PATTERN_BYTES
  stands : pattern.StandsFor text p
  formed : IsWellFormed p
  compared : ℕ
  fits : first_misfit (scanned Edt n c) p.signals ≡ None
  passes : HasVerdict (scanned Edt n c) p (verdict.Pass compared)
  read : Then (PatternsGive (codes "patterns") (made_held (compiled.netlist_text n c) text)) (λ q. IsOutcomeOn (scanned Edt n c) q (first_misfit (scanned Edt n c) q.signals)) replay
  same : o ≡ generated counts replay

played : (n : Netlist) (c : Config) (given : List Cube) (compilation o : Outcome) → IsWithin n c given → (r : IsReached n c given compilation) → HoldsOf n c given r.outcome.placing r.outcome.list → refusal_of n c given r.outcome.placing r.outcome.list ≡ None →
    IsReplayedOf compilation o → (counts : Counts) × ((replay : Outcome) × IsPlayed n c (without_notes (set_of n c r.outcome.list)) (compiled.pattern_text n c r.outcome.list) counts replay o)
played n c given compilation o within r holds none x =
    let u = r.outcome in
    let list = u.list in
    let is : IsCompiled n c given u.placing list compilation = subst (λ refused. IsOutcomeOfPlacing n c given u.placing list refused compilation) none u.outcome in
    let w : Netlist = scanned Edt n c in
    let netlist : List ℕ = compiled.netlist_text n c in
    let patterns : List ℕ = compiled.pattern_text n c list in
    let counts : Counts = compiled.counts_of n c u.placing.placed list in
    let report : List ℕ = compiled.report_text n c u.placing.rows given u.placing.placed in
    let replayed : IsReplayedOf (Finished (Compiled counts netlist patterns report)) o = subst (λ end. IsReplayedOf end o) is.is x in
    let held : Held = made_held netlist patterns in
    let stands : Gives standard_cells netlist w =
    scanned_given Edt standard_cells netlist n c within.named (keeps_design Edt n c r.ready) (subst (λ (cells : List Cell). StandsFor cells netlist w) within.library is.reads) in
    let design : NetlistGives standard_cells (codes "netlist") held (Ok w) = (within.netlist_short, record { stands = stands; sound = r.sound; order = r.order; ordered = r.ordered }) in
    let well = (holds.formed is.few).well in (
      counts,
      (
        replayed.0,
        record {
          order = r.order;
          sound = r.sound;
          ordered = r.ordered;
          short = (late_short n c given u.placing list none).0;
          stands = holds.reads is.few;
          formed = record { distinct = well.distinct; few = well.few; fits = well.fits; steady = well.steady };
          compared = all_compared c (plan_of n c) list;
          fits = holds.passes.fits;
          passes = holds.passes.verdict;
          read = replay_read made_files held standard_cells w replayed.0 refl design replayed.1.0;
          same = replayed.1.1;
        },
      ),
    )

-- why a job is refused, whose patterns have so many vectors and whose report has so many bytes: they are more than are read, or than it may have
abbrev Why : (vectors bytes : ℕ) → Refusal → Type 0
Why vectors bytes refusal = ((MAX_VECTORS < vectors) × (refusal.code ≡ P4)) ⊎ ((MAX_BYTES < bytes) × (refusal.code ≡ K6))

-- where it is refused
abbrev RefusedFor : (vectors bytes : ℕ) → Outcome → Type 0
RefusedFor vectors bytes o = (refusal : Refusal) → o ≡ Refused refusal → Why vectors bytes refusal

code_of : (a b : Refusal) → Refused a ≡ Refused b → b.code ≡ a.code
code_of a b same = let e = same in cc

-- a replay of no more vectors than are read passes, and of more it is refused for them
counted : (n : Netlist) (c : Config) (p : Patterns) (text : List ℕ) (counts : Counts) (replay o : Outcome) → IsPlayed n c p text counts replay o → (bytes : ℕ) → (MAX_VECTORS < length p.vectors) ⊎ (length p.vectors ≤ MAX_VECTORS) → RefusedFor (length p.vectors) bytes o
counted n c p text counts replay o x bytes (inl many) refusal is =
    let refused = replay_many (λ q. IsOutcomeOn (scanned Edt n c) q (first_misfit (scanned Edt n c) q.signals)) text p replay x.short x.stands many x.read in
    let same : Refused refused.0 ≡ Refused refusal = sym (ap (generated counts) refused.1.1) ∙ sym x.same ∙ is in inl (many, code_of refused.0 refusal same ∙ refused.1.0)
counted n c p text counts replay o x bytes (inr few) refusal is =
    let w : Netlist = scanned Edt n c in
    let held : Held = made_held (compiled.netlist_text n c) text in
    let given : PatternsGive (codes "patterns") held (Ok p) = (x.short, record { stands = x.stands; few = few; well_formed = x.formed }) in
    let due = given_next (PatternsGive (codes "patterns") held) (λ q. IsOutcomeOn w q (first_misfit w q.signals)) replay p (file_one MAX_PATTERN_BYTES (codes "patterns") PatternText pattern_text_one (Some text)) given x.read in
    let on : IsOutcomeOn w p None replay = subst (λ (misfit : Option (List ℕ)). IsOutcomeOn w p misfit replay) x.fits due in
    let ranked = order_ranks w x.order x.sound x.ordered in
    let passed = on_passes w w p p ranked.0 x.compared replay ranked.1 refl refl x.passes on in
    absurd (let end = sym is ∙ x.same ∙ ap (generated counts) passed in cc)

late_none : (a : Option StilError) (b : Option ReportError) → a ≡ None → b ≡ None → first_failing (option_map TooManyPatterns a ∷ option_map TooLongReport b ∷ []) ≡ None
late_none a b p q = rw (p, q) refl

late_some : (a : Option StilError) (b : Option ReportError) (error : ReportError) → a ≡ None → b ≡ Some error → first_failing (option_map TooManyPatterns a ∷ option_map TooLongReport b ∷ []) ≡ Some (TooLongReport error)
late_some a b error p q = rw (p, q) refl

too_long_told : (bytes : ℕ) → MAX_BYTES < bytes → of_length bytes ≡ Some (K6_of (pos bytes))
too_long_told bytes lt = let above : nat_lt MAX_BYTES bytes ≡ true = grind (arith, nat_tests) in rw above refl

-- why the job of a placement is refused, where its report has so many bytes
why : CompilationsHold → (n : Netlist) (c : Config) (given : List Cube) (compilation o : Outcome) → IsWithin n c given → (r : IsReached n c given compilation) → IsReplayedOf compilation o →
    (bytes : ℕ) → length (compiled.report_text n c r.outcome.placing.rows given r.outcome.placing.placed) ≡ bytes → (MAX_BYTES < bytes) ⊎ (bytes ≤ MAX_BYTES) → RefusedFor (length (set_of n c r.outcome.list).vectors) bytes o
why hold n c given compilation o within r x bytes told (inl long) refusal is =
    let u = r.outcome in
    let error : ReportError = K6_of (pos bytes) in
    let last : too_long (compiled.report_text n c u.placing.rows given u.placing.placed) ≡ Some error = ap of_length told ∙ too_long_told bytes long in
    let refused : refusal_of n c given u.placing u.list ≡ Some (TooLongReport error) = late_some _ _ error (within.not_many u.placing u.list r.range u.are) last in
    let end : compilation ≡ Refused (measured K6 (pos bytes)) = subst (λ refused. IsOutcomeOfPlacing n c given u.placing u.list refused compilation) refused u.outcome in
    let same : o ≡ Refused (measured K6 (pos bytes)) = subst (λ end. IsReplayedOf end o) end x in inr (long, code_of (measured K6 (pos bytes)) refusal (sym same ∙ is))
why hold n c given compilation o within r x bytes told (inr short) refusal is =
    let u = r.outcome in
    let holds : HoldsOf n c given u.placing u.list = hold n c r.order given u.placing u.list r.ready r.sound r.ordered r.cubes u.are in
    let last : too_long (compiled.report_text n c u.placing.rows given u.placing.placed) ≡ None = ap of_length told ∙ not_long bytes short in
    let none : refusal_of n c given u.placing u.list ≡ None = late_none _ _ (within.not_many u.placing u.list r.range u.are) last in
    let p = played n c given compilation o within r holds none x in counted n c _ _ p.0 p.1.0 o p.1.1 bytes (cases_lt MAX_VECTORS (length (set_of n c u.list).vectors)) refusal is

-- ---- a generated job

first_none : (a : Option RuleError) (b : Option StitchError) (c : Option InsertError) → a ≡ None → b ≡ None → c ≡ None → first_failing (option_map Rules a ∷ option_map Stitch b ∷ option_map Insert c ∷ []) ≡ None
first_none a b c p q r = rw (p, q, r) refl

-- the name of a job's module is that of no cell
job_named : find_cell standard_cells (codes "gen") ≡ None
job_named = refl

job_read : (seed size : ℕ) → IsSize size → IsRead (job_netlist size (words_of seed size)) job_configuration (job_cubes size (words_of seed size)) (design size (words_of seed size)) configuration (cubes_in size (words_of seed size))
job_read seed size is =
    let words : List ℕ = words_of seed size in
    let short = texts_are_short seed size is in
    let high = is.high in
    let netlist = short.netlist in
    let config = short.configuration in
    let cubes = short.cubes in
    let passes = designs_are_accepted size words is in
    record {
      netlist_short = omega (arith, netlist, high);
      config_short = omega (arith, config);
      cubes_short = omega (arith, cubes, high);
      stands = one_module_gives standard_cells (job_netlist size words) (design size words) (netlists_are_read size words is) job_named;
      settings = configuration_read;
      accepted = first_none _ _ _ passes.rules passes.plan passes.insertion;
      read = cubes_are_read size words is (seeds_give_words seed size);
    }

job_within : (size : ℕ) (words : List ℕ) → IsSize size → IsWithin (design size words) configuration (cubes_in size words)
job_within size words is =
    let n : Netlist = design size words in
    let most = is.high in
    record {
      library = refl;
      named = job_named;
      netlist_short = (let short = scanned_are_short size words is in omega (arith, short, most));
      not_many = λ placing list range are.
          let bytes = bytes_told n configuration placing.rows placing.merged list range are in
          let fits : length (compiled.pattern_text n configuration list) ≤ MAX_TEXT = subst (λ (k : ℕ). k ≤ MAX_TEXT) (sym bytes) (pattern_texts_fit size words is placing) in not_many (length (compiled.pattern_text n configuration list)) fits;
    }

-- how many vectors a job's patterns have
vectors_told : (size : ℕ) (words : List ℕ) (placing : Placing configuration (plan_of (design size words) configuration) (cubes_in size words)) (list : List PatternData) → ArePatterns (design size words) configuration (plan_of (design size words) configuration) placing.rows placing.merged list →
    length (set_of (design size words) configuration list).vectors ≡ vectors_in (plan_of (design size words) configuration).cycles (captures_in placing.merged)
vectors_told size words placing list are =
    let n : Netlist = design size words in
    vector_count n configuration placing.rows placing.merged list are ∙ ap (λ (merged : List Merged). vectors_in (plan_of n configuration).cycles (captures_in merged)) are.merged

-- that its report is short, and that it has so many vectors only above a size of 16,240
large : (size : ℕ) (words : List ℕ) → IsSize size → (placing : Placing configuration (plan_of (design size words) configuration) (cubes_in size words)) (list : List PatternData) →
    ArePatterns (design size words) configuration (plan_of (design size words) configuration) placing.rows placing.merged list → (refusal : Refusal) →
    Why (length (set_of (design size words) configuration list).vectors) (length (compiled.report_text (design size words) configuration placing.rows (cubes_in size words) placing.placed)) refusal → (16240 < size) ⊎ (size ≤ 16240) → (16240 < size) × (refusal.code ≡ P4)
large size words is placing list are refusal (inl x) (inl more) = (more, x.1)
large size words is placing list are refusal (inl x) (inr most) = let told = vectors_told size words placing list are in let fit = patterns_fit size words is most placing in let many = x.0 in absurd (omega (arith, told, fit, many))
large size words is placing list are refusal (inr x) c = let fit = reports_fit size words is placing in let long = x.0 in absurd (omega (arith, fit, long))

-- a job is refused for its number of vectors alone, and only if it has more than 16,240 cells
abbrev pub JobsFit : Type 0
JobsFit = (numbers : JobNumbers) (o : Outcome) → IsSize numbers.size → IsOutcomeOfJob numbers o → (refusal : Refusal) → o ≡ Refused refusal → MayBeRefused numbers refusal

pub jobs_fit : CompilationsHold → JobsFit
jobs_fit hold numbers o is x refusal same =
    let size : ℕ = numbers.size in
    let words : List ℕ = words_of numbers.seed size in
    let n : Netlist = design size words in
    let given : List Cube = cubes_in size words in
    let r = reached (job_netlist size words) job_configuration (job_cubes size words) n configuration given x.0 (job_read numbers.seed size is) x.1.0 in
    let u = r.outcome in
    let report : List ℕ = compiled.report_text n configuration u.placing.rows given u.placing.placed in
    large size words is u.placing u.list u.are refusal (why hold n configuration given x.0 o (job_within size words is) r x.1.1 (length report) refl (cases_lt MAX_BYTES (length report)) refusal same) (cases_lt 16240 size)
