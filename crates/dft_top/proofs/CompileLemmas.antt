-- What a compilation of cubes comes to.
use Rattle.std.proofs.Common.{◌≡◌, ◌<◌, ◌^◌, List, [], ◌∷◌, length, Option, None, Some, option_map, Ok, sym, ap, ◌∙◌, subst, ℕ}
use Rattle.dft_config.specs.Config.{Config}
use Rattle.dft_config.specs.Range.{IsInRange}
use Rattle.dft_netlist.specs.Drivers.{IsOrdered}
use Rattle.dft_netlist.specs.Netlist.{Netlist}
use Rattle.dft_netlist_text.specs.NetlistText.{StandsFor}
use Rattle.dft_stitch.specs.Chains.{plan_of}
use Rattle.dft_insert.specs.declared.style.Style.TheVariants.{Edt}
use Rattle.dft_insert.specs.Statements.{scanned}
use Rattle.dft_cubes.specs.declared.cube.Cube.{Cube}
use Rattle.dft_cubes.specs.declared.cube.Merged.{Merged}
use Rattle.dft_equations.specs.LoadRows.{LoadRows}
use Rattle.dft_merge.specs.declared.placed.Placed.{Placed}
use Rattle.dft_load_laws.specs.Loading.{rows_of}
use Rattle.dft_report_reader.specs.Reading.{report_of}
use Rattle.dft_compile.specs.Reports.{compile_report}
use Rattle.dft_vectors.specs.PatternData.{PatternData}
use Rattle.dft_encode.specs.Compiled.{ArePatterns, Placing}
use Rattle.dft_compile.specs.declared.error.CompileError.{CompileError}
use Rattle.dft_compile.specs.declared.error.CompileError.TheVariants as compile
use Rattle.dft_compile.specs.declared.texts.CompileTexts.{CompileTexts}
use Rattle.dft_compile.specs.Compilation.{IsCompileOf}
use Rattle.dft_compile.specs.Refusals.{IsLate, IsRefusal, IsRefusedLate, first_failing, late_refusal, too_long, too_many}
use Rattle.dft_compile.specs.Texts.{counts_of, netlist_text, pattern_set, pattern_text, report_text}
use Rattle.dft_compile.proofs.BytesLemmas.{bytes_told}
use Rattle.dft_answers.specs.declared.answer.Refusal.{Refusal}
use Rattle.dft_answers.specs.declared.outcome.Outcome.{Outcome}
use Rattle.dft_answers.specs.declared.outcome.Outcome.TheVariants.{Finished, Refused}
use Rattle.dft_answers.specs.declared.outcome.Work.TheVariants.{Compiled}
use Rattle.dft_answers.specs.Refusals.{compile_refusal}
use Rattle.dft_top.specs.Outcomes.{IsCompiled, IsOutcomeOfCubes, IsOutcomeOfPlacing, refusal_of}
use Rattle.dft_top.proofs.CompiledOnce.{SamePlacing, patterns_one, placing_one}
use Rattle.dft_top.proofs.SomePatterns.{some_patterns}
use Rattle.dft_top.proofs.CertifyLemmas.{refusal_is, refusal_one}

-- ---- what is refused

-- an error that is told as a refusal is the refusal of the checks
pub first_told : (refused : Option CompileError) (error : CompileError) (refusal : Refusal) → IsRefusal refused error → compile_refusal error ≡ Some refusal → refused ≡ Some error
first_told refused (compile.Rules error) refusal is told = is
first_told refused (compile.Stitch error) refusal is told = is
first_told refused (compile.Insert error) refusal is told = is
first_told refused (compile.Patterns error) refusal is told = is
first_told refused (compile.Report error) refusal is told = is
first_told refused (compile.Memory error) refusal is told = absurd cc

-- the text of the patterns is as long as was told before they were made
same_refusal : (n : Netlist) (config : Config) (cubes : List Cube) (placing : Placing config (plan_of n config) cubes) (list : List PatternData) → IsInRange config → ArePatterns n config (plan_of n config) placing.rows placing.merged list →
    refusal_of n config cubes placing list ≡ late_refusal n config cubes placing.rows placing.placed placing.merged
same_refusal n config cubes placing list range are =
    ap (λ (bytes : ℕ). first_failing (option_map compile.Patterns (too_many bytes) ∷ option_map compile.Report (too_long (report_text n config placing.rows cubes placing.placed)) ∷ []))
    (bytes_told n config placing.rows placing.merged list range are)

late_is : (n : Netlist) (rank : ℕ → ℕ) (config : Config) (cubes : List Cube) (error : CompileError) (refusal : Refusal) → IsOrdered n rank → IsInRange config → IsRefusedLate n config cubes error → compile_refusal error ≡ Some refusal →
    IsOutcomeOfCubes n config cubes (Refused refusal)
late_is n rank config cubes error refusal ordered range late told =
    let some = some_patterns n rank config cubes late.placing ordered in record {
      placing = late.placing;
      list = some.0;
      are = some.1;
      outcome = subst (λ (r : Option CompileError). IsOutcomeOfPlacing n config cubes late.placing some.0 r (Refused refusal)) (sym (same_refusal n config cubes late.placing some.0 range some.1 ∙ late.first))
          (refusal_is (compile_refusal error) refusal told);
    }

pub refused_is : (n : Netlist) (rank : ℕ → ℕ) (config : Config) (cubes : List Cube) (error : CompileError) (refusal : Refusal) → IsOrdered n rank → IsInRange config → IsLate n config cubes error → compile_refusal error ≡ Some refusal →
    IsOutcomeOfCubes n config cubes (Refused refusal)
refused_is n rank config cubes (compile.Rules error) refusal ordered range late told = late_is n rank config cubes (compile.Rules error) refusal ordered range late told
refused_is n rank config cubes (compile.Stitch error) refusal ordered range late told = late_is n rank config cubes (compile.Stitch error) refusal ordered range late told
refused_is n rank config cubes (compile.Insert error) refusal ordered range late told = late_is n rank config cubes (compile.Insert error) refusal ordered range late told
refused_is n rank config cubes (compile.Patterns error) refusal ordered range late told = late_is n rank config cubes (compile.Patterns error) refusal ordered range late told
refused_is n rank config cubes (compile.Report error) refusal ordered range late told = late_is n rank config cubes (compile.Report error) refusal ordered range late told
refused_is n rank config cubes (compile.Memory error) refusal ordered range late told = absurd cc

-- ---- what is compiled

pub compiled_is : (n : Netlist) (config : Config) (cubes : List Cube) (t : CompileTexts) → IsInRange config → IsCompileOf n config cubes t → StandsFor n.library t.netlist.items (scanned Edt n config) →
    IsOutcomeOfCubes n config cubes (Finished (Compiled t.counts t.netlist.items t.patterns.items t.report.items))
compiled_is n config cubes t range is reads =
    let o = Finished (Compiled t.counts t.netlist.items t.patterns.items t.report.items) in
    let counts = is.texts.counts in
    let netlist = is.texts.netlist in
    let patterns = is.texts.patterns in
    let report = is.texts.report in
    let compiled : IsCompiled n config cubes is.placing is.texts.list o = record {
      is = λ i. Finished (Compiled (counts i) (netlist i) (patterns i) (report i));
      reads = subst (λ (text : List ℕ). StandsFor n.library text (scanned Edt n config)) netlist reads;
      few = is.texts.few;
      told = is.told;
    } in
    record {
      placing = is.placing;
      list = is.texts.list;
      are = is.texts.are;
      outcome = subst (λ (r : Option CompileError). IsOutcomeOfPlacing n config cubes is.placing is.texts.list r o) (sym (same_refusal n config cubes is.placing is.texts.list range is.texts.are ∙ is.texts.accepted)) compiled;
    }

-- ---- placements that say the same

refusal_same : (n : Netlist) (config : Config) (cubes : List Cube) (p q : Placing config (plan_of n config) cubes) (list more : List PatternData) → SamePlacing config (plan_of n config) cubes p q → list ≡ more →
    refusal_of n config cubes p list ≡ refusal_of n config cubes q more
refusal_same n config cubes p q list more same lists =
    let rows = same.rows in
    let placed = same.placed in
    λ i. first_failing
    (option_map compile.Patterns (too_many (length (pattern_text n config (lists i)))) ∷ option_map compile.Report (too_long (report_text n config (rows i) cubes (placed i))) ∷ [])

patterns_of : (n : Netlist) (config : Config) (cubes : List Cube) (p q : Placing config (plan_of n config) cubes) (list : List PatternData) → SamePlacing config (plan_of n config) cubes p q →
    ArePatterns n config (plan_of n config) q.rows q.merged list → ArePatterns n config (plan_of n config) p.rows p.merged list
patterns_of n config cubes p q list same are =
    subst (λ (merged : List Merged). ArePatterns n config (plan_of n config) p.rows merged list) (sym same.merged)
    (subst (λ (rows : LoadRows). ArePatterns n config (plan_of n config) rows q.merged list) (sym same.rows) are)

texts_one : (n : Netlist) (config : Config) (cubes : List Cube) (p q : Placing config (plan_of n config) cubes) (list more : List PatternData) → SamePlacing config (plan_of n config) cubes p q → list ≡ more →
    Finished (Compiled (counts_of n config p.placed list) (netlist_text n config) (pattern_text n config list) (report_text n config p.rows cubes p.placed))
    ≡ Finished (Compiled (counts_of n config q.placed more) (netlist_text n config) (pattern_text n config more) (report_text n config q.rows cubes q.placed))
texts_one n config cubes p q list more same lists =
    let rows = same.rows in
    let placed = same.placed in
    λ i. Finished (Compiled (counts_of n config (placed i) (lists i)) (netlist_text n config) (pattern_text n config (lists i)) (report_text n config (rows i) cubes (placed i)))

-- the text of its report is read as the report
abbrev IsRead : (n : Netlist) (config : Config) (cubes : List Cube) → LoadRows → List Placed → Type 0
IsRead n config cubes rows placed = report_of (report_text n config rows cubes placed) ≡ Ok (compile_report n config (rows_of n config rows) cubes placed)

told_of : (n : Netlist) (config : Config) (cubes : List Cube) (p q : Placing config (plan_of n config) cubes) → SamePlacing config (plan_of n config) cubes p q → IsRead n config cubes q.rows q.placed → IsRead n config cubes p.rows p.placed
told_of n config cubes p q same told =
    subst (λ (placed : List Placed). IsRead n config cubes p.rows placed) (sym same.placed) (subst (λ (rows : LoadRows). IsRead n config cubes rows q.placed) (sym same.rows) told)

-- ---- one outcome

placed_one : (n : Netlist) (config : Config) (cubes : List Cube) (p q : Placing config (plan_of n config) cubes) (list more : List PatternData) (a b : Outcome) (refused : Option CompileError) →
    SamePlacing config (plan_of n config) cubes p q → list ≡ more → IsOutcomeOfPlacing n config cubes p list refused a → IsOutcomeOfPlacing n config cubes q more refused b → a ≡ b
placed_one n config cubes p q list more a b (Some error) same lists x y = refusal_one (compile_refusal error) a b x y
placed_one n config cubes p q list more a b None same lists x y = x.is ∙ texts_one n config cubes p q list more same lists ∙ sym y.is

pub cubes_one : (n : Netlist) (rank : ℕ → ℕ) (config : Config) (cubes : List Cube) (a b : Outcome) → IsOrdered n rank → IsOutcomeOfCubes n config cubes a → IsOutcomeOfCubes n config cubes b → a ≡ b
cubes_one n rank config cubes a b ordered x y =
    let p = x.placing in
    let q = y.placing in
    let same = placing_one config (plan_of n config) cubes p q in
    let lists : x.list ≡ y.list = patterns_one n rank config (plan_of n config) p.rows p.merged x.list y.list ordered x.are (patterns_of n config cubes p q y.list same y.are) in
    placed_one n config cubes p q x.list y.list a b (refusal_of n config cubes p x.list) same lists x.outcome
    (subst (λ (r : Option CompileError). IsOutcomeOfPlacing n config cubes q y.list r b) (sym (refusal_same n config cubes p q x.list y.list same lists)) y.outcome)

-- where no check fails on a placement and its patterns, the cubes are compiled so
pub compiled_due : (n : Netlist) (rank : ℕ → ℕ) (config : Config) (cubes : List Cube) (placing : Placing config (plan_of n config) cubes) (list : List PatternData) (o : Outcome) → IsOrdered n rank →
    ArePatterns n config (plan_of n config) placing.rows placing.merged list → refusal_of n config cubes placing list ≡ None → IsOutcomeOfCubes n config cubes o → IsCompiled n config cubes placing list o
compiled_due n rank config cubes placing list o ordered are none x =
    let q = x.placing in
    let same = placing_one config (plan_of n config) cubes placing q in
    let lists : list ≡ x.list = patterns_one n rank config (plan_of n config) placing.rows placing.merged list x.list ordered are (patterns_of n config cubes placing q x.list same x.are) in
    let y : IsCompiled n config cubes q x.list o =
    subst (λ (r : Option CompileError). IsOutcomeOfPlacing n config cubes q x.list r o) (sym (refusal_same n config cubes placing q list x.list same lists) ∙ none) x.outcome in
    record {
      is = y.is ∙ sym (texts_one n config cubes placing q list x.list same lists);
      reads = y.reads;
      few = subst (λ (l : List PatternData). length (pattern_set n config l).vectors < 2 ^ 32) (sym lists) y.few;
      told = told_of n config cubes placing q same y.told;
    }
