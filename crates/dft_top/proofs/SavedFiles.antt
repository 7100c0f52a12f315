-- What a replay and a test of certificates make of the files that a compilation saved.
use Rattle.std.proofs.Common.{ℕ, ◌≡◌, ◌∙◌, ◌≤◌, List, codes, length, refl, sym, ap, subst, Option, None, Some, option_map, Result, Ok}
use Rattle.dft_files.specs.Outside.{Held, file_at}
use Rattle.dft_compile_laws.specs.Passing.{set_of}
use Rattle.dft_compile_laws.specs.Written.{all_compared}
use Rattle.dft_netlist.specs.Netlist.{Netlist}
use Rattle.dft_netlist.proofs.RankLemmas.{order_ranks}
use Rattle.dft_patterns.specs.Patterns.{Patterns}
use Rattle.dft_stil_text.specs.declared.limits.TheConstants.{MAX_VECTORS}
use Rattle.dft_stitch.specs.Chains.{plan_of}
use Rattle.dft_insert.specs.declared.style.Style.TheVariants.{Edt}
use Rattle.dft_insert.specs.Statements.{scanned}
use Rattle.dft_load_laws.specs.Loading.{rows_of}
use Rattle.dft_report.specs.declared.report.Report.{Report}
use Rattle.dft_certify.specs.declared.error.CertifyError.{CertifyError}
use Rattle.dft_certify.specs.Certifying.{unsolvable_in}
use Rattle.dft_certify_laws.proofs.Compiling.{compiled_certifies}
use Rattle.dft_rules.specs.Refusals as rules
use Rattle.dft_stitch.specs.Limits as stitch
use Rattle.dft_insert.specs.Refusals as insert
use Rattle.dft_compile.specs.declared.error.CompileError.TheVariants.{Insert, Rules, Stitch}
use Rattle.dft_compile.specs.Reports.{compile_report}
use Rattle.dft_compile.specs.Texts as compiled
use Rattle.dft_compile_laws.specs.Holding.{without_notes}
use Rattle.dft_command_line.specs.Words.{Certify, CertifyFiles, Command, CompileFiles, Replay, ReplayFiles}
use Rattle.dft_command_line.proofs.Understood.{for_once}
use Rattle.dft_answers.specs.declared.answer.Refusal.{Refusal}
use Rattle.dft_answers.specs.declared.outcome.Outcome.{Outcome}
use Rattle.dft_answers.specs.declared.outcome.Outcome.TheVariants.{Finished}
use Rattle.dft_answers.specs.declared.outcome.Replayed.TheVariants.{Passed}
use Rattle.dft_answers.specs.declared.outcome.Work.TheVariants.{Certified, Replayed}
use Rattle.dft_top.specs.declared.limits.TheConstants.{MAX_NETLIST_BYTES, MAX_PATTERN_BYTES, MAX_REPORT_BYTES}
use Rattle.dft_answers.specs.Texts.{FileGives}
use Rattle.dft_top.specs.Checks.{ConfigGives, CubesGive, LibraryGives, NetlistGives, NetlistText, PatternText, PatternsGive, ReportGives, ReportText, plan_refusal}
use Rattle.dft_top.specs.Courses.{Reaches}
use Rattle.dft_top.specs.Outcomes.{IsOutcomeFor, IsOutcomeOfTest, IsOutcomeOn, course_of_certify, course_of_replay}
use Rattle.dft_top.specs.Promises.{Compiles}
use Rattle.dft_top.specs.Saved.{SavedIsCertified, SavedIsReplayed}
use Rattle.dft_top.proofs.Lengths.{checks_before}
use Rattle.dft_top.proofs.PassingFiles.{certify_due, replay_due}
use Rattle.dft_top.proofs.Promised.{are_cubes}
use Rattle.dft_top.proofs.Replays.{on_passes}
use Rattle.dft_top.proofs.ScannedDesigns.{loaded_named, scanned_given}

-- the text of a file is given where it is no longer than its limit
file_given : {A : Type 0} (limit : ℕ) (option : List ℕ) (text_gives : List ℕ → Result A Refusal → Type 0) (file : Option (List ℕ)) (text : List ℕ) (value : A) → file ≡ Some text → length text ≤ limit → text_gives text (Ok value) →
    FileGives limit option text_gives file (Ok value)
file_given limit option text_gives file text value at short given = subst (λ (f : Option (List ℕ)). FileGives limit option text_gives f (Ok value)) (sym at) (short, given)

named_at : (name other : List ℕ) (held : Held) (text : List ℕ) → name ≡ other → file_at other held ≡ Some text → file_at name held ≡ Some text
named_at name other held text same at = ap (λ (n : List ℕ). file_at n held) same ∙ at

-- ---- a replay

replayed : (files : ReplayFiles) (making : CompileFiles) (old new : Held) (o : Outcome) (c : Compiles making old new) → files.netlist ≡ making.out_netlist → files.patterns ≡ making.out_patterns → LibraryGives files.library new (Ok c.cells) →
    length (compiled.netlist_text c.netlist c.config) ≤ MAX_NETLIST_BYTES → length (set_of c.netlist c.config c.list).vectors ≤ MAX_VECTORS → Reaches (course_of_replay files) new o →
    o ≡ Finished (Replayed (Passed (length (set_of c.netlist c.config c.list).vectors) (all_compared c.config (plan_of c.netlist c.config) c.list)))
replayed files making old new o c netlist patterns library short few x =
    let n : Netlist = scanned Edt c.netlist c.config in
    let p : Patterns = without_notes (set_of c.netlist c.config c.list) in
    let well = (c.holds.formed c.few).well in
    let design : NetlistGives c.cells files.netlist new (Ok n) =
    file_given MAX_NETLIST_BYTES (codes "netlist") (NetlistText c.cells) (file_at files.netlist new) (compiled.netlist_text c.netlist c.config) n (named_at files.netlist making.out_netlist new _ netlist c.out_netlist) short
    (record { stands = scanned_given Edt c.cells (compiled.netlist_text c.netlist c.config) c.netlist c.config (loaded_named c.cells making.netlist old c.netlist c.design) c.keeps c.reads; sound = c.sound; order = c.order; ordered = c.ordered }) in
    let vectors : PatternsGive files.patterns new (Ok p) =
    file_given MAX_PATTERN_BYTES (codes "patterns") PatternText (file_at files.patterns new) (compiled.pattern_text c.netlist c.config c.list) p (named_at files.patterns making.out_patterns new _ patterns c.out_patterns) c.patterns_short
    (record { stands = c.stands; few = few; well_formed = record { distinct = well.distinct; few = well.few; fits = well.fits; steady = well.steady } }) in
    let on : IsOutcomeOn n p None o = subst (λ (misfit : Option (List ℕ)). IsOutcomeOn n p misfit o) c.holds.passes.fits (replay_due files new c.cells n p o library design vectors x) in
    let ranked = order_ranks n c.order c.sound c.ordered in
    on_passes n n p p ranked.0 (all_compared c.config (plan_of c.netlist c.config) c.list) o ranked.1 refl refl c.holds.passes.verdict on

pub saved_replayed : SavedIsReplayed
saved_replayed words files making old new o is netlist patterns c library short few x =
    replayed files making old new o c netlist patterns library short few (subst (λ (command : Option Command). IsOutcomeFor command new o) (for_once words x.0 (Some (Replay files)) x.1.0 is) x.1.1)

-- ---- a test of certificates

certified : (files : CertifyFiles) (making : CompileFiles) (old new : Held) (o : Outcome) (c : Compiles making old new) → files.report ≡ making.out_report → LibraryGives files.library new (Ok c.cells) → ConfigGives files.config new (Ok c.config) →
    NetlistGives c.cells files.netlist new (Ok c.netlist) → CubesGive c.netlist c.config files.cubes new (Ok c.cubes) → Reaches (course_of_certify files) new o →
    o ≡ Finished (Certified (unsolvable_in (compile_report c.netlist c.config (rows_of c.netlist c.config c.placing.rows) c.cubes c.placing.placed).cubes))
certified files making old new o c report library config netlist cubes x =
    let n = c.netlist in
    let g = c.config in
    let rows = c.placing.rows in
    let written : Report = compile_report n g (rows_of n g rows) c.cubes c.placing.placed in
    let planned : plan_refusal n g ≡ None =
    checks_before (option_map Rules (rules.refusal n g)) (option_map Stitch (stitch.refusal n g)) (option_map Insert (insert.refusal Edt n g (plan_of n g))) c.accepted in
    let told : ReportGives files.report new (Ok written) =
    file_given MAX_REPORT_BYTES (codes "report") ReportText (file_at files.report new) (compiled.report_text n g rows c.cubes c.placing.placed) written (named_at files.report making.out_report new _ report c.out_report) c.report_short c.told in
    subst (λ (fault : Option CertifyError). IsOutcomeOfTest written fault o) (compiled_certifies n g c.cubes c.placing c.ready (are_cubes n g making.cubes old c.cubes c.given))
    (certify_due files new c.cells g n c.cubes written rows o library config netlist planned cubes told c.placing.equations x)

pub saved_certified : SavedIsCertified
saved_certified words files making old new o is report c library config netlist cubes x =
    certified files making old new o c report library config netlist cubes (subst (λ (command : Option Command). IsOutcomeFor command new o) (for_once words x.0 (Some (Certify files)) x.1.0 is) x.1.1)
