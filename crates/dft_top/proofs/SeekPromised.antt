-- What Done says of the files of a search.
use Rattle.std.proofs.Common.{ℕ, ◌≡◌, ◌≤◌, ◌∙◌, Bool, true, false, List, [], ◌∷◌, codes, length, nat_lt, refl, sym, ap, subst, arith, Option, None, Some, Ok, slice_get}
use Rattle.std.specs.Prelude.{if◌then◌else◌}
use Rattle.std.specs.Str.{bytes_eq}
use Rattle.dft_base.proofs.TextLemmas.{differ, same_text}
use Rattle.dft_files.specs.Outside.{Held, Told as ToldOf, ToldChange, file_at}
use Rattle.dft_netlist.specs.Netlist.{Netlist}
use Rattle.dft_netlist.specs.Sound.{IsNetlist}
use Rattle.dft_netlist.proofs.RankLemmas.{order_ranks}
use Rattle.dft_config.specs.Config.{Config}
use Rattle.dft_rules.specs.Refusals as rules
use Rattle.dft_rules.proofs.ClockedFlops.{position_at}
use Rattle.dft_rules.proofs.Passed.{domain_is_named}
use Rattle.dft_cubes.specs.declared.cube.Cube.{Cube}
use Rattle.dft_cubes.specs.Cubes.{cubes_of, domain_named}
use Rattle.dft_cubes_out.specs.Laws.{IsWord}
use Rattle.dft_cubes_out.specs.Written.{clock_name, cubes_text, name_of}
use Rattle.dft_seeking.specs.declared.error.SeekError.{SeekError}
use Rattle.dft_seeking.specs.declared.error.SeekError.TheVariants.{TooManyCubes}
use Rattle.dft_seeking.specs.declared.limits.TheConstants.{MAX_TEXT}
use Rattle.dft_seeking.specs.Laws.{IsPlain}
use Rattle.dft_seeking.specs.Refusals.{refusal}
use Rattle.dft_seeking.specs.Told.{Told, AreTold, counts_of, cubes_in}
use Rattle.dft_seeking.specs.Written.{report_text}
use Rattle.dft_seeking.proofs.CubesRead.{told_read}
use Rattle.dft_seeking.proofs.OneLemmas.{told_true}
use Rattle.dft_command_line.specs.Words.{Command, AreFor, Seek, SeekFiles}
use Rattle.dft_command_line.proofs.Understood.{for_once}
use Rattle.dft_answers.specs.declared.answer.Answer.{Answer}
use Rattle.dft_answers.specs.declared.answer.Status.TheVariants.{Done}
use Rattle.dft_answers.specs.declared.outcome.Outcome.{Outcome}
use Rattle.dft_answers.specs.declared.outcome.Outcome.TheVariants.{Finished}
use Rattle.dft_answers.specs.declared.outcome.Work.TheVariants as work
use Rattle.dft_answers.specs.Answers.{status_of}
use Rattle.dft_answers.specs.Refusals.{seek_refusal}
use Rattle.dft_answers.specs.Texts.{FileGives}
use Rattle.dft_top.specs.declared.limits.TheConstants.{MAX_CUBE_BYTES}
use Rattle.dft_top.specs.Checks.{ConfigGives, CubeText, CubesGive, LibraryGives, NetlistGives, PlanGives}
use Rattle.dft_top.specs.Courses.{Reaches}
use Rattle.dft_top.specs.Outcomes.{IsOutcomeOfSeek, IsOutcomeOfTold, course_of_seek}
use Rattle.dft_top.specs.Promises.{Seeks}
use Rattle.dft_top.specs.Run.{EndsFor, Seen, SeeksTold}
use Rattle.dft_top.specs.Saves.{AreSaved, HaveSaved, Saving, savings}
use Rattle.dft_top.proofs.Lengths.{within}
use Rattle.dft_top.proofs.Promised.{design_of, ends_done, saved_lost, saved_untold, then_done, refusal_not_done, planned_is}
use Rattle.dft_top.proofs.Steps.{SeekOf, SeekOn, SeekOver}

record IsDoneSearch (n : Netlist) (config : Config) (domain limit : ℕ) (o : Outcome) : Type 0 where
  told : List Told
  are : AreTold n config domain limit told
  passed : refusal n config told ≡ None
  is : o ≡ Finished (work.Sought (counts_of told) (cubes_text n config (cubes_in told)) (report_text n told))

told_done : (n : Netlist) (config : Config) (told : List Told) (refused : Option SeekError) (o : Outcome) → status_of o ≡ Done → IsOutcomeOfTold n config told refused o →
    (refused ≡ None) × (o ≡ Finished (work.Sought (counts_of told) (cubes_text n config (cubes_in told)) (report_text n told)))
told_done n config told (Some error) o done is = absurd (refusal_not_done (seek_refusal error) o is done)
told_done n config told None o done is = (refl, is)

record IsDoneSeek (n : Netlist) (config : Config) (clock : List ℕ) (limit : ℕ) (o : Outcome) : Type 0 where
  domain : ℕ
  clock_is : domain_named config clock ≡ Some domain
  search : IsDoneSearch n config domain limit o

seek_done : (n : Netlist) (config : Config) (clock : List ℕ) (limit : ℕ) (domain : Option ℕ) (o : Outcome) → domain_named config clock ≡ domain → status_of o ≡ Done → IsOutcomeOfSeek n config clock limit domain o → IsDoneSeek n config clock limit o
seek_done n config clock limit None o named done is = absurd (let e = ap status_of (sym is) ∙ done in cc)
seek_done n config clock limit (Some domain) o named done is =
    let ended = told_done n config is.told (refusal n config is.told) o done is.outcome in
    record { domain = domain; clock_is = named; search = record { told = is.told; are = is.are; passed = ended.0; is = ended.1 } }

-- ---- the saved cube file

-- the clock is that of its domain, whose name is a name
clock_word : (n : Netlist) (config : Config) (clock : List ℕ) (domain : ℕ) → IsNetlist n → rules.refusal n config ≡ None → domain_named config clock ≡ Some domain → IsPlain clock → IsWord (clock_name config domain)
clock_word n config clock domain sound passed named plain =
    let it = position_at (λ (name : List ℕ). bytes_eq name clock) domain config.domains named in
    let same : domain ≡ it.place = (let e = it.is in omega (arith, e)) in
    let at : slice_get config.domains domain ≡ Some it.item = ap (slice_get config.domains) same ∙ it.at in
    subst (λ (o : Option (List ℕ)). IsWord (name_of o)) (sym at) (record { name = domain_is_named n config sound passed domain it.item at; plain = subst IsPlain (sym (same_text it.item clock it.passes)) plain })

not_long : (many long : Bool) (error : SeekError) (rest : Option SeekError) → (if many then Some TooManyCubes else if long then Some error else rest) ≡ None → (if long then Some error else None) ≡ None
not_long true long error rest none = absurd cc
not_long false true error rest none = absurd cc
not_long false false error rest none = refl

cubes_short : (n : Netlist) (config : Config) (told : List Told) → refusal n config told ≡ None → length (cubes_text n config (cubes_in told)) ≤ MAX_CUBE_BYTES
cubes_short n config told passed =
    let bytes : ℕ = length (cubes_text n config (cubes_in told)) in
    within MAX_CUBE_BYTES bytes _ (nat_lt MAX_TEXT bytes) refl (not_long _ (nat_lt MAX_TEXT bytes) _ _ passed)

cubes_given : (n : Netlist) (config : Config) (name : List ℕ) (held : Held) (text : List ℕ) (cubes : List Cube) → file_at name held ≡ Some text → length text ≤ MAX_CUBE_BYTES → cubes_of n config text ≡ Ok cubes → CubesGive n config name held (Ok cubes)
cubes_given n config name held text cubes at short is = subst (λ (q : Option (List ℕ)). FileGives MAX_CUBE_BYTES (codes "cubes") (CubeText n config) q (Ok cubes)) (sym at) (short, is)

-- the two files that a search saves
abbrev both_savings : SeekFiles → Netlist → Config → List Told → List Saving
both_savings files n config told = record { name = files.out_cubes; bytes = cubes_text n config (cubes_in told) } ∷ record { name = files.out_report; bytes = report_text n told } ∷ []

seeks : (files : SeekFiles) (old new : Held) (o : Outcome) → status_of o ≡ Done → Reaches (course_of_seek files) old o → HaveSaved (savings (Some (Seek files)) o) (Some old) (Some new) → Seeks files old new
seeks files old new o done h saved =
    let x = then_done (LibraryGives files.library old) (SeekOver files old) o done h in
    let y = then_done (ConfigGives files.config old) (SeekOn files x.0 old) o done x.1.1 in
    let c = y.0 in
    let z = then_done (NetlistGives x.0 files.netlist old) (SeekOf files c old) o done y.1.1 in
    let n = z.0 in
    let p = then_done (PlanGives n c) (λ plan. IsOutcomeOfSeek n c files.clock files.limit (domain_named c files.clock)) o done z.1.1 in
    let d = seek_done n c files.clock files.limit (domain_named c files.clock) o refl done p.1.1 in
    let s = d.search in
    let ready = p.1.0.ready in
    let left : AreSaved (both_savings files n c s.told) old new = subst (λ (end : Outcome). HaveSaved (savings (Some (Seek files)) end) (Some old) (Some new)) s.is saved in
    let design = design_of x.0 files.netlist old n z.1.0 in
    let ranked = order_ranks n design.1.order design.1.sound design.1.ordered in record {
      cells = x.0;
      library = x.1.0;
      config = c;
      settings = y.1.0;
      netlist = n;
      design = z.1.0;
      plan = planned_is n c p.0 p.1.0;
      domain = d.domain;
      clock = d.clock_is;
      told = s.told;
      are = s.are;
      cubes = left.whole.0;
      report = left.whole.1.0;
      others = λ name a b. left.others name (differ files.out_cubes name (λ e. a (sym e)), (differ files.out_report name (λ e. b (sym e)), tt));
      reads = λ clock plain. cubes_given n c files.out_cubes new (cubes_text n c (cubes_in s.told)) (cubes_in s.told) left.whole.0 (cubes_short n c s.told s.passed)
          (told_read n c d.domain files.limit s.told ready.netlist ready.range (clock_word n c files.clock d.domain ready.netlist ready.passed d.clock_is clock) s.are s.passed plain);
      holds = told_true n c d.domain files.limit s.told ranked.0 ranked.1 ready.library s.are;
    }

told_seeks : (files : SeekFiles) (held held' : Option Held) (o : Outcome) → status_of o ≡ Done → ToldOf (λ h. Reaches (course_of_seek files) h o) held → HaveSaved (savings (Some (Seek files)) o) held held' → ToldChange (Seeks files) held held'
told_seeks files None held' o done told saved = saved_untold (savings (Some (Seek files)) o) held' saved
told_seeks files (Some old) None o done told saved = saved_lost (savings (Some (Seek files)) o) old saved
told_seeks files (Some old) (Some new) o done told saved = seeks files old new o done told saved

pub seeks_for : (words : List (List ℕ)) (command : Option Command) (before after : Seen) (answer : Answer) → AreFor words command → EndsFor command before after answer → SeeksTold words before.held after.held answer
seeks_for words command before after answer are ended files is done =
    let ends = subst (λ (command : Option Command). EndsFor command before after answer) (for_once words command (Some (Seek files)) are is) ended in
    let d = ends_done (Some (Seek files)) before after answer ends done in
    told_seeks files before.held after.held d.o d.done d.told.told d.saved
