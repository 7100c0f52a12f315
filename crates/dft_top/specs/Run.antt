-- What a run promises.
use Rattle.std.specs.Prelude.{ℕ, ◌≡◌, ◌<◌, ◌⊎◌, List, [], Option, None, Some}
use Rattle.dft_files.specs.Outside.{Held, Told, ToldChange, Rose}
use Rattle.dft_files.specs.Put.{Adds, AddsPrefix}
use Rattle.dft_answers.specs.declared.answer.Status.{Status}
use Rattle.dft_answers.specs.declared.answer.Status.TheVariants.{Done, NotPassed, Usage, Refused, ReadFault, WriteFault, OutOfMemory}
use Rattle.dft_answers.specs.declared.answer.Answer.{Answer}
use Rattle.dft_answers.specs.declared.answer.Code.TheVariants.{P4}
use Rattle.dft_answers.specs.declared.answer.Refusal.{Refusal}
use Rattle.dft_answers.specs.declared.outcome.Outcome.{Outcome}
use Rattle.dft_answers.specs.declared.outcome.Outcome.TheVariants as outcome
use Rattle.dft_answers.specs.declared.outcome.Replayed.{Replayed}
use Rattle.dft_answers.specs.declared.outcome.Replayed.TheVariants.{Passed, Mismatch, Undetermined}
use Rattle.dft_answers.specs.declared.outcome.Work.TheVariants as work
use Rattle.dft_command_line.specs.Words.{Command, Replay, Scan, Compile, Certify, Generate, Grade, Configure, Seek, ReplayFiles, ScanFiles, CompileFiles, CertifyFiles, GradeFiles, ConfigureFiles, SeekFiles, JobNumbers, AreFor, IsFor, IsReplay, IsScan, IsCompile, IsCertify, IsGenerate, IsGrade, IsConfigure, IsSeek}
use Rattle.dft_answers.specs.Answers.{answer_of, stopped}
use Rattle.dft_answers.specs.Lines.{line_of}
use Rattle.dft_top.specs.Courses.{Allows, IsPassing}
use Rattle.dft_top.specs.Outcomes.{IsOutcomeFor, IsOutcomeOfJob, IsLoaded, HasTurn, course_of}
use Rattle.dft_top.specs.Promises.{Passes, Fails, Scans, Compiles, Certifies, Grades, Configures, Seeks, replay_of}
use Rattle.dft_top.specs.Saves.{savings, HaveSaved, HaveSavedSome, SaveFailed, CountsSaves}

-- what is seen of the files and of the output: what files are held, the name in the last call that failed, how many loads and saves
-- have failed, how many saves have ended for want of memory, what was printed, how often that has failed, and how often for want of memory
pub record Seen : Type 0 where
  pub held : Option Held
  pub failed : List ℕ
  pub read_faults : ℕ
  pub write_faults : ℕ
  pub short_saves : ℕ
  pub printed : Option (List ℕ)
  pub put_faults : ℕ
  pub short_puts : ℕ

abbrev pub seen : (held : Option Held) → (failed : List ℕ) → (read_faults write_faults short_saves : ℕ) → (printed : Option (List ℕ)) → (put_faults short_puts : ℕ) → Seen
seen held failed read_faults write_faults short_saves printed put_faults short_puts = record {
  held = held;
  failed = failed;
  read_faults = read_faults;
  write_faults = write_faults;
  short_saves = short_saves;
  printed = printed;
  put_faults = put_faults;
  short_puts = short_puts;
}

-- ---- the outcome

-- a replay does not pass
abbrev pub IsUnpassed : Replayed → Type 0
IsUnpassed (Passed vectors compared) = ⊥
IsUnpassed (Mismatch vector signal) = Unit {0}
IsUnpassed (Undetermined vector signal) = Unit {0}

-- a command comes to a refusal, or to work of its own, a grading also to a replay that does not pass
abbrev pub IsOf : Command → Outcome → Type 0
IsOf command (outcome.Refused refusal) = Unit {0}
IsOf (Replay files) (outcome.Finished (work.Replayed replay)) = Unit {0}
IsOf (Scan files) (outcome.Finished (work.Scanned counts netlist report)) = Unit {0}
IsOf (Compile files) (outcome.Finished (work.Compiled counts netlist patterns report)) = Unit {0}
IsOf (Certify files) (outcome.Finished (work.Certified unsolvable)) = Unit {0}
IsOf (Generate numbers) (outcome.Finished (work.Generated counts replay)) = Unit {0}
IsOf (Grade files) (outcome.Finished (work.Replayed replay)) = IsUnpassed replay
IsOf (Grade files) (outcome.Finished (work.Graded faults detected undetected report)) = Unit {0}
IsOf (Configure files) (outcome.Finished (work.Configured counts text)) = Unit {0}
IsOf (Seek files) (outcome.Finished (work.Sought counts cubes report)) = Unit {0}
IsOf command o = ⊥

-- Usage is the outcome of exactly the words that are no command
abbrev pub Suits : Option Command → Outcome → Type 0
Suits None o = o ≡ outcome.Usage
Suits (Some command) o = IsOf command o

-- What is said of held files holds of those that are told; of a command that loads none, and of no command, it holds whatever is held.
abbrev pub ToldFor : Option Command → (Held → Type 0) → Option Held → Type 0
ToldFor None P held = (h : Held) → P h
ToldFor (Some (Replay files)) P held = Told P held
ToldFor (Some (Scan files)) P held = Told P held
ToldFor (Some (Compile files)) P held = Told P held
ToldFor (Some (Certify files)) P held = Told P held
ToldFor (Some (Generate numbers)) P held = (h : Held) → P h
ToldFor (Some (Grade files)) P held = Told P held
ToldFor (Some (Configure files)) P held = Told P held
ToldFor (Some (Seek files)) P held = Told P held

-- the outcome is one of the command, that its course allows, and that of the held files where they are told
pub record IsOutcomeTold (command : Option Command) (held : Option Held) (o : Outcome) : Type 0 where
  pub allowed : Allows (course_of command) o
  pub suits : Suits command o
  pub told : ToldFor command (λ files. IsOutcomeFor command files o) held

-- ---- how a run ends

-- no file is changed, no save has failed, and nothing was printed
pub record IsUntouched (before after : Seen) : Type 0 where
  pub held : after.held ≡ before.held
  pub write_faults : after.write_faults ≡ before.write_faults
  pub printed : after.printed ≡ before.printed

-- Memory ran out.
abbrev pub RunsOut : (before after : Seen) → Answer → Type 0
RunsOut before after answer = IsUntouched before after × (answer ≡ stopped OutOfMemory)

-- A load failed, of a file that the command loads and whose turn came.
pub record ReadFails (command : Option Command) (before after : Seen) (answer : Answer) : Type 0 where
  pub rose : Rose before.read_faults after.read_faults
  pub loaded : IsLoaded command after.failed
  pub turn : Told (λ held. HasTurn command held after.failed) before.held
  pub untouched : IsUntouched before after
  pub answers : answer ≡ stopped ReadFault

-- The outcome is answered: what it saves was saved, and its line was put.
pub record Answers (command : Option Command) (o : Outcome) (before after : Seen) (answer : Answer) : Type 0 where
  pub saved : HaveSaved (savings command o) before.held after.held
  pub printed : Adds (line_of o) before.printed after.printed
  pub answers : answer ≡ answer_of o

-- A save of the outcome failed: those before it stand whole, nothing was printed, and no put has failed.
pub record SaveFails (command : Option Command) (o : Outcome) (before after : Seen) (answer : Answer) : Type 0 where
  pub failed : SaveFailed (savings command o) before.held after.held after.failed before.write_faults after.write_faults
  pub printed : after.printed ≡ before.printed
  pub put_faults : after.put_faults ≡ before.put_faults
  pub answers : answer ≡ stopped WriteFault

-- The line could not be put whole: what the outcome saves was saved, and a prefix of the line was put.
pub record PutFails (command : Option Command) (o : Outcome) (before after : Seen) (answer : Answer) : Type 0 where
  pub rose : Rose before.put_faults after.put_faults
  pub saved : HaveSaved (savings command o) before.held after.held
  pub printed : AddsPrefix (line_of o) before.printed after.printed
  pub answers : answer ≡ stopped WriteFault

-- Memory ran out when there was an outcome: the saves before stand whole, and nothing was printed. Where there are such saves, it ran out in a save or in
-- the put of the line itself: every text and the line were made before the first save.
pub record EndsShort (command : Option Command) (o : Outcome) (before after : Seen) (answer : Answer) : Type 0 where
  pub saved : HaveSavedSome (savings command o) before.held after.held
  pub late : (saved.saved ≡ []) ⊎ Rose before.short_saves after.short_saves ⊎ Rose before.short_puts after.short_puts
  pub printed : after.printed ≡ before.printed
  pub answers : answer ≡ stopped OutOfMemory

-- what becomes of an outcome
abbrev pub IsDelivered : Option Command → Outcome → (before after : Seen) → Answer → Type 0
IsDelivered command o before after answer =
    Answers command o before after answer
    ⊎ SaveFails command o before after answer
    ⊎ PutFails command o before after answer
    ⊎ EndsShort command o before after answer

-- a command, or no command, comes to its outcome
pub record Delivers (command : Option Command) (before after : Seen) (answer : Answer) : Type 0 where
  pub o : Outcome
  pub told : IsOutcomeTold command before.held o
  pub counts : CountsSaves (savings command o) before.write_faults after.write_faults
  pub delivered : IsDelivered command o before after answer

-- the run of a command, or of no command
abbrev pub EndsFor : Option Command → (before after : Seen) → Answer → Type 0
EndsFor command before after answer =
    Delivers command before after answer
    ⊎ ReadFails command before after answer
    ⊎ RunsOut before after answer

-- Memory ran out before it was known what the words are for; or they are for this command, or for none, and its run ends so.
abbrev pub Ends : List (List ℕ) → (before after : Seen) → Answer → Type 0
Ends words before after answer =
    RunsOut before after answer
    ⊎ ((command : Option Command) × (AreFor words command × EndsFor command before after answer))

-- ---- what Done promises

-- where the words are a replay, its patterns pass: every run shows each compared bit as printed
abbrev pub PassesTold : List (List ℕ) → Option Held → Answer → Type 0
PassesTold words held answer = (files : ReplayFiles) → IsReplay words files → answer.status ≡ Done → Told (Passes files) held

-- where the words are a replay that does not pass, its patterns have a verdict that says why: a mismatch is one in every run
abbrev pub FailsTold : List (List ℕ) → Option Held → Answer → Type 0
FailsTold words held answer = (files : ReplayFiles) → IsReplay words files → answer.status ≡ NotPassed → Told (Fails files) held

-- where the words are a scan, the scanned netlist and the report are saved: scan off it is the same design, and its chains shift
abbrev pub ScansTold : List (List ℕ) → (held held' : Option Held) → Answer → Type 0
ScansTold words held held' answer = (files : ScanFiles) → IsScan words files → answer.status ≡ Done → ToldChange (Scans files) held held'

-- where the words are a compilation, the scanned netlist, the patterns and the report are saved: scan off it is the same design, the patterns pass
-- and load the cubes that are reported encoded, and cubes are reported unsolvable exactly where no channel bits load them
abbrev pub CompilesTold : List (List ℕ) → (held held' : Option Held) → Answer → Type 0
CompilesTold words held held' answer = (files : CompileFiles) → IsCompile words files → answer.status ≡ Done → ToldChange (Compiles files) held held'

-- where the words are a test of certificates, no channel bits load a cube that is reported unsolvable
abbrev pub CertifiesTold : List (List ℕ) → Option Held → Answer → Type 0
CertifiesTold words held answer = (files : CertifyFiles) → IsCertify words files → answer.status ≡ Done → Told (Certifies files) held

-- where the words are a grading, the patterns pass and the report of all faults is saved, each with its grade; a fault that is detected fails in every run
abbrev pub GradesTold : List (List ℕ) → (held held' : Option Held) → Answer → Type 0
GradesTold words held held' answer = (files : GradeFiles) → IsGrade words files → answer.status ≡ Done → ToldChange (Grades files) held held'

-- where the words are a grading whose patterns do not pass, a replay of them does not, and says why
abbrev pub UngradedTold : List (List ℕ) → Option Held → Answer → Type 0
UngradedTold words held answer = (files : GradeFiles) → IsGrade words files → answer.status ≡ NotPassed → Told (Fails (replay_of files)) held

-- where the words ask for a configuration, one is made for the netlist and saved: it is read as what is made, a compilation takes it, and no cube of one
-- or two care bits is unsolvable under it
abbrev pub ConfiguresTold : List (List ℕ) → (held held' : Option Held) → Answer → Type 0
ConfiguresTold words held held' answer = (files : ConfigureFiles) → IsConfigure words files → answer.status ≡ Done → ToldChange (Configures files) held held'

-- where the words are a search, what it tells of all faults is saved, and it is true
abbrev pub SeeksTold : List (List ℕ) → (held held' : Option Held) → Answer → Type 0
SeeksTold words held held' answer = (files : SeekFiles) → IsSeek words files → answer.status ≡ Done → ToldChange (Seeks files) held held'

-- a job of more than 16,240 cells may be refused, where its patterns have more vectors than are read
abbrev pub MayBeRefused : JobNumbers → Refusal → Type 0
MayBeRefused numbers refusal = (16240 < numbers.size) × (refusal.code ≡ P4)

-- where the words are a generated job, its run is done; or it may be refused so, and is, with the refusal of the job; or its lines could not be put, or
-- memory ran out
abbrev pub GeneratesJob : List (List ℕ) → (put_faults put_faults' : ℕ) → Answer → Type 0
GeneratesJob words put_faults put_faults' answer =
    (numbers : JobNumbers) → IsGenerate words numbers →
    (answer.status ≡ Done)
    ⊎ ((refusal : Refusal) × (MayBeRefused numbers refusal × (IsOutcomeOfJob numbers (outcome.Refused refusal) × (answer ≡ answer_of (outcome.Refused refusal)))))
    ⊎ ((answer.status ≡ WriteFault) × Rose put_faults put_faults')
    ⊎ (answer.status ≡ OutOfMemory)

-- ---- when a command is answered

-- no call of the outside failed: no count rose
pub record NoneFailed (before after : Seen) : Type 0 where
  pub reads : Rose before.read_faults after.read_faults → ⊥
  pub writes : Rose before.write_faults after.write_faults → ⊥
  pub puts : Rose before.put_faults after.put_faults → ⊥

-- the verdict of a replay is Pass
pub record IsPassed (files : ReplayFiles) (held : Held) : Type 0 where
  pub vectors : ℕ
  pub compared : ℕ
  pub is : IsOutcomeFor (Some (Replay files)) held (outcome.Finished (work.Replayed (Passed vectors compared)))

-- a status is Done exactly where the verdict is Pass, and NotPassed else
abbrev pub IsByVerdict : ReplayFiles → Held → Status → Type 0
IsByVerdict files held status = ((status ≡ Done) × IsPassed files held) ⊎ ((status ≡ NotPassed) × (IsPassed files held → ⊥))

-- a replay and a grading are done exactly where the verdict is Pass, and not passed else; every other command is done
abbrev pub IsAnswered : Command → Held → Status → Type 0
IsAnswered (Replay files) held status = IsByVerdict files held status
IsAnswered (Scan files) held status = status ≡ Done
IsAnswered (Compile files) held status = status ≡ Done
IsAnswered (Certify files) held status = status ≡ Done
IsAnswered (Generate numbers) held status = status ≡ Done
IsAnswered (Grade files) held status = IsByVerdict (replay_of files) held status
IsAnswered (Configure files) held status = status ≡ Done
IsAnswered (Seek files) held status = status ≡ Done

-- Where the words are a command, whose checks the files that are told pass (those of a generated job, whatever is told), and no call of the outside failed, the command is answered. Want of memory
-- is the one exception.
abbrev pub CompletesTold : List (List ℕ) → (before after : Seen) → Answer → Type 0
CompletesTold words before after answer =
    (command : Command) → IsFor words command → NoneFailed before after →
    ToldFor (Some command) (λ held. IsPassing (course_of (Some command)) held → (answer.status ≡ OutOfMemory) ⊎ IsAnswered command held answer.status) before.held

-- ---- what is not saved

-- a status that no save comes before
abbrev pub IsQuiet : Status → Type 0
IsQuiet Done = ⊥
IsQuiet NotPassed = Unit {0}
IsQuiet Usage = Unit {0}
IsQuiet Refused = Unit {0}
IsQuiet ReadFault = Unit {0}
IsQuiet WriteFault = ⊥
IsQuiet OutOfMemory = ⊥

-- the words are a scan, a compilation, a grading or a search, or ask for a configuration
abbrev pub AreSaving : List (List ℕ) → Type 0
AreSaving words =
    ((files : ScanFiles) × IsScan words files)
    ⊎ ((files : CompileFiles) × IsCompile words files)
    ⊎ ((files : GradeFiles) × IsGrade words files)
    ⊎ ((files : ConfigureFiles) × IsConfigure words files)
    ⊎ ((files : SeekFiles) × IsSeek words files)

-- where the status is Usage, Refused, NotPassed or ReadFault, or the words are none of these, no file is changed, and no save has failed
abbrev pub KeepsFiles : List (List ℕ) → (held held' : Option Held) → (write_faults write_faults' : ℕ) → Answer → Type 0
KeepsFiles words held held' write_faults write_faults' answer =
    IsQuiet answer.status ⊎ (AreSaving words → ⊥) → (held' ≡ held) × (write_faults' ≡ write_faults)
