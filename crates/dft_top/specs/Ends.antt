-- The exit status of a run, what a person is told of it, and the end of the program.
use Rattle.std.specs.Prelude.{ℕ, ◌≡◌, ◌⊎◌, ◌↔◌, List, [], Option, None, Some, nat_lt}
use Rattle.dft_answers.specs.declared.answer.Answer.{Answer}
use Rattle.dft_answers.specs.declared.answer.Status.{Status}
use Rattle.dft_answers.specs.declared.answer.Status.TheVariants.{Done, NotPassed, Usage, Refused, ReadFault, WriteFault, OutOfMemory}
use Rattle.dft_explain.specs.Asked.{asked_by}
use Rattle.dft_explain.specs.declared.asking.Request.{Request}
use Rattle.dft_top.specs.Pages.{IsPageOf}
use Rattle.dft_top.specs.Run.{CertifiesTold, CompilesTold, CompletesTold, ConfiguresTold, Ends, FailsTold, GeneratesJob, GradesTold, KeepsFiles, PassesTold, ScansTold, Seen, SeeksTold, UngradedTold, seen}

-- the exit status of each status
abbrev pub status_number : Status → ℕ
status_number Done = 0
status_number NotPassed = 1
status_number Usage = 2
status_number Refused = 3
status_number ReadFault = 4
status_number WriteFault = 5
status_number OutOfMemory = 6

-- The exit status is the number of the status that this run of these words answers, and the run promises what every run does.
pub record IsStatusOfRun (words : List (List ℕ)) (before after : Seen) (answer : Answer) (status : ℕ) : Type 0 where
  pub number : status ≡ status_number answer.status
  pub ends : Ends words before after answer
  pub kept : KeepsFiles words before.held after.held before.write_faults after.write_faults answer
  pub passes : PassesTold words before.held answer
  pub fails : FailsTold words before.held answer
  pub scans : ScansTold words before.held after.held answer
  pub compiles : CompilesTold words before.held after.held answer
  pub certifies : CertifiesTold words before.held answer
  pub grades : GradesTold words before.held after.held answer
  pub ungraded : UngradedTold words before.held answer
  pub configures : ConfiguresTold words before.held after.held answer
  pub seeks : SeeksTold words before.held after.held answer
  pub generates : GeneratesJob words before.put_faults after.put_faults answer
  pub completes : CompletesTold words before after answer

-- the files and the output of a host at first: nothing is told of them, and no call was made
abbrev pub host_at_first : Seen
host_at_first = seen None [] 0 0 0 None 0 0

-- the exit status is that of a run of these words over the files and the output of a host
pub record IsStatusOfWords (words : List (List ℕ)) (status : ℕ) : Type 0 where
  pub after : Seen
  pub answer : Answer
  pub run : IsStatusOfRun words host_at_first after answer status

-- The page is that of this run: it says of its words, its answer and the calls that failed what a person is told of them. It is empty exactly where the
-- exit status is 0.
pub record IsToldOf (words : List (List ℕ)) (status : ℕ) (page : List ℕ) : Type 0 where
  pub run : IsStatusOfWords words status
  pub says : IsPageOf words run.answer run.after.failed (nat_lt 0 run.after.put_faults) page
  pub silent : page ≡ [] ↔ status ≡ 0

-- ---- the end of the program

-- words that ask are answered, with 0, or with 5 where the text cannot be printed; all others are run
abbrev pub EndsAs : (asked : Option Request) → (words : List (List ℕ)) → (status : ℕ) → Type 0
EndsAs (Some request) words status = (status ≡ 0) ⊎ (status ≡ 5)
EndsAs None words status = IsStatusOfWords words status

abbrev pub EndsWith : (words : List (List ℕ)) → (status : ℕ) → Type 0
EndsWith words status = EndsAs (asked_by words) words status

-- words of the host cannot be had: memory runs out, or there is another cause
abbrev pub HasNoWords : (status : ℕ) → Type 0
HasNoWords status = (status ≡ 6) ⊎ (status ≡ 7)

-- the program ends as words do, or these cannot be had
abbrev pub EndsProgram : (status : ℕ) → Type 0
EndsProgram status = ((words : List (List ℕ)) × EndsWith words status) ⊎ HasNoWords status
