-- How the run of a command ends that followed its course.
use Rattle.std.proofs.Common.{ℕ, ◌≡◌, ◌⊎◌, inl, inr, List, [], Option, None, Some, refl, subst}
use Rattle.dft_files.specs.Outside.{Held, Rose, Told}
use Rattle.dft_command_line.specs.Words.{Command, Replay, Scan, Compile, Certify, Generate, Grade, Configure, Seek}
use Rattle.dft_answers.specs.declared.answer.Answer.{Answer}
use Rattle.dft_answers.specs.declared.answer.Status.TheVariants.{OutOfMemory}
use Rattle.dft_answers.specs.declared.outcome.Outcome.{Outcome}
use Rattle.dft_answers.specs.Answers.{stopped}
use Rattle.dft_top.specs.Courses.{Allows, Reaches}
use Rattle.dft_top.specs.Outcomes.{IsOutcomeFor, course_of}
use Rattle.dft_top.specs.Run.{EndsFor, IsDelivered, Seen, ToldFor, seen}
use Rattle.dft_top.specs.Saves.{CountsSaves, HaveSaved, SaveFailed, Saving, savings}
use Rattle.dft_top.proofs.Suited.{suits_of}

-- of a command that loads no files, what its course allows is its outcome whatever is held
told_for : (command : Option Command) (held : Option Held) (o : Outcome) → Allows (course_of command) o → Told (λ h. Reaches (course_of command) h o) held → ToldFor command (λ h. IsOutcomeFor command h o) held
told_for None held o allowed told = λ h. allowed
told_for (Some (Replay files)) held o allowed told = told
told_for (Some (Scan files)) held o allowed told = told
told_for (Some (Compile files)) held o allowed told = told
told_for (Some (Certify files)) held o allowed told = told
told_for (Some (Generate numbers)) held o allowed told = λ h. allowed
told_for (Some (Grade files)) held o allowed told = told
told_for (Some (Configure files)) held o allowed told = told
told_for (Some (Seek files)) held o allowed told = told

late_so : (saved : List Saving) (short short' now : ℕ) (P : Type 0) → short' ≡ short → (saved ≡ []) ⊎ Rose short' now ⊎ P → (saved ≡ []) ⊎ Rose short now ⊎ P
late_so saved short short' now P same (inl x) = inl x
late_so saved short short' now P same (inr (inl x)) = inr (inl (subst (λ (k : ℕ). Rose k now) same x))
late_so saved short short' now P same (inr (inr x)) = inr (inr x)

-- what is delivered over the files as they are, is delivered over those at first, where neither they nor the counts of failed and of short saves have changed
delivered_so : (command : Option Command) (o : Outcome) (held held' : Option Held) (failed failed' : List ℕ) (reads reads' writes writes' short short' : ℕ) (printed : Option (List ℕ)) (puts nos : ℕ) (after : Seen) (answer : Answer) →
    held' ≡ held → writes' ≡ writes → short' ≡ short → IsDelivered command o (seen held' failed' reads' writes' short' printed puts nos) after answer → IsDelivered command o (seen held failed reads writes short printed puts nos) after answer
delivered_so command o held held' failed failed' reads reads' writes writes' short short' printed puts nos after answer same kept enough (inl x) =
    inl (record { saved = subst (λ (h : Option Held). HaveSaved (savings command o) h after.held) same x.saved; printed = x.printed; answers = x.answers })
delivered_so command o held held' failed failed' reads reads' writes writes' short short' printed puts nos after answer same kept enough (inr (inl x)) =
    inr (inl (record {
      failed = subst (λ (k : ℕ). SaveFailed (savings command o) held after.held after.failed k after.write_faults) kept
          (subst (λ (h : Option Held). SaveFailed (savings command o) h after.held after.failed writes' after.write_faults) same x.failed);
      printed = x.printed;
      put_faults = x.put_faults;
      answers = x.answers;
    }))
delivered_so command o held held' failed failed' reads reads' writes writes' short short' printed puts nos after answer same kept enough (inr (inr (inl x))) =
    inr (inr (inl (record { rose = x.rose; saved = subst (λ (h : Option Held). HaveSaved (savings command o) h after.held) same x.saved; printed = x.printed; answers = x.answers })))
delivered_so command o held held' failed failed' reads reads' writes writes' short short' printed puts nos after answer same kept enough (inr (inr (inr x))) =
    inr (inr (inr (record {
      saved = record {
        saved = x.saved.saved;
        rest = x.saved.rest;
        in_order = x.saved.in_order;
        files = subst (λ (h : Option Held). HaveSaved x.saved.saved h after.held) same x.saved.files;
      };
      late = late_so x.saved.saved short short' after.short_saves (Rose nos after.short_puts) enough x.late;
      printed = x.printed;
      answers = x.answers;
    })))

-- an outcome that its course allows, and that it reaches where files are told, was delivered
pub outcome_ends : (command : Option Command) (o : Outcome) (held held' : Option Held) (failed failed' : List ℕ) (reads reads' writes writes' short short' : ℕ) (printed : Option (List ℕ)) (puts nos : ℕ) (after : Seen) (answer : Answer) →
    Allows (course_of command) o → Told (λ h. Reaches (course_of command) h o) held → held' ≡ held → writes' ≡ writes → short' ≡ short →
    IsDelivered command o (seen held' failed' reads' writes' short' printed puts nos) after answer → CountsSaves (savings command o) writes' after.write_faults → EndsFor command (seen held failed reads writes short printed puts nos) after answer
outcome_ends command o held held' failed failed' reads reads' writes writes' short short' printed puts nos after answer allowed told same kept enough delivered counts =
    inl (record {
      o = o;
      told = record { allowed = allowed; suits = suits_of command o allowed; told = told_for command held o allowed told };
      counts = subst (λ (k : ℕ). CountsSaves (savings command o) k after.write_faults) kept counts;
      delivered = delivered_so command o held held' failed failed' reads reads' writes writes' short short' printed puts nos after answer same kept enough delivered;
    })

-- where memory runs out in the line, nothing was saved
pub no_line : (command : Option Command) (o : Outcome) (still : Seen) (answer : Answer) → answer ≡ stopped OutOfMemory → IsDelivered command o still still answer
no_line command o still answer is =
    inr (inr (inr (record { saved = record { saved = []; rest = savings command o; in_order = refl; files = refl }; late = inl refl; printed = refl; answers = is })))
