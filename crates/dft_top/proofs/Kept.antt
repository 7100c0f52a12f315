-- Where there is nothing to save, no file is changed.
use Rattle.std.proofs.Common.{ℕ, ◌≡◌, ◌⊎◌, ◌∙◌, inl, inr, List, [], ◌∷◌, ◌++◌, refl, sym, subst, Option, Some}
use Rattle.dft_files.specs.Outside.{Held}
use Rattle.dft_command_line.specs.Words.{Command, Scan, Compile, Grade, Configure, Seek, AreFor}
use Rattle.dft_answers.specs.declared.answer.Answer.{Answer}
use Rattle.dft_answers.specs.declared.outcome.Outcome.{Outcome}
use Rattle.dft_answers.specs.declared.outcome.Outcome.TheVariants.{Finished}
use Rattle.dft_answers.specs.declared.outcome.Work.TheVariants.{Scanned, Compiled, Graded, Configured, Sought}
use Rattle.dft_answers.specs.Answers.{status_of}
use Rattle.dft_top.specs.Run.{AreSaving, EndsFor, IsDelivered, IsQuiet, KeepsFiles, Seen}
use Rattle.dft_top.specs.Saves.{CountsSaves, HaveSaved, Saving, savings}

-- ---- nothing to save

pub no_failing : (saved rest : List Saving) (failing : Saving) → [] ≡ saved ++ failing ∷ rest → ⊥
no_failing [] rest failing e = cc
no_failing (s ∷ saved) rest failing e = cc

some_of_none : (saved rest : List Saving) (held held' : Option Held) → [] ≡ saved ++ rest → HaveSaved saved held held' → held' ≡ held
some_of_none [] rest held held' e have = have
some_of_none (s ∷ saved) rest held held' e have = absurd cc

have_none : (all : List Saving) (held held' : Option Held) → all ≡ [] → HaveSaved all held held' → held' ≡ held
have_none all held held' none have = subst (λ (all : List Saving). HaveSaved all held held') none have

held_kept : (command : Option Command) (o : Outcome) (before after : Seen) (answer : Answer) → savings command o ≡ [] → IsDelivered command o before after answer → after.held ≡ before.held
held_kept command o before after answer none (inl x) = have_none (savings command o) before.held after.held none x.saved
held_kept command o before after answer none (inr (inl x)) = absurd (no_failing x.failed.saved x.failed.rest x.failed.failing (sym none ∙ x.failed.in_order))
held_kept command o before after answer none (inr (inr (inl x))) = have_none (savings command o) before.held after.held none x.saved
held_kept command o before after answer none (inr (inr (inr x))) = some_of_none x.saved.saved x.saved.rest before.held after.held (sym none ∙ x.saved.in_order) x.saved.files

-- ---- when there is nothing to save

quiet_saves : (command : Option Command) (o : Outcome) → IsQuiet (status_of o) → savings command o ≡ []
quiet_saves (Some (Scan files)) (Finished (Scanned counts netlist report)) quiet = absurd quiet
quiet_saves (Some (Compile files)) (Finished (Compiled counts netlist patterns report)) quiet = absurd quiet
quiet_saves (Some (Grade files)) (Finished (Graded faults detected undetected report)) quiet = absurd quiet
quiet_saves (Some (Configure files)) (Finished (Configured counts text)) quiet = absurd quiet
quiet_saves (Some (Seek files)) (Finished (Sought counts cubes report)) quiet = absurd quiet
quiet_saves command o quiet = refl

quiet_of : (a b : Answer) → a ≡ b → IsQuiet a.status → IsQuiet b.status
quiet_of a b same quiet = subst (λ (c : Answer). IsQuiet c.status) same quiet

-- an outcome whose answer is quiet saves nothing
quiet_delivers : (command : Option Command) (o : Outcome) (before after : Seen) (answer : Answer) → IsDelivered command o before after answer → IsQuiet answer.status → savings command o ≡ []
quiet_delivers command o before after answer (inl x) quiet = quiet_saves command o (quiet_of answer _ x.answers quiet)
quiet_delivers command o before after answer (inr (inl x)) quiet = absurd (quiet_of answer _ x.answers quiet)
quiet_delivers command o before after answer (inr (inr (inl x))) quiet = absurd (quiet_of answer _ x.answers quiet)
quiet_delivers command o before after answer (inr (inr (inr x))) quiet = absurd (quiet_of answer _ x.answers quiet)

other_saves : (words : List (List ℕ)) (command : Option Command) (o : Outcome) → AreFor words command → (AreSaving words → ⊥) → savings command o ≡ []
other_saves words (Some (Scan files)) o are none = absurd (none (inl (files, are)))
other_saves words (Some (Compile files)) o are none = absurd (none (inr (inl (files, are))))
other_saves words (Some (Grade files)) o are none = absurd (none (inr (inr (inl (files, are)))))
other_saves words (Some (Configure files)) o are none = absurd (none (inr (inr (inr (inl (files, are))))))
other_saves words (Some (Seek files)) o are none = absurd (none (inr (inr (inr (inr (files, are))))))
other_saves words command o are none = refl

saves_none : (words : List (List ℕ)) (command : Option Command) (o : Outcome) (before after : Seen) (answer : Answer) → AreFor words command → IsDelivered command o before after answer →
    IsQuiet answer.status ⊎ (AreSaving words → ⊥) → savings command o ≡ []
saves_none words command o before after answer are delivered (inl quiet) = quiet_delivers command o before after answer delivered quiet
saves_none words command o before after answer are delivered (inr none) = other_saves words command o are none

-- ---- of words that are for a command

pub kept_for : (words : List (List ℕ)) (command : Option Command) (before after : Seen) (answer : Answer) → AreFor words command → EndsFor command before after answer → KeepsFiles words before.held after.held before.write_faults after.write_faults answer
kept_for words command before after answer are (inl x) given =
    let none = saves_none words command x.o before after answer are x.delivered given in
    (held_kept command x.o before after answer none x.delivered, subst (λ (all : List Saving). CountsSaves all before.write_faults after.write_faults) none x.counts)
kept_for words command before after answer are (inr (inl x)) given = (x.untouched.held, x.untouched.write_faults)
kept_for words command before after answer are (inr (inr x)) given = (x.0.held, x.0.write_faults)
