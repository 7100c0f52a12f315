-- The answer of an outcome.
use Rattle.std.specs.Prelude.{ℕ, Bool, true, false, List, Option, None, Some}
use Rattle.dft_answers.specs.declared.answer.Status.{Status}
use Rattle.dft_answers.specs.declared.answer.Status.TheVariants.{Done, NotPassed, Usage, Refused}
use Rattle.dft_answers.specs.declared.answer.Answer.{Answer}
use Rattle.dft_answers.specs.declared.answer.Refusal.{Refusal}
use Rattle.dft_answers.specs.declared.answer.Unpassed.{Unpassed}
use Rattle.dft_answers.specs.declared.outcome.Outcome.{Outcome}
use Rattle.dft_answers.specs.declared.outcome.Outcome.TheVariants as outcome
use Rattle.dft_answers.specs.declared.outcome.Replayed.{Replayed}
use Rattle.dft_answers.specs.declared.outcome.Replayed.TheVariants as replayed
use Rattle.dft_answers.specs.declared.outcome.Work.{Work}
use Rattle.dft_answers.specs.declared.outcome.Work.TheVariants as work

-- a replay is done where the patterns pass
abbrev pub replayed_status : Replayed → Status
replayed_status (replayed.Passed vectors compared) = Done
replayed_status (replayed.Mismatch vector signal) = NotPassed
replayed_status (replayed.Undetermined vector signal) = NotPassed

-- a replay may not pass, that of a generated job too; all else that is finished is done
abbrev pub work_status : Work → Status
work_status (work.Replayed replay) = replayed_status replay
work_status (work.Scanned counts netlist report) = Done
work_status (work.Compiled counts netlist patterns report) = Done
work_status (work.Certified unsolvable) = Done
work_status (work.Generated counts replay) = replayed_status replay
work_status (work.Graded faults detected undetected report) = Done
work_status (work.Configured counts text) = Done
work_status (work.Sought counts cubes report) = Done

abbrev pub status_of : Outcome → Status
status_of outcome.Usage = Usage
status_of (outcome.Refused refusal) = Refused
status_of (outcome.Finished work) = work_status work

abbrev pub refusal_of : Outcome → Option Refusal
refusal_of outcome.Usage = None
refusal_of (outcome.Refused refusal) = Some refusal
refusal_of (outcome.Finished work) = None

-- the bit of a replay that does not pass
abbrev pub unpassed : (vector : ℕ) → (signal : List ℕ) → (is_opposite : Bool) → Unpassed
unpassed vector signal is_opposite = record { vector = vector; signal = signal; is_opposite = is_opposite }

abbrev pub replayed_unpassed : Replayed → Option Unpassed
replayed_unpassed (replayed.Passed vectors compared) = None
replayed_unpassed (replayed.Mismatch vector signal) = Some (unpassed vector signal true)
replayed_unpassed (replayed.Undetermined vector signal) = Some (unpassed vector signal false)

abbrev pub work_unpassed : Work → Option Unpassed
work_unpassed (work.Replayed replay) = replayed_unpassed replay
work_unpassed (work.Scanned counts netlist report) = None
work_unpassed (work.Compiled counts netlist patterns report) = None
work_unpassed (work.Certified unsolvable) = None
work_unpassed (work.Generated counts replay) = replayed_unpassed replay
work_unpassed (work.Graded faults detected undetected report) = None
work_unpassed (work.Configured counts text) = None
work_unpassed (work.Sought counts cubes report) = None

abbrev pub unpassed_of : Outcome → Option Unpassed
unpassed_of outcome.Usage = None
unpassed_of (outcome.Refused refusal) = None
unpassed_of (outcome.Finished work) = work_unpassed work

-- the answer of an outcome
abbrev pub answer_of : Outcome → Answer
answer_of o = record { status = status_of o; refusal = refusal_of o; unpassed = unpassed_of o }

-- the answer of a replay
abbrev pub answer_of_replay : Replayed → Answer
answer_of_replay replay = record { status = replayed_status replay; refusal = None; unpassed = replayed_unpassed replay }

abbrev pub failed : (vector : ℕ) → (signal : List ℕ) → (is_opposite : Bool) → Answer
failed vector signal is_opposite = record { status = NotPassed; refusal = None; unpassed = Some (unpassed vector signal is_opposite) }

-- an answer that stands for no outcome
abbrev pub stopped : Status → Answer
stopped status = record { status = status; refusal = None; unpassed = None }
