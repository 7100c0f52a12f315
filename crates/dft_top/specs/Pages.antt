-- What a person is told of a run: the page of how it ended.
use Rattle.std.specs.Prelude.{ℕ, ◌≡◌, ◌-◌, ◌⊎◌, Bool, true, false, List, [], Option, None, Some, is_some, option_map}
use Rattle.dft_base.specs.declared.place.Place.{Place}
use Rattle.dft_answers.specs.declared.answer.Answer.{Answer}
use Rattle.dft_answers.specs.declared.answer.Refusal.{Refusal}
use Rattle.dft_answers.specs.declared.answer.Status.{Status}
use Rattle.dft_answers.specs.declared.answer.Status.TheVariants.{Done, NotPassed, Usage, Refused, ReadFault, WriteFault, OutOfMemory}
use Rattle.dft_answers.specs.declared.answer.Unpassed.{Unpassed}
use Rattle.dft_answers.specs.Lines.{code_text}
use Rattle.dft_explain.specs.declared.ending.Ending.{Ending}
use Rattle.dft_explain.specs.declared.ending.Ending.TheVariants as ending
use Rattle.dft_explain.specs.declared.ending.Refusal.{Refusal as ToldRefusal}
use Rattle.dft_explain.specs.declared.sentences.Said.{Said}
use Rattle.dft_explain.specs.Explained.{explained, name_of, page_of}
use Rattle.dft_explain.specs.FaultLines.{fault_lines}
use Rattle.dft_explain.specs.Rows.{row_of}
use Rattle.dft_explain.specs.Texts.{behind_lines, first_line}

-- ---- what is told beside an answer

-- the name in the last load or save that failed, whether a put has failed, the host's reason, and the text that a refusal speaks of, loaded anew
pub record Beside : Type 0 where
  pub failed : List ℕ
  pub is_put : Bool
  pub reason : List ℕ
  pub text : Option (List ℕ)

abbrev pub beside : (failed : List ℕ) → (is_put : Bool) → (reason : List ℕ) → (text : Option (List ℕ)) → Beside
beside failed is_put reason text = record { failed = failed; is_put = is_put; reason = reason; text = text }

-- ---- patterns that do not pass

-- the vector and the signal of the bit, and whether it is the opposite
abbrev pub IsBit : Unpassed → Ending → Type 0
IsBit u (ending.Mismatch vector signal) = (u.is_opposite ≡ true) × (vector ≡ u.vector) × (signal.now ≡ u.signal)
IsBit u (ending.Undetermined vector signal) = (u.is_opposite ≡ false) × (vector ≡ u.vector) × (signal.now ≡ u.signal)
IsBit u e = ⊥

abbrev pub IsEndingOfBit : Option Unpassed → Ending → Type 0
IsEndingOfBit None e = ⊥
IsEndingOfBit (Some u) e = IsBit u e

-- ---- a refusal

-- the row is one of this code, or says nothing
abbrev pub IsRow : (code : List ℕ) → Said → Type 0
IsRow code said = (said.code.now ≡ code) ⊎ ((said.sentence.now ≡ []) × (said.advice.now ≡ []))

-- the line of a place in a text, where both are there
abbrev pub line_in : (text : Option (List ℕ)) → Option Place → Option (List ℕ)
line_in (Some text) (Some place) = option_map first_line (behind_lines (place.line - 1) text)
line_in (Some text) None = None
line_in None place = None

-- The refusal in words: its code and its parts, the sentence and the advice of a row of its code, and the line of its place in the text.
pub record IsInWords (refusal : Refusal) (text : Option (List ℕ)) (told : ToldRefusal) : Type 0 where
  pub code : told.code.now ≡ code_text refusal.code
  pub place : told.place ≡ refusal.place
  pub name : name_of told ≡ refusal.name
  pub first : told.first ≡ refusal.first
  pub second : told.second ≡ refusal.second
  pub row : Said
  pub is_row : IsRow (row_of (code_text refusal.code) refusal.name) row
  pub sentence : told.sentence.now ≡ row.sentence.now
  pub advice : told.advice.now ≡ row.advice.now
  pub line : option_map (λ l. l.now) told.line ≡ line_in text refusal.place

abbrev pub IsRefused : Refusal → (text : Option (List ℕ)) → Ending → Type 0
IsRefused refusal text (ending.Refused told) = IsInWords refusal text told
IsRefused refusal text e = ⊥

abbrev pub IsEndingOfRefusal : Option Refusal → (text : Option (List ℕ)) → Ending → Type 0
IsEndingOfRefusal None text e = ⊥
IsEndingOfRefusal (Some refusal) text e = IsRefused refusal text e

-- ---- calls of the outside that failed

-- a load of this name failed
abbrev pub IsNotLoaded : (failed reason : List ℕ) → Ending → Type 0
IsNotLoaded failed reason (ending.NotLoaded file why) = (file.now ≡ failed) × (why.now ≡ reason)
IsNotLoaded failed reason e = ⊥

-- a save of this name failed, or the put of the line
abbrev pub IsNotWritten : (failed : List ℕ) → (is_put : Bool) → (reason : List ℕ) → Ending → Type 0
IsNotWritten failed is_put reason (ending.NotSaved file why) = (is_put ≡ false) × (file.now ≡ failed) × (why.now ≡ reason)
IsNotWritten failed is_put reason (ending.NotPrinted why) = (is_put ≡ true) × (why.now ≡ reason)
IsNotWritten failed is_put reason e = ⊥

-- ---- how a run ended

-- the ending of a run that answers so; what is told of words that are no command is none of these
abbrev pub IsEndingBy : Status → Answer → Beside → Ending → Type 0
IsEndingBy Done answer beside e = e ≡ ending.Done
IsEndingBy NotPassed answer beside e = IsEndingOfBit answer.unpassed e
IsEndingBy Usage answer beside e = Unit {0}
IsEndingBy Refused answer beside e = IsEndingOfRefusal answer.refusal beside.text e
IsEndingBy ReadFault answer beside e = IsNotLoaded beside.failed beside.reason e
IsEndingBy WriteFault answer beside e = IsNotWritten beside.failed beside.is_put beside.reason e
IsEndingBy OutOfMemory answer beside e = e ≡ ending.OutOfMemory

abbrev pub IsEnding : Answer → Beside → Ending → Type 0
IsEnding answer beside e = IsEndingBy answer.status answer beside e

-- nothing may be told of a run that is done, and what is told of words that are no command is none of these endings
abbrev pub MaySayNothing : Status → Type 0
MaySayNothing Done = Unit {0}
MaySayNothing NotPassed = ⊥
MaySayNothing Usage = Unit {0}
MaySayNothing Refused = ⊥
MaySayNothing ReadFault = ⊥
MaySayNothing WriteFault = ⊥
MaySayNothing OutOfMemory = ⊥

-- there is a refusal where the status is Refused, and a bit where it is NotPassed
abbrev pub HasParts : Status → (refused unpassed : Bool) → Type 0
HasParts Done refused unpassed = Unit {0}
HasParts NotPassed refused unpassed = unpassed ≡ true
HasParts Usage refused unpassed = Unit {0}
HasParts Refused refused unpassed = refused ≡ true
HasParts ReadFault refused unpassed = Unit {0}
HasParts WriteFault refused unpassed = Unit {0}
HasParts OutOfMemory refused unpassed = Unit {0}

abbrev pub IsWhole : Answer → Type 0
IsWhole answer = HasParts answer.status (is_some answer.refusal) (is_some answer.unpassed)

-- ---- the page

-- The page is that of how the run ended; the reason and the text are the host's.
pub record IsExplained (words : List (List ℕ)) (answer : Answer) (failed : List ℕ) (is_put : Bool) (page : List ℕ) : Type 0 where
  pub reason : List ℕ
  pub text : Option (List ℕ)
  pub end : Ending
  pub is : IsEnding answer (beside failed is_put reason text) end
  pub says : page ≡ page_of (explained words end)

abbrev pub IsPageBy : Status → (words : List (List ℕ)) → Answer → (failed : List ℕ) → (is_put : Bool) → (page : List ℕ) → Type 0
IsPageBy Done words answer failed is_put page = IsExplained words answer failed is_put page
IsPageBy NotPassed words answer failed is_put page = IsExplained words answer failed is_put page
IsPageBy Usage words answer failed is_put page = page ≡ page_of (fault_lines words)
IsPageBy Refused words answer failed is_put page = IsExplained words answer failed is_put page
IsPageBy ReadFault words answer failed is_put page = IsExplained words answer failed is_put page
IsPageBy WriteFault words answer failed is_put page = IsExplained words answer failed is_put page
IsPageBy OutOfMemory words answer failed is_put page = IsExplained words answer failed is_put page

-- what a person is told of a run of these words: of words that are no command their fault, and of all others how the run ended
abbrev pub IsPageOf : (words : List (List ℕ)) → Answer → (failed : List ℕ) → (is_put : Bool) → (page : List ℕ) → Type 0
IsPageOf words answer failed is_put page = IsPageBy answer.status words answer failed is_put page
