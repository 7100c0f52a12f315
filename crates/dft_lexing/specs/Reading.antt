-- What a function that reads a part of a text ensures. The tokens and the faults are each reader's own.
use Rattle.std.specs.Prelude.{◌≡◌, List, Result, Ok, Err}
use Rattle.dft_base.specs.Parser.{Checked, Outcome}
use Rattle.dft_lexing.specs.declared.read_error.ReadError.{ReadError}
use Rattle.dft_lexing.specs.declared.read_error.ReadError.TheVariants as errors

-- the outcome of the rule, seen by view, with the tokens that are left, or its fault; nothing where memory runs out
abbrev pub Reads : {Token Fault X Y : Type 0} → (X → Y) → Outcome Token Fault Y → Result X (ReadError Fault) → List Token → Type 0
Reads view outcome (Ok x) new = outcome ≡ Ok (view x, new)
Reads view outcome (Err (errors.Fault fault)) new = outcome ≡ Err fault
Reads view outcome (Err (errors.Memory error)) new = Unit {0}

-- the outcome of the check, seen by view; nothing where memory runs out
abbrev pub Checks : {Fault X Y : Type 0} → (X → Y) → Checked Fault Y → Result X (ReadError Fault) → Type 0
Checks view outcome (Ok x) = outcome ≡ Ok (view x)
Checks view outcome (Err (errors.Fault fault)) = outcome ≡ Err fault
Checks view outcome (Err (errors.Memory error)) = Unit {0}

-- this fault, unless memory runs out
abbrev pub Faults : {Fault : Type 0} → Fault → ReadError Fault → Type 0
Faults wanted (errors.Fault fault) = fault ≡ wanted
Faults wanted (errors.Memory error) = Unit {0}
