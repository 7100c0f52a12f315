-- What a function that reads a part of a pattern text ensures.
pub use Rattle.dft_lexing.specs.Reading.{Reads, Checks, Faults}
use Rattle.dft_lexing.specs.declared.read_error.ReadError as lexing
use Rattle.dft_stil_tokens.specs.declared.text.Fault.{Fault}

-- why a pattern text was not read
abbrev pub ReadError : Type 0
ReadError = lexing.ReadError Fault
