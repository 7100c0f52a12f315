-- The numbers of words are within their bounds.
use Rattle.std.proofs.Common.{ℕ, List, Option, None, Some}
use Rattle.dft_command_line.specs.Words.{AreFor, AreNumbers, Certify, Command, Compile, Configure, Generate, Grade, HardwareNumbers, HardwareTexts, IsPerhapsWithin, Replay, Scan, Seek}
use Rattle.dft_command_line.specs.Words as words
use Rattle.dft_configuring.specs.Wanted.{IsUpTo, IsWanted}
use Rattle.dft_configuring.specs.Wanted as wanted
use Rattle.dft_top.specs.Outcomes.{IsSized, wanted_of}

up_to : (digits most : ℕ) (text : Option (List ℕ)) (number : Option ℕ) → IsPerhapsWithin digits most text number → IsUpTo most number
up_to digits most None None is = tt
up_to digits most (Some text) (Some number) is = (is.low, is.high)
up_to digits most (Some text) None is = absurd is
up_to digits most None (Some number) is = absurd is

one_of : (chains longest : Option ℕ) → words.IsOne chains longest → wanted.IsOne chains longest
one_of None None is = is
one_of (Some chains) None is = tt
one_of None (Some longest) is = tt
one_of (Some chains) (Some longest) is = is

within : (texts : HardwareTexts) (numbers : HardwareNumbers) → AreNumbers texts numbers → IsWanted (wanted_of numbers)
within texts numbers are = record {
  one = one_of numbers.chains numbers.longest are.one;
  chains = up_to 4 1024 texts.chains numbers.chains are.chains;
  cells = up_to 5 65536 texts.longest numbers.longest are.longest;
  channels = (are.channels.low, are.channels.high);
  outputs = up_to 2 32 texts.outputs numbers.outputs are.outputs;
  masks = up_to 2 32 texts.masks numbers.masks are.masks;
}

-- so are those of a command
pub sized_for : (words : List (List ℕ)) (command : Option Command) → AreFor words command → IsSized command
sized_for words None are = tt
sized_for words (Some (Replay files)) are = tt
sized_for words (Some (Scan files)) are = tt
sized_for words (Some (Compile files)) are = tt
sized_for words (Some (Certify files)) are = tt
sized_for words (Some (Generate numbers)) are = record { low = are.least; high = are.most }
sized_for words (Some (Grade files)) are = tt
sized_for words (Some (Configure files)) are = within are.texts files.numbers are.numbers
sized_for words (Some (Seek files)) are = are.most
