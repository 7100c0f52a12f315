-- Words and directives have bytes of which names are made.
use Rattle.std.proofs.Common.{◌≡◌, ℕ, ◌<◌, ◌≤◌, [], ◌∷◌, length, take, true, length-take, arith}
use Rattle.std.specs.Prelude.{slice_index}
use Rattle.std.specs.List.{All, prefix_len}
use Rattle.std.proofs.lemmas.Bool.Decides.{nat_tests}
use Rattle.std.proofs.lemmas.List.Sums.{prefix_len_passes, prefix_len-le-length}
use Rattle.dft_base.specs.Lexing.{Text}
use Rattle.dft_base.specs.Name.{IsName}
use Rattle.dft_base.specs.Words.{begins_word, continues_word}
use Rattle.dft_base.proofs.TextLemmas.{begins_goes_on, IsPrinted, printed}
use Rattle.dft_lexing.proofs.PrintedLemmas.{run_each, runs_on}
use Rattle.dft_netlist_text.specs.Lexemes.{is_printed, is_in_digits, word_len}

continues_printed : (b : ℕ) → continues_word b ≡ true → IsPrinted b
continues_printed b e = grind (arith, nat_tests)

-- bytes that are all printed
pub all_printed : (bytes : Text) → length bytes ≤ prefix_len is_printed bytes → All (λ b. (33 ≤ b) × (b ≤ 126)) bytes
all_printed bytes full = λ k d below. printed _ (prefix_len_passes is_printed bytes k d (omega arith))

-- a text that begins a word has a word in front
pub word_len_moves : (text : Text) → 0 < length text → begins_word (slice_index text 0) ≡ true → 0 < word_len text
word_len_moves [] some begins = absurd (omega arith)
word_len_moves (b ∷ text) some begins = runs_on (continues_word b) (word_len text) (begins_goes_on b begins)

pub word_is_name : (text : Text) → 0 < length text → begins_word (slice_index text 0) ≡ true → IsName (take (word_len text) text)
word_is_name text some begins =
    let moves : 0 < word_len text = word_len_moves text some begins in
    record {
      some = omega (arith, length-take (word_len text) text);
      each = run_each continues_word continues_printed text (word_len text) (omega arith);
    }

digits_printed : (b : ℕ) → is_in_digits b ≡ true → IsPrinted b
digits_printed b e = grind (arith, nat_tests)

-- a text that begins with a digit has digits in front
pub digits_move : (text : Text) → 0 < length text → is_in_digits (slice_index text 0) ≡ true → 0 < prefix_len is_in_digits text
digits_move [] some begins = absurd (omega arith)
digits_move (b ∷ text) some begins = runs_on (is_in_digits b) (prefix_len is_in_digits text) begins

pub digits_are_name : (text : Text) → 0 < length text → is_in_digits (slice_index text 0) ≡ true → IsName (take (prefix_len is_in_digits text) text)
digits_are_name text some begins =
    let moves : 0 < prefix_len is_in_digits text = digits_move text some begins in
    record {
      some = omega (arith, length-take (prefix_len is_in_digits text) text, prefix_len-le-length is_in_digits text);
      each = run_each is_in_digits digits_printed text (prefix_len is_in_digits text) (omega arith);
    }

pub ruleset printed_bytes = (all_printed)

pub ruleset words_are_names = (word_len_moves, word_is_name)

pub ruleset digits_are_names = (digits_move, digits_are_name)
