-- The drafts so far, and those of the rest.
use Rattle.std.proofs.Common.{◌≡◌, ◌++◌, Ok}
use Rattle.toml.specs.View.{members_view}
use Rattle.dft_library_text.specs.Refusals.{after}
use Rattle.dft_library_text.specs.Reading.{drafts_of}
use Rattle.dft_library_text.proofs.reader.drafts_of.Given as goal

abbrev pub invariant-loop-name : goal.invariant-loop-name
invariant-loop-name l = drafts_of (members_view l.cells.entries) ≡ after (drafts_of (members_view l.name-iterator)) (λ rest. Ok (l.drafts.items ++ rest))
