-- The cells so far, and those of the rest.
use Rattle.std.proofs.Common.{◌≡◌, ◌++◌, drop, Ok}
use Rattle.dft_library_text.specs.Refusals.{after}
use Rattle.dft_library_text.specs.Reading.{cells_among}
use Rattle.dft_library_text.proofs.scans.cells_of.Given as goal

abbrev pub invariant-loop-draft : goal.invariant-loop-draft
invariant-loop-draft l = cells_among l.drafts l.drafts ≡ after (cells_among l.drafts (drop l.draft-index l.drafts)) (λ rest. Ok (l.cells.items ++ rest))
