-- The bits so far, and the rest at their places.
use Rattle.std.proofs.Common.{◌≡◌, ◌+◌, ◌*◌, ◌^◌, ◌<◌, drop, option_map}
use Rattle.dft_library_text.specs.Drafts.{number_of_rows}
use Rattle.dft_library_text.proofs.draft.number_of_rows.Given as goal

abbrev pub invariant-loop-place : goal.invariant-loop-place
invariant-loop-place l = record {
  number : number_of_rows l.rows ≡ option_map (λ n. l.number + 2 ^ l.place * n) (number_of_rows (drop l.place l.rows));
  small : l.number < 2 ^ l.place;
}
