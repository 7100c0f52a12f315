-- The inputs so far, and those of the rest.
use Rattle.std.proofs.Common.{◌≡◌, ◌+◌, ◌≤◌, drop}
use Rattle.dft_library_text.specs.Drafts.{input_count}
use Rattle.dft_library_text.proofs.draft.input_count.Given as goal

abbrev pub invariant-loop-pin : goal.invariant-loop-pin
invariant-loop-pin l = record {
  within : l.count ≤ l.pin-index;
  count : input_count l.pins ≡ l.count + input_count (drop l.pin-index l.pins);
}
