-- The pins so far are the ones before and those of the first names.
use Rattle.std.proofs.Common.{◌≡◌, ◌++◌, map, take}
use Rattle.dft_library_text.specs.Drafts.{pin_with}
use Rattle.dft_library_text.proofs.draft.add_pins.Given as goal

abbrev pub invariant-loop-name : goal.invariant-loop-name
invariant-loop-name l = l.pins ≡ l.initial.pins ++ map (pin_with l.role) (take l.name-index l.names)
