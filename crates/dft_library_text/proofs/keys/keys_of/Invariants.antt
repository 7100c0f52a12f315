-- The keys so far are those of the first keys of pins.
use Rattle.std.proofs.Common.{◌≡◌, map, take}
use Rattle.dft_library_text.specs.Keys.{text_of}
use Rattle.dft_library_text.proofs.keys.keys_of.Given as goal

abbrev pub invariant-loop-key : goal.invariant-loop-key
invariant-loop-key l = map (λ key. key.now) l.keys.items ≡ map text_of (take l.key-index l.key-items)
