-- The pins so far are those of the first entries.
use Rattle.std.proofs.Common.{◌≡◌, map, take}
use Rattle.dft_cells.specs.Standard.{pin}
use Rattle.dft_cells.proofs.standard.pins_of.Given as goal

abbrev pub invariant-loop-name : goal.invariant-loop-name
invariant-loop-name l = l.pins ≡ map (λ p. pin p.0.now p.1) (take l.name-index l.entries)
