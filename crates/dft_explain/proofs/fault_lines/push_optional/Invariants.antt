use Rattle.std.proofs.Common.{◌≡◌, ◌++◌, drop}
use Rattle.std.specs.Prelude.{flat_map, map}
use Rattle.dft_explain.specs.FaultLines as spec
use Rattle.dft_explain.proofs.fault_lines.push_optional.Given as goal

-- the pieces so far, and those of the options that are left
abbrev pub invariant-loop-option : goal.invariant-loop-option
invariant-loop-option l =
    map (λ piece. piece.now) l.pieces.items ++ flat_map spec.optional_pieces (map (λ option. option.now) (drop l.option-index l.options))
    ≡ map (λ piece. piece.now) l.fn.pieces.items ++ flat_map spec.optional_pieces (map (λ option. option.now) l.options)
