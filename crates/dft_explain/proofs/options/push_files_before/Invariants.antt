use Rattle.std.proofs.Common.{◌≡◌, ◌++◌, drop}
use Rattle.std.specs.Prelude.{map, string_bytes}
use Rattle.dft_explain.specs.Options as spec
use Rattle.dft_explain.proofs.options.push_files_before.Given as goal

-- the pieces so far, and those of the options that are left
abbrev pub invariant-loop-option : goal.invariant-loop-option
invariant-loop-option l =
    map (λ piece. piece.now) l.pieces.items ++ spec.files_before l.file (map string_bytes l.words) (map (λ option. option.now) (drop l.option-index l.options))
    ≡ map (λ piece. piece.now) l.fn.pieces.items ++ spec.files_before l.file (map string_bytes l.words) (map (λ option. option.now) l.options)
