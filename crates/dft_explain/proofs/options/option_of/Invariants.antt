use Rattle.std.proofs.Common.{◌≡◌, drop}
use Rattle.std.specs.Prelude.{map, string_bytes}
use Rattle.dft_explain.specs.Options as spec
use Rattle.dft_explain.proofs.options.option_of.Given as goal

-- the options that are left decide
abbrev pub invariant-loop-option : goal.invariant-loop-option
invariant-loop-option l =
    spec.option_of l.file (map string_bytes l.words) (map (λ option. option.now) (drop l.option-index l.options))
    ≡ spec.option_of l.file (map string_bytes l.words) (map (λ option. option.now) l.options)
