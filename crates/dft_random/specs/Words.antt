-- The words of a generator.
use Rattle.std.specs.Prelude.{ℕ}
use Rattle.rand_pcg.specs.Lcg.{Lcg, started, increment_of}
use Rattle.rand_pcg.specs.Pcg.{multiplier_64}

-- the generator PCG XSH RR 64/32 with the seed for its state, on the stream of this number
abbrev pub generator : (seed stream : ℕ) → Lcg
generator seed stream = started 64 multiplier_64 seed (increment_of 64 stream)
