-- What can be written so that it is read back.
use Rattle.std.specs.Prelude.{◌≡◌, ◌≢◌, ◌<◌, ◌⊎◌, ℕ, List, [], length, All}
use Rattle.dft_base.specs.Name.{IsName}
use Rattle.dft_base.specs.declared.dir.Dir.TheVariants.{Output}
use Rattle.dft_patterns.specs.Patterns.{Patterns, IsFullVector, inputs, outputs}

-- a name that may stand between double quotes
pub record IsQuotable (bytes : List ℕ) : Type 0 where
  pub name : IsName bytes
  pub unquoted : All (λ b. b ≢ 34) bytes

-- Patterns whose written form can be read: names can be quoted, inputs stand before outputs, each vector sets or compares each signal,
-- and there is an input where there is a vector.
pub record IsWritable (p : Patterns) : Type 0 where
  pub quotable : All (λ s. IsQuotable s.name) p.signals
  pub ordered : All (λ s. s.dir ≡ Output) (outputs p.signals)
  pub full : All (λ acts. IsFullVector p.signals acts) p.vectors
  pub some : (p.vectors ≡ []) ⊎ (0 < length (inputs p.signals))
