-- The stages that a set of three holds.
use Rattle.std.specs.Prelude.{ℕ, List, [], ◌∷◌}
use Rattle.dft_decompressor.specs.declared.threes.Three.{Three}

abbrev pub stages_in : Three → List ℕ
stages_in three = three.first ∷ three.second ∷ three.third ∷ []
