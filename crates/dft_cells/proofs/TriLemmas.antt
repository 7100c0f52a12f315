-- Values that are forced, and values that are chosen by a known select.
use Rattle.std.proofs.Common.{Bool, ◌≡◌, refl}
use Rattle.dft_base.specs.declared.tri.Tri.{Tri}
use Rattle.dft_base.specs.declared.tri.Tri.TheVariants.{Zero, One, Unknown}
use Rattle.dft_cells.specs.FlipFlops.{tri_forced, tri_chosen}

pub forced_one : (value : Bool) (t : Tri) → tri_forced value One t ≡ t
forced_one value Zero = refl
forced_one value One = refl
forced_one value Unknown = refl

pub chosen_one : (s d : Tri) → tri_chosen One s d ≡ s
chosen_one Zero Zero = refl
chosen_one Zero One = refl
chosen_one Zero Unknown = refl
chosen_one One Zero = refl
chosen_one One One = refl
chosen_one One Unknown = refl
chosen_one Unknown Zero = refl
chosen_one Unknown One = refl
chosen_one Unknown Unknown = refl

pub chosen_zero : (s d : Tri) → tri_chosen Zero s d ≡ d
chosen_zero Zero Zero = refl
chosen_zero Zero One = refl
chosen_zero Zero Unknown = refl
chosen_zero One Zero = refl
chosen_zero One One = refl
chosen_zero One Unknown = refl
chosen_zero Unknown Zero = refl
chosen_zero Unknown One = refl
chosen_zero Unknown Unknown = refl
