-- Three-valued bits (IEEE 1364, the value x), ordered with Unknown above both bits.
use Rattle.std.specs.Prelude.{Bool, true, false}
use Rattle.dft_base.specs.declared.tri.Tri.{Tri}
use Rattle.dft_base.specs.declared.tri.Tri.TheVariants.{Zero, One, Unknown}

-- the known value of a bit
abbrev pub known : Bool → Tri
known false = Zero
known true = One

-- the value stands above the bit: it is this bit or Unknown
abbrev pub Above : Tri → Bool → Type 0
Above Unknown b = Unit {0}
Above Zero false = Unit {0}
Above Zero true = ⊥
Above One true = Unit {0}
Above One false = ⊥

-- the first value stands above the second: they are the same, or the first is Unknown
abbrev pub AboveTri : Tri → Tri → Type 0
AboveTri Unknown t = Unit {0}
AboveTri Zero Zero = Unit {0}
AboveTri Zero One = ⊥
AboveTri Zero Unknown = ⊥
AboveTri One One = Unit {0}
AboveTri One Zero = ⊥
AboveTri One Unknown = ⊥

-- whether it is Zero or One
abbrev pub is_known : Tri → Bool
is_known Zero = true
is_known One = true
is_known Unknown = false

-- the join: the value that both share, and otherwise Unknown
abbrev pub join : Tri → Tri → Tri
join Zero Zero = Zero
join One One = One
join Zero One = Unknown
join One Zero = Unknown
join Zero Unknown = Unknown
join One Unknown = Unknown
join Unknown t = Unknown

-- the bit of a value that is known, and another bit where it is not
abbrev pub completed : Tri → Bool → Bool
completed Zero b = false
completed One b = true
completed Unknown b = b
