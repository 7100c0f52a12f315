-- The pair tables of three-valued gates (IEEE 1364).
use Rattle.dft_base.specs.declared.tri.Tri.{Tri}
use Rattle.dft_base.specs.declared.tri.Tri.TheVariants.{Zero, One, Unknown}
use Rattle.dft_base.specs.Tri.{join}

-- the inverse of a value
abbrev pub not_tri : Tri → Tri
not_tri Zero = One
not_tri One = Zero
not_tri Unknown = Unknown

-- 0 where one value is 0, 1 where both are 1
abbrev pub and_tri : Tri → Tri → Tri
and_tri Zero t = Zero
and_tri One t = t
and_tri Unknown Zero = Zero
and_tri Unknown One = Unknown
and_tri Unknown Unknown = Unknown

-- 1 where one value is 1, 0 where both are 0
abbrev pub or_tri : Tri → Tri → Tri
or_tri One t = One
or_tri Zero t = t
or_tri Unknown One = One
or_tri Unknown Zero = Unknown
or_tri Unknown Unknown = Unknown

-- whether two known values differ
abbrev pub xor_tri : Tri → Tri → Tri
xor_tri Zero t = t
xor_tri One t = not_tri t
xor_tri Unknown t = Unknown

-- the second value where the select is 1, the first where it is 0, else what they share
abbrev pub mux_tri : (first second select : Tri) → Tri
mux_tri first second Zero = first
mux_tri first second One = second
mux_tri first second Unknown = join first second
