-- What a builder of parts shows, and what holds of it.
use Rattle.std.specs.Prelude.{◌≤◌, length}
use Rattle.dft_parts.specs.declared.parts_builder.PartsBuilder.TheInside.{Inside}
use Rattle.dft_parts.specs.Parts.{Making}

-- its netlist, and how many made names were given
abbrev pub making_of : Inside → Making
making_of b = record { netlist = b.builder; made = b.made }

-- no more made names were given than there are nets and instances
pub record AreGiven (b : Inside) : Type 0 where
  pub nets : b.made.nets ≤ length b.builder.nets
  pub instances : b.made.instances ≤ length b.builder.instances
