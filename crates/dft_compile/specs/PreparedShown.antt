-- What a `Prepared` shows, and what holds of it.
use Rattle.std.specs.Prelude.{◌≡◌}
use Rattle.dft_stitch.specs.Planning.{Planned}
use Rattle.dft_insert.specs.declared.style.Style.TheVariants.{Edt}
use Rattle.dft_insert.specs.Statements.{scanned}
use Rattle.dft_compile.specs.declared.prepared.Prepared.TheInside.{Inside}

abbrev pub prepared_in : Inside → Planned
prepared_in p = record { design = p.loads.design; config = p.loads.config }

-- the scanned netlist is that of the design behind compression hardware
abbrev pub AreScanned : Inside → Type 0
AreScanned p = p.scanned ≡ scanned Edt p.loads.design p.loads.config
