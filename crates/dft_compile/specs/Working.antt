-- A compilation whose cubes are placed.
use Rattle.std.specs.Prelude.{◌≡◌, ◌≤◌, length}
use Rattle.dft_insert.specs.declared.style.Style.TheVariants.{Edt}
use Rattle.dft_insert.specs.Statements.{scanned}
use Rattle.dft_verilog_out.specs.Named.{GatesAreJoined}
use Rattle.dft_compile.specs.declared.work.Work.{Work}

-- the netlist is the scanned one of the design, the cubes are merged over its load equations, and there is a word for each cube
pub record IsWork (w : Work) : Type 0 where
  pub joined : GatesAreJoined w.loads.now.design
  pub scanned : w.scanned.now ≡ scanned Edt w.loads.now.design w.loads.now.config
  pub merger : w.merger.now.loads ≡ w.loads.now
  pub few : length w.merger.now.patterns ≤ 65536
  pub cubes : length w.cubes.now ≤ 65536
  pub placed : length w.placed.now ≡ length w.cubes.now
