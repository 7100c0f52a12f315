-- What is ready before the cubes are read.
use Rattle.std.specs.Prelude.{◌≡◌}
use Rattle.dft_netlist.specs.Netlist.{Netlist}
use Rattle.dft_config.specs.Config.{Config}
use Rattle.dft_stitch.specs.Planning.{Planned}

-- this design is prepared, with this configuration
abbrev pub IsPrepared : Netlist → Config → Planned → Type 0
IsPrepared n config p = p ≡ record { design = n; config = config }
