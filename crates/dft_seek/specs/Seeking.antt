-- What a `Seeker` is asked: searches in a design, a configuration and a domain.
use Rattle.std.specs.Prelude.{ℕ}
use Rattle.dft_netlist.specs.Netlist.{Netlist}
use Rattle.dft_config.specs.Config.{Config}
use Rattle.dft_faults.specs.declared.fault.Fault.{Fault}
use Rattle.dft_seek.specs.Searches.{Search}

pub record Seeking : Type 0 where
  pub design : Netlist
  pub config : Config
  pub domain : ℕ

-- the search of a fault
abbrev pub sought_by : Seeking → Fault → Search
sought_by s f = record { design = s.design; config = s.config; domain = s.domain; fault = f }
