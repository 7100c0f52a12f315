-- What a `Module` shows.
use Rattle.dft_modules.specs.Modules as spec
use Rattle.dft_modules.specs.declared.module.Module.TheInside.{Inside}

abbrev pub module_of : Inside → spec.Module
module_of m = record { name = m.name; ports = m.ports.items; nets = m.nets.items; items = m.items.items }
