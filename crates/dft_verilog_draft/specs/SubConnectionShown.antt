-- What a `SubConnection` shows.
use Rattle.dft_modules.specs.SubInstances as spec
use Rattle.dft_verilog_draft.specs.declared.sub_connection.SubConnection.TheInside.{Inside}

abbrev pub connection_of : Inside → spec.SubConnection
connection_of c = record { left = c.left; port = c.port; signals = c.signals }
