-- What `MemorySink` shows.
use Rattle.dft_files.specs.declared.sinks.MemorySink.TheInside.{Inside}
use Rattle.dft_files.specs.Basin.{Basin}

-- its bytes, the calls that are to fail, and what has come to pass
abbrev pub basin_of : Inside → Basin
basin_of s = record { bytes = s.bytes.items; failing = s.failing.items; calls = s.calls; faults = s.faults; short_puts = s.short_puts }
