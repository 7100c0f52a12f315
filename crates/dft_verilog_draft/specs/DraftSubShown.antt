-- What a `DraftSub` shows.
use Rattle.dft_modules.specs.SubInstances as spec
use Rattle.dft_verilog_draft.specs.declared.draft_sub.DraftSub.TheInside.{Inside}

abbrev pub sub_of : Inside → spec.DraftSub
sub_of s = record { name = s.name; of = s.of; joins = s.joins; cells = s.cells; connections = s.connections.items }
