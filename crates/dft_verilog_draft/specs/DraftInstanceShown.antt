-- What a `DraftInstance` shows.
use Rattle.dft_netlist.specs.declared.instance.Instance.{Instance}
use Rattle.dft_verilog_draft.specs.declared.draft_instance.DraftInstance.TheInside.{Inside}

abbrev pub instance_of : Inside → Instance
instance_of i = record { name = i.name; cell = i.cell; pins = i.pins }
