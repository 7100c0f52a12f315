-- What a `TakenNames` shows.
use Rattle.std.specs.Prelude.{List, map}
use Rattle.std.specs.Cow.{cow_slice_items}
use Rattle.dft_netlist_text.specs.Modules.{TakenName}
use Rattle.dft_verilog_draft.specs.declared.taken_names.TakenNames.TheInside.{Inside}

abbrev pub taken_names : Inside → List TakenName
taken_names t = map (λ e. record { name = cow_slice_items e.0; meaning = e.1 }) t.meanings.entries
