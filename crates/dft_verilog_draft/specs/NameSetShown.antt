-- What a `NameSet` shows.
use Rattle.std.specs.Prelude.{List, map}
use Rattle.dft_base.specs.Lexing.{Text}
use Rattle.dft_netlist_text.specs.Modules.{TakenName}
use Rattle.dft_verilog_draft.specs.declared.name_set.NameSet.TheInside.{Inside}

abbrev pub name_set : Inside → List Text
name_set s = map (λ (e : TakenName). e.name) s.names
