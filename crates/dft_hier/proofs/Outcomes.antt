-- What comes of a text of several modules over the standard cells: the flat netlist, or why there is none.
use Rattle.std.proofs.Common.{ℕ, Option, Some, None, Result, Ok, Err, List, [], ◌∷◌, length}
use Rattle.dft_base.specs.Lexing.{Text}
use Rattle.dft_cells.specs.Standard.{standard_cells}
use Rattle.dft_netlist.specs.declared.port.Port.{Port}
use Rattle.dft_netlist.specs.declared.instance.Instance.{Instance}
use Rattle.dft_netlist.specs.declared.instance.Join.{Join}
use Rattle.dft_netlist_text.specs.NetlistText.{Grown}
use Rattle.dft_modules.specs.declared.connections.Connection.{Connection}
use Rattle.dft_modules.specs.Modules.{Module}
use Rattle.dft_modules.specs.declared.fault.ModulesFault.{ModulesFault}
use Rattle.dft_modules.specs.ModuleTexts.{modules_of}
use Rattle.dft_hier.specs.Hierarchy.{all_subs, tops}
use Rattle.dft_hier.specs.Flat.{flat_netlist}
use Rattle.dft_hier.specs.Refusals.{first_misfit}

abbrev pub said_by : Result (List Module) ModulesFault → List Module
said_by (Ok ms) = ms
said_by (Err why) = []

abbrev pub modules : Text → List Module
modules text = said_by (modules_of standard_cells text)

abbrev pub flat_of : List Module → List Module → Option Grown
flat_of ms (top ∷ []) = Some (flat_netlist ms standard_cells top)
flat_of ms [] = None
flat_of ms (a ∷ b ∷ more) = None

-- the flat netlist of a text with one top
abbrev pub flat : Text → Option Grown
flat text = flat_of (modules text) (tops (modules text))

abbrev pub stands : Text → List Port → List Text → List Instance → List Join → Option Grown
stands name ports nets instances joins = Some (Ok (record { name = name; library = standard_cells; ports = ports; nets = nets; instances = instances; joins = joins }))

-- how many tops there are, the module that is not there, and the port that a connection does not fit
abbrev pub top_count : Text → ℕ
top_count text = length (tops (modules text))

abbrev pub named : Option Connection → Option Text
named None = None
named (Some c) = Some c.port

abbrev pub misfit : Text → Option Text
misfit text = named (first_misfit (modules text) (all_subs (modules text)))
