-- Modules and ports by numbers: the number of the first module of a name, and which modules a module has instances of.
use Rattle.std.specs.Prelude.{ℕ, ◌≡◌, not, List, map, find, Option, Some, is_some, option_map}
use Rattle.std.specs.List.{filter_map}
use Rattle.dft_base.specs.Lexing.{Text}
use Rattle.dft_netlist.specs.declared.port.Port.{Port}
use Rattle.dft_modules.specs.declared.module.SubInstance.{SubInstance}
use Rattle.dft_modules.specs.Modules.{Module}
use Rattle.dft_hier.specs.declared.error.HierError.{HierError}
use Rattle.dft_hier.specs.declared.error.HierError.TheVariants as told
use Rattle.dft_hier.specs.Hierarchy.{subs_of}
use Rattle.dft_numbered.specs.Numbers.{Entry, first_from, look_up}

-- ---- modules and their instances

abbrev pub module_names : List Module → List Text
module_names ms = map (λ (m : Module). m.name) ms

abbrev pub port_names : List Port → List Text
port_names ports = map (λ (p : Port). p.name) ports

-- the number of the first module of a name
abbrev pub number_of : List Module → Text → Option ℕ
number_of ms name = first_from 0 (module_names ms) name

-- the numbers of the modules of instances
abbrev pub found_subs : List Entry → List SubInstance → List ℕ
found_subs entries subs = filter_map (λ (s : SubInstance). look_up entries s.of) subs

abbrev pub numbers_of_subs : List Module → List SubInstance → List ℕ
numbers_of_subs ms subs = filter_map (λ (s : SubInstance). number_of ms s.of) subs

-- the first instance whose module is not there
abbrev pub first_lost : List Entry → List SubInstance → Option SubInstance
first_lost entries subs = find (λ (s : SubInstance). not (is_some (look_up entries s.of))) subs

-- the numbers of the modules that each module has instances of
abbrev pub children_among : List Module → List Module → List (List ℕ)
children_among ms some = map (λ (m : Module). numbers_of_subs ms (subs_of m.items)) some

abbrev pub children_of : List Module → List (List ℕ)
children_of ms = children_among ms ms

-- an instance of a module that is not there is told by its module's name
abbrev pub TellsLost : Option SubInstance → HierError → Type 0
TellsLost lost (told.H2 name) = option_map (λ (s : SubInstance). s.of) lost ≡ Some name
TellsLost lost (told.Memory error) = Unit {0}
TellsLost lost _ = ⊥
