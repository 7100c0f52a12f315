-- The netlist that a text stands for: one module (IEEE 1364, structural part).
use Rattle.std.specs.Prelude.{◌≡◌, ℕ, zero, suc, Bool, true, not, ◌==◌, if◌then◌else◌, List, [], ◌∷◌, ◌++◌, length, map, filter, position, unwrap_or, Option, Some, None, slice_index_or, Result, Ok, Err}
use Rattle.std.specs.List.{list_any}
use Rattle.dft_base.specs.declared.place.Range.{Range}
use Rattle.dft_base.specs.Lexing.{Text}
use Rattle.dft_base.specs.Parser.{pure, ◌>>=◌, ◌>>◌, value_of}
use Rattle.dft_cells.specs.declared.cell.Cell.{Cell}
use Rattle.dft_netlist.specs.declared.ids.NetId.{NetId}
use Rattle.dft_base.specs.declared.dir.Dir.{Dir}
use Rattle.dft_base.specs.declared.dir.Dir.TheVariants as dir
use Rattle.dft_base.specs.Ranges.{going_up}
use Rattle.dft_netlist.specs.declared.instance.Signal.{Signal}
use Rattle.dft_netlist.specs.declared.instance.Signal.TheVariants as signal
use Rattle.dft_netlist.specs.declared.instance.Instance.{Instance}
use Rattle.dft_netlist.specs.declared.instance.Join.{Join}
use Rattle.dft_netlist_text.specs.declared.text.TokenKind.TheVariants as kind
use Rattle.dft_netlist_text.specs.declared.text.Cause.TheVariants as cause
use Rattle.dft_netlist_text.specs.declared.text.Fault.{Fault}
use Rattle.dft_netlist_text.specs.declared.text.Declared.{Declared}
use Rattle.dft_netlist.specs.declared.error.NetlistError.{NetlistError}
use Rattle.dft_netlist.specs.Names.{bit_names}
use Rattle.dft_netlist.specs.NetNumbers.{nets_from}
use Rattle.dft_netlist.specs.Building.{empty_netlist, port_of, port_refusal, net_refusal, instance_refusal}
use Rattle.dft_netlist.specs.Finishing.{IsFinished}
use Rattle.dft_netlist.specs.Netlist.{Netlist}
use Rattle.dft_netlist_text.specs.Lexemes.{Token, tokens}
use Rattle.dft_netlist_text.specs.Steps.{Rule, left, next, sees, refuse, expect, eat, fault, checked}
use Rattle.dft_netlist_text.specs.Modules.{Draft, HeaderPort, empty_draft, announce, declare_new_port, net_count}
use Rattle.dft_netlist_text.specs.Expressions.{range_if_any}
use Rattle.dft_netlist_text.specs.Items.{items}

-- ---- the header

-- one name of a header without directions
unfoldable pub announced_name : Draft → Rule Draft
announced_name d = λ ts. (expect kind.Name >>= (λ word. checked (announce (left ts) word d))) ts

-- the names that are left of a header without directions
unfoldable pub announced_names_from : ℕ → Draft → Rule Draft
announced_names_from zero d = refuse
announced_names_from (suc n) d = do
  more ← announced_name d
  comma ← eat kind.Comma
  if comma then announced_names_from n more else pure more

-- the names of a header without directions
unfoldable pub announced_names : Draft → Rule Draft
announced_names d = λ ts. announced_names_from (left ts) d ts

-- one name of a header with directions
unfoldable pub declared_port : Dir → Option Range → Draft → Rule Draft
declared_port dir range d = λ ts. (expect kind.Name >>= (λ word. checked (declare_new_port (left ts) word dir range d))) ts

-- what the names behind a direction have: the direction and the range
pub record PortDeclaration : Type 0 where
  pub dir : Dir
  pub range : Option Range

-- `input` or `output`, perhaps `wire`, perhaps a range
unfoldable pub port_declaration_of : Dir → Rule PortDeclaration
port_declaration_of dir = λ ts. (eat kind.Wire >>= (λ wire. range_if_any >>= (λ range. pure (record { dir = dir; range = range })))) (next ts)

-- a new direction, or the one of the name before
unfoldable pub port_declaration : PortDeclaration → Rule PortDeclaration
port_declaration before = λ ts.
    if sees kind.Input ts then port_declaration_of dir.Input ts
    else (if sees kind.Output ts then port_declaration_of dir.Output ts else Ok (before, ts))

-- the names that are left of a header with directions
unfoldable pub declared_ports_from : ℕ → PortDeclaration → Draft → Rule Draft
declared_ports_from zero before d = refuse
declared_ports_from (suc n) before d = do
  here ← port_declaration before
  more ← declared_port here.dir here.range d
  comma ← eat kind.Comma
  if comma then declared_ports_from n here more else pure more

-- the first name has a direction of its own
unfoldable pub declared_ports : Draft → Rule Draft
declared_ports d = λ ts. declared_ports_from (left ts) (record { dir = dir.Input; range = None }) d ts

-- whether the first name has a direction
abbrev pub sees_direction : List Token → Bool
sees_direction ts = if sees kind.Input ts then true else sees kind.Output ts

-- what stands between the brackets of a header
unfoldable pub header_names : Draft → Rule Draft
header_names d = λ ts.
    if sees kind.CloseParen ts then Ok (d, ts)
    else (if sees_direction ts then declared_ports d ts else announced_names d ts)

-- the header in brackets, or none
unfoldable pub header : Draft → Rule Draft
header d = λ ts. if sees kind.OpenParen ts then (header_names d >>= (λ more. expect kind.CloseParen >> pure more)) (next ts) else Ok (d, ts)

-- `module`, its name and its header
unfoldable pub heading : List Cell → Rule Draft
heading library = do
  expect kind.Module
  word ← expect kind.Name
  d ← header (empty_draft word library)
  expect kind.Semicolon
  pure d

-- ---- the end

-- a name, where it was not declared, and otherwise what comes behind
abbrev pub undeclared_or : Option Declared → Text → Option Text → Option Text
undeclared_or None word rest = Some word
undeclared_or (Some declared) word rest = rest

-- the first port of the header that was not declared
abbrev pub first_undeclared : List HeaderPort → Option Text
first_undeclared [] = None
first_undeclared (port ∷ ports) = undeclared_or port.declared port.name (first_undeclared ports)

-- each port of the header was declared, or else the first other one is refused at this place
abbrev pub all_declared : ℕ → Draft → Option Text → Rule Draft
all_declared place d None = pure d
all_declared place d (Some word) = λ ts. Err (fault (cause.Undeclared word) place)

-- `endmodule`, where the ports must have been declared
unfoldable pub module_end : Draft → Rule Draft
module_end d = λ ts. (expect kind.Endmodule >> all_declared (left ts) d (first_undeclared d.ports)) ts

-- no token comes behind the module
unfoldable pub end_of_text : Draft → Rule Draft
end_of_text d = λ ts. if sees kind.End ts then Ok (d, ts) else refuse ts

-- the whole text: a heading, items, and the end
unfoldable pub module_text : List Cell → Rule Draft
module_text library = do
  start ← heading library
  more ← items start
  whole ← module_end more
  end_of_text whole

-- ---- the netlist

-- the nets of a port, leftmost first
abbrev pub nets_of_port : Option Declared → List ℕ
nets_of_port None = []
nets_of_port (Some declared) = going_up declared.shape.first.0 (net_count declared.shape.range)

-- the nets of ports, one port after another
abbrev pub nets_of_ports : List HeaderPort → List ℕ
nets_of_ports [] = []
nets_of_ports (port ∷ ports) = nets_of_port port.declared ++ nets_of_ports ports

-- the nets that are no port's bits, as they were first named
abbrev pub other_nets : Draft → List ℕ
other_nets d = filter (λ net. not (list_any (λ bit. bit == net) (nets_of_ports d.ports))) (going_up 0 (length d.nets))

-- the nets in the order of their final numbers: the ports' bits in header order, then the others
abbrev pub net_order : Draft → List ℕ
net_order d = nets_of_ports d.ports ++ other_nets d

-- the final number of a net is its place in this order
abbrev pub final_net : List ℕ → NetId → NetId
final_net order net = record { 0 = unwrap_or (position (λ other. other == net.0) order) 0 }

-- a signal with the final number of its net
abbrev pub final_signal : List ℕ → Signal → Signal
final_signal order (signal.Net net) = signal.Net (final_net order net)
final_signal order (signal.Constant bit) = signal.Constant bit
final_signal order signal.Unconnected = signal.Unconnected

-- ---- the netlist is built from what the module said

-- a netlist with one part more, or why the part is refused
abbrev pub Grown : Type 0
Grown = Result Netlist NetlistError

-- the netlist, or why the new part is refused
abbrev pub unless_refused : Option NetlistError → Netlist → Grown
unless_refused None n = Ok n
unless_refused (Some why) n = Err why

-- the next part is added to a netlist that was not refused
abbrev pub and_grown : Grown → (Netlist → Grown) → Grown
and_grown (Ok n) more = more n
and_grown (Err why) more = Err why

-- one port more, whose bits are new nets, leftmost first
abbrev pub add_port : Netlist → Text → Dir → Option Range → Grown
add_port n word dir range = unless_refused (port_refusal n word range) (record n {
  ports = n.ports ++ port_of word dir range (nets_from (length n.nets) (length (bit_names word range))) ∷ [];
  nets = n.nets ++ bit_names word range;
})

-- the port of a name, as it was declared
abbrev pub add_declared : Netlist → Text → Option Declared → Grown
add_declared n word None = Ok n
add_declared n word (Some declared) = add_port n word declared.dir declared.shape.range

-- the ports in the order of the header
abbrev pub add_ports : List HeaderPort → Netlist → Grown
add_ports [] n = Ok n
add_ports (port ∷ ports) n = and_grown (add_declared n port.name port.declared) (add_ports ports)

-- one net more
abbrev pub add_net : Netlist → Text → Grown
add_net n word = unless_refused (net_refusal n word) (record n { nets = n.nets ++ word ∷ [] })

-- the other nets in order
abbrev pub add_nets : List Text → Netlist → Grown
add_nets [] n = Ok n
add_nets (word ∷ words) n = and_grown (add_net n word) (add_nets words)

-- one instance more, with the final numbers of its nets
abbrev pub add_instance : List ℕ → Netlist → Instance → Grown
add_instance order n i = unless_refused (instance_refusal n i.name) (record n { instances = n.instances ++ record i { pins = map (final_signal order) i.pins } ∷ [] })

-- the instances in the order of the text
abbrev pub add_instances : List ℕ → List Instance → Netlist → Grown
add_instances order [] n = Ok n
add_instances order (i ∷ is) n = and_grown (add_instance order n i) (add_instances order is)

-- a join with the final numbers of its nets
abbrev pub final_join : List ℕ → Join → Join
final_join order j = record { target = final_net order j.target; source = final_signal order j.source }

-- the joins in the order of the text
abbrev pub add_joins : List ℕ → List Join → Netlist → Netlist
add_joins order joins n = record n { joins = n.joins ++ map (final_join order) joins }

-- the names of the nets that are no port's bits
abbrev pub names_of_others : Draft → List Text
names_of_others d = map (λ net. slice_index_or d.nets net []) (other_nets d)

-- The netlist of a module: its ports in header order, the other nets, the joins, the instances. No part is refused where the rules
-- above hold, since they test the same names and limits.
unfoldable pub built : Draft → Grown
built d =
    and_grown (add_ports d.ports (empty_netlist d.name d.library)) (λ ports.
    and_grown (add_nets (names_of_others d) ports) (λ nets.
    add_instances (net_order d) d.instances (add_joins (net_order d) d.joins nets)))

-- what the module of a text says, or the first fault
unfoldable pub module_of : List Cell → Text → Result Draft Fault
module_of library text = value_of (module_text library (tokens text))

-- ---- what a reader gives

-- the text stands for this netlist: its module is built, no net has two drivers, and the nets have an order
pub record StandsFor (library : List Cell) (text : Text) (netlist : Netlist) : Type 0 where
  pub draft : Draft
  pub said : module_of library text ≡ Ok draft
  pub grown : Netlist
  pub parts : built draft ≡ Ok grown
  pub finished : IsFinished grown netlist
