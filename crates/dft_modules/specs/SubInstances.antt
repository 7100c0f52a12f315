-- The rules of module instances (IEEE 1364): what one of several modules may say beside what a lone module may.
use Rattle.std.specs.Prelude.{ℕ, zero, suc, Bool, false, not, ◌&&◌, if◌then◌else◌, List, [], ◌∷◌, ◌++◌, length, is_some, Ok, Err}
use Rattle.std.specs.List.{list_any}
use Rattle.std.specs.Str.{bytes_eq}
use Rattle.dft_base.specs.Lexing.{Text}
use Rattle.dft_base.specs.Parser.{Checked, pure, ◌>>=◌, ◌>>◌}
use Rattle.dft_cells.specs.declared.cell.Cell.{Cell}
use Rattle.dft_cells.specs.Cells.{find_cell}
use Rattle.dft_netlist.specs.declared.instance.Signal.{Signal}
use Rattle.dft_netlist_text.specs.declared.text.TokenKind.TheVariants as kind
use Rattle.dft_netlist_text.specs.declared.text.Cause.TheVariants as cause
use Rattle.dft_netlist_text.specs.declared.text.Fault.{Fault}
use Rattle.dft_netlist_text.specs.declared.text.Site.TheVariants as site
use Rattle.dft_netlist_text.specs.declared.text.Meaning.TheVariants as meaning
use Rattle.dft_netlist_text.specs.Lexemes.{Token}
use Rattle.dft_netlist_text.specs.Steps.{Rule, bytes, left, sees, refuse, expect, eat, fault, needed, checked}
use Rattle.dft_netlist_text.specs.Modules.{Draft, is_taken, with_name}
use Rattle.dft_netlist_text.specs.Expressions.{Operand, expression}
use Rattle.dft_netlist_text.specs.Items.{item}
use Rattle.dft_netlist_text.specs.NetlistText.{heading, module_end}

-- a connection as it is read: how many bytes there are from its port's name to the end of the text, that name, and the bits that the port is joined to
pub record SubConnection : Type 0 where
  pub left : ℕ
  pub port : Text
  pub signals : List Signal

-- a module instance as it is read: its name, its module's, how many joins and how many cells and gates stand before it, and its connections
pub record DraftSub : Type 0 where
  pub name : Text
  pub of : Text
  pub joins : ℕ
  pub cells : ℕ
  pub connections : List SubConnection

-- what one of several modules has said so far: what a lone module may say, and its module instances
pub record Said : Type 0 where
  pub draft : Draft
  pub subs : List DraftSub

-- ---- connections of a module instance

-- a port's name, and how many bytes there are from it to the end of the text
pub record NamedPort : Type 0 where
  pub port : Text
  pub left : ℕ

-- whether a port was named before, be it with nothing between the brackets
abbrev pub was_named : List SubConnection → Text → Bool
was_named connections word = list_any (λ (c : SubConnection). bytes_eq c.port word) connections

-- the name of a port, which is tested at itself: no other connection of the instance has it
unfoldable pub named_port : List SubConnection → Rule NamedPort
named_port connections = λ ts. (expect kind.Name >>= (λ word. needed (cause.JoinedTwice word) (left ts) (not (was_named connections word)) (pure (record { port = word; left = left ts })))) ts

-- nothing between the brackets, or an expression of any width, where a name that was not declared is a net from here on
unfoldable pub port_content : Draft → Rule Operand
port_content d = λ ts. if sees kind.CloseParen ts then Ok ((d, []), ts) else expression (site.Pin false) d ts

-- the draft behind a connection, and the connections so far
abbrev pub PortsConnected : Type 0
PortsConnected = Draft × List SubConnection

-- a point, a port, and what it is joined to
unfoldable pub port_connection : PortsConnected → Rule PortsConnected
port_connection c = do
  expect kind.Point
  named ← named_port c.1
  expect kind.OpenParen
  to ← port_content c.0
  expect kind.CloseParen
  pure (to.0, c.1 ++ record { left = named.left; port = named.port; signals = to.1 } ∷ [])

-- the connections that are left of a list
unfoldable pub port_connections_from : ℕ → PortsConnected → Rule PortsConnected
port_connections_from zero c = refuse
port_connections_from (suc n) c = do
  more ← port_connection c
  comma ← eat kind.Comma
  if comma then port_connections_from n more else pure more

-- connections with commas between them, or none
unfoldable pub port_connections : PortsConnected → Rule PortsConnected
port_connections c = λ ts. if sees kind.CloseParen ts then Ok (c, ts) else port_connections_from (left ts) c ts

-- ---- module instances

-- an instance's name is free, and taken from here on; the number of module instances has no limit of its own
abbrev pub name_sub : ℕ → Text → Draft → Checked Fault Draft
name_sub place word d = if is_taken d word then Err (fault (cause.Taken word) place) else Ok (with_name word meaning.Instance d)

-- one module instance more, behind the joins, cells and gates so far
abbrev pub with_sub : (name of : Text) → List DraftSub → PortsConnected → Said
with_sub name of subs c = record {
  draft = c.0;
  subs = subs ++ record { name = name; of = of; joins = length c.0.joins; cells = length c.0.instances; connections = c.1 } ∷ [];
}

-- the name of an instance, which is tested at itself, and its connections
unfoldable pub sub_instance : (of : Text) → Said → Rule Said
sub_instance of m = λ ts. (do
  word ← expect kind.Name
  named ← checked (name_sub (left ts) word m.draft)
  expect kind.OpenParen
  c ← port_connections (named, [])
  expect kind.CloseParen
  pure (with_sub word of m.subs c)) ts

-- the instances that are left of a list
unfoldable pub sub_instances_from : ℕ → (of : Text) → Said → Rule Said
sub_instances_from zero of m = refuse
sub_instances_from (suc n) of m = do
  more ← sub_instance of m
  comma ← eat kind.Comma
  if comma then sub_instances_from n of more else pure more

-- instances of a module with commas between them, and the semicolon
unfoldable pub sub_instances : (of : Text) → Said → Rule Said
sub_instances of m = λ ts. (do
  more ← sub_instances_from (left ts) of m
  expect kind.Semicolon
  pure more) ts

-- the name of a module, and instances of it
unfoldable pub sub_item : Said → Rule Said
sub_item m = λ ts. (expect kind.Name >>= (λ of. sub_instances of m)) ts

-- ---- a module

-- whether a module instance comes next: a name that no cell of the library has
abbrev pub names_module : Draft → List Token → Bool
names_module d ts = sees kind.Name ts && not (is_some (find_cell d.library (bytes ts)))

-- one item: module instances, or an item that a lone module may have
unfoldable pub module_item : Said → Rule Said
module_item m = λ ts. if names_module m.draft ts then sub_item m ts else (item m.draft >>= (λ d. pure (record m { draft = d }))) ts

-- the items before `endmodule`
unfoldable pub module_items_from : ℕ → Said → Rule Said
module_items_from zero m = pure m
module_items_from (suc n) m = λ ts. if sees kind.Endmodule ts then Ok (m, ts) else (module_item m >>= module_items_from n) ts

-- each item takes a byte at least
unfoldable pub module_items : Said → Rule Said
module_items m = λ ts. module_items_from (left ts) m ts

-- one module, to its `endmodule`
unfoldable pub one_module : List Cell → Rule Said
one_module library = do
  start ← heading library
  m ← module_items (record { draft = start; subs = [] })
  whole ← module_end m.draft
  pure (record m { draft = whole })
