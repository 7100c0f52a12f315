-- What the rules say of one of several modules is buildable, but for its module instances.
use Rattle.std.proofs.Common.{ℕ, zero, suc, false, List, []}
use Rattle.dft_base.specs.Lexing.{Text}
use Rattle.dft_cells.specs.declared.cell.Cell.{Cell}
use Rattle.dft_netlist_text.specs.declared.text.TokenKind.TheVariants as kind
use Rattle.dft_netlist_text.specs.declared.text.Site.TheVariants as site
use Rattle.dft_netlist_text.specs.Lexemes.{Token}
use Rattle.dft_netlist_text.specs.Steps.{left, sees, expect, eat, checked}
use Rattle.dft_netlist_text.specs.Modules.{Draft}
use Rattle.dft_netlist_text.specs.Items.{item}
use Rattle.dft_netlist_text.specs.NetlistText.{heading, module_end}
use Rattle.dft_netlist_text.proofs.ParserLemmas.{Yields, behind, passed, either, of_check, turns}
use Rattle.dft_modules.specs.SubInstances.{Said, PortsConnected, named_port, port_content, port_connection, port_connections_from, port_connections, name_sub, sub_instance, sub_instances_from, sub_instances, sub_item, names_module, module_item, module_items_from, module_items, one_module}
use Rattle.dft_verilog.proofs.SaidLemmas.{IsSaid, sub_said}
use Rattle.dft_verilog.proofs.GrammarLemmas.{SaidFirst, heading_said, item_said, module_end_said, expression_said}

-- ---- connections

content_said : (d : Draft) → IsSaid 0 [] d → (ts : List Token) → Yields (SaidFirst 0 []) (port_content d ts)
unfolding port_content
content_said d h ts = either (SaidFirst 0 []) (sees kind.CloseParen ts) _ _ h (expression_said 0 [] (site.Pin false) d h ts)

connection_said : (c : PortsConnected) → IsSaid 0 [] c.0 → (ts : List Token) → Yields (SaidFirst 0 []) (port_connection c ts)
unfolding port_connection
connection_said c h ts =
    passed (SaidFirst 0 []) (expect kind.Point ts) _ (λ w us.
    passed (SaidFirst 0 []) (named_port c.1 us) _ (λ named vs.
    passed (SaidFirst 0 []) (expect kind.OpenParen vs) _ (λ x ws.
    behind (SaidFirst 0 []) (SaidFirst 0 []) (port_content c.0 ws) _ (content_said c.0 h ws) (λ to m xs.
    passed (SaidFirst 0 []) (expect kind.CloseParen xs) _ (λ y ys. m)))))

connections_of : (n : ℕ) (c : PortsConnected) → IsSaid 0 [] c.0 → (ts : List Token) → Yields (SaidFirst 0 []) (port_connections_from n c ts)
unfolding port_connections_from
connections_of zero c h ts = tt
connections_of (suc n) c h ts =
    behind (SaidFirst 0 []) (SaidFirst 0 []) (port_connection c ts) _ (connection_said c h ts) (λ more m us.
    passed (SaidFirst 0 []) (eat kind.Comma us) _ (λ comma vs. turns (SaidFirst 0 []) comma more (port_connections_from n more) m (λ ws. connections_of n more m ws) vs))

connections_said : (c : PortsConnected) → IsSaid 0 [] c.0 → (ts : List Token) → Yields (SaidFirst 0 []) (port_connections c ts)
unfolding port_connections
connections_said c h ts = either (SaidFirst 0 []) (sees kind.CloseParen ts) _ _ h (connections_of (left ts) c h ts)

-- ---- module instances

-- the draft of what was said is such a draft
abbrev pub IsSaidModule : Said → Type 0
IsSaidModule m = IsSaid 0 [] m.draft

instance_said : (of : Text) (m : Said) → IsSaidModule m → (ts : List Token) → Yields IsSaidModule (sub_instance of m ts)
unfolding sub_instance
instance_said of m h ts =
    passed IsSaidModule (expect kind.Name ts) _ (λ word us.
    behind (IsSaid 0 []) IsSaidModule (checked (name_sub (left ts) word m.draft) us) _ (of_check (IsSaid 0 []) (name_sub (left ts) word m.draft) us (sub_said (left ts) word m.draft h)) (λ named k vs.
    passed IsSaidModule (expect kind.OpenParen vs) _ (λ w ws.
    behind (SaidFirst 0 []) IsSaidModule (port_connections (named, []) ws) _ (connections_said (named, []) k ws) (λ c n xs.
    passed IsSaidModule (expect kind.CloseParen xs) _ (λ x ys. n)))))

instances_of : (n : ℕ) (of : Text) (m : Said) → IsSaidModule m → (ts : List Token) → Yields IsSaidModule (sub_instances_from n of m ts)
unfolding sub_instances_from
instances_of zero of m h ts = tt
instances_of (suc n) of m h ts =
    behind IsSaidModule IsSaidModule (sub_instance of m ts) _ (instance_said of m h ts) (λ more k us.
    passed IsSaidModule (eat kind.Comma us) _ (λ comma vs. turns IsSaidModule comma more (sub_instances_from n of more) k (λ ws. instances_of n of more k ws) vs))

instances_said : (of : Text) (m : Said) → IsSaidModule m → (ts : List Token) → Yields IsSaidModule (sub_instances of m ts)
unfolding sub_instances
instances_said of m h ts =
    behind IsSaidModule IsSaidModule (sub_instances_from (left ts) of m ts) _ (instances_of (left ts) of m h ts) (λ more k us. passed IsSaidModule (expect kind.Semicolon us) _ (λ w vs. k))

sub_item_said : (m : Said) → IsSaidModule m → (ts : List Token) → Yields IsSaidModule (sub_item m ts)
unfolding sub_item
sub_item_said m h ts = passed IsSaidModule (expect kind.Name ts) _ (λ of us. instances_said of m h us)

-- ---- items

module_item_said : (m : Said) → IsSaidModule m → (ts : List Token) → Yields IsSaidModule (module_item m ts)
unfolding module_item
module_item_said m h ts =
    either IsSaidModule (names_module m.draft ts) _ _ (sub_item_said m h ts) (behind (IsSaid 0 []) IsSaidModule (item m.draft ts) _ (item_said m.draft h ts) (λ d k us. k))

items_of : (n : ℕ) (m : Said) → IsSaidModule m → (ts : List Token) → Yields IsSaidModule (module_items_from n m ts)
unfolding module_items_from
items_of zero m h ts = h
items_of (suc n) m h ts =
    either IsSaidModule (sees kind.Endmodule ts) _ _ h (behind IsSaidModule IsSaidModule (module_item m ts) _ (module_item_said m h ts) (λ more k us. items_of n more k us))

items_said : (m : Said) → IsSaidModule m → (ts : List Token) → Yields IsSaidModule (module_items m ts)
unfolding module_items
items_said m h ts = items_of (left ts) m h ts

-- what one of several modules says is buildable, but for its module instances
pub one_said : (library : List Cell) (ts : List Token) → Yields IsSaidModule (one_module library ts)
unfolding one_module
one_said library ts =
    behind (IsSaid 0 []) IsSaidModule (heading library ts) _ (heading_said library ts) (λ start h us.
    behind IsSaidModule IsSaidModule (module_items (record { draft = start; subs = [] }) us) _ (items_said (record { draft = start; subs = [] }) h us) (λ m k vs.
    behind (IsSaid 0 []) IsSaidModule (module_end m.draft vs) _ (module_end_said m.draft k vs) (λ whole n ws. n)))
