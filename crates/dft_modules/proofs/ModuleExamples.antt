-- What texts of several modules say, and where they are refused, worked by hand.
use Rattle.std.proofs.Common.{true, false, ◌≡◌, refl, codes, Some, None, [], ◌∷◌}
use Rattle.std.specs.Fmt as fmt
use Rattle.dft_base.specs.Words as words
use Rattle.dft_base.specs.Lexing.{place_after, next_place}
use Rattle.dft_cells.specs.declared.kind.Gate.TheVariants as primitive
use Rattle.dft_base.specs.declared.dir.Dir.TheVariants as dir
use Rattle.dft_netlist.specs.declared.instance.Signal.TheVariants as signal
use Rattle.dft_netlist.specs.declared.instance.CellRef.TheVariants as cell_ref
use Rattle.dft_netlist_text.specs.Lexemes.{comment_rest, attribute_rest, blank_len, begins_blank, to_blank, word_kind, mark_kind, escaped, quote, directive, lexeme}
use Rattle.dft_netlist_text.specs.Steps.{kind_of, bytes, left, next, same_kind, sees, refusal, expect, after}
use Rattle.dft_netlist_text.specs.Expressions.{number, rest_of_range, range, range_if_any, digits, constant, followed, rest_of_select, selection, named_operand, constant_operand, operand, opening, closing, concatenations_from, expression}
use Rattle.dft_netlist_text.specs.Items.{declared_name, declared_names_from, declared_names, declaration, port_item, wire_item, right_side, net_assignment, net_assignments_from, net_assignments, assign_item, terminal, input_terminals_from, input_terminals, terminals, named_gate, unnamed_gate, one_gate, gates_from, gates, gate_item, connected_pin, pin_signal, pin_content, named_connection, named_connections_from, named_connections, connections, instance, instances_from, instances, cell_item, item, items_from, items}
use Rattle.dft_netlist_text.specs.NetlistText.{announced_name, announced_names_from, announced_names, declared_port, port_declaration_of, port_declaration, declared_ports_from, declared_ports, header_names, header, heading, module_end}
use Rattle.dft_netlist_text.specs.declared.text.Cause.TheVariants as cause
use Rattle.dft_netlist.specs.declared.error.Counted.TheVariants as counted
use Rattle.dft_modules.specs.declared.module.Item.TheVariants as item
use Rattle.dft_modules.specs.SubInstances.{named_port, port_content, port_connection, port_connections_from, port_connections, sub_instance, sub_instances_from, sub_instances, sub_item, module_item, module_items_from, module_items, one_module}
use Rattle.dft_modules.specs.ModuleTexts.{next_module, modules_from, modules_of}
use Rattle.dft_modules.proofs.Outcomes.{modules, says, refused_at, refused, repeated}

pub two_modules :
    modules (codes "module inv2 (a, y); input a; output y; INV i0 (.A(a), .Y(n)); INV i1 (.A(n), .Y(y)); endmodule module m (c, d, q); input c, d; output q; inv2 u (.a(d), .y(w)); DFF f (.CK(c), .D(w), .Q(q)); endmodule")
    ≡ says
    (record {
      name = codes "inv2";
      ports = record { name = codes "a"; dir = dir.Input; range = None; bits = record { 0 = 0 } ∷ [] } ∷ record { name = codes "y"; dir = dir.Output; range = None; bits = record { 0 = 1 } ∷ [] } ∷ [];
      nets = codes "a" ∷ codes "y" ∷ codes "n" ∷ [];
      items =
          item.Cell (record { name = Some (codes "i0"); cell = cell_ref.Library (record { 0 = 8 }); pins = signal.Net (record { 0 = 0 }) ∷ signal.Net (record { 0 = 2 }) ∷ [] }) ∷ item.Cell (record { name = Some (codes "i1"); cell = cell_ref.Library (record { 0 = 8 }); pins = signal.Net (record { 0 = 2 }) ∷ signal.Net (record { 0 = 1 }) ∷ [] }) ∷ [];
    }
    ∷ record {
      name = codes "m";
      ports = record { name = codes "c"; dir = dir.Input; range = None; bits = record { 0 = 0 } ∷ [] } ∷ record { name = codes "d"; dir = dir.Input; range = None; bits = record { 0 = 1 } ∷ [] } ∷ record { name = codes "q"; dir = dir.Output; range = None; bits = record { 0 = 2 } ∷ [] } ∷ [];
      nets = codes "c" ∷ codes "d" ∷ codes "q" ∷ codes "w" ∷ [];
      items =
          item.Sub (record { name = codes "u"; of = codes "inv2"; connections = record { place = record { line = 1; column = 147 }; port = codes "a"; signals = signal.Net (record { 0 = 1 }) ∷ [] } ∷ record { place = record { line = 1; column = 154 }; port = codes "y"; signals = signal.Net (record { 0 = 3 }) ∷ [] } ∷ [] }) ∷ item.Cell (record { name = Some (codes "f"); cell = cell_ref.Library (record { 0 = 5 }); pins = signal.Net (record { 0 = 0 }) ∷ signal.Net (record { 0 = 3 }) ∷ signal.Net (record { 0 = 2 }) ∷ signal.Unconnected ∷ [] }) ∷ [];
    }
    ∷ [])
unfolding comment_rest attribute_rest blank_len begins_blank to_blank word_kind mark_kind escaped quote directive lexeme kind_of bytes left next same_kind sees refusal expect after number rest_of_range range range_if_any digits constant followed rest_of_select selection named_operand constant_operand operand opening closing concatenations_from expression declared_name declared_names_from declared_names declaration port_item wire_item right_side net_assignment net_assignments_from net_assignments assign_item terminal input_terminals_from input_terminals terminals named_gate unnamed_gate one_gate gates_from gates gate_item connected_pin pin_signal pin_content named_connection named_connections_from named_connections connections instance instances_from instances cell_item item items_from items announced_name announced_names_from announced_names declared_port port_declaration_of port_declaration declared_ports_from declared_ports header_names header heading module_end place_after next_place words.reserved_words fmt.digits named_port port_content port_connection port_connections_from port_connections sub_instance sub_instances_from sub_instances sub_item module_item module_items_from module_items one_module next_module modules_from modules_of
two_modules = refl

pub in_itself :
    modules (codes "module m (a); input a; m u (.a(a)); endmodule")
    ≡ says
    (record {
      name = codes "m";
      ports = record { name = codes "a"; dir = dir.Input; range = None; bits = record { 0 = 0 } ∷ [] } ∷ [];
      nets = codes "a" ∷ [];
      items =
          item.Sub (record { name = codes "u"; of = codes "m"; connections = record { place = record { line = 1; column = 30 }; port = codes "a"; signals = signal.Net (record { 0 = 0 }) ∷ [] } ∷ [] }) ∷ [];
    }
    ∷ [])
unfolding comment_rest attribute_rest blank_len begins_blank to_blank word_kind mark_kind escaped quote directive lexeme kind_of bytes left next same_kind sees refusal expect after number rest_of_range range range_if_any digits constant followed rest_of_select selection named_operand constant_operand operand opening closing concatenations_from expression declared_name declared_names_from declared_names declaration port_item wire_item right_side net_assignment net_assignments_from net_assignments assign_item terminal input_terminals_from input_terminals terminals named_gate unnamed_gate one_gate gates_from gates gate_item connected_pin pin_signal pin_content named_connection named_connections_from named_connections connections instance instances_from instances cell_item item items_from items announced_name announced_names_from announced_names declared_port port_declaration_of port_declaration declared_ports_from declared_ports header_names header heading module_end place_after next_place words.reserved_words fmt.digits named_port port_content port_connection port_connections_from port_connections sub_instance sub_instances_from sub_instances sub_item module_item module_items_from module_items one_module next_module modules_from modules_of
in_itself = refl

pub undeclared_with_select : refused_at (codes "module t (y); output y; k u (.a(), .b({x, z[1:0]})), v (); wire v0; endmodule") ≡ refused (cause.Undeclared (codes "z")) 1 43
unfolding comment_rest attribute_rest blank_len begins_blank to_blank word_kind mark_kind escaped quote directive lexeme kind_of bytes left next same_kind sees refusal expect after number rest_of_range range range_if_any digits constant followed rest_of_select selection named_operand constant_operand operand opening closing concatenations_from expression declared_name declared_names_from declared_names declaration port_item wire_item right_side net_assignment net_assignments_from net_assignments assign_item terminal input_terminals_from input_terminals terminals named_gate unnamed_gate one_gate gates_from gates gate_item connected_pin pin_signal pin_content named_connection named_connections_from named_connections connections instance instances_from instances cell_item item items_from items announced_name announced_names_from announced_names declared_port port_declaration_of port_declaration declared_ports_from declared_ports header_names header heading module_end place_after next_place words.reserved_words fmt.digits named_port port_content port_connection port_connections_from port_connections sub_instance sub_instances_from sub_instances sub_item module_item module_items_from module_items one_module next_module modules_from modules_of
undeclared_with_select = refl

pub widths :
    modules (codes "module t (y); output y; wire [1:0] z; assign y = z[0]; k u (.a(), .b({x, z, 2'b01})), v (); not (x, y); assign z = 2'b10; endmodule")
    ≡ says
    (record {
      name = codes "t";
      ports = record { name = codes "y"; dir = dir.Output; range = None; bits = record { 0 = 0 } ∷ [] } ∷ [];
      nets = codes "y" ∷ codes "z[1]" ∷ codes "z[0]" ∷ codes "x" ∷ [];
      items =
          item.Join (record { target = record { 0 = 0 }; source = signal.Net (record { 0 = 2 }) }) ∷ item.Sub (record { name = codes "u"; of = codes "k"; connections = record { place = record { line = 1; column = 62 }; port = codes "a"; signals = [] } ∷ record { place = record { line = 1; column = 68 }; port = codes "b"; signals = signal.Net (record { 0 = 3 }) ∷ signal.Net (record { 0 = 1 }) ∷ signal.Net (record { 0 = 2 }) ∷ signal.Constant false ∷ signal.Constant true ∷ [] } ∷ [] }) ∷ item.Sub (record { name = codes "v"; of = codes "k"; connections = [] }) ∷ item.Join (record { target = record { 0 = 1 }; source = signal.Constant true }) ∷ item.Join (record { target = record { 0 = 2 }; source = signal.Constant false }) ∷ item.Cell (record { name = None; cell = cell_ref.Gate primitive.Inv 1; pins = signal.Net (record { 0 = 0 }) ∷ signal.Net (record { 0 = 3 }) ∷ [] }) ∷ [];
    }
    ∷ [])
unfolding comment_rest attribute_rest blank_len begins_blank to_blank word_kind mark_kind escaped quote directive lexeme kind_of bytes left next same_kind sees refusal expect after number rest_of_range range range_if_any digits constant followed rest_of_select selection named_operand constant_operand operand opening closing concatenations_from expression declared_name declared_names_from declared_names declaration port_item wire_item right_side net_assignment net_assignments_from net_assignments assign_item terminal input_terminals_from input_terminals terminals named_gate unnamed_gate one_gate gates_from gates gate_item connected_pin pin_signal pin_content named_connection named_connections_from named_connections connections instance instances_from instances cell_item item items_from items announced_name announced_names_from announced_names declared_port port_declaration_of port_declaration declared_ports_from declared_ports header_names header heading module_end place_after next_place words.reserved_words fmt.digits named_port port_content port_connection port_connections_from port_connections sub_instance sub_instances_from sub_instances sub_item module_item module_items_from module_items one_module next_module modules_from modules_of
widths = refl

pub joined_twice : refused_at (codes "module t; k u (.a(x), .a({})); endmodule") ≡ refused (cause.JoinedTwice (codes "a")) 1 24
unfolding comment_rest attribute_rest blank_len begins_blank to_blank word_kind mark_kind escaped quote directive lexeme kind_of bytes left next same_kind sees refusal expect after number rest_of_range range range_if_any digits constant followed rest_of_select selection named_operand constant_operand operand opening closing concatenations_from expression declared_name declared_names_from declared_names declaration port_item wire_item right_side net_assignment net_assignments_from net_assignments assign_item terminal input_terminals_from input_terminals terminals named_gate unnamed_gate one_gate gates_from gates gate_item connected_pin pin_signal pin_content named_connection named_connections_from named_connections connections instance instances_from instances cell_item item items_from items announced_name announced_names_from announced_names declared_port port_declaration_of port_declaration declared_ports_from declared_ports header_names header heading module_end place_after next_place words.reserved_words fmt.digits named_port port_content port_connection port_connections_from port_connections sub_instance sub_instances_from sub_instances sub_item module_item module_items_from module_items one_module next_module modules_from modules_of
joined_twice = refl

pub joined_twice_to_nothing : refused_at (codes "module t; k u (.a(), .a()); endmodule") ≡ refused (cause.JoinedTwice (codes "a")) 1 23
unfolding comment_rest attribute_rest blank_len begins_blank to_blank word_kind mark_kind escaped quote directive lexeme kind_of bytes left next same_kind sees refusal expect after number rest_of_range range range_if_any digits constant followed rest_of_select selection named_operand constant_operand operand opening closing concatenations_from expression declared_name declared_names_from declared_names declaration port_item wire_item right_side net_assignment net_assignments_from net_assignments assign_item terminal input_terminals_from input_terminals terminals named_gate unnamed_gate one_gate gates_from gates gate_item connected_pin pin_signal pin_content named_connection named_connections_from named_connections connections instance instances_from instances cell_item item items_from items announced_name announced_names_from announced_names declared_port port_declaration_of port_declaration declared_ports_from declared_ports header_names header heading module_end place_after next_place words.reserved_words fmt.digits named_port port_content port_connection port_connections_from port_connections sub_instance sub_instances_from sub_instances sub_item module_item module_items_from module_items one_module next_module modules_from modules_of
joined_twice_to_nothing = refl

pub instance_name_taken : refused_at (codes "module t; k u (), u (); endmodule") ≡ refused (cause.Taken (codes "u")) 1 19
unfolding comment_rest attribute_rest blank_len begins_blank to_blank word_kind mark_kind escaped quote directive lexeme kind_of bytes left next same_kind sees refusal expect after number rest_of_range range range_if_any digits constant followed rest_of_select selection named_operand constant_operand operand opening closing concatenations_from expression declared_name declared_names_from declared_names declaration port_item wire_item right_side net_assignment net_assignments_from net_assignments assign_item terminal input_terminals_from input_terminals terminals named_gate unnamed_gate one_gate gates_from gates gate_item connected_pin pin_signal pin_content named_connection named_connections_from named_connections connections instance instances_from instances cell_item item items_from items announced_name announced_names_from announced_names declared_port port_declaration_of port_declaration declared_ports_from declared_ports header_names header heading module_end place_after next_place words.reserved_words fmt.digits named_port port_content port_connection port_connections_from port_connections sub_instance sub_instances_from sub_instances sub_item module_item module_items_from module_items one_module next_module modules_from modules_of
instance_name_taken = refl

pub instance_is_no_net : refused_at (codes "module t; k u (.a(u)); endmodule") ≡ refused (cause.Taken (codes "u")) 1 19
unfolding comment_rest attribute_rest blank_len begins_blank to_blank word_kind mark_kind escaped quote directive lexeme kind_of bytes left next same_kind sees refusal expect after number rest_of_range range range_if_any digits constant followed rest_of_select selection named_operand constant_operand operand opening closing concatenations_from expression declared_name declared_names_from declared_names declaration port_item wire_item right_side net_assignment net_assignments_from net_assignments assign_item terminal input_terminals_from input_terminals terminals named_gate unnamed_gate one_gate gates_from gates gate_item connected_pin pin_signal pin_content named_connection named_connections_from named_connections connections instance instances_from instances cell_item item items_from items announced_name announced_names_from announced_names declared_port port_declaration_of port_declaration declared_ports_from declared_ports header_names header heading module_end place_after next_place words.reserved_words fmt.digits named_port port_content port_connection port_connections_from port_connections sub_instance sub_instances_from sub_instances sub_item module_item module_items_from module_items one_module next_module modules_from modules_of
instance_is_no_net = refl

pub name_of_a_module : refused_at (codes "module t; endmodule module t (; endmodule") ≡ repeated (codes "t")
unfolding comment_rest attribute_rest blank_len begins_blank to_blank word_kind mark_kind escaped quote directive lexeme kind_of bytes left next same_kind sees refusal expect after number rest_of_range range range_if_any digits constant followed rest_of_select selection named_operand constant_operand operand opening closing concatenations_from expression declared_name declared_names_from declared_names declaration port_item wire_item right_side net_assignment net_assignments_from net_assignments assign_item terminal input_terminals_from input_terminals terminals named_gate unnamed_gate one_gate gates_from gates gate_item connected_pin pin_signal pin_content named_connection named_connections_from named_connections connections instance instances_from instances cell_item item items_from items announced_name announced_names_from announced_names declared_port port_declaration_of port_declaration declared_ports_from declared_ports header_names header heading module_end place_after next_place words.reserved_words fmt.digits named_port port_content port_connection port_connections_from port_connections sub_instance sub_instances_from sub_instances sub_item module_item module_items_from module_items one_module next_module modules_from modules_of
name_of_a_module = refl

pub name_of_a_cell : refused_at (codes "module INV; endmodule") ≡ repeated (codes "INV")
unfolding comment_rest attribute_rest blank_len begins_blank to_blank word_kind mark_kind escaped quote directive lexeme kind_of bytes left next same_kind sees refusal expect after number rest_of_range range range_if_any digits constant followed rest_of_select selection named_operand constant_operand operand opening closing concatenations_from expression declared_name declared_names_from declared_names declaration port_item wire_item right_side net_assignment net_assignments_from net_assignments assign_item terminal input_terminals_from input_terminals terminals named_gate unnamed_gate one_gate gates_from gates gate_item connected_pin pin_signal pin_content named_connection named_connections_from named_connections connections instance instances_from instances cell_item item items_from items announced_name announced_names_from announced_names declared_port port_declaration_of port_declaration declared_ports_from declared_ports header_names header heading module_end place_after next_place words.reserved_words fmt.digits named_port port_content port_connection port_connections_from port_connections sub_instance sub_instances_from sub_instances sub_item module_item module_items_from module_items one_module next_module modules_from modules_of
name_of_a_cell = refl

pub fault_in_the_second : refused_at (codes "module a; endmodule module b; k u ( endmodule") ≡ refused (cause.Unsupported (codes "endmodule")) 1 37
unfolding comment_rest attribute_rest blank_len begins_blank to_blank word_kind mark_kind escaped quote directive lexeme kind_of bytes left next same_kind sees refusal expect after number rest_of_range range range_if_any digits constant followed rest_of_select selection named_operand constant_operand operand opening closing concatenations_from expression declared_name declared_names_from declared_names declaration port_item wire_item right_side net_assignment net_assignments_from net_assignments assign_item terminal input_terminals_from input_terminals terminals named_gate unnamed_gate one_gate gates_from gates gate_item connected_pin pin_signal pin_content named_connection named_connections_from named_connections connections instance instances_from instances cell_item item items_from items announced_name announced_names_from announced_names declared_port port_declaration_of port_declaration declared_ports_from declared_ports header_names header heading module_end place_after next_place words.reserved_words fmt.digits named_port port_content port_connection port_connections_from port_connections sub_instance sub_instances_from sub_instances sub_item module_item module_items_from module_items one_module next_module modules_from modules_of
fault_in_the_second = refl

pub no_module_behind : refused_at (codes "module a; endmodule wire") ≡ refused (cause.Unsupported (codes "wire")) 1 21
unfolding comment_rest attribute_rest blank_len begins_blank to_blank word_kind mark_kind escaped quote directive lexeme kind_of bytes left next same_kind sees refusal expect after number rest_of_range range range_if_any digits constant followed rest_of_select selection named_operand constant_operand operand opening closing concatenations_from expression declared_name declared_names_from declared_names declaration port_item wire_item right_side net_assignment net_assignments_from net_assignments assign_item terminal input_terminals_from input_terminals terminals named_gate unnamed_gate one_gate gates_from gates gate_item connected_pin pin_signal pin_content named_connection named_connections_from named_connections connections instance instances_from instances cell_item item items_from items announced_name announced_names_from announced_names declared_port port_declaration_of port_declaration declared_ports_from declared_ports header_names header heading module_end place_after next_place words.reserved_words fmt.digits named_port port_content port_connection port_connections_from port_connections sub_instance sub_instances_from sub_instances sub_item module_item module_items_from module_items one_module next_module modules_from modules_of
no_module_behind = refl

pub ends_in_the_second : refused_at (codes "module a; endmodule module") ≡ refused cause.Ended 1 27
unfolding comment_rest attribute_rest blank_len begins_blank to_blank word_kind mark_kind escaped quote directive lexeme kind_of bytes left next same_kind sees refusal expect after number rest_of_range range range_if_any digits constant followed rest_of_select selection named_operand constant_operand operand opening closing concatenations_from expression declared_name declared_names_from declared_names declaration port_item wire_item right_side net_assignment net_assignments_from net_assignments assign_item terminal input_terminals_from input_terminals terminals named_gate unnamed_gate one_gate gates_from gates gate_item connected_pin pin_signal pin_content named_connection named_connections_from named_connections connections instance instances_from instances cell_item item items_from items announced_name announced_names_from announced_names declared_port port_declaration_of port_declaration declared_ports_from declared_ports header_names header heading module_end place_after next_place words.reserved_words fmt.digits named_port port_content port_connection port_connections_from port_connections sub_instance sub_instances_from sub_instances sub_item module_item module_items_from module_items one_module next_module modules_from modules_of
ends_in_the_second = refl

pub the_first_fault : refused_at (codes "module a; INV u (.B(x)); endmodule module a") ≡ refused (cause.NoPin (codes "B")) 1 19
unfolding comment_rest attribute_rest blank_len begins_blank to_blank word_kind mark_kind escaped quote directive lexeme kind_of bytes left next same_kind sees refusal expect after number rest_of_range range range_if_any digits constant followed rest_of_select selection named_operand constant_operand operand opening closing concatenations_from expression declared_name declared_names_from declared_names declaration port_item wire_item right_side net_assignment net_assignments_from net_assignments assign_item terminal input_terminals_from input_terminals terminals named_gate unnamed_gate one_gate gates_from gates gate_item connected_pin pin_signal pin_content named_connection named_connections_from named_connections connections instance instances_from instances cell_item item items_from items announced_name announced_names_from announced_names declared_port port_declaration_of port_declaration declared_ports_from declared_ports header_names header heading module_end place_after next_place words.reserved_words fmt.digits named_port port_content port_connection port_connections_from port_connections sub_instance sub_instances_from sub_instances sub_item module_item module_items_from module_items one_module next_module modules_from modules_of
the_first_fault = refl

pub no_module : refused_at (codes "") ≡ refused cause.Ended 1 1
unfolding comment_rest attribute_rest blank_len begins_blank to_blank word_kind mark_kind escaped quote directive lexeme kind_of bytes left next same_kind sees refusal expect after number rest_of_range range range_if_any digits constant followed rest_of_select selection named_operand constant_operand operand opening closing concatenations_from expression declared_name declared_names_from declared_names declaration port_item wire_item right_side net_assignment net_assignments_from net_assignments assign_item terminal input_terminals_from input_terminals terminals named_gate unnamed_gate one_gate gates_from gates gate_item connected_pin pin_signal pin_content named_connection named_connections_from named_connections connections instance instances_from instances cell_item item items_from items announced_name announced_names_from announced_names declared_port port_declaration_of port_declaration declared_ports_from declared_ports header_names header heading module_end place_after next_place words.reserved_words fmt.digits named_port port_content port_connection port_connections_from port_connections sub_instance sub_instances_from sub_instances sub_item module_item module_items_from module_items one_module next_module modules_from modules_of
no_module = refl

pub by_order : refused_at (codes "module a; k u (x); endmodule") ≡ refused cause.Token 1 16
unfolding comment_rest attribute_rest blank_len begins_blank to_blank word_kind mark_kind escaped quote directive lexeme kind_of bytes left next same_kind sees refusal expect after number rest_of_range range range_if_any digits constant followed rest_of_select selection named_operand constant_operand operand opening closing concatenations_from expression declared_name declared_names_from declared_names declaration port_item wire_item right_side net_assignment net_assignments_from net_assignments assign_item terminal input_terminals_from input_terminals terminals named_gate unnamed_gate one_gate gates_from gates gate_item connected_pin pin_signal pin_content named_connection named_connections_from named_connections connections instance instances_from instances cell_item item items_from items announced_name announced_names_from announced_names declared_port port_declaration_of port_declaration declared_ports_from declared_ports header_names header heading module_end place_after next_place words.reserved_words fmt.digits named_port port_content port_connection port_connections_from port_connections sub_instance sub_instances_from sub_instances sub_item module_item module_items_from module_items one_module next_module modules_from modules_of
by_order = refl
