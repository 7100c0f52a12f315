-- What accepted texts stand for, worked by hand: small modules.
use Rattle.std.proofs.Common.{true, false, ◌≡◌, refl, codes, Some, None, [], ◌∷◌}
use Rattle.std.specs.Fmt as fmt
use Rattle.dft_base.specs.Words as words
use Rattle.dft_base.specs.Lexing.{place_after, next_place}
use Rattle.dft_base.specs.declared.dir.Dir.TheVariants as dir
use Rattle.dft_netlist.specs.declared.instance.Signal.TheVariants as signal
use Rattle.dft_netlist.specs.declared.instance.CellRef.TheVariants as cell_ref
use Rattle.dft_netlist_text.specs.Lexemes.{comment_rest, attribute_rest, blank_len, begins_blank, to_blank, word_kind, mark_kind, escaped, quote, directive, lexeme}
use Rattle.dft_netlist_text.specs.Steps.{kind_of, bytes, left, next, same_kind, sees, refusal, expect, after}
use Rattle.dft_netlist_text.specs.Expressions.{number, rest_of_range, range, range_if_any, digits, constant, followed, rest_of_select, selection, named_operand, constant_operand, operand, opening, closing, concatenations_from, expression}
use Rattle.dft_netlist_text.specs.Items.{declared_name, declared_names_from, declared_names, declaration, port_item, wire_item, right_side, net_assignment, net_assignments_from, net_assignments, assign_item, terminal, input_terminals_from, input_terminals, terminals, named_gate, unnamed_gate, one_gate, gates_from, gates, gate_item, connected_pin, pin_signal, pin_content, named_connection, named_connections_from, named_connections, connections, instance, instances_from, instances, cell_item, item, items_from, items}
use Rattle.dft_netlist_text.specs.NetlistText.{announced_name, announced_names_from, announced_names, declared_port, port_declaration_of, port_declaration, declared_ports_from, declared_ports, header_names, header, heading, module_end, end_of_text, module_text, module_of, built}
use Rattle.dft_netlist_text.proofs.Outcomes.{netlist, reads}

pub netlists_1 :
    netlist (codes "module m (b, a); input [1:0] a; output b; wire w; INV u (.A(a[0]), .Y(n)); assign b = w; endmodule")
    ≡ reads (codes "m")
    (record { name = codes "b"; dir = dir.Output; range = None; bits = (record { 0 = 0 }) ∷ [] }
    ∷ record { name = codes "a"; dir = dir.Input; range = Some (record { left = 1; right = 0 }); bits = (record { 0 = 1 }) ∷ (record { 0 = 2 }) ∷ [] }
    ∷ [])
    (codes "b" ∷ codes "a[1]" ∷ codes "a[0]" ∷ codes "w" ∷ codes "n" ∷ [])
    (record { name = Some (codes "u"); cell = cell_ref.Library (record { 0 = 8 }); pins = signal.Net (record { 0 = 2 }) ∷ signal.Net (record { 0 = 4 }) ∷ [] }
    ∷ [])
    (record { target = (record { 0 = 0 }); source = signal.Net (record { 0 = 3 }) }
    ∷ [])
unfolding comment_rest attribute_rest blank_len begins_blank to_blank word_kind mark_kind escaped quote directive lexeme kind_of bytes left next same_kind sees refusal expect after number rest_of_range range range_if_any digits constant followed rest_of_select selection named_operand constant_operand operand opening closing concatenations_from expression declared_name declared_names_from declared_names declaration port_item wire_item right_side net_assignment net_assignments_from net_assignments assign_item terminal input_terminals_from input_terminals terminals named_gate unnamed_gate one_gate gates_from gates gate_item connected_pin pin_signal pin_content named_connection named_connections_from named_connections connections instance instances_from instances cell_item item items_from items announced_name announced_names_from announced_names declared_port port_declaration_of port_declaration declared_ports_from declared_ports header_names header heading module_end end_of_text module_text module_of place_after next_place words.reserved_words fmt.digits built
netlists_1 = refl

pub netlists_2 :
    netlist (codes "module m (input [0:1] a, b, output y); endmodule")
    ≡ reads (codes "m")
    (record { name = codes "a"; dir = dir.Input; range = Some (record { left = 0; right = 1 }); bits = (record { 0 = 0 }) ∷ (record { 0 = 1 }) ∷ [] }
    ∷ record { name = codes "b"; dir = dir.Input; range = Some (record { left = 0; right = 1 }); bits = (record { 0 = 2 }) ∷ (record { 0 = 3 }) ∷ [] }
    ∷ record { name = codes "y"; dir = dir.Output; range = None; bits = (record { 0 = 4 }) ∷ [] }
    ∷ [])
    (codes "a[0]" ∷ codes "a[1]" ∷ codes "b[0]" ∷ codes "b[1]" ∷ codes "y" ∷ [])
    []
    []
unfolding comment_rest attribute_rest blank_len begins_blank to_blank word_kind mark_kind escaped quote directive lexeme kind_of bytes left next same_kind sees refusal expect after number rest_of_range range range_if_any digits constant followed rest_of_select selection named_operand constant_operand operand opening closing concatenations_from expression declared_name declared_names_from declared_names declaration port_item wire_item right_side net_assignment net_assignments_from net_assignments assign_item terminal input_terminals_from input_terminals terminals named_gate unnamed_gate one_gate gates_from gates gate_item connected_pin pin_signal pin_content named_connection named_connections_from named_connections connections instance instances_from instances cell_item item items_from items announced_name announced_names_from announced_names declared_port port_declaration_of port_declaration declared_ports_from declared_ports header_names header heading module_end end_of_text module_text module_of place_after next_place words.reserved_words fmt.digits built
netlists_2 = refl

pub netlists_3 :
    netlist (codes "module m (input wire a, output [2:2] y, z, input wire [3:2] d); endmodule")
    ≡ reads (codes "m")
    (record { name = codes "a"; dir = dir.Input; range = None; bits = (record { 0 = 0 }) ∷ [] }
    ∷ record { name = codes "y"; dir = dir.Output; range = Some (record { left = 2; right = 2 }); bits = (record { 0 = 1 }) ∷ [] }
    ∷ record { name = codes "z"; dir = dir.Output; range = Some (record { left = 2; right = 2 }); bits = (record { 0 = 2 }) ∷ [] }
    ∷ record { name = codes "d"; dir = dir.Input; range = Some (record { left = 3; right = 2 }); bits = (record { 0 = 3 }) ∷ (record { 0 = 4 }) ∷ [] }
    ∷ [])
    (codes "a" ∷ codes "y[2]" ∷ codes "z[2]" ∷ codes "d[3]" ∷ codes "d[2]" ∷ [])
    []
    []
unfolding comment_rest attribute_rest blank_len begins_blank to_blank word_kind mark_kind escaped quote directive lexeme kind_of bytes left next same_kind sees refusal expect after number rest_of_range range range_if_any digits constant followed rest_of_select selection named_operand constant_operand operand opening closing concatenations_from expression declared_name declared_names_from declared_names declaration port_item wire_item right_side net_assignment net_assignments_from net_assignments assign_item terminal input_terminals_from input_terminals terminals named_gate unnamed_gate one_gate gates_from gates gate_item connected_pin pin_signal pin_content named_connection named_connections_from named_connections connections instance instances_from instances cell_item item items_from items announced_name announced_names_from announced_names declared_port port_declaration_of port_declaration declared_ports_from declared_ports header_names header heading module_end end_of_text module_text module_of place_after next_place words.reserved_words fmt.digits built
netlists_3 = refl

pub netlists_4 :
    netlist (codes "module \\m-1 (a); wire w; input a; wire a; INV \\u/1 (.Y(n)), v (.Y(w), .A(n)); endmodule")
    ≡ reads (codes "m-1")
    (record { name = codes "a"; dir = dir.Input; range = None; bits = (record { 0 = 0 }) ∷ [] }
    ∷ [])
    (codes "a" ∷ codes "w" ∷ codes "n" ∷ [])
    (record { name = Some (codes "u/1"); cell = cell_ref.Library (record { 0 = 8 }); pins = signal.Unconnected ∷ signal.Net (record { 0 = 2 }) ∷ [] }
    ∷ record { name = Some (codes "v"); cell = cell_ref.Library (record { 0 = 8 }); pins = signal.Net (record { 0 = 2 }) ∷ signal.Net (record { 0 = 1 }) ∷ [] }
    ∷ [])
    []
unfolding comment_rest attribute_rest blank_len begins_blank to_blank word_kind mark_kind escaped quote directive lexeme kind_of bytes left next same_kind sees refusal expect after number rest_of_range range range_if_any digits constant followed rest_of_select selection named_operand constant_operand operand opening closing concatenations_from expression declared_name declared_names_from declared_names declaration port_item wire_item right_side net_assignment net_assignments_from net_assignments assign_item terminal input_terminals_from input_terminals terminals named_gate unnamed_gate one_gate gates_from gates gate_item connected_pin pin_signal pin_content named_connection named_connections_from named_connections connections instance instances_from instances cell_item item items_from items announced_name announced_names_from announced_names declared_port port_declaration_of port_declaration declared_ports_from declared_ports header_names header heading module_end end_of_text module_text module_of place_after next_place words.reserved_words fmt.digits built
netlists_4 = refl

pub netlists_5 :
    netlist (codes "module m (a); input [3:0] a; wire x; wire [0:1] w; assign {x, w} = {a[2], 2'b10}, w[1] = a[0]; assign {{w[0]}} = 1'h3; endmodule")
    ≡ reads (codes "m")
    (record { name = codes "a"; dir = dir.Input; range = Some (record { left = 3; right = 0 }); bits = (record { 0 = 0 }) ∷ (record { 0 = 1 }) ∷ (record { 0 = 2 }) ∷ (record { 0 = 3 }) ∷ [] }
    ∷ [])
    (codes "a[3]" ∷ codes "a[2]" ∷ codes "a[1]" ∷ codes "a[0]" ∷ codes "x" ∷ codes "w[0]" ∷ codes "w[1]" ∷ [])
    []
    (record { target = (record { 0 = 4 }); source = signal.Net (record { 0 = 1 }) }
    ∷ record { target = (record { 0 = 5 }); source = signal.Constant true }
    ∷ record { target = (record { 0 = 6 }); source = signal.Constant false }
    ∷ record { target = (record { 0 = 6 }); source = signal.Net (record { 0 = 3 }) }
    ∷ record { target = (record { 0 = 5 }); source = signal.Constant true }
    ∷ [])
unfolding comment_rest attribute_rest blank_len begins_blank to_blank word_kind mark_kind escaped quote directive lexeme kind_of bytes left next same_kind sees refusal expect after number rest_of_range range range_if_any digits constant followed rest_of_select selection named_operand constant_operand operand opening closing concatenations_from expression declared_name declared_names_from declared_names declaration port_item wire_item right_side net_assignment net_assignments_from net_assignments assign_item terminal input_terminals_from input_terminals terminals named_gate unnamed_gate one_gate gates_from gates gate_item connected_pin pin_signal pin_content named_connection named_connections_from named_connections connections instance instances_from instances cell_item item items_from items announced_name announced_names_from announced_names declared_port port_declaration_of port_declaration declared_ports_from declared_ports header_names header heading module_end end_of_text module_text module_of place_after next_place words.reserved_words fmt.digits built
netlists_5 = refl

pub netlists_6 :
    netlist (codes "module m (z); output [3:0] z; assign z = 4'hA; endmodule")
    ≡ reads (codes "m")
    (record { name = codes "z"; dir = dir.Output; range = Some (record { left = 3; right = 0 }); bits = (record { 0 = 0 }) ∷ (record { 0 = 1 }) ∷ (record { 0 = 2 }) ∷ (record { 0 = 3 }) ∷ [] }
    ∷ [])
    (codes "z[3]" ∷ codes "z[2]" ∷ codes "z[1]" ∷ codes "z[0]" ∷ [])
    []
    (record { target = (record { 0 = 0 }); source = signal.Constant true }
    ∷ record { target = (record { 0 = 1 }); source = signal.Constant false }
    ∷ record { target = (record { 0 = 2 }); source = signal.Constant true }
    ∷ record { target = (record { 0 = 3 }); source = signal.Constant false }
    ∷ [])
unfolding comment_rest attribute_rest blank_len begins_blank to_blank word_kind mark_kind escaped quote directive lexeme kind_of bytes left next same_kind sees refusal expect after number rest_of_range range range_if_any digits constant followed rest_of_select selection named_operand constant_operand operand opening closing concatenations_from expression declared_name declared_names_from declared_names declaration port_item wire_item right_side net_assignment net_assignments_from net_assignments assign_item terminal input_terminals_from input_terminals terminals named_gate unnamed_gate one_gate gates_from gates gate_item connected_pin pin_signal pin_content named_connection named_connections_from named_connections connections instance instances_from instances cell_item item items_from items announced_name announced_names_from announced_names declared_port port_declaration_of port_declaration declared_ports_from declared_ports header_names header heading module_end end_of_text module_text module_of place_after next_place words.reserved_words fmt.digits built
netlists_6 = refl

pub netlists_7 :
    netlist (codes "module m (z); output [1:4] z; assign z[2:4] = 3'd9, z[1] = 1'o6; endmodule")
    ≡ reads (codes "m")
    (record { name = codes "z"; dir = dir.Output; range = Some (record { left = 1; right = 4 }); bits = (record { 0 = 0 }) ∷ (record { 0 = 1 }) ∷ (record { 0 = 2 }) ∷ (record { 0 = 3 }) ∷ [] }
    ∷ [])
    (codes "z[1]" ∷ codes "z[2]" ∷ codes "z[3]" ∷ codes "z[4]" ∷ [])
    []
    (record { target = (record { 0 = 1 }); source = signal.Constant false }
    ∷ record { target = (record { 0 = 2 }); source = signal.Constant false }
    ∷ record { target = (record { 0 = 3 }); source = signal.Constant true }
    ∷ record { target = (record { 0 = 0 }); source = signal.Constant false }
    ∷ [])
unfolding comment_rest attribute_rest blank_len begins_blank to_blank word_kind mark_kind escaped quote directive lexeme kind_of bytes left next same_kind sees refusal expect after number rest_of_range range range_if_any digits constant followed rest_of_select selection named_operand constant_operand operand opening closing concatenations_from expression declared_name declared_names_from declared_names declaration port_item wire_item right_side net_assignment net_assignments_from net_assignments assign_item terminal input_terminals_from input_terminals terminals named_gate unnamed_gate one_gate gates_from gates gate_item connected_pin pin_signal pin_content named_connection named_connections_from named_connections connections instance instances_from instances cell_item item items_from items announced_name announced_names_from announced_names declared_port port_declaration_of port_declaration declared_ports_from declared_ports header_names header heading module_end end_of_text module_text module_of place_after next_place words.reserved_words fmt.digits built
netlists_7 = refl

pub netlists_8 :
    netlist (codes "module m (z); output [7:0] z; assign z = {3'd1_0, 4'B_11, 1'O7}; endmodule")
    ≡ reads (codes "m")
    (record { name = codes "z"; dir = dir.Output; range = Some (record { left = 7; right = 0 }); bits = (record { 0 = 0 }) ∷ (record { 0 = 1 }) ∷ (record { 0 = 2 }) ∷ (record { 0 = 3 }) ∷ (record { 0 = 4 }) ∷ (record { 0 = 5 }) ∷ (record { 0 = 6 }) ∷ (record { 0 = 7 }) ∷ [] }
    ∷ [])
    (codes "z[7]" ∷ codes "z[6]" ∷ codes "z[5]" ∷ codes "z[4]" ∷ codes "z[3]" ∷ codes "z[2]" ∷ codes "z[1]" ∷ codes "z[0]" ∷ [])
    []
    (record { target = (record { 0 = 0 }); source = signal.Constant false }
    ∷ record { target = (record { 0 = 1 }); source = signal.Constant true }
    ∷ record { target = (record { 0 = 2 }); source = signal.Constant false }
    ∷ record { target = (record { 0 = 3 }); source = signal.Constant false }
    ∷ record { target = (record { 0 = 4 }); source = signal.Constant false }
    ∷ record { target = (record { 0 = 5 }); source = signal.Constant true }
    ∷ record { target = (record { 0 = 6 }); source = signal.Constant true }
    ∷ record { target = (record { 0 = 7 }); source = signal.Constant true }
    ∷ [])
unfolding comment_rest attribute_rest blank_len begins_blank to_blank word_kind mark_kind escaped quote directive lexeme kind_of bytes left next same_kind sees refusal expect after number rest_of_range range range_if_any digits constant followed rest_of_select selection named_operand constant_operand operand opening closing concatenations_from expression declared_name declared_names_from declared_names declaration port_item wire_item right_side net_assignment net_assignments_from net_assignments assign_item terminal input_terminals_from input_terminals terminals named_gate unnamed_gate one_gate gates_from gates gate_item connected_pin pin_signal pin_content named_connection named_connections_from named_connections connections instance instances_from instances cell_item item items_from items announced_name announced_names_from announced_names declared_port port_declaration_of port_declaration declared_ports_from declared_ports header_names header heading module_end end_of_text module_text module_of place_after next_place words.reserved_words fmt.digits built
netlists_8 = refl
