-- What accepted texts stand for, worked by hand: vectors, assignments and whole modules.
use Rattle.std.proofs.Common.{true, false, ◌≡◌, refl, codes, Some, None, [], ◌∷◌}
use Rattle.std.specs.Fmt as fmt
use Rattle.dft_base.specs.Words as words
use Rattle.dft_base.specs.Lexing.{place_after, next_place}
use Rattle.dft_cells.specs.declared.kind.Gate.TheVariants as primitive
use Rattle.dft_base.specs.declared.dir.Dir.TheVariants as dir
use Rattle.dft_netlist.specs.declared.instance.Signal.TheVariants as signal
use Rattle.dft_netlist.specs.declared.instance.CellRef.TheVariants as cell_ref
use Rattle.dft_netlist_text.specs.Lexemes.{comment_rest, attribute_rest, blank_len, begins_blank, to_blank, word_kind, mark_kind, escaped, quote, directive, lexeme}
use Rattle.dft_netlist_text.specs.Steps.{kind_of, bytes, left, next, same_kind, sees, refusal, expect, after}
use Rattle.dft_netlist_text.specs.Expressions.{number, rest_of_range, range, range_if_any, digits, constant, followed, rest_of_select, selection, named_operand, constant_operand, operand, opening, closing, concatenations_from, expression}
use Rattle.dft_netlist_text.specs.Items.{declared_name, declared_names_from, declared_names, declaration, port_item, wire_item, right_side, net_assignment, net_assignments_from, net_assignments, assign_item, terminal, input_terminals_from, input_terminals, terminals, named_gate, unnamed_gate, one_gate, gates_from, gates, gate_item, connected_pin, pin_signal, pin_content, named_connection, named_connections_from, named_connections, connections, instance, instances_from, instances, cell_item, item, items_from, items}
use Rattle.dft_netlist_text.specs.NetlistText.{announced_name, announced_names_from, announced_names, declared_port, port_declaration_of, port_declaration, declared_ports_from, declared_ports, header_names, header, heading, module_end, end_of_text, module_text, module_of, built}
use Rattle.dft_netlist_text.proofs.Outcomes.{netlist, reads}

pub modules_1 :
    netlist (codes "module m (a, y); output y; input a; and g (y, q, 1'b1, p), (r, {a}); nand (p, q, y); buf (q, 1'b0); not n (s, r); endmodule")
    ≡ reads (codes "m")
    (record { name = codes "a"; dir = dir.Input; range = None; bits = (record { 0 = 0 }) ∷ [] }
    ∷ record { name = codes "y"; dir = dir.Output; range = None; bits = (record { 0 = 1 }) ∷ [] }
    ∷ [])
    (codes "a" ∷ codes "y" ∷ codes "q" ∷ codes "p" ∷ codes "r" ∷ codes "s" ∷ [])
    (record { name = Some (codes "g"); cell = cell_ref.Gate primitive.And 3; pins = signal.Net (record { 0 = 2 }) ∷ signal.Constant true ∷ signal.Net (record { 0 = 3 }) ∷ signal.Net (record { 0 = 1 }) ∷ [] }
    ∷ record { name = None; cell = cell_ref.Gate primitive.And 1; pins = signal.Net (record { 0 = 0 }) ∷ signal.Net (record { 0 = 4 }) ∷ [] }
    ∷ record { name = None; cell = cell_ref.Gate primitive.Nand 2; pins = signal.Net (record { 0 = 2 }) ∷ signal.Net (record { 0 = 1 }) ∷ signal.Net (record { 0 = 3 }) ∷ [] }
    ∷ record { name = None; cell = cell_ref.Gate primitive.Buf 1; pins = signal.Constant false ∷ signal.Net (record { 0 = 2 }) ∷ [] }
    ∷ record { name = Some (codes "n"); cell = cell_ref.Gate primitive.Inv 1; pins = signal.Net (record { 0 = 4 }) ∷ signal.Net (record { 0 = 5 }) ∷ [] }
    ∷ [])
    []
unfolding comment_rest attribute_rest blank_len begins_blank to_blank word_kind mark_kind escaped quote directive lexeme kind_of bytes left next same_kind sees refusal expect after number rest_of_range range range_if_any digits constant followed rest_of_select selection named_operand constant_operand operand opening closing concatenations_from expression declared_name declared_names_from declared_names declaration port_item wire_item right_side net_assignment net_assignments_from net_assignments assign_item terminal input_terminals_from input_terminals terminals named_gate unnamed_gate one_gate gates_from gates gate_item connected_pin pin_signal pin_content named_connection named_connections_from named_connections connections instance instances_from instances cell_item item items_from items announced_name announced_names_from announced_names declared_port port_declaration_of port_declaration declared_ports_from declared_ports header_names header heading module_end end_of_text module_text module_of place_after next_place words.reserved_words fmt.digits built
modules_1 = refl

pub modules_2 :
    netlist (codes "module m (c); input c; MUX2 m (.Y(y), .S(c), .B(1'b1)); DFFR f (.Q(q), .QN(), .CK(c), .RN(1'b1), .D(y)); endmodule")
    ≡ reads (codes "m")
    (record { name = codes "c"; dir = dir.Input; range = None; bits = (record { 0 = 0 }) ∷ [] }
    ∷ [])
    (codes "c" ∷ codes "y" ∷ codes "q" ∷ [])
    (record { name = Some (codes "m"); cell = cell_ref.Library (record { 0 = 11 }); pins = signal.Unconnected ∷ signal.Constant true ∷ signal.Net (record { 0 = 0 }) ∷ signal.Net (record { 0 = 1 }) ∷ [] }
    ∷ record { name = Some (codes "f"); cell = cell_ref.Library (record { 0 = 6 }); pins = signal.Net (record { 0 = 0 }) ∷ signal.Net (record { 0 = 1 }) ∷ signal.Constant true ∷ signal.Net (record { 0 = 2 }) ∷ signal.Unconnected ∷ [] }
    ∷ [])
    []
unfolding comment_rest attribute_rest blank_len begins_blank to_blank word_kind mark_kind escaped quote directive lexeme kind_of bytes left next same_kind sees refusal expect after number rest_of_range range range_if_any digits constant followed rest_of_select selection named_operand constant_operand operand opening closing concatenations_from expression declared_name declared_names_from declared_names declaration port_item wire_item right_side net_assignment net_assignments_from net_assignments assign_item terminal input_terminals_from input_terminals terminals named_gate unnamed_gate one_gate gates_from gates gate_item connected_pin pin_signal pin_content named_connection named_connections_from named_connections connections instance instances_from instances cell_item item items_from items announced_name announced_names_from announced_names declared_port port_declaration_of port_declaration declared_ports_from declared_ports header_names header heading module_end end_of_text module_text module_of place_after next_place words.reserved_words fmt.digits built
modules_2 = refl

pub modules_3 :
    netlist (codes "module m (a); input a; wire \\cpu3 ; INV u (.A(a), .Y(\\cpu3 )); INV v (.A(cpu3), .Y(n)); endmodule")
    ≡ reads (codes "m")
    (record { name = codes "a"; dir = dir.Input; range = None; bits = (record { 0 = 0 }) ∷ [] }
    ∷ [])
    (codes "a" ∷ codes "cpu3" ∷ codes "n" ∷ [])
    (record { name = Some (codes "u"); cell = cell_ref.Library (record { 0 = 8 }); pins = signal.Net (record { 0 = 0 }) ∷ signal.Net (record { 0 = 1 }) ∷ [] }
    ∷ record { name = Some (codes "v"); cell = cell_ref.Library (record { 0 = 8 }); pins = signal.Net (record { 0 = 1 }) ∷ signal.Net (record { 0 = 2 }) ∷ [] }
    ∷ [])
    []
unfolding comment_rest attribute_rest blank_len begins_blank to_blank word_kind mark_kind escaped quote directive lexeme kind_of bytes left next same_kind sees refusal expect after number rest_of_range range range_if_any digits constant followed rest_of_select selection named_operand constant_operand operand opening closing concatenations_from expression declared_name declared_names_from declared_names declaration port_item wire_item right_side net_assignment net_assignments_from net_assignments assign_item terminal input_terminals_from input_terminals terminals named_gate unnamed_gate one_gate gates_from gates gate_item connected_pin pin_signal pin_content named_connection named_connections_from named_connections connections instance instances_from instances cell_item item items_from items announced_name announced_names_from announced_names declared_port port_declaration_of port_declaration declared_ports_from declared_ports header_names header heading module_end end_of_text module_text module_of place_after next_place words.reserved_words fmt.digits built
modules_3 = refl

pub modules_4 :
    netlist (codes "module m (d); input [2:0] d; wire [1:3] e; assign e[2:3] = d[1:0], e[1] = d[2:2], n = e[1]; endmodule")
    ≡ reads (codes "m")
    (record { name = codes "d"; dir = dir.Input; range = Some (record { left = 2; right = 0 }); bits = (record { 0 = 0 }) ∷ (record { 0 = 1 }) ∷ (record { 0 = 2 }) ∷ [] }
    ∷ [])
    (codes "d[2]" ∷ codes "d[1]" ∷ codes "d[0]" ∷ codes "e[1]" ∷ codes "e[2]" ∷ codes "e[3]" ∷ codes "n" ∷ [])
    []
    (record { target = (record { 0 = 4 }); source = signal.Net (record { 0 = 1 }) }
    ∷ record { target = (record { 0 = 5 }); source = signal.Net (record { 0 = 2 }) }
    ∷ record { target = (record { 0 = 3 }); source = signal.Net (record { 0 = 0 }) }
    ∷ record { target = (record { 0 = 6 }); source = signal.Net (record { 0 = 3 }) }
    ∷ [])
unfolding comment_rest attribute_rest blank_len begins_blank to_blank word_kind mark_kind escaped quote directive lexeme kind_of bytes left next same_kind sees refusal expect after number rest_of_range range range_if_any digits constant followed rest_of_select selection named_operand constant_operand operand opening closing concatenations_from expression declared_name declared_names_from declared_names declaration port_item wire_item right_side net_assignment net_assignments_from net_assignments assign_item terminal input_terminals_from input_terminals terminals named_gate unnamed_gate one_gate gates_from gates gate_item connected_pin pin_signal pin_content named_connection named_connections_from named_connections connections instance instances_from instances cell_item item items_from items announced_name announced_names_from announced_names declared_port port_declaration_of port_declaration declared_ports_from declared_ports header_names header heading module_end end_of_text module_text module_of place_after next_place words.reserved_words fmt.digits built
modules_4 = refl

pub modules_5 :
    netlist (codes "module m (clk, a, y); input clk, a; output y; NAND2 g0 (.A(a), .B(q4), .Y(d0)); DFF f0 (.CK(clk), .D(d0), .Q(q0)); DFF f1 (.CK(clk), .D(q0), .Q(q1)); DFF f2 (.CK(clk), .D(q1), .Q(q2)); DFF f3 (.CK(clk), .D(q2), .Q(q3)); DFF f4 (.CK(clk), .D(q3), .Q(q4)); INV g1 (.A(q4), .Y(y)); endmodule")
    ≡ reads (codes "m")
    (record { name = codes "clk"; dir = dir.Input; range = None; bits = (record { 0 = 0 }) ∷ [] }
    ∷ record { name = codes "a"; dir = dir.Input; range = None; bits = (record { 0 = 1 }) ∷ [] }
    ∷ record { name = codes "y"; dir = dir.Output; range = None; bits = (record { 0 = 2 }) ∷ [] }
    ∷ [])
    (codes "clk" ∷ codes "a" ∷ codes "y" ∷ codes "q4" ∷ codes "d0" ∷ codes "q0" ∷ codes "q1" ∷ codes "q2" ∷ codes "q3" ∷ [])
    (record { name = Some (codes "g0"); cell = cell_ref.Library (record { 0 = 12 }); pins = signal.Net (record { 0 = 1 }) ∷ signal.Net (record { 0 = 3 }) ∷ signal.Net (record { 0 = 4 }) ∷ [] }
    ∷ record { name = Some (codes "f0"); cell = cell_ref.Library (record { 0 = 5 }); pins = signal.Net (record { 0 = 0 }) ∷ signal.Net (record { 0 = 4 }) ∷ signal.Net (record { 0 = 5 }) ∷ signal.Unconnected ∷ [] }
    ∷ record { name = Some (codes "f1"); cell = cell_ref.Library (record { 0 = 5 }); pins = signal.Net (record { 0 = 0 }) ∷ signal.Net (record { 0 = 5 }) ∷ signal.Net (record { 0 = 6 }) ∷ signal.Unconnected ∷ [] }
    ∷ record { name = Some (codes "f2"); cell = cell_ref.Library (record { 0 = 5 }); pins = signal.Net (record { 0 = 0 }) ∷ signal.Net (record { 0 = 6 }) ∷ signal.Net (record { 0 = 7 }) ∷ signal.Unconnected ∷ [] }
    ∷ record { name = Some (codes "f3"); cell = cell_ref.Library (record { 0 = 5 }); pins = signal.Net (record { 0 = 0 }) ∷ signal.Net (record { 0 = 7 }) ∷ signal.Net (record { 0 = 8 }) ∷ signal.Unconnected ∷ [] }
    ∷ record { name = Some (codes "f4"); cell = cell_ref.Library (record { 0 = 5 }); pins = signal.Net (record { 0 = 0 }) ∷ signal.Net (record { 0 = 8 }) ∷ signal.Net (record { 0 = 3 }) ∷ signal.Unconnected ∷ [] }
    ∷ record { name = Some (codes "g1"); cell = cell_ref.Library (record { 0 = 8 }); pins = signal.Net (record { 0 = 3 }) ∷ signal.Net (record { 0 = 2 }) ∷ [] }
    ∷ [])
    []
unfolding comment_rest attribute_rest blank_len begins_blank to_blank word_kind mark_kind escaped quote directive lexeme kind_of bytes left next same_kind sees refusal expect after number rest_of_range range range_if_any digits constant followed rest_of_select selection named_operand constant_operand operand opening closing concatenations_from expression declared_name declared_names_from declared_names declaration port_item wire_item right_side net_assignment net_assignments_from net_assignments assign_item terminal input_terminals_from input_terminals terminals named_gate unnamed_gate one_gate gates_from gates gate_item connected_pin pin_signal pin_content named_connection named_connections_from named_connections connections instance instances_from instances cell_item item items_from items announced_name announced_names_from announced_names declared_port port_declaration_of port_declaration declared_ports_from declared_ports header_names header heading module_end end_of_text module_text module_of place_after next_place words.reserved_words fmt.digits built
modules_5 = refl

pub modules_6 :
    netlist (codes "module top (clk, rst_n, en, y, z); input clk, rst_n, en; output y; output [3:0] z; wire [1:0] q, d; assign z = 4'h0; BUF b0 (.A(rst_n), .Y(r0)); BUF b1 (.A(rst_n), .Y(r1)); AND2 e0 (.A(en), .B(q[0]), .Y(y)); XOR2 x0 (.A(q[0]), .B(q[1]), .Y(d[0])); (* keep = 1 *) DFFR \\r_reg[0] (.CK(clk), .D(d[0]), .RN(r0), .Q(q[0]), .QN()); XOR2 x1 (.A(q[1]), .B(q[0]), .Y(d[1])); (* keep = 1 *) DFFR \\r_reg[1] (.CK(clk), .D(d[1]), .RN(r1), .Q(q[1]), .QN()); endmodule")
    ≡ reads (codes "top")
    (record { name = codes "clk"; dir = dir.Input; range = None; bits = (record { 0 = 0 }) ∷ [] }
    ∷ record { name = codes "rst_n"; dir = dir.Input; range = None; bits = (record { 0 = 1 }) ∷ [] }
    ∷ record { name = codes "en"; dir = dir.Input; range = None; bits = (record { 0 = 2 }) ∷ [] }
    ∷ record { name = codes "y"; dir = dir.Output; range = None; bits = (record { 0 = 3 }) ∷ [] }
    ∷ record { name = codes "z"; dir = dir.Output; range = Some (record { left = 3; right = 0 }); bits = (record { 0 = 4 }) ∷ (record { 0 = 5 }) ∷ (record { 0 = 6 }) ∷ (record { 0 = 7 }) ∷ [] }
    ∷ [])
    (codes "clk" ∷ codes "rst_n" ∷ codes "en" ∷ codes "y" ∷ codes "z[3]" ∷ codes "z[2]" ∷ codes "z[1]" ∷ codes "z[0]" ∷ codes "q[1]" ∷ codes "q[0]" ∷ codes "d[1]" ∷ codes "d[0]" ∷ codes "r0" ∷ codes "r1" ∷ [])
    (record { name = Some (codes "b0"); cell = cell_ref.Library (record { 0 = 3 }); pins = signal.Net (record { 0 = 1 }) ∷ signal.Net (record { 0 = 12 }) ∷ [] }
    ∷ record { name = Some (codes "b1"); cell = cell_ref.Library (record { 0 = 3 }); pins = signal.Net (record { 0 = 1 }) ∷ signal.Net (record { 0 = 13 }) ∷ [] }
    ∷ record { name = Some (codes "e0"); cell = cell_ref.Library (record { 0 = 0 }); pins = signal.Net (record { 0 = 2 }) ∷ signal.Net (record { 0 = 9 }) ∷ signal.Net (record { 0 = 3 }) ∷ [] }
    ∷ record { name = Some (codes "x0"); cell = cell_ref.Library (record { 0 = 27 }); pins = signal.Net (record { 0 = 9 }) ∷ signal.Net (record { 0 = 8 }) ∷ signal.Net (record { 0 = 11 }) ∷ [] }
    ∷ record { name = Some (codes "r_reg[0]"); cell = cell_ref.Library (record { 0 = 6 }); pins = signal.Net (record { 0 = 0 }) ∷ signal.Net (record { 0 = 11 }) ∷ signal.Net (record { 0 = 12 }) ∷ signal.Net (record { 0 = 9 }) ∷ signal.Unconnected ∷ [] }
    ∷ record { name = Some (codes "x1"); cell = cell_ref.Library (record { 0 = 27 }); pins = signal.Net (record { 0 = 8 }) ∷ signal.Net (record { 0 = 9 }) ∷ signal.Net (record { 0 = 10 }) ∷ [] }
    ∷ record { name = Some (codes "r_reg[1]"); cell = cell_ref.Library (record { 0 = 6 }); pins = signal.Net (record { 0 = 0 }) ∷ signal.Net (record { 0 = 10 }) ∷ signal.Net (record { 0 = 13 }) ∷ signal.Net (record { 0 = 8 }) ∷ signal.Unconnected ∷ [] }
    ∷ [])
    (record { target = (record { 0 = 4 }); source = signal.Constant false }
    ∷ record { target = (record { 0 = 5 }); source = signal.Constant false }
    ∷ record { target = (record { 0 = 6 }); source = signal.Constant false }
    ∷ record { target = (record { 0 = 7 }); source = signal.Constant false }
    ∷ [])
unfolding comment_rest attribute_rest blank_len begins_blank to_blank word_kind mark_kind escaped quote directive lexeme kind_of bytes left next same_kind sees refusal expect after number rest_of_range range range_if_any digits constant followed rest_of_select selection named_operand constant_operand operand opening closing concatenations_from expression declared_name declared_names_from declared_names declaration port_item wire_item right_side net_assignment net_assignments_from net_assignments assign_item terminal input_terminals_from input_terminals terminals named_gate unnamed_gate one_gate gates_from gates gate_item connected_pin pin_signal pin_content named_connection named_connections_from named_connections connections instance instances_from instances cell_item item items_from items announced_name announced_names_from announced_names declared_port port_declaration_of port_declaration declared_ports_from declared_ports header_names header heading module_end end_of_text module_text module_of place_after next_place words.reserved_words fmt.digits built
modules_6 = refl
