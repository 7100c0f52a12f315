-- Netlist texts worked by hand: expressions.
use Rattle.std.proofs.Common.{◌≡◌, ◌++◌, refl, codes, None, [], ◌∷◌}
use Rattle.std.specs.Fmt as fmt
use Rattle.dft_base.specs.Words as words
use Rattle.dft_base.specs.Lexing.{place_after, next_place}
use Rattle.dft_netlist_text.specs.declared.text.Cause.TheVariants as cause
use Rattle.dft_netlist_text.specs.Lexemes.{comment_rest, attribute_rest, blank_len, begins_blank, to_blank, word_kind, mark_kind, escaped, quote, directive, lexeme}
use Rattle.dft_netlist_text.specs.Steps.{kind_of, bytes, left, next, same_kind, sees, refusal, expect, after}
use Rattle.dft_netlist_text.specs.Expressions.{number, rest_of_range, range, range_if_any, digits, constant, followed, rest_of_select, selection, named_operand, constant_operand, operand, opening, closing, concatenations_from, expression}
use Rattle.dft_netlist_text.specs.Items.{declared_name, declared_names_from, declared_names, declaration, port_item, wire_item, right_side, net_assignment, net_assignments_from, net_assignments, assign_item, terminal, input_terminals_from, input_terminals, terminals, named_gate, unnamed_gate, one_gate, gates_from, gates, gate_item, connected_pin, pin_signal, pin_content, named_connection, named_connections_from, named_connections, connections, instance, instances_from, instances, cell_item, item, items_from, items}
use Rattle.dft_netlist_text.specs.NetlistText.{announced_name, announced_names_from, announced_names, declared_port, port_declaration_of, port_declaration, declared_ports_from, declared_ports, header_names, header, heading, module_end, end_of_text, module_text, module_of}
use Rattle.dft_netlist_text.proofs.Outcomes.{outcome, refused}

pub expressions_1 :
    (outcome (codes "module m (a); input a; wire [1:0] d; assign \\d[0] = a;") ≡ refused (cause.Taken (codes "d[0]")) 1 45)
    × (outcome (codes "module m (a); input a; wire [1:0] d; wire n; assign n = \\d[0] [3];") ≡ refused (cause.Taken (codes "d[0]")) 1 57)
    × (outcome (codes "module m (a); input a; wire [1:0] d; and g (\\d[0] |") ≡ refused cause.Token 1 51)
    × (outcome (codes "module m (a); input a; wire [0:3] d; wire [1:0] e; assign e = d[1:2]; endmodule") ≡ None)
    × (outcome (codes "module m (a); input a; wire [0:3] d; wire [1:0] e; assign e = d[2:1]; endmodule") ≡ refused cause.Misfit 1 63)
    × (outcome (codes "module m (a); input a; wire [3:2] d; INV u (.A(d[1])); endmodule") ≡ refused cause.Misfit 1 48)
    × (outcome (codes "module m (a); input a; wire [3:0] d; INV u (.A(d[2:2])); endmodule") ≡ None)
    × (outcome (codes "module m (a); input [0:0] a; wire b; assign b = a; endmodule") ≡ None)
unfolding comment_rest attribute_rest blank_len begins_blank to_blank word_kind mark_kind escaped quote directive lexeme kind_of bytes left next same_kind sees refusal expect after number rest_of_range range range_if_any digits constant followed rest_of_select selection named_operand constant_operand operand opening closing concatenations_from expression declared_name declared_names_from declared_names declaration port_item wire_item right_side net_assignment net_assignments_from net_assignments assign_item terminal input_terminals_from input_terminals terminals named_gate unnamed_gate one_gate gates_from gates gate_item connected_pin pin_signal pin_content named_connection named_connections_from named_connections connections instance instances_from instances cell_item item items_from items announced_name announced_names_from announced_names declared_port port_declaration_of port_declaration declared_ports_from declared_ports header_names header heading module_end end_of_text module_text module_of place_after next_place words.reserved_words fmt.digits
expressions_1 = (refl, refl, refl, refl, refl, refl, refl, refl)

pub expressions_2 :
    (outcome (codes "module m (a); input a; wire [3:0] d; INV u (.A(d[3:2])); endmodule") ≡ refused cause.Misfit 1 45)
    × (outcome (codes "module m (a); input a; wire [3:0] d; INV u (.A(d[99999])); endmodule") ≡ refused cause.TooLarge 1 50)
    × (outcome (codes "module m (a); input a; wire [3:0] d; INV u (.A(d[4]);") ≡ refused cause.Misfit 1 48)
    × (outcome (codes "module m (a); input a; wire [3:0] d; INV u (.A(d[4];") ≡ refused cause.Token 1 52)
    × (outcome (codes "module m (a); input a; INV u (.A(u[0]));") ≡ refused (cause.Undeclared (codes "u")) 1 34)
    × (outcome (codes "module m (a); input a; INV u (.A({u}));") ≡ refused (cause.Taken (codes "u")) 1 35)
    × (outcome (codes "module m (a); input a; INV u (.A({a,u[0]}));") ≡ refused (cause.Undeclared (codes "u")) 1 37)
    × (outcome (codes "module m (a); input a; INV u (.A(zz), .Y(zz[0]));") ≡ refused cause.Misfit 1 42)
unfolding comment_rest attribute_rest blank_len begins_blank to_blank word_kind mark_kind escaped quote directive lexeme kind_of bytes left next same_kind sees refusal expect after number rest_of_range range range_if_any digits constant followed rest_of_select selection named_operand constant_operand operand opening closing concatenations_from expression declared_name declared_names_from declared_names declaration port_item wire_item right_side net_assignment net_assignments_from net_assignments assign_item terminal input_terminals_from input_terminals terminals named_gate unnamed_gate one_gate gates_from gates gate_item connected_pin pin_signal pin_content named_connection named_connections_from named_connections connections instance instances_from instances cell_item item items_from items announced_name announced_names_from announced_names declared_port port_declaration_of port_declaration declared_ports_from declared_ports header_names header heading module_end end_of_text module_text module_of place_after next_place words.reserved_words fmt.digits
expressions_2 = (refl, refl, refl, refl, refl, refl, refl, refl)

pub expressions_3 :
    (outcome (codes "module m (a); input a; INV u (.A({zz,zz[0]}));") ≡ refused cause.Misfit 1 38)
    × (outcome (codes "module m (a); input a; INV u (.A({zz,zz}));") ≡ refused cause.Misfit 1 31)
    × (outcome (codes "module m (a); input a; and (y, zz, zz[1]);") ≡ refused cause.Misfit 1 36)
    × (outcome (codes "module m (a); input a; assign zz = a, yy = zz; endmodule") ≡ None)
    × (outcome (codes "module m (a); input a; assign zz = yy, yy = a; endmodule") ≡ refused (cause.Undeclared (codes "yy")) 1 36)
    × (outcome (codes "module m (a); input a; assign zz; endmodule") ≡ refused cause.Token 1 33)
    × (outcome (codes "module m (a); input a; assign zz[0] = a; endmodule") ≡ refused (cause.Undeclared (codes "zz")) 1 31)
    × (outcome (codes "module m (a); input a; assign {a, {zz}} = 2'b0; endmodule") ≡ refused (cause.Undeclared (codes "zz")) 1 36)
unfolding comment_rest attribute_rest blank_len begins_blank to_blank word_kind mark_kind escaped quote directive lexeme kind_of bytes left next same_kind sees refusal expect after number rest_of_range range range_if_any digits constant followed rest_of_select selection named_operand constant_operand operand opening closing concatenations_from expression declared_name declared_names_from declared_names declaration port_item wire_item right_side net_assignment net_assignments_from net_assignments assign_item terminal input_terminals_from input_terminals terminals named_gate unnamed_gate one_gate gates_from gates gate_item connected_pin pin_signal pin_content named_connection named_connections_from named_connections connections instance instances_from instances cell_item item items_from items announced_name announced_names_from announced_names declared_port port_declaration_of port_declaration declared_ports_from declared_ports header_names header heading module_end end_of_text module_text module_of place_after next_place words.reserved_words fmt.digits
expressions_3 = (refl, refl, refl, refl, refl, refl, refl, refl)

pub expressions_4 :
    (outcome (codes "module m (a); input a; INV u (.A(a)); assign u = a; endmodule") ≡ refused (cause.Taken (codes "u")) 1 46)
    × (outcome (codes "module m (a); input a; INV u (.A(a)); assign {u} = a; endmodule") ≡ refused (cause.Undeclared (codes "u")) 1 47)
    × (outcome (codes "module m (a); input a; INV u (.A(a)); assign u[0] = a; endmodule") ≡ refused (cause.Undeclared (codes "u")) 1 46)
    × (outcome (codes "module m (a); input a; wire [1:0] d; assign d = {2{a}}; endmodule") ≡ refused cause.Token 1 51)
    × (outcome (codes "module m (a); input a; assign n = 3'b1, k = zz; endmodule") ≡ refused cause.Misfit 1 35)
    × (outcome (codes "module m (a); input a; assign n = {a,a}; endmodule") ≡ refused cause.Misfit 1 35)
    × (outcome (codes "module m (a); input a; wire [1:0] d; assign d = a; endmodule") ≡ refused cause.Misfit 1 49)
    × (outcome (codes "module m (a); input a; wire [1:0] d; assign d = a, n = zz; endmodule") ≡ refused cause.Misfit 1 49)
unfolding comment_rest attribute_rest blank_len begins_blank to_blank word_kind mark_kind escaped quote directive lexeme kind_of bytes left next same_kind sees refusal expect after number rest_of_range range range_if_any digits constant followed rest_of_select selection named_operand constant_operand operand opening closing concatenations_from expression declared_name declared_names_from declared_names declaration port_item wire_item right_side net_assignment net_assignments_from net_assignments assign_item terminal input_terminals_from input_terminals terminals named_gate unnamed_gate one_gate gates_from gates gate_item connected_pin pin_signal pin_content named_connection named_connections_from named_connections connections instance instances_from instances cell_item item items_from items announced_name announced_names_from announced_names declared_port port_declaration_of port_declaration declared_ports_from declared_ports header_names header heading module_end end_of_text module_text module_of place_after next_place words.reserved_words fmt.digits
expressions_4 = (refl, refl, refl, refl, refl, refl, refl, refl)

pub expressions_5 :
    (outcome (codes "module m (a); input a; assign n = a, = a; endmodule") ≡ refused cause.Token 1 38)
    × (outcome (codes "module m (a); input a; assign {} = a; endmodule") ≡ refused cause.Token 1 32)
    × (outcome (codes "module m (a); input a; assign {a,} = a; endmodule") ≡ refused cause.Token 1 34)
    × (outcome (codes "module m (a); input a; assign n = {a}[0]; endmodule") ≡ refused cause.Token 1 38)
    × (outcome (codes "module m (a); input a; assign n = a[0][0]; endmodule") ≡ refused cause.Token 1 39)
    × (outcome (codes "module m (a); input a; assign n = a[]; endmodule") ≡ refused cause.Token 1 37)
    × (outcome (codes "module m (a); input a; assign n = a[0:]; endmodule") ≡ refused cause.Token 1 39)
    × (outcome (codes "module m (a); input a; wire [3:0] d; assign n = d[1:0:2]; endmodule") ≡ refused cause.Token 1 54)
unfolding comment_rest attribute_rest blank_len begins_blank to_blank word_kind mark_kind escaped quote directive lexeme kind_of bytes left next same_kind sees refusal expect after number rest_of_range range range_if_any digits constant followed rest_of_select selection named_operand constant_operand operand opening closing concatenations_from expression declared_name declared_names_from declared_names declaration port_item wire_item right_side net_assignment net_assignments_from net_assignments assign_item terminal input_terminals_from input_terminals terminals named_gate unnamed_gate one_gate gates_from gates gate_item connected_pin pin_signal pin_content named_connection named_connections_from named_connections connections instance instances_from instances cell_item item items_from items announced_name announced_names_from announced_names declared_port port_declaration_of port_declaration declared_ports_from declared_ports header_names header heading module_end end_of_text module_text module_of place_after next_place words.reserved_words fmt.digits
expressions_5 = (refl, refl, refl, refl, refl, refl, refl, refl)

pub expressions_6 :
    (outcome (codes "module m (a); input a; assign n = a[0], zz[70000] = a; endmodule") ≡ refused cause.Misfit 1 35)
    × (outcome (codes "module m (a); input a; assign n = (a); endmodule") ≡ refused cause.Token 1 35)
    × (outcome (codes "module m (a); input a; assign n = ~a; endmodule") ≡ refused cause.Token 1 35)
    × (outcome (codes "module m (a); input a; INV u (.A(zz[0] /* x") ≡ refused cause.Ended 1 44)
    × (outcome (codes "module m (a); input a; INV u (.A(zz[0] " ++ ((1 ∷ []))) ≡ refused cause.Byte 1 40)
    × (outcome (codes "module m (a); input a; INV u (.A({a,a} '") ≡ refused cause.Ended 1 41)
    × (outcome (codes "module m (a); input a; INV u (.A({a,a} inout") ≡ refused cause.Inout 1 40)
    × (outcome (codes "module m (a); input a; INV u (.A({a,a} reg") ≡ refused (cause.Unsupported (codes "reg")) 1 40)
unfolding comment_rest attribute_rest blank_len begins_blank to_blank word_kind mark_kind escaped quote directive lexeme kind_of bytes left next same_kind sees refusal expect after number rest_of_range range range_if_any digits constant followed rest_of_select selection named_operand constant_operand operand opening closing concatenations_from expression declared_name declared_names_from declared_names declaration port_item wire_item right_side net_assignment net_assignments_from net_assignments assign_item terminal input_terminals_from input_terminals terminals named_gate unnamed_gate one_gate gates_from gates gate_item connected_pin pin_signal pin_content named_connection named_connections_from named_connections connections instance instances_from instances cell_item item items_from items announced_name announced_names_from announced_names declared_port port_declaration_of port_declaration declared_ports_from declared_ports header_names header heading module_end end_of_text module_text module_of place_after next_place words.reserved_words fmt.digits
expressions_6 = (refl, refl, refl, refl, refl, refl, refl, refl)

pub expressions_7 :
    (outcome (codes "module m (a); input a; INV u (.A({a,a}) /* x") ≡ refused cause.Misfit 1 31)
    × (outcome (codes "module m (a); input a; assign n = {zz module") ≡ refused (cause.Unsupported (codes "module")) 1 39)
    × (outcome (codes "module m (INV); input INV; INV A (.A(INV)); endmodule") ≡ None)
    × (outcome (codes "module m (a); INV u (.A(\\a[0] )); input [1:0] a; endmodule") ≡ refused (cause.Taken (codes "a[0]")) 1 47)
    × (outcome (codes "module m (a); INV \\a[0] (.A()); input [1:0] a; endmodule") ≡ refused (cause.Taken (codes "a[0]")) 1 45)
    × (outcome (codes "module m (a); input a; INV u (.A(a)), (.A(a)); endmodule") ≡ refused cause.Token 1 39)
    × (outcome (codes "module m (a); input a; and (y,a), g2 (z,a), (w,a); endmodule") ≡ None)
    × (outcome (codes "module m (a); input a; wire n; assign n = a[0:0]; endmodule") ≡ refused cause.Misfit 1 43)
unfolding comment_rest attribute_rest blank_len begins_blank to_blank word_kind mark_kind escaped quote directive lexeme kind_of bytes left next same_kind sees refusal expect after number rest_of_range range range_if_any digits constant followed rest_of_select selection named_operand constant_operand operand opening closing concatenations_from expression declared_name declared_names_from declared_names declaration port_item wire_item right_side net_assignment net_assignments_from net_assignments assign_item terminal input_terminals_from input_terminals terminals named_gate unnamed_gate one_gate gates_from gates gate_item connected_pin pin_signal pin_content named_connection named_connections_from named_connections connections instance instances_from instances cell_item item items_from items announced_name announced_names_from announced_names declared_port port_declaration_of port_declaration declared_ports_from declared_ports header_names header heading module_end end_of_text module_text module_of place_after next_place words.reserved_words fmt.digits
expressions_7 = (refl, refl, refl, refl, refl, refl, refl, refl)

pub expressions_8 :
    (outcome (codes "module m (a); input a; assign a[0] = a; endmodule") ≡ refused cause.Misfit 1 31)
    × (outcome (codes "module m (a); input a; wire [3:0] d; wire n; assign n = d[00002]; endmodule") ≡ None)
    × (outcome (codes "module m (a); input a; wire [3:0] d; wire n; assign n = d[000002]; endmodule") ≡ refused cause.TooLarge 1 59)
    × (outcome (codes "module m (a); input a; wire [3:0] d; assign {a[0], zz} = 2'b0; endmodule") ≡ refused cause.Misfit 1 46)
    × (outcome (codes "module m (a); input a; INV u (.A(u[99999])); endmodule") ≡ refused cause.TooLarge 1 36)
    × (outcome (codes "module m (a); input a; INV u (.A({{{a}}}})); endmodule") ≡ refused cause.Token 1 41)
    × (outcome (codes "module m (a); input a; INV u (.A({a}})); endmodule") ≡ refused cause.Token 1 37)
    × (outcome (codes "module m (a); input a; INV u (.A(a})); endmodule") ≡ refused cause.Token 1 35)
unfolding comment_rest attribute_rest blank_len begins_blank to_blank word_kind mark_kind escaped quote directive lexeme kind_of bytes left next same_kind sees refusal expect after number rest_of_range range range_if_any digits constant followed rest_of_select selection named_operand constant_operand operand opening closing concatenations_from expression declared_name declared_names_from declared_names declaration port_item wire_item right_side net_assignment net_assignments_from net_assignments assign_item terminal input_terminals_from input_terminals terminals named_gate unnamed_gate one_gate gates_from gates gate_item connected_pin pin_signal pin_content named_connection named_connections_from named_connections connections instance instances_from instances cell_item item items_from items announced_name announced_names_from announced_names declared_port port_declaration_of port_declaration declared_ports_from declared_ports header_names header heading module_end end_of_text module_text module_of place_after next_place words.reserved_words fmt.digits
expressions_8 = (refl, refl, refl, refl, refl, refl, refl, refl)

pub expressions_9 :
    (outcome (codes "module m (a); input a; INV u (.A({a)); endmodule") ≡ refused cause.Token 1 36)
    × (outcome (codes "module m (a); input a; assign n = {a,1'b0} , {zz,a} = 2'b0; endmodule") ≡ refused cause.Misfit 1 35)
    × (outcome (codes "module m (a); input a; assign {a,a} = {a,1'b0} , {zz,a} = 2'b0; endmodule") ≡ refused (cause.Undeclared (codes "zz")) 1 51)
    × (outcome (codes "module m (a); input a; INV u (.A(zz)); assign {zz} = a, {yy} = a; endmodule") ≡ refused (cause.Undeclared (codes "yy")) 1 58)
    × (outcome (codes "module m (a); wire n; assign n = a; input a; endmodule") ≡ refused (cause.Undeclared (codes "a")) 1 34)
    × (outcome (codes "module m (a); wire n; assign n = a[9]; endmodule") ≡ refused (cause.Undeclared (codes "a")) 1 34)
    × (outcome (codes "module m (a); wire n; assign {n,a} = 2'b0; endmodule") ≡ refused (cause.Undeclared (codes "a")) 1 33)
unfolding comment_rest attribute_rest blank_len begins_blank to_blank word_kind mark_kind escaped quote directive lexeme kind_of bytes left next same_kind sees refusal expect after number rest_of_range range range_if_any digits constant followed rest_of_select selection named_operand constant_operand operand opening closing concatenations_from expression declared_name declared_names_from declared_names declaration port_item wire_item right_side net_assignment net_assignments_from net_assignments assign_item terminal input_terminals_from input_terminals terminals named_gate unnamed_gate one_gate gates_from gates gate_item connected_pin pin_signal pin_content named_connection named_connections_from named_connections connections instance instances_from instances cell_item item items_from items announced_name announced_names_from announced_names declared_port port_declaration_of port_declaration declared_ports_from declared_ports header_names header heading module_end end_of_text module_text module_of place_after next_place words.reserved_words fmt.digits
expressions_9 = (refl, refl, refl, refl, refl, refl, refl)
