-- Netlist texts worked by hand: declarations.
use Rattle.std.proofs.Common.{◌≡◌, refl, codes, None}
use Rattle.std.specs.Fmt as fmt
use Rattle.dft_base.specs.Words as words
use Rattle.dft_base.specs.Lexing.{place_after, next_place}
use Rattle.dft_netlist_text.specs.declared.text.Cause.TheVariants as cause
use Rattle.dft_netlist_text.specs.Lexemes.{comment_rest, attribute_rest, blank_len, begins_blank, to_blank, word_kind, mark_kind, escaped, quote, directive, lexeme}
use Rattle.dft_netlist_text.specs.Steps.{kind_of, bytes, left, next, same_kind, sees, refusal, expect, after}
use Rattle.dft_netlist_text.specs.Expressions.{number, rest_of_range, range, range_if_any, digits, constant, followed, rest_of_select, selection, named_operand, constant_operand, operand, opening, closing, concatenations_from, expression}
use Rattle.dft_netlist_text.specs.Items.{declared_name, declared_names_from, declared_names, declaration, port_item, wire_item, right_side, net_assignment, net_assignments_from, net_assignments, assign_item, terminal, input_terminals_from, input_terminals, terminals, named_gate, unnamed_gate, one_gate, gates_from, gates, gate_item, connected_pin, pin_signal, pin_content, named_connection, named_connections_from, named_connections, connections, instance, instances_from, instances, cell_item, item, items_from, items}
use Rattle.dft_netlist_text.specs.NetlistText.{announced_name, announced_names_from, announced_names, declared_port, port_declaration_of, port_declaration, declared_ports_from, declared_ports, header_names, header, heading, module_end, end_of_text, module_text, module_of}
use Rattle.dft_netlist_text.proofs.Outcomes.{outcome, refused}

pub declarations_1 :
    (outcome (codes "module m (a, b); input [1:0] a; output b; wire [1:0] a, b; endmodule") ≡ refused (cause.Taken (codes "b")) 1 57)
    × (outcome (codes "module m (a); input [1:0] a; wire [0:1] a; endmodule") ≡ refused (cause.Taken (codes "a")) 1 41)
    × (outcome (codes "module m (a); input [1:0] a; wire a; endmodule") ≡ refused (cause.Taken (codes "a")) 1 35)
    × (outcome (codes "module m (a); input wire [1:0] a; wire [1:0] a; endmodule") ≡ None)
    × (outcome (codes "module m (a); input wire wire a;") ≡ refused (cause.Unsupported (codes "wire")) 1 26)
    × (outcome (codes "module m (a); input a wire;") ≡ refused (cause.Unsupported (codes "wire")) 1 23)
    × (outcome (codes "module m (a); input; endmodule") ≡ refused cause.Token 1 20)
    × (outcome (codes "module m (u, a); input a; INV u (.A(a));") ≡ refused (cause.Taken (codes "u")) 1 31)
unfolding comment_rest attribute_rest blank_len begins_blank to_blank word_kind mark_kind escaped quote directive lexeme kind_of bytes left next same_kind sees refusal expect after number rest_of_range range range_if_any digits constant followed rest_of_select selection named_operand constant_operand operand opening closing concatenations_from expression declared_name declared_names_from declared_names declaration port_item wire_item right_side net_assignment net_assignments_from net_assignments assign_item terminal input_terminals_from input_terminals terminals named_gate unnamed_gate one_gate gates_from gates gate_item connected_pin pin_signal pin_content named_connection named_connections_from named_connections connections instance instances_from instances cell_item item items_from items announced_name announced_names_from announced_names declared_port port_declaration_of port_declaration declared_ports_from declared_ports header_names header heading module_end end_of_text module_text module_of place_after next_place words.reserved_words fmt.digits
declarations_1 = (refl, refl, refl, refl, refl, refl, refl, refl)

pub declarations_2 :
    (outcome (codes "module m (y, a); input a; and (y, a); output y; endmodule") ≡ refused (cause.Undeclared (codes "y")) 1 32)
    × (outcome (codes "module m (y, a); input a; and (y[0], a);") ≡ refused (cause.Undeclared (codes "y")) 1 32)
    × (outcome (codes "module m (y, a); input a; assign y = a;") ≡ refused (cause.Undeclared (codes "y")) 1 34)
    × (outcome (codes "module m (y, a); input a; not y (n, a);") ≡ refused (cause.Taken (codes "y")) 1 31)
    × (outcome (codes "module m (a); input a; INV u (.A(a)); input u;") ≡ refused cause.Token 1 45)
    × (outcome (codes "module m (a); input a; wire [1:0] d; input \\d[0] ;") ≡ refused cause.Token 1 44)
    × (outcome (codes "module m; wire [1:0] d, d; endmodule") ≡ refused (cause.Taken (codes "d")) 1 25)
    × (outcome (codes "module m; wire \\d[0] , \\d[1] ; wire [1:0] d; endmodule") ≡ refused (cause.Taken (codes "d[1]")) 1 43)
unfolding comment_rest attribute_rest blank_len begins_blank to_blank word_kind mark_kind escaped quote directive lexeme kind_of bytes left next same_kind sees refusal expect after number rest_of_range range range_if_any digits constant followed rest_of_select selection named_operand constant_operand operand opening closing concatenations_from expression declared_name declared_names_from declared_names declaration port_item wire_item right_side net_assignment net_assignments_from net_assignments assign_item terminal input_terminals_from input_terminals terminals named_gate unnamed_gate one_gate gates_from gates gate_item connected_pin pin_signal pin_content named_connection named_connections_from named_connections connections instance instances_from instances cell_item item items_from items announced_name announced_names_from announced_names declared_port port_declaration_of port_declaration declared_ports_from declared_ports header_names header heading module_end end_of_text module_text module_of place_after next_place words.reserved_words fmt.digits
declarations_2 = (refl, refl, refl, refl, refl, refl, refl, refl)

pub declarations_3 :
    (outcome (codes "module m; wire \\d[0] , \\d[1] ; wire [0:1] d; endmodule") ≡ refused (cause.Taken (codes "d[0]")) 1 43)
    × (outcome (codes "module m; wire [1:0] d; wire \\d[1] ; endmodule") ≡ refused (cause.Taken (codes "d[1]")) 1 30)
    × (outcome (codes "module m; wire [1:0] d; wire \\d[2] , \\d[01] , \\d[1:0] ; endmodule") ≡ None)
    × (outcome (codes "module m; wire [3:0] \\x[1] ; wire \\x[1][2] ; endmodule") ≡ refused (cause.Taken (codes "x[1][2]")) 1 35)
    × (outcome (codes "module m (a); input a; wire [1:0] d; INV \\d[0] (.A(a)); endmodule") ≡ refused (cause.Taken (codes "d[0]")) 1 42)
    × (outcome (codes "module m (a); input a; INV \\d[0] (.A(a)); wire [1:0] d; endmodule") ≡ refused (cause.Taken (codes "d[0]")) 1 54)
    × (outcome (codes "module m (a); input a; INV u (.A(d)); wire d; endmodule") ≡ refused (cause.Taken (codes "d")) 1 44)
    × (outcome (codes "module m (a); input a; INV u (.A(d)); wire [1:0] d; endmodule") ≡ refused (cause.Taken (codes "d")) 1 50)
unfolding comment_rest attribute_rest blank_len begins_blank to_blank word_kind mark_kind escaped quote directive lexeme kind_of bytes left next same_kind sees refusal expect after number rest_of_range range range_if_any digits constant followed rest_of_select selection named_operand constant_operand operand opening closing concatenations_from expression declared_name declared_names_from declared_names declaration port_item wire_item right_side net_assignment net_assignments_from net_assignments assign_item terminal input_terminals_from input_terminals terminals named_gate unnamed_gate one_gate gates_from gates gate_item connected_pin pin_signal pin_content named_connection named_connections_from named_connections connections instance instances_from instances cell_item item items_from items announced_name announced_names_from announced_names declared_port port_declaration_of port_declaration declared_ports_from declared_ports header_names header heading module_end end_of_text module_text module_of place_after next_place words.reserved_words fmt.digits
declarations_3 = (refl, refl, refl, refl, refl, refl, refl, refl)

pub declarations_4 :
    (outcome (codes "module m (a); input a; INV u (.A(\\d[0] )); wire [1:0] d; endmodule") ≡ refused (cause.Taken (codes "d[0]")) 1 55)
    × (outcome (codes "module m (a); input a; wire [1:0] a; endmodule") ≡ refused (cause.Taken (codes "a")) 1 35)
    × (outcome (codes "module m (a); input a; wire b = a; endmodule") ≡ refused cause.Token 1 31)
    × (outcome (codes "module m (a); input a; wire b c; endmodule") ≡ refused cause.Token 1 31)
    × (outcome (codes "module m (a); input a; wire [1:0]; endmodule") ≡ refused cause.Token 1 34)
    × (outcome (codes "module m (a); input a; wire [1] b; endmodule") ≡ refused cause.Token 1 31)
    × (outcome (codes "module m (a); input a; wire [1:0][1:0] b; endmodule") ≡ refused cause.Token 1 34)
    × (outcome (codes "module m (a); input a; wire [a:0] b; endmodule") ≡ refused cause.Token 1 30)
unfolding comment_rest attribute_rest blank_len begins_blank to_blank word_kind mark_kind escaped quote directive lexeme kind_of bytes left next same_kind sees refusal expect after number rest_of_range range range_if_any digits constant followed rest_of_select selection named_operand constant_operand operand opening closing concatenations_from expression declared_name declared_names_from declared_names declaration port_item wire_item right_side net_assignment net_assignments_from net_assignments assign_item terminal input_terminals_from input_terminals terminals named_gate unnamed_gate one_gate gates_from gates gate_item connected_pin pin_signal pin_content named_connection named_connections_from named_connections connections instance instances_from instances cell_item item items_from items announced_name announced_names_from announced_names declared_port port_declaration_of port_declaration declared_ports_from declared_ports header_names header heading module_end end_of_text module_text module_of place_after next_place words.reserved_words fmt.digits
declarations_4 = (refl, refl, refl, refl, refl, refl, refl, refl)

pub declarations_5 :
    (outcome (codes "module m (a); input a; wire [65535:65535] b; endmodule") ≡ None)
    × (outcome (codes "module m (a); input a; wire [65536:0] b; endmodule") ≡ refused cause.TooLarge 1 30)
    × (outcome (codes "module m (a); input a; wire [1:70000] b; endmodule") ≡ refused cause.TooLarge 1 32)
    × (outcome (codes "module m (a); input a; wire [1:0 /* x") ≡ refused cause.Ended 1 38)
    × (outcome (codes "module m (a); input a; wire a /* x") ≡ refused cause.Ended 1 35)
    × (outcome (codes "module m (a); input a; wire a, a /* x") ≡ refused (cause.Taken (codes "a")) 1 32)
    × (outcome (codes "module m (a); input a; wire b /* x") ≡ refused cause.Ended 1 35)
    × (outcome (codes "module m (d); input [1:0] d; wire \\d[1] ;") ≡ refused (cause.Taken (codes "d[1]")) 1 35)
unfolding comment_rest attribute_rest blank_len begins_blank to_blank word_kind mark_kind escaped quote directive lexeme kind_of bytes left next same_kind sees refusal expect after number rest_of_range range range_if_any digits constant followed rest_of_select selection named_operand constant_operand operand opening closing concatenations_from expression declared_name declared_names_from declared_names declaration port_item wire_item right_side net_assignment net_assignments_from net_assignments assign_item terminal input_terminals_from input_terminals terminals named_gate unnamed_gate one_gate gates_from gates gate_item connected_pin pin_signal pin_content named_connection named_connections_from named_connections connections instance instances_from instances cell_item item items_from items announced_name announced_names_from announced_names declared_port port_declaration_of port_declaration declared_ports_from declared_ports header_names header heading module_end end_of_text module_text module_of place_after next_place words.reserved_words fmt.digits
declarations_5 = (refl, refl, refl, refl, refl, refl, refl, refl)

pub declarations_6 :
    (outcome (codes "module m (d); input [1:0] d; wire [1:0] \\d[1] ;") ≡ refused (cause.Taken (codes "d[1]")) 1 41)
    × (outcome (codes "module m (d); input [1:0] d; not \\d[0] (n, d[0]);") ≡ refused (cause.Taken (codes "d[0]")) 1 34)
    × (outcome (codes "module m (a); input [1:0] a; wire [1:0] a, a;") ≡ refused (cause.Taken (codes "a")) 1 44)
    × (outcome (codes "module m (a); input [1:0] zz, a;") ≡ refused cause.Token 1 27)
    × (outcome (codes "module m (a); input a; wire [1_0:0] b; endmodule") ≡ refused cause.Token 1 31)
unfolding comment_rest attribute_rest blank_len begins_blank to_blank word_kind mark_kind escaped quote directive lexeme kind_of bytes left next same_kind sees refusal expect after number rest_of_range range range_if_any digits constant followed rest_of_select selection named_operand constant_operand operand opening closing concatenations_from expression declared_name declared_names_from declared_names declaration port_item wire_item right_side net_assignment net_assignments_from net_assignments assign_item terminal input_terminals_from input_terminals terminals named_gate unnamed_gate one_gate gates_from gates gate_item connected_pin pin_signal pin_content named_connection named_connections_from named_connections connections instance instances_from instances cell_item item items_from items announced_name announced_names_from announced_names declared_port port_declaration_of port_declaration declared_ports_from declared_ports header_names header heading module_end end_of_text module_text module_of place_after next_place words.reserved_words fmt.digits
declarations_6 = (refl, refl, refl, refl, refl)
