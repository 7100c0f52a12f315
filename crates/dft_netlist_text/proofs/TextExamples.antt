-- Netlist texts worked by hand.
use Rattle.std.proofs.Common.{◌≡◌, ◌++◌, refl, codes, None, [], ◌∷◌}
use Rattle.std.specs.Fmt as fmt
use Rattle.dft_base.specs.Words as words
use Rattle.dft_base.specs.Lexing.{place_after, next_place}
use Rattle.dft_netlist_text.specs.declared.text.Cause.TheVariants as cause
use Rattle.dft_netlist_text.specs.Lexemes.{comment_rest, attribute_rest, blank_len, begins_blank, to_blank, word_kind, mark_kind, escaped, quote, directive, lexeme}
use Rattle.dft_netlist_text.specs.Steps.{kind_of, bytes, left, next, same_kind, sees, refusal, expect, after}
use Rattle.dft_netlist_text.specs.Expressions.{number, rest_of_range, range, range_if_any, digits, constant, followed, rest_of_select, selection, named_operand, constant_operand, operand, opening, closing, concatenations_from, expression}
use Rattle.dft_netlist_text.specs.Items.{declared_name, declared_names_from, declared_names, declaration, port_item, wire_item, right_side, net_assignment, net_assignments_from, net_assignments, assign_item, terminal, input_terminals_from, input_terminals, terminals, named_gate, unnamed_gate, one_gate, gates_from, gates, gate_item, connected_pin, pin_signal, pin_content, named_connection, named_connections_from, named_connections, connections, instance, instances_from, instances, cell_item, item, items_from, items}
use Rattle.dft_netlist_text.specs.NetlistText.{announced_name, announced_names_from, announced_names, declared_port, port_declaration_of, port_declaration, declared_ports_from, declared_ports, header_names, header, heading, module_end, end_of_text, module_text, module_of}
use Rattle.dft_netlist_text.proofs.Outcomes.{outcome, refused}

pub worked_1 :
    (outcome (codes "module m (a); input a; endmodule") ≡ None)
    × (outcome (codes "module m; endmodule") ≡ None)
    × (outcome (codes "module m (); endmodule") ≡ None)
    × (outcome (codes "module m (a); /* x") ≡ refused cause.Ended 1 19)
    × (outcome (codes "module m (a); input a; INV u (.A(") ≡ refused cause.Ended 1 34)
    × (outcome (codes "module m; endmodule /* x") ≡ refused cause.Ended 1 25)
    × (outcome (codes "module m; endmodule (* x \" *) ") ≡ refused cause.Ended 1 31)
    × (outcome (codes "module m; endmodule (* x \" *) \" *) // y") ≡ None)
unfolding comment_rest attribute_rest blank_len begins_blank to_blank word_kind mark_kind escaped quote directive lexeme kind_of bytes left next same_kind sees refusal expect after number rest_of_range range range_if_any digits constant followed rest_of_select selection named_operand constant_operand operand opening closing concatenations_from expression declared_name declared_names_from declared_names declaration port_item wire_item right_side net_assignment net_assignments_from net_assignments assign_item terminal input_terminals_from input_terminals terminals named_gate unnamed_gate one_gate gates_from gates gate_item connected_pin pin_signal pin_content named_connection named_connections_from named_connections connections instance instances_from instances cell_item item items_from items announced_name announced_names_from announced_names declared_port port_declaration_of port_declaration declared_ports_from declared_ports header_names header heading module_end end_of_text module_text module_of place_after next_place words.reserved_words fmt.digits
worked_1 = (refl, refl, refl, refl, refl, refl, refl, refl)

pub worked_2 :
    (outcome (codes "module m; endmodule " ++ ((1 ∷ []))) ≡ refused cause.Byte 1 21)
    × (outcome (codes "module m (a); input a; wire \\cpu3 ; wire cpu3; endmodule") ≡ refused (cause.Taken (codes "cpu3")) 1 42)
    × (outcome (codes "module m (a); input a; wire \\cpu3 ; INV u (.A(a), .Y(\\cpu3 )); INV v (.A(cpu3), .Y(n)); endmodule") ≡ None)
    × (outcome (codes "module \\ m; endmodule") ≡ refused cause.Token 1 8)
    × (outcome (codes "module m; wire \\a" ++ ((2 ∷ []) ++ (codes "b ; endmodule"))) ≡ refused cause.Byte 1 18)
    × (outcome (codes "module m; `include/*c*/x") ≡ refused (cause.Unsupported (codes "`include")) 1 11)
    × (outcome (codes "module m #(*k*) ;") ≡ refused (cause.Unsupported (codes "#")) 1 10)
    × (outcome (codes "`timescale 1ns/1ps\n`resetall\nmodule m; endmodule") ≡ None)
unfolding comment_rest attribute_rest blank_len begins_blank to_blank word_kind mark_kind escaped quote directive lexeme kind_of bytes left next same_kind sees refusal expect after number rest_of_range range range_if_any digits constant followed rest_of_select selection named_operand constant_operand operand opening closing concatenations_from expression declared_name declared_names_from declared_names declaration port_item wire_item right_side net_assignment net_assignments_from net_assignments assign_item terminal input_terminals_from input_terminals terminals named_gate unnamed_gate one_gate gates_from gates gate_item connected_pin pin_signal pin_content named_connection named_connections_from named_connections connections instance instances_from instances cell_item item items_from items announced_name announced_names_from announced_names declared_port port_declaration_of port_declaration declared_ports_from declared_ports header_names header heading module_end end_of_text module_text module_of place_after next_place words.reserved_words fmt.digits
worked_2 = (refl, refl, refl, refl, refl, refl, refl, refl)

pub worked_3 :
    (outcome (codes "`timescale 1ns" ++ ((128 ∷ []) ++ (codes "\nmodule m; endmodule"))) ≡ refused cause.Byte 1 15)
    × (outcome (codes "`timescalex\nmodule m; endmodule") ≡ refused (cause.Unsupported (codes "`timescalex")) 1 1)
    × (outcome (codes "module m (a, a); input a; endmodule") ≡ refused (cause.Taken (codes "a")) 1 14)
    × (outcome (codes "module m (a); endmodule") ≡ refused (cause.Undeclared (codes "a")) 1 15)
    × (outcome (codes "module m (a); input b; endmodule") ≡ refused cause.Token 1 21)
    × (outcome (codes "module m; input b; endmodule") ≡ refused cause.Token 1 17)
    × (outcome (codes "module m (a); input a; input a; endmodule") ≡ refused (cause.Taken (codes "a")) 1 30)
    × (outcome (codes "module m (input a, b, output wire [1:0] y); endmodule") ≡ None)
unfolding comment_rest attribute_rest blank_len begins_blank to_blank word_kind mark_kind escaped quote directive lexeme kind_of bytes left next same_kind sees refusal expect after number rest_of_range range range_if_any digits constant followed rest_of_select selection named_operand constant_operand operand opening closing concatenations_from expression declared_name declared_names_from declared_names declaration port_item wire_item right_side net_assignment net_assignments_from net_assignments assign_item terminal input_terminals_from input_terminals terminals named_gate unnamed_gate one_gate gates_from gates gate_item connected_pin pin_signal pin_content named_connection named_connections_from named_connections connections instance instances_from instances cell_item item items_from items announced_name announced_names_from announced_names declared_port port_declaration_of port_declaration declared_ports_from declared_ports header_names header heading module_end end_of_text module_text module_of place_after next_place words.reserved_words fmt.digits
worked_3 = (refl, refl, refl, refl, refl, refl, refl, refl)

pub worked_4 :
    (outcome (codes "module m (a, input b); endmodule") ≡ refused (cause.Unsupported (codes "input")) 1 14)
    × (outcome (codes "module m (input a); input a; endmodule") ≡ refused (cause.Taken (codes "a")) 1 27)
    × (outcome (codes "module m (input a); wire a; endmodule") ≡ None)
    × (outcome (codes "module m (input a); wire a; wire a; endmodule") ≡ refused (cause.Taken (codes "a")) 1 34)
    × (outcome (codes "module m (a); input a; wire [0:0] a; endmodule") ≡ refused (cause.Taken (codes "a")) 1 35)
    × (outcome (codes "module m (a); input [3:0] a; wire [3:0] a; endmodule") ≡ None)
    × (outcome (codes "module m (a); wire a; input a; endmodule") ≡ refused (cause.Taken (codes "a")) 1 20)
    × (outcome (codes "module m (a); wire zz; input zz; endmodule") ≡ refused cause.Token 1 30)
unfolding comment_rest attribute_rest blank_len begins_blank to_blank word_kind mark_kind escaped quote directive lexeme kind_of bytes left next same_kind sees refusal expect after number rest_of_range range range_if_any digits constant followed rest_of_select selection named_operand constant_operand operand opening closing concatenations_from expression declared_name declared_names_from declared_names declaration port_item wire_item right_side net_assignment net_assignments_from net_assignments assign_item terminal input_terminals_from input_terminals terminals named_gate unnamed_gate one_gate gates_from gates gate_item connected_pin pin_signal pin_content named_connection named_connections_from named_connections connections instance instances_from instances cell_item item items_from items announced_name announced_names_from announced_names declared_port port_declaration_of port_declaration declared_ports_from declared_ports header_names header heading module_end end_of_text module_text module_of place_after next_place words.reserved_words fmt.digits
worked_4 = (refl, refl, refl, refl, refl, refl, refl, refl)

pub worked_5 :
    (outcome (codes "module 99999 ;") ≡ refused cause.Token 1 8)
    × (outcome (codes "module m; wire [99999:0] a;") ≡ refused cause.TooLarge 1 17)
    × (outcome (codes "module m; wire [70000:0] a;") ≡ refused cause.TooLarge 1 17)
    × (outcome (codes "module m; wire [000001:0] a;") ≡ refused cause.TooLarge 1 17)
    × (outcome (codes "module m (a); inout a; endmodule") ≡ refused cause.Inout 1 15)
    × (outcome (codes "module m; endmodule inout") ≡ refused cause.Inout 1 21)
    × (outcome (codes "module m; endmodule module") ≡ refused (cause.Unsupported (codes "module")) 1 21)
    × (outcome (codes "module m; endmodule reg") ≡ refused (cause.Unsupported (codes "reg")) 1 21)
unfolding comment_rest attribute_rest blank_len begins_blank to_blank word_kind mark_kind escaped quote directive lexeme kind_of bytes left next same_kind sees refusal expect after number rest_of_range range range_if_any digits constant followed rest_of_select selection named_operand constant_operand operand opening closing concatenations_from expression declared_name declared_names_from declared_names declaration port_item wire_item right_side net_assignment net_assignments_from net_assignments assign_item terminal input_terminals_from input_terminals terminals named_gate unnamed_gate one_gate gates_from gates gate_item connected_pin pin_signal pin_content named_connection named_connections_from named_connections connections instance instances_from instances cell_item item items_from items announced_name announced_names_from announced_names declared_port port_declaration_of port_declaration declared_ports_from declared_ports header_names header heading module_end end_of_text module_text module_of place_after next_place words.reserved_words fmt.digits
worked_5 = (refl, refl, refl, refl, refl, refl, refl, refl)

pub worked_6 :
    (outcome (codes "module m; endmodule x") ≡ refused cause.Token 1 21)
    × (outcome (codes "module m; module n; endmodule") ≡ refused (cause.Unsupported (codes "module")) 1 11)
    × (outcome (codes "module m; reg a; endmodule") ≡ refused (cause.Unsupported (codes "reg")) 1 11)
    × (outcome (codes "module m (a); input a; FOO u (.A(a)); endmodule") ≡ refused cause.Token 1 24)
    × (outcome (codes "module m (a); input a; INV u (.B(a)); endmodule") ≡ refused (cause.NoPin (codes "B")) 1 32)
    × (outcome (codes "module m (a); input a; INV u (.A(a), .A(a), .Y(n)); endmodule") ≡ refused (cause.JoinedTwice (codes "A")) 1 39)
    × (outcome (codes "module m (a); input a; INV u (.A(), .A(a), .Y(n)); endmodule") ≡ refused (cause.JoinedTwice (codes "A")) 1 38)
    × (outcome (codes "module m (a); input a; INV a (.B(a));") ≡ refused (cause.Taken (codes "a")) 1 28)
unfolding comment_rest attribute_rest blank_len begins_blank to_blank word_kind mark_kind escaped quote directive lexeme kind_of bytes left next same_kind sees refusal expect after number rest_of_range range range_if_any digits constant followed rest_of_select selection named_operand constant_operand operand opening closing concatenations_from expression declared_name declared_names_from declared_names declaration port_item wire_item right_side net_assignment net_assignments_from net_assignments assign_item terminal input_terminals_from input_terminals terminals named_gate unnamed_gate one_gate gates_from gates gate_item connected_pin pin_signal pin_content named_connection named_connections_from named_connections connections instance instances_from instances cell_item item items_from items announced_name announced_names_from announced_names declared_port port_declaration_of port_declaration declared_ports_from declared_ports header_names header heading module_end end_of_text module_text module_of place_after next_place words.reserved_words fmt.digits
worked_6 = (refl, refl, refl, refl, refl, refl, refl, refl)

pub worked_7 :
    (outcome (codes "module m (a); input a; INV u (.A(a), .Y(u)); endmodule") ≡ refused (cause.Taken (codes "u")) 1 41)
    × (outcome (codes "module m (a); input a; INV u (.A(a), .Y(n)), v (.A(n)); endmodule") ≡ None)
    × (outcome (codes "module m (a); input a; INV u (); endmodule") ≡ None)
    × (outcome (codes "module m (a); input a; INV u (a); endmodule") ≡ refused cause.Token 1 31)
    × (outcome (codes "module m (a); input a; INV u (.A({a,a}), .Y(n)); endmodule") ≡ refused cause.Misfit 1 31)
    × (outcome (codes "module m (a); input a; INV u (.A(a), .Y(1'b0)); endmodule") ≡ refused cause.Token 1 41)
    × (outcome (codes "module m (a); input a; INV u (.A(a), .Y({n,1'b0})); endmodule") ≡ refused cause.Token 1 44)
    × (outcome (codes "module m (a); input a; INV u (.A(2'b0), .Y(n)); endmodule") ≡ refused cause.Misfit 1 31)
unfolding comment_rest attribute_rest blank_len begins_blank to_blank word_kind mark_kind escaped quote directive lexeme kind_of bytes left next same_kind sees refusal expect after number rest_of_range range range_if_any digits constant followed rest_of_select selection named_operand constant_operand operand opening closing concatenations_from expression declared_name declared_names_from declared_names declaration port_item wire_item right_side net_assignment net_assignments_from net_assignments assign_item terminal input_terminals_from input_terminals terminals named_gate unnamed_gate one_gate gates_from gates gate_item connected_pin pin_signal pin_content named_connection named_connections_from named_connections connections instance instances_from instances cell_item item items_from items announced_name announced_names_from announced_names declared_port port_declaration_of port_declaration declared_ports_from declared_ports header_names header heading module_end end_of_text module_text module_of place_after next_place words.reserved_words fmt.digits
worked_7 = (refl, refl, refl, refl, refl, refl, refl, refl)

pub worked_8 :
    (outcome (codes "module m (a); input a; INV u (.A(1'b0), .Y(n)); endmodule") ≡ None)
    × (outcome (codes "module m (a); input a; INV u (.A(zz[70000])); endmodule") ≡ refused cause.TooLarge 1 37)
    × (outcome (codes "module m (a); input a; INV u (.A(zz[0])); endmodule") ≡ refused (cause.Undeclared (codes "zz")) 1 34)
    × (outcome (codes "module m (a); input a; INV u (.A(zz[0] ; endmodule") ≡ refused cause.Token 1 40)
    × (outcome (codes "module m (a); INV u (.A(a)); input a; endmodule") ≡ refused (cause.Undeclared (codes "a")) 1 25)
    × (outcome (codes "module m (a); input a; assign n = a; endmodule") ≡ None)
    × (outcome (codes "module m (a); input a; assign n = zz; endmodule") ≡ refused (cause.Undeclared (codes "zz")) 1 35)
    × (outcome (codes "module m (a); input a; assign {zz} = a; endmodule") ≡ refused (cause.Undeclared (codes "zz")) 1 32)
unfolding comment_rest attribute_rest blank_len begins_blank to_blank word_kind mark_kind escaped quote directive lexeme kind_of bytes left next same_kind sees refusal expect after number rest_of_range range range_if_any digits constant followed rest_of_select selection named_operand constant_operand operand opening closing concatenations_from expression declared_name declared_names_from declared_names declaration port_item wire_item right_side net_assignment net_assignments_from net_assignments assign_item terminal input_terminals_from input_terminals terminals named_gate unnamed_gate one_gate gates_from gates gate_item connected_pin pin_signal pin_content named_connection named_connections_from named_connections connections instance instances_from instances cell_item item items_from items announced_name announced_names_from announced_names declared_port port_declaration_of port_declaration declared_ports_from declared_ports header_names header heading module_end end_of_text module_text module_of place_after next_place words.reserved_words fmt.digits
worked_8 = (refl, refl, refl, refl, refl, refl, refl, refl)

pub worked_9 :
    (outcome (codes "module m (a); input a; assign n = n; endmodule") ≡ None)
    × (outcome (codes "module m (a); input a; assign u = a; INV u (.A(a)); endmodule") ≡ refused (cause.Taken (codes "u")) 1 42)
    × (outcome (codes "module m (a); input a; INV u (.A(a)); assign n = u; endmodule") ≡ refused (cause.Undeclared (codes "u")) 1 50)
    × (outcome (codes "module m (a); input a; wire [3:0] d; INV u (.A(\\d[2] )); endmodule") ≡ refused (cause.Taken (codes "d[2]")) 1 48)
    × (outcome (codes "module m (a); input a; wire \\d[2] ; wire [3:0] d; endmodule") ≡ refused (cause.Taken (codes "d[2]")) 1 48)
    × (outcome (codes "module m (a); input a; wire [3:0] d; INV u (.A(d[2])); endmodule") ≡ None)
    × (outcome (codes "module m (a); input a; wire [3:0] d; INV u (.A(d[4])); endmodule") ≡ refused cause.Misfit 1 48)
    × (outcome (codes "module m (a); input a; INV u (.A(a[0])); endmodule") ≡ refused cause.Misfit 1 34)
unfolding comment_rest attribute_rest blank_len begins_blank to_blank word_kind mark_kind escaped quote directive lexeme kind_of bytes left next same_kind sees refusal expect after number rest_of_range range range_if_any digits constant followed rest_of_select selection named_operand constant_operand operand opening closing concatenations_from expression declared_name declared_names_from declared_names declaration port_item wire_item right_side net_assignment net_assignments_from net_assignments assign_item terminal input_terminals_from input_terminals terminals named_gate unnamed_gate one_gate gates_from gates gate_item connected_pin pin_signal pin_content named_connection named_connections_from named_connections connections instance instances_from instances cell_item item items_from items announced_name announced_names_from announced_names declared_port port_declaration_of port_declaration declared_ports_from declared_ports header_names header heading module_end end_of_text module_text module_of place_after next_place words.reserved_words fmt.digits
worked_9 = (refl, refl, refl, refl, refl, refl, refl, refl)

pub worked_10 :
    (outcome (codes "module m (a); input a; wire [3:0] d; wire [1:0] e; assign e = d[2:1]; endmodule") ≡ None)
    × (outcome (codes "module m (a); input a; wire [3:0] d; wire [1:0] e; assign e = d[1:2]; endmodule") ≡ refused cause.Misfit 1 63)
    × (outcome (codes "module m (a); input a; wire [3:0] d; wire [1:0] e; assign e = d[2:0]; endmodule") ≡ refused cause.Misfit 1 63)
    × (outcome (codes "module m (a); input a; wire [3:0] d; INV u (.A(d)); endmodule") ≡ refused cause.Misfit 1 45)
    × (outcome (codes "module m (a); input a; wire [3:0] d; assign {d[0],d[1],{d[3:2]}} = 4'hA; endmodule") ≡ None)
    × (outcome (codes "module m (a); input a; assign n = 0'bx; endmodule") ≡ refused cause.Misfit 1 35)
    × (outcome (codes "module m (a); input a; assign n = 129'bx; endmodule") ≡ refused cause.TooLarge 1 35)
    × (outcome (codes "module m (a); input a; assign n = 1'bx; endmodule") ≡ refused (cause.Unsupported (codes "x")) 1 38)
unfolding comment_rest attribute_rest blank_len begins_blank to_blank word_kind mark_kind escaped quote directive lexeme kind_of bytes left next same_kind sees refusal expect after number rest_of_range range range_if_any digits constant followed rest_of_select selection named_operand constant_operand operand opening closing concatenations_from expression declared_name declared_names_from declared_names declaration port_item wire_item right_side net_assignment net_assignments_from net_assignments assign_item terminal input_terminals_from input_terminals terminals named_gate unnamed_gate one_gate gates_from gates gate_item connected_pin pin_signal pin_content named_connection named_connections_from named_connections connections instance instances_from instances cell_item item items_from items announced_name announced_names_from announced_names declared_port port_declaration_of port_declaration declared_ports_from declared_ports header_names header heading module_end end_of_text module_text module_of place_after next_place words.reserved_words fmt.digits
worked_10 = (refl, refl, refl, refl, refl, refl, refl, refl)

pub worked_11 :
    (outcome (codes "module m (a); input a; assign n = 1'b2; endmodule") ≡ refused cause.Token 1 38)
    × (outcome (codes "module m (a); input a; assign n = 1'b0a; endmodule") ≡ refused cause.Token 1 38)
    × (outcome (codes "module m (a); input a; assign n = 4'b end; endmodule") ≡ refused (cause.Unsupported (codes "end")) 1 39)
    × (outcome (codes "module m (a); input a; assign n = 4'b_; endmodule") ≡ refused cause.Token 1 38)
    × (outcome (codes "module m (a); input a; assign n = 1'b_1; endmodule") ≡ None)
    × (outcome (codes "module m (a); input a; assign n = 1 'B 1; endmodule") ≡ None)
    × (outcome (codes "module m (a); input a; assign n = 1'q1; endmodule") ≡ refused cause.Token 1 36)
    × (outcome (codes "module m (a); input a; assign n = 1'") ≡ refused cause.Ended 1 37)
unfolding comment_rest attribute_rest blank_len begins_blank to_blank word_kind mark_kind escaped quote directive lexeme kind_of bytes left next same_kind sees refusal expect after number rest_of_range range range_if_any digits constant followed rest_of_select selection named_operand constant_operand operand opening closing concatenations_from expression declared_name declared_names_from declared_names declaration port_item wire_item right_side net_assignment net_assignments_from net_assignments assign_item terminal input_terminals_from input_terminals terminals named_gate unnamed_gate one_gate gates_from gates gate_item connected_pin pin_signal pin_content named_connection named_connections_from named_connections connections instance instances_from instances cell_item item items_from items announced_name announced_names_from announced_names declared_port port_declaration_of port_declaration declared_ports_from declared_ports header_names header heading module_end end_of_text module_text module_of place_after next_place words.reserved_words fmt.digits
worked_11 = (refl, refl, refl, refl, refl, refl, refl, refl)

pub worked_12 :
    (outcome (codes "module m (a); input a; assign n = 2'b1; endmodule") ≡ refused cause.Misfit 1 35)
    × (outcome (codes "module m (a); input a; assign 129'b0 = a; endmodule") ≡ refused cause.TooLarge 1 31)
    × (outcome (codes "module m (a); input a; assign 1'b0 " ++ ((1 ∷ []))) ≡ refused cause.Byte 1 36)
    × (outcome (codes "module m (a); input a; assign 1'b0 = a; endmodule") ≡ refused cause.Token 1 31)
    × (outcome (codes "module m (a); input a; assign {n, 1'b0} = a; endmodule") ≡ refused (cause.Undeclared (codes "n")) 1 32)
    × (outcome (codes "module m (a); input a; wire n; assign {n, 1'b0} = a; endmodule") ≡ refused cause.Token 1 43)
    × (outcome (codes "module m (a); input a; assign n = 1'd340282366920938463463374607431768211456; endmodule") ≡ refused cause.TooLarge 1 38)
    × (outcome (codes "module m (a); input a; assign n = 1'd340282366920938463463374607431768211455; endmodule") ≡ None)
unfolding comment_rest attribute_rest blank_len begins_blank to_blank word_kind mark_kind escaped quote directive lexeme kind_of bytes left next same_kind sees refusal expect after number rest_of_range range range_if_any digits constant followed rest_of_select selection named_operand constant_operand operand opening closing concatenations_from expression declared_name declared_names_from declared_names declaration port_item wire_item right_side net_assignment net_assignments_from net_assignments assign_item terminal input_terminals_from input_terminals terminals named_gate unnamed_gate one_gate gates_from gates gate_item connected_pin pin_signal pin_content named_connection named_connections_from named_connections connections instance instances_from instances cell_item item items_from items announced_name announced_names_from announced_names declared_port port_declaration_of port_declaration declared_ports_from declared_ports header_names header heading module_end end_of_text module_text module_of place_after next_place words.reserved_words fmt.digits
worked_12 = (refl, refl, refl, refl, refl, refl, refl, refl)

pub worked_13 :
    (outcome (codes "module m (a); input a; and (y,a,a,a,a,a,a,a,a,zz[0]); endmodule") ≡ refused (cause.Undeclared (codes "zz")) 1 47)
    × (outcome (codes "module m (a); input a; and (y,a,a,a,a,a,a,a,a,a); endmodule") ≡ refused cause.Misfit 1 28)
    × (outcome (codes "module m (a); input a; and (y,a,a,a,a,a,a,a,a); endmodule") ≡ None)
    × (outcome (codes "module m (a); input a; and g (y,a), (z,a,a); endmodule") ≡ None)
    × (outcome (codes "module m (a); input a; and (y); endmodule") ≡ refused cause.Misfit 1 28)
    × (outcome (codes "module m (a); input a; buf (y,z,a); endmodule") ≡ refused cause.Misfit 1 28)
    × (outcome (codes "module m (a); input a; not n (1'b0,a); endmodule") ≡ refused cause.Token 1 31)
    × (outcome (codes "module m (a); input a; not (y,{a,a}); endmodule") ≡ refused cause.Misfit 1 31)
unfolding comment_rest attribute_rest blank_len begins_blank to_blank word_kind mark_kind escaped quote directive lexeme kind_of bytes left next same_kind sees refusal expect after number rest_of_range range range_if_any digits constant followed rest_of_select selection named_operand constant_operand operand opening closing concatenations_from expression declared_name declared_names_from declared_names declaration port_item wire_item right_side net_assignment net_assignments_from net_assignments assign_item terminal input_terminals_from input_terminals terminals named_gate unnamed_gate one_gate gates_from gates gate_item connected_pin pin_signal pin_content named_connection named_connections_from named_connections connections instance instances_from instances cell_item item items_from items announced_name announced_names_from announced_names declared_port port_declaration_of port_declaration declared_ports_from declared_ports header_names header heading module_end end_of_text module_text module_of place_after next_place words.reserved_words fmt.digits
worked_13 = (refl, refl, refl, refl, refl, refl, refl, refl)

pub worked_14 :
    (outcome (codes "module m (a); input a; not a (y,a); endmodule") ≡ refused (cause.Taken (codes "a")) 1 28)
    × (outcome (codes "module m (a); input a; assign n = {}; endmodule") ≡ refused cause.Token 1 36)
    × (outcome (codes "module m (a); input a; assign n = {a; endmodule") ≡ refused cause.Token 1 37)
    × (outcome (codes "module m (a); input a; assign n = {{a,a}") ≡ refused cause.Ended 1 41)
    × (outcome (codes "module m (a); input a; assign n = a b; endmodule") ≡ refused cause.Token 1 37)
    × (outcome (codes "(* keep = \"*)\" *) module m (a); (* x *) input a; endmodule") ≡ None)
    × (outcome (codes "module m (a); input a; INV u (.A(a) /* * / */, .Y(n)); // c\nendmodule") ≡ None)
    × (outcome (codes "module m (a)\n; input a;\n  zz") ≡ refused cause.Token 3 3)
unfolding comment_rest attribute_rest blank_len begins_blank to_blank word_kind mark_kind escaped quote directive lexeme kind_of bytes left next same_kind sees refusal expect after number rest_of_range range range_if_any digits constant followed rest_of_select selection named_operand constant_operand operand opening closing concatenations_from expression declared_name declared_names_from declared_names declaration port_item wire_item right_side net_assignment net_assignments_from net_assignments assign_item terminal input_terminals_from input_terminals terminals named_gate unnamed_gate one_gate gates_from gates gate_item connected_pin pin_signal pin_content named_connection named_connections_from named_connections connections instance instances_from instances cell_item item items_from items announced_name announced_names_from announced_names declared_port port_declaration_of port_declaration declared_ports_from declared_ports header_names header heading module_end end_of_text module_text module_of place_after next_place words.reserved_words fmt.digits
worked_14 = (refl, refl, refl, refl, refl, refl, refl, refl)
