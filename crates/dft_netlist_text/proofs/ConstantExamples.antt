-- Netlist texts worked by hand: constants.
use Rattle.std.proofs.Common.{◌≡◌, ◌++◌, refl, codes, None, [], ◌∷◌}
use Rattle.std.specs.Fmt as fmt
use Rattle.dft_base.specs.Words as words
use Rattle.dft_base.specs.Lexing.{place_after, next_place}
use Rattle.dft_netlist_text.specs.declared.text.Cause.TheVariants as cause
use Rattle.dft_netlist_text.specs.Lexemes.{comment_rest, attribute_rest, blank_len, begins_blank, to_blank, word_kind, mark_kind, escaped, quote, directive, lexeme}
use Rattle.dft_netlist_text.specs.Steps.{kind_of, bytes, left, next, same_kind, sees, refusal, expect, after}
use Rattle.dft_netlist_text.specs.Expressions.{number, rest_of_range, range, range_if_any, digits, constant, followed, rest_of_select, selection, named_operand, constant_operand, operand, opening, closing, concatenations_from, expression}
use Rattle.dft_netlist_text.specs.Items.{declared_name, declared_names_from, declared_names, declaration, port_item, wire_item, right_side, net_assignment, net_assignments_from, net_assignments, assign_item, terminal, input_terminals_from, input_terminals, terminals, named_gate, unnamed_gate, one_gate, gates_from, gates, gate_item, connected_pin, pin_signal, pin_content, named_connection, named_connections_from, named_connections, connections, instance, instances_from, instances, cell_item, item, items_from, items}
use Rattle.dft_netlist_text.specs.NetlistText.{announced_name, announced_names_from, announced_names, declared_port, port_declaration_of, port_declaration, declared_ports_from, declared_ports, header_names, header, heading, module_end, end_of_text, module_text, module_of}
use Rattle.dft_netlist_text.proofs.Outcomes.{outcome, refused}

pub constants_1 :
    (outcome (codes "module m (a); input a; assign n = 1'b2" ++ ((1 ∷ []) ++ (codes ";"))) ≡ refused cause.Token 1 38)
    × (outcome (codes "module m (a); input a; assign n = 1'b" ++ ((1 ∷ []) ++ (codes ";"))) ≡ refused cause.Byte 1 38)
    × (outcome (codes "module m (a); input a; assign n = 1'b'") ≡ refused cause.Ended 1 39)
    × (outcome (codes "module m (a); input a; assign n = 1'b0'b0;") ≡ refused cause.Token 1 39)
    × (outcome (codes "module m (a); input a; assign n = 8'h case;") ≡ refused (cause.Unsupported (codes "case")) 1 39)
    × (outcome (codes "module m (a); input a; assign n = 8'h CASE;") ≡ refused cause.Token 1 39)
    × (outcome (codes "module m (a); input a; wire [7:0] d; assign d = 8 'H _aC_; endmodule") ≡ None)
    × (outcome (codes "module m (a); input a; assign n = 70000; endmodule") ≡ refused cause.TooLarge 1 35)
unfolding comment_rest attribute_rest blank_len begins_blank to_blank word_kind mark_kind escaped quote directive lexeme kind_of bytes left next same_kind sees refusal expect after number rest_of_range range range_if_any digits constant followed rest_of_select selection named_operand constant_operand operand opening closing concatenations_from expression declared_name declared_names_from declared_names declaration port_item wire_item right_side net_assignment net_assignments_from net_assignments assign_item terminal input_terminals_from input_terminals terminals named_gate unnamed_gate one_gate gates_from gates gate_item connected_pin pin_signal pin_content named_connection named_connections_from named_connections connections instance instances_from instances cell_item item items_from items announced_name announced_names_from announced_names declared_port port_declaration_of port_declaration declared_ports_from declared_ports header_names header heading module_end end_of_text module_text module_of place_after next_place words.reserved_words fmt.digits
constants_1 = (refl, refl, refl, refl, refl, refl, refl, refl)

pub constants_2 :
    (outcome (codes "module m (a); input a; assign n = 0; endmodule") ≡ refused cause.Misfit 1 35)
    × (outcome (codes "module m (a); input a; assign n = 200; endmodule") ≡ refused cause.TooLarge 1 35)
    × (outcome (codes "module m (a); input a; assign n = 5; endmodule") ≡ refused cause.Token 1 36)
    × (outcome (codes "module m (a); input a; assign n = 000000'b0; endmodule") ≡ refused cause.TooLarge 1 35)
    × (outcome (codes "module m (a); input a; assign n = 00001'b1; endmodule") ≡ None)
    × (outcome (codes "module m (a); input a; assign n = 1'h100000000000000000000000000000000; endmodule") ≡ refused cause.TooLarge 1 38)
    × (outcome (codes "module m (a); input a; assign n = 1'h0fFfFfFfFfFfFfFfFfFfFfFfFfFfFfFfF; endmodule") ≡ None)
    × (outcome (codes "module m (a); input a; assign n = 1'o4000000000000000000000000000000000000000000; endmodule") ≡ refused cause.TooLarge 1 38)
unfolding comment_rest attribute_rest blank_len begins_blank to_blank word_kind mark_kind escaped quote directive lexeme kind_of bytes left next same_kind sees refusal expect after number rest_of_range range range_if_any digits constant followed rest_of_select selection named_operand constant_operand operand opening closing concatenations_from expression declared_name declared_names_from declared_names declaration port_item wire_item right_side net_assignment net_assignments_from net_assignments assign_item terminal input_terminals_from input_terminals terminals named_gate unnamed_gate one_gate gates_from gates gate_item connected_pin pin_signal pin_content named_connection named_connections_from named_connections connections instance instances_from instances cell_item item items_from items announced_name announced_names_from announced_names declared_port port_declaration_of port_declaration declared_ports_from declared_ports header_names header heading module_end end_of_text module_text module_of place_after next_place words.reserved_words fmt.digits
constants_2 = (refl, refl, refl, refl, refl, refl, refl, refl)

pub constants_3 :
    (outcome (codes "module m (a); input a; assign n = 1'O3777777777777777777777777777777777777777777; endmodule") ≡ None)
    × (outcome (codes "module m (a); input a; wire [127:0] d; assign d = 128'HX; endmodule") ≡ refused (cause.Unsupported (codes "X")) 1 56)
    × (outcome (codes "module m (a); input a; assign n = 1'd1x_; endmodule") ≡ refused (cause.Unsupported (codes "1x_")) 1 38)
    × (outcome (codes "module m (a); input a; assign n = 1'd1g_x; endmodule") ≡ refused cause.Token 1 38)
    × (outcome (codes "module m (a); input a; assign n = 1'bz2; endmodule") ≡ refused (cause.Unsupported (codes "z2")) 1 38)
    × (outcome (codes "module m (a); input a; assign n = 1'h_g; endmodule") ≡ refused cause.Token 1 38)
    × (outcome (codes "module m (a); input a; assign n = 1'o8; endmodule") ≡ refused cause.Token 1 38)
    × (outcome (codes "module m (a); input a; assign n = 1'dF; endmodule") ≡ refused cause.Token 1 38)
unfolding comment_rest attribute_rest blank_len begins_blank to_blank word_kind mark_kind escaped quote directive lexeme kind_of bytes left next same_kind sees refusal expect after number rest_of_range range range_if_any digits constant followed rest_of_select selection named_operand constant_operand operand opening closing concatenations_from expression declared_name declared_names_from declared_names declaration port_item wire_item right_side net_assignment net_assignments_from net_assignments assign_item terminal input_terminals_from input_terminals terminals named_gate unnamed_gate one_gate gates_from gates gate_item connected_pin pin_signal pin_content named_connection named_connections_from named_connections connections instance instances_from instances cell_item item items_from items announced_name announced_names_from announced_names declared_port port_declaration_of port_declaration declared_ports_from declared_ports header_names header heading module_end end_of_text module_text module_of place_after next_place words.reserved_words fmt.digits
constants_3 = (refl, refl, refl, refl, refl, refl, refl, refl)

pub constants_4 :
    (outcome (codes "module m (a); input a; assign n = 1'b1$; endmodule") ≡ refused cause.Token 1 39)
    × (outcome (codes "module m (a); input a; assign n = 1'b1 0; endmodule") ≡ refused cause.Token 1 40)
    × (outcome (codes "module m (a); input a; assign n = 1'b/* c */(* k *)`timescale 1\n1; endmodule") ≡ None)
    × (outcome (codes "module m (a); input a; assign n = 1'\nb1; endmodule") ≡ refused cause.Token 1 36)
    × (outcome (codes "module m (a); input a; assign n = 1'sb1; endmodule") ≡ refused cause.Token 1 36)
    × (outcome (codes "module m (a); input a; assign n = 1'b\\1 ; endmodule") ≡ refused cause.Token 1 38)
    × (outcome (codes "module m (a); input a; assign n = 1'b") ≡ refused cause.Ended 1 38)
    × (outcome (codes "module m (a); input a; assign n = 1'b /* 1") ≡ refused cause.Ended 1 43)
unfolding comment_rest attribute_rest blank_len begins_blank to_blank word_kind mark_kind escaped quote directive lexeme kind_of bytes left next same_kind sees refusal expect after number rest_of_range range range_if_any digits constant followed rest_of_select selection named_operand constant_operand operand opening closing concatenations_from expression declared_name declared_names_from declared_names declaration port_item wire_item right_side net_assignment net_assignments_from net_assignments assign_item terminal input_terminals_from input_terminals terminals named_gate unnamed_gate one_gate gates_from gates gate_item connected_pin pin_signal pin_content named_connection named_connections_from named_connections connections instance instances_from instances cell_item item items_from items announced_name announced_names_from announced_names declared_port port_declaration_of port_declaration declared_ports_from declared_ports header_names header heading module_end end_of_text module_text module_of place_after next_place words.reserved_words fmt.digits
constants_4 = (refl, refl, refl, refl, refl, refl, refl, refl)

pub constants_5 :
    (outcome (codes "module m (a); input a; assign n = 1'b; endmodule") ≡ refused cause.Token 1 38)
    × (outcome (codes "module m (a); input a; assign n = 'b1; endmodule") ≡ refused cause.Token 1 35)
    × (outcome (codes "module m (a); input a; assign n = 1'b'b1; endmodule") ≡ refused cause.Token 1 38)
    × (outcome (codes "module m (a); input a; assign n = 1'b#1; endmodule") ≡ refused (cause.Unsupported (codes "#1;")) 1 38)
    × (outcome (codes "module m (a); input a; assign n = 1'b module; endmodule") ≡ refused (cause.Unsupported (codes "module")) 1 39)
    × (outcome (codes "module m (a); input a; assign n = 1'h casex; endmodule") ≡ refused (cause.Unsupported (codes "casex")) 1 39)
    × (outcome (codes "module m (a); input a; assign n = 129'q1; endmodule") ≡ refused cause.TooLarge 1 35)
    × (outcome (codes "module m (a); input a; assign n = 0 zz") ≡ refused cause.Misfit 1 35)
unfolding comment_rest attribute_rest blank_len begins_blank to_blank word_kind mark_kind escaped quote directive lexeme kind_of bytes left next same_kind sees refusal expect after number rest_of_range range range_if_any digits constant followed rest_of_select selection named_operand constant_operand operand opening closing concatenations_from expression declared_name declared_names_from declared_names declaration port_item wire_item right_side net_assignment net_assignments_from net_assignments assign_item terminal input_terminals_from input_terminals terminals named_gate unnamed_gate one_gate gates_from gates gate_item connected_pin pin_signal pin_content named_connection named_connections_from named_connections connections instance instances_from instances cell_item item items_from items announced_name announced_names_from announced_names declared_port port_declaration_of port_declaration declared_ports_from declared_ports header_names header heading module_end end_of_text module_text module_of place_after next_place words.reserved_words fmt.digits
constants_5 = (refl, refl, refl, refl, refl, refl, refl, refl)

pub constants_6 :
    (outcome (codes "module m (a); input a; assign n = 1'b0" ++ ((1 ∷ []) ++ (codes ";"))) ≡ refused cause.Byte 1 39)
    × (outcome (codes "module m (a); input a; INV u (.A(1'b1), .Y(0'b0)); endmodule") ≡ refused cause.Misfit 1 44)
    × (outcome (codes "module m (a); input a; INV u (.A(1'b1), .Y(1'bx)); endmodule") ≡ refused (cause.Unsupported (codes "x")) 1 47)
    × (outcome (codes "module m (a); input a; INV u (.A(1'b1), .Y({zz, 2'b1})); endmodule") ≡ refused cause.Token 1 49)
    × (outcome (codes "module m (a); input a; INV u (.A(1'b1), .Y(1'b0; endmodule") ≡ refused cause.Token 1 48)
    × (outcome (codes "module m (a); input a; DFF f (.CK(a), .D(1'b1), .QN(1'b0)); endmodule") ≡ refused cause.Token 1 53)
    × (outcome (codes "module m (a); input a; LATCH f (.G(a), .D(1'b1), .Q(1'b0)); endmodule") ≡ refused cause.Token 1 53)
    × (outcome (codes "module m (a); input a; not (2'b1, a); endmodule") ≡ refused cause.Token 1 29)
unfolding comment_rest attribute_rest blank_len begins_blank to_blank word_kind mark_kind escaped quote directive lexeme kind_of bytes left next same_kind sees refusal expect after number rest_of_range range range_if_any digits constant followed rest_of_select selection named_operand constant_operand operand opening closing concatenations_from expression declared_name declared_names_from declared_names declaration port_item wire_item right_side net_assignment net_assignments_from net_assignments assign_item terminal input_terminals_from input_terminals terminals named_gate unnamed_gate one_gate gates_from gates gate_item connected_pin pin_signal pin_content named_connection named_connections_from named_connections connections instance instances_from instances cell_item item items_from items announced_name announced_names_from announced_names declared_port port_declaration_of port_declaration declared_ports_from declared_ports header_names header heading module_end end_of_text module_text module_of place_after next_place words.reserved_words fmt.digits
constants_6 = (refl, refl, refl, refl, refl, refl, refl, refl)

pub constants_7 :
    (outcome (codes "module m (a); input a; not ({n,2'b1}, a); endmodule") ≡ refused cause.Token 1 32)
    × (outcome (codes "module m (a); input a; wire n; assign {n, 1'b0, zz} = a; endmodule") ≡ refused cause.Token 1 43)
    × (outcome (codes "module m (a); input a; wire n; assign {n, zz, 1'b0} = a; endmodule") ≡ refused (cause.Undeclared (codes "zz")) 1 43)
    × (outcome (codes "module m (a); input a; assign 1'bx = a; endmodule") ≡ refused (cause.Unsupported (codes "x")) 1 34)
    × (outcome (codes "module m (a); input a; assign 1'b0 ; endmodule") ≡ refused cause.Token 1 36)
unfolding comment_rest attribute_rest blank_len begins_blank to_blank word_kind mark_kind escaped quote directive lexeme kind_of bytes left next same_kind sees refusal expect after number rest_of_range range range_if_any digits constant followed rest_of_select selection named_operand constant_operand operand opening closing concatenations_from expression declared_name declared_names_from declared_names declaration port_item wire_item right_side net_assignment net_assignments_from net_assignments assign_item terminal input_terminals_from input_terminals terminals named_gate unnamed_gate one_gate gates_from gates gate_item connected_pin pin_signal pin_content named_connection named_connections_from named_connections connections instance instances_from instances cell_item item items_from items announced_name announced_names_from announced_names declared_port port_declaration_of port_declaration declared_ports_from declared_ports header_names header heading module_end end_of_text module_text module_of place_after next_place words.reserved_words fmt.digits
constants_7 = (refl, refl, refl, refl, refl)
