-- Netlist texts worked by hand: the module and its header.
use Rattle.std.proofs.Common.{◌≡◌, refl, codes, None}
use Rattle.std.specs.Fmt as fmt
use Rattle.dft_base.specs.Words as words
use Rattle.dft_base.specs.Lexing.{place_after, next_place}
use Rattle.dft_netlist_text.specs.declared.text.Cause.TheVariants as cause
use Rattle.dft_netlist_text.specs.Lexemes.{comment_rest, attribute_rest, blank_len, begins_blank, to_blank, word_kind, mark_kind, escaped, quote, directive, lexeme}
use Rattle.dft_netlist_text.specs.Steps.{kind_of, bytes, left, next, same_kind, sees, refusal, expect, after}
use Rattle.dft_netlist_text.specs.Expressions.{number, rest_of_range, range, range_if_any, digits, constant, followed, rest_of_select, selection, named_operand, constant_operand, operand, opening, closing, concatenations_from, expression}
use Rattle.dft_netlist_text.specs.Items.{declared_name, declared_names_from, declared_names, declaration, port_item, wire_item, right_side, net_assignment, net_assignments_from, net_assignments, assign_item, terminal, input_terminals_from, input_terminals, terminals, named_gate, unnamed_gate, one_gate, gates_from, gates, gate_item, connected_pin, pin_signal, pin_content, named_connection, named_connections_from, named_connections, connections, instance, instances_from, instances, cell_item, item, items_from, items}
use Rattle.dft_netlist_text.specs.NetlistText.{announced_name, announced_names_from, announced_names, declared_port, port_declaration_of, port_declaration, declared_ports_from, declared_ports, header_names, header, heading, module_end, end_of_text, module_text, module_of}
use Rattle.dft_netlist_text.proofs.Outcomes.{outcome, refused}

pub headers_1 :
    (outcome (codes "inout") ≡ refused cause.Inout 1 1)
    × (outcome (codes "x") ≡ refused cause.Token 1 1)
    × (outcome (codes "endmodule") ≡ refused (cause.Unsupported (codes "endmodule")) 1 1)
    × (outcome (codes "(* k *) reg") ≡ refused (cause.Unsupported (codes "reg")) 1 9)
    × (outcome (codes "module module;") ≡ refused (cause.Unsupported (codes "module")) 1 8)
    × (outcome (codes "module inout;") ≡ refused cause.Inout 1 8)
    × (outcome (codes "module \\m;n") ≡ refused cause.Ended 1 12)
    × (outcome (codes "module m; endmodule ;") ≡ refused cause.Token 1 21)
unfolding comment_rest attribute_rest blank_len begins_blank to_blank word_kind mark_kind escaped quote directive lexeme kind_of bytes left next same_kind sees refusal expect after number rest_of_range range range_if_any digits constant followed rest_of_select selection named_operand constant_operand operand opening closing concatenations_from expression declared_name declared_names_from declared_names declaration port_item wire_item right_side net_assignment net_assignments_from net_assignments assign_item terminal input_terminals_from input_terminals terminals named_gate unnamed_gate one_gate gates_from gates gate_item connected_pin pin_signal pin_content named_connection named_connections_from named_connections connections instance instances_from instances cell_item item items_from items announced_name announced_names_from announced_names declared_port port_declaration_of port_declaration declared_ports_from declared_ports header_names header heading module_end end_of_text module_text module_of place_after next_place words.reserved_words fmt.digits
headers_1 = (refl, refl, refl, refl, refl, refl, refl, refl)

pub headers_2 :
    (outcome (codes "module m; endmodule #x") ≡ refused (cause.Unsupported (codes "#x")) 1 21)
    × (outcome (codes "module m; endmodule endmodule") ≡ refused (cause.Unsupported (codes "endmodule")) 1 21)
    × (outcome (codes "module m; endmodule '") ≡ refused cause.Ended 1 22)
    × (outcome (codes "module m; endmodule \\module ") ≡ refused cause.Token 1 21)
    × (outcome (codes "module m (a,); input a; endmodule") ≡ refused cause.Token 1 13)
    × (outcome (codes "module m (,a);") ≡ refused cause.Token 1 11)
    × (outcome (codes "module m (input a,);") ≡ refused cause.Token 1 19)
    × (outcome (codes "module m (input a, wire b);") ≡ refused (cause.Unsupported (codes "wire")) 1 20)
unfolding comment_rest attribute_rest blank_len begins_blank to_blank word_kind mark_kind escaped quote directive lexeme kind_of bytes left next same_kind sees refusal expect after number rest_of_range range range_if_any digits constant followed rest_of_select selection named_operand constant_operand operand opening closing concatenations_from expression declared_name declared_names_from declared_names declaration port_item wire_item right_side net_assignment net_assignments_from net_assignments assign_item terminal input_terminals_from input_terminals terminals named_gate unnamed_gate one_gate gates_from gates gate_item connected_pin pin_signal pin_content named_connection named_connections_from named_connections connections instance instances_from instances cell_item item items_from items announced_name announced_names_from announced_names declared_port port_declaration_of port_declaration declared_ports_from declared_ports header_names header heading module_end end_of_text module_text module_of place_after next_place words.reserved_words fmt.digits
headers_2 = (refl, refl, refl, refl, refl, refl, refl, refl)

pub headers_3 :
    (outcome (codes "module m (input [1:0] wire a);") ≡ refused (cause.Unsupported (codes "wire")) 1 23)
    × (outcome (codes "module m (inout a);") ≡ refused cause.Inout 1 11)
    × (outcome (codes "module m (input a, inout b);") ≡ refused cause.Inout 1 20)
    × (outcome (codes "module m (input [1:0] a, \\a[1] ); endmodule") ≡ refused (cause.Taken (codes "a[1]")) 1 26)
    × (outcome (codes "module m (input \\a[0] , output [1:0] a); endmodule") ≡ refused (cause.Taken (codes "a[0]")) 1 38)
    × (outcome (codes "module m (\\a[0] , a); input [1:0] a; endmodule") ≡ refused (cause.Taken (codes "a[0]")) 1 35)
    × (outcome (codes "module m (\\a[0] , a); input \\a[0] ; input a; endmodule") ≡ None)
    × (outcome (codes "module m (input a, output a);") ≡ refused (cause.Taken (codes "a")) 1 27)
unfolding comment_rest attribute_rest blank_len begins_blank to_blank word_kind mark_kind escaped quote directive lexeme kind_of bytes left next same_kind sees refusal expect after number rest_of_range range range_if_any digits constant followed rest_of_select selection named_operand constant_operand operand opening closing concatenations_from expression declared_name declared_names_from declared_names declaration port_item wire_item right_side net_assignment net_assignments_from net_assignments assign_item terminal input_terminals_from input_terminals terminals named_gate unnamed_gate one_gate gates_from gates gate_item connected_pin pin_signal pin_content named_connection named_connections_from named_connections connections instance instances_from instances cell_item item items_from items announced_name announced_names_from announced_names declared_port port_declaration_of port_declaration declared_ports_from declared_ports header_names header heading module_end end_of_text module_text module_of place_after next_place words.reserved_words fmt.digits
headers_3 = (refl, refl, refl, refl, refl, refl, refl, refl)

pub headers_4 :
    (outcome (codes "module m (input a, a);") ≡ refused (cause.Taken (codes "a")) 1 20)
    × (outcome (codes "module m (input [70000:0] a);") ≡ refused cause.TooLarge 1 18)
    × (outcome (codes "module m (input [1:0 a);") ≡ refused cause.Token 1 22)
    × (outcome (codes "module m (); input a; endmodule") ≡ refused cause.Token 1 20)
    × (outcome (codes "module m (a) input a;") ≡ refused (cause.Unsupported (codes "input")) 1 14)
    × (outcome (codes "module m (a b);") ≡ refused cause.Token 1 13)
    × (outcome (codes "module m (a[0]);") ≡ refused cause.Token 1 12)
    × (outcome (codes "module m (a, b, c); input b; endmodule") ≡ refused (cause.Undeclared (codes "a")) 1 30)
unfolding comment_rest attribute_rest blank_len begins_blank to_blank word_kind mark_kind escaped quote directive lexeme kind_of bytes left next same_kind sees refusal expect after number rest_of_range range range_if_any digits constant followed rest_of_select selection named_operand constant_operand operand opening closing concatenations_from expression declared_name declared_names_from declared_names declaration port_item wire_item right_side net_assignment net_assignments_from net_assignments assign_item terminal input_terminals_from input_terminals terminals named_gate unnamed_gate one_gate gates_from gates gate_item connected_pin pin_signal pin_content named_connection named_connections_from named_connections connections instance instances_from instances cell_item item items_from items announced_name announced_names_from announced_names declared_port port_declaration_of port_declaration declared_ports_from declared_ports header_names header heading module_end end_of_text module_text module_of place_after next_place words.reserved_words fmt.digits
headers_4 = (refl, refl, refl, refl, refl, refl, refl, refl)

pub headers_5 :
    (outcome (codes "module m (a); endmodule /* x") ≡ refused (cause.Undeclared (codes "a")) 1 15)
    × (outcome (codes "module m (a, a") ≡ refused (cause.Taken (codes "a")) 1 14)
    × (outcome (codes "module m (a, b); output b; input a, b; endmodule") ≡ refused (cause.Taken (codes "b")) 1 37)
    × (outcome (codes "module m (m); input m; endmodule") ≡ None)
    × (outcome (codes "module m (input a); input b; endmodule") ≡ refused cause.Token 1 27)
    × (outcome (codes "module m (input a); output a; endmodule") ≡ refused (cause.Taken (codes "a")) 1 28)
unfolding comment_rest attribute_rest blank_len begins_blank to_blank word_kind mark_kind escaped quote directive lexeme kind_of bytes left next same_kind sees refusal expect after number rest_of_range range range_if_any digits constant followed rest_of_select selection named_operand constant_operand operand opening closing concatenations_from expression declared_name declared_names_from declared_names declaration port_item wire_item right_side net_assignment net_assignments_from net_assignments assign_item terminal input_terminals_from input_terminals terminals named_gate unnamed_gate one_gate gates_from gates gate_item connected_pin pin_signal pin_content named_connection named_connections_from named_connections connections instance instances_from instances cell_item item items_from items announced_name announced_names_from announced_names declared_port port_declaration_of port_declaration declared_ports_from declared_ports header_names header heading module_end end_of_text module_text module_of place_after next_place words.reserved_words fmt.digits
headers_5 = (refl, refl, refl, refl, refl, refl)
