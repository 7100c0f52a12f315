-- Netlist texts worked by hand: gates.
use Rattle.std.proofs.Common.{◌≡◌, refl, codes, None}
use Rattle.std.specs.Fmt as fmt
use Rattle.dft_base.specs.Words as words
use Rattle.dft_base.specs.Lexing.{place_after, next_place}
use Rattle.dft_netlist_text.specs.declared.text.Cause.TheVariants as cause
use Rattle.dft_netlist_text.specs.Lexemes.{comment_rest, attribute_rest, blank_len, begins_blank, to_blank, word_kind, mark_kind, escaped, quote, directive, lexeme}
use Rattle.dft_netlist_text.specs.Steps.{kind_of, bytes, left, next, same_kind, sees, refusal, expect, after}
use Rattle.dft_netlist_text.specs.Expressions.{number, rest_of_range, range, range_if_any, digits, constant, followed, rest_of_select, selection, named_operand, constant_operand, operand, opening, closing, concatenations_from, expression}
use Rattle.dft_netlist_text.specs.Items.{declared_name, declared_names_from, declared_names, declaration, port_item, wire_item, right_side, net_assignment, net_assignments_from, net_assignments, assign_item, terminal, input_terminals_from, input_terminals, terminals, named_gate, unnamed_gate, one_gate, gates_from, gates, gate_item, connected_pin, pin_signal, pin_content, named_connection, named_connections_from, named_connections, connections, instance, instances_from, instances, cell_item, item, items_from, items}
use Rattle.dft_netlist_text.specs.NetlistText.{announced_name, announced_names_from, announced_names, declared_port, port_declaration_of, port_declaration, declared_ports_from, declared_ports, header_names, header, heading, module_end, end_of_text, module_text, module_of}
use Rattle.dft_netlist_text.proofs.Outcomes.{outcome, refused}

pub gates_1 :
    (outcome (codes "module m (a); input a; and (); endmodule") ≡ refused cause.Token 1 29)
    × (outcome (codes "module m (a); input a; and y (a); endmodule") ≡ refused cause.Misfit 1 30)
    × (outcome (codes "module m (a); input a; and (y,a), (z); endmodule") ≡ refused cause.Misfit 1 35)
    × (outcome (codes "module m (a); input a; and (y,a,a,a,a,a,a,a,a,a") ≡ refused cause.Ended 1 48)
    × (outcome (codes "module m (a); input a; and (y,a,a,a,a,a,a,a,a,1'bx); endmodule") ≡ refused (cause.Unsupported (codes "x")) 1 50)
    × (outcome (codes "module m (a); input a; and (y,a,a,a,a,a,a,a,a,{a,a}); endmodule") ≡ refused cause.Misfit 1 47)
    × (outcome (codes "module m (a); input a; and g (y,a,a,a,a,a,a,a,a,a); endmodule") ≡ refused cause.Misfit 1 30)
    × (outcome (codes "module m (a); input a; not (y,a,a); endmodule") ≡ refused cause.Misfit 1 28)
unfolding comment_rest attribute_rest blank_len begins_blank to_blank word_kind mark_kind escaped quote directive lexeme kind_of bytes left next same_kind sees refusal expect after number rest_of_range range range_if_any digits constant followed rest_of_select selection named_operand constant_operand operand opening closing concatenations_from expression declared_name declared_names_from declared_names declaration port_item wire_item right_side net_assignment net_assignments_from net_assignments assign_item terminal input_terminals_from input_terminals terminals named_gate unnamed_gate one_gate gates_from gates gate_item connected_pin pin_signal pin_content named_connection named_connections_from named_connections connections instance instances_from instances cell_item item items_from items announced_name announced_names_from announced_names declared_port port_declaration_of port_declaration declared_ports_from declared_ports header_names header heading module_end end_of_text module_text module_of place_after next_place words.reserved_words fmt.digits
gates_1 = (refl, refl, refl, refl, refl, refl, refl, refl)

pub gates_2 :
    (outcome (codes "module m (a); input a; not (y); endmodule") ≡ refused cause.Misfit 1 28)
    × (outcome (codes "module m (a); input a; and g (y,a), g (z,a); endmodule") ≡ refused (cause.Taken (codes "g")) 1 37)
    × (outcome (codes "module m (a); input a; and g (y,a), y (z,a); endmodule") ≡ refused (cause.Taken (codes "y")) 1 37)
    × (outcome (codes "module m (a); input a; and g (g,a); endmodule") ≡ refused (cause.Taken (codes "g")) 1 31)
    × (outcome (codes "module m (a); input a; and reg (y,a); endmodule") ≡ refused (cause.Unsupported (codes "reg")) 1 28)
    × (outcome (codes "module m (a); input a; and #1 (y,a); endmodule") ≡ refused (cause.Unsupported (codes "#1")) 1 28)
    × (outcome (codes "module m (a); input a; and (y a); endmodule") ≡ refused cause.Token 1 31)
    × (outcome (codes "module m (a); input a; and (y,{a,a},zz[0]); endmodule") ≡ refused cause.Misfit 1 31)
unfolding comment_rest attribute_rest blank_len begins_blank to_blank word_kind mark_kind escaped quote directive lexeme kind_of bytes left next same_kind sees refusal expect after number rest_of_range range range_if_any digits constant followed rest_of_select selection named_operand constant_operand operand opening closing concatenations_from expression declared_name declared_names_from declared_names declaration port_item wire_item right_side net_assignment net_assignments_from net_assignments assign_item terminal input_terminals_from input_terminals terminals named_gate unnamed_gate one_gate gates_from gates gate_item connected_pin pin_signal pin_content named_connection named_connections_from named_connections connections instance instances_from instances cell_item item items_from items announced_name announced_names_from announced_names declared_port port_declaration_of port_declaration declared_ports_from declared_ports header_names header heading module_end end_of_text module_text module_of place_after next_place words.reserved_words fmt.digits
gates_2 = (refl, refl, refl, refl, refl, refl, refl, refl)

pub gates_3 :
    (outcome (codes "module m (a); input a; and (y,{a,a}; endmodule") ≡ refused cause.Token 1 36)
    × (outcome (codes "module m (a); input a; and (y,a), and (z,a); endmodule") ≡ refused (cause.Unsupported (codes "and")) 1 35)
    × (outcome (codes "module m (a); input a; and (y,a) (z,a); endmodule") ≡ refused cause.Token 1 34)
    × (outcome (codes "module m (a); input a; and g (y,a),; endmodule") ≡ refused cause.Token 1 36)
    × (outcome (codes "module m (a); input a; and \\and (y,a); endmodule") ≡ None)
    × (outcome (codes "module m (a); input a; xnor (y,a); xor (z,a,a); nor (w,a); nand (v,a); or (t,a); buf (s,a); not (r,a); endmodule") ≡ None)
unfolding comment_rest attribute_rest blank_len begins_blank to_blank word_kind mark_kind escaped quote directive lexeme kind_of bytes left next same_kind sees refusal expect after number rest_of_range range range_if_any digits constant followed rest_of_select selection named_operand constant_operand operand opening closing concatenations_from expression declared_name declared_names_from declared_names declaration port_item wire_item right_side net_assignment net_assignments_from net_assignments assign_item terminal input_terminals_from input_terminals terminals named_gate unnamed_gate one_gate gates_from gates gate_item connected_pin pin_signal pin_content named_connection named_connections_from named_connections connections instance instances_from instances cell_item item items_from items announced_name announced_names_from announced_names declared_port port_declaration_of port_declaration declared_ports_from declared_ports header_names header heading module_end end_of_text module_text module_of place_after next_place words.reserved_words fmt.digits
gates_3 = (refl, refl, refl, refl, refl, refl)
