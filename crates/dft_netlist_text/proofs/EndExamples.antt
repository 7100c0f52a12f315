-- Netlist texts worked by hand: ends in odd places.
use Rattle.std.proofs.Common.{◌≡◌, refl, codes}
use Rattle.std.specs.Fmt as fmt
use Rattle.dft_base.specs.Words as words
use Rattle.dft_base.specs.Lexing.{place_after, next_place}
use Rattle.dft_netlist_text.specs.declared.text.Cause.TheVariants as cause
use Rattle.dft_netlist_text.specs.Lexemes.{comment_rest, attribute_rest, blank_len, begins_blank, to_blank, word_kind, mark_kind, escaped, quote, directive, lexeme}
use Rattle.dft_netlist_text.specs.Steps.{kind_of, bytes, left, next, same_kind, sees, refusal, expect, after}
use Rattle.dft_netlist_text.specs.Expressions.{number, rest_of_range, range, range_if_any, digits, constant, followed, rest_of_select, selection, named_operand, constant_operand, operand, opening, closing, concatenations_from, expression}
use Rattle.dft_netlist_text.specs.Items.{declared_name, declared_names_from, declared_names, declaration, port_item, wire_item, right_side, net_assignment, net_assignments_from, net_assignments, assign_item, terminal, input_terminals_from, input_terminals, terminals, named_gate, unnamed_gate, one_gate, gates_from, gates, gate_item, connected_pin, pin_signal, pin_content, named_connection, named_connections_from, named_connections, connections, instance, instances_from, instances, cell_item, item, items_from, items}
use Rattle.dft_netlist_text.specs.NetlistText.{announced_name, announced_names_from, announced_names, declared_port, port_declaration_of, port_declaration, declared_ports_from, declared_ports, header_names, header, heading, module_end, end_of_text, module_text, module_of}
use Rattle.dft_netlist_text.proofs.Outcomes.{outcome, refused}

pub ends_1 :
    (outcome (codes "module /* x") ≡ refused cause.Ended 1 12)
    × (outcome (codes "module m /* x") ≡ refused cause.Ended 1 14)
    × (outcome (codes "module m ( /* x") ≡ refused cause.Ended 1 16)
    × (outcome (codes "module m (a /* x") ≡ refused cause.Ended 1 17)
    × (outcome (codes "module m (a, (* x") ≡ refused cause.Ended 1 18)
    × (outcome (codes "module m (input /* x") ≡ refused cause.Ended 1 21)
    × (outcome (codes "module m (input [1 /* x") ≡ refused cause.Ended 1 24)
    × (outcome (codes "module m (input a /* x") ≡ refused cause.Ended 1 23)
unfolding comment_rest attribute_rest blank_len begins_blank to_blank word_kind mark_kind escaped quote directive lexeme kind_of bytes left next same_kind sees refusal expect after number rest_of_range range range_if_any digits constant followed rest_of_select selection named_operand constant_operand operand opening closing concatenations_from expression declared_name declared_names_from declared_names declaration port_item wire_item right_side net_assignment net_assignments_from net_assignments assign_item terminal input_terminals_from input_terminals terminals named_gate unnamed_gate one_gate gates_from gates gate_item connected_pin pin_signal pin_content named_connection named_connections_from named_connections connections instance instances_from instances cell_item item items_from items announced_name announced_names_from announced_names declared_port port_declaration_of port_declaration declared_ports_from declared_ports header_names header heading module_end end_of_text module_text module_of place_after next_place words.reserved_words fmt.digits
ends_1 = (refl, refl, refl, refl, refl, refl, refl, refl)

pub ends_2 :
    (outcome (codes "module m (input a, /* x") ≡ refused cause.Ended 1 24)
    × (outcome (codes "module m (a) (* \"*)") ≡ refused cause.Ended 1 20)
    × (outcome (codes "module m; /* x") ≡ refused cause.Ended 1 15)
    × (outcome (codes "module m (a); input a; input /* x") ≡ refused cause.Ended 1 34)
    × (outcome (codes "module m (a); input a; input [ (* x") ≡ refused cause.Ended 1 36)
    × (outcome (codes "module m (a); input a; wire b, /* x") ≡ refused cause.Ended 1 36)
    × (outcome (codes "module m (a); input a; assign /* x") ≡ refused cause.Ended 1 35)
    × (outcome (codes "module m (a); input a; assign n (* x") ≡ refused cause.Ended 1 37)
unfolding comment_rest attribute_rest blank_len begins_blank to_blank word_kind mark_kind escaped quote directive lexeme kind_of bytes left next same_kind sees refusal expect after number rest_of_range range range_if_any digits constant followed rest_of_select selection named_operand constant_operand operand opening closing concatenations_from expression declared_name declared_names_from declared_names declaration port_item wire_item right_side net_assignment net_assignments_from net_assignments assign_item terminal input_terminals_from input_terminals terminals named_gate unnamed_gate one_gate gates_from gates gate_item connected_pin pin_signal pin_content named_connection named_connections_from named_connections connections instance instances_from instances cell_item item items_from items announced_name announced_names_from announced_names declared_port port_declaration_of port_declaration declared_ports_from declared_ports header_names header heading module_end end_of_text module_text module_of place_after next_place words.reserved_words fmt.digits
ends_2 = (refl, refl, refl, refl, refl, refl, refl, refl)

pub ends_3 :
    (outcome (codes "module m (a); input a; assign n = /* x") ≡ refused cause.Ended 1 39)
    × (outcome (codes "module m (a); input a; assign n = {a, /* x") ≡ refused cause.Ended 1 43)
    × (outcome (codes "module m (a); input a; assign n = a, /* x") ≡ refused cause.Ended 1 42)
    × (outcome (codes "module m (a); input a; and /* x") ≡ refused cause.Ended 1 32)
    × (outcome (codes "module m (a); input a; and g /* x") ≡ refused cause.Ended 1 34)
    × (outcome (codes "module m (a); input a; and ( /* x") ≡ refused cause.Ended 1 34)
    × (outcome (codes "module m (a); input a; and (y /* x") ≡ refused cause.Ended 1 35)
    × (outcome (codes "module m (a); input a; and (y, /* x") ≡ refused cause.Ended 1 36)
unfolding comment_rest attribute_rest blank_len begins_blank to_blank word_kind mark_kind escaped quote directive lexeme kind_of bytes left next same_kind sees refusal expect after number rest_of_range range range_if_any digits constant followed rest_of_select selection named_operand constant_operand operand opening closing concatenations_from expression declared_name declared_names_from declared_names declaration port_item wire_item right_side net_assignment net_assignments_from net_assignments assign_item terminal input_terminals_from input_terminals terminals named_gate unnamed_gate one_gate gates_from gates gate_item connected_pin pin_signal pin_content named_connection named_connections_from named_connections connections instance instances_from instances cell_item item items_from items announced_name announced_names_from announced_names declared_port port_declaration_of port_declaration declared_ports_from declared_ports header_names header heading module_end end_of_text module_text module_of place_after next_place words.reserved_words fmt.digits
ends_3 = (refl, refl, refl, refl, refl, refl, refl, refl)

pub ends_4 :
    (outcome (codes "module m (a); input a; and (y,a), /* x") ≡ refused cause.Ended 1 39)
    × (outcome (codes "module m (a); input a; INV /* x") ≡ refused cause.Ended 1 32)
    × (outcome (codes "module m (a); input a; INV u /* x") ≡ refused cause.Ended 1 34)
    × (outcome (codes "module m (a); input a; INV u ( /* x") ≡ refused cause.Ended 1 36)
    × (outcome (codes "module m (a); input a; INV u (. /* x") ≡ refused cause.Ended 1 37)
    × (outcome (codes "module m (a); input a; INV u (.A /* x") ≡ refused cause.Ended 1 38)
    × (outcome (codes "module m (a); input a; INV u (.A( (* x") ≡ refused cause.Ended 1 39)
    × (outcome (codes "module m (a); input a; INV u (.A(a) /* x") ≡ refused cause.Ended 1 41)
unfolding comment_rest attribute_rest blank_len begins_blank to_blank word_kind mark_kind escaped quote directive lexeme kind_of bytes left next same_kind sees refusal expect after number rest_of_range range range_if_any digits constant followed rest_of_select selection named_operand constant_operand operand opening closing concatenations_from expression declared_name declared_names_from declared_names declaration port_item wire_item right_side net_assignment net_assignments_from net_assignments assign_item terminal input_terminals_from input_terminals terminals named_gate unnamed_gate one_gate gates_from gates gate_item connected_pin pin_signal pin_content named_connection named_connections_from named_connections connections instance instances_from instances cell_item item items_from items announced_name announced_names_from announced_names declared_port port_declaration_of port_declaration declared_ports_from declared_ports header_names header heading module_end end_of_text module_text module_of place_after next_place words.reserved_words fmt.digits
ends_4 = (refl, refl, refl, refl, refl, refl, refl, refl)

pub ends_5 :
    (outcome (codes "module m (a); input a; INV u (.A(a), /* x") ≡ refused cause.Ended 1 42)
    × (outcome (codes "module m (a); input a; INV u (), /* x") ≡ refused cause.Ended 1 38)
    × (outcome (codes "module m (a); input a; INV u ();\n(* x") ≡ refused cause.Ended 2 5)
    × (outcome (codes "module m (a); input a; input") ≡ refused cause.Ended 1 29)
    × (outcome (codes "module m (a); input a; wire") ≡ refused cause.Ended 1 28)
    × (outcome (codes "module m (a); input a; assign") ≡ refused cause.Ended 1 30)
    × (outcome (codes "module m (a); input a; and") ≡ refused cause.Ended 1 27)
    × (outcome (codes "module m (a); input a; INV") ≡ refused cause.Ended 1 27)
unfolding comment_rest attribute_rest blank_len begins_blank to_blank word_kind mark_kind escaped quote directive lexeme kind_of bytes left next same_kind sees refusal expect after number rest_of_range range range_if_any digits constant followed rest_of_select selection named_operand constant_operand operand opening closing concatenations_from expression declared_name declared_names_from declared_names declaration port_item wire_item right_side net_assignment net_assignments_from net_assignments assign_item terminal input_terminals_from input_terminals terminals named_gate unnamed_gate one_gate gates_from gates gate_item connected_pin pin_signal pin_content named_connection named_connections_from named_connections connections instance instances_from instances cell_item item items_from items announced_name announced_names_from announced_names declared_port port_declaration_of port_declaration declared_ports_from declared_ports header_names header heading module_end end_of_text module_text module_of place_after next_place words.reserved_words fmt.digits
ends_5 = (refl, refl, refl, refl, refl, refl, refl, refl)

pub ends_6 :
    (outcome (codes "module m (a); input a; INV u ") ≡ refused cause.Ended 1 30)
    × (outcome (codes "module m (a); input a; INV u (.A(a") ≡ refused cause.Ended 1 35)
    × (outcome (codes "module m (a); input a; INV u (.A(a)") ≡ refused cause.Ended 1 36)
    × (outcome (codes "module m (a); input a; assign n = 1'b1") ≡ refused cause.Ended 1 39)
    × (outcome (codes "module m (a); input a; and (y,a)") ≡ refused cause.Ended 1 33)
unfolding comment_rest attribute_rest blank_len begins_blank to_blank word_kind mark_kind escaped quote directive lexeme kind_of bytes left next same_kind sees refusal expect after number rest_of_range range range_if_any digits constant followed rest_of_select selection named_operand constant_operand operand opening closing concatenations_from expression declared_name declared_names_from declared_names declaration port_item wire_item right_side net_assignment net_assignments_from net_assignments assign_item terminal input_terminals_from input_terminals terminals named_gate unnamed_gate one_gate gates_from gates gate_item connected_pin pin_signal pin_content named_connection named_connections_from named_connections connections instance instances_from instances cell_item item items_from items announced_name announced_names_from announced_names declared_port port_declaration_of port_declaration declared_ports_from declared_ports header_names header heading module_end end_of_text module_text module_of place_after next_place words.reserved_words fmt.digits
ends_6 = (refl, refl, refl, refl, refl)
