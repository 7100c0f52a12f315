-- Netlist texts worked by hand: names.
use Rattle.std.proofs.Common.{◌≡◌, ◌++◌, refl, codes, None, [], ◌∷◌}
use Rattle.std.specs.Fmt as fmt
use Rattle.dft_base.specs.Words as words
use Rattle.dft_base.specs.Lexing.{place_after, next_place}
use Rattle.dft_netlist_text.specs.declared.text.Cause.TheVariants as cause
use Rattle.dft_netlist_text.specs.Lexemes.{comment_rest, attribute_rest, blank_len, begins_blank, to_blank, word_kind, mark_kind, escaped, quote, directive, lexeme}
use Rattle.dft_netlist_text.specs.Steps.{kind_of, bytes, left, next, same_kind, sees, refusal, expect, after}
use Rattle.dft_netlist_text.specs.Expressions.{number, rest_of_range, range, range_if_any, digits, constant, followed, rest_of_select, selection, named_operand, constant_operand, operand, opening, closing, concatenations_from, expression}
use Rattle.dft_netlist_text.specs.Items.{declared_name, declared_names_from, declared_names, declaration, port_item, wire_item, right_side, net_assignment, net_assignments_from, net_assignments, assign_item, terminal, input_terminals_from, input_terminals, terminals, named_gate, unnamed_gate, one_gate, gates_from, gates, gate_item, connected_pin, pin_signal, pin_content, named_connection, named_connections_from, named_connections, connections, instance, instances_from, instances, cell_item, item, items_from, items}
use Rattle.dft_netlist_text.specs.NetlistText.{announced_name, announced_names_from, announced_names, declared_port, port_declaration_of, port_declaration, declared_ports_from, declared_ports, header_names, header, heading, module_end, end_of_text, module_text, module_of}
use Rattle.dft_netlist_text.proofs.Outcomes.{outcome, refused}

pub names_1 :
    (outcome (codes "module m; wire \\") ≡ refused cause.Token 1 16)
    × (outcome (codes "module m; wire \\\n; endmodule") ≡ refused cause.Token 1 16)
    × (outcome (codes "module m; wire \\x") ≡ refused cause.Ended 1 18)
    × (outcome (codes "module m; wire \\a(*b*) , \\//c ; endmodule") ≡ None)
    × (outcome (codes "module m; wire \\a(*b*), c;") ≡ refused cause.Token 1 25)
    × (outcome (codes "module m; wire \\wire , Wire, WIRE; endmodule") ≡ None)
    × (outcome (codes "module m; wire \\wire , wire ; endmodule") ≡ refused (cause.Unsupported (codes "wire")) 1 24)
    × (outcome (codes "module m; wire cell, config, use, a$b, _c$; endmodule") ≡ None)
unfolding comment_rest attribute_rest blank_len begins_blank to_blank word_kind mark_kind escaped quote directive lexeme kind_of bytes left next same_kind sees refusal expect after number rest_of_range range range_if_any digits constant followed rest_of_select selection named_operand constant_operand operand opening closing concatenations_from expression declared_name declared_names_from declared_names declaration port_item wire_item right_side net_assignment net_assignments_from net_assignments assign_item terminal input_terminals_from input_terminals terminals named_gate unnamed_gate one_gate gates_from gates gate_item connected_pin pin_signal pin_content named_connection named_connections_from named_connections connections instance instances_from instances cell_item item items_from items announced_name announced_names_from announced_names declared_port port_declaration_of port_declaration declared_ports_from declared_ports header_names header heading module_end end_of_text module_text module_of place_after next_place words.reserved_words fmt.digits
names_1 = (refl, refl, refl, refl, refl, refl, refl, refl)

pub names_2 :
    (outcome (codes "module m; wire $a; endmodule") ≡ refused cause.Token 1 16)
    × (outcome (codes "module m; wire 1a; endmodule") ≡ refused cause.Token 1 16)
    × (outcome (codes "module m; wire a'b; endmodule") ≡ refused cause.Token 1 17)
    × (outcome (codes "module m; wire a'") ≡ refused cause.Ended 1 18)
    × (outcome (codes "module m; wire a'" ++ ((1 ∷ []))) ≡ refused cause.Token 1 17)
    × (outcome (codes "module m; wire \\a \\a ;") ≡ refused cause.Token 1 19)
    × (outcome (codes "module m; wire \\a ,a;") ≡ refused (cause.Taken (codes "a")) 1 20)
    × (outcome (codes "module m; wire \\a" ++ ((128 ∷ []) ++ (codes " , ;"))) ≡ refused cause.Byte 1 18)
unfolding comment_rest attribute_rest blank_len begins_blank to_blank word_kind mark_kind escaped quote directive lexeme kind_of bytes left next same_kind sees refusal expect after number rest_of_range range range_if_any digits constant followed rest_of_select selection named_operand constant_operand operand opening closing concatenations_from expression declared_name declared_names_from declared_names declaration port_item wire_item right_side net_assignment net_assignments_from net_assignments assign_item terminal input_terminals_from input_terminals terminals named_gate unnamed_gate one_gate gates_from gates gate_item connected_pin pin_signal pin_content named_connection named_connections_from named_connections connections instance instances_from instances cell_item item items_from items announced_name announced_names_from announced_names declared_port port_declaration_of port_declaration declared_ports_from declared_ports header_names header heading module_end end_of_text module_text module_of place_after next_place words.reserved_words fmt.digits
names_2 = (refl, refl, refl, refl, refl, refl, refl, refl)

pub names_3 :
    (outcome (codes "module m; wire b" ++ ((128 ∷ []) ++ (codes ", b;"))) ≡ refused cause.Byte 1 17)
    × (outcome (codes "module m; wire b, b" ++ ((128 ∷ []) ++ (codes ";"))) ≡ refused (cause.Taken (codes "b")) 1 19)
unfolding comment_rest attribute_rest blank_len begins_blank to_blank word_kind mark_kind escaped quote directive lexeme kind_of bytes left next same_kind sees refusal expect after number rest_of_range range range_if_any digits constant followed rest_of_select selection named_operand constant_operand operand opening closing concatenations_from expression declared_name declared_names_from declared_names declaration port_item wire_item right_side net_assignment net_assignments_from net_assignments assign_item terminal input_terminals_from input_terminals terminals named_gate unnamed_gate one_gate gates_from gates gate_item connected_pin pin_signal pin_content named_connection named_connections_from named_connections connections instance instances_from instances cell_item item items_from items announced_name announced_names_from announced_names declared_port port_declaration_of port_declaration declared_ports_from declared_ports header_names header heading module_end end_of_text module_text module_of place_after next_place words.reserved_words fmt.digits
names_3 = (refl, refl)
