-- Netlist texts worked by hand: instances of cells.
use Rattle.std.proofs.Common.{◌≡◌, ◌++◌, refl, codes, None, [], ◌∷◌}
use Rattle.std.specs.Fmt as fmt
use Rattle.dft_base.specs.Words as words
use Rattle.dft_base.specs.Lexing.{place_after, next_place}
use Rattle.dft_netlist_text.specs.declared.text.Cause.TheVariants as cause
use Rattle.dft_netlist_text.specs.Lexemes.{comment_rest, attribute_rest, blank_len, begins_blank, to_blank, word_kind, mark_kind, escaped, quote, directive, lexeme}
use Rattle.dft_netlist_text.specs.Steps.{kind_of, bytes, left, next, same_kind, sees, refusal, expect, after}
use Rattle.dft_netlist_text.specs.Expressions.{number, rest_of_range, range, range_if_any, digits, constant, followed, rest_of_select, selection, named_operand, constant_operand, operand, opening, closing, concatenations_from, expression}
use Rattle.dft_netlist_text.specs.Items.{declared_name, declared_names_from, declared_names, declaration, port_item, wire_item, right_side, net_assignment, net_assignments_from, net_assignments, assign_item, terminal, input_terminals_from, input_terminals, terminals, named_gate, unnamed_gate, one_gate, gates_from, gates, gate_item, connected_pin, pin_signal, pin_content, named_connection, named_connections_from, named_connections, connections, instance, instances_from, instances, cell_item, item, items_from, items}
use Rattle.dft_netlist_text.specs.NetlistText.{announced_name, announced_names_from, announced_names, declared_port, port_declaration_of, port_declaration, declared_ports_from, declared_ports, header_names, header, heading, module_end, end_of_text, module_text, module_of}
use Rattle.dft_netlist_text.proofs.Outcomes.{outcome, refused}

pub cells_1 :
    (outcome (codes "module m (a); input a; INV (.A(a)); endmodule") ≡ refused cause.Token 1 28)
    × (outcome (codes "module m (a); input a; INV u; endmodule") ≡ refused cause.Token 1 29)
    × (outcome (codes "module m (a); input a; INV u (,); endmodule") ≡ refused cause.Token 1 31)
    × (outcome (codes "module m (a); input a; INV u (.A(a),); endmodule") ≡ refused cause.Token 1 37)
    × (outcome (codes "module m (a); input a; INV u (.A(a) .Y(n)); endmodule") ≡ refused cause.Token 1 37)
    × (outcome (codes "module m (a); input a; INV u (.A); endmodule") ≡ refused cause.Token 1 33)
    × (outcome (codes "module m (a); input a; INV u (.[0](a)); endmodule") ≡ refused cause.Token 1 32)
    × (outcome (codes "module m (a); input a; INV u (.A(a,a)); endmodule") ≡ refused cause.Token 1 35)
unfolding comment_rest attribute_rest blank_len begins_blank to_blank word_kind mark_kind escaped quote directive lexeme kind_of bytes left next same_kind sees refusal expect after number rest_of_range range range_if_any digits constant followed rest_of_select selection named_operand constant_operand operand opening closing concatenations_from expression declared_name declared_names_from declared_names declaration port_item wire_item right_side net_assignment net_assignments_from net_assignments assign_item terminal input_terminals_from input_terminals terminals named_gate unnamed_gate one_gate gates_from gates gate_item connected_pin pin_signal pin_content named_connection named_connections_from named_connections connections instance instances_from instances cell_item item items_from items announced_name announced_names_from announced_names declared_port port_declaration_of port_declaration declared_ports_from declared_ports header_names header heading module_end end_of_text module_text module_of place_after next_place words.reserved_words fmt.digits
cells_1 = (refl, refl, refl, refl, refl, refl, refl, refl)

pub cells_2 :
    (outcome (codes "module m (a); input a; INV u (.A(zz; endmodule") ≡ refused cause.Token 1 36)
    × (outcome (codes "module m (a); input a; INV u (.A(a)), u (.A(a)); endmodule") ≡ refused (cause.Taken (codes "u")) 1 39)
    × (outcome (codes "module m (a); input a; INV u (.A(a)), v (.A(a), .A(a)); endmodule") ≡ refused (cause.JoinedTwice (codes "A")) 1 50)
    × (outcome (codes "module m (a); input a; INV u (.A(a), .A(zz[0])); endmodule") ≡ refused (cause.JoinedTwice (codes "A")) 1 39)
    × (outcome (codes "module m (a); input a; INV u (.B(zz[0])); endmodule") ≡ refused (cause.NoPin (codes "B")) 1 32)
    × (outcome (codes "module m (a); input a; INV u (.B reg") ≡ refused (cause.NoPin (codes "B")) 1 32)
    × (outcome (codes "module m (a); input a; INV u (.A(zz[0]), .B(a)); endmodule") ≡ refused (cause.Undeclared (codes "zz")) 1 34)
    × (outcome (codes "module m (a); input a; INV u (.reg(a)); endmodule") ≡ refused (cause.Unsupported (codes "reg")) 1 32)
unfolding comment_rest attribute_rest blank_len begins_blank to_blank word_kind mark_kind escaped quote directive lexeme kind_of bytes left next same_kind sees refusal expect after number rest_of_range range range_if_any digits constant followed rest_of_select selection named_operand constant_operand operand opening closing concatenations_from expression declared_name declared_names_from declared_names declaration port_item wire_item right_side net_assignment net_assignments_from net_assignments assign_item terminal input_terminals_from input_terminals terminals named_gate unnamed_gate one_gate gates_from gates gate_item connected_pin pin_signal pin_content named_connection named_connections_from named_connections connections instance instances_from instances cell_item item items_from items announced_name announced_names_from announced_names declared_port port_declaration_of port_declaration declared_ports_from declared_ports header_names header heading module_end end_of_text module_text module_of place_after next_place words.reserved_words fmt.digits
cells_2 = (refl, refl, refl, refl, refl, refl, refl, refl)

pub cells_3 :
    (outcome (codes "module m (a); input a; INV u (.\\A (a), .\\Y (n)); endmodule") ≡ None)
    × (outcome (codes "module m (a); input a; INV u (.\\A (a), .A(a)); endmodule") ≡ refused (cause.JoinedTwice (codes "A")) 1 41)
    × (outcome (codes "module m (a); input a; \\INV u (.A(a)); endmodule") ≡ None)
    × (outcome (codes "module m (a); input a; \\and u (.A(a)); endmodule") ≡ refused cause.Token 1 24)
    × (outcome (codes "module m (a); input a; foo = a; endmodule") ≡ refused cause.Token 1 24)
    × (outcome (codes "module m (a); input a; foo") ≡ refused cause.Token 1 24)
    × (outcome (codes "module m (a); input a; foo" ++ ((1 ∷ []))) ≡ refused cause.Token 1 24)
    × (outcome (codes "module m (a); input a; inv u (.A(a)); endmodule") ≡ refused cause.Token 1 24)
unfolding comment_rest attribute_rest blank_len begins_blank to_blank word_kind mark_kind escaped quote directive lexeme kind_of bytes left next same_kind sees refusal expect after number rest_of_range range range_if_any digits constant followed rest_of_select selection named_operand constant_operand operand opening closing concatenations_from expression declared_name declared_names_from declared_names declaration port_item wire_item right_side net_assignment net_assignments_from net_assignments assign_item terminal input_terminals_from input_terminals terminals named_gate unnamed_gate one_gate gates_from gates gate_item connected_pin pin_signal pin_content named_connection named_connections_from named_connections connections instance instances_from instances cell_item item items_from items announced_name announced_names_from announced_names declared_port port_declaration_of port_declaration declared_ports_from declared_ports header_names header heading module_end end_of_text module_text module_of place_after next_place words.reserved_words fmt.digits
cells_3 = (refl, refl, refl, refl, refl, refl, refl, refl)

pub cells_4 :
    (outcome (codes "module m (a); input a; INV a (") ≡ refused (cause.Taken (codes "a")) 1 28)
    × (outcome (codes "module m (a); input a; INV reg (") ≡ refused (cause.Unsupported (codes "reg")) 1 28)
    × (outcome (codes "module m (a); input a; INV u (.A(a)), ; endmodule") ≡ refused cause.Token 1 39)
    × (outcome (codes "module m (a); input a; INV u (.A(a)) ,v; endmodule") ≡ refused cause.Token 1 40)
    × (outcome (codes "module m (a); input a; TIE1 t (.Y(n)); INV u (.A(n), .Y()); endmodule") ≡ None)
    × (outcome (codes "module m (a); input a; MUX2 m (.S(a), .A(a), .B(a), .Y(n)); endmodule") ≡ None)
    × (outcome (codes "module m (a); input a; INV u (.A({{a}}), .Y({{{n}}})); endmodule") ≡ None)
    × (outcome (codes "module m (a); input a; INV u (.A(a)); ; endmodule") ≡ refused cause.Token 1 39)
unfolding comment_rest attribute_rest blank_len begins_blank to_blank word_kind mark_kind escaped quote directive lexeme kind_of bytes left next same_kind sees refusal expect after number rest_of_range range range_if_any digits constant followed rest_of_select selection named_operand constant_operand operand opening closing concatenations_from expression declared_name declared_names_from declared_names declaration port_item wire_item right_side net_assignment net_assignments_from net_assignments assign_item terminal input_terminals_from input_terminals terminals named_gate unnamed_gate one_gate gates_from gates gate_item connected_pin pin_signal pin_content named_connection named_connections_from named_connections connections instance instances_from instances cell_item item items_from items announced_name announced_names_from announced_names declared_port port_declaration_of port_declaration declared_ports_from declared_ports header_names header heading module_end end_of_text module_text module_of place_after next_place words.reserved_words fmt.digits
cells_4 = (refl, refl, refl, refl, refl, refl, refl, refl)

pub cells_5 :
    (outcome (codes "module m (a); input a; = a;") ≡ refused cause.Token 1 24)
unfolding comment_rest attribute_rest blank_len begins_blank to_blank word_kind mark_kind escaped quote directive lexeme kind_of bytes left next same_kind sees refusal expect after number rest_of_range range range_if_any digits constant followed rest_of_select selection named_operand constant_operand operand opening closing concatenations_from expression declared_name declared_names_from declared_names declaration port_item wire_item right_side net_assignment net_assignments_from net_assignments assign_item terminal input_terminals_from input_terminals terminals named_gate unnamed_gate one_gate gates_from gates gate_item connected_pin pin_signal pin_content named_connection named_connections_from named_connections connections instance instances_from instances cell_item item items_from items announced_name announced_names_from announced_names declared_port port_declaration_of port_declaration declared_ports_from declared_ports header_names header heading module_end end_of_text module_text module_of place_after next_place words.reserved_words fmt.digits
cells_5 = refl
