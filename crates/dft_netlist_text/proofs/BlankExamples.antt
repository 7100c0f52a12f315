-- Netlist texts worked by hand: blanks, comments, attributes and directives.
use Rattle.std.proofs.Common.{◌≡◌, ◌++◌, refl, codes, None, [], ◌∷◌}
use Rattle.std.specs.Fmt as fmt
use Rattle.dft_base.specs.Words as words
use Rattle.dft_base.specs.Lexing.{place_after, next_place}
use Rattle.dft_netlist_text.specs.declared.text.Cause.TheVariants as cause
use Rattle.dft_netlist_text.specs.Lexemes.{comment_rest, attribute_rest, blank_len, begins_blank, to_blank, word_kind, mark_kind, escaped, quote, directive, lexeme}
use Rattle.dft_netlist_text.specs.Steps.{kind_of, bytes, left, next, same_kind, sees, refusal, expect, after}
use Rattle.dft_netlist_text.specs.Expressions.{number, rest_of_range, range, range_if_any, digits, constant, followed, rest_of_select, selection, named_operand, constant_operand, operand, opening, closing, concatenations_from, expression}
use Rattle.dft_netlist_text.specs.Items.{declared_name, declared_names_from, declared_names, declaration, port_item, wire_item, right_side, net_assignment, net_assignments_from, net_assignments, assign_item, terminal, input_terminals_from, input_terminals, terminals, named_gate, unnamed_gate, one_gate, gates_from, gates, gate_item, connected_pin, pin_signal, pin_content, named_connection, named_connections_from, named_connections, connections, instance, instances_from, instances, cell_item, item, items_from, items}
use Rattle.dft_netlist_text.specs.NetlistText.{announced_name, announced_names_from, announced_names, declared_port, port_declaration_of, port_declaration, declared_ports_from, declared_ports, header_names, header, heading, module_end, end_of_text, module_text, module_of}
use Rattle.dft_netlist_text.proofs.Outcomes.{outcome, refused}

pub blanks_1 :
    (outcome (codes "") ≡ refused cause.Ended 1 1)
    × (outcome (codes "/* x */") ≡ refused cause.Ended 1 8)
    × (outcome (codes "/*/ module m; endmodule") ≡ refused cause.Ended 1 24)
    × (outcome (codes "module m; /* a /* b */ endmodule") ≡ None)
    × (outcome (codes "module m; /* a /* b */ */ endmodule") ≡ refused cause.Token 1 24)
    × (outcome (codes "module m (a); input a; INV u(*) (.A(a)); endmodule") ≡ refused cause.Ended 1 51)
    × (outcome (codes "(**) module m; endmodule") ≡ None)
    × (outcome (codes "module (* a *) m (* b *) ( (* c *) a (* d *) ) (* e *) ; input (* f *) a (* g *) ; INV (* h *) u (* i *) ( (* j *) . (* k *) A (* l *) ( (* m *) a (* n *) ) ) ; endmodule (* o *)") ≡ None)
unfolding comment_rest attribute_rest blank_len begins_blank to_blank word_kind mark_kind escaped quote directive lexeme kind_of bytes left next same_kind sees refusal expect after number rest_of_range range range_if_any digits constant followed rest_of_select selection named_operand constant_operand operand opening closing concatenations_from expression declared_name declared_names_from declared_names declaration port_item wire_item right_side net_assignment net_assignments_from net_assignments assign_item terminal input_terminals_from input_terminals terminals named_gate unnamed_gate one_gate gates_from gates gate_item connected_pin pin_signal pin_content named_connection named_connections_from named_connections connections instance instances_from instances cell_item item items_from items announced_name announced_names_from announced_names declared_port port_declaration_of port_declaration declared_ports_from declared_ports header_names header heading module_end end_of_text module_text module_of place_after next_place words.reserved_words fmt.digits
blanks_1 = (refl, refl, refl, refl, refl, refl, refl, refl)

pub blanks_2 :
    (outcome (codes "(* x = \"a\\\" *) module m; endmodule") ≡ None)
    × (outcome (codes "(* /* *) module m; // (* \n /* (* \" */ endmodule") ≡ None)
    × (outcome (codes "module m; // " ++ ((128 ∷ []) ++ (codes " /* \n endmodule"))) ≡ None)
    × (outcome (codes "module m; /* " ++ ((128 ∷ []) ++ (codes " " ++ ((1 ∷ []) ++ (codes " */ (* " ++ ((255 ∷ []) ++ (codes " *) endmodule"))))))) ≡ None)
    × (outcome (codes "module m; `timescale 1 /* x (* \"\n endmodule") ≡ None)
    × (outcome (codes "module m; `timescale 1 // " ++ ((128 ∷ []) ++ (codes "\n endmodule"))) ≡ refused cause.Byte 1 27)
    × (outcome (codes "module m; `celldefine" ++ ((11 ∷ []) ++ (codes "\nendmodule"))) ≡ refused cause.Byte 1 22)
    × (outcome (codes "module m; `resetall;endmodule") ≡ refused cause.Ended 1 30)
unfolding comment_rest attribute_rest blank_len begins_blank to_blank word_kind mark_kind escaped quote directive lexeme kind_of bytes left next same_kind sees refusal expect after number rest_of_range range range_if_any digits constant followed rest_of_select selection named_operand constant_operand operand opening closing concatenations_from expression declared_name declared_names_from declared_names declaration port_item wire_item right_side net_assignment net_assignments_from net_assignments assign_item terminal input_terminals_from input_terminals terminals named_gate unnamed_gate one_gate gates_from gates gate_item connected_pin pin_signal pin_content named_connection named_connections_from named_connections connections instance instances_from instances cell_item item items_from items announced_name announced_names_from announced_names declared_port port_declaration_of port_declaration declared_ports_from declared_ports header_names header heading module_end end_of_text module_text module_of place_after next_place words.reserved_words fmt.digits
blanks_2 = (refl, refl, refl, refl, refl, refl, refl, refl)

pub blanks_3 :
    (outcome (codes "module m; `timescale$ 1\nendmodule") ≡ refused (cause.Unsupported (codes "`timescale$")) 1 11)
    × (outcome (codes "module m; `endcelldefine") ≡ refused cause.Ended 1 25)
    × (outcome (codes "module m; ` x") ≡ refused (cause.Unsupported (codes "`")) 1 11)
    × (outcome (codes "module m; #5 " ++ ((128 ∷ []))) ≡ refused (cause.Unsupported (codes "#5")) 1 11)
    × (outcome (codes "module m; #5" ++ ((128 ∷ []) ++ (codes " x"))) ≡ refused cause.Byte 1 13)
    × (outcome (codes "module m; #/* x") ≡ refused (cause.Unsupported (codes "#")) 1 11)
    × (outcome (codes "module m; #a`timescale x") ≡ refused (cause.Unsupported (codes "#a")) 1 11)
    × (outcome (codes "module m; #a`timescalex;") ≡ refused (cause.Unsupported (codes "#a`timescalex;")) 1 11)
unfolding comment_rest attribute_rest blank_len begins_blank to_blank word_kind mark_kind escaped quote directive lexeme kind_of bytes left next same_kind sees refusal expect after number rest_of_range range range_if_any digits constant followed rest_of_select selection named_operand constant_operand operand opening closing concatenations_from expression declared_name declared_names_from declared_names declaration port_item wire_item right_side net_assignment net_assignments_from net_assignments assign_item terminal input_terminals_from input_terminals terminals named_gate unnamed_gate one_gate gates_from gates gate_item connected_pin pin_signal pin_content named_connection named_connections_from named_connections connections instance instances_from instances cell_item item items_from items announced_name announced_names_from announced_names declared_port port_declaration_of port_declaration declared_ports_from declared_ports header_names header heading module_end end_of_text module_text module_of place_after next_place words.reserved_words fmt.digits
blanks_3 = (refl, refl, refl, refl, refl, refl, refl, refl)

pub blanks_4 :
    (outcome (codes "module m; `define//x") ≡ refused (cause.Unsupported (codes "`define")) 1 11)
    × (outcome ((12 ∷ []) ++ (codes "module" ++ ((9 ∷ []) ++ (codes "m" ++ ((13 ∷ []) ++ (codes "\n;\nendmodule\n")))))) ≡ None)
    × (outcome (codes "module m; " ++ ((127 ∷ []))) ≡ refused cause.Byte 1 11)
    × (outcome (codes "module m; " ++ ((0 ∷ []))) ≡ refused cause.Byte 1 11)
    × (outcome (codes "module m;" ++ ((13 ∷ []) ++ (codes "\n  wire a,\n" ++ ((9 ∷ []) ++ (codes "b,\n a; endmodule"))))) ≡ refused (cause.Taken (codes "a")) 4 2)
    × (outcome (codes "module m;" ++ ((13 ∷ []) ++ (codes "wire a, a;"))) ≡ refused (cause.Taken (codes "a")) 1 19)
    × (outcome (codes "module m; wire a /") ≡ refused cause.Token 1 18)
    × (outcome (codes "module m; wire \"a\";") ≡ refused cause.Token 1 16)
unfolding comment_rest attribute_rest blank_len begins_blank to_blank word_kind mark_kind escaped quote directive lexeme kind_of bytes left next same_kind sees refusal expect after number rest_of_range range range_if_any digits constant followed rest_of_select selection named_operand constant_operand operand opening closing concatenations_from expression declared_name declared_names_from declared_names declaration port_item wire_item right_side net_assignment net_assignments_from net_assignments assign_item terminal input_terminals_from input_terminals terminals named_gate unnamed_gate one_gate gates_from gates gate_item connected_pin pin_signal pin_content named_connection named_connections_from named_connections connections instance instances_from instances cell_item item items_from items announced_name announced_names_from announced_names declared_port port_declaration_of port_declaration declared_ports_from declared_ports header_names header heading module_end end_of_text module_text module_of place_after next_place words.reserved_words fmt.digits
blanks_4 = (refl, refl, refl, refl, refl, refl, refl, refl)

pub blanks_5 :
    (outcome (codes "module m;\n") ≡ refused cause.Ended 2 1)
    × (outcome (codes "module m;" ++ ((13 ∷ []) ++ (codes "\n/* \n" ++ ((128 ∷ []))))) ≡ refused cause.Ended 3 2)
    × (outcome (codes "module m; /* \n" ++ ((128 ∷ []) ++ (codes "\n */ (* \n *) x"))) ≡ refused cause.Token 4 5)
    × (outcome (codes "/* " ++ ((128 ∷ []) ++ ((129 ∷ []) ++ (codes " */ x")))) ≡ refused cause.Token 1 10)
    × (outcome (codes "module m; \\" ++ ((1 ∷ []))) ≡ refused cause.Byte 1 12)
    × (outcome (codes "module m (a); input [ 3 (* x *) : /* y */ 0 ] a; endmodule") ≡ None)
unfolding comment_rest attribute_rest blank_len begins_blank to_blank word_kind mark_kind escaped quote directive lexeme kind_of bytes left next same_kind sees refusal expect after number rest_of_range range range_if_any digits constant followed rest_of_select selection named_operand constant_operand operand opening closing concatenations_from expression declared_name declared_names_from declared_names declaration port_item wire_item right_side net_assignment net_assignments_from net_assignments assign_item terminal input_terminals_from input_terminals terminals named_gate unnamed_gate one_gate gates_from gates gate_item connected_pin pin_signal pin_content named_connection named_connections_from named_connections connections instance instances_from instances cell_item item items_from items announced_name announced_names_from announced_names declared_port port_declaration_of port_declaration declared_ports_from declared_ports header_names header heading module_end end_of_text module_text module_of place_after next_place words.reserved_words fmt.digits
blanks_5 = (refl, refl, refl, refl, refl, refl)
