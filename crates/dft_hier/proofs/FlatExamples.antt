-- What texts of several modules stand for, worked by hand.
use Rattle.std.proofs.Common.{true, ◌≡◌, refl, codes, Some, None, List, [], ◌∷◌, map}
use Rattle.std.specs.Fmt as fmt
use Rattle.dft_base.specs.Words as words
use Rattle.dft_base.specs.Lexing.{place_after, next_place}
use Rattle.dft_base.specs.declared.dir.Dir.TheVariants as dir
use Rattle.dft_netlist.specs.declared.instance.Signal.TheVariants as signal
use Rattle.dft_netlist.specs.declared.instance.CellRef.TheVariants as cell_ref
use Rattle.dft_netlist_text.specs.Lexemes.{comment_rest, attribute_rest, blank_len, begins_blank, to_blank, word_kind, mark_kind, escaped, quote, directive, lexeme}
use Rattle.dft_netlist_text.specs.Steps.{kind_of, bytes, left, next, same_kind, sees, refusal, expect, after}
use Rattle.dft_netlist_text.specs.Expressions.{number, rest_of_range, range, range_if_any, digits, constant, followed, rest_of_select, selection, named_operand, constant_operand, operand, opening, closing, concatenations_from, expression}
use Rattle.dft_netlist_text.specs.Items.{declared_name, declared_names_from, declared_names, declaration, port_item, wire_item, right_side, net_assignment, net_assignments_from, net_assignments, assign_item, terminal, input_terminals_from, input_terminals, terminals, named_gate, unnamed_gate, one_gate, gates_from, gates, gate_item, connected_pin, pin_signal, pin_content, named_connection, named_connections_from, named_connections, connections, instance, instances_from, instances, cell_item, item, items_from, items}
use Rattle.dft_netlist_text.specs.NetlistText.{announced_name, announced_names_from, announced_names, declared_port, port_declaration_of, port_declaration, declared_ports_from, declared_ports, header_names, header, heading, module_end}
use Rattle.dft_modules.specs.SubInstances.{named_port, port_content, port_connection, port_connections_from, port_connections, sub_instance, sub_instances_from, sub_instances, sub_item, module_item, module_items_from, module_items, one_module}
use Rattle.dft_modules.specs.ModuleTexts.{next_module, modules_from, modules_of}
use Rattle.dft_netlist.specs.declared.error.NetlistError.TheVariants as netlist
use Rattle.std.specs.Prelude.{Err}
use Rattle.dft_hier.specs.Flat.{flat_netlist}
use Rattle.std.proofs.lemmas.List.Elements.{All-nil}
use Rattle.dft_base.specs.Lexing.{Text}
use Rattle.dft_modules.specs.declared.module.Item.TheVariants as item
use Rattle.dft_modules.specs.Modules.{Module}
use Rattle.dft_hier.specs.Refusals.{Within, Deeper, IsFirstInItself}
use Rattle.dft_hier.proofs.Outcomes.{flat, stands, top_count, misfit}

pub two_inverters_in_a_module :
    flat (codes "module inv2 (a, y); input a; output y; INV i0 (.A(a), .Y(n)); INV i1 (.A(n), .Y(y)); endmodule module m (c, d, q); input c, d; output q; inv2 u (.a(d), .y(w)); DFF f (.CK(c), .D(w), .Q(q)); endmodule")
    ≡ stands (codes "m")
    (record { name = codes "c"; dir = dir.Input; range = None; bits = record { 0 = 0 } ∷ [] } ∷ record { name = codes "d"; dir = dir.Input; range = None; bits = record { 0 = 1 } ∷ [] } ∷ record { name = codes "q"; dir = dir.Output; range = None; bits = record { 0 = 2 } ∷ [] } ∷ [])
    (codes "c" ∷ codes "d" ∷ codes "q" ∷ codes "w" ∷ codes "u/a" ∷ codes "u/y" ∷ codes "u/n" ∷ [])
    (record { name = Some (codes "u/i0"); cell = cell_ref.Library (record { 0 = 8 }); pins = signal.Net (record { 0 = 4 }) ∷ signal.Net (record { 0 = 6 }) ∷ [] } ∷ record { name = Some (codes "u/i1"); cell = cell_ref.Library (record { 0 = 8 }); pins = signal.Net (record { 0 = 6 }) ∷ signal.Net (record { 0 = 5 }) ∷ [] } ∷ record { name = Some (codes "f"); cell = cell_ref.Library (record { 0 = 5 }); pins = signal.Net (record { 0 = 0 }) ∷ signal.Net (record { 0 = 3 }) ∷ signal.Net (record { 0 = 2 }) ∷ signal.Unconnected ∷ [] } ∷ [])
    (record { target = record { 0 = 4 }; source = signal.Net (record { 0 = 1 }) } ∷ record { target = record { 0 = 3 }; source = signal.Net (record { 0 = 5 }) } ∷ [])
unfolding comment_rest attribute_rest blank_len begins_blank to_blank word_kind mark_kind escaped quote directive lexeme kind_of bytes left next same_kind sees refusal expect after number rest_of_range range range_if_any digits constant followed rest_of_select selection named_operand constant_operand operand opening closing concatenations_from expression declared_name declared_names_from declared_names declaration port_item wire_item right_side net_assignment net_assignments_from net_assignments assign_item terminal input_terminals_from input_terminals terminals named_gate unnamed_gate one_gate gates_from gates gate_item connected_pin pin_signal pin_content named_connection named_connections_from named_connections connections instance instances_from instances cell_item item items_from items announced_name announced_names_from announced_names declared_port port_declaration_of port_declaration declared_ports_from declared_ports header_names header heading module_end place_after next_place words.reserved_words fmt.digits named_port port_content port_connection port_connections_from port_connections sub_instance sub_instances_from sub_instances sub_item module_item module_items_from module_items one_module next_module modules_from modules_of flat_netlist
two_inverters_in_a_module = refl

pub two_tops : top_count (codes "module inv2 (a, y); input a; output y; INV i0 (.A(a), .Y(n)); INV i1 (.A(n), .Y(y)); endmodule module m (c, d, q); input c, d; output q; BUF u (.A(d), .Y(w)); DFF f (.CK(c), .D(w), .Q(q)); endmodule") ≡ 2
unfolding comment_rest attribute_rest blank_len begins_blank to_blank word_kind mark_kind escaped quote directive lexeme kind_of bytes left next same_kind sees refusal expect after number rest_of_range range range_if_any digits constant followed rest_of_select selection named_operand constant_operand operand opening closing concatenations_from expression declared_name declared_names_from declared_names declaration port_item wire_item right_side net_assignment net_assignments_from net_assignments assign_item terminal input_terminals_from input_terminals terminals named_gate unnamed_gate one_gate gates_from gates gate_item connected_pin pin_signal pin_content named_connection named_connections_from named_connections connections instance instances_from instances cell_item item items_from items announced_name announced_names_from announced_names declared_port port_declaration_of port_declaration declared_ports_from declared_ports header_names header heading module_end place_after next_place words.reserved_words fmt.digits named_port port_content port_connection port_connections_from port_connections sub_instance sub_instances_from sub_instances sub_item module_item module_items_from module_items one_module next_module modules_from modules_of flat_netlist
two_tops = refl

pub vectors_two_levels_down :
    flat (codes "module k (input [1:0] a, output [0:1] y); INV i (.A(a[0]), .Y(y[1])); assign y[0] = a[1]; endmodule module l (input p, output [1:0] s); k u (.a({p, 1'b1}), .y(s)), v (.y({x, z}), .a({z, x})); endmodule module t (output [1:0] o); l m (.s(o)); endmodule")
    ≡ stands (codes "t")
    (record { name = codes "o"; dir = dir.Output; range = Some (record { left = 1; right = 0 }); bits = record { 0 = 0 } ∷ record { 0 = 1 } ∷ [] } ∷ [])
    (codes "o[1]" ∷ codes "o[0]" ∷ codes "m/p" ∷ codes "m/s[1]" ∷ codes "m/s[0]" ∷ codes "m/x" ∷ codes "m/z" ∷ codes "m/u/a[1]" ∷ codes "m/u/a[0]" ∷ codes "m/u/y[0]" ∷ codes "m/u/y[1]" ∷ codes "m/v/a[1]" ∷ codes "m/v/a[0]" ∷ codes "m/v/y[0]" ∷ codes "m/v/y[1]" ∷ [])
    (record { name = Some (codes "m/u/i"); cell = cell_ref.Library (record { 0 = 8 }); pins = signal.Net (record { 0 = 8 }) ∷ signal.Net (record { 0 = 10 }) ∷ [] } ∷ record { name = Some (codes "m/v/i"); cell = cell_ref.Library (record { 0 = 8 }); pins = signal.Net (record { 0 = 12 }) ∷ signal.Net (record { 0 = 14 }) ∷ [] } ∷ [])
    (record { target = record { 0 = 0 }; source = signal.Net (record { 0 = 3 }) } ∷ record { target = record { 0 = 1 }; source = signal.Net (record { 0 = 4 }) } ∷ record { target = record { 0 = 7 }; source = signal.Net (record { 0 = 2 }) } ∷ record { target = record { 0 = 8 }; source = signal.Constant true } ∷ record { target = record { 0 = 3 }; source = signal.Net (record { 0 = 9 }) } ∷ record { target = record { 0 = 4 }; source = signal.Net (record { 0 = 10 }) } ∷ record { target = record { 0 = 9 }; source = signal.Net (record { 0 = 7 }) } ∷ record { target = record { 0 = 11 }; source = signal.Net (record { 0 = 6 }) } ∷ record { target = record { 0 = 12 }; source = signal.Net (record { 0 = 5 }) } ∷ record { target = record { 0 = 5 }; source = signal.Net (record { 0 = 13 }) } ∷ record { target = record { 0 = 6 }; source = signal.Net (record { 0 = 14 }) } ∷ record { target = record { 0 = 13 }; source = signal.Net (record { 0 = 11 }) } ∷ [])
unfolding comment_rest attribute_rest blank_len begins_blank to_blank word_kind mark_kind escaped quote directive lexeme kind_of bytes left next same_kind sees refusal expect after number rest_of_range range range_if_any digits constant followed rest_of_select selection named_operand constant_operand operand opening closing concatenations_from expression declared_name declared_names_from declared_names declaration port_item wire_item right_side net_assignment net_assignments_from net_assignments assign_item terminal input_terminals_from input_terminals terminals named_gate unnamed_gate one_gate gates_from gates gate_item connected_pin pin_signal pin_content named_connection named_connections_from named_connections connections instance instances_from instances cell_item item items_from items announced_name announced_names_from announced_names declared_port port_declaration_of port_declaration declared_ports_from declared_ports header_names header heading module_end place_after next_place words.reserved_words fmt.digits named_port port_content port_connection port_connections_from port_connections sub_instance sub_instances_from sub_instances sub_item module_item module_items_from module_items one_module next_module modules_from modules_of flat_netlist
vectors_two_levels_down = refl

pub no_port_of_the_name : misfit (codes "module k (a); input a; endmodule module t; k u (.b(x)); endmodule") ≡ Some (codes "b")
unfolding comment_rest attribute_rest blank_len begins_blank to_blank word_kind mark_kind escaped quote directive lexeme kind_of bytes left next same_kind sees refusal expect after number rest_of_range range range_if_any digits constant followed rest_of_select selection named_operand constant_operand operand opening closing concatenations_from expression declared_name declared_names_from declared_names declaration port_item wire_item right_side net_assignment net_assignments_from net_assignments assign_item terminal input_terminals_from input_terminals terminals named_gate unnamed_gate one_gate gates_from gates gate_item connected_pin pin_signal pin_content named_connection named_connections_from named_connections connections instance instances_from instances cell_item item items_from items announced_name announced_names_from announced_names declared_port port_declaration_of port_declaration declared_ports_from declared_ports header_names header heading module_end place_after next_place words.reserved_words fmt.digits named_port port_content port_connection port_connections_from port_connections sub_instance sub_instances_from sub_instances sub_item module_item module_items_from module_items one_module next_module modules_from modules_of flat_netlist
no_port_of_the_name = refl

pub another_width : misfit (codes "module k (a); input [1:0] a; endmodule module t; k u (.a(x)); endmodule") ≡ Some (codes "a")
unfolding comment_rest attribute_rest blank_len begins_blank to_blank word_kind mark_kind escaped quote directive lexeme kind_of bytes left next same_kind sees refusal expect after number rest_of_range range range_if_any digits constant followed rest_of_select selection named_operand constant_operand operand opening closing concatenations_from expression declared_name declared_names_from declared_names declaration port_item wire_item right_side net_assignment net_assignments_from net_assignments assign_item terminal input_terminals_from input_terminals terminals named_gate unnamed_gate one_gate gates_from gates gate_item connected_pin pin_signal pin_content named_connection named_connections_from named_connections connections instance instances_from instances cell_item item items_from items announced_name announced_names_from announced_names declared_port port_declaration_of port_declaration declared_ports_from declared_ports header_names header heading module_end place_after next_place words.reserved_words fmt.digits named_port port_content port_connection port_connections_from port_connections sub_instance sub_instances_from sub_instances sub_item module_item module_items_from module_items one_module next_module modules_from modules_of flat_netlist
another_width = refl

pub a_constant_at_an_output : misfit (codes "module k (y); output y; endmodule module t; k u (.y(1'b0)); endmodule") ≡ Some (codes "y")
unfolding comment_rest attribute_rest blank_len begins_blank to_blank word_kind mark_kind escaped quote directive lexeme kind_of bytes left next same_kind sees refusal expect after number rest_of_range range range_if_any digits constant followed rest_of_select selection named_operand constant_operand operand opening closing concatenations_from expression declared_name declared_names_from declared_names declaration port_item wire_item right_side net_assignment net_assignments_from net_assignments assign_item terminal input_terminals_from input_terminals terminals named_gate unnamed_gate one_gate gates_from gates gate_item connected_pin pin_signal pin_content named_connection named_connections_from named_connections connections instance instances_from instances cell_item item items_from items announced_name announced_names_from announced_names declared_port port_declaration_of port_declaration declared_ports_from declared_ports header_names header heading module_end place_after next_place words.reserved_words fmt.digits named_port port_content port_connection port_connections_from port_connections sub_instance sub_instances_from sub_instances sub_item module_item module_items_from module_items one_module next_module modules_from modules_of flat_netlist
a_constant_at_an_output = refl

pub nothing_at_any_width : misfit (codes "module k (a); input [1:0] a; endmodule module t; k u (.a()); endmodule") ≡ None
unfolding comment_rest attribute_rest blank_len begins_blank to_blank word_kind mark_kind escaped quote directive lexeme kind_of bytes left next same_kind sees refusal expect after number rest_of_range range range_if_any digits constant followed rest_of_select selection named_operand constant_operand operand opening closing concatenations_from expression declared_name declared_names_from declared_names declaration port_item wire_item right_side net_assignment net_assignments_from net_assignments assign_item terminal input_terminals_from input_terminals terminals named_gate unnamed_gate one_gate gates_from gates gate_item connected_pin pin_signal pin_content named_connection named_connections_from named_connections connections instance instances_from instances cell_item item items_from items announced_name announced_names_from announced_names declared_port port_declaration_of port_declaration declared_ports_from declared_ports header_names header heading module_end place_after next_place words.reserved_words fmt.digits named_port port_content port_connection port_connections_from port_connections sub_instance sub_instances_from sub_instances sub_item module_item module_items_from module_items one_module next_module modules_from modules_of flat_netlist
nothing_at_any_width = refl

pub a_flat_name_that_is_taken : flat (codes "module k (a); input a; endmodule module t; wire \\u/a ; k u (); endmodule") ≡ Some (Err (netlist.DuplicateName (codes "u/a")))
unfolding comment_rest attribute_rest blank_len begins_blank to_blank word_kind mark_kind escaped quote directive lexeme kind_of bytes left next same_kind sees refusal expect after number rest_of_range range range_if_any digits constant followed rest_of_select selection named_operand constant_operand operand opening closing concatenations_from expression declared_name declared_names_from declared_names declaration port_item wire_item right_side net_assignment net_assignments_from net_assignments assign_item terminal input_terminals_from input_terminals terminals named_gate unnamed_gate one_gate gates_from gates gate_item connected_pin pin_signal pin_content named_connection named_connections_from named_connections connections instance instances_from instances cell_item item items_from items announced_name announced_names_from announced_names declared_port port_declaration_of port_declaration declared_ports_from declared_ports header_names header heading module_end place_after next_place words.reserved_words fmt.digits named_port port_content port_connection port_connections_from port_connections sub_instance sub_instances_from sub_instances sub_item module_item module_items_from module_items one_module next_module modules_from modules_of flat_netlist
a_flat_name_that_is_taken = refl

-- a module without ports and nets, with instances of these modules
abbrev with_instances : Text → List Text → Module
with_instances name of = record { name = name; ports = []; nets = []; items = map (λ m. item.Sub (record { name = codes "u"; of = m; connections = [] })) of }

pub in_itself : IsFirstInItself (with_instances (codes "m") (codes "m" ∷ []) ∷ []) (codes "m")
in_itself = record { front = []; m = with_instances (codes "m") (codes "m" ∷ []); back = []; split = refl; named = refl; below = Within refl refl; first = All-nil _ }

-- the first module in the order of the text, and not the module of the first instance on a circle
pub below_itself : IsFirstInItself (with_instances (codes "a") (codes "b" ∷ []) ∷ with_instances (codes "b") (codes "a" ∷ []) ∷ []) (codes "a")
below_itself = record { front = []; m = with_instances (codes "a") (codes "b" ∷ []); back = with_instances (codes "b") (codes "a" ∷ []) ∷ []; split = refl; named = refl; below = Deeper {between = codes "b"} refl refl (Within refl refl); first = All-nil _ }
