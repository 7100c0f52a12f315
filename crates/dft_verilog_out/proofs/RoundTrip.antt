-- The written form of a netlist is read as the netlist.
use Rattle.std.proofs.Common.{◌≡◌, ℕ, zero, suc, ◌+◌, ◌-◌, ◌<◌, ◌≤◌, List, [], ◌∷◌, ◌++◌, length, map, flat_map, codes, None, Ok, refl, sym, ap, ◌∙◌, subst, arith, append_assoc, length-append}
use Rattle.std.specs.List.{filter_map}
use Rattle.dft_base.specs.Lexing.{Text}
use Rattle.dft_base.specs.Parser.{value_of}
use Rattle.dft_cells.specs.WellFormed.{IsWellFormed}
use Rattle.dft_netlist.specs.declared.port.Port.{Port}
use Rattle.dft_netlist_text.specs.declared.text.TokenKind.TheVariants as kind
use Rattle.dft_netlist.specs.Netlist.{Netlist}
use Rattle.dft_netlist.specs.Names.{instance_name}
use Rattle.dft_netlist.specs.NetDrivers.{IsSingle}
use Rattle.dft_netlist.specs.Orders.{IsOrderable}
use Rattle.dft_netlist.specs.Sound.{IsNetlist, bit_names_of}
use Rattle.dft_netlist_text.specs.Steps.{left}
use Rattle.dft_netlist_text.specs.Modules.{HeaderPort, TakenName, Draft, names_of_bits}
use Rattle.dft_netlist_text.specs.Items.{items_from}
use Rattle.dft_netlist_text.specs.NetlistText.{first_undeclared, module_text, module_of, StandsFor}
use Rattle.dft_verilog_out.specs.Named.{GatesAreJoined}
use Rattle.dft_verilog_out.specs.Written.{name_text, wire_names, net_texts, port_line, wire_line, join_line, instance_line, module_line, body, written}
use Rattle.dft_verilog_out.proofs.FormLemmas.{length-port_texts, others-are, joins-stand, instances-stand, wires-named}
use Rattle.dft_verilog_out.proofs.CutLemmas.{cut_up, cut_up-is, cut_up-endmodule, token}
use Rattle.dft_verilog_out.proofs.ItemLemmas.{items_from-end, module-at}
use Rattle.dft_verilog_out.proofs.CountLemmas.{Once, words, names_once}
use Rattle.dft_verilog_out.proofs.DraftLemmas.{words-append, words-bits, bit_entries}
use Rattle.dft_verilog_out.proofs.OperandLemmas.{NetsAt}
use Rattle.dft_verilog_out.proofs.LineLemmas.{Lines, lines_more}
use Rattle.dft_verilog_out.proofs.PhaseLemmas.{stage, undeclared, declared_ports, bit_words, bits_entries, wire_entries, good_ports, all_names, announced-kept, ports_read, wires_read}
use Rattle.dft_verilog_out.proofs.PartLemmas.{instance_entries, joins_read, instances_read}
use Rattle.dft_verilog_out.proofs.HeaderLemmas.{header_entries, header_words, heading_read}
use Rattle.dft_verilog_out.proofs.KnownLemmas.{announced_at, all_nets_at, text_names_once}
use Rattle.dft_verilog_out.proofs.BuiltLemmas.{draft_built}

-- ---- names of entries

words-header : (place : ℕ) (ps : List Port) → words (header_entries place ps) ≡ header_words ps
words-header place [] = refl
words-header place (p ∷ ps) = ap (λ ws. p.name ∷ ws) (words-header (suc place) ps)

words-bits_entries : (ps : List Port) → words (bits_entries ps) ≡ bit_words ps
words-bits_entries [] = refl
words-bits_entries (p ∷ ps) =
    let bits : List Text = names_of_bits p.name p.range in
    words-append (bit_entries bits) (bits_entries ps) ∙ ap (λ ws. ws ++ words (bits_entries ps)) (words-bits bits) ∙ ap (λ ws. bits ++ ws) (words-bits_entries ps)

words-wires : (first : ℕ) (ws : List Text) → words (wire_entries first ws) ≡ ws
words-wires first [] = refl
words-wires first (w ∷ ws) = ap (λ xs. w ∷ xs) (words-wires (suc first) ws)

-- names that stand once, where more of them are taken
taken_more : (es more : List TakenName) (xs rest : List Text) → words more ≡ xs → Once (words es ++ (xs ++ rest)) → Once (words (es ++ more) ++ rest)
taken_more es more xs rest is once =
    subst Once (sym (append_assoc (words es) xs rest) ∙ ap (λ ws. (words es ++ ws) ++ rest) (sym is) ∙ ap (λ ws. ws ++ rest) (sym (words-append es more))) once

all_declared : (first : ℕ) (ps : List Port) → first_undeclared (declared_ports first ps) ≡ None
all_declared first [] = refl
all_declared first (p ∷ ps) = all_declared (first + _) ps

-- ---- the items

fuel : (count : ℕ) (text rest : Text) (d new : Draft) → Lines count text d new → count ≤ left (cut_up (text ++ rest))
fuel zero text rest d new l = omega arith
fuel (suc count) text rest d new l = let e = l.enough in let s = l.size rest (omega arith) in omega (arith, length-append text rest)

pub items_read : (count : ℕ) (text : Text) (d new : Draft) → Lines count text d new → items_from (left (cut_up (text ++ codes "endmodule\n"))) d (cut_up (text ++ codes "endmodule\n")) ≡ Ok (new, token kind.Endmodule (codes "endmodule") 10 ∷ [])
items_read count text d new l =
    let all : ℕ = left (cut_up (text ++ codes "endmodule\n")) in
    let enough = fuel count text (codes "endmodule\n") d new l in
    let e : all ≡ count + (all - count) = omega arith in
    ap (λ k. items_from k d (cut_up (text ++ codes "endmodule\n"))) e ∙ l.reads (all - count) (codes "endmodule\n") ∙ ap (items_from (all - count) new) cut_up-endmodule
    ∙ items_from-end (all - count) new (codes "endmodule") 10 []

-- ---- the whole

-- the items of a text that was written
abbrev item_text : Netlist → Text
item_text n =
    flat_map port_line n.ports ++ (flat_map wire_line (map name_text (wire_names n)) ++ (flat_map (join_line (net_texts n)) n.joins ++ flat_map (instance_line n.library (net_texts n)) n.instances))

body-is : (n : Netlist) → body n ≡ item_text n ++ codes "endmodule\n"
unfolding body
body-is n =
    let p : Text = flat_map port_line n.ports in
    let w : Text = flat_map wire_line (map name_text (wire_names n)) in
    let j : Text = flat_map (join_line (net_texts n)) n.joins in
    let i : Text = flat_map (instance_line n.library (net_texts n)) n.instances in
    let e : Text = codes "endmodule\n" in
    ap (λ t. p ++ (w ++ t)) (sym (append_assoc j i e)) ∙ ap (λ t. p ++ t) (sym (append_assoc w (j ++ i) e)) ∙ sym (append_assoc p (w ++ (j ++ i)) e)

-- the names that are taken once ports and other nets are declared
abbrev port_names_taken : Netlist → List TakenName
port_names_taken n = header_entries 0 n.ports ++ bits_entries n.ports

abbrev net_names_taken : Netlist → List TakenName
net_names_taken n = port_names_taken n ++ wire_entries (length (bit_names_of n.ports)) (wire_names n)

-- what the draft of the text holds
abbrev whole : Netlist → Draft
whole n = stage n (net_names_taken n ++ instance_entries n.instances) (declared_ports 0 n.ports) (bit_names_of n.ports ++ wire_names n) n.instances n.joins

-- all that is needed of a netlist to read its text
pub record IsWritten (n : Netlist) : Type 0 where
  pub sound : IsNetlist n
  pub well : IsWellFormed n.library
  pub gates : GatesAreJoined n

names_differ : (n : Netlist) → IsWritten n → Once (header_words n.ports ++ (bit_words n.ports ++ (wire_names n ++ filter_map instance_name n.instances)))
names_differ n h = text_names_once n (wire_names n) (others-are n h.sound) (names_once n h.sound.names)

once_ports : (n : Netlist) → IsWritten n → Once (words (header_entries 0 n.ports) ++ (bit_words n.ports ++ (wire_names n ++ filter_map instance_name n.instances)))
once_ports n h = subst (λ ws. Once (ws ++ (bit_words n.ports ++ (wire_names n ++ filter_map instance_name n.instances)))) (sym (words-header 0 n.ports)) (names_differ n h)

once_wires : (n : Netlist) → IsWritten n → Once (words (port_names_taken n) ++ (wire_names n ++ filter_map instance_name n.instances))
once_wires n h = taken_more (header_entries 0 n.ports) (bits_entries n.ports) (bit_words n.ports) (wire_names n ++ filter_map instance_name n.instances) (words-bits_entries n.ports) (once_ports n h)

once_instances : (n : Netlist) → IsWritten n → Once (words (net_names_taken n) ++ filter_map instance_name n.instances)
once_instances n h =
    taken_more (port_names_taken n) (wire_entries (length (bit_names_of n.ports)) (wire_names n)) (wire_names n) (filter_map instance_name n.instances) (words-wires (length (bit_names_of n.ports)) (wire_names n)) (once_wires n h)

room_for_nets : (n : Netlist) → IsWritten n → length (bit_names_of n.ports) + length (wire_names n) ≤ 524288
room_for_nets n h =
    let few = h.sound.few_nets in omega (arith, ap length (others-are n h.sound), length-append (bit_names_of n.ports) (wire_names n))

nets_known : (n : Netlist) → IsWritten n → NetsAt (net_names_taken n) (declared_ports 0 n.ports) (net_texts n)
nets_known n h =
    let bits : ℕ = length (bit_names_of n.ports) in
    all_nets_at (port_names_taken n) (declared_ports 0 n.ports) n.ports (wire_names n) (filter_map instance_name n.instances) bits (sym (length-port_texts n.ports)) (good_ports n.ports h.sound.named.ports) (all_names (wire_names n) (wires-named n h.sound))
    (announced-kept (port_names_taken n) (wire_entries bits (wire_names n)) 0 n.ports (announced-kept (header_entries 0 n.ports) (bits_entries n.ports) 0 n.ports (announced_at [] 0 n.ports _ (names_differ n h))))
    refl (once_wires n h)

all_lines : (n : Netlist) → IsWritten n → Lines (length n.ports + (length (wire_names n) + (length n.joins + length n.instances))) (item_text n) (stage n (header_entries 0 n.ports) (undeclared n.ports) [] [] []) (whole n)
all_lines n h =
    let bits : List Text = bit_names_of n.ports in
    let nets : List Text = bits ++ wire_names n in
    let texts : List Text = net_texts n in
    let declared : List HeaderPort = declared_ports 0 n.ports in
    let start = stage n (header_entries 0 n.ports) (undeclared n.ports) [] [] [] in
    let first = stage n (port_names_taken n) declared bits [] [] in
    let second = stage n (net_names_taken n) declared nets [] [] in
    let third = stage n (net_names_taken n) declared nets [] n.joins in
    let room = room_for_nets n h in
    let ports = ports_read n n.ports (header_entries 0 n.ports) [] [] (wire_names n ++ filter_map instance_name n.instances) (good_ports n.ports h.sound.named.ports) (announced_at [] 0 n.ports _ (names_differ n h)) (once_ports n h) (omega arith) in
    let wires = wires_read n (wire_names n) (port_names_taken n) declared bits (filter_map instance_name n.instances) (all_names (wire_names n) (wires-named n h.sound)) (once_wires n h) room in
    let joins = joins_read n n.joins (net_names_taken n) declared nets [] texts (nets_known n h) (joins-stand n texts n.joins h.sound refl refl) in
    let instances = instances_read n n.instances (net_names_taken n) declared nets [] n.joins texts h.well
    (λ place i at. record { stands = instances-stand n n.library texts n.instances h.sound refl refl refl place i at; own = h.sound.named.instances place i at; joined = h.gates place i at }) (nets_known n h) (once_instances n h) (let few = h.sound.few_instances in omega arith) in
    lines_more (length n.ports) (length (wire_names n) + (length n.joins + length n.instances)) (flat_map port_line n.ports) _ start first (whole n) ports
    (lines_more (length (wire_names n)) (length n.joins + length n.instances) (flat_map wire_line (map name_text (wire_names n))) _ first second (whole n) wires
    (lines_more (length n.joins) (length n.instances) (flat_map (join_line texts) n.joins) (flat_map (instance_line n.library texts) n.instances) second third (whole n) joins instances))

module_read : (n : Netlist) → IsWritten n → value_of (module_text n.library (cut_up (written n))) ≡ Ok (whole n)
unfolding written
module_read n h =
    let start = stage n (header_entries 0 n.ports) (undeclared n.ports) [] [] [] in
    module-at n.library start (whole n) (codes "endmodule") 10 (cut_up (module_line n.name n.ports ++ body n)) (cut_up (body n))
    (heading_read n (bit_words n.ports ++ (wire_names n ++ filter_map instance_name n.instances)) (body n) h.sound.named.own (good_ports n.ports h.sound.named.ports) (names_differ n h) h.sound.few_ports)
    (ap (λ t. items_from (left (cut_up t)) start (cut_up t)) (body-is n) ∙ items_read _ (item_text n) start (whole n) (all_lines n h))
    (all_declared 0 n.ports)

said : (n : Netlist) → IsWritten n → module_of n.library (written n) ≡ Ok (whole n)
unfolding module_of
said n h = ap (λ ts. value_of (module_text n.library ts)) (sym (cut_up-is (written n))) ∙ module_read n h

-- the written form stands for the netlist
pub written_stands : (n : Netlist) → IsWritten n → IsSingle n → ((net : ℕ) → net < length n.nets → IsOrderable n net) → StandsFor n.library (written n) n
written_stands n h single orderable = record {
  draft = whole n;
  said = said n h;
  grown = n;
  parts = draft_built n (net_names_taken n ++ instance_entries n.instances) (wire_names n) h.sound (others-are n h.sound) (names_once n h.sound.names);
  finished = record { same = refl; single = single; orderable = orderable };
}
