-- What the module of a generated netlist says.
use Rattle.std.proofs.Common.{◌≡◌, ℕ, zero, suc, ◌+◌, ◌<◌, true, false, List, [], ◌∷◌, ◌++◌, get_or, flat_map, Some, None, Ok, codes, refl, sym, ap, ◌∙◌, subst, arith, append_assoc, slice_get}
use Rattle.std.specs.List.{range_with_len}
use Rattle.std.proofs.lemmas.Fmt.{decimal_digit}
use Rattle.dft_base.specs.Lexing.{Text}
use Rattle.dft_base.specs.Parser.{value_of}
use Rattle.dft_base.specs.Words.{reserved_words, later_reserved_words}
use Rattle.dft_base.specs.declared.dir.Dir.TheVariants as dir
use Rattle.dft_cells.specs.Standard.{standard_cells}
use Rattle.dft_cells.specs.WellFormed.{has_name}
use Rattle.dft_netlist.specs.declared.instance.Signal.TheVariants as signal
use Rattle.dft_netlist.specs.declared.instance.Join.{Join}
use Rattle.dft_netlist_text.specs.declared.text.Site.TheVariants as site
use Rattle.dft_netlist_text.specs.Modules.{TakenName, Draft}
use Rattle.dft_netlist_text.specs.NetlistText.{module_text, module_of}
use Rattle.dft_verilog_out.specs.Written.{name_text, signal_text, join_line}
use Rattle.dft_verilog_out.proofs.CutLemmas.{cut_up, cut_up-is}
use Rattle.dft_verilog_out.proofs.HeaderLemmas.{header_entries}
use Rattle.dft_verilog_out.proofs.ItemLemmas.{module-at}
use Rattle.dft_verilog_out.proofs.LineLemmas.{Line, Lines, one_line, lines_more, lines_cons, join_read}
use Rattle.dft_verilog_out.proofs.OperandLemmas.{Known, AsNets, AsPort, Whole, Operand, net_operand}
use Rattle.dft_verilog_out.proofs.PhaseLemmas.{stage, declared_ports}
use Rattle.dft_verilog_out.proofs.RoundTrip.{items_read}
use Rattle.dft_generate.specs.Jobs.{IsSize}
use Rattle.dft_generate.specs.Netlists.{cell_lines, netlist_text}
use Rattle.dft_generate_laws.specs.Designs.{with_net, with_cell, with_cells, port_nets, nets_of, number_in, net_in, q_of, d_of, first_of, second_of, design_ports, design_joins, instances_in, design}
use Rattle.dft_generate_laws.proofs.Words as letters
use Rattle.dft_generate_laws.proofs.Nets.{Grows, grows-same, grown-has, cells-grow, with-has, number-at}
use Rattle.dft_generate_laws.proofs.Ties.{q-inner}
use Rattle.dft_generate_laws.proofs.Mentions.{draft}
use Rattle.dft_generate_laws.proofs.AllCells.{twice, Steps, cells_read}
use Rattle.dft_generate_laws.proofs.Front.{start, second_port, front_read, inputs_read, output_read, output_name, tied_ports}

-- ---- the nets

pub nets-are : (size : ℕ) (words : List ℕ) → with_cells size words (range_with_len 0 size) port_nets ≡ nets_of size words
unfolding nets_of
nets-are size words = refl

pub nets_grow : (size : ℕ) (words : List ℕ) → Grows port_nets (nets_of size words)
nets_grow size words = subst (Grows port_nets) (nets-are size words) (cells-grow size words (range_with_len 0 size) port_nets)

-- the net of the first flip-flop is there
first_there : (size : ℕ) (words : List ℕ) → 0 < size → has_name (nets_of size words) (q_of 0) ≡ true
first_there zero words some = absurd (omega arith)
first_there (suc size) words some =
    subst (λ (xs : List Text). has_name xs (q_of 0) ≡ true) (nets-are (suc size) words)
    (grown-has (with_cell (suc size) words 0 port_nets) (with_cells (suc size) words (range_with_len (0 + 1) size) (with_cell (suc size) words 0 port_nets)) (q_of 0)
    (cells-grow (suc size) words (range_with_len (0 + 1) size) (with_cell (suc size) words 0 port_nets)) (with-has (q_of 0) (with_net (d_of 0) (with_net (q_of (second_of (suc size) words 0)) (with_net (q_of (first_of (suc size) words 0)) port_nets)))))

-- ---- the join

plain_q : name_text (q_of 0) ≡ q_of 0
unfolding reserved_words later_reserved_words
plain_q = subst (λ (ds : Text). name_text (113 ∷ ds) ≡ 113 ∷ ds) (sym (decimal_digit 0 (omega arith))) refl

plain_y : name_text (codes "y") ≡ codes "y"
unfolding reserved_words later_reserved_words
plain_y = refl

abbrev the_join : (size : ℕ) → (words : List ℕ) → Join
the_join size words = record { target = record { 0 = 2 }; source = net_in (nets_of size words) (q_of 0) }

target_text : (size : ℕ) (words : List ℕ) → signal_text (nets_of size words) (signal.Net (record { 0 = 2 })) ≡ codes "y"
target_text size words = ap (λ (xs : List Text). get_or xs 2 []) (nets_grow size words).is

get_at : (xs : List Text) (k : ℕ) (w : Text) → slice_get xs k ≡ Some w → get_or xs k [] ≡ w
get_at [] k w at = absurd (let f : ⊥ = cc in f)
get_at (x ∷ xs) zero w at = let e : x ≡ w = cc in e
get_at (x ∷ xs) (suc k) w at = get_at xs k w at

source_text : (size : ℕ) (words : List ℕ) → 0 < size → signal_text (nets_of size words) (net_in (nets_of size words) (q_of 0)) ≡ q_of 0
source_text size words some = get_at (nets_of size words) (number_in (nets_of size words) (q_of 0)) (q_of 0) (number-at (nets_of size words) (q_of 0) (first_there size words some))

join_text : (size : ℕ) (words : List ℕ) → 0 < size → join_line (nets_of size words) (the_join size words) ≡ codes "assign y = q0;\n"
unfolding join_line
join_text size words some =
    rw (target_text size words, source_text size words some) (ap (λ (ds : Text). codes "assign y = q" ++ (ds ++ codes ";\n")) (decimal_digit 0 (omega arith)))

target_operand : (size : ℕ) (words : List ℕ) (d : Draft) → Known d.names d.ports (codes "y") (record { range = None; first = record { 0 = 2 } }) → Operand d site.Target (signal_text (nets_of size words) (signal.Net (record { 0 = 2 }))) (signal.Net (record { 0 = 2 }))
target_operand size words d known =
    subst (λ (t : Text). Operand d site.Target t (signal.Net (record { 0 = 2 }))) (sym (target_text size words))
    (net_operand d site.Target (codes "y") (record { 0 = 2 }) (Whole (codes "y") (sym plain_y) output_name known))

source_operand : (size : ℕ) (words : List ℕ) (d : Draft) → 0 < size → Known d.names d.ports (q_of 0) (record { range = None; first = record { 0 = number_in (nets_of size words) (q_of 0) } })
    → Operand d site.Source (signal_text (nets_of size words) (net_in (nets_of size words) (q_of 0))) (net_in (nets_of size words) (q_of 0))
source_operand size words d some known =
    subst (λ (t : Text). Operand d site.Source t (net_in (nets_of size words) (q_of 0))) (sym (source_text size words some))
    (net_operand d site.Source (q_of 0) (record { 0 = number_in (nets_of size words) (q_of 0) }) (Whole (q_of 0) (sym plain_q) (letters.numbered 113 0 (omega arith) (omega arith) (omega arith)).name known))

-- ---- the whole

-- the lines behind the heading
abbrev item_text : (size : ℕ) → (words : List ℕ) → Text
item_text size words = codes "input clk0, clk1;\n" ++ (codes "output y;\n" ++ (flat_map (cell_lines size words) (range_with_len 0 size) ++ codes "assign y = q0;\n"))

netlist_parts : (size : ℕ) (words : List ℕ) → netlist_text size words ≡ codes "module gen (clk0, clk1, y);\n" ++ (item_text size words ++ codes "endmodule\n")
unfolding netlist_text
netlist_parts size words =
    ap (λ (t : Text). codes "module gen (clk0, clk1, y);\ninput clk0, clk1;\noutput y;\n" ++ t) (sym (append_assoc (flat_map (cell_lines size words) (range_with_len 0 size)) (codes "assign y = q0;\n") (codes "endmodule\n")))

-- the draft of the module, with the names that are taken
pub record Reads (size : ℕ) (words : List ℕ) : Type 0 where
  pub names : List TakenName
  pub said : module_of standard_cells (netlist_text size words)
      ≡ Ok (stage (design size words) names (declared_ports 0 design_ports) (nets_of size words) (instances_in (nets_of size words) size words (range_with_len 0 size)) (design_joins (nets_of size words)))

module _ (size : ℕ) (words : List ℕ) (is_size : IsSize size) where
  cells : Steps (twice size) (flat_map (cell_lines size words) (range_with_len 0 size)) (header_entries 0 design_ports) port_nets [] (nets_of size words) (instances_in (nets_of size words) size words (range_with_len 0 size)) (0 + size) (0 + size)
  cells =
      let low = is_size.low in
      let high = is_size.high in
      subst (λ (xs : List Text). Steps (twice size) (flat_map (cell_lines size words) (range_with_len 0 size)) (header_entries 0 design_ports) port_nets [] xs (instances_in (nets_of size words) size words (range_with_len 0 size)) (0 + size) (0 + size)) (nets-are size words)
      (cells_read size words size 0 (header_entries 0 design_ports) port_nets [] (nets_of size words) (subst (Grows (with_cells size words (range_with_len 0 size) port_nets)) (nets-are size words) (grows-same (with_cells size words (range_with_len 0 size) port_nets))) tied_ports
      (omega (arith, low)) high (omega arith) (omega arith) refl)

  abbrev whole : Draft
  whole = draft cells.new_names (nets_of size words) (instances_in (nets_of size words) size words (range_with_len 0 size)) (design_joins (nets_of size words))

  abbrev before_join : Draft
  before_join = draft cells.new_names (nets_of size words) (instances_in (nets_of size words) size words (range_with_len 0 size)) []

  join_reads : Line (codes "assign y = q0;\n") before_join whole
  join_reads =
      let low = is_size.low in
      let some : 0 < size = omega (arith, low) in
      subst (λ (t : Text). Line t before_join whole) (join_text size words some)
      (join_read (nets_of size words) (the_join size words) before_join
      (target_operand size words before_join (AsPort (codes "y") 2 (record { dir = dir.Output; shape = record { range = None; first = record { 0 = 2 } }; repeated = false }) cells.tied.output refl refl))
      (source_operand size words before_join some (AsNets (q_of 0) (cells.tied.known (q_of 0) (q-inner 0 (omega arith)) (first_there size words some)))))

  all_lines : Lines (suc (suc (twice size + 1))) (item_text size words) (start size words) whole
  all_lines =
      let last = lines_more (twice size) 1 (flat_map (cell_lines size words) (range_with_len 0 size)) (codes "assign y = q0;\n") (draft (header_entries 0 design_ports) port_nets [] []) before_join whole cells.reads (one_line (codes "assign y = q0;\n") before_join whole join_reads) in
      lines_cons (suc (twice size + 1)) (codes "input clk0, clk1;\n") (codes "output y;\n" ++ (flat_map (cell_lines size words) (range_with_len 0 size) ++ codes "assign y = q0;\n")) (start size words) (second_port size words) whole whole (inputs_read size words)
      (lines_cons (twice size + 1) (codes "output y;\n") (flat_map (cell_lines size words) (range_with_len 0 size) ++ codes "assign y = q0;\n") (second_port size words) (draft (header_entries 0 design_ports) port_nets [] []) whole whole (output_read size words) last (refl {a = whole})) (refl {a = whole})

  module_reads : value_of (module_text standard_cells (cut_up (netlist_text size words))) ≡ Ok whole
  module_reads =
      let body : Text = item_text size words ++ codes "endmodule\n" in
      ap (λ (t : Text). value_of (module_text standard_cells (cut_up t))) (netlist_parts size words)
      ∙ module-at standard_cells (start size words) whole (codes "endmodule") 10 (cut_up (codes "module gen (clk0, clk1, y);\n" ++ body)) (cut_up body) (front_read size words body)
      (items_read (suc (suc (twice size + 1))) (item_text size words) (start size words) whole all_lines) refl

  pub reads : Reads size words
  unfolding module_of
  reads = record { names = cells.new_names; said = ap (λ ts. value_of (module_text standard_cells ts)) (sym (cut_up-is (netlist_text size words))) ∙ module_reads }
