-- The lines of all cells are read, one cell after another.
use Rattle.std.proofs.Common.{◌≡◌, ℕ, zero, suc, ◌+◌, ◌*◌, ◌<◌, ◌≤◌, List, [], ◌∷◌, ◌++◌, length, flat_map, refl, sym, ap, ◌∙◌, subst, arith, append_assoc, append-nil, length-append}
use Rattle.std.specs.List.{range_with_len}
use Rattle.dft_base.specs.Lexing.{Text}
use Rattle.dft_netlist.specs.declared.instance.Instance.{Instance}
use Rattle.dft_netlist_text.specs.Modules.{TakenName, Draft}
use Rattle.dft_verilog_out.proofs.LineLemmas.{Lines, no_lines, lines_cons}
use Rattle.dft_generate.specs.Netlists.{gate_line, flop_line, cell_lines}
use Rattle.dft_generate.specs.Words.{word_at}
use Rattle.dft_generate_laws.specs.Designs.{with_net, with_cell, with_cells, q_of, d_of, first_of, second_of, gate_in, flop_in, instances_in}
use Rattle.dft_generate_laws.proofs.Nets.{Grows, grows-on, with-grows, with-has, with-size, cells-grow, cell-size}
use Rattle.dft_generate_laws.proofs.Ties.{AreTied}
use Rattle.dft_generate_laws.proofs.Mentions.{draft}
use Rattle.dft_generate_laws.proofs.CellLines.{gate_nets, gate_step, flop_step}

-- two for each
abbrev pub twice : ℕ → ℕ
twice zero = zero
twice (suc n) = suc (suc (twice n))

-- these lines take a draft to one with these nets and instances
pub record Steps (count : ℕ) (text : Text) (names : List TakenName) (nets : List Text) (instances : List Instance) (new_nets : List Text) (new_instances : List Instance) (gates flops : ℕ) : Type 0 where
  pub new_names : List TakenName
  pub tied : AreTied new_names new_nets gates flops
  pub reads : Lines count text (draft names nets instances []) (draft new_names new_nets new_instances [])

cell_text : (size : ℕ) (words : List ℕ) (cell : ℕ) (rest : Text)
    → cell_lines size words cell ++ rest ≡ gate_line size cell (word_at words (cell * 3)) (word_at words (cell * 3 + 1)) (word_at words (cell * 3 + 2)) ++ (flop_line cell ++ rest)
unfolding cell_lines
cell_text size words cell rest = append_assoc (gate_line size cell (word_at words (cell * 3)) (word_at words (cell * 3 + 1)) (word_at words (cell * 3 + 2))) (flop_line cell) rest

behind_both : (instances rest : List Instance) (g f : Instance) → ((instances ++ g ∷ []) ++ f ∷ []) ++ rest ≡ instances ++ g ∷ f ∷ rest
behind_both instances rest g f = append_assoc (instances ++ g ∷ []) (f ∷ []) rest ∙ append_assoc instances (g ∷ []) (f ∷ rest)

pub cells_read : (size : ℕ) (words : List ℕ) (count from : ℕ) (names : List TakenName) (nets : List Text) (instances : List Instance) (all : List Text) → Grows (with_cells size words (range_with_len from count) nets) all → AreTied names nets from from
    → 0 < size → size ≤ 20000 → from + count ≤ size → length nets ≤ 3 + 4 * from → length instances ≡ 2 * from
    → Steps (twice count) (flat_map (cell_lines size words) (range_with_len from count)) names nets instances (with_cells size words (range_with_len from count) nets) (instances ++ instances_in all size words (range_with_len from count)) (from + count) (from + count)
cells_read size words zero from names nets instances all grows tied some few last room there =
    let e : from ≡ from + 0 = omega arith in
    record {
      new_names = names;
      tied = subst (λ (k : ℕ). AreTied names nets k k) e tied;
      reads = subst (λ (is : List Instance). Lines 0 [] (draft names nets instances []) (draft names nets is [])) (sym (append-nil instances)) (no_lines (draft names nets instances []));
    }
cells_read size words (suc count) from names nets instances all grows tied some few last room there =
    let gate_text : Text = gate_line size from (word_at words (from * 3)) (word_at words (from * 3 + 1)) (word_at words (from * 3 + 2)) in
    let g = gate_in all size words from in
    let f = flop_in all from in
    let a : List Text = gate_nets size words from nets in
    let b : List Text = with_cell size words from nets in
    let more = cells-grow size words (range_with_len (from + 1) count) b in
    let behind : Grows b all = grows-on b (with_cells size words (range_with_len (from + 1) count) b) all more grows in
    let s1 = with-size (q_of (first_of size words from)) nets in
    let s2 = with-size (q_of (second_of size words from)) (with_net (q_of (first_of size words from)) nets) in
    let s3 = with-size (d_of from) (with_net (q_of (second_of size words from)) (with_net (q_of (first_of size words from)) nets)) in
    let s4 = cell-size size words from nets in
    let one = gate_step size words from names nets instances all from (grows-on a b all (with-grows (q_of from) a) behind) tied some (omega arith) (omega arith) (omega arith) (omega arith) in
    let two = flop_step from one.new_names a (instances ++ g ∷ []) all (suc from) (with-has (d_of from) (with_net (q_of (second_of size words from)) (with_net (q_of (first_of size words from)) nets))) behind one.tied (omega arith) (omega (arith, s1, s2, s3))
    (omega (arith, length-append instances (g ∷ []))) in
    let next : suc from ≡ from + 1 = omega arith in
    let size_now : length ((instances ++ g ∷ []) ++ f ∷ []) ≡ 2 * (from + 1) = omega (arith, length-append (instances ++ g ∷ []) (f ∷ []), length-append instances (g ∷ [])) in
    let rest = cells_read size words count (from + 1) two.new_names b ((instances ++ g ∷ []) ++ f ∷ []) all grows (subst (λ (k : ℕ). AreTied two.new_names b k k) next two.tied) some few (omega arith) (omega (arith, s4)) size_now in
    let sum : from + 1 + count ≡ from + suc count = omega arith in
    let rest_text : Text = flat_map (cell_lines size words) (range_with_len (from + 1) count) in
    let new : Draft = draft rest.new_names (with_cells size words (range_with_len (from + 1) count) b) (((instances ++ g ∷ []) ++ f ∷ []) ++ instances_in all size words (range_with_len (from + 1) count)) [] in
    let end : Draft = draft rest.new_names (with_cells size words (range_with_len (from + 1) count) b) (instances ++ g ∷ f ∷ instances_in all size words (range_with_len (from + 1) count)) [] in
    let same : new ≡ end =
    ap (λ (is : List Instance). draft rest.new_names (with_cells size words (range_with_len (from + 1) count) b) is []) (behind_both instances (instances_in all size words (range_with_len (from + 1) count)) g f) in
    let later = lines_cons (twice count) (flop_line from) rest_text (draft one.new_names a (instances ++ g ∷ []) []) (draft two.new_names b ((instances ++ g ∷ []) ++ f ∷ []) []) new new two.reads rest.reads (refl {a = new}) in
    let whole = lines_cons (suc (twice count)) gate_text (flop_line from ++ rest_text) (draft names nets instances []) (draft one.new_names a (instances ++ g ∷ []) []) new end one.reads later same in
    record {
      new_names = rest.new_names;
      tied = subst (λ (k : ℕ). AreTied rest.new_names (with_cells size words (range_with_len (from + 1) count) b) k k) sum rest.tied;
      reads = subst (λ (t : Text). Lines (suc (suc (twice count))) t (draft names nets instances []) end) (sym (cell_text size words from rest_text)) whole;
    }
