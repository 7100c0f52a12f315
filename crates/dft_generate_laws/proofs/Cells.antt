-- The line of an instance with three connections.
use Rattle.std.proofs.Common.{◌≡◌, ℕ, suc, ◌-◌, ◌<◌, [], ◌∷◌, ◌++◌, length, Some, Ok, slice_get, refl, sym, ap, ◌∙◌, arith, length-append}
use Rattle.dft_base.specs.Lexing.{Text}
use Rattle.dft_cells.specs.declared.cell.CellId.{CellId}
use Rattle.dft_cells.specs.declared.cell.Cell.{Cell}
use Rattle.dft_cells.specs.Cells.{find_cell}
use Rattle.dft_netlist_text.specs.declared.text.TokenKind.TheVariants as kind
use Rattle.dft_netlist_text.specs.Steps.{left, sees}
use Rattle.dft_netlist_text.specs.Modules.{Draft, name_instance, with_instance}
use Rattle.dft_netlist_text.specs.Items.{item, Joined, Connected, unjoined, named_connection, named_connections_from, connections, cell_instance}
use Rattle.dft_verilog_out.proofs.CutLemmas.{cut_up, token, cut_up-point, cut_up-open, cut_up-close, cut_up-comma, cut_up-space}
use Rattle.dft_verilog_out.proofs.ItemLemmas.{cell-at, connections-some, named_connections_from-more, named_connections_from-end}
use Rattle.dft_verilog_out.proofs.OperandLemmas.{left_of}
use Rattle.dft_verilog_out.proofs.InstanceLemmas.{close_line, no_end_name}
use Rattle.dft_verilog_out.proofs.LineLemmas.{Line}
use Rattle.dft_generate_laws.proofs.Mentions.{IsPlain, word_at, connection}

-- ---- three connections

-- this connection takes what is joined so far to this
abbrev pub Connects : Cell → Connected → Connected → (pin net : Text) → Type 0
Connects cell old new pin net = (behind : Text) → named_connection cell old (cut_up (connection pin net behind)) ≡ Ok (new, cut_up behind)

comma_cut : (rest : Text) → cut_up (44 ∷ 32 ∷ rest) ≡ token kind.Comma (44 ∷ []) (suc (suc (length rest))) ∷ cut_up rest
comma_cut rest = cut_up-comma (32 ∷ rest) ∙ ap (λ ts. token kind.Comma (44 ∷ []) (suc (suc (length rest))) ∷ ts) (cut_up-space rest)

-- three connections, and what stands behind
abbrev pub three : (p v q w r x behind : Text) → Text
three p v q w r x behind = connection p v (44 ∷ 32 ∷ connection q w (44 ∷ 32 ∷ connection r x behind))

from_three : (m : ℕ) (cell : Cell) (a b c e : Connected) (p v q w r x rest : Text) → Connects cell a b p v → Connects cell b c q w → Connects cell c e r x
    → named_connections_from (suc (suc (suc m))) cell a (cut_up (three p v q w r x (41 ∷ rest))) ≡ Ok (e, cut_up (41 ∷ rest))
from_three m cell a b c e p v q w r x rest one two last =
    let second : Text = connection q w (44 ∷ 32 ∷ connection r x (41 ∷ rest)) in
    let third : Text = connection r x (41 ∷ rest) in
    named_connections_from-more (suc (suc m)) cell a b (suc (suc (length second))) (cut_up (three p v q w r x (41 ∷ rest))) (cut_up second) (one (44 ∷ 32 ∷ second) ∙ ap (λ ts. Ok (b, ts)) (comma_cut second))
    ∙ named_connections_from-more (suc m) cell b c (suc (suc (length third))) (cut_up second) (cut_up third) (two (44 ∷ 32 ∷ third) ∙ ap (λ ts. Ok (c, ts)) (comma_cut third))
    ∙ named_connections_from-end m cell c e (suc (length rest)) (cut_up third) (cut_up rest) (last (41 ∷ rest) ∙ ap (λ ts. Ok (e, ts)) (cut_up-close rest))
    ∙ ap (λ ts. Ok (e, ts)) (sym (cut_up-close rest))

-- all connections of an instance
three_read : (cell : Cell) (a b c e : Connected) (p v q w r x rest : Text) → Connects cell a b p v → Connects cell b c q w → Connects cell c e r x
    → connections cell a (cut_up (three p v q w r x (41 ∷ rest))) ≡ Ok (e, cut_up (41 ∷ rest))
three_read cell a b c e p v q w r x rest one two last =
    let inner : Text = v ++ 41 ∷ 44 ∷ 32 ∷ connection q w (44 ∷ 32 ∷ connection r x (41 ∷ rest)) in
    let all : Text = p ++ 40 ∷ inner in
    let many : suc (length all) ≡ suc (suc (suc (length all - 2))) =
    omega (arith, length-append p (40 ∷ inner), length-append v (41 ∷ 44 ∷ 32 ∷ connection q w (44 ∷ 32 ∷ connection r x (41 ∷ rest)))) in
    ap (connections cell a) (cut_up-point all) ∙ connections-some cell a (suc (length all)) (cut_up all)
    ∙ ap (named_connections_from (suc (length all)) cell a) (sym (cut_up-point all))
    ∙ ap (λ k. named_connections_from k cell a (cut_up (three p v q w r x (41 ∷ rest)))) many
    ∙ from_three (length all - 2) cell a b c e p v q w r x rest one two last

-- ---- the line

-- an instance of this cell with this name and these connections, and what stands behind
abbrev pub instance_text : (word name p v q w r x rest : Text) → Text
instance_text word name p v q w r x rest = word ++ 32 ∷ (name ++ 32 ∷ 40 ∷ three p v q w r x (41 ∷ 59 ∷ 10 ∷ rest))

-- all that is needed to read such a line
pub record IsInstanceLine (d named behind : Draft) (id : CellId) (cell : Cell) (joined : Joined) (word name p v q w r x : Text) : Type 0 where
  pub cell_word : IsPlain word
  pub own_name : IsPlain name
  pub found : find_cell d.library word ≡ Some id
  pub there : slice_get d.library id.0 ≡ Some cell
  pub named_so : (place : ℕ) → name_instance place name d ≡ Ok named
  pub first : Connected
  pub second : Connected
  pub one : Connects cell (named, unjoined cell) first p v
  pub two : Connects cell first second q w
  pub last : Connects cell second (behind, joined) r x

pub instance_read : (line : Text) (d named behind : Draft) (id : CellId) (cell : Cell) (joined : Joined) (word name p v q w r x : Text) → ((rest : Text) → line ++ rest ≡ instance_text word name p v q w r x rest) → 0 < length line
    → IsInstanceLine d named behind id cell joined word name p v q w r x → Line line d (with_instance (cell_instance id name joined) behind)
instance_read line d named behind id cell joined word name p v q w r x parts some h = record {
  reads = λ rest.
      let inside : Text = three p v q w r x (41 ∷ 59 ∷ 10 ∷ rest) in
      let m = word_at word 32 (name ++ 32 ∷ 40 ∷ inside) h.cell_word.word h.cell_word.free refl in
      let n = word_at name 32 (40 ∷ inside) h.own_name.word h.own_name.free refl in
      ap (λ t. item d (cut_up t)) (parts rest)
      ∙ ap (item d) (m.at ∙ ap (λ ts. token kind.Name word (suc m.left) ∷ ts) (cut_up-space (name ++ 32 ∷ 40 ∷ inside) ∙ n.at ∙ ap (λ ts. token kind.Name name (suc n.left) ∷ ts)
      (cut_up-space (40 ∷ inside) ∙ cut_up-open 46 (p ++ 40 ∷ (v ++ 41 ∷ 44 ∷ 32 ∷ connection q w (44 ∷ 32 ∷ connection r x (41 ∷ 59 ∷ 10 ∷ rest)))) (λ e. absurd (omega arith)))))
      ∙ cell-at d named behind id cell joined word name (suc m.left) n.left (suc (length inside)) (suc (suc (suc (length rest)))) (suc (suc (length rest))) (cut_up inside) (cut_up rest) h.found h.there (h.named_so (suc n.left))
      (three_read cell (named, unjoined cell) h.first h.second (behind, joined) p v q w r x (59 ∷ 10 ∷ rest) h.one h.two h.last ∙ ap (λ ts. Ok ((behind, joined), ts)) (close_line rest));
  goes_on = λ rest.
      let m = word_at word 32 (name ++ 32 ∷ 40 ∷ three p v q w r x (41 ∷ 59 ∷ 10 ∷ rest)) h.cell_word.word h.cell_word.free refl in
      ap (λ t. sees kind.Endmodule (cut_up t)) (parts rest) ∙ ap (sees kind.Endmodule) m.at ∙ no_end_name word (suc m.left) _;
  size = λ rest.
      let m = word_at word 32 (name ++ 32 ∷ 40 ∷ three p v q w r x (41 ∷ 59 ∷ 10 ∷ rest)) h.cell_word.word h.cell_word.free refl in
      ap (λ t. left (cut_up t)) (parts rest) ∙ ap left m.at ∙ left_of kind.Name word (suc m.left) _ ∙ sym m.size ∙ ap length (sym (parts rest));
  some = some;
}
