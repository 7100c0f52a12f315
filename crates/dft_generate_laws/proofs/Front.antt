-- The lines before the cells: the heading, the inputs and the output.
use Rattle.std.proofs.Common.{◌≡◌, ℕ, suc, ◌+◌, ◌≤◌, Bool, true, false, List, [], ◌∷◌, ◌++◌, length, get_or, Option, None, Ok, codes, refl, sym, ap, ◌∙◌, subst, arith}
use Rattle.std.specs.Str.{bytes_eq}
use Rattle.dft_base.specs.Lexing.{Text}
use Rattle.dft_base.specs.Name.{IsName}
use Rattle.dft_base.specs.Words.{reserved_words, later_reserved_words}
use Rattle.dft_base.specs.declared.dir.Dir.TheVariants as dir
use Rattle.dft_base.specs.declared.place.Range.{Range}
use Rattle.dft_base.proofs.TextLemmas.{same_text}
use Rattle.dft_cells.proofs.NamedRows.{named_at}
use Rattle.dft_cells.specs.Standard.{standard_cells}
use Rattle.dft_cells.specs.WellFormed.{has_name}
use Rattle.dft_netlist_text.specs.declared.text.TokenKind.TheVariants as kind
use Rattle.dft_netlist_text.specs.declared.text.Meaning.TheVariants as meaning
use Rattle.dft_netlist_text.specs.Lexemes.{Token}
use Rattle.dft_netlist_text.specs.Steps.{kind_of, bytes, left, next, same_kind, sees, expect, after}
use Rattle.dft_netlist_text.specs.Modules.{Draft, declare_port}
use Rattle.dft_netlist_text.specs.Expressions.{range_if_any}
use Rattle.dft_netlist_text.specs.Items.{Declaring, Ports, declare, declared_name, declared_names_from, declared_names, declaration, port_item, item}
use Rattle.dft_netlist_text.specs.NetlistText.{heading}
use Rattle.dft_verilog_out.specs.Written.{port_line, module_line}
use Rattle.dft_verilog_out.proofs.CutLemmas.{cut_up, token, cut_up-input, cut_up-comma, cut_up-semicolon, cut_up-space, cut_up-line, cut_up-word}
use Rattle.dft_verilog_out.proofs.CountLemmas.{times, Once, one_if, look}
use Rattle.dft_verilog_out.proofs.DraftLemmas.{entry, declare_port-is}
use Rattle.dft_verilog_out.proofs.HeaderLemmas.{header_entries, heading_read}
use Rattle.dft_verilog_out.proofs.LineLemmas.{Line, port_read}
use Rattle.dft_verilog_out.proofs.OperandLemmas.{left_of}
use Rattle.dft_verilog_out.proofs.PhaseLemmas.{stage, undeclared, declared_port}
use Rattle.dft_generate_laws.specs.Designs.{design, design_ports, scalar, port_nets}
use Rattle.dft_generate_laws.proofs.Ties.{IsInner, AreTied, other_inner}
use Rattle.dft_generate_laws.proofs.Mentions.{draft}

-- ---- names of the module and its ports

three_names : (x y z word : Text) → (x ≡ y → ⊥) → (x ≡ z → ⊥) → (y ≡ z → ⊥) → times word (x ∷ y ∷ z ∷ []) ≤ 1
three_names x y z word a b c = by (bytes_eq x word) (bytes_eq y word) (bytes_eq z word) refl refl refl
  where
    by : (r s t : Bool) → bytes_eq x word ≡ r → bytes_eq y word ≡ s → bytes_eq z word ≡ t → one_if r + (one_if s + (one_if t + 0)) ≤ 1
    by true true t i j k = absurd (a (same_text x word i ∙ sym (same_text y word j)))
    by true false true i j k = absurd (b (same_text x word i ∙ sym (same_text z word k)))
    by true false false i j k = omega arith
    by false true true i j k = absurd (c (same_text y word j ∙ sym (same_text z word k)))
    by false true false i j k = omega arith
    by false false true i j k = omega arith
    by false false false i j k = omega arith

pub ports_once : Once (codes "clk0" ∷ codes "clk1" ∷ codes "y" ∷ [])
ports_once word = three_names (codes "clk0") (codes "clk1") (codes "y") word (λ e. absurd (let h : 48 ≡ 49 = ap (λ (w : Text). get_or w 3 0) e in omega arith)) (λ e. absurd (let h : 99 ≡ 121 = ap (λ (w : Text). get_or w 0 0) e in omega arith))
    (λ e. absurd (let h : 99 ≡ 121 = ap (λ (w : Text). get_or w 0 0) e in omega arith))

pub module_name : IsName (codes "gen")
module_name = named_at (λ (w : Text). w) (codes "gen" ∷ []) 0 [] refl (omega arith)

pub clock0_name : IsName (codes "clk0")
clock0_name = named_at (λ (w : Text). w) (codes "clk0" ∷ []) 0 [] refl (omega arith)

pub clock1_name : IsName (codes "clk1")
clock1_name = named_at (λ (w : Text). w) (codes "clk1" ∷ []) 0 [] refl (omega arith)

pub output_name : IsName (codes "y")
output_name = named_at (λ (w : Text). w) (codes "y" ∷ []) 0 [] refl (omega arith)

-- ---- the heading

-- the draft behind the heading
abbrev pub start : (size : ℕ) → (words : List ℕ) → Draft
start size words = stage (design size words) (header_entries 0 design_ports) (undeclared design_ports) [] [] []

heading_text : module_line (codes "gen") design_ports ≡ codes "module gen (clk0, clk1, y);\n"
unfolding module_line reserved_words later_reserved_words
heading_text = refl

pub front_read : (size : ℕ) (words : List ℕ) (rest : Text) → heading standard_cells (cut_up (codes "module gen (clk0, clk1, y);\n" ++ rest)) ≡ Ok (start size words, cut_up rest)
front_read size words rest =
    ap (λ (t : Text). heading standard_cells (cut_up (t ++ rest))) (sym heading_text)
    ∙ heading_read (design size words) [] rest module_name ((clock0_name, tt), ((clock1_name, tt), ((output_name, tt), tt))) ports_once (omega arith)

-- ---- the inputs and the output

two_names : (what : Declaring) (range : Option Range) (d mid new : Draft) (word other : Text) (l m a b : ℕ) (ts : List Token) → ((us : List Token) → declare what (suc (suc l)) word range d us ≡ Ok (mid, us))
    → ((us : List Token) → declare what (suc m) other range mid us ≡ Ok (new, us))
    → declared_names what range d (token kind.Name word (suc (suc l)) ∷ token kind.Comma (44 ∷ []) a ∷ token kind.Name other (suc m) ∷ token kind.Semicolon (59 ∷ []) b ∷ ts) ≡ Ok (new, token kind.Semicolon (59 ∷ []) b ∷ ts)
unfolding declared_names declared_names_from declared_name expect sees kind_of same_kind bytes left next after
two_names what range d mid new word other l m a b ts one two = rw (one (token kind.Comma (44 ∷ []) a ∷ token kind.Name other (suc m) ∷ token kind.Semicolon (59 ∷ []) b ∷ ts), two (token kind.Semicolon (59 ∷ []) b ∷ ts)) refl

inputs_at : (d mid new : Draft) (word other first : Text) (c l m a b : ℕ) (ts : List Token) → declare_port (suc (suc l)) word dir.Input None d ≡ Ok mid → declare_port (suc m) other dir.Input None mid ≡ Ok new
    → item d (token kind.Input first c ∷ token kind.Name word (suc (suc l)) ∷ token kind.Comma (44 ∷ []) a ∷ token kind.Name other (suc m) ∷ token kind.Semicolon (59 ∷ []) b ∷ ts) ≡ Ok (new, ts)
unfolding item port_item declaration range_if_any expect sees kind_of same_kind bytes left next after
inputs_at d mid new word other first c l m a b ts one two = rw (two_names (Ports dir.Input) None d mid new word other l m a b ts (λ us. rw one refl) (λ us. rw two refl)) refl

no_end_input : (word : Text) (l : ℕ) (ts : List Token) → sees kind.Endmodule (token kind.Input word l ∷ ts) ≡ false
unfolding sees kind_of same_kind
no_end_input word l ts = refl

-- the drafts between the declarations
abbrev first_port : (size : ℕ) → (words : List ℕ) → Draft
first_port size words =
    stage (design size words) (header_entries 0 design_ports) (declared_port 0 (scalar (codes "clk0") dir.Input 0) ∷ undeclared (scalar (codes "clk1") dir.Input 1 ∷ scalar (codes "y") dir.Output 2 ∷ [])) (codes "clk0" ∷ []) [] []

abbrev pub second_port : (size : ℕ) → (words : List ℕ) → Draft
second_port size words =
    stage (design size words) (header_entries 0 design_ports) (declared_port 0 (scalar (codes "clk0") dir.Input 0) ∷ declared_port 1 (scalar (codes "clk1") dir.Input 1) ∷ undeclared (scalar (codes "y") dir.Output 2 ∷ [])) (codes "clk0" ∷ codes "clk1" ∷ []) [] []

first_declared : (size : ℕ) (words : List ℕ) (place : ℕ) → declare_port place (codes "clk0") dir.Input None (start size words) ≡ Ok (first_port size words)
first_declared size words place = declare_port-is place 0 (codes "clk0") dir.Input None (start size words) (entry (codes "clk0") (meaning.Port 0)) refl refl refl (λ word some. absurd (omega arith)) (omega arith)

second_declared : (size : ℕ) (words : List ℕ) (place : ℕ) → declare_port place (codes "clk1") dir.Input None (first_port size words) ≡ Ok (second_port size words)
second_declared size words place = declare_port-is place 1 (codes "clk1") dir.Input None (first_port size words) (entry (codes "clk1") (meaning.Port 1)) refl refl refl (λ word some. absurd (omega arith)) (omega arith)

last_declared : (size : ℕ) (words : List ℕ) (place : ℕ) → declare_port place (codes "y") dir.Output None (second_port size words) ≡ Ok (draft (header_entries 0 design_ports) port_nets [] [])
last_declared size words place = declare_port-is place 2 (codes "y") dir.Output None (second_port size words) (entry (codes "y") (meaning.Port 2)) refl refl refl (λ word some. absurd (omega arith)) (omega arith)

record InputTokens (rest : Text) : Type 0 where
  c : ℕ
  l : ℕ
  m : ℕ
  a : ℕ
  b : ℕ
  at : cut_up (codes "input clk0, clk1;\n" ++ rest)
      ≡ token kind.Input (codes "input") c ∷ token kind.Name (codes "clk0") (suc (suc l)) ∷ token kind.Comma (44 ∷ []) a ∷ token kind.Name (codes "clk1") (suc m) ∷ token kind.Semicolon (59 ∷ []) b ∷ cut_up rest
  size : c ≡ length (codes "input clk0, clk1;\n" ++ rest)

input_tokens : (rest : Text) → InputTokens rest
unfolding reserved_words
input_tokens rest =
    let tail : Text = 59 ∷ 10 ∷ rest in
    record {
      c = length (codes "input clk0, clk1;\n" ++ rest);
      l = length (codes "k0, clk1" ++ tail);
      m = length (codes "lk1" ++ tail);
      a = length (codes ", clk1" ++ tail);
      b = suc (suc (length rest));
      at = cut_up-input (codes "clk0, clk1" ++ tail)
          ∙ ap (λ ts. token kind.Input (codes "input") (length (codes "input clk0, clk1;\n" ++ rest)) ∷ ts) (cut_up-word (codes "clk0") 44 (codes " clk1" ++ tail) refl refl refl
          ∙ ap (λ ts. token kind.Name (codes "clk0") (length (codes "clk0, clk1" ++ tail)) ∷ ts) (cut_up-comma (codes " clk1" ++ tail)
          ∙ ap (λ ts. token kind.Comma (44 ∷ []) (length (codes ", clk1" ++ tail)) ∷ ts) (cut_up-space (codes "clk1" ++ tail) ∙ cut_up-word (codes "clk1") 59 (10 ∷ rest) refl refl refl
          ∙ ap (λ ts. token kind.Name (codes "clk1") (length (codes "clk1" ++ tail)) ∷ ts) (cut_up-semicolon (10 ∷ rest) ∙ ap (λ ts. token kind.Semicolon (59 ∷ []) (suc (suc (length rest))) ∷ ts) (cut_up-line rest)))));
      size = refl;
    }

pub inputs_read : (size : ℕ) (words : List ℕ) → Line (codes "input clk0, clk1;\n") (start size words) (second_port size words)
inputs_read size words = record {
  reads = λ rest.
      let t = input_tokens rest in
      ap (item (start size words)) t.at
      ∙ inputs_at (start size words) (first_port size words) (second_port size words) (codes "clk0") (codes "clk1") (codes "input") t.c t.l t.m t.a t.b (cut_up rest) (first_declared size words (suc (suc t.l))) (second_declared size words (suc t.m));
  goes_on = λ rest. let t = input_tokens rest in ap (sees kind.Endmodule) t.at ∙ no_end_input (codes "input") t.c _;
  size = λ rest. let t = input_tokens rest in ap left t.at ∙ left_of kind.Input (codes "input") t.c _ ∙ t.size;
  some = omega arith;
}

output_text : port_line (scalar (codes "y") dir.Output 2) ≡ codes "output y;\n"
unfolding port_line reserved_words later_reserved_words
output_text = refl

pub output_read : (size : ℕ) (words : List ℕ) → Line (codes "output y;\n") (second_port size words) (draft (header_entries 0 design_ports) port_nets [] [])
output_read size words =
    subst (λ (t : Text). Line t (second_port size words) (draft (header_entries 0 design_ports) port_nets [] [])) output_text
    (port_read (scalar (codes "y") dir.Output 2) (second_port size words) (draft (header_entries 0 design_ports) port_nets [] []) output_name tt (last_declared size words))

-- ---- what is tied then

none_inner : (w : Text) → IsInner w → has_name port_nets w ≡ false
none_inner w i =
    rw (
      other_inner 99 (codes "lk0") w i (λ e. absurd (omega arith)) (λ e. absurd (omega arith)),
      other_inner 99 (codes "lk1") w i (λ e. absurd (omega arith)) (λ e. absurd (omega arith)),
      other_inner 121 [] w i (λ e. absurd (omega arith)) (λ e. absurd (omega arith)),
    ) refl

free_inner : (w : Text) → IsInner w → look (header_entries 0 design_ports) w ≡ None
free_inner w i =
    rw (
      other_inner 99 (codes "lk0") w i (λ e. absurd (omega arith)) (λ e. absurd (omega arith)),
      other_inner 99 (codes "lk1") w i (λ e. absurd (omega arith)) (λ e. absurd (omega arith)),
      other_inner 121 [] w i (λ e. absurd (omega arith)) (λ e. absurd (omega arith)),
    ) refl

pub tied_ports : AreTied (header_entries 0 design_ports) port_nets 0 0
tied_ports = record {
  known = λ w i has. absurd (let n = none_inner w i in let f : ⊥ = cc in f);
  free = λ w i has. free_inner w i;
  gate = λ cell le small. refl;
  flop = λ cell le small. refl;
  clock0 = refl;
  clock1 = refl;
  output = refl;
}
