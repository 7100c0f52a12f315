-- Written lines are read as items: ports, other nets and joins.
use Rattle.std.proofs.Common.{◌≡◌, ℕ, zero, suc, ◌+◌, ◌<◌, ◌≤◌, false, List, [], ◌∷◌, ◌++◌, length, codes, decimal, Option, Some, None, Ok, refl, sym, ap, ◌∙◌, subst, arith, append_assoc, length-append}
use Rattle.dft_base.specs.declared.place.Range.{Range}
use Rattle.dft_base.specs.Lexing.{Text}
use Rattle.dft_base.specs.Name.{IsName}
use Rattle.dft_netlist.specs.Names.{IsShortRange}
use Rattle.dft_base.specs.declared.dir.Dir.{Dir}
use Rattle.dft_base.specs.declared.dir.Dir.TheVariants as dir
use Rattle.dft_netlist.specs.declared.port.Port.{Port}
use Rattle.dft_netlist.specs.declared.instance.Signal.TheVariants as signal
use Rattle.dft_netlist.specs.declared.instance.Join.{Join}
use Rattle.dft_netlist_text.specs.declared.text.TokenKind.{TokenKind}
use Rattle.dft_netlist_text.specs.declared.text.TokenKind.TheVariants as kind
use Rattle.dft_netlist_text.specs.declared.text.Site.TheVariants as site
use Rattle.dft_netlist_text.specs.Lexemes.{Token}
use Rattle.dft_netlist_text.specs.Steps.{kind_of, left, same_kind, sees}
use Rattle.dft_netlist_text.specs.Modules.{Draft, declare_port, declare_wire, with_join}
use Rattle.dft_netlist_text.specs.Expressions.{range_if_any}
use Rattle.dft_netlist_text.specs.Items.{item, items_from}
use Rattle.dft_verilog_out.specs.Written.{name_text, signal_text, dir_text, range_text, port_line, wire_line, join_line}
use Rattle.dft_verilog_out.proofs.CutLemmas.{cut_up, token, cut_up-input, cut_up-output, cut_up-wire, cut_up-assign, cut_up-open_bracket, cut_up-close_bracket, cut_up-colon, cut_up-space, name_at, number_at}
use Rattle.dft_verilog_out.proofs.RuleLemmas.{range_tokens, range-at}
use Rattle.dft_verilog_out.proofs.ItemLemmas.{wire-at, dir_kind, port-at, no_range-at, join-at, items_from-more}
use Rattle.dft_verilog_out.proofs.OperandLemmas.{ASemicolon, AnEquals, follow, follow_at, Operand}

-- ---- steps from draft to draft

-- a line takes a draft to the next
pub record Line (line : Text) (d new : Draft) : Type 0 where
  pub reads : (rest : Text) → item d (cut_up (line ++ rest)) ≡ Ok (new, cut_up rest)
  pub goes_on : (rest : Text) → sees kind.Endmodule (cut_up (line ++ rest)) ≡ false
  pub size : (rest : Text) → left (cut_up (line ++ rest)) ≡ length (line ++ rest)
  pub some : 0 < length line

-- lines, of this number, take a draft to the next
pub record Lines (count : ℕ) (text : Text) (d new : Draft) : Type 0 where
  pub reads : (more : ℕ) (rest : Text) → items_from (count + more) d (cut_up (text ++ rest)) ≡ items_from more new (cut_up rest)
  pub size : (rest : Text) → 0 < count → left (cut_up (text ++ rest)) ≡ length (text ++ rest)
  pub enough : count ≤ length text
  pub none : count ≡ 0 → text ≡ []

pub no_lines : (d : Draft) → Lines 0 [] d d
no_lines d = record {
  reads = λ more rest. let e : 0 + more ≡ more = omega arith in ap (λ n. items_from n d (cut_up rest)) e;
  size = λ rest some. absurd (omega arith);
  enough = omega arith;
  none = λ e. refl;
}

pub one_line : (line : Text) (d new : Draft) → Line line d new → Lines 1 line d new
one_line line d new l = record {
  reads = λ more rest.
      let e : 1 + more ≡ suc more = omega arith in
      ap (λ n. items_from n d (cut_up (line ++ rest))) e ∙ items_from-more more d new (cut_up (line ++ rest)) (cut_up rest) (l.goes_on rest) (l.reads rest);
  size = λ rest some. l.size rest;
  enough = let s = l.some in omega arith;
  none = λ e. absurd (omega arith);
}

size_by : (count other : ℕ) (text more : Text) (d mid new : Draft) → Lines count text d mid → Lines other more mid new → (rest : Text) → 0 < count + other → left (cut_up (text ++ (more ++ rest))) ≡ length (text ++ (more ++ rest))
size_by zero other text more d mid new a b rest some =
    let e : text ≡ [] = a.none refl in
    subst (λ t. left (cut_up (t ++ (more ++ rest))) ≡ length (t ++ (more ++ rest))) (sym e) (b.size rest (omega arith))
size_by (suc count) other text more d mid new a b rest some = a.size (more ++ rest) (omega arith)

pub lines_more : (count other : ℕ) (text more : Text) (d mid new : Draft) → Lines count text d mid → Lines other more mid new → Lines (count + other) (text ++ more) d new
lines_more count other text more d mid new a b = record {
  reads = λ n rest.
      let e : count + other + n ≡ count + (other + n) = omega arith in
      ap (λ k. items_from k d (cut_up ((text ++ more) ++ rest))) e ∙ ap (λ t. items_from (count + (other + n)) d (cut_up t)) (append_assoc text more rest)
      ∙ a.reads (other + n) (more ++ rest) ∙ b.reads n rest;
  size = λ rest some. subst (λ t. left (cut_up t) ≡ length t) (sym (append_assoc text more rest)) (size_by count other text more d mid new a b rest some);
  enough = let x = a.enough in let y = b.enough in omega (arith, length-append text more);
  none = λ e. let x = a.none (omega arith) in let y = b.none (omega arith) in rw (x, y) refl;
}

-- a line, and others behind it
pub lines_cons : (k : ℕ) (line more : Text) (d mid new end : Draft) → Line line d mid → Lines k more mid new → new ≡ end → Lines (suc k) (line ++ more) d end
lines_cons k line more d mid new end one rest e =
    let count : 1 + k ≡ suc k = omega arith in
    subst (λ (x : Draft). Lines (suc k) (line ++ more) d x) e (subst (λ n. Lines n (line ++ more) d new) count (lines_more 1 k line more d mid new (one_line line d mid one) rest))

goes_on_by : (k : TokenKind) (word : Text) (l : ℕ) (ts : List Token) (us : List Token) → sees kind.Endmodule (token k word l ∷ ts) ≡ false → us ≡ token k word l ∷ ts → sees kind.Endmodule us ≡ false
goes_on_by k word l ts us h e = ap (sees kind.Endmodule) e ∙ h

left_by : (k : TokenKind) (word : Text) (l : ℕ) (ts us : List Token) → us ≡ token k word l ∷ ts → left us ≡ l
unfolding left
left_by k word l ts us e = ap left e

-- ---- other nets

wire_text : (word rest : Text) → wire_line (name_text word) ++ rest ≡ codes "wire " ++ (name_text word ++ follow ASemicolon rest)
unfolding wire_line
wire_text word rest = ap (λ t. codes "wire " ++ t) (append_assoc (name_text word) (codes ";\n") rest)

no_end_wire : (word : Text) (l : ℕ) (ts : List Token) → sees kind.Endmodule (token kind.Wire word l ∷ ts) ≡ false
unfolding sees kind_of same_kind
no_end_wire word l ts = refl

wire_some : (word : Text) → 0 < length (wire_line (name_text word))
unfolding wire_line
wire_some word = omega arith

pub wire_read : (word : Text) (d new : Draft) → IsName word → ((place : ℕ) → declare_wire place word None d ≡ Ok new) → Line (wire_line (name_text word)) d new
wire_read word d new name says = record {
  reads = λ rest.
      let n = name_at word 59 (10 ∷ rest) name refl in
      let f = follow_at ASemicolon rest in
      ap (λ t. item d (cut_up t)) (wire_text word rest)
      ∙ ap (item d) (cut_up-wire (name_text word ++ follow ASemicolon rest) ∙ ap (λ ts. token kind.Wire (codes "wire") (length (codes "wire " ++ (name_text word ++ follow ASemicolon rest))) ∷ ts) (n.at ∙ ap (λ ts. token kind.Name word (suc n.left) ∷ ts) f.at))
      ∙ wire-at d new word (codes "wire") (length (codes "wire " ++ (name_text word ++ follow ASemicolon rest))) n.left f.left (cut_up rest) (says (suc n.left));
  goes_on = λ rest. goes_on_by kind.Wire (codes "wire") _ _ _ (no_end_wire (codes "wire") _ _) (ap cut_up (wire_text word rest) ∙ cut_up-wire (name_text word ++ follow ASemicolon rest));
  size = λ rest. left_by kind.Wire (codes "wire") _ _ _ (ap cut_up (wire_text word rest) ∙ cut_up-wire (name_text word ++ follow ASemicolon rest)) ∙ ap length (sym (wire_text word rest));
  some = wire_some word;
}

-- ---- ports

abbrev pub dir_word : Dir → Text
dir_word dir.Input = codes "input"
dir_word dir.Output = codes "output"

cut_up-dir : (dir : Dir) (rest : Text) → cut_up (dir_text dir ++ rest) ≡ token (dir_kind dir) (dir_word dir) (length (dir_text dir ++ rest)) ∷ cut_up rest
cut_up-dir dir.Input rest = cut_up-input rest
cut_up-dir dir.Output rest = cut_up-output rest

no_end_dir : (dir : Dir) (word : Text) (l : ℕ) (ts : List Token) → sees kind.Endmodule (token (dir_kind dir) word l ∷ ts) ≡ false
unfolding sees kind_of same_kind
no_end_dir dir.Input word l ts = refl
no_end_dir dir.Output word l ts = refl

no_wire_name : (word : Text) (l : ℕ) (ts : List Token) → sees kind.Wire (token kind.Name word l ∷ ts) ≡ false
unfolding sees kind_of same_kind
no_wire_name word l ts = refl

no_wire_bracket : (word : Text) (l : ℕ) (ts : List Token) → sees kind.Wire (token kind.OpenBracket word l ∷ ts) ≡ false
unfolding sees kind_of same_kind
no_wire_bracket word l ts = refl

-- a range, if any, before a name
pub record RangeAt (range : Option Range) (word : Text) (l : ℕ) (text : Text) (ts : List Token) : Type 0 where
  pub reads : range_if_any (cut_up (range_text range ++ text)) ≡ Ok (range, token kind.Name word l ∷ ts)
  pub no_wire : sees kind.Wire (cut_up (range_text range ++ text)) ≡ false

range_parts : (r : Range) (text : Text) → range_text (Some r) ++ text ≡ 91 ∷ (decimal r.left ++ 58 ∷ (decimal r.right ++ 93 ∷ 32 ∷ text))
range_parts r text =
    ap (λ t. 91 ∷ t) (append_assoc (decimal r.left) (58 ∷ (decimal r.right ++ codes "] ")) text ∙ ap (λ t. decimal r.left ++ 58 ∷ t) (append_assoc (decimal r.right) (codes "] ") text))

range_at : (range : Option Range) (word : Text) (l : ℕ) (text : Text) (ts : List Token) → IsShortRange range → cut_up text ≡ token kind.Name word l ∷ ts → RangeAt range word l text ts
range_at None word l text ts small at = record { reads = ap range_if_any at ∙ no_range-at word l ts; no_wire = ap (sees kind.Wire) at ∙ no_wire_name word l ts }
range_at (Some r) word l text ts small at =
    let a = number_at r.left 58 (decimal r.right ++ 93 ∷ 32 ∷ text) small.0 refl in
    let b = number_at r.right 93 (32 ∷ text) small.1 refl in
    let cuts : cut_up (range_text (Some r) ++ text) ≡ range_tokens (decimal r.left) (decimal r.right) _ _ _ _ _ (token kind.Name word l ∷ ts) =
    ap cut_up (range_parts r text) ∙ cut_up-open_bracket (decimal r.left ++ 58 ∷ (decimal r.right ++ 93 ∷ 32 ∷ text))
    ∙ ap (λ us. token kind.OpenBracket (91 ∷ []) (suc (length (decimal r.left ++ 58 ∷ (decimal r.right ++ 93 ∷ 32 ∷ text)))) ∷ us) (a.at
    ∙ ap (λ us. token kind.Number (decimal r.left) a.left ∷ us) (cut_up-colon (decimal r.right ++ 93 ∷ 32 ∷ text)
    ∙ ap (λ us. token kind.Colon (58 ∷ []) (suc (length (decimal r.right ++ 93 ∷ 32 ∷ text))) ∷ us) (b.at
    ∙ ap (λ us. token kind.Number (decimal r.right) b.left ∷ us) (cut_up-close_bracket (32 ∷ text)
    ∙ ap (λ us. token kind.CloseBracket (93 ∷ []) (suc (length (32 ∷ text))) ∷ us) (cut_up-space text ∙ at))))) in
    record {
      reads = ap range_if_any cuts ∙ range-at r (decimal r.left) (decimal r.right) _ _ _ _ _ (token kind.Name word l ∷ ts) a.value b.value;
      no_wire = ap (sees kind.Wire) cuts ∙ no_wire_bracket (91 ∷ []) _ _;
    }

port_text : (port : Port) (rest : Text) → port_line port ++ rest ≡ dir_text port.dir ++ (range_text port.range ++ (name_text port.name ++ follow ASemicolon rest))
unfolding port_line
port_text port rest =
    append_assoc (dir_text port.dir) (range_text port.range ++ (name_text port.name ++ codes ";\n")) rest
    ∙ ap (λ t. dir_text port.dir ++ t) (append_assoc (range_text port.range) (name_text port.name ++ codes ";\n") rest ∙ ap (λ t. range_text port.range ++ t) (append_assoc (name_text port.name) (codes ";\n") rest))

dir_some : (dir : Dir) → 0 < length (dir_text dir)
dir_some dir.Input = omega arith
dir_some dir.Output = omega arith

port_some : (port : Port) → 0 < length (port_line port)
unfolding port_line
port_some port = let s = dir_some port.dir in omega (arith, length-append (dir_text port.dir) (range_text port.range ++ (name_text port.name ++ codes ";\n")))

pub port_read : (port : Port) (d new : Draft) → IsName port.name → IsShortRange port.range → ((place : ℕ) → declare_port place port.name port.dir port.range d ≡ Ok new) → Line (port_line port) d new
port_read port d new name small says = record {
  reads = λ rest.
      let n = name_at port.name 59 (10 ∷ rest) name refl in
      let f = follow_at ASemicolon rest in
      let text : Text = name_text port.name ++ follow ASemicolon rest in
      let r = range_at port.range port.name (suc n.left) text (token kind.Semicolon (59 ∷ []) f.left ∷ cut_up rest) small (n.at ∙ ap (λ ts. token kind.Name port.name (suc n.left) ∷ ts) f.at) in
      ap (λ t. item d (cut_up t)) (port_text port rest) ∙ ap (item d) (cut_up-dir port.dir (range_text port.range ++ text))
      ∙ port-at d new port.dir port.range port.name (dir_word port.dir) (length (dir_text port.dir ++ (range_text port.range ++ text))) n.left f.left (cut_up (range_text port.range ++ text)) (cut_up rest) r.no_wire r.reads (says (suc n.left));
  goes_on = λ rest. goes_on_by (dir_kind port.dir) (dir_word port.dir) _ _ _ (no_end_dir port.dir (dir_word port.dir) _ _) (ap cut_up (port_text port rest) ∙ cut_up-dir port.dir (range_text port.range ++ (name_text port.name ++ follow ASemicolon rest)));
  size = λ rest. left_by (dir_kind port.dir) (dir_word port.dir) _ _ _ (ap cut_up (port_text port rest) ∙ cut_up-dir port.dir (range_text port.range ++ (name_text port.name ++ follow ASemicolon rest))) ∙ ap length (sym (port_text port rest));
  some = port_some port;
}

-- ---- joins

join_text : (nets : List Text) (join : Join) (rest : Text) → join_line nets join ++ rest ≡ codes "assign " ++ (signal_text nets (signal.Net join.target) ++ follow AnEquals (signal_text nets join.source ++ follow ASemicolon rest))
unfolding join_line
join_text nets join rest =
    ap (λ t. codes "assign " ++ t) (append_assoc (signal_text nets (signal.Net join.target)) (codes " = " ++ (signal_text nets join.source ++ codes ";\n")) rest
    ∙ ap (λ t. signal_text nets (signal.Net join.target) ++ (32 ∷ 61 ∷ 32 ∷ t)) (append_assoc (signal_text nets join.source) (codes ";\n") rest))

no_end_assign : (word : Text) (l : ℕ) (ts : List Token) → sees kind.Endmodule (token kind.Assign word l ∷ ts) ≡ false
unfolding sees kind_of same_kind
no_end_assign word l ts = refl

join_some : (nets : List Text) (join : Join) → 0 < length (join_line nets join)
unfolding join_line
join_some nets join = omega arith

pub join_read : (nets : List Text) (join : Join) (d : Draft) → Operand d site.Target (signal_text nets (signal.Net join.target)) (signal.Net join.target) → Operand d site.Source (signal_text nets join.source) join.source
    → Line (join_line nets join) d (with_join join d)
join_read nets join d target source = record {
  reads = λ rest.
      let f = follow_at ASemicolon rest in
      let right : Text = signal_text nets join.source ++ follow ASemicolon rest in
      let e = follow_at AnEquals right in
      let whole : Text = signal_text nets (signal.Net join.target) ++ follow AnEquals right in
      let some = target.some AnEquals right in
      ap (λ t. item d (cut_up t)) (join_text nets join rest) ∙ ap (item d) (cut_up-assign whole)
      ∙ join-at d join.target join.source (codes "assign") (length (codes "assign " ++ whole)) some.0 e.left f.left (cut_up whole) (cut_up right) (cut_up rest) some.1
      (target.reads AnEquals right refl ∙ ap (λ ts. Ok ((d, signal.Net join.target ∷ []), ts)) e.at)
      (source.reads ASemicolon rest refl ∙ ap (λ ts. Ok ((d, join.source ∷ []), ts)) f.at);
  goes_on = λ rest. goes_on_by kind.Assign (codes "assign") _ _ _ (no_end_assign (codes "assign") _ _) (ap cut_up (join_text nets join rest) ∙ cut_up-assign _);
  size = λ rest. left_by kind.Assign (codes "assign") _ _ _ (ap cut_up (join_text nets join rest) ∙ cut_up-assign _) ∙ ap length (sym (join_text nets join rest));
  some = join_some nets join;
}
