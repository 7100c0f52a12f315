-- Written instances are read as themselves.
use Rattle.std.proofs.Common.{◌≡◌, ℕ, zero, suc, ◌<◌, ◌≤◌, Bool, true, false, cond, List, [], ◌∷◌, ◌++◌, length, map, codes, Option, Some, None, Ok, refl, sym, ap, ◌∙◌, subst, arith, append_assoc, append-nil, length-append, slice_get, slice_set, replicate}
use Rattle.std.proofs.lemmas.List.{length-map}
use Rattle.dft_base.specs.Lexing.{Text}
use Rattle.dft_base.specs.Name.{IsName}
use Rattle.dft_cells.specs.declared.kind.Gate.{Gate}
use Rattle.dft_cells.specs.declared.kind.Gate.TheVariants as primitive
use Rattle.dft_cells.specs.declared.cell.CellId.{CellId}
use Rattle.dft_cells.specs.declared.cell.Pin.{Pin}
use Rattle.dft_cells.specs.declared.cell.Cell.{Cell}
use Rattle.dft_cells.specs.Cells.{find_cell}
use Rattle.dft_cells.specs.Pins.{takes_inputs, is_output}
use Rattle.dft_netlist.specs.declared.instance.Signal.{Signal}
use Rattle.dft_netlist.specs.declared.instance.Signal.TheVariants as signal
use Rattle.dft_netlist_text.specs.declared.text.TokenKind.TheVariants as kind
use Rattle.dft_netlist_text.specs.declared.text.Site.{Site}
use Rattle.dft_netlist_text.specs.declared.text.Site.TheVariants as site
use Rattle.dft_netlist.specs.Sound.{is_primitive}
use Rattle.dft_netlist_text.specs.Lexemes.{Token}
use Rattle.dft_netlist_text.specs.Steps.{kind_of, left, same_kind, sees}
use Rattle.dft_netlist_text.specs.Modules.{Draft, name_instance, room_for_instance, with_instance}
use Rattle.dft_netlist_text.specs.Expressions.{ends, expression}
use Rattle.dft_netlist_text.specs.Items.{item, input_terminals_from, input_terminals, gate_instance, terminals, Joined, Connected, unjoined, pin_place, pin_drives, was_joined, named_connection, named_connections_from, connections, signal_at, cell_instance}
use Rattle.dft_verilog_out.specs.Written.{name_text, signal_text, list_text, list_text_behind, connection_text, is_joined, connection_texts, gate_text, own_name_text}
use Rattle.dft_verilog_out.proofs.CutLemmas.{cut_up, token, cut_up-buf, cut_up-not, cut_up-and, cut_up-nand, cut_up-or, cut_up-nor, cut_up-xor, cut_up-xnor, cut_up-point, cut_up-comma, cut_up-close, cut_up-semicolon, cut_up-space, cut_up-line, cut_up-opened, name_at, Opens}
use Rattle.dft_verilog_out.proofs.ItemLemmas.{gate_token, gate-named, gate-unnamed, terminal-at, input_terminals_from-more, input_terminals_from-end, terminals-at, named_connection-at, cell-at, connections-none, connections-some, named_connections_from-more, named_connections_from-end}
use Rattle.dft_verilog_out.proofs.OperandLemmas.{Follower, AClose, AComma, follow, follow_kind, Operand, left_of}
use Rattle.dft_verilog_out.proofs.LineLemmas.{Line}

-- ---- lists

-- what stands behind the texts of a list: a comma or the bracket that closes
pub record Behind (texts : List Text) (rest : Text) : Type 0 where
  pub f : Follower
  pub others : Text
  pub is : list_text_behind (codes ", ") texts ++ 41 ∷ rest ≡ follow f others
  pub at_terminal : (drives : Bool) → ends (site.Terminal drives) (follow_kind f) ≡ true

pub behind : (texts : List Text) (rest : Text) → Behind texts rest
behind [] rest = record { f = AClose; others = rest; is = refl; at_terminal = λ drives. refl }
behind (t ∷ texts) rest = record { f = AComma; others = (t ++ list_text_behind (codes ", ") texts) ++ 41 ∷ rest; is = refl; at_terminal = λ drives. refl }

-- how many texts there are at most
pub listed_long : (texts : List Text) (rest : Text) → length texts < length (list_text_behind (codes ", ") texts ++ 41 ∷ rest)
listed_long [] rest = omega arith
listed_long (t ∷ texts) rest =
    let more = listed_long texts rest in
    let e : (t ++ list_text_behind (codes ", ") texts) ++ 41 ∷ rest ≡ t ++ (list_text_behind (codes ", ") texts ++ 41 ∷ rest) = append_assoc t (list_text_behind (codes ", ") texts) (41 ∷ rest) in
    omega (arith, ap length e, length-append t (list_text_behind (codes ", ") texts ++ 41 ∷ rest))

left_behind : (texts : List Text) (rest : Text) → left (cut_up (list_text_behind (codes ", ") texts ++ 41 ∷ rest)) ≡ length (list_text_behind (codes ", ") texts ++ 41 ∷ rest)
left_behind [] rest = ap left (cut_up-close rest) ∙ left_of kind.CloseParen (41 ∷ []) (suc (length rest)) (cut_up rest)
left_behind (t ∷ texts) rest =
    let more : Text = 32 ∷ ((t ++ list_text_behind (codes ", ") texts) ++ 41 ∷ rest) in
    ap left (cut_up-comma more) ∙ left_of kind.Comma (44 ∷ []) (suc (length more)) (cut_up more)

-- ---- gates

-- these signals are read at these sites
abbrev pub Operands : Draft → Site → List Text → List Signal → Type 0
Operands d at nets [] = Unit {0}
Operands d at nets (s ∷ ss) = Operand d at (signal_text nets s) s × Operands d at nets ss

inputs_read : (n : ℕ) (d : Draft) (nets : List Text) (done todo : List Signal) (rest : Text) → length todo < n → Operands d (site.Terminal false) nets todo
    → input_terminals_from n d done (cut_up (list_text_behind (codes ", ") (map (signal_text nets) todo) ++ 41 ∷ rest)) ≡ Ok ((d, done ++ todo), cut_up (41 ∷ rest))
inputs_read zero d nets done todo rest few ops = absurd (omega arith)
inputs_read (suc n) d nets done [] rest few ops =
    ap (input_terminals_from (suc n) d done) (cut_up-close rest) ∙ input_terminals_from-end n d done (suc (length rest)) (cut_up rest)
    ∙ ap (λ ss. Ok ((d, ss), token kind.CloseParen (41 ∷ []) (suc (length rest)) ∷ cut_up rest)) (sym (append-nil done)) ∙ ap (λ ts. Ok ((d, done ++ []), ts)) (sym (cut_up-close rest))
inputs_read (suc n) d nets done (s ∷ todo) rest few ops =
    let b = behind (map (signal_text nets) todo) rest in
    let more : Text = list_text_behind (codes ", ") (map (signal_text nets) todo) in
    let t : Text = signal_text nets s in
    ap (input_terminals_from (suc n) d done) (cut_up-comma (32 ∷ ((t ++ more) ++ 41 ∷ rest)) ∙ ap (λ ts. token kind.Comma (44 ∷ []) (suc (suc (length ((t ++ more) ++ 41 ∷ rest)))) ∷ ts) (cut_up-space ((t ++ more) ++ 41 ∷ rest)))
    ∙ input_terminals_from-more n d s done (suc (suc (length ((t ++ more) ++ 41 ∷ rest)))) (cut_up ((t ++ more) ++ 41 ∷ rest)) (cut_up (more ++ 41 ∷ rest))
    (ap (λ x. expression (site.Terminal false) d (cut_up x)) (append_assoc t more (41 ∷ rest) ∙ ap (λ x. t ++ x) b.is) ∙ ops.0.reads b.f b.others (b.at_terminal false) ∙ ap (λ x. Ok ((d, s ∷ []), cut_up x)) (sym b.is))
    ∙ inputs_read n d nets (done ++ s ∷ []) todo rest (omega arith) ops.1
    ∙ ap (λ ss. Ok ((d, ss), cut_up (41 ∷ rest))) (append_assoc done (s ∷ []) todo)

input_terminals-is : (d : Draft) (us : List Token) → input_terminals d us ≡ input_terminals_from (left us) d [] us
unfolding input_terminals
input_terminals-is d us = refl

terminals_read : (k : Gate) (d : Draft) (name : Option Text) (nets : List Text) (output : Signal) (ins : List Signal) (place : ℕ) (rest : Text)
    → Operand d (site.Terminal true) (signal_text nets output) output → Operands d (site.Terminal false) nets ins → takes_inputs k (length ins) ≡ true
    → terminals k name place d (cut_up (list_text (map (signal_text nets) (output ∷ ins)) ++ 41 ∷ rest)) ≡ Ok (with_instance (gate_instance k name output ins) d, cut_up rest)
terminals_read k d name nets output ins place rest out ops fits =
    let texts : List Text = map (signal_text nets) ins in
    let more : Text = list_text_behind (codes ", ") texts in
    let t : Text = signal_text nets output in
    let b = behind texts rest in
    let enough : length ins < left (cut_up (more ++ 41 ∷ rest)) = omega (arith, left_behind texts rest, listed_long texts rest, length-map ins (signal_text nets)) in
    terminals-at k d name output ins place (suc (length rest)) 0 (cut_up ((t ++ more) ++ 41 ∷ rest)) (cut_up (more ++ 41 ∷ rest)) (cut_up rest)
    (terminal-at true d output (cut_up ((t ++ more) ++ 41 ∷ rest)) (cut_up (more ++ 41 ∷ rest))
    (ap (λ x. expression (site.Terminal true) d (cut_up x)) (append_assoc t more (41 ∷ rest) ∙ ap (λ x. t ++ x) b.is) ∙ out.reads b.f b.others (b.at_terminal true) ∙ ap (λ x. Ok ((d, output ∷ []), cut_up x)) (sym b.is)))
    (input_terminals-is d (cut_up (more ++ 41 ∷ rest)) ∙ inputs_read (left (cut_up (more ++ 41 ∷ rest))) d nets [] ins rest enough ops ∙ ap (λ ts. Ok ((d, ins), ts)) (cut_up-close rest)) fits

cut_up-gate : (k : Gate) (rest : Text) → is_primitive k ≡ true → cut_up (gate_text k ++ 32 ∷ rest) ≡ token (gate_token k) (gate_text k) (length (gate_text k ++ 32 ∷ rest)) ∷ cut_up rest
cut_up-gate primitive.Buf rest p = cut_up-buf rest
cut_up-gate primitive.Inv rest p = cut_up-not rest
cut_up-gate primitive.And rest p = cut_up-and rest
cut_up-gate primitive.Nand rest p = cut_up-nand rest
cut_up-gate primitive.Or rest p = cut_up-or rest
cut_up-gate primitive.Nor rest p = cut_up-nor rest
cut_up-gate primitive.Xor rest p = cut_up-xor rest
cut_up-gate primitive.Xnor rest p = cut_up-xnor rest
cut_up-gate _ rest p = absurd (cc)

no_end_gate : (k : Gate) (word : Text) (l : ℕ) (ts : List Token) → is_primitive k ≡ true → sees kind.Endmodule (token (gate_token k) word l ∷ ts) ≡ false
unfolding sees kind_of same_kind
no_end_gate primitive.Mux2 word l ts p = absurd (cc)
no_end_gate (primitive.Table number) word l ts p = absurd (cc)
no_end_gate primitive.Tie0 word l ts p = absurd (cc)
no_end_gate primitive.Tie1 word l ts p = absurd (cc)
no_end_gate _ word l ts p = refl

-- a gate's line, whose pins are these inputs and this output
pub record IsGate (d : Draft) (nets : List Text) (k : Gate) (output : Signal) (ins : List Signal) : Type 0 where
  pub primitive : is_primitive k ≡ true
  pub output_reads : Operand d (site.Terminal true) (signal_text nets output) output
  pub inputs_read : Operands d (site.Terminal false) nets ins
  pub fits : takes_inputs k (length ins) ≡ true

-- the brackets of an instance, and what stands in them
abbrev bracketed : Text → Text → Text
bracketed inside rest = inside ++ 41 ∷ 59 ∷ 10 ∷ rest

-- an instance's line: the word in front, its name and its brackets
abbrev pub form : Text → Option Text → Text → Text
form word own inside = word ++ (own_name_text own ++ (codes " (" ++ (inside ++ codes ");\n")))

form_parts : (word : Text) (own : Option Text) (inside rest : Text) → form word own inside ++ rest ≡ word ++ (own_name_text own ++ 32 ∷ 40 ∷ bracketed inside rest)
form_parts word own inside rest =
    append_assoc word (own_name_text own ++ (codes " (" ++ (inside ++ codes ");\n"))) rest
    ∙ ap (λ t. word ++ t) (append_assoc (own_name_text own) (codes " (" ++ (inside ++ codes ");\n")) rest ∙ ap (λ t. own_name_text own ++ (32 ∷ 40 ∷ t)) (append_assoc inside (codes ");\n") rest))

pub close_line : (rest : Text) → cut_up (41 ∷ 59 ∷ 10 ∷ rest) ≡ token kind.CloseParen (41 ∷ []) (suc (suc (suc (length rest)))) ∷ token kind.Semicolon (59 ∷ []) (suc (suc (length rest))) ∷ cut_up rest
close_line rest = cut_up-close (59 ∷ 10 ∷ rest) ∙ ap (λ ts. token kind.CloseParen (41 ∷ []) (suc (suc (suc (length rest)))) ∷ ts) (cut_up-semicolon (10 ∷ rest) ∙ ap (λ ts. token kind.Semicolon (59 ∷ []) (suc (suc (length rest))) ∷ ts) (cut_up-line rest))

semicolon_line : (rest : Text) → cut_up (59 ∷ 10 ∷ rest) ≡ token kind.Semicolon (59 ∷ []) (suc (suc (length rest))) ∷ cut_up rest
semicolon_line rest = cut_up-semicolon (10 ∷ rest) ∙ ap (λ ts. token kind.Semicolon (59 ∷ []) (suc (suc (length rest))) ∷ ts) (cut_up-line rest)

open_at : (inside rest : Text) → Opens (bracketed inside rest) → cut_up (32 ∷ 40 ∷ bracketed inside rest) ≡ token kind.OpenParen (40 ∷ []) (suc (length (bracketed inside rest))) ∷ cut_up (bracketed inside rest)
open_at inside rest o = cut_up-space (40 ∷ bracketed inside rest) ∙ cut_up-opened (bracketed inside rest) o

abbrev pub gate_form : (nets : List Text) → Gate → Option Text → Signal → List Signal → Text
gate_form nets k own output ins = form (gate_text k) own (list_text (map (signal_text nets) (output ∷ ins)))

gate_opens : (d : Draft) (nets : List Text) (k : Gate) (output : Signal) (ins : List Signal) (rest : Text) → IsGate d nets k output ins → Opens (bracketed (list_text (map (signal_text nets) (output ∷ ins))) rest)
gate_opens d nets k output ins rest g =
    subst Opens (sym (append_assoc (signal_text nets output) (list_text_behind (codes ", ") (map (signal_text nets) ins)) (41 ∷ 59 ∷ 10 ∷ rest))) (g.output_reads.opens _)

gate_some : (k : Gate) → is_primitive k ≡ true → 0 < length (gate_text k)
gate_some primitive.Mux2 p = absurd (cc)
gate_some (primitive.Table number) p = absurd (cc)
gate_some primitive.Tie0 p = absurd (cc)
gate_some primitive.Tie1 p = absurd (cc)
gate_some _ p = omega arith

gate_cuts : (k : Gate) (own : Option Text) (inside rest : Text) → is_primitive k ≡ true → (l : ℕ) × (ts : List Token)
    × (cut_up (form (gate_text k) own inside ++ rest) ≡ token (gate_token k) (gate_text k) l ∷ ts) × (l ≡ length (form (gate_text k) own inside ++ rest))
gate_cuts k None inside rest p =
    (_, _, ap cut_up (form_parts (gate_text k) None inside rest) ∙ cut_up-gate k (40 ∷ bracketed inside rest) p, ap length (sym (form_parts (gate_text k) None inside rest)))
gate_cuts k (Some name) inside rest p =
    (_, _, ap cut_up (form_parts (gate_text k) (Some name) inside rest) ∙ cut_up-gate k (name_text name ++ 32 ∷ 40 ∷ bracketed inside rest) p, ap length (sym (form_parts (gate_text k) (Some name) inside rest)))

gate_line_of : (k : Gate) (own : Option Text) (inside : Text) (d new : Draft) → is_primitive k ≡ true → ((rest : Text) → item d (cut_up (form (gate_text k) own inside ++ rest)) ≡ Ok (new, cut_up rest)) → Line (form (gate_text k) own inside) d new
gate_line_of k own inside d new p reads = record {
  reads = reads;
  goes_on = λ rest. let c = gate_cuts k own inside rest p in ap (sees kind.Endmodule) c.2 ∙ no_end_gate k (gate_text k) c.0 c.1 p;
  size = λ rest. let c = gate_cuts k own inside rest p in ap left c.2 ∙ left_of (gate_token k) (gate_text k) c.0 c.1 ∙ c.3;
  some = let s = gate_some k p in omega (arith, length-append (gate_text k) (own_name_text own ++ (codes " (" ++ (inside ++ codes ");\n"))));
}

pub named_gate_read : (k : Gate) (d named : Draft) (name : Text) (nets : List Text) (output : Signal) (ins : List Signal) → IsGate named nets k output ins → IsName name → ((place : ℕ) → name_instance place name d ≡ Ok named)
    → Line (gate_form nets k (Some name) output ins) d (with_instance (gate_instance k (Some name) output ins) named)
named_gate_read k d named name nets output ins g is_name says =
    gate_line_of k (Some name) (list_text (map (signal_text nets) (output ∷ ins))) d (with_instance (gate_instance k (Some name) output ins) named) g.primitive (λ rest.
    let inside : Text = list_text (map (signal_text nets) (output ∷ ins)) in
    let n = name_at name 32 (40 ∷ bracketed inside rest) is_name refl in
    ap (λ t. item d (cut_up t)) (form_parts (gate_text k) (Some name) inside rest)
    ∙ ap (item d) (cut_up-gate k (name_text name ++ 32 ∷ 40 ∷ bracketed inside rest) g.primitive ∙ ap (λ ts. token (gate_token k) (gate_text k) (length (gate_text k ++ 32 ∷ (name_text name ++ 32 ∷ 40 ∷ bracketed inside rest))) ∷ ts)
    (n.at ∙ ap (λ ts. token kind.Name name (suc n.left) ∷ ts) (open_at inside rest (gate_opens named nets k output ins rest g))))
    ∙ gate-named k d named (with_instance (gate_instance k (Some name) output ins) named) name (gate_text k) _ n.left (suc (length (bracketed inside rest))) (suc (suc (length rest))) (cut_up (bracketed inside rest)) (cut_up rest) g.primitive (says (suc n.left))
    (terminals_read k named (Some name) nets output ins (suc (length (bracketed inside rest))) (59 ∷ 10 ∷ rest) g.output_reads g.inputs_read g.fits
    ∙ ap (λ ts. Ok (with_instance (gate_instance k (Some name) output ins) named, ts)) (semicolon_line rest)))

pub unnamed_gate_read : (k : Gate) (d : Draft) (nets : List Text) (output : Signal) (ins : List Signal) → IsGate d nets k output ins → ((place : ℕ) → room_for_instance place d ≡ Ok d)
    → Line (gate_form nets k None output ins) d (with_instance (gate_instance k None output ins) d)
unnamed_gate_read k d nets output ins g says =
    gate_line_of k None (list_text (map (signal_text nets) (output ∷ ins))) d (with_instance (gate_instance k None output ins) d) g.primitive (λ rest.
    let inside : Text = list_text (map (signal_text nets) (output ∷ ins)) in
    ap (λ t. item d (cut_up t)) (form_parts (gate_text k) None inside rest)
    ∙ ap (item d) (cut_up-gate k (40 ∷ bracketed inside rest) g.primitive ∙ ap (λ ts. token (gate_token k) (gate_text k) (length (gate_text k ++ 32 ∷ 40 ∷ bracketed inside rest)) ∷ ts)
    (cut_up-opened (bracketed inside rest) (gate_opens d nets k output ins rest g)))
    ∙ gate-unnamed k d (with_instance (gate_instance k None output ins) d) (gate_text k) _ (length (bracketed inside rest)) (suc (suc (length rest))) (cut_up (bracketed inside rest)) (cut_up rest) g.primitive (says (suc (length (bracketed inside rest))))
    (terminals_read k d None nets output ins (suc (length (bracketed inside rest))) (59 ∷ 10 ∷ rest) g.output_reads g.inputs_read g.fits
    ∙ ap (λ ts. Ok (with_instance (gate_instance k None output ins) d, ts)) (semicolon_line rest)))

-- ---- instances of cells

-- what a pin is joined to as the list of connections says
abbrev pub as_joined : Signal → Option Signal
as_joined s = cond (is_joined s) (Some s) None

abbrev nones : List Pin → Joined
nones [] = []
nones (p ∷ ps) = None ∷ nones ps

pub unjoined-is : (cell : Cell) → unjoined cell ≡ nones cell.pins
unjoined-is cell = all cell.pins
  where
    all : (ps : List Pin) → replicate (length ps) None ≡ nones ps
    all [] = refl
    all (p ∷ ps) = ap (λ (js : Joined). None ∷ js) (all ps)

-- a pin at its place, and its signal where it is joined
pub record IsPin (d : Draft) (nets : List Text) (cell : Cell) (place : ℕ) (pin : Pin) (to : Signal) : Type 0 where
  pub found : pin_place cell pin.name ≡ Some place
  pub at : slice_get cell.pins place ≡ Some pin
  pub name : is_joined to ≡ true → IsName pin.name
  pub reads : is_joined to ≡ true → Operand d (site.Pin (is_output pin.role)) (signal_text nets to) to

abbrev pub ArePins : Draft → List Text → Cell → (place : ℕ) → List Pin → List Signal → Type 0
ArePins d nets cell place [] [] = Unit {0}
ArePins d nets cell place [] (to ∷ signals) = ⊥
ArePins d nets cell place (pin ∷ pins) [] = ⊥
ArePins d nets cell place (pin ∷ pins) (to ∷ signals) = IsPin d nets cell place pin to × ArePins d nets cell (suc place) pins signals

set_here : (done rest : Joined) (x y : Option Signal) (place : ℕ) → place ≡ length done → slice_set (done ++ x ∷ rest) place y ≡ (done ++ y ∷ []) ++ rest
set_here [] rest x y zero e = refl
set_here [] rest x y (suc place) e = absurd (omega arith)
set_here (z ∷ done) rest x y zero e = absurd (omega arith)
set_here (z ∷ done) rest x y (suc place) e = ap (λ (zs : Joined). z ∷ zs) (set_here done rest x y place (omega arith))

free_here : (done rest : Joined) (place : ℕ) → place ≡ length done → was_joined (slice_get (done ++ None ∷ rest) place) ≡ false
free_here [] rest zero e = refl
free_here [] rest (suc place) e = absurd (omega arith)
free_here (z ∷ done) rest zero e = absurd (omega arith)
free_here (z ∷ done) rest (suc place) e = free_here done rest place (omega arith)

joined_parts : (nets : List Text) (pin : Text) (to : Signal) (rest : Text) → connection_text nets pin to ++ rest ≡ 46 ∷ (name_text pin ++ 40 ∷ (signal_text nets to ++ 41 ∷ rest))
joined_parts nets pin to rest =
    ap (λ t. 46 ∷ t) (append_assoc (name_text pin) (40 ∷ (signal_text nets to ++ 41 ∷ [])) rest ∙ ap (λ t. name_text pin ++ 40 ∷ t) (append_assoc (signal_text nets to) (41 ∷ []) rest))

connection_read : (d : Draft) (nets : List Text) (cell : Cell) (place : ℕ) (pin : Pin) (to : Signal) (done rest : Joined) (behind : Text) → IsPin d nets cell place pin to → is_joined to ≡ true → place ≡ length done
    → named_connection cell (d, done ++ None ∷ rest) (cut_up (connection_text nets pin.name to ++ behind)) ≡ Ok ((d, (done ++ Some to ∷ []) ++ rest), cut_up behind)
connection_read d nets cell place pin to done rest behind p is e =
    let op = p.reads is in
    let us : Text = signal_text nets to ++ 41 ∷ behind in
    let n = name_at pin.name 40 us (p.name is) refl in
    let role : pin_drives (slice_get cell.pins place) ≡ is_output pin.role = ap pin_drives p.at in
    ap (λ t. named_connection cell (d, done ++ None ∷ rest) (cut_up t)) (joined_parts nets pin.name to behind)
    ∙ ap (named_connection cell (d, done ++ None ∷ rest)) (cut_up-point (name_text pin.name ++ 40 ∷ us) ∙ ap (λ ts. token kind.Point (46 ∷ []) (suc (length (name_text pin.name ++ 40 ∷ us))) ∷ ts)
    (n.at ∙ ap (λ ts. token kind.Name pin.name (suc n.left) ∷ ts) (cut_up-opened us (op.opens (41 ∷ behind)))))
    ∙ named_connection-at cell d d (done ++ None ∷ rest) place pin.name to (suc (length (name_text pin.name ++ 40 ∷ us))) (suc n.left) (suc (length us)) (suc (length behind)) (cut_up us) (cut_up behind) p.found (free_here done rest place e) (op.closed AClose behind)
    (ap (λ b. expression (site.Pin b) d (cut_up us)) role ∙ op.reads AClose behind refl ∙ ap (λ ts. Ok ((d, to ∷ []), ts)) (cut_up-close behind))
    ∙ ap (λ (j : Joined). Ok ((d, j), cut_up behind)) (set_here done rest None (Some to) place e)

-- where no pin is joined, none is
none_joined : (nets : List Text) (pins : List Pin) (signals : List Signal) → length signals ≡ length pins → connection_texts nets pins signals ≡ [] → nones pins ≡ map as_joined signals
none_joined nets [] [] w e = refl
none_joined nets [] (s ∷ signals) w e = absurd (omega arith)
none_joined nets (p ∷ pins) [] w e = absurd (omega arith)
none_joined nets (p ∷ pins) (s ∷ signals) w e = by (is_joined s) refl e (none_joined nets pins signals (omega arith))
  where
    by : (t : Bool) → is_joined s ≡ t → cond t (connection_text nets p.name s ∷ connection_texts nets pins signals) (connection_texts nets pins signals) ≡ [] → (connection_texts nets pins signals ≡ [] → nones pins ≡ map as_joined signals)
        → None ∷ nones pins ≡ as_joined s ∷ map as_joined signals
    by true is e ih = absurd (cc)
    by false is e ih = ap (λ (js : Joined). None ∷ js) (ih e) ∙ ap (λ t. cond t (Some s) None ∷ map as_joined signals) (sym is)

abbrev Conns : Draft → List Text → Cell → List Pin → List Signal → Type 0
Conns d nets cell pins signals =
    (n place : ℕ) (done : Joined) (rest first : Text) (more : List Text) → connection_texts nets pins signals ≡ first ∷ more → length (first ∷ more) ≤ n → ArePins d nets cell place pins signals → length signals ≡ length pins → place ≡ length done
    → named_connections_from n cell (d, done ++ nones pins) (cut_up (list_text (first ∷ more) ++ 41 ∷ rest)) ≡ Ok ((d, done ++ map as_joined signals), cut_up (41 ∷ rest))

-- behind a connection comes the end, or a comma and the next
conns_end : (d : Draft) (cell : Cell) (n : ℕ) (c new : Connected) (us : List Token) (rest : Text) → named_connection cell c us ≡ Ok (new, cut_up (41 ∷ rest)) → named_connections_from (suc n) cell c us ≡ Ok (new, cut_up (41 ∷ rest))
conns_end d cell n c new us rest is =
    named_connections_from-end n cell c new (suc (length rest)) us (cut_up rest) (is ∙ ap (λ ts. Ok (new, ts)) (cut_up-close rest)) ∙ ap (λ ts. Ok (new, ts)) (sym (cut_up-close rest))

conns_more : (cell : Cell) (n : ℕ) (c new : Connected) (us : List Token) (rest : Text) → named_connection cell c us ≡ Ok (new, cut_up (44 ∷ 32 ∷ rest)) → named_connections_from (suc n) cell c us ≡ named_connections_from n cell new (cut_up rest)
conns_more cell n c new us rest is =
    named_connections_from-more n cell c new (suc (suc (length rest))) us (cut_up rest) (is ∙ ap (λ ts. Ok (new, ts)) (cut_up-comma (32 ∷ rest) ∙ ap (λ ts. token kind.Comma (44 ∷ []) (suc (suc (length rest))) ∷ ts) (cut_up-space rest)))

joined_case : (d : Draft) (nets : List Text) (cell : Cell) (pin : Pin) (pins : List Pin) (to : Signal) (signals : List Signal) → Conns d nets cell pins signals
    → (n place : ℕ) (done : Joined) (rest : Text) (more : List Text) → is_joined to ≡ true → connection_texts nets pins signals ≡ more → length more ≤ n → IsPin d nets cell place pin to → ArePins d nets cell (suc place) pins signals
    → length signals ≡ length pins → place ≡ length done
    → named_connections_from (suc n) cell (d, done ++ None ∷ nones pins) (cut_up (list_text (connection_text nets pin.name to ∷ more) ++ 41 ∷ rest)) ≡ Ok ((d, done ++ Some to ∷ map as_joined signals), cut_up (41 ∷ rest))
joined_case d nets cell pin pins to signals ih n place done rest [] is e few p ps w at =
    conns_end d cell n (d, done ++ None ∷ nones pins) (d, (done ++ Some to ∷ []) ++ nones pins) (cut_up ((connection_text nets pin.name to ++ []) ++ 41 ∷ rest)) rest
    (ap (λ t. named_connection cell (d, done ++ None ∷ nones pins) (cut_up t)) (append_assoc (connection_text nets pin.name to) [] (41 ∷ rest)) ∙ connection_read d nets cell place pin to done (nones pins) (41 ∷ rest) p is at)
    ∙ ap (λ (js : Joined). Ok ((d, js), cut_up (41 ∷ rest))) (append_assoc done (Some to ∷ []) (nones pins) ∙ ap (λ (js : Joined). done ++ Some to ∷ js) (none_joined nets pins signals w e))
joined_case d nets cell pin pins to signals ih n place done rest (t ∷ ts) is e few p ps w at =
    let here : Text = connection_text nets pin.name to in
    let later : Text = list_text (t ∷ ts) ++ 41 ∷ rest in
    conns_more cell n (d, done ++ None ∷ nones pins) (d, (done ++ Some to ∷ []) ++ nones pins) (cut_up ((here ++ list_text_behind (codes ", ") (t ∷ ts)) ++ 41 ∷ rest)) later
    (ap (λ x. named_connection cell (d, done ++ None ∷ nones pins) (cut_up x)) (append_assoc here (list_text_behind (codes ", ") (t ∷ ts)) (41 ∷ rest)) ∙ connection_read d nets cell place pin to done (nones pins) (44 ∷ 32 ∷ later) p is at)
    ∙ ih n (suc place) (done ++ Some to ∷ []) rest t ts e few ps w (omega (arith, length-append done (Some to ∷ [])))
    ∙ ap (λ (js : Joined). Ok ((d, js), cut_up (41 ∷ rest))) (append_assoc done (Some to ∷ []) (map as_joined signals))

either_case : (t : Bool) (d : Draft) (nets : List Text) (cell : Cell) (pin : Pin) (pins : List Pin) (to : Signal) (signals : List Signal) → (ih : Conns d nets cell pins signals)
    → (n place : ℕ) (done : Joined) (rest first : Text) (more : List Text) → (is : is_joined to ≡ t) → cond t (connection_text nets pin.name to ∷ connection_texts nets pins signals) (connection_texts nets pins signals) ≡ first ∷ more
    → (few : length (first ∷ more) ≤ n) → IsPin d nets cell place pin to → (ps : ArePins d nets cell (suc place) pins signals) → length signals ≡ length pins → (at : place ≡ length done)
    → named_connections_from n cell (d, done ++ None ∷ nones pins) (cut_up (list_text (first ∷ more) ++ 41 ∷ rest)) ≡ Ok ((d, done ++ cond t (Some to) None ∷ map as_joined signals), cut_up (41 ∷ rest))
either_case true d nets cell pin pins to signals ih zero place done rest first more is e few p ps w at = absurd (omega arith)
either_case true d nets cell pin pins to signals ih (suc n) place done rest first more is e few p ps w at =
    let f : connection_text nets pin.name to ≡ first = cc in
    let m : connection_texts nets pins signals ≡ more = cc in
    ap (λ x. named_connections_from (suc n) cell (d, done ++ None ∷ nones pins) (cut_up (list_text (x ∷ more) ++ 41 ∷ rest))) (sym f)
    ∙ joined_case d nets cell pin pins to signals ih n place done rest more is m (omega arith) p ps w at
either_case false d nets cell pin pins to signals ih n place done rest first more is e few p ps w at =
    ap (λ (js : Joined). named_connections_from n cell (d, js) (cut_up (list_text (first ∷ more) ++ 41 ∷ rest))) (sym (append_assoc done (None ∷ []) (nones pins)))
    ∙ ih n (suc place) (done ++ None ∷ []) rest first more e few ps w (omega (arith, length-append done (None ∷ [])))
    ∙ ap (λ (js : Joined). Ok ((d, js), cut_up (41 ∷ rest))) (append_assoc done (None ∷ []) (map as_joined signals))

conns_read : (d : Draft) (nets : List Text) (cell : Cell) (pins : List Pin) (signals : List Signal) → Conns d nets cell pins signals
conns_read d nets cell [] [] n place done rest first more e few ps w at = absurd (cc)
conns_read d nets cell [] (to ∷ signals) n place done rest first more e few ps w at = absurd (cc)
conns_read d nets cell (pin ∷ pins) [] n place done rest first more e few ps w at = absurd (cc)
conns_read d nets cell (pin ∷ pins) (to ∷ signals) n place done rest first more e few ps w at =
    either_case (is_joined to) d nets cell pin pins to signals (conns_read d nets cell pins signals) n place done rest first more refl e few ps.0 ps.1 (omega arith) at

-- the first connection begins with a point
first_by : (t : Bool) (nets : List Text) (pin : Pin) (to : Signal) (others : List Text) (first : Text) (more : List Text) → (others ≡ first ∷ more → (x : Text) × (first ≡ 46 ∷ x))
    → cond t (connection_text nets pin.name to ∷ others) others ≡ first ∷ more → (x : Text) × (first ≡ 46 ∷ x)
first_by true nets pin to others first more ih e = (name_text pin.name ++ (40 ∷ (signal_text nets to ++ 41 ∷ [])), (let f : connection_text nets pin.name to ≡ first = cc in sym f))
first_by false nets pin to others first more ih e = ih e

begins_point : (nets : List Text) (pins : List Pin) (signals : List Signal) (first : Text) (more : List Text) → connection_texts nets pins signals ≡ first ∷ more → (x : Text) × (first ≡ 46 ∷ x)
begins_point nets [] signals first more e = absurd (cc)
begins_point nets (p ∷ pins) [] first more e = absurd (cc)
begins_point nets (p ∷ pins) (s ∷ signals) first more e = first_by (is_joined s) nets p s (connection_texts nets pins signals) first more (begins_point nets pins signals first more) e

whole_by : (conns : List Text) (d : Draft) (nets : List Text) (cell : Cell) (signals : List Signal) (rest : Text) → connection_texts nets cell.pins signals ≡ conns → ArePins d nets cell 0 cell.pins signals → length signals ≡ length cell.pins
    → connections cell (d, nones cell.pins) (cut_up (list_text conns ++ 41 ∷ rest)) ≡ Ok ((d, map as_joined signals), cut_up (41 ∷ rest))
whole_by [] d nets cell signals rest e ps w =
    ap (connections cell (d, nones cell.pins)) (cut_up-close rest) ∙ connections-none cell (d, nones cell.pins) (suc (length rest)) (cut_up rest)
    ∙ ap (λ (js : Joined). Ok ((d, js), token kind.CloseParen (41 ∷ []) (suc (length rest)) ∷ cut_up rest)) (none_joined nets cell.pins signals w e) ∙ ap (λ ts. Ok ((d, map as_joined signals), ts)) (sym (cut_up-close rest))
whole_by (first ∷ more) d nets cell signals rest e ps w =
    let x = begins_point nets cell.pins signals first more e in
    let text : Text = list_text (first ∷ more) ++ 41 ∷ rest in
    let behind : Text = (x.0 ++ list_text_behind (codes ", ") more) ++ 41 ∷ rest in
    let is : text ≡ 46 ∷ behind = ap (λ f. list_text (f ∷ more) ++ 41 ∷ rest) x.1 in
    let cuts : cut_up text ≡ token kind.Point (46 ∷ []) (suc (length behind)) ∷ cut_up behind = ap cut_up is ∙ cut_up-point behind in
    let many : length (first ∷ more) ≤ suc (length behind) =
    omega (arith, listed_long more rest, ap length (append_assoc x.0 (list_text_behind (codes ", ") more) (41 ∷ rest)), length-append x.0 (list_text_behind (codes ", ") more ++ 41 ∷ rest)) in
    ap (connections cell (d, nones cell.pins)) cuts ∙ connections-some cell (d, nones cell.pins) (suc (length behind)) (cut_up behind)
    ∙ ap (named_connections_from (suc (length behind)) cell (d, nones cell.pins)) (sym cuts)
    ∙ conns_read d nets cell cell.pins signals (suc (length behind)) 0 [] rest first more e many ps w refl

connections_read : (d : Draft) (nets : List Text) (cell : Cell) (signals : List Signal) (rest : Text) → ArePins d nets cell 0 cell.pins signals → length signals ≡ length cell.pins
    → connections cell (d, unjoined cell) (cut_up (list_text (connection_texts nets cell.pins signals) ++ 41 ∷ rest)) ≡ Ok ((d, map as_joined signals), cut_up (41 ∷ rest))
connections_read d nets cell signals rest ps w =
    ap (λ (js : Joined). connections cell (d, js) (cut_up (list_text (connection_texts nets cell.pins signals) ++ 41 ∷ rest))) (unjoined-is cell) ∙ whole_by (connection_texts nets cell.pins signals) d nets cell signals rest refl ps w

pub signals-back : (signals : List Signal) → map signal_at (map as_joined signals) ≡ signals
signals-back [] = refl
signals-back (signal.Net net ∷ signals) = ap (λ ss. signal.Net net ∷ ss) (signals-back signals)
signals-back (signal.Constant bit ∷ signals) = ap (λ ss. signal.Constant bit ∷ ss) (signals-back signals)
signals-back (signal.Unconnected ∷ signals) = ap (λ ss. signal.Unconnected ∷ ss) (signals-back signals)

-- an instance's line
abbrev pub cell_form : (nets : List Text) → Cell → Text → List Signal → Text
cell_form nets cell name signals = form (name_text cell.name) (Some name) (list_text (connection_texts nets cell.pins signals))

conns_open : (conns : List Text) (nets : List Text) (pins : List Pin) (signals : List Signal) (rest : Text) → connection_texts nets pins signals ≡ conns → Opens (bracketed (list_text conns) rest)
conns_open [] nets pins signals rest e = record { first = 41; others = 59 ∷ 10 ∷ rest; is = refl; other = λ h. absurd (omega arith) }
conns_open (first ∷ more) nets pins signals rest e =
    let x = begins_point nets pins signals first more e in
    record { first = 46; others = (x.0 ++ list_text_behind (codes ", ") more) ++ 41 ∷ 59 ∷ 10 ∷ rest; is = ap (λ f. bracketed (list_text (f ∷ more)) rest) x.1; other = λ h. absurd (omega arith) }

pub no_end_name : (word : Text) (l : ℕ) (ts : List Token) → sees kind.Endmodule (token kind.Name word l ∷ ts) ≡ false
unfolding sees kind_of same_kind
no_end_name word l ts = refl

pub cell_read : (d named : Draft) (nets : List Text) (id : CellId) (cell : Cell) (name : Text) (signals : List Signal) → find_cell d.library cell.name ≡ Some id → slice_get d.library id.0 ≡ Some cell → IsName cell.name → IsName name
    → ((place : ℕ) → name_instance place name d ≡ Ok named) → ArePins named nets cell 0 cell.pins signals → length signals ≡ length cell.pins
    → Line (cell_form nets cell name signals) d (with_instance (cell_instance id name (map as_joined signals)) named)
cell_read d named nets id cell name signals found there is_cell is_name says ps w = record {
  reads = λ rest.
      let inside : Text = list_text (connection_texts nets cell.pins signals) in
      let n = name_at name 32 (40 ∷ bracketed inside rest) is_name refl in
      let m = name_at cell.name 32 (name_text name ++ 32 ∷ 40 ∷ bracketed inside rest) is_cell refl in
      ap (λ t. item d (cut_up t)) (form_parts (name_text cell.name) (Some name) inside rest)
      ∙ ap (item d) (m.at ∙ ap (λ ts. token kind.Name cell.name (suc m.left) ∷ ts) (cut_up-space (name_text name ++ 32 ∷ 40 ∷ bracketed inside rest) ∙ n.at ∙ ap (λ ts. token kind.Name name (suc n.left) ∷ ts)
      (open_at inside rest (conns_open (connection_texts nets cell.pins signals) nets cell.pins signals rest refl))))
      ∙ cell-at d named named id cell (map as_joined signals) cell.name name (suc m.left) n.left (suc (length (bracketed inside rest))) (suc (suc (suc (length rest)))) (suc (suc (length rest))) (cut_up (bracketed inside rest)) (cut_up rest) found there (says (suc n.left))
      (connections_read named nets cell signals (59 ∷ 10 ∷ rest) ps w ∙ ap (λ ts. Ok ((named, map as_joined signals), ts)) (close_line rest));
  goes_on = λ rest.
      let m = name_at cell.name 32 (name_text name ++ 32 ∷ 40 ∷ bracketed (list_text (connection_texts nets cell.pins signals)) rest) is_cell refl in
      ap (λ t. sees kind.Endmodule (cut_up t)) (form_parts (name_text cell.name) (Some name) (list_text (connection_texts nets cell.pins signals)) rest) ∙ ap (sees kind.Endmodule) m.at ∙ no_end_name cell.name (suc m.left) _;
  size = λ rest.
      let m = name_at cell.name 32 (name_text name ++ 32 ∷ 40 ∷ bracketed (list_text (connection_texts nets cell.pins signals)) rest) is_cell refl in
      let e = form_parts (name_text cell.name) (Some name) (list_text (connection_texts nets cell.pins signals)) rest in
      ap (λ t. left (cut_up t)) e ∙ ap left m.at ∙ left_of kind.Name cell.name (suc m.left) _ ∙ sym m.size ∙ ap length (sym e);
  some = omega (arith, length-append (name_text cell.name) (own_name_text (Some name) ++ (codes " (" ++ (list_text (connection_texts nets cell.pins signals) ++ codes ");\n"))));
}
