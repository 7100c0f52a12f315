-- A text of one module, read as one of several.
use Rattle.std.proofs.Common.{◌≡◌, ℕ, zero, suc, ◌+◌, ◌-◌, ◌<◌, Bool, true, false, not, ◌&&◌, ◌||◌, ◌==◌, cond, nat_lt, List, [], ◌∷◌, length, take, is_some, Option, Some, None, Ok, Err, refl, sym, ap, ap₂, ◌∙◌, subst, arith}
use Rattle.std.specs.Char.{is_ascii_digit}
use Rattle.std.specs.List.{prefix_len}
use Rattle.std.specs.Prelude.{codes}
use Rattle.dft_base.specs.Lexing.{Text, Cut, Blank, tokens_from, spread}
use Rattle.dft_base.specs.Parser as parser
use Rattle.dft_base.specs.Words.{begins_word}
use Rattle.dft_base.proofs.BitLemmas.{and_first}
use Rattle.dft_cells.specs.declared.cell.Cell.{Cell}
use Rattle.dft_cells.specs.declared.cell.CellId.{CellId}
use Rattle.dft_cells.specs.Cells.{find_cell}
use Rattle.dft_netlist_text.specs.declared.text.Cause.TheVariants as cause
use Rattle.dft_netlist_text.specs.declared.text.TokenKind.{TokenKind}
use Rattle.dft_netlist_text.specs.declared.text.TokenKind.TheVariants as kind
use Rattle.dft_netlist_text.specs.Lexemes.{Token, Lexeme, begins_with, is_in_digits, is_space, is_printed, plain, with_printed, word_kind, word_len, mark_kind, escaped, quote, directive, to_blank, is_base, is_base_kind, lexeme, token_of, front, blank_len, tokens}
use Rattle.dft_netlist_text.specs.Steps.{Outcome, Rule, kind_of, same_kind, bytes, left, next, sees, refusal, refuse, fault, expect}
use Rattle.dft_netlist_text.specs.Modules.{Draft}
use Rattle.dft_netlist_text.specs.Items.{item, item_of, cell_item, instances_named, items_from, items}
use Rattle.dft_netlist_text.specs.NetlistText.{heading, module_end, end_of_text, module_text, module_of}
use Rattle.dft_netlist_text.proofs.KindLemmas.{kinds_same}
use Rattle.dft_modules.specs.declared.fault.ModulesFault.TheVariants as several
use Rattle.dft_modules.specs.SubInstances.{Said, names_module, module_item, module_items_from, module_items, sub_item, one_module}
use Rattle.dft_modules.specs.ModuleTexts.{module_said, in_module, name_ahead, repeats, next_module, modules_from, modules_of}
use Rattle.dft_netlist_text.proofs.ParserLemmas.{Yields}
use Rattle.dft_verilog.proofs.KeptModuleLemmas.{Whole, names_one, one_keep}
use Rattle.dft_verilog.proofs.ModulesLemmas.{modules_end}

-- what a lone module says, as one of several
abbrev pub lone : Draft → Said
lone d = record { draft = d; subs = [] }

-- a fault is no value
pub no_value : {A B : Type 0} (x : B) (y : A) → Err x ≡ Ok y → ⊥
no_value x y e = cc

same_outcome : (d e : Draft) (ts us : List Token) → ◌≡◌ {A = Outcome Draft} (Ok (d, ts)) (Ok (e, us)) → (d ≡ e) × (ts ≡ us)
same_outcome d e ts us is =
    let same : ◌≡◌ {A = Draft × List Token} (d, ts) (e, us) = cc in
    (ap (λ (p : Draft × List Token). p.0) same, ap (λ (p : Draft × List Token). p.1) same)

-- ---- items

sees_name : (ts : List Token) → sees kind.Name ts ≡ true → kind_of ts ≡ kind.Name
unfolding sees
sees_name ts h = kinds_same (kind_of ts) kind.Name h

cell_by : (b : Bool) (d e : Draft) (ts us : List Token) → b ≡ true → find_cell d.library (bytes ts) ≡ None
    → parser.and_then (cond b (Ok (bytes ts, next ts)) (Err (refusal ts))) (λ word. instances_named (left ts) (find_cell d.library word) d) ≡ Ok (e, us) → ⊥
cell_by true d e ts us seen none is = no_value (fault cause.Token (left ts)) (e, us) (ap (λ (o : Option CellId). instances_named (left ts) o d (next ts)) (sym none) ∙ is)
cell_by false d e ts us seen none is = absurd (cc)

-- a name that no cell has begins no item of a lone module
refused_name : (d e : Draft) (ts us : List Token) → sees kind.Name ts ≡ true → find_cell d.library (bytes ts) ≡ None → item d ts ≡ Ok (e, us) → ⊥
unfolding item cell_item expect
refused_name d e ts us seen none is = cell_by (sees kind.Name ts) d e ts us seen none (ap (λ (k : TokenKind). item_of k d ts) (sym (sees_name ts seen)) ∙ is)

by_name : (d e : Draft) (ts us : List Token) (named : Bool) (cell : Option CellId) → sees kind.Name ts ≡ named → find_cell d.library (bytes ts) ≡ cell → item d ts ≡ Ok (e, us) → (named && not (is_some cell)) ≡ false
by_name d e ts us false cell seen found is = refl
by_name d e ts us true (Some id) seen found is = refl
by_name d e ts us true None seen found is = absurd (refused_name d e ts us seen found is)

-- an item of a lone module is no module instance
no_instance : (d e : Draft) (ts us : List Token) → item d ts ≡ Ok (e, us) → names_module d ts ≡ false
no_instance d e ts us is = by_name d e ts us (sees kind.Name ts) (find_cell d.library (bytes ts)) refl refl is

one_item : (d e : Draft) (ts us : List Token) → item d ts ≡ Ok (e, us) → module_item (lone d) ts ≡ Ok (lone e, us)
unfolding module_item
one_item d e ts us is =
    ap (λ (b : Bool). cond b (sub_item (lone d) ts) (parser.and_then (item d ts) (λ (x : Draft). parser.pure (lone x)))) (no_instance d e ts us is)
    ∙ ap (λ (o : Outcome Draft). parser.and_then o (λ (x : Draft). parser.pure (lone x))) is

-- the items of a lone module are those of one of several
abbrev AreItems : ℕ → (e : Draft) → (us : List Token) → Type 0
AreItems n e us = (d : Draft) (ts : List Token) → items_from n d ts ≡ Ok (e, us) → module_items_from n (lone d) ts ≡ Ok (lone e, us)

items_by : (n : ℕ) (d e : Draft) (ts us : List Token) (ended : Bool) (o : Outcome Draft) → AreItems n e us → item d ts ≡ o → cond ended (Ok (d, ts)) (parser.and_then o (items_from n)) ≡ Ok (e, us)
    → cond ended (Ok (lone d, ts)) (parser.and_then (module_item (lone d) ts) (module_items_from n)) ≡ Ok (lone e, us)
items_by n d e ts us true o more at is = let s = same_outcome d e ts us is in ap₂ (λ (x : Draft) xs. Ok (lone x, xs)) s.0 s.1
items_by n d e ts us false (Ok p) more at is = ap (λ (o : Outcome Said). parser.and_then o (module_items_from n)) (one_item d p.0 ts p.1 at) ∙ more p.0 p.1 is
items_by n d e ts us false (Err f) more at is = absurd (no_value f (e, us) is)

items_alone : (n : ℕ) (e : Draft) (us : List Token) → AreItems n e us
unfolding items_from module_items_from
items_alone zero e us d ts is = let s = same_outcome d e ts us is in ap₂ (λ (x : Draft) xs. Ok (lone x, xs)) s.0 s.1
items_alone (suc n) e us d ts is = items_by n d e ts us (sees kind.Endmodule ts) (item d ts) (items_alone n e us) refl is

-- ---- the module

-- this is read, and the text ends behind it
abbrev ReadsLone : (o : Outcome Said) → (d : Draft) → (us : List Token) → Type 0
ReadsLone o d us = (o ≡ Ok (lone d, us)) × (sees kind.End us ≡ true)

ended_by : (whole d : Draft) (ts us : List Token) (ended : Bool) → sees kind.End ts ≡ ended → cond ended (Ok (whole, ts)) (refuse ts) ≡ Ok (d, us) → ReadsLone (Ok (lone whole, ts)) d us
ended_by whole d ts us true at is = let s = same_outcome whole d ts us is in (ap₂ (λ (x : Draft) xs. Ok (lone x, xs)) s.0 s.1, ap (sees kind.End) (sym s.1) ∙ at)
ended_by whole d ts us false at is = absurd (no_value (refusal ts) (d, us) is)

ended : (whole d : Draft) (ts us : List Token) → end_of_text whole ts ≡ Ok (d, us) → ReadsLone (Ok (lone whole, ts)) d us
unfolding end_of_text
ended whole d ts us is = ended_by whole d ts us (sees kind.End ts) refl is

end_alone : (o : Outcome Draft) (d : Draft) (us : List Token) → parser.and_then o end_of_text ≡ Ok (d, us) → ReadsLone (parser.and_then o (λ (x : Draft). parser.pure (lone x))) d us
end_alone (Ok p) d us is = ended p.0 d p.1 us is
end_alone (Err f) d us is = absurd (no_value f (d, us) is)

-- what comes behind the items
abbrev pub behind_items : Draft → Rule Draft
behind_items more = λ ts. parser.and_then (module_end more ts) end_of_text

abbrev pub behind_module_items : Said → Rule Said
behind_module_items m = λ ts. parser.and_then (module_end m.draft ts) (λ (x : Draft). parser.pure (record m { draft = x }))

body_by : (o : Outcome Draft) (start d : Draft) (ts us : List Token) → items start ts ≡ o → parser.and_then o behind_items ≡ Ok (d, us) → ReadsLone (parser.and_then (module_items (lone start) ts) behind_module_items) d us
unfolding items module_items
body_by (Ok p) start d ts us at is =
    let read = end_alone (module_end p.0 p.1) d us is in
    (ap (λ (o : Outcome Said). parser.and_then o behind_module_items) (items_alone (left ts) p.0 p.1 start ts at) ∙ read.0, read.1)
body_by (Err f) start d ts us at is = absurd (no_value f (d, us) is)

module_by : (o : Outcome Draft) (d : Draft) (us : List Token) → parser.and_then o (λ (start : Draft) vs. parser.and_then (items start vs) behind_items) ≡ Ok (d, us)
    → ReadsLone (parser.and_then o (λ (start : Draft) vs. parser.and_then (module_items (lone start) vs) behind_module_items)) d us
module_by (Ok p) d us is = body_by (items p.0 p.1) p.0 d p.1 us refl is
module_by (Err f) d us is = absurd (no_value f (d, us) is)

module_alone : (library : List Cell) (d : Draft) (ts us : List Token) → module_text library ts ≡ Ok (d, us) → ReadsLone (one_module library ts) d us
unfolding module_text one_module
module_alone library d ts us is = module_by (heading library ts) d us is

-- ---- the first word of a text has bytes

-- where it is `module`, its place is its begin
abbrev AtFront : Lexeme → Type 0
AtFront l = same_kind l.kind kind.Module ≡ true → l.at ≡ 0

front_by : (b : Bool) (x y : Lexeme) → AtFront x → AtFront y → AtFront (cond b x y)
front_by true x y hx hy = hx
front_by false x y hx hy = hy

illegal_front : (l : Lexeme) → l.kind ≡ kind.Illegal → AtFront l
unfolding same_kind
illegal_front l is = λ e. absurd (let f : same_kind kind.Illegal kind.Module ≡ true = ap (λ (k : TokenKind). same_kind k kind.Module) (sym is) ∙ e in cc)

unclosed_front : (l : Lexeme) → l.kind ≡ kind.Unclosed → AtFront l
unfolding same_kind
unclosed_front l is = λ e. absurd (let f : same_kind kind.Unclosed kind.Module ≡ true = ap (λ (k : TokenKind). same_kind k kind.Module) (sym is) ∙ e in cc)

printed_front : (word : Text) (l : Lexeme) → AtFront l → AtFront (with_printed word l)
printed_front word l h =
    let bad : Lexeme = record l { kind = kind.Illegal; at = l.prefix + prefix_len is_printed word } in
    front_by (nat_lt (prefix_len is_printed word) (length word)) bad l (illegal_front bad refl) h

escaped_front : (behind : Text) → AtFront (escaped behind)
unfolding escaped
escaped_front behind =
    let len = prefix_len (λ b. not (is_space b)) behind in
    front_by (len == 0) (plain kind.Other 1) _ (λ e. refl) (printed_front (take len behind) (record { kind = kind.Name; len = 1 + len; prefix = 1; at = 0 }) (λ e. refl))

quote_front : (behind : Text) → AtFront (quote behind)
unfolding quote
quote_front [] = unclosed_front (record { kind = kind.Unclosed; len = 1; prefix = 0; at = 1 }) refl
quote_front (b ∷ text) = front_by (is_base b) _ _ (λ e. refl) (λ e. refl)

directive_front : (text : Text) → AtFront (directive text)
unfolding directive
directive_front text = printed_front (take (to_blank text) text) (plain kind.Directive (to_blank text)) (λ e. refl)

lexeme_by : (a b c d e f g : Bool) (t u v w x y z last : Lexeme) → AtFront t → AtFront u → AtFront v → AtFront w → AtFront x → AtFront y → AtFront z → AtFront last
    → AtFront (cond a t (cond b u (cond c v (cond d w (cond e x (cond f y (cond g z last)))))))
lexeme_by true b c d e f g t u v w x y z last h1 h2 h3 h4 h5 h6 h7 h8 = h1
lexeme_by false true c d e f g t u v w x y z last h1 h2 h3 h4 h5 h6 h7 h8 = h2
lexeme_by false false true d e f g t u v w x y z last h1 h2 h3 h4 h5 h6 h7 h8 = h3
lexeme_by false false false true e f g t u v w x y z last h1 h2 h3 h4 h5 h6 h7 h8 = h4
lexeme_by false false false false true f g t u v w x y z last h1 h2 h3 h4 h5 h6 h7 h8 = h5
lexeme_by false false false false false true g t u v w x y z last h1 h2 h3 h4 h5 h6 h7 h8 = h6
lexeme_by false false false false false false true t u v w x y z last h1 h2 h3 h4 h5 h6 h7 h8 = h7
lexeme_by false false false false false false false t u v w x y z last h1 h2 h3 h4 h5 h6 h7 h8 = h8

lexeme_front : (behind_base : Bool) (text : Text) → AtFront (lexeme behind_base text)
unfolding lexeme
lexeme_front behind_base [] = λ e. refl
lexeme_front behind_base (b ∷ text) =
    let all = b ∷ text in
    let unclosed : Lexeme = record { kind = kind.Unclosed; len = 1; prefix = 0; at = length all } in
    lexeme_by (behind_base && is_in_digits b) (begins_word b) (is_ascii_digit b) (b == 92) (b == 39) (b == 35 || b == 96) (begins_with (codes "/*") all || begins_with (codes "(*") all) (plain kind.Digits (prefix_len is_in_digits all))
    (plain (word_kind (take (word_len all) all)) (word_len all)) (plain kind.Number (prefix_len is_ascii_digit all)) (escaped text) (quote text) (directive all) unclosed (plain (mark_kind b) 1) (λ e. refl) (λ e. refl) (λ e. refl)
    (escaped_front text) (quote_front text) (directive_front all) (unclosed_front unclosed refl) (λ e. refl)

-- a module that is seen ahead has a byte at least
abbrev HasBytes : List Token → Type 0
HasBytes ts = sees kind.Module ts ≡ true → 0 < left ts

none_ahead : HasBytes []
unfolding sees kind_of same_kind
none_ahead = λ e. absurd (cc)

cut_ahead : (l : Lexeme) (b : ℕ) (text : Text) (rest : List Token) → AtFront l → HasBytes (token_of l (b ∷ text) ∷ rest)
unfolding sees kind_of left
cut_ahead l b text rest h = λ e. (let at : l.at ≡ 0 = h e in omega arith)

ahead_by : (none : Bool) (len b : ℕ) (l : Lexeme) (text : Text) (mode : Bool) (rest : Bool → ℕ → List Token) → AtFront l → ((m : Bool) (k : ℕ) → HasBytes (rest m k))
    → HasBytes (spread (cond none (Cut (token_of l (b ∷ text)) l.len (is_base_kind l.kind)) (Blank len)) mode rest)
ahead_by true len b l text mode rest h more = cut_ahead l b text (rest (is_base_kind l.kind) (l.len - 1)) h
ahead_by false len b l text mode rest h more = more mode (len - 1)

ahead : (mode : Bool) (n : ℕ) (text : Text) → HasBytes (tokens_from front mode n text)
ahead mode zero [] = none_ahead
ahead mode (suc n) [] = none_ahead
ahead mode (suc n) (b ∷ text) = ahead mode n text
ahead mode zero (b ∷ text) =
    ahead_by (blank_len (b ∷ text) == 0) (blank_len (b ∷ text)) b (lexeme mode (b ∷ text)) text mode (λ m k. tokens_from front m k text) (lexeme_front mode (b ∷ text)) (λ m k. ahead m k text)

-- ---- the text

not_repeated : (a : Bool) (cell : Option CellId) → cell ≡ None → (a && (is_some cell || false)) ≡ false
not_repeated true None none = refl
not_repeated false None none = refl
not_repeated a (Some id) none = absurd (cc)

new_module : (library : List Cell) (ts : List Token) → find_cell library (name_ahead ts) ≡ None → repeats library [] ts ≡ false
new_module library ts none = not_repeated (names_one ts) (find_cell library (name_ahead ts)) none

first_module : (library : List Cell) (d : Draft) (ts us : List Token) → one_module library ts ≡ Ok (lone d, us) → find_cell library (name_ahead ts) ≡ None → next_module library [] ts ≡ Ok (lone d, us)
unfolding next_module
first_module library d ts us read none =
    ap (λ (b : Bool). cond b (Err (several.Repeated (name_ahead ts))) (in_module (one_module library ts))) (new_module library ts none)
    ∙ ap (λ (o : Outcome Said). in_module o) read

modules_by : (n : ℕ) (library : List Cell) (text : Text) (d : Draft) (ts us : List Token) → 0 < n → next_module library [] ts ≡ Ok (lone d, us) → sees kind.End us ≡ true
    → modules_from n text library [] [] ts ≡ Ok (module_said text (lone d) ∷ [], us)
modules_by zero library text d ts us some read end = absurd (omega arith)
modules_by (suc n) library text d ts us some read end = modules_end n text library [] [] (module_said text (lone d) ∷ []) (lone d) (module_said text (lone d)) ts us read refl refl end

-- what the draft keeps of the one that it began as
kept_of : (library : List Cell) (d : Draft) (ts us : List Token) → one_module library ts ≡ Ok (lone d, us) → Whole library (name_ahead ts) (names_one ts) (lone d)
kept_of library d ts us read = subst (Yields (Whole library (name_ahead ts) (names_one ts))) read (one_keep library ts)

-- a text of one module says that module, over the same cells
pub record SaysLone (library : List Cell) (text : Text) (d : Draft) : Type 0 where
  pub modules : modules_of library text ≡ Ok (module_said text (lone d) ∷ [])
  pub library_is : d.library ≡ library

lone_by : (library : List Cell) (text : Text) (d : Draft) (o : Outcome Draft) → module_text library (tokens text) ≡ o → parser.value_of o ≡ Ok d → find_cell library d.name ≡ None → SaysLone library text d
unfolding modules_of
lone_by library text d (Ok p) at is none =
    let same : p.0 ≡ d = cc in
    let ts = tokens text in
    let read = module_alone library d ts p.1 (at ∙ ap (λ (x : Draft). Ok (x, p.1)) same) in
    let kept = kept_of library d ts p.1 read.0 in
    let new : find_cell library (name_ahead ts) ≡ None = ap (find_cell library) (sym kept.0.draft.name) ∙ none in
    let some : 0 < left ts = ahead false 0 text (and_first (sees kind.Module ts) (sees kind.Name (next ts)) kept.1) in
    record {
      modules = ap parser.value_of (modules_by (left ts) library text d ts p.1 some (first_module library d ts p.1 read.0 new) read.1);
      library_is = kept.0.draft.library;
    }
lone_by library text d (Err f) at is none = absurd (no_value f d is)

pub says_lone : (library : List Cell) (text : Text) (d : Draft) → module_of library text ≡ Ok d → find_cell library d.name ≡ None → SaysLone library text d
unfolding module_of
says_lone library text d is none = lone_by library text d (module_text library (tokens text)) refl is none
