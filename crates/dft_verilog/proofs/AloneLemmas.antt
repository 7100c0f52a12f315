-- What one of several modules says without a module instance, it says as a lone module.
use Rattle.std.proofs.Common.{◌≡◌, ℕ, zero, suc, ◌≤◌, Bool, true, false, ◌&&◌, ◌||◌, cond, List, [], ◌∷◌, ◌++◌, length, is_some, Option, Some, None, Ok, Err, refl, sym, ap, ap₂, ◌∙◌, subst, arith, length-append}
use Rattle.dft_base.specs.Lexing.{Text}
use Rattle.dft_base.specs.Parser as parser
use Rattle.dft_cells.specs.declared.cell.Cell.{Cell}
use Rattle.dft_cells.specs.declared.cell.CellId.{CellId}
use Rattle.dft_cells.specs.Cells.{find_cell}
use Rattle.dft_netlist_text.specs.declared.text.TokenKind.TheVariants as kind
use Rattle.dft_netlist_text.specs.Lexemes.{Token, tokens}
use Rattle.dft_netlist_text.specs.Steps.{Outcome, left, sees, refuse, expect, eat, checked}
use Rattle.dft_netlist_text.specs.Modules.{Draft}
use Rattle.dft_netlist_text.specs.Items.{item, items_from, items}
use Rattle.dft_netlist_text.specs.NetlistText.{heading, module_end, end_of_text, module_text, module_of}
use Rattle.dft_netlist_text.proofs.ParserLemmas.{Yields, behind, passed, either, turns}
use Rattle.dft_modules.specs.declared.fault.ModulesFault.{ModulesFault}
use Rattle.dft_modules.specs.declared.fault.ModulesFault.TheVariants as several
use Rattle.dft_modules.specs.SubInstances.{DraftSub, Said, PortsConnected, name_sub, port_connections, with_sub, sub_instance, sub_instances_from, sub_instances, sub_item, names_module, module_item, module_items_from, module_items, one_module}
use Rattle.dft_modules.specs.Modules.{Module}
use Rattle.dft_modules.specs.ModuleTexts.{module_said, in_module, name_ahead, repeats, next_module, modules_from}
use Rattle.dft_verilog_module.specs.SaidModules.{said}
use Rattle.dft_verilog.specs.TextsSaid.{IsAlone, IsReadAlone}
use Rattle.dft_verilog.proofs.ModulesLemmas.{modules_end}
use Rattle.dft_verilog.proofs.KeptModuleLemmas.{Whole, names_one, one_keep}
use Rattle.dft_verilog.proofs.LoneModuleLemmas.{behind_items, behind_module_items, no_value}

-- ---- module instances are never fewer

-- there are so many module instances at least
abbrev Has : ℕ → Said → Type 0
Has n m = n ≤ length m.subs

fewer : (a b : ℕ) → a ≤ b → (o : Outcome Said) → Yields (Has b) o → Yields (Has a) o
fewer a b le (Ok p) h = omega (arith, le, h)
fewer a b le (Err f) h = tt

one_more : (of word : Text) (m : Said) (c : PortsConnected) → Has (suc (length m.subs)) (with_sub word of m.subs c)
one_more of word m c =
    let one : DraftSub = record { name = word; of = of; joins = length c.0.joins; cells = length c.0.instances; connections = c.1 } in
    let long = length-append m.subs (one ∷ []) in
    omega (arith, long)

instance_more : (of : Text) (m : Said) (ts : List Token) → Yields (Has (suc (length m.subs))) (sub_instance of m ts)
unfolding sub_instance
instance_more of m ts =
    let P = Has (suc (length m.subs)) in
    passed P (expect kind.Name ts) _ (λ word us.
    passed P (checked (name_sub (left ts) word m.draft) us) _ (λ named vs.
    passed P (expect kind.OpenParen vs) _ (λ w ws.
    passed P (port_connections (named, []) ws) _ (λ c xs.
    passed P (expect kind.CloseParen xs) _ (λ x ys. one_more of word m c)))))

instances_more : (n : ℕ) (of : Text) (m : Said) (ts : List Token) → Yields (Has (suc (length m.subs))) (sub_instances_from n of m ts)
unfolding sub_instances_from
instances_more zero of m ts = tt
instances_more (suc n) of m ts =
    let P = Has (suc (length m.subs)) in
    behind P P (sub_instance of m ts) _ (instance_more of m ts) (λ more h us.
    passed P (eat kind.Comma us) _ (λ comma vs.
    let le : suc (length m.subs) ≤ suc (length more.subs) = omega (arith, h) in
    turns P comma more (sub_instances_from n of more) h (λ ws. fewer (suc (length m.subs)) (suc (length more.subs)) le (sub_instances_from n of more ws) (instances_more n of more ws)) vs))

sub_more : (m : Said) (ts : List Token) → Yields (Has (suc (length m.subs))) (sub_item m ts)
unfolding sub_item sub_instances
sub_more m ts =
    let P = Has (suc (length m.subs)) in
    passed P (expect kind.Name ts) _ (λ of us.
    behind P P (sub_instances_from (left us) of m us) _ (instances_more (left us) of m us) (λ more h vs.
    passed P (expect kind.Semicolon vs) _ (λ w ws. h)))

item_more : (m : Said) (ts : List Token) → Yields (Has (length m.subs)) (module_item m ts)
unfolding module_item
item_more m ts =
    let P = Has (length m.subs) in
    let here : length m.subs ≤ length m.subs = omega arith in
    let le : length m.subs ≤ suc (length m.subs) = omega arith in
    either P (names_module m.draft ts) _ _ (fewer (length m.subs) (suc (length m.subs)) le (sub_item m ts) (sub_more m ts)) (passed P (item m.draft ts) _ (λ d us. here))

items_more : (n : ℕ) (m : Said) (ts : List Token) → Yields (Has (length m.subs)) (module_items_from n m ts)
unfolding module_items_from
items_more zero m ts = let here : length m.subs ≤ length m.subs = omega arith in here
items_more (suc n) m ts =
    let P = Has (length m.subs) in
    let here : length m.subs ≤ length m.subs = omega arith in
    either P (sees kind.Endmodule ts) _ _ here (behind P P (module_item m ts) _ (item_more m ts) (λ more h us.
    fewer (length m.subs) (length more.subs) h (module_items_from n more us) (items_more n more us)))

yielded : (P : Said → Type 0) (o : Outcome Said) (m : Said) (us : List Token) → Yields P o → o ≡ Ok (m, us) → P m
yielded P o m us h is = subst (Yields P) is h

-- ---- items

same_said : (m whole : Said) (ts us : List Token) → ◌≡◌ {A = Outcome Said} (Ok (m, ts)) (Ok (whole, us)) → (m ≡ whole) × (ts ≡ us)
same_said m whole ts us is =
    let same : ◌≡◌ {A = Said × List Token} (m, ts) (whole, us) = cc in
    (ap (λ (p : Said × List Token). p.0) same, ap (λ (p : Said × List Token). p.1) same)

-- what was said alone, where a lone module says it
drafts_same : (m whole : Said) (ts us : List Token) → ◌≡◌ {A = Outcome Said} (Ok (m, ts)) (Ok (whole, us)) → ◌≡◌ {A = Outcome Draft} (Ok (m.draft, ts)) (Ok (whole.draft, us))
drafts_same m whole ts us is = let s = same_said m whole ts us is in ap₂ (λ (x : Said) xs. Ok (x.draft, xs)) s.0 s.1

-- the items of one of several, behind which there is no module instance, are those of a lone module
abbrev AreAlone : ℕ → Type 0
AreAlone n = (m whole : Said) (ts us : List Token) → module_items_from n m ts ≡ Ok (whole, us) → whole.subs ≡ [] → items_from n m.draft ts ≡ Ok (whole.draft, us)

-- what comes of an item, by what comes next
abbrev item_by : (names : Bool) → Said → (sub : Outcome Said) → Outcome Draft → Outcome Said
item_by names m sub o = cond names sub (parser.and_then o (λ (d : Draft). parser.pure (record m { draft = d })))

none_behind : (n : ℕ) (p : Said × List Token) (whole : Said) (us : List Token) → 1 ≤ length p.0.subs → module_items_from n p.0 p.1 ≡ Ok (whole, us) → whole.subs ≡ [] → ⊥
none_behind n p whole us some is none =
    let more : length p.0.subs ≤ length whole.subs = yielded (Has (length p.0.subs)) (module_items_from n p.0 p.1) whole us (items_more n p.0 p.1) is in
    let no : length whole.subs ≡ 0 = ap (λ (ss : List DraftSub). length ss) none in
    omega (arith, some, more, no)

alone_by : (n : ℕ) (m whole : Said) (ts us : List Token) (ended names : Bool) (sub : Outcome Said) (o : Outcome Draft) → AreAlone n → Yields (Has 1) sub
    → cond ended (Ok (m, ts)) (parser.and_then (item_by names m sub o) (module_items_from n)) ≡ Ok (whole, us) → whole.subs ≡ [] → cond ended (Ok (m.draft, ts)) (parser.and_then o (items_from n)) ≡ Ok (whole.draft, us)
alone_by n m whole ts us true names sub o more some is none = drafts_same m whole ts us is
alone_by n m whole ts us false true (Ok p) o more some is none = absurd (none_behind n p whole us some is none)
alone_by n m whole ts us false true (Err f) o more some is none = absurd (no_value f (whole, us) is)
alone_by n m whole ts us false false sub (Ok p) more some is none = more (record m { draft = p.0 }) whole p.1 us is none
alone_by n m whole ts us false false sub (Err f) more some is none = absurd (no_value f (whole, us) is)

some_made : (m : Said) (ts : List Token) → Yields (Has 1) (sub_item m ts)
some_made m ts = let le : 1 ≤ suc (length m.subs) = omega arith in fewer 1 (suc (length m.subs)) le (sub_item m ts) (sub_more m ts)

items_alone : (n : ℕ) → AreAlone n
unfolding items_from module_items_from module_item
items_alone zero m whole ts us is none = drafts_same m whole ts us is
items_alone (suc n) m whole ts us is none = alone_by n m whole ts us (sees kind.Endmodule ts) (names_module m.draft ts) (sub_item m ts) (item m.draft ts) (items_alone n) (some_made m ts) is none

-- ---- the module

-- a lone module says this, and what was said before its end has no more instances
abbrev EndsAlone : Said → Outcome Draft → (whole : Said) → (us : List Token) → Type 0
EndsAlone m o whole us = (parser.and_then o end_of_text ≡ Ok (whole.draft, us)) × (m.subs ≡ whole.subs)

ended_by : (o : Outcome Draft) (m whole : Said) (us : List Token) → parser.and_then o (λ (x : Draft). parser.pure (record m { draft = x })) ≡ Ok (whole, us) → sees kind.End us ≡ true → EndsAlone m o whole us
unfolding end_of_text
ended_by (Ok p) m whole us is end =
    let s = same_said (record m { draft = p.0 }) whole p.1 us is in
    let here : sees kind.End p.1 ≡ true = ap (sees kind.End) s.1 ∙ end in
    (ap (λ (b : Bool). cond b (Ok (p.0, p.1)) (refuse p.1)) here ∙ ap₂ (λ (x : Said) xs. Ok (x.draft, xs)) s.0 s.1, ap (λ (x : Said). x.subs) s.0)
ended_by (Err f) m whole us is end = absurd (no_value f (whole, us) is)

body_by : (o : Outcome Said) (start : Draft) (whole : Said) (ts us : List Token) → module_items (record { draft = start; subs = [] }) ts ≡ o → parser.and_then o behind_module_items ≡ Ok (whole, us) → whole.subs ≡ [] → sees kind.End us ≡ true
    → parser.and_then (items start ts) behind_items ≡ Ok (whole.draft, us)
unfolding items module_items
body_by (Ok p) start whole ts us at is none end =
    let e = ended_by (module_end p.0.draft p.1) p.0 whole us is end in
    ap (λ (o : Outcome Draft). parser.and_then o behind_items) (items_alone (left ts) (record { draft = start; subs = [] }) p.0 ts p.1 at (e.1 ∙ none)) ∙ e.0
body_by (Err f) start whole ts us at is none end = absurd (no_value f (whole, us) is)

module_by : (o : Outcome Draft) (whole : Said) (us : List Token) → parser.and_then o (λ (start : Draft) vs. parser.and_then (module_items (record { draft = start; subs = [] }) vs) behind_module_items) ≡ Ok (whole, us) → whole.subs ≡ [] → sees kind.End us ≡ true
    → parser.and_then o (λ (start : Draft) vs. parser.and_then (items start vs) behind_items) ≡ Ok (whole.draft, us)
module_by (Ok p) whole us is none end = body_by (module_items (record { draft = p.0; subs = [] }) p.1) p.0 whole p.1 us refl is none end
module_by (Err f) whole us is none end = absurd (no_value f (whole, us) is)

module_alone : (library : List Cell) (whole : Said) (ts us : List Token) → one_module library ts ≡ Ok (whole, us) → whole.subs ≡ [] → sees kind.End us ≡ true → module_text library ts ≡ Ok (whole.draft, us)
unfolding module_text one_module
module_alone library whole ts us is none end = module_by (heading library ts) whole us is none end

-- ---- the text

-- a module was read, and its name is not repeated
next_by : (repeated : Bool) (why : ModulesFault) (o : Outcome Said) (m : Said) (us : List Token) → cond repeated (Err why) (in_module o) ≡ Ok (m, us) → (repeated ≡ false) × (o ≡ Ok (m, us))
next_by true why o m us is = absurd (no_value why (m, us) is)
next_by false why (Ok p) m us is = let same : ◌≡◌ {A = Said × List Token} p (m, us) = cc in (refl, ap (λ (x : Said × List Token). Ok x) same)
next_by false why (Err f) m us is = absurd (no_value (several.Module f) (m, us) is)

new_by : (named : Bool) (cell : Option CellId) → named ≡ true → (named && (is_some cell || false)) ≡ false → cell ≡ None
new_by true None h is = refl
new_by true (Some id) h is = absurd (cc)
new_by false cell h is = absurd (cc)

pub alone_said : (library : List Cell) (text : Text) (m : Said) (us : List Token) → next_module library [] (tokens text) ≡ Ok (m, us) → m.subs ≡ [] → sees kind.End us ≡ true → IsAlone library text m.draft
unfolding next_module module_of
alone_said library text m us is none end =
    let ts = tokens text in
    let read = next_by (repeats library [] ts) (several.Repeated (name_ahead ts)) (one_module library ts) m us is in
    let kept : Whole library (name_ahead ts) (names_one ts) m = subst (Yields (Whole library (name_ahead ts) (names_one ts))) read.1 (one_keep library ts) in
    let new : find_cell library (name_ahead ts) ≡ None = new_by (names_one ts) (find_cell library (name_ahead ts)) kept.1 read.0 in
    record {
      said = ap parser.value_of (module_alone library m ts us read.1 none end);
      named = ap (find_cell library) kept.0.draft.name ∙ new;
      library_is = kept.0.draft.library;
    }

-- ---- the first module of a text

-- a list of no length is empty
pub none_of : {A : Type 0} (xs : List A) → length xs ≡ 0 → xs ≡ []
none_of [] h = refl
none_of (x ∷ xs) h = absurd (omega (arith, h))

-- behind others there is one module at least
pub pushed_some : (before : List Module) (made : Module) → before ++ made ∷ [] ≡ [] → ⊥
pushed_some [] made is = absurd (cc)
pushed_some (m ∷ ms) made is = absurd (cc)

-- a module that is the first and the last is the only one
pub alone_end : (n : ℕ) (text : Text) (library : List Cell) (names : List Text) (before : List Module) (d : Draft) (subs : List DraftSub) (ts us : List Token) → before ≡ [] → subs ≡ [] → next_module library names ts ≡ Ok (said d subs, us)
    → sees kind.End us ≡ true → modules_from (suc n) text library names before ts ≡ Ok (module_said text (said d []) ∷ [], us)
alone_end n text library names [] d [] ts us first none read end = modules_end n text library names [] (module_said text (said d []) ∷ []) (said d []) (module_said text (said d [])) ts us read refl refl end
alone_end n text library names [] d (s ∷ subs) ts us first none read end = absurd (cc)
alone_end n text library names (m ∷ ms) d subs ts us first none read end = absurd (cc)

pub first_read : (library : List Cell) (names : List Text) (d : Draft) (subs : List DraftSub) (start ts us : List Token) → (names ≡ []) × (ts ≡ start) → subs ≡ [] → next_module library names ts ≡ Ok (said d subs, us) → sees kind.End us ≡ true
    → IsReadAlone library start d
first_read library names d subs start ts us first none read end = record {
  behind = us;
  read = ap₂ (λ ns xs. next_module library ns xs) (sym first.0) (sym first.1) ∙ read ∙ ap (λ (ss : List DraftSub). Ok (said d ss, us)) none;
  ended = end;
}

-- it is what the text says as a lone module
pub alone_of : (library : List Cell) (text : Text) (d : Draft) → IsReadAlone library (tokens text) d → IsAlone library text d
alone_of library text d r = alone_said library text (said d []) r.behind r.read refl r.ended
