-- What the rules of module instances keep, and the modules of a text.
use Rattle.std.proofs.Common.{◌≡◌, ℕ, zero, suc, ◌≤◌, Bool, true, false, not, ◌&&◌, cond, List, [], ◌∷◌, ◌++◌, length, map, is_some, Option, Some, None, Ok, Err, refl, sym, ap, ◌∙◌, subst, arith}
use Rattle.std.specs.List.{All, list_any}
use Rattle.std.specs.Str.{bytes_eq}
use Rattle.std.proofs.lemmas.List.{append_assoc, map-append}
use Rattle.std.proofs.lemmas.List.Elements.{All-weaker, All-append, All-cons, All-nil}
use Rattle.std.proofs.lemmas.Bool.{or_parts}
use Rattle.dft_base.specs.Lexing.{Text}
use Rattle.dft_base.specs.Parser as parser
use Rattle.dft_base.specs.Parser.{pure, ◌>>=◌, ◌>>◌}
use Rattle.dft_cells.specs.declared.cell.Cell.{Cell}
use Rattle.dft_cells.specs.declared.cell.CellId.{CellId}
use Rattle.dft_cells.specs.Cells.{find_cell}
use Rattle.dft_netlist_text.specs.declared.text.TokenKind.TheVariants as kind
use Rattle.dft_netlist_text.specs.declared.text.Site.TheVariants as site
use Rattle.dft_netlist_text.specs.Lexemes.{Token, tokens}
use Rattle.dft_netlist_text.specs.Steps.{Outcome, Rule, bytes, left, next, sees, refusal, eat, expect, checked}
use Rattle.dft_netlist_text.specs.Modules.{Draft, empty_draft}
use Rattle.dft_netlist_text.specs.Items.{item}
use Rattle.dft_netlist_text.specs.NetlistText.{header, heading, module_end}
use Rattle.dft_netlist_text.proofs.ParserLemmas.{Yields, behind, passed, either, of_check, turns}
use Rattle.dft_modules.specs.declared.fault.ModulesFault.{ModulesFault}
use Rattle.dft_modules.specs.declared.fault.ModulesFault.TheVariants as fault
use Rattle.dft_modules.specs.Modules.{Module}
use Rattle.dft_modules.specs.Sound.{IsModule, AreModules}
use Rattle.dft_modules.specs.Laws.{AreNew, SaidAreModules}
use Rattle.dft_modules.specs.SubInstances.{SubConnection, DraftSub, Said, PortsConnected, named_port, port_content, port_connection, port_connections_from, port_connections, name_sub, sub_instance, sub_instances_from, sub_instances, sub_item, module_item, module_items_from, module_items, one_module}
use Rattle.dft_modules.specs.ModuleTexts.{module_said, in_module, name_ahead, is_repeated, next_module, modules_from, modules_of}
use Rattle.dft_verilog_draft.proofs.OperandLemmas.{bits_more, no_bits}
use Rattle.dft_verilog.proofs.KeepLemmas.{Keeps, keeps_empty, raise, lower, sub_keep}
use Rattle.dft_verilog.proofs.KeptGrammarLemmas.{header_keep, Bits, expression_keep, item_keep, module_end_keep}
use Rattle.dft_verilog.proofs.SaidModuleLemmas.{IsSaidModule, one_said}
use Rattle.dft_verilog.proofs.SoundModuleLemmas.{ConnectionStands, SubStands, KeepsAll, module_sound}

-- ---- connections

-- the draft keeps all, and the connections are of bits of its nets
abbrev Ports : Draft → (floor : ℕ) → PortsConnected → Type 0
Ports start floor c = Keeps start floor c.0 × All (ConnectionStands (length c.0.nets)) c.1

connections_more : (a b : ℕ) → a ≤ b → (cs : List SubConnection) → All (ConnectionStands a) cs → All (ConnectionStands b) cs
connections_more a b le cs h = All-weaker (ConnectionStands a) (ConnectionStands b) (λ c w. bits_more a b false c.signals le w) cs h

subs_more : (a b : ℕ) → a ≤ b → (ss : List DraftSub) → All (SubStands a) ss → All (SubStands b) ss
subs_more a b le ss h = All-weaker (SubStands a) (SubStands b) (λ s w. connections_more a b le s.connections w) ss h

content_keep : (start : Draft) (floor : ℕ) (d : Draft) → Keeps start floor d → (ts : List Token) → Yields (Bits start floor false) (port_content d ts)
unfolding port_content
content_keep start floor d h ts = either (Bits start floor false) (sees kind.CloseParen ts) _ _ (h, no_bits (length d.nets) false) (expression_keep start floor (site.Pin false) d h ts)

connection_keep : (start : Draft) (floor : ℕ) (c : PortsConnected) → Ports start floor c → (ts : List Token) → Yields (Ports start floor) (port_connection c ts)
unfolding port_connection
connection_keep start floor c h ts =
    passed (Ports start floor) (expect kind.Point ts) _ (λ w us.
    passed (Ports start floor) (named_port c.1 us) _ (λ named vs.
    passed (Ports start floor) (expect kind.OpenParen vs) _ (λ x ws.
    behind (Bits start (length c.0.nets) false) (Ports start floor) (port_content c.0 ws) _ (content_keep start (length c.0.nets) c.0 (raise start floor c.0 h.0) ws) (λ to m xs.
    passed (Ports start floor) (expect kind.CloseParen xs) _ (λ y ys.
    let one : SubConnection = record { left = named.left; port = named.port; signals = to.1 } in
    let P = ConnectionStands (length to.0.nets) in
    (lower start floor (length c.0.nets) to.0 h.0.many m.0, All-append P c.1 (one ∷ []) (connections_more (length c.0.nets) (length to.0.nets) m.0.many c.1 h.1) (All-cons P one [] m.1 (All-nil P))))))))

connections_of : (n : ℕ) (start : Draft) (floor : ℕ) (c : PortsConnected) → Ports start floor c → (ts : List Token) → Yields (Ports start floor) (port_connections_from n c ts)
unfolding port_connections_from
connections_of zero start floor c h ts = tt
connections_of (suc n) start floor c h ts =
    behind (Ports start floor) (Ports start floor) (port_connection c ts) _ (connection_keep start floor c h ts) (λ more m us.
    passed (Ports start floor) (eat kind.Comma us) _ (λ comma vs. turns (Ports start floor) comma more (port_connections_from n more) m (λ ws. connections_of n start floor more m ws) vs))

connections_keep : (start : Draft) (floor : ℕ) (c : PortsConnected) → Ports start floor c → (ts : List Token) → Yields (Ports start floor) (port_connections c ts)
unfolding port_connections
connections_keep start floor c h ts = either (Ports start floor) (sees kind.CloseParen ts) _ _ h (connections_of (left ts) start floor c h ts)

-- ---- module instances

instance_keep : (start : Draft) (floor : ℕ) (of : Text) (m : Said) → KeepsAll start floor m → (ts : List Token) → Yields (KeepsAll start floor) (sub_instance of m ts)
unfolding sub_instance
instance_keep start floor of m h ts =
    let here = length m.draft.nets in
    passed (KeepsAll start floor) (expect kind.Name ts) _ (λ word us.
    behind (Keeps start here) (KeepsAll start floor) (checked (name_sub (left ts) word m.draft) us) _ (of_check (Keeps start here) (name_sub (left ts) word m.draft) us (sub_keep start here (left ts) word m.draft (raise start floor m.draft h.draft))) (λ named k vs.
    passed (KeepsAll start floor) (expect kind.OpenParen vs) _ (λ w ws.
    behind (Ports start here) (KeepsAll start floor) (port_connections (named, []) ws) _ (connections_keep start here (named, []) (k, All-nil (ConnectionStands (length named.nets))) ws) (λ c n xs.
    passed (KeepsAll start floor) (expect kind.CloseParen xs) _ (λ x ys.
    let one : DraftSub = record { name = word; of = of; joins = length c.0.joins; cells = length c.0.instances; connections = c.1 } in
    let P = SubStands (length c.0.nets) in
    record {
      draft = lower start floor here c.0 h.draft.many n.0;
      subs = All-append P m.subs (one ∷ []) (subs_more here (length c.0.nets) n.0.many m.subs h.subs) (All-cons P one [] n.1 (All-nil P));
    })))))

instances_of : (n : ℕ) (start : Draft) (floor : ℕ) (of : Text) (m : Said) → KeepsAll start floor m → (ts : List Token) → Yields (KeepsAll start floor) (sub_instances_from n of m ts)
unfolding sub_instances_from
instances_of zero start floor of m h ts = tt
instances_of (suc n) start floor of m h ts =
    behind (KeepsAll start floor) (KeepsAll start floor) (sub_instance of m ts) _ (instance_keep start floor of m h ts) (λ more k us.
    passed (KeepsAll start floor) (eat kind.Comma us) _ (λ comma vs. turns (KeepsAll start floor) comma more (sub_instances_from n of more) k (λ ws. instances_of n start floor of more k ws) vs))

instances_keep : (start : Draft) (floor : ℕ) (of : Text) (m : Said) → KeepsAll start floor m → (ts : List Token) → Yields (KeepsAll start floor) (sub_instances of m ts)
unfolding sub_instances
instances_keep start floor of m h ts =
    behind (KeepsAll start floor) (KeepsAll start floor) (sub_instances_from (left ts) of m ts) _ (instances_of (left ts) start floor of m h ts) (λ more k us. passed (KeepsAll start floor) (expect kind.Semicolon us) _ (λ w vs. k))

sub_item_keep : (start : Draft) (floor : ℕ) (m : Said) → KeepsAll start floor m → (ts : List Token) → Yields (KeepsAll start floor) (sub_item m ts)
unfolding sub_item
sub_item_keep start floor m h ts = passed (KeepsAll start floor) (expect kind.Name ts) _ (λ of us. instances_keep start floor of m h us)

-- ---- items

module_item_keep : (start : Draft) (floor : ℕ) (m : Said) → KeepsAll start floor m → (ts : List Token) → Yields (KeepsAll start floor) (module_item m ts)
unfolding module_item
module_item_keep start floor m h ts =
    let here = length m.draft.nets in
    either (KeepsAll start floor) (sees kind.Name ts && not (is_some (find_cell m.draft.library (bytes ts)))) _ _ (sub_item_keep start floor m h ts)
    (behind (Keeps start here) (KeepsAll start floor) (item m.draft ts) _ (item_keep start here m.draft (raise start floor m.draft h.draft) ts) (λ d k us.
    record { draft = lower start floor here d h.draft.many k; subs = subs_more here (length d.nets) k.many m.subs h.subs }))

items_of : (n : ℕ) (start : Draft) (floor : ℕ) (m : Said) → KeepsAll start floor m → (ts : List Token) → Yields (KeepsAll start floor) (module_items_from n m ts)
unfolding module_items_from
items_of zero start floor m h ts = h
items_of (suc n) start floor m h ts =
    either (KeepsAll start floor) (sees kind.Endmodule ts) _ _ h (behind (KeepsAll start floor) (KeepsAll start floor) (module_item m ts) _ (module_item_keep start floor m h ts) (λ more k us. items_of n start floor more k us))

items_keep : (start : Draft) (floor : ℕ) (m : Said) → KeepsAll start floor m → (ts : List Token) → Yields (KeepsAll start floor) (module_items m ts)
unfolding module_items
items_keep start floor m h ts = items_of (left ts) start floor m h ts

-- ---- a module

-- what comes behind the name of a module
abbrev behind_word : List Cell → Text → Rule Draft
behind_word library word = header (empty_draft word library) >>= (λ d. expect kind.Semicolon >> pure d)

-- the draft keeps all of one with this name, and this test was passed
abbrev Begun : List Cell → Text → Bool → Draft → Type 0
Begun library word passed d = Keeps (empty_draft word library) 0 d × (passed ≡ true)

word_by : (b : Bool) (library : List Cell) (ts : List Token) → Yields (Begun library (bytes ts) b) (parser.and_then (cond b (Ok (bytes ts, next ts)) (Err (refusal ts))) (behind_word library))
word_by true library ts =
    let start = empty_draft (bytes ts) library in
    behind (Keeps start 0) (Begun library (bytes ts) true) (header start (next ts)) _ (header_keep start start (keeps_empty (bytes ts) start refl) (next ts)) (λ d h us.
    passed (Begun library (bytes ts) true) (expect kind.Semicolon us) _ (λ w vs. (h, refl)))
word_by false library ts = tt

heading_by : (a : Bool) (library : List Cell) (ts : List Token) → Yields (Begun library (name_ahead ts) (a && sees kind.Name (next ts)))
    (parser.and_then (cond a (Ok (bytes ts, next ts)) (Err (refusal ts))) (λ w us. parser.and_then (expect kind.Name us) (behind_word library)))
unfolding expect
heading_by true library ts = word_by (sees kind.Name (next ts)) library (next ts)
heading_by false library ts = tt

-- whether a module and a name come next
abbrev pub names_one : List Token → Bool
names_one ts = sees kind.Module ts && sees kind.Name (next ts)

heading_keep : (library : List Cell) (ts : List Token) → Yields (Begun library (name_ahead ts) (names_one ts)) (heading library ts)
unfolding heading expect
heading_keep library ts = heading_by (sees kind.Module ts) library ts

-- what was said keeps all of a module with this name, and this test was passed
abbrev pub Whole : List Cell → Text → Bool → Said → Type 0
Whole library word passed m = KeepsAll (empty_draft word library) 0 m × (passed ≡ true)

pub one_keep : (library : List Cell) (ts : List Token) → Yields (Whole library (name_ahead ts) (names_one ts)) (one_module library ts)
unfolding one_module
one_keep library ts =
    let start = empty_draft (name_ahead ts) library in
    let Q = Whole library (name_ahead ts) (names_one ts) in
    behind (Begun library (name_ahead ts) (names_one ts)) Q (heading library ts) _ (heading_keep library ts) (λ d h us.
    behind (KeepsAll start 0) Q (module_items (record { draft = d; subs = [] }) us) _ (items_keep start 0 (record { draft = d; subs = [] }) (record { draft = h.0; subs = All-nil (SubStands (length d.nets)) }) us) (λ m k vs.
    behind (Keeps start (length m.draft.nets)) Q (module_end m.draft vs) _ (module_end_keep start (length m.draft.nets) m.draft (raise start 0 m.draft k.draft) vs) (λ whole n ws.
    (record { draft = lower start 0 (length m.draft.nets) whole (omega arith) n; subs = subs_more (length m.draft.nets) (length whole.nets) n.many m.subs k.subs }, h.1))))

-- ---- the next module

-- a value with this property, or a fault
abbrev GoesOn : {A : Type 0} → (A → Type 0) → parser.Outcome Token ModulesFault A → Type 0
GoesOn P (Ok p) = P p.0
GoesOn P (Err f) = Unit {0}

-- a module that is sound, and whose name is not repeated
abbrev IsNext : List Cell → (names : List Text) → Text → (text : Text) → Said → Type 0
IsNext library names word text m = (m.draft.name ≡ word) × IsModule library (module_said text m) × (is_repeated library names word ≡ false)

passed_next : (library : List Cell) (names : List Text) (word text : Text) (o : Outcome Said) → Yields (Whole library word true) o → Yields IsSaidModule o → is_repeated library names word ≡ false → GoesOn (IsNext library names word text) (in_module o)
passed_next library names word text (Ok p) h s new = (h.0.draft.name, module_sound library word text p.0 h.0 s, new)
passed_next library names word text (Err f) h s new = h

unpassed_next : (library : List Cell) (names : List Text) (word text : Text) (o : Outcome Said) → Yields (Whole library word false) o → GoesOn (IsNext library names word text) (in_module o)
unpassed_next library names word text (Ok p) h = absurd (cc (h.1))
unpassed_next library names word text (Err f) h = h

next_by : (library : List Cell) (names : List Text) (word text : Text) (ahead repeated : Bool) (o : Outcome Said) → is_repeated library names word ≡ repeated → Yields (Whole library word ahead) o → Yields IsSaidModule o
    → GoesOn (IsNext library names word text) (cond (ahead && repeated) (Err (fault.Repeated word)) (in_module o))
next_by library names word text true true o e h s = tt
next_by library names word text true false o e h s = passed_next library names word text o h s e
next_by library names word text false repeated o e h s = unpassed_next library names word text o h

next_goes : (library : List Cell) (names : List Text) (text : Text) (ts : List Token) → GoesOn (IsNext library names (name_ahead ts) text) (next_module library names ts)
unfolding next_module
next_goes library names text ts = next_by library names (name_ahead ts) text (names_one ts) (is_repeated library names (name_ahead ts)) (one_module library ts) refl (one_keep library ts) (one_said library ts)

-- ---- all modules

abbrev names_of : List Module → List Text
names_of ms = map (λ (m : Module). m.name) ms

-- these modules stand behind those before, are sound, and have new names
pub record StandBehind (library : List Cell) (before all : List Module) : Type 0 where
  pub rest : List Module
  pub same : all ≡ before ++ rest
  pub sound : AreModules library rest
  pub new : AreNew library before rest

none_named : (word : Text) (ms : List Module) → list_any (λ name. bytes_eq name word) (names_of ms) ≡ false → All (λ (m : Module). bytes_eq m.name word ≡ false) ms
none_named word [] h = All-nil (λ (m : Module). bytes_eq m.name word ≡ false)
none_named word (m ∷ ms) h =
    let both = or_parts (bytes_eq m.name word) (list_any (λ name. bytes_eq name word) (names_of ms)) h in
    All-cons (λ (m : Module). bytes_eq m.name word ≡ false) m ms both.0 (none_named word ms both.1)

no_cell : (o : Option CellId) → is_some o ≡ false → o ≡ None
no_cell None h = refl
no_cell (Some id) h = absurd (cc)

-- a name that is not repeated is new
is_new : (library : List Cell) (word : Text) (before : List Module) → is_repeated library (names_of before) word ≡ false → (find_cell library word ≡ None) × All (λ (m : Module). bytes_eq m.name word ≡ false) before
is_new library word before h =
    let both = or_parts (is_some (find_cell library word)) (list_any (λ name. bytes_eq name word) (names_of before)) h in
    (no_cell (find_cell library word) both.0, none_named word before both.1)

-- one module stands behind those before it
one_stands : (library : List Cell) (before rest : List Module) (m : Module) → IsModule library m → is_repeated library (names_of before) m.name ≡ false → AreModules library rest → AreNew library (before ++ m ∷ []) rest
    → StandBehind library before (before ++ m ∷ rest)
one_stands library before rest m sound fresh others new =
    let own = is_new library m.name before fresh in
    record { rest = m ∷ rest; same = refl; sound = All-cons (λ (x : Module). IsModule library x) m rest sound others; new = (own.0, own.1, new) }

more_by : (library : List Cell) (before : List Module) (m : Module) (o : parser.Outcome Token ModulesFault (List Module)) → IsModule library m → is_repeated library (names_of before) m.name ≡ false
    → GoesOn (StandBehind library (before ++ m ∷ [])) o → GoesOn (StandBehind library before) o
more_by library before m (Err f) sound fresh h = h
more_by library before m (Ok p) sound fresh h =
    subst (StandBehind library before) (sym (h.same ∙ append_assoc before (m ∷ []) h.rest)) (one_stands library before h.rest m sound fresh h.sound h.new)

either_end : (P : List Module → Type 0) (b : Bool) (x y : parser.Outcome Token ModulesFault (List Module)) → GoesOn P x → GoesOn P y → GoesOn P (cond b x y)
either_end P true x y hx hy = hx
either_end P false x y hx hy = hy

modules_by : (o : parser.Outcome Token ModulesFault Said) (P : Said → Type 0) (Q : List Module → Type 0) (f : Said → parser.Parser Token ModulesFault (List Module)) → GoesOn P o → ((m : Said) → P m → (us : List Token) → GoesOn Q (f m us))
    → GoesOn Q (parser.and_then o f)
modules_by (Ok p) P Q f h k = k p.0 h p.1
modules_by (Err e) P Q f h k = h

modules_go : (n : ℕ) (text : Text) (library : List Cell) (names : List Text) (before : List Module) → names ≡ names_of before → (ts : List Token) → GoesOn (StandBehind library before) (modules_from n text library names before ts)
unfolding modules_from
modules_go zero text library names before listed ts = tt
modules_go (suc n) text library names before listed ts =
    modules_by (next_module library names ts) (IsNext library names (name_ahead ts) text) (StandBehind library before) _ (next_goes library names text ts) (λ m h us.
    let made = module_said text m in
    let fresh : is_repeated library (names_of before) made.name ≡ false = ap (λ w. is_repeated library (names_of before) w) h.0 ∙ ap (λ ns. is_repeated library ns (name_ahead ts)) (sym listed) ∙ h.2 in
    let named : names ++ name_ahead ts ∷ [] ≡ names_of (before ++ made ∷ []) =
    ap (λ ns. ns ++ name_ahead ts ∷ []) listed ∙ ap (λ w. names_of before ++ w ∷ []) (sym h.0) ∙ sym (map-append (λ (x : Module). x.name) before (made ∷ [])) in
    either_end (StandBehind library before) (sees kind.End us) _ _
    (one_stands library before [] made h.1 fresh (All-nil (λ (x : Module). IsModule library x)) tt)
    (more_by library before made _ h.1 fresh (modules_go n text library (names ++ name_ahead ts ∷ []) (before ++ made ∷ []) named us)))

-- ---- the laws

sound_by : (library : List Cell) (o : parser.Outcome Token ModulesFault (List Module)) (ms : List Module) → GoesOn (StandBehind library []) o → parser.value_of o ≡ Ok ms → AreModules library ms × AreNew library [] ms
sound_by library (Err f) ms h e = absurd (cc)
sound_by library (Ok p) ms h e =
    let same : h.rest ≡ ms = let given : p.0 ≡ ms = cc in sym h.same ∙ given in
    subst (λ (x : List Module). AreModules library x × AreNew library [] x) same (h.sound, h.new)

pub said_are_modules : SaidAreModules
unfolding modules_of
said_are_modules library text ms said = sound_by library (modules_from (left (tokens text)) text library [] [] (tokens text)) ms (modules_go (left (tokens text)) text library [] [] refl (tokens text)) said

pub modules_sound : (library : List Cell) (text : Text) (ms : List Module) → modules_of library text ≡ Ok ms → AreModules library ms
modules_sound library text ms h = (said_are_modules library text ms h).0
