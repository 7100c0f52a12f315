-- Modules where nothing stands give nothing, and their instances join nothing.
use Rattle.std.proofs.Common.{ℕ, zero, suc, ◌+◌, ◌≡◌, Bool, true, false, ◌||◌, cond, nat_lt, List, [], ◌∷◌, ◌++◌, length, map, Option, None, Some, slice_get, refl, sym, ap, subst, arith, ◌∙◌, length-append, true≢false}
use Rattle.std.specs.List.{list_any}
use Rattle.std.proofs.lemmas.List.{nil_from_length}
use Rattle.std.proofs.lemmas.List.Elements.{All-get_or}
use Rattle.std.proofs.lemmas.Option.{slice_get_within, get_or_from_slice_get}
use Rattle.std.proofs.lemmas.Bool.Decides.{nat_tests}
use Rattle.std.specs.Str.{bytes_eq}
use Rattle.std.proofs.lemmas.Bool.{or_parts}
use Rattle.dft_base.specs.Lexing.{Text}
use Rattle.dft_cells.specs.declared.cell.Cell.{Cell}
use Rattle.dft_netlist.specs.declared.ids.NetId.{NetId}
use Rattle.dft_netlist.specs.declared.port.Port.{Port}
use Rattle.dft_netlist.specs.declared.instance.Join.{Join}
use Rattle.dft_netlist.specs.Names.{bit_names}
use Rattle.dft_netlist.specs.Sound.{bit_names_of}
use Rattle.dft_modules.specs.declared.connections.Connection.{Connection}
use Rattle.dft_modules.specs.declared.module.SubInstance.{SubInstance}
use Rattle.dft_modules.specs.declared.module.Item.{Item}
use Rattle.dft_modules.specs.declared.module.Item.TheVariants as item
use Rattle.dft_modules.specs.Modules.{Module}
use Rattle.dft_modules.specs.Sound.{IsModule, IsItem, AreModules}
use Rattle.dft_hier.specs.Hierarchy.{subs_of, find_module}
use Rattle.dft_hier.specs.Flat.{Parts, Giving, no_parts, and_parts, sub_parts, item_parts, parts_within, inside, connection_joins, port_joins, joined_to, moved, moved_net}
use Rattle.dft_hier.specs.Weights.{is_cell}
use Rattle.dft_hier.proofs.LiveLemmas.{sub_lives, subs_live, lives_in}
use Rattle.dft_hier.proofs.PartLemmas.{StandsTall, Rises}

-- ---- ports without bits

bits_none : (ports : List Port) → length (bit_names_of ports) ≡ 0 → (place : ℕ) (p : Port) → slice_get ports place ≡ Some p → length (bit_names p.name p.range) ≡ 0
bits_none [] none place p at = absurd (let f : ⊥ = cc in f)
bits_none (q ∷ ports) none zero p at = let e : q ≡ p = cc in let l = length-append (bit_names q.name q.range) (bit_names_of ports) in subst (λ (x : Port). length (bit_names x.name x.range) ≡ 0) e (omega arith)
bits_none (q ∷ ports) none (suc place) p at = let l = length-append (bit_names q.name q.range) (bit_names_of ports) in bits_none ports (omega arith) place p at

no_joins : (outside within : ℕ) (connections : List Connection) (ports : List Port) → ((place : ℕ) (p : Port) → slice_get ports place ≡ Some p → p.bits ≡ []) → connection_joins outside within connections ports ≡ []
no_joins outside within connections [] none = refl
no_joins outside within connections (p ∷ ports) none =
    ap (λ (bits : List NetId). port_joins p.dir (map (moved_net within) bits) (map (moved outside) (joined_to connections p.name)) ++ connection_joins outside within connections ports) (none 0 p refl)
    ∙ no_joins outside within connections ports (λ place q at. none (suc place) q at)

pub dead_joins : (library : List Cell) (m : Module) (outside within : ℕ) (connections : List Connection) → IsModule library m → m.nets ≡ [] → connection_joins outside within connections m.ports ≡ []
dead_joins library m outside within connections is none =
    let whole : length (bit_names_of m.ports ++ is.bits.rest) ≡ 0 = ap (λ (xs : List Text). length xs) (sym is.bits.same ∙ none) in
    let l = length-append (bit_names_of m.ports) is.bits.rest in
    no_joins outside within connections m.ports (λ place p at. (let b = bits_none m.ports (omega arith) place p at in let w = is.widths place p at in nil_from_length p.bits (omega arith)))

found_sound : (library : List Cell) (all ms : List Module) (name : Text) (m : Module) → AreModules library ms → find_module ms name ≡ Some m → IsModule library m
found_sound library all [] name m sound is = absurd (let f : ⊥ = cc in f)
found_sound library all (x ∷ ms) name m sound is = by (bytes_eq x.name name) is (found_sound library all ms name m (λ k d less. sound (suc k) d (omega (arith, less))))
  where
    by : (t : Bool) → cond t (Some x) (find_module ms name) ≡ Some m → (find_module ms name ≡ Some m → IsModule library m) → IsModule library m
    by true is more = let e : x ≡ m = cc in subst (IsModule library) e (sound 0 x (omega arith))
    by false is more = more is

-- ---- modules where nothing stands

-- the items of a module without nets and cells, all of whose instances give nothing
dead_items : (library : List Cell) (ms : List Module) (give : Giving) (prefix : Text) (first next : ℕ) (items : List Item) → ((k : ℕ) (i : Item) → slice_get items k ≡ Some i → IsItem library 0 i) → list_any is_cell items ≡ false →
    ((place : ℕ) (s : SubInstance) → slice_get (subs_of items) place ≡ Some s → (prefix : Text) (outside first : ℕ) → sub_parts give prefix outside first s (find_module ms s.of) ≡ no_parts) → item_parts give ms prefix first next items ≡ no_parts
dead_items library ms give prefix first next [] sound none dead = refl
dead_items library ms give prefix first next (item.Join j ∷ items) sound none dead = absurd (let t = (sound 0 (item.Join j) refl).target_live in omega arith)
dead_items library ms give prefix first next (item.Cell i ∷ items) sound none dead = absurd (true≢false none)
dead_items library ms give prefix first next (item.Sub s ∷ items) sound none dead =
    let here = dead 0 s refl prefix first next in
    ap (λ (p : Parts). and_parts p (item_parts give ms prefix first (next + length p.nets) items)) here
    ∙ dead_items library ms give prefix first (next + 0) items (λ k i at. sound (suc k) i at) none (λ place t at p o f. dead (suc place) t at p o f)

sub_dead : (lives : Module → Bool) (ms : List Module) (subs : List SubInstance) (place : ℕ) (s : SubInstance) → subs_live lives ms subs ≡ false → slice_get subs place ≡ Some s → sub_lives lives (find_module ms s.of) ≡ false
sub_dead lives ms [] place s none at = absurd (let f : ⊥ = cc in f)
sub_dead lives ms (x ∷ subs) zero s none at = let e : x ≡ s = cc in subst (λ (y : SubInstance). sub_lives lives (find_module ms y.of) ≡ false) e (or_parts (sub_lives lives (find_module ms x.of)) (subs_live lives ms subs) none).0
sub_dead lives ms (x ∷ subs) (suc place) s none at = sub_dead lives ms subs place s (or_parts (sub_lives lives (find_module ms x.of)) (subs_live lives ms subs) none).1 at

no_nets : (names : List Text) → nat_lt 0 (length names) ≡ false → names ≡ []
no_nets names none = let e : length names ≡ 0 = grind (arith, nat_tests) in nil_from_length names e

pub dead_module : (library : List Cell) (ms : List Module) (depth : ℕ) (m : Module) → AreModules library ms → StandsTall ms depth m → IsModule library m → lives_in depth ms m ≡ false →
    ((prefix : Text) (first : ℕ) → parts_within depth ms prefix first m ≡ no_parts) × (m.nets ≡ [])
dead_module library ms zero m sound tall is dead = elim tall [ ]
dead_module library ms (suc depth) m sound (Rises each) is dead =
    let both = or_parts (nat_lt 0 (length m.nets) || list_any is_cell m.items) (subs_live (lives_in depth ms) ms (subs_of m.items)) dead in
    let own = or_parts (nat_lt 0 (length m.nets)) (list_any is_cell m.items) both.0 in
    let none = no_nets m.nets own.0 in
    let size : length m.nets ≡ 0 = ap (λ (xs : List Text). length xs) none in
    let items : (k : ℕ) (i : Item) → slice_get m.items k ≡ Some i → IsItem library 0 i = λ k i at. (
    let P : Item → Type 0 = λ (x : Item). IsItem library (length m.nets) x in
    subst (λ (n : ℕ). IsItem library n i) size (subst P (get_or_from_slice_get m.items k i i at) (All-get_or P m.items k i (slice_get_within m.items k i at) is.items))) in
    let below : (place : ℕ) (s : SubInstance) → slice_get (subs_of m.items) place ≡ Some s → (prefix : Text) (outside first : ℕ) → sub_parts (parts_within depth ms) prefix outside first s (find_module ms s.of) ≡ no_parts = λ place s at prefix outside first.
    by place s at (find_module ms s.of) refl (sub_dead (lives_in depth ms) ms (subs_of m.items) place s both.1 at) prefix outside first
    (λ x found lives. dead_module library ms depth x sound (each place s x at found) (found_sound library ms ms s.of x sound found) lives) in (
      (λ prefix first. ap (λ (names : List Text). and_parts (record { nets = map (λ name. prefix ++ name) names; joins = []; instances = [] }) (item_parts (parts_within depth ms) ms prefix first (first + length m.nets) m.items)) none
          ∙ dead_items library ms (parts_within depth ms) prefix first (first + length m.nets) m.items items own.1 below),
      none,
    )
  where
    by : (place : ℕ) (s : SubInstance) → slice_get (subs_of m.items) place ≡ Some s → (o : Option Module) → find_module ms s.of ≡ o → sub_lives (lives_in depth ms) o ≡ false → (prefix : Text) (outside first : ℕ) →
        ((x : Module) → find_module ms s.of ≡ Some x → lives_in depth ms x ≡ false → ((prefix : Text) (first : ℕ) → parts_within depth ms prefix first x ≡ no_parts) × (x.nets ≡ [])) →
        sub_parts (parts_within depth ms) prefix outside first s (find_module ms s.of) ≡ no_parts
    by place s at None found lives prefix outside first rec = ap (sub_parts (parts_within depth ms) prefix outside first s) found
    by place s at (Some x) found lives prefix outside first rec =
        let r = rec x found lives in
        ap (sub_parts (parts_within depth ms) prefix outside first s) found
        ∙ ap (λ (js : List Join). and_parts (record { nets = []; joins = js; instances = [] }) (parts_within depth ms (inside prefix s.name) first x)) (dead_joins library x outside first s.connections (found_sound library ms ms s.of x sound found) r.1)
        ∙ r.0 (inside prefix s.name) first
