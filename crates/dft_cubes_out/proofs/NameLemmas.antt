-- What the names in written cubes stand for.
use Rattle.std.proofs.Common.{◌≡◌, ℕ, zero, suc, ◌+◌, ◌<◌, Bool, true, false, List, [], ◌∷◌, length, Option, None, Some, slice_get, refl, sym, ap, ◌∙◌, arith, true≢false, ltb}
use Rattle.std.specs.Prelude.{◌||◌, not, position}
use Rattle.std.specs.List.{list_any, position_or_len}
use Rattle.std.specs.Option.{option_and_then}
use Rattle.std.specs.Str.{bytes_eq}
use Rattle.std.proofs.lemmas.Bool.Decides.{nat_tests}
use Rattle.std.proofs.lemmas.Bool.{and_parts, or_right, or_parts}
use Rattle.std.proofs.lemmas.Option.{none-some}
use Rattle.dft_base.specs.Lexing.{Text}
use Rattle.dft_base.proofs.TextLemmas.{same_text, bytes_eq-self}
use Rattle.dft_base.proofs.BitLemmas.{not_true}
use Rattle.dft_netlist.specs.declared.ids.NetId.{NetId}
use Rattle.dft_netlist.specs.declared.ids.InstanceId.{InstanceId}
use Rattle.dft_netlist.specs.declared.named.Named.TheVariants.{Net}
use Rattle.dft_netlist.specs.Netlist.{Netlist}
use Rattle.dft_netlist.specs.Sound.{IsNetlist}
use Rattle.dft_netlist.specs.Drivers.{driver, kind_at}
use Rattle.dft_netlist.specs.Connections.{is_input, input_net}
use Rattle.dft_netlist.specs.Names.{find_instance, find_net, instance_name}
use Rattle.dft_netlist.proofs.FindLemmas.{not_found, found_at}
use Rattle.dft_netlist.proofs.ListingLemmas.{found_by}
use Rattle.dft_config.specs.Range.{all_differ, has}
use Rattle.dft_rules.specs.Rules.{flip_flop_named, is_net, may_be_scanned}
use Rattle.dft_rules.proofs.ReadingLemmas.{is_itself}
use Rattle.dft_cubes.specs.Cubes.{is_among}

-- ---- instances

-- the flip-flop with the name of a cell is the cell
pub cell_found : (n : Netlist) (name : Text) (cell : InstanceId) → IsNetlist n → option_and_then instance_name (slice_get n.instances cell.0) ≡ Some name → may_be_scanned (kind_at n cell.0) ≡ true → flip_flop_named n name ≡ Some cell
cell_found n name cell sound named kind = rw (found_by n name cell (find_instance n name) sound refl named, kind) refl

-- ---- nets

one_net : (a b : NetId) → Net a ≡ Net b → a ≡ b
one_net a b same = cc

net_by : (n : Netlist) (name : Text) (net : NetId) (o : Option NetId) → IsNetlist n → find_net n name ≡ o → slice_get n.nets net.0 ≡ Some name → find_net n name ≡ Some net
net_by n name net None sound is named = absurd (not_found 0 n.nets name is net.0 named)
net_by n name net (Some other) sound is named =
    let r = found_at 0 n.nets name other is in
    let at : other.0 ≡ r.0 = r.1 ∙ omega arith in
    let own : slice_get n.nets other.0 ≡ Some name = ap (slice_get n.nets) at ∙ r.2 in
    is ∙ ap Some (one_net other net (sound.names name (Net other) (Net net) own named))

-- the input's bit with the name of a net that an input drives is the net
pub port_found : (n : Netlist) (name : Text) (net : NetId) → IsNetlist n → slice_get n.nets net.0 ≡ Some name → is_input (driver n net.0) ≡ true → input_net n name ≡ Some net
port_found n name net sound named input = rw (net_by n name net (find_net n name) sound refl named, input) refl

among_by : (n : Netlist) (t : Bool) (other name : Text) (net : NetId) (rest : Bool) → bytes_eq other name ≡ t → input_net n name ≡ Some net → is_net net.0 (input_net n other) ≡ false → rest ≡ false → t || rest ≡ false
among_by n true other name net rest same is none more =
    let e : other ≡ name = same_text other name same in
    absurd (true≢false (sym (is_itself net) ∙ sym (ap (λ (o : Text). is_net net.0 (input_net n o)) e ∙ ap (is_net net.0) is) ∙ none))
among_by n false other name net rest same is none more = more

-- a name among those of ports stands for one of these ports
pub among_stands : (n : Netlist) (names : List Text) (name : Text) (net : NetId) → input_net n name ≡ Some net → list_any (λ other. is_net net.0 (input_net n other)) names ≡ false → is_among names name ≡ false
among_stands n [] name net is none = refl
among_stands n (other ∷ names) name net is none =
    let parts = or_parts (is_net net.0 (input_net n other)) (list_any (λ o. is_net net.0 (input_net n o)) names) none in
    among_by n (bytes_eq other name) other name net (is_among names name) refl is parts.0 (among_stands n names name net is parts.1)

-- ---- clocks

has_at : (xs : List Text) (name : Text) (k : ℕ) → slice_get xs k ≡ Some name → has bytes_eq xs name ≡ true
has_at [] name k at = absurd (none-some name at)
has_at (x ∷ xs) name zero at = let e : x ≡ name = cc in rw (ap (λ (t : Text). bytes_eq t name) e ∙ bytes_eq-self name) refl
has_at (x ∷ xs) name (suc k) at = or_right (bytes_eq x name) (has bytes_eq xs name) (has_at xs name k at)

-- where a name differs from one that stands before it
abbrev IsPlace : List Text → (name : Text) → (k : ℕ) → Type 0
IsPlace xs name k = (position_or_len (λ other. bytes_eq other name) xs ≡ k) × (k < length xs)

place_behind : (t : Bool) (x name : Text) (xs : List Text) (k : ℕ) → bytes_eq x name ≡ t → has bytes_eq xs x ≡ false → has bytes_eq xs name ≡ true → IsPlace xs name k → IsPlace (x ∷ xs) name (suc k)
place_behind true x name xs k same none some rest = let e : x ≡ name = same_text x name same in absurd (true≢false (sym some ∙ ap (has bytes_eq xs) (sym e) ∙ none))
place_behind false x name xs k other none some rest = (let e : 1 + k ≡ suc k = omega arith in rw (other, rest.0) e, let lt = rest.1 in omega (arith, lt))

-- of names that differ the first one with the bytes of one of them is this one
place_there : (xs : List Text) (name : Text) (k : ℕ) → all_differ bytes_eq xs ≡ true → slice_get xs k ≡ Some name → IsPlace xs name k
place_there [] name k differ at = absurd (none-some name at)
place_there (x ∷ xs) name zero differ at = let e : x ≡ name = cc in (rw (ap (λ (t : Text). bytes_eq t name) e ∙ bytes_eq-self name) refl, omega arith)
place_there (x ∷ xs) name (suc k) differ at =
    let parts = and_parts (not (has bytes_eq xs x)) (all_differ bytes_eq xs) differ in
    place_behind (bytes_eq x name) x name xs k refl (not_true (has bytes_eq xs x) parts.0) (has_at xs name k at) (place_there xs name k parts.1 at)

-- the domain with the name of a domain is this one
pub domain_found : (xs : List Text) (name : Text) (k : ℕ) → all_differ bytes_eq xs ≡ true → slice_get xs k ≡ Some name → position (λ other. bytes_eq other name) xs ≡ Some k
domain_found xs name k differ at =
    let there = place_there xs name k differ at in
    let lt = there.1 in
    let within : ltb k (length xs) ≡ true = grind (arith, nat_tests) in
    rw (there.0, within) refl
