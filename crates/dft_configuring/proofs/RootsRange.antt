-- The clocks and resets of a netlist, by name, are in range: few, different, names of input ports, and no reset is a clock.
use Rattle.std.proofs.Common.{◌≡◌, ◌⊎◌, inl, inr, ℕ, ◌<◌, ◌≤◌, ◌==◌, Bool, true, false, not, ◌&&◌, ◌||◌, List, [], ◌∷◌, length, map, Option, None, Some, IsTrue, option_map, option_and_then, slice_get, refl, sym, ◌∙◌, ap, subst, arith}
use Rattle.std.specs.Prelude.{if◌then◌else◌}
use Rattle.std.specs.List.{All, AllByRecursion, list_any, range_with_len}
use Rattle.std.specs.Str.{bytes_eq}
use Rattle.std.proofs.lemmas.Bool.{eqb-true}
use Rattle.std.proofs.lemmas.Bool.Decides.{nat_tests}
use Rattle.std.proofs.lemmas.List.{length-map}
use Rattle.std.proofs.lemmas.List.Elements.{All-from_recursion}
use Rattle.std.proofs.lemmas.Option.{slice_get-get_or}
use Rattle.dft_base.specs.Name.{IsName}
use Rattle.dft_base.proofs.TextLemmas.{same_text}
use Rattle.dft_cells.specs.declared.kind.Role.{Role}
use Rattle.dft_cells.specs.declared.kind.Role.TheVariants as role
use Rattle.dft_config.specs.Config.{Config}
use Rattle.dft_config.specs.Range.{all_differ, has}
use Rattle.dft_netlist.specs.declared.ids.NetId.{NetId}
use Rattle.dft_netlist.specs.declared.named.Named.{Named}
use Rattle.dft_netlist.specs.declared.named.Named.TheVariants as named
use Rattle.dft_netlist.specs.Netlist.{Netlist}
use Rattle.dft_netlist.specs.Drivers.{Input, Source, driver, pins_of}
use Rattle.dft_netlist.specs.Connections.{input_net, is_input, pin_of}
use Rattle.dft_behavior.specs.ClockRoots.{ClockRoot, clock_root_of}
use Rattle.dft_netlist.specs.Names.{find_net}
use Rattle.dft_netlist.specs.Sound.{IsNetlist}
use Rattle.dft_behavior.specs.Traces.{Root, Port, Constant, Other, root_of}
use Rattle.dft_behavior.proofs.ClockWalks.{clock_driven, clock_found, traced_clock}
use Rattle.dft_netlist.proofs.FindLemmas.{not_found}
use Rattle.dft_rules.proofs.NamedPorts.{name_at}
use Rattle.dft_configure.specs.Found.{numbers}
use Rattle.dft_configure.specs.Most.{HasRoots}
use Rattle.dft_configure.specs.Roots.{can_hold_both, clean_only, domains_of, hold_root, is_among, is_clean, is_fit, is_port, most_used, open_clock, open_reset, open_resets, open_clocks, port_of_clock, port_of_root, port_shown, resets_of, uses}
use Rattle.dft_configure.proofs.ScannedLemmas.{one_counted, reset_counted, used}
use Rattle.dft_configuring.specs.Rooted.{clock_names, name_of, names_of_nets, reset_names}
use Rattle.dft_configuring.proofs.GroupsRange.{chosen_below, chosen_differ}
use Rattle.dft_configuring.proofs.Ranks.{most_used_few}

-- ---- chosen ports are nets, and differ

chosen_live : (u : ℕ → ℕ) (nets : ℕ) → AllByRecursion (λ net. net < nets) (most_used u nets)
unfolding most_used
chosen_live u nets = chosen_below _ 0 nets nets (omega arith)

same_number_differ : (u : ℕ → ℕ) (nets : ℕ) → all_differ (λ a b. a == b) (most_used u nets) ≡ true
unfolding most_used
same_number_differ u nets = chosen_differ _ 0 nets

pub domains_live : (n : Netlist) → AllByRecursion (λ net. net < length n.nets) (domains_of n)
unfolding domains_of
domains_live n = chosen_live (uses (open_clocks n)) (length n.nets)

pub resets_live : (n : Netlist) → AllByRecursion (λ net. net < length n.nets) (resets_of n (domains_of n))
unfolding resets_of
resets_live n = chosen_live (uses (open_resets n (domains_of n))) (length n.nets)

live_by : (count : ℕ) (nets : List NetId) → AllByRecursion (λ k. k < count) (numbers nets) → AllByRecursion (λ (net : NetId). net.0 < count) nets
live_by count [] all = tt
live_by count (x ∷ xs) all = (all.0, live_by count xs all.1)

-- nets with the numbers of nets are nets
pub nets_live : (n : Netlist) (nets : List NetId) (ports : List ℕ) → numbers nets ≡ ports → AllByRecursion (λ k. k < length n.nets) ports → All (λ (net : NetId). net.0 < length n.nets) nets
nets_live n nets ports same all =
    All-from_recursion (λ (net : NetId). net.0 < length n.nets) nets (live_by (length n.nets) nets (subst (AllByRecursion (λ k. k < length n.nets)) (sym same) all))

domains_apart : (n : Netlist) → all_differ (λ a b. a == b) (domains_of n) ≡ true
unfolding domains_of
domains_apart n = same_number_differ (uses (open_clocks n)) (length n.nets)

resets_apart : (n : Netlist) → all_differ (λ a b. a == b) (resets_of n (domains_of n)) ≡ true
unfolding resets_of
resets_apart n = same_number_differ (uses (open_resets n (domains_of n))) (length n.nets)

domains_few : (n : Netlist) → length (domains_of n) ≤ 16
unfolding domains_of
domains_few n = most_used_few (uses (open_clocks n)) (length n.nets)

chosen_resets_few : (n : Netlist) → length (resets_of n (domains_of n)) ≤ 16
unfolding resets_of
chosen_resets_few n = most_used_few (uses (open_resets n (domains_of n))) (length n.nets)

-- ---- names of nets

name_is : (n : Netlist) (net : ℕ) → net < length n.nets → slice_get n.nets net ≡ Some (name_of n net)
name_is n net live = slice_get-get_or n.nets net [] live

abbrev number_in : Named → ℕ
number_in (named.Net net) = net.0
number_in (named.Vector port) = 0
number_in (named.Instance instance) = 0

-- nets of one name are one
pub one_net : (n : Netlist) (a b : ℕ) → IsNetlist n → a < length n.nets → b < length n.nets → name_of n a ≡ name_of n b → a ≡ b
one_net n a b sound live_a live_b same =
    ap number_in (sound.names (name_of n a) (named.Net (record { 0 = a })) (named.Net (record { 0 = b })) (name_is n a live_a) (name_is n b live_b ∙ ap Some (sym same)))

names_apart : (n : Netlist) (a b : ℕ) → IsNetlist n → a < length n.nets → b < length n.nets → (a == b) ≡ false → bytes_eq (name_of n a) (name_of n b) ≡ false
names_apart n a b sound live_a live_b apart = by (bytes_eq (name_of n a) (name_of n b)) refl
  where
    by : (t : Bool) → bytes_eq (name_of n a) (name_of n b) ≡ t → bytes_eq (name_of n a) (name_of n b) ≡ false
    by true is =
        let same : a ≡ b = one_net n a b sound live_a live_b (same_text (name_of n a) (name_of n b) is) in
        absurd (grind (arith, nat_tests, same))
    by false is = is

pub none_has : (n : Netlist) (net : ℕ) (nets : List ℕ) → IsNetlist n → net < length n.nets → AllByRecursion (λ k. k < length n.nets) nets → has (λ a b. a == b) nets net ≡ false → has bytes_eq (names_of_nets n nets) (name_of n net) ≡ false
none_has n net [] sound live lives none = refl
none_has n net (x ∷ xs) sound live lives none =
    by (x == net) (has (λ a b. a == b) xs net) refl none (none_has n net xs sound live lives.1)
  where
    by : (b rest : Bool) → (x == net) ≡ b → (b || rest) ≡ false → (rest ≡ false → has bytes_eq (names_of_nets n xs) (name_of n net) ≡ false) → (bytes_eq (name_of n x) (name_of n net) || has bytes_eq (names_of_nets n xs) (name_of n net)) ≡ false
    by true rest is gone later = absurd cc
    by false rest is gone later = (λ i. names_apart n x net sound lives.0 live is i || later gone i)

names_differ_by : (n : Netlist) (nets : List ℕ) → IsNetlist n → AllByRecursion (λ k. k < length n.nets) nets → all_differ (λ a b. a == b) nets ≡ true → all_differ bytes_eq (names_of_nets n nets) ≡ true
names_differ_by n [] sound lives apart = refl
names_differ_by n (x ∷ xs) sound lives apart = by (has (λ a b. a == b) xs x) (all_differ (λ a b. a == b) xs) apart (none_has n x xs sound lives.0 lives.1) (names_differ_by n xs sound lives.1)
  where
    by : (h rest : Bool) → (not h && rest) ≡ true → (h ≡ false → has bytes_eq (names_of_nets n xs) (name_of n x) ≡ false) → (rest ≡ true → all_differ bytes_eq (names_of_nets n xs) ≡ true) → (not (has bytes_eq (names_of_nets n xs) (name_of n x)) && all_differ bytes_eq (names_of_nets n xs)) ≡ true
    by true rest is none later = absurd cc
    by false rest is none later = (λ i. not (none refl i) && later is i)

names_named : (n : Netlist) (nets : List ℕ) → IsNetlist n → AllByRecursion (λ k. k < length n.nets) nets → AllByRecursion IsName (names_of_nets n nets)
names_named n [] sound lives = tt
names_named n (x ∷ xs) sound lives = (sound.named.nets x (name_of n x) (name_is n x lives.0), names_named n xs sound lives.1)

-- ---- input ports

found_named : (n : Netlist) (net : ℕ) → IsNetlist n → net < length n.nets → find_net n (name_of n net) ≡ Some (record { 0 = net })
found_named n net sound live = by (find_net n (name_of n net)) refl
  where
    by : (o : Option NetId) → find_net n (name_of n net) ≡ o → find_net n (name_of n net) ≡ Some (record { 0 = net })
    by None is = absurd (not_found 0 n.nets (name_of n net) is net (name_is n net live))
    by (Some other) is =
        let at = name_at n (name_of n net) other.0 is in
        let same : other.0 ≡ net = ap number_in (sound.names (name_of n net) (named.Net other) (named.Net (record { 0 = net })) at (name_is n net live)) in
        is ∙ ap (λ (k : ℕ). Some (record { 0 = k })) same

input_named : (n : Netlist) (net : ℕ) → IsNetlist n → net < length n.nets → driver n net ≡ Input → input_net n (name_of n net) ≡ Some (record { 0 = net })
input_named n net sound live is =
    ap (λ (o : Option NetId). option_and_then (λ (k : NetId). if is_input (driver n k.0) then Some k else None) o) (found_named n net sound live)
    ∙ ap (λ d. if is_input d then Some (record { 0 = net }) else None) is

-- a port whose clock a source shows is an input
shown_input : (n : Netlist) (port : ℕ) (source : Source) (o : Option ClockRoot) → clock_root_of n source ≡ o → is_port port (port_of_clock o) ≡ true → driver n port ≡ Input
shown_input n port source None is at = absurd cc
shown_input n port source (Some root) is at = ap (driver n) (sym (eqb-true root.port port at)) ∙ clock_driven n (clock_found n source root is)

clean_port : (n : Netlist) (port q : ℕ) (b : Bool) → is_port port (if b then Some q else None) ≡ true → is_port port (Some q) ≡ true
clean_port n port q true at = at
clean_port n port q false at = absurd cc

clean_shown : (n : Netlist) (port : ℕ) (source : Source) (o : Option ℕ) → port_shown n source ≡ o → is_port port (clean_only n o) ≡ true → is_port port (port_shown n source) ≡ true
clean_shown n port source None is at = absurd cc
clean_shown n port source (Some q) is at = ap (is_port port) is ∙ clean_port n port q (is_clean n q) at

clock_input : (n : Netlist) (port : ℕ) (o : Option Source) → is_port port (clean_only n (option_and_then (port_shown n) o)) ≡ true → driver n port ≡ Input
clock_input n port None at = absurd cc
clock_input n port (Some source) at = shown_input n port source (clock_root_of n source) refl (clean_shown n port source (port_shown n source) refl at)

open_input_by : (n : Netlist) (port : ℕ) (o : Option Source) (b : Bool) → is_port port (if b then clean_only n (option_and_then (port_shown n) o) else None) ≡ true → driver n port ≡ Input
open_input_by n port o true at = clock_input n port o at
open_input_by n port o false at = absurd cc

open_input : (n : Netlist) (i port : ℕ) → is_port port (open_clock n i) ≡ true → driver n port ≡ Input
unfolding open_clock
open_input n i port at = open_input_by n port (pin_of role.Clock i (pins_of n i)) (is_fit n i && can_hold_both n i) at

domain_input : (n : Netlist) (port : ℕ) → is_among (domains_of n) (Some port) ≡ true → driver n port ≡ Input
unfolding domains_of
domain_input n port among =
    let some = one_counted (open_clock n) (is_port port) (range_with_len 0 (length n.instances)) (used (uses (open_clocks n)) (length n.nets) port among) in
    open_input n some.0 port some.1

-- the same of a reset
traced_input : (n : Netlist) (port : ℕ) (source : Source) (r : Root) → root_of n source ≡ r → is_port port (port_of_root (Some r)) ≡ true → driver n port ≡ Input
traced_input n port source (Port net) is at =
    ap (driver n) (sym (eqb-true net port at)) ∙ clock_driven n (clock_found n source (record { port = net; inverted = false }) (traced_clock n source net is))
traced_input n port source (Constant bit) is at = absurd cc
traced_input n port source Other is at = absurd cc

held_input : (n : Netlist) (port : ℕ) (pin : Option Source) → is_port port (port_of_root (option_map (root_of n) pin)) ≡ true → driver n port ≡ Input
held_input n port (Some source) at = traced_input n port source (root_of n source) refl at
held_input n port None at = absurd cc

reset_by : (port : ℕ) (o : Option ℕ) (b : Bool) → is_port port (if b then o else None) ≡ true → is_port port o ≡ true
reset_by port o true at = at
reset_by port o false at = absurd cc

input_by : (n : Netlist) (hold : Role) (i port : ℕ) → is_port port (open_reset n (domains_of n) hold i) ≡ true → driver n port ≡ Input
input_by n hold i port is =
    held_input n port (pin_of hold i (pins_of n i)) (reset_by port (port_of_root (hold_root n hold i)) (is_among (domains_of n) (open_clock n i)) is)

reset_input : (n : Netlist) (port : ℕ) → is_among (resets_of n (domains_of n)) (Some port) ≡ true → driver n port ≡ Input
unfolding resets_of
reset_input n port among =
    let some = reset_counted n (domains_of n) (is_port port) (used (uses (open_resets n (domains_of n))) (length n.nets) port among) in
    elim some.1 [ inl is ↦ input_by n role.Reset some.0 port is | inr is ↦ input_by n role.Preset some.0 port is ]

-- ---- the names

pub clocks_some : (n : Netlist) → 0 < length (domains_of n) → 1 ≤ length (clock_names n)
unfolding clock_names
clocks_some n some = let count = length-map (domains_of n) (name_of n) in omega (arith, count, some)

pub clocks_few : (n : Netlist) → length (clock_names n) ≤ 16
unfolding clock_names
clocks_few n = let count = length-map (domains_of n) (name_of n) in let few = domains_few n in omega (arith, count, few)

pub resets_few : (n : Netlist) → length (reset_names n) ≤ 16
unfolding reset_names
resets_few n = let count = length-map (resets_of n (domains_of n)) (name_of n) in let few = chosen_resets_few n in omega (arith, count, few)

pub clocks_differ : (n : Netlist) → IsNetlist n → IsTrue (all_differ bytes_eq (clock_names n))
unfolding clock_names
clocks_differ n sound = names_differ_by n (domains_of n) sound (domains_live n) (domains_apart n)

pub resets_differ : (n : Netlist) → IsNetlist n → IsTrue (all_differ bytes_eq (reset_names n))
unfolding reset_names
resets_differ n sound = names_differ_by n (resets_of n (domains_of n)) sound (resets_live n) (resets_apart n)

pub clocks_named : (n : Netlist) → IsNetlist n → All IsName (clock_names n)
unfolding clock_names
clocks_named n sound = All-from_recursion IsName (names_of_nets n (domains_of n)) (names_named n (domains_of n) sound (domains_live n))

pub resets_named : (n : Netlist) → IsNetlist n → All IsName (reset_names n)
unfolding reset_names
resets_named n sound = All-from_recursion IsName (names_of_nets n (resets_of n (domains_of n))) (names_named n (resets_of n (domains_of n)) sound (resets_live n))

-- ---- the nets that the names stand for

abbrev ids_of : List ℕ → List NetId
ids_of nets = map (λ k. record { 0 = k }) nets

ids_numbers : (nets : List ℕ) → numbers (ids_of nets) ≡ nets
ids_numbers [] = refl
ids_numbers (x ∷ xs) = ap (λ (l : List ℕ). x ∷ l) (ids_numbers xs)

pub among_first : (x : ℕ) (xs : List ℕ) → is_among (x ∷ xs) (Some x) ≡ true
among_first x xs = let same : (x == x) ≡ true = grind (arith, nat_tests) in ap (λ (b : Bool). b || list_any (λ other. other == x) xs) same

pub among_later : (x k : ℕ) (xs : List ℕ) → is_among xs (Some k) ≡ true → is_among (x ∷ xs) (Some k) ≡ true
among_later x k xs is = by (x == k)
  where
    by : (b : Bool) → (b || list_any (λ other. other == k) xs) ≡ true
    by true = refl
    by false = is

are_nets : (n : Netlist) (nets : List ℕ) → IsNetlist n → AllByRecursion (λ k. k < length n.nets) nets → ((k : ℕ) → is_among nets (Some k) ≡ true → driver n k ≡ Input) → map (input_net n) (names_of_nets n nets) ≡ map Some (ids_of nets)
are_nets n [] sound lives inputs = refl
are_nets n (x ∷ xs) sound lives inputs =
    (λ i. input_named n x sound lives.0 (inputs x (among_first x xs)) i ∷ are_nets n xs sound lives.1 (λ k is. inputs k (among_later x k xs is)) i)

pub has_roots : (n : Netlist) (config : Config) → IsNetlist n → config.domains ≡ clock_names n → config.resets ≡ reset_names n → config.keep ≡ [] → HasRoots n config
unfolding clock_names reset_names
has_roots n config sound domains resets keep = record {
  domains = ids_of (domains_of n);
  resets = ids_of (resets_of n (domains_of n));
  clocks_named = ap (map (input_net n)) domains ∙ are_nets n (domains_of n) sound (domains_live n) (domain_input n);
  resets_named = ap (map (input_net n)) resets ∙ are_nets n (resets_of n (domains_of n)) sound (resets_live n) (reset_input n);
  clocks = ids_numbers (domains_of n);
  held = ids_numbers (resets_of n (domains_of n));
  keep = keep;
}
