-- No reset of a netlist is one of its clocks: some flip-flop takes it as data.
use Rattle.std.proofs.Common.{◌≡◌, ◌⊎◌, inl, inr, ℕ, ◌<◌, ◌==◌, Bool, true, false, not, ◌&&◌, ◌||◌, List, [], ◌∷◌, length, Option, None, Some, option_map, slice_get, refl, sym, ◌∙◌, ap}
use Rattle.std.specs.Prelude.{nat_lt, if◌then◌else◌}
use Rattle.std.specs.List.{All, AllByRecursion, list_any, range_with_len}
use Rattle.std.specs.Str.{bytes_eq}
use Rattle.std.proofs.lemmas.Bool.{eq-eqb, eqb-true, or_right, or_left}
use Rattle.std.proofs.lemmas.List.Elements.{All-from_recursion}
use Rattle.std.proofs.lemmas.Map.Keys.{any_passes_from_place}
use Rattle.dft_base.proofs.BitLemmas.{and_first}
use Rattle.dft_cells.specs.declared.kind.Kind.{Kind}
use Rattle.dft_cells.specs.declared.kind.Kind.TheVariants as cell_kind
use Rattle.dft_cells.specs.declared.kind.Role.{Role}
use Rattle.dft_cells.specs.declared.kind.Role.TheVariants as role
use Rattle.dft_config.specs.Range.{has}
use Rattle.dft_netlist.specs.declared.instance.Instance.{Instance}
use Rattle.dft_netlist.specs.Netlist.{Netlist}
use Rattle.dft_netlist.specs.Drivers.{Connection, Loose, Net, Source, Tied, connections_of, kind_at, kind_of, pins_at, pins_of, shape_of, source_of}
use Rattle.dft_behavior.specs.ClockRoots.{ClockRoot}
use Rattle.dft_netlist.specs.Connections.{pin_of, same_role}
use Rattle.dft_netlist.specs.Sound.{IsNetlist}
use Rattle.dft_behavior.specs.NetRoots.{root_of_driver, root_within}
use Rattle.dft_behavior.specs.Traces.{Root, Port, Constant, Other, straight_root, root_of}
use Rattle.dft_behavior.proofs.ClockWalks.{traced_clock}
use Rattle.dft_netlist.proofs.GateDrivers.{driven_live}
use Rattle.dft_rules.specs.Refusals.{is_data_of, takes, takes_data, uses_data}
use Rattle.dft_rules.specs.Rules.{may_be_scanned}
use Rattle.dft_rules.proofs.ReadingLemmas.{joined_net}
use Rattle.dft_configure.specs.Roots.{can_hold_both, clean_clock, domains_of, hold_root, is_among, is_clean, is_fit, is_port, is_tapped, open_clock, open_reset, open_resets, port_of_clock, port_of_root, port_shown, resets_of, uses}
use Rattle.dft_configure.proofs.GoodLemmas.{some_passes}
use Rattle.dft_configure.proofs.ScannedLemmas.{domain_clean, reset_counted, used}
use Rattle.dft_configuring.specs.Rooted.{clock_names, names_of_nets, reset_names}
use Rattle.dft_configuring.proofs.RootsRange.{among_first, among_later, domains_live, none_has, resets_live}

-- ---- a reset pin takes its net as data

scanned_uses : (kind : Kind) → may_be_scanned kind ≡ true → uses_data kind ≡ true
scanned_uses (cell_kind.Flop flop) is = refl
scanned_uses _ is = absurd cc

reset_data : (r : Role) → same_role role.Reset r ≡ true → takes_data r ≡ true
reset_data role.Input is = absurd cc
reset_data role.Clock is = absurd cc
reset_data role.Din is = absurd cc
reset_data role.Reset is = refl
reset_data role.Preset is = absurd cc
reset_data role.ScanIn is = absurd cc
reset_data role.ScanEnable is = absurd cc
reset_data role.Output is = absurd cc
reset_data role.Inverted is = absurd cc

preset_data : (r : Role) → same_role role.Preset r ≡ true → takes_data r ≡ true
preset_data role.Input is = absurd cc
preset_data role.Clock is = absurd cc
preset_data role.Din is = absurd cc
preset_data role.Reset is = absurd cc
preset_data role.Preset is = refl
preset_data role.ScanIn is = absurd cc
preset_data role.ScanEnable is = absurd cc
preset_data role.Output is = absurd cc
preset_data role.Inverted is = absurd cc

abbrev net_in : Option Source → ℕ
net_in (Some (Net net)) = net
net_in (Some (Tied bit)) = 0
net_in (Some (Loose instance pin)) = 0
net_in None = 0

abbrev is_net : Option Source → Bool
is_net (Some (Net net)) = true
is_net (Some (Tied bit)) = false
is_net (Some (Loose instance pin)) = false
is_net None = false

pin_taken : (r : Role) (taken : (other : Role) → same_role r other ≡ true → takes_data other ≡ true) (i net : ℕ) (cs : List Connection) → pin_of r i cs ≡ Some (Net net) → list_any (takes net) cs ≡ true
pin_taken r taken i net [] is = let never : false ≡ true = ap is_net is in absurd cc
pin_taken r taken i net (c ∷ cs) is = by (same_role r c.role) refl is (pin_taken r taken i net cs)
  where
    by : (t : Bool) → same_role r c.role ≡ t → (if t then Some (source_of i c.pin c.to) else pin_of r i cs) ≡ Some (Net net) → (pin_of r i cs ≡ Some (Net net) → list_any (takes net) cs ≡ true) → (takes net c || list_any (takes net) cs) ≡ true
    by true same at later = or_left (takes net c) (list_any (takes net) cs) (λ j. taken c.role same j && joined_net i c.pin net c.to at j)
    by false same at later = or_right (takes net c) (list_any (takes net) cs) (later at)

-- ---- the net of a root is a net

no_port : (net : ℕ) (r : Root) → r ≡ Other → r ≡ Port net → ⊥
no_port net r other port = absurd cc

port_live : (n : Netlist) (net port : ℕ) → IsNetlist n → root_of n (Net net) ≡ Port port → net < length n.nets
port_live n net port sound is = driven_live n net sound (λ free. no_port port (root_of n (Net net)) (ap (λ d. straight_root (root_of_driver (root_within n (length n.nets)) net d)) free) is)

-- ---- so a reset is not clean

none_clean : (live any : Bool) → any ≡ true → (live && not any) ≡ false
none_clean true any is = ap not is
none_clean false any is = refl

tapped : (n : Netlist) (r : Role) (taken : (other : Role) → same_role r other ≡ true → takes_data other ≡ true) (i port : ℕ) (source : Source) (o : Option Instance) →
    IsNetlist n → slice_get n.instances i ≡ o → may_be_scanned (kind_at n i) ≡ true → pin_of r i (pins_at n.library o) ≡ Some source → root_of n source ≡ Port port → is_clean n port ≡ false
unfolding is_clean
tapped n r taken i port source None sound at may pin root = absurd cc
tapped n r taken i port (Tied bit) (Some x) sound at may pin root = absurd cc
tapped n r taken i port (Loose instance loose) (Some x) sound at may pin root = absurd cc
tapped n r taken i port (Net net) (Some x) sound at may pin root =
    let kind : may_be_scanned (shape_of n.library x.cell).kind ≡ true = ap (λ (o : Option Instance). may_be_scanned (kind_of n.library o)) (sym at) ∙ may in
    let data_of : is_data_of n.library net x ≡ true = (λ j. scanned_uses (shape_of n.library x.cell).kind kind j && pin_taken r taken i net (connections_of n.library x) pin j) in
    let any : list_any (is_data_of n.library net) n.instances ≡ true = any_passes_from_place (is_data_of n.library net) n.instances i x at data_of in
    let shown : is_port port (port_shown n (Net net)) ≡ true = ap (λ (o : Option ClockRoot). is_port port (port_of_clock o)) (traced_clock n (Net net) port root) ∙ eq-eqb port port refl in
    let is : is_tapped n port net ≡ true = (λ j. shown j && any j) in
    none_clean (nat_lt port (length n.nets)) (list_any (is_tapped n port) (range_with_len 0 (length n.nets))) (some_passes (is_tapped n port) (length n.nets) net (port_live n net port sound root) is)

port_root : (port : ℕ) (r : Root) → is_port port (port_of_root (Some r)) ≡ true → r ≡ Port port
port_root port (Port net) at = ap Port (eqb-true net port at)
port_root port (Constant bit) at = absurd cc
port_root port Other at = absurd cc

held_unclean : (n : Netlist) (r : Role) (taken : (other : Role) → same_role r other ≡ true → takes_data other ≡ true) (i port : ℕ) (pin : Option Source) → IsNetlist n → may_be_scanned (kind_at n i) ≡ true → pin_of r i (pins_of n i) ≡ pin →
    is_port port (port_of_root (option_map (root_of n) pin)) ≡ true → is_clean n port ≡ false
held_unclean n r taken i port (Some source) sound may is at = tapped n r taken i port source (slice_get n.instances i) sound refl may is (port_root port (root_of n source) at)
held_unclean n r taken i port None sound may is at = absurd cc

then_port : (port : ℕ) (o : Option ℕ) (b : Bool) → is_port port (if b then o else None) ≡ true → (b ≡ true) × (is_port port o ≡ true)
then_port port o true at = (refl, at)
then_port port o false at = absurd cc

then_among : (domains : List ℕ) (o : Option ℕ) (b : Bool) → is_among domains (if b then o else None) ≡ true → b ≡ true
then_among domains o true at = refl
then_among domains o false at = absurd cc

open_judged : (n : Netlist) (domains : List ℕ) (i : ℕ) → is_among domains (open_clock n i) ≡ true → may_be_scanned (kind_at n i) ≡ true
unfolding open_clock
open_judged n domains i among = and_first _ _ (and_first _ _ (then_among domains (clean_clock n i) (is_fit n i && can_hold_both n i) among))

by_hold : (n : Netlist) (r : Role) (taken : (other : Role) → same_role r other ≡ true → takes_data other ≡ true) (i port : ℕ) → IsNetlist n → is_port port (open_reset n (domains_of n) r i) ≡ true → is_clean n port ≡ false
by_hold n r taken i port sound is =
    let at = then_port port (port_of_root (hold_root n r i)) (is_among (domains_of n) (open_clock n i)) is in
    held_unclean n r taken i port (pin_of r i (pins_of n i)) sound (open_judged n (domains_of n) i at.0) refl at.1

reset_unclean : (n : Netlist) (port : ℕ) → IsNetlist n → is_among (resets_of n (domains_of n)) (Some port) ≡ true → is_clean n port ≡ false
unfolding resets_of
reset_unclean n port sound among =
    let some = reset_counted n (domains_of n) (is_port port) (used (uses (open_resets n (domains_of n))) (length n.nets) port among) in
    elim some.1 [ inl is ↦ by_hold n role.Reset reset_data some.0 port sound is | inr is ↦ by_hold n role.Preset preset_data some.0 port sound is ]

reset_no_clock : (n : Netlist) (port : ℕ) → IsNetlist n → is_among (resets_of n (domains_of n)) (Some port) ≡ true → is_among (domains_of n) (Some port) ≡ false
reset_no_clock n port sound among = by (is_among (domains_of n) (Some port)) refl
  where
    by : (b : Bool) → is_among (domains_of n) (Some port) ≡ b → is_among (domains_of n) (Some port) ≡ false
    by true is = let never : true ≡ false = sym (domain_clean n port is) ∙ reset_unclean n port sound among in absurd cc
    by false is = is

-- ---- by name

any_has : (k : ℕ) (xs : List ℕ) → has (λ a b. a == b) xs k ≡ list_any (λ other. other == k) xs
any_has k [] = refl
any_has k (x ∷ xs) = ap (λ (b : Bool). (x == k) || b) (any_has k xs)

apart_all : (n : Netlist) (nets : List ℕ) → IsNetlist n → AllByRecursion (λ k. k < length n.nets) nets → ((k : ℕ) → is_among nets (Some k) ≡ true → is_among (domains_of n) (Some k) ≡ false) →
    AllByRecursion (λ reset. has bytes_eq (names_of_nets n (domains_of n)) reset ≡ false) (names_of_nets n nets)
apart_all n [] sound lives apart = tt
apart_all n (x ∷ xs) sound lives apart =
    (none_has n x (domains_of n) sound lives.0 (domains_live n) (any_has x (domains_of n) ∙ apart x (among_first x xs)), apart_all n xs sound lives.1 (λ k is. apart k (among_later x k xs is)))

pub apart : (n : Netlist) → IsNetlist n → All (λ reset. has bytes_eq (clock_names n) reset ≡ false) (reset_names n)
unfolding clock_names reset_names
apart n sound =
    All-from_recursion (λ reset. has bytes_eq (names_of_nets n (domains_of n)) reset ≡ false) (names_of_nets n (resets_of n (domains_of n)))
    (apart_all n (resets_of n (domains_of n)) sound (resets_live n) (λ k is. reset_no_clock n k sound is))
