-- A flip-flop that some accepted configuration scans is open, and so it is scanned under the made one.
use Rattle.std.proofs.Common.{◌≡◌, ℕ, ◌+◌, ◌<◌, ◌==◌, Bool, true, false, cond, not, ◌&&◌, ◌||◌, List, [], ◌∷◌, length, Option, None, Some, is_some, option_map, option_and_then, refl, ◌∙◌, ap}
use Rattle.std.specs.Prelude.{nat_lt, if◌then◌else◌}
use Rattle.std.specs.List.{list_any, position_from, range_with_len}
use Rattle.std.proofs.lemmas.Bool.{eqb-true, lt-ltb}
use Rattle.std.proofs.lemmas.Iterator.Adapters.{position_from-zero}
use Rattle.std.proofs.lemmas.Option.{slice_get_within}
use Rattle.dft_base.specs.Lexing.{Text}
use Rattle.dft_base.proofs.BitLemmas.{and_first, and_second}
use Rattle.dft_cells.specs.declared.kind.Role.{Role}
use Rattle.dft_cells.specs.declared.kind.Role.TheVariants as role
use Rattle.dft_config.specs.Config.{Config}
use Rattle.dft_netlist.specs.declared.ids.NetId.{NetId}
use Rattle.dft_behavior.specs.declared.root.Root.TheVariants as declared
use Rattle.dft_netlist.specs.Netlist.{Netlist}
use Rattle.dft_netlist.specs.Drivers.{Net, Source, pins_of}
use Rattle.dft_netlist.specs.Connections.{pin_of}
use Rattle.dft_netlist.specs.Sound.{IsNetlist}
use Rattle.dft_behavior.specs.Traces.{Root, Port, Constant, Other, root_of}
use Rattle.dft_behavior.specs.ClockRoots.{ClockRoot, clock_root_of}
use Rattle.dft_rules.specs.Findings.{AreNets}
use Rattle.dft_rules.specs.Refusals.{is_data_of, is_scanned, refusal}
use Rattle.dft_rules.specs.Rules.{are_held_at, clock_of_source, clocked_by, is_held, is_kept, is_pin_held, judged, judged_by, place_of_clock, place_of_port, scan_cell_of}
use Rattle.dft_rules.specs.declared.judged.Judged.{Judged}
use Rattle.dft_rules.specs.declared.judged.Judged.TheVariants.{Scanned, Unscanned}
use Rattle.dft_rules.proofs.ClockReads.{no_data}
use Rattle.dft_rules.proofs.ClockedFlops.{IsClocked, IsVerdict, clock_is, clocked, verdict_passes}
use Rattle.dft_rules.proofs.JudgeLemmas.{same_place}
use Rattle.dft_rules.proofs.NamedPorts.{name_at, named}
use Rattle.dft_configure.specs.Found.{numbers}
use Rattle.dft_configure.specs.Most.{CutsNone, HasRoots, MostAreScanned}
use Rattle.dft_configure.specs.Roots.{can_hold, can_hold_both, clean_clock, clean_only, domains_of, hold_root, is_among, is_clean, is_port, is_tapped, open_clock, open_reset, port_of_clock, port_of_root, port_shown}

-- ---- it is open

scanned_some : (o : Option Judged) → is_scanned o ≡ true → (domain : ℕ) × ((falling : Bool) × (o ≡ Some (Scanned domain falling)))
scanned_some None is = absurd cc
scanned_some (Some (Scanned domain falling)) is = (domain, (falling, refl))
scanned_some (Some (Unscanned rule)) is = absurd cc

none_passes : (p : ℕ → Bool) (xs : List ℕ) → ((k : ℕ) → p k ≡ false) → list_any p xs ≡ false
none_passes p [] none = refl
none_passes p (x ∷ xs) none = (λ i. none x i || none_passes p xs none i)

-- a net that shows the port shows the domain
tapped_shows : (n : Netlist) (names : List Text) (port domain : ℕ) (o : Option ClockRoot) → place_of_port n names port ≡ Some domain → is_port port (port_of_clock o) ≡ true → is_some (place_of_clock n names o) ≡ true
tapped_shows n names port domain None place is = absurd cc
tapped_shows n names port domain (Some root) place is =
    let same : root.port ≡ port = eqb-true root.port port is in
    ap (λ (o : Option ℕ). is_some (option_map {U = ℕ × Bool} (λ (place : ℕ). (place, root.inverted)) o)) (ap (place_of_port n names) same ∙ place)

untapped_by : (n : Netlist) (other : Config) (port domain net : ℕ) (b : Bool) → IsNetlist n → refusal n other ≡ None → place_of_port n other.domains port ≡ Some domain → is_port port (port_shown n (Net net)) ≡ b → is_tapped n port net ≡ false
untapped_by n other port domain net false sound passed place is = ap (λ (b : Bool). b && list_any (is_data_of n.library net) n.instances) is
untapped_by n other port domain net true sound passed place is =
    ap (λ (b : Bool). b && list_any (is_data_of n.library net) n.instances) is ∙ no_data n other net sound passed (tapped_shows n other.domains port domain (clock_root_of n (Net net)) place is)

port_live : (n : Netlist) (other : Config) (i domain : ℕ) (falling : Bool) (c : IsClocked n other i domain falling) → c.net < length n.nets
port_live n other i domain falling c =
    let at = named n c.net other.domains (clock_is n other i domain falling c) in
    slice_get_within n.nets c.net at.1 (name_at n at.1 c.net at.3)

clean_port : (n : Netlist) (other : Config) (i domain : ℕ) (falling : Bool) → IsNetlist n → refusal n other ≡ None → (c : IsClocked n other i domain falling) → is_clean n c.net ≡ true
unfolding is_clean
clean_port n other i domain falling sound passed c =
    let live : nat_lt c.net (length n.nets) ≡ true = lt-ltb c.net (length n.nets) (port_live n other i domain falling c) in
    let none : list_any (is_tapped n c.net) (range_with_len 0 (length n.nets)) ≡ false =
    none_passes (is_tapped n c.net) (range_with_len 0 (length n.nets)) (λ net. untapped_by n other c.net domain net (is_port c.net (port_shown n (Net net))) sound passed c.place refl) in
    (λ j. live j && not (none j))

root_can : (n : Netlist) (names : List Text) (r : Root) → is_held n names r ≡ true → can_hold (Some r) ≡ true
root_can n names (Port net) is = refl
root_can n names (Constant bit) is = is
root_can n names Other is = absurd cc

pin_can : (n : Netlist) (names : List Text) (pin : Option Source) → is_pin_held n names pin ≡ true → can_hold (option_map (root_of n) pin) ≡ true
pin_can n names None is = refl
pin_can n names (Some source) is = root_can n names (root_of n source) is

held_can : (n : Netlist) (other : Config) (i : ℕ) → are_held_at n other i ≡ true → can_hold_both n i ≡ true
held_can n other i is =
    let reset = pin_of role.Reset i (pins_of n i) in
    let preset = pin_of role.Preset i (pins_of n i) in
    λ j. pin_can n other.resets reset (and_first (is_pin_held n other.resets reset) (is_pin_held n other.resets preset) is) j
    && pin_can n other.resets preset (and_second (is_pin_held n other.resets reset) (is_pin_held n other.resets preset) is) j

is_open : (n : Netlist) (other : Config) (i domain : ℕ) (falling : Bool) → IsNetlist n → refusal n other ≡ None → (v : IsVerdict n other i domain falling) (c : IsClocked n other i domain falling) → open_clock n i ≡ Some c.net
unfolding open_clock
is_open n other i domain falling sound passed v c =
    let hold = held_can n other i v.passed.is_held in
    (λ j. if (v.kind j && v.passed.is_scan j) && hold j then clean_clock n i else None)
    ∙ ap (λ (o : Option Source). clean_only n (option_and_then (port_shown n) o)) c.pin ∙ ap (λ (r : Option ClockRoot). clean_only n (port_of_clock r)) c.root
    ∙ ap (λ (b : Bool). if b then Some c.net else None) (clean_port n other i domain falling sound passed c)

-- ---- so it is scanned

place_by : (k net : ℕ) (x : NetId) (xs : List NetId) (b : Bool) → (x.0 == net) ≡ b → (b || list_any (λ other. other == net) (numbers xs)) ≡ true → (list_any (λ other. other == net) (numbers xs) ≡ true → is_some (position_from (λ other. other.0 == net) (k + 1) xs) ≡ true) →
    is_some (cond b (Some k) (position_from (λ other. other.0 == net) (k + 1) xs)) ≡ true
place_by k net x xs true is any rest = refl
place_by k net x xs false is any rest = rest any

some_place : (k net : ℕ) (xs : List NetId) → list_any (λ other. other == net) (numbers xs) ≡ true → is_some (position_from (λ other. other.0 == net) k xs) ≡ true
some_place k net [] any = absurd cc
some_place k net (x ∷ xs) any = place_by k net x xs (x.0 == net) refl any (some_place (k + 1) net xs)

-- a port among the nets of names has a place among the names
place_there : (n : Netlist) (names : List Text) (nets : List NetId) (chosen : List ℕ) (net : ℕ) → AreNets n names nets → numbers nets ≡ chosen → is_among chosen (Some net) ≡ true → is_some (place_of_port n names net) ≡ true
place_there n names nets chosen net are is among =
    ap is_some (same_place n names nets are (declared.Port (record { 0 = net })) ∙ position_from-zero (λ other. other.0 == net) nets)
    ∙ some_place 0 net nets (ap (λ (l : List ℕ). list_any (λ other. other == net) l) is ∙ among)

held_root : (n : Netlist) (names : List Text) (r : Root) → can_hold (Some r) ≡ true → ((net : ℕ) → port_of_root (Some r) ≡ Some net → is_some (place_of_port n names net) ≡ true) → is_held n names r ≡ true
held_root n names (Port net) can there = there net refl
held_root n names (Constant bit) can there = can
held_root n names Other can there = absurd cc

pin_made : (n : Netlist) (names : List Text) (pin : Option Source) → can_hold (option_map (root_of n) pin) ≡ true → ((net : ℕ) → port_of_root (option_map (root_of n) pin) ≡ Some net → is_some (place_of_port n names net) ≡ true) →
    is_pin_held n names pin ≡ true
pin_made n names None can there = refl
pin_made n names (Some source) can there = held_root n names (root_of n source) can there

scanned_by : (clock : Option (ℕ × Bool)) (held scans kept : Bool) → is_some clock ≡ true → held ≡ true → scans ≡ true → kept ≡ false → is_scanned (judged_by clock held scans kept) ≡ true
scanned_by None held scans kept c h s k = absurd cc
scanned_by (Some clock) false scans kept c h s k = absurd cc
scanned_by (Some clock) true false kept c h s k = absurd cc
scanned_by (Some clock) true true true c h s k = absurd cc
scanned_by (Some clock) true true false c h s k = refl

some_mapped : (f : ℕ → ℕ × Bool) (o : Option ℕ) → is_some o ≡ true → is_some (option_map f o) ≡ true
some_mapped f None is = absurd cc
some_mapped f (Some x) is = refl

made_scans : (n : Netlist) (made other : Config) (i domain : ℕ) (falling : Bool) → IsNetlist n → HasRoots n made → CutsNone n → refusal n other ≡ None → (v : IsVerdict n other i domain falling) (c : IsClocked n other i domain falling) → is_scanned (judged n made i) ≡ true
made_scans n made other i domain falling sound roots cuts passed v c =
    let opened = is_open n other i domain falling sound passed v c in
    let among = cuts.domains i c.net opened in
    let place = place_there n made.domains roots.domains (domains_of n) c.net roots.clocks_named roots.clocks among in
    let clock : is_some (clocked_by n made i) ≡ true =
    ap (λ (o : Option Source). is_some (option_and_then (clock_of_source n made.domains) o)) c.pin ∙ ap (λ (r : Option ClockRoot). is_some (place_of_clock n made.domains r)) c.root
    ∙ some_mapped (λ p. (p, falling)) (place_of_port n made.domains c.net) place in
    let can = held_can n other i v.passed.is_held in
    let reset : (hold : Role) (net : ℕ) → port_of_root (hold_root n hold i) ≡ Some net → open_reset n (domains_of n) hold i ≡ Some net =
    λ hold net at. (ap (λ (o : Option ℕ). if is_among (domains_of n) o then port_of_root (hold_root n hold i) else None) opened ∙ ap (λ (b : Bool). if b then port_of_root (hold_root n hold i) else None) among ∙ at) in
    let held : are_held_at n made i ≡ true =
    λ j. pin_made n made.resets (pin_of role.Reset i (pins_of n i)) (and_first (can_hold (hold_root n role.Reset i)) (can_hold (hold_root n role.Preset i)) can)
    (λ net at. place_there n made.resets roots.resets _ net roots.resets_named roots.held (cuts.resets i net (reset role.Reset net at))) j
    && pin_made n made.resets (pin_of role.Preset i (pins_of n i)) (and_second (can_hold (hold_root n role.Reset i)) (can_hold (hold_root n role.Preset i)) can)
    (λ net at. place_there n made.resets roots.resets _ net roots.resets_named roots.held (cuts.sets i net (reset role.Preset net at))) j in
    let kept : is_kept n made.keep i ≡ false = ap (λ (l : List Text). is_kept n l i) roots.keep in
    ap (λ (b : Bool). is_scanned (if b then judged_by (clocked_by n made i) (are_held_at n made i) (is_some (scan_cell_of n i)) (is_kept n made.keep i) else None)) v.kind
    ∙ scanned_by (clocked_by n made i) (are_held_at n made i) (is_some (scan_cell_of n i)) (is_kept n made.keep i) clock held v.passed.is_scan kept

pub most_scanned : MostAreScanned
most_scanned n made other i sound roots cuts passed is =
    let s = scanned_some (judged n other i) is in
    let v = verdict_passes n other i s.0 s.1.0 s.1.1 in
    made_scans n made other i s.0 s.1.0 sound roots cuts passed v (clocked n other i s.0 s.1.0 v.passed.is_clock)
