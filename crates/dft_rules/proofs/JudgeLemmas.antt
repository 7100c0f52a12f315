-- What is looked up answers what the rules ask.
use Rattle.std.proofs.Common.{◌≡◌, ℕ, ◌+◌, ◌<◌, ◌==◌, Bool, true, false, cond, ◌&&◌, List, [], ◌∷◌, length, get_or, find, map, Option, None, Some, is_some, option_map, option_and_then, slice_get, refl, sym, ◌∙◌, ap, arith}
use Rattle.std.specs.Prelude.{if◌then◌else◌}
use Rattle.std.specs.List.{position_from, range_with_len}
use Rattle.std.proofs.lemmas.Iterator.Adapters.{position_from-zero}
use Rattle.std.proofs.lemmas.List.{get_or_default, length-map}
use Rattle.dft_base.specs.Lexing.{Text}
use Rattle.dft_cells.specs.declared.kind.Role.{Role}
use Rattle.dft_cells.specs.declared.kind.Role.TheVariants.{Clock, Reset, Preset}
use Rattle.dft_netlist.specs.declared.ids.NetId.{NetId}
use Rattle.dft_netlist.specs.declared.instance.Instance.{Instance}
use Rattle.dft_netlist.specs.declared.instance.Signal.{Signal}
use Rattle.dft_netlist.specs.declared.instance.Signal.TheVariants as signal
use Rattle.dft_behavior.specs.declared.root.ClockRoot.{ClockRoot}
use Rattle.dft_behavior.specs.declared.root.Root as declared
use Rattle.dft_behavior.specs.declared.root.Root.TheVariants.{Port, Constant, Other}
use Rattle.dft_netlist.specs.Netlist.{Netlist}
use Rattle.dft_netlist.specs.Drivers.{Source, Net, Connection, connections_of, shape_of, source_of}
use Rattle.dft_behavior.specs.Roots.{shown_root, shown_clock, clock_shown}
use Rattle.dft_behavior.specs.Traces.{root_of}
use Rattle.dft_config.specs.Config.{Config}
use Rattle.dft_rules.proofs.FindLemmas.{find_same}
use Rattle.dft_behavior.proofs.RootTables.{root_in_is, clock_in_is}
use Rattle.dft_rules.specs.declared.findings.Findings.{Findings}
use Rattle.dft_rules.specs.declared.judged.Judged.{Judged}
use Rattle.dft_netlist.specs.Connections.{input_net, joined_to, signal_of, same_role, pin_of}
use Rattle.dft_rules.specs.Findings.{AreNets, AreFindings, AreUsed, place_among, clock_place, clock_at, is_held_at, is_signal_held, are_held_by, is_marked_clock}
use Rattle.dft_rules.specs.Refusals.{is_clock_as_data}
use Rattle.dft_behavior.specs.RootTables.{AreRoots, root_at, root_in, clock_in}
use Rattle.dft_behavior.specs.declared.root.NetRoot.{NetRoot}
use Rattle.dft_behavior.specs.declared.root.NetRoot.TheVariants as none
use Rattle.dft_rules.specs.Rules.{is_net, may_be_scanned, place_of_root, place_of_clock, clock_of_source, is_held, is_pin_held, are_held, scan_cell_in, judged, judged_by}

-- ---- places of nets

same_places : (n : Netlist) (net k : ℕ) (names : List Text) (nets : List NetId) → map (input_net n) names ≡ map Some nets →
    position_from (λ name. is_net net (input_net n name)) k names ≡ position_from (λ other. other.0 == net) k nets
same_places n net k [] [] e = refl
same_places n net k [] (x ∷ nets) e = absurd (let f : ⊥ = cc in f)
same_places n net k (name ∷ names) [] e = absurd (let f : ⊥ = cc in f)
same_places n net k (name ∷ names) (x ∷ nets) e =
    let first : input_net n name ≡ Some x = cc in
    let rest : map (input_net n) names ≡ map Some nets = cc in
    ap (λ (o : Option NetId). cond (is_net net o) (Some k) (position_from (λ other. is_net net (input_net n other)) (k + 1) names)) first
    ∙ ap (λ (r : Option ℕ). cond (x.0 == net) (Some k) r) (same_places n net (k + 1) names nets rest)

pub same_place : (n : Netlist) (names : List Text) (nets : List NetId) → AreNets n names nets → (root : declared.Root) → place_of_root n names (shown_root root) ≡ place_among nets root
same_place n names nets are (Port net) =
    position_from-zero (λ name. is_net net.0 (input_net n name)) names ∙ same_places n net.0 0 names nets are ∙ sym (position_from-zero (λ other. other.0 == net.0) nets)
same_place n names nets are (Constant bit) = refl
same_place n names nets are Other = refl

same_clock_place : (n : Netlist) (names : List Text) (nets : List NetId) → AreNets n names nets → (clock : Option ClockRoot) → place_of_clock n names (shown_clock clock) ≡ clock_place nets clock
same_clock_place n names nets are None = refl
same_clock_place n names nets are (Some clock) = ap (option_map {U = ℕ × Bool} (λ (place : ℕ). (place, clock.inverted))) (same_place n names nets are (Port clock.port))

-- ---- the first pin of a role

pin_or : {A : Type 0} (f : Signal → A) (g : Source → A) (t : Bool) (i : ℕ) (c : Connection) (rest : Option Connection) (more : Option Source) → f c.to ≡ g (source_of i c.pin c.to) →
    option_map f (option_map joined_to rest) ≡ option_map g more → option_map f (option_map joined_to (cond t (Some c) rest)) ≡ option_map g (cond t (Some (source_of i c.pin c.to)) more)
pin_or f g true i c rest more e h = ap Some e
pin_or f g false i c rest more e h = h

pub same_pin : {A : Type 0} (f : Signal → A) (g : Source → A) → ((i p : ℕ) (s : Signal) → f s ≡ g (source_of i p s)) → (r : Role) (i : ℕ) (pins : List Connection) → option_map f (signal_of r pins) ≡ option_map g (pin_of r i pins)
same_pin f g same r i [] = refl
same_pin f g same r i (c ∷ pins) = pin_or f g (same_role r c.role) i c (find (λ x. same_role r x.role) pins) (pin_of r i pins) (same i c.pin c.to) (same_pin f g same r i pins)

-- ---- clocks

pub same_then : {A B C : Type 0} (f : A → Option C) (g : B → Option C) (a : Option A) (b : Option B) → option_map f a ≡ option_map g b → option_and_then f a ≡ option_and_then g b
same_then f g None None e = refl
same_then f g None (Some y) e = absurd (let h : ⊥ = cc in h)
same_then f g (Some x) None e = absurd (let h : ⊥ = cc in h)
same_then f g (Some x) (Some y) e = cc

same_pin_clock : (n : Netlist) (names : List Text) (nets : List NetId) (roots : List NetRoot) → AreNets n names nets → AreRoots n roots → (r : Role) (i : ℕ) (pins : List Connection) →
    clock_at nets roots (signal_of r pins) ≡ option_and_then (clock_of_source n names) (pin_of r i pins)
same_pin_clock n names nets roots are found r i pins =
    same_then (λ s. clock_place nets (clock_in roots s)) (clock_of_source n names) (signal_of r pins) (pin_of r i pins)
    (same_pin (λ s. clock_place nets (clock_in roots s)) (clock_of_source n names)
    (λ j p s. sym (ap (place_of_clock n names) (sym (clock_in_is n roots found j p s)) ∙ same_clock_place n names nets are (clock_in roots s))) r i pins)

-- ---- resets and sets

same_held : (n : Netlist) (names : List Text) (nets : List NetId) → AreNets n names nets → (root : declared.Root) → is_held n names (shown_root root) ≡ is_held_at nets root
same_held n names nets are (Port net) = ap is_some (same_place n names nets are (Port net))
same_held n names nets are (Constant bit) = refl
same_held n names nets are Other = refl

pin_held : (n : Netlist) (names : List Text) (nets : List NetId) (roots : List NetRoot) (pin : Option Signal) (source : Option Source) →
    option_map (λ s. is_held_at nets (root_in roots s)) pin ≡ option_map (λ source. is_held n names (root_of n source)) source → is_signal_held nets roots pin ≡ is_pin_held n names source
pin_held n names nets roots None None e = refl
pin_held n names nets roots None (Some y) e = absurd (let h : ⊥ = cc in h)
pin_held n names nets roots (Some x) None e = absurd (let h : ⊥ = cc in h)
pin_held n names nets roots (Some x) (Some y) e = cc

same_resets : (n : Netlist) (names : List Text) (nets : List NetId) (roots : List NetRoot) → AreNets n names nets → AreRoots n roots → (i : ℕ) (pins : List Connection) →
    are_held_by nets roots (signal_of Reset pins) (signal_of Preset pins) ≡ are_held n names (pin_of Reset i pins) (pin_of Preset i pins)
same_resets n names nets roots are found i pins =
    let f : Signal → Bool = λ s. is_held_at nets (root_in roots s) in
    let g : Source → Bool = λ source. is_held n names (root_of n source) in
    let same : (j p : ℕ) (s : Signal) → f s ≡ g (source_of j p s) =
    λ j p s. sym (ap (is_held n names) (sym (root_in_is n roots found j p s)) ∙ same_held n names nets are (root_in roots s)) in
    λ t. pin_held n names nets roots (signal_of Reset pins) (pin_of Reset i pins) (same_pin f g same Reset i pins) t && pin_held n names nets roots (signal_of Preset pins) (pin_of Preset i pins) (same_pin f g same Preset i pins) t

-- ---- judgements

-- how an instance is judged by what is at hand
abbrev pub judged_at : Netlist → Findings → (i : ℕ) → Instance → Option Judged
judged_at n f i x =
    let pins = connections_of n.library x in
    if may_be_scanned (shape_of n.library x.cell).kind
    then judged_by (clock_at f.domains.items f.roots.items (signal_of Clock pins)) (are_held_by f.resets.items f.roots.items (signal_of Reset pins) (signal_of Preset pins)) (is_some (scan_cell_in n.library x.cell)) (get_or f.kept.items i false)
    else None

pub same_judged : (n : Netlist) (config : Config) (f : Findings) (i : ℕ) (x : Instance) → slice_get n.instances i ≡ Some x → i < length n.instances → AreFindings n config f → judged n config i ≡ judged_at n f i x
same_judged n config f i x at less found =
    let pins = connections_of n.library x in
    let clock = same_pin_clock n config.domains f.domains.items f.roots.items found.domains found.roots Clock i pins in
    let held = same_resets n config.resets f.resets.items f.roots.items found.resets found.roots i pins in
    let kept = found.kept.each i less in
    rw (at, clock, held, kept) refl

-- ---- clocks used as data

pub same_clock : (n : Netlist) (names : List Text) (nets : List NetId) (roots : List NetRoot) (used : List Bool) → AreNets n names nets → AreRoots n roots → AreUsed n.library n.instances (length n.nets) used →
    (net : ℕ) → net < length n.nets → is_marked_clock nets roots used net ≡ is_clock_as_data n names net
same_clock n names nets roots used are found marks net less =
    let place = sym (same_clock_place n names nets are (clock_in roots (signal.Net (record { 0 = net })))) ∙ ap (place_of_clock n names) (clock_in_is n roots found 0 0 (signal.Net (record { 0 = net }))) in
    let mark = marks.each net less in
    rw (place, mark) refl

-- the test of a loop over nets
pub marked_is : (domains : List NetId) (roots : List NetRoot) (used : List Bool) (net : ℕ) (d : NetRoot) (clock : Option ClockRoot) (place : Option (ℕ × Bool)) (a b : Bool) → net < length roots →
    clock ≡ clock_shown (get_or roots net d) → place ≡ clock_place domains clock → is_some place ≡ a → get_or used net false ≡ b → is_marked_clock domains roots used net ≡ (a && b)
marked_is domains roots used net d clock place a b less shown at is mark =
    let same : clock_place domains (clock_shown (root_at roots net)) ≡ place = ap (λ (r : NetRoot). clock_place domains (clock_shown r)) (get_or_default roots net none.Other d less) ∙ ap (clock_place domains) (sym shown) ∙ sym at in
    rw (same, is, mark) refl

-- ---- numbers of nets

pub nets_count : (n : Netlist) (names : List Text) (nets : List NetId) → AreNets n names nets → length nets ≡ length names
nets_count n names nets are = sym (length-map nets Some) ∙ sym (ap (λ (xs : List (Option NetId)). length xs) are) ∙ length-map names (input_net n)

pub nets_as : (n : Netlist) (names given : List Text) (nets shown : List NetId) → given ≡ names → shown ≡ nets → AreNets n given nets → AreNets n names shown
nets_as n names given nets shown a b are = rw (← a, b) are

-- the first net is the same
pub first_same : (n : Netlist) (names : List Text) (domains : List NetId) (roots : List NetRoot) (used : List Bool) → AreNets n names domains → AreRoots n roots → AreUsed n.library n.instances (length n.nets) used →
    find (is_marked_clock domains roots used) (range_with_len 0 (length roots)) ≡ find (is_clock_as_data n names) (range_with_len 0 (length n.nets))
first_same n names domains roots used are found marks =
    ap (λ (m : ℕ). find (is_marked_clock domains roots used) (range_with_len 0 m)) found.count
    ∙ find_same (is_marked_clock domains roots used) (is_clock_as_data n names) 0 (length n.nets) (λ i less. same_clock n names domains roots used are found marks i (omega arith))

-- ---- one instance

pub judged_no : (n : Netlist) (f : Findings) (i : ℕ) (x : Instance) → may_be_scanned (shape_of n.library x.cell).kind ≡ false → judged_at n f i x ≡ None
judged_no n f i x other = rw other refl

pub judged_yes : (n : Netlist) (f : Findings) (i : ℕ) (x : Instance) (clock : Option (ℕ × Bool)) (held scans kept : Bool) → may_be_scanned (shape_of n.library x.cell).kind ≡ true →
    clock ≡ clock_at f.domains.items f.roots.items (signal_of Clock (connections_of n.library x)) →
    held ≡ are_held_by f.resets.items f.roots.items (signal_of Reset (connections_of n.library x)) (signal_of Preset (connections_of n.library x)) →
    scans ≡ is_some (scan_cell_in n.library x.cell) → kept ≡ get_or f.kept.items i false → judged_at n f i x ≡ judged_by clock held scans kept
judged_yes n f i x clock held scans kept may d h s k = rw (may, ← d, ← h, ← s, ← k) refl
