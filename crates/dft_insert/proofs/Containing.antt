-- A scanned netlist of either style contains its design, where the parts that are made leave the design's nets alone.
use Rattle.std.proofs.Common.{ℕ, suc, ◌+◌, ◌≡◌, ◌==◌, ◌<◌, true, false, List, ◌∷◌, ◌++◌, drop, length, map, slice_get, refl, ap, arith, ◌∙◌, append_assoc, subst, sym, Option}
use Rattle.std.specs.Prelude.{if◌then◌else◌}
use Rattle.std.proofs.lemmas.Bool.{eq-eqb, or_from}
use Rattle.dft_netlist.specs.Netlist.{Netlist}
use Rattle.dft_netlist.specs.Sound.{bits_of}
use Rattle.dft_netlist.specs.Drivers.{Driver, Driven, driven_by_instances, driven_by_ports, driven_by_joins, driver, driver_in}
use Rattle.dft_netlist.specs.Drivers as drivers
use Rattle.dft_behavior.specs.Logic.{flip_flop, meaning_of, logic_of, Cell, cell_or_none}
use Rattle.dft_behavior.specs.Logic as logic
use Rattle.dft_netlist.proofs.RankLemmas.{order_ranks}
use Rattle.dft_behavior.proofs.Ranks.{order_is_rank}
use Rattle.dft_behavior.proofs.StoredLemmas.{kept_cell}
use Rattle.dft_config.specs.Config.{Config}
use Rattle.dft_chains.specs.ScanOff.{moved_meaning, Contains, KeepsFlop}
use Rattle.dft_chains.proofs.ScanOffLemmas.{scan_off}
use Rattle.dft_scan_frame.specs.AddedPorts.{ports_from}
use Rattle.dft_scan_frame.specs.Moves.{moved, moved_join, map_from}
use Rattle.dft_scan_frame.specs.ConfigPorts.{config_ports}
use Rattle.dft_scan_frame.specs.Statements.{IsReady}
use Rattle.dft_scan_frame.proofs.Containing.{flop_matched, clock_choice, flop_past, kept_by, reads_by, shows_by, lockup_by, no_clock, both_kept}
use Rattle.dft_scan_frame.proofs.Fine.{FineBy, driver_fine}
use Rattle.dft_scan_frame.proofs.Kept.{reads_inside}
use Rattle.dft_scan_frame.proofs.Mergings.{moved_driver}
use Rattle.dft_scan_frame.proofs.Whole.{moved_front, moved_apart}
use Rattle.dft_insert.specs.declared.style.Style.{Style}
use Rattle.dft_insert.specs.declared.style.Style.TheVariants.{Plain, Edt}
use Rattle.dft_insert.specs.Ports.{added_ports, gap_in}
use Rattle.dft_insert.specs.Statements.{scanned, made_in}
use Rattle.dft_insert.specs.Agreeing.{edt_clock_net, ports_in, places_in, IsSameWhileOff}
use Rattle.dft_insert.proofs.Driving.{now_at, all_is, AreSpared, driver_kept, skips, ports_below, ports_before}
use Rattle.dft_insert.proofs.Matching.{ports_alike, instance_matched}
use Rattle.dft_insert.proofs.Merging.{news}

-- ---- the port scan_enable

in_front : (net : ℕ) (d : Driver) (rest : List Driven) → driver_in ((net, d) ∷ rest) net ≡ d
in_front net d rest = ap (λ b. if b then d else driver_in rest net) (eq-eqb net net refl)

first_added : (style : Style) (config : Config) (before : ℕ) (rest : List Driven) → driver_in (driven_by_ports (ports_from before (added_ports style config)) ++ rest) before ≡ drivers.Input
first_added Plain config before rest = in_front before drivers.Input (driven_by_ports (ports_from (suc before) (drop 1 (added_ports Plain config))) ++ rest)
first_added Edt config before rest = in_front before drivers.Input (driven_by_ports (ports_from (suc before) (drop 1 (added_ports Edt config))) ++ rest)

enable_driven : (style : Style) (n : Netlist) (config : Config) → IsReady n config → driver (scanned style n config) (gap_in style n config).before ≡ drivers.Input
enable_driven style n config ready =
    let before : ℕ = (gap_in style n config).before in
    let old : List Driven = driven_by_ports n.ports in
    let added : List Driven = driven_by_ports (ports_from before (added_ports style config)) in
    let its : List Driven = driven_by_instances n.library 0 (map_from (now_at style n config) 0 n.instances) ++ driven_by_instances n.library (length n.instances) (news 0 (made_in style n config)) in
    let joins : List Driven = driven_by_joins (map (moved_join (gap_in style n config)) n.joins) in
    ap (λ (ds : List Driven). driver_in ds before) (all_is style n config ready ∙ append_assoc (old ++ added) its joins ∙ append_assoc old added (its ++ joins))
    ∙ skips before old (added ++ (its ++ joins)) (ports_below before n.ports (ports_before n config ready))
    ∙ first_added style config before (its ++ joins)

not_next : (k : ℕ) → (k == k + 1) ≡ false
not_next = grind arith

enable_no_clock : (style : Style) (n : Netlist) (config : Config) → IsReady n config → (ports_in style n config).is_clock (gap_in style n config).before ≡ false
enable_no_clock Plain n config ready = no_clock n config config.domains ready
enable_no_clock Edt n config ready = or_from ((config_ports n config).is_clock (length (bits_of n.ports))) (length (bits_of n.ports) == edt_clock_net n config) (no_clock n config config.domains ready) (not_next (length (bits_of n.ports)))

pub enable_input : (style : Style) (n : Netlist) (config : Config) → IsReady n config → (logic_of (scanned style n config) (ports_in style n config)).net (gap_in style n config).before ≡ logic.Input
enable_input style n config ready =
    ap (meaning_of (scanned style n config) (ports_in style n config) (gap_in style n config).before) (enable_driven style n config ready)
    ∙ ap (λ b. if b then logic.Clock else logic.Input) (enable_no_clock style n config ready)

-- ---- nets and flip-flops

meaning_by : (style : Style) (n : Netlist) (config : Config) (net : ℕ) (d : Driver) → IsReady n config → AreSpared style n config → FineBy n net d →
    meaning_of (scanned style n config) (ports_in style n config) (moved (gap_in style n config) net) (moved_driver (moved (gap_in style n config)) d) ≡ moved_meaning (moved (gap_in style n config)) (meaning_of n (config_ports n config) net d)
meaning_by style n config net drivers.Input ready spared fine =
    ap (λ k. if (ports_in style n config).is_clock k then logic.Clock else logic.Input) (moved_front (gap_in style n config) net fine)
    ∙ ap (λ b. if b then logic.Clock else logic.Input) ((ports_alike style n config).clocks net fine)
    ∙ clock_choice (moved (gap_in style n config)) ((config_ports n config).is_clock net)
meaning_by style n config net (drivers.Gate k inputs) ready spared fine = refl
meaning_by style n config net (drivers.Joined source) ready spared fine = refl
meaning_by style n config net (drivers.Flop i inverted) ready spared fine =
    flop_matched (places_in style n config) i inverted (flip_flop n (config_ports n config) i) (flip_flop (scanned style n config) (ports_in style n config) i) (instance_matched style n config ready spared i fine.0 fine.1)
meaning_by style n config net (drivers.Lockup i) ready spared fine = absurd fine
meaning_by style n config net drivers.Free ready spared fine = refl

meaning_kept : (style : Style) (n : Netlist) (config : Config) (net : ℕ) → IsReady n config → AreSpared style n config → net < length n.nets →
    (logic_of (scanned style n config) (ports_in style n config)).net (moved (gap_in style n config) net) ≡ moved_meaning (moved (gap_in style n config)) ((logic_of n (config_ports n config)).net net)
meaning_kept style n config net ready spared less =
    ap (meaning_of (scanned style n config) (ports_in style n config) (moved (gap_in style n config) net)) (driver_kept style n config net ready spared less)
    ∙ meaning_by style n config net (driver n net) ready spared (driver_fine n config net ready)

flop_kept : (style : Style) (n : Netlist) (config : Config) (i : ℕ) → IsReady n config → AreSpared style n config → (places_in style n config).is_flop i ≡ true →
    KeepsFlop (places_in style n config) ((logic_of n (config_ports n config)).cell i) ((logic_of (scanned style n config) (ports_in style n config)).cell i)
flop_kept style n config i ready spared is =
    let here = flop_past n config i (slice_get n.instances i) refl ready is in
    let matched = instance_matched style n config ready spared i here.0 here.1 in
    let old : Option Cell = flip_flop n (config_ports n config) i in
    let new : Option Cell = flip_flop (scanned style n config) (ports_in style n config) i in
    subst (λ (c : Cell). KeepsFlop (places_in style n config) c ((logic_of (scanned style n config) (ports_in style n config)).cell i)) (sym (kept_cell n (config_ports n config) i is))
    (subst (KeepsFlop (places_in style n config) (cell_or_none i old)) (sym (kept_cell (scanned style n config) (ports_in style n config) i (both_kept (places_in style n config) old new is matched)))
    (kept_by (places_in style n config) i old new is matched))

-- ---- the whole

pub contains : (style : Style) (n : Netlist) (config : Config) → IsReady n config → AreSpared style n config → Contains (logic_of n (config_ports n config)) (logic_of (scanned style n config) (ports_in style n config)) (places_in style n config)
contains style n config ready spared = record {
  apart = moved_apart (gap_in style n config);
  enable = enable_input style n config ready;
  nets = λ net less. meaning_kept style n config net ready spared less;
  closed = λ net less. reads_by n (config_ports n config) net (length n.nets) (driver n net) (driver_fine n config net ready) (reads_inside n config net ready less);
  shown = λ net cell inverted less is. shows_by n (config_ports n config) net cell inverted (driver n net) (driver_fine n config net ready) is;
  flops = λ cell is. flop_kept style n config cell ready spared is;
  no_lockup = λ net cell domain high source less is. lockup_by n (config_ports n config) net cell domain high source (driver n net) (driver_fine n config net ready) is;
}

-- so it behaves as its design while scan is off
pub agrees : (style : Style) (n : Netlist) (config : Config) → IsReady n config → AreSpared style n config → IsSameWhileOff style n config
agrees style n config ready spared now its given ports m o steps others =
    let order = order_ranks n ready.order ready.netlist ready.ordered in
    scan_off (logic_of n (config_ports n config)) (logic_of (scanned style n config) (ports_in style n config)) order.0 (places_in style n config) now its given ports m o steps others
    (order_is_rank n (config_ports n config) order.0 order.1) (contains style n config ready spared)
