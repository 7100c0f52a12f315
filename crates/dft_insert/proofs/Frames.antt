-- The frame: its instances can stand in it, its names differ where no added port is refused, and how it is built up.
use Rattle.std.proofs.Common.{ℕ, zero, suc, ◌+◌, ◌≡◌, ◌≤◌, ◌<◌, Bool, true, false, List, [], ◌∷◌, ◌++◌, length, map, take, drop, Option, None, Some, is_some, refl, sym, subst, ap, arith, ◌∙◌, append_assoc, append-nil, length-append}
use Rattle.std.specs.Prelude.{slice_index_or, pos, nat_le}
use Rattle.std.specs.List.{filter_map, cons_option}
use Rattle.std.proofs.lemmas.List.{length-map, take-append-drop}
use Rattle.std.proofs.lemmas.Option.{same_Some}
use Rattle.dft_base.specs.Lexing.{Text}
use Rattle.dft_cells.specs.declared.kind.Role.{Role}
use Rattle.dft_cells.specs.declared.kind.Role.TheVariants.{Input, Clock, Din, Reset, Preset, ScanIn, ScanEnable, Output, Inverted}
use Rattle.dft_cells.specs.declared.cell.Cell.{Cell}
use Rattle.dft_cells.specs.declared.cell.CellId.{CellId}
use Rattle.dft_cells.specs.WellFormed.{IsWellFormed}
use Rattle.dft_netlist.specs.declared.instance.CellRef.{CellRef}
use Rattle.dft_netlist.specs.declared.instance.CellRef.TheVariants.{Library}
use Rattle.dft_netlist.specs.declared.instance.Signal.{Signal}
use Rattle.dft_netlist.specs.declared.instance.Signal.TheVariants.{Unconnected}
use Rattle.dft_netlist.specs.declared.instance.Instance.{Instance}
use Rattle.dft_netlist.specs.declared.instance.Join.{Join}
use Rattle.dft_netlist.specs.declared.limits.TheConstants.{MAX_NETS}
use Rattle.dft_netlist.specs.declared.error.Counted.TheVariants.{Nets}
use Rattle.dft_netlist.specs.Building.{empty_netlist}
use Rattle.dft_netlist.specs.Drivers.{Shape, shape_of}
use Rattle.dft_netlist.specs.Names.{is_taken, names_taken, instance_name}
use Rattle.dft_netlist.specs.Netlist.{Netlist}
use Rattle.dft_netlist.specs.Sound.{IsNetlist, IsLive, AreLive, IsInstance, IsAJoin, NoConstantOutput, HasOnlyPorts}
use Rattle.dft_netlist.proofs.SoundLemmas.{live_none, live_cons}
use Rattle.dft_netlist.proofs.LiveDriven.{ports_fit as ports_among}
use Rattle.dft_config.specs.Config.{Config}
use Rattle.dft_rules.specs.Refusals.{is_scanned}
use Rattle.dft_rules.specs.Rules.{judged, scan_cell_in}
use Rattle.dft_scan_frame.specs.declared.error.InsertError.TheVariants.{TooMany}
use Rattle.dft_base.specs.declared.dir.Dir.TheVariants as dir
use Rattle.dft_base.proofs.ListLemmas.{at_of_map}
use Rattle.dft_scan_frame.specs.AddedPorts.{NewPort, numbered_ports, port_name, ports_from}
use Rattle.dft_scan_frame.specs.Growing.{AllFit, port_things, net_things, instance_things, join_things, with_things}
use Rattle.dft_scan_frame.specs.Moves.{Gap, moved_signal, moved_join, at_net, map_from}
use Rattle.dft_scan_frame.proofs.AddedNames.{le_by}
use Rattle.dft_scan_frame.proofs.Additions.{both_none}
use Rattle.dft_scan_frame.proofs.Carried.{HasPair, has_pair}
use Rattle.dft_scan_frame.proofs.Fitting.{IsWhole, nets_fit, instances_fit, joins_fit, with_all_nets, with_all_instances, with_all_joins}
use Rattle.dft_scan_frame.proofs.Joined.{join_sound}
use Rattle.dft_scan_frame.proofs.Kept.{numbered_count, ports_count}
use Rattle.dft_scan_frame.proofs.NamesOnce.{times_named, named-append, has_never, taken_times, stands_once}
use Rattle.dft_scan_frame.proofs.Pairs.{shared_roles}
use Rattle.dft_scan_frame.proofs.ScanPairs.{ScanPair}
use Rattle.dft_scan_frame.proofs.SoundParts.{moved_live, moved_outputs, moved_sound, live_drop, live_first, none_none, none_cons, none_drop, none_first, pair_shared, pair_modelled, there, named_by}
use Rattle.dft_scan_frame.proofs.Stages.{before_of, front_count, ports_stand}
use Rattle.dft_scan_frame.proofs.Tabled.{from_at}
use Rattle.dft_scan_frame.proofs.Whole.{length_map_from}
use Rattle.dft_scan_frame.proofs.WholeNames.{length_ports, vectors_counted}
use Rattle.dft_insert.specs.declared.style.Style.{Style}
use Rattle.dft_insert.specs.declared.style.Style.TheVariants.{Plain, Edt}
use Rattle.dft_insert.specs.Frame.{framed_pins, as_scan_cell, framed_instance, framed_at, frame}
use Rattle.dft_insert.specs.Ports.{added_ports, gap_in}
use Rattle.dft_insert.specs.Refusals.{ports_alone, ports_refusal, with_ports, room_refusal, frame_refusal}
use Rattle.dft_insert.proofs.AddedPorts.{AreOnce, added_once, added_few, with_ports_is}

-- ---- scan cells

pub framed_width : (e : Signal) (roles : List Role) (pins : List Signal) → length (framed_pins e roles pins) ≡ length roles
framed_width e [] pins = refl
framed_width e (ScanIn ∷ roles) pins = ap suc (framed_width e roles pins)
framed_width e (ScanEnable ∷ roles) pins = ap suc (framed_width e roles pins)
framed_width e (Input ∷ roles) pins = ap suc (framed_width e roles (drop 1 pins))
framed_width e (Clock ∷ roles) pins = ap suc (framed_width e roles (drop 1 pins))
framed_width e (Din ∷ roles) pins = ap suc (framed_width e roles (drop 1 pins))
framed_width e (Reset ∷ roles) pins = ap suc (framed_width e roles (drop 1 pins))
framed_width e (Preset ∷ roles) pins = ap suc (framed_width e roles (drop 1 pins))
framed_width e (Output ∷ roles) pins = ap suc (framed_width e roles (drop 1 pins))
framed_width e (Inverted ∷ roles) pins = ap suc (framed_width e roles (drop 1 pins))

own_live : (all : ℕ) (e : Signal) (roles : List Role) (pins : List Signal) → AreLive all pins → AreLive all (framed_pins e roles (drop 1 pins)) → AreLive all (slice_index_or pins zero Unconnected ∷ framed_pins e roles (drop 1 pins))
own_live all e roles pins live more = live_cons all (slice_index_or pins zero Unconnected) (framed_pins e roles (drop 1 pins)) (live_first all pins live) more

framed_live : (all : ℕ) (e : Signal) (roles : List Role) (pins : List Signal) → IsLive all e → AreLive all pins → AreLive all (framed_pins e roles pins)
framed_live all e [] pins le live = live_none all
framed_live all e (ScanIn ∷ roles) pins le live = live_cons all Unconnected (framed_pins e roles pins) tt (framed_live all e roles pins le live)
framed_live all e (ScanEnable ∷ roles) pins le live = live_cons all e (framed_pins e roles pins) le (framed_live all e roles pins le live)
framed_live all e (Input ∷ roles) pins le live = own_live all e roles pins live (framed_live all e roles (drop 1 pins) le (live_drop all pins live))
framed_live all e (Clock ∷ roles) pins le live = own_live all e roles pins live (framed_live all e roles (drop 1 pins) le (live_drop all pins live))
framed_live all e (Din ∷ roles) pins le live = own_live all e roles pins live (framed_live all e roles (drop 1 pins) le (live_drop all pins live))
framed_live all e (Reset ∷ roles) pins le live = own_live all e roles pins live (framed_live all e roles (drop 1 pins) le (live_drop all pins live))
framed_live all e (Preset ∷ roles) pins le live = own_live all e roles pins live (framed_live all e roles (drop 1 pins) le (live_drop all pins live))
framed_live all e (Output ∷ roles) pins le live = own_live all e roles pins live (framed_live all e roles (drop 1 pins) le (live_drop all pins live))
framed_live all e (Inverted ∷ roles) pins le live = own_live all e roles pins live (framed_live all e roles (drop 1 pins) le (live_drop all pins live))

framed_outputs : (e : Signal) (roles : List Role) (pins : List Signal) → NoConstantOutput (shared_roles roles) pins → NoConstantOutput roles (framed_pins e roles pins)
framed_outputs e [] pins none = none_none []
framed_outputs e (ScanIn ∷ roles) pins none = none_cons ScanIn roles Unconnected (framed_pins e roles pins) (λ is. absurd cc) (framed_outputs e roles pins none)
framed_outputs e (ScanEnable ∷ roles) pins none = none_cons ScanEnable roles e (framed_pins e roles pins) (λ is. absurd cc) (framed_outputs e roles pins none)
framed_outputs e (Output ∷ roles) pins none =
    none_cons Output roles (slice_index_or pins zero Unconnected) (framed_pins e roles (drop 1 pins)) (λ is bit same. none_first Output (shared_roles roles) pins bit none refl same) (framed_outputs e roles (drop 1 pins) (none_drop Output (shared_roles roles) pins none))
framed_outputs e (Inverted ∷ roles) pins none =
    none_cons Inverted roles (slice_index_or pins zero Unconnected) (framed_pins e roles (drop 1 pins)) (λ is bit same. none_first Inverted (shared_roles roles) pins bit none refl same) (framed_outputs e roles (drop 1 pins) (none_drop Inverted (shared_roles roles) pins none))
framed_outputs e (Input ∷ roles) pins none = none_cons Input roles (slice_index_or pins zero Unconnected) (framed_pins e roles (drop 1 pins)) (λ is. absurd cc) (framed_outputs e roles (drop 1 pins) (none_drop Input (shared_roles roles) pins none))
framed_outputs e (Clock ∷ roles) pins none = none_cons Clock roles (slice_index_or pins zero Unconnected) (framed_pins e roles (drop 1 pins)) (λ is. absurd cc) (framed_outputs e roles (drop 1 pins) (none_drop Clock (shared_roles roles) pins none))
framed_outputs e (Din ∷ roles) pins none = none_cons Din roles (slice_index_or pins zero Unconnected) (framed_pins e roles (drop 1 pins)) (λ is. absurd cc) (framed_outputs e roles (drop 1 pins) (none_drop Din (shared_roles roles) pins none))
framed_outputs e (Reset ∷ roles) pins none = none_cons Reset roles (slice_index_or pins zero Unconnected) (framed_pins e roles (drop 1 pins)) (λ is. absurd cc) (framed_outputs e roles (drop 1 pins) (none_drop Reset (shared_roles roles) pins none))
framed_outputs e (Preset ∷ roles) pins none = none_cons Preset roles (slice_index_or pins zero Unconnected) (framed_pins e roles (drop 1 pins)) (λ is. absurd cc) (framed_outputs e roles (drop 1 pins) (none_drop Preset (shared_roles roles) pins none))

-- a flip-flop and the scan cell that it names
pub scan_pair : (library : List Cell) (ref : CellRef) (id : CellId) → scan_cell_in library ref ≡ Some id → IsWellFormed library → ScanPair (shape_of library ref).kind (shape_of library ref).roles (shape_of library (Library id)).kind (shape_of library (Library id)).roles
scan_pair library ref id e whole =
    let it : HasPair library ref = has_pair library ref (ap is_some e) whole in
    subst (λ (k : CellId). ScanPair (shape_of library ref).kind (shape_of library ref).roles (shape_of library (Library k)).kind (shape_of library (Library k)).roles) (same_Some it.id id (sym it.names ∙ e)) it.pair

scan_sound : (library : List Cell) (gap : Gap) (count all : ℕ) (x : Instance) (id : CellId) → count + gap.width ≤ all → gap.before < all → scan_cell_in library x.cell ≡ Some id → IsWellFormed library → IsInstance library count x.name x.cell x.pins →
    IsInstance library all x.name (Library id) (framed_pins (at_net gap.before) (shape_of library (Library id)).roles (map (moved_signal gap) x.pins))
scan_sound library gap count all x id le lenable names whole sound =
    let s : Shape = shape_of library x.cell in
    let t : Shape = shape_of library (Library id) in
    let pair : ScanPair s.kind s.roles t.kind t.roles = scan_pair library x.cell id names whole in
    let pins : List Signal = map (moved_signal gap) x.pins in record {
      fits = (there library id (pair_modelled s.kind s.roles t.kind t.roles pair), named_by library x.name x.cell id names sound.fits);
      width = framed_width (at_net gap.before) t.roles pins;
      live = framed_live all (at_net gap.before) t.roles pins lenable (moved_live gap count all x.pins le sound.live);
      outputs = framed_outputs (at_net gap.before) t.roles pins (subst (λ (rs : List Role). NoConstantOutput rs pins) (pair_shared s.kind s.roles t.kind t.roles pair) (moved_outputs gap s.roles x.pins sound.outputs));
    }

-- an instance of the frame can stand among so many nets
abbrev Stands : List Cell → (all : ℕ) → Instance → Type 0
Stands library all y = IsInstance library all y.name y.cell y.pins

cell_sound : (library : List Cell) (gap : Gap) (count all : ℕ) (x : Instance) (o : Option CellId) → scan_cell_in library x.cell ≡ o → count + gap.width ≤ all → gap.before < all → IsWellFormed library → IsInstance library count x.name x.cell x.pins → Stands library all (as_scan_cell library gap x o)
cell_sound library gap count all x None e le lenable whole sound = moved_sound library gap count all x le sound
cell_sound library gap count all x (Some id) e le lenable whole sound = scan_sound library gap count all x id le lenable e whole sound

framed_sound : (library : List Cell) (gap : Gap) (count all : ℕ) (x : Instance) (b : Bool) → count + gap.width ≤ all → gap.before < all → IsWellFormed library → IsInstance library count x.name x.cell x.pins → Stands library all (framed_instance library gap b x)
framed_sound library gap count all x false le lenable whole sound = moved_sound library gap count all x le sound
framed_sound library gap count all x true le lenable whole sound = cell_sound library gap count all x (scan_cell_in library x.cell) refl le lenable whole sound

-- ---- names

cell_named : (library : List Cell) (gap : Gap) (x : Instance) (o : Option CellId) → (as_scan_cell library gap x o).name ≡ x.name
cell_named library gap x None = refl
cell_named library gap x (Some id) = refl

pub framed_named : (library : List Cell) (gap : Gap) (b : Bool) (x : Instance) → (framed_instance library gap b x).name ≡ x.name
framed_named library gap false x = refl
framed_named library gap true x = cell_named library gap x (scan_cell_in library x.cell)

names_kept : (n : Netlist) (config : Config) (gap : Gap) (i : ℕ) (xs : List Instance) → filter_map instance_name (map_from (framed_at n config gap) i xs) ≡ filter_map instance_name xs
names_kept n config gap i [] = refl
names_kept n config gap i (x ∷ xs) =
    ap (λ (o : Option Text). cons_option o (filter_map instance_name (map_from (framed_at n config gap) (suc i) xs))) (framed_named n.library gap (is_scanned (judged n config i)) x)
    ∙ ap (λ names. cons_option x.name names) (names_kept n config gap (suc i) xs)

nets_counted : (q : Text) (k : ℕ) (xs added : List Text) → times_named q (take k xs ++ (added ++ drop k xs)) ≡ times_named q xs + times_named q added
nets_counted q k xs added =
    omega (arith, named-append q (take k xs) (added ++ drop k xs), named-append q added (drop k xs), named-append q (take k xs) (drop k xs), ap (times_named q) (take-append-drop k xs))

-- a name stands in the frame as often as in the design and among the added ports
frame_counted : (style : Style) (n : Netlist) (config : Config) (q : Text) → times_named q (names_taken (frame style n config)) ≡ times_named q (names_taken n) + times_named q (map port_name (added_ports style config))
frame_counted style n config q =
    let gap : Gap = gap_in style n config in
    omega (
      arith,
      taken_times q (frame style n config),
      taken_times q n,
      nets_counted q gap.before n.nets (map port_name (added_ports style config)),
      vectors_counted q gap.before n.ports (added_ports style config),
      ap (times_named q) (names_kept n config gap 0 n.instances),
    )

once_in_all : (n : Netlist) (q : Text) (taken : ℕ) (names : List Text) (b : Bool) → is_taken n q ≡ b → times_named q (names_taken n) ≤ 1 → AreOnce n q taken names → times_named q (names_taken n) + times_named q names ≤ 1
once_in_all n q taken names true is once added = omega (arith, once, added.design is)
once_in_all n q taken names false is once added = omega (arith, has_never q (names_taken n) is, added.once)

-- ---- counts

nets_count : (k : ℕ) (xs added : List Text) → length (take k xs ++ (added ++ drop k xs)) ≡ length xs + length added
nets_count k xs added = omega (arith, length-append (take k xs) (added ++ drop k xs), length-append added (drop k xs), length-append (take k xs) (drop k xs), ap length (take-append-drop k xs))

pub frame_nets : (style : Style) (n : Netlist) (config : Config) → length (frame style n config).nets ≡ length n.nets + length (added_ports style config)
frame_nets style n config =
    omega (arith, nets_count (gap_in style n config).before n.nets (map port_name (added_ports style config)), length-map (added_ports style config) port_name)

pub frame_ports : (style : Style) (n : Netlist) (config : Config) → length (frame style n config).ports ≡ length n.ports + length (added_ports style config)
frame_ports style n config = omega (arith, length-append n.ports (ports_from (gap_in style n config).before (added_ports style config)), length_ports (gap_in style n config).before (added_ports style config))

-- each style adds a port
pub some_ports : (style : Style) (config : Config) → 0 < length (added_ports style config)
some_ports Plain config = omega arith
some_ports Edt config = omega arith

-- style Plain adds so many, and so does style Edt
pub plain_count : (config : Config) → length (added_ports Plain config) ≡ 1 + config.chains + config.chains
plain_count config = ports_count config

pub edt_count : (config : Config) → length (added_ports Edt config) ≡ 3 + config.ring.channels + config.compactor.mask_inputs + length config.compactor.groups
edt_count config =
    let channels : List NewPort = numbered_ports dir.Input config.names.channel config.ring.channels in
    let masks : List NewPort = numbered_ports dir.Input config.names.mask config.compactor.mask_inputs in
    let outputs : List NewPort = numbered_ports dir.Output config.names.output (length config.compactor.groups) in
    omega (
      arith,
      length-append channels (masks ++ outputs),
      length-append masks outputs,
      numbered_count dir.Input config.names.channel config.ring.channels,
      numbered_count dir.Input config.names.mask config.compactor.mask_inputs,
      numbered_count dir.Output config.names.output (length config.compactor.groups),
    )

-- ---- the frame is whole

pub frame_whole : (style : Style) (n : Netlist) (config : Config) → IsNetlist n → frame_refusal style n config ≡ None → IsWhole (frame style n config)
frame_whole style n config sound e =
    let added : List NewPort = added_ports style config in
    let both = both_none (ports_refusal n (ports_alone n) added) (room_refusal n (length added)) e in
    record {
      once = λ q. omega (
        arith,
        frame_counted style n config q,
        once_in_all n q (times_named q (names_taken (ports_alone n))) (map port_name added) (is_taken n q) refl (stands_once q n sound.names) (added_once n (ports_alone n) added q both.first),
      );
      few_ports = omega (arith, frame_ports style n config, added_few n (ports_alone n) added both.first sound.few_ports);
      few_nets = omega (arith, frame_nets style n config, le_by (length n.nets + length added) MAX_NETS (TooMany Nets (pos MAX_NETS)) (nat_le (length n.nets + length added) MAX_NETS) refl both.later);
      few_instances = omega (arith, length_map_from (framed_at n config (gap_in style n config)) 0 n.instances, sound.few_instances);
    }

-- ---- stage by stage

pub ports_done : (n : Netlist) (b new : Netlist) → IsNetlist n → b ≡ empty_netlist n.name n.library → new ≡ with_things b (port_things n.ports) → new ≡ ports_alone n
ports_done n b new sound is added = ports_stand n b new sound is added

-- all nets of the ports alone are their bits
pub only_ports : (n : Netlist) → IsNetlist n → HasOnlyPorts (ports_alone n)
only_ports n sound = front_count n sound

-- the added ports behind them
abbrev pub with_added : Style → Netlist → Config → Netlist
with_added style n config = record (ports_alone n) {
  ports = n.ports ++ ports_from (before_of n) (added_ports style config);
  nets = take (before_of n) n.nets ++ map port_name (added_ports style config);
}

pub added_stand : (style : Style) (n : Netlist) (config : Config) → IsNetlist n → with_ports (ports_alone n) (added_ports style config) ≡ with_added style n config
added_stand style n config sound =
    with_ports_is (ports_alone n) (added_ports style config)
    ∙ ap (λ k. record (ports_alone n) { ports = n.ports ++ ports_from k (added_ports style config); nets = take (before_of n) n.nets ++ map port_name (added_ports style config) }) (front_count n sound)

-- the other nets, the joins
abbrev pub with_others : Style → Netlist → Config → Netlist
with_others style n config = record (with_added style n config) { nets = (take (before_of n) n.nets ++ map port_name (added_ports style config)) ++ drop (before_of n) n.nets }

abbrev pub with_joins : Style → Netlist → Config → Netlist
with_joins style n config = record (with_others style n config) { joins = map (moved_join (gap_in style n config)) n.joins }

pub others_pass : (style : Style) (n : Netlist) (config : Config) (b : Netlist) → IsWhole (frame style n config) → b ≡ with_added style n config → AllFit b (net_things (drop (before_of n) n.nets))
others_pass style n config b whole is =
    let w : Netlist = frame style n config in
    subst (λ (m : Netlist). AllFit m (net_things (drop (before_of n) n.nets))) (sym is)
    (nets_fit w (with_added style n config) (drop (before_of n) n.nets) [] [] w.instances whole
    (record {
      its_ports = sym (append-nil w.ports);
      its_nets = sym (append_assoc (take (before_of n) n.nets) (map port_name (added_ports style config)) (drop (before_of n) n.nets)) ∙ ap (λ xs. (take (before_of n) n.nets ++ map port_name (added_ports style config)) ++ xs) (sym (append-nil (drop (before_of n) n.nets)));
      its_instances = refl;
    }))

pub others_done : (style : Style) (n : Netlist) (config : Config) (b new : Netlist) → b ≡ with_added style n config → new ≡ with_things b (net_things (drop (before_of n) n.nets)) → new ≡ with_others style n config
others_done style n config b new is more =
    more ∙ ap (λ (m : Netlist). with_things m (net_things (drop (before_of n) n.nets))) is ∙ with_all_nets (with_added style n config) (drop (before_of n) n.nets)

others_count : (style : Style) (n : Netlist) (config : Config) → length (with_others style n config).nets ≡ length n.nets + length (added_ports style config)
others_count style n config =
    ap length (append_assoc (take (before_of n) n.nets) (map port_name (added_ports style config)) (drop (before_of n) n.nets)) ∙ frame_nets style n config

pub joins_pass : (style : Style) (n : Netlist) (config : Config) (b : Netlist) → IsNetlist n → b ≡ with_others style n config → AllFit b (join_things (map (moved_join (gap_in style n config)) n.joins))
joins_pass style n config b sound is =
    let gap : Gap = gap_in style n config in
    subst (λ (m : Netlist). AllFit m (join_things (map (moved_join gap) n.joins))) (sym is)
    (joins_fit (with_others style n config) (map (moved_join gap) n.joins)
    (λ k join at.
    let it = at_of_map (moved_join gap) n.joins k join at in
    subst (λ (j : Join). IsAJoin (length (with_others style n config).nets) j.target j.source) it.2
    (join_sound gap (length n.nets) (length (with_others style n config).nets) it.0 (omega (arith, others_count style n config)) (sound.joins k it.0 it.1))))

pub joins_done : (style : Style) (n : Netlist) (config : Config) (b new : Netlist) → b ≡ with_others style n config → new ≡ with_things b (join_things (map (moved_join (gap_in style n config)) n.joins)) → new ≡ with_joins style n config
joins_done style n config b new is more =
    let joins : List Join = map (moved_join (gap_in style n config)) n.joins in
    more ∙ ap (λ (m : Netlist). with_things m (join_things joins)) is ∙ with_all_joins (with_others style n config) joins

-- the instances
pub instances_pass : (style : Style) (n : Netlist) (config : Config) (b : Netlist) → IsNetlist n → IsWellFormed n.library → IsWhole (frame style n config) → 0 < length (added_ports style config) → b ≡ with_joins style n config →
    AllFit b (instance_things (map_from (framed_at n config (gap_in style n config)) 0 n.instances))
instances_pass style n config b sound library whole some is =
    let gap : Gap = gap_in style n config in
    let w : Netlist = frame style n config in
    let framed : List Instance = map_from (framed_at n config gap) 0 n.instances in
    let m : Netlist = with_joins style n config in
    subst (λ (o : Netlist). AllFit o (instance_things framed)) (sym is)
    (instances_fit w m framed [] [] [] whole
    (record {
      its_ports = sym (append-nil w.ports);
      its_nets = sym (append_assoc (take (before_of n) n.nets) (map port_name (added_ports style config)) (drop (before_of n) n.nets)) ∙ sym (append-nil m.nets);
      its_instances = sym (append-nil framed);
    })
    (λ k y at.
    let it = from_at (framed_at n config gap) 0 n.instances k y at in
    subst (Stands n.library (length m.nets)) it.2
    (framed_sound n.library gap (length n.nets) (length m.nets) it.0 (is_scanned (judged n config (0 + k))) (omega (arith, others_count style n config)) (omega (arith, others_count style n config, some, ports_among n sound)) library (sound.instances k it.0 it.1))))

pub instances_done : (style : Style) (n : Netlist) (config : Config) (b new : Netlist) → b ≡ with_joins style n config → new ≡ with_things b (instance_things (map_from (framed_at n config (gap_in style n config)) 0 n.instances)) → new ≡ frame style n config
instances_done style n config b new is more =
    let framed : List Instance = map_from (framed_at n config (gap_in style n config)) 0 n.instances in
    more ∙ ap (λ (m : Netlist). with_things m (instance_things framed)) is ∙ with_all_instances (with_joins style n config) framed
    ∙ ap (λ nets. record (frame style n config) { nets = nets }) (append_assoc (take (before_of n) n.nets) (map port_name (added_ports style config)) (drop (before_of n) n.nets))
