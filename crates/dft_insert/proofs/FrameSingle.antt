-- No net of a frame has two drivers, and its added outputs have none.
use Rattle.std.proofs.Common.{ℕ, zero, suc, ◌+◌, ◌≡◌, ◌<◌, ◌≤◌, ◌==◌, ◌⊎◌, inl, inr, Bool, true, false, List, [], ◌∷◌, ◌++◌, length, map, Option, None, Some, slice_get, refl, sym, subst, ap, arith, ◌∙◌, append_assoc}
use Rattle.std.proofs.lemmas.List.{append-nil, length-append}
use Rattle.std.proofs.lemmas.Bool.{cases_lt}
use Rattle.dft_base.specs.declared.dir.Dir.{Dir}
use Rattle.dft_base.specs.declared.dir.Dir.TheVariants as dir
use Rattle.dft_base.proofs.NumberLemmas.{less_apart}
use Rattle.dft_cells.specs.declared.kind.Kind.{Kind}
use Rattle.dft_cells.specs.declared.kind.Role.{Role}
use Rattle.dft_cells.specs.declared.cell.Cell.{Cell}
use Rattle.dft_cells.specs.declared.cell.CellId.{CellId}
use Rattle.dft_cells.specs.WellFormed.{IsWellFormed}
use Rattle.dft_netlist.specs.declared.ids.NetId.{NetId}
use Rattle.dft_netlist.specs.declared.port.Port.{Port}
use Rattle.dft_netlist.specs.declared.instance.Instance.{Instance}
use Rattle.dft_netlist.specs.declared.instance.CellRef.TheVariants.{Library}
use Rattle.dft_netlist.specs.declared.instance.Signal.{Signal}
use Rattle.dft_netlist.specs.declared.instance.Signal.TheVariants.{Net, Constant, Unconnected}
use Rattle.dft_netlist.specs.Drivers.{Source, Input, Flop, Driven, at_signal, Shape, connections_from, connections_of, inputs_of, driven_by_pins, driven_by, driven_by_instances, driven_by_bits, driven_by_ports, driven_by_joins, all_driven, shape_of}
use Rattle.dft_netlist.specs.Netlist.{Netlist}
use Rattle.dft_netlist.specs.NetDrivers.{IsSingle, times_driven}
use Rattle.dft_netlist.specs.Sound.{bits_of}
use Rattle.dft_netlist.proofs.LiveDriven.{DriveBelow, AreBefore, before_front, before_back, nets_before, drives_below}
use Rattle.dft_config.specs.Config.{Config}
use Rattle.dft_rules.specs.Refusals.{is_scanned}
use Rattle.dft_rules.specs.Rules.{judged, scan_cell_in}
use Rattle.dft_scan_frame.specs.AddedPorts.{NewPort, new_port, numbered_ports, ports_from}
use Rattle.dft_scan_frame.specs.Moves.{Gap, moved, moved_signal, map_from, at_net}
use Rattle.dft_scan_frame.specs.Statements.{IsReady}
use Rattle.dft_scan_frame.proofs.AddedOnce.{ports_rise, outputs_none, ports_below}
use Rattle.dft_scan_frame.proofs.Kept.{numbered_count}
use Rattle.dft_scan_frame.proofs.Mergings.{moved_driven, Merges, Nothing, append_merges, all_kept, all_added, NoneAt, times, old_times, moved_instance_drives, moved_joins_drive, ports_append}
use Rattle.dft_scan_frame.proofs.ScanPairs.{ScanPair, Plain as PlainPair, PlainBoth, Resets, ResetsBoth, Sets, SetsBoth, three, four, five}
use Rattle.dft_scan_frame.proofs.Single.{IsMovedOrNew, IsMoved, IsNone, moved_or_new}
use Rattle.dft_scan_frame.proofs.Times.{Rises, rises_once, past_none, added_times_live}
use Rattle.dft_scan_frame.proofs.Whole.{moved_front, moved_back, moved_apart}
use Rattle.dft_insert.specs.declared.style.Style.{Style}
use Rattle.dft_insert.specs.declared.style.Style.TheVariants.{Plain, Edt}
use Rattle.dft_insert.specs.Frame.{framed_pins, as_scan_cell, framed_instance, framed_at, frame}
use Rattle.dft_insert.specs.Ports.{added_ports, gap_in}
use Rattle.dft_insert.proofs.Frames.{scan_pair}
use Rattle.dft_insert.proofs.FrameRanks.{outs_start, laid}
use Rattle.dft_insert.proofs.Merging.{differ_down}

-- ---- a scan cell drives what its flip-flop drove

abbrev Same : (gap : Gap) → (i : ℕ) → (e : Signal) → (inputs its : List Source) → Kind → List Role → Kind → List Role → List Signal → Type 0
Same gap i e inputs its k old scan new pins =
    driven_by_pins scan i its (connections_from 0 new (framed_pins e new (map (moved_signal gap) pins))) ≡ map (moved_driven (moved gap)) (driven_by_pins k i inputs (connections_from 0 old pins))

module _ (gap : Gap) (i : ℕ) (e : Signal) (inputs its : List Source) where
  at_one : (c : Signal) → at_signal (moved_signal gap c) (Flop i false) ++ [] ≡ map (moved_driven (moved gap)) (at_signal c (Flop i false) ++ [])
  at_one (Net c) = refl
  at_one (Constant c) = refl
  at_one Unconnected = refl

  at_both : (c d : Signal) → at_signal (moved_signal gap c) (Flop i false) ++ (at_signal (moved_signal gap d) (Flop i true) ++ []) ≡ map (moved_driven (moved gap)) (at_signal c (Flop i false) ++ (at_signal d (Flop i true) ++ []))
  at_both (Net c) (Net d) = refl
  at_both (Net c) (Constant d) = refl
  at_both (Net c) Unconnected = refl
  at_both (Constant c) (Net d) = refl
  at_both (Constant c) (Constant d) = refl
  at_both (Constant c) Unconnected = refl
  at_both Unconnected (Net d) = refl
  at_both Unconnected (Constant d) = refl
  at_both Unconnected Unconnected = refl

  pair_drives : (k : Kind) (old : List Role) (scan : Kind) (new : List Role) (pins : List Signal) → ScanPair k old scan new → length pins ≡ length old → Same gap i e inputs its k old scan new pins
  pair_drives k old scan new pins PlainPair wide = let p = three pins wide in subst (Same gap i e inputs its k old scan new) (sym p.3) (at_one p.2)
  pair_drives k old scan new pins PlainBoth wide = let p = four pins wide in subst (Same gap i e inputs its k old scan new) (sym p.4) (at_both p.2 p.3)
  pair_drives k old scan new pins Resets wide = let p = four pins wide in subst (Same gap i e inputs its k old scan new) (sym p.4) (at_one p.3)
  pair_drives k old scan new pins ResetsBoth wide = let p = five pins wide in subst (Same gap i e inputs its k old scan new) (sym p.5) (at_both p.3 p.4)
  pair_drives k old scan new pins Sets wide = let p = four pins wide in subst (Same gap i e inputs its k old scan new) (sym p.4) (at_one p.3)
  pair_drives k old scan new pins SetsBoth wide = let p = five pins wide in subst (Same gap i e inputs its k old scan new) (sym p.5) (at_both p.3 p.4)

-- ---- instances of the frame

cell_drives : (library : List Cell) (gap : Gap) (i : ℕ) (x : Instance) (o : Option CellId) → IsWellFormed library → length x.pins ≡ length (shape_of library x.cell).roles → scan_cell_in library x.cell ≡ o → driven_by library i (as_scan_cell library gap x o) ≡ map (moved_driven (moved gap)) (driven_by library i x)
cell_drives library gap i x None well wide names = moved_instance_drives library gap i x
cell_drives library gap i x (Some id) well wide names =
    let s : Shape = shape_of library x.cell in
    let t : Shape = shape_of library (Library id) in
    let pins = framed_pins (at_net gap.before) t.roles (map (moved_signal gap) x.pins) in
    pair_drives gap i (at_net gap.before) (inputs_of i (connections_of library x)) (inputs_of i (connections_from 0 t.roles pins)) s.kind s.roles t.kind t.roles x.pins (scan_pair library x.cell id names well) wide

framed_drives : (library : List Cell) (gap : Gap) (i : ℕ) (b : Bool) (x : Instance) → IsWellFormed library → length x.pins ≡ length (shape_of library x.cell).roles → driven_by library i (framed_instance library gap b x) ≡ map (moved_driven (moved gap)) (driven_by library i x)
framed_drives library gap i false x well wide = moved_instance_drives library gap i x
framed_drives library gap i true x well wide = cell_drives library gap i x (scan_cell_in library x.cell) well wide refl

instances_merge : (n : Netlist) (config : Config) (gap : Gap) (i : ℕ) (xs : List Instance) → IsWellFormed n.library → ((k : ℕ) (x : Instance) → slice_get xs k ≡ Some x → length x.pins ≡ length (shape_of n.library x.cell).roles) →
    Merges (moved gap) (driven_by_instances n.library i xs) [] (driven_by_instances n.library i (map_from (framed_at n config gap) i xs))
instances_merge n config gap i [] well wide = Nothing
instances_merge n config gap i (x ∷ xs) well wide =
    append_merges (moved gap) (driven_by n.library i x) [] (driven_by n.library i (framed_at n config gap i x)) (driven_by_instances n.library (suc i) xs) [] (driven_by_instances n.library (suc i) (map_from (framed_at n config gap) (suc i) xs))
    (subst (Merges (moved gap) (driven_by n.library i x) []) (sym (framed_drives n.library gap i (is_scanned (judged n config i)) x well (wide zero x refl))) (all_kept (moved gap) (driven_by n.library i x)))
    (instances_merge n config gap (suc i) xs well (λ k z at. wide (suc k) z at))

-- ---- ports

bits_stay : (gap : Gap) (d : Dir) (bits : List NetId) → AreBefore gap.before bits → map (moved_driven (moved gap)) (driven_by_bits d bits) ≡ driven_by_bits d bits
bits_stay gap dir.Output bits h = refl
bits_stay gap dir.Input [] h = refl
bits_stay gap dir.Input (net ∷ bits) h = λ j. (moved_front gap net.0 h.0 j, Input) ∷ bits_stay gap dir.Input bits h.1 j

ports_merge : (gap : Gap) (ports : List Port) → AreBefore gap.before (bits_of ports) → Merges (moved gap) (driven_by_ports ports) [] (driven_by_ports ports)
ports_merge gap [] h = Nothing
ports_merge gap (port ∷ ports) h =
    append_merges (moved gap) (driven_by_bits port.dir port.bits) [] (driven_by_bits port.dir port.bits) (driven_by_ports ports) [] (driven_by_ports ports)
    (subst (Merges (moved gap) (driven_by_bits port.dir port.bits) []) (bits_stay gap port.dir port.bits (before_front gap.before port.bits (bits_of ports) h)) (all_kept (moved gap) (driven_by_bits port.dir port.bits)))
    (ports_merge gap ports (before_back gap.before port.bits (bits_of ports) h))

-- what the added ports drive
abbrev pub added_drives : Style → Netlist → Config → List Driven
added_drives style n config = driven_by_ports (ports_from (gap_in style n config).before (added_ports style config))

frame_merges : (style : Style) (n : Netlist) (config : Config) → IsReady n config → Merges (moved (gap_in style n config)) (all_driven n) ((added_drives style n config ++ []) ++ []) (all_driven (frame style n config))
frame_merges style n config ready =
    let gap : Gap = gap_in style n config in
    let w : Netlist = frame style n config in
    let old = driven_by_ports n.ports in
    let new = added_drives style n config in
    let before : AreBefore gap.before (bits_of n.ports) = subst (AreBefore gap.before) (sym ready.netlist.numbered) (nets_before 0 gap.before gap.before (omega arith)) in
    let ports : Merges (moved gap) old new (driven_by_ports w.ports) =
    subst (Merges (moved gap) old new) (sym (ports_append n.ports (ports_from gap.before (added_ports style config))))
    (subst (λ (ds : List Driven). Merges (moved gap) ds new (old ++ new)) (append-nil old) (append_merges (moved gap) old [] old [] new new (ports_merge gap n.ports before) (all_added (moved gap) new))) in
    let instances = instances_merge n config gap 0 n.instances ready.library (λ k x at. (ready.netlist.instances k x at).width) in
    let joins : Merges (moved gap) (driven_by_joins n.joins) [] (driven_by_joins w.joins) = subst (Merges (moved gap) (driven_by_joins n.joins) []) (sym (moved_joins_drive gap n.joins)) (all_kept (moved gap) (driven_by_joins n.joins)) in
    append_merges (moved gap) (old ++ driven_by_instances n.library 0 n.instances) (new ++ []) (driven_by_ports w.ports ++ driven_by_instances n.library 0 w.instances) (driven_by_joins n.joins) [] (driven_by_joins w.joins)
    (append_merges (moved gap) old new (driven_by_ports w.ports) (driven_by_instances n.library 0 n.instances) [] (driven_by_instances n.library 0 w.instances) ports instances) joins

-- ---- the added inputs

added_below : (style : Style) (n : Netlist) (config : Config) → DriveBelow (outs_start style n config) (added_drives style n config)
added_below Plain n config =
    let before = (gap_in Plain n config).before in
    let inputs : List NewPort = new_port dir.Input config.names.scan_enable ∷ numbered_ports dir.Input config.names.scan_in config.chains in
    subst (λ (k : ℕ). DriveBelow k (added_drives Plain n config)) (let e : before + suc (length (numbered_ports dir.Input config.names.scan_in config.chains)) ≡ outs_start Plain n config = omega (arith, numbered_count dir.Input config.names.scan_in config.chains) in e)
    (ports_below before inputs (numbered_ports dir.Output config.names.scan_out config.chains) (λ k. outputs_none k config.names.scan_out 0 config.chains))
added_below Edt n config =
    let before = (gap_in Edt n config).before in
    let channels : List NewPort = numbered_ports dir.Input config.names.channel config.ring.channels in
    let masks : List NewPort = numbered_ports dir.Input config.names.mask config.compactor.mask_inputs in
    let outputs : List NewPort = numbered_ports dir.Output config.names.output (length config.compactor.groups) in
    let a : NewPort = new_port dir.Input config.names.scan_enable in
    let b : NewPort = new_port dir.Input config.names.edt_clock in
    let c : NewPort = new_port dir.Input config.names.edt_update in
    let inputs : List NewPort = a ∷ b ∷ c ∷ (channels ++ masks) in
    let size : before + length inputs ≡ outs_start Edt n config = omega (arith, length-append channels masks, numbered_count dir.Input config.names.channel config.ring.channels, numbered_count dir.Input config.names.mask config.compactor.mask_inputs) in
    subst (λ (k : ℕ). DriveBelow k (added_drives Edt n config)) size
    (subst (λ (ports : List NewPort). DriveBelow (before + length inputs) (driven_by_ports (ports_from before (a ∷ b ∷ c ∷ ports)))) (append_assoc channels masks outputs)
    (ports_below before inputs outputs (λ k. outputs_none k config.names.output 0 (length config.compactor.groups))))

none_before : (from net : ℕ) (ds : List Driven) → Rises from ds → net < from → NoneAt ds net
none_before from net [] h less = tt
none_before from net (d ∷ ds) h less = (differ_down d.0 net (omega (arith, h.0, less)), none_before (suc d.0) net ds h.1 (omega (arith, h.0, less)))

none_behind : (to net : ℕ) (ds : List Driven) → DriveBelow to ds → to ≤ net → NoneAt ds net
none_behind to net [] h past = tt
none_behind to net (d ∷ ds) h past = (less_apart d.0 net (omega (arith, h.0, past)), none_behind to net ds h.1 past)

-- no added port drives a net of the design
none_moved : (style : Style) (n : Netlist) (config : Config) (own : ℕ) → IsReady n config → (own < (gap_in style n config).before) ⊎ ((gap_in style n config).before ≤ own) → NoneAt (added_drives style n config) (moved (gap_in style n config) own)
none_moved style n config own ready (inl front) =
    let gap = gap_in style n config in
    subst (NoneAt (added_drives style n config)) (sym (moved_front gap own front)) (none_before gap.before own (added_drives style n config) (ports_rise gap.before (added_ports style config)) front)
none_moved style n config own ready (inr back) =
    let gap = gap_in style n config in
    subst (NoneAt (added_drives style n config)) (sym (moved_back gap own back)) (none_behind (outs_start style n config) (own + gap.width) (added_drives style n config) (added_below style n config) (omega (arith, back, (laid style n config ready).end)))

-- the drivers of the frame that are not the design's
padded : (style : Style) (n : Netlist) (config : Config) → (added_drives style n config ++ []) ++ [] ≡ added_drives style n config
padded style n config = append-nil (added_drives style n config ++ []) ∙ append-nil (added_drives style n config)

merges : (style : Style) (n : Netlist) (config : Config) → IsReady n config → Merges (moved (gap_in style n config)) (all_driven n) (added_drives style n config) (all_driven (frame style n config))
merges style n config ready = subst (λ (ds : List Driven). Merges (moved (gap_in style n config)) (all_driven n) ds (all_driven (frame style n config))) (padded style n config) (frame_merges style n config ready)

-- a net that is none of the design's is driven by the added ports alone
other_times : (style : Style) (n : Netlist) (config : Config) (net : ℕ) → IsReady n config → ((k : ℕ) → k < length n.nets → (moved (gap_in style n config) k == net) ≡ false) → times_driven (frame style n config) net ≡ times net (added_drives style n config)
other_times style n config net ready apart =
    added_times_live (moved (gap_in style n config)) net (length n.nets) (all_driven n) (added_drives style n config) (all_driven (frame style n config)) apart (drives_below n ready.netlist) (merges style n config ready)

frame_by : (style : Style) (n : Netlist) (config : Config) (net : ℕ) → IsReady n config → IsMovedOrNew (gap_in style n config) (length n.nets) net → times_driven (frame style n config) net ≤ 1
frame_by style n config net ready (IsMoved {own = own} less is) =
    let gap = gap_in style n config in
    let w : Netlist = frame style n config in
    subst (λ (k : ℕ). times_driven w k ≤ 1) is
    (subst (λ (m : ℕ). m ≤ 1) (sym (old_times (moved gap) own (all_driven n) (added_drives style n config) (all_driven w) (moved_apart gap) (merges style n config ready) (none_moved style n config own ready (cases_lt own gap.before)))) (ready.single own))
frame_by style n config net ready (IsNone apart) =
    subst (λ (m : ℕ). m ≤ 1) (sym (other_times style n config net ready apart)) (rises_once net (gap_in style n config).before (added_drives style n config) (ports_rise (gap_in style n config).before (added_ports style config)))

-- no net of the frame has two drivers
pub frame_single : (style : Style) (n : Netlist) (config : Config) → IsReady n config → IsSingle (frame style n config)
frame_single style n config ready net = frame_by style n config net ready (moved_or_new (gap_in style n config) (length n.nets) net (laid style n config ready).before)

moved_not : (gap : Gap) (count k net : ℕ) → (k < gap.before) ⊎ (gap.before ≤ k) → k < count → gap.before ≤ net → (net < gap.before + gap.width) ⊎ (count + gap.width ≤ net) → (moved gap k == net) ≡ false
moved_not gap count k net (inl front) less from (inl inside) = ap (λ (m : ℕ). m == net) (moved_front gap k front) ∙ less_apart k net (omega (arith, front, from))
moved_not gap count k net (inl front) less from (inr past) = ap (λ (m : ℕ). m == net) (moved_front gap k front) ∙ less_apart k net (omega (arith, front, from))
moved_not gap count k net (inr back) less from (inl inside) = ap (λ (m : ℕ). m == net) (moved_back gap k back) ∙ differ_down (k + gap.width) net (omega (arith, back, inside))
moved_not gap count k net (inr back) less from (inr past) = ap (λ (m : ℕ). m == net) (moved_back gap k back) ∙ less_apart (k + gap.width) net (omega (arith, less, past))

-- an added output, or a net past the end, has no driver in the frame
pub frame_free : (style : Style) (n : Netlist) (config : Config) (net : ℕ) → IsReady n config → outs_start style n config ≤ net → (net < (gap_in style n config).before + (gap_in style n config).width) ⊎ (length n.nets + (gap_in style n config).width ≤ net) →
    times_driven (frame style n config) net ≡ 0
frame_free style n config net ready from where_it =
    let gap = gap_in style n config in
    other_times style n config net ready (λ k less. moved_not gap (length n.nets) k net (cases_lt k gap.before) less (omega (arith, from, (laid style n config ready).start)) where_it)
    ∙ past_none net (outs_start style n config) (added_drives style n config) (added_below style n config) from
