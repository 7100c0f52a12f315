-- The nets of a design keep their drivers in its scanned netlist.
use Rattle.std.proofs.Common.{ℕ, zero, suc, ◌+◌, ◌≡◌, ◌==◌, ◌<◌, ◌≤◌, inl, inr, Bool, true, false, nat_lt, List, [], ◌∷◌, ◌++◌, length, map, Option, None, Some, is_some, option_and_then, slice_get, refl, sym, subst, ap, arith, ◌∙◌, append-nil}
use Rattle.std.specs.Prelude.{slice_index_or, if◌then◌else◌}
use Rattle.std.proofs.lemmas.List.{length-map}
use Rattle.std.proofs.lemmas.Option.{none-some, same_Some, slice_get_within}
use Rattle.std.specs.List.{AllByRecursion}
use Rattle.dft_base.specs.declared.dir.Dir.{Dir}
use Rattle.dft_base.specs.declared.dir.Dir.TheVariants as dir
use Rattle.dft_base.proofs.BitLemmas.{true_false}
use Rattle.dft_base.proofs.NumberLemmas.{less_apart}
use Rattle.dft_cells.specs.declared.kind.Kind.{Kind}
use Rattle.dft_cells.specs.declared.kind.Role.{Role}
use Rattle.dft_cells.specs.declared.kind.Role.TheVariants.{Clock, Din, Reset, Preset, ScanIn, ScanEnable, Output, Inverted}
use Rattle.dft_cells.specs.declared.cell.Cell.{Cell}
use Rattle.dft_cells.specs.declared.cell.CellId.{CellId}
use Rattle.dft_netlist.specs.declared.ids.NetId.{NetId}
use Rattle.dft_netlist.specs.declared.port.Port.{Port}
use Rattle.dft_netlist.specs.declared.instance.CellRef.TheVariants.{Library}
use Rattle.dft_netlist.specs.declared.instance.Signal.{Signal}
use Rattle.dft_netlist.specs.declared.instance.Signal.TheVariants.{Net, Constant, Unconnected}
use Rattle.dft_netlist.specs.declared.instance.Instance.{Instance}
use Rattle.dft_netlist.specs.Drivers.{Input, Driven, Shape, connections_from, inputs_of, shape_of, driven_by, driven_by_instances, driven_by_bits, driven_by_ports, driven_by_joins, all_driven, driver, driver_in}
use Rattle.dft_netlist.specs.NetDrivers.{roles_at, roles_in}
use Rattle.dft_netlist.specs.Netlist.{Netlist}
use Rattle.dft_netlist.specs.Sound.{bits_of}
use Rattle.dft_netlist.proofs.LiveDriven.{AreBefore, before_front, before_back, nets_before}
use Rattle.dft_config.specs.Config.{Config}
use Rattle.dft_rules.specs.Refusals.{is_scanned}
use Rattle.dft_rules.specs.Rules.{judged, scan_cell_in}
use Rattle.dft_parts.specs.Parts.{Part}
use Rattle.dft_parts.specs.Parts as parts
use Rattle.dft_parts.proofs.Growing.{parts_grow}
use Rattle.dft_scan_frame.specs.AddedPorts.{NewPort, ports_from}
use Rattle.dft_scan_frame.specs.Moves.{Gap, moved, moved_signal, moved_instance, moved_join, at_net, map_from}
use Rattle.dft_scan_frame.specs.Statements.{IsReady}
use Rattle.dft_scan_frame.proofs.Mergings.{moved_driver, moved_driven, NoneAt, old_driver, moved_instance_drives, moved_joins_drive, ports_append}
use Rattle.dft_scan_frame.proofs.ScanPairs.{ScanPair, Plain, PlainBoth, Resets, ResetsBoth, Sets, SetsBoth, ListOf3, ListOf4, ListOf5, three, four, five}
use Rattle.dft_scan_frame.proofs.Whole.{moved_front, moved_apart, instances_append, length_map_from}
use Rattle.dft_insert.specs.declared.style.Style.{Style}
use Rattle.dft_insert.specs.Frame.{framed_pins, as_scan_cell, framed_instance, framed_at, frame}
use Rattle.dft_insert.specs.Ports.{added_ports, gap_in}
use Rattle.dft_insert.specs.Scanned.{framed}
use Rattle.dft_insert.specs.Statements.{scanned, made_in}
use Rattle.dft_insert.proofs.Chains.{IsChainPin, OnChains, parts_on}
use Rattle.dft_insert.proofs.Frames.{framed_width, scan_pair}
use Rattle.dft_insert.proofs.Keeping.{from_get, scans_of, scanned_names}
use Rattle.dft_insert.proofs.Joins.{joined_in, none_joined, joined_width}
use Rattle.dft_insert.proofs.Merging.{news, Early, joined_at, instances_are, pin_kept, Carries, none_append, carries_append, carries_all, carries_added, scan_carries, is_output_at}
use Rattle.dft_insert.proofs.Spared.{Spares, IsOther, others_joined, news_none}

-- ---- outputs of a scan cell in the frame

-- an output stands two pins later in the scan cell, joined to what it was joined to
abbrev Fits : (e : Signal) → (r s : List Role) → (pins : List Signal) → (old : ℕ) → Type 0
Fits e r s pins old = is_output_at r old ≡ true → (is_output_at s (old + 2) ≡ true) × (slice_get (framed_pins e s pins) (old + 2) ≡ slice_get pins old)

plain_fits : (e a b c : Signal) (old : ℕ) → Fits e (Clock ∷ Din ∷ Output ∷ []) (Clock ∷ Din ∷ ScanIn ∷ ScanEnable ∷ Output ∷ []) (a ∷ b ∷ c ∷ []) old
plain_fits e a b c zero out = absurd cc
plain_fits e a b c (suc zero) out = absurd cc
plain_fits e a b c (suc (suc zero)) out = (refl, refl)
plain_fits e a b c (suc (suc (suc old))) out = absurd cc

plain_both_fits : (e a b c d : Signal) (old : ℕ) → Fits e (Clock ∷ Din ∷ Output ∷ Inverted ∷ []) (Clock ∷ Din ∷ ScanIn ∷ ScanEnable ∷ Output ∷ Inverted ∷ []) (a ∷ b ∷ c ∷ d ∷ []) old
plain_both_fits e a b c d zero out = absurd cc
plain_both_fits e a b c d (suc zero) out = absurd cc
plain_both_fits e a b c d (suc (suc zero)) out = (refl, refl)
plain_both_fits e a b c d (suc (suc (suc zero))) out = (refl, refl)
plain_both_fits e a b c d (suc (suc (suc (suc old)))) out = absurd cc

resets_fit : (e a b c d : Signal) (old : ℕ) → Fits e (Clock ∷ Din ∷ Reset ∷ Output ∷ []) (Clock ∷ Din ∷ Reset ∷ ScanIn ∷ ScanEnable ∷ Output ∷ []) (a ∷ b ∷ c ∷ d ∷ []) old
resets_fit e a b c d zero out = absurd cc
resets_fit e a b c d (suc zero) out = absurd cc
resets_fit e a b c d (suc (suc zero)) out = absurd cc
resets_fit e a b c d (suc (suc (suc zero))) out = (refl, refl)
resets_fit e a b c d (suc (suc (suc (suc old)))) out = absurd cc

resets_both_fit : (e a b c d f : Signal) (old : ℕ) → Fits e (Clock ∷ Din ∷ Reset ∷ Output ∷ Inverted ∷ []) (Clock ∷ Din ∷ Reset ∷ ScanIn ∷ ScanEnable ∷ Output ∷ Inverted ∷ []) (a ∷ b ∷ c ∷ d ∷ f ∷ []) old
resets_both_fit e a b c d f zero out = absurd cc
resets_both_fit e a b c d f (suc zero) out = absurd cc
resets_both_fit e a b c d f (suc (suc zero)) out = absurd cc
resets_both_fit e a b c d f (suc (suc (suc zero))) out = (refl, refl)
resets_both_fit e a b c d f (suc (suc (suc (suc zero)))) out = (refl, refl)
resets_both_fit e a b c d f (suc (suc (suc (suc (suc old))))) out = absurd cc

sets_fit : (e a b c d : Signal) (old : ℕ) → Fits e (Clock ∷ Din ∷ Preset ∷ Output ∷ []) (Clock ∷ Din ∷ Preset ∷ ScanIn ∷ ScanEnable ∷ Output ∷ []) (a ∷ b ∷ c ∷ d ∷ []) old
sets_fit e a b c d zero out = absurd cc
sets_fit e a b c d (suc zero) out = absurd cc
sets_fit e a b c d (suc (suc zero)) out = absurd cc
sets_fit e a b c d (suc (suc (suc zero))) out = (refl, refl)
sets_fit e a b c d (suc (suc (suc (suc old)))) out = absurd cc

sets_both_fit : (e a b c d f : Signal) (old : ℕ) → Fits e (Clock ∷ Din ∷ Preset ∷ Output ∷ Inverted ∷ []) (Clock ∷ Din ∷ Preset ∷ ScanIn ∷ ScanEnable ∷ Output ∷ Inverted ∷ []) (a ∷ b ∷ c ∷ d ∷ f ∷ []) old
sets_both_fit e a b c d f zero out = absurd cc
sets_both_fit e a b c d f (suc zero) out = absurd cc
sets_both_fit e a b c d f (suc (suc zero)) out = absurd cc
sets_both_fit e a b c d f (suc (suc (suc zero))) out = (refl, refl)
sets_both_fit e a b c d f (suc (suc (suc (suc zero)))) out = (refl, refl)
sets_both_fit e a b c d f (suc (suc (suc (suc (suc old))))) out = absurd cc

outputs_fit : (e : Signal) (a : Kind) (r : List Role) (b : Kind) (s : List Role) (pins : List Signal) (old : ℕ) → ScanPair a r b s → length pins ≡ length r → Fits e r s pins old
outputs_fit e _ _ _ _ pins old Plain h = let l : ListOf3 pins = three pins h in subst (λ (qs : List Signal). Fits e (Clock ∷ Din ∷ Output ∷ []) (Clock ∷ Din ∷ ScanIn ∷ ScanEnable ∷ Output ∷ []) qs old) (sym l.3) (plain_fits e l.0 l.1 l.2 old)
outputs_fit e _ _ _ _ pins old PlainBoth h = let l : ListOf4 pins = four pins h in subst (λ (qs : List Signal). Fits e (Clock ∷ Din ∷ Output ∷ Inverted ∷ []) (Clock ∷ Din ∷ ScanIn ∷ ScanEnable ∷ Output ∷ Inverted ∷ []) qs old) (sym l.4) (plain_both_fits e l.0 l.1 l.2 l.3 old)
outputs_fit e _ _ _ _ pins old Resets h = let l : ListOf4 pins = four pins h in subst (λ (qs : List Signal). Fits e (Clock ∷ Din ∷ Reset ∷ Output ∷ []) (Clock ∷ Din ∷ Reset ∷ ScanIn ∷ ScanEnable ∷ Output ∷ []) qs old) (sym l.4) (resets_fit e l.0 l.1 l.2 l.3 old)
outputs_fit e _ _ _ _ pins old ResetsBoth h = let l : ListOf5 pins = five pins h in subst (λ (qs : List Signal). Fits e (Clock ∷ Din ∷ Reset ∷ Output ∷ Inverted ∷ []) (Clock ∷ Din ∷ Reset ∷ ScanIn ∷ ScanEnable ∷ Output ∷ Inverted ∷ []) qs old) (sym l.5) (resets_both_fit e l.0 l.1 l.2 l.3 l.4 old)
outputs_fit e _ _ _ _ pins old Sets h = let l : ListOf4 pins = four pins h in subst (λ (qs : List Signal). Fits e (Clock ∷ Din ∷ Preset ∷ Output ∷ []) (Clock ∷ Din ∷ Preset ∷ ScanIn ∷ ScanEnable ∷ Output ∷ []) qs old) (sym l.4) (sets_fit e l.0 l.1 l.2 l.3 old)
outputs_fit e _ _ _ _ pins old SetsBoth h = let l : ListOf5 pins = five pins h in subst (λ (qs : List Signal). Fits e (Clock ∷ Din ∷ Preset ∷ Output ∷ Inverted ∷ []) (Clock ∷ Din ∷ Preset ∷ ScanIn ∷ ScanEnable ∷ Output ∷ Inverted ∷ []) qs old) (sym l.5) (sets_both_fit e l.0 l.1 l.2 l.3 l.4 old)

-- ---- pins by their numbers

pub index_is : (pins : List Signal) (p : ℕ) (s : Signal) → slice_get pins p ≡ Some s → slice_index_or pins p Unconnected ≡ s
index_is [] p s h = absurd (none-some s h)
index_is (x ∷ pins) zero s h = same_Some x s h
index_is (x ∷ pins) (suc p) s h = index_is pins p s h

pub index_same : (xs ys : List Signal) (p q : ℕ) → slice_get xs p ≡ slice_get ys q → slice_index_or xs p Unconnected ≡ slice_index_or ys q Unconnected
index_same [] [] p q h = refl
index_same (x ∷ xs) ys (suc p) q h = index_same xs ys p q h
index_same xs (y ∷ ys) p (suc q) h = index_same xs ys p q h
index_same (x ∷ xs) (y ∷ ys) zero zero h = same_Some x y h
index_same [] (y ∷ ys) p zero h = absurd (none-some y h)
index_same (x ∷ xs) [] zero q h = absurd (none-some x (sym h))

pub moved_index : (gap : Gap) (pins : List Signal) (p : ℕ) → slice_index_or (map (moved_signal gap) pins) p Unconnected ≡ moved_signal gap (slice_index_or pins p Unconnected)
moved_index gap [] p = refl
moved_index gap (x ∷ pins) zero = refl
moved_index gap (x ∷ pins) (suc p) = moved_index gap pins p

was_open : (gap : Gap) (s : Signal) → moved_signal gap s ≡ Unconnected → s ≡ Unconnected
was_open gap Unconnected h = refl
was_open gap (Net net) h = absurd cc
was_open gap (Constant bit) h = absurd cc

-- ---- instances

-- an instance of the design, with the pins that parts join
abbrev pub now_at : (style : Style) → Netlist → Config → (number : ℕ) → Instance → Instance
now_at style n config number x = joined_at (made_in style n config) number (framed_at n config (gap_in style n config) number x)

map_from_map : {A B C : Type 0} (g : ℕ → B → C) (f : ℕ → A → B) (i : ℕ) (xs : List A) → map_from g i (map_from f i xs) ≡ map_from (λ k x. g k (f k x)) i xs
map_from_map g f i [] = refl
map_from_map g f i (x ∷ xs) = ap (λ ys. g i (f i x) ∷ ys) (map_from_map g f (suc i) xs)

instances_carry : (f : ℕ → ℕ) (k : ℕ) (library : List Cell) (written : ℕ → Instance → Instance) (i : ℕ) (xs : List Instance) → ((j number : ℕ) (x : Instance) → number ≡ i + j → slice_get xs j ≡ Some x → Carries f k (driven_by library number x) (driven_by library number (written number x))) →
    Carries f k (driven_by_instances library i xs) (driven_by_instances library i (map_from written i xs))
instances_carry f k library written i [] each = carries_all f k [] [] refl
instances_carry f k library written i (x ∷ xs) each =
    carries_append f k (driven_by library i x) (driven_by library i (written i x)) (driven_by_instances library (suc i) xs) (driven_by_instances library (suc i) (map_from written (suc i) xs))
    (each zero i x (omega arith) refl)
    (instances_carry f k library written (suc i) xs (λ j number z is at. each (suc j) number z (omega (arith, is)) at))

-- a scan cell drives what its flip-flop drove, and where it drives more, not this net
cell_carries : (style : Style) (n : Netlist) (config : Config) (k i : ℕ) (x : Instance) (id : CellId) → IsReady n config → slice_get n.instances i ≡ Some x → scan_cell_in n.library x.cell ≡ Some id → is_scanned (judged n config i) ≡ true → AllByRecursion (Spares (frame style n config) k) (made_in style n config) →
    Carries (moved (gap_in style n config)) k (driven_by n.library i x)
    (driven_by n.library i (record { name = x.name; cell = Library id; pins = joined_in (made_in style n config) i (framed_pins (at_net (gap_in style n config).before) (shape_of n.library (Library id)).roles (map (moved_signal (gap_in style n config)) x.pins)) }))
cell_carries style n config k i x id ready at names on spared =
    let gap : Gap = gap_in style n config in
    let parts : List Part = made_in style n config in
    let s : Shape = shape_of n.library x.cell in
    let t : Shape = shape_of n.library (Library id) in
    let pair : ScanPair s.kind s.roles t.kind t.roles = scan_pair n.library x.cell id names ready.library in
    let width : length x.pins ≡ length s.roles = (ready.netlist.instances i x at).width in
    let e : Signal = at_net gap.before in
    let pins : List Signal = map (moved_signal gap) x.pins in
    let framed_cell : List Signal = framed_pins e t.roles pins in
    let now : List Signal = joined_in parts i framed_cell in
    let roles : roles_at (frame style n config) i ≡ t.roles =
    ap (roles_in (frame style n config)) (from_get (framed_at n config gap) 0 n.instances i x at)
    ∙ (let same : 0 + i ≡ i = omega arith in ap (λ j. (shape_of n.library (framed_at n config gap j x).cell).roles) same)
    ∙ ap (λ b. (shape_of n.library (framed_instance n.library gap b x).cell).roles) on
    ∙ ap (λ (o : Option CellId). (shape_of n.library (as_scan_cell n.library gap x o).cell).roles) names in
    scan_carries gap k i s.kind s.roles t.kind t.roles (inputs_of i (connections_from 0 s.roles x.pins)) (inputs_of i (connections_from 0 t.roles now)) x.pins now pair width
    (joined_width parts i framed_cell ∙ framed_width e t.roles pins)
    (λ old less out. (
    let f = outputs_fit e s.kind s.roles t.kind t.roles pins old pair (length-map x.pins (moved_signal gap) ∙ width) out in
    elim (pin_kept (IsOther (frame style n config) k) parts i framed_cell (old + 2) (others_joined (frame style n config) k parts spared)) [
      | inl same ↦ inl (index_same now pins (old + 2) old (same ∙ f.1) ∙ moved_index gap x.pins old)
      | inr it ↦ inr (
        it.0,
        was_open gap (slice_index_or x.pins old Unconnected) (sym (moved_index gap x.pins old) ∙ index_is pins old Unconnected (sym f.1 ∙ it.2)),
        index_is now (old + 2) (Net it.0) it.3,
        it.1 (subst (λ (rs : List Role). is_output_at rs (old + 2) ≡ true) (sym roles) f.0),
      )
    ]
    ))

cell_by : (style : Style) (n : Netlist) (config : Config) (k i : ℕ) (x : Instance) (o : Option CellId) → IsReady n config → slice_get n.instances i ≡ Some x → scan_cell_in n.library x.cell ≡ o → is_some o ≡ true → is_scanned (judged n config i) ≡ true → AllByRecursion (Spares (frame style n config) k) (made_in style n config) →
    Carries (moved (gap_in style n config)) k (driven_by n.library i x) (driven_by n.library i (joined_at (made_in style n config) i (as_scan_cell n.library (gap_in style n config) x o)))
cell_by style n config k i x None ready at names some on spared = absurd cc
cell_by style n config k i x (Some id) ready at names some on spared = cell_carries style n config k i x id ready at names on spared

-- an instance that is not scanned is as it was, moved
other_carries : (style : Style) (n : Netlist) (config : Config) (k i : ℕ) (x : Instance) → IsReady n config → is_scanned (judged n config i) ≡ false →
    Carries (moved (gap_in style n config)) k (driven_by n.library i x) (driven_by n.library i (joined_at (made_in style n config) i (moved_instance (gap_in style n config) x)))
other_carries style n config k i x ready off =
    let gap : Gap = gap_in style n config in
    let y : Instance = moved_instance gap x in
    carries_all (moved gap) k (driven_by n.library i x) (driven_by n.library i (joined_at (made_in style n config) i y))
    (ap (λ (ps : List Signal). driven_by n.library i (record y { pins = ps })) (none_joined (IsChainPin n config) (made_in style n config) i y.pins (λ p q. true_false (is_scanned (judged n config i)) q.scanned off) (parts_on style n config ready.range))
    ∙ moved_instance_drives n.library gap i x)

now_by : (style : Style) (n : Netlist) (config : Config) (k i : ℕ) (x : Instance) (b : Bool) → IsReady n config → slice_get n.instances i ≡ Some x → is_scanned (judged n config i) ≡ b → AllByRecursion (Spares (frame style n config) k) (made_in style n config) →
    Carries (moved (gap_in style n config)) k (driven_by n.library i x) (driven_by n.library i (joined_at (made_in style n config) i (framed_instance n.library (gap_in style n config) b x)))
now_by style n config k i x false ready at is spared = other_carries style n config k i x ready is
now_by style n config k i x true ready at is spared = cell_by style n config k i x (scan_cell_in n.library x.cell) ready at refl (scanned_names n config i x at is) is spared

-- ---- parts join pins of the design's instances

there_by : (n : Netlist) (i : ℕ) (o : Option Instance) → slice_get n.instances i ≡ o → is_some (option_and_then (λ (x : Instance). scan_cell_in n.library x.cell) o) ≡ true → i < length n.instances
there_by n i None at some = absurd cc
there_by n i (Some x) at some = slice_get_within n.instances i x at

pub scanned_there : (n : Netlist) (config : Config) (i : ℕ) → is_scanned (judged n config i) ≡ true → i < length n.instances
scanned_there n config i on = there_by n i (slice_get n.instances i) refl (scans_of n config i on)

early : (n : Netlist) (config : Config) (count : ℕ) (parts : List Part) → count ≡ length n.instances → AllByRecursion (OnChains n config) parts → AllByRecursion (Early count) parts
early n config count [] is h = tt
early n config count (parts.ANet ∷ more) is h = (tt, early n config count more is h.1)
early n config count (parts.AnInstance cell pins ∷ more) is h = (tt, early n config count more is h.1)
early n config count (parts.APin i pin net ∷ more) is h = (omega (arith, is, scanned_there n config i.0 h.0.scanned), early n config count more is h.1)

pub now_instances : (style : Style) (n : Netlist) (config : Config) → IsReady n config → (scanned style n config).instances ≡ map_from (now_at style n config) 0 n.instances ++ news 0 (made_in style n config)
now_instances style n config ready =
    let first : List Instance = (frame style n config).instances in
    let its : List Part = made_in style n config in
    instances_are (framed style n config) its first [] (sym (append-nil first)) (early n config (length first) its (length_map_from (framed_at n config (gap_in style n config)) 0 n.instances) (parts_on style n config ready.range))
    ∙ ap (λ (xs : List Instance). xs ++ news 0 its) (map_from_map (joined_at its) (framed_at n config (gap_in style n config)) 0 n.instances)

-- ---- ports

port_none : (d : Dir) (net k : ℕ) → (net == k) ≡ false → NoneAt (driven_by_bits d (record { 0 = net } ∷ [])) k
port_none dir.Input net k h = (h, tt)
port_none dir.Output net k h = tt

added_none : (net : ℕ) (ports : List NewPort) (k : ℕ) → ((j : ℕ) → net ≤ j → j < net + length ports → (j == k) ≡ false) → NoneAt (driven_by_ports (ports_from net ports)) k
added_none net [] k h = tt
added_none net (port ∷ ports) k h =
    none_append (driven_by_bits port.dir (record { 0 = net } ∷ [])) (driven_by_ports (ports_from (suc net) ports)) k
    (port_none port.dir net k (h net (omega arith) (omega arith)))
    (added_none (suc net) ports k (λ j from to. h j (omega (arith, from)) (omega (arith, to))))

gap_apart : (before width net j : ℕ) → before ≤ j → j < before + width → (j == (if nat_lt net before then net else net + width)) ≡ false
gap_apart = grind arith

bits_stay : (gap : Gap) (d : Dir) (bits : List NetId) → AreBefore gap.before bits → driven_by_bits d bits ≡ map (moved_driven (moved gap)) (driven_by_bits d bits)
bits_stay gap dir.Output bits h = refl
bits_stay gap dir.Input [] h = refl
bits_stay gap dir.Input (net ∷ bits) h = λ j. (sym (moved_front gap net.0 h.0) j, Input) ∷ bits_stay gap dir.Input bits h.1 j

ports_carry : (gap : Gap) (k : ℕ) (ports : List Port) → AreBefore gap.before (bits_of ports) → Carries (moved gap) k (driven_by_ports ports) (driven_by_ports ports)
ports_carry gap k [] h = carries_all (moved gap) k [] [] refl
ports_carry gap k (port ∷ ports) h =
    carries_append (moved gap) k (driven_by_bits port.dir port.bits) (driven_by_bits port.dir port.bits) (driven_by_ports ports) (driven_by_ports ports)
    (carries_all (moved gap) k (driven_by_bits port.dir port.bits) (driven_by_bits port.dir port.bits) (bits_stay gap port.dir port.bits (before_front gap.before port.bits (bits_of ports) h)))
    (ports_carry gap k ports (before_back gap.before port.bits (bits_of ports) h))

pub ports_before : (n : Netlist) (config : Config) → IsReady n config → AreBefore (length (bits_of n.ports)) (bits_of n.ports)
ports_before n config ready = subst (AreBefore (length (bits_of n.ports))) (sym ready.netlist.numbered) (nets_before 0 (length (bits_of n.ports)) (length (bits_of n.ports)) (omega arith))

-- ---- the whole netlist

-- more drivers, that leave the net alone
carries_more : (f : ℕ → ℕ) (k : ℕ) (old all more : List Driven) → Carries f k old all → NoneAt more k → Carries f k old (all ++ more)
carries_more f k old all more c none = subst (λ (ds : List Driven). Carries f k ds (all ++ more)) (append-nil old) (carries_append f k old all [] more c (carries_added f k more none))

pub all_is : (style : Style) (n : Netlist) (config : Config) → IsReady n config →
    all_driven (scanned style n config)
    ≡ ((driven_by_ports n.ports ++ driven_by_ports (ports_from (gap_in style n config).before (added_ports style config)))
    ++ (driven_by_instances n.library 0 (map_from (now_at style n config) 0 n.instances) ++ driven_by_instances n.library (length n.instances) (news 0 (made_in style n config))))
    ++ driven_by_joins (map (moved_join (gap_in style n config)) n.joins)
all_is style n config ready =
    let w : Netlist = scanned style n config in
    let grown = parts_grow (framed style n config) (made_in style n config) in
    let added : List Port = ports_from (gap_in style n config).before (added_ports style config) in
    let its : List Instance = map_from (now_at style n config) 0 n.instances in
    let others : List Instance = news 0 (made_in style n config) in
    ap (λ (ps : List Port). (driven_by_ports ps ++ driven_by_instances w.library 0 w.instances) ++ driven_by_joins w.joins) grown.ports
    ∙ ap (λ (ds : List Driven). (ds ++ driven_by_instances w.library 0 w.instances) ++ driven_by_joins w.joins) (ports_append n.ports added)
    ∙ ap (λ (l : List Cell). ((driven_by_ports n.ports ++ driven_by_ports added) ++ driven_by_instances l 0 w.instances) ++ driven_by_joins w.joins) grown.library
    ∙ ap (λ (xs : List Instance). ((driven_by_ports n.ports ++ driven_by_ports added) ++ driven_by_instances n.library 0 xs) ++ driven_by_joins w.joins) (now_instances style n config ready)
    ∙ ap (λ (ds : List Driven). ((driven_by_ports n.ports ++ driven_by_ports added) ++ ds) ++ driven_by_joins w.joins)
    (instances_append n.library 0 (length n.instances) its others (omega (arith, length_map_from (now_at style n config) 0 n.instances)))
    ∙ ap (λ js. ((driven_by_ports n.ports ++ driven_by_ports added) ++ (driven_by_instances n.library 0 its ++ driven_by_instances n.library (length n.instances) others)) ++ driven_by_joins js) grown.joins

-- the parts that are made leave the nets of the design alone
abbrev pub AreSpared : Style → Netlist → Config → Type 0
AreSpared style n config = (net : ℕ) → net < length n.nets → AllByRecursion (Spares (frame style n config) (moved (gap_in style n config) net)) (made_in style n config)

all_carry : (style : Style) (n : Netlist) (config : Config) (net : ℕ) → IsReady n config → AreSpared style n config → net < length n.nets → Carries (moved (gap_in style n config)) (moved (gap_in style n config) net) (all_driven n) (all_driven (scanned style n config))
all_carry style n config net ready spared less =
    let gap : Gap = gap_in style n config in
    let k : ℕ = moved gap net in
    let added : List Port = ports_from gap.before (added_ports style config) in
    let its : List Instance = map_from (now_at style n config) 0 n.instances in
    let others : List Instance = news 0 (made_in style n config) in
    subst (Carries (moved gap) k (all_driven n)) (sym (all_is style n config ready))
    (carries_append (moved gap) k (driven_by_ports n.ports ++ driven_by_instances n.library 0 n.instances) ((driven_by_ports n.ports ++ driven_by_ports added) ++ (driven_by_instances n.library 0 its ++ driven_by_instances n.library (length n.instances) others))
    (driven_by_joins n.joins) (driven_by_joins (map (moved_join gap) n.joins))
    (carries_append (moved gap) k (driven_by_ports n.ports) (driven_by_ports n.ports ++ driven_by_ports added) (driven_by_instances n.library 0 n.instances) (driven_by_instances n.library 0 its ++ driven_by_instances n.library (length n.instances) others)
    (carries_more (moved gap) k (driven_by_ports n.ports) (driven_by_ports n.ports) (driven_by_ports added) (ports_carry gap k n.ports (ports_before n config ready))
    (added_none gap.before (added_ports style config) k (λ j from to. gap_apart gap.before gap.width net j from to)))
    (carries_more (moved gap) k (driven_by_instances n.library 0 n.instances) (driven_by_instances n.library 0 its) (driven_by_instances n.library (length n.instances) others)
    (instances_carry (moved gap) k n.library (now_at style n config) 0 n.instances
    (λ j number x is at. now_by style n config k number x (is_scanned (judged n config number)) ready (ap (slice_get n.instances) (omega (arith, is)) ∙ at) refl (spared net less)))
    (news_none (frame style n config) k (length n.instances) 0 (made_in style n config) (spared net less))))
    (carries_all (moved gap) k (driven_by_joins n.joins) (driven_by_joins (map (moved_join gap) n.joins)) (moved_joins_drive gap n.joins)))

-- a net of the design keeps its driver
pub driver_kept : (style : Style) (n : Netlist) (config : Config) (net : ℕ) → IsReady n config → AreSpared style n config → net < length n.nets → driver (scanned style n config) (moved (gap_in style n config) net) ≡ moved_driver (moved (gap_in style n config)) (driver n net)
driver_kept style n config net ready spared less =
    let gap : Gap = gap_in style n config in
    let c : Carries (moved gap) (moved gap net) (all_driven n) (all_driven (scanned style n config)) = all_carry style n config net ready spared less in
    old_driver (moved gap) net (all_driven n) c.added (all_driven (scanned style n config)) (moved_apart gap) c.merges c.none

-- ---- the port scan_enable

pub skips : (k : ℕ) (xs ys : List Driven) → NoneAt xs k → driver_in (xs ++ ys) k ≡ driver_in ys k
skips k [] ys h = refl
skips k (x ∷ xs) ys h = ap (λ b. if b then x.1 else driver_in (xs ++ ys) k) h.0 ∙ skips k xs ys h.1

bits_below : (k : ℕ) (d : Dir) (bits : List NetId) → AreBefore k bits → NoneAt (driven_by_bits d bits) k
bits_below k dir.Output bits h = tt
bits_below k dir.Input [] h = tt
bits_below k dir.Input (net ∷ bits) h = (less_apart net.0 k h.0, bits_below k dir.Input bits h.1)

pub ports_below : (k : ℕ) (ports : List Port) → AreBefore k (bits_of ports) → NoneAt (driven_by_ports ports) k
ports_below k [] h = tt
ports_below k (port ∷ ports) h =
    none_append (driven_by_bits port.dir port.bits) (driven_by_ports ports) k (bits_below k port.dir port.bits (before_front k port.bits (bits_of ports) h)) (ports_below k ports (before_back k port.bits (bits_of ports) h))
