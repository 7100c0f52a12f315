-- How much insertion makes at most for a generated design.
use Rattle.std.proofs.Common.{◌≡◌, ℕ, zero, suc, ◌+◌, ◌*◌, ◌≤◌, Bool, true, false, cond, ltb, List, [], ◌∷◌, ◌++◌, length, map, get_or, Option, None, Some, slice_get, refl, ap, arith, length-append}
use Rattle.std.specs.Prelude.{◌==◌, nat_le, if◌then◌else◌}
use Rattle.std.specs.List.{AllByRecursion, list_all, range_with_len}
use Rattle.std.proofs.Math.Nat.{mul-zero}
use Rattle.std.proofs.lemmas.Bool.Decides.{nat_tests}
use Rattle.std.proofs.lemmas.Bool.{and_parts}
use Rattle.std.proofs.lemmas.List.{length-map}
use Rattle.std.proofs.lemmas.List.FromFn.{length-range_with_len}
use Rattle.dft_cells.specs.declared.kind.Gate.TheVariants.{Buf, Inv, And, Or}
use Rattle.dft_cells.specs.declared.kind.Role.TheVariants as role
use Rattle.dft_netlist.specs.declared.ids.NetId.{NetId}
use Rattle.dft_netlist.specs.declared.ids.InstanceId.{InstanceId}
use Rattle.dft_netlist.specs.Netlist.{Netlist}
use Rattle.dft_config.specs.declared.config.Config.{Config}
use Rattle.dft_config.specs.declared.config.Tap.{Tap}
use Rattle.dft_config.specs.declared.config.Injector.{Injector}
use Rattle.dft_config.specs.Ring.{phase_of}
use Rattle.dft_config.specs.Segments.{segment_length}
use Rattle.dft_stitch.specs.declared.places.LockupPlace.{LockupPlace}
use Rattle.dft_stitch.specs.Plans.{Plan, falling_head}
use Rattle.dft_parts.specs.declared.edt_ports.EdtPorts.{EdtPorts}
use Rattle.dft_parts.specs.Recipes.{Recipe, pure, ◌>>=◌, each, collect, net_at, nets_made, a_net, a_gate, a_flop, a_lockup}
use Rattle.dft_parts.specs.Sums.{a_driving_gate, a_sum}
use Rattle.dft_edt.specs.Feeds.{Stage, Channel, at_feed, tap_feeds, injector_feeds, feeds}
use Rattle.dft_edt.specs.Hardware.{group_of}
use Rattle.dft_edt.specs.declared.ring.Ring.{Ring}
use Rattle.dft_edt.specs.RingRecipe.{stage_terms, a_stage, a_phase, a_ring}
use Rattle.dft_edt.specs.declared.mask_nets.MaskNets.{MaskNets}
use Rattle.dft_edt.specs.CompactorRecipe.{a_next, a_mask, a_segment, segments, masks_at, a_gated, an_output, a_compactor}
use Rattle.dft_scan_frame.specs.Moves.{Gap}
use Rattle.dft_scan_frame.specs.Pins.{domain_in, own_output}
use Rattle.dft_insert.specs.Chained.{a_numbered_pin, a_role_pin, a_scan_in, an_open_output, own_or_made, a_row, rows, cells_at, row_at, a_lockup_clock, a_lockup_behind, a_crossing, crossing_in, a_step, a_chain, a_latched_chain, a_fed_chain, last_net}
use Rattle.dft_insert.specs.Chained as chained
use Rattle.dft_insert.specs.Scanned.{an_edt_chain, behind_rows, edt_recipe}
use Rattle.dft_insert.proofs.Weights.{sum_of, sum_add}
use Rattle.dft_generate.specs.Configurations.{configuration}
use Rattle.dft_generate_laws.proofs.Sizes.{sum_same, one_at_most, sum_swap, AtMost, at_most, pure_none, bind_most, each_most, collect_most, each_same, collect_same, net_most, gate_most, flop_most, lockup_most, driving_most, sum_most}

-- ---- the ring

taps_few : (taps : List Tap) (stage : ℕ) → length (tap_feeds taps stage) ≤ length taps
taps_few [] stage = omega arith
taps_few (tap ∷ taps) stage = by (tap.to == stage) (taps_few taps stage)
  where
    by : (t : Bool) → length (tap_feeds taps stage) ≤ length taps → length (cond t (Stage tap.from ∷ tap_feeds taps stage) (tap_feeds taps stage)) ≤ suc (length taps)
    by true i = omega (arith, i)
    by false i = omega (arith, i)

injectors_few : (injectors : List Injector) (stage : ℕ) → length (injector_feeds injectors stage) ≤ length injectors
injectors_few [] stage = omega arith
injectors_few (injector ∷ injectors) stage = by (injector.stage == stage) (injectors_few injectors stage)
  where
    by : (t : Bool) → length (injector_feeds injectors stage) ≤ length injectors → length (cond t (Channel injector.channel ∷ injector_feeds injectors stage) (injector_feeds injectors stage)) ≤ suc (length injectors)
    by true i = omega (arith, i)
    by false i = omega (arith, i)

terms_few : (channels stages : List NetId) (stage : ℕ) → length (stage_terms configuration.ring channels stages stage) ≤ 5
terms_few channels stages stage =
    omega (
      arith,
      taps_few configuration.ring.taps stage,
      injectors_few configuration.ring.injectors stage,
      length-map (feeds configuration.ring stage) (at_feed (net_at stages) (net_at channels)),
      length-append (tap_feeds configuration.ring.taps stage) (injector_feeds configuration.ring.injectors stage),
    )

stage_most : (ports : EdtPorts) (run : NetId) (stages : List NetId) (stage : ℕ) → AtMost (a_stage configuration.ring ports run stages stage) 81
unfolding a_stage
stage_most ports run stages stage =
    bind_most (a_sum (stage_terms configuration.ring ports.channels stages stage)) (λ sum. a_driving_gate And (sum ∷ run ∷ []) >>= (λ kept. a_flop ports.edt_clock kept (net_at stages stage))) 75 6
    (sum_most (stage_terms configuration.ring ports.channels stages stage) 5 (terms_few ports.channels stages stage))
    (λ sum. bind_most (a_driving_gate And (sum ∷ run ∷ [])) (λ kept. a_flop ports.edt_clock kept (net_at stages stage)) 5 1 (driving_most And (sum ∷ run ∷ [])) (λ kept. flop_most ports.edt_clock kept (net_at stages stage)))

-- lists of lists that are short
get_few : (most : ℕ) (xs : List (List ℕ)) (k : ℕ) → list_all (λ l. nat_le (length l) most) xs ≡ true → length (get_or xs k []) ≤ most
get_few most [] k h = omega arith
get_few most (x ∷ xs) zero h = let p = and_parts (nat_le (length x) most) (list_all (λ l. nat_le (length l) most) xs) h in let a = p.0 in grind (arith, nat_tests)
get_few most (x ∷ xs) (suc k) h = get_few most xs k (and_parts (nat_le (length x) most) (list_all (λ l. nat_le (length l) most) xs) h).1

phase_most : (stages : List NetId) (chain : ℕ) → AtMost (a_phase configuration.ring stages chain) 27
phase_most stages chain =
    sum_most (map (net_at stages) (phase_of configuration.ring chain)) 3 (omega (arith, get_few 3 configuration.ring.phase chain refl, length-map (phase_of configuration.ring chain) (net_at stages)))

abbrev end_with : NetId → List NetId → Recipe Ring
end_with run phases = pure (record { run = run; phases = phases })

ring_most : (ports : EdtPorts) → AtMost (a_ring configuration ports) 1748
unfolding a_ring
ring_most ports =
    bind_most (a_driving_gate Inv (ports.edt_update ∷ []))
    (λ run. nets_made 16 >>= (λ stages. each (a_stage configuration.ring ports run stages) (range_with_len 0 16) >>= (λ _. collect (a_phase configuration.ring stages) (range_with_len 0 16) >>= end_with run))) 4 1744 (driving_most Inv (ports.edt_update ∷ []))
    (λ run. bind_most (nets_made 16) (λ stages. each (a_stage configuration.ring ports run stages) (range_with_len 0 16) >>= (λ _. collect (a_phase configuration.ring stages) (range_with_len 0 16) >>= end_with run)) 16 1728
    (collect_same (λ _. a_net) 1 (range_with_len 0 16) (λ x. net_most))
    (λ stages. bind_most (each (a_stage configuration.ring ports run stages) (range_with_len 0 16)) (λ _. collect (a_phase configuration.ring stages) (range_with_len 0 16) >>= end_with run) 1296 432
    (each_same (a_stage configuration.ring ports run stages) 81 (range_with_len 0 16) (stage_most ports run stages))
    (λ _. bind_most (collect (a_phase configuration.ring stages) (range_with_len 0 16)) (end_with run) 432 0 (collect_same (a_phase configuration.ring stages) 27 (range_with_len 0 16) (phase_most stages))
    (λ phases. pure_none {A = Ring} (record { run = run; phases = phases })))))

-- ---- the compactor

next_most : (ports : EdtPorts) (run : NetId) (nets : MaskNets) → AtMost (a_next ports run nets) 15
unfolding a_next
next_most ports run nets =
    bind_most (a_driving_gate And (ports.edt_update ∷ nets.mask ∷ [])) (λ taken. a_driving_gate And (run ∷ nets.hold ∷ []) >>= (λ kept. a_driving_gate Or (taken ∷ kept ∷ []))) 5 10 (driving_most And (ports.edt_update ∷ nets.mask ∷ []))
    (λ taken. bind_most (a_driving_gate And (run ∷ nets.hold ∷ [])) (λ kept. a_driving_gate Or (taken ∷ kept ∷ [])) 5 5 (driving_most And (run ∷ nets.hold ∷ [])) (λ kept. driving_most Or (taken ∷ kept ∷ [])))

abbrev pair_of : (mask hold : NetId) → MaskNets
pair_of mask hold = record { mask = mask; hold = hold }

mask_most : (ports : EdtPorts) (run before : NetId) → AtMost (a_mask ports run before) 19
unfolding a_mask
mask_most ports run before =
    bind_most a_net (λ mask. a_flop ports.edt_clock before mask >>= (λ _. a_net >>= (λ hold. a_next ports run (pair_of mask hold) >>= (λ next. a_flop ports.edt_clock next hold >>= (λ _. pure (pair_of mask hold)))))) 1 18 net_most
    (λ mask. bind_most (a_flop ports.edt_clock before mask) (λ _. a_net >>= (λ hold. a_next ports run (pair_of mask hold) >>= (λ next. a_flop ports.edt_clock next hold >>= (λ _. pure (pair_of mask hold))))) 1 17 (flop_most ports.edt_clock before mask)
    (λ _. bind_most a_net (λ hold. a_next ports run (pair_of mask hold) >>= (λ next. a_flop ports.edt_clock next hold >>= (λ _. pure (pair_of mask hold)))) 1 16 net_most
    (λ hold. bind_most (a_next ports run (pair_of mask hold)) (λ next. a_flop ports.edt_clock next hold >>= (λ _. pure (pair_of mask hold))) 15 1 (next_most ports run (pair_of mask hold))
    (λ next. bind_most (a_flop ports.edt_clock next hold) (λ _. pure (pair_of mask hold)) 1 0 (flop_most ports.edt_clock next hold) (λ _. pure_none (pair_of mask hold))))))

segment_most : (ports : EdtPorts) (run before : NetId) (count : ℕ) → AtMost (a_segment ports run before count) (count * 19)
unfolding a_segment
segment_most ports run before zero = λ at. omega arith
segment_most ports run before (suc count) =
    at_most (a_segment ports run before (suc count)) (19 + (count * 19 + 0)) (suc count * 19) (omega arith)
    (bind_most (a_mask ports run before) (λ first. a_segment ports run first.mask count >>= (λ more. pure (first ∷ more))) 19 (count * 19 + 0) (mask_most ports run before)
    (λ first. bind_most (a_segment ports run first.mask count) (λ more. pure (first ∷ more)) (count * 19) 0 (segment_most ports run first.mask count) (λ more. pure_none (first ∷ more))))

segment_few : (m : ℕ) → segment_length configuration m * 19 ≤ 171
segment_few m = by (ltb m 0)
  where
    by : (t : Bool) → (8 + cond t 1 0) * 19 ≤ 171
    by true = omega arith
    by false = omega arith

segments_most : (ports : EdtPorts) (run : NetId) (segment count : ℕ) → AtMost (segments configuration ports run segment count) (count * 171)
unfolding segments
segments_most ports run segment zero = λ at. omega arith
segments_most ports run segment (suc count) =
    at_most (segments configuration ports run segment (suc count)) (171 + (count * 171 + 0)) (suc count * 171) (omega arith)
    (bind_most (a_segment ports run (net_at ports.masks segment) (segment_length configuration segment)) (λ first. segments configuration ports run (segment + 1) count >>= (λ more. pure (first ++ more))) 171 (count * 171 + 0)
    (at_most (a_segment ports run (net_at ports.masks segment) (segment_length configuration segment)) (segment_length configuration segment * 19) 171 (segment_few segment) (segment_most ports run (net_at ports.masks segment) (segment_length configuration segment)))
    (λ first. bind_most (segments configuration ports run (segment + 1) count) (λ more. pure (first ++ more)) (count * 171) 0 (segments_most ports run (segment + 1) count) (λ more. pure_none (first ++ more))))

gated_most : (hold end : NetId) → AtMost (a_gated hold end) 9
unfolding a_gated
gated_most hold end = bind_most (a_driving_gate Inv (hold ∷ [])) (λ shown. a_driving_gate And (shown ∷ end ∷ [])) 4 5 (driving_most Inv (hold ∷ [])) (λ shown. driving_most And (shown ∷ end ∷ []))

output_most : (ports : EdtPorts) (gated : List NetId) (output : ℕ) → AtMost (an_output configuration ports gated output) 195
unfolding an_output
output_most ports gated output =
    bind_most (a_sum (map (net_at gated) (group_of configuration output))) (λ sum. a_gate Buf (sum ∷ []) (net_at ports.outputs output)) 192 3
    (sum_most (map (net_at gated) (group_of configuration output)) 8 (omega (arith, get_few 8 configuration.compactor.groups output refl, length-map (group_of configuration output) (net_at gated)))) (λ sum. gate_most Buf (sum ∷ []) (net_at ports.outputs output))

abbrev gates : (ends : List NetId) → (masks : List MaskNets) → Recipe (List NetId)
gates ends masks = collect (λ chain. a_gated (masks_at masks chain).hold (net_at ends chain)) (range_with_len 0 16)

compactor_most : (ports : EdtPorts) (run : NetId) (ends : List NetId) → AtMost (a_compactor configuration ports run ends) 876
unfolding a_compactor
compactor_most ports run ends =
    bind_most (segments configuration ports run 0 2) (λ masks. gates ends masks >>= (λ gated. each (an_output configuration ports gated) (range_with_len 0 2))) 342 534 (segments_most ports run 0 2)
    (λ masks. bind_most (gates ends masks) (λ gated. each (an_output configuration ports gated) (range_with_len 0 2)) 144 390
    (collect_same (λ chain. a_gated (masks_at masks chain).hold (net_at ends chain)) 9 (range_with_len 0 16) (λ chain. gated_most (masks_at masks chain).hold (net_at ends chain)))
    (λ gated. each_same (an_output configuration ports gated) 195 (range_with_len 0 2) (output_most ports gated)))

-- ---- the chains

pin_most : (cell : InstanceId) (o : Option ℕ) (net : NetId) → AtMost (a_numbered_pin cell o net) 0
pin_most cell None net at = omega arith
pin_most cell (Some pin) net at = omega arith

scan_in_most : (n : Netlist) (cell : Option InstanceId) (net : NetId) → AtMost (a_scan_in n cell net) 0
scan_in_most n None net = λ at. omega arith
scan_in_most n (Some cell) net = pin_most cell _ net

open_most : (n : Netlist) (cell : InstanceId) → AtMost (an_open_output n cell) 1
unfolding an_open_output
open_most n cell =
    bind_most a_net (λ net. a_role_pin n cell role.Output net >>= (λ _. pure net)) 1 0 net_most (λ net. bind_most (a_role_pin n cell role.Output net) (λ _. pure net) 0 0 (pin_most cell _ net) (λ _. pure_none net))

own_most : (n : Netlist) (gap : Gap) (cell : InstanceId) (own : Option ℕ) → AtMost (own_or_made n gap cell own) 1
own_most n gap cell None = open_most n cell
own_most n gap cell (Some net) = λ at. omega arith

row_most : (n : Netlist) (gap : Gap) (cells : List InstanceId) → AtMost (a_row n gap cells) (length cells * 1)
row_most n gap cells = collect_same (chained.an_output n gap) 1 cells (λ cell. own_most n gap cell (own_output n cell))

behind_most : (n : Netlist) (cells : List InstanceId) (outputs : List NetId) (after : ℕ) (clock : NetId) → AtMost (a_lockup_behind n cells outputs after clock) 2
unfolding a_lockup_behind
behind_most n cells outputs after clock =
    bind_most a_net (λ net. a_lockup clock (net_at outputs after) net >>= (λ _. a_scan_in n (slice_get cells (after + 1)) net)) 1 1 net_most
    (λ net. bind_most (a_lockup clock (net_at outputs after) net) (λ _. a_scan_in n (slice_get cells (after + 1)) net) 1 0 (lockup_most clock (net_at outputs after) net)
    (λ _. scan_in_most n (slice_get cells (after + 1)) net))

-- a lock-up makes two more where it is high, with the pins of its `not`
abbrev of_lockup : (high : Bool) → ℕ
of_lockup high = if high then 6 else 2

abbrev of_clock : (high : Bool) → ℕ
of_clock high = if high then 4 else 0

clock_most : (port : NetId) (high : Bool) → AtMost (a_lockup_clock port high) (of_clock high)
clock_most port false = λ at. omega arith
clock_most port true = driving_most Inv (port ∷ [])

clock_and_lockup : (high : Bool) → of_clock high + 2 ≤ of_lockup high
clock_and_lockup true = omega arith
clock_and_lockup false = omega arith

crossing_most : (n : Netlist) (config : Config) (gap : Gap) (cells : List InstanceId) (outputs : List NetId) (l : LockupPlace) → AtMost (a_crossing n config gap cells outputs l) (of_lockup l.high)
unfolding a_crossing
crossing_most n config gap cells outputs l =
    at_most (a_crossing n config gap cells outputs l) (of_clock l.high + 2) (of_lockup l.high) (clock_and_lockup l.high)
    (bind_most (a_lockup_clock (record { 0 = domain_in n gap config l.domain }) l.high) (λ clock. a_lockup_behind n cells outputs l.after clock) (of_clock l.high) 2
    (clock_most (record { 0 = domain_in n gap config l.domain }) l.high) (λ clock. behind_most n cells outputs l.after clock))

crossing_by : (t : Bool) (n : Netlist) (config : Config) (gap : Gap) (cells : List InstanceId) (outputs : List NetId) (l : LockupPlace) → AtMost (if t then a_crossing n config gap cells outputs l else pure tt) (if t then of_lockup l.high else 0)
crossing_by true n config gap cells outputs l = crossing_most n config gap cells outputs l
crossing_by false n config gap cells outputs l = λ at. omega arith

-- the lock-ups of a chain
abbrev pub here : (lockups : List LockupPlace) → (chain : ℕ) → ℕ
here lockups chain = sum_of (λ (l : LockupPlace). if l.chain == chain then of_lockup l.high else 0) lockups

-- they are low
abbrev pub AreLow : List LockupPlace → Type 0
AreLow lockups = AllByRecursion (λ l. l.high ≡ false) lockups

here_low : (lockups : List LockupPlace) (chain : ℕ) → AreLow lockups → here lockups chain ≡ sum_of (λ (l : LockupPlace). if l.chain == chain then 2 else 0) lockups
here_low [] chain low = refl
here_low (l ∷ lockups) chain low =
    let this : (if l.chain == chain then of_lockup l.high else 0) ≡ (if l.chain == chain then 2 else 0) = ap (λ (h : Bool). if l.chain == chain then of_lockup h else 0) low.0 in
    omega (arith, this, here_low lockups chain low.1)

all_low : (lockups : List LockupPlace) (chains : List ℕ) → AreLow lockups → sum_of (here lockups) chains ≡ sum_of (λ chain. sum_of (λ (l : LockupPlace). if l.chain == chain then 2 else 0) lockups) chains
all_low lockups [] low = refl
all_low lockups (chain ∷ chains) low = omega (arith, here_low lockups chain low, all_low lockups chains low)

chain_most : (n : Netlist) (config : Config) (gap : Gap) (lockups : List LockupPlace) (chain : ℕ) (cells : List InstanceId) (outputs : List NetId) (entry : NetId) → AtMost (a_chain n config gap lockups chain cells outputs entry) (0 + (here lockups chain + length (range_with_len 0 (length cells)) * 0))
unfolding a_chain
chain_most n config gap lockups chain cells outputs entry =
    bind_most (a_scan_in n (slice_get cells 0) entry) (λ _. each (crossing_in n config gap chain cells outputs) lockups >>= (λ _. each (a_step n cells outputs) (range_with_len 0 (length cells)))) 0
    (here lockups chain + length (range_with_len 0 (length cells)) * 0) (scan_in_most n (slice_get cells 0) entry)
    (λ _. bind_most (each (crossing_in n config gap chain cells outputs) lockups) (λ _. each (a_step n cells outputs) (range_with_len 0 (length cells))) (here lockups chain) (length (range_with_len 0 (length cells)) * 0)
    (each_most (crossing_in n config gap chain cells outputs) (λ (l : LockupPlace). if l.chain == chain then of_lockup l.high else 0) lockups (λ l. crossing_by (l.chain == chain) n config gap cells outputs l))
    (λ _. each_same (a_step n cells outputs) 0 (range_with_len 0 (length cells)) (λ place. scan_in_most n (slice_get cells (place + 1)) (net_at outputs place))))

latched_most : (n : Netlist) (config : Config) (gap : Gap) (lockups : List LockupPlace) (chain : ℕ) (cells : List InstanceId) (outputs : List NetId) (clock phase : NetId) → AtMost (a_latched_chain n config gap lockups chain cells outputs clock phase) (2 + here lockups chain)
unfolding a_latched_chain
latched_most n config gap lockups chain cells outputs clock phase =
    let most : ℕ = 0 + (here lockups chain + length (range_with_len 0 (length cells)) * 0) in
    at_most (a_latched_chain n config gap lockups chain cells outputs clock phase) (1 + (1 + most)) (2 + here lockups chain) (omega (arith, mul-zero (length (range_with_len 0 (length cells)))))
    (bind_most a_net (λ entry. a_lockup clock phase entry >>= (λ _. a_chain n config gap lockups chain cells outputs entry)) 1 (1 + most) net_most
    (λ entry. bind_most (a_lockup clock phase entry) (λ _. a_chain n config gap lockups chain cells outputs entry) 1 most (lockup_most clock phase entry) (λ _. chain_most n config gap lockups chain cells outputs entry)))

fed_most : (falling : Bool) (n : Netlist) (config : Config) (gap : Gap) (lockups : List LockupPlace) (chain : ℕ) (cells : List InstanceId) (outputs : List NetId) (clock phase : NetId) → AtMost (a_fed_chain falling n config gap lockups chain cells outputs clock phase) (2 + here lockups chain)
fed_most true n config gap lockups chain cells outputs clock phase =
    at_most (a_chain n config gap lockups chain cells outputs phase) (0 + (here lockups chain + length (range_with_len 0 (length cells)) * 0)) (2 + here lockups chain) (omega (arith, mul-zero (length (range_with_len 0 (length cells)))))
    (chain_most n config gap lockups chain cells outputs phase)
fed_most false n config gap lockups chain cells outputs clock phase = latched_most n config gap lockups chain cells outputs clock phase

-- of all chains, where the lock-ups are low
chains_few : (lockups : List LockupPlace) (count : ℕ) → AreLow lockups → sum_of (λ chain. 2 + here lockups chain) (range_with_len 0 count) ≤ count * 2 + length lockups * 2
chains_few lockups count low =
    let z = all_low lockups (range_with_len 0 count) low in
    let a = sum_add (λ (chain : ℕ). 2) (here lockups) (range_with_len 0 count) in
    let b = sum_same 2 (λ (chain : ℕ). 2) (range_with_len 0 count) (λ x. omega arith) in
    let c = sum_swap (λ (chain : ℕ) (l : LockupPlace). if l.chain == chain then 2 else 0) (range_with_len 0 count) lockups in
    let d = sum_same 2 (λ (l : LockupPlace). sum_of (λ chain. if l.chain == chain then 2 else 0) (range_with_len 0 count)) lockups (λ l. one_at_most l.chain 2 count 0) in
    let e = length-range_with_len 0 count in
    omega (arith, z, a, b, c, d, ap (λ (k : ℕ). k * 2) e)

-- ---- all of it

pub edt_most : (n : Netlist) (plan : Plan) (gap : Gap) (ports : EdtPorts) → AreLow plan.lockups
    → AtMost (edt_recipe n configuration plan gap ports) (sum_of (λ cells. length cells * 1) plan.chains + (1748 + ((length plan.chains * 2 + length plan.lockups * 2) + 876)))
unfolding edt_recipe behind_rows
edt_most n plan gap ports low =
    let chains : ℕ = length plan.chains * 2 + length plan.lockups * 2 in
    bind_most (rows n gap plan.chains) (behind_rows n configuration plan gap ports) (sum_of (λ cells. length cells * 1) plan.chains) (1748 + (chains + 876)) (collect_most (a_row n gap) (λ cells. length cells * 1) plan.chains (row_most n gap))
    (λ outputs. bind_most (a_ring configuration ports)
    (λ ring. each (an_edt_chain n configuration plan gap ports ring.phases outputs) (range_with_len 0 (length plan.chains)) >>= (λ _. a_compactor configuration ports ring.run (map last_net outputs))) 1748 (chains + 876) (ring_most ports)
    (λ ring. bind_most (each (an_edt_chain n configuration plan gap ports ring.phases outputs) (range_with_len 0 (length plan.chains))) (λ _. a_compactor configuration ports ring.run (map last_net outputs)) chains 876
    (at_most (each (an_edt_chain n configuration plan gap ports ring.phases outputs) (range_with_len 0 (length plan.chains))) (sum_of (λ chain. 2 + here plan.lockups chain) (range_with_len 0 (length plan.chains))) chains (chains_few plan.lockups (length plan.chains) low)
    (each_most (an_edt_chain n configuration plan gap ports ring.phases outputs) (λ chain. 2 + here plan.lockups chain) (range_with_len 0 (length plan.chains))
    (λ chain. fed_most (falling_head plan chain) n configuration gap plan.lockups chain (cells_at plan.chains chain) (row_at outputs chain) ports.edt_clock (net_at ring.phases chain))))
    (λ _. compactor_most ports ring.run (map last_net outputs))))
