-- The scan inputs of the planned cells, where all parts are made: what each is joined to.
use Rattle.std.proofs.Common.{ℕ, zero, suc, ◌+◌, ◌<◌, ◌≡◌, ◌==◌, inl, inr, Bool, true, false, List, [], ◌∷◌, ◌++◌, length, map, None, Some, option_and_then, slice_get, slice_index_or, refl, sym, subst, ap, arith, ◌∙◌}
use Rattle.std.specs.List.{range_with_len}
use Rattle.std.proofs.lemmas.Bool.{eqb-true, eqb-false}
use Rattle.std.proofs.lemmas.Option.{none-some, slice_get_within, get_or_from_slice_get}
use Rattle.dft_base.proofs.ListLemmas.{get_range}
use Rattle.dft_cells.specs.declared.kind.Role.TheVariants.{ScanIn}
use Rattle.dft_netlist.specs.declared.ids.NetId.{NetId}
use Rattle.dft_netlist.specs.declared.ids.InstanceId.{InstanceId}
use Rattle.dft_netlist.specs.declared.instance.Signal.TheVariants as signal
use Rattle.dft_netlist.specs.Drivers.{Net}
use Rattle.dft_netlist.specs.Connections.{same_role}
use Rattle.dft_behavior.specs.Logic.{Logic, Lockup, logic_of}
use Rattle.dft_netlist.specs.Netlist.{Netlist}
use Rattle.dft_config.specs.Config.{Config}
use Rattle.dft_rules.specs.Rules.{judgements}
use Rattle.dft_stitch.specs.Chains.{plan_of}
use Rattle.dft_stitch.specs.Plans.{cell_at, falling_head}
use Rattle.dft_stitch.proofs.CellPlaces.{chain_within}
use Rattle.dft_stitch.proofs.LockupLemmas.{Neighbours, OneClock, FallsFirst, WithLockup, neighbours}
use Rattle.dft_stitch.proofs.OnceLemmas.{domain_within}
use Rattle.dft_stitch.proofs.OrderLemmas.{falling_first}
use Rattle.dft_chains.specs.Hardware.{Leads}
use Rattle.dft_parts.specs.Parts.{Part}
use Rattle.dft_parts.specs.Recipes.{Recipe, net_at}
use Rattle.dft_parts.proofs.Growing.{parts_grow}
use Rattle.dft_parts.proofs.Stores.{port_shows}
use Rattle.dft_scan_frame.specs.Moves.{at_net, moved_signal}
use Rattle.dft_scan_frame.specs.Pins.{number_of}
use Rattle.dft_scan_frame.specs.Statements.{IsReady}
use Rattle.dft_insert.specs.declared.style.Style.{Style}
use Rattle.dft_insert.specs.declared.style.Style.TheVariants.{Plain, Edt}
use Rattle.dft_insert.specs.Chained.{scan_roles, a_chain, cells_at, row_at}
use Rattle.dft_insert.specs.Ports.{gap_in, plain_in}
use Rattle.dft_insert.specs.Scanned.{a_plain_chain, an_edt_chain, framed}
use Rattle.dft_insert.specs.Statements.{scanned, made_in}
use Rattle.dft_insert.proofs.Free.{ring_free}
use Rattle.dft_insert.proofs.Joins.{JoinsAt}
use Rattle.dft_insert.specs.Agreeing.{ports_in}
use Rattle.dft_scan_behavior.specs.Facts.{rows_in, ports_of, ring_start, ring_parts, chains_start, chain_parts}
use Rattle.dft_scan_behavior.proofs.ChainNets.{IsFed, IfHere, AllCross, AllStep, entry_found, crossing_first, step_first, chain_apart, fed_found, fed_fits}
use Rattle.dft_scan_behavior.proofs.Cuts.{plain_start, plain_chain_parts, end_parts, compactor_list, rest_of, made_cut, all_there}
use Rattle.dft_scan_behavior.proofs.FirstNets.{first_at, Found, joined_first, none_first, FitsIn, FoundIn, found_front, found_back, found_each}
use Rattle.dft_scan_behavior.proofs.Lockups.{verdict, clock_of_planned, cell_clock, by_lockup, directly, across, lockup_means}
use Rattle.dft_scan_behavior.proofs.Outputs.{has_chain, one_place, IsShown, shown, input_free}
use Rattle.dft_scan_behavior.proofs.Planned.{cell_pins, now_pins, IsPlanned}
use Rattle.dft_scan_behavior.proofs.PortsDriven.{edt_clock_is}

-- ---- cells of a chain

index_cell : (xs : List (List InstanceId)) (chain k : ℕ) (c : InstanceId) → slice_get (slice_index_or xs chain []) k ≡ Some c → cell_at xs chain k ≡ Some c
index_cell [] chain k c h = absurd (none-some c h)
index_cell (x ∷ xs) zero k c h = h
index_cell (x ∷ xs) (suc chain) k c h = index_cell xs chain k c h

pub cell_index : (xs : List (List InstanceId)) (chain k : ℕ) (c : InstanceId) → cell_at xs chain k ≡ Some c → slice_get (cells_at xs chain) k ≡ Some c
cell_index xs chain k c h =
    let has = has_chain xs chain k c h in
    ap (λ (cells : List InstanceId). slice_get cells k) (get_or_from_slice_get xs chain has.cells [] has.at) ∙ has.here

-- ---- the recipe of a chain, in all that is made

abbrev pub chain_recipe : Style → Netlist → Config → (chain : ℕ) → Recipe (Unit {0})
chain_recipe Plain n config = a_plain_chain n config (plan_of n config) (gap_in Plain n config) (rows_in Plain n config).value
chain_recipe Edt n config = an_edt_chain n config (plan_of n config) (gap_in Edt n config) (ports_of n config) (ring_parts n config).value.phases (rows_in Edt n config).value

module _ (n : Netlist) (config : Config) (i p : ℕ) (P : NetId → Type 0) where
  -- the cell stands in no other chain
  abbrev Elsewhere : ℕ → Type 0
  Elsewhere chain = (other k : ℕ) (c : InstanceId) → slice_get (cells_at (plan_of n config).chains other) k ≡ Some c → c.0 ≡ i → other ≡ chain

  other_fits : (style : Style) (chain other : ℕ) → Elsewhere chain → (other ≡ chain → ⊥) → FitsIn (scanned style n config) i p P (chain_recipe style n config other)
  other_fits Plain chain other only apart =
      chain_apart n (scanned Plain n config) config (gap_in Plain n config) i p P (plan_of n config).lockups other (cells_at (plan_of n config).chains other) (row_at (rows_in Plain n config).value other) (plain_in (gap_in Plain n config).before other)
      (λ k c is same. apart (only other k c is same))
  other_fits Edt chain other only apart =
      fed_fits n (scanned Edt n config) config (gap_in Edt n config) i p P (plan_of n config).lockups other (cells_at (plan_of n config).chains other) (row_at (rows_in Edt n config).value other) (falling_head (plan_of n config) other) (ports_of n config).edt_clock (net_at (ring_parts n config).value.phases other)
      (λ entry. chain_apart n (scanned Edt n config) config (gap_in Edt n config) i p P (plan_of n config).lockups other (cells_at (plan_of n config).chains other) (row_at (rows_in Edt n config).value other) entry (λ k c is same. apart (only other k c is same)))

  either_fits : (style : Style) (chain other : ℕ) (b : Bool) → (other == chain) ≡ b → Elsewhere chain → FoundIn (scanned style n config) i p P (chain_recipe style n config chain) → FitsIn (scanned style n config) i p P (chain_recipe style n config other)
  either_fits style chain other true is only found = subst (λ k. FitsIn (scanned style n config) i p P (chain_recipe style n config k)) (sym (eqb-true other chain is)) (λ at k lib has. inr (found at k lib has))
  either_fits style chain other false is only found = other_fits style chain other only (eqb-false other chain is)

  -- where the rows do not join the pin and the recipe of its chain does, the chain's is the net that it is joined to
  pub made_first : (style : Style) (chain : ℕ) → first_at (rows_in style n config).parts i p ≡ None → chain < length (plan_of n config).chains → Elsewhere chain → FoundIn (scanned style n config) i p P (chain_recipe style n config chain) → Found P (first_at (made_in style n config) i p)
  made_first Plain chain none less only found =
      let w : Netlist = scanned Plain n config in
      let lib = sym (parts_grow (framed Plain n config) (made_in Plain n config)).library in
      subst (λ (ps : List Part). Found P (first_at ps i p)) (sym (made_cut Plain n config))
      (found_back w i p P (length n.instances) (rows_in Plain n config).parts (rest_of Plain n config) (λ _. inl none)
      (λ has. found_front w i p P _ (plain_chain_parts n config) (end_parts n config)
      (λ there. found_each w i p P (chain_recipe Plain n config) (range_with_len 0 (length (plan_of n config).chains)) chain chain (get_range 0 (length (plan_of n config).chains) chain less ∙ ap Some (omega arith)) found
      (λ k other at. either_fits Plain chain other (other == chain) refl only found) (plain_start n config) _ lib there) has)
      (all_there Plain n config))
  made_first Edt chain none less only found =
      let w : Netlist = scanned Edt n config in
      let lib = sym (parts_grow (framed Edt n config) (made_in Edt n config)).library in
      let Q : ℕ → ℕ → Type 0 = λ j q. ⊥ in
      subst (λ (ps : List Part). Found P (first_at ps i p)) (sym (made_cut Edt n config))
      (found_back w i p P (length n.instances) (rows_in Edt n config).parts (rest_of Edt n config) (λ _. inl none)
      (λ has. found_back w i p P _ (ring_parts n config).parts (chain_parts n config ++ compactor_list n config)
      (λ _. inl (none_first Q (ring_parts n config).parts i p (λ q. q) (ring_free (JoinsAt Q) config (ports_of n config) (record { net = tt; cell = λ id pins. tt; gate = λ kind inputs output. tt }) (ring_start n config))))
      (λ late. found_front w i p P _ (chain_parts n config) (compactor_list n config)
      (λ there. found_each w i p P (chain_recipe Edt n config) (range_with_len 0 (length (plan_of n config).chains)) chain chain (get_range 0 (length (plan_of n config).chains) chain less ∙ ap Some (omega arith)) found
      (λ k other at. either_fits Edt chain other (other == chain) refl only found) (chains_start n config) _ lib there) late) has)
      (all_there Edt n config))

-- ---- what a scan input is joined to

-- it is joined to a net, and of it this holds
abbrev pub IsJoined : (style : Style) (n : Netlist) (config : Config) (cell : InstanceId) → IsPlanned style n config cell.0 → (NetId → Type 0) → Type 0
IsJoined style n config cell s P = (net : NetId) × (slice_get (now_pins style n config cell.0 s.instance s.id) s.shape.input ≡ Some (signal.Net net)) × P net

input_number : (style : Style) (n : Netlist) (config : Config) (cell : InstanceId) (s : IsPlanned style n config cell.0) → number_of (same_role ScanIn) 0 (scan_roles n cell) ≡ Some s.shape.input
input_number style n config cell s = ap (number_of (same_role ScanIn) 0) (sym s.roles) ∙ s.shape.is_input

joined_by : (style : Style) (n : Netlist) (config : Config) (chain place : ℕ) (cell : InstanceId) (s : IsPlanned style n config cell.0) (P : NetId → Type 0) → IsReady n config → cell_at (plan_of n config).chains chain place ≡ Some cell →
    FoundIn (scanned style n config) cell.0 s.shape.input P (chain_recipe style n config chain) → IsJoined style n config cell s P
joined_by style n config chain place cell s P ready stands found =
    let first = made_first n config cell.0 s.shape.input P style chain (input_free style n config cell s ready chain place stands) (chain_within (plan_of n config).chains chain place cell stands)
    (λ other k c is same. (one_place n config chain place other k cell c ready stands (index_cell (plan_of n config).chains other k c is) same).0) found in (
      first.0,
      joined_first (made_in style n config) cell.0 s.shape.input (cell_pins style n config s.instance s.id) first.0 (s.shape.opened (at_net (gap_in style n config).before) (map (moved_signal (gap_in style n config)) s.instance.pins)) first.1,
      first.2,
    )

-- ---- behind another cell

module _ (style : Style) (n : Netlist) (config : Config) (ready : IsReady n config) (chain place : ℕ) (cell next : InstanceId) (s : IsPlanned style n config cell.0) (t : IsPlanned style n config next.0)
    (stands : cell_at (plan_of n config).chains chain place ≡ Some cell) (follows : cell_at (plan_of n config).chains chain (suc place) ≡ Some next) where
  abbrev l : Logic
  l = logic_of (scanned style n config) (ports_in style n config)

  -- the net leads from the cell to the next
  abbrev Leading : NetId → Type 0
  Leading net = Leads l cell.0 next.0 (Net net.0)

  abbrev cells : List InstanceId
  cells = cells_at (plan_of n config).chains chain

  abbrev row : List NetId
  row = row_at (rows_in style n config).value chain

  abbrev out : IsShown style n config cell s chain place
  out = shown style n config cell s ready chain place stands

  -- only the place before leads here
  behind : (k : ℕ) (c : InstanceId) → slice_get cells k ≡ Some c → c.0 ≡ next.0 → k ≡ suc place
  behind k c is same = (one_place n config chain (suc place) chain k next c ready follows (index_cell (plan_of n config).chains chain k c is) same).1

  later : slice_get out.cells (suc place) ≡ Some next
  later = sym (ap (option_and_then (λ (cs : List InstanceId). slice_get cs (suc place))) out.chained) ∙ follows

  cross : AllCross n (scanned style n config) config (gap_in style n config) next.0 t.shape.input Leading (plan_of n config).lockups chain cells row
  cross m lockup there chain_is c is same clock made number library net lib h =
      by_lockup style n config ready chain place cell next.0 s out t number m library lockup clock net lib there chain_is (let e = behind (lockup.after + 1) c is same in omega (arith, e)) later made h

  -- the output of the cell leads here
  step : Leading (net_at row place) → AllStep n (scanned style n config) config (gap_in style n config) next.0 t.shape.input Leading (plan_of n config).lockups chain cells row
  step leads k less c is same =
      let at : place ≡ k = (let e = behind (k + 1) c is same in omega (arith, e)) in
      subst (λ j. Leading (net_at row j)) at leads

  here : slice_get cells (place + 1) ≡ Some next
  here = let e : place + 1 ≡ suc place = omega arith in ap (slice_get cells) e ∙ cell_index (plan_of n config).chains chain (suc place) next follows

  not_first : (entry : NetId) → IfHere n (scanned style n config) config (gap_in style n config) next.0 t.shape.input Leading (slice_get cells 0) (Leading entry)
  not_first entry c is same = absurd (let e = behind 0 c is same in omega (arith, e))

  step_found : (entry : NetId) → Leading (net_at row place) → FoundIn (scanned style n config) next.0 t.shape.input Leading (a_chain n config (gap_in style n config) (plan_of n config).lockups chain cells row entry)
  step_found entry leads =
      step_first n (scanned style n config) config (gap_in style n config) next.0 t.shape.input Leading (plan_of n config).lockups chain cells row entry place next (not_first entry)
      (slice_get_within cells place cell (cell_index (plan_of n config).chains chain place cell stands)) here (input_number style n config next t) refl cross (step leads)

  -- a falling cell does not stand behind a rising one
  falls_first : t.falling ≡ true → s.falling ≡ true
  falls_first falls =
      falling_first (judgements n config) config chain place cell next (clock_of_planned style n config cell.0 s) (clock_of_planned style n config next.0 t) ready.range.chains.0 stands follows
      (verdict n config cell.0 s.domain s.falling s.instance s.at s.judgement) (verdict n config next.0 t.domain t.falling t.instance t.at t.judgement) (domain_within n config next.0 t.domain t.falling t.judgement) falls

  by_neighbours : (entry : NetId) → Neighbours (plan_of n config).lockups chain place (clock_of_planned style n config cell.0 s) (clock_of_planned style n config next.0 t) →
      FoundIn (scanned style n config) next.0 t.shape.input Leading (a_chain n config (gap_in style n config) (plan_of n config).lockups chain cells row entry)
  by_neighbours entry (OneClock domain edge) = step_found entry (directly style n config ready chain place cell next.0 s out t domain edge)
  by_neighbours entry (FallsFirst falls rises) = step_found entry (across style n config ready chain place cell next.0 s out t falls rises)
  by_neighbours entry (WithLockup number listed) =
      crossing_first n (scanned style n config) config (gap_in style n config) next.0 t.shape.input Leading (plan_of n config).lockups chain cells row entry number
      (record { chain = chain; after = place; domain = s.domain; high = s.falling }) next (not_first entry) listed refl here (input_number style n config next t) refl cross

  chain_found : (entry : NetId) → FoundIn (scanned style n config) next.0 t.shape.input Leading (a_chain n config (gap_in style n config) (plan_of n config).lockups chain cells row entry)
  chain_found entry =
      by_neighbours entry
      (neighbours (judgements n config) (plan_of n config).chains out.cells chain place cell (clock_of_planned style n config cell.0 s) (clock_of_planned style n config next.0 t) out.chained out.stands
      (cell_clock style n config place cell out.cells s out.stands) (cell_clock style n config (suc place) next out.cells t later) falls_first)

pub link_joined : (style : Style) (n : Netlist) (config : Config) (ready : IsReady n config) (chain place : ℕ) (cell next : InstanceId) (s : IsPlanned style n config cell.0) (t : IsPlanned style n config next.0) → cell_at (plan_of n config).chains chain place ≡ Some cell →
    cell_at (plan_of n config).chains chain (suc place) ≡ Some next → IsJoined style n config next t (λ net. Leads (logic_of (scanned style n config) (ports_in style n config)) cell.0 next.0 (Net net.0))
link_joined Plain n config ready chain place cell next s t stands follows =
    joined_by Plain n config chain (suc place) next t (λ net. Leads (logic_of (scanned Plain n config) (ports_in Plain n config)) cell.0 next.0 (Net net.0)) ready follows
    (chain_found Plain n config ready chain place cell next s t stands follows (plain_in (gap_in Plain n config).before chain))
link_joined Edt n config ready chain place cell next s t stands follows =
    joined_by Edt n config chain (suc place) next t (λ net. Leads (logic_of (scanned Edt n config) (ports_in Edt n config)) cell.0 next.0 (Net net.0)) ready follows
    (fed_found n (scanned Edt n config) config (gap_in Edt n config) next.0 t.shape.input (λ net. Leads (logic_of (scanned Edt n config) (ports_in Edt n config)) cell.0 next.0 (Net net.0)) (plan_of n config).lockups chain
    (cells_at (plan_of n config).chains chain) (row_at (rows_in Edt n config).value chain) (falling_head (plan_of n config) chain) (ports_of n config).edt_clock (net_at (ring_parts n config).value.phases chain)
    (λ entry fed. chain_found Edt n config ready chain place cell next s t stands follows entry))

-- ---- at the head of a chain

-- Behind a phase sum: where the first cell is falling the net is the sum itself, else that of a lock-up on edt_clock that takes it.
abbrev pub IsSumEntry : Netlist → Config → (falling : Bool) → (chain : ℕ) → NetId → Type 0
IsSumEntry n config true chain net = net ≡ net_at (ring_parts n config).value.phases chain
IsSumEntry n config false chain net = (lockup : ℕ) × ((logic_of (scanned Edt n config) (ports_in Edt n config)).net net.0 ≡ Lockup lockup (ports_of n config).edt_clock.0 false (Net (net_at (ring_parts n config).value.phases chain).0))

-- in style Plain it is the net of the chain's scan input port, in style Edt one behind the chain's phase sum
abbrev pub IsEntry : (style : Style) → Netlist → Config → (chain : ℕ) → NetId → Type 0
IsEntry Plain n config chain net = net ≡ plain_in (gap_in Plain n config).before chain
IsEntry Edt n config chain net = IsSumEntry n config (falling_head (plan_of n config) chain) chain net

sum_entry : (n : Netlist) (config : Config) (falling : Bool) (chain : ℕ) (entry : NetId) → IsReady n config → IsFed (scanned Edt n config) falling (ports_of n config).edt_clock (net_at (ring_parts n config).value.phases chain) entry → IsSumEntry n config falling chain entry
sum_entry n config true chain entry ready fed = fed
sum_entry n config false chain entry ready fed = (
  fed.0,
  lockup_means Edt n config fed.0 fed.1 (ports_of n config).edt_clock (net_at (ring_parts n config).value.phases chain) entry (ports_of n config).edt_clock.0 false ready fed.2
      (port_shows (scanned Edt n config) (ports_in Edt n config) (ports_of n config).edt_clock.0 (edt_clock_is n config ready)) fed.3,
)

pub entry_joined : (style : Style) (n : Netlist) (config : Config) (chain : ℕ) (cell : InstanceId) (s : IsPlanned style n config cell.0) → IsReady n config → cell_at (plan_of n config).chains chain zero ≡ Some cell → IsJoined style n config cell s (IsEntry style n config chain)
entry_joined Plain n config chain cell s ready stands =
    joined_by Plain n config chain zero cell s (IsEntry Plain n config chain) ready stands
    (entry_found n (scanned Plain n config) config (gap_in Plain n config) cell.0 s.shape.input (IsEntry Plain n config chain) (plan_of n config).lockups chain (cells_at (plan_of n config).chains chain) (row_at (rows_in Plain n config).value chain) cell
    (plain_in (gap_in Plain n config).before chain) (cell_index (plan_of n config).chains chain zero cell stands) (input_number Plain n config cell s) refl refl)
entry_joined Edt n config chain cell s ready stands =
    joined_by Edt n config chain zero cell s (IsEntry Edt n config chain) ready stands
    (fed_found n (scanned Edt n config) config (gap_in Edt n config) cell.0 s.shape.input (IsEntry Edt n config chain) (plan_of n config).lockups chain (cells_at (plan_of n config).chains chain) (row_at (rows_in Edt n config).value chain)
    (falling_head (plan_of n config) chain) (ports_of n config).edt_clock (net_at (ring_parts n config).value.phases chain)
    (λ entry fed. entry_found n (scanned Edt n config) config (gap_in Edt n config) cell.0 s.shape.input (IsEntry Edt n config chain) (plan_of n config).lockups chain (cells_at (plan_of n config).chains chain) (row_at (rows_in Edt n config).value chain) cell
    entry (cell_index (plan_of n config).chains chain zero cell stands) (input_number Edt n config cell s) refl
    (sum_entry n config (falling_head (plan_of n config) chain) chain entry ready fed)))
