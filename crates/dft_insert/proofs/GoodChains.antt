-- The parts of chains are good.
use Rattle.std.proofs.Common.{ℕ, zero, suc, ◌+◌, ◌≡◌, ◌≤◌, ◌==◌, Bool, true, false, List, [], ◌∷◌, ◌++◌, length, Option, None, Some, slice_get, refl, ap, arith, ◌∙◌}
use Rattle.std.specs.Prelude.{if◌then◌else◌}
use Rattle.std.specs.List.{AllByRecursion, range_with_len}
use Rattle.dft_edt.proofs.PartLists.{nets_in-append}
use Rattle.dft_cells.specs.declared.kind.Gate.TheVariants.{Inv}
use Rattle.dft_cells.specs.declared.kind.Role.{Role}
use Rattle.dft_cells.specs.declared.kind.Role.TheVariants.{Input, Clock, Din, Reset, Preset, ScanIn, ScanEnable, Output, Inverted}
use Rattle.dft_netlist.specs.declared.ids.NetId.{NetId}
use Rattle.dft_netlist.specs.declared.ids.InstanceId.{InstanceId}
use Rattle.dft_netlist.specs.Connections.{same_role}
use Rattle.dft_netlist.specs.Netlist.{Netlist}
use Rattle.dft_netlist.specs.NetDrivers.{roles_at}
use Rattle.dft_config.specs.Config.{Config}
use Rattle.dft_stitch.specs.declared.places.LockupPlace.{LockupPlace}
use Rattle.dft_parts.specs.Parts.{Part}
use Rattle.dft_parts.specs.Recipes.{Start, Recipe, pure, nets_in, behind, each, net_at, a_net, a_lockup}
use Rattle.dft_scan_frame.specs.Moves.{Gap, moved}
use Rattle.dft_scan_frame.specs.Pins.{domain_in, number_of, own_output}
use Rattle.dft_insert.specs.Chained.{scan_roles, a_numbered_pin, a_role_pin, a_scan_in, an_open_output, own_or_made, an_output, a_row, rows, a_lockup_clock, a_lockup_behind, a_crossing, crossing_in, a_step, a_chain, a_latched_chain, a_fed_chain}
use Rattle.dft_insert.proofs.Claims.{claimed, IsFlopIn}
use Rattle.dft_insert.proofs.Goods.{Setting, IsBelow, AreBelow, made_below, none_below, below_more, below_at, none, one, IsGood, good_nil, good_both, good_as, good_net, good_lockup, good_pin, good_input, good_after, good_end}
use Rattle.dft_insert.proofs.GoodSums.{Gives, Collected, gate_gives, collect_good}
use Rattle.dft_insert.proofs.GoodRing.{any}

-- ---- where chains are made

-- a scanned cell of a design in the netlist that grows: a flip-flop with the pins of its scan cell
pub record IsScanCell (n w : Netlist) (cell : InstanceId) : Type 0 where
  pub flop : IsFlopIn w.library (slice_get w.instances cell.0)
  pub roles : roles_at w cell.0 ≡ scan_roles n cell

-- the clocks of domains and the own outputs of cells stand below what is made
pub record ChainSetting (n w : Netlist) (config : Config) (gap : Gap) (rank : ℕ → ℕ) (base : ℕ) : Type 0 where
  pub setting : Setting w.library rank base
  pub domains : (domain : ℕ) → IsBelow rank base (record { 0 = domain_in n gap config domain })
  pub owns : (cell : InstanceId) (net : ℕ) → own_output n cell ≡ Some net → IsBelow rank base (record { 0 = moved gap net })

-- what is collected for a list and makes nothing that is owed or driven from elsewhere
pub each_none : {X : Type 0} (f : X → Recipe (Unit {0})) (n : Netlist) (rank : ℕ → ℕ) (P : X → Type 0) (at : Start) (xs : List X) → AllByRecursion P xs →
    ((x : X) (a : Start) → P x → a.library ≡ at.library → at.next ≤ a.next → IsGood n rank a (f x a).parts none none) → IsGood n rank at (each f xs at).parts none none
unfolding each
each_none f n rank P at [] h fact = good_nil n rank at
each_none f n rank P at (x ∷ xs) h fact =
    let first = (f x at).parts in
    let next = behind at first in
    good_after n rank at first (each f xs next).parts none none (fact x at h.0 refl (omega arith)) (each_none f n rank P next xs h.1 (λ y a p same past. fact y a p same (omega (arith, past))))

-- ---- pins

scan_claims : (r : Role) (net : NetId) → same_role ScanIn r ≡ true → claimed (Some r) net ≡ []
scan_claims ScanIn net h = refl
scan_claims Input net h = absurd cc
scan_claims Clock net h = absurd cc
scan_claims Din net h = absurd cc
scan_claims Reset net h = absurd cc
scan_claims Preset net h = absurd cc
scan_claims ScanEnable net h = absurd cc
scan_claims Output net h = absurd cc
scan_claims Inverted net h = absurd cc

-- a pin that was found, in a list of pins from a number on, claims nothing
abbrev ClaimsNone : (roles : List Role) → (net : NetId) → (from : ℕ) → Option ℕ → Type 0
ClaimsNone roles net from None = Unit {0}
ClaimsNone roles net from (Some pin) = (k : ℕ) × (pin ≡ from + k) × (claimed (slice_get roles k) net ≡ [])

later_none : (r : Role) (roles : List Role) (net : NetId) (from : ℕ) (o : Option ℕ) → ClaimsNone roles net (suc from) o → ClaimsNone (r ∷ roles) net from o
later_none r roles net from None h = tt
later_none r roles net from (Some pin) h = (suc h.0, (let e = h.1 in omega (arith, e)), h.2)

chosen_none : (r : Role) (roles : List Role) (net : NetId) (from : ℕ) (b : Bool) (o : Option ℕ) → same_role ScanIn r ≡ b → ClaimsNone roles net (suc from) o → ClaimsNone (r ∷ roles) net from (if b then Some from else o)
chosen_none r roles net from true o is h = (zero, omega arith, scan_claims r net is)
chosen_none r roles net from false o is h = later_none r roles net from o h

number_none : (roles : List Role) (net : NetId) (from : ℕ) → ClaimsNone roles net from (number_of (same_role ScanIn) from roles)
number_none [] net from = tt
number_none (r ∷ roles) net from = chosen_none r roles net from (same_role ScanIn r) (number_of (same_role ScanIn) (suc from) roles) refl (number_none roles net (suc from))

numbered_good : (n w : Netlist) (rank : ℕ → ℕ) (at : Start) (cell : InstanceId) (net : NetId) (o : Option ℕ) → IsScanCell n w cell → ClaimsNone (scan_roles n cell) net 0 o → IsGood w rank at (a_numbered_pin cell o net at).parts none none
numbered_good n w rank at cell net None is h = good_nil w rank at
numbered_good n w rank at cell net (Some pin) is h =
    let here : pin ≡ h.0 = (let e = h.1 in omega (arith, e)) in
    good_input w rank at cell pin net is.flop (ap (λ (roles : List Role). claimed (slice_get roles pin) net) is.roles ∙ ap (λ (k : ℕ). claimed (slice_get (scan_roles n cell) k) net) here ∙ h.2)

-- a cell, if there is one
abbrev pub IfCell : Netlist → Netlist → Option InstanceId → Type 0
IfCell n w None = Unit {0}
IfCell n w (Some cell) = IsScanCell n w cell

pub cell_of : (n w : Netlist) (cells : List InstanceId) (k : ℕ) → AllByRecursion (IsScanCell n w) cells → IfCell n w (slice_get cells k)
cell_of n w [] k h = tt
cell_of n w (cell ∷ cells) zero h = h.0
cell_of n w (cell ∷ cells) (suc k) h = cell_of n w cells k h.1

scan_in_good : (n w : Netlist) (rank : ℕ → ℕ) (at : Start) (o : Option InstanceId) (net : NetId) → IfCell n w o → IsGood w rank at (a_scan_in n o net at).parts none none
scan_in_good n w rank at None net h = good_nil w rank at
scan_in_good n w rank at (Some cell) net h = numbered_good n w rank at cell net (number_of (same_role ScanIn) 0 (scan_roles n cell)) h (number_none (scan_roles n cell) net 0)

-- ---- outputs

open_pin : (w : Netlist) (rank : ℕ → ℕ) (at : Start) (cell : InstanceId) (net : NetId) (o : Option ℕ) → IsFlopIn w.library (slice_get w.instances cell.0) → IsGood w rank at (a_numbered_pin cell o net at).parts none (one net.0)
open_pin w rank at cell net None flop = good_as w rank at [] none none none (one net.0) (λ k. omega arith) (good_nil w rank at)
open_pin w rank at cell net (Some pin) flop = good_pin w rank at cell pin net flop

abbrev OutputGives : Netlist → (rank : ℕ → ℕ) → Start → List Part → NetId → Type 0
OutputGives w rank at parts net = IsGood w rank at parts none none × IsBelow rank (at.next + nets_in parts) net

open_gives : (n w : Netlist) (rank : ℕ → ℕ) (base : ℕ) (at : Start) (cell : InstanceId) → Setting w.library rank base → base ≤ at.next → IsScanCell n w cell → OutputGives w rank at (an_open_output n cell at).parts (an_open_output n cell at).value
unfolding an_open_output
open_gives n w rank base at cell s from is =
    let net : NetId = record { 0 = at.next } in
    let first = (a_net at).parts in
    let a = behind at first in
    let pin = (a_role_pin n cell Output net a).parts in
    let whole = first ++ (pin ++ []) in (
      good_as w rank at whole (λ k. one at.next k + none k) none (λ k. none k + one at.next k) none (λ k. omega arith)
          (good_both w rank at first (pin ++ []) (one at.next) none none (one at.next) (good_net w rank at) (good_end w rank a pin none (one at.next) (open_pin w rank a cell net (number_of (same_role Output) 0 (scan_roles n cell)) is.flop))),
      made_below w.library rank base at.next (at.next + nets_in whole) s from (omega (arith, nets_in-append first (pin ++ []))),
    )

own_gives : (n w : Netlist) (config : Config) (gap : Gap) (rank : ℕ → ℕ) (base : ℕ) (at : Start) (cell : InstanceId) (o : Option ℕ) → ChainSetting n w config gap rank base → base ≤ at.next → IsScanCell n w cell → own_output n cell ≡ o →
    OutputGives w rank at (own_or_made n gap cell o at).parts (own_or_made n gap cell o at).value
own_gives n w config gap rank base at cell None s from is own = open_gives n w rank base at cell s.setting from is
own_gives n w config gap rank base at cell (Some net) s from is own = (good_nil w rank at, λ k past. s.owns cell net own k (omega (arith, from, past)))

pub row_gives : (n w : Netlist) (config : Config) (gap : Gap) (rank : ℕ → ℕ) (base : ℕ) (at : Start) (cells : List InstanceId) → ChainSetting n w config gap rank base → base ≤ at.next → AllByRecursion (IsScanCell n w) cells →
    Collected w rank at (IsBelow rank) (a_row n gap cells at).parts (a_row n gap cells at).value
row_gives n w config gap rank base at cells s from are =
    collect_good (an_output n gap) w rank (IsScanCell n w) (IsBelow rank) at cells (λ x y v le h k past. h k (omega (arith, le, past))) are
    (λ cell a is lib past. own_gives n w config gap rank base a cell (own_output n cell) s (omega (arith, from, past)) is refl)

pub rows_give : (n w : Netlist) (config : Config) (gap : Gap) (rank : ℕ → ℕ) (base : ℕ) (at : Start) (chains : List (List InstanceId)) → ChainSetting n w config gap rank base → base ≤ at.next → AllByRecursion (AllByRecursion (IsScanCell n w)) chains →
    Collected w rank at (AreBelow rank) (rows n gap chains at).parts (rows n gap chains at).value
rows_give n w config gap rank base at chains s from are =
    collect_good (a_row n gap) w rank (AllByRecursion (IsScanCell n w)) (AreBelow rank) at chains (λ x y v le h. below_more rank x y v le h) are
    (λ cells a is lib past. (let h = row_gives n w config gap rank base a cells s (omega (arith, from, past)) is in (h.good, h.all)))

-- ---- links

lockup_good : (n w : Netlist) (rank : ℕ → ℕ) (base : ℕ) (at : Start) (cells : List InstanceId) (outputs : List NetId) (after : ℕ) (clock : NetId) → Setting w.library rank base → base ≤ at.next → at.library ≡ w.library →
    AllByRecursion (IsScanCell n w) cells → AreBelow rank at.next outputs → IsBelow rank at.next clock → IsGood w rank at (a_lockup_behind n cells outputs after clock at).parts none none
unfolding a_lockup_behind
lockup_good n w rank base at cells outputs after clock s from same are below clocked =
    let net : NetId = record { 0 = at.next } in
    let input = net_at outputs after in
    let first = (a_net at).parts in
    let a = behind at first in
    let lockup = (a_lockup clock input net a).parts in
    let b = behind a lockup in
    let pin = (a_scan_in n (slice_get cells (after + 1)) net b).parts in
    good_as w rank at (first ++ (lockup ++ pin)) (λ k. one at.next k + (none k + none k)) none (λ k. none k + (one at.next k + none k)) none (λ k. omega arith)
    (good_both w rank at first (lockup ++ pin) (one at.next) none none (λ k. one at.next k + none k) (good_net w rank at)
    (good_both w rank a lockup pin none none (one at.next) none
    (good_lockup w rank a clock input net s.well same (clocked at.next (omega arith)) (below_at rank at.next outputs after (none_below w.library rank base at.next s from) below at.next (omega arith)))
    (scan_in_good n w rank b (slice_get cells (after + 1)) net (cell_of n w cells (after + 1) are))))

-- the clock of a lock-up is good, and stands below what is made behind it
clock_gives : (w : Netlist) (rank : ℕ → ℕ) (base : ℕ) (at : Start) (port : NetId) (high : Bool) → Setting w.library rank base → base ≤ at.next → IsBelow rank at.next port →
    Gives w rank at (a_lockup_clock port high at).parts ((a_lockup_clock port high at).value ∷ [])
clock_gives w rank base at port false s from below = record { good = good_nil w rank at; below = below_more rank at.next (at.next + 0) (port ∷ []) (omega arith) (below, tt) }
clock_gives w rank base at port true s from below = gate_gives w rank base at Inv (port ∷ []) s from (below, tt)

crossing_good : (n w : Netlist) (config : Config) (gap : Gap) (rank : ℕ → ℕ) (base : ℕ) (at : Start) (cells : List InstanceId) (outputs : List NetId) (l : LockupPlace) → ChainSetting n w config gap rank base → base ≤ at.next → at.library ≡ w.library →
    AllByRecursion (IsScanCell n w) cells → AreBelow rank at.next outputs → IsGood w rank at (a_crossing n config gap cells outputs l at).parts none none
unfolding a_crossing
crossing_good n w config gap rank base at cells outputs l s from same are below =
    let port : NetId = record { 0 = domain_in n gap config l.domain } in
    let clock = a_lockup_clock port l.high at in
    let a = behind at clock.parts in
    let given = clock_gives w rank base at port l.high s.setting from (λ k past. s.domains l.domain k (omega (arith, from, past))) in
    good_after w rank at clock.parts (a_lockup_behind n cells outputs l.after clock.value a).parts none none given.good
    (lockup_good n w rank base a cells outputs l.after clock.value s.setting (omega (arith, from)) same are (below_more rank at.next a.next outputs (omega arith) below) given.below.0)

crossing_if : (w : Netlist) (rank : ℕ → ℕ) (at : Start) (b : Bool) (r : Recipe (Unit {0})) → IsGood w rank at (r at).parts none none → IsGood w rank at ((if b then r else pure tt) at).parts none none
crossing_if w rank at true r h = h
crossing_if w rank at false r h = good_nil w rank at

pub chain_good : (n w : Netlist) (config : Config) (gap : Gap) (rank : ℕ → ℕ) (base : ℕ) (at : Start) (lockups : List LockupPlace) (chain : ℕ) (cells : List InstanceId) (outputs : List NetId) (entry : NetId) → ChainSetting n w config gap rank base → (from : base ≤ at.next) →
    (same : at.library ≡ w.library) → (are : AllByRecursion (IsScanCell n w) cells) → (below : AreBelow rank at.next outputs) → IsGood w rank at (a_chain n config gap lockups chain cells outputs entry at).parts none none
unfolding a_chain
chain_good n w config gap rank base at lockups chain cells outputs entry s from same are below =
    let first = (a_scan_in n (slice_get cells 0) entry at).parts in
    let a = behind at first in
    let crossings = (each (crossing_in n config gap chain cells outputs) lockups a).parts in
    let b = behind a crossings in
    let steps = (each (a_step n cells outputs) (range_with_len 0 (length cells)) b).parts in
    good_after w rank at first (crossings ++ steps) none none (scan_in_good n w rank at (slice_get cells 0) entry (cell_of n w cells 0 are))
    (good_after w rank a crossings steps none none
    (each_none (crossing_in n config gap chain cells outputs) w rank (λ (_ : LockupPlace). Unit {0}) a lockups (any lockups)
    (λ l d _ lib past. crossing_if w rank d (l.chain == chain) (a_crossing n config gap cells outputs l)
    (crossing_good n w config gap rank base d cells outputs l s (omega (arith, from, past)) (lib ∙ same) are (below_more rank at.next d.next outputs (omega (arith, past)) below))))
    (each_none (a_step n cells outputs) w rank (λ (_ : ℕ). Unit {0}) b (range_with_len 0 (length cells)) (any (range_with_len 0 (length cells)))
    (λ place d _ lib past. scan_in_good n w rank d (slice_get cells (place + 1)) (net_at outputs place) (cell_of n w cells (place + 1) are))))

pub latched_chain_good : (n w : Netlist) (config : Config) (gap : Gap) (rank : ℕ → ℕ) (base : ℕ) (at : Start) (lockups : List LockupPlace) (chain : ℕ) (cells : List InstanceId) (outputs : List NetId) (clock phase : NetId) → ChainSetting n w config gap rank base →
    (from : base ≤ at.next) → (same : at.library ≡ w.library) → (are : AllByRecursion (IsScanCell n w) cells) → (below : AreBelow rank at.next outputs) → (clocked : IsBelow rank at.next clock) → (phased : IsBelow rank at.next phase) → IsGood w rank at (a_latched_chain n config gap lockups chain cells outputs clock phase at).parts none none
unfolding a_latched_chain
latched_chain_good n w config gap rank base at lockups chain cells outputs clock phase s from same are below clocked phased =
    let entry : NetId = record { 0 = at.next } in
    let first = (a_net at).parts in
    let a = behind at first in
    let lockup = (a_lockup clock phase entry a).parts in
    let b = behind a lockup in
    let chained = (a_chain n config gap lockups chain cells outputs entry b).parts in
    good_as w rank at (first ++ (lockup ++ chained)) (λ k. one at.next k + (none k + none k)) none (λ k. none k + (one at.next k + none k)) none (λ k. omega arith)
    (good_both w rank at first (lockup ++ chained) (one at.next) none none (λ k. one at.next k + none k) (good_net w rank at)
    (good_both w rank a lockup chained none none (one at.next) none
    (good_lockup w rank a clock phase entry s.setting.well same (clocked at.next (omega arith)) (phased at.next (omega arith)))
    (chain_good n w config gap rank base b lockups chain cells outputs entry s (omega (arith, from)) same are (below_more rank at.next b.next outputs (omega arith) below))))

-- a chain behind its phase sum
pub fed_chain_good : (falling : Bool) (n w : Netlist) (config : Config) (gap : Gap) (rank : ℕ → ℕ) (base : ℕ) (at : Start) (lockups : List LockupPlace) (chain : ℕ) (cells : List InstanceId) (outputs : List NetId) (clock phase : NetId) → ChainSetting n w config gap rank base →
    base ≤ at.next → at.library ≡ w.library → AllByRecursion (IsScanCell n w) cells → AreBelow rank at.next outputs → IsBelow rank at.next clock → IsBelow rank at.next phase → IsGood w rank at (a_fed_chain falling n config gap lockups chain cells outputs clock phase at).parts none none
fed_chain_good true n w config gap rank base at lockups chain cells outputs clock phase s from same are below clocked phased = chain_good n w config gap rank base at lockups chain cells outputs phase s from same are below
fed_chain_good false n w config gap rank base at lockups chain cells outputs clock phase s from same are below clocked phased = latched_chain_good n w config gap rank base at lockups chain cells outputs clock phase s from same are below clocked phased
