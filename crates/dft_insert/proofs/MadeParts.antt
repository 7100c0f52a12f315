-- What is made in a frame, step by step.
use Rattle.std.proofs.Common.{ℕ, zero, suc, ◌+◌, ◌-◌, ◌≡◌, ◌==◌, ◌≤◌, ◌<◌, Bool, true, false, List, [], ◌∷◌, ◌++◌, length, map, drop, Option, None, Some, Result, Ok, slice_get, refl, sym, subst, ap, arith, ◌∙◌, length-append}
use Rattle.std.specs.Prelude.{slice_index_or, option_map, if◌then◌else◌}
use Rattle.std.specs.List.{All, range_with_len}
use Rattle.std.proofs.lemmas.Bool.{eqb-true}
use Rattle.std.proofs.lemmas.List.{drop_more}
use Rattle.std.proofs.lemmas.List.Elements.{All-append}
use Rattle.dft_base.specs.Lexing.{Text}
use Rattle.dft_cells.specs.declared.kind.Gate.TheVariants.{Inv}
use Rattle.dft_cells.specs.declared.kind.Role.{Role}
use Rattle.dft_cells.specs.declared.kind.Role.TheVariants.{Output}
use Rattle.dft_netlist.specs.declared.ids.NetId.{NetId}
use Rattle.dft_netlist.specs.declared.ids.InstanceId.{InstanceId}
use Rattle.dft_netlist.specs.declared.error.NetlistError.{NetlistError}
use Rattle.dft_netlist.specs.Connections.{input_net, same_role}
use Rattle.dft_netlist.specs.Names.{find_net}
use Rattle.dft_netlist.specs.Netlist.{Netlist}
use Rattle.dft_netlist.specs.NetNumbers.{nets_from}
use Rattle.dft_config.specs.Config.{Config}
use Rattle.dft_stitch.specs.declared.places.LockupPlace.{LockupPlace}
use Rattle.dft_stitch.specs.Plans.{Plan}
use Rattle.dft_parts.specs.declared.edt_ports.EdtPorts.{EdtPorts}
use Rattle.dft_parts.specs.Parts.{Making, with_pin}
use Rattle.dft_parts.specs.Recipes.{Recipe, AreThere, pure, ◌>>=◌, each, collect, net_at, a_net, a_lockup, a_pin, outcome, IsRefusal, Makes}
use Rattle.dft_parts.specs.Sums.{a_driving_gate}
use Rattle.dft_parts.proofs.Fitting.{there_on}
use Rattle.dft_parts.proofs.Loops.{goes_on, goes_start, collect_step, collect_refused, collect_end}
use Rattle.dft_parts.proofs.Outcomes.{then_ok, then_refused, same_makes, pure_made}
use Rattle.dft_edt.specs.declared.ring.Ring.{Ring}
use Rattle.dft_edt.specs.RingRecipe.{a_ring}
use Rattle.dft_edt.specs.CompactorRecipe.{a_compactor}
use Rattle.dft_scan_frame.specs.Moves.{Gap, moved}
use Rattle.dft_scan_frame.specs.Pins.{domain_in, number_of, own_output, moved_or_none}
use Rattle.dft_scan_frame.proofs.LiveNets.{moved_less, input_live}
use Rattle.dft_insert.specs.Bounds.{EdtThere}
use Rattle.dft_insert.specs.Chained.{scan_roles, a_numbered_pin, a_role_pin, a_scan_in, an_open_output, own_or_made, an_output, rows, a_lockup_clock, a_lockup_behind, a_crossing, crossing_in, a_step, a_chain, a_latched_chain, a_fed_chain, row_at, last_net}
use Rattle.dft_insert.specs.Scanned.{a_plain_chain, a_plain_end, plain_recipe, an_edt_chain, behind_rows, edt_recipe}

-- ---- pins

pin_outcome : (s : Making) (cell : InstanceId) (pin : ℕ) (net : NetId) → outcome (a_pin cell pin net) s ≡ Ok (tt, with_pin s cell pin net)
unfolding outcome
pin_outcome s cell pin net = refl

pub role_pin_made : (n : Netlist) (cell : InstanceId) (role : Role) (net : NetId) (pin : ℕ) (s t : Making) → Some pin ≡ number_of (same_role role) 0 (scan_roles n cell) → t ≡ with_pin s cell pin net → outcome (a_role_pin n cell role net) s ≡ Ok (tt, t)
role_pin_made n cell role net pin s t found is = ap (λ (o : Option ℕ). outcome (a_numbered_pin cell o net) s) (sym found) ∙ pin_outcome s cell pin net ∙ ap (λ (u : Making). Ok (tt, u)) (sym is)

pub role_pin_none : (n : Netlist) (cell : InstanceId) (role : Role) (net : NetId) (s : Making) → None ≡ number_of (same_role role) 0 (scan_roles n cell) → outcome (a_role_pin n cell role net) s ≡ Ok (tt, s)
role_pin_none n cell role net s none = ap (λ (o : Option ℕ). outcome (a_numbered_pin cell o net) s) (sym none) ∙ pure_made tt s

pub no_scan_in : (n : Netlist) (o : Option InstanceId) (net : NetId) (s : Making) → o ≡ None → outcome (a_scan_in n o net) s ≡ Ok (tt, s)
no_scan_in n o net s none = ap (λ (p : Option InstanceId). outcome (a_scan_in n p net) s) none ∙ pure_made tt s

-- ---- outputs

abbrev end_with : (net : NetId) → (Unit {0}) → Recipe NetId
end_with net done = pure net

abbrev opened : Netlist → InstanceId → (net : NetId) → Recipe NetId
opened n cell net = a_role_pin n cell Output net >>= end_with net

pub open_refused : (n : Netlist) (cell : InstanceId) (s : Making) (e : NetlistError) → IsRefusal (outcome a_net s) e → IsRefusal (outcome (an_open_output n cell) s) e
unfolding an_open_output
open_refused n cell s e h = then_refused a_net (opened n cell) s e h

pub open_made : (n : Netlist) (cell : InstanceId) (s t u : Making) (net : NetId) → outcome a_net s ≡ Ok (net, t) → outcome (a_role_pin n cell Output net) t ≡ Ok (tt, u) → outcome (an_open_output n cell) s ≡ Ok (net, u)
unfolding an_open_output
open_made n cell s t u net h k = then_ok a_net (opened n cell) s t net h ∙ then_ok (a_role_pin n cell Output net) (end_with net) t u tt k ∙ pure_made net u

pub own_made : (n : Netlist) (gap : Gap) (cell : InstanceId) (s : Making) (own : ℕ) (net : NetId) → Some own ≡ own_output n cell → net.0 ≡ moved gap own → outcome (an_output n gap cell) s ≡ Ok (net, s)
own_made n gap cell s own net found is =
    ap (λ (o : Option ℕ). outcome (own_or_made n gap cell o) s) (sym found) ∙ pure_made (record { 0 = moved gap own }) s ∙ ap (λ (k : ℕ). Ok (record { 0 = k }, s)) (sym is)

pub none_made : {X : Type 0} (n : Netlist) (gap : Gap) (cell : InstanceId) (s : Making) (view : X → NetId) (result : Result X NetlistError) (new : Making) → None ≡ own_output n cell → Makes view (an_open_output n cell) s result new → Makes view (an_output n gap cell) s result new
none_made n gap cell s view result new none m = same_makes view (an_output n gap cell) (an_open_output n cell) s s result new (ap (λ (o : Option ℕ). outcome (own_or_made n gap cell o) s) (sym none)) m

-- ---- rows of nets

-- what is left of the chains gives what all chains give
pub record Rows (f : List InstanceId → Recipe (List NetId)) (whole rest : List (List InstanceId)) (start now : Making) (so_far : List (List NetId)) : Type 0 where
  pub goes : outcome (collect f whole) start ≡ goes_on so_far (collect f rest) now
  pub there : All (AreThere now.netlist) so_far
  pub count : length so_far + length rest ≡ length whole
  pub more : length start.netlist.nets ≤ length now.netlist.nets

pub rows_there : (n m : Netlist) (outputs : List (List NetId)) → length n.nets ≤ length m.nets → All (AreThere n) outputs → All (AreThere m) outputs
rows_there n m outputs more h = λ k d less. there_on n m (slice_index_or outputs k d) more (h k d less)

one_row : (n : Netlist) (row : List NetId) → AreThere n row → All (AreThere n) (row ∷ [])
one_row n row h zero d less = h
one_row n row h (suc k) d less = absurd (omega (arith, less))

pub rows_start : (f : List InstanceId → Recipe (List NetId)) (whole rest : List (List InstanceId)) (s : Making) (so_far : List (List NetId)) → so_far ≡ [] → rest ≡ whole → Rows f whole rest s s so_far
rows_start f whole rest s so_far none same = record {
  goes = goes_start (collect f whole) s ∙ (λ i. goes_on (sym none i) (collect f (sym same i)) s);
  there = subst (All (AreThere s.netlist)) (sym none) (λ k d less. absurd (omega (arith, less)));
  count = omega (arith, ap length none, ap length same);
  more = omega arith;
}

pub rows_on : (f : List InstanceId → Recipe (List NetId)) (whole rest after : List (List InstanceId)) (x : List InstanceId) (start now t : Making) (so_far longer : List (List NetId)) (row : List NetId) → Rows f whole rest start now so_far → (is : rest ≡ x ∷ after) →
    (made : outcome (f x) now ≡ Ok (row, t)) → (live : AreThere t.netlist row) → (more : length now.netlist.nets ≤ length t.netlist.nets) → (grown : longer ≡ so_far ++ row ∷ []) → Rows f whole after start t longer
rows_on f whole rest after x start now t so_far longer row g is made live more grown =
    let before = g.more in
    let count = g.count in
    record {
      goes = g.goes ∙ ap (λ (xs : List (List InstanceId)). goes_on so_far (collect f xs) now) is ∙ collect_step so_far f x after now t row made ∙ ap (λ (ns : List (List NetId)). goes_on ns (collect f after) t) (sym grown);
      there = subst (All (AreThere t.netlist)) (sym grown) (All-append (AreThere t.netlist) so_far (row ∷ []) (rows_there now.netlist t.netlist so_far more g.there) (one_row t.netlist row live));
      count = omega (arith, count, ap length grown, length-append so_far (row ∷ []), ap length is);
      more = omega (arith, before, more);
    }

pub rows_stop : (f : List InstanceId → Recipe (List NetId)) (whole rest after : List (List InstanceId)) (x : List InstanceId) (start now : Making) (so_far : List (List NetId)) (e : NetlistError) → Rows f whole rest start now so_far → rest ≡ x ∷ after → IsRefusal (outcome (f x) now) e →
    IsRefusal (outcome (collect f whole) start) e
rows_stop f whole rest after x start now so_far e g is refused =
    subst (λ o. IsRefusal o e) (sym (g.goes ∙ ap (λ (xs : List (List InstanceId)). goes_on so_far (collect f xs) now) is)) (collect_refused so_far f x after now e refused)

pub rows_end : (f : List InstanceId → Recipe (List NetId)) (whole rest : List (List InstanceId)) (start now : Making) (so_far : List (List NetId)) → Rows f whole rest start now so_far → rest ≡ [] → outcome (collect f whole) start ≡ Ok (so_far, now)
rows_end f whole rest start now so_far g none = g.goes ∙ ap (λ (xs : List (List InstanceId)). goes_on so_far (collect f xs) now) none ∙ collect_end so_far f now

-- the next item of a list
pub next_item : {X : Type 0} (xs : List X) (k : ℕ) (x d : X) → k < length xs → x ≡ slice_index_or xs k d → drop k xs ≡ x ∷ drop (k + 1) xs
next_item xs k x d less is = drop_more xs k d less ∙ ap (λ y. y ∷ drop (k + 1) xs) (sym is)

-- ---- nets of rows

pub net_there : (n : Netlist) (nets : List NetId) (k : ℕ) → 0 < length n.nets → AreThere n nets → (net_at nets k).0 < length n.nets
net_there n [] k some h = some
net_there n (net ∷ nets) zero some h = h 0 net (omega arith)
net_there n (net ∷ nets) (suc k) some h = net_there n nets k some (λ j d less. h (suc j) d (omega (arith, less)))

pub row_there : (n : Netlist) (outputs : List (List NetId)) (k : ℕ) → All (AreThere n) outputs → AreThere n (row_at outputs k)
row_there n [] k h = λ j d less. absurd (omega (arith, less))
row_there n (row ∷ outputs) zero h = h 0 row (omega arith)
row_there n (row ∷ outputs) (suc k) h = row_there n outputs k (λ j d less. h (suc j) d (omega (arith, less)))

pub lasts_there : (n : Netlist) (outputs : List (List NetId)) → 0 < length n.nets → All (AreThere n) outputs → AreThere n (map last_net outputs)
lasts_there n [] some h k d less = absurd (omega (arith, less))
lasts_there n (row ∷ outputs) some h zero d less = net_there n row (length row - 1) some (h 0 row (omega arith))
lasts_there n (row ∷ outputs) some h (suc k) d less = lasts_there n outputs some (λ j e few. h (suc j) e (omega (arith, few))) k d (omega (arith, less))

-- ---- the net of a domain

domain_by : (gap : Gap) (o : Option ℕ) (count all : ℕ) → count + gap.width ≤ all → 0 < all → ((net : ℕ) → o ≡ Some net → net < count) → moved_or_none gap o < all
domain_by gap None count all le some live = some
domain_by gap (Some net) count all le some live = omega (arith, le, moved_less gap net count (live net refl))

pub domain_there : (n : Netlist) (config : Config) (gap : Gap) (domain all : ℕ) → length n.nets + gap.width ≤ all → 0 < all → domain_in n gap config domain < all
domain_there n config gap domain all le some =
    let name : Text = slice_index_or config.domains domain [] in
    domain_by gap (option_map (λ (k : NetId). k.0) (input_net n name)) (length n.nets) all le some (λ net e. input_live n name (find_net n name) net refl e)

-- ---- a lock-up behind a cell

abbrev joined_behind : Netlist → (cells : List InstanceId) → (after : ℕ) → (net : NetId) → (Unit {0}) → Recipe (Unit {0})
joined_behind n cells after net done = a_scan_in n (slice_get cells (after + 1)) net

abbrev latched : Netlist → (clock : NetId) → (cells : List InstanceId) → (outputs : List NetId) → (after : ℕ) → (net : NetId) → Recipe (Unit {0})
latched n clock cells outputs after net = a_lockup clock (net_at outputs after) net >>= joined_behind n cells after net

pub net_refused : (n : Netlist) (cells : List InstanceId) (outputs : List NetId) (after : ℕ) (clock : NetId) (s : Making) (e : NetlistError) → IsRefusal (outcome a_net s) e → IsRefusal (outcome (a_lockup_behind n cells outputs after clock) s) e
unfolding a_lockup_behind
net_refused n cells outputs after clock s e h = then_refused a_net (latched n clock cells outputs after) s e h

pub lockup_refused : (n : Netlist) (cells : List InstanceId) (outputs : List NetId) (after : ℕ) (clock : NetId) (s t : Making) (net : NetId) (e : NetlistError) → outcome a_net s ≡ Ok (net, t) →
    IsRefusal (outcome (a_lockup clock (net_at outputs after) net) t) e → IsRefusal (outcome (a_lockup_behind n cells outputs after clock) s) e
unfolding a_lockup_behind
lockup_refused n cells outputs after clock s t net e h k =
    subst (λ o. IsRefusal o e) (sym (then_ok a_net (latched n clock cells outputs after) s t net h)) (then_refused (a_lockup clock (net_at outputs after) net) (joined_behind n cells after net) t e k)

pub lockup_made : (n : Netlist) (cells : List InstanceId) (outputs : List NetId) (after : ℕ) (clock : NetId) (s t u v : Making) (net : NetId) → outcome a_net s ≡ Ok (net, t) →
    outcome (a_lockup clock (net_at outputs after) net) t ≡ Ok (tt, u) → outcome (a_scan_in n (slice_get cells (after + 1)) net) u ≡ Ok (tt, v) → outcome (a_lockup_behind n cells outputs after clock) s ≡ Ok (tt, v)
unfolding a_lockup_behind
lockup_made n cells outputs after clock s t u v net h k m =
    then_ok a_net (latched n clock cells outputs after) s t net h ∙ then_ok (a_lockup clock (net_at outputs after) net) (joined_behind n cells after net) t u tt k ∙ m

-- ---- a lock-up between domains

-- the net of its domain's port
abbrev pub port_of : Netlist → Config → Gap → LockupPlace → NetId
port_of n config gap l = record { 0 = domain_in n gap config l.domain }

pub port_clocks : (port : NetId) (high : Bool) (s : Making) → high ≡ false → outcome (a_lockup_clock port high) s ≡ Ok (port, s)
port_clocks port high s low = ap (λ (b : Bool). outcome (a_lockup_clock port b) s) low ∙ pure_made port s

pub inverse_clocks : (port : NetId) (high : Bool) (s : Making) (result : Result NetId NetlistError) (new : Making) → high ≡ true → Makes (λ net. net) (a_driving_gate Inv (port ∷ [])) s result new → Makes (λ net. net) (a_lockup_clock port high) s result new
inverse_clocks port high s result new is m = subst (λ (b : Bool). Makes (λ net. net) (a_lockup_clock port b) s result new) (sym is) m

pub crossing_refused : (n : Netlist) (config : Config) (gap : Gap) (cells : List InstanceId) (outputs : List NetId) (l : LockupPlace) (s : Making) (e : NetlistError) → IsRefusal (outcome (a_lockup_clock (port_of n config gap l) l.high) s) e →
    IsRefusal (outcome (a_crossing n config gap cells outputs l) s) e
unfolding a_crossing
crossing_refused n config gap cells outputs l s e h = then_refused (a_lockup_clock (port_of n config gap l) l.high) (a_lockup_behind n cells outputs l.after) s e h

pub crossing_made : {X : Type 0} (n : Netlist) (config : Config) (gap : Gap) (cells : List InstanceId) (outputs : List NetId) (l : LockupPlace) (s t : Making) (clock : NetId) (result : Result X NetlistError) (new : Making) →
    outcome (a_lockup_clock (port_of n config gap l) l.high) s ≡ Ok (clock, t) → Makes (λ _. tt) (a_lockup_behind n cells outputs l.after clock) t result new → Makes (λ _. tt) (a_crossing n config gap cells outputs l) s result new
unfolding a_crossing
crossing_made n config gap cells outputs l s t clock result new h m =
    same_makes (λ _. tt) (a_lockup_clock (port_of n config gap l) l.high >>= a_lockup_behind n cells outputs l.after) (a_lockup_behind n cells outputs l.after clock) s t result new
    (then_ok (a_lockup_clock (port_of n config gap l) l.high) (a_lockup_behind n cells outputs l.after) s t clock h) m

differ : (a b : ℕ) (t : Bool) → (a == b) ≡ t → (a ≡ b → ⊥) → (a == b) ≡ false
differ a b true is apart = absurd (apart (eqb-true a b is))
differ a b false is apart = is

pub elsewhere : (n : Netlist) (config : Config) (gap : Gap) (chain : ℕ) (cells : List InstanceId) (outputs : List NetId) (l : LockupPlace) (s : Making) → (l.chain ≡ chain → ⊥) → outcome (crossing_in n config gap chain cells outputs l) s ≡ Ok (tt, s)
elsewhere n config gap chain cells outputs l s other =
    ap (λ b. outcome (if b then a_crossing n config gap cells outputs l else pure tt) s) (differ l.chain chain (l.chain == chain) refl other) ∙ pure_made tt s

-- ---- a chain

abbrev steps_of : Netlist → (cells : List InstanceId) → (outputs : List NetId) → (Unit {0}) → Recipe (Unit {0})
steps_of n cells outputs done = each (a_step n cells outputs) (range_with_len 0 (length cells))

abbrev pub crossings_of : Netlist → Config → Gap → List LockupPlace → (chain : ℕ) → (cells : List InstanceId) → (outputs : List NetId) → Recipe (Unit {0})
crossings_of n config gap lockups chain cells outputs = each (crossing_in n config gap chain cells outputs) lockups

abbrev behind_entry : Netlist → Config → Gap → List LockupPlace → (chain : ℕ) → (cells : List InstanceId) → (outputs : List NetId) → (Unit {0}) → Recipe (Unit {0})
behind_entry n config gap lockups chain cells outputs done = crossings_of n config gap lockups chain cells outputs >>= steps_of n cells outputs

pub chain_refused : (n : Netlist) (config : Config) (gap : Gap) (lockups : List LockupPlace) (chain : ℕ) (cells : List InstanceId) (outputs : List NetId) (entry : NetId) (s t : Making) (e : NetlistError) → outcome (a_scan_in n (slice_get cells 0) entry) s ≡ Ok (tt, t) →
    IsRefusal (outcome (crossings_of n config gap lockups chain cells outputs) t) e → IsRefusal (outcome (a_chain n config gap lockups chain cells outputs entry) s) e
unfolding a_chain
chain_refused n config gap lockups chain cells outputs entry s t e h k =
    subst (λ o. IsRefusal o e) (sym (then_ok (a_scan_in n (slice_get cells 0) entry) (behind_entry n config gap lockups chain cells outputs) s t tt h)) (then_refused (crossings_of n config gap lockups chain cells outputs) (steps_of n cells outputs) t e k)

pub chain_made : (n : Netlist) (config : Config) (gap : Gap) (lockups : List LockupPlace) (chain : ℕ) (cells : List InstanceId) (outputs : List NetId) (entry : NetId) (s t u v : Making) → outcome (a_scan_in n (slice_get cells 0) entry) s ≡ Ok (tt, t) →
    outcome (crossings_of n config gap lockups chain cells outputs) t ≡ Ok (tt, u) → outcome (each (a_step n cells outputs) (range_with_len 0 (length cells))) u ≡ Ok (tt, v) → outcome (a_chain n config gap lockups chain cells outputs entry) s ≡ Ok (tt, v)
unfolding a_chain
chain_made n config gap lockups chain cells outputs entry s t u v h k m =
    then_ok (a_scan_in n (slice_get cells 0) entry) (behind_entry n config gap lockups chain cells outputs) s t tt h ∙ then_ok (crossings_of n config gap lockups chain cells outputs) (steps_of n cells outputs) t u tt k ∙ m

-- ---- a chain behind a lock-up on edt_clock

abbrev chain_behind : Netlist → Config → Gap → List LockupPlace → (chain : ℕ) → (cells : List InstanceId) → (outputs : List NetId) → (entry : NetId) → (Unit {0}) → Recipe (Unit {0})
chain_behind n config gap lockups chain cells outputs entry done = a_chain n config gap lockups chain cells outputs entry

abbrev latched_behind : Netlist → Config → Gap → List LockupPlace → (chain : ℕ) → (cells : List InstanceId) → (outputs : List NetId) → (clock phase : NetId) → (entry : NetId) → Recipe (Unit {0})
latched_behind n config gap lockups chain cells outputs clock phase entry = a_lockup clock phase entry >>= chain_behind n config gap lockups chain cells outputs entry

pub entry_refused : (n : Netlist) (config : Config) (gap : Gap) (lockups : List LockupPlace) (chain : ℕ) (cells : List InstanceId) (outputs : List NetId) (clock phase : NetId) (s : Making) (e : NetlistError) → IsRefusal (outcome a_net s) e →
    IsRefusal (outcome (a_latched_chain n config gap lockups chain cells outputs clock phase) s) e
unfolding a_latched_chain
entry_refused n config gap lockups chain cells outputs clock phase s e h = then_refused a_net (latched_behind n config gap lockups chain cells outputs clock phase) s e h

pub latched_refused : (n : Netlist) (config : Config) (gap : Gap) (lockups : List LockupPlace) (chain : ℕ) (cells : List InstanceId) (outputs : List NetId) (clock phase entry : NetId) (s t : Making) (e : NetlistError) → outcome a_net s ≡ Ok (entry, t) →
    IsRefusal (outcome (a_lockup clock phase entry) t) e → IsRefusal (outcome (a_latched_chain n config gap lockups chain cells outputs clock phase) s) e
unfolding a_latched_chain
latched_refused n config gap lockups chain cells outputs clock phase entry s t e h k =
    subst (λ o. IsRefusal o e) (sym (then_ok a_net (latched_behind n config gap lockups chain cells outputs clock phase) s t entry h)) (then_refused (a_lockup clock phase entry) (chain_behind n config gap lockups chain cells outputs entry) t e k)

pub latched_made : {X : Type 0} (n : Netlist) (config : Config) (gap : Gap) (lockups : List LockupPlace) (chain : ℕ) (cells : List InstanceId) (outputs : List NetId) (clock phase entry : NetId) (s t u : Making) (result : Result X NetlistError) (new : Making) → outcome a_net s ≡ Ok (entry, t) →
    outcome (a_lockup clock phase entry) t ≡ Ok (tt, u) → Makes (λ _. tt) (a_chain n config gap lockups chain cells outputs entry) u result new → Makes (λ _. tt) (a_latched_chain n config gap lockups chain cells outputs clock phase) s result new
unfolding a_latched_chain
latched_made n config gap lockups chain cells outputs clock phase entry s t u result new h k m =
    same_makes (λ _. tt) (a_net >>= latched_behind n config gap lockups chain cells outputs clock phase) (a_chain n config gap lockups chain cells outputs entry) s u result new
    (then_ok a_net (latched_behind n config gap lockups chain cells outputs clock phase) s t entry h ∙ then_ok (a_lockup clock phase entry) (chain_behind n config gap lockups chain cells outputs entry) t u tt k) m

-- ---- a chain behind its phase sum

pub fed_by_sum : {X : Type 0} (falling : Bool) (n : Netlist) (config : Config) (gap : Gap) (lockups : List LockupPlace) (chain : ℕ) (cells : List InstanceId) (outputs : List NetId) (clock phase : NetId) (s : Making) (result : Result X NetlistError) (new : Making) → falling ≡ true →
    Makes (λ _. tt) (a_chain n config gap lockups chain cells outputs phase) s result new → Makes (λ _. tt) (a_fed_chain falling n config gap lockups chain cells outputs clock phase) s result new
fed_by_sum falling n config gap lockups chain cells outputs clock phase s result new is m =
    subst (λ (b : Bool). Makes (λ _. tt) (a_fed_chain b n config gap lockups chain cells outputs clock phase) s result new) (sym is) m

pub fed_by_lockup : {X : Type 0} (falling : Bool) (n : Netlist) (config : Config) (gap : Gap) (lockups : List LockupPlace) (chain : ℕ) (cells : List InstanceId) (outputs : List NetId) (clock phase : NetId) (s : Making) (result : Result X NetlistError) (new : Making) → falling ≡ false →
    Makes (λ _. tt) (a_latched_chain n config gap lockups chain cells outputs clock phase) s result new → Makes (λ _. tt) (a_fed_chain falling n config gap lockups chain cells outputs clock phase) s result new
fed_by_lockup falling n config gap lockups chain cells outputs clock phase s result new is m =
    subst (λ (b : Bool). Makes (λ _. tt) (a_fed_chain b n config gap lockups chain cells outputs clock phase) s result new) (sym is) m

-- ---- style Plain

abbrev pub plain_chains : Netlist → Config → Plan → Gap → (outputs : List (List NetId)) → Recipe (Unit {0})
plain_chains n config plan gap outputs = each (a_plain_chain n config plan gap outputs) (range_with_len 0 (length plan.chains))

abbrev pub plain_ends : Config → Plan → Gap → (outputs : List (List NetId)) → (Unit {0}) → Recipe (Unit {0})
plain_ends config plan gap outputs done = each (a_plain_end config gap outputs) (range_with_len 0 (length plan.chains))

abbrev plain_behind : Netlist → Config → Plan → Gap → (outputs : List (List NetId)) → Recipe (Unit {0})
plain_behind n config plan gap outputs = plain_chains n config plan gap outputs >>= plain_ends config plan gap outputs

pub plain_rows_refused : (n : Netlist) (config : Config) (plan : Plan) (gap : Gap) (s : Making) (e : NetlistError) → IsRefusal (outcome (rows n gap plan.chains) s) e → IsRefusal (outcome (plain_recipe n config plan gap) s) e
unfolding plain_recipe
plain_rows_refused n config plan gap s e h = then_refused (rows n gap plan.chains) (plain_behind n config plan gap) s e h

pub plain_chains_refused : (n : Netlist) (config : Config) (plan : Plan) (gap : Gap) (s t : Making) (outputs : List (List NetId)) (e : NetlistError) → outcome (rows n gap plan.chains) s ≡ Ok (outputs, t) → IsRefusal (outcome (plain_chains n config plan gap outputs) t) e →
    IsRefusal (outcome (plain_recipe n config plan gap) s) e
unfolding plain_recipe
plain_chains_refused n config plan gap s t outputs e h k =
    subst (λ o. IsRefusal o e) (sym (then_ok (rows n gap plan.chains) (plain_behind n config plan gap) s t outputs h)) (then_refused (plain_chains n config plan gap outputs) (plain_ends config plan gap outputs) t e k)

pub plain_made : {X : Type 0} (n : Netlist) (config : Config) (plan : Plan) (gap : Gap) (s t u : Making) (outputs : List (List NetId)) (result : Result X NetlistError) (new : Making) → outcome (rows n gap plan.chains) s ≡ Ok (outputs, t) →
    outcome (plain_chains n config plan gap outputs) t ≡ Ok (tt, u) → Makes (λ _. tt) (plain_ends config plan gap outputs tt) u result new → Makes (λ _. tt) (plain_recipe n config plan gap) s result new
unfolding plain_recipe
plain_made n config plan gap s t u outputs result new h k m =
    same_makes (λ _. tt) (rows n gap plan.chains >>= plain_behind n config plan gap) (plain_ends config plan gap outputs tt) s u result new
    (then_ok (rows n gap plan.chains) (plain_behind n config plan gap) s t outputs h ∙ then_ok (plain_chains n config plan gap outputs) (plain_ends config plan gap outputs) t u tt k) m

-- ---- style Edt

pub edt_rows_refused : (n : Netlist) (config : Config) (plan : Plan) (gap : Gap) (ports : EdtPorts) (s : Making) (e : NetlistError) → IsRefusal (outcome (rows n gap plan.chains) s) e → IsRefusal (outcome (edt_recipe n config plan gap ports) s) e
unfolding edt_recipe
edt_rows_refused n config plan gap ports s e h = then_refused (rows n gap plan.chains) (behind_rows n config plan gap ports) s e h

pub edt_made : {X : Type 0} (n : Netlist) (config : Config) (plan : Plan) (gap : Gap) (ports : EdtPorts) (s t : Making) (outputs : List (List NetId)) (result : Result X NetlistError) (new : Making) → outcome (rows n gap plan.chains) s ≡ Ok (outputs, t) →
    Makes (λ _. tt) (behind_rows n config plan gap ports outputs) t result new → Makes (λ _. tt) (edt_recipe n config plan gap ports) s result new
unfolding edt_recipe
edt_made n config plan gap ports s t outputs result new h m =
    same_makes (λ _. tt) (rows n gap plan.chains >>= behind_rows n config plan gap ports) (behind_rows n config plan gap ports outputs) s t result new (then_ok (rows n gap plan.chains) (behind_rows n config plan gap ports) s t outputs h) m

abbrev pub edt_chains : Netlist → Config → Plan → Gap → EdtPorts → (outputs : List (List NetId)) → (phases : List NetId) → Recipe (Unit {0})
edt_chains n config plan gap ports outputs phases = each (an_edt_chain n config plan gap ports phases outputs) (range_with_len 0 (length plan.chains))

abbrev ends_behind : Config → EdtPorts → (outputs : List (List NetId)) → (run : NetId) → (Unit {0}) → Recipe (Unit {0})
ends_behind config ports outputs run done = a_compactor config ports run (map last_net outputs)

abbrev behind_ring : Netlist → Config → Plan → Gap → EdtPorts → (outputs : List (List NetId)) → (ring : Ring) → Recipe (Unit {0})
behind_ring n config plan gap ports outputs ring = edt_chains n config plan gap ports outputs ring.phases >>= ends_behind config ports outputs ring.run

pub ring_refused : (n : Netlist) (config : Config) (plan : Plan) (gap : Gap) (ports : EdtPorts) (outputs : List (List NetId)) (s : Making) (e : NetlistError) → IsRefusal (outcome (a_ring config ports) s) e → IsRefusal (outcome (behind_rows n config plan gap ports outputs) s) e
unfolding behind_rows
ring_refused n config plan gap ports outputs s e h = then_refused (a_ring config ports) (behind_ring n config plan gap ports outputs) s e h

pub chains_refused : (n : Netlist) (config : Config) (plan : Plan) (gap : Gap) (ports : EdtPorts) (outputs : List (List NetId)) (s t : Making) (ring : Ring) (e : NetlistError) → outcome (a_ring config ports) s ≡ Ok (ring, t) →
    IsRefusal (outcome (edt_chains n config plan gap ports outputs ring.phases) t) e → IsRefusal (outcome (behind_rows n config plan gap ports outputs) s) e
unfolding behind_rows
chains_refused n config plan gap ports outputs s t ring e h k =
    subst (λ o. IsRefusal o e) (sym (then_ok (a_ring config ports) (behind_ring n config plan gap ports outputs) s t ring h)) (then_refused (edt_chains n config plan gap ports outputs ring.phases) (ends_behind config ports outputs ring.run) t e k)

pub rows_made : {X : Type 0} (n : Netlist) (config : Config) (plan : Plan) (gap : Gap) (ports : EdtPorts) (outputs : List (List NetId)) (s t u : Making) (ring : Ring) (result : Result X NetlistError) (new : Making) → outcome (a_ring config ports) s ≡ Ok (ring, t) →
    outcome (edt_chains n config plan gap ports outputs ring.phases) t ≡ Ok (tt, u) → Makes (λ _. tt) (a_compactor config ports ring.run (map last_net outputs)) u result new → Makes (λ _. tt) (behind_rows n config plan gap ports outputs) s result new
unfolding behind_rows
rows_made n config plan gap ports outputs s t u ring result new h k m =
    same_makes (λ _. tt) (a_ring config ports >>= behind_ring n config plan gap ports outputs) (a_compactor config ports ring.run (map last_net outputs)) s u result new
    (then_ok (a_ring config ports) (behind_ring n config plan gap ports outputs) s t ring h ∙ then_ok (edt_chains n config plan gap ports outputs ring.phases) (ends_behind config ports outputs ring.run) t u tt k) m

-- the ports of style Edt stay there
pub edt_on : (n m : Netlist) (config : Config) (ports : EdtPorts) → length n.nets ≤ length m.nets → EdtThere n config ports → EdtThere m config ports
edt_on n m config ports more h = record {
  clock = (let x = h.clock in omega (arith, more, x));
  update = (let x = h.update in omega (arith, more, x));
  channels = there_on n m ports.channels more h.channels;
  masks = there_on n m ports.masks more h.masks;
  outputs = there_on n m ports.outputs more h.outputs;
  channel_count = h.channel_count;
  mask_count = h.mask_count;
  output_count = h.output_count;
}

-- ---- ports

pub from_there : (n : Netlist) (first count : ℕ) → first + count ≤ length n.nets → AreThere n (nets_from first count)
from_there n first zero le k d less = absurd (omega (arith, less))
from_there n first (suc count) le zero d less = omega (arith, le)
from_there n first (suc count) le (suc k) d less = from_there n (suc first) count (omega (arith, le)) k d (omega (arith, less))
