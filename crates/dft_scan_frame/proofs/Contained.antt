-- A scanned netlist contains its design: each net means the same, and each flip-flop is kept.
use Rattle.std.proofs.Common.{ℕ, zero, suc, ◌≡◌, ◌<◌, Bool, true, false, List, ◌∷◌, map, inl, inr, Option, None, Some, option_map, refl, sym, subst, ap, ◌∙◌, []}
use Rattle.std.specs.Prelude.{if◌then◌else◌}
use Rattle.std.proofs.lemmas.Option.{none-some, same_Some}
use Rattle.dft_cells.specs.declared.kind.Role.{Role}
use Rattle.dft_cells.specs.declared.kind.Role.TheVariants as role
use Rattle.dft_cells.specs.FlipFlops.{Takes, Forces, moved_forces}
use Rattle.dft_netlist.specs.declared.instance.Signal.{Signal}
use Rattle.dft_netlist.specs.declared.instance.Signal.TheVariants as signal
use Rattle.dft_netlist.specs.Netlist.{Netlist}
use Rattle.dft_netlist.specs.Sound.{IsLive, AreLive}
use Rattle.dft_netlist.specs.Drivers.{Source, Connection, connections_from, source_of}
use Rattle.dft_behavior.specs.Traces.{Root, Port, Constant, Other, root_of}
use Rattle.dft_behavior.specs.ClockRoots.{ClockRoot, clock_root_of}
use Rattle.dft_netlist.specs.Connections.{same_role, pin_of}
use Rattle.dft_behavior.specs.Logic.{Ports, Cell, or_loose, domain_of, domain_at, force_of, force_at, both_forces, forcing, scan_of, takes_of, forces_of, modelled, modelled_of}
use Rattle.dft_behavior.proofs.StoredLemmas.{both_parts}
use Rattle.dft_scan_frame.specs.Moves.{Gap, moved, moved_signal}
use Rattle.dft_chains.specs.ScanOff.{moved_source, IsWithin, AreForcesWithin, IsEnabledBy, Places, KeepsFlop}
use Rattle.dft_chains.proofs.ScanOffLemmas.{pins_keep}
use Rattle.dft_scan_frame.proofs.MovedRoots.{moved_root, moved_clock}
use Rattle.dft_scan_frame.proofs.Mergings as mergings

-- ---- domains, resets and sets

domain_choice : (f : ℕ → ℕ) (clock : ClockRoot) (b : Bool) → (if b then Some (moved_clock f clock) else None) ≡ option_map (moved_clock f) (if b then Some clock else None)
domain_choice f clock true = refl
domain_choice f clock false = refl

-- a clock whose port stays has the same domain
domain_moved : (f : ℕ → ℕ) (ports : Ports) (o : Option ClockRoot) → ((clock : ClockRoot) → o ≡ Some clock → f clock.port ≡ clock.port) → domain_of ports (option_map (moved_clock f) o) ≡ option_map (moved_clock f) (domain_of ports o)
domain_moved f ports None stays = refl
domain_moved f ports (Some clock) stays = ap (λ k. if ports.is_clock k then Some (moved_clock f clock) else None) (stays clock refl) ∙ domain_choice f clock (ports.is_clock clock.port)

force_choice : (f : ℕ → ℕ) (net : ℕ) (b : Bool) → ◌≡◌ {A = Option (Option ℕ)} (if b then Some (Some (f net)) else None) (option_map (option_map f) (if b then Some (Some net) else None))
force_choice f net true = refl
force_choice f net false = refl

force_moved : (f : ℕ → ℕ) (ports : Ports) (r : Root) → ((net : ℕ) → r ≡ Port net → f net ≡ net) → force_of ports (moved_root f r) ≡ option_map (option_map f) (force_of ports r)
force_moved f ports (Port net) stays = ap (λ k. if ports.is_reset k then Some (Some (f net)) else None) (stays net refl) ∙ force_choice f net (ports.is_reset net)
force_moved f ports (Constant true) stays = refl
force_moved f ports (Constant false) stays = refl
force_moved f ports Other stays = refl

force_by : (b : Bool) (net port size : ℕ) → net < size → ◌≡◌ {A = Option (Option ℕ)} (if b then Some (Some net) else None) (Some (Some port)) → port < size
force_by true net port size less e = subst (λ (k : ℕ). k < size) (same_Some net port (same_Some (Some net) (Some port) e)) less
force_by false net port size less e = absurd (none-some (Some port) e)

-- a reset or set has a port among the first nets
force_inside : (ports : Ports) (size port : ℕ) (r : Root) → ((net : ℕ) → r ≡ Port net → net < size) → force_of ports r ≡ Some (Some port) → port < size
force_inside ports size port (Port net) inside e = force_by (ports.is_reset net) net port size (inside net refl) e
force_inside ports size port (Constant true) inside e = absurd (none-some port (same_Some None (Some port) e))
force_inside ports size port (Constant false) inside e = absurd (none-some (Some port) e)
force_inside ports size port Other inside e = absurd (none-some (Some port) e)

-- ---- the flip-flop of an instance

-- clock, D, reset and set are joined as before, moved
pub record SamePins (f : ℕ → ℕ) (i : ℕ) (old new : List Connection) : Type 0 where
  pub clock : pin_of role.Clock i new ≡ option_map (moved_source f) (pin_of role.Clock i old)
  pub data_in : pin_of role.Din i new ≡ option_map (moved_source f) (pin_of role.Din i old)
  pub reset : pin_of role.Reset i new ≡ option_map (moved_source f) (pin_of role.Reset i old)
  pub preset : pin_of role.Preset i new ≡ option_map (moved_source f) (pin_of role.Preset i old)

-- how sources trace in two netlists, and which clocks they show
pub record RootsKept (n w : Netlist) (f : ℕ → ℕ) (size : ℕ) : Type 0 where
  pub roots : (source : Source) → IsWithin size source → root_of w (moved_source f source) ≡ moved_root f (root_of n source)
  pub stays : (source : Source) (net : ℕ) → root_of n source ≡ Port net → f net ≡ net
  pub inside : (source : Source) (net : ℕ) → root_of n source ≡ Port net → net < size
  pub clocks : (source : Source) → IsWithin size source → clock_root_of w (moved_source f source) ≡ option_map (moved_clock f) (clock_root_of n source)
  pub clock_stays : (source : Source) (clock : ClockRoot) → clock_root_of n source ≡ Some clock → f clock.port ≡ clock.port

-- a pin's source, if it has one, is among the first nets
abbrev pub IsPinWithin : (size : ℕ) → Option Source → Type 0
IsPinWithin size None = Unit {0}
IsPinWithin size (Some source) = IsWithin size source

domain_kept : (n w : Netlist) (f : ℕ → ℕ) (size : ℕ) (ports : Ports) (o : Option Source) → RootsKept n w f size → IsPinWithin size o → domain_at w ports (option_map (moved_source f) o) ≡ option_map (moved_clock f) (domain_at n ports o)
domain_kept n w f size ports None kept inside = refl
domain_kept n w f size ports (Some source) kept inside = ap (domain_of ports) (kept.clocks source inside) ∙ domain_moved f ports (clock_root_of n source) (λ clock is. kept.clock_stays source clock is)

force_kept : (n w : Netlist) (f : ℕ → ℕ) (size : ℕ) (ports : Ports) (pin : Option Source) → RootsKept n w f size → IsPinWithin size pin → force_at w ports (option_map (moved_source f) pin) ≡ option_map (option_map f) (force_at n ports pin)
force_kept n w f size ports None kept inside = refl
force_kept n w f size ports (Some source) kept inside = ap (force_of ports) (kept.roots source inside) ∙ force_moved f ports (root_of n source) (λ net is. kept.stays source net is)

both_moved : (f : ℕ → ℕ) (clear preset : Option (Option ℕ)) → both_forces (option_map (option_map f) clear) (option_map (option_map f) preset) ≡ option_map (moved_forces f) (both_forces clear preset)
both_moved f (Some clear) (Some preset) = refl
both_moved f (Some clear) None = refl
both_moved f None preset = refl

forcing_kept : (n w : Netlist) (f : ℕ → ℕ) (size : ℕ) (ports : Ports) (pins : Forces Source) → RootsKept n w f size → IsPinWithin size pins.clear → IsPinWithin size pins.preset →
    forcing w ports (moved_forces (moved_source f) pins) ≡ option_map (moved_forces f) (forcing n ports pins)
forcing_kept n w f size ports pins kept a b =
    (λ t. both_forces (force_kept n w f size ports pins.clear kept a t) (force_kept n w f size ports pins.preset kept b t)) ∙ both_moved f (force_at n ports pins.clear) (force_at n ports pins.preset)

force_pin_inside : (n w : Netlist) (f : ℕ → ℕ) (size port : ℕ) (ports : Ports) (pin : Option Source) → RootsKept n w f size → force_at n ports pin ≡ Some (Some port) → port < size
force_pin_inside n w f size port ports None kept e = absurd (none-some port (same_Some None (Some port) e))
force_pin_inside n w f size port ports (Some source) kept e = force_inside ports size port (root_of n source) (λ net is. kept.inside source net is) e

forcing_inside : (n w : Netlist) (f : ℕ → ℕ) (size : ℕ) (ports : Ports) (pins : Forces Source) (forces : Forces ℕ) → RootsKept n w f size → forcing n ports pins ≡ Some forces → AreForcesWithin size forces
forcing_inside n w f size ports pins forces kept e port (inl is) = force_pin_inside n w f size port ports pins.clear kept ((both_parts (force_at n ports pins.clear) (force_at n ports pins.preset) forces e).0 ∙ ap Some is)
forcing_inside n w f size ports pins forces kept e port (inr is) = force_pin_inside n w f size port ports pins.preset kept ((both_parts (force_at n ports pins.clear) (force_at n ports pins.preset) forces e).1 ∙ ap Some is)

data_kept : (f : ℕ → ℕ) (i : ℕ) (o : Option Source) → or_loose i (option_map (moved_source f) o) ≡ moved_source f (or_loose i o)
data_kept f i None = refl
data_kept f i (Some source) = refl

data_inside : (size i : ℕ) (o : Option Source) → IsPinWithin size o → IsWithin size (or_loose i o)
data_inside size i None h = tt
data_inside size i (Some source) h = h

-- both are flip-flops that are kept, or neither is modelled
abbrev pub AreMatched : Places → (old new : Option Cell) → Type 0
AreMatched p None None = Unit {0}
AreMatched p (Some old) (Some new) = KeepsFlop p old new
AreMatched p None (Some new) = ⊥
AreMatched p (Some old) None = ⊥

match_by : (p : Places) (domain : Option ClockRoot) (forces : Option (Forces ℕ)) (old new : Takes Source) → old.scan ≡ None → IsEnabledBy p.enable new.scan → new.input ≡ moved_source p.moved old.input → IsWithin p.size old.input →
    ((x : Forces ℕ) → forces ≡ Some x → AreForcesWithin p.size x) → AreMatched p (modelled domain forces old) (modelled (option_map (moved_clock p.moved) domain) (option_map (moved_forces p.moved) forces) new)
match_by p None forces old new plain enabled input inside within = tt
match_by p (Some d) None old new plain enabled input inside within = tt
match_by p (Some d) (Some x) old new plain enabled input inside within = pins_keep p _ _ (record {
  plain = plain;
  domain = refl;
  falling = refl;
  input = input;
  input_within = inside;
  forces = refl;
  forces_within = within x refl;
  scan = enabled;
})

same_modelled : (w : Netlist) (ports : Ports) (i : ℕ) (new : List Connection) (domain : Option ClockRoot) (forces : Option (Forces ℕ)) →
    domain_at w ports (pin_of role.Clock i new) ≡ domain → forcing w ports (forces_of i new) ≡ forces → modelled_of w ports i new ≡ modelled domain forces (takes_of i new)
same_modelled w ports i new domain forces a b = rw (a, b) refl

-- an instance with these pins is kept
pub modelled_kept : (n w : Netlist) (ports : Ports) (p : Places) (i : ℕ) (old new : List Connection) → RootsKept n w p.moved p.size → SamePins p.moved i old new →
    IsPinWithin p.size (pin_of role.Clock i old) → IsPinWithin p.size (pin_of role.Din i old) → IsPinWithin p.size (pin_of role.Reset i old) → IsPinWithin p.size (pin_of role.Preset i old) →
    pin_of role.ScanEnable i old ≡ None → IsEnabledBy p.enable (scan_of (pin_of role.ScanEnable i new) (pin_of role.ScanIn i new)) → AreMatched p (modelled_of n ports i old) (modelled_of w ports i new)
modelled_kept n w ports p i old new kept same clock data_in reset preset no_scan enabled =
    let pins : forces_of i new ≡ moved_forces (moved_source p.moved) (forces_of i old) = λ t. record { clear = same.reset t; preset = same.preset t } in
    subst (AreMatched p (modelled_of n ports i old))
    (sym (same_modelled w ports i new (option_map (moved_clock p.moved) (domain_at n ports (pin_of role.Clock i old))) (option_map (moved_forces p.moved) (forcing n ports (forces_of i old)))
    (ap (domain_at w ports) same.clock ∙ domain_kept n w p.moved p.size ports (pin_of role.Clock i old) kept clock)
    (ap (forcing w ports) pins ∙ forcing_kept n w p.moved p.size ports (forces_of i old) kept reset preset)))
    (match_by p (domain_at n ports (pin_of role.Clock i old)) (forcing n ports (forces_of i old)) (takes_of i old) (takes_of i new)
    (ap (λ o. scan_of o (pin_of role.ScanIn i old)) no_scan) enabled (ap (or_loose i) same.data_in ∙ data_kept p.moved i (pin_of role.Din i old)) (data_inside p.size i (pin_of role.Din i old) data_in)
    (λ x is. forcing_inside n w p.moved p.size ports (forces_of i old) x kept is))

-- ---- pins are among the design's nets

signal_inside : (size i pin : ℕ) (s : Signal) → IsLive size s → IsWithin size (source_of i pin s)
signal_inside size i pin (signal.Net net) live = live
signal_inside size i pin (signal.Constant bit) live = tt
signal_inside size i pin signal.Unconnected live = tt

pin_choice : (size i : ℕ) (c : Connection) (cs : List Connection) (r : Role) (b : Bool) → IsLive size c.to → IsPinWithin size (pin_of r i cs) → IsPinWithin size (if b then Some (source_of i c.pin c.to) else pin_of r i cs)
pin_choice size i c cs r true live rest = signal_inside size i c.pin c.to live
pin_choice size i c cs r false live rest = rest

pub pin_inside : (size i pin : ℕ) (roles : List Role) (signals : List Signal) (r : Role) → AreLive size signals → IsPinWithin size (pin_of r i (connections_from pin roles signals))
pin_inside size i pin [] signals r live = tt
pin_inside size i pin (x ∷ roles) [] r live = tt
pin_inside size i pin (x ∷ roles) (s ∷ signals) r live =
    pin_choice size i (record { role = x; pin = pin; to = s }) (connections_from (suc pin) roles signals) r (same_role r x) (live zero s refl)
    (pin_inside size i (suc pin) roles signals r (λ k z at. live (suc k) z at))

-- a moved pin takes its bit from the moved source
pin_choice_moved : (gap : Gap) (i : ℕ) (c : Connection) (b : Bool) (new old : Option Source) → new ≡ option_map (moved_source (moved gap)) old →
    (if b then Some (source_of i c.pin (moved_signal gap c.to)) else new) ≡ option_map (moved_source (moved gap)) (if b then Some (source_of i c.pin c.to) else old)
pin_choice_moved gap i c true new old e = ap Some (mergings.moved_source_of gap i c.pin c.to)
pin_choice_moved gap i c false new old e = e

pub pin_moved : (gap : Gap) (i : ℕ) (r : Role) (cs : List Connection) → pin_of r i (map (mergings.moved_connection gap) cs) ≡ option_map (moved_source (moved gap)) (pin_of r i cs)
pin_moved gap i r [] = refl
pin_moved gap i r (c ∷ cs) = pin_choice_moved gap i c (same_role r c.role) (pin_of r i (map (mergings.moved_connection gap) cs)) (pin_of r i cs) (pin_moved gap i r cs)
