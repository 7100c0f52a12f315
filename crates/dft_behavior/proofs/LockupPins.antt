-- A lock-up goes by the net at its clock pin: it shows its input while that is 0, and what it holds while that is 1.
use Rattle.std.proofs.Common.{ℕ, Bool, true, false, not, Option, None, Some, ◌≡◌, refl, sym, ap, ◌∙◌}
use Rattle.std.specs.Prelude.{if◌then◌else◌}
use Rattle.dft_cells.specs.declared.kind.Role.TheVariants as role
use Rattle.dft_netlist.specs.Netlist.{Netlist}
use Rattle.dft_netlist.specs.Drivers.{Source, Driver, pins_of, driver}
use Rattle.dft_netlist.specs.Drivers as drivers
use Rattle.dft_behavior.specs.ClockRoots.{ClockRoot, clock_root_of}
use Rattle.dft_netlist.specs.Connections.{pin_of}
use Rattle.dft_behavior.specs.Logic.{Ports, Input, Clock, Lockup, domain_of, domain_at, or_loose, lockup_meaning, flip_flop, meaning_of, logic_of}
use Rattle.dft_behavior.specs.Settled.{Sources, is_wire, bit_from, bit_given, IsSettled}
use Rattle.dft_behavior.specs.Laws.{LockupByPin}
use Rattle.dft_behavior.proofs.ClockWalks.{clock_found, clock_driven, clock_bit}
use Rattle.dft_behavior.proofs.SettledLemmas.{no_flop}
use Rattle.dft_behavior.proofs.StoredLemmas.{no_port}

-- ---- its clock

-- what the net of a lock-up tells of its clock pin
abbrev Clocked : Netlist → Ports → (c e : ℕ) → (high : Bool) → Type 0
Clocked n ports c e high = domain_at n ports (pin_of role.Clock c (pins_of n c)) ≡ Some (record { port = e; inverted = high })

locked_by : (i : ℕ) (domain : Option ClockRoot) (from : Source) (c e : ℕ) (high : Bool) (source : Source) → lockup_meaning i domain from ≡ Lockup c e high source → (i ≡ c) × (domain ≡ Some (record { port = e; inverted = high }))
locked_by i None from c e high source h = absurd cc
locked_by i (Some d) from c e high source h = (let p : i ≡ c = cc in p, let p : d.port ≡ e = cc in let q : d.inverted ≡ high = cc in λ t. Some (record { port = p t; inverted = q t }))

clocked_by : (n : Netlist) (ports : Ports) (net : ℕ) (d : Driver) (c e : ℕ) (high : Bool) (source : Source) → meaning_of n ports net d ≡ Lockup c e high source → Clocked n ports c e high
clocked_by n ports net drivers.Input c e high source h = absurd (no_port (ports.is_clock net) c e high source h)
clocked_by n ports net (drivers.Gate k inputs) c e high source h = absurd cc
clocked_by n ports net (drivers.Joined from) c e high source h = absurd cc
clocked_by n ports net (drivers.Flop i inverted) c e high source h = absurd (no_flop i inverted (flip_flop n ports i) c e high source h)
clocked_by n ports net (drivers.Lockup i) c e high source h =
    let it = locked_by i (domain_at n ports (pin_of role.Clock i (pins_of n i))) (or_loose i (pin_of role.Din i (pins_of n i))) c e high source h in
    sym (ap (λ (j : ℕ). domain_at n ports (pin_of role.Clock j (pins_of n j))) it.0) ∙ it.1
clocked_by n ports net drivers.Free c e high source h = absurd cc

-- a clock of a clock port, that a source shows
picked_clock : (ports : Ports) (root clock : ClockRoot) (b : Bool) → ports.is_clock root.port ≡ b → (if b then Some root else None) ≡ Some clock → (Some root ≡ Some clock) × (ports.is_clock clock.port ≡ true)
picked_clock ports root clock true is h = (h, (let q : root ≡ clock = cc in sym (ap (λ (r : ClockRoot). ports.is_clock r.port) q) ∙ is))
picked_clock ports root clock false is h = absurd cc

port_clock : (ports : Ports) (o : Option ClockRoot) (clock : ClockRoot) → domain_of ports o ≡ Some clock → (o ≡ Some clock) × (ports.is_clock clock.port ≡ true)
port_clock ports None clock h = absurd cc
port_clock ports (Some root) clock h = picked_clock ports root clock (ports.is_clock root.port) refl h

pub record ShowsClock (n : Netlist) (ports : Ports) (o : Option Source) (clock : ClockRoot) : Type 0 where
  pub pin : Source
  pub is : o ≡ Some pin
  pub root : clock_root_of n pin ≡ Some clock
  pub port : ports.is_clock clock.port ≡ true

shows_clock : (n : Netlist) (ports : Ports) (o : Option Source) (clock : ClockRoot) → domain_at n ports o ≡ Some clock → ShowsClock n ports o clock
shows_clock n ports None clock h = absurd cc
shows_clock n ports (Some source) clock h = let found = port_clock ports (clock_root_of n source) clock h in record { pin = source; is = refl; root = found.0; port = found.1 }

-- ---- the bits there

-- the bit of a clock port is its level
port_level : (n : Netlist) (ports : Ports) (s : Sources) (bits : ℕ → Bool) (e : ℕ) → IsSettled (logic_of n ports) s bits → driver n e ≡ drivers.Input → ports.is_clock e ≡ true → bits e ≡ s.high e
port_level n ports s bits e settled driven is =
    settled e ∙ ap (λ (d : Driver). bit_given s bits e (meaning_of n ports e d)) driven ∙ ap (λ (b : Bool). bit_given s bits e (if b then Clock else Input)) is

by_level : (high level held there : Bool) → (if is_wire high level then there else held) ≡ (if (if high then not level else level) then held else there)
by_level true true held there = refl
by_level true false held there = refl
by_level false true held there = refl
by_level false false held there = refl

pub lockup_by_pin : LockupByPin
lockup_by_pin n ports s bits net c e high source settled is =
    let it = shows_clock n ports (pin_of role.Clock c (pins_of n c)) (record { port = e; inverted = high }) (clocked_by n ports net (driver n net) c e high source is) in
    let rooted = clock_found n it.pin (record { port = e; inverted = high }) it.root in
    let level : bits e ≡ s.high e = port_level n ports s bits e settled (clock_driven n rooted) it.port in
    let at_pin : bit_from s bits it.pin ≡ (if high then not (s.high e) else s.high e) = clock_bit n ports s bits it.pin e high settled rooted ∙ ap (λ (b : Bool). if high then not b else b) level in (
      it.pin,
      it.is,
      settled net ∙ ap (bit_given s bits net) is ∙ by_level high (s.high e) (s.flops c) (bit_from s bits source) ∙ ap (λ (b : Bool). if b then s.flops c else bit_from s bits source) (sym at_pin),
    )
