-- Ports with more resets model more flip-flops, and leave the others and each net that is not free.
use Rattle.std.proofs.Common.{ℕ, Bool, true, false, ◌≡◌, ◌⊎◌, inl, inr, Option, None, Some, refl, sym, ap, ◌∙◌}
use Rattle.std.specs.Prelude.{if◌then◌else◌}
use Rattle.std.proofs.lemmas.Option.{none-some}
use Rattle.std.specs.Option.{option_or}
use Rattle.dft_cells.specs.declared.kind.Role.TheVariants as role
use Rattle.dft_cells.specs.FlipFlops.{is_flip_flop, Takes, Forces}
use Rattle.dft_cells.specs.declared.kind.Kind.{Kind}
use Rattle.dft_cells.specs.declared.kind.Kind.TheVariants as kind
use Rattle.dft_netlist.specs.Netlist.{Netlist}
use Rattle.dft_netlist.specs.Drivers.{Source, Driver, pins_of, kind_at, driver}
use Rattle.dft_netlist.specs.Drivers as drivers
use Rattle.dft_behavior.specs.Traces.{Root, Port, Constant, Other, root_of}
use Rattle.dft_behavior.specs.ClockRoots.{ClockRoot, clock_root_of}
use Rattle.dft_netlist.specs.Connections.{pin_of}
use Rattle.dft_behavior.specs.Logic.{Ports, Cell, Free, Clock, Input, domain_of, domain_at, force_of, force_at, both_forces, forcing, takes_of, forces_of, modelled, modelled_of, flip_flop, flop_meaning, lockup_meaning, meaning_of, or_loose, locked, is_lockup, lock_up, stored, no_cell, cell_or_none}
use Rattle.dft_runs.specs.WiderPorts.{Suits, PortsWiden}

same_domain : (a b : Ports) → Suits a b → (r : Option ClockRoot) → domain_of b r ≡ domain_of a r
same_domain a b suits None = refl
same_domain a b suits (Some root) = ap (λ c. if c then Some root else None) (suits.clocks root.port)

same_domain_at : (n : Netlist) (a b : Ports) → Suits a b → (o : Option Source) → domain_at n b o ≡ domain_at n a o
same_domain_at n a b suits None = refl
same_domain_at n a b suits (Some source) = same_domain a b suits (clock_root_of n source)

reset_kept : (x y : Bool) (f : Option ℕ) (o : Option (Option ℕ)) → (x ≡ true → y ≡ true) → (if x then Some f else None) ≡ o → (o ≡ None) ⊎ ((if y then Some f else None) ≡ o)
reset_kept false y f o more is = inl (sym is)
reset_kept true true f o more is = inr is
reset_kept true false f o more is = absurd (let h = more refl in cc)

force_kept : (a b : Ports) → Suits a b → (r : Root) → (force_of a r ≡ None) ⊎ (force_of b r ≡ force_of a r)
force_kept a b suits (Port net) = reset_kept (a.is_reset net) (b.is_reset net) (Some net) (force_of a (Port net)) (suits.resets net) refl
force_kept a b suits (Constant true) = inr refl
force_kept a b suits (Constant false) = inr refl
force_kept a b suits Other = inr refl

pin_kept : (n : Netlist) (a b : Ports) → Suits a b → (pin : Option Source) → (force_at n a pin ≡ None) ⊎ (force_at n b pin ≡ force_at n a pin)
pin_kept n a b suits None = inr refl
pin_kept n a b suits (Some source) = force_kept a b suits (root_of n source)

no_preset : (clear preset : Option (Option ℕ)) → preset ≡ None → both_forces clear preset ≡ None
no_preset None preset is = refl
no_preset (Some clear) preset is = ap (both_forces (Some clear)) is

forcing_kept : (n : Netlist) (a b : Ports) → Suits a b → (pins : Forces Source) → (forcing n a pins ≡ None) ⊎ (forcing n b pins ≡ forcing n a pins)
forcing_kept n a b suits pins =
    elim (pin_kept n a b suits pins.clear) [
      | inl none ↦ inl (ap (λ clear. both_forces clear (force_at n a pins.preset)) none)
      | inr clear ↦ elim (pin_kept n a b suits pins.preset) [
        | inl none ↦ inl (no_preset (force_at n a pins.clear) (force_at n a pins.preset) none)
        | inr preset ↦ inr (λ t. both_forces (clear t) (preset t))
      ]
    ]

no_force : (domain : Option ClockRoot) (f : Option (Forces ℕ)) (takes : Takes Source) → f ≡ None → modelled domain f takes ≡ None
no_force None f takes h = refl
no_force (Some domain) None takes h = refl
no_force (Some domain) (Some force) takes h = absurd cc

modelled_kept : (n : Netlist) (a b : Ports) → Suits a b → (i : ℕ) → (modelled_of n a i (pins_of n i) ≡ None) ⊎ (modelled_of n b i (pins_of n i) ≡ modelled_of n a i (pins_of n i))
modelled_kept n a b suits i =
    let pins = pins_of n i in
    let takes = takes_of i pins in
    let domain = domain_at n a (pin_of role.Clock i pins) in
    elim (forcing_kept n a b suits (forces_of i pins)) [
      | inl none ↦ inl (no_force domain (forcing n a (forces_of i pins)) takes none)
      | inr same ↦ inr (ap (λ d. modelled d (forcing n b (forces_of i pins)) takes) (same_domain_at n a b suits (pin_of role.Clock i pins)) ∙ ap (λ f. modelled domain f takes) same)
    ]

if_kept : (t : Bool) (x y : Option Cell) → (x ≡ None) ⊎ (y ≡ x) → ((if t then x else None) ≡ None) ⊎ ((if t then y else None) ≡ (if t then x else None))
if_kept true x y h = h
if_kept false x y h = inl refl

flop_kept : (n : Netlist) (a b : Ports) → Suits a b → (i : ℕ) → (flip_flop n a i ≡ None) ⊎ (flip_flop n b i ≡ flip_flop n a i)
flop_kept n a b suits i = if_kept (is_flip_flop (kind_at n i)) (modelled_of n a i (pins_of n i)) (modelled_of n b i (pins_of n i)) (modelled_kept n a b suits i)

net_kept : (n : Netlist) (a b : Ports) → Suits a b → (net : ℕ) (d : Driver) → (meaning_of n a net d ≡ Free) ⊎ (meaning_of n b net d ≡ meaning_of n a net d)
net_kept n a b suits net drivers.Input = inr (ap (λ c. if c then Clock else Input) (suits.clocks net))
net_kept n a b suits net (drivers.Gate kind inputs) = inr refl
net_kept n a b suits net (drivers.Joined source) = inr refl
net_kept n a b suits net (drivers.Flop i inverted) = elim (flop_kept n a b suits i) [
  | inl none ↦ inl (ap (flop_meaning i inverted) none)
  | inr same ↦ inr (ap (flop_meaning i inverted) same)
]
net_kept n a b suits net (drivers.Lockup i) =
    inr (ap (λ d. lockup_meaning i d (or_loose i (pin_of role.Din i (pins_of n i)))) (same_domain_at n a b suits (pin_of role.Clock i (pins_of n i))))
net_kept n a b suits net drivers.Free = inl refl

lock_up_same : (n : Netlist) (a b : Ports) → Suits a b → (i : ℕ) → lock_up n b i ≡ lock_up n a i
lock_up_same n a b suits i =
    ap (λ d. if is_lockup (kind_at n i) then locked d (or_loose i (pin_of role.Din i (pins_of n i))) else None) (same_domain_at n a b suits (pin_of role.Clock i (pins_of n i)))

-- an instance that is a lock-up is no flip-flop
apart : (k : Kind) → (is_flip_flop k ≡ false) ⊎ (is_lockup k ≡ false)
apart kind.Lockup = inl refl
apart (kind.Gate gate) = inr refl
apart (kind.Flop flop) = inr refl
apart kind.Opaque = inr refl

none_if : (t : Bool) (o : Option Cell) → t ≡ false → (if t then o else None) ≡ None
none_if t o is = ap (λ (b : Bool). if b then o else None) is

stored_kept : (n : Netlist) (a b : Ports) → Suits a b → (i : ℕ) → (stored n a i ≡ None) ⊎ (stored n b i ≡ stored n a i)
stored_kept n a b suits i = elim (apart (kind_at n i)) [
  | inl no_flop ↦
      (let none : (p : Ports) → flip_flop n p i ≡ None = λ p. none_if (is_flip_flop (kind_at n i)) (modelled_of n p i (pins_of n i)) no_flop in
      inr (ap (λ o. option_or o (lock_up n b i)) (none b) ∙ lock_up_same n a b suits i ∙ sym (ap (λ o. option_or o (lock_up n a i)) (none a))))
  | inr no_lock ↦
      (let none : (p : Ports) → lock_up n p i ≡ None = λ p. none_if (is_lockup (kind_at n i)) (locked (domain_at n p (pin_of role.Clock i (pins_of n i))) (or_loose i (pin_of role.Din i (pins_of n i)))) no_lock in
      elim (flop_kept n a b suits i) [
        | inl free ↦ inl ((λ t. option_or (free t) (none a t)))
        | inr same ↦ inr (λ t. option_or (same t) (lock_up_same n a b suits i t))
      ])
]

cell_kept : (n : Netlist) (a b : Ports) → Suits a b → (i : ℕ) → (cell_or_none i (stored n a i) ≡ no_cell i) ⊎ (cell_or_none i (stored n b i) ≡ cell_or_none i (stored n a i))
cell_kept n a b suits i = elim (stored_kept n a b suits i) [ inl none ↦ inl (ap (cell_or_none i) none) | inr same ↦ inr (ap (cell_or_none i) same) ]

pub ports_widen : PortsWiden
ports_widen n a b suits = record {
  flops = λ i cell is. elim (flop_kept n a b suits i) [ inl none ↦ absurd (none-some cell (sym none ∙ is)) | inr same ↦ same ∙ is ];
  logic = record { nets = λ net. net_kept n a b suits net (driver n net); cells = cell_kept n a b suits };
}
