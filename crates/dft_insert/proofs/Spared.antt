-- Parts that drive a net nowhere.
use Rattle.std.proofs.Common.{ℕ, suc, ◌+◌, ◌≡◌, ◌==◌, Bool, true, false, List, [], ◌∷◌, ◌++◌, Some, refl, arith}
use Rattle.std.specs.List.{AllByRecursion}
use Rattle.dft_cells.specs.declared.kind.Kind.{Kind}
use Rattle.dft_cells.specs.declared.kind.Role.{Role}
use Rattle.dft_cells.specs.declared.kind.Role.TheVariants.{Input, Clock, Din, Reset, Preset, ScanIn, ScanEnable, Output, Inverted}
use Rattle.dft_netlist.specs.declared.ids.NetId.{NetId}
use Rattle.dft_netlist.specs.declared.instance.Signal.{Signal}
use Rattle.dft_netlist.specs.declared.instance.Signal.TheVariants.{Net, Constant, Unconnected}
use Rattle.dft_netlist.specs.declared.instance.Instance.{Instance}
use Rattle.dft_netlist.specs.Drivers.{Source, Driver, connections_from, connections_of, inputs_of, shape_of, at_signal, at_role, driven_by_pins, driven_by, driven_by_instances}
use Rattle.dft_netlist.specs.NetDrivers.{roles_at}
use Rattle.dft_netlist.specs.Netlist.{Netlist}
use Rattle.dft_parts.specs.MadeNames.{made_instance}
use Rattle.dft_parts.specs.Parts.{Part, ANet, AnInstance, APin}
use Rattle.dft_parts.specs.Single.{net_driven, nets_driven, times_in}
use Rattle.dft_parts.proofs.Singles.{times_in-append, counted_first}
use Rattle.dft_scan_frame.proofs.Mergings.{NoneAt}
use Rattle.dft_insert.proofs.Merging.{news, JoinsWith, none_append, is_output_at}

-- a part whose instance drives this net nowhere, and that joins it to no output pin
abbrev pub Spares : Netlist → (k : ℕ) → Part → Type 0
Spares n k ANet = Unit {0}
Spares n k (AnInstance cell pins) = times_in (nets_driven (shape_of n.library cell).roles pins) k ≡ 0
Spares n k (APin i pin net) = is_output_at (roles_at n i.0) pin ≡ true → (net.0 == k) ≡ false

-- an output pin is joined to another net
abbrev pub IsOther : Netlist → (k i pin : ℕ) → NetId → Type 0
IsOther n k i pin net = is_output_at (roles_at n i) pin ≡ true → (net.0 == k) ≡ false

pub others_joined : (n : Netlist) (k : ℕ) (parts : List Part) → AllByRecursion (Spares n k) parts → AllByRecursion (JoinsWith (IsOther n k)) parts
others_joined n k [] h = tt
others_joined n k (ANet ∷ parts) h = (tt, others_joined n k parts h.1)
others_joined n k (AnInstance cell pins ∷ parts) h = (tt, others_joined n k parts h.1)
others_joined n k (APin i pin net ∷ parts) h = (h.0, others_joined n k parts h.1)

-- ---- what made instances drive

pub one_none : (x k : ℕ) (b : Bool) → (x == k) ≡ b → times_in (x ∷ []) k ≡ 0 → (x == k) ≡ false
one_none x k false is none = is
one_none x k true is none = absurd (let e : times_in (x ∷ []) k ≡ 1 + times_in [] k = counted_first x k [] true is in omega (arith, e, none))

signal_none : (s : Signal) (d : Driver) (k : ℕ) → times_in (net_driven Output s) k ≡ 0 → NoneAt (at_signal s d) k
signal_none (Net net) d k h = (one_none net.0 k (net.0 == k) refl h, tt)
signal_none (Constant bit) d k h = tt
signal_none Unconnected d k h = tt

inverted_none : (s : Signal) (d : Driver) (k : ℕ) → times_in (net_driven Inverted s) k ≡ 0 → NoneAt (at_signal s d) k
inverted_none (Net net) d k h = (one_none net.0 k (net.0 == k) refl h, tt)
inverted_none (Constant bit) d k h = tt
inverted_none Unconnected d k h = tt

role_none : (r : Role) (kind : Kind) (i : ℕ) (inputs : List Source) (s : Signal) (k : ℕ) → times_in (net_driven r s) k ≡ 0 → NoneAt (at_role r kind i inputs s) k
role_none Output kind i inputs s k h = signal_none s _ k h
role_none Inverted kind i inputs s k h = inverted_none s _ k h
role_none Input kind i inputs s k h = tt
role_none Clock kind i inputs s k h = tt
role_none Din kind i inputs s k h = tt
role_none Reset kind i inputs s k h = tt
role_none Preset kind i inputs s k h = tt
role_none ScanIn kind i inputs s k h = tt
role_none ScanEnable kind i inputs s k h = tt

pins_none : (kind : Kind) (i : ℕ) (inputs : List Source) (pin : ℕ) (roles : List Role) (signals : List Signal) (k : ℕ) → times_in (nets_driven roles signals) k ≡ 0 → NoneAt (driven_by_pins kind i inputs (connections_from pin roles signals)) k
pins_none kind i inputs pin [] signals k h = tt
pins_none kind i inputs pin (r ∷ roles) [] k h = tt
pins_none kind i inputs pin (r ∷ roles) (s ∷ signals) k h =
    let both : times_in (net_driven r s ++ nets_driven roles signals) k ≡ times_in (net_driven r s) k + times_in (nets_driven roles signals) k = times_in-append (net_driven r s) (nets_driven roles signals) k in
    none_append (at_role r kind i inputs s) (driven_by_pins kind i inputs (connections_from (suc pin) roles signals)) k
    (role_none r kind i inputs s k (omega (arith, both, h)))
    (pins_none kind i inputs (suc pin) roles signals k (omega (arith, both, h)))

pub news_none : (n : Netlist) (k i number : ℕ) (parts : List Part) → AllByRecursion (Spares n k) parts → NoneAt (driven_by_instances n.library i (news number parts)) k
news_none n k i number [] h = tt
news_none n k i number (ANet ∷ parts) h = news_none n k i number parts h.1
news_none n k i number (AnInstance cell pins ∷ parts) h =
    let made : Instance = record { name = Some (made_instance number); cell = cell; pins = pins } in
    none_append (driven_by n.library i made) (driven_by_instances n.library (suc i) (news (number + 1) parts)) k
    (pins_none (shape_of n.library cell).kind i (inputs_of i (connections_of n.library made)) 0 (shape_of n.library cell).roles pins k h.0)
    (news_none n k (suc i) (number + 1) parts h.1)
news_none n k i number (APin j pin net ∷ parts) h = news_none n k i number parts h.1
