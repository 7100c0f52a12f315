-- Traces and shown clocks, one net on; and what holds of a root, said of what is traced to or of the clock that is shown.
use Rattle.std.proofs.Common.{ℕ, ◌≡◌, Bool, true, false, List, [], ◌∷◌, Some, refl, sym, ap, subst}
use Rattle.dft_cells.specs.declared.kind.Gate.{Gate as GateKind}
use Rattle.dft_cells.specs.declared.kind.Gate.TheVariants.{Buf, Inv}
use Rattle.dft_netlist.specs.Netlist.{Netlist}
use Rattle.dft_netlist.specs.Drivers.{Source, Net, Tied, Input, Gate, Joined, driver}
use Rattle.dft_behavior.specs.NetRoots.{NetRoot, Port, Constant, Other, From, Bit, passed_by_gate, turned, turned_root, AtPort, AtConstant, AtTie, ThroughGate, ThroughJoin}
use Rattle.dft_behavior.specs.Traces.{Traces, straight_root}
use Rattle.dft_behavior.specs.Traces as traces
use Rattle.dft_behavior.specs.ClockRoots.{ClockRooted, turn_of}

-- ---- traces

pub traced_port : (n : Netlist) (net : ℕ) → driver n net ≡ Input → Traces n (Net net) (traces.Port net)
traced_port n net is = record { whole = Port net false true; rooted = AtPort is; straight = refl }

pub traced_constant : (n : Netlist) (bit : Bool) → Traces n (Tied bit) (traces.Constant bit)
traced_constant n bit = record { whole = Constant bit; rooted = AtConstant; straight = refl }

pub traced_tie : (n : Netlist) (net : ℕ) (kind : GateKind) (inputs : List Source) (bit : Bool) → driver n net ≡ Gate kind inputs → passed_by_gate kind inputs ≡ Bit bit → Traces n (Net net) (traces.Constant bit)
traced_tie n net kind inputs bit is passes = record { whole = Constant bit; rooted = AtTie is passes; straight = refl }

pub traced_buffer : (n : Netlist) (net : ℕ) (kind : GateKind) (inputs : List Source) (source : Source) (root : traces.Root) →
    driver n net ≡ Gate kind inputs → passed_by_gate kind inputs ≡ From source false → Traces n source root → Traces n (Net net) root
traced_buffer n net kind inputs source root is passes rest = record { whole = rest.whole; rooted = ThroughGate {turns = false} is passes rest.rooted; straight = rest.straight }

pub traced_join : (n : Netlist) (net : ℕ) (source : Source) (root : traces.Root) → driver n net ≡ Joined source → Traces n source root → Traces n (Net net) root
traced_join n net source root is rest = record { whole = rest.whole; rooted = ThroughJoin is rest.rooted; straight = rest.straight }

-- ---- clocks

-- a buffer or an inverter passes on its one source
pub turn_passes : (kind : GateKind) (source : Source) (turns : Bool) → turn_of kind ≡ Some turns → passed_by_gate kind (source ∷ []) ≡ From source turns
turn_passes Buf source turns is = let e : false ≡ turns = cc in ap (From source) e
turn_passes Inv source turns is = let e : true ≡ turns = cc in ap (From source) e
turn_passes _ source turns is = absurd cc

-- and no other gate passes one on
pub passes_turn : (kind : GateKind) (inputs : List Source) (source : Source) (turns : Bool) → passed_by_gate kind inputs ≡ From source turns → (inputs ≡ source ∷ []) × (turn_of kind ≡ Some turns)
passes_turn Buf [] source turns is = absurd cc
passes_turn Buf (one ∷ []) source turns is = let e : one ≡ source = cc in let t : false ≡ turns = cc in (ap (λ s. s ∷ []) e, ap Some t)
passes_turn Buf (one ∷ more ∷ inputs) source turns is = absurd cc
passes_turn Inv [] source turns is = absurd cc
passes_turn Inv (one ∷ []) source turns is = let e : one ≡ source = cc in let t : true ≡ turns = cc in (ap (λ s. s ∷ []) e, ap Some t)
passes_turn Inv (one ∷ more ∷ inputs) source turns is = absurd cc
passes_turn _ inputs source turns is = absurd cc

pub clock_port : (n : Netlist) (net : ℕ) → driver n net ≡ Input → ClockRooted n (Net net) net false
clock_port n net is = record { straight = true; rooted = AtPort is }

pub clock_gate : (n : Netlist) (net : ℕ) (kind : GateKind) (source : Source) (turns : Bool) (port : ℕ) (inverted : Bool) →
    driver n net ≡ Gate kind (source ∷ []) → turn_of kind ≡ Some turns → ClockRooted n source port inverted → ClockRooted n (Net net) port (turned turns inverted)
clock_gate n net kind source false port inverted is turn rest = record { straight = rest.straight; rooted = ThroughGate {turns = false} is (turn_passes kind source false turn) rest.rooted }
clock_gate n net kind source true port inverted is turn rest = record { straight = false; rooted = ThroughGate {turns = true} is (turn_passes kind source true turn) rest.rooted }

pub clock_join : (n : Netlist) (net : ℕ) (source : Source) (port : ℕ) (inverted : Bool) → driver n net ≡ Joined source → ClockRooted n source port inverted → ClockRooted n (Net net) port inverted
clock_join n net source port inverted is rest = record { straight = rest.straight; rooted = ThroughJoin is rest.rooted }

-- ---- what holds of a root

-- of what is traced to, if that is a port or a constant
abbrev pub OfTraced : (traces.Root → Type 0) → NetRoot → Type 0
OfTraced P (Port net inverted true) = P (traces.Port net)
OfTraced P (Port net inverted false) = Unit {0}
OfTraced P (Constant bit) = P (traces.Constant bit)
OfTraced P Other = Unit {0}

-- it is kept behind a buffer, and an inverter leaves nothing to be traced to
pub traced_on : (P Q : traces.Root → Type 0) (turns : Bool) (root : NetRoot) → (turns ≡ false → (r : traces.Root) → P r → Q r) → OfTraced P root → OfTraced Q (turned_root turns root)
traced_on P Q false (Port net inverted true) step holds = step refl (traces.Port net) holds
traced_on P Q false (Port net inverted false) step holds = tt
traced_on P Q false (Constant bit) step holds = step refl (traces.Constant bit) holds
traced_on P Q false Other step holds = tt
traced_on P Q true (Port net inverted straight) step holds = tt
traced_on P Q true (Constant bit) step holds = tt
traced_on P Q true Other step holds = tt

-- so it is where it passes on unturned
pub traced_over : (P Q : traces.Root → Type 0) (root : NetRoot) → ((r : traces.Root) → P r → Q r) → OfTraced P root → OfTraced Q root
traced_over P Q root step holds = traced_on P Q false root (λ e. step) holds

pub traced_out : (P : traces.Root → Type 0) (whole : NetRoot) (root : traces.Root) → straight_root whole ≡ root → (root ≡ traces.Other → ⊥) → OfTraced P whole → P root
traced_out P (Port net inverted true) root is some holds = subst P is holds
traced_out P (Port net inverted false) root is some holds = absurd (some (sym is))
traced_out P (Constant bit) root is some holds = subst P is holds
traced_out P Other root is some holds = absurd (some (sym is))

-- of the clock that is shown, if one is
abbrev pub OfClock : (ℕ → Bool → Type 0) → NetRoot → Type 0
OfClock P (Port net inverted straight) = P net inverted
OfClock P (Constant bit) = Unit {0}
OfClock P Other = Unit {0}

pub clock_on : (P Q : ℕ → Bool → Type 0) (turns : Bool) (root : NetRoot) → ((port : ℕ) (inverted : Bool) → P port inverted → Q port (turned turns inverted)) → OfClock P root → OfClock Q (turned_root turns root)
clock_on P Q false (Port net inverted straight) step holds = step net inverted holds
clock_on P Q true (Port net inverted straight) step holds = step net inverted holds
clock_on P Q false (Constant bit) step holds = tt
clock_on P Q true (Constant bit) step holds = tt
clock_on P Q false Other step holds = tt
clock_on P Q true Other step holds = tt
