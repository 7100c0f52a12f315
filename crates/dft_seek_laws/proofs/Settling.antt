-- What a capture settles stands above what a run settles, at each net that no high clock reaches.
use Rattle.std.proofs.Common.{ℕ, zero, suc, ◌<◌, ◌≡◌, ◌∙◌, ◌⊎◌, inl, inr, Bool, true, false, List, [], ◌∷◌, map, Option, None, Some, is_some, refl, sym, subst, ap, arith}
use Rattle.std.specs.Prelude.{if◌then◌else◌}
use Rattle.std.specs.List.{AllByRecursion}
use Rattle.dft_base.specs.declared.tri.Tri.{Tri}
use Rattle.dft_base.specs.declared.tri.Tri.TheVariants.{Zero, Unknown}
use Rattle.dft_base.specs.Tri.{Above}
use Rattle.dft_cells.specs.declared.kind.Gate.{Gate as GateKind}
use Rattle.dft_cells.specs.FlipFlops.{Scan, Takes, scan_sources, scanned, taken_by, taken_from, tri_scanned, tri_taken_by}
use Rattle.dft_cells.specs.Gates.{bit_of}
use Rattle.dft_cells.specs.Laws.{AllAbove}
use Rattle.dft_cells.proofs.Completions.{above_known, chosen_above, shared_above}
use Rattle.dft_netlist.specs.Netlist.{Netlist}
use Rattle.dft_netlist.specs.Drivers.{AreBelow, Driver, Loose, Net, Source, Tied, driver, nets_of}
use Rattle.dft_netlist.specs.Drivers as drivers
use Rattle.dft_behavior.specs.Logic.{Cell, Clock, Flop, Free, Gate, Input, IsRanked, Joined, Lockup, Logic, Meaning, Ports, flip_flop, flop_meaning, logic_of, meaning_of, reads}
use Rattle.dft_behavior.specs.Settled.{IsSettled, Sources, bit_from, bit_given, value_from, value_given}
use Rattle.dft_behavior.proofs.Meanings.{above_pin, at_net}
use Rattle.dft_behavior.proofs.SettledLemmas.{value_at}
use Rattle.dft_capture.specs.Captures.{IsSettledFrom, Moving, capture_logic, meaning_in, sources_at}
use Rattle.dft_edt.specs.Captures.{AllIn, IsClockFree}

-- ---- a netlist means in a run what it means in a capture, or a net is free there

-- what a capture says of nets is what a run's logic says
abbrev pub Keeps : Netlist → Moving → Logic → Type 0
Keeps n m l = (net : ℕ) → ((capture_logic n m).net net ≡ Free) ⊎ (l.net net ≡ (capture_logic n m).net net)

flop_there : (i : ℕ) (inverted : Bool) (o : Option Cell) → is_some o ≡ true → flop_meaning i inverted o ≡ Flop i inverted
flop_there i inverted None is = absurd (let f : ⊥ = cc in f)
flop_there i inverted (Some cell) is = refl

module _ (n : Netlist) (m : Moving) (ports : Ports) (clocks : (net : ℕ) → m.is_clock net ≡ ports.is_clock net) (flops : (i : ℕ) → m.holds i ≡ true → is_some (flip_flop n ports i) ≡ true) where
  flop_keeps : (i : ℕ) (inverted b : Bool) → m.holds i ≡ b → ((if b then Flop i inverted else Free) ≡ Free) ⊎ (flop_meaning i inverted (flip_flop n ports i) ≡ (if b then Flop i inverted else Free))
  flop_keeps i inverted true is = inr (flop_there i inverted (flip_flop n ports i) (flops i is))
  flop_keeps i inverted false is = inl refl

  driver_keeps : (net : ℕ) (d : Driver) → (meaning_in m net d ≡ Free) ⊎ (meaning_of n ports net d ≡ meaning_in m net d)
  driver_keeps net drivers.Input = inr (ap (λ (b : Bool). if b then Clock else Input) (sym (clocks net)))
  driver_keeps net (drivers.Gate kind inputs) = inr refl
  driver_keeps net (drivers.Joined source) = inr refl
  driver_keeps net (drivers.Flop i inverted) = flop_keeps i inverted (m.holds i) refl
  driver_keeps net (drivers.Lockup i) = inl refl
  driver_keeps net drivers.Free = inl refl

  pub keeps : Keeps n m (logic_of n ports)
  keeps net = driver_keeps net (driver n net)

-- a flip-flop that is no free net holds a value
flop_holds : (m : Moving) (net : ℕ) (d : Driver) (c : ℕ) (inverted : Bool) → meaning_in m net d ≡ Flop c inverted → m.holds c ≡ true
flop_holds m net drivers.Input c inverted is = absurd (by (m.is_clock net) is)
  where
    by : (b : Bool) → (if b then Clock else Input) ≡ Flop c inverted → ⊥
    by true h = cc
    by false h = cc
flop_holds m net (drivers.Gate kind inputs) c inverted is = absurd (let f : ⊥ = cc in f)
flop_holds m net (drivers.Joined source) c inverted is = absurd (let f : ⊥ = cc in f)
flop_holds m net (drivers.Flop i own) c inverted is = by (m.holds i) refl is
  where
    by : (b : Bool) → m.holds i ≡ b → (if b then Flop i own else Free) ≡ Flop c inverted → m.holds c ≡ true
    by true holds h = (let same : i ≡ c = cc in ap m.holds (sym same) ∙ holds)
    by false holds h = absurd (let f : ⊥ = cc in f)
flop_holds m net (drivers.Lockup i) c inverted is = absurd (let f : ⊥ = cc in f)
flop_holds m net drivers.Free c inverted is = absurd (let f : ⊥ = cc in f)

-- ---- sources

-- what is read stands above, where each net that is read does
pub known_inputs : (holds : ℕ → Type 0) (s : Sources) (bits : ℕ → Bool) (values : ℕ → Tri) → ((k : ℕ) → holds k → Above (values k) (bits k)) → (sources : List Source) → AllByRecursion holds (nets_of sources) →
    AllAbove (map (value_from values) sources) (map (bit_from s bits) sources)
known_inputs holds s bits values at [] all = tt
known_inputs holds s bits values at (Net net ∷ sources) all = (at net all.0, known_inputs holds s bits values at sources all.1)
known_inputs holds s bits values at (Tied bit ∷ sources) all = (above_known bit, known_inputs holds s bits values at sources all)
known_inputs holds s bits values at (Loose i pin ∷ sources) all = (tt, known_inputs holds s bits values at sources all)

taken_by_scan : (s : Sources) (bits : ℕ → Bool) (values : ℕ → Tri) (data_in : Source) (scan : Option (Scan Source)) → AllAbove (map (value_from values) (data_in ∷ scan_sources scan)) (map (bit_from s bits) (data_in ∷ scan_sources scan)) →
    Above (tri_scanned scan (value_from values) (value_from values data_in)) (scanned scan (bit_from s bits) (bit_from s bits data_in))
taken_by_scan s bits values data_in None all = all.0
taken_by_scan s bits values data_in (Some scan) all =
    chosen_above (value_from values scan.enable) (value_from values scan.input) (value_from values data_in) (bit_from s bits scan.enable) (bit_from s bits scan.input) (bit_from s bits data_in) all.1.0 all.1.1.0 all.0

-- so does what a cell takes, whatever its own value
pub known_taken : (among : ℕ → Bool) (s : Sources) (bits : ℕ → Bool) (values : ℕ → Tri) (takes : Takes Source) (own : Bool) → ((k : ℕ) → among k ≡ true → Above (values k) (bits k)) → AllIn among (nets_of (taken_from takes)) →
    Above (tri_taken_by takes Unknown (value_from values)) (taken_by takes own (bit_from s bits))
known_taken among s bits values takes own at all = taken_by_scan s bits values takes.input takes.scan (known_inputs (λ k. among k ≡ true) s bits values at (taken_from takes) (each (nets_of (taken_from takes)) all))
  where
    each : (nets : List ℕ) → AllIn among nets → AllByRecursion (λ k. among k ≡ true) nets
    each [] h = tt
    each (k ∷ nets) h = (h.0, each nets h.1)

-- ---- nets

-- gates and joins among these nets read such nets alone
pub record IsOpen (l : Logic) (among : ℕ → Bool) : Type 0 where
  pub gates : (net : ℕ) (kind : GateKind) (inputs : List Source) → among net ≡ true → l.net net ≡ Gate kind inputs → AllIn among (nets_of inputs)
  pub joins : (net : ℕ) (source : Source) → among net ≡ true → l.net net ≡ Joined source → AllIn among (nets_of (source ∷ []))

-- all nets
abbrev pub all : ℕ → Bool
all net = true

pub all_in : (nets : List ℕ) → AllIn all nets
all_in [] = tt
all_in (net ∷ nets) = (refl, all_in nets)

pub all_open : (l : Logic) → IsOpen l all
all_open l = record { gates = λ net kind inputs is e. all_in (nets_of inputs); joins = λ net source is e. all_in (nets_of (source ∷ [])) }

-- nets that no clock reaches, for a logic that means the same where a net is not free
pub clear_open : (n : Netlist) (m : Moving) (l : Logic) (free : ℕ → Bool) → Keeps n m l → IsClockFree l free → IsOpen (capture_logic n m) free
clear_open n m l free same clear = record {
  gates = λ net kind inputs is e. elim (same net) [
    | inl none ↦ absurd (let q : Free ≡ Gate kind inputs = sym none ∙ e in let f : ⊥ = cc in f)
    | inr own ↦ clear.gates net kind inputs is (own ∙ e)
  ];
  joins = λ net source is e. elim (same net) [
    | inl none ↦ absurd (let q : Free ≡ Joined source = sym none ∙ e in let f : ⊥ = cc in f)
    | inr own ↦ clear.joins net source is (own ∙ e)
  ];
}

-- and none of these is a clock
pub clear_clock : (n : Netlist) (m : Moving) (l : Logic) (free : ℕ → Bool) → Keeps n m l → IsClockFree l free → (net : ℕ) → free net ≡ true → (capture_logic n m).net net ≡ Clock → ⊥
clear_clock n m l free same clear net is e = elim (same net) [
  | inl none ↦ absurd (let q : Free ≡ Clock = sym none ∙ e in let f : ⊥ = cc in f)
  | inr own ↦ clear.clocks net is (own ∙ e)
]

both_in : (among : ℕ → Bool) (rank : ℕ → ℕ) (r : ℕ) (nets : List ℕ) → AllIn among nets → AreBelow rank r nets → AllByRecursion (λ k. (among k ≡ true) × (rank k < r)) nets
both_in among rank r [] h below = tt
both_in among rank r (k ∷ nets) h below = ((h.0, below.0), both_in among rank r nets h.1 below.1)

module _ (n : Netlist) (m : Moving) (l : Logic) (same : Keeps n m l) (rank : ℕ → ℕ) (ranked : IsRanked (capture_logic n m) rank) (among : ℕ → Bool) (is_open : IsOpen (capture_logic n m) among)
    (ports state values : ℕ → Tri) (s : Sources) (bits : ℕ → Bool) (settled : IsSettledFrom n m ports state values) (shows : IsSettled l s bits)
    (over_ports : (k : ℕ) → Above (ports k) (s.ports k)) (over_flops : (c : ℕ) → m.holds c ≡ true → Above (state c) (s.flops c))
    (low : (net : ℕ) → among net ≡ true → (capture_logic n m).net net ≡ Clock → s.high net ≡ false) where
  abbrev l0 : Logic
  l0 = capture_logic n m

  by_meaning : (net : ℕ) (w : Meaning) → among net ≡ true → l0.net net ≡ w → AreBelow rank (rank net) (reads w) → ((k : ℕ) → (among k ≡ true) × (rank k < rank net) → Above (values k) (bits k)) →
      Above (value_given (sources_at ports state) values net w) (bit_given s bits net w)
  by_meaning net Input is e below ih = over_ports net
  by_meaning net Clock is e below ih = subst (λ (b : Bool). Above Zero b) (sym (low net is e)) tt
  by_meaning net (Gate kind inputs) is e below ih =
      shared_above (bit_of kind) (map (value_from values) inputs) (map (bit_from s bits) inputs)
      (known_inputs (λ k. (among k ≡ true) × (rank k < rank net)) s bits values ih inputs (both_in among rank (rank net) (nets_of inputs) (is_open.gates net kind inputs is e) below))
  by_meaning net (Joined source) is e below ih =
      (known_inputs (λ k. (among k ≡ true) × (rank k < rank net)) s bits values ih (source ∷ []) (both_in among rank (rank net) (nets_of (source ∷ [])) (is_open.joins net source is e) below)).0
  by_meaning net (Flop c inverted) is e below ih = above_pin inverted (state c) (s.flops c) (over_flops c (flop_holds m net (driver n net) c inverted e))
  by_meaning net (Lockup c e high source) is at below ih = tt
  by_meaning net Free is e below ih = tt

  known_within : (fuel net : ℕ) → rank net < fuel → among net ≡ true → Above (values net) (bits net)
  known_within zero net less is = absurd (omega (arith, less))
  known_within (suc fuel) net less is = elim (same net) [
    | inl none ↦ subst (λ (t : Tri). Above t (bits net)) (sym (value_at l0 (sources_at ports state) values net Free settled none)) tt
    | inr own ↦ at_net (values net) (value_given (sources_at ports state) values net (l0.net net)) (bits net) (bit_given s bits net (l0.net net)) (settled net) (shows net ∙ ap (bit_given s bits net) own)
        (by_meaning net (l0.net net) is refl (ranked.order net) (λ k h. known_within fuel k (let below = h.1 in omega (arith, less, below)) h.0))
  ]

  pub known : (net : ℕ) → among net ≡ true → Above (values net) (bits net)
  known net is = known_within (suc (rank net)) net (omega arith) is
