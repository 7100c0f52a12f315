-- A vector on the machine: which inputs are told, which clocks pulse, and what its compared bits decide.
use Rattle.std.proofs.Common.{ℕ, zero, suc, ◌+◌, ◌<◌, ◌≤◌, ◌≢◌, ◌==◌, Bool, true, false, ◌&&◌, List, [], ◌∷◌, ◌++◌, ◌≡◌, ◌⊎◌, inl, inr, Some, length, map, refl, sym, ap, ◌∙◌, slice_get, get_or, below_more, arith}
use Rattle.std.specs.Prelude.{if◌then◌else◌, filter, All, AllPairs, count_by}
use Rattle.std.specs.List.{range_with_len}
use Rattle.std.proofs.lemmas.Bool.Decides.{eqb_tells}
use Rattle.std.proofs.lemmas.List.Folds.{list_any_at}
use Rattle.std.proofs.lemmas.List.Sums.{sum_by-cons}
use Rattle.std.proofs.lemmas.List.{length-map, append-nil}
use Rattle.std.proofs.lemmas.List.Elements.{filter-append}
use Rattle.std.proofs.lemmas.Option.{slice_get-get_or}
use Rattle.std.proofs.lemmas.Bool.{eqb-true, and_parts, and_from, or_left, or_right, eq-eqb, or_cases}
use Rattle.dft_base.specs.declared.tri.Tri.{Tri}
use Rattle.dft_base.proofs.BitLemmas.{same_tests}
use Rattle.dft_base.proofs.ListLemmas.{range_last}
use Rattle.dft_netlist.specs.declared.ids.NetId.{NetId}
use Rattle.dft_netlist.specs.Orders.{Has, numbers_of}
use Rattle.dft_netlist.proofs.ListingLemmas.{has_kept, range_below, filter_has}
use Rattle.dft_cycle.specs.Machine.{Machine, value_at, logic, is_one_of, pulses, IsSet}
use Rattle.dft_cycle.specs.MachineLaws.{IsForced, StandsSince}
use Rattle.dft_cycle.proofs.MachineRounds.{set_stands}
use Rattle.dft_patterns.specs.declared.act.Act.{Act}
use Rattle.dft_patterns.specs.declared.act.Act.TheVariants.{Unset, Low, High, Pulse, ExpectLow, ExpectHigh, Ignore}
use Rattle.dft_replay.specs.Rows.{Compared, act_on, set_by, is_pulse, compared_at, compared_from}
use Rattle.dft_replay.specs.Rows as rows
use Rattle.dft_replay.specs.Vectors.{act_at, net_at, is_compared, pulses_at, clocks_of, AreClocks}

-- ---- the act at a net

-- no number stands twice
abbrev pub Differ : List ℕ → Type 0
Differ nets = AllPairs (λ a b. a ≢ b) nets

abbrev number_at : List ℕ → ℕ → ℕ
number_at nets i = get_or nets i 0

rest_differ : (net : ℕ) (nets : List ℕ) → Differ (net ∷ nets) → Differ nets
rest_differ net nets differ = λ i j d less within. differ (suc i) (suc j) d (omega arith) (omega arith)

first_differs : (net : ℕ) (nets : List ℕ) (i : ℕ) → Differ (net ∷ nets) → i < length nets → net ≢ number_at nets i
first_differs net nets i differ within = differ 0 (suc i) 0 (omega arith) (omega arith)

-- the act at the net of a signal is the signal's
pub act_at_net : (nets : List ℕ) (acts : List Act) (i net : ℕ) → Differ nets → length acts ≡ length nets → i < length nets → number_at nets i ≡ net → act_on nets acts net ≡ act_at acts i
act_at_net [] acts i net differ same within here = absurd (omega arith)
act_at_net (first ∷ nets) [] i net differ same within here = absurd (omega arith)
act_at_net (first ∷ nets) (act ∷ acts) zero net differ same within here = elim (eqb_tells first net) [
  | inl is ↦ ap (λ b. if b then act else act_on nets acts net) is.0
  | inr other ↦ absurd (other.1 here)
]
act_at_net (first ∷ nets) (act ∷ acts) (suc i) net differ same within here = elim (eqb_tells first net) [
  | inl is ↦ absurd (first_differs first nets i differ (omega arith) (is.1 ∙ sym here))
  | inr other ↦ ap (λ b. if b then act else act_on nets acts net) other.0 ∙ act_at_net nets acts i net (rest_differ first nets differ) (omega arith) (omega arith) here
]

-- a net of no signal has no act
no_act_at : (nets : List ℕ) (acts : List Act) (net : ℕ) → ((i : ℕ) → i < length nets → number_at nets i ≡ net → ⊥) → act_on nets acts net ≡ Unset
no_act_at [] acts net none = refl
no_act_at (first ∷ nets) [] net none = refl
no_act_at (first ∷ nets) (act ∷ acts) net none = elim (eqb_tells first net) [
  | inl is ↦ absurd (none 0 (omega arith) is.1)
  | inr other ↦ ap (λ b. if b then act else act_on nets acts net) other.0 ∙ no_act_at nets acts net (λ i within here. none (suc i) (omega arith) here)
]

-- a net is that of a signal, or of none
record IsNetOf (nets : List ℕ) (net : ℕ) : Type 0 where
  pub signal : ℕ
  pub within : signal < length nets
  pub here : number_at nets signal ≡ net

signal_or_none : (nets : List ℕ) (net : ℕ) → IsNetOf nets net ⊎ ((i : ℕ) → i < length nets → number_at nets i ≡ net → ⊥)
signal_or_none [] net = inr (λ i within here. absurd (omega arith))
signal_or_none (first ∷ nets) net = elim (eqb_tells first net) [
  | inl is ↦ inl (record { signal = 0; within = omega arith; here = is.1 })
  | inr other ↦ elim (signal_or_none nets net) [
    | inl found ↦ inl (record { signal = suc found.signal; within = (let w = found.within in omega arith); here = found.here })
    | inr none ↦ inr (λ i. elim i as (λ k. k < length (first ∷ nets) → number_at (first ∷ nets) k ≡ net → ⊥) [
      | zero ↦ λ within here. other.1 here
      | suc j ↦ λ within here. none j (omega arith) here
    ])
  ]
]

-- ---- inputs

-- since the start of the vector the inputs of the first signals were told
pub record Told (start now : Machine) (nets : List ℕ) (acts : List Act) (count : ℕ) : Type 0 where
  pub stands : StandsSince start now
  pub set : (j : ℕ) → j < count → value_at now.inputs (number_at nets j) ≡ set_by (act_at acts j) (value_at start.inputs (number_at nets j))
  pub kept : (net : ℕ) → ((j : ℕ) → j < count → number_at nets j ≡ net → ⊥) → value_at now.inputs net ≡ value_at start.inputs net

pub none_told : (m : Machine) (nets : List ℕ) (acts : List Act) → IsForced m → Told m m nets acts 0
none_told m nets acts forced = record {
  stands = record { netlist = refl; clocks = refl; cells = forced };
  set = λ j less. absurd (omega arith);
  kept = λ net none. refl;
}

-- the net of a signal differs from those of the signals before it
earlier_differ : (nets : List ℕ) (j i : ℕ) → Differ nets → i < length nets → j < i → number_at nets j ≢ number_at nets i
earlier_differ nets j i differ within less = differ j i 0 less within

pub told_more : (start now after : Machine) (nets : List ℕ) (acts : List Act) (i net : ℕ) (value : Tri) → IsForced start → Differ nets → i < length nets → number_at nets i ≡ net → Told start now nets acts i →
    value ≡ set_by (act_at acts i) (value_at now.inputs net) → IsSet (logic now) now net value after → Told start after nets acts (i + 1)
told_more start now after nets acts i net value forced differ within here told sets is =
    let unset : value_at now.inputs net ≡ value_at start.inputs net = told.kept net (λ j less at. earlier_differ nets j i differ within less (at ∙ sym here)) in
    let before : value_at now.inputs net ≡ value_at start.inputs (number_at nets i) = unset ∙ ap (value_at start.inputs) (sym here) in
    record {
      stands = set_stands start now after net value forced told.stands unset is;
      set = below_more (λ (j : ℕ). value_at after.inputs (number_at nets j) ≡ set_by (act_at acts j) (value_at start.inputs (number_at nets j))) i
          (λ j less. is.others (number_at nets j) (λ at. earlier_differ nets j i differ within less (at ∙ sym here)) ∙ told.set j less)
          (ap (value_at after.inputs) here ∙ is.input ∙ sets ∙ ap (set_by (act_at acts i)) before);
      kept = λ other none. is.others other (λ at. none i (omega arith) (here ∙ sym at)) ∙ told.kept other (λ j less at. none j (omega arith) at);
    }

-- an input that has its value already
pub told_same : (start now : Machine) (nets : List ℕ) (acts : List Act) (i net : ℕ) (value : Tri) → Differ nets → i < length nets → number_at nets i ≡ net → Told start now nets acts i →
    value ≡ set_by (act_at acts i) (value_at now.inputs net) → value ≡ value_at now.inputs net → Told start now nets acts (i + 1)
told_same start now nets acts i net value differ within here told sets same =
    let unset : value_at now.inputs net ≡ value_at start.inputs net = told.kept net (λ j less at. earlier_differ nets j i differ within less (at ∙ sym here)) in
    let before : value_at now.inputs net ≡ value_at start.inputs (number_at nets i) = unset ∙ ap (value_at start.inputs) (sym here) in
    record {
      stands = told.stands;
      set = below_more (λ (j : ℕ). value_at now.inputs (number_at nets j) ≡ set_by (act_at acts j) (value_at start.inputs (number_at nets j))) i
          told.set
          (ap (value_at now.inputs) here ∙ sym same ∙ sets ∙ ap (set_by (act_at acts i)) before);
      kept = λ other none. told.kept other (λ j less at. none j (omega arith) at);
    }

pub all_told : (start now : Machine) (nets : List ℕ) (acts : List Act) (count : ℕ) → Differ nets → length acts ≡ length nets → count ≡ length nets → Told start now nets acts count →
    (net : ℕ) → value_at now.inputs net ≡ set_by (act_on nets acts net) (value_at start.inputs net)
all_told start now nets acts count differ same all told net = elim (signal_or_none nets net) [
  | inl found ↦ (
      let w = found.within in
      let less : found.signal < count = omega arith in
      ap (value_at now.inputs) (sym found.here) ∙ told.set found.signal less
      ∙ ap (λ (a : Act). set_by a (value_at start.inputs (number_at nets found.signal))) (sym (act_at_net nets acts found.signal net differ same w found.here))
      ∙ ap (λ (k : ℕ). set_by (act_on nets acts net) (value_at start.inputs k)) found.here)
  | inr none ↦ told.kept net (λ j less at. none j (omega arith) at) ∙ ap (λ (a : Act). set_by a (value_at start.inputs net)) (sym (no_act_at nets acts net none))
]

-- ---- clocks

-- a net that pulses is that of a signal that does
record PulsesBy (nets : List ℕ) (acts : List Act) (net : ℕ) : Type 0 where
  pub signal : ℕ
  pub within : signal < length nets
  pub here : number_at nets signal ≡ net
  pub pulses : is_pulse (act_at acts signal) ≡ true

pulse_of_signal : (nets : List ℕ) (acts : List Act) (net : ℕ) → is_pulse (act_on nets acts net) ≡ true → PulsesBy nets acts net
pulse_of_signal [] acts net h = absurd (let f : ⊥ = cc in f)
pulse_of_signal (first ∷ nets) [] net h = absurd (let f : ⊥ = cc in f)
pulse_of_signal (first ∷ nets) (act ∷ acts) net h = elim (eqb_tells first net) [
  | inl is ↦ record { signal = 0; within = omega arith; here = is.1; pulses = sym (ap (λ b. is_pulse (if b then act else act_on nets acts net)) is.0) ∙ h }
  | inr other ↦ (
      let r = pulse_of_signal nets acts net (sym (ap (λ b. is_pulse (if b then act else act_on nets acts net)) other.0) ∙ h) in
      record { signal = suc r.signal; within = (let w = r.within in omega arith); here = r.here; pulses = r.pulses })
]

pub number_of : (nets : List NetId) (i : ℕ) → (net_at nets i).0 ≡ number_at (numbers_of nets) i
number_of [] i = refl
number_of (net ∷ nets) zero = refl
number_of (net ∷ nets) (suc i) = number_of nets i

-- the flags of the clocks say which nets pulse
marked : (nets : List NetId) (acts : List Act) (clocks : List ℕ) (e : ℕ) → pulses (map (net_at nets) clocks) (map (λ s. is_pulse (act_at acts s)) clocks) e ≡ true →
    (s : ℕ) × (Has clocks s × (is_pulse (act_at acts s) ≡ true) × ((net_at nets s).0 ≡ e))
marked nets acts [] e h = absurd (let f : ⊥ = cc in f)
marked nets acts (c ∷ clocks) e h = elim (or_cases (is_pulse (act_at acts c) && ((net_at nets c).0 == e)) (pulses (map (net_at nets) clocks) (map (λ s. is_pulse (act_at acts s)) clocks) e) h) [
  | inl here ↦ (let both = and_parts (is_pulse (act_at acts c)) ((net_at nets c).0 == e) here in (c, (inl refl, both.0, eqb-true (net_at nets c).0 e both.1)))
  | inr later ↦ (let r = marked nets acts clocks e later in (r.0, (inr r.1.0, r.1.1, r.1.2)))
]

marks : (nets : List NetId) (acts : List Act) (clocks : List ℕ) (e s : ℕ) → Has clocks s → is_pulse (act_at acts s) ≡ true → (net_at nets s).0 ≡ e → pulses (map (net_at nets) clocks) (map (λ s. is_pulse (act_at acts s)) clocks) e ≡ true
marks nets acts [] e s has up at = absurd has
marks nets acts (c ∷ clocks) e s has up at = elim has [
  | inl is ↦ or_left (is_pulse (act_at acts c) && ((net_at nets c).0 == e)) (pulses (map (net_at nets) clocks) (map (λ k. is_pulse (act_at acts k)) clocks) e)
      (and_from (is_pulse (act_at acts c)) ((net_at nets c).0 == e) (ap (λ (k : ℕ). is_pulse (act_at acts k)) (sym is) ∙ up) (eq-eqb (net_at nets c).0 e (ap (λ (k : ℕ). (net_at nets k).0) (sym is) ∙ at)))
  | inr later ↦ or_right (is_pulse (act_at acts c) && ((net_at nets c).0 == e)) (pulses (map (net_at nets) clocks) (map (λ k. is_pulse (act_at acts k)) clocks) e) (marks nets acts clocks e s later up at)
]

pub clocks_marked : (m : Machine) (nets : List NetId) (clocks : List ℕ) (acts : List Act) (e : ℕ) → Differ (numbers_of nets) → length acts ≡ length nets → AreClocks m nets clocks acts →
    pulses m.clocks (map (λ s. is_pulse (act_at acts s)) clocks) e ≡ is_pulse (act_on (numbers_of nets) acts e)
clocks_marked m nets clocks acts e differ same are =
    let ns : List ℕ = numbers_of nets in
    let long = length-map nets (λ (net : NetId). net.0) in
    ap (λ (cs : List NetId). pulses cs (map (λ s. is_pulse (act_at acts s)) clocks) e) are.clocks
    ∙ same_tests (pulses (map (net_at nets) clocks) (map (λ s. is_pulse (act_at acts s)) clocks) e) (is_pulse (act_on ns acts e))
    (λ h. (let r = marked nets acts clocks e h in
    let within : r.0 < length nets = are.live r.0 r.1.0 in
    ap is_pulse (act_at_net ns acts r.0 e differ (omega arith) (omega arith) (sym (number_of nets r.0) ∙ r.1.2)) ∙ r.1.1))
    (λ h. (let r = pulse_of_signal ns acts e h in marks nets acts clocks e r.signal (are.pulsing r.signal r.pulses) r.pulses (number_of nets r.signal ∙ r.here)))

-- ---- the clocks of all vectors

one_among : (nets : List NetId) (clocks : List ℕ) (e : ℕ) → is_one_of (map (net_at nets) clocks) e ≡ true → (s : ℕ) × (Has clocks s × ((net_at nets s).0 ≡ e))
one_among nets [] e h = absurd (let f : ⊥ = cc in f)
one_among nets (c ∷ clocks) e h = elim (or_cases ((net_at nets c).0 == e) (is_one_of (map (net_at nets) clocks) e) h) [
  | inl here ↦ (c, (inl refl, eqb-true (net_at nets c).0 e here))
  | inr later ↦ (let r = one_among nets clocks e later in (r.0, (inr r.1.0, r.1.1)))
]

among_one : (nets : List NetId) (clocks : List ℕ) (e s : ℕ) → Has clocks s → (net_at nets s).0 ≡ e → is_one_of (map (net_at nets) clocks) e ≡ true
among_one nets [] e s has at = absurd has
among_one nets (c ∷ clocks) e s has at = elim has [
  | inl is ↦ or_left ((net_at nets c).0 == e) (is_one_of (map (net_at nets) clocks) e) (eq-eqb (net_at nets c).0 e (ap (λ (k : ℕ). (net_at nets k).0) (sym is) ∙ at))
  | inr later ↦ or_right ((net_at nets c).0 == e) (is_one_of (map (net_at nets) clocks) e) (among_one nets clocks e s later at)
]

kept_has : (test : ℕ → Bool) (t : Bool) (x : ℕ) (xs : List ℕ) (s : ℕ) → test x ≡ t → (Has xs s → Has (filter test xs) s) → test s ≡ true → Has (x ∷ xs) s → Has (if t then x ∷ filter test xs else filter test xs) s
kept_has test true x xs s is later up has = elim has [ inl here ↦ inl here | inr there ↦ inr (later there) ]
kept_has test false x xs s is later up has = elim has [
  | inl here ↦ absurd (let f : true ≡ false = sym up ∙ ap test here ∙ is in let g : ⊥ = cc in g)
  | inr there ↦ later there
]

pub has_filter : (test : ℕ → Bool) (xs : List ℕ) (s : ℕ) → test s ≡ true → Has xs s → Has (filter test xs) s
has_filter test [] s up has = absurd has
has_filter test (x ∷ xs) s up has = kept_has test (test x) x xs s refl (has_filter test xs s up) up has

below_range : (a n s : ℕ) → a ≤ s → s < a + n → Has (range_with_len a n) s
below_range a zero s low high = absurd (omega arith)
below_range a (suc n) s low high = elim (eqb_tells s a) [
  | inl is ↦ inl is.1
  | inr other ↦ (let ne = other.1 in inr (below_range (a + 1) n s (omega arith) (omega arith)))
]

-- the clocks of one signal more
clocks_step : (vectors : List (List Act)) (count : ℕ) → clocks_of (count + 1) vectors ≡ clocks_of count vectors ++ (if pulses_at vectors count then count ∷ [] else [])
clocks_step vectors count = ap (filter (pulses_at vectors)) (range_last count) ∙ filter-append (pulses_at vectors) (range_with_len 0 count) (count ∷ [])

pub clocks_more : (vectors : List (List Act)) (count : ℕ) (clocks new : List ℕ) → clocks ≡ clocks_of count vectors → new ≡ clocks ++ count ∷ [] → pulses_at vectors count ≡ true → new ≡ clocks_of (count + 1) vectors
clocks_more vectors count clocks new is grown up = grown ∙ ap (λ (cs : List ℕ). cs ++ count ∷ []) is ∙ sym (clocks_step vectors count ∙ ap (λ b. clocks_of count vectors ++ (if b then count ∷ [] else [])) up)

pub clocks_same : (vectors : List (List Act)) (count : ℕ) (clocks : List ℕ) → clocks ≡ clocks_of count vectors → pulses_at vectors count ≡ false → clocks ≡ clocks_of (count + 1) vectors
clocks_same vectors count clocks is down = is ∙ sym (clocks_step vectors count ∙ ap (λ b. clocks_of count vectors ++ (if b then count ∷ [] else [])) down ∙ append-nil (clocks_of count vectors))

pub clock_live : (vectors : List (List Act)) (count s : ℕ) → Has (clocks_of count vectors) s → s < count
clock_live vectors count s has = (let r = range_below 0 count s (filter_has (pulses_at vectors) (range_with_len 0 count) s has).0 in omega arith)

pub clock_there : (vectors : List (List Act)) (count s : ℕ) → s < count → pulses_at vectors s ≡ true → Has (clocks_of count vectors) s
clock_there vectors count s less up = has_filter (pulses_at vectors) (range_with_len 0 count) s up (below_range 0 count s (omega arith) (omega arith))

-- past the last signal no act pulses
pub pulse_within : (acts : List Act) (s : ℕ) → is_pulse (act_at acts s) ≡ true → s < length acts
pulse_within [] s up = absurd (let f : ⊥ = cc in f)
pulse_within (act ∷ acts) zero up = omega arith
pulse_within (act ∷ acts) (suc s) up = (let r = pulse_within acts s up in omega arith)

pulsing_at : (acts : List Act) (vectors : List (List Act)) (place s : ℕ) (d : List Act) → place < length vectors → get_or vectors place d ≡ acts → is_pulse (act_at acts s) ≡ true → pulses_at vectors s ≡ true
pulsing_at acts vectors place s d within here up = list_any_at (λ acts. is_pulse (act_at acts s)) vectors place d within (ap (λ (row : List Act). is_pulse (act_at row s)) here ∙ up)

-- the nets of these signals are nets of the design
pub clock_nets_live : (count : ℕ) (nets : List NetId) (signals : List ℕ) → ((place : ℕ) (net : NetId) → slice_get nets place ≡ Some net → net.0 < count) → ((s : ℕ) → Has signals s → s < length nets) →
    (place : ℕ) (net : NetId) → slice_get (map (net_at nets) signals) place ≡ Some net → net.0 < count
clock_nets_live count nets [] live within place net at = absurd (let f : ⊥ = cc in f)
clock_nets_live count nets (s ∷ signals) live within zero net at = live s net (slice_get-get_or nets s (record { 0 = 0 }) (within s (inl refl)) ∙ at)
clock_nets_live count nets (s ∷ signals) live within (suc place) net at = clock_nets_live count nets signals live (λ k has. within k (inr has)) place net at

-- the clocks that pulse in this vector are among those of all
pub are_clocks : (m : Machine) (nets : List NetId) (vectors : List (List Act)) (place : ℕ) (acts : List Act) → m.clocks ≡ map (net_at nets) (clocks_of (length nets) vectors) → place < length vectors →
    get_or vectors place [] ≡ acts → length acts ≡ length nets → AreClocks m nets (clocks_of (length nets) vectors) acts
are_clocks m nets vectors place acts clocks within here same = record {
  clocks = clocks;
  live = λ s has. clock_live vectors (length nets) s has;
  pulsing = λ s up. (let w = pulse_within acts s up in clock_there vectors (length nets) s (omega arith) (pulsing_at acts vectors place s [] within here up));
}

-- the clocks of the machine are the nets that pulse in some vector
vector_pulsing : (nets : List ℕ) (vectors : List (List Act)) (e : ℕ) → rows.pulses nets vectors e ≡ true → (s : ℕ) × (pulses_at vectors s ≡ true) × (s < length nets) × (number_at nets s ≡ e)
vector_pulsing nets [] e h = absurd (let f : ⊥ = cc in f)
vector_pulsing nets (acts ∷ vectors) e h = elim (or_cases (is_pulse (act_on nets acts e)) (rows.pulses nets vectors e) h) [
  | inl here ↦ (let r = pulse_of_signal nets acts e here in (r.signal, or_left (is_pulse (act_at acts r.signal)) (pulses_at vectors r.signal) r.pulses, r.within, r.here))
  | inr later ↦ (let r = vector_pulsing nets vectors e later in (r.0, or_right (is_pulse (act_at acts r.0)) (pulses_at vectors r.0) r.1, r.2, r.3))
]

net_pulsing : (nets : List ℕ) (vectors : List (List Act)) (e s : ℕ) → Differ nets → All (λ acts. length acts ≡ length nets) vectors → s < length nets → number_at nets s ≡ e → pulses_at vectors s ≡ true → rows.pulses nets vectors e ≡ true
net_pulsing nets [] e s differ same within here h = absurd (let f : ⊥ = cc in f)
net_pulsing nets (acts ∷ vectors) e s differ same within here h = elim (or_cases (is_pulse (act_at acts s)) (pulses_at vectors s) h) [
  | inl up ↦ or_left (is_pulse (act_on nets acts e)) (rows.pulses nets vectors e) (ap is_pulse (act_at_net nets acts s e differ (same 0 acts (omega arith)) within here) ∙ up)
  | inr later ↦ or_right (is_pulse (act_on nets acts e)) (rows.pulses nets vectors e) (net_pulsing nets vectors e s differ (λ k d less. same (suc k) d (omega arith)) within here later)
]

pub clocks_pulse : (nets : List NetId) (vectors : List (List Act)) (e : ℕ) → Differ (numbers_of nets) → All (λ acts. length acts ≡ length nets) vectors →
    is_one_of (map (net_at nets) (clocks_of (length nets) vectors)) e ≡ rows.pulses (numbers_of nets) vectors e
clocks_pulse nets vectors e differ same =
    let ns : List ℕ = numbers_of nets in
    let count : ℕ = length nets in
    let long = length-map nets (λ (net : NetId). net.0) in
    same_tests (is_one_of (map (net_at nets) (clocks_of count vectors)) e) (rows.pulses ns vectors e)
    (λ h. (let r = one_among nets (clocks_of count vectors) e h in
    let less : r.0 < count = clock_live vectors count r.0 r.1.0 in
    net_pulsing ns vectors e r.0 differ (λ k d inside. (let l = same k d inside in l ∙ sym long)) (omega arith) (sym (number_of nets r.0) ∙ r.1.1)
    (filter_has (pulses_at vectors) (range_with_len 0 count) r.0 r.1.0).1))
    (λ h. (let r = vector_pulsing ns vectors e h in
    let less = r.2 in
    among_one nets (clocks_of count vectors) e r.0 (clock_there vectors count r.0 (omega arith) r.1) (number_of nets r.0 ∙ r.3)))

-- ---- counts

count_step : (i net : ℕ) (act : Act) (rest : List Compared) (acts : List Act) → length rest ≡ count_by is_compared acts → length (compared_at i net act rest) ≡ count_by is_compared (act ∷ acts)
count_step i net ExpectLow rest acts h = let e : count_by is_compared (ExpectLow ∷ acts) ≡ 1 + count_by is_compared acts = sum_by-cons _ ExpectLow acts in omega arith
count_step i net ExpectHigh rest acts h = let e : count_by is_compared (ExpectHigh ∷ acts) ≡ 1 + count_by is_compared acts = sum_by-cons _ ExpectHigh acts in omega arith
count_step i net Unset rest acts h = let e : count_by is_compared (Unset ∷ acts) ≡ 0 + count_by is_compared acts = sum_by-cons _ Unset acts in omega arith
count_step i net Low rest acts h = let e : count_by is_compared (Low ∷ acts) ≡ 0 + count_by is_compared acts = sum_by-cons _ Low acts in omega arith
count_step i net High rest acts h = let e : count_by is_compared (High ∷ acts) ≡ 0 + count_by is_compared acts = sum_by-cons _ High acts in omega arith
count_step i net Pulse rest acts h = let e : count_by is_compared (Pulse ∷ acts) ≡ 0 + count_by is_compared acts = sum_by-cons _ Pulse acts in omega arith
count_step i net Ignore rest acts h = let e : count_by is_compared (Ignore ∷ acts) ≡ 0 + count_by is_compared acts = sum_by-cons _ Ignore acts in omega arith

pub count_compared : (i : ℕ) (nets : List ℕ) (acts : List Act) → length acts ≡ length nets → length (compared_from i nets acts) ≡ count_by is_compared acts
count_compared i [] [] same = refl
count_compared i [] (act ∷ acts) same = absurd (omega arith)
count_compared i (net ∷ nets) [] same = absurd (omega arith)
count_compared i (net ∷ nets) (act ∷ acts) same = count_step i net act (compared_from (suc i) nets acts) acts (count_compared (suc i) nets acts (omega arith))
