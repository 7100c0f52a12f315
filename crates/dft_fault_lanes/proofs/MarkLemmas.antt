-- What is marked for cells has what they read, and what is marked for compared bits has their nets.
use Rattle.std.proofs.Common.{ℕ, Bool, true, false, ◌≡◌, ◌<◌, ◌≤◌, ◌+◌, ◌++◌, ◌⊎◌, inl, inr, List, [], ◌∷◌, length, refl, sym, ap, subst, arith, ◌∙◌, get_or, Option, None, Some}
use Rattle.std.specs.Prelude.{nat_le, if◌then◌else◌}
use Rattle.std.proofs.lemmas.List.{get_or_past}
use Rattle.std.proofs.lemmas.Bool.{cases_Bool, cases_eq, or_left, or_right}
use Rattle.std.proofs.lemmas.Bool.Decides.{eqb_tells, leb_tells}
use Rattle.dft_base.proofs.BitLemmas.{or_later}
use Rattle.dft_base.specs.declared.tri.Tri.{Tri}
use Rattle.dft_base.specs.declared.tri.Tri.TheVariants.{Zero, One, Unknown}
use Rattle.dft_cells.specs.FlipFlops.{Scan}
use Rattle.dft_netlist.specs.declared.ids.NetId.{NetId}
use Rattle.dft_netlist.specs.Drivers.{Source, Net, Tied, Loose, nets_of}
use Rattle.dft_behavior.specs.Logic.{Cell}
use Rattle.dft_netlist.specs.Orders.{Has}
use Rattle.dft_behavior.specs.Settled.{value_from}
use Rattle.dft_netlist.proofs.StandLemmas.{has_push, has_push_cases}
use Rattle.dft_patterns.specs.declared.act.Act.{Act}
use Rattle.dft_patterns.specs.declared.act.Act.TheVariants.{Unset}
use Rattle.dft_replay.specs.Vectors.{act_at, net_at, printed}
use Rattle.dft_logic.specs.declared.circuit.FlipFlop.{FlipFlop}
use Rattle.dft_logic.specs.Circuit.{cell_of, flag_at}
use Rattle.dft_takings.specs.EntryTables.{MarksAll}
use Rattle.dft_takings.specs.Needs.{HasAll, chosen_reads, taken_reads, next_reads}
use Rattle.dft_takings.proofs.PlanLemmas.{has_needs, one_or_more}
use Rattle.dft_logic.proofs.Writings.{cell_read, cell_past}
use Rattle.dft_takings.proofs.RiseLemmas.{first_all, rest_all, more_all}
use Rattle.dft_fault_lanes.specs.declared.marking.Steer.{Steer}
use Rattle.dft_fault_lanes.specs.Lanes.{flop_at, is_changed}
use Rattle.dft_fault_lanes.specs.Plans.{needs_of, Steers, HasReadsOf, ArePlaces, AreCovered, enable_at, taken_needs, cell_needs}
use Rattle.dft_fault_lanes.specs.Moves.{enable_needs}
use Rattle.dft_fault_lanes.proofs.SteadyLemmas.{force_has}

-- ---- what is read

enable_is : (s : Steer) (values : ℕ → Tri) (source : Source) → Steers s values → (enable_at s source ≡ Unknown) ⊎ (value_from values source ≡ enable_at s source)
enable_is s values (Net net) steers = elim (eqb_tells net s.net.0) [
  | inl same ↦ (let here : s.value ≡ enable_at s (Net net) = ap (λ b. if b then s.value else Unknown) (sym same.0) in
      elim steers [ inl none ↦ inl (sym here ∙ none) | inr is ↦ inr (ap values same.1 ∙ is ∙ here) ])
  | inr other ↦ inl (ap (λ b. if b then s.value else Unknown) other.0)
]
enable_is s values (Tied bit) steers = inl refl
enable_is s values (Loose i pin) steers = inl refl

of_both : (needs : ℕ → Bool) (v : Tri) (scan_in data_in : Source) → HasAll needs (nets_of (scan_in ∷ data_in ∷ [])) → HasAll needs (nets_of (chosen_reads v scan_in data_in))
of_both needs Zero scan_in data_in has = rest_all needs scan_in (data_in ∷ []) has
of_both needs One scan_in data_in has = first_all needs scan_in (data_in ∷ []) has
of_both needs Unknown scan_in data_in has = has

chosen_more : (needs : ℕ → Bool) (known v : Tri) (scan_in data_in : Source) → (known ≡ Unknown) ⊎ (v ≡ known) → HasAll needs (nets_of (chosen_reads known scan_in data_in)) → HasAll needs (nets_of (chosen_reads v scan_in data_in))
chosen_more needs known v scan_in data_in (inl none) has = of_both needs v scan_in data_in (subst (λ (t : Tri). HasAll needs (nets_of (chosen_reads t scan_in data_in))) none has)
chosen_more needs known v scan_in data_in (inr is) has = subst (λ (t : Tri). HasAll needs (nets_of (chosen_reads t scan_in data_in))) (sym is) has

taken_has : (needs : ℕ → Bool) (s : Steer) (scan : Option (Scan Source)) (values : ℕ → Tri) (data_in : Source) → Steers s values → HasAll needs (taken_needs s scan data_in) → HasAll needs (nets_of (taken_reads scan (value_from values) data_in))
taken_has needs s None values data_in steers has = has
taken_has needs s (Some scan) values data_in steers has =
    let known : Tri = enable_at s scan.enable in
    let v : Tri = value_from values scan.enable in
    more_all needs scan.enable (chosen_reads v scan.input data_in) (first_all needs scan.enable (chosen_reads known scan.input data_in) has)
    (chosen_more needs known v scan.input data_in (enable_is s values scan.enable steers) (rest_all needs scan.enable (chosen_reads known scan.input data_in) has))

-- a set that has what may be read has what is read
pub reads_of_needs : (needs : ℕ → Bool) (s : Steer) (cell : Cell) → HasAll needs (cell_needs s cell) → HasReadsOf needs s cell
reads_of_needs needs s cell has ports values steers =
    force_has needs cell.forces ports (taken_reads cell.takes.scan (value_from values) cell.takes.input) (taken_has needs s cell.takes.scan values cell.takes.input steers has)

-- what is marked for a cell
pub reads_marked : (flops : List FlipFlop) (s : Steer) (count : ℕ) (marked : List Bool) (c : ℕ) → ((k : ℕ) → c < length flops → k < count → Has (cell_needs s (flop_at flops c)) k → flag_at marked k ≡ true) → HasReadsOf (needs_of count marked) s (flop_at flops c)
reads_marked flops s count marked c each = elim (leb_tells (length flops) c) [
  | inl far ↦ λ ports values steers. (let Q : Cell → Type 0 = λ k. HasAll (needs_of count marked) (nets_of (next_reads k ports (value_from values))) in subst Q (sym (cell_past flops c far.1)) tt)
  | inr near ↦ reads_of_needs (needs_of count marked) s (flop_at flops c) (has_needs count marked (cell_needs s (flop_at flops c)) (λ k live h. each k near.1 live h))
]

pub enables_marked : (flops : List FlipFlop) (count : ℕ) (marked : List Bool) (c : ℕ) → ((k : ℕ) → c < length flops → k < count → Has (enable_needs (flop_at flops c)) k → flag_at marked k ≡ true) → HasAll (needs_of count marked) (enable_needs (flop_at flops c))
enables_marked flops count marked c each = elim (leb_tells (length flops) c) [
  | inl far ↦ (let Q : Cell → Type 0 = λ k. HasAll (needs_of count marked) (enable_needs k) in subst Q (sym (cell_past flops c far.1)) tt)
  | inr near ↦ has_needs count marked (enable_needs (flop_at flops c)) (λ k live h. each k near.1 live h)
]

pub net_marked : (count : ℕ) (marked : List Bool) (net : ℕ) → (net < count → flag_at marked net ≡ true) → needs_of count marked net ≡ true
net_marked count marked net each = (has_needs count marked (net ∷ []) (λ k live h. elim h [ inl e ↦ subst (λ (i : ℕ). flag_at marked i ≡ true) (sym e) (each (subst (λ (i : ℕ). i < count) e live)) | inr none ↦ absurd none ])).0

-- more marks keep what is marked
pub needs_more : (count : ℕ) (marked now : List Bool) (k : ℕ) → ((k : ℕ) → flag_at marked k ≡ true → flag_at now k ≡ true) → needs_of count marked k ≡ true → needs_of count now k ≡ true
needs_more count marked now k kept need = elim (cases_Bool (flag_at marked k)) [
  | inl up ↦ or_left (flag_at now k) (nat_le count k) (kept k up)
  | inr down ↦ or_right (flag_at now k) (nat_le count k) (or_later (flag_at marked k) (nat_le count k) down need)
]

-- ---- marks one after another

pub marks_then : (start middle new : List Bool) (first second : List ℕ) → MarksAll start middle first → MarksAll middle new second → MarksAll start new first
marks_then start middle new first second one two = record { size = two.size ∙ one.size; kept = λ k up. two.kept k (one.kept k up); all = λ k live h. two.kept k (one.all k live h) }

pub then_marks : (start middle new : List Bool) (first second : List ℕ) → MarksAll start middle first → MarksAll middle new second → MarksAll start new second
then_marks start middle new first second one two =
    let size : length middle ≡ length start = one.size in
    record { size = two.size ∙ one.size; kept = λ k up. two.kept k (one.kept k up); all = λ k live h. two.all k (omega (arith, live, size)) h }

-- what is marked of the cells before one
pub record Taking (flops : List FlipFlop) (s : Steer) (left : ℕ → Bool) (start marked : List Bool) (place : ℕ) : Type 0 where
  pub size : length marked ≡ length start
  pub kept : (k : ℕ) → flag_at start k ≡ true → flag_at marked k ≡ true
  pub enables : (c : ℕ) → c < place → MarksAll start marked (enable_needs (flop_at flops c))
  pub reads : (c : ℕ) → c < place → left c ≡ false → MarksAll start marked (cell_needs s (flop_at flops c))

pub taking_starts : (flops : List FlipFlop) (s : Steer) (left : ℕ → Bool) (start : List Bool) → Taking flops s left start start 0
taking_starts flops s left start = record { size = refl; kept = λ k up. up; enables = λ c less. absurd (omega arith); reads = λ c less. absurd (omega arith) }

pub taking_more : (flops : List FlipFlop) (s : Steer) (left : ℕ → Bool) (start marked now : List Bool) (place : ℕ) (flop : FlipFlop) (carried : Bool) → place < length flops → flop ≡ get_or flops place flop → carried ≡ left place → MarksAll marked now (enable_needs (cell_of flop)) →
    (carried ≡ false → MarksAll marked now (cell_needs s (cell_of flop))) → Taking flops s left start marked place → Taking flops s left start now (place + 1)
taking_more flops s left start marked now place flop carried less read tells enable reads old =
    let cell : cell_of flop ≡ flop_at flops place = ap cell_of read ∙ cell_read flops place flop less in
    let same : MarksAll start marked [] = record { size = old.size; kept = old.kept; all = λ k live h. absurd h } in
    let E : Cell → Type 0 = λ k. MarksAll marked now (enable_needs k) in
    let R : Cell → Type 0 = λ k. MarksAll marked now (cell_needs s k) in
    record {
      size = enable.size ∙ old.size;
      kept = λ k up. enable.kept k (old.kept k up);
      enables = λ c before. elim (cases_eq c place) [
        | inl e ↦ then_marks start marked now [] (enable_needs (flop_at flops c)) same (subst (λ (i : ℕ). MarksAll marked now (enable_needs (flop_at flops i))) (sym e) (subst E cell enable))
        | inr ne ↦ marks_then start marked now (enable_needs (flop_at flops c)) (enable_needs (cell_of flop)) (old.enables c (omega (arith, before, ne))) enable
      ];
      reads = λ c before stays. elim (cases_eq c place) [
        | inl e ↦ then_marks start marked now [] (cell_needs s (flop_at flops c)) same
            (subst (λ (i : ℕ). MarksAll marked now (cell_needs s (flop_at flops i))) (sym e) (subst R cell (reads (tells ∙ ap left (sym e) ∙ stays))))
        | inr ne ↦ marks_then start marked now (cell_needs s (flop_at flops c)) (enable_needs (cell_of flop)) (old.reads c (omega (arith, before, ne)) stays) enable
      ];
    }

-- what is marked of one source and of more
pub marks_both : (start middle new : List Bool) (source : Source) (sources : List Source) → MarksAll start middle (nets_of (source ∷ [])) → MarksAll middle new (nets_of sources) → MarksAll start new (nets_of (source ∷ sources))
marks_both start middle new source sources first second =
    let size : length middle ≡ length start = first.size in
    record {
      size = second.size ∙ first.size;
      kept = λ k up. second.kept k (first.kept k up);
      all = λ k live h. elim (one_or_more k source sources h) [
        | inl one ↦ second.kept k (first.all k live one)
        | inr more ↦ second.all k (omega arith) more
      ];
    }

-- ---- compared bits

-- the nets are marked of the compared signals before one, and all that was marked is so yet
pub record Covering (nets : List NetId) (acts : List Act) (start marked : List Bool) (signal : ℕ) : Type 0 where
  pub size : length marked ≡ length start
  pub kept : (k : ℕ) → flag_at start k ≡ true → flag_at marked k ≡ true
  pub each : (i : ℕ) (bit : Bool) → i < signal → printed (act_at acts i) ≡ Some bit → flag_at marked (net_at nets i).0 ≡ true

pub covering_starts : (nets : List NetId) (acts : List Act) (start : List Bool) → Covering nets acts start start 0
covering_starts nets acts start = record { size = refl; kept = λ k up. up; each = λ i bit less. absurd (omega arith) }

-- one signal more, where what was marked stays so
pub covering_more : (nets : List NetId) (acts : List Act) (start marked now : List Bool) (i : ℕ) → length now ≡ length marked → ((k : ℕ) → flag_at marked k ≡ true → flag_at now k ≡ true) →
    ((bit : Bool) → printed (act_at acts i) ≡ Some bit → flag_at now (net_at nets i).0 ≡ true) → Covering nets acts start marked i → Covering nets acts start now (i + 1)
covering_more nets acts start marked now i size kept here old = record {
  size = size ∙ old.size;
  kept = λ k up. kept k (old.kept k up);
  each = λ j bit less is. elim (cases_eq j i) [
    | inl e ↦ ap (λ (n : ℕ). flag_at now (net_at nets n).0) e ∙ here bit (ap (λ (n : ℕ). printed (act_at acts n)) (sym e) ∙ is)
    | inr ne ↦ kept (net_at nets j).0 (old.each j bit (omega (arith, less, ne)) is)
  ];
}

pub covering_ends : (nets : List NetId) (acts : List Act) (start marked : List Bool) (i : ℕ) → length acts ≤ i → Covering nets acts start marked i → AreCovered nets acts marked
covering_ends nets acts start marked i all old signal bit is = elim (leb_tells (length acts) signal) [
  | inl far ↦ absurd (let q : None ≡ Some bit = sym (ap printed (get_or_past acts signal Unset far.1)) ∙ is in let f : ⊥ = cc in f)
  | inr near ↦ old.each signal bit (omega (arith, near.1, all)) is
]

-- ---- places

has_left : (xs : List ℕ) (p k : ℕ) → Has xs k → Has (xs ++ p ∷ []) k
has_left [] p k h = absurd h
has_left (x ∷ xs) p k h = elim h [ inl e ↦ inl e | inr rest ↦ inr (has_left xs p k rest) ]

-- the cells before a place are listed that change and are not left out
pub record Placing (flops : List FlipFlop) (rising : Bool) (pulsed : List Bool) (left : ℕ → Bool) (list : List ℕ) (place : ℕ) : Type 0 where
  pub count : length list ≤ place
  pub all : (c : ℕ) → c < place → is_changed (flop_at flops c) rising pulsed ≡ true → left c ≡ false → Has list c
  pub only : (c : ℕ) → Has list c → (c < place) × ((is_changed (flop_at flops c) rising pulsed ≡ true) × (left c ≡ false))

pub placing_starts : (flops : List FlipFlop) (rising : Bool) (pulsed : List Bool) (left : ℕ → Bool) → Placing flops rising pulsed left [] 0
placing_starts flops rising pulsed left = record { count = omega arith; all = λ c less. absurd (omega arith); only = λ c h. absurd h }

pub placing_more : (flops : List FlipFlop) (rising : Bool) (pulsed : List Bool) (left : ℕ → Bool) (list new : List ℕ) (place : ℕ) (flop : FlipFlop) (carried : Bool) → place < length flops → flop ≡ get_or flops place flop → carried ≡ left place →
    (is_changed (cell_of flop) rising pulsed ≡ true) × (carried ≡ false) → new ≡ list ++ place ∷ [] → length new ≡ length list + 1 → Placing flops rising pulsed left list place → Placing flops rising pulsed left new (place + 1)
placing_more flops rising pulsed left list new place flop carried less read tells is_up made size old =
    let cell : cell_of flop ≡ flop_at flops place = ap cell_of read ∙ cell_read flops place flop less in
    let changes : is_changed (flop_at flops place) rising pulsed ≡ true = ap (λ (k : Cell). is_changed k rising pulsed) (sym cell) ∙ is_up.0 in
    let stays : left place ≡ false = sym tells ∙ is_up.1 in
    let room = old.count in
    subst (λ (l : List ℕ). Placing flops rising pulsed left l (place + 1)) (sym made) (record {
      count = omega (arith, room, size, ap length made);
      all = λ c before is out. elim (cases_eq c place) [
        | inl e ↦ subst (λ (i : ℕ). Has (list ++ place ∷ []) i) (sym e) (has_push list place)
        | inr ne ↦ has_left list place c (old.all c (omega (arith, before, ne)) is out)
      ];
      only = λ c h. elim (has_push_cases list place c h) [
        | inl before ↦ (let was = old.only c before in (omega (arith, was.0), was.1))
        | inr e ↦ (omega (arith, e), (subst (λ (i : ℕ). is_changed (flop_at flops i) rising pulsed ≡ true) (sym e) changes, ap left e ∙ stays))
      ];
    })

pub placing_rests : (flops : List FlipFlop) (rising : Bool) (pulsed : List Bool) (left : ℕ → Bool) (list : List ℕ) (place : ℕ) (flop : FlipFlop) (carried : Bool) → place < length flops → flop ≡ get_or flops place flop → carried ≡ left place →
    (carried ≡ false → is_changed (cell_of flop) rising pulsed ≡ false) → Placing flops rising pulsed left list place → Placing flops rising pulsed left list (place + 1)
placing_rests flops rising pulsed left list place flop carried less read tells is_down old =
    let cell : cell_of flop ≡ flop_at flops place = ap cell_of read ∙ cell_read flops place flop less in
    let rests : left place ≡ false → is_changed (flop_at flops place) rising pulsed ≡ false = λ out. ap (λ (k : Cell). is_changed k rising pulsed) (sym cell) ∙ is_down (tells ∙ out) in
    let room = old.count in
    record {
      count = omega (arith, room);
      all = λ c before is out. elim (cases_eq c place) [
        | inl e ↦ absurd (let q : true ≡ false = sym is ∙ ap (λ (i : ℕ). is_changed (flop_at flops i) rising pulsed) e ∙ rests (ap left (sym e) ∙ out) in let f : ⊥ = cc in f)
        | inr ne ↦ old.all c (omega (arith, before, ne)) is out
      ];
      only = λ c h. (let was = old.only c h in (omega (arith, was.0), was.1));
    }

pub placing_ends : (flops : List FlipFlop) (rising : Bool) (pulsed : List Bool) (left : ℕ → Bool) (list : List ℕ) (place : ℕ) → length flops ≤ place → place ≤ length flops → Placing flops rising pulsed left list place → ArePlaces flops rising pulsed left list
placing_ends flops rising pulsed left list place all within old = (λ c less is out. old.all c (omega (arith, less, all)) is out, λ c h. (let was = old.only c h in (omega (arith, was.0, within), was.1)))

-- ---- one cell after another

-- what was shown of the cells before one that take a value
abbrev pub ShownTo : (up : ℕ → Bool) → (P : ℕ → Type 0) → (place : ℕ) → Type 0
ShownTo up P place = (c : ℕ) → c < place → up c ≡ true → P c

pub shown_more : (up : ℕ → Bool) (P : ℕ → Type 0) (place : ℕ) → (up place ≡ true → P place) → ShownTo up P place → ShownTo up P (place + 1)
shown_more up P place here old c before is = elim (cases_eq c place) [
  | inl e ↦ subst P (sym e) (here (ap up (sym e) ∙ is))
  | inr ne ↦ old c (omega (arith, before, ne)) is
]
