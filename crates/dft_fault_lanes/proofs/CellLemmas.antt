-- What cells take in each lane, one place after another.
use Rattle.std.proofs.Common.{ℕ, zero, Bool, true, false, ◌≡◌, ◌<◌, ◌≤◌, ◌+◌, ◌⊎◌, List, [], ◌∷◌, length, drop, drop-cons, add-one, inl, inr, refl, sym, ap, subst, arith, ◌∙◌, get_or, slice_set, get_or-set_same, get_or-set_other}
use Rattle.std.specs.Prelude.{if◌then◌else◌}
use Rattle.std.proofs.lemmas.List.{get_or_past, drop_all, length-set}
use Rattle.std.proofs.lemmas.Bool.{cases_Bool, cases_eq}
use Rattle.std.proofs.lemmas.Bool.Decides.{leb_tells}
use Rattle.dft_base.specs.declared.tri.Tri.{Tri}
use Rattle.dft_base.specs.declared.tri.Tri.TheVariants.{Zero, One, Unknown}
use Rattle.dft_base.specs.Tri.{known, join}
use Rattle.dft_cells.specs.FlipFlops.{tri_forced, tri_chosen, tri_forced_by}
use Rattle.dft_cells.specs.Tables.{mux_tri}
use Rattle.dft_cells.proofs.TriLemmas.{chosen_one, chosen_zero}
use Rattle.dft_lanes.specs.declared.wide.Wide.{Wide}
use Rattle.dft_lanes.specs.Choices.{can, some_choice_of_three}
use Rattle.dft_behavior.specs.Logic.{Cell, no_cell}
use Rattle.dft_netlist.specs.Orders.{Has}
use Rattle.dft_netlist.proofs.ListingLemmas.{has_item}
use Rattle.dft_logic.specs.declared.circuit.FlipFlop.{FlipFlop}
use Rattle.dft_logic.specs.Circuit.{cell_of, next_at}
use Rattle.dft_logic.proofs.Writings.{cell_read, cell_past}
use Rattle.dft_logic.specs.Values.{value_at}
use Rattle.dft_evaluator.specs.Wides.{value_in, values_in, wide_at, unknown_wide, IsWide, AreWides}
use Rattle.dft_evaluator.proofs.BitLemmas.{all_unknown}
use Rattle.dft_evaluator.proofs.WideLemmas.{value_is, wide_is, wide_same, wide_muxes}
use Rattle.dft_evaluator.proofs.SweepLemmas.{whole_set}
use Rattle.dft_fault_lanes.specs.Lanes.{flop_at, is_changed, AreActedOn, AreTaken}
use Rattle.dft_fault_lanes.specs.Moves.{NoneActs}
use Rattle.dft_fault_lanes.specs.Plans.{ArePlaces}
use Rattle.dft_registers.proofs.CellLemmas.{either_same}

-- ---- next values

mux_chooses : (data_in scan_in enable : Tri) → mux_tri data_in scan_in enable ≡ tri_chosen enable scan_in data_in
mux_chooses d s Zero = sym (chosen_zero s d)
mux_chooses d s One = sym (chosen_one s d)
mux_chooses d s Unknown =
    let zero = sym (chosen_zero s d) in
    let one = sym (chosen_one s d) in
    λ t. join (zero t) (one t)

pub wide_chooses : (wide a b e : Wide) (s t u : ℕ → Tri) → IsWide a s → IsWide b t → IsWide e u →
    ((lane : ℕ) (v : Bool) → can wide lane v ≡ some_choice_of_three (λ x y c. if c then y else x) (can a lane) (can b lane) (can e lane) v) →
    IsWide wide (λ lane. tri_chosen (u lane) (t lane) (s lane))
wide_chooses wide a b e s t u is_a is_b is_e made =
    wide_same wide (λ lane. mux_tri (s lane) (t lane) (u lane)) (λ lane. tri_chosen (u lane) (t lane) (s lane)) (wide_muxes wide a b e s t u is_a is_b is_e made) (λ lane less. mux_chooses (s lane) (t lane) (u lane))

forced_unknown : (value : Bool) (t : Tri) → mux_tri (known value) t Unknown ≡ tri_forced value Unknown t
forced_unknown true Zero = refl
forced_unknown true One = refl
forced_unknown true Unknown = refl
forced_unknown false Zero = refl
forced_unknown false One = refl
forced_unknown false Unknown = refl

pub wide_forced : (wide a b e : Wide) (value : Bool) (t : ℕ → Tri) → IsWide a (λ lane. known value) → IsWide b t → e ≡ unknown_wide →
    ((lane : ℕ) (v : Bool) → can wide lane v ≡ some_choice_of_three (λ x y c. if c then y else x) (can a lane) (can b lane) (can e lane) v) →
    IsWide wide (λ lane. tri_forced value Unknown (t lane))
wide_forced wide a b e value t is_a is_b is_e made =
    wide_same wide (λ lane. mux_tri (known value) (t lane) Unknown) (λ lane. tri_forced value Unknown (t lane))
    (wide_muxes wide a b e (λ lane. known value) t (λ lane. Unknown) is_a is_b (subst (λ (w : Wide). IsWide w (λ lane. Unknown)) (sym is_e) all_unknown) made) (λ lane less. forced_unknown value (t lane))

pub pressed_unknown : (value : Bool) (pin : Tri) (wide a b e : Wide) (bit : Tri) (t : ℕ → Tri) → pin ≡ Unknown → bit ≡ known value → IsWide a (λ lane. bit) → IsWide b t → e ≡ unknown_wide →
    ((lane : ℕ) (v : Bool) → can wide lane v ≡ some_choice_of_three (λ x y c. if c then y else x) (can a lane) (can b lane) (can e lane) v) →
    IsWide wide (λ lane. tri_forced value pin (t lane))
pressed_unknown value pin wide a b e bit t is_unknown is_bit is_a is_b is_e made =
    subst (λ (p : Tri). IsWide wide (λ lane. tri_forced value p (t lane))) (sym is_unknown)
    (wide_forced wide a b e value t (subst (λ (v : Tri). IsWide a (λ lane. v)) is_bit is_a) is_b is_e made)

-- ---- one place after another

-- the cells before a place have their new values in each lane, the others are as at the start
pub record Written (start now : List Wide) (new : (lane c : ℕ) → Tri → Tri) (place : ℕ) : Type 0 where
  pub whole : AreWides now
  pub done : (lane k : ℕ) → lane < 512 → k < place → values_in now lane k ≡ new lane k (values_in start lane k)
  pub rest : (k : ℕ) → place ≤ k → wide_at now k ≡ wide_at start k

pub nothing_written : (start : List Wide) (new : (lane c : ℕ) → Tri → Tri) → AreWides start → Written start start new 0
nothing_written start new whole = record { whole = whole; done = λ lane k within less. absurd (omega arith); rest = λ k from. refl }

pub write_more : (start now : List Wide) (new : (lane c : ℕ) → Tri → Tri) (place : ℕ) (w : Wide) → place < length now → Written start now new place → IsWide w (λ lane. new lane place (values_in now lane place)) →
    Written start (slice_set now place w) new (place + 1)
write_more start now new place w live written is = record {
  whole = whole_set now place w live written.whole (wide_is w (λ lane. new lane place (values_in now lane place)) is);
  done = λ lane k within less. elim (cases_eq k place) [
    | inl e ↦ (let P : ℕ → Type 0 = λ i. values_in (slice_set now place w) lane i ≡ new lane i (values_in start lane i) in
        subst P (sym e) (ap (λ (v : Wide). value_in v lane) (get_or-set_same now place w unknown_wide live) ∙ value_is w (λ l. new l place (values_in now l place)) is lane within
        ∙ ap (λ (v : Wide). new lane place (value_in v lane)) (written.rest place (omega arith))))
    | inr ne ↦ ap (λ (v : Wide). value_in v lane) (get_or-set_other now place k w unknown_wide ne) ∙ written.done lane k within (omega (arith, less, ne))
  ];
  rest = λ k from. get_or-set_other now place k w unknown_wide (omega arith) ∙ written.rest k (omega arith);
}

-- a cell that stays as it is
pub write_none : (start now : List Wide) (new : (lane c : ℕ) → Tri → Tri) (place : ℕ) → Written start now new place → ((lane : ℕ) (t : Tri) → new lane place t ≡ t) → Written start now new (place + 1)
write_none start now new place written stays = record {
  whole = written.whole;
  done = λ lane k within less. elim (cases_eq k place) [
    | inl e ↦ (let P : ℕ → Type 0 = λ i. values_in now lane i ≡ new lane i (values_in start lane i) in
        subst P (sym e) (ap (λ (v : Wide). value_in v lane) (written.rest place (omega arith)) ∙ sym (stays lane (values_in start lane place))))
    | inr ne ↦ written.done lane k within (omega (arith, less, ne))
  ];
  rest = λ k from. written.rest k (omega arith);
}

pub past_unknown : (wides : List Wide) (lane c : ℕ) → length wides ≤ c → lane < 512 → values_in wides lane c ≡ Unknown
past_unknown wides lane c far within = ap (λ (v : Wide). value_in v lane) (get_or_past wides c unknown_wide far) ∙ value_is unknown_wide (λ lane. Unknown) all_unknown lane within

-- all cells, where past the end what is new is what is old
pub all_written : (start now : List Wide) (new : (lane c : ℕ) → Tri → Tri) (count place : ℕ) → length start ≡ count → length now ≡ count → count ≤ place → Written start now new place →
    ((lane c : ℕ) → count ≤ c → new lane c Unknown ≡ Unknown) → (lane c : ℕ) → lane < 512 → values_in now lane c ≡ new lane c (values_in start lane c)
all_written start now new count place size size_now all written past lane c within = elim (leb_tells count c) [
  | inl far ↦ (let first : length start ≤ c = omega (arith, far.1, size) in
      let second : length now ≤ c = omega (arith, far.1, size_now) in
      past_unknown now lane c second within ∙ sym (past lane c far.1) ∙ ap (new lane c) (sym (past_unknown start lane c first within)))
  | inr near ↦ written.done lane c within (omega (arith, near.1, all))
]

-- ---- both loops

-- what each cell has once it was acted on
abbrev pub acted_by : List FlipFlop → (ports : List Tri) → (lane c : ℕ) → Tri → Tri
acted_by flops ports lane c t = tri_forced_by (flop_at flops c).forces (value_at ports) t

-- what each cell has once it took its value
abbrev pub taken_by : List FlipFlop → (rising : Bool) → (pulsed : List Bool) → (ports : List Tri) → (wides : List Wide) → (lane c : ℕ) → Tri → Tri
taken_by flops rising pulsed ports wides lane c t = if is_changed (flop_at flops c) rising pulsed then next_at (flop_at flops c) (value_at ports) (values_in wides lane) else t

pub acted_past : (flops : List FlipFlop) (ports : List Tri) (lane c : ℕ) → length flops ≤ c → acted_by flops ports lane c Unknown ≡ Unknown
acted_past flops ports lane c far = ap (λ (cell : Cell). tri_forced_by cell.forces (value_at ports) Unknown) (cell_past flops c far)

pub taken_past : (flops : List FlipFlop) (rising : Bool) (pulsed : List Bool) (ports : List Tri) (wides : List Wide) (lane c : ℕ) → length flops ≤ c → taken_by flops rising pulsed ports wides lane c Unknown ≡ Unknown
taken_past flops rising pulsed ports wides lane c far =
    ap (λ (cell : Cell). if is_changed cell rising pulsed then next_at cell (value_at ports) (values_in wides lane) else Unknown) (cell_past flops c far)
    ∙ either_same (is_changed (no_cell c) rising pulsed) Unknown

-- the cells at the places before one have their new values, those at none of them are as at the start
pub record TakenTo (flops : List FlipFlop) (places : List ℕ) (ports : List Tri) (wides start now : List Wide) (j : ℕ) : Type 0 where
  pub size : length now ≡ length start
  pub done : (c : ℕ) → Has places c → IsWide (wide_at now c) (λ lane. next_at (flop_at flops c) (value_at ports) (values_in wides lane)) ⊎ Has (drop j places) c
  pub rest : (c : ℕ) → (Has places c → ⊥) → wide_at now c ≡ wide_at start c

pub none_taken : (flops : List FlipFlop) (places : List ℕ) (ports : List Tri) (wides start : List Wide) → TakenTo flops places ports wides start start 0
none_taken flops places ports wides start = record { size = refl; done = λ c h. inr h; rest = λ c none. refl }

pub place_live : (count : ℕ) (places : List ℕ) (j d : ℕ) → ((c : ℕ) → Has places c → c < count) → j < length places → get_or places j d < count
place_live count places j d live less = live (get_or places j d) (has_item places j d less)

pub take_at : (flops : List FlipFlop) (places : List ℕ) (ports : List Tri) (wides start now : List Wide) (j : ℕ) (flop : FlipFlop) (w : Wide) → j < length places → length start ≡ length flops → ((c : ℕ) → Has places c → c < length flops) →
    flop ≡ get_or flops (get_or places j 0) flop → IsWide w (λ lane. next_at (cell_of flop) (value_at ports) (values_in wides lane)) →
    TakenTo flops places ports wides start now j → TakenTo flops places ports wides start (slice_set now (get_or places j 0) w) (j + 1)
take_at flops places ports wides start now j flop w less len live read is taken =
    let p : ℕ = get_or places j 0 in
    let long = taken.size in
    let here : p < length flops = place_live (length flops) places j 0 live less in
    let room : p < length now = omega (arith, len, here, long) in
    let cell : cell_of flop ≡ flop_at flops p = ap cell_of read ∙ cell_read flops p flop here in
    let new : List Wide = slice_set now p w in
    let N : Cell → Wide → Type 0 = λ k v. IsWide v (λ lane. next_at k (value_at ports) (values_in wides lane)) in
    let front : drop j places ≡ p ∷ drop (j + 1) places = rw (add-one) (drop-cons places j 0 less) in
    let next : N (flop_at flops p) (wide_at new p) = subst (λ (v : Wide). N (flop_at flops p) v) (sym (get_or-set_same now p w unknown_wide room)) (subst (λ (k : Cell). N k w) cell is) in
    record {
      size = length-set now p w ∙ taken.size;
      done = λ c h. elim (cases_eq c p) [
        | inl e ↦ inl (let P : ℕ → Type 0 = λ i. N (flop_at flops i) (wide_at new i) in subst P (sym e) next)
        | inr ne ↦ elim (taken.done c h) [
          | inl old ↦ inl (subst (λ (v : Wide). N (flop_at flops c) v) (sym (get_or-set_other now p c w unknown_wide ne)) old)
          | inr later ↦ (let P : List ℕ → Type 0 = λ l. Has l c in elim (subst P front later) [ inl e ↦ absurd (ne e) | inr after ↦ inr after ])
        ]
      ];
      rest = λ c none. get_or-set_other now p c w unknown_wide (λ e. none (subst (λ (i : ℕ). Has places i) (sym e) (has_item places j 0 less))) ∙ taken.rest c none;
    }

listed_wide : (flops : List FlipFlop) (places : List ℕ) (ports : List Tri) (wides start now : List Wide) (j c : ℕ) → length places ≤ j → TakenTo flops places ports wides start now j → Has places c → IsWide (wide_at now c) (λ lane. next_at (flop_at flops c) (value_at ports) (values_in wides lane))
listed_wide flops places ports wides start now j c past taken h = elim (taken.done c h) [
  | inl is ↦ is
  | inr later ↦ (let P : List ℕ → Type 0 = λ l. Has l c in absurd (subst P (drop_all j places past) later))
]

pub all_taken : (flops : List FlipFlop) (places : List ℕ) (ports : List Tri) (wides start now : List Wide) (j : ℕ) → length places ≤ j → TakenTo flops places ports wides start now j →
    (lane c : ℕ) → lane < 512 → Has places c → values_in now lane c ≡ next_at (flop_at flops c) (value_at ports) (values_in wides lane)
all_taken flops places ports wides start now j past taken lane c within h =
    value_is (wide_at now c) (λ p. next_at (flop_at flops c) (value_at ports) (values_in wides p)) (listed_wide flops places ports wides start now j c past taken h) lane within

pub has_or_not : (xs : List ℕ) (k : ℕ) → Has xs k ⊎ (Has xs k → ⊥)
has_or_not [] k = inr (λ h. h)
has_or_not (x ∷ xs) k = elim (cases_eq k x) [
  | inl e ↦ inl (inl e)
  | inr ne ↦ elim (has_or_not xs k) [ inl h ↦ inl (inr h) | inr none ↦ inr (λ h. elim h [ inl e ↦ ne e | inr rest ↦ none rest ]) ]
]

-- each cell can be something in each lane, where each that is at no place could
pub all_wide : (flops : List FlipFlop) (places : List ℕ) (ports : List Tri) (wides start now : List Wide) (j : ℕ) → length places ≤ j → TakenTo flops places ports wides start now j →
    ((c : ℕ) → (Has places c → ⊥) → IsWide (wide_at start c) (value_in (wide_at start c))) → AreWides now
all_wide flops places ports wides start now j past taken whole c = elim (has_or_not places c) [
  | inl h ↦ wide_is (wide_at now c) (λ lane. next_at (flop_at flops c) (value_at ports) (values_in wides lane)) (listed_wide flops places ports wides start now j c past taken h)
  | inr none ↦ (let W : Wide → Type 0 = λ w. IsWide w (value_in w) in subst W (sym (taken.rest c none)) (whole c none))
]

-- the cells of all these places took their values, where these are those that change
pub places_taken : (flops : List FlipFlop) (rising : Bool) (pulsed : List Bool) (left : ℕ → Bool) (places : List ℕ) (ports : List Tri) (wides old new : List Wide) → length old ≡ length flops → length new ≡ length flops → ArePlaces flops rising pulsed left places → ((c : ℕ) → is_changed (flop_at flops c) rising pulsed ≡ true → left c ≡ false) →
    ((lane c : ℕ) → lane < 512 → Has places c → values_in new lane c ≡ next_at (flop_at flops c) (value_at ports) (values_in wides lane)) → ((c : ℕ) → (Has places c → ⊥) → wide_at new c ≡ wide_at old c) →
    AreTaken flops rising pulsed ports wides old new
places_taken flops rising pulsed left places ports wides old new size size_new are stays taken kept lane c within = elim (has_or_not places c) [
  | inl h ↦ taken lane c within h ∙ ap (λ b. if b then next_at (flop_at flops c) (value_at ports) (values_in wides lane) else values_in old lane c) (sym (are.1 c h).1.0)
  | inr none ↦ elim (leb_tells (length flops) c) [
    | inl far ↦ (let first : length old ≤ c = omega (arith, far.1, size) in
        let second : length new ≤ c = omega (arith, far.1, size_new) in
        past_unknown new lane c second within ∙ sym (taken_past flops rising pulsed ports wides lane c far.1)
        ∙ ap (taken_by flops rising pulsed ports wides lane c) (sym (past_unknown old lane c first within)))
    | inr near ↦ ap (λ (v : Wide). value_in v lane) (kept c none)
        ∙ ap (λ b. if b then next_at (flop_at flops c) (value_at ports) (values_in wides lane) else values_in old lane c) (sym (not_changed flops rising pulsed left places c are stays near.1 none))
  ]
] where
  not_changed : (flops : List FlipFlop) (rising : Bool) (pulsed : List Bool) (left : ℕ → Bool) (places : List ℕ) (c : ℕ) → ArePlaces flops rising pulsed left places → ((k : ℕ) → is_changed (flop_at flops k) rising pulsed ≡ true → left k ≡ false) → c < length flops → (Has places c → ⊥) → is_changed (flop_at flops c) rising pulsed ≡ false
  not_changed flops rising pulsed left places c are stays near none = elim (cases_Bool (is_changed (flop_at flops c) rising pulsed)) [
    | inl up ↦ absurd (none (are.0 c near up (stays c up)))
    | inr down ↦ down
  ]

-- a cell that is acted on
pub act_one : (flops : List FlipFlop) (ports : List Tri) (start now : List Wide) (place : ℕ) (flop : FlipFlop) (w : Wide) → place < length flops → length now ≡ length flops → flop ≡ get_or flops place flop →
    ((values : ℕ → Tri) → IsWide (wide_at now place) values → IsWide w (λ lane. tri_forced_by (cell_of flop).forces (value_at ports) (values lane))) →
    Written start now (acted_by flops ports) place → Written start (slice_set now place w) (acted_by flops ports) (place + 1)
act_one flops ports start now place flop w less len read is written =
    let cell : cell_of flop ≡ flop_at flops place = ap cell_of read ∙ cell_read flops place flop less in
    let P : Cell → Type 0 = λ k. IsWide w (λ lane. tri_forced_by k.forces (value_at ports) (values_in now lane place)) in
    write_more start now (acted_by flops ports) place w (omega (arith, len, less)) written (subst P cell (is (λ lane. values_in now lane place) (written.whole place)))

pub act_none : (flops : List FlipFlop) (ports : List Tri) (start now : List Wide) (place : ℕ) (flop : FlipFlop) → place < length flops → flop ≡ get_or flops place flop →
    ((t : Tri) → tri_forced_by (cell_of flop).forces (value_at ports) t ≡ t) → Written start now (acted_by flops ports) place → Written start now (acted_by flops ports) (place + 1)
act_none flops ports start now place flop less read stays written =
    let cell : cell_of flop ≡ flop_at flops place = ap cell_of read ∙ cell_read flops place flop less in
    write_none start now (acted_by flops ports) place written (λ lane t. ap (λ (k : Cell). tri_forced_by k.forces (value_at ports) t) (sym cell) ∙ stays t)

-- where no reset or set acts every cell stays as it is
pub none_acted : (flops : List FlipFlop) (ports : List Tri) (cells : List Wide) → length cells ≡ length flops → NoneActs flops ports → AreActedOn flops ports cells cells
none_acted flops ports cells size none lane c within = elim (leb_tells (length flops) c) [
  | inl far ↦ (let out : length cells ≤ c = omega (arith, far.1, size) in
      past_unknown cells lane c out within ∙ sym (acted_past flops ports lane c far.1) ∙ ap (acted_by flops ports lane c) (sym (past_unknown cells lane c out within)))
  | inr near ↦ sym (none c near.1 (values_in cells lane c))
]
