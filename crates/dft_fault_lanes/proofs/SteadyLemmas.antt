-- What a cell reads is still in a lane, by its scan enable there.
use Rattle.std.proofs.Common.{ℕ, Bool, true, false, ◌≡◌, ◌<◌, ◌≤◌, ◌+◌, ◌⊎◌, inl, inr, List, [], ◌∷◌, length, refl, sym, ap, subst, arith, ◌∙◌, get_or, Option, None, Some}
use Rattle.std.specs.Prelude.{◌&&◌}
use Rattle.std.proofs.lemmas.Bool.{cases_eq}
use Rattle.std.proofs.lemmas.Bool.Decides.{leb_tells}
use Rattle.dft_base.specs.declared.tri.Tri.{Tri}
use Rattle.dft_base.specs.declared.tri.Tri.TheVariants.{Zero, One, Unknown}
use Rattle.dft_base.proofs.SumLemmas.{and_false}
use Rattle.dft_cells.specs.Tables.{and_tri, not_tri}
use Rattle.dft_lanes.specs.declared.wide.Wide.{Wide}
use Rattle.dft_lanes.specs.Choices.{can, some_choice_of_two}
use Rattle.dft_cells.specs.FlipFlops.{Forces}
use Rattle.dft_netlist.specs.Drivers.{Source, nets_of}
use Rattle.dft_behavior.specs.Logic.{Cell}
use Rattle.dft_behavior.specs.Settled.{value_from}
use Rattle.dft_takings.specs.Needs.{HasAll, chosen_reads, reads_at, reads_where, forced_reads, next_reads}
use Rattle.dft_takings.specs.Shows.{still_needs}
use Rattle.dft_takings.specs.ShownTables.{shown_at}
use Rattle.dft_logic.specs.declared.circuit.FlipFlop.{FlipFlop}
use Rattle.dft_logic.specs.declared.circuit.ScanPins.{ScanPins}
use Rattle.dft_takings.specs.declared.shown.Shown.{Shown}
use Rattle.dft_logic.specs.Circuit.{cell_of, flag_at, force_at, source_at}
use Rattle.dft_logic.proofs.Writings.{cell_read, cell_past}
use Rattle.dft_takings.proofs.RiseLemmas.{more_all}
use Rattle.dft_evaluator.specs.Wides.{value_in, values_in, IsWide}
use Rattle.dft_evaluator.proofs.WideLemmas.{value_is, wide_is, wide_ands}
use Rattle.dft_fault_laws.specs.Rounds.{every}
use Rattle.dft_fault_lanes.specs.Lanes.{flop_at, is_changed, IsLive, KeepsSteady}

-- ---- lanes

and_ones : (s t : Tri) → and_tri s t ≡ One → (s ≡ One) × (t ≡ One)
and_ones One t is = (refl, is)
and_ones Zero t is = absurd (let f : ⊥ = cc in f)
and_ones Unknown Zero is = absurd (let f : ⊥ = cc in f)
and_ones Unknown One is = absurd (let f : ⊥ = cc in f)
and_ones Unknown Unknown is = absurd (let f : ⊥ = cc in f)

pub and_live : (both live wide : Wide) → IsWide live (value_in live) → IsWide wide (value_in wide) →
    ((lane : ℕ) (v : Bool) → can both lane v ≡ some_choice_of_two (λ x y. x && y) (can live lane) (can wide lane) v) →
    (lane : ℕ) → lane < 512 → IsLive both lane → IsLive live lane × (value_in wide lane ≡ One)
and_live both live wide is_live is_wide made lane within is =
    and_ones (value_in live lane) (value_in wide lane) (sym (value_is both (λ p. and_tri (value_in live p) (value_in wide p)) (wide_ands both live wide (value_in live) (value_in wide) is_live is_wide made) lane within) ∙ is)

pub and_wide : (both live wide : Wide) → IsWide live (value_in live) → IsWide wide (value_in wide) →
    ((lane : ℕ) (v : Bool) → can both lane v ≡ some_choice_of_two (λ x y. x && y) (can live lane) (can wide lane) v) → IsWide both (value_in both)
and_wide both live wide is_live is_wide made = wide_is both (λ p. and_tri (value_in live p) (value_in wide p)) (wide_ands both live wide (value_in live) (value_in wide) is_live is_wide made)

pub none_live : (wide : Wide) → IsWide wide (λ lane. Zero) → (lane : ℕ) → lane < 512 → IsLive wide lane → ⊥
none_live wide is lane within live = let e : Zero ≡ One = sym (value_is wide (λ p. Zero) is lane within) ∙ live in let f : ⊥ = cc in f

pub not_one : (t : Tri) → not_tri t ≡ One → t ≡ Zero
not_one Zero is = refl
not_one One is = absurd (let f : ⊥ = cc in f)
not_one Unknown is = absurd (let f : ⊥ = cc in f)

-- ---- what is read

chosen_has : (needs : ℕ → Bool) (enable : Tri) (scan_in data_in : Source) → HasAll needs (nets_of (data_in ∷ [])) ⊎ (enable ≡ One) → HasAll needs (nets_of (scan_in ∷ [])) ⊎ (enable ≡ Zero) →
    HasAll needs (nets_of (chosen_reads enable scan_in data_in))
chosen_has needs Zero scan_in data_in (inl has) scan = has
chosen_has needs Zero scan_in data_in (inr is) scan = absurd (let f : ⊥ = cc in f)
chosen_has needs One scan_in data_in taken (inl has) = has
chosen_has needs One scan_in data_in taken (inr is) = absurd (let f : ⊥ = cc in f)
chosen_has needs Unknown scan_in data_in (inl has) (inl more) = more_all needs scan_in (data_in ∷ []) more has
chosen_has needs Unknown scan_in data_in (inl has) (inr is) = absurd (let f : ⊥ = cc in f)
chosen_has needs Unknown scan_in data_in (inr is) scan = absurd (let f : ⊥ = cc in f)

port_has : (needs : ℕ → Bool) (port : Tri) (sources : List Source) → HasAll needs (nets_of sources) → HasAll needs (nets_of (reads_at port sources))
port_has needs Zero sources has = tt
port_has needs One sources has = has
port_has needs Unknown sources has = has

where_has : (needs : ℕ → Bool) (pin : Option ℕ) (ports : ℕ → Tri) (sources : List Source) → HasAll needs (nets_of sources) → HasAll needs (nets_of (reads_where pin ports sources))
where_has needs None ports sources has = has
where_has needs (Some port) ports sources has = port_has needs (ports port) sources has

pub force_has : (needs : ℕ → Bool) (forces : Forces ℕ) (ports : ℕ → Tri) (sources : List Source) → HasAll needs (nets_of sources) → HasAll needs (nets_of (forced_reads forces ports sources))
force_has needs forces ports sources has = where_has needs forces.clear ports (reads_where forces.preset ports sources) (where_has needs forces.preset ports sources has)

-- a cell without scan pins
pub plain_has : (needs : ℕ → Bool) (flop : FlipFlop) (ports : ℕ → Tri) (at : Source → Tri) → flop.scan ≡ None → HasAll needs (nets_of (source_at flop.input ∷ [])) → HasAll needs (nets_of (next_reads (cell_of flop) ports at))
plain_has needs flop ports at none has =
    let P : Option ScanPins → Type 0 = λ o. HasAll needs (nets_of (next_reads (cell_of (record flop { scan = o })) ports at)) in
    subst P (sym none) (force_has needs (force_at flop.force) ports (source_at flop.input ∷ []) has)

-- one with them
pub scan_has : (needs : ℕ → Bool) (flop : FlipFlop) (scan : ScanPins) (ports : ℕ → Tri) (at : Source → Tri) → flop.scan ≡ Some scan → HasAll needs (nets_of (source_at scan.enable ∷ [])) →
    HasAll needs (nets_of (source_at flop.input ∷ [])) ⊎ (at (source_at scan.enable) ≡ One) → HasAll needs (nets_of (source_at scan.input ∷ [])) ⊎ (at (source_at scan.enable) ≡ Zero) →
    HasAll needs (nets_of (next_reads (cell_of flop) ports at))
scan_has needs flop scan ports at some enable first second =
    let P : Option ScanPins → Type 0 = λ o. HasAll needs (nets_of (next_reads (cell_of (record flop { scan = o })) ports at)) in
    let taken : List Source = chosen_reads (at (source_at scan.enable)) (source_at scan.input) (source_at flop.input) in
    subst P (sym some) (force_has needs (force_at flop.force) ports (source_at scan.enable ∷ taken)
    (more_all needs (source_at scan.enable) taken enable (chosen_has needs (at (source_at scan.enable)) (source_at scan.input) (source_at flop.input) first second)))

-- ---- one cell after another

-- the cells before a place read what is still in each live lane
pub record Steady (flops : List FlipFlop) (rising : Bool) (pulsed : List Bool) (shown : List Shown) (wides : List Wide) (start now : Wide) (place : ℕ) : Type 0 where
  pub wide : IsWide now (value_in now)
  pub live : (lane : ℕ) → lane < 512 → IsLive now lane → IsLive start lane
  pub each : (lane c : ℕ) → lane < 512 → IsLive now lane → c < place → is_changed (flop_at flops c) rising pulsed ≡ true → (ports : ℕ → Tri) →
      HasAll (still_needs every (shown_at shown) (flop_at flops c).domain) (nets_of (next_reads (flop_at flops c) ports (value_from (values_in wides lane))))

pub steady_starts : (flops : List FlipFlop) (rising : Bool) (pulsed : List Bool) (shown : List Shown) (wides : List Wide) (start : Wide) → IsWide start (value_in start) → Steady flops rising pulsed shown wides start start 0
steady_starts flops rising pulsed shown wides start is = record { wide = is; live = λ lane within h. h; each = λ lane c within h less. absurd (omega arith) }

pub steady_more : (flops : List FlipFlop) (rising : Bool) (pulsed : List Bool) (shown : List Shown) (wides : List Wide) (start now new : Wide) (place : ℕ) (flop : FlipFlop) → place < length flops → flop ≡ get_or flops place flop →
    Steady flops rising pulsed shown wides start now place → IsWide new (value_in new) → ((lane : ℕ) → lane < 512 → IsLive new lane → IsLive now lane) →
    ((lane : ℕ) (ports : ℕ → Tri) → lane < 512 → IsLive new lane → HasAll (still_needs every (shown_at shown) flop.domain.0) (nets_of (next_reads (cell_of flop) ports (value_from (values_in wides lane))))) →
    Steady flops rising pulsed shown wides start new (place + 1)
steady_more flops rising pulsed shown wides start now new place flop less read steady is fewer reads =
    let cell : cell_of flop ≡ flop_at flops place = ap cell_of read ∙ cell_read flops place flop less in
    record {
      wide = is;
      live = λ lane within h. steady.live lane within (fewer lane within h);
      each = λ lane c within h before up ports. elim (cases_eq c place) [
        | inl e ↦ (let P : ℕ → Type 0 = λ i. HasAll (still_needs every (shown_at shown) (flop_at flops i).domain) (nets_of (next_reads (flop_at flops i) ports (value_from (values_in wides lane)))) in
            let Q : Cell → Type 0 = λ k. HasAll (still_needs every (shown_at shown) k.domain) (nets_of (next_reads k ports (value_from (values_in wides lane)))) in
            subst P (sym e) (subst Q cell (reads lane ports within h)))
        | inr ne ↦ steady.each lane c within (fewer lane within h) (omega (arith, before, ne)) up ports
      ];
    }

pub steady_rests : (flops : List FlipFlop) (rising : Bool) (pulsed : List Bool) (shown : List Shown) (wides : List Wide) (start now : Wide) (place : ℕ) (flop : FlipFlop) (up : Bool) → place < length flops → flop ≡ get_or flops place flop →
    up ≡ is_changed (cell_of flop) rising pulsed → up ≡ false → Steady flops rising pulsed shown wides start now place → Steady flops rising pulsed shown wides start now (place + 1)
steady_rests flops rising pulsed shown wides start now place flop up less read tells is_up steady =
    let cell : cell_of flop ≡ flop_at flops place = ap cell_of read ∙ cell_read flops place flop less in
    let rests : is_changed (flop_at flops place) rising pulsed ≡ false = ap (λ (k : Cell). is_changed k rising pulsed) (sym cell) ∙ sym tells ∙ is_up in
    record {
      wide = steady.wide;
      live = steady.live;
      each = λ lane c within h before changes ports. elim (cases_eq c place) [
        | inl e ↦ absurd (let q : true ≡ false = sym changes ∙ ap (λ (i : ℕ). is_changed (flop_at flops i) rising pulsed) e ∙ rests in let f : ⊥ = cc in f)
        | inr ne ↦ steady.each lane c within h (omega (arith, before, ne)) changes ports
      ];
    }

-- past the end nothing is read
past_reads : (flops : List FlipFlop) (shown : List Shown) (wides : List Wide) (lane c : ℕ) (ports : ℕ → Tri) → length flops ≤ c →
    HasAll (still_needs every (shown_at shown) (flop_at flops c).domain) (nets_of (next_reads (flop_at flops c) ports (value_from (values_in wides lane))))
past_reads flops shown wides lane c ports far =
    let Q : Cell → Type 0 = λ k. HasAll (still_needs every (shown_at shown) k.domain) (nets_of (next_reads k ports (value_from (values_in wides lane)))) in
    subst Q (sym (cell_past flops c far)) tt

pub all_steady : (flops : List FlipFlop) (rising : Bool) (pulsed : List Bool) (shown : List Shown) (wides : List Wide) (start now : Wide) (place : ℕ) → length flops ≤ place → Steady flops rising pulsed shown wides start now place →
    KeepsSteady flops rising pulsed every shown wides start now
all_steady flops rising pulsed shown wides start now place all steady lane within h = (
  steady.live lane within h,
  λ c changes ports. elim (leb_tells (length flops) c) [
    | inl far ↦ past_reads flops shown wides lane c ports far.1
    | inr near ↦ steady.each lane c within h (omega (arith, near.1, all)) changes ports
  ],
)

-- ---- falls

pub none_more : (flops : List FlipFlop) (pulsed : List Bool) (place : ℕ) (flop : FlipFlop) (up : Bool) → place < length flops → flop ≡ get_or flops place flop → up ≡ is_changed (cell_of flop) false pulsed → up ≡ false →
    ((c : ℕ) → c < place → is_changed (flop_at flops c) false pulsed ≡ false) → (c : ℕ) → c < place + 1 → is_changed (flop_at flops c) false pulsed ≡ false
none_more flops pulsed place flop up less read tells is_up before c within =
    let cell : cell_of flop ≡ flop_at flops place = ap cell_of read ∙ cell_read flops place flop less in
    elim (cases_eq c place) [
      | inl e ↦ ap (λ (i : ℕ). is_changed (flop_at flops i) false pulsed) e ∙ ap (λ (k : Cell). is_changed k false pulsed) (sym cell) ∙ sym tells ∙ is_up
      | inr ne ↦ before c (omega (arith, within, ne))
    ]

pub none_at_all : (flops : List FlipFlop) (pulsed : List Bool) (place : ℕ) → length flops ≤ place → ((c : ℕ) → c < place → is_changed (flop_at flops c) false pulsed ≡ false) → (c : ℕ) → is_changed (flop_at flops c) false pulsed ≡ false
none_at_all flops pulsed place all before c = elim (leb_tells (length flops) c) [
  | inl far ↦ ap (λ (k : Cell). is_changed k false pulsed) (cell_past flops c far.1) ∙ and_false (flag_at pulsed 0)
  | inr near ↦ before c (omega (arith, near.1, all))
]
