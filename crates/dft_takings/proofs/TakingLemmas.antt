-- Lists of what flip-flops take.
use Rattle.std.proofs.Common.{ℕ, zero, suc, Bool, true, false, ◌&&◌, Option, None, Some, is_none, map, List, [], ◌∷◌, ◌++◌, ◌≡◌, ◌<◌, ◌≤◌, ◌+◌, ◌≢◌, ◌⊎◌, inl, inr, refl, sym, ap, ◌∙◌, subst, length, get_or, slice_set, get_or-set_same, get_or-set_other, below_more, arith}
use Rattle.std.proofs.lemmas.List.{get_or_past, get_or_default, get_or_append_left, get_or_push, length-append}
use Rattle.std.proofs.lemmas.Bool.Decides.{eqb_tells, leb_tells}
use Rattle.dft_base.specs.declared.tri.Tri.{Tri}
use Rattle.dft_base.specs.declared.tri.Tri.TheVariants.{Zero, One, Unknown}
use Rattle.dft_cells.specs.FlipFlops.{Scan, tri_scanned, tri_forced_where}
use Rattle.dft_netlist.specs.Drivers.{Source, Net, Tied, Loose}
use Rattle.dft_behavior.specs.Logic.{Cell}
use Rattle.dft_behavior.specs.Settled.{value_from}
use Rattle.dft_takings.specs.Entries as entries
use Rattle.dft_takings.specs.declared.entries.Entry.{Entry}
use Rattle.dft_takings.specs.declared.entries.Entry.TheVariants.{Keeps}
use Rattle.dft_logic.specs.declared.circuit.FlipFlop.{FlipFlop}
use Rattle.dft_takings.specs.declared.takings.Taking.{Taking}
use Rattle.dft_registers.specs.declared.layout.Place.{Place}
use Rattle.dft_registers.specs.Layout.{Layout, place_at, cells_at}
use Rattle.dft_registers.specs.Layout as layout
use Rattle.dft_registers.specs.declared.moves.Move.{Move}
use Rattle.dft_registers.specs.declared.moves.Move.TheVariants.{Stays, Shifts, Copies, Trails}
use Rattle.dft_registers.specs.Cells.{Contents, value_at, move_at, Course, course_in, course, IfTakes, CanMove, IsCarried, IsShifted}
use Rattle.dft_logic.specs.Circuit.{cell_of, cell_at, next_at}
use Rattle.dft_takings.specs.EntryTables.{entry_of, entry_at}
use Rattle.dft_takings.specs.Takings.{taking_at, is_loose_input, is_loose, is_idle, is_left, IsAmong, IsLeft, IsTold, TakesAlong, TakesFromUnled, IsMove, AreMoves, ArePut}
use Rattle.dft_logic.proofs.Writings.{cell_read}

-- ---- what is idle

-- a loose flip-flop takes Unknown
pub next_loose : (cell : Cell) (ports values : ℕ → Tri) → is_loose cell ≡ true → next_at cell ports values ≡ Unknown
next_loose cell ports values is = go cell.takes.input cell.takes.scan cell.forces.clear cell.forces.preset is where
  go : (input : Source) (scan : Option (Scan Source)) (clear preset : Option ℕ) → (is_loose_input input && (is_none scan && (is_none clear && is_none preset))) ≡ true →
      tri_forced_where false clear ports (tri_forced_where true preset ports (tri_scanned scan (value_from values) (value_from values input))) ≡ Unknown
  go (Net net) scan clear preset is = absurd cc
  go (Tied bit) scan clear preset is = absurd cc
  go (Loose i pin) None None None is = refl
  go (Loose i pin) None None (Some port) is = absurd cc
  go (Loose i pin) None (Some port) preset is = absurd cc
  go (Loose i pin) (Some scan) clear preset is = absurd cc

-- an idle flip-flop's entry tells the value that it has
pub idle_value : (cell : Cell) (old values : ℕ → Tri) (next : Tri) (c : ℕ) (entry : entries.Entry) → is_idle cell entry ≡ true → (is_loose cell ≡ true → old c ≡ Unknown) →
    old c ≡ entries.entry_value old values next c entry
idle_value cell old values next c entries.Keeps idle loose = refl
idle_value cell old values next c (entries.Takes Zero) idle loose = absurd cc
idle_value cell old values next c (entries.Takes One) idle loose = absurd cc
idle_value cell old values next c (entries.Takes Unknown) idle loose = loose idle
idle_value cell old values next c (entries.Follows other) idle loose = absurd cc
idle_value cell old values next c (entries.Reads net) idle loose = absurd cc
idle_value cell old values next c entries.Computes idle loose = absurd cc

-- ---- what is not left out is listed

pub record Taken (cells : ℕ → Cell) (table : List Entry) (moved : ℕ → Course) (takings : List Taking) (place : ℕ) : Type 0 where
  pub few : length takings < place + 1
  pub live : (j : ℕ) → j < length takings → (taking_at takings j).place < place
  pub each : (j : ℕ) → j < length takings → entry_at table (taking_at takings j).place ≡ entry_of (taking_at takings j).entry
  pub all : (c : ℕ) → c < place → IsAmong takings (length takings) c ⊎ IsLeft (cells c) (entry_at table c) (moved c)

pub taken_none : (cells : ℕ → Cell) (table : List Entry) (moved : ℕ → Course) → Taken cells table moved [] 0
taken_none cells table moved = record { few = omega arith; live = λ j h. absurd (omega arith); each = λ j h. absurd (omega arith); all = λ c h. absurd (omega arith) }

pub taken_left : (cells : ℕ → Cell) (table : List Entry) (moved : ℕ → Course) (takings : List Taking) (place : ℕ) → IsLeft (cells place) (entry_at table place) (moved place) → Taken cells table moved takings place → Taken cells table moved takings (place + 1)
taken_left cells table moved takings place left t =
    let few : length takings < place + 1 = t.few in
    record {
      few = omega arith;
      live = λ j h. (let was : (taking_at takings j).place < place = t.live j h in omega arith);
      each = t.each;
      all = below_more _ place t.all (inr left);
    }

pub taken_more : (cells : ℕ → Cell) (table : List Entry) (moved : ℕ → Course) (takings : List Taking) (place : ℕ) (d : Entry) → place < length table → Taken cells table moved takings place →
    Taken cells table moved (takings ++ (record { place = place; entry = get_or table place d }) ∷ []) (place + 1)
taken_more cells table moved takings place d less t =
    let new : Taking = record { place = place; entry = get_or table place d } in
    let none : Taking = record { place = 0; entry = Keeps } in
    let all : List Taking = takings ++ new ∷ [] in
    let few : length takings < place + 1 = t.few in
    let size : length all ≡ length takings + 1 = length-append takings (new ∷ []) in
    let here : taking_at all (length takings) ≡ new = get_or_push takings new none (length takings) refl in
    let there : (j : ℕ) → j < length takings → taking_at all j ≡ taking_at takings j = λ j h. get_or_append_left takings (new ∷ []) none j h in
    let L : Taking → Type 0 = λ x. x.place < place + 1 in
    let E : Taking → Type 0 = λ x. entry_at table x.place ≡ entry_of x.entry in
    let lives : (j : ℕ) → j < length takings + 1 → (taking_at all j).place < place + 1 =
    below_more _ (length takings) (λ j h. subst L (sym (there j h)) (let was : (taking_at takings j).place < place = t.live j h in omega arith)) (subst L (sym here) (omega arith)) in
    let eachs : (j : ℕ) → j < length takings + 1 → entry_at table (taking_at all j).place ≡ entry_of (taking_at all j).entry =
    below_more _ (length takings) (λ j h. subst E (sym (there j h)) (t.each j h)) (subst E (sym here) (ap entry_of (sym (get_or_default table place d Keeps less)))) in
    record {
      few = omega arith;
      live = λ j h. lives j (omega (arith, size, h));
      each = λ j h. eachs j (omega (arith, size, h));
      all = below_more _ place
          (λ c h. elim (t.all c h) [
            | inl a ↦ inl (record { at = a.at; before = (let was : a.at < length takings = a.before in omega (arith, size)); here = ap (λ (x : Taking). x.place) (there a.at a.before) ∙ a.here })
            | inr left ↦ inr left
          ])
          (inl (record { at = length takings; before = omega (arith, size); here = ap (λ (x : Taking). x.place) here }));
    }

-- what is told of the place of a cell: it is the beginning of the first register where the cell rests, and else the cell is named there
pub record IsLaidAt (l : Layout) (p : Place) (c : ℕ) : Type 0 where
  pub rest : p.register ≡ 0 → p.index ≡ 0
  pub within : 0 < p.register → p.index < length (cells_at l.registers p.register)
  pub here : 0 < p.register → layout.cell_at l.registers p.register p.index ≡ c

-- a flip-flop with this entry is left out: it takes the value that its register's move carries to it, or it is idle where it rests
pub left_out : (flops : List FlipFlop) (table : List Entry) (l : Layout) (moves : List Move) (c : ℕ) (f : FlipFlop) (d : Entry) (idle : Bool) → c < length flops → c < length table → AreMoves (entry_at table) l moves →
    IsLaidAt l (place_at l.places c) c → idle ≡ is_idle (cell_of (get_or flops c f)) (entry_of (get_or table c d)) →
    is_left (move_at moves (place_at l.places c).register) (place_at l.places c).index idle ≡ true → IsLeft (cell_at (map cell_of flops) c) (entry_at table c) (course l moves c)
left_out flops table l moves c f d idle live less are laid is left = go (move_at moves (place_at l.places c).register) (place_at l.places c).register (place_at l.places c).index refl laid left where
  -- it is the cell at its place
  here : (r i : ℕ) → IsLaidAt l (record { register = r; index = suc i }) c → (suc i < length (cells_at l.registers r)) × (c ≡ layout.cell_at l.registers r (suc i))
  here r i laid = elim (eqb_tells r 0) [
    | inl e ↦ absurd (let none : suc i ≡ 0 = laid.rest e.1 in omega (arith, none))
    | inr e ↦ (let ne : r ≢ 0 = e.1 in
        let above : 0 < r = omega (arith, ne) in (laid.within above, sym (laid.here above)))
  ]

  told : (m : Move) (r i : ℕ) → move_at moves r ≡ m → IsLaidAt l (record { register = r; index = suc i }) c → IsTold (entry_at table c) (course_in l.registers r m (suc i))
  told m r i up laid =
      let at = here r i laid in
      subst (λ (k : ℕ). IsTold (entry_at table k) (course_in l.registers r m (suc i))) (sym at.1) (subst (λ (x : Move). TakesAlong (entry_at table) l.registers r x) up (are r) i at.0)

  go : (m : Move) (r i : ℕ) → move_at moves r ≡ m → IsLaidAt l (record { register = r; index = i }) c → is_left m i idle ≡ true → IsLeft (cell_at (map cell_of flops) c) (entry_at table c) (course_in l.registers r m i)
  go Stays r i up laid left =
      let C : Cell → Type 0 = λ cell. is_idle cell (entry_of (get_or table c d)) ≡ true in
      let E : Entry → Type 0 = λ entry. is_idle (cell_at (map cell_of flops) c) (entry_of entry) ≡ true in
      subst E (get_or_default table c d Keeps less) (subst C (cell_read flops c f live) (sym is ∙ left))
  go Shifts r zero up laid left = absurd cc
  go Shifts r (suc i) up laid left = told Shifts r i up laid
  go (Copies other) r zero up laid left = absurd cc
  go (Copies other) r (suc i) up laid left = told (Copies other) r i up laid
  go (Trails other) r zero up laid left = absurd cc
  go (Trails other) r (suc i) up laid left = told (Trails other) r i up laid

-- ---- what is taken is put

pub put_none : (takings : List Taking) (row : ℕ → Tri) (l : Layout) (moves : List Move) (old new : Contents Tri) → old.layout ≡ l → IsShifted Unknown moves old new → ArePut takings 0 row (course l moves) old.values new.values
put_none takings row l moves old new same is =
    record {
      each = λ c live. inr (λ a. (let less = a.before in absurd (omega arith)), subst (λ (k : Layout). IsCarried (value_at old.values) c (value_at new.values c) (course k moves c)) same (is.each c live));
    }

pub put_more : (takings : List Taking) (row : ℕ → Tri) (moved : ℕ → Course) (old now : List Tri) (at : ℕ) (d : Taking) (t : Tri) → at < length takings → (get_or takings at d).place < length now → t ≡ row at →
    ArePut takings at row moved old now → ArePut takings (at + 1) row moved old (slice_set now (get_or takings at d).place t)
put_more takings row moved old now at d t less there is put =
    let place : ℕ = (get_or takings at d).place in
    let read : get_or takings at d ≡ taking_at takings at = get_or_default takings at d (record { place = 0; entry = Keeps }) less in
    let mine : (taking_at takings at).place ≡ place = ap (λ (x : Taking). x.place) (sym read) in
    record {
      each = λ c live. elim (eqb_tells c place) [
        | inl q ↦ inl (at, (omega arith, (mine ∙ sym q.1, ap (λ (k : ℕ). value_at (slice_set now place t) k) q.1 ∙ get_or-set_same now place t Unknown there ∙ is)))
        | inr q ↦ (let ne : c ≢ place = q.1 in
            let same : value_at (slice_set now place t) c ≡ value_at now c = get_or-set_other now place c t Unknown ne in
            elim (put.each c live) [
              | inl was ↦ inl (was.0, ((let h = was.1.0 in omega arith), (was.1.1.0, same ∙ was.1.1.1)))
              | inr none ↦ inr (
                λ a. elim (eqb_tells a.at at) [
                  | inl e ↦ ne (sym a.here ∙ ap (λ (k : ℕ). (taking_at takings k).place) e.1 ∙ mine)
                  | inr e ↦ (let far : a.at ≢ at = e.1 in none.0 (record { at = a.at; before = (let h = a.before in omega arith); here = a.here }))
                ],
                subst (λ (b : Tri). IsCarried (value_at old) c b (moved c)) (sym same) none.1,
              )
            ])
      ];
    }

-- ---- what is taken is found

pub found_more : (takings : List Taking) (value : Taking → Tri) (row : List Tri) (at : ℕ) (d : Taking) (t : Tri) → at < length takings → at < length row → t ≡ value (get_or takings at d) →
    ((j : ℕ) → j < at → value_at row j ≡ value (taking_at takings j)) → (j : ℕ) → j < at + 1 → value_at (slice_set row at t) j ≡ value (taking_at takings j)
found_more takings value row at d t less there is before =
    below_more _ at (λ j h. (let ne : j ≢ at = omega (arith, h) in get_or-set_other row at j t Unknown ne ∙ before j h))
    (get_or-set_same row at t Unknown there ∙ is ∙ ap value (get_or_default takings at d (record { place = 0; entry = Keeps }) less))

-- ---- the registers that move

pub moves_more : (moves : List Move) (r : ℕ) (m : Move) (P : ℕ → Move → Type 0) → r < length moves → P r m → ((k : ℕ) → k < r → P k (move_at moves k)) → (k : ℕ) → k < r + 1 → P k (move_at (slice_set moves r m) k)
moves_more moves r m P less here before =
    below_more _ r (λ k h. (let ne : k ≢ r = omega (arith, h) in subst (P k) (sym (get_or-set_other moves r k m Stays ne)) (before k h))) (subst (P r) (sym (get_or-set_same moves r m Stays less)) here)

pub moves_all : (moves : List Move) (r : ℕ) (P : ℕ → Move → Type 0) → ((k : ℕ) → P k Stays) → length moves ≤ r → ((k : ℕ) → k < r → P k (move_at moves k)) → (k : ℕ) → P k (move_at moves k)
moves_all moves r P stays past each k = elim (leb_tells r k) [
  | inl out ↦ subst (P k) (sym (get_or_past moves k Stays (omega (arith, past, out.1)))) (stays k)
  | inr live ↦ each k live.1
]

-- how a register was found to move
abbrev pub IsFoundMove : (table : ℕ → entries.Entry) → (registers : List (List ℕ)) → ℕ → Move → Type 0
IsFoundMove table registers r m = (r ≡ 0 → m ≡ Stays) × IsMove table registers r m

pub stays_is_move : (table : ℕ → entries.Entry) (registers : List (List ℕ)) (r : ℕ) → IsMove table registers r Stays
stays_is_move table registers r = record { still = λ none. refl; each = λ i h. tt; sound = tt }

pub stays_found : (table : ℕ → entries.Entry) (registers : List (List ℕ)) (r : ℕ) → IsFoundMove table registers r Stays
stays_found table registers r = (λ e. refl, stays_is_move table registers r)

-- what has no leader stays, so all can move at once
pub found_can : (table : ℕ → entries.Entry) (l : Layout) (moves : List Move) → ((k : ℕ) → IsFoundMove table l.registers k (move_at moves k)) → CanMove l moves
found_can table l moves all = record { rest = (all 0).0 refl; sound = λ r. go r (move_at moves r) (all r).1.sound } where
  go : (r : ℕ) (m : Move) → TakesFromUnled table l.registers r m → IfTakes (λ other start. (move_at moves other ≡ Stays) × (length (cells_at l.registers r) ≤ start + length (cells_at l.registers other))) m
  go r Stays is = tt
  go r Shifts is = tt
  go r (Copies other) is = ((all other).1.still is.0, is.1)
  go r (Trails other) is = ((all other).1.still is.0, is.1)
