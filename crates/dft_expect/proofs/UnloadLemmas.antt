-- The values of a chain in the list of all values.
use Rattle.std.proofs.Common.{ℕ, zero, suc, Bool, List, [], ◌∷◌, ◌++◌, ◌≡◌, ◌<◌, ◌≤◌, ◌+◌, ◌-◌, refl, sym, ap, arith, map, take, drop, length, length-append, length-drop, drop-drop, append_assoc, append-nil, not, get_or, Some, ◌∙◌}
use Rattle.std.specs.Prelude.{slice_get, nat_lt, if◌then◌else◌, true, false}
use Rattle.std.specs.Bool.{beq}
use Rattle.std.specs.Prelude.{flat_map}
use Rattle.std.specs.List.{range_with_len}
use Rattle.std.proofs.lemmas.Bool.Decides.{nat_tests}
use Rattle.std.proofs.lemmas.List.{length-take-le, get_or-take, get_or-drop, get_or_default, drop_more, drop_all}
use Rattle.std.proofs.lemmas.Option.{slice_get_within, get_or_from_slice_get}
use Rattle.dft_base.specs.declared.tri.Tri.{Tri}
use Rattle.dft_base.specs.declared.tri.Tri.TheVariants.{Unknown}
use Rattle.dft_netlist.specs.declared.ids.InstanceId.{InstanceId}
use Rattle.dft_expect.specs.Loaded.{all_cells}
use Rattle.dft_expect.specs.Masks.{by_chain}
use Rattle.dft_base.specs.Solutions.{bit_at, xor}
use Rattle.dft_base.proofs.SumLemmas.{xor_assoc, plus_false}
use Rattle.dft_config.specs.declared.config.RingConfig.{RingConfig}
use Rattle.dft_config.specs.Loads.{delay}
use Rattle.dft_config.proofs.Linearity.{delay_small}
use Rattle.dft_config.specs.Ring.{Table, sum_of, state_after, phase_of, phase_sum}
use Rattle.dft_expect.specs.States.{state_at, AreStates}
use Rattle.dft_expect.specs.Expected.{is_one, from_end, shown_by, chain_at, output_bit, expected_of}

-- the cells before a chain
abbrev pub before : List (List InstanceId) → (k : ℕ) → ℕ
before chains k = length (all_cells (take k chains))

pub before_more : (chains : List (List InstanceId)) (k : ℕ) (cells : List InstanceId) → slice_get chains k ≡ Some cells → before chains (suc k) ≡ before chains k + length cells
before_more [] k cells at = absurd (let h = slice_get_within [] k cells at in omega (arith, h))
before_more (c ∷ cs) zero cells at =
    let e : c ≡ cells = get_or_from_slice_get (c ∷ cs) 0 cells cells at in
    length-append c [] ∙ omega (arith, ap length e)
before_more (c ∷ cs) (suc k) cells at = length-append c (all_cells (take (suc k) cs)) ∙ omega (arith, before_more cs k cells at, length-append c (all_cells (take k cs)))

pub before_fits : (chains : List (List InstanceId)) (k : ℕ) → before chains k ≤ length (all_cells chains)
before_fits [] zero = omega arith
before_fits [] (suc k) = omega arith
before_fits (c ∷ cs) zero = omega arith
before_fits (c ∷ cs) (suc k) = omega (arith, before_fits cs k, length-append c (all_cells (take k cs)), length-append c (all_cells cs))

pub chain_part : (chains : List (List InstanceId)) (values : List Tri) (k : ℕ) (cells : List InstanceId) → slice_get chains k ≡ Some cells → chain_at (by_chain chains values) k ≡ take (length cells) (drop (before chains k) values)
chain_part [] values k cells at = absurd (let h = slice_get_within [] k cells at in omega (arith, h))
chain_part (c ∷ cs) values zero cells at = ap (λ (l : List InstanceId). take (length l) values) (get_or_from_slice_get (c ∷ cs) 0 cells cells at)
chain_part (c ∷ cs) values (suc k) cells at =
    chain_part cs (drop (length c) values) k cells at ∙ ap (take (length cells)) (drop-drop (before cs k) (length c) values)
    ∙ ap (λ (n : ℕ). take (length cells) (drop n values)) (sym (length-append c (all_cells (take k cs))))

pub before_next : (chains : List (List InstanceId)) (k : ℕ) (cells : List InstanceId) → slice_get chains k ≡ Some cells → before chains (k + 1) ≡ before chains k + length cells
before_next chains k cells at = let next : k + 1 ≡ suc k = omega arith in ap (before chains) next ∙ before_more chains k cells at

pub part_fits : (chains : List (List InstanceId)) (k : ℕ) (cells : List InstanceId) → slice_get chains k ≡ Some cells → before chains k + length cells ≤ length (all_cells chains)
part_fits chains k cells at = omega (arith, before_next chains k cells at, before_fits chains (k + 1))

-- ---- what a chain shows

part_length : (l s : ℕ) (all part : List Tri) → part ≡ take l (drop s all) → s + l ≤ length all → length part ≡ l
part_length l s all part is fits = ap length is ∙ length-take-le l (drop s all) (omega (arith, length-drop s all))

pub shown_cell : (ring : RingConfig) (table : Table) (late : Bool) (chain l s t place : ℕ) (all part : List Tri) (d : Tri) (bit : Bool) → (is : part ≡ take l (drop s all)) → (fits : s + l ≤ length all) → (less : t < l) → (at : place ≡ s + l - 1 - t)
    → (read : bit ≡ is_one (get_or all place d)) → bit ≡ shown_by ring table late chain part t
shown_cell ring table late chain l s t place all part d bit is fits less at read =
    let size = part_length l s all part is fits in
    let within : nat_lt t (length part) ≡ true = grind (arith, nat_tests, size) in
    let from : s + (l - 1 - t) ≡ place = omega arith in
    let value : get_or part (length part - 1 - t) Unknown ≡ get_or all place d =
    (λ i. get_or (is i) (size i - 1 - t) Unknown) ∙ get_or-take l (drop s all) (l - 1 - t) Unknown (omega arith) ∙ get_or-drop s all (l - 1 - t) Unknown
    ∙ ap (λ (n : ℕ). get_or all n Unknown) from ∙ get_or_default all place Unknown d (omega arith) in
    read ∙ ap is_one (sym value) ∙ ap (λ (b : Bool). if b then is_one (from_end part t) else phase_sum ring chain (state_after ring table (t - length part + delay late))) (sym within)

pub shown_later : (ring : RingConfig) (table : Table) (late : Bool) (chain l s t cycles : ℕ) (all part : List Tri) (states : List (List Bool)) (bit : Bool) → (is : part ≡ take l (drop s all)) → (fits : s + l ≤ length all) → (past : l ≤ t) → (less : suc t < cycles)
    → (are : AreStates ring table cycles states) → (read : bit ≡ phase_sum ring chain (bit_at (state_at states (t - l + delay late)))) → bit ≡ shown_by ring table late chain part t
shown_later ring table late chain l s t cycles all part states bit is fits past less are read =
    let size = part_length l s all part is fits in
    let over : nat_lt t (length part) ≡ false = grind (arith, nat_tests, size) in
    let state = are.each (t - l + delay late) (omega (arith, delay_small late)) in
    read ∙ (λ i. sum_of (λ stage. state.bits stage i) (phase_of ring chain)) ∙ ap (λ (n : ℕ). phase_sum ring chain (state_after ring table (t - n + delay late))) (sym size)
    ∙ ap (λ (b : Bool). if b then is_one (from_end part t) else phase_sum ring chain (state_after ring table (t - length part + delay late))) (sym over)

-- ---- sums and lists, item by item

pub flipped : (a b : Bool) → not (beq a b) ≡ xor a b
flipped true true = refl
flipped true false = refl
flipped false true = refl
flipped false false = refl

pub sum_goes_on : (f : ℕ → Bool) (group : List ℕ) (i d : ℕ) (sum next bit : Bool) → i < length group → next ≡ xor sum bit → bit ≡ f (get_or group i d) → xor sum (sum_of f (drop i group)) ≡ sum_of f group
    → xor next (sum_of f (drop (i + 1) group)) ≡ sum_of f group
sum_goes_on f group i d sum next bit less is read before =
    let rest = sum_of f (drop (i + 1) group) in
    ap (λ (b : Bool). xor b rest) is ∙ xor_assoc sum bit rest ∙ ap (λ (b : Bool). xor sum (xor b rest)) read ∙ ap (λ (l : List ℕ). xor sum (sum_of f l)) (sym (drop_more group i d less)) ∙ before

pub sum_ends : (f : ℕ → Bool) (group : List ℕ) (i : ℕ) (sum : Bool) → length group ≤ i → xor sum (sum_of f (drop i group)) ≡ sum_of f group → sum ≡ sum_of f group
sum_ends f group i sum past before = plus_false sum ∙ ap (λ (l : List ℕ). xor sum (sum_of f l)) (sym (drop_all i group past)) ∙ before

pub list_goes_on : (f : List ℕ → Bool) (groups : List (List ℕ)) (i : ℕ) (group d : List ℕ) (old start new : List Bool) (bit : Bool) → i < length groups → group ≡ get_or groups i d → new ≡ old ++ bit ∷ [] → bit ≡ f group
    → old ++ map f (drop i groups) ≡ start ++ map f groups → new ++ map f (drop (i + 1) groups) ≡ start ++ map f groups
list_goes_on f groups i group d old start new bit less is more read before =
    let rest = map f (drop (i + 1) groups) in
    ap (λ (l : List Bool). l ++ rest) more ∙ append_assoc old (bit ∷ []) rest ∙ ap (λ (b : Bool). old ++ (b ∷ rest)) (read ∙ ap f is) ∙ ap (λ (l : List (List ℕ)). old ++ map f l) (sym (drop_more groups i d less)) ∙ before

pub list_ends : (f : List ℕ → Bool) (groups : List (List ℕ)) (i : ℕ) (old start : List Bool) → length groups ≤ i → old ++ map f (drop i groups) ≡ start ++ map f groups → old ≡ start ++ map f groups
list_ends f groups i old start past before = sym (append-nil old) ∙ ap (λ (l : List (List ℕ)). old ++ map f l) (sym (drop_all i groups past)) ∙ before

-- ---- cycle by cycle

-- the bits so far, with those of the cycles from one on
abbrev pub IsUnloading : RingConfig → (groups : List (List ℕ)) → Table → (late : ℕ → Bool) → (masks : List Bool) → List (List Tri) → (cycles k : ℕ) → (expected : List Bool) → Type 0
IsUnloading ring groups table late masks values cycles k expected =
    expected ++ flat_map (λ t. map (output_bit ring table late masks values t) groups) (range_with_len k (cycles - k)) ≡ expected_of ring groups table late masks values cycles

pub unloading_goes_on : (ring : RingConfig) (groups : List (List ℕ)) (table : Table) (late : ℕ → Bool) (masks : List Bool) (values : List (List Tri)) (cycles k : ℕ) (old new : List Bool) → k < cycles → new ≡ old ++ map (output_bit ring table late masks values k) groups
    → IsUnloading ring groups table late masks values cycles k old → IsUnloading ring groups table late masks values cycles (k + 1) new
unloading_goes_on ring groups table late masks values cycles k old new less more before =
    let f : ℕ → List Bool = λ t. map (output_bit ring table late masks values t) groups in
    let rest = flat_map f (range_with_len (k + 1) (cycles - (k + 1))) in
    let left : suc (cycles - (k + 1)) ≡ cycles - k = omega arith in
    ap (λ (l : List Bool). l ++ rest) more ∙ append_assoc old (f k) rest ∙ ap (λ (n : ℕ). old ++ flat_map f (range_with_len k n)) left ∙ before

pub unloading_ends : (ring : RingConfig) (groups : List (List ℕ)) (table : Table) (late : ℕ → Bool) (masks : List Bool) (values : List (List Tri)) (cycles k : ℕ) (expected : List Bool) → cycles ≤ k
    → IsUnloading ring groups table late masks values cycles k expected → expected ≡ expected_of ring groups table late masks values cycles
unloading_ends ring groups table late masks values cycles k expected past before =
    let f : ℕ → List Bool = λ t. map (output_bit ring table late masks values t) groups in
    let none : 0 ≡ cycles - k = omega arith in
    sym (append-nil expected) ∙ ap (λ (n : ℕ). expected ++ flat_map f (range_with_len k n)) none ∙ before
