-- A load equation of a generated job has at most 1,484 variables: what an impulse brings to the ring comes back after 210 cycles, of which at most 106 have
-- a phase sum of 1.
use Rattle.std.proofs.Common.{ℕ, zero, suc, Bool, true, false, ◌≡◌, ◌<◌, ◌≤◌, ◌+◌, ◌*◌, ◌-◌, ◌⊎◌, inl, inr, List, [], ◌∷◌, length, get_or, map, cond, refl, sym, ap, arith, ◌∙◌}
use Rattle.std.specs.Prelude.{◌&&◌, ◌==◌, ◌%◌, nat_le, nat_lt}
use Rattle.std.specs.List.{count_by, list_all, range_with_len}
use Rattle.std.proofs.lemmas.Bool.{cases_lt}
use Rattle.std.proofs.lemmas.Bool.Decides.{nat_tests}
use Rattle.std.proofs.lemmas.List.{get_or_past}
use Rattle.std.proofs.lemmas.List.Sums.{AllPass-from_list_all, sum_by-cons}
use Rattle.std.proofs.lemmas.List.FromFn.{length-map-range_with_len, get_or-map-range_with_len}
use Rattle.std.proofs.lemmas.Nat.{div-mul-add, mod-mul-add}
use Rattle.dft_base.specs.Solutions.{xor, bit_at}
use Rattle.dft_config.specs.declared.config.RingConfig.{RingConfig}
use Rattle.dft_config.specs.Ring.{sum_of, tapped, injected, step, state_after, phase_of, phase_sum}
use Rattle.dft_config.specs.Loads.{channel_of, cycle_of, single, reaches, delay, moment_of_place, load_equation}
use Rattle.dft_config.proofs.Linearity.{delay_small}
use Rattle.dft_equations.specs.LoadRows.{equation_row}
use Rattle.dft_equations.proofs.ImpulseLemmas.{state_before, load_equation-moved, load_equation-first}
use Rattle.dft_generate.specs.Configurations.{configuration}

abbrev ring : RingConfig
ring = configuration.ring

-- ---- the ring's states as lists

-- the state that a 1 on a channel brings, and the state a cycle later where the channels are at 0
unfoldable first : (channel : ℕ) → List Bool
first channel = map (step ring (λ other. (other == channel) && true) (λ stage. false)) (range_with_len 0 16)

unfoldable next : List Bool → List Bool
next state = map (step ring (λ channel. false) (bit_at state)) (range_with_len 0 16)

unfoldable after : ℕ → List Bool → List Bool
after zero state = state
after (suc n) state = after n (next state)

abbrev pub one_of : Bool → ℕ
one_of bit = cond bit 1 0

-- of so many states from one on, how many have a phase sum of 1
unfoldable weight : (phase : List ℕ) → ℕ → List Bool → ℕ
weight phase zero state = 0
weight phase (suc n) state = one_of (sum_of (bit_at state) phase) + weight phase n (next state)

-- a list of the ring's bits, where there is no bit past the last stage
stepped : (bits state : ℕ → Bool) (stage : ℕ) → (stage < 16) ⊎ (16 ≤ stage) → bit_at (map (step ring bits state) (range_with_len 0 16)) stage ≡ step ring bits state stage
unfolding step
stepped bits state stage (inl within) = get_or-map-range_with_len (step ring bits state) 0 16 stage stage false within (omega arith)
stepped bits state stage (inr past) =
    let size = length-map-range_with_len (step ring bits state) 0 16 in
    let outside : nat_lt stage 16 ≡ false = grind (arith, nat_tests) in
    get_or_past (map (step ring bits state) (range_with_len 0 16)) stage false (omega (arith, size, past))
    ∙ ap (λ (b : Bool). b && xor (state ((stage + 1) % 16)) (xor (tapped ring.taps state stage) (injected ring.injectors bits stage))) (sym outside)

-- ---- what a 1 brings, by lists

silent : (channel other t : ℕ) → single channel 0 other (suc t) ≡ false
silent channel other t = grind (arith, nat_tests)

first_is : (channel stage : ℕ) → bit_at (first channel) stage ≡ state_after ring (single channel 0) 1 stage
unfolding first state_after
first_is channel stage = stepped (λ other. (other == channel) && true) (λ s. false) stage (cases_lt stage 16)

next_is : (channel t : ℕ) (state : List Bool) → ((stage : ℕ) → bit_at state stage ≡ state_after ring (single channel 0) (suc t) stage) → (stage : ℕ) → bit_at (next state) stage ≡ state_after ring (single channel 0) (suc (suc t)) stage
unfolding next state_after
next_is channel t state before stage =
    stepped (λ other. false) (bit_at state) stage (cases_lt stage 16) ∙ (λ e. step ring (λ other. sym (silent channel other t) e) (λ i. before i e) stage)

after_is : (channel n t : ℕ) (state : List Bool) → ((stage : ℕ) → bit_at state stage ≡ state_after ring (single channel 0) (suc t) stage) → (stage : ℕ) → bit_at (after n state) stage ≡ state_after ring (single channel 0) (suc (t + n)) stage
unfolding after
after_is channel zero t state before stage = let same : suc t ≡ suc (t + 0) = omega arith in before stage ∙ ap (λ (k : ℕ). state_after ring (single channel 0) k stage) same
after_is channel (suc n) t state before stage =
    let same : suc (suc t + n) ≡ suc (t + suc n) = omega arith in
    after_is channel n (suc t) (next state) (next_is channel t state before) stage ∙ ap (λ (k : ℕ). state_after ring (single channel 0) k stage) same

from_first : (channel n stage : ℕ) → bit_at (after n (first channel)) stage ≡ state_after ring (single channel 0) (suc n) stage
from_first channel n stage = let same : suc (0 + n) ≡ suc n = omega arith in after_is channel n 0 (first channel) (first_is channel) stage ∙ ap (λ (k : ℕ). state_after ring (single channel 0) k stage) same

-- ---- weights

weight_more : (phase : List ℕ) (m n : ℕ) (state : List Bool) → weight phase (m + n) state ≡ weight phase m state + weight phase n (after m state)
unfolding weight after
weight_more phase zero n state =
    let same : zero + n ≡ n = omega arith in
    let all = ap (λ (k : ℕ). weight phase k state) same in
    omega (arith, all)
weight_more phase (suc m) n state =
    let same : suc m + n ≡ suc (m + n) = omega arith in
    let all : weight phase (suc m + n) state ≡ one_of (sum_of (bit_at state) phase) + weight phase (m + n) (next state) = ap (λ (k : ℕ). weight phase k state) same in
    let more = weight_more phase m n (next state) in
    omega (arith, all, more)

weight_last : (phase : List ℕ) (n : ℕ) (state : List Bool) → weight phase (suc n) state ≡ weight phase n state + one_of (sum_of (bit_at (after n state)) phase)
unfolding weight
weight_last phase n state =
    let same : n + 1 ≡ suc n = omega arith in
    ap (λ (k : ℕ). weight phase k state) (sym same) ∙ weight_more phase n 1 state ∙ omega arith

weight_grows : (phase : List ℕ) (m n : ℕ) (state : List Bool) → m ≤ n → weight phase m state ≤ weight phase n state
weight_grows phase m n state le =
    let same : m + (n - m) ≡ n = omega (arith, le) in
    let more = weight_more phase m (n - m) state in
    let whole = ap (λ (k : ℕ). weight phase k state) same in
    omega (arith, more, whole)

-- what comes back weighs as much again
weight_again : (phase : List ℕ) (period times : ℕ) (state : List Bool) → after period state ≡ state → weight phase (times * period) state ≡ times * weight phase period state
unfolding weight
weight_again phase period zero state back =
    let none : zero * period ≡ 0 = grind arith in
    let there : zero * weight phase period state ≡ 0 = grind arith in
    ap (λ (k : ℕ). weight phase k state) none ∙ sym there
weight_again phase period (suc times) state back =
    let more = weight_more phase period (times * period) state in
    let rest = ap (λ (s : List Bool). weight phase (times * period) s) back in
    let again = weight_again phase period times state back in
    let here : suc times * period ≡ period + times * period = grind arith in
    let there : suc times * weight phase period state ≡ weight phase period state + times * weight phase period state = grind arith in
    ap (λ (k : ℕ). weight phase k state) here ∙ omega (arith, more, rest, again, there)

first_back : (channel : ℕ) → channel < 2 → after 210 (first channel) ≡ first channel
unfolding first next after step
first_back zero low = refl
first_back (suc zero) low = refl
first_back (suc (suc channel)) low = absurd (omega (arith, low))

-- no phase of the configuration weighs more than 106 in a period
abbrev is_light : (channel : ℕ) → List ℕ → Bool
is_light channel phase = nat_le (weight phase 210 (first channel)) 106

all_light : (channel : ℕ) → channel < 2 → list_all (is_light channel) ring.phase ≡ true
unfolding first next step weight
all_light zero low = refl
all_light (suc zero) low = refl
all_light (suc (suc channel)) low = absurd (omega (arith, low))

none_light : (n : ℕ) (state : List Bool) → weight [] n state ≡ 0
unfolding weight
none_light zero state = refl
none_light (suc n) state = let rest = none_light n (next state) in omega (arith, rest)

all_at : {X : Type 0} (test : X → Bool) (d : X) (xs : List X) (k : ℕ) → test d ≡ true → list_all test xs ≡ true → test (get_or xs k d) ≡ true
all_at test d xs k past all = by (cases_lt k (length xs))
  where
    by : (k < length xs) ⊎ (length xs ≤ k) → test (get_or xs k d) ≡ true
    by (inl less) = AllPass-from_list_all test xs all k d less
    by (inr over) = ap test (get_or_past xs k d over) ∙ past

chain_light : (channel chain : ℕ) → channel < 2 → weight (phase_of ring chain) 210 (first channel) ≤ 106
chain_light channel chain low =
    let none : is_light channel [] ≡ true = ap (λ (w : ℕ). nat_le w 106) (none_light 210 (first channel)) in
    let told = all_at (is_light channel) [] ring.phase chain none (all_light channel low) in
    grind (arith, nat_tests)

-- the weight of a chain in as many cycles as a load has
light : (channel chain n : ℕ) → channel < 2 → n ≤ 1470 → weight (phase_of ring chain) n (first channel) ≤ 742
light channel chain n low few =
    let seven = weight_again (phase_of ring chain) 210 7 (first channel) (first_back channel low) in
    let grows = weight_grows (phase_of ring chain) n 1470 (first channel) few in
    let one = chain_light channel chain low in
    omega (arith, seven, grows, one)

-- ---- a row, two columns a cycle

-- what an impulse brings to a chain after so many cycles
abbrev brought : (chain channel age : ℕ) → Bool
brought chain channel age = phase_sum ring chain (state_after ring (single channel 0) age)

brought_is : (chain channel age : ℕ) → brought chain channel (suc age) ≡ sum_of (bit_at (after age (first channel))) (phase_of ring chain)
brought_is chain channel age = λ e. sum_of (λ stage. sym (from_first channel age stage) e) (phase_of ring chain)

sum_none : (stages : List ℕ) → sum_of (λ stage. false) stages ≡ false
sum_none [] = refl
sum_none (stage ∷ stages) = sum_none stages

-- from a state at zero a chain takes 0
zero_brought : (chain channel cycle moment : ℕ) → moment ≤ cycle → phase_sum ring chain (state_after ring (single channel cycle) moment) ≡ false
zero_brought chain channel cycle moment early = (λ e. sum_of (λ stage. state_before ring channel cycle moment early stage e) (phase_of ring chain)) ∙ sum_none (phase_of ring chain)

column_at : (k place channel : ℕ) → channel < 2 → (cycle_of ring (k + k + channel + place * 2) ≡ k + place) × (channel_of ring (k + k + channel + place * 2) ≡ channel)
column_at k place channel low =
    let same : k + k + channel + place * 2 ≡ (k + place) * 2 + channel = omega arith in
    (ap (λ (c : ℕ). cycle_of ring c) same ∙ div-mul-add (k + place) 2 channel low, ap (λ (c : ℕ). channel_of ring c) same ∙ mod-mul-add (k + place) 2 channel low)

-- how many bits of a row are 1
abbrev pub ones : List Bool → ℕ
ones bits = count_by (λ bit. bit) bits

pub ones_more : (bit : Bool) (bits : List Bool) → ones (bit ∷ bits) ≡ one_of bit + ones bits
ones_more bit bits = sum_by-cons one_of bit bits

-- the most that the variables of so many last cycles bring
abbrev most : (late : Bool) (chain : ℕ) → ℕ → ℕ
most late chain zero = 0
most late chain (suc r) = one_of (brought chain 0 (r + delay late)) + one_of (brought chain 1 (r + delay late)) + most late chain r

one_more : (chain channel r : ℕ) → weight (phase_of ring chain) (suc r) (first channel) ≡ weight (phase_of ring chain) r (first channel) + one_of (brought chain channel (suc r))
one_more chain channel r = let last = weight_last (phase_of ring chain) r (first channel) in let same = ap one_of (brought_is chain channel r) in omega (arith, last, same)

most_late : (chain r : ℕ) → most true chain r ≤ weight (phase_of ring chain) r (first 0) + weight (phase_of ring chain) r (first 1)
unfolding delay
most_late chain zero = omega arith
most_late chain (suc r) =
    let next : r + 1 ≡ suc r = omega arith in
    let zeroth = ap (λ (k : ℕ). one_of (brought chain 0 k)) next in
    let other = ap (λ (k : ℕ). one_of (brought chain 1 k)) next in
    omega (arith, zeroth, other, one_more chain 0 r, one_more chain 1 r, most_late chain r)

most_soon : (chain r : ℕ) → most false chain (suc r) ≤ weight (phase_of ring chain) r (first 0) + weight (phase_of ring chain) r (first 1)
unfolding delay
most_soon chain zero = let zeroth = ap one_of (zero_brought chain 0 0 0 (omega arith)) in let other = ap one_of (zero_brought chain 1 0 0 (omega arith)) in omega (arith, zeroth, other)
most_soon chain (suc r) =
    let next : suc r + 0 ≡ suc r = omega arith in
    let zeroth = ap (λ (k : ℕ). one_of (brought chain 0 k)) next in
    let other = ap (λ (k : ℕ). one_of (brought chain 1 k)) next in
    omega (arith, zeroth, other, one_more chain 0 r, one_more chain 1 r, most_soon chain r)

most_light : (late : Bool) (chain r : ℕ) → r ≤ 1266 → most late chain r ≤ 1484
most_light true chain r few = omega (arith, most_late chain r, light 0 chain r (omega arith) (omega (arith, few)), light 1 chain r (omega arith) (omega (arith, few)))
most_light false chain zero few = omega arith
most_light false chain (suc r) few = omega (arith, most_soon chain r, light 0 chain r (omega arith) (omega (arith, few)), light 1 chain r (omega arith) (omega (arith, few)))

module _ (cycles : ℕ) (late : Bool) (chain place : ℕ) (within : place < cycles) where
  abbrev bit_of : ℕ → Bool
  bit_of = load_equation ring cycles late chain place

  fed : (k channel r : ℕ) → channel < 2 → cycles ≡ suc r + (k + place) → bit_of (k + k + channel) ≡ brought chain channel (r + delay late)
  fed k channel r low same =
      let at = column_at k place channel low in
      let inside = at.0 in
      let age : cycles - 1 - cycle_of ring (k + k + channel + place * 2) + delay late ≡ r + delay late = omega (arith, inside, same) in
      load_equation-moved ring cycles late chain place (k + k + channel) (omega arith) within
      ∙ load_equation-first ring cycles late chain (k + k + channel + place * 2) (omega (arith, inside, same))
      ∙ (λ e. phase_sum ring chain (state_after ring (single (at.1 e) 0) (age e)))

  unfed : (k channel : ℕ) → channel < 2 → cycles ≤ k + place → bit_of (k + k + channel) ≡ false
  unfolding reaches
  unfed k channel low past =
      let column : ℕ = k + k + channel + place * 2 in
      let inside = (column_at k place channel low).0 in
      load_equation-moved ring cycles late chain place (k + k + channel) (omega arith) within
      ∙ zero_brought chain (channel_of ring column) (cycle_of ring column) (moment_of_place cycles late 0) (let small = delay_small late in omega (arith, inside, past, small, within))

  split : (n k : ℕ) → ones (map bit_of (range_with_len (k + k) (suc n + suc n))) ≡ one_of (bit_of (k + k + 0)) + one_of (bit_of (k + k + 1)) + ones (map bit_of (range_with_len ((k + 1) + (k + 1)) (n + n)))
  split n k =
      let size : suc n + suc n ≡ suc (suc (n + n)) = omega arith in
      let from : k + k + 1 + 1 ≡ (k + 1) + (k + 1) = omega arith in
      let zeroth : k + k ≡ k + k + 0 = omega arith in
      let bits : List Bool = map bit_of (range_with_len (k + k + 1 + 1) (n + n)) in
      let a : ones (map bit_of (range_with_len (k + k) (suc n + suc n))) ≡ ones (bit_of (k + k) ∷ bit_of (k + k + 1) ∷ bits) = ap (λ (c : ℕ). ones (map bit_of (range_with_len (k + k) c))) size in
      let b = ap (λ (f : ℕ). ones (map bit_of (range_with_len f (n + n)))) from in
      let c = ap (λ (f : ℕ). one_of (bit_of f)) zeroth in
      omega (arith, a, b, c, ones_more (bit_of (k + k)) (bit_of (k + k + 1) ∷ bits), ones_more (bit_of (k + k + 1)) bits)

  pairs : (n k r : ℕ) → r ≡ cycles - (k + place) → ones (map bit_of (range_with_len (k + k) (n + n))) ≤ most late chain r
  pairs zero k r is = omega arith
  pairs (suc n) k zero is =
      let zeroth = ap one_of (unfed k 0 (omega arith) (omega (arith, is))) in
      let other = ap one_of (unfed k 1 (omega arith) (omega (arith, is))) in
      omega (arith, split n k, zeroth, other, pairs n (k + 1) 0 (omega (arith, is)))
  pairs (suc n) k (suc r) is =
      let zeroth = ap one_of (fed k 0 r (omega arith) (omega (arith, is))) in
      let other = ap one_of (fed k 1 r (omega arith) (omega (arith, is))) in
      omega (arith, split n k, zeroth, other, pairs n (k + 1) r (omega (arith, is)))

-- the load equation of a cell has no more variables
pub row_light : (cycles : ℕ) (late : Bool) (chain place : ℕ) → place < cycles → cycles ≤ 1266 → ones (equation_row ring cycles late chain place) ≤ 1484
row_light cycles late chain place within few =
    let twice : cycles * 2 ≡ cycles + cycles = omega arith in
    let same = ap (λ (c : ℕ). ones (map (load_equation ring cycles late chain place) (range_with_len 0 c))) twice in
    let all = pairs cycles late chain place within cycles 0 (cycles - (0 + place)) refl in
    omega (arith, same, all, most_light late chain (cycles - (0 + place)) (omega (arith, few)))
