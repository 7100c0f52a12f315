-- Steps of the ring's code, and what a ring keeps when all is moved in time.
use Rattle.std.proofs.Common.{ℕ, zero, suc, Bool, true, false, ◌≡◌, ◌<◌, ◌≤◌, ◌+◌, ◌*◌, ◌-◌, ◌/◌, ◌%◌, ◌⊎◌, inl, inr, List, [], ◌∷◌, length, get_or, ◌++◌, take, replicate, subst, refl, sym, ap, arith, ◌∙◌}
use Rattle.std.specs.Prelude.{◌&&◌, ◌==◌, nat_lt}
use Rattle.std.proofs.lemmas.Bool.{cases_lt}
use Rattle.std.proofs.lemmas.Bool.Decides.{nat_tests}
use Rattle.std.proofs.lemmas.List.{get_or_past, get_or_append_left, length-append}
use Rattle.std.proofs.Math.Seq.{get_or-append_seam, take-append_seam}
use Rattle.std.proofs.lemmas.Nat.{div-mul-add, mod-mul-add, div-add-mod', mod_below}
use Rattle.dft_base.specs.Solutions.{xor, bit_at}
use Rattle.dft_base.proofs.SumLemmas.{and_false, xor_assoc}
use Rattle.dft_base.proofs.ListLemmas.{zero_bit}
use Rattle.dft_config.specs.declared.config.Tap.{Tap}
use Rattle.dft_config.specs.declared.config.Injector.{Injector}
use Rattle.dft_config.specs.declared.config.RingConfig.{RingConfig}
use Rattle.dft_config.specs.Ring.{sum_of, tapped, injected, step, state_after, phase_of, phase_sum}
use Rattle.dft_config.specs.Loads.{channel_of, cycle_of, single, reaches, delay, moment_of_place, load_equation}
use Rattle.dft_equations.specs.Impulses.{IsImpulse}

-- what comes to a stage, from a list of the stages' bits
step_case : (ring : RingConfig) (bits : ℕ → Bool) (state next : List Bool) (stage : ℕ) → (stage < ring.stages) ⊎ (ring.stages ≤ stage) → length state ≡ ring.stages → length next ≡ ring.stages
    → (stage < length state → bit_at next stage ≡ xor (xor (bit_at state ((stage + 1) % length state)) (tapped ring.taps (bit_at state) stage)) (injected ring.injectors bits stage))
    → bit_at next stage ≡ step ring bits (bit_at state) stage
unfolding step
step_case ring bits state next stage (inl within) size new each =
    let inside : nat_lt stage ring.stages ≡ true = grind (arith, nat_tests) in
    let brought = xor (tapped ring.taps (bit_at state) stage) (injected ring.injectors bits stage) in
    each (omega arith)
    ∙ xor_assoc (bit_at state ((stage + 1) % length state)) (tapped ring.taps (bit_at state) stage) (injected ring.injectors bits stage)
    ∙ ap (λ (n : ℕ). xor (bit_at state ((stage + 1) % n)) brought) size
    ∙ ap (λ (b : Bool). b && xor (bit_at state ((stage + 1) % ring.stages)) brought) (sym inside)
step_case ring bits state next stage (inr past) size new each =
    let outside : nat_lt stage ring.stages ≡ false = grind (arith, nat_tests) in
    let rest = xor (bit_at state ((stage + 1) % ring.stages)) (xor (tapped ring.taps (bit_at state) stage) (injected ring.injectors bits stage)) in
    get_or_past next stage false (omega arith) ∙ ap (λ (b : Bool). b && rest) (sym outside)

pub step_of_list : (ring : RingConfig) (bits : ℕ → Bool) (state next : List Bool) (stage : ℕ) → length state ≡ ring.stages → length next ≡ ring.stages
    → (stage < length state → bit_at next stage ≡ xor (xor (bit_at state ((stage + 1) % length state)) (tapped ring.taps (bit_at state) stage)) (injected ring.injectors bits stage))
    → bit_at next stage ≡ step ring bits (bit_at state) stage
step_of_list ring bits state next stage = step_case ring bits state next stage (cases_lt stage ring.stages)

-- one cycle more of an impulse response
pub impulse_step : (ring : RingConfig) (channel t : ℕ) (bit : Bool) (state next : List Bool) → bit ≡ (t == 0)
    → ((stage : ℕ) → bit_at state stage ≡ state_after ring (single channel 0) t stage)
    → ((stage : ℕ) → bit_at next stage ≡ step ring (λ other. (other == channel) && bit) (bit_at state) stage)
    → (stage : ℕ) → bit_at next stage ≡ state_after ring (single channel 0) (t + 1) stage
unfolding state_after
impulse_step ring channel t bit state next first before now stage =
    let later : suc t ≡ t + 1 = omega arith in
    now stage
    ∙ (λ e. step ring (λ other. (other == channel) && first e) (λ i. before i e) stage)
    ∙ ap (λ (n : ℕ). state_after ring (single channel 0) n stage) later

pub impulse_start : (ring : RingConfig) (channel stage : ℕ) → false ≡ state_after ring (single channel 0) 0 stage
unfolding state_after
impulse_start ring channel stage = refl

-- without bits nothing comes to be
tapped_none : (taps : List Tap) (stage : ℕ) → tapped taps (λ i. false) stage ≡ false
tapped_none [] stage = refl
tapped_none (tap ∷ taps) stage = λ t. xor (and_false (tap.to == stage) t) (tapped_none taps stage t)

pub injected_none : (injectors : List Injector) (stage : ℕ) → injected injectors (λ j. false) stage ≡ false
injected_none [] stage = refl
injected_none (injector ∷ injectors) stage = λ t. xor (and_false (injector.stage == stage) t) (injected_none injectors stage t)

step_none : (ring : RingConfig) (stage : ℕ) → step ring (λ j. false) (λ i. false) stage ≡ false
unfolding step
step_none ring stage =
    (λ t. nat_lt stage ring.stages && xor false (xor (tapped_none ring.taps stage t) (injected_none ring.injectors stage t))) ∙ and_false (nat_lt stage ring.stages)

not_fed : (j channel cycle moment : ℕ) → moment < cycle → single channel cycle j moment ≡ false
not_fed j channel cycle moment before = grind (arith, nat_tests)

-- up to the cycle of the single 1 the ring is at zero
pub state_before : (ring : RingConfig) (channel cycle t : ℕ) → t ≤ cycle → (stage : ℕ) → state_after ring (single channel cycle) t stage ≡ false
unfolding state_after
state_before ring channel cycle zero early stage = refl
state_before ring channel cycle (suc t) early stage =
    (λ e. step ring (λ j. not_fed j channel cycle t (omega arith) e) (λ i. state_before ring channel cycle t (omega arith) i e) stage) ∙ step_none ring stage

fed_later : (j channel cycle moment later : ℕ) → single channel (cycle + later) j (moment + later) ≡ single channel cycle j moment
fed_later j channel cycle moment later = grind (arith, nat_tests)

-- what a single 1 that comes later brings comes as much later
state_later : (ring : RingConfig) (channel cycle later t : ℕ) (stage : ℕ) → state_after ring (single channel (cycle + later)) (t + later) stage ≡ state_after ring (single channel cycle) t stage
unfolding state_after
state_later ring channel cycle later zero stage = state_before ring channel (cycle + later) (0 + later) (omega arith) stage
state_later ring channel cycle later (suc t) stage =
    let next : suc t + later ≡ suc (t + later) = omega arith in
    ap (λ (n : ℕ). state_after ring (single channel (cycle + later)) n stage) next
    ∙ (λ e. step ring (λ j. fed_later j channel cycle t later e) (λ i. state_later ring channel cycle later t i e) stage)

-- The row of a cell is that of the first one, moved down by as many cycles as the cell is further on.
pub load_equation-moved : (ring : RingConfig) (cycles : ℕ) (late : Bool) (chain place column : ℕ) → 0 < ring.channels → place < cycles
    → load_equation ring cycles late chain place column ≡ load_equation ring cycles late chain 0 (column + place * ring.channels)
unfolding reaches
load_equation-moved ring cycles late chain place column some within =
    let n = ring.channels in
    let whole : column + place * n ≡ (column / n + place) * n + column % n = grind (arith, div-add-mod' column n) in
    let below : column % n < n = mod_below column n some in
    let channel : channel_of ring (column + place * n) ≡ channel_of ring column = ap (λ (c : ℕ). c % n) whole ∙ mod-mul-add (column / n + place) n (column % n) below in
    let cycle : cycle_of ring (column + place * n) ≡ cycle_of ring column + place = ap (λ (c : ℕ). c / n) whole ∙ div-mul-add (column / n + place) n (column % n) below in
    let moment : moment_of_place cycles late 0 ≡ moment_of_place cycles late place + place = omega arith in
    λ e. sum_of (λ stage. (sym (state_later ring (channel_of ring column) (cycle_of ring column) place (moment_of_place cycles late place) stage)
    ∙ (λ d. state_after ring (single (sym channel d) (sym cycle d)) (sym moment d) stage)) e) (phase_of ring chain)

-- The first cell's row by impulse responses: the phase sum of the state after as many cycles as there are from the variable on.
pub load_equation-first : (ring : RingConfig) (cycles : ℕ) (late : Bool) (chain column : ℕ) → cycle_of ring column < cycles
    → load_equation ring cycles late chain 0 column ≡ phase_sum ring chain (state_after ring (single (channel_of ring column) 0) (cycles - 1 - cycle_of ring column + delay late))
unfolding reaches
load_equation-first ring cycles late chain column within =
    let t = cycle_of ring column in
    let u = cycles - 1 - t + delay late in
    let own : t ≡ 0 + t = omega arith in
    let moment : moment_of_place cycles late 0 ≡ u + t = omega arith in
    λ e. sum_of (λ stage. ((λ d. state_after ring (single (channel_of ring column) (own d)) (moment d) stage)
    ∙ state_later ring (channel_of ring column) 0 t u stage) e) (phase_of ring chain)

-- what holds of each item of a list and of one more holds of each item of the longer list
push_case : {X : Type 0} (P : ℕ → X → Type 0) (xs : List X) (y d : X) (n k : ℕ) → (k < n) ⊎ (n ≡ k) → length xs ≡ n → ((j : ℕ) → j < n → P j (get_or xs j d)) → P n y → P k (get_or (xs ++ y ∷ []) k d)
push_case P xs y d n k (inl less) size each last = subst (P k) (sym (get_or_append_left xs (y ∷ []) d k (omega arith))) (each k less)
push_case P xs y d n k (inr same) size each last = subst (λ j. P j (get_or (xs ++ y ∷ []) j d)) (size ∙ same) (subst (P (length xs)) (sym (get_or-append_seam xs y [] d)) (subst (λ j. P j y) (sym size) last))

at_or_before : (k n : ℕ) → k < n + 1 → (k < n) ⊎ (n ≡ k)
at_or_before k n h = elim (cases_lt k n) [ inl less ↦ inl less | inr least ↦ inr (omega arith) ]

pub push_each : {X : Type 0} (P : ℕ → X → Type 0) (xs : List X) (y d : X) (n : ℕ) → length xs ≡ n → ((j : ℕ) → j < n → P j (get_or xs j d)) → P n y → (k : ℕ) → k < n + 1 → P k (get_or (xs ++ y ∷ []) k d)
push_each P xs y d n size each last k less = push_case P xs y d n k (at_or_before k n less) size each last

-- one state more of an impulse response
pub impulse_more : (ring : RingConfig) (channel t : ℕ) (states : List (List Bool)) (state : List Bool) → IsImpulse ring channel t states → length state ≡ ring.stages
    → ((stage : ℕ) → bit_at state stage ≡ state_after ring (single channel 0) t stage) → IsImpulse ring channel (t + 1) (states ++ state ∷ [])
impulse_more ring channel t states state so_far size bits = record {
  count = length-append states (state ∷ []) ∙ omega (arith, so_far.count);
  stages = push_each (λ k (s : List Bool). length s ≡ ring.stages) states state [] t so_far.count so_far.stages size;
  bits = push_each (λ k (s : List Bool). (stage : ℕ) → bit_at s stage ≡ state_after ring (single channel 0) k stage) states state [] t so_far.count so_far.bits bits;
}

pub take_seam : (n : ℕ) (xs ys : List Bool) → n ≡ length xs → take n (xs ++ ys) ≡ xs
take_seam n xs ys size = ap (λ (m : ℕ). take m (xs ++ ys)) size ∙ take-append_seam xs ys

pub bit_at-zeros : (n k : ℕ) → bit_at (replicate n false) k ≡ false
bit_at-zeros n k = zero_bit n k (cases_lt k n)
