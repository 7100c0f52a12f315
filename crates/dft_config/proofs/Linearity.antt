-- The ring is linear: its state is the sum of the states that single channel bits bring.
use Rattle.std.proofs.Common.{ℕ, zero, suc, Bool, true, false, ◌≡◌, ◌≢◌, ◌<◌, ◌≤◌, ◌+◌, ◌*◌, ◌%◌, List, [], ◌∷◌, refl, sym, ap, arith, ◌∙◌}
use Rattle.std.proofs.lemmas.Nat.{div-mul-add, mod-mul-add, div-add-mod', mul-add-lt}
use Rattle.std.proofs.lemmas.Bool.Decides.{nat_tests}
use Rattle.std.specs.Prelude.{◌&&◌, ◌==◌, nat_lt}
use Rattle.std.specs.List.{All}
use Rattle.dft_base.specs.Solutions.{xor}
use Rattle.dft_base.proofs.SumLemmas.{weighed, weighed_zero, weighed_add, weighed_and, sum_one}
use Rattle.dft_config.specs.declared.config.Tap.{Tap}
use Rattle.dft_config.specs.declared.config.Injector.{Injector}
use Rattle.dft_config.specs.declared.config.RingConfig.{RingConfig}
use Rattle.dft_config.specs.Ring.{sum_of, tapped, injected, step, Table, state_after, phase_of}
use Rattle.dft_config.specs.Loads.{channel_of, cycle_of, bit_of_column, single, reaches, delay, moment_of_place, LoadsAreSums}

pub sum_of_same : {T : Type 0} (f h : T → Bool) (xs : List T) → ((x : T) → f x ≡ h x) → sum_of f xs ≡ sum_of h xs
sum_of_same f h xs same = λ t. sum_of (λ x. same x t) xs

pub weighed_sum_of : {T : Type 0} (n : ℕ) (x : ℕ → Bool) (f : T → ℕ → Bool) (ys : List T) → weighed n x (λ c. sum_of (λ y. f y c) ys) ≡ sum_of (λ y. weighed n x (f y)) ys
weighed_sum_of n x f [] = weighed_zero n x
weighed_sum_of n x f (y ∷ ys) = weighed_add n x (f y) (λ c. sum_of (λ z. f z c) ys) ∙ ap (xor (weighed n x (f y))) (weighed_sum_of n x f ys)

-- a step of a sum is the sum of the steps
weighed_tapped : (n : ℕ) (x : ℕ → Bool) (taps : List Tap) (s : ℕ → ℕ → Bool) (i : ℕ) → weighed n x (λ c. tapped taps (s c) i) ≡ tapped taps (λ m. weighed n x (λ c. s c m)) i
weighed_tapped n x taps s i =
    weighed_sum_of n x (λ (tap : Tap) c. (tap.to == i) && s c tap.from) taps
    ∙ sum_of_same (λ (tap : Tap). weighed n x (λ c. (tap.to == i) && s c tap.from)) (λ (tap : Tap). (tap.to == i) && weighed n x (λ c. s c tap.from)) taps
    (λ tap. weighed_and n x (tap.to == i) (λ c. s c tap.from))

weighed_injected : (n : ℕ) (x : ℕ → Bool) (injectors : List Injector) (b : ℕ → ℕ → Bool) (i : ℕ) → weighed n x (λ c. injected injectors (b c) i) ≡ injected injectors (λ j. weighed n x (λ c. b c j)) i
weighed_injected n x injectors b i =
    weighed_sum_of n x (λ (injector : Injector) c. (injector.stage == i) && b c injector.channel) injectors
    ∙ sum_of_same (λ (injector : Injector). weighed n x (λ c. (injector.stage == i) && b c injector.channel)) (λ (injector : Injector). (injector.stage == i) && weighed n x (λ c. b c injector.channel)) injectors
    (λ injector. weighed_and n x (injector.stage == i) (λ c. b c injector.channel))

weighed_step : (n : ℕ) (x : ℕ → Bool) (ring : RingConfig) (b s : ℕ → ℕ → Bool) (i : ℕ) → weighed n x (λ c. step ring (b c) (s c) i) ≡ step ring (λ j. weighed n x (λ c. b c j)) (λ m. weighed n x (λ c. s c m)) i
unfolding step
weighed_step n x ring b s i =
    let next = λ (c : ℕ). s c ((i + 1) % ring.stages) in
    let by_taps = λ (c : ℕ). tapped ring.taps (s c) i in
    let by_injectors = λ (c : ℕ). injected ring.injectors (b c) i in
    weighed_and n x (nat_lt i ring.stages) (λ c. xor (next c) (xor (by_taps c) (by_injectors c)))
    ∙ ap (λ (e : Bool). nat_lt i ring.stages && e)
    (weighed_add n x next (λ c. xor (by_taps c) (by_injectors c))
    ∙ ap (xor (weighed n x next)) (weighed_add n x by_taps by_injectors
    ∙ (λ t. xor (weighed_tapped n x ring.taps s i t) (weighed_injected n x ring.injectors b i t))))

-- only the channels that injectors name are read
injected_same : (channels : ℕ) (injectors : List Injector) (b h : ℕ → Bool) (i : ℕ) → All (λ (injector : Injector). injector.channel < channels) injectors → ((j : ℕ) → j < channels → b j ≡ h j) → injected injectors b i ≡ injected injectors h i
injected_same channels [] b h i below same = refl
injected_same channels (injector ∷ injectors) b h i below same =
    λ t. xor ((injector.stage == i) && same injector.channel (below 0 injector (omega arith)) t)
    (injected_same channels injectors b h i (λ k d less. below (suc k) d (omega arith)) same t)

step_same : (ring : RingConfig) (b h s : ℕ → Bool) (i : ℕ) → All (λ (injector : Injector). injector.channel < ring.channels) ring.injectors → ((j : ℕ) → j < ring.channels → b j ≡ h j) → step ring b s i ≡ step ring h s i
unfolding step
step_same ring b h s i below same = λ t. nat_lt i ring.stages && xor (s ((i + 1) % ring.stages)) (xor (tapped ring.taps s i) (injected_same ring.channels ring.injectors b h i below same t))

-- of the single tables of all columns, one has the variable of a channel at a cycle
other_column : (ring : RingConfig) (x : ℕ → Bool) (j t c : ℕ) → c ≢ t * ring.channels + j → single (channel_of ring c) (cycle_of ring c) j t && x c ≡ false
other_column ring x j t c other = let whole = div-add-mod' c ring.channels in grind (arith, nat_tests)

own_column : (ring : RingConfig) (table : Table) (j t : ℕ) (x : Bool) → single j t j t && x ≡ x
own_column ring table j t x = grind (arith, nat_tests)

weighed_single : (ring : RingConfig) (table : Table) (cycles j t : ℕ) → j < ring.channels → t < cycles
    → weighed (cycles * ring.channels) (bit_of_column ring table) (λ c. single (channel_of ring c) (cycle_of ring c) j t) ≡ table j t
weighed_single ring table cycles j t j_less t_less =
    let q = t * ring.channels + j in
    let x = bit_of_column ring table in
    let channel : channel_of ring q ≡ j = mod-mul-add t ring.channels j j_less in
    let cycle : cycle_of ring q ≡ t = div-mul-add t ring.channels j j_less in
    let place : q < cycles * ring.channels = omega (arith, mul-add-lt t ring.channels j cycles t_less j_less) in
    sum_one (cycles * ring.channels) q (λ c. single (channel_of ring c) (cycle_of ring c) j t && x c) place (other_column ring x j t)
    ∙ (λ i. single (channel i) (cycle i) j t && table (channel i) (cycle i))
    ∙ own_column ring table j t (table j t)

pub weighed_state : (ring : RingConfig) (table : Table) (cycles t : ℕ) → All (λ (injector : Injector). injector.channel < ring.channels) ring.injectors → t ≤ cycles → (i : ℕ)
    → weighed (cycles * ring.channels) (bit_of_column ring table) (λ c. state_after ring (single (channel_of ring c) (cycle_of ring c)) t i) ≡ state_after ring table t i
unfolding state_after
weighed_state ring table cycles zero below within i = weighed_zero (cycles * ring.channels) (bit_of_column ring table)
weighed_state ring table cycles (suc t) below within i =
    let n = cycles * ring.channels in
    let x = bit_of_column ring table in
    let bits = λ (c : ℕ). λ (j : ℕ). single (channel_of ring c) (cycle_of ring c) j t in
    let states = λ (c : ℕ). state_after ring (single (channel_of ring c) (cycle_of ring c)) t in
    weighed_step n x ring bits states i
    ∙ (λ e. step ring (λ j. weighed n x (λ c. bits c j)) (λ m. weighed_state ring table cycles t below (omega arith) m e) i)
    ∙ step_same ring (λ j. weighed n x (λ c. bits c j)) (λ j. table j t) (state_after ring table t) i below
    (λ j less. weighed_single ring table cycles j t less (omega arith))

-- the bits of a late chain come one cycle later
pub delay_small : (late : Bool) → delay late ≤ 1
unfolding delay
delay_small true = omega arith
delay_small false = omega arith

pub delay_none : delay false ≡ 0
unfolding delay
delay_none = refl

pub delay_late : delay true ≡ 1
unfolding delay
delay_late = refl

pub loads_sum : LoadsAreSums
unfolding reaches
loads_sum config table cycles late chain place range chain_less place_less =
    let ring = config.ring in
    let t = moment_of_place cycles late place in
    let n = cycles * ring.channels in
    let x = bit_of_column ring table in
    let below : All (λ (injector : Injector). injector.channel < ring.channels) ring.injectors = λ k d less. (range.ring.injectors k d less).0 in
    let states = λ (c : ℕ). state_after ring (single (channel_of ring c) (cycle_of ring c)) t in
    sym (weighed_sum_of n x (λ i c. states c i) (phase_of ring chain)
    ∙ sum_of_same (λ i. weighed n x (λ c. states c i)) (state_after ring table t) (phase_of ring chain)
    (weighed_state ring table cycles t below (omega (arith, delay_small late))))
