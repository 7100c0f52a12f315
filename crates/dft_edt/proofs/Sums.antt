-- Sums of what feeds stages and outputs.
use Rattle.std.proofs.Common.{ℕ, suc, Bool, true, false, List, [], ◌∷◌, ◌≡◌, ◌==◌, ◌<◌, ◌+◌, ◌%◌, refl, ap, arith, map, ◌∙◌}
use Rattle.std.specs.Prelude.{◌&&◌, nat_lt, if◌then◌else◌}
use Rattle.std.proofs.lemmas.Bool.Decides.{nat_tests}
use Rattle.std.proofs.lemmas.List.{map-append}
use Rattle.std.specs.List.{All}
use Rattle.dft_base.specs.declared.tri.Tri.{Tri}
use Rattle.dft_base.specs.Tri.{known}
use Rattle.dft_base.specs.Solutions.{xor}
use Rattle.dft_config.specs.declared.config.Tap.{Tap}
use Rattle.dft_config.specs.declared.config.Injector.{Injector}
use Rattle.dft_config.specs.declared.config.RingConfig.{RingConfig}
use Rattle.dft_config.specs.Ring.{sum_of, tapped, injected, step}
use Rattle.dft_parts.proofs.Trees.{sum_bits_append}
use Rattle.dft_edt.specs.Feeds.{Feed, Stage, Channel, at_feed, tap_feeds, injector_feeds, feeds}
use Rattle.dft_parts.specs.SumTrees.{sum_bits, tri_xor, tri_sum}

-- what feeds and stages have, by a function of their nets
pub at_feeds : {T : Type 0} (w : ℕ → T) (stages channels : ℕ → ℕ) (fs : List Feed) → map w (map (at_feed stages channels) fs) ≡ map (at_feed (λ k. w (stages k)) (λ j. w (channels j))) fs
at_feeds w stages channels [] = refl
at_feeds w stages channels (Stage i ∷ fs) = ap (λ r. w (stages i) ∷ r) (at_feeds w stages channels fs)
at_feeds w stages channels (Channel j ∷ fs) = ap (λ r. w (channels j) ∷ r) (at_feeds w stages channels fs)

pub at_nets : {T : Type 0} (w : ℕ → T) (net : ℕ → ℕ) (ks : List ℕ) → map w (map net ks) ≡ map (λ k. w (net k)) ks
at_nets w net [] = refl
at_nets w net (k ∷ ks) = ap (λ r. w (net k) ∷ r) (at_nets w net ks)

-- ---- a stage's feeds are the step of the ring

pub sum_of_bits : (f : ℕ → Bool) (ks : List ℕ) → sum_bits (map f ks) ≡ sum_of f ks
sum_of_bits f [] = refl
sum_of_bits f (k ∷ ks) = ap (xor (f k)) (sum_of_bits f ks)

fed : (is : Bool) (f : Feed) (fs : List Feed) (s x : ℕ → Bool) → sum_bits (map (at_feed s x) (if is then f ∷ fs else fs)) ≡ xor (is && at_feed s x f) (sum_bits (map (at_feed s x) fs))
fed true f fs s x = refl
fed false f fs s x = refl

taps_fed : (taps : List Tap) (s x : ℕ → Bool) (i : ℕ) → sum_bits (map (at_feed s x) (tap_feeds taps i)) ≡ tapped taps s i
taps_fed [] s x i = refl
taps_fed (tap ∷ taps) s x i =
    fed (tap.to == i) (Stage tap.from) (tap_feeds taps i) s x ∙ ap (xor ((tap.to == i) && s tap.from)) (taps_fed taps s x i)

injectors_fed : (injectors : List Injector) (s x : ℕ → Bool) (i : ℕ) → sum_bits (map (at_feed s x) (injector_feeds injectors i)) ≡ injected injectors x i
injectors_fed [] s x i = refl
injectors_fed (injector ∷ injectors) s x i =
    fed (injector.stage == i) (Channel injector.channel) (injector_feeds injectors i) s x
    ∙ ap (xor ((injector.stage == i) && x injector.channel)) (injectors_fed injectors s x i)

in_range : (i n : ℕ) (b : Bool) → i < n → b ≡ (nat_lt i n && b)
in_range i n b less = grind (arith, nat_tests)

pub feeds_step : (ring : RingConfig) (x s : ℕ → Bool) (i : ℕ) → i < ring.stages → sum_bits (map (at_feed s x) (feeds ring i)) ≡ step ring x s i
unfolding step
feeds_step ring x s i less =
    let next : Bool = s ((i + 1) % ring.stages) in
    ap (λ (fs : List Bool). xor next (sum_bits fs)) (map-append (at_feed s x) (tap_feeds ring.taps i) (injector_feeds ring.injectors i))
    ∙ ap (xor next) (sum_bits_append (map (at_feed s x) (tap_feeds ring.taps i)) (map (at_feed s x) (injector_feeds ring.injectors i)))
    ∙ (λ t. xor next (xor (taps_fed ring.taps s x i t) (injectors_fed ring.injectors s x i t)))
    ∙ in_range i ring.stages (xor next (xor (tapped ring.taps s i) (injected ring.injectors x i))) less

-- ---- sums of known values are known

pub known_xor : (a b : Bool) → tri_xor (known a) (known b) ≡ known (xor a b)
known_xor true true = refl
known_xor true false = refl
known_xor false true = refl
known_xor false false = refl

-- feeds name stages and channels that are there
abbrev pub IsThere : RingConfig → Feed → Type 0
IsThere ring (Stage i) = i < ring.stages
IsThere ring (Channel j) = j < ring.channels

abbrev pub AreThere : RingConfig → List Feed → Type 0
AreThere ring [] = Unit {0}
AreThere ring (f ∷ fs) = IsThere ring f × AreThere ring fs

pub known_feeds : (ring : RingConfig) (s x : ℕ → Tri) (r y : ℕ → Bool) (fs : List Feed) → AreThere ring fs → ((i : ℕ) → i < ring.stages → s i ≡ known (r i)) → ((j : ℕ) → j < ring.channels → x j ≡ known (y j)) →
    tri_sum (map (at_feed s x) fs) ≡ known (sum_bits (map (at_feed r y) fs))
known_feeds ring s x r y [] there p q = refl
known_feeds ring s x r y (Stage i ∷ fs) there p q =
    (λ t. tri_xor (p i there.0 t) (known_feeds ring s x r y fs there.1 p q t)) ∙ known_xor (r i) (sum_bits (map (at_feed r y) fs))
known_feeds ring s x r y (Channel j ∷ fs) there p q =
    (λ t. tri_xor (q j there.0 t) (known_feeds ring s x r y fs there.1 p q t)) ∙ known_xor (y j) (sum_bits (map (at_feed r y) fs))

-- the values of feeds, where those of stages and channels are the same
pub same_feeds : (ring : RingConfig) (s x r y : ℕ → Tri) (fs : List Feed) → AreThere ring fs → ((i : ℕ) → i < ring.stages → s i ≡ r i) → ((j : ℕ) → j < ring.channels → x j ≡ y j) →
    map (at_feed s x) fs ≡ map (at_feed r y) fs
same_feeds ring s x r y [] there p q = refl
same_feeds ring s x r y (Stage i ∷ fs) there p q = λ t. p i there.0 t ∷ same_feeds ring s x r y fs there.1 p q t
same_feeds ring s x r y (Channel j ∷ fs) there p q = λ t. q j there.0 t ∷ same_feeds ring s x r y fs there.1 p q t

-- lists of numbers below a bound
pub known_sum : (n : ℕ) (s : ℕ → Tri) (r : ℕ → Bool) (ks : List ℕ) → All (λ k. k < n) ks → ((i : ℕ) → i < n → s i ≡ known (r i)) → tri_sum (map s ks) ≡ known (sum_of r ks)
known_sum n s r [] below p = refl
known_sum n s r (k ∷ ks) below p =
    (λ t. tri_xor (p k (below 0 k (omega arith)) t) (known_sum n s r ks (λ i y less. below (suc i) y (omega arith)) p t)) ∙ known_xor (r k) (sum_of r ks)

pub same_sum : (n : ℕ) (s r : ℕ → Tri) (ks : List ℕ) → All (λ k. k < n) ks → ((i : ℕ) → i < n → s i ≡ r i) → map s ks ≡ map r ks
same_sum n s r [] below p = refl
same_sum n s r (k ∷ ks) below p = λ t. p k (below 0 k (omega arith)) t ∷ same_sum n s r ks (λ i y less. below (suc i) y (omega arith)) p t

-- two functions that are the same below a bound have the same sum over numbers below it
pub same_sums : (f g : ℕ → Bool) (n : ℕ) (ks : List ℕ) → All (λ k. k < n) ks → ((i : ℕ) → i < n → f i ≡ g i) → sum_of f ks ≡ sum_of g ks
same_sums f g n [] all same = refl
same_sums f g n (k ∷ ks) all same = λ i. xor (same k (all 0 k (omega arith)) i) (same_sums f g n ks (λ j d less. all (suc j) d (omega arith)) same i)
