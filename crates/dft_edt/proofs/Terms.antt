-- The nets that stages and chains sum.
use Rattle.std.proofs.Common.{ℕ, ◌+◌, ◌%◌, ◌<◌, ◌≤◌, ◌≡◌, ◌==◌, Bool, true, false, List, [], ◌∷◌, ◌++◌, length, map, drop, refl, sym, ap, arith, ◌∙◌}
use Rattle.std.specs.Prelude.{if◌then◌else◌}
use Rattle.std.specs.List.{All}
use Rattle.std.proofs.lemmas.List.{append-nil, map-append}
use Rattle.std.proofs.lemmas.List.Elements.{All-append, All-cons, All-head, All-tail}
use Rattle.dft_base.proofs.ListLemmas.{drop_over}
use Rattle.dft_netlist.specs.declared.ids.NetId.{NetId}
use Rattle.dft_config.specs.declared.config.Tap.{Tap}
use Rattle.dft_config.specs.declared.config.Injector.{Injector}
use Rattle.dft_config.specs.declared.config.RingConfig.{RingConfig}
use Rattle.dft_parts.specs.Recipes.{net_at}
use Rattle.dft_edt.specs.Feeds.{Feed, Stage, Channel, at_feed, tap_feeds, injector_feeds, feeds}
use Rattle.dft_edt.specs.RingRecipe.{tap_nets, injector_nets, stage_terms}

-- ---- taps take no channel, injectors no stage

picked : {T : Type 0} (b : Bool) (f : Feed → T) (feed : Feed) (fs : List Feed) → map f (if b then feed ∷ fs else fs) ≡ (if b then f feed ∷ map f fs else map f fs)
picked true f feed fs = refl
picked false f feed fs = refl

pub taps_any : (taps : List Tap) (stages channels others : List NetId) (stage : ℕ) → map (at_feed (net_at stages) (net_at channels)) (tap_feeds taps stage) ≡ map (at_feed (net_at stages) (net_at others)) (tap_feeds taps stage)
taps_any [] stages channels others stage = refl
taps_any (tap ∷ taps) stages channels others stage =
    picked (tap.to == stage) (at_feed (net_at stages) (net_at channels)) (Stage tap.from) (tap_feeds taps stage)
    ∙ ap (λ (rest : List NetId). if tap.to == stage then net_at stages tap.from ∷ rest else rest) (taps_any taps stages channels others stage)
    ∙ sym (picked (tap.to == stage) (at_feed (net_at stages) (net_at others)) (Stage tap.from) (tap_feeds taps stage))

pub injectors_any : (injectors : List Injector) (stages others channels : List NetId) (stage : ℕ) →
    map (at_feed (net_at stages) (net_at channels)) (injector_feeds injectors stage) ≡ map (at_feed (net_at others) (net_at channels)) (injector_feeds injectors stage)
injectors_any [] stages others channels stage = refl
injectors_any (injector ∷ injectors) stages others channels stage =
    picked (injector.stage == stage) (at_feed (net_at stages) (net_at channels)) (Channel injector.channel) (injector_feeds injectors stage)
    ∙ ap (λ (rest : List NetId). if injector.stage == stage then net_at channels injector.channel ∷ rest else rest) (injectors_any injectors stages others channels stage)
    ∙ sym (picked (injector.stage == stage) (at_feed (net_at others) (net_at channels)) (Channel injector.channel) (injector_feeds injectors stage))

-- the terms of a stage, part by part
pub terms_of : (ring : RingConfig) (channels stages : List NetId) (stage : ℕ) (next : NetId) → next ≡ net_at stages ((stage + 1) % ring.stages) →
    (next ∷ []) ++ (tap_nets ring.taps stages stage ++ injector_nets ring.injectors channels stage) ≡ stage_terms ring channels stages stage
terms_of ring channels stages stage next is =
    (λ i. is i ∷ (taps_any ring.taps stages [] channels stage i ++ injectors_any ring.injectors [] stages channels stage i))
    ∙ ap (λ (rest : List NetId). net_at stages ((stage + 1) % ring.stages) ∷ rest) (sym (map-append (at_feed (net_at stages) (net_at channels)) (tap_feeds ring.taps stage) (injector_feeds ring.injectors stage)))

-- ---- bounds

none_below : (bound : ℕ) → All (λ (net : NetId). net.0 < bound) []
none_below bound k d less = absurd (omega (arith, less))

pub set_below : (bound : ℕ) (stages : List NetId) (set : List ℕ) → All (λ net. net.0 < bound) stages → All (λ k. k < length stages) set → All (λ (net : NetId). net.0 < bound) (map (net_at stages) set)
set_below bound stages [] h k = none_below bound
set_below bound stages (x ∷ set) h k =
    All-cons (λ (net : NetId). net.0 < bound) (net_at stages x) (map (net_at stages) set) (h x (record { 0 = 0 }) (All-head (λ (i : ℕ). i < length stages) x set k))
    (set_below bound stages set h (All-tail (λ (i : ℕ). i < length stages) x set k))

-- a feed that is there
abbrev IsBelow : (stages channels : List NetId) → Feed → Type 0
IsBelow stages channels (Stage i) = i < length stages
IsBelow stages channels (Channel j) = j < length channels

feeds_below : (bound : ℕ) (stages channels : List NetId) (fs : List Feed) → All (λ net. net.0 < bound) stages → All (λ net. net.0 < bound) channels → All (IsBelow stages channels) fs →
    All (λ (net : NetId). net.0 < bound) (map (at_feed (net_at stages) (net_at channels)) fs)
feeds_below bound stages channels [] s c h = none_below bound
feeds_below bound stages channels (Stage i ∷ fs) s c h =
    All-cons (λ (net : NetId). net.0 < bound) (net_at stages i) (map (at_feed (net_at stages) (net_at channels)) fs) (s i (record { 0 = 0 }) (All-head (IsBelow stages channels) (Stage i) fs h))
    (feeds_below bound stages channels fs s c (All-tail (IsBelow stages channels) (Stage i) fs h))
feeds_below bound stages channels (Channel j ∷ fs) s c h =
    All-cons (λ (net : NetId). net.0 < bound) (net_at channels j) (map (at_feed (net_at stages) (net_at channels)) fs) (c j (record { 0 = 0 }) (All-head (IsBelow stages channels) (Channel j) fs h))
    (feeds_below bound stages channels fs s c (All-tail (IsBelow stages channels) (Channel j) fs h))

kept : (P : Feed → Type 0) (b : Bool) (f : Feed) (fs : List Feed) → P f → All P fs → All P (if b then f ∷ fs else fs)
kept P true f fs h k = All-cons P f fs h k
kept P false f fs h k = k

taps_below : (stages channels : List NetId) (taps : List Tap) (stage : ℕ) → All (λ tap. tap.from < length stages) taps → All (IsBelow stages channels) (tap_feeds taps stage)
taps_below stages channels [] stage h = λ k d less. absurd (omega (arith, less))
taps_below stages channels (tap ∷ taps) stage h =
    kept (IsBelow stages channels) (tap.to == stage) (Stage tap.from) (tap_feeds taps stage) (All-head (λ (t : Tap). t.from < length stages) tap taps h)
    (taps_below stages channels taps stage (All-tail (λ (t : Tap). t.from < length stages) tap taps h))

injectors_below : (stages channels : List NetId) (injectors : List Injector) (stage : ℕ) → All (λ injector. injector.channel < length channels) injectors → All (IsBelow stages channels) (injector_feeds injectors stage)
injectors_below stages channels [] stage h = λ k d less. absurd (omega (arith, less))
injectors_below stages channels (injector ∷ injectors) stage h =
    kept (IsBelow stages channels) (injector.stage == stage) (Channel injector.channel) (injector_feeds injectors stage) (All-head (λ (t : Injector). t.channel < length channels) injector injectors h)
    (injectors_below stages channels injectors stage (All-tail (λ (t : Injector). t.channel < length channels) injector injectors h))

pub terms_below : (bound : ℕ) (ring : RingConfig) (channels stages : List NetId) (stage : ℕ) → (stage + 1) % ring.stages < length stages → All (λ tap. tap.from < length stages) ring.taps → All (λ injector. injector.channel < length channels) ring.injectors →
    All (λ net. net.0 < bound) stages → All (λ net. net.0 < bound) channels → All (λ (net : NetId). net.0 < bound) (stage_terms ring channels stages stage)
terms_below bound ring channels stages stage next taps injectors s c =
    feeds_below bound stages channels (feeds ring stage) s c
    (All-cons (IsBelow stages channels) (Stage ((stage + 1) % ring.stages)) (tap_feeds ring.taps stage ++ injector_feeds ring.injectors stage) next
    (All-append (IsBelow stages channels) (tap_feeds ring.taps stage) (injector_feeds ring.injectors stage) (taps_below stages channels ring.taps stage taps) (injectors_below stages channels ring.injectors stage injectors)))

-- ---- lists as they are made

pub terms_made : (ring : RingConfig) (channels stages : List NetId) (stage : ℕ) (next : NetId) (taps : List Tap) (injectors : List Injector) (a b c d : List NetId) → (is : next ≡ net_at stages ((stage + 1) % ring.stages)) → (same_taps : taps ≡ ring.taps) → (same_injectors : injectors ≡ ring.injectors) →
    (none : a ≡ []) → (first : b ≡ a ++ next ∷ []) → (second : c ≡ b ++ tap_nets taps stages stage) → (third : d ≡ c ++ injector_nets injectors channels stage) → d ≡ stage_terms ring channels stages stage
terms_made ring channels stages stage next taps injectors a b c d is same_taps same_injectors none first second third =
    third
    ∙ (λ i. second i ++ injector_nets (same_injectors i) channels stage)
    ∙ (λ i. (first i ++ tap_nets (same_taps i) stages stage) ++ injector_nets ring.injectors channels stage)
    ∙ (λ i. ((none i ++ next ∷ []) ++ tap_nets ring.taps stages stage) ++ injector_nets ring.injectors channels stage)
    ∙ terms_of ring channels stages stage next is

pub set_made : (stages terms : List NetId) (set : List ℕ) (i : ℕ) → length set ≤ i → terms ++ map (net_at stages) (drop i set) ≡ map (net_at stages) set → terms ≡ map (net_at stages) set
set_made stages terms set i past h = sym (append-nil terms) ∙ ap (λ (xs : List ℕ). terms ++ map (net_at stages) xs) (sym (drop_over set i past)) ∙ h
