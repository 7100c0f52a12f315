-- The rings that are made: taps by a primitive polynomial, and injectors (Mrugalski, Rajski and Tyszer, Ring generators, 2004).
use Rattle.std.specs.Prelude.{ℕ, ◌≡◌, ◌<◌, ◌+◌, ◌-◌, ◌*◌, ◌/◌, ◌%◌, ◌==◌, Bool, not, ◌&&◌, List, [], ◌∷◌, length, map, take, find, get_or, min, Option, Some, if◌then◌else◌}
use Rattle.std.specs.List.{list_any, range_with_len}
use Rattle.dft_config.specs.declared.config.Tap.{Tap}
use Rattle.dft_config.specs.declared.config.Injector.{Injector}

-- The exponents between the first and the last term of the polynomial of so many stages: x^8 + x^5 + x^3 + x + 1 is primitive.
abbrev pub exponents : (stages : ℕ) → List ℕ
exponents stages =
    if stages == 8 then 5 ∷ 3 ∷ 1 ∷ []
    else (if stages == 16 then 10 ∷ 7 ∷ 4 ∷ []
    else (if stages == 24 then 17 ∷ 14 ∷ 6 ∷ []
    else (if stages == 32 then 25 ∷ 15 ∷ 7 ∷ []
    else (if stages == 48 then 33 ∷ 23 ∷ 11 ∷ []
    else (if stages == 64 then 45 ∷ 31 ∷ 14 ∷ []
    else (if stages == 96 then 71 ∷ 47 ∷ 21 ∷ []
    else (if stages == 128 then 95 ∷ 66 ∷ 29 ∷ []
    else [])))))))

-- the stage at which the tap of an exponent leaves
abbrev pub middle : (stages exponent : ℕ) → ℕ
middle stages exponent = (stages - exponent) / 2

-- the tap of an exponent: with it so many stages make a loop
abbrev pub tap_of : (stages exponent : ℕ) → Tap
tap_of stages exponent = record { from = middle stages exponent; to = middle stages exponent + (exponent - 1) }

-- the taps of a ring, in the order of the exponents
unfoldable pub taps_of : (stages : ℕ) → List Tap
taps_of stages = map (tap_of stages) (exponents stages)

-- ---- injectors

-- how many injectors each channel has: four, or fewer where they would not all find a stage
abbrev pub injectors_each : (stages channels : ℕ) → ℕ
injectors_each stages channels = min 4 ((stages - 3) / channels)

-- how many there are
abbrev pub injector_count : (stages channels : ℕ) → ℕ
injector_count stages channels = channels * injectors_each stages channels

-- whether a tap enters at a stage, and whether an injector stands there
abbrev pub is_entered : List Tap → (stage : ℕ) → Bool
is_entered taps stage = list_any (λ tap. tap.to == stage) taps

abbrev pub is_held : List Injector → (stage : ℕ) → Bool
is_held injectors stage = list_any (λ injector. injector.stage == stage) injectors

-- whether an injector may stand at a stage after these
abbrev pub is_free : List Tap → (before : List Injector) → (stage : ℕ) → Bool
is_free taps before stage = not (is_entered taps stage) && not (is_held before stage)

-- the stages from one on, once around the ring
abbrev pub around : (stages start : ℕ) → List ℕ
around stages start = map (λ distance. (start + distance) % stages) (range_with_len 0 stages)

-- the first stage from one on where an injector may stand
abbrev pub first_free : (stages : ℕ) → List Tap → (before : List Injector) → (start : ℕ) → Option ℕ
first_free stages taps before start = find (is_free taps before) (around stages start)

-- where the search for an injector's stage begins: they are spread evenly
abbrev pub start_of : (stages channels number : ℕ) → ℕ
start_of stages channels number = number * stages / injector_count stages channels

-- this is the injector of this number, after those before it
pub record IsInjector (stages channels : ℕ) (before : List Injector) (number : ℕ) (injector : Injector) : Type 0 where
  pub channel : injector.channel ≡ number / injectors_each stages channels
  pub stage : first_free stages (taps_of stages) before (start_of stages channels number) ≡ Some injector.stage

-- the injector at a place
abbrev pub injector_at : List Injector → ℕ → Injector
injector_at injectors number = get_or injectors number (record { channel = 0; stage = 0 })

-- these are the first so many injectors of a ring: each stands at the first stage that is free
pub record AreFirstInjectors (stages channels first : ℕ) (injectors : List Injector) : Type 0 where
  pub count : length injectors ≡ first
  pub each : (number : ℕ) → number < first → IsInjector stages channels (take number injectors) number (injector_at injectors number)

-- these are all of them
abbrev pub AreInjectors : (stages channels : ℕ) → List Injector → Type 0
AreInjectors stages channels injectors = AreFirstInjectors stages channels (injector_count stages channels) injectors
