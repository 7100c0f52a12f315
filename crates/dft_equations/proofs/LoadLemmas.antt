-- Rows of load equations: the first one by impulse responses, and the others moved from it.
use Rattle.std.proofs.Common.{ℕ, suc, Bool, false, ◌≡◌, ◌<◌, ◌≤◌, ◌+◌, ◌*◌, ◌-◌, ◌/◌, ◌%◌, ◌⊎◌, inl, inr, List, [], ◌∷◌, length, get_or, subst, refl, sym, ap, arith, ◌∙◌}
use Rattle.std.specs.List.{All, slice_index}
use Rattle.std.proofs.lemmas.Bool.{cases_lt}
use Rattle.std.proofs.lemmas.Nat.{div_below, mod_below, le-div}
use Rattle.std.proofs.lemmas.List.{get_or_past, get_or_default}
use Rattle.std.proofs.lemmas.List.FromFn.{get_or-map-range_with_len, length-map-range_with_len, fill_by_all}
use Rattle.dft_base.specs.Solutions.{xor, bit_at}
use Rattle.dft_config.specs.declared.config.RingConfig.{RingConfig}
use Rattle.dft_config.specs.Config.{Config}
use Rattle.dft_config.specs.Range.{IsRingInRange, IsSet}
use Rattle.dft_config.specs.Ring.{sum_of, state_after, phase_of}
use Rattle.dft_config.specs.Loads.{channel_of, cycle_of, single, reaches, delay, moment_of_place, load_equation}
use Rattle.dft_config.proofs.Linearity.{delay_small}
use Rattle.dft_equations.specs.Impulses.{IsImpulse, AreImpulses}
use Rattle.dft_equations.specs.LoadRows.{equation_row, AreRowsOf, AreWide}
use Rattle.dft_equations.proofs.ImpulseLemmas.{load_equation-first, load_equation-moved, state_before}

-- the parts of a first row's bit: a channel's response, a state of it, and the stages that the chain takes
pub record IsRead (config : Config) (cycles : ℕ) (late : Bool) (chain column : ℕ) (all : List (List (List Bool))) (response : List (List Bool)) (state : List Bool) (stages : List ℕ) : Type 0 where
  pub range : IsRingInRange config.chains config.ring
  pub impulses : AreImpulses config.ring (suc cycles) all
  pub chain_less : chain < config.chains
  pub column_less : column < cycles * config.ring.channels
  pub response_is : response ≡ get_or all (column % config.ring.channels) response
  pub state_is : state ≡ get_or response (cycles - 1 - column / config.ring.channels + delay late) state
  pub stages_are : stages ≡ get_or config.ring.phase chain stages

channel_less : (config : Config) (column : ℕ) → IsRingInRange config.chains config.ring → column % config.ring.channels < config.ring.channels
channel_less config column range = mod_below column config.ring.channels (omega (arith, range.channels))

pub cycle_less : (config : Config) (cycles column : ℕ) → IsRingInRange config.chains config.ring → column < cycles * config.ring.channels → column / config.ring.channels < cycles
cycle_less config cycles column range less = div_below column config.ring.channels cycles (omega (arith, range.channels)) less

-- how many states a channel's response has
pub response_length : (config : Config) (cycles column : ℕ) (all : List (List (List Bool))) (response : List (List Bool)) → IsRingInRange config.chains config.ring → AreImpulses config.ring (suc cycles) all
    → response ≡ get_or all (column % config.ring.channels) response → length response ≡ suc cycles
response_length config cycles column all response range impulses is =
    let j = column % config.ring.channels in
    let less : j < config.ring.channels = channel_less config column range in
    ap length (is ∙ sym (get_or_default all j [] response (omega (arith, impulses.count, less)))) ∙ (impulses.each j less).count

read_impulse : (config : Config) (cycles : ℕ) (late : Bool) (chain column : ℕ) (all : List (List (List Bool))) (response : List (List Bool)) (state : List Bool) (stages : List ℕ)
    → IsRead config cycles late chain column all response state stages → IsImpulse config.ring (column % config.ring.channels) (suc cycles) response
read_impulse config cycles late chain column all response state stages r =
    let j = column % config.ring.channels in
    let less : j < config.ring.channels = channel_less config column r.range in
    let same : get_or all j [] ≡ response = get_or_default all j [] response (omega (arith, r.impulses.count)) ∙ sym r.response_is in
    subst (IsImpulse config.ring j (suc cycles)) same (r.impulses.each j less)

read_state : (config : Config) (cycles : ℕ) (late : Bool) (chain column : ℕ) (all : List (List (List Bool))) (response : List (List Bool)) (state : List Bool) (stages : List ℕ)
    → IsRead config cycles late chain column all response state stages → get_or response (cycles - 1 - column / config.ring.channels + delay late) [] ≡ state
read_state config cycles late chain column all response state stages r =
    let impulse = read_impulse config cycles late chain column all response state stages r in
    let less = cycle_less config cycles column r.range r.column_less in
    get_or_default response (cycles - 1 - column / config.ring.channels + delay late) [] state (omega (arith, impulse.count, delay_small late)) ∙ sym r.state_is

pub read_within : (config : Config) (cycles : ℕ) (late : Bool) (chain column : ℕ) (all : List (List (List Bool))) (response : List (List Bool)) (state : List Bool) (stages : List ℕ)
    → IsRead config cycles late chain column all response state stages → All (λ stage. stage < length state) stages
read_within config cycles late chain column all response state stages r k d less =
    let impulse = read_impulse config cycles late chain column all response state stages r in
    let before = cycle_less config cycles column r.range r.column_less in
    let m = cycles - 1 - column / config.ring.channels + delay late in
    let size : length state ≡ config.ring.stages = ap length (sym (read_state config cycles late chain column all response state stages r)) ∙ impulse.stages m (omega (arith, delay_small late)) in
    let set : IsSet config.ring.stages stages = subst (IsSet config.ring.stages) (sym r.stages_are) (r.range.phase chain stages (omega (arith, r.range.phases, r.chain_less))) in
    let below : get_or stages k d < config.ring.stages = set.below k d less in
    omega arith

pub read_bit : (config : Config) (cycles : ℕ) (late : Bool) (chain column : ℕ) (all : List (List (List Bool))) (response : List (List Bool)) (state : List Bool) (stages : List ℕ)
    → IsRead config cycles late chain column all response state stages → sum_of (bit_at state) stages ≡ load_equation config.ring cycles late chain 0 column
read_bit config cycles late chain column all response state stages r =
    let impulse = read_impulse config cycles late chain column all response state stages r in
    let before = cycle_less config cycles column r.range r.column_less in
    let m = cycles - 1 - column / config.ring.channels + delay late in
    let same = read_state config cycles late chain column all response state stages r in
    let phase : stages ≡ phase_of config.ring chain = r.stages_are ∙ get_or_default config.ring.phase chain stages [] (omega (arith, r.range.phases, r.chain_less)) in
    (λ t. sum_of (λ stage. (ap (λ (l : List Bool). bit_at l stage) (sym same) ∙ impulse.bits m (omega (arith, delay_small late)) stage) t) (phase t))
    ∙ sym (load_equation-first config.ring cycles late chain column before)

-- a load equation holds no column past the cycles
sum_of_none : (stages : List ℕ) (s : ℕ → Bool) → ((i : ℕ) → s i ≡ false) → sum_of s stages ≡ false
sum_of_none [] s none = refl
sum_of_none (stage ∷ stages) s none = λ t. xor (none stage t) (sum_of_none stages s none t)

load_equation-past : (ring : RingConfig) (cycles : ℕ) (late : Bool) (chain place column : ℕ) → 0 < ring.channels → place < cycles → cycles * ring.channels ≤ column → load_equation ring cycles late chain place column ≡ false
unfolding reaches
load_equation-past ring cycles late chain place column some less past =
    let after : cycles ≤ cycle_of ring column = le-div cycles column ring.channels some past in
    sum_of_none (phase_of ring chain) (state_after ring (single (channel_of ring column) (cycle_of ring column)) (moment_of_place cycles late place))
    (state_before ring (channel_of ring column) (cycle_of ring column) (moment_of_place cycles late place) (omega (arith, delay_small late)))

bit_case : (ring : RingConfig) (cycles : ℕ) (late : Bool) (chain place q : ℕ) → 0 < ring.channels → place < cycles → (q < cycles * ring.channels) ⊎ (cycles * ring.channels ≤ q)
    → bit_at (equation_row ring cycles late chain place) q ≡ load_equation ring cycles late chain place q
bit_case ring cycles late chain place q some within (inl less) =
    get_or-map-range_with_len (load_equation ring cycles late chain place) 0 (cycles * ring.channels) q q false less (omega arith)
bit_case ring cycles late chain place q some within (inr past) =
    let size = length-map-range_with_len (load_equation ring cycles late chain place) 0 (cycles * ring.channels) in
    get_or_past (equation_row ring cycles late chain place) q false (omega arith) ∙ sym (load_equation-past ring cycles late chain place q some within past)

bit_at-equation_row : (ring : RingConfig) (cycles : ℕ) (late : Bool) (chain place q : ℕ) → 0 < ring.channels → place < cycles → bit_at (equation_row ring cycles late chain place) q ≡ load_equation ring cycles late chain place q
bit_at-equation_row ring cycles late chain place q some within = bit_case ring cycles late chain place q some within (cases_lt q (cycles * ring.channels))

-- the first row, moved down by a place's columns, is the place's row
pub moved_row : (ring : RingConfig) (cycles : ℕ) (late : Bool) (chain place : ℕ) (first row : List Bool) → 0 < ring.channels → place < cycles → first ≡ equation_row ring cycles late chain 0
    → length row ≡ length first → ((column : ℕ) → bit_at row column ≡ bit_at first (column + place * ring.channels)) → row ≡ equation_row ring cycles late chain place
moved_row ring cycles late chain place first row some less first_is size bits =
    let n = cycles * ring.channels in
    fill_by_all (load_equation ring cycles late chain place) row n false
    (size ∙ ap length first_is ∙ length-map-range_with_len (load_equation ring cycles late chain 0) 0 n)
    (λ column within. bits column
    ∙ ap (λ (l : List Bool). bit_at l (column + place * ring.channels)) first_is
    ∙ bit_at-equation_row ring cycles late chain 0 (column + place * ring.channels) some (omega (arith, less))
    ∙ sym (load_equation-moved ring cycles late chain place column some less))

-- each row has a bit for each column
pub rows_wide : (ring : RingConfig) (cycles columns : ℕ) (late : ℕ → Bool) (lengths : List ℕ) (chains : List (List (List Bool))) → columns ≡ cycles * ring.channels
    → ((chain : ℕ) → chain < length chains → AreRowsOf ring cycles (late chain) chain (slice_index lengths chain) (get_or chains chain [])) → AreWide columns chains
rows_wide ring cycles columns late lengths chains size each chain place chain_less place_less =
    let rows = each chain chain_less in
    ap length (rows.each place (omega (arith, rows.count))) ∙ length-map-range_with_len (load_equation ring cycles (late chain) chain place) 0 (cycles * ring.channels) ∙ sym size
