-- The bits of a load, place by place and chain by chain.
use Rattle.std.proofs.Common.{ℕ, zero, suc, Bool, List, [], ◌∷◌, ◌++◌, ◌≡◌, ◌<◌, ◌≤◌, ◌+◌, ◌-◌, refl, sym, ap, subst, arith, map, drop, length, append_assoc, append-nil, Some, ◌∙◌}
use Rattle.std.specs.Prelude.{slice_get, flat_map}
use Rattle.std.specs.List.{All, range_with_len, enumerate_from}
use Rattle.std.proofs.lemmas.List.{drop_all}
use Rattle.std.proofs.lemmas.List.Elements.{All-get_or}
use Rattle.std.proofs.lemmas.Option.{get_or_from_slice_get, slice_get_within}
use Rattle.std.proofs.lemmas.List.FromFn.{map-range_with_len_more}
use Rattle.dft_base.specs.Solutions.{bit_at}
use Rattle.dft_base.proofs.ListLemmas.{drop_at}
use Rattle.dft_netlist.specs.declared.ids.InstanceId.{InstanceId}
use Rattle.dft_config.specs.declared.config.RingConfig.{RingConfig}
use Rattle.dft_config.specs.Ring.{Table, sum_of, phase_of, phase_sum}
use Rattle.dft_config.specs.Loads.{moment_of_place}
use Rattle.dft_config.proofs.Linearity.{delay_small}
use Rattle.dft_expect.specs.Loaded.{loaded_bit, loaded_chain, loaded_of}
use Rattle.dft_expect.specs.States.{state_at, AreStates, HaveStages, brought}

pub grown : (f : ℕ → Bool) (old so_far new : List Bool) (k : ℕ) (b : Bool) → so_far ≡ old ++ map f (range_with_len 0 k) → new ≡ so_far ++ b ∷ [] → b ≡ f k → new ≡ old ++ map f (range_with_len 0 (k + 1))
grown f old so_far new k b before more is =
    more ∙ (λ i. before i ++ is i ∷ []) ∙ append_assoc old (map f (range_with_len 0 k)) (f k ∷ []) ∙ ap (λ (l : List Bool). old ++ l) (sym (map-range_with_len_more f 0 k k (omega arith)))

-- two functions that agree on a range give the same there
map_within : (f g : ℕ → Bool) (a n : ℕ) → ((k : ℕ) → k < a + n → f k ≡ g k) → map f (range_with_len a n) ≡ map g (range_with_len a n)
map_within f g a zero same = refl
map_within f g a (suc n) same = λ i. same a (omega arith) i ∷ map_within f g (a + 1) n (λ k less. same k (omega arith)) i

bit_brought : (ring : RingConfig) (table : Table) (cycles : ℕ) (late : Bool) (chain place : ℕ) (states : List (List Bool)) → AreStates ring table (cycles + 1) states → place < cycles → brought ring states late chain place ≡ loaded_bit ring table cycles late chain place
bit_brought ring table cycles late chain place states are less =
    let state = are.each (moment_of_place cycles late place) (omega (arith, delay_small late)) in
    let count : length states - 1 ≡ cycles = omega (arith, are.count) in
    ap (λ (n : ℕ). phase_sum ring chain (bit_at (state_at states (moment_of_place n late place)))) count ∙ (λ i. sum_of (λ stage. state.bits stage i) (phase_of ring chain))

pub chain_brought : (ring : RingConfig) (table : Table) (cycles : ℕ) (late : Bool) (chain cells : ℕ) (states : List (List Bool)) → AreStates ring table (cycles + 1) states → cells ≤ cycles → map (brought ring states late chain) (range_with_len 0 cells) ≡ loaded_chain ring table cycles late chain cells
chain_brought ring table cycles late chain cells states are fits =
    map_within (brought ring states late chain) (loaded_bit ring table cycles late chain) 0 cells (λ place less. bit_brought ring table cycles late chain place states are (omega arith))

pub have_stages : (ring : RingConfig) (table : Table) (cycles : ℕ) (states : List (List Bool)) → AreStates ring table cycles states → HaveStages ring states
have_stages ring table cycles states are = λ t less. (are.each t (omega (arith, are.count))).stages

-- ---- chain by chain

abbrev pub bits_in : RingConfig → Table → (cycles : ℕ) (late : ℕ → Bool) → ℕ × List InstanceId → List Bool
bits_in ring table cycles late chain = loaded_chain ring table cycles (late chain.0) chain.0 (length chain.1)

-- the bits so far, with those of the chains from a place on
abbrev pub IsLoading : RingConfig → Table → (cycles : ℕ) (late : ℕ → Bool) → List (List InstanceId) → (k : ℕ) → (loaded : List Bool) → Type 0
IsLoading ring table cycles late chains k loaded = loaded ++ flat_map (bits_in ring table cycles late) (enumerate_from k (drop k chains)) ≡ loaded_of ring table cycles late chains

pub loading_goes_on : (ring : RingConfig) (table : Table) (cycles : ℕ) (late : ℕ → Bool) (chains : List (List InstanceId)) (k : ℕ) (cells : List InstanceId) (old new : List Bool) → slice_get chains k ≡ Some cells
    → IsLoading ring table cycles late chains k old → new ≡ old ++ loaded_chain ring table cycles (late k) k (length cells) → IsLoading ring table cycles late chains (k + 1) new
loading_goes_on ring table cycles late chains k cells old new at before more =
    let g = bits_in ring table cycles late in
    let rest = flat_map g (enumerate_from (k + 1) (drop (k + 1) chains)) in
    ap (λ (l : List Bool). l ++ rest) more ∙ append_assoc old (loaded_chain ring table cycles (late k) k (length cells)) rest
    ∙ ap (λ (l : List (List InstanceId)). old ++ flat_map g (enumerate_from k l)) (sym (drop_at chains k cells at)) ∙ before

pub loading_ends : (ring : RingConfig) (table : Table) (cycles : ℕ) (late : ℕ → Bool) (chains : List (List InstanceId)) (k : ℕ) (loaded : List Bool) → length chains ≤ k → IsLoading ring table cycles late chains k loaded → loaded ≡ loaded_of ring table cycles late chains
loading_ends ring table cycles late chains k loaded past is =
    sym (append-nil loaded) ∙ ap (λ (l : List (List InstanceId)). loaded ++ flat_map (bits_in ring table cycles late) (enumerate_from k l)) (sym (drop_all k chains past)) ∙ is

pub chain_fits : (cycles : ℕ) (chains : List (List InstanceId)) (k : ℕ) (cells : List InstanceId) → All (λ c. length c ≤ cycles) chains → slice_get chains k ≡ Some cells → length cells ≤ cycles
chain_fits cycles chains k cells all at =
    subst (λ (c : List InstanceId). length c ≤ cycles) (get_or_from_slice_get chains k cells cells at) (All-get_or (λ (c : List InstanceId). length c ≤ cycles) chains k cells (slice_get_within chains k cells at) all)
