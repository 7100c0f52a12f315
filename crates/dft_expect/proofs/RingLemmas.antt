-- The states of a ring that is fed a table of channel bits.
use Rattle.std.proofs.Common.{ℕ, suc, Bool, false, ◌≡◌, ◌+◌, ◌*◌, List, [], ◌∷◌, ◌++◌, length, replicate, refl, sym, ap, arith, ◌∙◌, subst}
use Rattle.std.proofs.lemmas.List.{length-append, length-replicate}
use Rattle.dft_base.specs.Solutions.{bit_at}
use Rattle.dft_config.specs.declared.config.RingConfig.{RingConfig}
use Rattle.dft_config.specs.Ring.{Table, step, state_after}
use Rattle.dft_equations.proofs.ImpulseLemmas.{push_each, bit_at-zeros}
use Rattle.dft_expect.specs.Loaded.{table_of}
use Rattle.dft_expect.specs.States.{IsState, AreStates}

state_zero : (ring : RingConfig) (table : Table) (stage : ℕ) → false ≡ state_after ring table 0 stage
unfolding state_after
state_zero ring table stage = refl

-- at first each stage is 0
pub state_starts : (ring : RingConfig) (table : Table) (state : List Bool) → state ≡ replicate ring.stages false → IsState ring table 0 state
state_starts ring table state zeros = record {
  stages = ap length zeros ∙ length-replicate {A = Bool} ring.stages false;
  bits = λ stage. ap (λ (l : List Bool). bit_at l stage) zeros ∙ bit_at-zeros ring.stages stage ∙ state_zero ring table stage;
}

next_bit : (ring : RingConfig) (table : Table) (t : ℕ) (state : ℕ → Bool) (stage : ℕ) → ((k : ℕ) → state k ≡ state_after ring table t k) → step ring (λ channel. table channel t) state stage ≡ state_after ring table (t + 1) stage
unfolding state_after
next_bit ring table t state stage before =
    let later : suc t ≡ t + 1 = omega arith in
    (λ e. step ring (λ channel. table channel t) (λ k. before k e) stage) ∙ ap (λ (n : ℕ). state_after ring table n stage) later

-- one step more
pub state_steps : (ring : RingConfig) (bits : ℕ → Bool) (t first : ℕ) (state next : List Bool) → first ≡ t * ring.channels → IsState ring (table_of ring bits) t state → length next ≡ ring.stages
    → ((stage : ℕ) → bit_at next stage ≡ step ring (λ channel. bits (first + channel)) (bit_at state) stage) → IsState ring (table_of ring bits) (t + 1) next
state_steps ring bits t first state next at before size each = record {
  stages = size;
  bits = λ stage. each stage ∙ ap (λ (n : ℕ). step ring (λ channel. bits (n + channel)) (bit_at state) stage) at ∙ next_bit ring (table_of ring bits) t (bit_at state) stage before.bits;
}

pub states_more : (ring : RingConfig) (table : Table) (t : ℕ) (states : List (List Bool)) (state : List Bool) → AreStates ring table t states → IsState ring table t state → AreStates ring table (t + 1) (states ++ state ∷ [])
states_more ring table t states state so_far now = record {
  count = length-append states (state ∷ []) ∙ omega (arith, so_far.count);
  each = push_each (λ k (s : List Bool). IsState ring table k s) states state [] t so_far.count so_far.each now;
}

-- as many states as there are
pub states_again : (ring : RingConfig) (table : Table) (n : ℕ) (xs ys : List (List Bool)) → AreStates ring table n xs → ys ≡ xs → AreStates ring table (length ys) ys
states_again ring table n xs ys are same =
    let P : List (List Bool) → Type 0 = λ l. AreStates ring table (length l) l in
    let own : P xs = record { count = refl; each = λ t less. are.each t (omega (arith, are.count)) } in
    subst P (sym same) own
