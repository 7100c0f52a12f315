-- Passes over the words of a generator.
use Rattle.std.proofs.Common.{◌≡◌, ◌&&◌, map, ℕ, suc, ◌+◌, ◌-◌, ◌<◌, ◌≤◌, Bool, true, false, cond, List, [], ◌∷◌, ◌++◌, length, Option, None, Some, refl, sym, ◌∙◌, ap, subst, arith, length-append}
use Rattle.std.specs.List.{list_all}
use Rattle.std.proofs.lemmas.List.Folds.{list_all-map}
use Rattle.rand_pcg.specs.Lcg.{Lcg}
use Rattle.dft_base.proofs.NumberLemmas.{one_left}
use Rattle.dft_config.specs.declared.config.Tap.{Tap}
use Rattle.dft_decompressor.specs.Phases.{FirstFull, FullPass, IsPass, NoPass, Pass, Ended, Full, Leaves, ShortPass, Takes, Wish, is_apart, is_balanced, may_follow, next_set, next_state}
use Rattle.dft_decompressor.specs.Rings.{taps_of}
use Rattle.dft_decompressor.specs.StageSets.{are_apart, moves_of}
use Rattle.dft_decompressor.specs.Taken.{after_set}

-- what a pass leads to from here, it leads to from the start
abbrev pub LeadsOn : Wish → (total : ℕ) → (start : Lcg) → (left : ℕ) → (now : Lcg) → (taken : List (List ℕ)) → Type 0
LeadsOn wish total start left now taken = (all : List (List ℕ)) → Pass wish left now taken all → Pass wish total start [] all

step_by : (wish : Wish) (left : ℕ) (random : Lcg) (taken all : List (List ℕ)) (b : Bool) → length taken < wish.chains → may_follow wish.stages wish.bound taken (next_set wish random) ≡ b →
    Pass wish left (next_state random) (cond b (taken ++ next_set wish random ∷ []) taken) all → Pass wish (suc left) random taken all
step_by wish left random taken all true less is rest = Takes less is rest
step_by wish left random taken all false less is rest = Leaves less is rest

-- one word more
pub leads_more : (wish : Wish) (total turn : ℕ) (start random next : Lcg) (taken after : List (List ℕ)) (set : List ℕ) → turn < total → length taken < wish.chains → set ≡ next_set wish random → next ≡ next_state random →
    after ≡ after_set wish.stages wish.bound taken set → LeadsOn wish total start (total - turn) random taken → LeadsOn wish total start (total - (turn + 1)) next after
leads_more wish total turn start random next taken after set below less is moved step before all rest =
    let here : Pass wish (total - (turn + 1)) (next_state random) (after_set wish.stages wish.bound taken (next_set wish random)) all =
    subst (λ (s : List ℕ). Pass wish (total - (turn + 1)) (next_state random) (after_set wish.stages wish.bound taken s) all) is
    (subst (λ (l : List (List ℕ)). Pass wish (total - (turn + 1)) (next_state random) l all) step (subst (λ (r : Lcg). Pass wish (total - (turn + 1)) r after all) moved rest)) in
    before all (subst (λ (n : ℕ). Pass wish n random taken all) (sym (one_left turn total below))
    (step_by wish (total - (turn + 1)) random taken all (may_follow wish.stages wish.bound taken (next_set wish random)) less refl here))

-- there is a set for each chain
pub leads_full : (wish : Wish) (total left : ℕ) (start random : Lcg) (taken : List (List ℕ)) → wish.chains ≤ length taken → length taken ≤ wish.chains → LeadsOn wish total start left random taken → Pass wish total start [] taken
leads_full wish total left start random taken least most before = before taken (Full (omega arith))

-- no word is left
pub leads_ended : (wish : Wish) (total turn : ℕ) (start random : Lcg) (taken : List (List ℕ)) → total ≤ turn → LeadsOn wish total start (total - turn) random taken → Pass wish total start [] taken
leads_ended wish total turn start random taken past before =
    let none : 0 ≡ total - turn = omega arith in before taken (subst (λ (n : ℕ). Pass wish n random taken taken) none Ended)

count_by_step : (b : Bool) (chains : ℕ) (taken : List (List ℕ)) (set : List ℕ) → length taken < chains → length (cond b (taken ++ set ∷ []) taken) ≤ chains
count_by_step true chains taken set less = let count = length-append taken (set ∷ []) in omega (arith, count)
count_by_step false chains taken set less = omega arith

-- never more than the chains
pub few_more : (stages bound chains : ℕ) (taken after : List (List ℕ)) (set : List ℕ) → length taken < chains → after ≡ after_set stages bound taken set → length after ≤ chains
few_more stages bound chains taken after set less is = subst (λ (l : List (List ℕ)). length l ≤ chains) (sym is) (count_by_step (may_follow stages bound taken set) chains taken set less)

-- ---- passes with more and more slack

abbrev pub LeadsTo : (stages chains total slack left : ℕ) → Type 0
LeadsTo stages chains total slack left = (found : Option (List (List ℕ))) → FirstFull stages chains left slack found → FirstFull stages chains total 0 found

pub slack_more : (stages chains total slack : ℕ) (sets : List (List ℕ)) → slack < total → IsPass stages chains slack sets → length sets < chains → LeadsTo stages chains total slack (total - slack) →
    LeadsTo stages chains total (slack + 1) (total - (slack + 1))
slack_more stages chains total slack sets below pass less before found rest =
    let one : slack + 1 ≡ suc slack = omega arith in
    before found (subst (λ (n : ℕ). FirstFull stages chains n slack found) (sym (one_left slack total below))
    (ShortPass pass less (subst (λ (n : ℕ). FirstFull stages chains (total - (slack + 1)) n found) one rest)))

pub slack_full : (stages chains total slack : ℕ) (sets : List (List ℕ)) → slack < total → IsPass stages chains slack sets → chains ≤ length sets → length sets ≤ chains → LeadsTo stages chains total slack (total - slack) →
    FirstFull stages chains total 0 (Some sets)
slack_full stages chains total slack sets below pass least most before =
    before (Some sets) (subst (λ (n : ℕ). FirstFull stages chains n slack (Some sets)) (sym (one_left slack total below)) (FullPass pass (omega arith)))

pub slack_over : (stages chains total slack : ℕ) → total ≤ slack → LeadsTo stages chains total slack (total - slack) → FirstFull stages chains total 0 None
slack_over stages chains total slack past before = let none : 0 ≡ total - slack = omega arith in before None (subst (λ (n : ℕ). FirstFull stages chains n slack None) none NoPass)

-- ---- what may be taken

-- a set with these moves is apart from the taken ones
pub apart_is : (stages : ℕ) (taps : List Tap) (taken : List (List ℕ)) (set : List ℕ) (moves : List (List Bool)) (others : List (List (List Bool))) (result : Bool) → taps ≡ taps_of stages →
    others ≡ map (moves_of stages (taps_of stages)) taken → moves ≡ moves_of stages taps set → result ≡ list_all (λ other. are_apart moves other) others → result ≡ is_apart stages taken set
apart_is stages taps taken set moves others result t o m r =
    r ∙ (λ i. list_all (λ other. are_apart ((m ∙ ap (λ (x : List Tap). moves_of stages x set) t) i) other) (o i))
    ∙ list_all-map (λ other. are_apart (moves_of stages (taps_of stages) set) other) (moves_of stages (taps_of stages)) taken

pub not_apart : (stages bound : ℕ) (taken : List (List ℕ)) (set : List ℕ) (balanced apart : Bool) → balanced ≡ is_balanced bound taken set → apart ≡ is_apart stages taken set → balanced ≡ true → apart ≡ false → taken ≡ after_set stages bound taken set
unfolding may_follow
not_apart stages bound taken set balanced apart b a holds fails = (λ i. cond ((sym holds ∙ b) i && (sym fails ∙ a) i) (taken ++ set ∷ []) taken)

pub both_hold : (stages bound : ℕ) (taken : List (List ℕ)) (set : List ℕ) (balanced apart : Bool) → balanced ≡ is_balanced bound taken set → apart ≡ is_apart stages taken set → balanced ≡ true → apart ≡ true → taken ++ set ∷ [] ≡ after_set stages bound taken set
unfolding may_follow
both_hold stages bound taken set balanced apart b a holds too = (λ i. cond ((sym holds ∙ b) i && (sym too ∙ a) i) (taken ++ set ∷ []) taken)

-- ---- whole passes

pub whole_full : (wish : Wish) (total left : ℕ) (start first random : Lcg) (taken sets : List (List ℕ)) → start ≡ first → sets ≡ taken → wish.chains ≤ length taken → length taken ≤ wish.chains → LeadsOn wish total start left random taken →
    Pass wish total first [] sets
whole_full wish total left start first random taken sets is same least most before =
    subst (λ (r : Lcg). Pass wish total r [] sets) is (subst (λ (l : List (List ℕ)). Pass wish total start [] l) (sym same) (leads_full wish total left start random taken least most before))

pub whole_ended : (wish : Wish) (total turn : ℕ) (start first random : Lcg) (taken sets : List (List ℕ)) → start ≡ first → sets ≡ taken → total ≤ turn → LeadsOn wish total start (total - turn) random taken → Pass wish total first [] sets
whole_ended wish total turn start first random taken sets is same past before =
    subst (λ (r : Lcg). Pass wish total r [] sets) is (subst (λ (l : List (List ℕ)). Pass wish total start [] l) (sym same) (leads_ended wish total turn start random taken past before))
