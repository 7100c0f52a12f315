-- The phase sets that are made (after Rajski, Tamarapalli and Tyszer, Automated synthesis of phase shifters, 2000): each sums three
-- stages, no stage is in many more than the others, and no two are the same within as many cycles as there are stages.
use Rattle.std.specs.Prelude.{ℕ, zero, suc, ◌≡◌, ◌+◌, ◌*◌, ◌%◌, ◌<◌, ◌==◌, Bool, true, false, ◌&&◌, List, [], ◌∷◌, ◌++◌, length, count_by, get_or, nat_lt, Option, None, Some}
use Rattle.std.specs.List.{list_any, list_all}
use Rattle.rand_pcg.specs.Lcg.{Lcg, started, increment_of}
use Rattle.rand_pcg.specs.Pcg.{multiplier_64, pcg32}
use Rattle.dft_decompressor.specs.Sizes.{rounded_up}
use Rattle.dft_decompressor.specs.Rings.{taps_of}
use Rattle.dft_decompressor.specs.StageSets.{moves_of, are_apart, threes}

-- the words that are tried: those of the generator PCG XSH RR 64/32 with state 0, on the stream of the stages
abbrev pub generator : (stages : ℕ) → Lcg
generator stages = started 64 multiplier_64 0 (increment_of 64 stages)

-- how many are tried
abbrev pub tries : ℕ
tries = 65536

-- the set of a word: the one of its rank, by the number of sets
abbrev pub set_of_word : (stages word : ℕ) → List ℕ
set_of_word stages word = get_or (threes stages) (word % length (threes stages)) []

-- the sets of which no stage may be in more: a fair share, and some slack
abbrev pub bound : (stages chains slack : ℕ) → ℕ
bound stages chains slack = rounded_up (3 * chains) stages + slack

-- in how many sets a stage is
abbrev pub times_in : List (List ℕ) → (stage : ℕ) → ℕ
times_in sets stage = count_by (λ set. list_any (λ other. other == stage) set) sets

-- whether each stage of a set is in fewer sets than the bound
abbrev pub is_balanced : (bound : ℕ) → (taken : List (List ℕ)) → (set : List ℕ) → Bool
is_balanced bound taken set = list_all (λ stage. nat_lt (times_in taken stage) bound) set

-- whether a set is apart from each of these
abbrev pub is_apart : (stages : ℕ) → (taken : List (List ℕ)) → (set : List ℕ) → Bool
is_apart stages taken set = list_all (λ other. are_apart (moves_of stages (taps_of stages) set) (moves_of stages (taps_of stages) other)) taken

-- whether a set may be taken after these
unfoldable pub may_follow : (stages bound : ℕ) → (taken : List (List ℕ)) → (set : List ℕ) → Bool
may_follow stages bound taken set = is_balanced bound taken set && is_apart stages taken set

-- what a pass is for: phase sets over so many stages for so many chains, each stage in at most so many
pub record Wish : Type 0 where
  pub stages : ℕ
  pub chains : ℕ
  pub bound : ℕ

-- the next set, and the generator after its word
abbrev pub next_set : Wish → Lcg → List ℕ
next_set wish random = set_of_word wish.stages (pcg32 random).0

abbrev pub next_state : Lcg → Lcg
next_state random = (pcg32 random).1

-- A pass, with so many words left, leads from the sets that are taken to those that it takes in all. It ends when there is one for
-- each chain, or no word is left; it takes the set of each word that may follow those before.
pub data Pass (wish : Wish) : (left : ℕ) → Lcg → (taken all : List (List ℕ)) → Type 0 where
  Full : {left : ℕ} {random : Lcg} {taken : List (List ℕ)} → length taken ≡ wish.chains → Pass wish left random taken taken
  Ended : {random : Lcg} {taken : List (List ℕ)} → Pass wish zero random taken taken
  Takes : {left : ℕ} {random : Lcg} {taken all : List (List ℕ)} → length taken < wish.chains → may_follow wish.stages wish.bound taken (next_set wish random) ≡ true →
      Pass wish left (next_state random) (taken ++ next_set wish random ∷ []) all → Pass wish (suc left) random taken all
  Leaves : {left : ℕ} {random : Lcg} {taken all : List (List ℕ)} → length taken < wish.chains → may_follow wish.stages wish.bound taken (next_set wish random) ≡ false →
      Pass wish left (next_state random) taken all → Pass wish (suc left) random taken all

-- a whole pass
abbrev pub IsPass : (stages chains slack : ℕ) → (sets : List (List ℕ)) → Type 0
IsPass stages chains slack sets = Pass (record { stages = stages; chains = chains; bound = bound stages chains slack }) tries (generator stages) [] sets

-- the sets of the first pass that takes one for each chain, of so many passes with more and more slack; none where no pass does
pub data FirstFull (stages chains : ℕ) : (passes slack : ℕ) → Option (List (List ℕ)) → Type 0 where
  NoPass : {slack : ℕ} → FirstFull stages chains zero slack None
  FullPass : {passes slack : ℕ} {sets : List (List ℕ)} → IsPass stages chains slack sets → length sets ≡ chains → FirstFull stages chains (suc passes) slack (Some sets)
  ShortPass : {passes slack : ℕ} {sets : List (List ℕ)} {found : Option (List (List ℕ))} → IsPass stages chains slack sets → length sets < chains →
      FirstFull stages chains passes (suc slack) found → FirstFull stages chains (suc passes) slack found

-- the phase sets of so many chains over so many stages, if there are any: those of the least slack below 4
abbrev pub ArePhases : (stages chains : ℕ) → Option (List (List ℕ)) → Type 0
ArePhases stages chains found = FirstFull stages chains 4 0 found
