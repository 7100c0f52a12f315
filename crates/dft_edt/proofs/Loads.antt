-- The law of one vector in every run, and the load by induction over vectors that pass on what is known.
use Rattle.std.proofs.Common.{ℕ, zero, suc, Bool, true, false, List, [], ◌∷◌, ◌≡◌, ◌+◌, ◌<◌, refl, sym, subst, ap, arith, map, length, ◌∙◌, Option, None, Some, slice_get, get_or, option_and_then}
use Rattle.std.specs.Prelude.{if◌then◌else◌}
use Rattle.std.proofs.lemmas.Option.{none-some, slice_get_within, slice_get-get_or}
use Rattle.dft_base.specs.declared.tri.Tri.{Tri}
use Rattle.dft_base.specs.Tri.{known}
use Rattle.dft_netlist.specs.declared.ids.InstanceId.{InstanceId}
use Rattle.dft_behavior.specs.Logic.{Logic, Ports, Cell, IsRanked}
use Rattle.dft_behavior.specs.Runs.{Now, Vector, Turn, IsTurn, AreLow, after_turn}
use Rattle.dft_abstract.specs.Cycle.{Halves, AreHalves, after_halves, after_round}
use Rattle.dft_abstract.specs.Laws.{bits, after_rises, falls_from}
use Rattle.dft_abstract.proofs.Halves.{rests}
use Rattle.dft_abstract.proofs.Lifts.{known_after_turn, known_after_falls, low_after_turn}
use Rattle.dft_config.specs.Config.{Config}
use Rattle.dft_config.specs.declared.config.RingConfig.{RingConfig}
use Rattle.dft_config.specs.Range.{IsInRange}
use Rattle.dft_config.specs.Ring.{Table, step, state_after, phase_of, phase_sum}
use Rattle.dft_config.specs.Loads.{delay, moment_of_place}
use Rattle.dft_config.proofs.Linearity.{loads_sum}
use Rattle.dft_stitch.specs.Plans.{cell_at}
use Rattle.dft_stitch.proofs.CellPlaces.{chain_within}
use Rattle.dft_chains.specs.Hardware.{ChainNets}
use Rattle.dft_runs.specs.Passes.{Pass, Passes, ArePasses, end_of, pass_of_round, passes_of_rounds, pass_of_turn, passes_of_turns, after_turns}
use Rattle.dft_runs.proofs.Passing.{round_passes, rounds_pass, turn_passes, turns_pass}
use Rattle.dft_config.proofs.Linearity.{delay_late, delay_none}
use Rattle.dft_edt.specs.Feeds.{at_feed, feeds}
use Rattle.dft_parts.specs.SumTrees.{tri_sum}
use Rattle.dft_edt.specs.Hardware.{EdtNets, HasPhase, HasRing, HeadsAre, before_in}
use Rattle.dft_config.specs.Segments.{chain_in}
use Rattle.dft_edt.specs.Vectors.{IsEdtShift, IsClearing, Carries, Clears, ShiftInRuns, ClearInRuns, MasksInRuns, HoldsInRuns}
use Rattle.dft_edt.specs.Loads.{CarryTable, load_sum, LoadPasses, LoadInRuns, LoadInRounds}
use Rattle.dft_edt.proofs.Sums.{known_feeds, known_sum, feeds_step}
use Rattle.dft_edt.proofs.Steps.{stage_after, stage_falls, first_by, first_falls, shift_law, clear_law, mask_law, hold_law, feeds_there, phase_below}

-- ---- one vector, from known values

-- the sum of a stage's feeds is the step of the ring
stage_known : (config : Config) (i : ℕ) (s x : ℕ → Tri) (r y : ℕ → Bool) → IsInRange config → i < config.ring.stages → ((k : ℕ) → k < config.ring.stages → s k ≡ known (r k)) → ((j : ℕ) → j < config.ring.channels → x j ≡ known (y j)) →
    tri_sum (map (at_feed s x) (feeds config.ring i)) ≡ known (step config.ring y r i)
stage_known config i s x r y range less p q =
    known_feeds config.ring s x r y (feeds config.ring i) (feeds_there config i range) p q ∙ ap known (feeds_step config.ring y r i less)

phase_known : (config : Config) (chain : ℕ) (s : ℕ → Tri) (r : ℕ → Bool) → IsInRange config → ((k : ℕ) → k < config.ring.stages → s k ≡ known (r k)) →
    tri_sum (map s (phase_of config.ring chain)) ≡ known (phase_sum config.ring chain r)
phase_known config chain s r range p = known_sum config.ring.stages s r (phase_of config.ring chain) (phase_below config chain range) p

-- ---- one vector in every run

-- a stage has the step of the ring
stage_in_runs : (l : Logic) (rank : ℕ → ℕ) (ports : Ports) (config : Config) (chains : List (List InstanceId)) (w : ChainNets) (hw : EdtNets) (row : ℕ → Bool) (x : Vector) (now : Now) (t : Turn) → IsRanked l rank → HasRing l ports config chains w hw → IsInRange config →
    IsEdtShift ports w hw x → Carries config hw row x → AreLow now.state → IsTurn l x now t → (i : ℕ) → i < config.ring.stages → (after_turn l x now t).state.flops (hw.stage i) ≡ step config.ring row (λ k. now.state.flops (hw.stage k)) i
stage_in_runs l rank ports config chains w hw row x now t ranked has range shift carries low turn i less =
    let s : ℕ → Bool = λ k. now.state.flops (hw.stage k) in
    known_after_turn l rank x now t ranked low turn (hw.stage i) (step config.ring row s i)
    (λ h halves. stage_after l ports config chains w hw x (bits now.state) h has range shift halves i less
    ∙ stage_known config i (λ k. known (s k)) (λ j. x.ports (hw.channel j)) s row range less (λ k inside. refl) carries)

-- in the falls it stays as the rises left it
stage_in_falls : (l : Logic) (rank : ℕ → ℕ) (ports : Ports) (config : Config) (chains : List (List InstanceId)) (w : ChainNets) (hw : EdtNets) (x : Vector) (now : Now) (t : Turn) → IsRanked l rank → HasRing l ports config chains w hw →
    AreLow now.state → IsTurn l x now t → (i : ℕ) → i < config.ring.stages → (after_turn l x now t).state.flops (hw.stage i) ≡ (after_rises l x now t).state.flops (hw.stage i)
stage_in_falls l rank ports config chains w hw x now t ranked has low turn i less =
    known_after_falls l rank x now t ranked low turn (hw.stage i) ((after_rises l x now t).state.flops (hw.stage i))
    (λ old h own are. rests l (falls_from x old) h.view (hw.stage i) (stage_falls l ports config chains w hw x old has i less)
    ∙ own (hw.stage i) (ap (λ (c : Cell). c.forces) (has.stages i less).flop.cell))

-- a first cell has its chain's phase sum, of the stages before the vector or of those after it
first_in_runs : (l : Logic) (rank : ℕ → ℕ) (ports : Ports) (config : Config) (chains : List (List InstanceId)) (w : ChainNets) (hw : EdtNets) (x : Vector) (now : Now) (t : Turn) (chain : ℕ) (cell : InstanceId) (falling : Bool) → IsRanked l rank →
    (has : HasRing l ports config chains w hw) → IsInRange config → IsEdtShift ports w hw x → AreLow now.state → IsTurn l x now t → cell_at chains chain zero ≡ Some cell → (l.cell cell.0).falling ≡ falling → HasPhase l config.ring hw (w.into chain zero) falling chain →
    (after_turn l x now t).state.flops cell.0 ≡ phase_sum config.ring chain (λ k. (if falling then (after_turn l x now t).state.flops else now.state.flops) (hw.stage k))
first_in_runs l rank ports config chains w hw x now t chain cell false ranked has range shift low turn stands rises h =
    let s : ℕ → Bool = λ k. now.state.flops (hw.stage k) in
    known_after_turn l rank x now t ranked low turn cell.0 (phase_sum config.ring chain s)
    (λ half halves. first_by l ports config chains w hw x (bits now.state) half chain cell false has range shift halves stands rises h
    ∙ phase_known config chain (λ k. known (s k)) s range (λ k inside. refl))
first_in_runs l rank ports config chains w hw x now t chain cell true ranked has range shift low turn stands falls h =
    let s : ℕ → Bool = λ k. (after_turn l x now t).state.flops (hw.stage k) in
    known_after_falls l rank x now t ranked low turn cell.0 (phase_sum config.ring chain s)
    (λ old half own are. first_falls l ports config chains w hw x old half chain cell has range shift are stands falls h
    ∙ phase_known config chain (λ k. old (hw.stage k)) s range
    (λ k inside. own (hw.stage k) (ap (λ (c : Cell). c.forces) (has.stages k inside).flop.cell)
    ∙ ap known (sym (stage_in_falls l rank ports config chains w hw x now t ranked has low turn k inside))))

pub shift_in_runs : ShiftInRuns
shift_in_runs l rank ports config chains w hw falling x now t ranked has heads range shift low turn = record {
  stages = λ row carries. stage_in_runs l rank ports config chains w hw row x now t ranked has range shift carries low turn;
  firsts = λ chain cell stands. first_in_runs l rank ports config chains w hw x now t chain cell (falling chain) ranked has range shift low turn stands (heads chain cell stands)
      (subst (λ (b : Bool). HasPhase l config.ring hw (w.into chain zero) b chain) (heads chain cell stands) (has.phases chain cell stands));
  others = λ chain place cell next stands follows. known_after_turn l rank x now t ranked low turn next.0 (now.state.flops cell.0)
      (λ h halves. (shift_law l ports config chains w hw falling x (bits now.state) h has heads range shift halves).others chain place cell next stands follows);
}

pub clear_in_runs : ClearInRuns
clear_in_runs l rank ports config chains w hw x now t ranked has clearing low turn i less =
    ap known (known_after_turn l rank x now t ranked low turn (hw.stage i) false (λ h halves. clear_law l ports config chains w hw x (bits now.state) h has clearing halves i less))

-- what is before a mask bit, where the ports are known
before_known : (config : Config) (p : ℕ → Tri) (row s : ℕ → Bool) (m k : ℕ) → p m ≡ known (row m) → before_in config p (λ chain. known (s chain)) m k ≡ known (before_in config row s m k)
before_known config p row s m zero is = is
before_known config p row s m (suc k) is = refl

pub masks_in_runs : MasksInRuns
masks_in_runs l rank config chains hw row x now t ranked has pulsed sends low turn m k m_less k_less =
    let s : ℕ → Bool = λ chain. now.state.flops (hw.mask chain) in
    ap known (known_after_turn l rank x now t ranked low turn (hw.mask (chain_in config m k)) (before_in config row s m k)
    (λ h halves. mask_law l config chains hw x (bits now.state) h has pulsed halves m k m_less k_less
    ∙ before_known config (λ i. x.ports (hw.mask_port i)) row s m k (sends m m_less)))
    ∙ sym (before_known config (λ i. known (row i)) row s m k refl)

pub holds_in_runs : HoldsInRuns
holds_in_runs l rank ports config chains w hw x now t ranked ring has range pulsed low turn = (
  λ off chain less. ap known (known_after_turn l rank x now t ranked low turn (hw.hold chain) (now.state.flops (hw.hold chain))
      (λ h halves. (hold_law l ports config chains w hw x (bits now.state) h ring has range pulsed halves).0 off chain less)),
  λ on chain less. ap known (known_after_turn l rank x now t ranked low turn (hw.hold chain) (now.state.flops (hw.mask chain))
      (λ h halves. (hold_law l ports config chains w hw x (bits now.state) h ring has range pulsed halves).1 on chain less)),
)

-- ---- the load

-- what the cells hold so many shift vectors after the ring was cleared
pub record Loaded (config : Config) (chains : List (List InstanceId)) (hw : EdtNets) (falling : ℕ → Bool) (table : Table) (t : ℕ) (values : ℕ → Tri) : Type 0 where
  pub stages : (i : ℕ) → i < config.ring.stages → values (hw.stage i) ≡ known (state_after config.ring table t i)
  pub cells : (chain place u : ℕ) (cell : InstanceId) → cell_at chains chain place ≡ Some cell → place < t → suc (place + u) ≡ t + delay (falling chain) → values cell.0 ≡ known (phase_sum config.ring chain (state_after config.ring table u))

pub loaded_start : (config : Config) (chains : List (List InstanceId)) (hw : EdtNets) (falling : ℕ → Bool) (table : Table) (values : ℕ → Tri) → Clears config hw values → Loaded config chains hw falling table 0 values
unfolding state_after
loaded_start config chains hw falling table values clear = record { stages = clear; cells = λ chain place u cell stands there is. absurd (omega arith) }

get_before : (cells : List InstanceId) (place : ℕ) (next : InstanceId) → slice_get cells (suc place) ≡ Some next → (cell : InstanceId) × (slice_get cells place ≡ Some cell)
get_before cells place next is = (get_or cells place next, slice_get-get_or cells place next (omega (arith, slice_get_within cells (suc place) next is)))

-- a chain that has a place has the one before it
pub place_before : (o : Option (List InstanceId)) (place : ℕ) (next : InstanceId) → option_and_then (λ cells. slice_get cells (suc place)) o ≡ Some next → (cell : InstanceId) × (option_and_then (λ cells. slice_get cells place) o ≡ Some cell)
place_before None place next is = absurd (none-some next is)
place_before (Some cells) place next is = get_before cells place next is

-- the next state of the ring
next_state : (ring : RingConfig) (table : Table) (t i : ℕ) → step ring (λ j. table j t) (state_after ring table t) i ≡ state_after ring table (suc t) i
unfolding state_after
next_state ring table t i = refl

-- what comes to a first cell, from the stages before the vector or after it
first_loaded : (config : Config) (hw : EdtNets) (table : Table) (t chain : ℕ) (late : Bool) (old new : ℕ → Tri) → IsInRange config →
    ((i : ℕ) → i < config.ring.stages → old (hw.stage i) ≡ known (state_after config.ring table t i)) →
    ((i : ℕ) → i < config.ring.stages → new (hw.stage i) ≡ known (state_after config.ring table (suc t) i)) →
    tri_sum (map (λ k. (if late then new else old) (hw.stage k)) (phase_of config.ring chain)) ≡ known (phase_sum config.ring chain (state_after config.ring table (t + delay late)))
first_loaded config hw table t chain false old new range olds news =
    phase_known config chain (λ k. old (hw.stage k)) (state_after config.ring table t) range olds
    ∙ ap (λ (i : ℕ). known (phase_sum config.ring chain (state_after config.ring table i))) (omega (arith, delay_none))
first_loaded config hw table t chain true old new range olds news =
    phase_known config chain (λ k. new (hw.stage k)) (state_after config.ring table (suc t)) range news
    ∙ ap (λ (i : ℕ). known (phase_sum config.ring chain (state_after config.ring table i))) (omega (arith, delay_late))

stages_loaded : (l : Logic) (ports : Ports) (config : Config) (chains : List (List InstanceId)) (w : ChainNets) (hw : EdtNets) (falling : ℕ → Bool) (table : Table) (t : ℕ) (x : Vector) (old : ℕ → Tri) (h : Halves) →
    (has : HasRing l ports config chains w hw) → (heads : HeadsAre l chains falling) → (range : IsInRange config) → (shift : IsEdtShift ports w hw x) → (carries : Carries config hw (λ j. table j t) x) → (halves : AreHalves l x old h) →
    (loaded : Loaded config chains hw falling table t old) → (i : ℕ) → (less : i < config.ring.stages) → after_halves l x old h (hw.stage i) ≡ known (state_after config.ring table (suc t) i)
stages_loaded l ports config chains w hw falling table t x old h has heads range shift carries halves loaded i less =
    (shift_law l ports config chains w hw falling x old h has heads range shift halves).stages i less
    ∙ stage_known config i (λ k. old (hw.stage k)) (λ j. x.ports (hw.channel j)) (state_after config.ring table t) (λ j. table j t) range less loaded.stages carries
    ∙ ap known (next_state config.ring table t i)

-- a shift more: each cell that the load has come to has the bit that the phase shifter gave for it
loaded_cells : (l : Logic) (ports : Ports) (config : Config) (chains : List (List InstanceId)) (w : ChainNets) (hw : EdtNets) (falling : ℕ → Bool) (table : Table) (t : ℕ) (x : Vector) (old : ℕ → Tri) (p : Pass) →
    (has : HasRing l ports config chains w hw) → (heads : HeadsAre l chains falling) → (range : IsInRange config) → (shift : IsEdtShift ports w hw x) → (carries : Carries config hw (λ j. table j t) x) → (passes : Passes l x old p) →
    (loaded : Loaded config chains hw falling table t old) →
    (chain place u : ℕ) (cell : InstanceId) → (stands : cell_at chains chain place ≡ Some cell) → (there : place < suc t) → (is : suc (place + u) ≡ suc t + delay (falling chain)) → p.new cell.0 ≡ known (phase_sum config.ring chain (state_after config.ring table u))
loaded_cells l ports config chains w hw falling table t x old p has heads range shift carries passes loaded chain zero u cell stands there is =
    passes.after cell.0 (phase_sum config.ring chain (state_after config.ring table (t + delay (falling chain))))
    (λ h halves. (shift_law l ports config chains w hw falling x old h has heads range shift halves).firsts chain cell stands
    ∙ first_loaded config hw table t chain (falling chain) old (after_halves l x old h) range loaded.stages
    (stages_loaded l ports config chains w hw falling table t x old h has heads range shift carries halves loaded))
    ∙ ap (λ (i : ℕ). known (phase_sum config.ring chain (state_after config.ring table i))) (omega (arith, is))
loaded_cells l ports config chains w hw falling table t x old p has heads range shift carries passes loaded chain (suc place) u cell stands there is =
    let other = place_before (slice_get chains chain) place cell stands in
    passes.after cell.0 (phase_sum config.ring chain (state_after config.ring table u))
    (λ h halves. (shift_law l ports config chains w hw falling x old h has heads range shift halves).others chain place other.0 cell other.1 stands
    ∙ loaded.cells chain place u other.0 other.1 (omega (arith, there)) (omega (arith, is)))

pub loaded_step : (l : Logic) (ports : Ports) (config : Config) (chains : List (List InstanceId)) (w : ChainNets) (hw : EdtNets) (falling : ℕ → Bool) (table : Table) (t : ℕ) (x : Vector) (old : ℕ → Tri) (p : Pass) →
    (has : HasRing l ports config chains w hw) → (heads : HeadsAre l chains falling) → (range : IsInRange config) → (shift : IsEdtShift ports w hw x) → (carries : Carries config hw (λ j. table j t) x) → (passes : Passes l x old p) → (loaded : Loaded config chains hw falling table t old) → Loaded config chains hw falling table (suc t) p.new
loaded_step l ports config chains w hw falling table t x old p has heads range shift carries passes loaded = record {
  stages = λ i less. passes.after (hw.stage i) (state_after config.ring table (suc t) i)
      (λ h halves. stages_loaded l ports config chains w hw falling table t x old h has heads range shift carries halves loaded i less);
  cells = loaded_cells l ports config chains w hw falling table t x old p has heads range shift carries passes loaded;
}

pub cleared : (l : Logic) (ports : Ports) (config : Config) (chains : List (List InstanceId)) (w : ChainNets) (hw : EdtNets) (x : Vector) (old : ℕ → Tri) (p : Pass) →
    HasRing l ports config chains w hw → IsClearing hw x → Passes l x old p → Clears config hw p.new
cleared l ports config chains w hw x old p has clearing passes i less = passes.after (hw.stage i) false (λ h halves. clear_law l ports config chains w hw x old h has clearing halves i less)

pub loaded_all : (l : Logic) (ports : Ports) (config : Config) (chains : List (List InstanceId)) (w : ChainNets) (hw : EdtNets) (falling : ℕ → Bool) (table : Table) (t total : ℕ) (xs : List Vector) (old : ℕ → Tri) (ps : List Pass) →
    HasRing l ports config chains w hw → HeadsAre l chains falling → IsInRange config → CarryTable ports config w hw table t xs → ArePasses l old xs ps → t + length xs ≡ total →
    Loaded config chains hw falling table t old → Loaded config chains hw falling table total (end_of old ps)
loaded_all l ports config chains w hw falling table t total [] old [] has heads range carry are is loaded = subst (λ (u : ℕ). Loaded config chains hw falling table u old) (omega (arith, is)) loaded
loaded_all l ports config chains w hw falling table t total [] old (p ∷ ps) has heads range carry are is loaded = absurd are
loaded_all l ports config chains w hw falling table t total (x ∷ xs) old [] has heads range carry are is loaded = absurd are
loaded_all l ports config chains w hw falling table t total (x ∷ xs) old (p ∷ ps) has heads range carry are is loaded =
    loaded_all l ports config chains w hw falling table (suc t) total xs p.new ps has heads range carry.1 are.1 (omega (arith, is))
    (loaded_step l ports config chains w hw falling table t x old p has heads range carry.0.0 carry.0.1 are.0 loaded)

-- ---- the sums at its end

sum_at_end : (config : Config) (chains : List (List InstanceId)) (hw : EdtNets) (falling : ℕ → Bool) (table : Table) (cycles : ℕ) (values : ℕ → Tri) → IsInRange config → length chains ≡ config.chains → Loaded config chains hw falling table cycles values →
    (chain place : ℕ) (cell : InstanceId) → cell_at chains chain place ≡ Some cell → place < cycles → values cell.0 ≡ known (load_sum config table cycles (falling chain) chain place)
sum_at_end config chains hw falling table cycles values range count loaded chain place cell stands less =
    let within = chain_within chains chain place cell stands in
    loaded.cells chain place (moment_of_place cycles (falling chain) place) cell stands less (omega (arith, less))
    ∙ ap known (loads_sum config table cycles (falling chain) chain place range (omega (arith, within, count)) less)

pub load_passes : LoadPasses
load_passes l ports config chains w hw falling table clear load old p ps has heads range clearing carry pass passes chain place cell stands less =
    sum_at_end config chains hw falling table (length load) (end_of p.new ps) range has.count
    (loaded_all l ports config chains w hw falling table 0 (length load) load p.new ps has heads range carry passes (omega arith)
    (loaded_start config chains hw falling table p.new (cleared l ports config chains w hw clear old p has clearing pass))) chain place cell stands less

pub load_in_rounds : LoadInRounds
load_in_rounds l ports config chains w hw falling table clear load old r rs has heads range clearing carry round rounds chain place cell stands less =
    let next : ℕ → Tri = after_round l clear old r in
    let both = rounds_pass l next load rs rounds in
    sym (ap (λ (f : ℕ → Tri). f cell.0) both.1)
    ∙ load_passes l ports config chains w hw falling table clear load old (pass_of_round l clear old r) (passes_of_rounds l next load rs) has heads range clearing carry (round_passes l clear old r round) both.0 chain place cell stands less

pub known_one : (a b : Bool) → known a ≡ known b → a ≡ b
known_one true true h = refl
known_one false false h = refl
known_one true false h = absurd cc
known_one false true h = absurd cc

pub load_in_runs : LoadInRuns
load_in_runs l rank ports config chains w hw falling table before clear load start ts a us ranked has heads range clearing carry run turn turns chain place cell stands less =
    let begun : Now = after_turns l start before ts in
    let low = (turns_pass l rank start before ts ranked run.low run.turns).2 in
    let next : Now = after_turn l clear begun a in
    let both = turns_pass l rank next load us ranked (low_after_turn l rank clear begun a ranked low turn) turns in
    known_one _ _ (sym (ap (λ (f : ℕ → Tri). f cell.0) both.1)
    ∙ load_passes l ports config chains w hw falling table clear load (bits begun.state) (pass_of_turn l clear begun a) (passes_of_turns l next load us) has heads range clearing carry (turn_passes l rank clear begun a ranked low turn) both.0 chain place cell stands less)
