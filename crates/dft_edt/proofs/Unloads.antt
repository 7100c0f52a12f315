-- Masks and unloads, by induction over vectors that pass on what is known.
use Rattle.std.proofs.Common.{ℕ, zero, suc, Bool, true, false, List, [], ◌∷◌, ◌≡◌, ◌+◌, ◌-◌, ◌/◌, ◌%◌, ◌<◌, ◌≤◌, refl, sym, subst, ap, arith, length, ◌∙◌, Option, None, Some, slice_get, get_or, option_and_then, inl, inr}
use Rattle.std.specs.Prelude.{not, ◌&&◌, nat_lt, if◌then◌else◌}
use Rattle.std.proofs.lemmas.Bool.{cases_lt}
use Rattle.std.proofs.lemmas.Bool.Decides.{nat_tests}
use Rattle.std.proofs.lemmas.Option.{none-some, same_Some, slice_get_within, slice_get-get_or}
use Rattle.dft_base.specs.declared.tri.Tri.{Tri}
use Rattle.dft_base.specs.Tri.{known}
use Rattle.dft_netlist.specs.declared.ids.InstanceId.{InstanceId}
use Rattle.dft_behavior.specs.Logic.{Logic, Ports}
use Rattle.dft_behavior.specs.Runs.{Now, Vector, after_turn}
use Rattle.dft_abstract.specs.Laws.{bits}
use Rattle.dft_abstract.proofs.Lifts.{low_after_turn}
use Rattle.dft_abstract.proofs.Phases.{only_second}
use Rattle.dft_config.specs.Config.{Config}
use Rattle.dft_config.specs.Cycles.{longest_segment}
use Rattle.dft_config.specs.Range.{IsInRange}
use Rattle.dft_config.specs.Ring.{Table, sum_of, state_after, phase_sum}
use Rattle.dft_stitch.specs.Plans.{cell_at}
use Rattle.dft_chains.specs.Hardware.{ChainNets}
use Rattle.dft_runs.specs.Passes.{Pass, Passes, ArePasses, end_of, after_rounds, pass_of_round, passes_of_rounds, pass_of_turn, passes_of_turns, after_turns}
use Rattle.dft_runs.proofs.Passing.{round_passes, rounds_pass, turn_passes, turns_pass}
use Rattle.dft_edt.specs.Hardware.{EdtNets, HasRing, HasEnd, HasCompactor, IsEdt, HeadsAre, group_of}
use Rattle.dft_config.specs.Loads.{delay}
use Rattle.dft_config.specs.Segments.{segment_length, chain_in, sent_mask}
use Rattle.dft_edt.specs.Parts.{shown_by}
use Rattle.dft_edt.specs.Vectors.{IsEdtShift, Carries, Sends, Clears}
use Rattle.dft_edt.specs.Loads.{CarryTable}
use Rattle.dft_edt.specs.Unloads.{SendMasks, Rest, AreMasked, MasksPass, end_bit, end_value, UnloadPasses, UnloadInRounds, UnloadInRuns}
use Rattle.dft_edt.proofs.Steps.{Standing, standing, shift_law, mask_law, hold_law, mask_rests, shifts_shown}
use Rattle.dft_edt.proofs.Loads.{Loaded, loaded_start, loaded_step, cleared, place_before, known_one}

-- ---- the masks that have come in

record Sent (config : Config) (hw : EdtNets) (masks : ℕ → Bool) (cycles t : ℕ) (values : ℕ → Tri) : Type 0 where
  bit : (m k u : ℕ) → m < config.compactor.mask_inputs → k < segment_length config m → suc (k + u) ≡ t → values (hw.mask (chain_in config m k)) ≡ known (sent_mask config masks cycles m u)

sent_start : (config : Config) (hw : EdtNets) (masks : ℕ → Bool) (cycles : ℕ) (values : ℕ → Tri) → Sent config hw masks cycles 0 values
sent_start config hw masks cycles values = record { bit = λ m k u m_less k_less is. absurd (omega arith) }

sent_bits : (l : Logic) (config : Config) (chains : List (List InstanceId)) (hw : EdtNets) (masks : ℕ → Bool) (cycles t : ℕ) (x : Vector) (old : ℕ → Tri) (p : Pass) → (has : HasCompactor l config chains hw) → (pulsed : x.pulsed hw.clock ≡ true) →
    (sends : Sends config hw (λ m. sent_mask config masks cycles m t) x) → (passes : Passes l x old p) → (was : Sent config hw masks cycles t old) →
    (m k u : ℕ) → (m_less : m < config.compactor.mask_inputs) → (k_less : k < segment_length config m) → (is : suc (k + u) ≡ suc t) → p.new (hw.mask (chain_in config m k)) ≡ known (sent_mask config masks cycles m u)
sent_bits l config chains hw masks cycles t x old p has pulsed sends passes was m zero u m_less k_less is =
    passes.after (hw.mask (chain_in config m 0)) (sent_mask config masks cycles m t)
    (λ h halves. mask_law l config chains hw x old h has pulsed halves m zero m_less k_less ∙ sends m m_less)
    ∙ ap (λ (i : ℕ). known (sent_mask config masks cycles m i)) (omega (arith, is))
sent_bits l config chains hw masks cycles t x old p has pulsed sends passes was m (suc k) u m_less k_less is =
    passes.after (hw.mask (chain_in config m (suc k))) (sent_mask config masks cycles m u)
    (λ h halves. mask_law l config chains hw x old h has pulsed halves m (suc k) m_less k_less ∙ was.bit m k u m_less (omega arith) (omega (arith, is)))

sent_by : (l : Logic) (config : Config) (chains : List (List InstanceId)) (hw : EdtNets) (masks : ℕ → Bool) (t total : ℕ) (xs : List Vector) (old : ℕ → Tri) (ps : List Pass) →
    HasCompactor l config chains hw → SendMasks config hw masks total t xs → ArePasses l old xs ps → t + length xs ≡ total →
    Sent config hw masks total t old → Sent config hw masks total total (end_of old ps)
sent_by l config chains hw masks t total [] old [] has sends are is was = subst (λ (u : ℕ). Sent config hw masks total u old) (omega (arith, is)) was
sent_by l config chains hw masks t total [] old (p ∷ ps) has sends are is was = absurd are
sent_by l config chains hw masks t total (x ∷ xs) old [] has sends are is was = absurd are
sent_by l config chains hw masks t total (x ∷ xs) old (p ∷ ps) has sends are is was =
    sent_by l config chains hw masks (suc t) total xs p.new ps has sends.1 are.1 (omega (arith, is))
    (record { bit = sent_bits l config chains hw masks total t x old p has sends.0.0 sends.0.1 are.0 was })

-- at the end of the load each chain has its mask
fits : (config : Config) (m : ℕ) (b : Bool) → nat_lt m (config.chains % config.compactor.mask_inputs) ≡ b → config.chains / config.compactor.mask_inputs + (if b then 1 else 0) ≤ longest_segment config
fits config m true h =
    let some : 0 < config.chains % config.compactor.mask_inputs = grind (arith, nat_tests) in
    let first : nat_lt 0 (config.chains % config.compactor.mask_inputs) ≡ true = grind (arith, nat_tests) in
    let same = ap (λ (t : Bool). config.chains / config.compactor.mask_inputs + (if t then 1 else 0)) first in
    omega (arith, same)
fits config m false h = omega arith

pick_if : (b c : Bool) (x y : Tri) → b ≡ c → (if b then x else y) ≡ (if c then x else y)
pick_if b c x y is = ap (λ (t : Bool). if t then x else y) is

get_some : (chains : List (List InstanceId)) (chain : ℕ) (cells : List InstanceId) → slice_get chains chain ≡ Some cells → get_or chains chain [] ≡ cells
get_some chains chain cells is = same_Some (get_or chains chain []) cells (sym (slice_get-get_or chains chain [] (slice_get_within chains chain cells is)) ∙ is)

segment_fits : (config : Config) (m : ℕ) → segment_length config m ≤ longest_segment config
segment_fits config m = fits config m (nat_lt m (config.chains % config.compactor.mask_inputs)) refl

mask_there : (config : Config) (masks : ℕ → Bool) (cycles m k : ℕ) → k < segment_length config m → k < cycles → sent_mask config masks cycles m (cycles - suc k) ≡ masks (chain_in config m k)
mask_there config masks cycles m k k_less less =
    let same : cycles - suc (cycles - suc k) ≡ k = omega arith in
    ap (λ (place : ℕ). nat_lt place (segment_length config m) && masks (chain_in config m place)) same ∙ only_second (nat_lt k (segment_length config m)) (masks (chain_in config m k)) (grind (arith, nat_tests))

sent_all : (config : Config) (hw : EdtNets) (masks : ℕ → Bool) (cycles : ℕ) (values : ℕ → Tri) → IsInRange config → longest_segment config ≤ cycles → Sent config hw masks cycles cycles values →
    (chain : ℕ) → chain < config.chains → values (hw.mask chain) ≡ known (masks chain)
sent_all config hw masks cycles values range fits was chain less =
    let at : Standing config chain = standing config chain range less in
    let short = segment_fits config at.segment in
    let inside = at.in_segment in
    let k_less : at.place < cycles = omega (arith, short, inside, fits) in
    subst (λ (c : ℕ). values (hw.mask c) ≡ known (masks c)) at.there
    (was.bit at.segment at.place (cycles - suc at.place) at.in_segments at.in_segment (omega (arith, k_less))
    ∙ ap known (mask_there config masks cycles at.segment at.place at.in_segment k_less))

-- and while edt_clock rests they stay
sent_rests : (l : Logic) (config : Config) (chains : List (List InstanceId)) (hw : EdtNets) (masks : ℕ → Bool) (cycles t : ℕ) (xs : List Vector) (old : ℕ → Tri) (ps : List Pass) →
    HasCompactor l config chains hw → Rest hw xs → ArePasses l old xs ps → Sent config hw masks cycles t old → Sent config hw masks cycles t (end_of old ps)
sent_rests l config chains hw masks cycles t [] old [] has rests are was = was
sent_rests l config chains hw masks cycles t [] old (p ∷ ps) has rests are was = absurd are
sent_rests l config chains hw masks cycles t (x ∷ xs) old [] has rests are was = absurd are
sent_rests l config chains hw masks cycles t (x ∷ xs) old (p ∷ ps) has rests are was =
    sent_rests l config chains hw masks cycles t xs p.new ps has rests.1 are.1 (record {
      bit = λ m k u m_less k_less is. are.0.after (hw.mask (chain_in config m k)) (sent_mask config masks cycles m u)
          (λ h halves. mask_rests l config chains hw x old h has rests.0 m k m_less k_less
          ∙ was.bit m k u m_less k_less is);
    })

pub masks_pass : MasksPass
masks_pass l ports config chains w hw masks load between clear old ps qs p has range sends fits rests clearing are rest pass =
    let mid : ℕ → Tri = end_of (end_of old ps) qs in
    let sent = sent_by l config chains hw masks 0 (length load) load old ps has.compactor sends are (omega arith) (sent_start config hw masks (length load) old) in
    let came = sent_rests l config chains hw masks (length load) (length load) between (end_of old ps) qs has.compactor rests rest sent in (
      λ chain less. pass.after (hw.hold chain) (masks chain)
          (λ h halves. (hold_law l ports config chains w hw clear mid h has.ring has.compactor range clearing.clock halves).1 clearing.update chain less
          ∙ sent_all config hw masks (length load) mid range fits came chain less),
      cleared l ports config chains w hw clear mid p has.ring clearing pass,
    )

-- ---- what is there so many shift vectors after the ring was cleared

record Unloading (config : Config) (chains : List (List InstanceId)) (hw : EdtNets) (falling : ℕ → Bool) (table : Table) (masks : ℕ → Bool) (first : ℕ → Tri) (t : ℕ) (values : ℕ → Tri) : Type 0 where
  loaded : Loaded config chains hw falling table t values
  moved : (chain before place : ℕ) (other cell : InstanceId) (b : Bool) → before + t ≡ place → cell_at chains chain before ≡ Some other → cell_at chains chain place ≡ Some cell → first other.0 ≡ known b → values cell.0 ≡ known b
  masked : AreMasked config hw masks values

unloading_start : (config : Config) (chains : List (List InstanceId)) (hw : EdtNets) (falling : ℕ → Bool) (table : Table) (masks : ℕ → Bool) (first : ℕ → Tri) → Clears config hw first → AreMasked config hw masks first → Unloading config chains hw falling table masks first 0 first
unloading_start config chains hw falling table masks first clear masked = record {
  loaded = loaded_start config chains hw falling table first clear;
  moved = λ chain before place other cell b is other_stands stands first_is.
      ap (λ (c : InstanceId). first c.0) (same_Some cell other (sym stands ∙ ap (λ k. cell_at chains chain k) (omega (arith, is)) ∙ other_stands)) ∙ first_is;
  masked = masked;
}

-- a shift more: each cell has what stood as many places before it as there were shifts
moved_more : (l : Logic) (ports : Ports) (config : Config) (chains : List (List InstanceId)) (w : ChainNets) (hw : EdtNets) (falling : ℕ → Bool) (first : ℕ → Tri) (t : ℕ) (x : Vector) (old : ℕ → Tri) (p : Pass) →
    (has : HasRing l ports config chains w hw) → (heads : HeadsAre l chains falling) → (range : IsInRange config) → (shift : IsEdtShift ports w hw x) → (passes : Passes l x old p) →
    (was : ((chain before place : ℕ) (other cell : InstanceId) (b : Bool) → before + t ≡ place → cell_at chains chain before ≡ Some other → cell_at chains chain place ≡ Some cell → first other.0 ≡ known b → old cell.0 ≡ known b)) →
    (chain before place : ℕ) (other cell : InstanceId) (b : Bool) → (is : before + suc t ≡ place) → (other_stands : cell_at chains chain before ≡ Some other) → (stands : cell_at chains chain place ≡ Some cell) → (first_is : first other.0 ≡ known b) → p.new cell.0 ≡ known b
moved_more l ports config chains w hw falling first t x old p has heads range shift passes was chain before zero other cell b is other_stands stands first_is = absurd (omega (arith, is))
moved_more l ports config chains w hw falling first t x old p has heads range shift passes was chain before (suc place) other cell b is other_stands stands first_is =
    let between = place_before (slice_get chains chain) place cell stands in
    passes.after cell.0 b (λ h halves. (shift_law l ports config chains w hw falling x old h has heads range shift halves).others chain place between.0 cell between.1 stands
    ∙ was chain before place other between.0 b (omega (arith, is)) other_stands between.1 first_is)

unloading_step : (l : Logic) (ports : Ports) (config : Config) (chains : List (List InstanceId)) (w : ChainNets) (hw : EdtNets) (falling : ℕ → Bool) (table : Table) (masks : ℕ → Bool) (first : ℕ → Tri) (t : ℕ) (x : Vector) (old : ℕ → Tri) (p : Pass) →
    (has : IsEdt l ports config chains w hw) → (heads : HeadsAre l chains falling) → (range : IsInRange config) → (shift : IsEdtShift ports w hw x) → (carries : Carries config hw (λ j. table j t) x) → (passes : Passes l x old p) →
    (was : Unloading config chains hw falling table masks first t old) → Unloading config chains hw falling table masks first (suc t) p.new
unloading_step l ports config chains w hw falling table masks first t x old p has heads range shift carries passes was = record {
  loaded = loaded_step l ports config chains w hw falling table t x old p has.ring heads range shift carries passes was.loaded;
  moved = moved_more l ports config chains w hw falling first t x old p has.ring heads range shift passes was.moved;
  masked = λ chain less. passes.after (hw.hold chain) (masks chain)
      (λ h halves. (hold_law l ports config chains w hw x old h has.ring has.compactor range shift.clock halves).0 shift.update chain less ∙ was.masked chain less);
}

unloading_all : (l : Logic) (ports : Ports) (config : Config) (chains : List (List InstanceId)) (w : ChainNets) (hw : EdtNets) (falling : ℕ → Bool) (table : Table) (masks : ℕ → Bool) (first : ℕ → Tri) (t total : ℕ) (xs : List Vector) (old : ℕ → Tri) (ps : List Pass) →
    IsEdt l ports config chains w hw → HeadsAre l chains falling → IsInRange config → CarryTable ports config w hw table t xs → ArePasses l old xs ps → t + length xs ≡ total →
    Unloading config chains hw falling table masks first t old → Unloading config chains hw falling table masks first total (end_of old ps)
unloading_all l ports config chains w hw falling table masks first t total [] old [] has heads range carry are is was = subst (λ (u : ℕ). Unloading config chains hw falling table masks first u old) (omega (arith, is)) was
unloading_all l ports config chains w hw falling table masks first t total [] old (p ∷ ps) has heads range carry are is was = absurd are
unloading_all l ports config chains w hw falling table masks first t total (x ∷ xs) old [] has heads range carry are is was = absurd are
unloading_all l ports config chains w hw falling table masks first t total (x ∷ xs) old (p ∷ ps) has heads range carry are is was =
    unloading_all l ports config chains w hw falling table masks first (suc t) total xs p.new ps has heads range carry.1 are.1 (omega (arith, is))
    (unloading_step l ports config chains w hw falling table masks first t x old p has heads range carry.0.0 carry.0.1 are.0 was)

-- ---- the ends of the chains

-- the place of a chain's last cell
place_of_last : (cells : List InstanceId) (place : ℕ) (cell : InstanceId) → slice_get cells place ≡ Some cell → slice_get cells (suc place) ≡ None → length cells ≡ suc place
place_of_last [] place cell here last = absurd (none-some cell here)
place_of_last (c ∷ []) zero cell here last = refl
place_of_last (c ∷ d ∷ cells) zero cell here last = absurd (none-some d (sym last))
place_of_last (c ∷ cells) (suc place) cell here last = ap suc (place_of_last cells place cell here last)

end_at : (chains : List (List InstanceId)) (falling : ℕ → Bool) (table : Table) (config : Config) (hw : EdtNets) (masks : ℕ → Bool) (first values : ℕ → Tri) (t chain place : ℕ) (cell : InstanceId) (b : Bool) (o : Option (List InstanceId)) → (is : slice_get chains chain ≡ o) →
    (stands : cell_at chains chain place ≡ Some cell) → (here : option_and_then (λ cells. slice_get cells place) o ≡ Some cell) → (last : option_and_then (λ cells. slice_get cells (suc place)) o ≡ None) →
    (was : Unloading config chains hw falling table masks first t values) → (known_end : end_value config.ring chains falling table first t chain ≡ known b) → values cell.0 ≡ known b
end_at chains falling table config hw masks first values t chain place cell b None is stands here last was known_end = absurd (none-some cell here)
end_at chains falling table config hw masks first values t chain place cell b (Some cells) is stands here last was known_end =
    let long : length cells ≡ suc place = place_of_last cells place cell here last in
    let same : get_or chains chain [] ≡ cells = get_some chains chain cells is in
    let none : InstanceId = record { 0 = 0 } in
    let at : List InstanceId → Tri = λ these. if nat_lt t (length these) then first (get_or these (length these - suc t) none).0 else known (phase_sum config.ring chain (state_after config.ring table (t - length these + delay (falling chain)))) in
    let ended : at cells ≡ known b = sym (ap at same) ∙ known_end in
    elim (cases_lt t (length cells)) [
      | inl less ↦ (
          let k : ℕ = length cells - suc t in
          let k_at : slice_get cells k ≡ Some (get_or cells k none) = slice_get-get_or cells k none (omega (arith, less)) in
          was.moved chain k place (get_or cells k none) cell b (omega (arith, less, long)) (ap (option_and_then (λ those. slice_get those k)) is ∙ k_at) stands
          (sym (pick_if (nat_lt t (length cells)) true (first (get_or cells k none).0) (known (phase_sum config.ring chain (state_after config.ring table (t - length cells + delay (falling chain))))) (grind (arith, nat_tests))) ∙ ended)
          )
      | inr past ↦ (
          was.loaded.cells chain place (t - length cells + delay (falling chain)) cell stands (omega (arith, past, long)) (omega (arith, past, long))
          ∙ sym (pick_if (nat_lt t (length cells)) false (first (get_or cells (length cells - suc t) none).0) (known (phase_sum config.ring chain (state_after config.ring table (t - length cells + delay (falling chain))))) (grind (arith, nat_tests))) ∙ ended
          )
    ]

shown_known : (mask : Bool) (t : Tri) (b : Bool) → (mask ≡ false → t ≡ known b) → shown_by (known mask) t ≡ known (not mask && b)
shown_known true t b h = refl
shown_known false t b h = h refl

pub unload_passes : UnloadPasses
unload_passes l ports config chains w hw falling table masks unload x old ps p ends has heads range carry shift are pass clear masked is j less =
    let end : ℕ → Tri = end_of old ps in
    let was = unloading_all l ports config chains w hw falling table masks old 0 (length unload) unload old ps has heads range carry are (omega arith) (unloading_start config chains hw falling table masks old clear masked) in
    pass.strobe (hw.output j) (sum_of (λ chain. not (masks chain) && ends chain) (group_of config j))
    (λ values settled. shifts_shown l ports config chains w hw x end values has.ring has.compactor range shift settled j less (λ chain. not (masks chain) && ends chain)
    (λ chain inside. (let e : HasEnd l chains hw chain = has.compactor.ends chain inside in
    ap (λ m. shown_by m (end e.cell.0)) (was.masked chain inside)
    ∙ shown_known (masks chain) (end e.cell.0) (ends chain) (λ free. end_at chains falling table config hw masks old end (length unload) chain e.place e.cell (ends chain) (slice_get chains chain) refl e.here e.here e.last was (is chain inside free)))))

pub unload_in_rounds : UnloadInRounds
unload_in_rounds l ports config chains w hw falling table masks unload x old rs r ends has heads range carry shift rounds round clear masked is j less =
    let both = rounds_pass l old unload rs rounds in
    let end : ℕ → Tri = after_rounds l old unload rs in
    unload_passes l ports config chains w hw falling table masks unload x old (passes_of_rounds l old unload rs) (pass_of_round l x end r) ends has heads range carry shift both.0
    (subst (λ (f : ℕ → Tri). Passes l x f (pass_of_round l x end r)) (sym both.1) (round_passes l x end r round)) clear masked is j less

end_of_bits : (b : Bool) (t u : Bool) → (if b then known t else known u) ≡ known (if b then t else u)
end_of_bits true t u = refl
end_of_bits false t u = refl

pub unload_in_runs : UnloadInRuns
unload_in_runs l rank ports config chains w hw falling table masks before load between clear unload x start ts us ms a vs b ranked has heads range sends fits rests clearing carry shift run loading resting turn unloading strobe j less =
    let begun : Now = after_turns l start before ts in
    let loaded : Now = after_turns l begun load us in
    let rested : Now = after_turns l loaded between ms in
    let next : Now = after_turn l clear rested a in
    let end : Now = after_turns l next unload vs in
    let low_begun = (turns_pass l rank start before ts ranked run.low run.turns).2 in
    let load_both = turns_pass l rank begun load us ranked low_begun loading in
    let rest_both = turns_pass l rank loaded between ms ranked load_both.2 resting in
    let low_rested = rest_both.2 in
    let low_next = low_after_turn l rank clear rested a ranked low_rested turn in
    let unload_both = turns_pass l rank next unload vs ranked low_next unloading in
    let held = masks_pass l ports config chains w hw masks load between clear (bits begun.state) (passes_of_turns l begun load us) (passes_of_turns l loaded between ms) (pass_of_turn l clear rested a) has range sends fits rests clearing load_both.0
    (subst (λ (f : ℕ → Tri). ArePasses l f between (passes_of_turns l loaded between ms)) (sym load_both.1) rest_both.0)
    (subst (λ (f : ℕ → Tri). Passes l clear (end_of f (passes_of_turns l loaded between ms)) (pass_of_turn l clear rested a)) (sym load_both.1)
    (subst (λ (f : ℕ → Tri). Passes l clear f (pass_of_turn l clear rested a)) (sym rest_both.1) (turn_passes l rank clear rested a ranked low_rested turn))) in
    known_one _ _ (unload_passes l ports config chains w hw falling table masks unload x (bits next.state) (passes_of_turns l next unload vs) (pass_of_turn l x end b)
    (end_bit config.ring chains falling table next.state.flops (length unload)) has heads range carry shift unload_both.0
    (subst (λ (f : ℕ → Tri). Passes l x f (pass_of_turn l x end b)) (sym unload_both.1) (turn_passes l rank x end b ranked unload_both.2 strobe)) held.1 held.0
    (λ chain inside free. end_of_bits (nat_lt (length unload) (length (get_or chains chain []))) _ _) j less)
