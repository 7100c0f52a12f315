-- A capture is one, and stands above what more is known of.
use Rattle.std.proofs.Common.{ℕ, zero, suc, Bool, true, false, ◌&&◌, ◌||◌, List, [], ◌∷◌, ◌≡◌, ◌<◌, ◌⊎◌, inl, inr, refl, sym, subst, ap, arith, ◌+◌, map, slice_get, Option, None, Some, ◌∙◌}
use Rattle.std.specs.Prelude.{if◌then◌else◌, flat_map, is_some}
use Rattle.std.specs.List.{list_any}
use Rattle.std.proofs.lemmas.Option.{none-some, same_Some}
use Rattle.std.proofs.lemmas.Bool.{or_parts}
use Rattle.dft_base.specs.declared.tri.Tri.{Tri}
use Rattle.dft_base.specs.Tri.{AboveTri}
use Rattle.dft_netlist.specs.declared.ids.InstanceId.{InstanceId}
use Rattle.dft_netlist.specs.Netlist.{Netlist}
use Rattle.dft_netlist.specs.Drivers.{IsOrdered}
use Rattle.dft_behavior.specs.Logic.{Logic, Meaning, Free, IsRanked}
use Rattle.dft_behavior.specs.Runs.{Vector}
use Rattle.dft_behavior.specs.Settled.{TriSources, value_given, IsTriSettled}
use Rattle.dft_behavior.proofs.Meanings.{source_same, meaning_monotone, at_nets}
use Rattle.dft_netlist.proofs.RankLemmas.{order_ranks}
use Rattle.dft_behavior.proofs.Ranks.{order_is_rank}
use Rattle.dft_abstract.specs.Cycle.{strobe_sources, rise_of}
use Rattle.dft_abstract.specs.Laws.{next_from}
use Rattle.dft_abstract.proofs.Views.{settled_same, strobe_exists}
use Rattle.dft_config.specs.Config.{Config}
use Rattle.dft_stitch.specs.Chains.{plan_of}
use Rattle.dft_cubes.specs.declared.cube.Merged.{Merged}
use Rattle.dft_expect.specs.declared.pattern.Pattern.{Pattern}
use Rattle.dft_expect.specs.declared.response.Response.{Response}
use Rattle.dft_expect.specs.Loaded.{all_cells, loaded_values}
use Rattle.dft_expect.specs.Captures.{AllSettled, AreSettled, CapturesIn, IsCapture, IsSettledAt, Settled, after_edges, capture_vectors, captured_domains, config_ports, is_chained, last_state, next_state, original, outputs_before, vector_of}
use Rattle.dft_expect.specs.Capturing.{CanCapture, CanFallIn, CapturedBehind, Captures, HasMoved, HasPulsed, IsReadyFor, IsRisen, IsRisenIn, Settles, cells_in, risen_values, state_behind}
use Rattle.dft_expect.specs.Laws.{CaptureIsOne, AreAbove, SettledStandsAbove}
use Rattle.dft_expect.proofs.PulseLemmas.{pulse_ends, pulse_none, rests, stays_apart}
use Rattle.dft_expect.proofs.VectorLemmas.{map_same, one_is_all, two_are_all}

-- ---- settled values

free_over : (s : TriSources) (values : ℕ → Tri) (net : ℕ) (m : Meaning) (u : Tri) → m ≡ Free → AboveTri (value_given s values net m) u
free_over s values net m u e = subst (λ (x : Meaning). AboveTri (value_given s values net x) u) (sym e) tt

stands_by : (l m : Logic) (rank : ℕ → ℕ) (s t : TriSources) (values shows : ℕ → Tri) → IsRanked l rank → ((net : ℕ) → (l.net net ≡ Free) ⊎ (m.net net ≡ l.net net)) → AreAbove rank s t values shows →
    IsTriSettled l s values → IsTriSettled m t shows → (fuel net : ℕ) → rank net < fuel → AboveTri (values net) (shows net)
stands_by l m rank s t values shows ranked means above settled its zero net less = absurd (omega arith)
stands_by l m rank s t values shows ranked means above settled its (suc fuel) net less =
    let ih : (k : ℕ) → rank k < rank net → AboveTri (values k) (shows k) = λ k below. stands_by l m rank s t values shows ranked means above settled its fuel k (omega arith) in
    elim (means net) [
      | inl free ↦ at_nets (values net) (shows net) (value_given s values net (l.net net)) (shows net) (settled net) refl (free_over s values net (l.net net) (shows net) free)
      | inr same ↦ at_nets (values net) (shows net) (value_given s values net (l.net net)) (value_given t shows net (l.net net)) (settled net) (its net ∙ ap (value_given t shows net) same)
          (meaning_monotone rank s t values shows net above.ports above.clocks above.flops (l.net net) (ranked.order net) ih (λ c e high source below. above.lockups (rank net) c e high source ih below))
    ]

pub stands_above : SettledStandsAbove
stands_above l m rank s t values shows ranked means above settled its net = stands_by l m rank s t values shows ranked means above settled its (suc (rank net)) net (omega arith)

-- ---- one vector

settled_one : (l : Logic) (rank : ℕ → ℕ) (x : Vector) (state a b : ℕ → Tri) → IsRanked l rank → IsSettledAt l x state a → IsSettledAt l x state b → (net : ℕ) → a net ≡ b net
settled_one l rank x state a b ranked sa sb =
    settled_same l rank (strobe_sources l x state a) (strobe_sources l x state b) a b ranked sa sb (λ k. refl) (λ e. refl) (λ c. refl)
    (λ net c e high source is same below. ap (λ (t : Tri). if high then (rise_of l x state).old c else t) (source_same rank (rank net) a b source below same))

-- a vector's values are determined
pub one_step : (l : Logic) (rank : ℕ → ℕ) (chains : List (List InstanceId)) (x : Vector) (state : ℕ → Tri) (s q : Settled) → IsRanked l rank → AreSettled l chains x state s → AreSettled l chains x state q → s ≡ q
one_step l rank chains x state s q ranked are also =
    let first : s.first ≡ q.first = λ i net. settled_one l rank x state s.first q.first ranked are.first also.first net i in
    let moved : ℕ → Tri = after_edges l chains x true s.first state in
    let again : IsSettledAt l x moved q.second = subst (λ (v : ℕ → Tri). IsSettledAt l x (after_edges l chains x true v state) q.second) (sym first) also.second in
    let second : s.second ≡ q.second = λ i net. settled_one l rank x moved s.second q.second ranked are.second again net i in
    λ i. record { first = first i; second = second i }

-- and there are some
pub some_step : (l : Logic) (rank : ℕ → ℕ) (chains : List (List InstanceId)) (x : Vector) (state : ℕ → Tri) → IsRanked l rank → (s : Settled) × AreSettled l chains x state s
some_step l rank chains x state ranked =
    let one = strobe_exists l rank x state ranked in
    let two = strobe_exists l rank x (after_edges l chains x true one.0 state) ranked in
    (record { first = one.0; second = two.0 }, record { first = one.1; second = two.1 })

-- ---- all vectors

all_one : (l : Logic) (rank : ℕ → ℕ) (chains : List (List InstanceId)) (xs : List Vector) (state : ℕ → Tri) (ss qs : List Settled) → IsRanked l rank → AllSettled l chains xs state ss → AllSettled l chains xs state qs → ss ≡ qs
all_one l rank chains [] state [] [] ranked are also = refl
all_one l rank chains [] state [] (q ∷ qs) ranked are also = absurd also
all_one l rank chains [] state (s ∷ ss) qs ranked are also = absurd are
all_one l rank chains (x ∷ xs) state [] qs ranked are also = absurd are
all_one l rank chains (x ∷ xs) state (s ∷ ss) [] ranked are also = absurd also
all_one l rank chains (x ∷ xs) state (s ∷ ss) (q ∷ qs) ranked are also =
    let same : s ≡ q = one_step l rank chains x state s q ranked are.0 also.0 in
    let rest : ss ≡ qs =
    all_one l rank chains xs (next_state l chains x state s) ss qs ranked are.1 (subst (λ (t : Settled). AllSettled l chains xs (next_state l chains x state t) qs) (sym same) also.1) in
    λ i. same i ∷ rest i

all_some : (l : Logic) (rank : ℕ → ℕ) (chains : List (List InstanceId)) (xs : List Vector) (state : ℕ → Tri) → IsRanked l rank → (ss : List Settled) × AllSettled l chains xs state ss
all_some l rank chains [] state ranked = ([], tt)
all_some l rank chains (x ∷ xs) state ranked =
    let first = some_step l rank chains x state ranked in
    let rest = all_some l rank chains xs (next_state l chains x state first.0) ranked in
    (first.0 ∷ rest.0, (first.1, rest.1))

-- ---- one capture

pub one_capture : CaptureIsOne
one_capture n rank config chains merged loaded r q ordered rc qc =
    let l : Logic = original n config in
    let xs : List Vector = capture_vectors n config merged in
    let state : ℕ → Tri = loaded_values chains loaded in
    let same : rc.settled ≡ qc.settled = all_one l rank chains xs state rc.settled qc.settled (order_is_rank n (config_ports n config) rank ordered) rc.are qc.are in
    let cells : r.cells ≡ q.cells = rc.cells ∙ ap (λ (ss : List Settled). map (λ (cell : InstanceId). last_state l chains xs state ss cell.0) (all_cells chains)) same ∙ sym qc.cells in
    let outputs : r.outputs ≡ q.outputs = rc.outputs ∙ ap (λ (ss : List Settled). flat_map (outputs_before n) ss) same ∙ sym qc.outputs in
    λ i. record { cells = cells i; outputs = outputs i }

-- there is one
pub some_capture : (n : Netlist) (rank : ℕ → ℕ) (config : Config) (chains : List (List InstanceId)) (merged : Merged) (loaded : List Bool) → IsOrdered n rank → (r : Response) × IsCapture n config chains merged loaded r
some_capture n rank config chains merged loaded ordered =
    let l : Logic = original n config in
    let xs : List Vector = capture_vectors n config merged in
    let state : ℕ → Tri = loaded_values chains loaded in
    let found = all_some l rank chains xs state (order_is_rank n (config_ports n config) rank ordered) in (
      record { cells = map (λ cell. last_state l chains xs state found.0 cell.0) (all_cells chains); outputs = flat_map (outputs_before n) found.0 },
      record { settled = found.0; are = found.1; cells = refl; outputs = refl },
    )

-- ---- where no cell falls

-- then nothing moves at the falls
still : (l : Logic) (chains : List (List InstanceId)) (x : Vector) (values state : ℕ → Tri) (c : ℕ) → (l.cell c).falling ≡ false → after_edges l chains x false values state c ≡ state c
still l chains x values state c rises =
    ap (λ (f : Bool). if is_chained chains c && (x.pulsed (l.cell c).domain && f) then next_from l x values (state c) c else state c) rises
    ∙ never (is_chained chains c) (x.pulsed (l.cell c).domain) (next_from l x values (state c) c) (state c)
  where
    never : (a b : Bool) (t u : Tri) → (if a && (b && false) then t else u) ≡ u
    never true true t u = refl
    never true false t u = refl
    never false b t u = refl

-- and what has risen is what is captured in the vector
pub risen_whole : (n : Netlist) (config : Config) (pattern : Pattern) (count domain : ℕ) (r : Response) (values : ℕ → Tri) → CanCapture n config → ((number : ℕ) (cell : InstanceId) → slice_get (cells_in n config) number ≡ Some cell → ((original n config).cell cell.0).falling ≡ false) →
    slice_get (captured_domains pattern.merged.now) count ≡ Some domain → IsRisen n config pattern count domain r values → HasPulsed n config pattern (count + 1) r values
risen_whole n config pattern count domain r values can rise at is =
    let l : Logic = original n config in
    let chains : List (List InstanceId) = (plan_of n config).chains in
    let x : Vector = vector_of n config pattern.merged.now domain in
    let before : ℕ → Tri = state_behind n config pattern count is.old is.before in
    let state : ℕ → Tri = risen_values n config pattern domain values before in
    let order = order_ranks n can.ordered.order can.netlist can.ordered.is in
    let later = strobe_exists l order.0 x state (order_is_rank n (config_ports n config) order.0 order.1) in
    pulse_ends n config pattern count domain is.old r values later.0 is.before is.settled later.1 at
    (is.cells ∙ map_same (λ (cell : InstanceId). state cell.0) (λ (cell : InstanceId). after_edges l chains x false later.0 state cell.0) (cells_in n config) (λ number cell stands. sym (still l chains x later.0 state cell.0 (rise number cell stands))))
    is.outputs values before is.settled (λ cell apart. stays_apart l chains x false later.0 state cell apart ∙ stays_apart l chains x true values before cell apart)

-- by the domain of the next vector, if there is one
pub all_risen : (n : Netlist) (config : Config) (pattern : Pattern) (count : ℕ) (domain : Option ℕ) (r : Response) (values : ℕ → Tri) → CanCapture n config → ((number : ℕ) (cell : InstanceId) → slice_get (cells_in n config) number ≡ Some cell → ((original n config).cell cell.0).falling ≡ false) →
    slice_get (captured_domains pattern.merged.now) count ≡ domain → IsRisenIn n config pattern count domain r values → HasPulsed n config pattern (count + 1) r values
all_risen n config pattern count None r values can rise at is = pulse_none n config pattern count r values at is.behind is.settled
all_risen n config pattern count (Some domain) r values can rise at is = risen_whole n config pattern count domain r values can rise at is

-- ---- where cells may fall

-- the cells of all chains have moved from the state before a vector to that after its rise
has_risen : (n : Netlist) (config : Config) (pattern : Pattern) (count domain : ℕ) (r : Response) (values : ℕ → Tri) → (is : IsRisen n config pattern count domain r values) →
    HasMoved n config (state_behind n config pattern count is.old is.before) (risen_values n config pattern domain values (state_behind n config pattern count is.old is.before)) r
has_risen n config pattern count domain r values is = record {
  cells = is.cells;
  others = λ cell apart. stays_apart (original n config) (plan_of n config).chains (vector_of n config pattern.merged.now domain) true values (state_behind n config pattern count is.old is.before) cell apart;
}

-- once all is settled again, the clocks can fall
pub can_fall : (n : Netlist) (config : Config) (pattern : Pattern) (count : ℕ) (domain : Option ℕ) (r : Response) (old new : ℕ → Tri) → ((state next : ℕ → Tri) → HasMoved n config state next r → Settles n config pattern state old → Settles n config pattern next new) →
    IsRisenIn n config pattern count domain r old → CanFallIn n config pattern count domain r new
can_fall n config pattern count None r old new again is =
    let state : ℕ → Tri = state_behind n config pattern count r is.behind in
    record { behind = is.behind; settled = again state state (rests n config state r is.behind.cells) is.settled }
can_fall n config pattern count (Some domain) r old new again is =
    let state : ℕ → Tri = state_behind n config pattern count is.old is.before in
    record { first = old; risen = is; settled = again state (risen_values n config pattern domain old state) (has_risen n config pattern count domain r old is) is.settled }

-- and it is ready for the next vector
pub next_ready : (n : Netlist) (config : Config) (pattern : Pattern) (count : ℕ) (r : Response) (old new : ℕ → Tri) → ((state next : ℕ → Tri) → HasMoved n config state next r → Settles n config pattern state old → Settles n config pattern next new) →
    HasPulsed n config pattern count r old → IsReadyFor n config pattern count r new
next_ready n config pattern count r old new again is = record { behind = is.behind; settled = again is.state (state_behind n config pattern count r is.behind) is.moved is.settled }

-- ---- all vectors

-- behind no vector the cells have their loaded bits
pub first_ready : (n : Netlist) (config : Config) (pattern : Pattern) (r : Response) (values : ℕ → Tri) → CapturedBehind n config pattern 0 r → Settles n config pattern (loaded_values (plan_of n config).chains pattern.loaded.now) values → IsReadyFor n config pattern 0 r values
first_ready n config pattern r values behind settled = record { behind = behind; settled = settled }

-- behind two vectors all is captured, and behind one where there is no second clock
pub two_whole : (n : Netlist) (config : Config) (pattern : Pattern) (r : Response) → CapturedBehind n config pattern 2 r → Captures n config pattern r
two_whole n config pattern r is = subst (λ (xs : List Vector). CapturesIn n config (plan_of n config).chains xs pattern.loaded.now r) (two_are_all n config pattern.merged.now pattern.merged.now.domains.second refl) is

one_whole : (n : Netlist) (config : Config) (pattern : Pattern) (r : Response) (second : Option ℕ) → pattern.merged.now.domains.second ≡ second → is_some second ≡ false → CapturedBehind n config pattern 1 r → Captures n config pattern r
one_whole n config pattern r None single none is = subst (λ (xs : List Vector). CapturesIn n config (plan_of n config).chains xs pattern.loaded.now r) (one_is_all n config pattern.merged.now single) is
one_whole n config pattern r (Some clock) single none is = absurd cc

has_no_second : (patterns : List Pattern) (p : ℕ) (pattern : Pattern) → list_any (λ one. is_some one.merged.now.domains.second) patterns ≡ false → slice_get patterns p ≡ Some pattern → is_some pattern.merged.now.domains.second ≡ false
has_no_second [] p pattern none at = absurd (none-some pattern at)
has_no_second (one ∷ patterns) zero pattern none at =
    ap (λ (x : Pattern). is_some x.merged.now.domains.second) (sym (same_Some one pattern at)) ∙ (or_parts (is_some one.merged.now.domains.second) (list_any (λ one. is_some one.merged.now.domains.second) patterns) none).0
has_no_second (one ∷ patterns) (suc p) pattern none at = has_no_second patterns p pattern (or_parts (is_some one.merged.now.domains.second) (list_any (λ one. is_some one.merged.now.domains.second) patterns) none).1 at

-- where no pattern has a second one, all is captured behind the first
pub singles_whole : (n : Netlist) (config : Config) (patterns : List Pattern) (p : ℕ) (pattern : Pattern) (r : Response) → list_any (λ one. is_some one.merged.now.domains.second) patterns ≡ false → slice_get patterns p ≡ Some pattern → CapturedBehind n config pattern 1 r → Captures n config pattern r
singles_whole n config patterns p pattern r none at is = one_whole n config pattern r pattern.merged.now.domains.second refl (has_no_second patterns p pattern none at) is
