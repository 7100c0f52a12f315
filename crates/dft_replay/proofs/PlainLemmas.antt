-- The plain replay gives the verdict: its levels are settled, and its rounds reach the least map.
use Rattle.std.proofs.Common.{ℕ, zero, suc, ◌+◌, ◌<◌, ◌≤◌, Bool, true, false, ◌&&◌, List, [], ◌∷◌, ◌≡◌, inl, inr, refl, ap, sym, length, Option, None, Some, subst, arith}
use Rattle.std.specs.Prelude.{if◌then◌else◌}
use Rattle.dft_base.specs.declared.tri.Tri.{Tri}
use Rattle.dft_base.specs.declared.tri.Tri.TheVariants.{Zero, One, Unknown}
use Rattle.dft_base.specs.Tri.{AboveTri}
use Rattle.dft_behavior.specs.Logic.{Logic, no_cell, IsRanked, logic_of}
use Rattle.dft_netlist.specs.Netlist.{Netlist}
use Rattle.dft_netlist.specs.Drivers.{IsOrdered}
use Rattle.dft_behavior.specs.Settled.{IsTriSettled}
use Rattle.dft_behavior.specs.Runs.{Vector, takes}
use Rattle.dft_behavior.proofs.Meanings.{source_same}
use Rattle.dft_behavior.proofs.Ranks.{order_is_rank}
use Rattle.dft_abstract.specs.Cycle.{Pulse, view_sources, AreViews, next_value, IsClosed, IsLeast, after_pulse, rise_of, strobe_sources, Round, IsRound, after_round, changes, Half}
use Rattle.dft_abstract.proofs.Views.{given_same, lockups_look}
use Rattle.dft_abstract.proofs.Least.{step_below}
use Rattle.dft_abstract.proofs.OneDomain.{raised as risen}
use Rattle.dft_cells.proofs.Completions.{above_self, join_over_left}
use Rattle.std.proofs.lemmas.Bool.{and_cases, cases_Bool, and_parts, cases_lt}
use Rattle.dft_logic.proofs.Compiled.{past_cell}
use Rattle.dft_replay.specs.declared.verdict.Unknowns.{Unknowns}
use Rattle.dft_replay.specs.declared.verdict.Unknowns.TheVariants.{Stop}
use Rattle.dft_replay.specs.declared.verdict.Verdict.{Verdict}
use Rattle.dft_patterns.specs.Patterns.{Patterns}
use Rattle.dft_replay.specs.Rows.{Row, rows_of, ports_of}
use Rattle.dft_replay.specs.Verdicts.{bits_decide, Stops, EndsFrom, EndsAt}
use Rattle.dft_replay.specs.Plain.{value_at, table, strobe_values, view_values, Size, raised_value, raised, raised_by, or_later, plain_map, plain_from, plain_end, size_of, VerdictIsPlain, plain_fall}
use Rattle.dft_replay.proofs.Uniqueness.{same_map}

-- ---- lists

table_cases : (P : Tri → Type 0) (count c : ℕ) (f : ℕ → Tri) → (c < count → P (f c)) → (count ≤ c → P Unknown) → P (value_at (table count f) c)
table_cases P zero c f within past = past (omega arith)
table_cases P (suc count) zero f within past = within (omega arith)
table_cases P (suc count) (suc c) f within past = table_cases P count c (λ i. f (suc i)) (λ h. within (omega arith)) (λ h. past (omega arith))

-- the list is Unknown from this number on
abbrev IsPast : (count : ℕ) → List Tri → Type 0
IsPast count ts = (c : ℕ) → count ≤ c → value_at ts c ≡ Unknown

table_past : (count : ℕ) (f : ℕ → Tri) → IsPast count (table count f)
table_past count f c past = table_cases (λ t. t ≡ Unknown) count c f (λ within. absurd (omega arith)) (λ h. refl)

-- whether all the first numbers, so many, pass a test
abbrev all_first : (count : ℕ) → (ℕ → Bool) → Bool
all_first zero f = true
all_first (suc count) f = f 0 && all_first count (λ c. f (suc c))

all_first_at : (count c : ℕ) (f : ℕ → Bool) → all_first count f ≡ true → c < count → f c ≡ true
all_first_at zero c f all less = absurd (omega arith)
all_first_at (suc count) zero f all less = (and_parts (f 0) (all_first count (λ i. f (suc i))) all).0
all_first_at (suc count) (suc c) f all less = all_first_at count c (λ i. f (suc i)) (and_parts (f 0) (all_first count (λ i. f (suc i))) all).1 (omega arith)

-- whether the first value stands above the second
abbrev is_above : Tri → Tri → Bool
is_above Unknown t = true
is_above Zero Zero = true
is_above Zero One = false
is_above Zero Unknown = false
is_above One One = true
is_above One Zero = false
is_above One Unknown = false

above_from : (t u : Tri) → is_above t u ≡ true → AboveTri t u
above_from Unknown u h = tt
above_from Zero Zero h = tt
above_from Zero One h = absurd cc
above_from Zero Unknown h = absurd cc
above_from One One h = tt
above_from One Zero h = absurd cc
above_from One Unknown h = absurd cc

either_value : (P : Tri → Type 0) (b : Bool) (x y : Tri) → (b ≡ true → P x) → P y → P (if b then x else y)
either_value P true x y raise stay = raise refl
either_value P false x y raise stay = stay

-- ---- levels

strobe_stable : (l : Logic) (rank : ℕ → ℕ) (x : Vector) (old : ℕ → Tri) → IsRanked l rank → (f g net : ℕ) → rank net < f → rank net < g → strobe_values l x old f net ≡ strobe_values l x old g net
strobe_stable l rank x old ranked zero g net hf hg = absurd (omega arith)
strobe_stable l rank x old ranked (suc f) zero net hf hg = absurd (omega arith)
strobe_stable l rank x old ranked (suc f) (suc g) net hf hg =
    let a : ℕ → Tri = strobe_values l x old f in
    let b : ℕ → Tri = strobe_values l x old g in
    let same : (k : ℕ) → rank k < rank net → a k ≡ b k = λ k less. strobe_stable l rank x old ranked f g k (omega arith) (omega arith) in
    given_same rank (strobe_sources l x old a) (strobe_sources l x old b) a b net (l.net net) (λ k. refl) (λ e. refl) (λ c. refl) (ranked.order net) same
    (λ c e high source is below. ap (λ (t : Tri). if high then (rise_of l x old).old c else t) (source_same rank (rank net) a b source below same))

view_stable : (l : Logic) (rank : ℕ → ℕ) (p : Pulse) (poss : ℕ → Tri) → IsRanked l rank → (f g net : ℕ) → rank net < f → rank net < g → (d : ℕ) → view_values l p poss f d net ≡ view_values l p poss g d net
view_stable l rank p poss ranked zero g net hf hg d = absurd (omega arith)
view_stable l rank p poss ranked (suc f) zero net hf hg d = absurd (omega arith)
view_stable l rank p poss ranked (suc f) (suc g) net hf hg d =
    let a : ℕ → ℕ → Tri = view_values l p poss f in
    let b : ℕ → ℕ → Tri = view_values l p poss g in
    let same : (k : ℕ) → rank k < rank net → (e : ℕ) → a e k ≡ b e k = λ k less e. view_stable l rank p poss ranked f g k (omega arith) (omega arith) e in
    given_same rank (view_sources l p poss a d) (view_sources l p poss b d) (a d) (b d) net (l.net net) (λ k. refl) (λ e. refl) (λ c. refl) (ranked.order net) (λ k less. same k less d)
    (λ c e high source is below. lockups_look rank p (rank net) a b same d c e high source below)

-- ---- rounds

-- what the plain replay rests on: an order with fewer levels, and no flip-flop past the cells
record Fits (l : Logic) (rank : ℕ → ℕ) (s : Size) : Type 0 where
  ranked : IsRanked l rank
  levels : (net : ℕ) → rank net < s.levels
  cells : (c : ℕ) → s.cells ≤ c → l.cell c ≡ no_cell c

views_settled : (l : Logic) (rank : ℕ → ℕ) (s : Size) (p : Pulse) (poss : ℕ → Tri) → Fits l rank s → AreViews l p poss (view_values l p poss s.levels)
views_settled l rank s p poss fits d net = view_stable l rank p poss fits.ranked s.levels (suc s.levels) net (fits.levels net) (let h : rank net < s.levels = fits.levels net in omega arith) d

strobe_settled : (l : Logic) (rank : ℕ → ℕ) (s : Size) (x : Vector) (old : ℕ → Tri) → Fits l rank s → IsTriSettled l (strobe_sources l x old (strobe_values l x old s.levels)) (strobe_values l x old s.levels)
strobe_settled l rank s x old fits net = strobe_stable l rank x old fits.ranked s.levels (suc s.levels) net (fits.levels net) (let h : rank net < s.levels = fits.levels net in omega arith)

old_past : (l : Logic) (rank : ℕ → ℕ) (s : Size) (x : Vector) (old : List Tri) → Fits l rank s → IsPast s.cells old → (c : ℕ) → s.cells ≤ c → (rise_of l x (value_at old)).old c ≡ Unknown
old_past l rank s x old fits past c h = rw (fits.cells c h) (past c h)

-- each closed map stands above this list
abbrev IsBelow : Logic → Pulse → List Tri → Type 0
IsBelow l p poss = (other : ℕ → Tri) (its : ℕ → ℕ → Tri) → IsClosed l p other its → (c : ℕ) → AboveTri (other c) (value_at poss c)

-- past the cells each closed map is Unknown
abbrev OldIsPast : Size → Pulse → Type 0
OldIsPast s p = (c : ℕ) → s.cells ≤ c → p.old c ≡ Unknown

after_past : (l : Logic) (rank : ℕ → ℕ) (s : Size) (p : Pulse) (view : ℕ → ℕ → Tri) → Fits l rank s → OldIsPast s p → (c : ℕ) → s.cells ≤ c → after_pulse l p view c ≡ Unknown
after_past l rank s p view fits old c h = rw (fits.cells c h) (either_value (λ t. t ≡ Unknown) (p.pulsed 0 && takes p.rising false) Unknown (p.old c) (λ is. refl) (old c h))

over_past : (l : Logic) (s : Size) (p : Pulse) (other : ℕ → Tri) (its : ℕ → ℕ → Tri) → OldIsPast s p → IsClosed l p other its → (c : ℕ) → s.cells ≤ c → AboveTri (other c) Unknown
over_past l s p other its old closed c h = subst (AboveTri (other c)) (old c h) (closed.old c)

start_below : (l : Logic) (s : Size) (p : Pulse) → OldIsPast s p → IsBelow l p (table s.cells p.old)
start_below l s p old other its closed c = table_cases (AboveTri (other c)) s.cells c p.old (λ h. closed.old c) (over_past l s p other its old closed c)

raised_below : (l : Logic) (rank : ℕ → ℕ) (s : Size) (p : Pulse) (poss : List Tri) → Fits l rank s → OldIsPast s p → IsBelow l p poss → IsBelow l p (raised l p s poss)
raised_below l rank s p poss fits old below other its closed c =
    let view : ℕ → ℕ → Tri = view_values l p (value_at poss) s.levels in
    table_cases (AboveTri (other c)) s.cells c (raised_value l p (value_at poss) view)
    (λ h. either_value (AboveTri (other c)) (changes l p c) _ _
    (step_below l rank p (value_at poss) other view its fits.ranked (views_settled l rank s p (value_at poss) fits) closed (below other its closed) c)
    (below other its closed c))
    (over_past l s p other its old closed c)

raised_by_below : (l : Logic) (rank : ℕ → ℕ) (s : Size) (p : Pulse) (rounds : ℕ) (poss : List Tri) → Fits l rank s → OldIsPast s p → IsBelow l p poss → IsBelow l p (raised_by l p s rounds poss)
raised_by_below l rank s p zero poss fits old below = below
raised_by_below l rank s p (suc rounds) poss fits old below = raised_by_below l rank s p rounds (raised l p s poss) fits old (raised_below l rank s p poss fits old below)

raised_by_past : (l : Logic) (s : Size) (p : Pulse) (rounds : ℕ) (poss : List Tri) → IsPast s.cells poss → IsPast s.cells (raised_by l p s rounds poss)
raised_by_past l s p zero poss past = past
raised_by_past l s p (suc rounds) poss past = raised_by_past l s p rounds (raised l p s poss) (table_past s.cells _)

-- the map stands above the old values
abbrev IsOver : Pulse → List Tri → Type 0
IsOver p poss = (c : ℕ) → AboveTri (value_at poss c) (p.old c)

start_over : (s : Size) (p : Pulse) → IsOver p (table s.cells p.old)
start_over s p c = table_cases (λ t. AboveTri t (p.old c)) s.cells c p.old (λ h. above_self (p.old c)) (λ h. tt)

-- between the end of the cells and beyond, every list is Unknown
over_unknown : (t u : Tri) → t ≡ Unknown → AboveTri t u
over_unknown t u is = rw is tt

raised_over : (l : Logic) (s : Size) (p : Pulse) (poss : List Tri) → IsOver p poss → IsOver p (raised l p s poss)
raised_over l s p poss over c =
    let view : ℕ → ℕ → Tri = view_values l p (value_at poss) s.levels in
    table_cases (λ t. AboveTri t (p.old c)) s.cells c (raised_value l p (value_at poss) view)
    (λ h. either_value (λ t. AboveTri t (p.old c)) (changes l p c) _ _ (λ is. join_over_left (value_at poss c) (next_value l p view c) (p.old c) (over c)) (over c))
    (λ h. tt)

raised_by_over : (l : Logic) (s : Size) (p : Pulse) (rounds : ℕ) (poss : List Tri) → IsOver p poss → IsOver p (raised_by l p s rounds poss)
raised_by_over l s p zero poss over = over
raised_by_over l s p (suc rounds) poss over = raised_by_over l s p rounds (raised l p s poss) (raised_over l s p poss over)

-- ---- as many rounds as cells are enough

abbrev stays : (rises : Bool) → (t next : Tri) → Bool
stays rises t next = if rises then is_above t next else true

unknown : Tri → ℕ
unknown Unknown = 1
unknown Zero = 0
unknown One = 0

stays_same : (b : Bool) (t next : Tri) → stays b t next ≡ true → risen b t next ≡ t
stays_same false t next h = refl
stays_same true Unknown next h = refl
stays_same true Zero Zero h = refl
stays_same true Zero One h = absurd cc
stays_same true Zero Unknown h = absurd cc
stays_same true One One h = refl
stays_same true One Zero h = absurd cc
stays_same true One Unknown h = absurd cc

never_falls : (b : Bool) (t next : Tri) → unknown t ≤ unknown (risen b t next)
unfolding unknown
never_falls false t next = omega arith
never_falls true Unknown next = omega arith
never_falls true Zero next = omega arith
never_falls true One next = omega arith

rises : (b : Bool) (t next : Tri) → stays b t next ≡ false → unknown t < unknown (risen b t next)
unfolding unknown
rises false t next h = absurd cc
rises true Unknown next h = absurd cc
rises true Zero Zero h = absurd cc
rises true Zero One h = omega arith
rises true Zero Unknown h = omega arith
rises true One One h = absurd cc
rises true One Zero h = omega arith
rises true One Unknown h = omega arith

-- how many of the first values are Unknown
tally : (count : ℕ) → (ℕ → Tri) → ℕ
tally zero f = 0
tally (suc count) f = unknown (f 0) + tally count (λ c. f (suc c))

unknown_at_most : (t : Tri) → unknown t ≤ 1
unfolding unknown
unknown_at_most Unknown = omega arith
unknown_at_most Zero = omega arith
unknown_at_most One = omega arith

tally_at_most : (count : ℕ) (f : ℕ → Tri) → tally count f ≤ count
unfolding tally
tally_at_most zero f = omega arith
tally_at_most (suc count) f =
    let first : unknown (f 0) ≤ 1 = unknown_at_most (f 0) in
    let rest : tally count (λ c. f (suc c)) ≤ count = tally_at_most count (λ c. f (suc c)) in
    omega arith

tally_table : (count : ℕ) (f : ℕ → Tri) → tally count (value_at (table count f)) ≡ tally count f
unfolding tally
tally_table zero f = refl
tally_table (suc count) f = ap (λ k. unknown (f 0) + k) (tally_table count (λ c. f (suc c)))

tally_never_falls : (count : ℕ) (b : ℕ → Bool) (f next : ℕ → Tri) → tally count f ≤ tally count (λ c. risen (b c) (f c) (next c))
unfolding tally
tally_never_falls zero b f next = omega arith
tally_never_falls (suc count) b f next =
    let first : unknown (f 0) ≤ unknown (risen (b 0) (f 0) (next 0)) = never_falls (b 0) (f 0) (next 0) in
    let rest : tally count (λ c. f (suc c)) ≤ tally count (λ c. risen (b (suc c)) (f (suc c)) (next (suc c))) = tally_never_falls count (λ c. b (suc c)) (λ c. f (suc c)) (λ c. next (suc c)) in
    omega arith

tally_rises : (count : ℕ) (b : ℕ → Bool) (f next : ℕ → Tri) → all_first count (λ c. stays (b c) (f c) (next c)) ≡ false → tally count f < tally count (λ c. risen (b c) (f c) (next c))
unfolding tally
tally_rises zero b f next h = absurd cc
tally_rises (suc count) b f next h =
    let first : unknown (f 0) ≤ unknown (risen (b 0) (f 0) (next 0)) = never_falls (b 0) (f 0) (next 0) in
    let rest : tally count (λ c. f (suc c)) ≤ tally count (λ c. risen (b (suc c)) (f (suc c)) (next (suc c))) = tally_never_falls count (λ c. b (suc c)) (λ c. f (suc c)) (λ c. next (suc c)) in
    elim (and_cases (stays (b 0) (f 0) (next 0)) (all_first count (λ c. stays (b (suc c)) (f (suc c)) (next (suc c)))) h) [
      | inl here ↦ (let more : unknown (f 0) < unknown (risen (b 0) (f 0) (next 0)) = rises (b 0) (f 0) (next 0) here in omega arith)
      | inr there ↦ (let more : tally count (λ c. f (suc c)) < tally count (λ c. risen (b (suc c)) (f (suc c)) (next (suc c))) = tally_rises count (λ c. b (suc c)) (λ c. f (suc c)) (λ c. next (suc c)) there in omega arith)
    ]

-- whether a round changes nothing
abbrev is_closed : Logic → Pulse → Size → List Tri → Bool
is_closed l p s poss = all_first s.cells (λ c. stays (changes l p c) (value_at poss c) (next_value l p (view_values l p (value_at poss) s.levels) c))

closed_same : (l : Logic) (s : Size) (p : Pulse) (poss : List Tri) → IsPast s.cells poss → is_closed l p s poss ≡ true → value_at (raised l p s poss) ≡ value_at poss
closed_same l s p poss past closed =
    let view : ℕ → ℕ → Tri = view_values l p (value_at poss) s.levels in
    same_map _ _ (λ c. table_cases (λ t. t ≡ value_at poss c) s.cells c (raised_value l p (value_at poss) view)
    (λ h. stays_same (changes l p c) (value_at poss c) (next_value l p view c) (all_first_at s.cells c (λ k. stays (changes l p k) (value_at poss k) (next_value l p view k)) closed h))
    (λ h. sym (past c h)))

closed_stays : (l : Logic) (s : Size) (p : Pulse) (rounds : ℕ) (poss : List Tri) → IsPast s.cells poss → is_closed l p s poss ≡ true → is_closed l p s (raised_by l p s rounds poss) ≡ true
closed_stays l s p zero poss past closed = closed
closed_stays l s p (suc rounds) poss past closed =
    closed_stays l s p rounds (raised l p s poss) (table_past s.cells _)
    (subst (λ (w : ℕ → Tri). all_first s.cells (λ c. stays (changes l p c) (w c) (next_value l p (view_values l p w s.levels) c)) ≡ true) (sym (closed_same l s p poss past closed)) closed)

round_rises : (l : Logic) (s : Size) (p : Pulse) (poss : List Tri) → is_closed l p s poss ≡ false → tally s.cells (value_at poss) < tally s.cells (value_at (raised l p s poss))
round_rises l s p poss moves =
    let view : ℕ → ℕ → Tri = view_values l p (value_at poss) s.levels in
    rw (tally_table s.cells (raised_value l p (value_at poss) view)) (tally_rises s.cells (λ c. changes l p c) (value_at poss) (next_value l p view) moves)

closes : (l : Logic) (s : Size) (p : Pulse) (rounds : ℕ) (poss : List Tri) → IsPast s.cells poss → s.cells ≤ tally s.cells (value_at poss) + rounds → is_closed l p s (raised_by l p s rounds poss) ≡ true
closes l s p zero poss past enough = elim (cases_Bool (is_closed l p s poss)) [
  | inl closed ↦ closed
  | inr moves ↦ (
      let more : tally s.cells (value_at poss) < tally s.cells (value_at (raised l p s poss)) = round_rises l s p poss moves in
      let most : tally s.cells (value_at (raised l p s poss)) ≤ s.cells = tally_at_most s.cells _ in
      absurd (omega arith))
]
closes l s p (suc rounds) poss past enough = elim (cases_Bool (is_closed l p s poss)) [
  | inl closed ↦ closed_stays l s p (suc rounds) poss past closed
  | inr moves ↦ (
      let more : tally s.cells (value_at poss) < tally s.cells (value_at (raised l p s poss)) = round_rises l s p poss moves in
      closes l s p rounds (raised l p s poss) (table_past s.cells _) (omega arith))
]

-- ---- vectors

tested : (b : Bool) (t next : Tri) → stays b t next ≡ true → b ≡ true → AboveTri t next
tested true t next h is = above_from t next h
tested false t next h is = absurd cc

closed_from : (l : Logic) (rank : ℕ → ℕ) (s : Size) (p : Pulse) (poss : List Tri) → Fits l rank s → IsPast s.cells poss → IsOver p poss → is_closed l p s poss ≡ true → IsClosed l p (value_at poss) (view_values l p (value_at poss) s.levels)
closed_from l rank s p poss fits past over closed =
    let view : ℕ → ℕ → Tri = view_values l p (value_at poss) s.levels in
    record {
      views = views_settled l rank s p (value_at poss) fits;
      old = over;
      next = λ c is. elim (cases_lt c s.cells) [
        | inl h ↦ tested (changes l p c) _ _ (all_first_at s.cells c (λ k. stays (changes l p k) (value_at poss k) (next_value l p view k)) closed h) is
        | inr h ↦ over_unknown _ _ (past c h)
      ];
    }

least_from : (l : Logic) (rank : ℕ → ℕ) (s : Size) (p : Pulse) → Fits l rank s → OldIsPast s p → IsLeast l p (value_at (plain_map l p s)) (view_values l p (value_at (plain_map l p s)) s.levels)
least_from l rank s p fits old =
    let start : List Tri = table s.cells p.old in
    let past : IsPast s.cells start = table_past s.cells p.old in
    record {
      closed = closed_from l rank s p (plain_map l p s) fits (raised_by_past l s p s.cells start past) (raised_by_over l s p s.cells start (start_over s p)) (closes l s p s.cells start past (omega arith));
      least = raised_by_below l rank s p s.cells start fits old (start_below l s p old);
    }

abbrev plain_half : Logic → Size → Pulse → Half
plain_half l s p = record { poss = value_at (plain_map l p s); view = view_values l p (value_at (plain_map l p s)) s.levels }

abbrev plain_falls : Logic → Size → Row → (old : List Tri) → Pulse
plain_falls l s x old = plain_fall l s x.vector old (plain_map l (rise_of l x.vector (value_at old)) s)

abbrev plain_round : Logic → Size → Row → (old : List Tri) → Round
plain_round l s x old = record {
  strobe = strobe_values l x.vector (value_at old) s.levels;
  halves = record { rise = plain_half l s (rise_of l x.vector (value_at old)); fall = plain_half l s (plain_falls l s x old) };
}

falls_past : (l : Logic) (rank : ℕ → ℕ) (s : Size) (x : Row) (old : List Tri) → Fits l rank s → IsPast s.cells old → OldIsPast s (plain_falls l s x old)
falls_past l rank s x old fits past =
    let p : Pulse = rise_of l x.vector (value_at old) in
    after_past l rank s p (view_values l p (value_at (plain_map l p s)) s.levels) fits (old_past l rank s x.vector old fits past)

round_is : (l : Logic) (rank : ℕ → ℕ) (s : Size) (x : Row) (old : List Tri) → Fits l rank s → IsPast s.cells old → IsRound l x.vector (value_at old) (plain_round l s x old)
round_is l rank s x old fits past = record {
  strobe = strobe_settled l rank s x.vector (value_at old) fits;
  least = record {
    rise = least_from l rank s (rise_of l x.vector (value_at old)) fits (old_past l rank s x.vector old fits past);
    fall = least_from l rank s (plain_falls l s x old) fits (falls_past l rank s x old fits past);
  };
}

after_is : (l : Logic) (rank : ℕ → ℕ) (s : Size) (x : Row) (old : List Tri) → Fits l rank s → IsPast s.cells old →
    value_at (table s.cells (after_round l x.vector (value_at old) (plain_round l s x old))) ≡ after_round l x.vector (value_at old) (plain_round l s x old)
after_is l rank s x old fits past =
    let after : ℕ → Tri = after_round l x.vector (value_at old) (plain_round l s x old) in
    let q : Pulse = plain_falls l s x old in
    same_map _ _ (λ c. table_cases (λ t. t ≡ after c) s.cells c after (λ h. refl)
    (λ h. sym (after_past l rank s q (view_values l q (value_at (plain_map l q s)) s.levels) fits (falls_past l rank s x old fits past) c h)))

stops_from : (d : Option Verdict) (later : Verdict) (Later : Verdict → Type 0) → Later later → Stops d (or_later d later) (Later (or_later d later))
stops_from None later Later h = h
stops_from (Some d) later Later h = refl

ends_from : (u : Unknowns) (l : Logic) (rank : ℕ → ℕ) (s : Size) (old : List Tri) (v count : ℕ) (rows : List Row) → Fits l rank s → IsPast s.cells old → EndsFrom u l (value_at old) v count rows (plain_from u l s old v count rows)
ends_from u l rank s old v count [] fits past = refl
ends_from u l rank s old v count (x ∷ xs) fits past =
    let r : Round = plain_round l s x old in
    let next : List Tri = table s.cells (after_round l x.vector (value_at old) r) in
    let count' : ℕ = count + length x.compared in
    let later : Verdict = plain_from u l s next (suc v) count' xs in (
      r,
      (
        round_is l rank s x old fits past,
        stops_from (bits_decide u r.strobe v x.compared) later (EndsFrom u l (after_round l x.vector (value_at old) r) (suc v) count' xs)
            (subst (λ (w : ℕ → Tri). EndsFrom u l w (suc v) count' xs later) (after_is l rank s x old fits past)
            (ends_from u l rank s next (suc v) count' xs fits (table_past s.cells _))),
      ),
    )

-- ---- designs

-- a replay comes to an end on every design with an order
pub end_plain : (u : Unknowns) (n : Netlist) (rank : ℕ → ℕ) (p : Patterns) → IsOrdered n rank → EndsAt u n p (plain_end u n p)
end_plain u n rank p order =
    ends_from u (logic_of n (ports_of n p)) rank (size_of n) [] 0 0 (rows_of n p)
    (record {
      ranked = order_is_rank n (ports_of n p) rank order;
      levels = λ net. (let h : rank net ≤ length n.nets = order.within net in omega arith);
      cells = past_cell n (ports_of n p);
    })
    (λ c h. refl)

pub verdict_plain : VerdictIsPlain
verdict_plain n rank p order = end_plain Stop n rank p order
