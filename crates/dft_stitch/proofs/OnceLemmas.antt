-- Each scanned cell stands at one place.
use Rattle.std.proofs.Common.{◌≡◌, ℕ, zero, suc, ◌+◌, ◌*◌, ◌<◌, ◌≤◌, ◌==◌, Bool, true, false, cond, List, [], ◌∷◌, ◌++◌, length, get_or, flat_map, Option, None, Some, slice_get, refl, sym, ◌∙◌, ap, subst, arith, ◌⊎◌, inl, inr}
use Rattle.std.specs.Prelude.{is_some}
use Rattle.std.specs.List.{filter_map, cons_option, range_with_len}
use Rattle.std.proofs.lemmas.Bool.{cases_eq, eqb-true}
use Rattle.std.proofs.lemmas.List.{get_or_past}
use Rattle.std.proofs.lemmas.Option.{same_Some, slice_get_within, slice_get_past}
use Rattle.std.proofs.lemmas.List.FromFn.{get_or-map-range_with_len, length-map-range_with_len}
use Rattle.dft_base.proofs.NumberLemmas.{same_number}
use Rattle.dft_base.proofs.ListLemmas.{get_left, get_right, at_either}
use Rattle.dft_netlist.specs.declared.ids.InstanceId.{InstanceId}
use Rattle.dft_netlist.specs.declared.instance.Instance.{Instance}
use Rattle.dft_netlist.specs.Netlist.{Netlist}
use Rattle.dft_netlist.specs.Drivers.{kind_of, kind_at}
use Rattle.dft_netlist.proofs.LiveLemmas.{le_or_lt}
use Rattle.dft_config.specs.Config.{Config}
use Rattle.dft_rules.specs.declared.judged.Judged.{Judged}
use Rattle.dft_rules.specs.declared.judged.Judged.TheVariants.{Scanned, Unscanned}
use Rattle.dft_rules.specs.Rules.{judged, judged_by, judgements, may_be_scanned, clocked_by, are_held_at, scan_cell_of, is_kept}
use Rattle.dft_rules.proofs.ClockedFlops.{IsClocked, clocked, verdict_passes}
use Rattle.dft_stitch.specs.declared.places.CellClock.{CellClock}
use Rattle.dft_stitch.specs.Chains.{cell_in, cells_in, cells_of, chains_of, clock_of, clock_in, group_of, if_group}
use Rattle.dft_stitch.specs.Laws.{CellsAreScanned, CellsStandOnce}
use Rattle.dft_stitch.specs.Plans.{cell_at}
use Rattle.dft_stitch.proofs.EvenLemmas.{chains_hold}

-- ---- items of lists, by their places

-- no item stands at two places
abbrev Once : {X : Type 0} → List X → Type 0
Once {X} xs = (a b : ℕ) (x : X) → slice_get xs a ≡ Some x → slice_get xs b ≡ Some x → a ≡ b

once_append : {X : Type 0} (xs ys : List X) → Once xs → Once ys → ((a b : ℕ) (x : X) → slice_get xs a ≡ Some x → slice_get ys b ≡ Some x → ⊥) → Once (xs ++ ys)
once_append xs ys one two apart a b x p q = elim (at_either xs ys a x p) [
  | inl p1 ↦ elim (at_either xs ys b x q) [ inl q1 ↦ one a b x p1 q1 | inr q2 ↦ absurd (apart a q2.place x p1 q2.here) ]
  | inr p2 ↦ elim (at_either xs ys b x q) [
    | inl q1 ↦ absurd (apart b p2.place x q1 p2.here)
    | inr q2 ↦ (let e = two p2.place q2.place x p2.here q2.here in let f = p2.number in let g = q2.number in omega arith)
  ]
]

once_right : {X : Type 0} (xs ys : List X) → Once (xs ++ ys) → Once ys
once_right xs ys once a b x p q = let e = once (length xs + a) (length xs + b) x (get_right xs ys a x p) (get_right xs ys b x q) in omega arith

once_none : {X : Type 0} → Once {X = X} []
once_none a b x p q = absurd (let f : ⊥ = cc in f)

-- ---- places of chains

in_chains : (chains : List (List InstanceId)) (r : ℕ) (x : InstanceId) → slice_get (flat_map (λ chain. chain) chains) r ≡ Some x → (c : ℕ) × (k : ℕ) × (cell_at chains c k ≡ Some x)
in_chains [] r x h = absurd (let f : ⊥ = cc in f)
in_chains (cells ∷ rest) r x h = elim (at_either cells (flat_map (λ chain. chain) rest) r x h) [
  | inl here ↦ (0, r, here)
  | inr b ↦ (let more = in_chains rest b.place x b.here in (suc more.0, more.1, more.2))
]

in_cells : (chains : List (List InstanceId)) (c k : ℕ) (x : InstanceId) → cell_at chains c k ≡ Some x → (r : ℕ) × (slice_get (flat_map (λ chain. chain) chains) r ≡ Some x)
in_cells [] c k x h = absurd (let f : ⊥ = cc in f)
in_cells (cells ∷ rest) zero k x h = (k, get_left cells (flat_map (λ chain. chain) rest) k x h)
in_cells (cells ∷ rest) (suc c) k x h = let more = in_cells rest c k x h in (length cells + more.0, get_right cells (flat_map (λ chain. chain) rest) more.0 x more.1)

one_place : (chains : List (List InstanceId)) → Once (flat_map (λ chain. chain) chains) → (c k d l : ℕ) (x : InstanceId) → cell_at chains c k ≡ Some x → cell_at chains d l ≡ Some x → (c ≡ d) × (k ≡ l)
one_place [] once c k d l x p q = absurd (let f : ⊥ = cc in f)
one_place (cells ∷ rest) once zero k zero l x p q =
    (refl, once k l x (get_left cells (flat_map (λ chain. chain) rest) k x p) (get_left cells (flat_map (λ chain. chain) rest) l x q))
one_place (cells ∷ rest) once zero k (suc d) l x p q =
    let more = in_cells rest d l x q in
    let e = once k (length cells + more.0) x (get_left cells (flat_map (λ chain. chain) rest) k x p) (get_right cells (flat_map (λ chain. chain) rest) more.0 x more.1) in
    let within = slice_get_within cells k x p in
    absurd (let f : ⊥ = omega arith in f)
one_place (cells ∷ rest) once (suc c) k zero l x p q =
    let more = in_cells rest c k x p in
    let e = once l (length cells + more.0) x (get_left cells (flat_map (λ chain. chain) rest) l x q) (get_right cells (flat_map (λ chain. chain) rest) more.0 x more.1) in
    let within = slice_get_within cells l x q in
    absurd (let f : ⊥ = omega arith in f)
one_place (cells ∷ rest) once (suc c) k (suc d) l x p q =
    let same = one_place rest (once_right cells (flat_map (λ chain. chain) rest) once) c k d l x p q in (ap suc same.0, same.1)

-- ---- the scanned cells of a group

-- a cell is scanned in a group, by its clock
pub record InGroup (v : List (Option Judged)) (domains g : ℕ) (x : InstanceId) : Type 0 where
  pub clock : CellClock
  pub its : clock_of v x ≡ Some clock
  pub group : group_of domains clock ≡ g

abbrev IsHead : (v : List (Option Judged)) (domains g k : ℕ) (x : InstanceId) → Type 0
IsHead v domains g k x = (x ≡ record { 0 = k }) × InGroup v domains g (record { 0 = k })

abbrev IsLater : (rest : List InstanceId) (x : InstanceId) → Type 0
IsLater rest x = (q : ℕ) × (slice_get rest q ≡ Some x)

by_group : (v : List (Option Judged)) (domains g k : ℕ) (rest : List InstanceId) (p : ℕ) (x : InstanceId) (o : Option CellClock) → clock_of v (record { 0 = k }) ≡ o →
    slice_get (cons_option (if_group domains g o (record { 0 = k })) rest) p ≡ Some x → IsHead v domains g k x ⊎ IsLater rest x
by_group v domains g k rest p x None is h = inr (p, h)
by_group v domains g k rest p x (Some clock) is h = by (group_of domains clock == g) refl p h
  where
    by : (t : Bool) → (group_of domains clock == g) ≡ t → (p : ℕ) → slice_get (cons_option (cond t (Some (record { 0 = k })) None) rest) p ≡ Some x → IsHead v domains g k x ⊎ IsLater rest x
    by true same zero at = inl (cc, record { clock = clock; its = is; group = eqb-true (group_of domains clock) g same })
    by true same (suc q) at = inr (q, at)
    by false same q at = inr (q, at)

head_or_later : (v : List (Option Judged)) (domains g k : ℕ) (rest : List InstanceId) (p : ℕ) (x : InstanceId) → slice_get (cons_option (cell_in v domains g k) rest) p ≡ Some x → IsHead v domains g k x ⊎ IsLater rest x
head_or_later v domains g k rest p x h = by_group v domains g k rest p x (clock_of v (record { 0 = k })) refl h

pub record IsIn (v : List (Option Judged)) (domains g k : ℕ) (x : InstanceId) : Type 0 where
  pub low : k ≤ x.0
  pub group : InGroup v domains g x

pub in_range : (v : List (Option Judged)) (domains g k m p : ℕ) (x : InstanceId) → slice_get (filter_map (cell_in v domains g) (range_with_len k m)) p ≡ Some x → IsIn v domains g k x
in_range v domains g k zero p x h = absurd (let f : ⊥ = cc in f)
in_range v domains g k (suc m) p x h = elim (head_or_later v domains g k (filter_map (cell_in v domains g) (range_with_len (k + 1) m)) p x h) [
  | inl here ↦ record { low = (let e : x.0 ≡ k = ap (λ (y : InstanceId). y.0) here.0 in omega arith); group = subst (InGroup v domains g) (sym here.0) here.1 }
  | inr more ↦ (let ih = in_range v domains g (k + 1) m more.0 x more.1 in let low = ih.low in record { low = omega arith; group = ih.group })
]

once_option : (k : ℕ) (rest : List InstanceId) → ((q : ℕ) (x : InstanceId) → slice_get rest q ≡ Some x → k < x.0) → Once rest → (o : Option InstanceId) → (o ≡ None) ⊎ (o ≡ Some (record { 0 = k })) → Once (cons_option o rest)
once_option k rest high once None is = once
once_option k rest high once (Some y) is = by
  where
    y_is : y.0 ≡ k
    y_is = elim is [ inl e ↦ absurd (let f : ⊥ = cc in f) | inr e ↦ (let g : y ≡ record { 0 = k } = cc in ap (λ (z : InstanceId). z.0) g) ]

    never : (q : ℕ) (x : InstanceId) → y ≡ x → slice_get rest q ≡ Some x → ⊥
    never q x e at = let h = high q x at in let i : y.0 ≡ x.0 = ap (λ (z : InstanceId). z.0) e in let j = y_is in let f : ⊥ = omega arith in f

    by : Once (y ∷ rest)
    by zero zero x p q = refl
    by zero (suc b) x p q = absurd (never b x (let e : y ≡ x = cc in e) q)
    by (suc a) zero x p q = absurd (never a x (let e : y ≡ x = cc in e) p)
    by (suc a) (suc b) x p q = ap suc (once a b x p q)

which : (domains g : ℕ) (o : Option CellClock) (x : InstanceId) → (if_group domains g o x ≡ None) ⊎ (if_group domains g o x ≡ Some x)
which domains g None x = inl refl
which domains g (Some clock) x = by (group_of domains clock == g)
  where
    by : (t : Bool) → (cond t (Some x) None ≡ None) ⊎ (cond t (Some x) None ≡ Some x)
    by true = inr refl
    by false = inl refl

once_range : (v : List (Option Judged)) (domains g k m : ℕ) → Once (filter_map (cell_in v domains g) (range_with_len k m))
once_range v domains g k zero = once_none
once_range v domains g k (suc m) =
    once_option k (filter_map (cell_in v domains g) (range_with_len (k + 1) m)) (λ q x at. (let low = (in_range v domains g (k + 1) m q x at).low in omega arith)) (once_range v domains g (k + 1) m)
    (cell_in v domains g k) (which domains g (clock_of v (record { 0 = k })) (record { 0 = k }))

later : (o : Option InstanceId) (rest : List InstanceId) (x : InstanceId) → IsLater rest x → IsLater (cons_option o rest) x
later None rest x h = h
later (Some y) rest x h = (suc h.0, h.1)

taken : (domains g k : ℕ) (rest : List InstanceId) (o : Option CellClock) (clock : CellClock) → o ≡ Some clock → group_of domains clock ≡ g → IsLater (cons_option (if_group domains g o (record { 0 = k })) rest) (record { 0 = k })
taken domains g k rest None clock is its = absurd (let f : ⊥ = cc in f)
taken domains g k rest (Some other) clock is its =
    let same : other ≡ clock = cc in
    let yes : (group_of domains other == g) ≡ true = ap (λ (c : CellClock). group_of domains c == g) same ∙ ap (λ (j : ℕ). j == g) its ∙ same_number g in
    rw yes (0, refl)

has_cell : (v : List (Option Judged)) (domains g k m i : ℕ) → k ≤ i → i < k + m → InGroup v domains g (record { 0 = i }) → IsLater (filter_map (cell_in v domains g) (range_with_len k m)) (record { 0 = i })
has_cell v domains g k zero i low high is = absurd (let f : ⊥ = omega arith in f)
has_cell v domains g k (suc m) i low high is = elim (cases_eq k i) [
  | inl e ↦ (
      let P : ℕ → Type 0 = λ j. IsLater (cons_option (cell_in v domains g k) (filter_map (cell_in v domains g) (range_with_len (k + 1) m))) (record { 0 = j }) in
      subst P e (taken domains g k (filter_map (cell_in v domains g) (range_with_len (k + 1) m)) (clock_of v (record { 0 = k })) is.clock (ap (λ (j : ℕ). clock_of v (record { 0 = j })) e ∙ is.its) is.group))
  | inr apart ↦ later (cell_in v domains g k) (filter_map (cell_in v domains g) (range_with_len (k + 1) m)) (record { 0 = i }) (has_cell v domains g (k + 1) m i (omega arith) (omega arith) is)
]

-- ---- the scanned cells of all groups

pub in_groups : (v : List (Option Judged)) (domains g m p : ℕ) (x : InstanceId) → slice_get (flat_map (cells_in v domains) (range_with_len g m)) p ≡ Some x → (h : ℕ) × (g ≤ h) × InGroup v domains h x
in_groups v domains g zero p x h = absurd (let f : ⊥ = cc in f)
in_groups v domains g (suc m) p x h = elim (at_either (cells_in v domains g) (flat_map (cells_in v domains) (range_with_len (g + 1) m)) p x h) [
  | inl here ↦ (g, omega arith, (in_range v domains g 0 (length v) p x here).group)
  | inr b ↦ (let more = in_groups v domains (g + 1) m b.place x b.here in let low = more.1 in (more.0, omega arith, more.2))
]

-- a cell is in one group
pub one_group : (v : List (Option Judged)) (domains g h : ℕ) (x : InstanceId) → InGroup v domains g x → InGroup v domains h x → g ≡ h
one_group v domains g h x one other = sym one.group ∙ ap (group_of domains) (same_Some one.clock other.clock (sym one.its ∙ other.its)) ∙ other.group

once_groups : (v : List (Option Judged)) (domains g m : ℕ) → Once (flat_map (cells_in v domains) (range_with_len g m))
once_groups v domains g zero = once_none
once_groups v domains g (suc m) = once_append (cells_in v domains g) (flat_map (cells_in v domains) (range_with_len (g + 1) m)) (once_range v domains g 0 (length v)) (once_groups v domains (g + 1) m)
    (λ a b x p q. (
    let here = (in_range v domains g 0 (length v) a x p).group in
    let there = in_groups v domains (g + 1) m b x q in
    let same : g ≡ there.0 = one_group v domains g there.0 x here there.2 in
    let low = there.1 in
    let f : ⊥ = omega arith in f))

has_group : (v : List (Option Judged)) (domains g h m : ℕ) (x : InstanceId) → g ≤ h → h < g + m → IsLater (cells_in v domains h) x → IsLater (flat_map (cells_in v domains) (range_with_len g m)) x
has_group v domains g h zero x low high has = absurd (let f : ⊥ = omega arith in f)
has_group v domains g h (suc m) x low high has = elim (cases_eq g h) [
  | inl same ↦ (
      let here : IsLater (cells_in v domains g) x = (let P : ℕ → Type 0 = λ j. IsLater (cells_in v domains j) x in subst P (sym same) has) in
      (here.0, get_left (cells_in v domains g) (flat_map (cells_in v domains) (range_with_len (g + 1) m)) here.0 x here.1))
  | inr apart ↦ (
      let there = has_group v domains (g + 1) h m x (omega arith) (omega arith) has in
      (length (cells_in v domains g) + there.0, get_right (cells_in v domains g) (flat_map (cells_in v domains) (range_with_len (g + 1) m)) there.0 x there.1))
]

-- the group of a domain's clock is one of twice as many as there are domains
pub group_within : (domains domain : ℕ) (falling : Bool) → domain < domains → group_of domains (record { domain = domain; falling = falling }) < 2 * domains
group_within domains domain true less = omega arith
group_within domains domain false less = omega arith

-- ---- a scanned flip-flop has a domain of the configuration

pub domain_within : (n : Netlist) (config : Config) (i d : ℕ) (f : Bool) → judged n config i ≡ Some (Scanned d f) → d < length config.domains
domain_within n config i d f h =
    let clock : IsClocked n config i d f = clocked n config i d f (verdict_passes n config i d f h).passed.is_clock in
    slice_get_within config.domains d clock.name clock.named

no_instance : (n : Netlist) (config : Config) (i d : ℕ) (f : Bool) → slice_get n.instances i ≡ None → judged n config i ≡ Some (Scanned d f) → ⊥
no_instance n config i d f none h =
    let opaque : may_be_scanned (kind_at n i) ≡ false = ap (λ (o : Option Instance). may_be_scanned (kind_of n.library o)) none in
    let not : judged n config i ≡ None = ap (λ (t : Bool). cond t (judged_by (clocked_by n config i) (are_held_at n config i) (is_some (scan_cell_of n i)) (is_kept n config.keep i)) None) opaque in
    let e : ⊥ = cc in e

instance_there : (n : Netlist) (config : Config) (i d : ℕ) (f : Bool) → judged n config i ≡ Some (Scanned d f) → i < length n.instances
instance_there n config i d f h = elim (le_or_lt (length n.instances) i) [ inl past ↦ absurd (no_instance n config i d f (slice_get_past n.instances i past) h) | inr less ↦ less ]

-- ---- the laws

pub cells_once : CellsStandOnce
cells_once = λ n config i d f ranged scanned. (
    let v = judgements n config in
    let cells = cells_of n config in
    let domains = length config.domains in
    let clock : CellClock = record { domain = d; falling = f } in
    let x : InstanceId = record { 0 = i } in
    let less = instance_there n config i d f scanned in
    let verdict : get_or v i None ≡ Some (Scanned d f) = get_or-map-range_with_len (judged n config) 0 (length n.instances) i i None less (omega arith) ∙ scanned in
    let count = length-map-range_with_len (judged n config) 0 (length n.instances) in
    let in_group = has_cell v domains (group_of domains clock) 0 (length v) i (omega arith) (omega arith) (record { clock = clock; its = ap clock_in verdict; group = refl }) in
    let in_all = has_group v domains 0 (group_of domains clock) (2 * domains) x (omega arith) (let w = group_within domains d f (domain_within n config i d f scanned) in omega (arith, w)) in_group in
    let chains = chains_of cells config.chains in
    let whole : flat_map (λ chain. chain) chains ≡ cells = chains_hold cells config.chains ranged.chains.0 in
    let once : Once (flat_map (λ chain. chain) chains) = rw whole (once_groups v domains 0 (2 * domains)) in
    let place = in_chains chains in_all.0 x (ap (λ (xs : List InstanceId). slice_get xs in_all.0) whole ∙ in_all.1) in
    record {
      chain = place.0;
      place = place.1;
      stands = place.2;
      only = λ other after at. one_place chains once other after place.0 place.1 x at place.2;
    })

-- the verdict of a cell with a clock
pub scanned_by : (o : Option Judged) (clock : CellClock) → clock_in o ≡ Some clock → o ≡ Some (Scanned clock.domain clock.falling)
scanned_by None clock h = absurd (let f : ⊥ = cc in f)
scanned_by (Some (Scanned d f)) clock h = ap (λ (c : CellClock). Some (Scanned c.domain c.falling)) (same_Some (record { domain = d; falling = f }) clock h)
scanned_by (Some (Unscanned rule)) clock h = absurd (let f : ⊥ = cc in f)

verdict_of : (n : Netlist) (config : Config) (i : ℕ) (verdict : Judged) → get_or (judgements n config) i None ≡ Some verdict → judged n config i ≡ Some verdict
verdict_of n config i verdict h = elim (le_or_lt (length n.instances) i) [
  | inl past ↦ absurd (let f : ⊥ = (
      let count = length-map-range_with_len (judged n config) 0 (length n.instances) in
      let none : get_or (judgements n config) i None ≡ None = get_or_past (judgements n config) i None (omega arith) in
      cc) in f)
  | inr less ↦ sym (get_or-map-range_with_len (judged n config) 0 (length n.instances) i i None less (omega arith)) ∙ h
]

pub cells_scanned : CellsAreScanned
cells_scanned = λ n config chain place cell ranged at. (
    let v = judgements n config in
    let cells = cells_of n config in
    let chains = chains_of cells config.chains in
    let whole : flat_map (λ chain. chain) chains ≡ cells = chains_hold cells config.chains ranged.chains.0 in
    let there = in_cells chains chain place cell at in
    let in_all : slice_get cells there.0 ≡ Some cell = ap (λ (xs : List InstanceId). slice_get xs there.0) (sym whole) ∙ there.1 in
    let g = (in_groups v (length config.domains) 0 (2 * length config.domains) there.0 cell in_all).2 in
    record { domain = g.clock.domain; falling = g.clock.falling; is = verdict_of n config cell.0 (Scanned g.clock.domain g.clock.falling) (scanned_by (get_or v cell.0 None) g.clock g.its) })
