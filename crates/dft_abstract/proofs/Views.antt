-- Families of settled assignments exist and are unique; so do views at any map, and a closed map.
use Rattle.std.proofs.Common.{ℕ, Bool, ◌==◌, [], ◌∷◌, ◌≡◌, ◌<◌, zero, suc, refl, sym, ap, arith, ◌∙◌}
use Rattle.std.specs.Prelude.{if◌then◌else◌}
use Rattle.dft_base.specs.declared.tri.Tri.{Tri}
use Rattle.dft_base.specs.declared.tri.Tri.TheVariants.{Unknown}
use Rattle.dft_cells.specs.Gates.{tri_of}
use Rattle.dft_netlist.specs.Drivers.{Source, nets_of, AreBelow}
use Rattle.dft_behavior.specs.Logic.{Logic, Meaning, Input, Clock, Gate, Joined, Flop, Lockup, Free, reads, IsRanked}
use Rattle.dft_behavior.specs.Settled.{TriSources, value_from, value_given, IsTriSettled}
use Rattle.dft_behavior.proofs.Meanings.{source_same, inputs_same}
use Rattle.dft_abstract.specs.Cycle.{Pulse, lockup_shown, lockup_value, view_sources, AreViews, rise_of, strobe_sources}
use Rattle.dft_abstract.specs.Laws.{ClosedExists, StrobeExists}

-- a meaning's value depends on the sources and on what it reads
pub given_same : (rank : ℕ → ℕ) (t s : TriSources) (a b : ℕ → Tri) (net : ℕ) (m : Meaning) →
    ((k : ℕ) → t.ports k ≡ s.ports k) → ((e : ℕ) → t.clocks e ≡ s.clocks e) → ((c : ℕ) → t.flops c ≡ s.flops c) →
    AreBelow rank (rank net) (reads m) → ((k : ℕ) → rank k < rank net → a k ≡ b k) →
    ((c e : ℕ) (high : Bool) (source : Source) → m ≡ Lockup c e high source → AreBelow rank (rank net) (nets_of (source ∷ [])) → t.lockups c e high source ≡ s.lockups c e high source) →
    value_given t a net m ≡ value_given s b net m
given_same rank t s a b net Input ports clocks flops below same lockups = ports net
given_same rank t s a b net Clock ports clocks flops below same lockups = clocks net
given_same rank t s a b net (Gate kind inputs) ports clocks flops below same lockups = ap (tri_of kind) (inputs_same rank (rank net) a b inputs below same)
given_same rank t s a b net (Joined source) ports clocks flops below same lockups = source_same rank (rank net) a b source below same
given_same rank t s a b net (Flop c inverted) ports clocks flops below same lockups = rw (flops c) refl
given_same rank t s a b net (Lockup c e high source) ports clocks flops below same lockups = lockups c e high source refl below
given_same rank t s a b net Free ports clocks flops below same lockups = refl

-- what lock-ups show, from a family of assignments
abbrev pub LockedBy : Type 0
LockedBy = (w : ℕ → ℕ → Tri) → (view cell domain : ℕ) → (high : Bool) → Source → Tri

-- it depends on the values of what they read alone
abbrev pub LooksBelow : (rank : ℕ → ℕ) → LockedBy → Type 0
LooksBelow rank lock =
    (r : ℕ) (a b : ℕ → ℕ → Tri) → ((k : ℕ) → rank k < r → (e : ℕ) → a e k ≡ b e k) → (d c e : ℕ) (high : Bool) (source : Source) → AreBelow rank r (nets_of (source ∷ [])) → lock a d c e high source ≡ lock b d c e high source

-- sources that differ by lock-ups alone, which read a family of assignments
abbrev pub with_lockups : (ℕ → TriSources) → LockedBy → (ℕ → ℕ → Tri) → ℕ → TriSources
with_lockups base lock w d = record { ports = (base d).ports; clocks = (base d).clocks; flops = (base d).flops; lockups = lock w d }

family_same : (rank : ℕ → ℕ) (base : ℕ → TriSources) (lock : LockedBy) → LooksBelow rank lock → (a b : ℕ → ℕ → Tri) (d net : ℕ) (m : Meaning) → AreBelow rank (rank net) (reads m) → ((k : ℕ) → rank k < rank net → (e : ℕ) → a e k ≡ b e k) →
    value_given (with_lockups base lock a d) (a d) net m ≡ value_given (with_lockups base lock b d) (b d) net m
family_same rank base lock looks a b d net m below same =
    given_same rank (with_lockups base lock a d) (with_lockups base lock b d) (a d) (b d) net m (λ k. refl) (λ e. refl) (λ c. refl) below (λ k less. same k less d)
    (λ c e high source is source_below. looks (rank net) a b same d c e high source source_below)

-- the values from so many levels of drivers
view_by : Logic → (ℕ → TriSources) → LockedBy → ℕ → ℕ → ℕ → Tri
view_by l base lock zero d net = Unknown
view_by l base lock (suc levels) d net = value_given (with_lockups base lock (view_by l base lock levels) d) (view_by l base lock levels d) net (l.net net)

stable : (l : Logic) (rank : ℕ → ℕ) (base : ℕ → TriSources) (lock : LockedBy) → IsRanked l rank → LooksBelow rank lock → (f g net : ℕ) → rank net < f → rank net < g → (d : ℕ) → view_by l base lock f d net ≡ view_by l base lock g d net
unfolding view_by
stable l rank base lock ranked looks zero g net hf hg d = absurd (omega arith)
stable l rank base lock ranked looks (suc f) zero net hf hg d = absurd (omega arith)
stable l rank base lock ranked looks (suc f) (suc g) net hf hg d =
    family_same rank base lock looks (view_by l base lock f) (view_by l base lock g) d net (l.net net) (ranked.order net) (λ k less e. stable l rank base lock ranked looks f g k (omega arith) (omega arith) e)

-- there is a family of settled assignments
pub family : (l : Logic) (rank : ℕ → ℕ) (base : ℕ → TriSources) (lock : LockedBy) → IsRanked l rank → LooksBelow rank lock → (w : ℕ → ℕ → Tri) × ((d : ℕ) → IsTriSettled l (with_lockups base lock w d) (w d))
unfolding view_by
family l rank base lock ranked looks = (
  λ d net. view_by l base lock (suc (rank net)) d net,
  λ d net.
      family_same rank base lock looks (view_by l base lock (rank net)) (λ e k. view_by l base lock (suc (rank k)) e k) d net (l.net net) (ranked.order net)
      (λ k less e. stable l rank base lock ranked looks (rank net) (suc (rank k)) k less (omega arith) e),
)

-- those of a phase do
pub lockups_look : (rank : ℕ → ℕ) (p : Pulse) → LooksBelow rank (lockup_value p)
lockups_look rank p r a b same d c e high source below =
    let here = source_same rank r (a d) (b d) source below (λ k less. same k less d) in
    let there = source_same rank r (a e) (b e) source below (λ k less. same k less e) in
    λ t. lockup_shown p.rising (p.pulsed e) (e == d) high (p.old c) (here t) (there t)

-- there are views at any map
pub views_exist : (l : Logic) (rank : ℕ → ℕ) (p : Pulse) (poss : ℕ → Tri) → IsRanked l rank → (view : ℕ → ℕ → Tri) × AreViews l p poss view
views_exist l rank p poss ranked = family l rank (view_sources l p poss (λ d k. Unknown)) (lockup_value p) ranked (lockups_look rank p)

pub closed_exists : ClosedExists
closed_exists l rank p ranked =
    let found = views_exist l rank p (λ c. Unknown) ranked in
    (found.0, record { views = found.1; old = λ c. tt; next = λ c h. tt })

pub strobe_exists : StrobeExists
strobe_exists l rank x old ranked =
    let lock : LockedBy = λ w d c e high source. if high then (rise_of l x old).old c else value_from (w d) source in
    let looks : LooksBelow rank lock = λ r a b same d c e high source below.
    ap (λ (t : Tri). if high then (rise_of l x old).old c else t) (source_same rank r (a d) (b d) source below (λ k less. same k less d)) in
    let found = family l rank (λ d. strobe_sources l x old (λ k. Unknown)) lock ranked looks in
    (found.0 0, found.1 0)

-- ---- one settled assignment

same_within : (l : Logic) (rank : ℕ → ℕ) (t s : TriSources) (a b : ℕ → Tri) → (ranked : IsRanked l rank) → (ta : IsTriSettled l t a) → (sb : IsTriSettled l s b) →
    (ports : ((k : ℕ) → t.ports k ≡ s.ports k)) → (clocks : ((e : ℕ) → t.clocks e ≡ s.clocks e)) → (flops : ((c : ℕ) → t.flops c ≡ s.flops c)) →
    (lockups : ((net c e : ℕ) (high : Bool) (source : Source) → l.net net ≡ Lockup c e high source → ((k : ℕ) → rank k < rank net → a k ≡ b k) → AreBelow rank (rank net) (nets_of (source ∷ [])) → t.lockups c e high source ≡ s.lockups c e high source)) →
    (fuel net : ℕ) → (less : rank net < fuel) → a net ≡ b net
same_within l rank t s a b ranked ta sb ports clocks flops lockups zero net less = absurd (omega arith)
same_within l rank t s a b ranked ta sb ports clocks flops lockups (suc fuel) net less =
    let ih : (k : ℕ) → rank k < rank net → a k ≡ b k = λ k below. same_within l rank t s a b ranked ta sb ports clocks flops lockups fuel k (omega arith) in
    ta net ∙ given_same rank t s a b net (l.net net) ports clocks flops (ranked.order net) ih (λ c e high source is below. lockups net c e high source is ih below) ∙ sym (sb net)

-- sources that agree settle to the same values
pub settled_same : (l : Logic) (rank : ℕ → ℕ) (t s : TriSources) (a b : ℕ → Tri) → IsRanked l rank → IsTriSettled l t a → IsTriSettled l s b →
    ((k : ℕ) → t.ports k ≡ s.ports k) → ((e : ℕ) → t.clocks e ≡ s.clocks e) → ((c : ℕ) → t.flops c ≡ s.flops c) →
    ((net c e : ℕ) (high : Bool) (source : Source) → l.net net ≡ Lockup c e high source → ((k : ℕ) → rank k < rank net → a k ≡ b k) → AreBelow rank (rank net) (nets_of (source ∷ [])) → t.lockups c e high source ≡ s.lockups c e high source) →
    (net : ℕ) → a net ≡ b net
settled_same l rank t s a b ranked ta sb ports clocks flops lockups net = same_within l rank t s a b ranked ta sb ports clocks flops lockups (suc (rank net)) net (omega arith)
