-- What an evaluator shows of its design, and what its calls do to it.
use Rattle.std.proofs.Common.{ℕ, Bool, true, false, List, [], ◌≡◌, ◌≢◌, ◌<◌, ◌≤◌, ◌⊎◌, inl, inr, length, map, refl, sym, ap, subst, ◌∙◌, slice_set, get_or, get_or-set_same, get_or-set_other, length-set, arith}
use Rattle.std.specs.Prelude.{if◌then◌else◌, ◌&&◌, ◌==◌, Option, None, Some, replicate}
use Rattle.std.proofs.Math.ListN.{get_or-map}
use Rattle.std.proofs.lemmas.Bool.{cases_eq, cases_lt}
use Rattle.std.proofs.lemmas.Bool.Decides.{nat_tests}
use Rattle.std.specs.Global.{Vec}
use Rattle.std.specs.Vec.{with_items}
use Rattle.std.proofs.lemmas.List.{get_or_past, get_or_read, get_or-replicate, length-replicate, with_items_is}
use Rattle.dft_base.specs.declared.tri.Tri.{Tri}
use Rattle.dft_base.specs.declared.tri.Tri.TheVariants.{Unknown}
use Rattle.dft_base.proofs.BitLemmas.{and_true}
use Rattle.dft_lanes.specs.declared.wide.Wide.{Wide}
use Rattle.dft_netlist.specs.Netlist.{Netlist}
use Rattle.dft_behavior.specs.ClockRoots.{ClockRoot}
use Rattle.dft_netlist.specs.Drivers.{Source, Driver, driver}
use Rattle.dft_netlist.specs.Drivers as drivers
use Rattle.dft_behavior.specs.Logic.{Logic, Meaning, Cell, Ports, Input, Clock, Gate, Joined, Flop, Lockup, Free, logic_of, meaning_of, flop_meaning, lockup_meaning, flip_flop}
use Rattle.dft_behavior.specs.Settled.{TriSources, value_given, IsTriSettled}
use Rattle.dft_logic.specs.declared.circuit.Op.{Op}
use Rattle.dft_logic.specs.declared.circuit.Op.TheVariants as op
use Rattle.dft_logic.specs.Circuit.{Circuit, meaning, op_at, logic_at}
use Rattle.dft_logic.specs.Compiling.{ports_by, IsCircuitOf}
use Rattle.dft_evaluator.specs.Wides.{value_in, values_in, wide_at, unknown_wide, IsWide, AreWides}
use Rattle.dft_evaluator.specs.Evaluations.{value_set, IsSettledFrom, IsGiven, AreGiven, Evaluation, meaning_at, value_at, no_clocks, IsFor, IsSet, IsSettledIn}
use Rattle.dft_evaluator.specs.Laws.{SettledForAnyPorts, SettledFromSources}
use Rattle.dft_evaluator.proofs.BitLemmas.{all_unknown}
use Rattle.dft_evaluator.proofs.WideLemmas.{wide_is}

-- ---- whatever ports are clocks and resets

input_set : (given values : ℕ → Tri) (net : ℕ) (b : Bool) → value_set given values net (if b then Clock else Input) ≡ given net
input_set given values net true = refl
input_set given values net false = refl

flop_set : (given values : ℕ → Tri) (net i : ℕ) (inverted : Bool) (cell : Option Cell) → value_set given values net (flop_meaning i inverted cell) ≡ given net
flop_set given values net i inverted None = refl
flop_set given values net i inverted (Some cell) = refl

lockup_set : (given values : ℕ → Tri) (net i : ℕ) (domain : Option ClockRoot) (source : Source) → value_set given values net (lockup_meaning i domain source) ≡ given net
lockup_set given values net i None source = refl
lockup_set given values net i (Some clock) source = refl

driver_set : (n : Netlist) (ports other : Ports) (given values : ℕ → Tri) (net : ℕ) (d : Driver) → value_set given values net (meaning_of n ports net d) ≡ value_set given values net (meaning_of n other net d)
driver_set n ports other given values net drivers.Input = input_set given values net (ports.is_clock net) ∙ sym (input_set given values net (other.is_clock net))
driver_set n ports other given values net (drivers.Gate kind inputs) = refl
driver_set n ports other given values net (drivers.Joined source) = refl
driver_set n ports other given values net (drivers.Flop i inverted) = flop_set given values net i inverted (flip_flop n ports i) ∙ sym (flop_set given values net i inverted (flip_flop n other i))
driver_set n ports other given values net (drivers.Lockup i) = lockup_set given values net i _ _ ∙ sym (lockup_set given values net i _ _)
driver_set n ports other given values net drivers.Free = refl

pub any_ports : SettledForAnyPorts
any_ports n ports other given values settled net = settled net ∙ driver_set n ports other given values net (driver n net)

-- ---- a design's evaluator

pub meaning_shown : (ops : List Op) (net : ℕ) → meaning_at (map meaning ops) net ≡ meaning (op_at ops net)
meaning_shown ops net = get_or-map meaning ops net op.Free

pub prepared : (n : Netlist) (x : Circuit) (wides : List Wide) → IsCircuitOf n (ports_by []) x → length wides ≡ length n.nets → IsFor n (record { meanings = map meaning x.ops; wides = wides })
unfolding logic_at
prepared n x wides is nets = record { nets = nets; means = λ net. meaning_shown x.ops net ∙ sym (ap (λ (l : Logic). l.net net) is.compiled) }

blank_case : (n k : ℕ) → (k < n) ⊎ (n ≤ k) → wide_at (replicate n unknown_wide) k ≡ unknown_wide
blank_case n k (inl less) = get_or-replicate n k unknown_wide unknown_wide less
blank_case n k (inr past) = get_or_past (replicate n unknown_wide) k unknown_wide (omega (arith, length-replicate n unknown_wide))

pub blank_at : (n k : ℕ) → wide_at (replicate n unknown_wide) k ≡ unknown_wide
blank_at n k = blank_case n k (cases_lt k n)

pub blank_whole : (n : ℕ) → AreWides (replicate n unknown_wide)
blank_whole n = λ k. subst (λ (v : Wide). IsWide v (value_in v)) (sym (blank_at n k)) (wide_is unknown_wide (λ p. Unknown) all_unknown)

-- ---- a value is set

and_without : (b e : Bool) → e ≡ false → false ≡ b && e
and_without true e is = sym is
and_without false e is = refl

set_case : (wides : List Wide) (net pattern : ℕ) (w : Wide) (value : Tri) (p k : ℕ) → net < length wides → ((q : ℕ) → value_in w q ≡ (if q == pattern then value else values_in wides q net)) → (k ≡ net) ⊎ (k ≢ net)
    → values_in (slice_set wides net w) p k ≡ (if (p == pattern) && (k == net) then value else values_in wides p k)
set_case wides net pattern w value p k live each (inl e) =
    let here : (k == net) ≡ true = grind (arith, nat_tests) in
    ap (λ (n : ℕ). values_in (slice_set wides net w) p n) e ∙ ap (λ (v : Wide). value_in v p) (get_or-set_same wides net w unknown_wide live) ∙ each p
    ∙ ap (λ (n : ℕ). if p == pattern then value else values_in wides p n) (sym e)
    ∙ ap (λ (b : Bool). if b then value else values_in wides p k) (and_true (p == pattern) (k == net) here)
set_case wides net pattern w value p k live each (inr ne) =
    let apart : (k == net) ≡ false = grind (arith, nat_tests) in
    ap (λ (v : Wide). value_in v p) (get_or-set_other wides net k w unknown_wide ne)
    ∙ ap (λ (b : Bool). if b then value else values_in wides p k) (and_without (p == pattern) (k == net) apart)

pub value_set_at : (meanings : List Meaning) (wides : List Wide) (net pattern : ℕ) (old w : Wide) (value : Tri) → net < length wides → old ≡ get_or wides net old
    → ((q : ℕ) → value_in w q ≡ (if q == pattern then value else value_in old q))
    → IsSet (record { meanings = meanings; wides = wides }) pattern net value (record { meanings = meanings; wides = slice_set wides net w })
value_set_at meanings wides net pattern old w value live read each =
    let there : old ≡ wide_at wides net = get_or_read wides net old live read unknown_wide in
    record {
      meanings = refl;
      nets = length-set wides net w;
      each = λ p k. set_case wides net pattern w value p k live (λ q. each q ∙ ap (λ (v : Wide). if q == pattern then value else value_in v q) there) (cases_eq k net);
    }

-- ---- all nets are settled

pub settled_in : (x : Circuit) (old new : List Wide) → length new ≡ length old
    → ((p : ℕ) → p < 512 → IsSettledFrom (λ net. meaning (op_at x.ops net)) (values_in old p) (values_in new p))
    → IsSettledIn (record { meanings = map meaning x.ops; wides = old }) (record { meanings = map meaning x.ops; wides = new })
settled_in x old new nets settled =
    record { meanings = refl; nets = nets; each = λ p less net. settled p less net ∙ ap (λ (m : Meaning). value_set (values_in old p) (values_in new p) net m) (sym (meaning_shown x.ops net)) }

pub for_new : (old new : Evaluation) → IsSettledIn old new → (n : Netlist) → IsFor n old → IsFor n new
for_new old new settled n is = record { nets = settled.nets ∙ is.nets; means = λ net. ap (λ (ms : List Meaning). meaning_at ms net) settled.meanings ∙ is.means net }

given_same : (s : TriSources) (given values : ℕ → Tri) (net : ℕ) (m : Meaning) → IsGiven s given net m → value_set given values net m ≡ value_given s values net m
given_same s given values net Input is = is
given_same s given values net Clock is = is
given_same s given values net (Gate kind inputs) is = refl
given_same s given values net (Joined source) is = refl
given_same s given values net (Flop c inverted) is = is
given_same s given values net (Lockup c e high source) is = is
given_same s given values net Free is = is

pub from_sources : SettledFromSources
from_sources l s given values are =
    (λ settled net. settled net ∙ given_same s given values net (l.net net) (are net), λ settled net. settled net ∙ sym (given_same s given values net (l.net net) (are net)))

pub settled_values : (old new : Evaluation) → IsSettledIn old new → (n : Netlist) (ports : Ports) (s : TriSources) (p : ℕ) → IsFor n old → p < 512 → AreGiven (logic_of n ports).net s (value_at old p)
    → IsTriSettled (logic_of n ports) s (value_at new p)
settled_values old new settled n ports s p is less given =
    (from_sources (logic_of n ports) s (value_at old p) (value_at new p) given).0
    (any_ports n no_clocks ports (value_at old p) (value_at new p) (λ net. settled.each p less net ∙ ap (λ (m : Meaning). value_set (value_at old p) (value_at new p) net m) (is.means net)))

-- the elements of a vector that was filled anew
filled : (v : Vec Wide) (ws rs : List Wide) → length ws ≡ length rs → rs ≡ v.items → (with_items v ws).items ≡ ws
filled v ws rs a e = with_items_is v ws (a ∙ ap length e ∙ sym v.ok.0)

pub swept : (x : Circuit) (v : Vec Wide) (ws rs : List Wide) → length ws ≡ length rs → rs ≡ v.items
    → ((p : ℕ) → p < 512 → IsSettledFrom (λ net. meaning (op_at x.ops net)) (values_in rs p) (values_in ws p))
    → IsSettledIn (record { meanings = map meaning x.ops; wides = v.items }) (record { meanings = map meaning x.ops; wides = (with_items v ws).items })
swept x v ws rs a e settled =
    let P : List Wide → Type 0 = λ l. IsSettledIn (record { meanings = map meaning x.ops; wides = v.items }) (record { meanings = map meaning x.ops; wides = l }) in
    let Q : List Wide → Type 0 = λ l. IsSettledIn (record { meanings = map meaning x.ops; wides = l }) (record { meanings = map meaning x.ops; wides = ws }) in
    subst P (sym (filled v ws rs a e)) (subst Q e (settled_in x rs ws a settled))
