-- The root of a net is one step back from it, by the roots of the nets that its driver reads.
use Rattle.std.proofs.Common.{◌≡◌, ℕ, zero, suc, ◌<◌, Bool, true, false, List, [], ◌∷◌, length, get_or, set, drop, refl, sym, ◌∙◌, ap, subst, arith, ◌⊎◌, inl, inr}
use Rattle.std.proofs.lemmas.List.{length-set, get_or_past, get_or-set_same, get_or-set_other, at_drop_more}
use Rattle.dft_cells.specs.declared.kind.Gate.{Gate as GateKind}
use Rattle.dft_cells.specs.declared.kind.Gate.TheVariants.{Buf, Inv}
use Rattle.dft_netlist.proofs.StandLemmas.{has_all}
use Rattle.dft_netlist.specs.declared.ids.NetId.{NetId}
use Rattle.dft_netlist.specs.declared.instance.Signal.{Signal}
use Rattle.dft_netlist.specs.declared.instance.Signal.TheVariants as signal
use Rattle.dft_behavior.specs.declared.root.NetRoot as declared
use Rattle.dft_behavior.specs.declared.root.NetRoot.TheVariants.{Other}
use Rattle.dft_netlist.specs.Netlist.{Netlist}
use Rattle.dft_netlist.specs.Drivers.{Source, Net, Tied, Loose, Driver, Input, Gate, Joined, Flop, Free, driver, source_of, nets_of, nets_read, AreBelow, IsOrdered}
use Rattle.dft_netlist.specs.Drivers as drivers
use Rattle.dft_netlist.specs.Orders.{Has, reads_of, IsOrderFrom, IsOrder, numbers_of}
use Rattle.dft_behavior.specs.Roots.{shown_net_root, shown_root, shown_clock, traced, clock_shown}
use Rattle.dft_netlist.specs.Sound.{IsNetlist}
use Rattle.dft_behavior.specs.NetRoots.{NetRoot, turned_root, passed_by_one, passed_by_gate, root_of_passed, root_of_driver, root_within, net_root_of}
use Rattle.dft_behavior.specs.declared.root.NetRoot.TheVariants as net
use Rattle.dft_behavior.specs.Traces.{straight_root, root_of}
use Rattle.dft_behavior.specs.ClockRoots.{clock_of, clock_root_of}
use Rattle.dft_behavior.specs.WalkSteps.{IsWalk}
use Rattle.dft_netlist.proofs.LiveLemmas.{le_or_lt, past_free}
use Rattle.dft_behavior.proofs.TraceLemmas.{is_walk}
use Rattle.dft_behavior.specs.RootTables.{net_root_among, root_among, clock_among, root_at, root_in, clock_in, AreRoots}

-- two walks find the same where they do at the nets of these sources
abbrev Agree : (Source → NetRoot) → (Source → NetRoot) → List ℕ → Type 0
Agree one two nets = (r : ℕ) → Has nets r → one (Net r) ≡ two (Net r)

same_source : (one two : Source → NetRoot) → IsWalk one → IsWalk two → (source : Source) → Agree one two (nets_of (source ∷ [])) → one source ≡ two source
same_source one two a b (Net net) agree = agree net (inl refl)
same_source one two a b (Tied bit) agree = a.constant bit ∙ sym (b.constant bit)
same_source one two a b (Loose i pin) agree = a.loose i pin ∙ sym (b.loose i pin)

same_one : (turns : Bool) (one two : Source → NetRoot) → IsWalk one → IsWalk two → (inputs : List Source) → Agree one two (nets_of inputs) → root_of_passed one (passed_by_one turns inputs) ≡ root_of_passed two (passed_by_one turns inputs)
same_one turns one two a b [] agree = refl
same_one turns one two a b (source ∷ []) agree = ap (turned_root turns) (same_source one two a b source agree)
same_one turns one two a b (source ∷ more ∷ inputs) agree = refl

same_gate : (one two : Source → NetRoot) → IsWalk one → IsWalk two → (kind : GateKind) (inputs : List Source) → Agree one two (nets_of inputs) → root_of_passed one (passed_by_gate kind inputs) ≡ root_of_passed two (passed_by_gate kind inputs)
same_gate one two a b Buf inputs agree = same_one false one two a b inputs agree
same_gate one two a b Inv inputs agree = same_one true one two a b inputs agree
same_gate one two a b _ inputs agree = refl

pub same_step : (n : Netlist) (one two : Source → NetRoot) → IsWalk one → IsWalk two → (net : ℕ) (d : Driver) → Agree one two (nets_read n d) → root_of_driver one net d ≡ root_of_driver two net d
same_step n one two a b net Input agree = refl
same_step n one two a b net (Gate kind inputs) agree = same_gate one two a b kind inputs agree
same_step n one two a b net (Joined source) agree = same_source one two a b source agree
same_step n one two a b net (Flop i inverted) agree = refl
same_step n one two a b net (drivers.Lockup i) agree = refl
same_step n one two a b net Free agree = refl

pub has_below : (rank : ℕ → ℕ) (k : ℕ) (nets : List ℕ) → AreBelow rank k nets → (r : ℕ) → Has nets r → rank r < k
has_below rank k [] below r has = absurd has
has_below rank k (net ∷ nets) below r has = elim has [ inl e ↦ (let h = below.0 in rw e h) | inr more ↦ has_below rank k nets below.1 r more ]

-- one step more changes nothing where the steps are enough
steady : (n : Netlist) (rank : ℕ → ℕ) → IsOrdered n rank → (k net : ℕ) → rank net < k → root_within n k (Net net) ≡ root_within n (suc k) (Net net)
steady n rank o zero net less = absurd (omega arith)
steady n rank o (suc k) net less =
    same_step n (root_within n k) (root_within n (suc k)) (is_walk n k) (is_walk n (suc k)) net (driver n net)
    (λ r has. steady n rank o k r (let below = has_below rank (rank net) (reads_of n net) (o.after net) r has in omega arith))

-- the root of a net is one step back
pub one_step : (n : Netlist) (rank : ℕ → ℕ) → IsOrdered n rank → (net : ℕ) → net_root_of n (Net net) ≡ root_of_driver (net_root_of n) net (driver n net)
one_step n rank o net =
    same_step n (root_within n (length n.nets)) (net_root_of n) (is_walk n (length n.nets)) (is_walk n (suc (length n.nets))) net (driver n net)
    (λ r has. steady n rank o (length n.nets) r (let below = has_below rank (rank net) (reads_of n net) (o.after net) r has in let within = o.within net in omega arith))

-- ---- the roots so far

-- the nets of an order before these have their roots
pub record Rooted (n : Netlist) (roots : List declared.NetRoot) (rest : List ℕ) : Type 0 where
  pub before : List ℕ
  pub ordered : IsOrderFrom n before rest
  pub whole : (net : ℕ) → net < length n.nets → Has before net ⊎ Has rest net
  pub count : length roots ≡ length n.nets
  pub done : (net : ℕ) → Has before net → net_root_among roots (Net net) ≡ net_root_of n (Net net)

pub nothing_rooted : (n : Netlist) (roots : List declared.NetRoot) (order : List ℕ) → length roots ≡ length n.nets → IsOrder n order → Rooted n roots order
nothing_rooted n roots order count o = record { before = []; ordered = o.after; whole = λ net less. inr (o.whole net less); count = count; done = λ net has. absurd has }

pub walk_among : (roots : List declared.NetRoot) → IsWalk (net_root_among roots)
walk_among roots = record { constant = λ bit. refl; loose = λ i pin. refl }

pub all_rooted : (n : Netlist) (roots : List declared.NetRoot) → IsNetlist n → Rooted n roots [] → AreRoots n roots
all_rooted n roots s r = record { count = r.count; each = each }
  where
    at_net : (net : ℕ) → net_root_among roots (Net net) ≡ net_root_of n (Net net)
    at_net net = elim (le_or_lt (length n.nets) net) [
      | inl past ↦ (
          let none : get_or roots net Other ≡ Other = get_or_past roots net Other (let c = r.count in omega arith) in
          ap shown_net_root none ∙ sym (ap (root_of_driver (root_within n (length n.nets)) net) (past_free n s net past)))
      | inr less ↦ elim (r.whole net less) [ inl has ↦ r.done net has | inr none ↦ absurd none ]
    ]

    each : (source : Source) → net_root_among roots source ≡ net_root_of n source
    each (Net net) = at_net net
    each (Tied bit) = refl
    each (Loose i pin) = refl

-- one net more
pub one_rooted : (n : Netlist) (rank : ℕ → ℕ) → IsOrdered n rank → (roots : List declared.NetRoot) (net : ℕ) (rest : List ℕ) (root : declared.NetRoot) →
    shown_net_root root ≡ root_of_driver (net_root_among roots) net (driver n net) → Rooted n roots (net ∷ rest) → Rooted n (set roots net root) rest
one_rooted n rank o roots net rest root is r = record {
  before = net ∷ r.before;
  ordered = r.ordered.3;
  whole = λ k less. elim (r.whole k less) [ inl was ↦ inl (inr was) | inr has ↦ elim has [ inl e ↦ inl (inl e) | inr later ↦ inr later ] ];
  count = length-set roots net root ∙ r.count;
  done = λ k has. elim has [
    | inl e ↦ (
        let live : net < length roots = (let c = r.count in let l = r.ordered.1 in omega arith) in
        let now : net_root_among (set roots net root) (Net net) ≡ net_root_of n (Net net) =
        ap shown_net_root (get_or-set_same roots net root Other live) ∙ is
        ∙ same_step n (net_root_among roots) (net_root_of n) (walk_among roots) (is_walk n (suc (length n.nets))) net (driver n net)
        (λ k reads. r.done k (has_all (Has r.before) (reads_of n net) k r.ordered.2 reads))
        ∙ sym (one_step n rank o net) in
        rw e now)
    | inr was ↦ (
        let apart : k ≡ net → ⊥ = λ e. r.ordered.0 (subst (Has r.before) e was) in
        ap shown_net_root (get_or-set_other roots net k root Other apart) ∙ r.done k was)
  ];
}

-- what the roots of nets tell of sources
pub root_is : (n : Netlist) (roots : List declared.NetRoot) → AreRoots n roots → (source : Source) → root_among roots source ≡ root_of n source
root_is n roots are source = ap straight_root (are.each source)

pub clock_is : (n : Netlist) (roots : List declared.NetRoot) → AreRoots n roots → (source : Source) → clock_among roots source ≡ clock_root_of n source
clock_is n roots are source = ap clock_of (are.each source)

traced_shown : (root : declared.NetRoot) → straight_root (shown_net_root root) ≡ shown_root (traced root)
traced_shown (net.Port at inverted true) = refl
traced_shown (net.Port at inverted false) = refl
traced_shown (net.Constant bit) = refl
traced_shown net.Other = refl

clock_told : (root : declared.NetRoot) → clock_of (shown_net_root root) ≡ shown_clock (clock_shown root)
clock_told (net.Port at inverted straight) = refl
clock_told (net.Constant bit) = refl
clock_told net.Other = refl

-- what a pin is joined to traces to what its source traces to, and shows the clock of that
pub shown_in : (roots : List declared.NetRoot) (i p : ℕ) (s : Signal) → root_among roots (source_of i p s) ≡ shown_root (root_in roots s)
shown_in roots i p (signal.Net at) = traced_shown (root_at roots at.0)
shown_in roots i p (signal.Constant bit) = refl
shown_in roots i p signal.Unconnected = refl

pub clock_shown_in : (roots : List declared.NetRoot) (i p : ℕ) (s : Signal) → clock_among roots (source_of i p s) ≡ shown_clock (clock_in roots s)
clock_shown_in roots i p (signal.Net at) = clock_told (root_at roots at.0)
clock_shown_in roots i p (signal.Constant bit) = refl
clock_shown_in roots i p signal.Unconnected = refl

-- the next net of the order is one of the design
pub next_live : (n : Netlist) (roots : List declared.NetRoot) (order : List NetId) (k : ℕ) (d : NetId) → k < length order → Rooted n roots (numbers_of (drop k order)) → (get_or order k d).0 < length n.nets
next_live n roots order k d less r =
    let P : List ℕ → Type 0 = λ rest. Rooted n roots rest in
    (subst P (at_drop_more numbers_of order k d less) r).ordered.1

-- the same of what a pin is joined to, where these are the roots of the nets
pub root_in_is : (n : Netlist) (roots : List declared.NetRoot) → AreRoots n roots → (i p : ℕ) (s : Signal) → shown_root (root_in roots s) ≡ root_of n (source_of i p s)
root_in_is n roots are i p s = sym (shown_in roots i p s) ∙ root_is n roots are (source_of i p s)

pub clock_in_is : (n : Netlist) (roots : List declared.NetRoot) → AreRoots n roots → (i p : ℕ) (s : Signal) → shown_clock (clock_in roots s) ≡ clock_root_of n (source_of i p s)
clock_in_is n roots are i p s = sym (clock_shown_in roots i p s) ∙ clock_is n roots are (source_of i p s)
