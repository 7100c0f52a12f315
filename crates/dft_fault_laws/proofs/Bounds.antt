-- What nets show of pulsed domains is there, and a stuck net lessens it.
use Rattle.std.proofs.Common.{ℕ, zero, suc, ◌≡◌, ◌==◌, ◌<◌, Bool, true, false, List, [], ◌∷◌, refl, sym, ap, arith, ◌∙◌}
use Rattle.std.specs.Prelude.{if◌then◌else◌}
use Rattle.std.proofs.lemmas.Bool.{eq-eqb, eqb-true}
use Rattle.dft_netlist.specs.Drivers.{Source, Tied, nets_of, AreBelow}
use Rattle.dft_behavior.specs.Logic.{Logic, Meaning, Input, Clock, Gate, Joined, Flop, Lockup, Free, reads, IsRanked}
use Rattle.dft_abstract.specs.Cycle.{Pulse}
use Rattle.dft_takings.specs.Shows.{Shown, Nothing, Domain, Several, is_still, with_shown, shown_by, held_shown, lockup_shown, shown_given, IsShownOn}
use Rattle.dft_takings.proofs.ShownLemmas.{both_still}
use Rattle.dft_fault_laws.specs.Stuck.{with_fault}
use Rattle.dft_fault_laws.specs.Rounds.{every}
use Rattle.dft_fault_laws.specs.Laws.{RankStays, StillStays}

-- ---- the order

rank_net : (rank : ℕ → ℕ) (r : ℕ) (b value : Bool) (m : Meaning) → AreBelow rank r (reads m) → AreBelow rank r (reads (if b then Joined (Tied value) else m))
rank_net rank r true value m below = tt
rank_net rank r false value m below = below

no_lockup : (b value : Bool) (m : Meaning) (c e : ℕ) (high : Bool) (source : Source) → (if b then Joined (Tied value) else m) ≡ Lockup c e high source → m ≡ Lockup c e high source
no_lockup true value m c e high source is = absurd (let f : ⊥ = cc in f)
no_lockup false value m c e high source is = is

pub rank_stays : RankStays
rank_stays l rank stuck value ranked = record {
  order = λ net. rank_net rank (rank net) (net == stuck) value (l.net net) (ranked.order net);
  lockups = λ net c e high source is. ranked.lockups net c e high source (no_lockup (net == stuck) value (l.net net) c e high source is);
}

-- ---- what nets show is there

by_same : (rank : ℕ → ℕ) (r : ℕ) (a b : ℕ → Shown) (nets : List ℕ) → AreBelow rank r nets → ((k : ℕ) → rank k < r → a k ≡ b k) → shown_by a nets ≡ shown_by b nets
by_same rank r a b [] below same = refl
by_same rank r a b (net ∷ nets) below same =
    let first = same net below.0 in
    let rest = by_same rank r a b nets below.1 same in
    λ t. with_shown (first t) (rest t)

given_same : (l : Logic) (p : Pulse) (rank : ℕ → ℕ) (a b : ℕ → Shown) (net : ℕ) (m : Meaning) → AreBelow rank (rank net) (reads m) → ((k : ℕ) → rank k < rank net → a k ≡ b k) → shown_given l p a net m ≡ shown_given l p b net m
given_same l p rank a b net Input below same = refl
given_same l p rank a b net Clock below same = refl
given_same l p rank a b net (Gate kind inputs) below same = by_same rank (rank net) a b (nets_of inputs) below same
given_same l p rank a b net (Joined source) below same = by_same rank (rank net) a b (nets_of (source ∷ [])) below same
given_same l p rank a b net (Flop cell inverted) below same = refl
given_same l p rank a b net (Lockup cell domain high source) below same = ap (lockup_shown p.rising (p.pulsed domain) high domain) (by_same rank (rank net) a b (nets_of (source ∷ [])) below same)
given_same l p rank a b net Free below same = refl

-- by so many levels of drivers
shown_within : Logic → Pulse → ℕ → ℕ → Shown
shown_within l p zero net = Nothing
shown_within l p (suc levels) net = shown_given l p (shown_within l p levels) net (l.net net)

stable : (l : Logic) (rank : ℕ → ℕ) (p : Pulse) → IsRanked l rank → (f g net : ℕ) → rank net < f → rank net < g → shown_within l p f net ≡ shown_within l p g net
unfolding shown_within
stable l rank p ranked zero g net hf hg = absurd (omega arith)
stable l rank p ranked (suc f) zero net hf hg = absurd (omega arith)
stable l rank p ranked (suc f) (suc g) net hf hg =
    given_same l p rank (shown_within l p f) (shown_within l p g) net (l.net net) (ranked.order net) (λ k less. stable l rank p ranked f g k (omega arith) (omega arith))

pub shown_there : (l : Logic) (rank : ℕ → ℕ) (p : Pulse) → IsRanked l rank → (shown : ℕ → Shown) × IsShownOn l p every shown
unfolding shown_within
shown_there l rank p ranked = (
  λ net. shown_within l p (suc (rank net)) net,
  λ net need. given_same l p rank (shown_within l p (rank net)) (λ k. shown_within l p (suc (rank k)) k) net (l.net net) (ranked.order net)
      (λ k less. stable l rank p ranked (rank net) (suc (rank k)) k less (omega arith)),
)

-- ---- what is still stays so

-- in each view in which the first is still, so is the second
abbrev pub Less : Shown → Shown → Type 0
Less s t = (d : ℕ) → is_still d s ≡ true → is_still d t ≡ true

still_both : (d : ℕ) (s t : Shown) → is_still d s ≡ true → is_still d t ≡ true → is_still d (with_shown s t) ≡ true
still_both d Nothing t first second = second
still_both d (Domain e) Nothing first second = first
still_both d (Domain e) (Domain f) first second = ap (λ b. is_still d (if b then Domain e else Several)) (eq-eqb e f (eqb-true e d first ∙ sym (eqb-true f d second))) ∙ first
still_both d (Domain e) Several first second = absurd cc
still_both d Several t first second = absurd cc

less_by : (rank : ℕ → ℕ) (r : ℕ) (a b : ℕ → Shown) (nets : List ℕ) → AreBelow rank r nets → ((k : ℕ) → rank k < r → Less (a k) (b k)) → Less (shown_by a nets) (shown_by b nets)
less_by rank r a b [] below less d still = refl
less_by rank r a b (net ∷ nets) below less d still =
    let both = both_still d (a net) (shown_by a nets) still in
    still_both d (b net) (shown_by b nets) (less net below.0 d both.0) (less_by rank r a b nets below.1 less d both.1)

less_held : (e d : ℕ) (s t : Shown) → Less s t → (b : Bool) → is_still e s ≡ b → is_still d (if b then Nothing else Several) ≡ true → is_still d (held_shown e t) ≡ true
less_held e d s t less true is still = ap (λ b. is_still d (if b then Nothing else Several)) (less e is)
less_held e d s t less false is still = absurd cc

less_lockup : (rising up high : Bool) (e : ℕ) (s t : Shown) → Less s t → Less (lockup_shown rising up high e s) (lockup_shown rising up high e t)
less_lockup true up false e s t less d still = less_held e d s t less (is_still e s) refl still
less_lockup true true true e s t less d still = still
less_lockup true false true e s t less d still = refl
less_lockup false true true e s t less d still = less_held e d s t less (is_still e s) refl still
less_lockup false false true e s t less d still = refl
less_lockup false true false e s t less d still = still
less_lockup false false false e s t less d still = less d still

less_given : (l : Logic) (p : Pulse) (stuck : ℕ) (value : Bool) (rank : ℕ → ℕ) (a b : ℕ → Shown) (net : ℕ) (m : Meaning) → AreBelow rank (rank net) (reads m) → ((k : ℕ) → rank k < rank net → Less (a k) (b k)) →
    Less (shown_given l p a net m) (shown_given (with_fault stuck value l) p b net m)
less_given l p stuck value rank a b net Input below less d still = refl
less_given l p stuck value rank a b net Clock below less d still = still
less_given l p stuck value rank a b net (Gate kind inputs) below less d still = less_by rank (rank net) a b (nets_of inputs) below less d still
less_given l p stuck value rank a b net (Joined source) below less d still = less_by rank (rank net) a b (nets_of (source ∷ [])) below less d still
less_given l p stuck value rank a b net (Flop cell inverted) below less d still = still
less_given l p stuck value rank a b net (Lockup cell domain high source) below less d still =
    less_lockup p.rising (p.pulsed domain) high domain (shown_by a (nets_of (source ∷ []))) (shown_by b (nets_of (source ∷ []))) (less_by rank (rank net) a b (nets_of (source ∷ [])) below less) d still
less_given l p stuck value rank a b net Free below less d still = refl

less_net : (l : Logic) (p : Pulse) (stuck : ℕ) (value : Bool) (rank : ℕ → ℕ) (a b : ℕ → Shown) (net : ℕ) (is : Bool) (m : Meaning) → AreBelow rank (rank net) (reads m) → ((k : ℕ) → rank k < rank net → Less (a k) (b k)) →
    Less (shown_given l p a net m) (shown_given (with_fault stuck value l) p b net (if is then Joined (Tied value) else m))
less_net l p stuck value rank a b net true m below less d still = refl
less_net l p stuck value rank a b net false m below less d still = less_given l p stuck value rank a b net m below less d still

stays_within : (l : Logic) (rank : ℕ → ℕ) (p : Pulse) (stuck : ℕ) (value : Bool) (shown its : ℕ → Shown) → IsRanked l rank → IsShownOn l p every shown → IsShownOn (with_fault stuck value l) p every its →
    (fuel net : ℕ) → rank net < fuel → Less (shown net) (its net)
stays_within l rank p stuck value shown its ranked on on_its zero net less d still = absurd (omega arith)
stays_within l rank p stuck value shown its ranked on on_its (suc fuel) net less d still =
    let before : is_still d (shown_given l p shown net (l.net net)) ≡ true = sym (ap (is_still d) (on net refl)) ∙ still in
    ap (is_still d) (on_its net refl)
    ∙ less_net l p stuck value rank shown its net (net == stuck) (l.net net) (ranked.order net) (λ k below. stays_within l rank p stuck value shown its ranked on on_its fuel k (omega arith)) d before

pub still_stays : StillStays
still_stays l rank p stuck value shown ranked on its on_its net d still = stays_within l rank p stuck value shown its ranked on on_its (suc (rank net)) net (omega arith) d still
