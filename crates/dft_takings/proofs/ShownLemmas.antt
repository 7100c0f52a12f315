-- One assignment gives all views where nothing moves.
use Rattle.std.proofs.Common.{ℕ, Bool, true, false, List, [], ◌∷◌, ◌≡◌, ◌==◌, refl, sym, ap, ◌∙◌}
use Rattle.std.specs.Prelude.{if◌then◌else◌}
use Rattle.std.proofs.lemmas.Bool.{and_from, and_parts, eq-eqb, eqb-true}
use Rattle.dft_base.specs.declared.tri.Tri.{Tri}
use Rattle.dft_netlist.specs.Drivers.{nets_of}
use Rattle.dft_behavior.specs.Logic.{Logic, Meaning, Input, Clock, Gate, Joined, Flop, Lockup, Free, reads, IsRanked}
use Rattle.dft_behavior.specs.Settled.{is_wire, value_from}
use Rattle.dft_behavior.specs.Runs.{takes}
use Rattle.dft_behavior.proofs.Meanings.{source_same}
use Rattle.dft_abstract.specs.Cycle.{Pulse, changes, level_before}
use Rattle.dft_abstract.proofs.Views.{LockedBy, LooksBelow, family}
use Rattle.dft_takings.specs.Needs.{HasAll, shows_input, read_in, reads_in, IsReadClosed, IsStrobeClosed, still_from, IsStillFrom, IsBefore, next_reads}
use Rattle.dft_takings.specs.Moves.{moves, is_other_clock, IsStill, IsUnclocked}
use Rattle.dft_takings.specs.Shows.{Shown, Nothing, Domain, Several, is_still, with_shown, shown_by, lockup_shown, shown_given, IsShownOn, still_needs}
use Rattle.dft_takings.specs.Laws.{ShownIsStrobe, PassOfShown}
use Rattle.dft_takings.proofs.ReadLemmas.{Agree, next_agrees, next_reads_same, set_agrees}
use Rattle.dft_takings.proofs.NeededLemmas.{needed_before}
use Rattle.dft_takings.proofs.StillLemmas.{still_is_strobe, one_pass, chosen_same}

-- ---- what is still together is so apart

pub two_domains : (same : Bool) (d e f : ℕ) → (e == f) ≡ same → is_still d (if same then Domain e else Several) ≡ true → (is_still d (Domain e) ≡ true) × (is_still d (Domain f) ≡ true)
two_domains true d e f is still = (still, eq-eqb f d (sym (eqb-true e f is) ∙ eqb-true e d still))
two_domains false d e f is still = absurd cc

pub both_still : (d : ℕ) (s t : Shown) → is_still d (with_shown s t) ≡ true → (is_still d s ≡ true) × (is_still d t ≡ true)
both_still d Nothing t still = (refl, still)
both_still d (Domain e) Nothing still = (still, refl)
both_still d (Domain e) (Domain f) still = two_domains (e == f) d e f refl still
both_still d (Domain e) Several still = absurd cc
both_still d Several t still = absurd cc

all_still : (needs : ℕ → Bool) (shown : ℕ → Shown) (d : ℕ) (nets : List ℕ) → HasAll needs nets → is_still d (shown_by shown nets) ≡ true → HasAll (still_needs needs shown d) nets
all_still needs shown d [] all still = tt
all_still needs shown d (net ∷ nets) all still =
    let both : (is_still d (shown net) ≡ true) × (is_still d (shown_by shown nets) ≡ true) = both_still d (shown net) (shown_by shown nets) still in
    (and_from (needs net) (is_still d (shown net)) all.0 both.0, all_still needs shown d nets all.1 both.1)

held_still : (own : Bool) (d : ℕ) → is_still d (if own then Nothing else Several) ≡ true → own ≡ true
held_still true d still = refl
held_still false d still = absurd cc

-- the input of a lock-up is still where it is read
input_still : (needs : ℕ → Bool) (shown : ℕ → Shown) (d e : ℕ) (rising up own high : Bool) (nets : List ℕ) → (e == d) ≡ own → HasAll needs nets → is_still d (lockup_shown rising up high e (shown_by shown nets)) ≡ true →
    HasAll (still_needs needs shown (if takes rising high then e else d)) (if shows_input rising up own high then nets else [])
input_still needs shown d e true up own false nets is all still = all_still needs shown e nets all (held_still (is_still e (shown_by shown nets)) d still)
input_still needs shown d e true true true true nets is all still = tt
input_still needs shown d e true true false true nets is all still = absurd (let q : true ≡ false = sym still ∙ is in cc)
input_still needs shown d e true false own true nets is all still = tt
input_still needs shown d e false true own true nets is all still = all_still needs shown e nets all (held_still (is_still e (shown_by shown nets)) d still)
input_still needs shown d e false false own true nets is all still = tt
input_still needs shown d e false true true false nets is all still = tt
input_still needs shown d e false true false false nets is all still = absurd (let q : true ≡ false = sym still ∙ is in cc)
input_still needs shown d e false false own false nets is all still = all_still needs shown d nets all still

-- the nets that a still net is settled from are still where they are read
reads_still : (l : Logic) (p : Pulse) (needs : ℕ → Bool) (shown : ℕ → Shown) (d net : ℕ) (m : Meaning) → HasAll needs (reads m) → is_still d (shown_given l p shown net m) ≡ true → HasAll (still_needs needs shown (read_in p d m)) (reads_in p d m)
reads_still l p needs shown d net Input all still = tt
reads_still l p needs shown d net Clock all still = tt
reads_still l p needs shown d net (Gate kind inputs) all still = all_still needs shown d (nets_of inputs) all still
reads_still l p needs shown d net (Joined source) all still = all_still needs shown d (nets_of (source ∷ [])) all still
reads_still l p needs shown d net (Flop c inverted) all still = tt
reads_still l p needs shown d net (Lockup c e high source) all still = input_still needs shown d e p.rising (p.pulsed e) (e == d) high (nets_of (source ∷ [])) refl all still
reads_still l p needs shown d net Free all still = tt

-- a domain that is still in a view is no other pulsed one
not_other : (up own : Bool) (d e : ℕ) → (e == d) ≡ own → is_still d (if up then Domain e else Nothing) ≡ true → (if up then (if own then false else true) else false) ≡ false
not_other false own d e is still = refl
not_other true true d e is still = refl
not_other true false d e is still = absurd cc

never_moves : (l : Logic) (p : Pulse) (shown : ℕ → Shown) (d net : ℕ) (m : Meaning) → is_still d (shown_given l p shown net m) ≡ true → moves l p d m ≡ false
never_moves l p shown d net Input still = refl
never_moves l p shown d net Clock still = refl
never_moves l p shown d net (Gate kind inputs) still = refl
never_moves l p shown d net (Joined source) still = refl
never_moves l p shown d net (Flop c inverted) still = not_other (changes l p c) ((l.cell c).domain == d) d (l.cell c).domain refl still
never_moves l p shown d net (Lockup c e high source) still = refl
never_moves l p shown d net Free still = refl

not_opened : (rising up own high : Bool) (d e : ℕ) (input : Shown) → (e == d) ≡ own → is_still d (lockup_shown rising up high e input) ≡ true → (if takes rising high then false else (if up then (if own then false else true) else false)) ≡ false
not_opened true up own false d e input is still = refl
not_opened true true true true d e input is still = refl
not_opened true true false true d e input is still = absurd (let q : true ≡ false = sym still ∙ is in cc)
not_opened true false own true d e input is still = refl
not_opened false up own true d e input is still = refl
not_opened false true true false d e input is still = refl
not_opened false true false false d e input is still = absurd (let q : true ≡ false = sym still ∙ is in cc)
not_opened false false own false d e input is still = refl

no_clock : (l : Logic) (p : Pulse) (shown : ℕ → Shown) (d net : ℕ) (m : Meaning) → is_still d (shown_given l p shown net m) ≡ true → is_other_clock p d net m ≡ false
no_clock l p shown d net Input still = refl
no_clock l p shown d net Clock still = not_other (p.pulsed net) (net == d) d net refl still
no_clock l p shown d net (Gate kind inputs) still = refl
no_clock l p shown d net (Joined source) still = refl
no_clock l p shown d net (Flop c inverted) still = refl
no_clock l p shown d net (Lockup c e high source) still = not_opened p.rising (p.pulsed e) (e == d) high d e (shown_by shown (nets_of (source ∷ []))) refl still
no_clock l p shown d net Free still = refl

-- ---- the set of still nets, by view

-- what a net of it shows is still by its driver
by_driver : (l : Logic) (p : Pulse) (needs : ℕ → Bool) (shown : ℕ → Shown) → IsShownOn l p needs shown → (d net : ℕ) → still_needs needs shown d net ≡ true → (needs net ≡ true) × (is_still d (shown_given l p shown net (l.net net)) ≡ true)
by_driver l p needs shown on d net is =
    let parts : (needs net ≡ true) × (is_still d (shown net) ≡ true) = and_parts (needs net) (is_still d (shown net)) is in
    (parts.0, ap (is_still d) (sym (on net parts.0)) ∙ parts.1)

closed_views : (l : Logic) (p : Pulse) (needs : ℕ → Bool) (shown : ℕ → Shown) → IsStrobeClosed l needs → IsShownOn l p needs shown → IsReadClosed l p (still_needs needs shown)
closed_views l p needs shown closed on d net is =
    let parts = by_driver l p needs shown on d net is in
    reads_still l p needs shown d net (l.net net) (closed net parts.0) parts.1

still_views : (l : Logic) (p : Pulse) (needs : ℕ → Bool) (shown : ℕ → Shown) → IsShownOn l p needs shown → IsStill l p (still_needs needs shown)
still_views l p needs shown on d net is = never_moves l p shown d net (l.net net) (by_driver l p needs shown on d net is).1

unclocked_views : (l : Logic) (p : Pulse) (needs : ℕ → Bool) (shown : ℕ → Shown) → IsShownOn l p needs shown → IsUnclocked l p (still_needs needs shown)
unclocked_views l p needs shown on d net is = no_clock l p shown d net (l.net net) (by_driver l p needs shown on d net is).1

-- there are values while clocks have these levels
pub still_there : (l : Logic) (rank : ℕ → ℕ) (level : ℕ → Bool) (ports flops : ℕ → Tri) → IsRanked l rank → (settled : ℕ → Tri) × IsStillFrom l level ports flops settled
still_there l rank level ports flops ranked =
    let lock : LockedBy = λ w d c e high source. if is_wire high (level e) then value_from (w d) source else flops c in
    let looks : LooksBelow rank lock = λ r a b same d c e high source below.
    ap (λ (t : Tri). if is_wire high (level e) then t else flops c) (source_same rank r (a d) (b d) source below (λ k less. same k less d)) in
    let found = family l rank (λ d. still_from level ports flops flops) lock ranked looks in
    (found.0 0, found.1 0)

pub before_there : (l : Logic) (rank : ℕ → ℕ) (p : Pulse) → IsRanked l rank → (settled : ℕ → Tri) × IsBefore l p settled
before_there l rank p ranked = still_there l rank (level_before p) p.ports p.old ranked

pub shown_is_strobe : ShownIsStrobe
shown_is_strobe l rank p poss needs shown values view ranked closed on given views d net need still =
    let found = before_there l rank p ranked in
    still_is_strobe l rank p poss (still_needs needs shown) view found.0 ranked (closed_views l p needs shown closed on) (still_views l p needs shown on)
    (unclocked_views l p needs shown on) views found.1 d net (and_from (needs net) (is_still d (shown net)) need still)
    ∙ sym (needed_before l rank p needs values found.0 ranked closed given found.1 net need)

pub pass_of_shown : PassOfShown
pass_of_shown l rank p needs shown values ranked closed on given has =
    let found = before_there l rank p ranked in
    let settled : ℕ → Tri = found.0 in
    let same : (net : ℕ) → needs net ≡ true → values net ≡ settled net = needed_before l rank p needs values settled ranked closed given found.1 in
    let agree : (c : ℕ) → changes l p c ≡ true → Agree values settled (nets_of (next_reads (l.cell c) p.ports (value_from values))) = λ c up.
    set_agrees (still_needs needs shown (l.cell c).domain) values settled _ (has c up)
    (λ k is. same k (and_parts (needs k) (is_still (l.cell c).domain (shown k)) is).0) in
    let pass = one_pass l rank p (still_needs needs shown) settled ranked (closed_views l p needs shown closed on) (still_views l p needs shown on)
    (unclocked_views l p needs shown on) found.1
    (λ c up. next_reads_same (still_needs needs shown (l.cell c).domain) (l.cell c) p.ports values settled (agree c up) (has c up)) in (
      pass.0,
      (
        pass.1.0,
        (
          pass.1.1.0,
          λ c. pass.1.1.1 c
              ∙ chosen_same (changes l p c) _ _ (p.old c) (λ up. sym (next_agrees l p c (λ d. values) (λ d. settled) (agree c up))),
        ),
      ),
    )
