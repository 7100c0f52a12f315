-- Entries tell what flip-flops take.
use Rattle.std.proofs.Common.{ℕ, Bool, true, false, List, [], ◌∷◌, inl, inr, ◌≡◌, refl, sym, ap, subst, ◌∙◌, Option, None, Some}
use Rattle.std.specs.Prelude.{◌&&◌, if◌then◌else◌}
use Rattle.std.proofs.lemmas.Bool.{and_parts}
use Rattle.dft_base.specs.declared.tri.Tri.{Tri}
use Rattle.dft_base.specs.declared.tri.Tri.TheVariants.{Zero, One, Unknown}
use Rattle.dft_base.specs.Tri.{known}
use Rattle.dft_cells.specs.FlipFlops.{tri_forced, tri_chosen, Scan, Forces, IsForceOf, tri_taken_by, tri_forced_by, tri_scanned, tri_forced_where}
use Rattle.dft_cells.proofs.TriLemmas.{forced_one, chosen_one, chosen_zero}
use Rattle.dft_netlist.specs.Drivers.{Source, Net, Tied, Loose, nets_of}
use Rattle.dft_behavior.specs.Logic.{Logic, reads}
use Rattle.dft_behavior.specs.Settled.{value_from}
use Rattle.dft_abstract.specs.Cycle.{Pulse, changes, level_before, next_value}
use Rattle.dft_takings.specs.Needs.{HasAll, chosen_reads, taken_reads, reads_at, reads_where, forced_reads}
use Rattle.dft_takings.specs.Shows.{Shown, still_needs, HasStillReads}
use Rattle.dft_takings.specs.Entries.{Entry, Keeps, Takes, Follows, Reads, Computes, entry_value, net_entry, source_entry, is_still_source, entry_if, chosen_entry, taken_entry, computed, entry_at, entry_where, forced_entry, entry_given}
use Rattle.dft_takings.specs.Laws.{EntryIsNext, PassOfEntries, PassOfNeeded, EntryStays}
use Rattle.dft_takings.proofs.ReadLemmas.{source_agrees, set_agrees}
use Rattle.dft_takings.proofs.NeededLemmas.{needed_before}
use Rattle.dft_takings.proofs.TakeLemmas.{forced_known, origin_is_shown, next_of_strobe}
use Rattle.dft_takings.proofs.ShownLemmas.{before_there, pass_of_shown}

-- ---- an entry that is there

-- it is there where what it needs is still
if_there : (still : Bool) (found : Option Entry) (entry : Entry) → entry_if still found ≡ Some entry → (still ≡ true) × (found ≡ Some entry)
if_there true found entry is = (refl, is)
if_there false found entry is = absurd cc

same_entry : (one other : Entry) → Some one ≡ Some other → one ≡ other
same_entry one other is = cc

-- ---- values

net_value : (old settled : ℕ → Tri) (next : Tri) (c : ℕ) (found : Option ℕ) (net : ℕ) → ((k : ℕ) → found ≡ Some k → settled net ≡ old k) → entry_value old settled next c (net_entry found net) ≡ settled net
net_value old settled next c None net same = refl
net_value old settled next c (Some k) net same = sym (same k refl)

source_value : (origin : ℕ → Option ℕ) (old settled : ℕ → Tri) (next : Tri) (c : ℕ) (source : Source) → ((net k : ℕ) → origin net ≡ Some k → settled net ≡ old k) →
    entry_value old settled next c (source_entry origin source) ≡ value_from settled source
source_value origin old settled next c (Net net) same = net_value old settled next c (origin net) net (same net)
source_value origin old settled next c (Tied bit) same = refl
source_value origin old settled next c (Loose i pin) same = refl

-- the entry of one source, where that source is still, has its value
one_value : (origin : ℕ → Option ℕ) (old settled : ℕ → Tri) (next : Tri) (c : ℕ) (still : Bool) (source : Source) (entry : Entry) → ((net k : ℕ) → origin net ≡ Some k → settled net ≡ old k) →
    entry_if still (Some (source_entry origin source)) ≡ Some entry → entry_value old settled next c entry ≡ value_from settled source
one_value origin old settled next c still source entry same is =
    ap (entry_value old settled next c) (sym (same_entry (source_entry origin source) entry (if_there still (Some (source_entry origin source)) entry is).1)) ∙ source_value origin old settled next c source same

chosen_value : (still : Source → Bool) (origin : ℕ → Option ℕ) (old settled : ℕ → Tri) (c : ℕ) (enable : Tri) (scan_in data_in : Source) (entry : Entry) → ((net k : ℕ) → origin net ≡ Some k → settled net ≡ old k) →
    chosen_entry still origin enable scan_in data_in ≡ Some entry →
    entry_value old settled (tri_chosen enable (value_from settled scan_in) (value_from settled data_in)) c entry ≡ tri_chosen enable (value_from settled scan_in) (value_from settled data_in)
chosen_value still origin old settled c Zero si d entry same is = one_value origin old settled _ c (still d) d entry same is ∙ sym (chosen_zero (value_from settled si) (value_from settled d))
chosen_value still origin old settled c One si d entry same is = one_value origin old settled _ c (still si) si entry same is ∙ sym (chosen_one (value_from settled si) (value_from settled d))
chosen_value still origin old settled c Unknown si d entry same is =
    let next : Tri = tri_chosen Unknown (value_from settled si) (value_from settled d) in
    ap (entry_value old settled next c) (sym (same_entry Computes entry (if_there (still si && still d) (Some Computes) entry is).1))

taken_value : (still : Source → Bool) (origin : ℕ → Option ℕ) (old settled : ℕ → Tri) (c : ℕ) (scan : Option (Scan Source)) (data_in : Source) (entry : Entry) → ((net k : ℕ) → origin net ≡ Some k → settled net ≡ old k) →
    taken_entry still origin scan (value_from settled) data_in ≡ Some entry →
    entry_value old settled (tri_scanned scan (value_from settled) (value_from settled data_in)) c entry ≡ tri_scanned scan (value_from settled) (value_from settled data_in)
taken_value still origin old settled c None d entry same is = one_value origin old settled _ c (still d) d entry same is
taken_value still origin old settled c (Some scan) d entry same is =
    chosen_value still origin old settled c (value_from settled scan.enable) scan.input d entry same
    (if_there (still scan.enable) (chosen_entry still origin (value_from settled scan.enable) scan.input d) entry is).1

computes : (found : Option Entry) (entry : Entry) → computed found ≡ Some entry → Computes ≡ entry
computes None entry is = absurd cc
computes (Some was) entry is = same_entry Computes entry is

pressed_value : (old settled : ℕ → Tri) (c : ℕ) (value : Bool) (port t : Tri) (found : Option Entry) (entry : Entry) → entry_at value port found ≡ Some entry → (found ≡ Some entry → entry_value old settled t c entry ≡ t) →
    entry_value old settled (tri_forced value port t) c entry ≡ tri_forced value port t
pressed_value old settled c value Zero t found entry is taken =
    ap (entry_value old settled (tri_forced value Zero t) c) (sym (same_entry (Takes (known value)) entry is)) ∙ sym (forced_known value t)
pressed_value old settled c value One t found entry is taken = subst (λ (n : Tri). entry_value old settled n c entry ≡ n) (sym (forced_one value t)) (taken is)
pressed_value old settled c value Unknown t found entry is taken = ap (entry_value old settled (tri_forced value Unknown t) c) (sym (computes found entry is))

where_value : (old settled : ℕ → Tri) (c : ℕ) (value : Bool) (pin : Option ℕ) (ports : ℕ → Tri) (t : Tri) (found : Option Entry) (entry : Entry) → entry_where value pin ports found ≡ Some entry →
    (found ≡ Some entry → entry_value old settled t c entry ≡ t) → entry_value old settled (tri_forced_where value pin ports t) c entry ≡ tri_forced_where value pin ports t
where_value old settled c value None ports t found entry is taken = taken is
where_value old settled c value (Some port) ports t found entry is taken = pressed_value old settled c value (ports port) t found entry is taken

forced_value : (old settled : ℕ → Tri) (c : ℕ) (forces : Forces ℕ) (ports : ℕ → Tri) (t : Tri) (found : Option Entry) (entry : Entry) → forced_entry forces ports found ≡ Some entry →
    (found ≡ Some entry → entry_value old settled t c entry ≡ t) → entry_value old settled (tri_forced_by forces ports t) c entry ≡ tri_forced_by forces ports t
forced_value old settled c forces ports t found entry is taken =
    where_value old settled c false forces.clear ports _ (entry_where true forces.preset ports found) entry is (λ was. where_value old settled c true forces.preset ports t found entry was taken)

-- a flip-flop whose clock does not pulse keeps its value
after_entry : (old settled : ℕ → Tri) (c : ℕ) (up : Bool) (next : Tri) (found : Option Entry) (entry : Entry) → (if up then found else Some Keeps) ≡ Some entry → (found ≡ Some entry → entry_value old settled next c entry ≡ next) →
    (if up then next else old c) ≡ entry_value old settled next c entry
after_entry old settled c true next found entry is taken = sym (taken is)
after_entry old settled c false next found entry is taken = ap (entry_value old settled next c) (same_entry Keeps entry is)

pub entry_is_next : EntryIsNext
entry_is_next l rank p origin shown settled ranked origins strobe c entry is =
    let d : ℕ = (l.cell c).domain in
    let still : Source → Bool = is_still_source d shown in
    let same : (net k : ℕ) → origin net ≡ Some k → settled net ≡ p.old k = origin_is_shown l rank origin (level_before p) p.ports p.old settled ranked origins strobe in
    after_entry p.old settled c (changes l p c) (next_value l p (λ e. settled) c) (forced_entry (l.cell c).forces p.ports (taken_entry still origin (l.cell c).takes.scan (value_from settled) (l.cell c).takes.input)) entry is
    (λ there. forced_value p.old settled c (l.cell c).forces p.ports (tri_taken_by (l.cell c).takes (p.old c) (value_from settled))
    (taken_entry still origin (l.cell c).takes.scan (value_from settled) (l.cell c).takes.input) entry there
    (λ found. taken_value still origin p.old settled c (l.cell c).takes.scan (l.cell c).takes.input entry same found))

-- ---- what an entry needs is still

abbrev StillAll : (shown : ℕ → Shown) → (d : ℕ) → List ℕ → Type 0
StillAll shown d nets = HasAll (still_needs (λ net. true) shown d) nets

still_first : (shown : ℕ → Shown) (d : ℕ) (source : Source) (sources : List Source) → is_still_source d shown source ≡ true → StillAll shown d (nets_of sources) → StillAll shown d (nets_of (source ∷ sources))
still_first shown d (Net net) sources is rest = (is, rest)
still_first shown d (Tied bit) sources is rest = rest
still_first shown d (Loose i pin) sources is rest = rest

chosen_still : (shown : ℕ → Shown) (d : ℕ) (origin : ℕ → Option ℕ) (enable : Tri) (scan_in data_in : Source) (entry : Entry) → chosen_entry (is_still_source d shown) origin enable scan_in data_in ≡ Some entry →
    StillAll shown d (nets_of (chosen_reads enable scan_in data_in))
chosen_still shown d origin Zero si di entry is = still_first shown d di [] (if_there (is_still_source d shown di) (Some (source_entry origin di)) entry is).0 tt
chosen_still shown d origin One si di entry is = still_first shown d si [] (if_there (is_still_source d shown si) (Some (source_entry origin si)) entry is).0 tt
chosen_still shown d origin Unknown si di entry is =
    let both = and_parts (is_still_source d shown si) (is_still_source d shown di) (if_there (is_still_source d shown si && is_still_source d shown di) (Some Computes) entry is).0 in
    still_first shown d si (di ∷ []) both.0 (still_first shown d di [] both.1 tt)

taken_still : (shown : ℕ → Shown) (d : ℕ) (origin : ℕ → Option ℕ) (scan : Option (Scan Source)) (at : Source → Tri) (data_in : Source) (entry : Entry) → taken_entry (is_still_source d shown) origin scan at data_in ≡ Some entry →
    StillAll shown d (nets_of (taken_reads scan at data_in))
taken_still shown d origin None at di entry is = still_first shown d di [] (if_there (is_still_source d shown di) (Some (source_entry origin di)) entry is).0 tt
taken_still shown d origin (Some scan) at di entry is =
    let there = if_there (is_still_source d shown scan.enable) (chosen_entry (is_still_source d shown) origin (at scan.enable) scan.input di) entry is in
    still_first shown d scan.enable (chosen_reads (at scan.enable) scan.input di) there.0 (chosen_still shown d origin (at scan.enable) scan.input di entry there.1)

pressed_still : (shown : ℕ → Shown) (d : ℕ) (value : Bool) (port : Tri) (found : Option Entry) (sources : List Source) (entry : Entry) → entry_at value port found ≡ Some entry → ((was : Entry) → found ≡ Some was → StillAll shown d (nets_of sources)) →
    StillAll shown d (nets_of (reads_at port sources))
pressed_still shown d value Zero found sources entry is taken = tt
pressed_still shown d value One found sources entry is taken = taken entry is
pressed_still shown d value Unknown None sources entry is taken = absurd cc
pressed_still shown d value Unknown (Some was) sources entry is taken = taken was refl

where_still : (shown : ℕ → Shown) (d : ℕ) (value : Bool) (pin : Option ℕ) (ports : ℕ → Tri) (found : Option Entry) (sources : List Source) (entry : Entry) → entry_where value pin ports found ≡ Some entry →
    ((was : Entry) → found ≡ Some was → StillAll shown d (nets_of sources)) → StillAll shown d (nets_of (reads_where pin ports sources))
where_still shown d value None ports found sources entry is taken = taken entry is
where_still shown d value (Some port) ports found sources entry is taken = pressed_still shown d value (ports port) found sources entry is taken

forced_still : (shown : ℕ → Shown) (d : ℕ) (forces : Forces ℕ) (ports : ℕ → Tri) (found : Option Entry) (sources : List Source) (entry : Entry) → forced_entry forces ports found ≡ Some entry →
    ((was : Entry) → found ≡ Some was → StillAll shown d (nets_of sources)) → StillAll shown d (nets_of (forced_reads forces ports sources))
forced_still shown d forces ports found sources entry is taken =
    where_still shown d false forces.clear ports (entry_where true forces.preset ports found) (reads_where forces.preset ports sources) entry is
    (λ was at. where_still shown d true forces.preset ports found sources was at taken)

where_up : (up : Bool) (found : Option Entry) (entry : Entry) → up ≡ true → (if up then found else Some Keeps) ≡ Some entry → found ≡ Some entry
where_up true found entry up is = is
where_up false found entry up is = absurd cc

entry_still : (l : Logic) (p : Pulse) (origin : ℕ → Option ℕ) (shown : ℕ → Shown) (settled : ℕ → Tri) (c : ℕ) (entry : Entry) → entry_given l p origin shown settled c ≡ Some entry → changes l p c ≡ true →
    HasStillReads l p (λ net. true) shown settled c
entry_still l p origin shown settled c entry is up =
    let d : ℕ = (l.cell c).domain in
    let taken : Option Entry = taken_entry (is_still_source d shown) origin (l.cell c).takes.scan (value_from settled) (l.cell c).takes.input in
    forced_still shown d (l.cell c).forces p.ports taken (taken_reads (l.cell c).takes.scan (value_from settled) (l.cell c).takes.input) entry
    (where_up (changes l p c) (forced_entry (l.cell c).forces p.ports taken) entry up is)
    (λ was found. taken_still shown d origin (l.cell c).takes.scan (value_from settled) (l.cell c).takes.input was found)

pub every : (nets : List ℕ) → HasAll (λ net. true) nets
every [] = tt
every (net ∷ nets) = (refl, every nets)

pub pass_of_entries : PassOfEntries
pass_of_entries l rank p origin shown settled entries ranked origins on strobe given =
    let pass = pass_of_shown l rank p (λ net. true) shown settled ranked (λ net need. every (reads (l.net net))) on (λ net need. strobe net)
    (λ c up. entry_still l p origin shown settled c (entries c) (given c) up) in
    (pass.0, (pass.1.0, (pass.1.1.0, λ c. pass.1.1.1 c ∙ entry_is_next l rank p origin shown settled ranked origins strobe c (entries c) (given c))))

-- ---- the same state

taken_stays : (still : Source → Bool) (origin : ℕ → Option ℕ) (scan : Option (Scan Source)) (at to : Source → Tri) (data_in : Source) → ((s : Scan Source) → scan ≡ Some s → at s.enable ≡ to s.enable) → taken_entry still origin scan at data_in ≡ taken_entry still origin scan to data_in
taken_stays still origin None at to di same = refl
taken_stays still origin (Some scan) at to di same = ap (λ (t : Tri). entry_if (still scan.enable) (chosen_entry still origin t scan.input di)) (same scan refl)

where_stays : (value : Bool) (pin : Option ℕ) (ports others : ℕ → Tri) (one two : Option Entry) → ((port : ℕ) → pin ≡ Some port → ports port ≡ others port) → one ≡ two → entry_where value pin ports one ≡ entry_where value pin others two
where_stays value None ports others one two same is = is
where_stays value (Some port) ports others one two same is = rw (same port refl, is) refl

forced_stays : (forces : Forces ℕ) (ports others : ℕ → Tri) (one two : Option Entry) → ((port : ℕ) → IsForceOf forces port → ports port ≡ others port) → one ≡ two → forced_entry forces ports one ≡ forced_entry forces others two
forced_stays forces ports others one two same is =
    where_stays false forces.clear ports others _ _ (λ port at. same port (inl at)) (where_stays true forces.preset ports others one two (λ port at. same port (inr at)) is)

up_stays : (up also : Bool) (one two : Option Entry) → up ≡ also → one ≡ two → (if up then one else Some Keeps) ≡ (if also then two else Some Keeps)
up_stays up also one two same is = rw (same, is) refl

pub entry_stays : EntryStays
entry_stays l p q origin shown settled other c up ports enable =
    let d : ℕ = (l.cell c).domain in
    up_stays (changes l p c) (changes l q c) _ _ up
    (forced_stays (l.cell c).forces p.ports q.ports _ _ ports (taken_stays (is_still_source d shown) origin (l.cell c).takes.scan (value_from settled) (value_from other) (l.cell c).takes.input enable))

-- ---- from the needed nets alone

-- an entry has the same value from assignments that agree on what it reads
entry_agrees : (old settled values : ℕ → Tri) (next also : Tri) (c : ℕ) (entry : Entry) → ((net : ℕ) → entry ≡ Reads net → settled net ≡ values net) → (entry ≡ Computes → next ≡ also) →
    entry_value old settled next c entry ≡ entry_value old values also c entry
entry_agrees old settled values next also c Keeps reading computing = refl
entry_agrees old settled values next also c (Takes value) reading computing = refl
entry_agrees old settled values next also c (Follows cell) reading computing = refl
entry_agrees old settled values next also c (Reads net) reading computing = reading net refl
entry_agrees old settled values next also c Computes reading computing = computing refl

pub pass_of_needed : PassOfNeeded
pass_of_needed l rank p origin shown needs values entries ranked origins on closed given has enables reading computing =
    let found = before_there l rank p ranked in
    let settled : ℕ → Tri = found.0 in
    let same : (net : ℕ) → needs net ≡ true → values net ≡ settled net = needed_before l rank p needs values settled ranked closed given found.1 in
    let enable : (c : ℕ) (scan : Scan Source) → (l.cell c).takes.scan ≡ Some scan → value_from values scan.enable ≡ value_from settled scan.enable = λ c scan is.
    source_agrees values settled scan.enable (set_agrees needs values settled (nets_of (scan.enable ∷ [])) (enables c scan is) same) in
    let stays : (c : ℕ) → entry_given l p origin shown values c ≡ entry_given l p origin shown settled c = λ c.
    entry_stays l p p origin shown values settled c refl (λ port is. refl) (enable c) in
    let pass = pass_of_entries l rank p origin shown settled entries ranked origins on found.1 (λ c. sym (stays c) ∙ has c) in (
      pass.0,
      (
        pass.1.0,
        (
          pass.1.1.0,
          λ c. pass.1.1.1 c
              ∙ entry_agrees p.old settled values (next_value l p (λ d. settled) c) (next_value l p (λ d. values) c) c (entries c) (λ net is. sym (same net (reading c net is)))
              (λ is. sym (next_of_strobe l rank p needs values settled ranked closed given found.1 c (computing c is))),
        ),
      ),
    )
