-- What a net and a flip-flop take depends on what they read.
use Rattle.std.proofs.Common.{ℕ, Bool, true, false, List, [], ◌∷◌, ◌≡◌, ◌<◌, ◌==◌, zero, suc, refl, sym, ap, subst, arith, ◌∙◌, Option, None, Some, map}
use Rattle.std.specs.List.{AllByRecursion}
use Rattle.std.specs.Prelude.{if◌then◌else◌}
use Rattle.dft_base.specs.declared.tri.Tri.{Tri}
use Rattle.dft_base.specs.declared.tri.Tri.TheVariants.{Zero, One, Unknown}
use Rattle.dft_base.specs.Tri.{known}
use Rattle.dft_cells.specs.Gates.{tri_of}
use Rattle.dft_cells.specs.FlipFlops.{tri_forced, tri_chosen, Scan, Forces, tri_forced_by, tri_scanned, tri_forced_where}
use Rattle.dft_cells.proofs.TriLemmas.{chosen_one, chosen_zero}
use Rattle.dft_netlist.specs.Drivers.{Source, Net, Tied, Loose, nets_of, AreBelow}
use Rattle.dft_behavior.specs.Logic.{Logic, Cell, Meaning, Input, Clock, Gate, Joined, Flop, Lockup, Free, reads, IsRanked}
use Rattle.dft_behavior.specs.Settled.{TriSources, is_wire, value_from, value_given}
use Rattle.dft_behavior.specs.Runs.{takes}
use Rattle.dft_abstract.specs.Cycle.{Pulse, next_value}
use Rattle.dft_takings.specs.Needs.{HasAll, shows_input, read_in, reads_in, still_from, IsReadClosed, chosen_reads, taken_reads, reads_at, reads_where, forced_reads, next_reads}

-- two assignments agree on these nets
abbrev pub Agree : (v w : ℕ → Tri) → List ℕ → Type 0
Agree v w nets = AllByRecursion (λ net. v net ≡ w net) nets

-- ---- sources

pub source_agrees : (v w : ℕ → Tri) (source : Source) → Agree v w (nets_of (source ∷ [])) → value_from v source ≡ value_from w source
source_agrees v w (Net net) same = same.0
source_agrees v w (Tied bit) same = refl
source_agrees v w (Loose i pin) same = refl

inputs_agree : (v w : ℕ → Tri) (inputs : List Source) → Agree v w (nets_of inputs) → map (value_from v) inputs ≡ map (value_from w) inputs
inputs_agree v w [] same = refl
inputs_agree v w (Net net ∷ inputs) same = λ t. same.0 t ∷ inputs_agree v w inputs same.1 t
inputs_agree v w (Tied bit ∷ inputs) same = ap (λ (us : List Tri). known bit ∷ us) (inputs_agree v w inputs same)
inputs_agree v w (Loose i pin ∷ inputs) same = ap (λ (us : List Tri). Unknown ∷ us) (inputs_agree v w inputs same)

first_agrees : (v w : ℕ → Tri) (source : Source) (sources : List Source) → Agree v w (nets_of (source ∷ sources)) → Agree v w (nets_of (source ∷ []))
first_agrees v w (Net net) sources same = (same.0, tt)
first_agrees v w (Tied bit) sources same = tt
first_agrees v w (Loose i pin) sources same = tt

rest_agree : (v w : ℕ → Tri) (source : Source) (sources : List Source) → Agree v w (nets_of (source ∷ sources)) → Agree v w (nets_of sources)
rest_agree v w (Net net) sources same = same.1
rest_agree v w (Tied bit) sources same = same
rest_agree v w (Loose i pin) sources same = same

-- ---- nets

-- a net's driver gives it the same value from sources that agree for it, in assignments that agree on what it reads
pub given_agrees : (p : Pulse) (t s : TriSources) (v w : ℕ → ℕ → Tri) (d net : ℕ) (m : Meaning) →
    ((k : ℕ) → t.ports k ≡ s.ports k) → (m ≡ Clock → t.clocks net ≡ s.clocks net) → ((c : ℕ) (inverted : Bool) → m ≡ Flop c inverted → t.flops c ≡ s.flops c) →
    ((c e : ℕ) (high : Bool) (source : Source) → m ≡ Lockup c e high source → Agree (v (if takes p.rising high then e else d)) (w (if takes p.rising high then e else d)) (if shows_input p.rising (p.pulsed e) (e == d) high then nets_of (source ∷ []) else []) →
    t.lockups c e high source ≡ s.lockups c e high source) →
    Agree (v (read_in p d m)) (w (read_in p d m)) (reads_in p d m) → value_given t (v d) net m ≡ value_given s (w d) net m
given_agrees p t s v w d net Input ports clocks flops lockups same = ports net
given_agrees p t s v w d net Clock ports clocks flops lockups same = clocks refl
given_agrees p t s v w d net (Gate kind inputs) ports clocks flops lockups same = ap (tri_of kind) (inputs_agree (v d) (w d) inputs same)
given_agrees p t s v w d net (Joined source) ports clocks flops lockups same = source_agrees (v d) (w d) source same
given_agrees p t s v w d net (Flop c inverted) ports clocks flops lockups same = rw (flops c inverted refl) refl
given_agrees p t s v w d net (Lockup c e high source) ports clocks flops lockups same = lockups c e high source refl same
given_agrees p t s v w d net Free ports clocks flops lockups same = refl

-- while clocks have the same levels, in assignments that agree on what it reads
pub still_agrees : (level : ℕ → Bool) (ports flops v w : ℕ → Tri) (net : ℕ) (m : Meaning) → Agree v w (reads m) → value_given (still_from level ports flops v) v net m ≡ value_given (still_from level ports flops w) w net m
still_agrees level ports flops v w net Input same = refl
still_agrees level ports flops v w net Clock same = refl
still_agrees level ports flops v w net (Gate kind inputs) same = ap (tri_of kind) (inputs_agree v w inputs same)
still_agrees level ports flops v w net (Joined source) same = source_agrees v w source same
still_agrees level ports flops v w net (Flop c inverted) same = refl
still_agrees level ports flops v w net (Lockup c e high source) same = ap (λ (t : Tri). if is_wire high (level e) then t else flops c) (source_agrees v w source same)
still_agrees level ports flops v w net Free same = refl

-- what a net reads in a phase it reads
reads_below : (rank : ℕ → ℕ) (r : ℕ) (p : Pulse) (d : ℕ) (m : Meaning) → AreBelow rank r (reads m) → AreBelow rank r (reads_in p d m)
reads_below rank r p d Input below = below
reads_below rank r p d Clock below = below
reads_below rank r p d (Gate kind inputs) below = below
reads_below rank r p d (Joined source) below = below
reads_below rank r p d (Flop c inverted) below = below
reads_below rank r p d (Lockup c e high source) below = if_below rank r (shows_input p.rising (p.pulsed e) (e == d) high) (nets_of (source ∷ [])) below where
  if_below : (rank : ℕ → ℕ) (r : ℕ) (b : Bool) (nets : List ℕ) → AreBelow rank r nets → AreBelow rank r (if b then nets else [])
  if_below rank r true nets below = below
  if_below rank r false nets below = tt
reads_below rank r p d Free below = below

-- what nets of lower ranks in the set have in common, those that are read have
pub all_agree : (rank : ℕ → ℕ) (r : ℕ) (needs : ℕ → Bool) (v w : ℕ → Tri) (nets : List ℕ) → AreBelow rank r nets → HasAll needs nets → ((k : ℕ) → rank k < r → needs k ≡ true → v k ≡ w k) → Agree v w nets
all_agree rank r needs v w [] below all same = tt
all_agree rank r needs v w (net ∷ nets) below all same = (same net below.0 all.0, all_agree rank r needs v w nets below.1 all.1 same)

-- two families of views agree on needed nets, by their ranks, where what these nets are given by agrees
needed_within : (l : Logic) (rank : ℕ → ℕ) (p : Pulse) (t s : ℕ → TriSources) (needs : ℕ → ℕ → Bool) (v w : ℕ → ℕ → Tri) → (ranked : IsRanked l rank) → (closed : IsReadClosed l p needs) →
    (tv : ((d net : ℕ) → needs d net ≡ true → v d net ≡ value_given (t d) (v d) net (l.net net))) → (sw : ((d net : ℕ) → needs d net ≡ true → w d net ≡ value_given (s d) (w d) net (l.net net))) →
    (ports : ((d k : ℕ) → (t d).ports k ≡ (s d).ports k)) → (clocks : ((d net : ℕ) → needs d net ≡ true → l.net net ≡ Clock → (t d).clocks net ≡ (s d).clocks net)) →
    (flops : ((d net : ℕ) → needs d net ≡ true → (c : ℕ) (inverted : Bool) → l.net net ≡ Flop c inverted → (t d).flops c ≡ (s d).flops c)) →
    (lockups : ((d net : ℕ) → needs d net ≡ true → (c e : ℕ) (high : Bool) (source : Source) → l.net net ≡ Lockup c e high source → Agree (v (if takes p.rising high then e else d)) (w (if takes p.rising high then e else d)) (if shows_input p.rising (p.pulsed e) (e == d) high then nets_of (source ∷ []) else []) →
    (t d).lockups c e high source ≡ (s d).lockups c e high source)) →
    (fuel d net : ℕ) → (less : rank net < fuel) → (need : needs d net ≡ true) → v d net ≡ w d net
needed_within l rank p t s needs v w ranked closed tv sw ports clocks flops lockups zero d net less need = absurd (omega arith)
needed_within l rank p t s needs v w ranked closed tv sw ports clocks flops lockups (suc fuel) d net less need =
    let e : ℕ = read_in p d (l.net net) in
    let same : Agree (v e) (w e) (reads_in p d (l.net net)) = all_agree rank (rank net) (needs e) (v e) (w e) (reads_in p d (l.net net)) (reads_below rank (rank net) p d (l.net net) (ranked.order net)) (closed d net need)
    (λ k below has. needed_within l rank p t s needs v w ranked closed tv sw ports clocks flops lockups fuel e k (omega arith) has) in
    tv d net need ∙ given_agrees p (t d) (s d) v w d net (l.net net) (ports d) (clocks d net need) (flops d net need) (lockups d net need) same ∙ sym (sw d net need)

-- two families of assignments, each settled on a closed set from sources that agree for its nets, agree on it
pub needed_agrees : (l : Logic) (rank : ℕ → ℕ) (p : Pulse) (t s : ℕ → TriSources) (needs : ℕ → ℕ → Bool) (v w : ℕ → ℕ → Tri) → (ranked : IsRanked l rank) → (closed : IsReadClosed l p needs) →
    (tv : ((d net : ℕ) → needs d net ≡ true → v d net ≡ value_given (t d) (v d) net (l.net net))) → (sw : ((d net : ℕ) → needs d net ≡ true → w d net ≡ value_given (s d) (w d) net (l.net net))) →
    (ports : ((d k : ℕ) → (t d).ports k ≡ (s d).ports k)) → (clocks : ((d net : ℕ) → needs d net ≡ true → l.net net ≡ Clock → (t d).clocks net ≡ (s d).clocks net)) →
    (flops : ((d net : ℕ) → needs d net ≡ true → (c : ℕ) (inverted : Bool) → l.net net ≡ Flop c inverted → (t d).flops c ≡ (s d).flops c)) →
    (lockups : ((d net : ℕ) → needs d net ≡ true → (c e : ℕ) (high : Bool) (source : Source) → l.net net ≡ Lockup c e high source → Agree (v (if takes p.rising high then e else d)) (w (if takes p.rising high then e else d)) (if shows_input p.rising (p.pulsed e) (e == d) high then nets_of (source ∷ []) else []) →
    (t d).lockups c e high source ≡ (s d).lockups c e high source)) →
    (d net : ℕ) → (need : needs d net ≡ true) → v d net ≡ w d net
needed_agrees l rank p t s needs v w ranked closed tv sw ports clocks flops lockups d net need = needed_within l rank p t s needs v w ranked closed tv sw ports clocks flops lockups (suc (rank net)) d net (omega arith) need

-- ---- next values

-- a reset or set whose port is 0 leaves its value
forced_low : (value : Bool) (t u : Tri) → tri_forced value Zero t ≡ tri_forced value Zero u
forced_low false Zero Zero = refl
forced_low false Zero One = refl
forced_low false Zero Unknown = refl
forced_low false One Zero = refl
forced_low false One One = refl
forced_low false One Unknown = refl
forced_low false Unknown Zero = refl
forced_low false Unknown One = refl
forced_low false Unknown Unknown = refl
forced_low true Zero Zero = refl
forced_low true Zero One = refl
forced_low true Zero Unknown = refl
forced_low true One Zero = refl
forced_low true One One = refl
forced_low true One Unknown = refl
forced_low true Unknown Zero = refl
forced_low true Unknown One = refl
forced_low true Unknown Unknown = refl

chosen_agrees : (enable : Tri) (v w : ℕ → Tri) (scan_in data_in : Source) → Agree v w (nets_of (chosen_reads enable scan_in data_in)) →
    tri_chosen enable (value_from v scan_in) (value_from v data_in) ≡ tri_chosen enable (value_from w scan_in) (value_from w data_in)
chosen_agrees Zero v w si d same = chosen_zero (value_from v si) (value_from v d) ∙ source_agrees v w d same ∙ sym (chosen_zero (value_from w si) (value_from w d))
chosen_agrees One v w si d same = chosen_one (value_from v si) (value_from v d) ∙ source_agrees v w si same ∙ sym (chosen_one (value_from w si) (value_from w d))
chosen_agrees Unknown v w si d same =
    let s : value_from v si ≡ value_from w si = source_agrees v w si (first_agrees v w si (d ∷ []) same) in
    let t : value_from v d ≡ value_from w d = source_agrees v w d (rest_agree v w si (d ∷ []) same) in
    rw (s, t) refl

taken_agrees : (scan : Option (Scan Source)) (v w : ℕ → Tri) (data_in : Source) → Agree v w (nets_of (taken_reads scan (value_from v) data_in)) →
    tri_scanned scan (value_from v) (value_from v data_in) ≡ tri_scanned scan (value_from w) (value_from w data_in)
taken_agrees None v w d same = source_agrees v w d same
taken_agrees (Some scan) v w d same =
    let enable : Tri = value_from v scan.enable in
    let e : value_from v scan.enable ≡ value_from w scan.enable = source_agrees v w scan.enable (first_agrees v w scan.enable (chosen_reads enable scan.input d) same) in
    chosen_agrees enable v w scan.input d (rest_agree v w scan.enable (chosen_reads enable scan.input d) same)
    ∙ ap (λ (t : Tri). tri_chosen t (value_from w scan.input) (value_from w d)) e

pressed_agrees : (value : Bool) (port : Tri) (v w : ℕ → Tri) (sources : List Source) (t u : Tri) → Agree v w (nets_of (reads_at port sources)) → (Agree v w (nets_of sources) → t ≡ u) →
    tri_forced value port t ≡ tri_forced value port u
pressed_agrees value Zero v w sources t u same taken = forced_low value t u
pressed_agrees value One v w sources t u same taken = ap (tri_forced value One) (taken same)
pressed_agrees value Unknown v w sources t u same taken = ap (tri_forced value Unknown) (taken same)

where_agrees : (value : Bool) (pin : Option ℕ) (ports v w : ℕ → Tri) (sources : List Source) (t u : Tri) → Agree v w (nets_of (reads_where pin ports sources)) → (Agree v w (nets_of sources) → t ≡ u) →
    tri_forced_where value pin ports t ≡ tri_forced_where value pin ports u
where_agrees value None ports v w sources t u same taken = taken same
where_agrees value (Some port) ports v w sources t u same taken = pressed_agrees value (ports port) v w sources t u same taken

forced_agrees : (forces : Forces ℕ) (ports v w : ℕ → Tri) (sources : List Source) (t u : Tri) → Agree v w (nets_of (forced_reads forces ports sources)) → (Agree v w (nets_of sources) → t ≡ u) →
    tri_forced_by forces ports t ≡ tri_forced_by forces ports u
forced_agrees forces ports v w sources t u same taken =
    where_agrees false forces.clear ports v w (reads_where forces.preset ports sources) _ _ same (λ rest. where_agrees true forces.preset ports v w sources t u rest taken)

-- assignments that agree on what a next value is read from give the same one
pub next_agrees : (l : Logic) (p : Pulse) (c : ℕ) (v w : ℕ → ℕ → Tri) → Agree (v (l.cell c).domain) (w (l.cell c).domain) (nets_of (next_reads (l.cell c) p.ports (value_from (v (l.cell c).domain)))) →
    next_value l p v c ≡ next_value l p w c
next_agrees l p c v w same =
    let d : ℕ = (l.cell c).domain in
    forced_agrees (l.cell c).forces p.ports (v d) (w d) (taken_reads (l.cell c).takes.scan (value_from (v d)) (l.cell c).takes.input) _ _ same (taken_agrees (l.cell c).takes.scan (v d) (w d) (l.cell c).takes.input)

-- nets of a set on which two assignments agree
pub set_agrees : (needs : ℕ → Bool) (v w : ℕ → Tri) (nets : List ℕ) → HasAll needs nets → ((k : ℕ) → needs k ≡ true → v k ≡ w k) → Agree v w nets
set_agrees needs v w [] all same = tt
set_agrees needs v w (net ∷ nets) all same = (same net all.0, set_agrees needs v w nets all.1 same)

taken_same : (needs : ℕ → Bool) (scan : Option (Scan Source)) (v w : ℕ → Tri) (data_in : Source) → Agree v w (nets_of (taken_reads scan (value_from v) data_in)) →
    HasAll needs (nets_of (taken_reads scan (value_from v) data_in)) → HasAll needs (nets_of (taken_reads scan (value_from w) data_in))
taken_same needs None v w d same all = all
taken_same needs (Some scan) v w d same all =
    let e : value_from v scan.enable ≡ value_from w scan.enable = source_agrees v w scan.enable (first_agrees v w scan.enable (chosen_reads (value_from v scan.enable) scan.input d) same) in
    subst (λ (t : Tri). HasAll needs (nets_of (scan.enable ∷ chosen_reads t scan.input d))) e all

pressed_same : (needs : ℕ → Bool) (port : Tri) (v w : ℕ → Tri) (before after : List Source) → Agree v w (nets_of (reads_at port before)) →
    (Agree v w (nets_of before) → HasAll needs (nets_of before) → HasAll needs (nets_of after)) → HasAll needs (nets_of (reads_at port before)) → HasAll needs (nets_of (reads_at port after))
pressed_same needs Zero v w before after same taken all = tt
pressed_same needs One v w before after same taken all = taken same all
pressed_same needs Unknown v w before after same taken all = taken same all

where_same : (needs : ℕ → Bool) (pin : Option ℕ) (ports v w : ℕ → Tri) (before after : List Source) → Agree v w (nets_of (reads_where pin ports before)) →
    (Agree v w (nets_of before) → HasAll needs (nets_of before) → HasAll needs (nets_of after)) → HasAll needs (nets_of (reads_where pin ports before)) → HasAll needs (nets_of (reads_where pin ports after))
where_same needs None ports v w before after same taken all = taken same all
where_same needs (Some port) ports v w before after same taken all = pressed_same needs (ports port) v w before after same taken all

forced_same : (needs : ℕ → Bool) (forces : Forces ℕ) (ports v w : ℕ → Tri) (before after : List Source) → Agree v w (nets_of (forced_reads forces ports before)) →
    (Agree v w (nets_of before) → HasAll needs (nets_of before) → HasAll needs (nets_of after)) → HasAll needs (nets_of (forced_reads forces ports before)) → HasAll needs (nets_of (forced_reads forces ports after))
forced_same needs forces ports v w before after same taken all =
    where_same needs forces.clear ports v w (reads_where forces.preset ports before) (reads_where forces.preset ports after) same (λ s a. where_same needs forces.preset ports v w before after s taken a) all

-- assignments that agree on what a next value is read from read it from the same nets
pub next_reads_same : (needs : ℕ → Bool) (cell : Cell) (ports v w : ℕ → Tri) → Agree v w (nets_of (next_reads cell ports (value_from v))) → HasAll needs (nets_of (next_reads cell ports (value_from v))) →
    HasAll needs (nets_of (next_reads cell ports (value_from w)))
next_reads_same needs cell ports v w same all = forced_same needs cell.forces ports v w _ _ same (taken_same needs cell.takes.scan v w cell.takes.input) all
