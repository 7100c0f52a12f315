-- Views rise from the strobe with the map.
use Rattle.std.proofs.Common.{ℕ, Bool, true, false, not, ◌&&◌, List, [], ◌∷◌, ◌≡◌, ◌<◌, ◌==◌, zero, suc, refl, arith, Option, None, Some}
use Rattle.std.specs.Prelude.{if◌then◌else◌}
use Rattle.dft_base.specs.declared.tri.Tri.{Tri}
use Rattle.dft_base.specs.declared.tri.Tri.TheVariants.{Zero, One, Unknown}
use Rattle.dft_base.specs.Tri.{known, AboveTri}
use Rattle.dft_cells.proofs.Completions.{above_self}
use Rattle.dft_cells.specs.FlipFlops.{Scan, Forces}
use Rattle.dft_netlist.specs.Drivers.{Source, Net, Tied, Loose, nets_of}
use Rattle.dft_behavior.specs.Logic.{Logic, IsRanked}
use Rattle.dft_behavior.specs.Settled.{value_from}
use Rattle.dft_behavior.proofs.Meanings.{source_over, source_monotone, meaning_monotone, at_nets}
use Rattle.dft_abstract.specs.Cycle.{Pulse, changes, view_sources, AreViews}
use Rattle.dft_abstract.proofs.Least.{views_monotone}
use Rattle.dft_takings.specs.Needs.{HasAll, before_from, IsBefore, chosen_reads, taken_reads, reads_at, reads_where, forced_reads}
use Rattle.dft_takings.proofs.LockupLemmas.{shown_above}
use Rattle.dft_takings.proofs.ShownLemmas.{before_there}
use Rattle.dft_takings.specs.Laws.{ViewIsAboveStrobe, NoTwoBits, ViewsRise, ReadsRise}

over_old : (up own : Bool) (old poss : Tri) → AboveTri poss old → AboveTri (if up then (if own then old else poss) else old) old
over_old false own old poss h = above_self old
over_old true true old poss h = above_self old
over_old true false old poss h = h

over_low : (up own rising : Bool) → AboveTri (if up then (if own then known (not rising) else Unknown) else Zero) (known (up && not rising))
over_low false own rising = tt
over_low true true rising = above_self (known (not rising))
over_low true false rising = tt

above_within : (l : Logic) (rank : ℕ → ℕ) (p : Pulse) (poss : ℕ → Tri) (view : ℕ → ℕ → Tri) (settled : ℕ → Tri) → IsRanked l rank → ((c : ℕ) → AboveTri (poss c) (p.old c)) → AreViews l p poss view →
    IsBefore l p settled → (fuel d net : ℕ) → rank net < fuel → AboveTri (view d net) (settled net)
above_within l rank p poss view settled ranked over views strobe zero d net less = absurd (omega arith)
above_within l rank p poss view settled ranked over views strobe (suc fuel) d net less =
    let ih : (e k : ℕ) → rank k < rank net → AboveTri (view e k) (settled k) = λ e k below. above_within l rank p poss view settled ranked over views strobe fuel e k (omega arith) in
    at_nets _ _ _ _ (views d net) (strobe net)
    (meaning_monotone rank (view_sources l p poss view d) (before_from p settled) (view d) settled net
    (λ k. above_self (p.ports k)) (λ e. over_low (p.pulsed e) (e == d) p.rising) (λ c. over_old (changes l p c) ((l.cell c).domain == d) (p.old c) (poss c) (over c))
    (l.net net) (ranked.order net) (ih d) (λ c e high source below. shown_above p.rising (p.pulsed e) (e == d) high (p.old c) _ _ (value_from settled source)
    (source_monotone rank (rank net) (view d) settled source below (ih d)) (source_monotone rank (rank net) (view e) settled source below (ih e))))

pub view_is_above_strobe : ViewIsAboveStrobe
view_is_above_strobe l rank p poss view settled ranked over views strobe d net = above_within l rank p poss view settled ranked over views strobe (suc (rank net)) d net (omega arith)

-- values that stand above one value and are known are the same
one_bit : (a b : Bool) (t : Tri) → AboveTri (known a) t → AboveTri (known b) t → a ≡ b
one_bit false false t h k = refl
one_bit true true t h k = refl
one_bit false true Zero h k = absurd k
one_bit false true One h k = absurd h
one_bit false true Unknown h k = absurd h
one_bit true false Zero h k = absurd h
one_bit true false One h k = absurd k
one_bit true false Unknown h k = absurd h

known_over : (t u : Tri) (a : Bool) → t ≡ known a → AboveTri t u → AboveTri (known a) u
known_over t u a is h = rw is at h

pub no_two_bits : NoTwoBits
no_two_bits l rank p poss other view its ranked over above views others d e net a b is was =
    let found = before_there l rank p ranked in
    one_bit a b (found.0 net)
    (known_over (view d net) (found.0 net) a is (view_is_above_strobe l rank p poss view found.0 ranked over views found.1 d net))
    (known_over (its e net) (found.0 net) b was (view_is_above_strobe l rank p other its found.0 ranked above others found.1 e net))

pub views_rise : ViewsRise
views_rise l rank p high low view its ranked over highs lows = views_monotone l rank p high low view its ranked highs lows over

-- ---- what is read at a higher map

-- the nets of the first source, and of the others
pub first_all : (needs : ℕ → Bool) (source : Source) (sources : List Source) → HasAll needs (nets_of (source ∷ sources)) → HasAll needs (nets_of (source ∷ []))
first_all needs (Net net) sources all = (all.0, tt)
first_all needs (Tied bit) sources all = tt
first_all needs (Loose i pin) sources all = tt

pub rest_all : (needs : ℕ → Bool) (source : Source) (sources : List Source) → HasAll needs (nets_of (source ∷ sources)) → HasAll needs (nets_of sources)
rest_all needs (Net net) sources all = all.1
rest_all needs (Tied bit) sources all = all
rest_all needs (Loose i pin) sources all = all

pub more_all : (needs : ℕ → Bool) (source : Source) (sources : List Source) → HasAll needs (nets_of (source ∷ [])) → HasAll needs (nets_of sources) → HasAll needs (nets_of (source ∷ sources))
more_all needs (Net net) sources one all = (one.0, all)
more_all needs (Tied bit) sources one all = all
more_all needs (Loose i pin) sources one all = all

chosen_rise : (needs : ℕ → Bool) (high low : Tri) (scan_in data_in : Source) → AboveTri high low → HasAll needs (nets_of (chosen_reads high scan_in data_in)) → HasAll needs (nets_of (chosen_reads low scan_in data_in))
chosen_rise needs Zero Zero si d over all = all
chosen_rise needs Zero One si d over all = absurd over
chosen_rise needs Zero Unknown si d over all = absurd over
chosen_rise needs One One si d over all = all
chosen_rise needs One Zero si d over all = absurd over
chosen_rise needs One Unknown si d over all = absurd over
chosen_rise needs Unknown Zero si d over all = rest_all needs si (d ∷ []) all
chosen_rise needs Unknown One si d over all = first_all needs si (d ∷ []) all
chosen_rise needs Unknown Unknown si d over all = all

taken_rise : (needs : ℕ → Bool) (scan : Option (Scan Source)) (high low : Source → Tri) (data_in : Source) → ((source : Source) → AboveTri (high source) (low source)) →
    HasAll needs (nets_of (taken_reads scan high data_in)) → HasAll needs (nets_of (taken_reads scan low data_in))
taken_rise needs None high low d over all = all
taken_rise needs (Some scan) high low d over all =
    more_all needs scan.enable (chosen_reads (low scan.enable) scan.input d) (first_all needs scan.enable (chosen_reads (high scan.enable) scan.input d) all)
    (chosen_rise needs (high scan.enable) (low scan.enable) scan.input d (over scan.enable) (rest_all needs scan.enable (chosen_reads (high scan.enable) scan.input d) all))

pressed_rise : (needs : ℕ → Bool) (port : Tri) (high low : List Source) → (HasAll needs (nets_of high) → HasAll needs (nets_of low)) → HasAll needs (nets_of (reads_at port high)) → HasAll needs (nets_of (reads_at port low))
pressed_rise needs Zero high low rise all = tt
pressed_rise needs One high low rise all = rise all
pressed_rise needs Unknown high low rise all = rise all

where_rise : (needs : ℕ → Bool) (pin : Option ℕ) (ports : ℕ → Tri) (high low : List Source) → (HasAll needs (nets_of high) → HasAll needs (nets_of low)) →
    HasAll needs (nets_of (reads_where pin ports high)) → HasAll needs (nets_of (reads_where pin ports low))
where_rise needs None ports high low rise all = rise all
where_rise needs (Some port) ports high low rise all = pressed_rise needs (ports port) high low rise all

forced_rise : (needs : ℕ → Bool) (forces : Forces ℕ) (ports : ℕ → Tri) (high low : List Source) → (HasAll needs (nets_of high) → HasAll needs (nets_of low)) →
    HasAll needs (nets_of (forced_reads forces ports high)) → HasAll needs (nets_of (forced_reads forces ports low))
forced_rise needs forces ports high low rise all =
    where_rise needs forces.clear ports (reads_where forces.preset ports high) (reads_where forces.preset ports low) (where_rise needs forces.preset ports high low rise) all

pub reads_rise : ReadsRise
reads_rise l p needs view its over c all =
    let d : ℕ = (l.cell c).domain in
    forced_rise (needs d) (l.cell c).forces p.ports _ _
    (taken_rise (needs d) (l.cell c).takes.scan (value_from (view d)) (value_from (its d)) (l.cell c).takes.input (λ source. source_over (view d) (its d) source (over d))) all
