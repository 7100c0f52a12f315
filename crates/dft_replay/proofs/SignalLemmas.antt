-- The nets of the signals of well-formed patterns, and the lengths of their vectors.
use Rattle.std.proofs.Common.{ℕ, zero, suc, ◌+◌, ◌^◌, ◌<◌, ◌≤◌, ◌≢◌, true, ◌||◌, List, [], ◌∷◌, ◌++◌, ◌≡◌, inl, inr, Option, None, Some, length, map, take, drop, refl, sym, ap, ◌∙◌, subst, slice_get, get_or, eqb, arith}
use Rattle.std.specs.Prelude.{if◌then◌else◌, All, AllPairs}
use Rattle.std.proofs.Math.Seq.{drop-cons}
use Rattle.std.specs.List.{list_any}
use Rattle.std.proofs.lemmas.Bool.Decides.{eqb_tells, Decides-eqb}
use Rattle.std.proofs.lemmas.List.{length-map, map_more, map-append}
use Rattle.std.proofs.lemmas.Map.Made.{IsDistinct-from_AllPairs}
use Rattle.std.proofs.lemmas.Map.Steps.{length-le_from_distinct_below}
use Rattle.dft_netlist.specs.declared.ids.NetId.{NetId}
use Rattle.dft_netlist.specs.Netlist.{Netlist}
use Rattle.dft_netlist.specs.Names.{find_net}
use Rattle.dft_netlist.specs.Orders.{numbers_of}
use Rattle.dft_netlist.specs.Sound.{IsNetlist}
use Rattle.dft_cycle.specs.Machine.{AreNets, is_one_of}
use Rattle.dft_patterns.specs.declared.act.Act.{Act}
use Rattle.dft_patterns.specs.declared.signal.StilSignal.{StilSignal}
use Rattle.dft_patterns.specs.Patterns.{Patterns, IsVector}
use Rattle.dft_patterns.proofs.VectorLemmas.{vector_length}
use Rattle.dft_behavior.specs.Logic.{logic_of}
use Rattle.dft_abstract.specs.Cycle.{all_unknown}
use Rattle.dft_replay.specs.declared.verdict.Unknowns.{Unknowns}
use Rattle.dft_replay.specs.declared.verdict.Verdict.{Verdict}
use Rattle.dft_replay.specs.Verdicts.{EndsFrom, EndsAt}
use Rattle.dft_replay.specs.Rows.{or_past, net_named, nets_of, rows_from, ports_in, ports_of, pulses}
use Rattle.dft_replay.specs.Fits.{is_port_bit, first_misfit}
use Rattle.dft_replay.specs.Vectors.{AreSignals, clocks_of, net_at}
use Rattle.dft_replay.proofs.FitLemmas.{found_named}
use Rattle.dft_replay.proofs.VectorLemmas.{Differ, clocks_pulse}

-- ---- one signal more

pub nets_more : (n : Netlist) (signals : List StilSignal) (i : ℕ) (s : StilSignal) (net : NetId) (nets new : List NetId) → i < length signals → s ≡ get_or signals i s → find_net n s.name ≡ Some net → new ≡ nets ++ net ∷ [] → numbers_of nets ≡ nets_of n (take i signals) →
    numbers_of new ≡ nets_of n (take (i + 1) signals)
nets_more n signals i s net nets new less here found grown so_far =
    let here_net : net.0 ≡ net_named n (get_or signals i s).name = sym (ap (or_past (length n.nets)) found) ∙ ap (λ (t : StilSignal). net_named n t.name) here in
    ap numbers_of grown ∙ map-append (λ (k : NetId). k.0) nets (net ∷ []) ∙ (λ t. so_far t ++ here_net t ∷ []) ∙ sym (map_more (λ (t : StilSignal). net_named n t.name) signals i s less)

pub live_more : (count : ℕ) (net : NetId) (nets new : List NetId) → net.0 < count → new ≡ nets ++ net ∷ [] → AreNets count nets → AreNets count new
live_more count net nets new less grown live = subst (AreNets count) (sym grown) (pushed nets live) where
  pushed : (ks : List NetId) → AreNets count ks → AreNets count (ks ++ net ∷ [])
  pushed [] are zero k at = (let e : net ≡ k = cc in subst (λ (m : NetId). m.0 < count) e less)
  pushed [] are (suc place) k at = absurd (let f : ⊥ = cc in f)
  pushed (m ∷ ks) are zero k at = are 0 k at
  pushed (m ∷ ks) are (suc place) k at = pushed ks (λ p j here. are (suc p) j here) place k at

pub fit_more : (n : Netlist) (signals : List StilSignal) (i : ℕ) (s : StilSignal) → i < length signals → s ≡ get_or signals i s → is_port_bit n s ≡ true → first_misfit n (drop i signals) ≡ first_misfit n (drop (i + 1) signals)
fit_more n signals i s less here fits =
    let next : suc i ≡ i + 1 = omega arith in
    ap (first_misfit n) (drop-cons signals i s less ∙ ap (λ (t : StilSignal). t ∷ drop (suc i) signals) (sym here)) ∙ ap (λ b. if b then first_misfit n (drop (suc i) signals) else Some s.name) fits ∙ ap (λ (k : ℕ). first_misfit n (drop k signals)) next

-- ---- different nets

named_or_past : (n : Netlist) (q : List ℕ) (o : Option NetId) → find_net n q ≡ o → or_past (length n.nets) o < length n.nets → slice_get n.nets (or_past (length n.nets) o) ≡ Some q
named_or_past n q None is less = absurd (omega arith)
named_or_past n q (Some k) is less = found_named n q k is

-- a net that is there has the name
net_has_name : (n : Netlist) (q : List ℕ) → net_named n q < length n.nets → slice_get n.nets (net_named n q) ≡ Some q
net_has_name n q less = named_or_past n q (find_net n q) refl less

numbers_live : (count : ℕ) (nets : List NetId) (i d : ℕ) → AreNets count nets → i < length nets → get_or (numbers_of nets) i d < count
numbers_live count [] i d live within = absurd (omega arith)
numbers_live count (net ∷ nets) zero d live within = live 0 net refl
numbers_live count (net ∷ nets) (suc i) d live within = numbers_live count nets i d (λ place k at. live (suc place) k at) (omega arith)

named_at : (n : Netlist) (signals : List StilSignal) (i d : ℕ) (s : StilSignal) → i < length signals → get_or (nets_of n signals) i d ≡ net_named n (get_or signals i s).name
named_at n [] i d s within = absurd (omega arith)
named_at n (t ∷ signals) zero d s within = refl
named_at n (t ∷ signals) (suc i) d s within = named_at n signals i d s (omega arith)

some_signal : (signals : List StilSignal) → 0 < length signals → StilSignal
some_signal [] h = absurd (omega arith)
some_signal (s ∷ signals) h = s

pub nets_differ : (n : Netlist) (signals : List StilSignal) (nets : List NetId) → AllPairs (λ s t. s.name ≢ t.name) signals → numbers_of nets ≡ nets_of n signals → AreNets (length n.nets) nets → Differ (numbers_of nets)
nets_differ n signals nets distinct are live = λ i j d less within same.
    (let size = ap length are in
    let long = length-map nets (λ (net : NetId). net.0) in
    let many = length-map signals (λ (s : StilSignal). net_named n s.name) in
    let inside : j < length signals = omega arith in
    let s : StilSignal = some_signal signals (omega arith) in
    let first : get_or (numbers_of nets) i d ≡ net_named n (get_or signals i s).name = ap (λ (ks : List ℕ). get_or ks i d) are ∙ named_at n signals i d s (omega arith) in
    let second : get_or (numbers_of nets) j d ≡ net_named n (get_or signals j s).name = ap (λ (ks : List ℕ). get_or ks j d) are ∙ named_at n signals j d s inside in
    let low = numbers_live (length n.nets) nets i d live (omega arith) in
    let high = numbers_live (length n.nets) nets j d live (omega arith) in
    let one = net_has_name n (get_or signals i s).name (omega arith) in
    let two = net_has_name n (get_or signals j s).name (omega arith) in
    let place : net_named n (get_or signals i s).name ≡ net_named n (get_or signals j s).name = sym first ∙ same ∙ second in
    let names : Some (get_or signals i s).name ≡ Some (get_or signals j s).name = sym one ∙ ap (λ (k : ℕ). slice_get n.nets k) place ∙ two in
    distinct i j s less inside cc)

-- ---- as many signals as nets at most

any_low : (count q : ℕ) (ks : List ℕ) → ((i : ℕ) → i < length ks → get_or ks i 0 < count) → list_any (eqb q) ks ≡ true → q < count
any_low count q [] low h = absurd (let f : ⊥ = cc in f)
any_low count q (k ∷ ks) low h = elim (eqb_tells q k) [
  | inl is ↦ (let e = is.1 in let l = low 0 (omega arith) in omega arith)
  | inr other ↦ any_low count q ks (λ i within. low (suc i) (omega arith)) (sym (ap (λ b. b || list_any (eqb q) ks) other.0) ∙ h)
]

pub few_signals : (n : Netlist) (nets : List NetId) → IsNetlist n → Differ (numbers_of nets) → AreNets (length n.nets) nets → length nets < 2 ^ 31
few_signals n nets sound differ live =
    let ks : List ℕ = numbers_of nets in
    let long = length-map nets (λ (net : NetId). net.0) in
    let most : length ks ≤ length n.nets = length-le_from_distinct_below ks (length n.nets) (IsDistinct-from_AllPairs Decides-eqb ks differ) (λ q h. any_low (length n.nets) q ks (λ i within. numbers_live (length n.nets) nets i 0 live (omega arith)) h) in
    let few = sound.few_nets in
    omega arith

-- ---- the lengths of vectors

pub vectors_long : (n : Netlist) (signals : List StilSignal) (vectors : List (List Act)) (nets : List NetId) → All (λ acts. IsVector signals acts) vectors → numbers_of nets ≡ nets_of n signals → All (λ acts. length acts ≡ length nets) vectors
vectors_long n signals vectors nets fits are = λ k d within.
    (let size = ap length are in
    let long = length-map nets (λ (net : NetId). net.0) in
    let many = length-map signals (λ (s : StilSignal). net_named n s.name) in
    let here = vector_length signals (get_or vectors k d) (fits k d within) in
    omega arith)

-- ---- patterns

pub signals_are : (n : Netlist) (signals : List StilSignal) (nets : List NetId) → AllPairs (λ s t. s.name ≢ t.name) signals → numbers_of nets ≡ nets_of n signals → AreNets (length n.nets) nets → AreSignals (length n.nets) nets
signals_are n signals nets distinct are live = record { differ = nets_differ n signals nets distinct are live; live = live }

pub signal_count : (n : Netlist) (signals : List StilSignal) (nets : List NetId) → numbers_of nets ≡ nets_of n signals → length nets ≡ length signals
signal_count n signals nets are =
    let size = ap length are in
    let long = length-map nets (λ (net : NetId). net.0) in
    let many = length-map signals (λ (s : StilSignal). net_named n s.name) in
    omega arith

-- the verdict at the nets of the signals is that of the patterns
pub patterns_verdict : (u : Unknowns) (n : Netlist) (p : Patterns) (nets : List NetId) (signals : List StilSignal) (vectors : List (List Act)) (verdict : Verdict) → numbers_of nets ≡ nets_of n signals → signals ≡ p.signals → vectors ≡ p.vectors →
    EndsFrom u (logic_of n (ports_in (numbers_of nets) vectors)) all_unknown 0 0 (rows_from (numbers_of nets) all_unknown vectors) verdict → EndsAt u n p verdict
patterns_verdict u n p nets signals vectors verdict are same_signals same_vectors has =
    let numbers : numbers_of nets ≡ nets_of n p.signals = are ∙ ap (nets_of n) same_signals in
    subst (λ (xs : List (List Act)). EndsFrom u (logic_of n (ports_in (nets_of n p.signals) xs)) all_unknown 0 0 (rows_from (nets_of n p.signals) all_unknown xs) verdict) same_vectors
    (subst (λ (ks : List ℕ). EndsFrom u (logic_of n (ports_in ks vectors)) all_unknown 0 0 (rows_from ks all_unknown vectors) verdict) numbers has)

-- the nets of the signals that pulse in some vector are the clock ports of the patterns
pub clocks_are : (n : Netlist) (p : Patterns) (clocks nets : List NetId) → AllPairs (λ s t. s.name ≢ t.name) p.signals → All (λ acts. IsVector p.signals acts) p.vectors → numbers_of nets ≡ nets_of n p.signals → AreNets (length n.nets) nets →
    clocks ≡ map (net_at nets) (clocks_of (length nets) p.vectors) → (net : ℕ) → is_one_of clocks net ≡ (ports_of n p).is_clock net
clocks_are n p clocks nets distinct fits are live found = λ net.
    ap (λ (cs : List NetId). is_one_of cs net) found
    ∙ clocks_pulse nets p.vectors net (signals_are n p.signals nets distinct are live).differ (vectors_long n p.signals p.vectors nets fits are)
    ∙ ap (λ (ks : List ℕ). pulses ks p.vectors net) are
