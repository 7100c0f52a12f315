-- What a vector compares, by place in a list: what is asked, and what the values decide.
use Rattle.std.proofs.Common.{ℕ, suc, ◌+◌, ◌<◌, ◌≤◌, Bool, true, false, List, [], ◌∷◌, ◌++◌, ◌≡◌, Option, None, Some, length, map, drop, refl, sym, ap, ◌∙◌, get_or, arith}
use Rattle.std.proofs.Math.Seq.{drop-cons}
use Rattle.std.proofs.lemmas.List.{length-map, length_push, append-nil, append_assoc, drop_all}
use Rattle.std.proofs.lemmas.List.Elements.{All-cons}
use Rattle.dft_base.specs.declared.tri.Tri.{Tri}
use Rattle.dft_base.specs.declared.tri.Tri.TheVariants.{Zero, One, Unknown}
use Rattle.dft_netlist.specs.declared.ids.NetId.{NetId}
use Rattle.dft_netlist.specs.Orders.{numbers_of}
use Rattle.dft_netlist.proofs.StandLemmas.{numbers_push}
use Rattle.dft_patterns.specs.declared.act.Act.{Act}
use Rattle.dft_patterns.specs.declared.act.Act.TheVariants.{Unset, Low, High, Pulse, ExpectLow, ExpectHigh, Ignore}
use Rattle.dft_replay.specs.declared.comparing.Asked.{Asked}
use Rattle.dft_replay.specs.declared.verdict.Unknowns.{Unknowns}
use Rattle.dft_replay.specs.declared.verdict.Unknowns.TheVariants.{Stop, Skip}
use Rattle.dft_replay.specs.declared.verdict.Verdict.{Verdict}
use Rattle.dft_replay.specs.Looks.{asked_of, decided_seen, AreBefore}
use Rattle.dft_replay.specs.Rows.{Compared, compared_at, compared_from}
use Rattle.dft_replay.specs.Vectors.{act_at, printed}
use Rattle.dft_replay.specs.Verdicts.{bit_decides, bits_decide}

-- ---- one bit

by_none : (u : Unknowns) (v i : ℕ) (value : Tri) (bit : Bool) (rest : Option Verdict) → bit_decides u v i value bit None ≡ None → bit_decides u v i value bit rest ≡ rest
by_none Stop v i Unknown bit rest h = absurd cc
by_none Skip v i Unknown bit rest h = refl
by_none u v i Zero true rest h = absurd cc
by_none u v i Zero false rest h = refl
by_none u v i One true rest h = refl
by_none u v i One false rest h = absurd cc

by_some : (u : Unknowns) (v i : ℕ) (value : Tri) (bit : Bool) (rest : Option Verdict) (d : Verdict) → bit_decides u v i value bit None ≡ Some d → bit_decides u v i value bit rest ≡ Some d
by_some Stop v i Unknown bit rest d h = h
by_some Skip v i Unknown bit rest d h = absurd cc
by_some u v i Zero true rest d h = h
by_some u v i Zero false rest d h = absurd cc
by_some u v i One true rest d h = absurd cc
by_some u v i One false rest d h = h

-- ---- the bits from a place on

abbrev pub seen_from : Unknowns → (vector : ℕ) → List Asked → List Tri → (place : ℕ) → Option Verdict
seen_from u v asked seen i = decided_seen u v (drop i asked) (drop i seen)

abbrev pub asked_at : List Asked → ℕ → Asked
asked_at asked i = get_or asked i (record { signal = 0; printed = false })

seen_split : (u : Unknowns) (v : ℕ) (asked : List Asked) (seen : List Tri) (i : ℕ) (t : Tri) → i < length asked → i < length seen →
    seen_from u v asked seen i ≡ bit_decides u v (asked_at asked i).signal (get_or seen i t) (asked_at asked i).printed (seen_from u v asked seen (suc i))
seen_split u v asked seen i t less within = λ k. decided_seen u v (drop-cons asked i (record { signal = 0; printed = false }) less k) (drop-cons seen i t within k)

-- a bit that decides nothing leaves it to those after it
pub seen_none : (u : Unknowns) (v : ℕ) (asked : List Asked) (seen : List Tri) (i : ℕ) (t : Tri) → i < length asked → i < length seen →
    bit_decides u v (asked_at asked i).signal (get_or seen i t) (asked_at asked i).printed None ≡ None → seen_from u v asked seen i ≡ seen_from u v asked seen (i + 1)
seen_none u v asked seen i t less within h =
    seen_split u v asked seen i t less within ∙ by_none u v (asked_at asked i).signal (get_or seen i t) (asked_at asked i).printed (seen_from u v asked seen (suc i)) h
    ∙ ap (seen_from u v asked seen) (let next : suc i ≡ i + 1 = omega arith in next)

-- one that decides something decides it for all from its place on
pub seen_some : (u : Unknowns) (v : ℕ) (asked : List Asked) (seen : List Tri) (i : ℕ) (t : Tri) (d : Verdict) → i < length asked → i < length seen →
    bit_decides u v (asked_at asked i).signal (get_or seen i t) (asked_at asked i).printed None ≡ Some d → seen_from u v asked seen i ≡ Some d
seen_some u v asked seen i t d less within h =
    seen_split u v asked seen i t less within ∙ by_some u v (asked_at asked i).signal (get_or seen i t) (asked_at asked i).printed (seen_from u v asked seen (suc i)) d h

-- ---- the list of what is compared

-- what is listed before a signal, and what the signals from it on compare, are all that is compared
pub record Listed (nets : List NetId) (acts : List Act) (i : ℕ) (wanted : List NetId) (asked : List Asked) : Type 0 where
  pub nets_are : numbers_of wanted ++ map (λ (c : Compared). c.net) (compared_from i (drop i (numbers_of nets)) (drop i acts)) ≡ map (λ (c : Compared). c.net) (compared_from 0 (numbers_of nets) acts)
  pub asked_are : asked ++ map asked_of (compared_from i (drop i (numbers_of nets)) (drop i acts)) ≡ map asked_of (compared_from 0 (numbers_of nets) acts)
  pub few : length wanted ≤ i
  pub few_asked : length asked ≤ i

pub listed_start : (nets : List NetId) (acts : List Act) → Listed nets acts 0 [] []
listed_start nets acts = record { nets_are = refl; asked_are = refl; few = omega arith; few_asked = omega arith }

compared_split : (nets : List ℕ) (acts : List Act) (i : ℕ) → i < length nets → i < length acts →
    compared_from i (drop i nets) (drop i acts) ≡ compared_at i (get_or nets i 0) (act_at acts i) (compared_from (suc i) (drop (suc i) nets) (drop (suc i) acts))
compared_split nets acts i less within = λ k. compared_from i (drop-cons nets i 0 less k) (drop-cons acts i Unset within k)

at_none : (i net : ℕ) (act : Act) (rest : List Compared) → printed act ≡ None → compared_at i net act rest ≡ rest
at_none i net ExpectLow rest h = absurd cc
at_none i net ExpectHigh rest h = absurd cc
at_none i net Unset rest h = refl
at_none i net Low rest h = refl
at_none i net High rest h = refl
at_none i net Pulse rest h = refl
at_none i net Ignore rest h = refl

at_some : (i net : ℕ) (act : Act) (rest : List Compared) (bit : Bool) → printed act ≡ Some bit → compared_at i net act rest ≡ record { signal = i; net = net; bit = bit } ∷ rest
at_some i net ExpectLow rest bit h = (let is : false ≡ bit = cc in λ k. record { signal = i; net = net; bit = is k } ∷ rest)
at_some i net ExpectHigh rest bit h = (let is : true ≡ bit = cc in λ k. record { signal = i; net = net; bit = is k } ∷ rest)
at_some i net Unset rest bit h = absurd cc
at_some i net Low rest bit h = absurd cc
at_some i net High rest bit h = absurd cc
at_some i net Pulse rest bit h = absurd cc
at_some i net Ignore rest bit h = absurd cc

abbrev rest_from : List NetId → List Act → ℕ → List Compared
rest_from nets acts i = compared_from i (drop i (numbers_of nets)) (drop i acts)

next_rest : (nets : List NetId) (acts : List Act) (i : ℕ) → rest_from nets acts (suc i) ≡ rest_from nets acts (i + 1)
next_rest nets acts i = ap (rest_from nets acts) (let next : suc i ≡ i + 1 = omega arith in next)

-- a signal that is not compared
pub listed_none : (nets : List NetId) (acts : List Act) (i : ℕ) (wanted : List NetId) (asked : List Asked) → length acts ≡ length nets → i < length acts → printed (act_at acts i) ≡ None →
    Listed nets acts i wanted asked → Listed nets acts (i + 1) wanted asked
listed_none nets acts i wanted asked same less none listed =
    let long = length-map nets (λ (k : NetId). k.0) in
    let rest : rest_from nets acts i ≡ rest_from nets acts (i + 1) =
    compared_split (numbers_of nets) acts i (omega arith) less ∙ at_none i (get_or (numbers_of nets) i 0) (act_at acts i) (rest_from nets acts (suc i)) none ∙ next_rest nets acts i in
    record {
      nets_are = ap (λ (cs : List Compared). numbers_of wanted ++ map (λ (c : Compared). c.net) cs) (sym rest) ∙ listed.nets_are;
      asked_are = ap (λ (cs : List Compared). asked ++ map asked_of cs) (sym rest) ∙ listed.asked_are;
      few = (let few = listed.few in omega arith);
      few_asked = (let few = listed.few_asked in omega arith);
    }

-- a signal that is compared
pub listed_some : (nets : List NetId) (acts : List Act) (i : ℕ) (wanted : List NetId) (asked : List Asked) (net : NetId) (bit : Bool) → length acts ≡ length nets → i < length acts → printed (act_at acts i) ≡ Some bit → get_or (numbers_of nets) i 0 ≡ net.0 →
    Listed nets acts i wanted asked → Listed nets acts (i + 1) (wanted ++ net ∷ []) (asked ++ record { signal = i; printed = bit } ∷ [])
listed_some nets acts i wanted asked net bit same less some here listed =
    let long = length-map nets (λ (k : NetId). k.0) in
    let rest : rest_from nets acts i ≡ record { signal = i; net = net.0; bit = bit } ∷ rest_from nets acts (i + 1) =
    compared_split (numbers_of nets) acts i (omega arith) less ∙ at_some i (get_or (numbers_of nets) i 0) (act_at acts i) (rest_from nets acts (suc i)) bit some
    ∙ (λ k. record { signal = i; net = here k; bit = bit } ∷ next_rest nets acts i k) in
    record {
      nets_are = ap (λ (ns : List ℕ). ns ++ map (λ (c : Compared). c.net) (rest_from nets acts (i + 1))) (numbers_push wanted net)
          ∙ append_assoc (numbers_of wanted) (net.0 ∷ []) (map (λ (c : Compared). c.net) (rest_from nets acts (i + 1)))
          ∙ ap (λ (cs : List Compared). numbers_of wanted ++ map (λ (c : Compared). c.net) cs) (sym rest) ∙ listed.nets_are;
      asked_are = append_assoc asked (record { signal = i; printed = bit } ∷ []) (map asked_of (rest_from nets acts (i + 1)))
          ∙ ap (λ (cs : List Compared). asked ++ map asked_of cs) (sym rest) ∙ listed.asked_are;
      few = (let few = listed.few in let size = length_push wanted net in omega arith);
      few_asked = (let few = listed.few_asked in let size = length_push asked (record { signal = i; printed = bit }) in omega arith);
    }

none_left : (nets : List NetId) (acts : List Act) (i : ℕ) → length acts ≡ length nets → length acts ≤ i → rest_from nets acts i ≡ []
none_left nets acts i same past =
    let long = length-map nets (λ (k : NetId). k.0) in
    λ k. compared_from i (drop_all i (numbers_of nets) (omega arith) k) (drop_all i acts past k)

pub listed_nets : (nets : List NetId) (acts : List Act) (i : ℕ) (wanted : List NetId) (asked : List Asked) → length acts ≡ length nets → length acts ≤ i → Listed nets acts i wanted asked →
    numbers_of wanted ≡ map (λ (c : Compared). c.net) (compared_from 0 (numbers_of nets) acts)
listed_nets nets acts i wanted asked same past listed =
    sym (append-nil (numbers_of wanted)) ∙ ap (λ (cs : List Compared). numbers_of wanted ++ map (λ (c : Compared). c.net) cs) (sym (none_left nets acts i same past)) ∙ listed.nets_are

pub listed_asked : (nets : List NetId) (acts : List Act) (i : ℕ) (wanted : List NetId) (asked : List Asked) → length acts ≡ length nets → length acts ≤ i → Listed nets acts i wanted asked →
    asked ≡ map asked_of (compared_from 0 (numbers_of nets) acts)
listed_asked nets acts i wanted asked same past listed =
    sym (append-nil asked) ∙ ap (λ (cs : List Compared). asked ++ map asked_of cs) (sym (none_left nets acts i same past)) ∙ listed.asked_are

-- ---- what the values decide

pub seen_decides : (u : Unknowns) (values : ℕ → Tri) (v : ℕ) (cs : List Compared) → decided_seen u v (map asked_of cs) (map (λ (c : Compared). values c.net) cs) ≡ bits_decide u values v cs
seen_decides u values v [] = refl
seen_decides u values v (c ∷ cs) = ap (bit_decides u v c.signal (values c.net) c.bit) (seen_decides u values v cs)

values_nets : (values : ℕ → Tri) (wanted : List NetId) → map (λ (net : NetId). values net.0) wanted ≡ map values (numbers_of wanted)
values_nets values [] = refl
values_nets values (net ∷ wanted) = ap (λ (ts : List Tri). values net.0 ∷ ts) (values_nets values wanted)

values_compared : (values : ℕ → Tri) (cs : List Compared) → map values (map (λ (c : Compared). c.net) cs) ≡ map (λ (c : Compared). values c.net) cs
values_compared values [] = refl
values_compared values (c ∷ cs) = ap (λ (ts : List Tri). values c.net ∷ ts) (values_compared values cs)

-- looking up what is compared decides what the vector does
pub looks_decide : (u : Unknowns) (values : ℕ → Tri) (v : ℕ) (cs : List Compared) (wanted : List NetId) (asked : List Asked) → numbers_of wanted ≡ map (λ (c : Compared). c.net) cs → asked ≡ map asked_of cs →
    decided_seen u v asked (map (λ (net : NetId). values net.0) wanted) ≡ bits_decide u values v cs
looks_decide u values v cs wanted asked nets are =
    (λ k. decided_seen u v (are k) ((values_nets values wanted ∙ ap (map values) nets ∙ values_compared values cs) k)) ∙ seen_decides u values v cs

-- ---- signals

at_before : (n i net : ℕ) (act : Act) (rest : List Compared) → i < n → AreBefore n (map asked_of rest) → AreBefore n (map asked_of (compared_at i net act rest))
at_before n i net ExpectLow rest less before = All-cons (λ (bit : Asked). bit.signal < n) (record { signal = i; printed = false }) (map asked_of rest) less before
at_before n i net ExpectHigh rest less before = All-cons (λ (bit : Asked). bit.signal < n) (record { signal = i; printed = true }) (map asked_of rest) less before
at_before n i net Unset rest less before = before
at_before n i net Low rest less before = before
at_before n i net High rest less before = before
at_before n i net Pulse rest less before = before
at_before n i net Ignore rest less before = before

none_before : (n : ℕ) → AreBefore n []
none_before n = λ i d less. absurd (omega arith)

-- what is compared is compared at signals
pub compared_before : (n i : ℕ) (nets : List ℕ) (acts : List Act) → i + length nets ≤ n → AreBefore n (map asked_of (compared_from i nets acts))
compared_before n i [] acts fits = none_before n
compared_before n i (net ∷ nets) [] fits = none_before n
compared_before n i (net ∷ nets) (act ∷ acts) fits = at_before n i net act (compared_from (suc i) nets acts) (omega arith) (compared_before n (suc i) nets acts (omega arith))

at_few : (i net : ℕ) (act : Act) (rest : List Compared) → length (compared_at i net act rest) ≤ suc (length rest)
at_few i net ExpectLow rest = omega arith
at_few i net ExpectHigh rest = omega arith
at_few i net Unset rest = omega arith
at_few i net Low rest = omega arith
at_few i net High rest = omega arith
at_few i net Pulse rest = omega arith
at_few i net Ignore rest = omega arith

-- no more is compared than there are signals
pub compared_few : (i : ℕ) (nets : List ℕ) (acts : List Act) → length (compared_from i nets acts) ≤ length nets
compared_few i [] acts = omega arith
compared_few i (net ∷ nets) [] = omega arith
compared_few i (net ∷ nets) (act ∷ acts) = (let few = at_few i net act (compared_from (suc i) nets acts) in let rest = compared_few (suc i) nets acts in omega arith)
