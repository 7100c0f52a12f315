-- The rows of a set do its acts.
use Rattle.std.proofs.Common.{ℕ, zero, suc, ◌<◌, ◌≤◌, ◌≡◌, ◌==◌, ◌||◌, Bool, true, false, List, [], ◌∷◌, ◌++◌, length, map, Option, None, Some, slice_get, refl, sym, ap, subst, arith, ◌∙◌, true≢false}
use Rattle.std.specs.Prelude.{if◌then◌else◌, slice_index_or}
use Rattle.std.specs.List.{All}
use Rattle.std.proofs.lemmas.Bool.{eqb-true, eq-eqb, false_from_ne_true, or_parts}
use Rattle.std.proofs.lemmas.Option.{slice_get-get_or}
use Rattle.dft_base.specs.Lexing.{Text}
use Rattle.dft_base.specs.declared.dir.Dir.{Dir}
use Rattle.dft_base.specs.declared.dir.Dir.TheVariants as dir
use Rattle.dft_base.specs.declared.tri.Tri.{Tri}
use Rattle.dft_netlist.specs.declared.ids.NetId.{NetId}
use Rattle.dft_netlist.specs.declared.named.Named.TheVariants.{Net}
use Rattle.dft_netlist.specs.declared.port.Port as design_port
use Rattle.dft_netlist.specs.Names.{find_net}
use Rattle.dft_netlist.specs.NetNumbers.{nets_from}
use Rattle.dft_netlist.specs.Netlist.{Netlist}
use Rattle.dft_behavior.specs.Runs.{Vector}
use Rattle.dft_netlist.specs.Sound.{IsNetlist, bits_of}
use Rattle.dft_netlist.proofs.FindLemmas.{not_found}
use Rattle.dft_patterns.specs.declared.act.Act.{Act}
use Rattle.dft_patterns.specs.declared.act.Act.TheVariants.{Unset, Low, High, Pulse, ExpectLow, ExpectHigh, Ignore}
use Rattle.dft_patterns.specs.Steadiness as steady
use Rattle.dft_replay.specs.Rows.{act_on, is_pulse, net_named, nets_of, or_past, rows_from, set_by}
use Rattle.dft_replay.proofs.FitLemmas.{found_named}
use Rattle.dft_vectors.specs.Signals.{bits_in, input_bits, signal_of}
use Rattle.dft_pattern_behavior.specs.Doing as doing
use Rattle.dft_pattern_behavior.specs.Doing.{DoesAt, AllDo}
use Rattle.dft_pattern_behavior.proofs.Listed.{AllNets, is_in}
use Rattle.dft_pattern_behavior.proofs.Places.{not_in}

-- ---- the nets of signals

pub net_number : (a b : NetId) → Net a ≡ Net b → a.0 ≡ b.0
net_number a b e = cc

named_by : (n : Netlist) (q : Text) (k : NetId) (o : Option NetId) → IsNetlist n → slice_get n.nets k.0 ≡ Some q → find_net n q ≡ o → or_past (length n.nets) o ≡ k.0
named_by n q k None sound at found = absurd (not_found 0 n.nets q found k.0 at)
named_by n q k (Some j) sound at found = let same : Net j ≡ Net k = sound.names q (Net j) (Net k) (found_named n q j found) at in net_number j k same

pub all_nets : (P : ℕ → Type 0) (xs : List NetId) → All (λ (net : NetId). P net.0) xs → AllNets P xs
all_nets P [] h = tt
all_nets P (x ∷ xs) h = (h 0 x (omega arith), all_nets P xs (λ k d less. h (suc k) d (omega (arith, less))))

pub nets_are : (n : Netlist) (d : Dir) (xs : List NetId) → IsNetlist n → AllNets (λ k. k < length n.nets) xs → nets_of n (map (signal_of n d) xs) ≡ map (λ (k : NetId). k.0) xs
nets_are n d [] sound h = refl
nets_are n d (x ∷ xs) sound h =
    let name : Text = slice_index_or n.nets x.0 [] in
    let here : net_named n name ≡ x.0 = named_by n name x (find_net n name) sound (slice_get-get_or n.nets x.0 [] h.0) refl in
    ap (λ (k : ℕ). k ∷ nets_of n (map (signal_of n d) xs)) here ∙ ap (λ (ks : List ℕ). x.0 ∷ ks) (nets_are n d xs sound h.1)

-- ---- the bits of ports differ

abbrev pub Rises : (low : ℕ) → List NetId → Type 0
Rises low [] = Unit {0}
Rises low (net ∷ nets) = (low ≤ net.0) × Rises (suc net.0) nets

weaken : (low high : ℕ) (xs : List NetId) → low ≤ high → Rises high xs → Rises low xs
weaken low high [] h r = tt
weaken low high (x ∷ xs) h r = ((let its = r.0 in omega (arith, h, its)), r.1)

pub rises_from : (low from count : ℕ) → low ≤ from → Rises low (nets_from from count)
rises_from low from zero h = tt
rises_from low from (suc count) h = (h, rises_from (suc from) (suc from) count (omega arith))

pub rises_drop : (low : ℕ) (bits rest : List NetId) → Rises low (bits ++ rest) → Rises low rest
rises_drop low [] rest h = h
rises_drop low (b ∷ bits) rest h = weaken low (suc b.0) rest (let its = h.0 in omega (arith, its)) (rises_drop (suc b.0) bits rest h.1)

rises_in : (low : ℕ) (d : Dir) (bits rest ins : List NetId) → Rises low (bits ++ rest) → ((l : ℕ) → Rises l rest → Rises l ins) → Rises low (bits_in d bits ++ ins)
rises_in low dir.Output bits rest ins h f = f low (rises_drop low bits rest h)
rises_in low dir.Input [] rest ins h f = f low h
rises_in low dir.Input (b ∷ bits) rest ins h f = (h.0, rises_in (suc b.0) dir.Input bits rest ins h.1 f)

pub rises_ports : (low : ℕ) (ports : List design_port.Port) → Rises low (bits_of ports) → Rises low (input_bits ports)
rises_ports low [] h = tt
rises_ports low (p ∷ ps) h = rises_in low p.dir p.bits (bits_of ps) (input_bits ps) h (λ l its. rises_ports l ps its)

abbrev pub Apart : List NetId → Type 0
Apart [] = Unit {0}
Apart (x ∷ xs) = (is_in xs x.0 ≡ false) × Apart xs

pub all_above : (base low : ℕ) (xs : List NetId) → base ≤ low → Rises low xs → AllNets (λ k. base ≤ k) xs
all_above base low [] h r = tt
all_above base low (x ∷ xs) h r = ((let its = r.0 in omega (arith, h, its)), all_above base (suc x.0) xs (let its = r.0 in omega (arith, h, its)) r.1)

apart_of : (low : ℕ) (xs : List NetId) → Rises low xs → Apart xs
apart_of low [] r = tt
apart_of low (x ∷ xs) r = (not_in (λ k. suc x.0 ≤ k) xs x.0 (all_above (suc x.0) (suc x.0) xs (omega arith) r.1) (λ less. omega (arith, less)), apart_of (suc x.0) xs r.1)

pub inputs_apart : (n : Netlist) → IsNetlist n → Apart (input_bits n.ports)
inputs_apart n sound = apart_of 0 (input_bits n.ports) (rises_ports 0 n.ports (subst (Rises 0) (sym sound.numbered) (rises_from 0 0 (length (bits_of n.ports)) (omega arith))))

-- ---- acts at nets

-- an act of an input
abbrev pub Sets : Act → Type 0
Sets Low = Unit {0}
Sets High = Unit {0}
Sets Pulse = Unit {0}
Sets Unset = ⊥
Sets ExpectLow = ⊥
Sets ExpectHigh = ⊥
Sets Ignore = ⊥

set_same : (a : Act) (before : Tri) → Sets a → set_by a before ≡ doing.set_by a
set_same Low before h = refl
set_same High before h = refl
set_same Pulse before h = refl
set_same Unset before h = absurd h
set_same ExpectLow before h = absurd h
set_same ExpectHigh before h = absurd h
set_same Ignore before h = absurd h

pulse_same : (a : Act) → is_pulse a ≡ steady.is_pulse a
pulse_same Low = refl
pulse_same High = refl
pulse_same Pulse = refl
pulse_same Unset = refl
pulse_same ExpectLow = refl
pulse_same ExpectHigh = refl
pulse_same Ignore = refl

-- the acts of so many inputs set them, and none of those behind pulses
abbrev pub Rests : List Act → Type 0
Rests [] = Unit {0}
Rests (a ∷ acts) = (is_pulse a ≡ false) × Rests acts

abbrev pub Fine : List NetId → List Act → Type 0
Fine [] acts = Rests acts
Fine (x ∷ ins) [] = ⊥
Fine (x ∷ ins) (a ∷ acts) = Sets a × Fine ins acts

abbrev pub numbers : List NetId → List ℕ
numbers xs = map (λ (k : NetId). k.0) xs

or_rest : (b : Bool) (a c : Act) → is_pulse a ≡ false → is_pulse c ≡ false → is_pulse (if b then a else c) ≡ false
or_rest true a c e f = e
or_rest false a c e f = f

rest_rests : (outs : List ℕ) (acts : List Act) (net : ℕ) → Rests acts → is_pulse (act_on outs acts net) ≡ false
rest_rests [] acts net h = refl
rest_rests (o ∷ outs) [] net h = refl
rest_rests (o ∷ outs) (a ∷ acts) net h = or_rest (o == net) a (act_on outs acts net) h.0 (rest_rests outs acts net h.1)

in_head : (x : NetId) (xs : List NetId) → is_in (x ∷ xs) x.0 ≡ true
in_head x xs = ap (λ b. b || is_in xs x.0) (eq-eqb x.0 x.0 refl)

in_tail : (x : NetId) (xs : List NetId) (net : ℕ) → is_in xs net ≡ true → is_in (x ∷ xs) net ≡ true
in_tail x xs net h = by_first (x.0 == net)
  where
    by_first : (b : Bool) → (b || is_in xs net) ≡ true
    by_first true = refl
    by_first false = h

does_by : (x : Vector) (f : ℕ → Act) (old : ℕ → Tri) (ins : List NetId) (outs : List ℕ) (acts : List Act) → Apart ins → Fine ins acts → ((net : ℕ) → is_in ins net ≡ true → f net ≡ act_on (numbers ins ++ outs) acts net) →
    ((net : ℕ) → x.ports net ≡ set_by (f net) (old net)) → ((net : ℕ) → x.pulsed net ≡ is_pulse (f net)) → DoesAt x ins acts
does_by x f old [] outs acts apart fine same ports pulsed = tt
does_by x f old (k ∷ ins) outs [] apart fine same ports pulsed = absurd fine
does_by x f old (k ∷ ins) outs (a ∷ acts) apart fine same ports pulsed =
    let here : f k.0 ≡ a = same k.0 (in_head k ins) ∙ ap (λ b. if b then a else act_on (numbers ins ++ outs) acts k.0) (eq-eqb k.0 k.0 refl) in (
      (ports k.0 ∙ ap (λ (b : Act). set_by b (old k.0)) here ∙ set_same a (old k.0) fine.0, pulsed k.0 ∙ ap is_pulse here ∙ pulse_same a),
      does_by x f old ins outs acts apart.1 fine.1
          (λ net is. same net (in_tail k ins net is)
          ∙ ap (λ b. if b then a else act_on (numbers ins ++ outs) acts net) (false_from_ne_true (k.0 == net) (λ at. true≢false (sym is ∙ ap (is_in ins) (sym (eqb-true k.0 net at)) ∙ apart.0)))) ports pulsed,
    )

other_rests : (ins : List NetId) (outs : List ℕ) (acts : List Act) (net : ℕ) → Fine ins acts → is_in ins net ≡ false → is_pulse (act_on (numbers ins ++ outs) acts net) ≡ false
other_rests [] outs acts net fine apart = rest_rests outs acts net fine
other_rests (k ∷ ins) outs [] net fine apart = absurd fine
other_rests (k ∷ ins) outs (a ∷ acts) net fine apart =
    let split = or_parts (k.0 == net) (is_in ins net) apart in
    ap (λ b. is_pulse (if b then a else act_on (numbers ins ++ outs) acts net)) split.0 ∙ other_rests ins outs acts net fine.1 split.1

abbrev pub AllFine : List NetId → List (List Act) → Type 0
AllFine ins [] = Unit {0}
AllFine ins (acts ∷ vectors) = Fine ins acts × AllFine ins vectors

-- rows do acts that are fine
pub rows_do : (n : Netlist) (outs : List ℕ) (old : ℕ → Tri) (vectors : List (List Act)) → Apart (input_bits n.ports) → AllFine (input_bits n.ports) vectors →
    AllDo n vectors (map (λ x. x.vector) (rows_from (numbers (input_bits n.ports) ++ outs) old vectors))
rows_do n outs old [] apart fine = tt
rows_do n outs old (acts ∷ vectors) apart fine =
    let ins : List NetId = input_bits n.ports in
    let nets : List ℕ = numbers ins ++ outs in
    let x : Vector = record { ports = λ net. set_by (act_on nets acts net) (old net); pulsed = λ net. is_pulse (act_on nets acts net) } in (
      record {
        inputs = does_by x (act_on nets acts) old ins outs acts apart fine.0 (λ net is. refl) (λ net. refl) (λ net. refl);
        others = λ net apart_of_it. other_rests ins outs acts net fine.0 apart_of_it;
      },
      rows_do n outs x.ports vectors apart fine.1,
    )
