-- What the outputs of listed vectors compare: that it agrees where the patterns are shown, and how many bits it is.
use Rattle.std.proofs.Common.{ℕ, zero, suc, ◌+◌, ◌<◌, ◌≡◌, Bool, true, false, cond, List, [], ◌∷◌, ◌++◌, length, map, take, drop, get_or, Option, None, Some, slice_get, refl, sym, ap, subst, arith, ◌∙◌}
use Rattle.std.specs.Prelude.{count_by}
use Rattle.std.proofs.lemmas.List.Recursion.{is_count_by}
use Rattle.dft_insert.proofs.MadeGood.{from_at}
use Rattle.dft_base.specs.declared.tri.Tri.{Tri}
use Rattle.dft_base.specs.declared.tri.Tri.TheVariants.{Zero, One, Unknown}
use Rattle.dft_base.specs.Tri.{AboveTri, known, is_known}
use Rattle.dft_netlist.specs.declared.ids.NetId.{NetId}
use Rattle.dft_netlist.specs.NetNumbers.{nets_from}
use Rattle.dft_netlist.specs.Netlist.{Netlist}
use Rattle.dft_abstract.specs.Cycle.{Round}
use Rattle.dft_cubes.specs.declared.cube.Merged.{Merged}
use Rattle.dft_config.specs.Config.{Config}
use Rattle.dft_config.specs.Ring.{Table}
use Rattle.dft_stitch.specs.Chains.{plan_of}
use Rattle.dft_stitch.specs.Plans.{falling_head}
use Rattle.dft_edt.specs.Hardware.{group_of}
use Rattle.dft_expect.specs.Captures.{output_bits}
use Rattle.dft_expect.specs.Expected.{output_bit}
use Rattle.dft_expect.specs.Masks.{by_chain}
use Rattle.dft_patterns.specs.declared.act.Act.{Act}
use Rattle.dft_patterns.specs.declared.act.Act.TheVariants.{Unset, Low, High, Pulse, ExpectLow, ExpectHigh, Ignore}
use Rattle.dft_scan_frame.specs.Moves.{moved}
use Rattle.dft_scan_frame.specs.Statements.{IsReady}
use Rattle.dft_insert.specs.declared.style.Style.TheVariants.{Edt}
use Rattle.dft_insert.specs.Ports.{gap_in}
use Rattle.dft_insert.specs.Statements.{scanned}
use Rattle.dft_scan_behavior.specs.Facts.{edt_hardware}
use Rattle.dft_pattern_behavior.specs.Given.{Pattern}
use Rattle.dft_pattern_behavior.specs.Rounds.{ShowsBefore, ShowsCapture}
use Rattle.dft_vectors.specs.OwnPorts.{compare, expect, ignored, outputs_ignored}
use Rattle.dft_vectors.specs.AddedPorts.{added_inputs, no_bits}
use Rattle.dft_vectors.specs.PatternData.{PatternData}
use Rattle.dft_vectors.specs.Signals.{input_bits}
use Rattle.dft_vectors.specs.VectorList.{capture_with, set_up_acts, shift_acts, unloaded}
use Rattle.dft_pattern_behavior.specs.Listed.{pattern_of}
use Rattle.dft_pattern_behavior.proofs.Listed.{AllNets}
use Rattle.dft_compile_laws.specs.Agreeing.{Agrees, AgreesAct}
use Rattle.dft_compile_laws.proofs.Agreements.{compared_in, compares}
use Rattle.dft_compile_laws.proofs.OutPlaces.{added_outs, outputs_kept, outs_start}
use Rattle.dft_compile_laws.proofs.Rows.{Sets, numbers}
use Rattle.dft_compile_laws.proofs.Sides.{by_capture, by_set_up, by_shift}

-- ---- nets

-- the nets of all outputs of the scanned netlist, and of all its signals
abbrev pub out_nets : Netlist → Config → List ℕ
out_nets n config = numbers (output_bits n.ports) ++ numbers (added_outs n config)

abbrev pub signal_nets : Netlist → Config → List ℕ
signal_nets n config = numbers (input_bits (scanned Edt n config).ports) ++ out_nets n config

pub numbers_length : (xs : List NetId) → length (numbers xs) ≡ length xs
numbers_length [] = refl
numbers_length (x ∷ xs) = ap suc (numbers_length xs)

pub ignored_length : (count : ℕ) → length (ignored count) ≡ count
ignored_length zero = refl
ignored_length (suc count) = ap suc (ignored_length count)

-- ---- one list of acts behind another

split_agree : (values : ℕ → Tri) (nets more : List ℕ) (a b : List Act) → length a ≡ length nets → Agrees values nets a → Agrees values more b → Agrees values (nets ++ more) (a ++ b)
split_agree values [] more [] b e h k = k
split_agree values [] more (x ∷ a) b e h k = absurd (omega (arith, e))
split_agree values (net ∷ nets) more [] b e h k = absurd (omega (arith, e))
split_agree values (net ∷ nets) more (x ∷ a) b e h k = (h.0, split_agree values nets more a b (omega (arith, e)) h.1 k)

split_count : (nets more : List ℕ) (a b : List Act) → length a ≡ length nets → compared_in (nets ++ more) (a ++ b) ≡ compared_in nets a + compared_in more b
split_count [] more [] b e = omega arith
split_count [] more (x ∷ a) b e = absurd (omega (arith, e))
split_count (net ∷ nets) more [] b e = absurd (omega (arith, e))
split_count (net ∷ nets) more (x ∷ a) b e = let rest = split_count nets more a b (omega (arith, e)) in omega (arith, rest)

-- ---- outputs that are not compared

quiet_agree : (values : ℕ → Tri) (nets : List ℕ) (count : ℕ) → Agrees values nets (ignored count)
quiet_agree values [] count = tt
quiet_agree values (net ∷ nets) zero = tt
quiet_agree values (net ∷ nets) (suc count) = (tt, quiet_agree values nets count)

quiet_count : (nets : List ℕ) (count : ℕ) → compared_in nets (ignored count) ≡ 0
quiet_count [] count = refl
quiet_count (net ∷ nets) zero = refl
quiet_count (net ∷ nets) (suc count) = let rest = quiet_count nets count in omega (arith, rest)

own_width : (n : Netlist) → length (outputs_ignored n) ≡ length (numbers (output_bits n.ports))
own_width n = ignored_length (length (output_bits n.ports)) ∙ sym (numbers_length (output_bits n.ports))

-- ---- outputs of the compactor

expect_agrees : (values : ℕ → Tri) (net : ℕ) (b : Bool) → values net ≡ known b → AgreesAct values net (expect b)
expect_agrees values net true h = h
expect_agrees values net false h = h

expected_agree : (values : ℕ → Tri) (bit : List ℕ → Bool) (groups : List (List ℕ)) (base : ℕ) → ((j : ℕ) → j < length groups → values (base + j) ≡ known (bit (get_or groups j []))) →
    Agrees values (numbers (nets_from base (length groups))) (map (λ group. expect (bit group)) groups)
expected_agree values bit [] base h = tt
expected_agree values bit (group ∷ groups) base h =
    let here : base ≡ base + 0 = omega arith in (
      expect_agrees values base (bit group) (ap values here ∙ h 0 (omega arith)),
      expected_agree values bit groups (suc base) (λ j less. let there : suc base + j ≡ base + suc j = omega arith in ap values there ∙ h (suc j) (omega (arith, less))),
    )

expect_compares : (b : Bool) → compares (expect b) ≡ 1
expect_compares true = refl
expect_compares false = refl

expected_count : (bit : List ℕ → Bool) (groups : List (List ℕ)) (base : ℕ) → compared_in (numbers (nets_from base (length groups))) (map (λ group. expect (bit group)) groups) ≡ length groups
expected_count bit [] base = refl
expected_count bit (group ∷ groups) base = let one = expect_compares (bit group) in let rest = expected_count bit groups (suc base) in omega (arith, one, rest)

-- ---- outputs of the design

zero_is : (t : Tri) → AboveTri Zero t → t ≡ Zero
zero_is Zero h = refl
zero_is One h = absurd h
zero_is Unknown h = absurd h

one_is : (t : Tri) → AboveTri One t → t ≡ One
one_is One h = refl
one_is Zero h = absurd h
one_is Unknown h = absurd h

above_agrees : (values : ℕ → Tri) (net : ℕ) (t : Tri) → AboveTri t (values net) → AgreesAct values net (compare t)
above_agrees values net Unknown h = tt
above_agrees values net Zero h = zero_is (values net) h
above_agrees values net One h = one_is (values net) h

captured_agree : (values : ℕ → Tri) (f : ℕ → ℕ) (nets : List NetId) (outputs : List Tri) → AllNets (λ k. f k ≡ k) nets →
    ((k : ℕ) (net : NetId) (value : Tri) → slice_get nets k ≡ Some net → slice_get outputs k ≡ Some value → AboveTri value (values (f net.0))) → Agrees values (numbers nets) (map compare outputs)
captured_agree values f [] outputs same h = tt
captured_agree values f (net ∷ nets) [] same h = tt
captured_agree values f (net ∷ nets) (t ∷ outputs) same h = (
  above_agrees values net.0 t (subst (λ (k : ℕ). AboveTri t (values k)) same.0 (h 0 net t refl refl)),
  captured_agree values f nets outputs same.1 (λ k m v at is. h (suc k) m v at is),
)

known_in : List Tri → ℕ
known_in [] = 0
known_in (t ∷ ts) = cond (is_known t) (1 + known_in ts) (known_in ts)

known_count : (ts : List Tri) → known_in ts ≡ count_by is_known ts
unfolding known_in
known_count ts = is_count_by known_in is_known refl (λ t us. refl) ts

-- the known values of the first ones and of those behind them
cond_more : (b : Bool) (x y z : ℕ) → x + y ≡ z → cond b (1 + x) x + y ≡ cond b (1 + z) z
cond_more true x y z e = omega (arith, e)
cond_more false x y z e = e

known_cut : (k : ℕ) (ts : List Tri) → known_in (take k ts) + known_in (drop k ts) ≡ known_in ts
unfolding known_in
known_cut zero ts = omega arith
known_cut (suc k) [] = omega arith
known_cut (suc k) (t ∷ ts) = cond_more (is_known t) (known_in (take k ts)) (known_in (drop k ts)) (known_in ts) (known_cut k ts)

pub known_split : (k : ℕ) (ts : List Tri) → count_by is_known (take k ts) + count_by is_known (drop k ts) ≡ count_by is_known ts
known_split k ts =
    let front = known_count (take k ts) in
    let back = known_count (drop k ts) in
    let all = known_count ts in
    let cut = known_cut k ts in
    omega (arith, front, back, all, cut)

compare_compares : (t : Tri) (rest : ℕ) → compares (compare t) + rest ≡ cond (is_known t) (1 + rest) rest
compare_compares Zero rest = omega arith
compare_compares One rest = omega arith
compare_compares Unknown rest = omega arith

captured_in : (nets : List NetId) (outputs : List Tri) → length outputs ≡ length nets → compared_in (numbers nets) (map compare outputs) ≡ known_in outputs
unfolding known_in
captured_in [] [] e = refl
captured_in [] (t ∷ outputs) e = absurd (omega (arith, e))
captured_in (net ∷ nets) [] e = absurd (omega (arith, e))
captured_in (net ∷ nets) (t ∷ outputs) e = ap (λ (k : ℕ). compares (compare t) + k) (captured_in nets outputs (omega (arith, e))) ∙ compare_compares t (known_in outputs)

captured_width : (nets : List NetId) (outputs : List Tri) → length outputs ≡ length nets → length (map compare outputs) ≡ length (numbers nets)
captured_width [] [] e = refl
captured_width [] (t ∷ outputs) e = absurd (omega (arith, e))
captured_width (net ∷ nets) [] e = absurd (omega (arith, e))
captured_width (net ∷ nets) (t ∷ outputs) e = ap suc (captured_width nets outputs (omega (arith, e)))

-- ---- inputs compare nothing

set_agrees : (values : ℕ → Tri) (net : ℕ) (a : Act) → Sets a → AgreesAct values net a
set_agrees values net Low h = tt
set_agrees values net High h = tt
set_agrees values net Pulse h = tt
set_agrees values net Unset h = absurd h
set_agrees values net ExpectLow h = absurd h
set_agrees values net ExpectHigh h = absurd h
set_agrees values net Ignore h = absurd h

set_compares : (a : Act) → Sets a → compares a ≡ 0
set_compares Low h = refl
set_compares High h = refl
set_compares Pulse h = refl
set_compares Unset h = absurd h
set_compares ExpectLow h = absurd h
set_compares ExpectHigh h = absurd h
set_compares Ignore h = absurd h

abbrev InAgree : Netlist → Config → (values : ℕ → Tri) → List NetId → List Act → Type 0
InAgree n config values ins acts = Agrees values (numbers ins ++ out_nets n config) acts

in_agree : (n : Netlist) (config : Config) (values : ℕ → Tri) (x : NetId) (ins : List NetId) (a : Act) (acts : List Act) → Sets a → InAgree n config values ins acts → InAgree n config values (x ∷ ins) (a ∷ acts)
in_agree n config values x ins a acts sets h = (set_agrees values x.0 a sets, h)

abbrev InCount : Netlist → Config → (count : ℕ) → List NetId → List Act → Type 0
InCount n config count ins acts = compared_in (numbers ins ++ out_nets n config) acts ≡ count

in_count : (n : Netlist) (config : Config) (count : ℕ) (x : NetId) (ins : List NetId) (a : Act) (acts : List Act) → Sets a → InCount n config count ins acts → InCount n config count (x ∷ ins) (a ∷ acts)
in_count n config count x ins a acts sets h = let none = set_compares a sets in omega (arith, none, h)

-- ---- set-up vectors

pub set_up_agrees : (n : Netlist) (config : Config) (values : ℕ → Tri) → Agrees values (signal_nets n config) (set_up_acts n config)
set_up_agrees n config values =
    by_set_up (InAgree n config values) (in_agree n config values) n config
    (split_agree values (numbers (output_bits n.ports)) (numbers (added_outs n config)) (outputs_ignored n) (ignored (length config.compactor.groups)) (own_width n) (quiet_agree values (numbers (output_bits n.ports)) (length (output_bits n.ports)))
    (quiet_agree values (numbers (added_outs n config)) (length config.compactor.groups)))

pub set_up_count : (n : Netlist) (config : Config) → compared_in (signal_nets n config) (set_up_acts n config) ≡ 0
set_up_count n config =
    let own = quiet_count (numbers (output_bits n.ports)) (length (output_bits n.ports)) in
    let added = quiet_count (numbers (added_outs n config)) (length config.compactor.groups) in
    let both = split_count (numbers (output_bits n.ports)) (numbers (added_outs n config)) (outputs_ignored n) (ignored (length config.compactor.groups)) (own_width n) in
    by_set_up (InCount n config 0) (in_count n config 0) n config (omega (arith, own, added, both))

-- ---- shift vectors

-- what the pattern before a load is, for its laws
abbrev pub shown_of : Config → Option PatternData → Option Pattern
shown_of config None = None
shown_of config (Some p) = Some (pattern_of config p)

-- in a cycle of a load the outputs of the compactor are as expected
abbrev Unloads : Netlist → Config → Table → Option PatternData → (cycle : ℕ) → (values : ℕ → Tri) → Type 0
Unloads n config table None t values = Unit {0}
Unloads n config table (Some q) t values =
    (j : ℕ) → j < length config.compactor.groups →
    values ((edt_hardware n config).output j) ≡ known (output_bit config.ring table (falling_head (plan_of n config)) q.masks (by_chain (plan_of n config).chains q.response.cells) t (group_of config j))

pub unloads_at : (n : Netlist) (config : Config) (table : Table) (before : Option PatternData) (rs : List Round) → ShowsBefore n config (shown_of config before) table rs → (t : ℕ) (r : Round) → slice_get rs t ≡ Some r → Unloads n config table before t r.strobe
unloads_at n config table None rs h t r at = tt
unloads_at n config table (Some q) rs h t r at = λ j less. h t r at j less

unloaded_agrees : (n : Netlist) (config : Config) (table : Table) (before : Option PatternData) (t : ℕ) (values : ℕ → Tri) → Unloads n config table before t values → Agrees values (numbers (added_outs n config)) (unloaded config (plan_of n config) table before t)
unloaded_agrees n config table None t values h = quiet_agree values (numbers (added_outs n config)) (length config.compactor.groups)
unloaded_agrees n config table (Some q) t values h =
    expected_agree values (λ group. output_bit config.ring table (falling_head (plan_of n config)) q.masks (by_chain (plan_of n config).chains q.response.cells) t group) config.compactor.groups (outs_start n config)
    (λ j less. ap values (sym (from_at (outs_start n config) (length config.compactor.groups) j less)) ∙ h j less)

pub shift_agrees : (n : Netlist) (config : Config) (table : Table) (masks : List Bool) (before : Option PatternData) (t : ℕ) (values : ℕ → Tri) → Unloads n config table before t values →
    Agrees values (signal_nets n config) (shift_acts n config (plan_of n config) table masks before t)
shift_agrees n config table masks before t values h =
    by_shift (InAgree n config values) (in_agree n config values) n config table masks before t
    (split_agree values (numbers (output_bits n.ports)) (numbers (added_outs n config)) (outputs_ignored n) (unloaded config (plan_of n config) table before t) (own_width n) (quiet_agree values (numbers (output_bits n.ports)) (length (output_bits n.ports)))
    (unloaded_agrees n config table before t values h))

-- how many bits each cycle of a load compares
abbrev pub unload_width : Config → Option PatternData → ℕ
unload_width config None = 0
unload_width config (Some q) = length config.compactor.groups

unloaded_count : (n : Netlist) (config : Config) (table : Table) (before : Option PatternData) (t : ℕ) → compared_in (numbers (added_outs n config)) (unloaded config (plan_of n config) table before t) ≡ unload_width config before
unloaded_count n config table None t = quiet_count (numbers (added_outs n config)) (length config.compactor.groups)
unloaded_count n config table (Some q) t = expected_count (λ group. output_bit config.ring table (falling_head (plan_of n config)) q.masks (by_chain (plan_of n config).chains q.response.cells) t group) config.compactor.groups (outs_start n config)

pub shift_count : (n : Netlist) (config : Config) (table : Table) (masks : List Bool) (before : Option PatternData) (t : ℕ) → compared_in (signal_nets n config) (shift_acts n config (plan_of n config) table masks before t) ≡ unload_width config before
shift_count n config table masks before t =
    let own = quiet_count (numbers (output_bits n.ports)) (length (output_bits n.ports)) in
    let added = unloaded_count n config table before t in
    let both = split_count (numbers (output_bits n.ports)) (numbers (added_outs n config)) (outputs_ignored n) (unloaded config (plan_of n config) table before t) (own_width n) in
    by_shift (InCount n config (unload_width config before)) (in_count n config (unload_width config before)) n config table masks before t (omega (arith, own, added, both))

-- ---- capture vectors

pub capture_agrees : (n : Netlist) (config : Config) (merged : Merged) (domain : ℕ) (pulse update : Bool) (outputs : List Tri) (r : Round) → IsReady n config → length outputs ≡ length (output_bits n.ports) → ShowsCapture n config outputs r →
    Agrees r.strobe (signal_nets n config) (capture_with n config merged domain (added_inputs config false pulse update no_bits no_bits) outputs)
capture_agrees n config merged domain pulse update outputs r ready width h =
    by_capture (InAgree n config r.strobe) (in_agree n config r.strobe) n config merged domain pulse update outputs
    (split_agree r.strobe (numbers (output_bits n.ports)) (numbers (added_outs n config)) (map compare outputs) (ignored (length config.compactor.groups)) (captured_width (output_bits n.ports) outputs width)
    (captured_agree r.strobe (moved (gap_in Edt n config)) (output_bits n.ports) outputs (outputs_kept n config ready) h) (quiet_agree r.strobe (numbers (added_outs n config)) (length config.compactor.groups)))

pub capture_count : (n : Netlist) (config : Config) (merged : Merged) (domain : ℕ) (pulse update : Bool) (outputs : List Tri) → length outputs ≡ length (output_bits n.ports) →
    compared_in (signal_nets n config) (capture_with n config merged domain (added_inputs config false pulse update no_bits no_bits) outputs) ≡ count_by is_known outputs
capture_count n config merged domain pulse update outputs width =
    let own = captured_in (output_bits n.ports) outputs width in
    let same = known_count outputs in
    let added = quiet_count (numbers (added_outs n config)) (length config.compactor.groups) in
    let both = split_count (numbers (output_bits n.ports)) (numbers (added_outs n config)) (map compare outputs) (ignored (length config.compactor.groups)) (captured_width (output_bits n.ports) outputs width) in
    by_capture (InCount n config (count_by is_known outputs)) (in_count n config (count_by is_known outputs)) n config merged domain pulse update outputs (omega (arith, own, same, added, both))
