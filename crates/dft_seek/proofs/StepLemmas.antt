-- From which nets walks go on to a net: by what it takes its value from, and by its driver.
use Rattle.std.proofs.Common.{ℕ, ◌+◌, ◌≡◌, ◌<◌, ◌==◌, Bool, true, false, List, [], ◌∷◌, ◌++◌, length, map, drop, get_or, Option, None, Some, refl, sym, ap, ◌∙◌, append_assoc, true≢false}
use Rattle.std.specs.Prelude.{if◌then◌else◌}
use Rattle.std.proofs.lemmas.Bool.{eqb-true, eq-eqb}
use Rattle.std.proofs.lemmas.List.{drop_more}
use Rattle.dft_netlist.specs.declared.ids.InstanceId.{InstanceId}
use Rattle.dft_netlist.specs.Drivers.{Driver, nets_of, pins_of}
use Rattle.dft_netlist.specs.Drivers as drivers
use Rattle.dft_netlist.specs.Connections.{pin_of}
use Rattle.dft_behavior.specs.Logic.{Cell, Meaning, Ports, Input, Clock, Gate, Joined, Flop, Lockup, Free, domain_at, flip_flop, flop_meaning, lockup_meaning, meaning_of, or_loose}
use Rattle.dft_behavior.specs.ClockRoots.{ClockRoot}
use Rattle.dft_cells.specs.declared.kind.Role.TheVariants as role
use Rattle.dft_logic.specs.declared.circuit.Op.{Op}
use Rattle.dft_logic.specs.declared.circuit.Op.TheVariants as op
use Rattle.dft_logic.specs.declared.circuit.Operand.{Operand}
use Rattle.dft_logic.specs.Circuit.{flag_at, meaning, source_at}
use Rattle.dft_seek.specs.Searches.{Search}
use Rattle.dft_seek.specs.Walks.{is_output_of, is_passed, taken_nets, walked_from}
use Rattle.dft_seek.specs.Pins.{ArePins, pins_at, taken_by}
use Rattle.dft_seek.specs.Rigs.{shows_in}
use Rattle.dft_seek.specs.Steps.{cell_steps, op_steps}
use Rattle.dft_seek.specs.declared.pins.Pins.{Pins}
use Rattle.dft_seek.proofs.PinLemmas.{nets-append}
use Rattle.dft_seek.proofs.PinsKept.{taken_kept}

-- by what a net means
abbrev meaning_steps : Meaning → Option InstanceId → List Pins → (passed : List Bool) → List ℕ
meaning_steps Input shown pins passed = cell_steps shown pins passed
meaning_steps Clock shown pins passed = cell_steps shown pins passed
meaning_steps (Gate kind inputs) shown pins passed = nets_of inputs
meaning_steps (Joined source) shown pins passed = nets_of (source ∷ [])
meaning_steps (Flop i inverted) shown pins passed = cell_steps shown pins passed
meaning_steps (Lockup i domain high source) shown pins passed = cell_steps shown pins passed
meaning_steps Free shown pins passed = cell_steps shown pins passed

op_same : (o : Op) (shown : Option InstanceId) (pins : List Pins) (passed : List Bool) → op_steps o shown pins passed ≡ meaning_steps (meaning o) shown pins passed
op_same op.Input shown pins passed = refl
op_same op.Clock shown pins passed = refl
op_same (op.Gate kind inputs) shown pins passed = refl
op_same (op.Joined source) shown pins passed = refl
op_same (op.Flop i inverted) shown pins passed = refl
op_same (op.Lockup i domain high source) shown pins passed = refl
op_same op.Free shown pins passed = refl

-- a net that shows no flip-flop
none_shown : (shown : Option InstanceId) (pins : List Pins) (passed : List Bool) → ((c : ℕ) → shows_in shown c ≡ false) → cell_steps shown pins passed ≡ []
none_shown None pins passed none = refl
none_shown (Some i) pins passed none = absurd (true≢false (sym (eq-eqb i.0 i.0 refl) ∙ none i.0))

-- a net that shows this one
one_shown : (s : Search) (shown : Option InstanceId) (pins : List Pins) (passed : List Bool) (i : ℕ) → ArePins s.design pins → ((c : ℕ) → flag_at passed c ≡ is_passed s c) → ((c : ℕ) → shows_in shown c ≡ (i == c)) →
    cell_steps shown pins passed ≡ (if is_passed s i then taken_nets s.design i else [])
one_shown s None pins passed i are passes shows = absurd (true≢false (sym (eq-eqb i i refl) ∙ sym (shows i)))
one_shown s (Some j) pins passed i are passes shows =
    let same : j.0 ≡ i = eqb-true j.0 i (shows i ∙ eq-eqb i i refl) in
    ap (λ (k : ℕ). if flag_at passed k then taken_by (pins_at pins k) else []) same
    ∙ (λ t. if passes i t then taken_kept s.design i (pins_at pins i) (are.each i) t else [])

-- the nets from which walks go on
pub steps_walked : (s : Search) (ports : Ports) (o : Op) (shown : Option InstanceId) (pins : List Pins) (passed : List Bool) (net : ℕ) (d : Driver) → ArePins s.design pins → ((c : ℕ) → flag_at passed c ≡ is_passed s c) →
    meaning o ≡ meaning_of s.design ports net d → ((c : ℕ) → shows_in shown c ≡ is_output_of c d) → op_steps o shown pins passed ≡ walked_from s d
steps_walked s ports o shown pins passed net d are passes means shows = op_same o shown pins passed ∙ ap (λ (m : Meaning). meaning_steps m shown pins passed) means ∙ by d shows
  where
    by : (d : Driver) → ((c : ℕ) → shows_in shown c ≡ is_output_of c d) → meaning_steps (meaning_of s.design ports net d) shown pins passed ≡ walked_from s d
    by drivers.Input none = port (ports.is_clock net)
      where
        port : (b : Bool) → meaning_steps (if b then Clock else Input) shown pins passed ≡ []
        port true = none_shown shown pins passed none
        port false = none_shown shown pins passed none
    by (drivers.Gate kind inputs) none = refl
    by (drivers.Joined source) none = refl
    by (drivers.Flop i inverted) one = flop (flip_flop s.design ports i)
      where
        flop : (cell : Option Cell) → meaning_steps (flop_meaning i inverted cell) shown pins passed ≡ (if is_passed s i then taken_nets s.design i else [])
        flop None = one_shown s shown pins passed i are passes one
        flop (Some cell) = one_shown s shown pins passed i are passes one
    by (drivers.Lockup i) none = held (domain_at s.design ports (pin_of role.Clock i (pins_of s.design i)))
      where
        held : (clock : Option ClockRoot) → meaning_steps (lockup_meaning i clock (or_loose i (pin_of role.Din i (pins_of s.design i)))) shown pins passed ≡ []
        held None = none_shown shown pins passed none
        held (Some clock) = none_shown shown pins passed none
    by drivers.Free none = none_shown shown pins passed none

-- ---- the nets of operands

pub operands_more : (inputs : List Operand) (k : ℕ) (d : Operand) (old new all : List ℕ) → k < length inputs → new ≡ old ++ nets_of (source_at (get_or inputs k d) ∷ []) → old ++ nets_of (map source_at (drop k inputs)) ≡ all →
    new ++ nets_of (map source_at (drop (k + 1) inputs)) ≡ all
operands_more inputs k d old new all less push before =
    let own : List ℕ = nets_of (source_at (get_or inputs k d) ∷ []) in
    let rest : List ℕ = nets_of (map source_at (drop (k + 1) inputs)) in
    ap (λ (l : List ℕ). l ++ rest) push ∙ append_assoc old own rest
    ∙ ap (λ (l : List ℕ). old ++ l) (sym (ap (λ (l : List Operand). nets_of (map source_at l)) (drop_more inputs k d less) ∙ nets-append (source_at (get_or inputs k d) ∷ []) (map source_at (drop (k + 1) inputs)))) ∙ before

-- three pins
pub pins_added : (old one two three a b c : List ℕ) → one ≡ old ++ a → two ≡ one ++ b → three ≡ two ++ c → three ≡ old ++ (a ++ (b ++ c))
pins_added old one two three a b c first second third =
    third ∙ ap (λ (l : List ℕ). l ++ c) (second ∙ ap (λ (l : List ℕ). l ++ b) first) ∙ append_assoc (old ++ a) b c ∙ append_assoc old a (b ++ c)
