-- One name more, and one fault more.
use Rattle.std.proofs.Common.{ℕ, ◌+◌, ◌≡◌, ◌<◌, ◌≤◌, ◌==◌, Bool, true, false, not, ◌||◌, List, [], ◌∷◌, ◌++◌, length, get_or, take, filter, None, Some, sym, ap, ◌∙◌, append-nil, Vec, Global, Result}
use Rattle.std.specs.declared.alloc.AllocError.{AllocError}
use Rattle.std.specs.Result.{IfOk}
use Rattle.std.proofs.lemmas.Result.{IfOk-weaker}
use Rattle.std.specs.Prelude.{if◌then◌else◌}
use Rattle.std.proofs.lemmas.List.{take_all, take_more}
use Rattle.std.proofs.lemmas.List.Elements.{filter-append}
use Rattle.std.proofs.lemmas.List.Folds.{list_any-append, list_any_more}
use Rattle.dft_base.specs.Lexing.{Text}
use Rattle.dft_base.proofs.BitLemmas.{or_false}
use Rattle.dft_netlist.specs.declared.ids.NetId.{NetId}
use Rattle.dft_netlist.specs.Netlist.{Netlist}
use Rattle.dft_behavior.specs.declared.root.NetRoot.{NetRoot}
use Rattle.dft_netlist.specs.Connections.{input_net}
use Rattle.dft_netlist.specs.Drivers.{Net}
use Rattle.dft_behavior.specs.RootTables.{AreRoots}
use Rattle.dft_behavior.proofs.RootTables.{root_is}
use Rattle.dft_config.specs.Config.{Config}
use Rattle.dft_rules.specs.Rules.{is_net}
use Rattle.dft_faults.specs.declared.fault.Fault.{Fault}
use Rattle.dft_faults.specs.Faults.{faults, is_clock_in}
use Rattle.dft_seek.specs.SoughtFaults.{is_left, is_named, is_root_of, seek_faults}

-- ---- names

pub named_push : (n : Netlist) (names : List Text) (k : ℕ) (name : Text) (port : NetId) (xs ys : List NetId) → k < length names → name ≡ get_or names k name → input_net n name ≡ Some port → ys ≡ xs ++ port ∷ [] →
    ((net : ℕ) → is_clock_in xs net ≡ is_named n (take k names) net) → (net : ℕ) → is_clock_in ys net ≡ is_named n (take (k + 1) names) net
named_push n names k name port xs ys less is found push before net =
    let last : is_clock_in (port ∷ []) net ≡ is_net net (input_net n (get_or names k name)) = or_false (port.0 == net) ∙ sym (ap (λ (x : Text). is_net net (input_net n x)) (sym is) ∙ ap (is_net net) found) in
    ap (λ (zs : List NetId). is_clock_in zs net) push ∙ list_any-append (λ (clock : NetId). clock.0 == net) xs (port ∷ []) ∙ (λ i. before net i || last i)
    ∙ sym (list_any_more (λ (x : Text). is_net net (input_net n x)) names k name less)

pub named_skip : (n : Netlist) (names : List Text) (k : ℕ) (name : Text) (xs : List NetId) → k < length names → name ≡ get_or names k name → input_net n name ≡ None →
    ((net : ℕ) → is_clock_in xs net ≡ is_named n (take k names) net) → (net : ℕ) → is_clock_in xs net ≡ is_named n (take (k + 1) names) net
named_skip n names k name xs less is none before net =
    before net ∙ sym (or_false (is_named n (take k names) net))
    ∙ ap (λ (b : Bool). is_named n (take k names) net || b) (sym (ap (λ (x : Text). is_net net (input_net n x)) (sym is) ∙ ap (is_net net) none))
    ∙ sym (list_any_more (λ (x : Text). is_net net (input_net n x)) names k name less)

pub named_all : (n : Netlist) (names : List Text) (k : ℕ) (net : ℕ) → length names ≤ k → is_named n (take k names) net ≡ is_named n names net
named_all n names k net past = ap (λ (xs : List Text). is_named n xs net) (take_all k names past)

-- ---- faults

-- one more of the first ones
pub kept_more : (f : Fault → Bool) (xs : List Fault) (k : ℕ) (d : Fault) → k < length xs → filter f (take (k + 1) xs) ≡ filter f (take k xs) ++ (if f (get_or xs k d) then get_or xs k d ∷ [] else [])
kept_more f xs k d less = ap (filter f) (take_more xs k d less) ∙ filter-append f (take k xs) (get_or xs k d ∷ [])

pub kept_push : (f : Fault → Bool) (xs : List Fault) (k : ℕ) (d : Fault) (left out : List Fault) → k < length xs → f (get_or xs k d) ≡ true → out ≡ left ++ get_or xs k d ∷ [] → left ≡ filter f (take k xs) → out ≡ filter f (take (k + 1) xs)
kept_push f xs k d left out less yes_it push before =
    push ∙ ap (λ (ys : List Fault). ys ++ get_or xs k d ∷ []) before ∙ sym (kept_more f xs k d less ∙ ap (λ (b : Bool). filter f (take k xs) ++ (if b then get_or xs k d ∷ [] else [])) yes_it)

pub kept_skip : (f : Fault → Bool) (xs : List Fault) (k : ℕ) (d : Fault) (left out : List Fault) → k < length xs → f (get_or xs k d) ≡ false → out ≡ left → left ≡ filter f (take k xs) → out ≡ filter f (take (k + 1) xs)
kept_skip f xs k d left out less no_it same before =
    same ∙ before ∙ sym (kept_more f xs k d less ∙ ap (λ (b : Bool). filter f (take k xs) ++ (if b then get_or xs k d ∷ [] else [])) no_it ∙ append-nil (filter f (take k xs)))

-- the faults that are sought, by the nets of domains and resets and by the roots of all nets
pub sought_same : (n : Netlist) (config : Config) (roots : List NetRoot) (clocks resets : List NetId) → AreRoots n roots → ((net : ℕ) → is_clock_in clocks net ≡ is_named n config.domains net) → ((net : ℕ) → is_clock_in resets net ≡ is_named n config.resets net) →
    filter (is_left roots resets) (faults n (is_clock_in clocks)) ≡ seek_faults n config
sought_same n config roots clocks resets are of_clocks of_resets =
    λ i. filter (λ (f : Fault). not (is_root_of (λ net. of_resets net i) (root_is n roots are (Net f.net.0) i))) (faults n (λ net. of_clocks net i))

-- what is left is another list that is the same
pub left_are : (r : Result (Vec Fault Global) AllocError) (xs ys : List Fault) → xs ≡ ys → IfOk r (λ left. left.items ≡ xs) → IfOk r (λ left. left.items ≡ ys)
left_are r xs ys same = IfOk-weaker r (λ left. left.items ≡ xs) (λ left. left.items ≡ ys) (λ left is. is ∙ same)
