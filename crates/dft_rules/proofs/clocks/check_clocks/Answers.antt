use Rattle.std.proofs.Common.{◌≡◌, ◌∙◌, ℕ, List, Bool, [], sym, ap, subst, length, find, Option, Some, None, option_map, get_or}
use Rattle.std.specs.List.{range_with_len}
use Rattle.dft_netlist.specs.declared.ids.NetId.{NetId}
use Rattle.std.proofs.lemmas.Option.{get_or_from_slice_get}
use Rattle.dft_rules.specs.declared.error.RuleError.TheVariants.{ClockAsData}
use Rattle.dft_rules.specs.Findings.{AreUsed}
use Rattle.dft_rules.specs.Refusals.{is_clock_as_data}
use Rattle.dft_rules.proofs.JudgeLemmas.{first_same}
use Rattle.dft_rules.proofs.clocks.check_clocks.Goals as goal

pub returns-in-Some-clause-refused : goal.returns-in-Some-clause-refused
returns-in-Some-clause-refused c = λ names are.
    (let n = c.args.design.now in
    let P : List Bool → Type 0 = λ xs. AreUsed n.library n.instances (length n.nets) xs in
    let used = subst P (sym c.deref.ensures.value) c.in_ok-used.ensures in
    let first = first_same n names c.args.domains.now c.args.roots.now c.deref.result.now are c.requires.roots used in
    let found : find (is_clock_as_data n names) (range_with_len 0 (length n.nets)) ≡ Some c.in-Some.net.0 = sym first ∙ sym c.first_clock.ensures.first ∙ ap (λ (o : Option NetId). option_map (λ (k : NetId). k.0) o) c.in-Some.is in
    let name : get_or n.nets c.in-Some.net.0 [] ≡ c.in_ok-copy-in-Some.field-0 = get_or_from_slice_get n.nets c.in-Some.net.0 _ [] c.net_name.ensures ∙ sym c.in_ok-copy-in-Some.ensures in
    ap (λ (o : Option ℕ). option_map (λ (net : ℕ). ClockAsData (get_or n.nets net [])) o) found ∙ ap (λ (x : List ℕ). Some (ClockAsData x)) name)

pub returns-clause-ok : goal.returns-clause-ok
returns-clause-ok c = λ names are.
    (let n = c.args.design.now in
    let P : List Bool → Type 0 = λ xs. AreUsed n.library n.instances (length n.nets) xs in
    let used = subst P (sym c.deref.ensures.value) c.in_ok-used.ensures in
    let first = first_same n names c.args.domains.now c.args.roots.now c.deref.result.now are c.requires.roots used in
    let found : find (is_clock_as_data n names) (range_with_len 0 (length n.nets)) ≡ None = sym first ∙ sym c.first_clock.ensures.first ∙ ap (λ (o : Option NetId). option_map (λ (k : NetId). k.0) o) c.in-None.is in
    ap (λ (o : Option ℕ). option_map (λ (net : ℕ). ClockAsData (get_or n.nets net [])) o) found)
