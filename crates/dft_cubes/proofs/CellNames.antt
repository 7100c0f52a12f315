-- A flip-flop that a name stands for has this name.
use Rattle.std.proofs.Common.{◌≡◌, ℕ, Option, None, Some, refl, sym, ◌∙◌, ap, subst, arith, slice_get}
use Rattle.std.specs.Option.{option_and_then}
use Rattle.std.specs.Prelude.{IsSome, if◌then◌else◌}
use Rattle.std.proofs.lemmas.Option.{none-some}
use Rattle.dft_base.specs.Lexing.{Text}
use Rattle.dft_netlist.specs.declared.ids.InstanceId.{InstanceId}
use Rattle.dft_netlist.specs.Drivers.{kind_at}
use Rattle.dft_netlist.specs.Netlist.{Netlist}
use Rattle.dft_netlist.specs.Names.{find_instance, instance_name}
use Rattle.dft_netlist.proofs.FindLemmas.{instance_at}
use Rattle.dft_rules.specs.Rules.{flip_flop_named, may_be_scanned}
use Rattle.dft_rules.proofs.NameLemmas.{if_there}

found_there : (n : Netlist) (k : InstanceId) (o : Option InstanceId) → option_and_then (λ (instance : InstanceId). if may_be_scanned (kind_at n instance.0) then Some instance else None) o ≡ Some k → o ≡ Some k
found_there n k None h = absurd (none-some k h)
found_there n k (Some id) h = ap Some (if_there (may_be_scanned (kind_at n id.0)) id k h)

pub has_name_of : (n : Netlist) (name : Text) (k : InstanceId) → flip_flop_named n name ≡ Some k → IsSome (option_and_then instance_name (slice_get n.instances k.0))
has_name_of n name k h =
    let r = instance_at 0 n.instances name k (found_there n k (find_instance n name) h) in
    let at : r.0 ≡ k.0 = sym (r.1 ∙ omega arith) in
    let is : option_and_then instance_name (slice_get n.instances k.0) ≡ Some name = ap (λ (j : ℕ). option_and_then instance_name (slice_get n.instances j)) (sym at) ∙ r.2 in
    subst (λ (o : Option Text). IsSome o) (sym is) refl
