use Rattle.std.proofs.Common.{◌≡◌, ℕ, List, [], IfOk, subst, sym}
use Rattle.std.specs.Prelude.{slice_index_or}
use Rattle.std.proofs.lemmas.Option.{get_or_from_slice_get}
use Rattle.dft_configuring.proofs.rooting.name_of.Goals as goal

pub returns : goal.returns
returns c =
    let nets = c.args.design.now.nets in
    let net = c.args.net.0 in
    let name = c.net_name.result.now in
    let is : name ≡ slice_index_or nets net [] = sym (get_or_from_slice_get nets net name [] c.net_name.ensures) in
    subst (λ (x : List ℕ). IfOk c.copy.result (λ (same : List ℕ). same ≡ x)) is c.copy.ensures
