-- What a rule reads of a netlist.
use Rattle.dft_netlist.specs.declared.instance.Signal.TheVariants as signal
use Rattle.dft_cells.specs.declared.kind.Kind.TheVariants as kind
use Rattle.std.specs.Prelude.{IsTrue, if◌then◌else◌}
use Rattle.std.proofs.Common.{Bool, None, Option, Some, arith, false, refl, true, ◌≡◌, ℕ}
use Rattle.std.proofs.lemmas.Bool.{eq-eqb}
use Rattle.std.proofs.lemmas.Bool.Decides.{nat_tests}
use Rattle.std.proofs.lemmas.Option.{none-some}
use Rattle.dft_cells.specs.declared.kind.Gate.{Gate}
use Rattle.dft_netlist.specs.Drivers.{Net, kind_at, source_of}
use Rattle.dft_netlist.specs.declared.ids.NetId.{NetId}
use Rattle.dft_netlist.specs.Netlist.{Netlist}
use Rattle.dft_netlist.specs.declared.instance.Signal.{Signal}
use Rattle.dft_netlist.specs.Sound.{is_primitive}
use Rattle.dft_config.specs.Config.{Config}
use Rattle.dft_rules.specs.declared.judged.Judged.{Judged}
use Rattle.dft_rules.specs.Refusals.{is_joined_to}
use Rattle.dft_rules.specs.Rules.{is_net, judged, may_be_scanned}

pub joined_net : (i pin k : ℕ) (s : Signal) → Some (source_of i pin s) ≡ Some (Net k) → is_joined_to k s ≡ true
joined_net i pin k (signal.Net net) e = eq-eqb net.0 k (cc)
joined_net i pin k (signal.Constant bit) e = absurd cc
joined_net i pin k signal.Unconnected e = absurd cc

pub is_itself : (net : NetId) → is_net net.0 (Some net) ≡ true
is_itself net = grind (arith, nat_tests)

pub no_gate : (k : Gate) → may_be_scanned (kind.Gate k) ≡ true → IsTrue (is_primitive k) → ⊥
no_gate k s p = cc

pub judged_may : (n : Netlist) (config : Config) (i : ℕ) (v : Judged) → judged n config i ≡ Some v → may_be_scanned (kind_at n i) ≡ true
judged_may n config i v is = by (may_be_scanned (kind_at n i)) _ is
  where
    by : (b : Bool) (o : Option Judged) → (if b then o else None) ≡ Some v → b ≡ true
    by true o h = refl
    by false o h = absurd (none-some v h)
