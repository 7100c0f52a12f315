use Rattle.std.proofs.Common.{sym, subst}
use Rattle.dft_netlist.specs.declared.instance.Join.{Join}
use Rattle.dft_netlist.specs.BuilderShown.{netlist_so_far}
use Rattle.dft_netlist.specs.Netlist.{Netlist}
use Rattle.dft_netlist.specs.Sound.{IsJoinOf}
use Rattle.dft_netlist.proofs.SoundLemmas.{join_sound, join_knows}
use Rattle.dft_netlist.proofs.builder.DesignBuilder.join.Goals as goal

pub invariant_of-self-2 : goal.invariant_of-self-2
invariant_of-self-2 c =
    let n = netlist_so_far c.self.inside in
    let es = c.self.inside.table.entries in
    let join : Join = record { target = c.args.target; source = c.args.source } in
    let is : IsJoinOf n join.target join.source = subst (λ (m : Netlist). IsJoinOf m join.target join.source) (sym c.self.view_is) c.requires in
    let sound = c.self.invariant.netlist in
    let known = c.self.invariant.table in
    record {
      netlist = rw c.in_ok-push.ensures.items (join_sound es n join sound known is);
      table = rw c.in_ok-push.ensures.items (join_knows es n join known);
    }
