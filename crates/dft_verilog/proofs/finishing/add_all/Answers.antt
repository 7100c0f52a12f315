use Rattle.std.proofs.Common.{sym, subst}
use Rattle.std.proofs.lemmas.Result.{err_from_is_err_and}
use Rattle.dft_netlist.specs.Netlist.{Netlist}
use Rattle.dft_netlist_text.specs.Modules.{Draft}
use Rattle.dft_netlist_text.specs.NetlistText.{Grown, net_order, add_instances, add_joins, built}
use Rattle.dft_verilog.specs.Built.{Grows}
use Rattle.dft_verilog.proofs.GrowLemmas.{IsRefusal-then}
use Rattle.dft_verilog.proofs.BuiltLemmas.{all_nets, built-by, built-refused, IsGrown-nets, IsGrown-instances}
use Rattle.dft_verilog.proofs.finishing.add_all.Goals as goal

pub add_all_nets-requires-clause-grown : goal.add_all_nets-requires-clause-grown
add_all_nets-requires-clause-grown c = IsGrown-nets c.args.draft.now c.args.builder.now c.requires.none c.requires.grown

pub returns-in_err-finals : goal.returns-in_err-finals
returns-in_err-finals c =
    let d : Draft = c.args.draft.now in
    let start : Netlist = c.args.builder.now in
    let p = err_from_is_err_and c.from_residual.result c.from_residual.ensures.1 in
    rw (p.1, p.2)
    (IsRefusal-then (built d) (all_nets d start) (λ n. add_instances (net_order d) d.instances (add_joins (net_order d) d.joins n)) c.in_err-finals.field-0.0 (built-refused d start c.requires.none) c.in_err-finals.ensures.grown)

pub add_instances-requires-clause-grown : goal.add_instances-requires-clause-grown
add_instances-requires-clause-grown c =
    IsGrown-instances c.args.draft.now c.args.builder.now c.add_all_nets.new.builder c.add_joins.new.builder c.requires.none c.in_ok-finals.ensures.grown c.in_ok-add_joins.ensures c.requires.grown

pub returns : goal.returns
returns c =
    let d : Draft = c.args.draft.now in
    let start : Netlist = c.args.builder.now in
    subst (λ (g : Grown). Grows g c.add_instances.result c.add_instances.new.builder) (sym (built-by d start c.add_all_nets.new.builder c.add_joins.new.builder c.requires.none c.in_ok-finals.ensures.grown c.in_ok-add_joins.ensures)) c.add_instances.ensures
