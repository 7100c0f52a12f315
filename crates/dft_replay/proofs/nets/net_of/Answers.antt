-- The net that is found is that of the signal where it is one of the first and its direction is the signal's.
use Rattle.std.proofs.Common.{ap, ◌∙◌, sym}
use Rattle.std.proofs.lemmas.Option.{slice_get_within}
use Rattle.dft_netlist.specs.Names.{find_net}
use Rattle.dft_replay.proofs.FitLemmas.{found_named, net_fits, unnamed_misfit, no_port_misfit, other_way_misfit, read_dir, no_dir}
use Rattle.dft_replay.proofs.nets.net_of.Goals as goal

pub returns-in-None-clause-misfit : goal.returns-in-None-clause-misfit
returns-in-None-clause-misfit c _ = unnamed_misfit c.args.design.now c.args.signal.now c.requires.sound (sym (c.find.ensures ∙ ap (find_net c.args.design.now) c.as_slice.ensures.bytes) ∙ c.in-None.is)

pub returns-in-None-get-clause-misfit : goal.returns-in-None-get-clause-misfit
returns-in-None-get-clause-misfit c _ =
    no_port_misfit c.args.design.now c.args.signal.now c.in-Some.net c.requires.sound (sym (c.find.ensures ∙ ap (find_net c.args.design.now) c.as_slice.ensures.bytes) ∙ c.in-Some.is)
    (no_dir c.args.design.now.ports c.args.dirs.now c.in-Some.net.0 c.requires.dirs c.in-None-get.ensures.lookup.3)

pub returns-then-same_dir-clause-live : goal.returns-then-same_dir-clause-live
returns-then-same_dir-clause-live c =
    slice_get_within c.args.design.now.nets c.in-Some.net.0 c.args.signal.now.name
    (found_named c.args.design.now c.args.signal.now.name c.in-Some.net (sym (c.find.ensures ∙ ap (find_net c.args.design.now) c.as_slice.ensures.bytes) ∙ c.in-Some.is))

pub returns-then-same_dir-clause-fits : goal.returns-then-same_dir-clause-fits
returns-then-same_dir-clause-fits c =
    net_fits c.args.design.now c.args.signal.now c.in-Some.net c.in-Some-get.dir.now c.requires.sound (sym (c.find.ensures ∙ ap (find_net c.args.design.now) c.as_slice.ensures.bytes) ∙ c.in-Some.is)
    (read_dir c.args.design.now.ports c.args.dirs.now c.in-Some.net.0 c.in-Some-get.dir.now c.requires.dirs c.in-Some-get.ensures.lookup.3.0 c.in-Some-get.ensures.lookup.1)
    (sym c.same_dir.ensures ∙ c.if-same_dir.true)

pub returns-else-same_dir-clause-misfit : goal.returns-else-same_dir-clause-misfit
returns-else-same_dir-clause-misfit c _ =
    other_way_misfit c.args.design.now c.args.signal.now c.in-Some.net c.in-Some-get.dir.now c.requires.sound (sym (c.find.ensures ∙ ap (find_net c.args.design.now) c.as_slice.ensures.bytes) ∙ c.in-Some.is)
    (read_dir c.args.design.now.ports c.args.dirs.now c.in-Some.net.0 c.in-Some-get.dir.now c.requires.dirs c.in-Some-get.ensures.lookup.3.0 c.in-Some-get.ensures.lookup.1)
    (sym c.same_dir.ensures ∙ c.if-same_dir.false)
