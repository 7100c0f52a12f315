use Rattle.std.proofs.Common.{◌≡◌, ◌++◌, ◌∷◌, [], List, cond, is_ok, sym, ap, ◌∙◌}
use Rattle.dft_numbered.specs.Numbers.{Entry}
use Rattle.dft_hier.proofs.FitLemmas.{ports_next, ports_all}
use Rattle.dft_hier.proofs.fitting.all_ports.Goals as goal

pub loop-owner-preserved : goal.loop-owner-preserved
loop-owner-preserved c =
    let old : List (List Entry) = c.loop-owner.all.items in
    let entries : List Entry = c.in_ok-port_numbers.field-0 in
    let pushed : c.push.new.self.items ≡ old ++ entries ∷ [] =
    c.push.ensures.items ∙ ap (λ b. cond b (old ++ entries ∷ []) old) (sym c.map_err.ensures.variant ∙ ap is_ok c.in_ok-map_err.was) in
    ports_next c.args.modules.now c.owner-item.result c.loop-owner.owner-index old c.push.new.self.items entries c.loop-owner-test.true c.owner-item.is pushed c.in_ok-port_numbers.ensures c.loop-owner.invariant

pub returns : goal.returns
returns c = ports_all c.args.modules.now c.loop-owner.owner-index c.loop-owner.all.items c.loop-owner-test.false c.loop-owner.auto.owner-index-end c.loop-owner.invariant
