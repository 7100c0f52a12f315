-- The settings of the nets so far.
use Rattle.std.proofs.Common.{◌≡◌, ℕ, ◌<◌, length}
use Rattle.dft_stitch.specs.Chains.{plan_of}
use Rattle.dft_expect.specs.Loaded.{all_cells}
use Rattle.dft_expect.specs.Settings.{IsSetting, setting_at}
use Rattle.dft_expect.proofs.settings.settings.Given as goal

abbrev pub invariant-loop-net : goal.invariant-loop-net
invariant-loop-net l = record {
  nets : length l.settings.items ≡ l.net;
  each : (net : ℕ) → net < l.net → IsSetting l.found.planned.now.design l.found.clocks.now l.found.resets.now (all_cells (plan_of l.found.planned.now.design l.found.planned.now.config).chains) net (setting_at l.settings.items net);
}
