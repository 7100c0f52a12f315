-- The instances so far are judged.
use Rattle.std.proofs.Common.{◌≡◌, map}
use Rattle.std.specs.List.{range_with_len}
use Rattle.dft_config.specs.Config.{Config}
use Rattle.dft_rules.specs.Findings.{AreFindings}
use Rattle.dft_rules.specs.Rules.{judged}
use Rattle.dft_rules.proofs.judging.judge_each.Given as goal

abbrev pub invariant-loop-number : goal.invariant-loop-number
invariant-loop-number l =
    (config : Config) → AreFindings l.design config l.found → l.verdicts.items ≡ map (judged l.design config) (range_with_len 0 l.number)
