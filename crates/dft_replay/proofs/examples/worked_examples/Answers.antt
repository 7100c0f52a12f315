use Rattle.dft_replay.proofs.ExampleLemmas.{two_domains_hold, kept_input_holds, quiet_lockup_holds, three_domains_hold}
use Rattle.dft_replay.proofs.examples.worked_examples.Goals as goal

pub returns : goal.returns
returns c = record { two_domains = two_domains_hold; kept_input = kept_input_holds; quiet_lockup = quiet_lockup_holds; three_domains = three_domains_hold }
