-- Words that are keywords are reserved.
use Rattle.dft_netlist_text.proofs.WordKinds.{word_kind-free}

pub ruleset free_words = (word_kind-free)
