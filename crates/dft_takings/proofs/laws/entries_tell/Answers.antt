use Rattle.dft_takings.proofs.EntryLemmas.{entry_is_next, pass_of_entries, pass_of_needed, entry_stays}
use Rattle.dft_takings.proofs.laws.entries_tell.Goals as goal

pub returns : goal.returns
returns c = record { next = entry_is_next; pass = pass_of_entries; needed = pass_of_needed; stay = entry_stays }
