-- A run over the files and the output of a host.
use Rattle.std.proofs.Common.{ℕ, ◌≡◌, List, [], Option, None, subst}
use Rattle.dft_files.specs.Outside.{Held}
use Rattle.dft_answers.specs.declared.answer.Answer.{Answer}
use Rattle.dft_top.specs.Ends.{IsStatusOfRun, host_at_first}
use Rattle.dft_top.specs.Run.{Seen, seen}

-- what is seen before it is what is seen of a host at first
pub host_run : (words : List (List ℕ)) (held : Option Held) (failed : List ℕ) (reads writes short : ℕ) (printed : Option (List ℕ)) (puts nos : ℕ) (after : Seen) (answer : Answer) (status : ℕ) →
    held ≡ None → failed ≡ [] → reads ≡ 0 → writes ≡ 0 → short ≡ 0 → printed ≡ None → puts ≡ 0 → nos ≡ 0 → IsStatusOfRun words (seen held failed reads writes short printed puts nos) after answer status →
    IsStatusOfRun words host_at_first after answer status
host_run words held failed reads writes short printed puts nos after answer status a b c d e f g h x =
    subst (λ (before : Seen). IsStatusOfRun words before after answer status) (λ i. seen (a i) (b i) (c i) (d i) (e i) (f i) (g i) (h i)) x
