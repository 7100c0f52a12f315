-- The clocks that are told are the clock ports of the patterns.
use Rattle.std.proofs.Common.{ℕ, ◌≡◌, ◌∙◌, ◌==◌, ◌||◌, Bool, List, [], ◌∷◌, refl, sym, ap, subst, Some, slice_get}
use Rattle.dft_netlist.specs.declared.ids.NetId.{NetId}
use Rattle.dft_netlist.specs.Netlist.{Netlist}
use Rattle.dft_cycle.specs.Machine.{is_one_of}
use Rattle.dft_patterns.specs.Patterns.{Patterns}
use Rattle.dft_replay.specs.Rows.{ports_of}
use Rattle.dft_faults.specs.declared.fault.Fault.{Fault}
use Rattle.dft_faults.specs.Faults.{faults, is_clock_in}
use Rattle.dft_faults.specs.Faulty.{IsFault}
use Rattle.dft_faults.proofs.Listed.{listed_faults}
use Rattle.dft_grade.specs.Grades.{faults_of}

same_clock : (clocks : List NetId) (net : ℕ) → is_clock_in clocks net ≡ is_one_of clocks net
same_clock [] net = refl
same_clock (clock ∷ clocks) net = ap (λ later. (clock.0 == net) || later) (same_clock clocks net)

pub faults_are : (n : Netlist) (p : Patterns) (clocks : List NetId) (listed : List Fault) → ((net : ℕ) → is_one_of clocks net ≡ (ports_of n p).is_clock net) → listed ≡ faults n (is_clock_in clocks) → listed ≡ faults_of n p
faults_are n p clocks listed same is =
    let clock : is_clock_in clocks ≡ (ports_of n p).is_clock = λ t net. (same_clock clocks net ∙ same net) t in
    is ∙ ap (faults n) clock

pub each_is : (n : Netlist) (p : Patterns) (listed : List Fault) → listed ≡ faults_of n p → (place : ℕ) (f : Fault) → slice_get listed place ≡ Some f → IsFault n f
each_is n p listed is place f at = listed_faults n (ports_of n p).is_clock place f (ap (λ (fs : List Fault). slice_get fs place) (sym is) ∙ at)
