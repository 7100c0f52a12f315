-- One thing is told of all faults, and it is true.
use Rattle.std.proofs.Common.{ℕ, suc, ◌≡◌, ◌∙◌, List, [], ◌∷◌, Some, slice_get, refl, sym, ap, ap₂, subst}
use Rattle.std.specs.List.{AllByRecursion}
use Rattle.dft_cells.specs.WellFormed.{IsWellFormed}
use Rattle.dft_netlist.specs.Netlist.{Netlist}
use Rattle.dft_netlist.specs.Drivers.{IsOrdered}
use Rattle.dft_config.specs.Config.{Config}
use Rattle.dft_faults.specs.declared.fault.Fault.{Fault}
use Rattle.dft_faults.specs.Faulty.{IsFault}
use Rattle.dft_seek.specs.declared.found.Found.{Found}
use Rattle.dft_seek.specs.declared.found.Found.TheVariants as found
use Rattle.dft_seek.specs.Laws.{CanSeek}
use Rattle.dft_seek.specs.Sought.{IsSought}
use Rattle.dft_seek.specs.SoughtFaults.{seek_faults}
use Rattle.dft_seek.proofs.SoughtLemmas.{sought_one}
use Rattle.dft_seek.proofs.Telling.{cube_true, none_true}
use Rattle.dft_seeking.specs.Laws.{AllTrue, IsTrue, ToldIsOne, ToldIsTrue}
use Rattle.dft_seeking.specs.Told.{Told, AllSought, cube_name, faults_in, search_of}
use Rattle.dft_seeking.proofs.SearchLemmas.{each_is}

-- each of these is a fault of the design
abbrev AreFaults : Netlist → List Told → Type 0
AreFaults n told = AllByRecursion (λ t. IsFault n t.fault) told

all_faults : (n : Netlist) (told : List Told) → ((place : ℕ) (f : Fault) → slice_get (faults_in told) place ≡ Some f → IsFault n f) → AreFaults n told
all_faults n [] each = tt
all_faults n (t ∷ told) each = (each 0 t.fault refl, all_faults n told (λ place f at. each (suc place) f at))

are_faults : (n : Netlist) (config : Config) (told : List Told) → faults_in told ≡ seek_faults n config → AreFaults n told
are_faults n config told is = all_faults n told (each_is n config (faults_in told) is)

can_seek : (n : Netlist) (config : Config) (domain : ℕ) (fault : Fault) (rank : ℕ → ℕ) → IsOrdered n rank → IsFault n fault → CanSeek (search_of n config domain fault) rank
can_seek n config domain fault rank ordered is = record { ordered = ordered; is = is }

-- ---- one thing

told_same : (fault : Fault) (t u : Told) → t.fault ≡ fault → u.fault ≡ fault → t.found ≡ u.found → t ≡ u
told_same fault t u a b same = ap₂ (λ (f : Fault) (x : Found). record { fault = f; found = x }) (a ∙ sym b) same

one_from : (n : Netlist) (config : Config) (domain limit number : ℕ) (rank : ℕ → ℕ) (a b : List Told) → IsOrdered n rank → AreFaults n a → faults_in a ≡ faults_in b → AllSought n config domain limit number a → AllSought n config domain limit number b → a ≡ b
one_from n config domain limit number rank [] [] ordered are same x y = refl
one_from n config domain limit number rank [] (u ∷ b) ordered are same x y = absurd cc
one_from n config domain limit number rank (t ∷ a) [] ordered are same x y = absurd cc
one_from n config domain limit number rank (t ∷ a) (u ∷ b) ordered are same x y =
    let head : t.fault ≡ u.fault = cc in
    let tail : faults_in a ≡ faults_in b = cc in
    let found : t.found ≡ u.found =
    sought_one (search_of n config domain t.fault) rank limit (cube_name number) t.found u.found (can_seek n config domain t.fault rank ordered are.0) x.0
    (subst (λ (f : Fault). IsSought (search_of n config domain f) limit (cube_name number) u.found) (sym head) y.0) in
    ap₂ (λ (v : Told) (vs : List Told). v ∷ vs) (told_same u.fault t u head refl found) (one_from n config domain limit (suc number) rank a b ordered are.1 tail x.1 y.1)

pub told_one : ToldIsOne
told_one n config domain limit told other rank ordered a b = one_from n config domain limit 0 rank told other ordered (are_faults n config told a.faults) (a.faults ∙ sym b.faults) a.sought b.sought

-- ---- it is true

true_by : (n : Netlist) (config : Config) (domain limit number : ℕ) (rank : ℕ → ℕ) (fault : Fault) (f : Found) → IsOrdered n rank → IsWellFormed n.library → IsFault n fault → IsSought (search_of n config domain fault) limit (cube_name number) f
    → IsTrue (search_of n config domain fault) f
true_by n config domain limit number rank fault (found.Cube cube) ordered library is sought = λ g completes. cube_true (search_of n config domain fault) rank limit (cube_name number) cube g (can_seek n config domain fault rank ordered is) sought completes
true_by n config domain limit number rank fault found.NotTestable ordered library is sought =
    λ g full detects. none_true (search_of n config domain fault) rank limit (cube_name number) g (can_seek n config domain fault rank ordered is) library sought full detects
true_by n config domain limit number rank fault found.Aborted ordered library is sought = tt

all_true : (n : Netlist) (config : Config) (domain limit number : ℕ) (rank : ℕ → ℕ) (told : List Told) → IsOrdered n rank → IsWellFormed n.library → AreFaults n told → AllSought n config domain limit number told → AllTrue n config domain told
all_true n config domain limit number rank [] ordered library are sought = tt
all_true n config domain limit number rank (t ∷ told) ordered library are sought =
    (true_by n config domain limit number rank t.fault t.found ordered library are.0 sought.0, all_true n config domain limit (suc number) rank told ordered library are.1 sought.1)

pub told_true : ToldIsTrue
told_true n config domain limit told rank ordered library are = all_true n config domain limit 0 rank told ordered library (are_faults n config told are.faults) are.sought
