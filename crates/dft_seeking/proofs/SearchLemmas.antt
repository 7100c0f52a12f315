-- Faults are searched one after another.
use Rattle.std.proofs.Common.{ℕ, zero, suc, ◌+◌, ◌≤◌, ◌<◌, ◌^◌, ◌≡◌, ◌∙◌, Bool, true, false, List, [], ◌∷◌, ◌++◌, length, filter, map, drop, Some, slice_get, refl, sym, ap, subst, arith, append-nil, length-append}
use Rattle.std.specs.Prelude.{if◌then◌else◌, slice_index_or}
use Rattle.std.specs.List.{All, range_with_len}
use Rattle.std.proofs.lemmas.List.{drop_more, length-map}
use Rattle.std.proofs.lemmas.List.FromFn.{length-range_with_len}
use Rattle.std.proofs.lemmas.List.Sums.{count_by-le-length}
use Rattle.std.proofs.lemmas.Option.{none-some, same_Some}
use Rattle.dft_base.specs.Name.{IsName}
use Rattle.dft_base.proofs.TextLemmas.{IsPrinted, digits_printed}
use Rattle.std.specs.Fmt.{decimal}
use Rattle.dft_base.proofs.ListLemmas.{drop_over}
use Rattle.dft_netlist.specs.Netlist.{Netlist}
use Rattle.dft_netlist.specs.declared.limits.TheConstants.{MAX_NETS}
use Rattle.dft_config.specs.Config.{Config}
use Rattle.dft_rules.specs.ConfigPorts.{config_ports}
use Rattle.dft_faults.specs.declared.fault.Fault.{Fault}
use Rattle.dft_faults.specs.Faults.{faults, has_faults}
use Rattle.dft_faults.specs.Faulty.{IsFault}
use Rattle.dft_faults.proofs.Listed.{listed_faults}
use Rattle.dft_faults.proofs.ListingLemmas.{both_few}
use Rattle.dft_seek.specs.declared.found.Found.{Found}
use Rattle.dft_seek.specs.Sought.{IsSought}
use Rattle.dft_seek.specs.SoughtFaults.{is_untraced, seek_faults}
use Rattle.dft_seeking.specs.declared.counting.SeekCounts.{SeekCounts}
use Rattle.dft_seeking.specs.declared.gathering.Gathered.{Gathered}
use Rattle.dft_seeking.specs.Told.{Told, AllSought, counts_of, cube_name, faults_in, search_of}
use Rattle.dft_seeking.specs.Gathers.{AreSearched, HasRoom, IsGathered}

-- ---- names

pub is_cube_name : (number : ℕ) → number < 2 ^ 64 → IsName (cube_name number)
is_cube_name number lt = record { some = omega arith; each = printed (digits_printed number lt) }
  where
    printed : All IsPrinted (decimal number) → All IsPrinted (cube_name number)
    printed all zero d within = (omega arith, omega arith)
    printed all (suc k) d within = all k d (omega (arith, within))

-- ---- faults

-- what passes a test stood there
abbrev StoodIn : List Fault → Fault → Type 0
StoodIn fs f = (j : ℕ) × (slice_get fs j ≡ Some f)

kept_by : (t : Bool) (x : Fault) (fs kept : List Fault) (k : ℕ) (f : Fault) → ((k : ℕ) → slice_get kept k ≡ Some f → StoodIn fs f) → slice_get (if t then x ∷ kept else kept) k ≡ Some f → StoodIn (x ∷ fs) f
kept_by true x fs kept zero f rest at = (0, at)
kept_by true x fs kept (suc k) f rest at = let r = rest k at in (suc r.0, r.1)
kept_by false x fs kept k f rest at = let r = rest k at in (suc r.0, r.1)

kept_from : (test : Fault → Bool) (fs : List Fault) (k : ℕ) (f : Fault) → slice_get (filter test fs) k ≡ Some f → StoodIn fs f
kept_from test [] k f at = absurd (none-some f at)
kept_from test (x ∷ fs) k f at = kept_by (test x) x fs (filter test fs) k f (λ j there. kept_from test fs j f there) at

pub each_is : (n : Netlist) (config : Config) (listed : List Fault) → listed ≡ seek_faults n config → (place : ℕ) (f : Fault) → slice_get listed place ≡ Some f → IsFault n f
each_is n config listed is place f at =
    let from = kept_from (is_untraced n (config_ports n config).is_reset) (faults n (config_ports n config).is_clock) place f (ap (λ (fs : List Fault). slice_get fs place) (sym is) ∙ at) in
    listed_faults n (config_ports n config).is_clock from.0 f from.1

kept_few : {A : Type 0} (t : Bool) (x : A) (xs : List A) (count : ℕ) → length xs ≤ count → length (if t then x ∷ xs else xs) ≤ suc count
kept_few true x xs count few = omega (arith, few)
kept_few false x xs count few = omega (arith, few)

filter_few : {A : Type 0} (test : A → Bool) (xs : List A) → length (filter test xs) ≤ length xs
filter_few test [] = omega arith
filter_few test (x ∷ xs) = kept_few (test x) x (filter test xs) (length xs) (filter_few test xs)

pub few_faults : (n : Netlist) (config : Config) (listed : List Fault) → length n.nets ≤ MAX_NETS → listed ≡ seek_faults n config → length listed < 2 ^ 32
few_faults n config listed few is =
    let nets = range_with_len 0 (length n.nets) in
    let test = has_faults n (config_ports n config).is_clock in
    let all : length listed ≡ length (seek_faults n config) = ap length is in
    omega (
      arith,
      few,
      all,
      filter_few (is_untraced n (config_ports n config).is_reset) (faults n (config_ports n config).is_clock),
      both_few (filter test nets),
      filter_few test nets,
      length-range_with_len 0 (length n.nets),
    )

pub fault_at : (n : Netlist) (faults : List Fault) (k : ℕ) (d : Fault) → ((place : ℕ) (f : Fault) → slice_get faults place ≡ Some f → IsFault n f) → k < length faults → IsFault n (slice_index_or faults k d)
fault_at n [] k d are less = absurd (omega (arith, less))
fault_at n (f ∷ faults) zero d are less = are zero f refl
fault_at n (f ∷ faults) (suc k) d are less = fault_at n faults k d (λ place g at. are (suc place) g at) (omega (arith, less))

-- the fault at a place, where the design has two names
pub fault_of : (m n : Netlist) (faults : List Fault) (k : ℕ) (d : Fault) → m ≡ n → ((place : ℕ) (f : Fault) → slice_get faults place ≡ Some f → IsFault n f) → k < length faults → IsFault m (slice_index_or faults k d)
fault_of m n faults k d same are less = subst (λ x. IsFault x (slice_index_or faults k d)) (sym same) (fault_at n faults k d are less)

-- ---- one after another

-- what is searched so far, and the faults that are left
pub record SoFar (n : Netlist) (config : Config) (domain limit : ℕ) (faults : List Fault) (k : ℕ) (g : Gathered) : Type 0 where
  pub told : List Told
  pub count : length told ≡ k
  pub faults_are : faults_in told ++ drop k faults ≡ faults
  pub sought : AllSought n config domain limit 0 told
  pub gathered : IsGathered n config told g

pub none_yet : (n : Netlist) (config : Config) (domain limit : ℕ) (faults : List Fault) (g : Gathered) → IsGathered n config [] g → SoFar n config domain limit faults 0 g
none_yet n config domain limit faults g is = record { told = []; count = refl; faults_are = refl; sought = tt; gathered = is }

faults_push : (told : List Told) (t : Told) (rest : List Fault) → faults_in (told ++ t ∷ []) ++ rest ≡ faults_in told ++ t.fault ∷ rest
faults_push [] t rest = refl
faults_push (first ∷ told) t rest = ap (λ (fs : List Fault). first.fault ∷ fs) (faults_push told t rest)

sought_push : (n : Netlist) (config : Config) (domain limit number : ℕ) (told : List Told) (t : Told) → AllSought n config domain limit number told → IsSought (search_of n config domain t.fault) limit (cube_name (number + length told)) t.found → AllSought n config domain limit number (told ++ t ∷ [])
sought_push n config domain limit number [] t all is = let e : number + 0 ≡ number = omega arith in (subst (λ (k : ℕ). IsSought (search_of n config domain t.fault) limit (cube_name k) t.found) e is, tt)
sought_push n config domain limit number (first ∷ told) t all is =
    let e : number + suc (length told) ≡ suc number + length told = omega arith in
    (all.0, sought_push n config domain limit (suc number) told t all.1 (subst (λ (k : ℕ). IsSought (search_of n config domain t.fault) limit (cube_name k) t.found) e is))

pub one_more : (n : Netlist) (config : Config) (domain limit : ℕ) (faults : List Fault) (k : ℕ) (d : Fault) (found : Found) (old new : Gathered) → k < length faults
    → (so_far : SoFar n config domain limit faults k old) → IsSought (search_of n config domain (slice_index_or faults k d)) limit (cube_name k) found
    → ((told : List Told) → IsGathered n config told old → IsGathered n config (told ++ record { fault = slice_index_or faults k d; found = found } ∷ []) new) → SoFar n config domain limit faults (k + 1) new
one_more n config domain limit faults k d found old new less so_far is more =
    let t : Told = record { fault = slice_index_or faults k d; found = found } in
    let told = so_far.told in
    let count = so_far.count in
    let e : k ≡ 0 + length told = omega (arith, count) in
    record {
      told = told ++ t ∷ [];
      count = length-append told (t ∷ []) ∙ omega (arith, count);
      faults_are = faults_push told t (drop (k + 1) faults) ∙ ap (λ (fs : List Fault). faults_in told ++ fs) (sym (drop_more faults k d less)) ∙ so_far.faults_are;
      sought = sought_push n config domain limit 0 told t so_far.sought (subst (λ (j : ℕ). IsSought (search_of n config domain t.fault) limit (cube_name j) found) e is);
      gathered = more told so_far.gathered;
    }

-- there is room for the counts of one fault more
pub has_room : (n : Netlist) (config : Config) (domain limit : ℕ) (faults : List Fault) (k : ℕ) (g : Gathered) → k < length faults → length faults < 2 ^ 32 → SoFar n config domain limit faults k g → HasRoom g.counts
has_room n config domain limit faults k g less few so_far =
    let told = so_far.told in
    let count = so_far.count in
    subst HasRoom (sym so_far.gathered.counts) (record {
      faults = omega (arith, count, less, few);
      cubes = count_by-le-length _ told;
      not_testable = count_by-le-length _ told;
      aborted = count_by-le-length _ told;
    })

pub all_done : (n : Netlist) (config : Config) (domain limit : ℕ) (faults : List Fault) (k : ℕ) (g : Gathered) → length faults ≤ k → SoFar n config domain limit faults k g → AreSearched n config domain limit faults g
all_done n config domain limit faults k g far so_far = record {
  told = so_far.told;
  faults_are = sym (append-nil (faults_in so_far.told)) ∙ ap (λ (fs : List Fault). faults_in so_far.told ++ fs) (sym (drop_over faults k far)) ∙ so_far.faults_are;
  sought = so_far.sought;
  gathered = so_far.gathered;
}
