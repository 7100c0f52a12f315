-- The cube file of a search is read as the cubes that were found.
use Rattle.std.proofs.Common.{ℕ, zero, suc, ◌+◌, ◌≤◌, ◌<◌, ◌^◌, ◌≡◌, ◌∙◌, Bool, true, false, cond, ltb, List, [], ◌∷◌, ◌++◌, length, filter, Option, None, Some, Ok, slice_get, refl, sym, ap, subst, arith}
use Rattle.std.specs.Prelude.{if◌then◌else◌, nat_lt}
use Rattle.std.proofs.lemmas.Bool.Decides.{nat_tests}
use Rattle.std.proofs.lemmas.Fmt.{decimal_injective}
use Rattle.std.proofs.lemmas.List.{length-map}
use Rattle.std.proofs.lemmas.List.Recursion.{is_count_by}
use Rattle.std.proofs.lemmas.Option.{none-some, same_Some}
use Rattle.std.specs.Fmt.{decimal}
use Rattle.dft_base.specs.Lexing.{Text}
use Rattle.dft_base.specs.Name.{IsName}
use Rattle.dft_netlist.specs.Netlist.{Netlist}
use Rattle.dft_netlist.specs.Sound.{IsNetlist}
use Rattle.dft_config.specs.Config.{Config}
use Rattle.dft_config.specs.Range.{IsInRange}
use Rattle.dft_cubes.specs.declared.cube.Cube.{Cube}
use Rattle.dft_cubes.specs.declared.limits.TheConstants.{MAX_CUBES}
use Rattle.dft_cubes.specs.Cubes.{cubes_of}
use Rattle.dft_cubes.specs.Laws.{IsCube}
use Rattle.dft_cubes_out.specs.Laws.{CanBeWritten, IsWord}
use Rattle.dft_cubes_out.specs.Written.{clock_name, cubes_text, name_of, port_name}
use Rattle.dft_cubes_out.proofs.ReadLemmas.{written_cubes_are_read, there as stands_there}
use Rattle.dft_faults.specs.declared.fault.Fault.{Fault}
use Rattle.dft_seek.specs.declared.found.Found.{Found}
use Rattle.dft_seek.specs.declared.found.Found.TheVariants as found
use Rattle.dft_seek.specs.Searches.{Search}
use Rattle.dft_seek.specs.Walks.{Variable, candidates}
use Rattle.dft_seek.specs.Sought.{IsSought, cube_at, told as told_by}
use Rattle.dft_seeking.specs.declared.error.SeekError.{SeekError}
use Rattle.dft_seeking.specs.declared.error.SeekError.TheVariants.{TooManyCubes}
use Rattle.dft_seeking.specs.Laws.{GivesPlain, SavedAreRead, ToldAreCubes}
use Rattle.dft_seeking.specs.Refusals.{refusal}
use Rattle.dft_seeking.specs.Told.{AllSought, AreTold, Told, counts_of, cube_name, cubes_by, cubes_in, faults_in, is_cube, search_of}
use Rattle.dft_seeking.proofs.CellsGiven.{cells_sound, given_cell, given_kind, given_port, ports_sound}
use Rattle.dft_seeking.proofs.SearchLemmas.{few_faults, is_cube_name}

-- ---- the cube of a fault

-- some of the candidates' bits, by the number of a fault
record IsOf (n : Netlist) (config : Config) (domain number : ℕ) (cube : Cube) : Type 0 where
  fault : Fault
  chosen : Variable → Bool
  bits : List Bool
  is : cube ≡ cube_at (cube_name number) domain (filter chosen (candidates (search_of n config domain fault))) bits

abbrev cube_or : Cube → Found → Cube
cube_or other (found.Cube cube) = cube
cube_or other found.NotTestable = other
cube_or other found.Aborted = other

of_by : (n : Netlist) (config : Config) (domain number : ℕ) (fault : Fault) (chosen : Variable → Bool) (vs : List Variable) (cube : Cube) (many : Bool) (o : Option (List Bool)) → vs ≡ filter chosen (candidates (search_of n config domain fault)) →
    found.Cube cube ≡ (if many then found.Aborted else told_by (cube_name number) domain vs o) → IsOf n config domain number cube
of_by n config domain number fault chosen vs cube true o are is = absurd cc
of_by n config domain number fault chosen vs cube false None are is = absurd cc
of_by n config domain number fault chosen vs cube false (Some bits) are is =
    record { fault = fault; chosen = chosen; bits = bits; is = ap (cube_or cube) is ∙ ap (λ (ws : List Variable). cube_at (cube_name number) domain ws bits) are }

cube_of : (n : Netlist) (config : Config) (domain limit number : ℕ) (fault : Fault) (cube : Cube) → IsSought (search_of n config domain fault) limit (cube_name number) (found.Cube cube) → IsOf n config domain number cube
cube_of n config domain limit number fault cube is =
    of_by n config domain number fault is.is_cone.variables.chosen is.cone.variables cube (nat_lt limit is.dead) is.found is.is_cone.variables.are is.is

is_sound : (n : Netlist) (config : Config) (domain number : ℕ) (cube : Cube) → IsNetlist n → IsInRange config → domain < length config.domains → IsOf n config domain number cube → IsCube n config cube
is_sound n config domain number cube sound range there its =
    let s : Search = search_of n config domain its.fault in
    subst (IsCube n config) (sym its.is) (record {
      domains = (there, tt);
      cells = cells_sound s sound range its.chosen its.bits;
      ports = ports_sound s sound range its.chosen its.bits;
    })

-- ---- the cubes of all faults

-- from this number on, each is of one of so many faults
abbrev IsFrom : (n : Netlist) (config : Config) (domain number count : ℕ) → Cube → Type 0
IsFrom n config domain number count cube = (k : ℕ) × ((number ≤ k) × ((k < number + count) × IsOf n config domain k cube))

-- those of the faults behind the first one are of greater numbers
record AreFrom (n : Netlist) (config : Config) (domain number count : ℕ) (cubes : List Cube) : Type 0 where
  each : (j : ℕ) (cube : Cube) → slice_get cubes j ≡ Some cube → IsFrom n config domain number count cube
  apart : (j k : ℕ) (a b : Cube) → slice_get cubes j ≡ Some a → slice_get cubes k ≡ Some b → a.name ≡ b.name → j ≡ k

from_later : (n : Netlist) (config : Config) (domain number count : ℕ) (cube : Cube) → IsFrom n config domain (suc number) count cube → IsFrom n config domain number (suc count) cube
from_later n config domain number count cube f = (f.0, (let low = f.1.0 in omega (arith, low), (let less = f.1.1.0 in omega (arith, less), f.1.1.1)))

-- two names by their numbers
same_number : (j k : ℕ) → j < 2 ^ 64 → k < 2 ^ 64 → cube_name j ≡ cube_name k → j ≡ k
same_number j k a b same = decimal_injective j k a b (let e : decimal j ≡ decimal k = cc in e)

named_as : (n : Netlist) (config : Config) (domain number : ℕ) (cube : Cube) → IsOf n config domain number cube → cube.name ≡ cube_name number
named_as n config domain number cube its = ap (λ (c : Cube). c.name) its.is

-- the first one has a name that none behind it has
new_name : (n : Netlist) (config : Config) (domain number count : ℕ) (first cube : Cube) → number + suc count < 2 ^ 64 → IsOf n config domain number first → IsFrom n config domain (suc number) count cube → first.name ≡ cube.name → ⊥
new_name n config domain number count first cube few one other same =
    let low = other.1.0 in
    let less = other.1.1.0 in
    let e : number ≡ other.0 = same_number number other.0 (omega (arith, few)) (omega (arith, few, less)) (sym (named_as n config domain number first one) ∙ same ∙ named_as n config domain other.0 cube other.1.1.1) in
    omega (arith, e, low)

module _ (n : Netlist) (config : Config) (domain number count : ℕ) (few : number + suc count < 2 ^ 64) where
  each_on : (first : Cube) (cubes : List Cube) → IsOf n config domain number first → AreFrom n config domain (suc number) count cubes → (j : ℕ) (cube : Cube) → slice_get (first ∷ cubes) j ≡ Some cube → IsFrom n config domain number (suc count) cube
  each_on first cubes one rest zero cube at = (number, (omega arith, (omega arith, subst (IsOf n config domain number) (same_Some first cube at) one)))
  each_on first cubes one rest (suc j) cube at = from_later n config domain number count cube (rest.each j cube at)

  apart_on : (first : Cube) (cubes : List Cube) → IsOf n config domain number first → AreFrom n config domain (suc number) count cubes → (j k : ℕ) (a b : Cube) → slice_get (first ∷ cubes) j ≡ Some a → slice_get (first ∷ cubes) k ≡ Some b → a.name ≡ b.name → j ≡ k
  apart_on first cubes one rest zero zero a b at also same = refl
  apart_on first cubes one rest zero (suc k) a b at also same =
      absurd (new_name n config domain number count a b few (subst (IsOf n config domain number) (same_Some first a at) one) (rest.each k b also) same)
  apart_on first cubes one rest (suc j) zero a b at also same =
      absurd (new_name n config domain number count b a few (subst (IsOf n config domain number) (same_Some first b also) one) (rest.each j a at) (sym same))
  apart_on first cubes one rest (suc j) (suc k) a b at also same = ap suc (rest.apart j k a b at also same)

  from_on : (limit : ℕ) (fault : Fault) (f : Found) (cubes : List Cube) → IsSought (search_of n config domain fault) limit (cube_name number) f → AreFrom n config domain (suc number) count cubes → AreFrom n config domain number (suc count) (cubes_by f ++ cubes)
  from_on limit fault (found.Cube cube) cubes is rest =
      let one : IsOf n config domain number cube = cube_of n config domain limit number fault cube is in
      record { each = each_on cube cubes one rest; apart = apart_on cube cubes one rest }
  from_on limit fault found.NotTestable cubes is rest = record { each = λ j cube at. from_later n config domain number count cube (rest.each j cube at); apart = rest.apart }
  from_on limit fault found.Aborted cubes is rest = record { each = λ j cube at. from_later n config domain number count cube (rest.each j cube at); apart = rest.apart }

all_from : (n : Netlist) (config : Config) (domain limit number : ℕ) (told : List Told) → number + length told < 2 ^ 64 → AllSought n config domain limit number told → AreFrom n config domain number (length told) (cubes_in told)
all_from n config domain limit number [] few all = record { each = λ j cube at. absurd (none-some cube at); apart = λ j k a b at also same. absurd (none-some a at) }
all_from n config domain limit number (t ∷ told) few all =
    from_on n config domain number (length told) few limit t.fault t.found (cubes_in told) all.0 (all_from n config domain limit (suc number) told (omega (arith, few)) all.1)

few_told : (n : Netlist) (config : Config) (domain limit : ℕ) (told : List Told) → IsNetlist n → AreTold n config domain limit told → length told < 2 ^ 32
few_told n config domain limit told sound are =
    let same : length (faults_in told) ≡ length told = length-map told (λ (t : Told). t.fault) in
    omega (arith, same, few_faults n config (faults_in told) sound.few_nets are.faults)

told_from : (n : Netlist) (config : Config) (domain limit : ℕ) (told : List Told) → IsNetlist n → AreTold n config domain limit told → AreFrom n config domain 0 (length told) (cubes_in told)
told_from n config domain limit told sound are = all_from n config domain limit 0 told (omega (arith, few_told n config domain limit told sound are)) are.sought

pub told_cubes : ToldAreCubes
told_cubes n config domain limit told sound range there are =
    let from = told_from n config domain limit told sound are in
    record { names = from.apart; each = λ k cube at. (let f = from.each k cube at in is_sound n config domain f.0 cube sound range there f.1.1.1) }

-- ---- each can be written

can_be : (n : Netlist) (config : Config) (domain number : ℕ) (cube : Cube) → IsNetlist n → IsInRange config → number < 2 ^ 64 → IsWord (clock_name config domain) → IsOf n config domain number cube → GivesPlain n cube → CanBeWritten n config cube
can_be n config domain number cube sound range few clock its plain =
    let s : Search = search_of n config domain its.fault in
    subst (λ (c : Cube). GivesPlain n c → CanBeWritten n config c) (sym its.is) (λ free. record {
      once = refl;
      name = record { name = is_cube_name number few; plain = λ is. (let e : 115 ≡ 35 = is in absurd (omega (arith, e))) };
      clock = clock;
      kinds = given_kind s sound range its.chosen its.bits;
      cells = λ k given at. (let it = given_cell s sound range its.chosen its.bits k given at in record { name = subst IsName (sym (ap name_of it.named.there)) it.named.is; plain = free.cells k given at });
      ports = λ k given at. (let live = given_port s sound range its.chosen its.bits k given at in record { name = sound.named.nets given.0.0 (port_name n given.0.0) (stands_there n.nets given.0.0 live); plain = free.ports k given at });
    }) plain

-- ---- not too many

one_or_none : (f : Found) (cubes : List Cube) (count : ℕ) → length cubes ≡ count → length (cubes_by f ++ cubes) ≡ cond (is_cube f) (1 + count) count
one_or_none (found.Cube cube) cubes count is = omega (arith, is)
one_or_none found.NotTestable cubes count is = is
one_or_none found.Aborted cubes count is = is

counted : (told : List Told) → length (cubes_in told) ≡ (counts_of told).cubes
counted told = is_count_by (λ (ts : List Told). length (cubes_in ts)) (λ t. is_cube t.found) refl (λ t ts. one_or_none t.found (cubes_in ts) (length (cubes_in ts)) refl) told

few_by : (count : ℕ) (b : Bool) (rest : Option SeekError) → ltb MAX_CUBES count ≡ b → (if b then Some TooManyCubes else rest) ≡ None → count ≤ MAX_CUBES
few_by count true rest many is = absurd (none-some TooManyCubes (sym is))
few_by count false rest few is = grind (arith, nat_tests)

few_cubes : (n : Netlist) (config : Config) (told : List Told) → refusal n config told ≡ None → (counts_of told).cubes ≤ MAX_CUBES
few_cubes n config told passed = few_by (counts_of told).cubes (ltb MAX_CUBES (counts_of told).cubes) _ refl passed

-- ---- the cube file

domain_there : (domains : List Text) (domain : ℕ) → IsName (name_of (slice_get domains domain)) → domain < length domains
domain_there [] domain is = absurd (let some : 0 < 0 = is.some in omega (arith, some))
domain_there (x ∷ domains) zero is = omega arith
domain_there (x ∷ domains) (suc domain) is = omega (arith, domain_there domains domain is)

-- the text of what is told
pub told_read : (n : Netlist) (config : Config) (domain limit : ℕ) (told : List Told) → IsNetlist n → IsInRange config → IsWord (clock_name config domain) → AreTold n config domain limit told → refusal n config told ≡ None →
    ((k : ℕ) (cube : Cube) → slice_get (cubes_in told) k ≡ Some cube → GivesPlain n cube) → cubes_of n config (cubes_text n config (cubes_in told)) ≡ Ok (cubes_in told)
told_read n config domain limit told sound range clock are passed plain =
    let there = domain_there config.domains domain clock.name in
    let from = told_from n config domain limit told sound are in
    let few = few_told n config domain limit told sound are in
    written_cubes_are_read n config (cubes_in told) sound range (told_cubes n config domain limit told sound range there are)
    (λ k cube at. (let f = from.each k cube at in can_be n config domain f.0 cube sound range (let less = f.1.1.0 in omega (arith, less, few)) clock f.1.1.1 (plain k cube at)))
    (omega (arith, counted told, few_cubes n config told passed))

pub saved_read : SavedAreRead
saved_read n config domain limit s sound range clock done plain = ap (cubes_of n config) done.ended.cubes ∙ told_read n config domain limit done.told sound range clock done.are done.ended.passed plain
