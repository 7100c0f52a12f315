-- A pattern only grows.
use Rattle.std.proofs.Common.{ℕ, zero, suc, Bool, false, List, [], ◌∷◌, ◌++◌, ◌≡◌, refl, sym, ap, subst, ◌∙◌, inl, inr, Some, slice_get, slice_set}
use Rattle.std.proofs.lemmas.Bool.{cases_eq}
use Rattle.std.proofs.lemmas.Option.{none-some, same_Some}
use Rattle.std.specs.List.{AllByRecursion}
use Rattle.dft_base.proofs.ListLemmas.{get_left, all_front, all_back}
use Rattle.dft_netlist.specs.declared.ids.NetId.{NetId}
use Rattle.dft_netlist.proofs.DriveLemmas.{get_set_same, get_set_other}
use Rattle.dft_netlist.proofs.Places.{get_push}
use Rattle.dft_cubes.specs.declared.cube.Cube.{Cube}
use Rattle.dft_cubes.specs.declared.cube.Merged.{Merged}
use Rattle.dft_merge.specs.declared.placed.Placed.{Placed}
use Rattle.dft_merge.specs.declared.placed.Placed.TheVariants.{Into, Unsolvable, Skipped}
use Rattle.dft_merge.specs.Rows.{CellRows}
use Rattle.dft_merge.specs.Placement.{Places, PlacesAll, begun, cell_number, has_opposite, joined, missing, port_number}
use Rattle.dft_merge.specs.Staying.{AllIn, CubesStay, IsIn}
use Rattle.dft_merge.proofs.BitLemmas.{Has, covered}
use Rattle.dft_merge.proofs.PlaceLemmas.{same_cell}

-- ---- entries of a list

-- the list has an entry of this number with this bit
pub record HasEntry {T : Type 0} (number : T → ℕ) (all : List (T × Bool)) (k : ℕ) (b : Bool) : Type 0 where
  pub place : ℕ
  pub entry : T × Bool
  pub at : slice_get all place ≡ Some entry
  pub is_number : number entry.0 ≡ k
  pub is_bit : entry.1 ≡ b

later_entries : {T : Type 0} (number : T → ℕ) (x : T × Bool) (all these : List (T × Bool)) → AllByRecursion (Has number (HasEntry number all)) these → AllByRecursion (Has number (HasEntry number (x ∷ all))) these
later_entries number x all [] each = tt
later_entries number x all (g ∷ these) each = let e = each.0 in (record { place = suc e.place; entry = e.entry; at = e.at; is_number = e.is_number; is_bit = e.is_bit }, later_entries number x all these each.1)

pub own_entries : {T : Type 0} (number : T → ℕ) (all : List (T × Bool)) → AllByRecursion (Has number (HasEntry number all)) all
own_entries number [] = tt
own_entries number (x ∷ all) = (record { place = zero; entry = x; at = refl; is_number = refl; is_bit = refl }, later_entries number x all all (own_entries number all))

entries_in : {T : Type 0} (number : T → ℕ) (these all : List (T × Bool)) → ((a b : T) → number a ≡ number b → a ≡ b) → AllByRecursion (Has number (HasEntry number all)) these → AllIn these all
entries_in number [] all one each k given at = absurd (none-some given at)
entries_in {T = T} number (x ∷ these) all one each zero given at =
    let e = each.0 in
    let same : e.entry ≡ x = (λ i. (one e.entry.0 x.0 e.is_number i, e.is_bit i)) in
    (e.place, e.at ∙ ap Some (same ∙ same_Some x given at))
entries_in number (x ∷ these) all one each (suc k) given at = entries_in number these all one each.1 k given at

-- all that a cube without opposite bits gives stands in the pattern with it
all_joined : {T : Type 0} (number : T → ℕ) (pattern cube : List (T × Bool)) → ((a b : T) → number a ≡ number b → a ≡ b) → has_opposite number pattern cube ≡ false → AllIn cube (pattern ++ missing number pattern cube)
all_joined number pattern cube one none =
    let all = pattern ++ missing number pattern cube in
    let each = own_entries number all in
    entries_in number cube all one
    (covered number (HasEntry number all) pattern cube none (all_front (Has number (HasEntry number all)) pattern (missing number pattern cube) each) (all_back (Has number (HasEntry number all)) pattern (missing number pattern cube) each))

in_front : {T : Type 0} (xs ys : List (T × Bool)) → AllIn xs (xs ++ ys)
in_front xs ys k given at = (k, get_left xs ys k given at)

all_then : {T : Type 0} (xs ys zs : List (T × Bool)) → AllIn xs ys → AllIn ys zs → AllIn xs zs
all_then xs ys zs one two k given at = let there = one k given at in two there.0 given there.1

all_same : {T : Type 0} (xs : List (T × Bool)) → AllIn xs xs
all_same xs k given at = (k, at)

one_port : (a b : NetId) → a.0 ≡ b.0 → a ≡ b
one_port a b same = λ i. record { 0 = same i }

-- ---- patterns

-- a pattern of later has what one has now
record Within (now later : Merged) : Type 0 where
  domains : later.domains ≡ now.domains
  cells : AllIn now.cells later.cells
  ports : AllIn now.ports later.ports

within_same : (pattern : Merged) → Within pattern pattern
within_same pattern = record { domains = refl; cells = all_same pattern.cells; ports = all_same pattern.ports }

within_then : (a b c : Merged) → Within a b → Within b c → Within a c
within_then a b c one two = record { domains = two.domains ∙ one.domains; cells = all_then a.cells b.cells c.cells one.cells two.cells; ports = all_then a.ports b.ports c.ports one.ports two.ports }

within_joined : (pattern : Merged) (cube : Cube) → Within pattern (joined pattern cube)
within_joined pattern cube = record {
  domains = refl;
  cells = in_front pattern.cells (missing cell_number pattern.cells cube.cells);
  ports = in_front pattern.ports (missing port_number pattern.ports cube.ports);
}

record Later (new : List Merged) (p : ℕ) (now : Merged) : Type 0 where
  pattern : Merged
  is : slice_get new p ≡ Some pattern
  within : Within now pattern

-- each pattern is there later, with all that it has
Grow : (old new : List Merged) → Type 0
Grow old new = (p : ℕ) (pattern : Merged) → slice_get old p ≡ Some pattern → Later new p pattern

grow_same : (old new : List Merged) → new ≡ old → Grow old new
unfolding Grow
grow_same old new same p pattern at = record { pattern = pattern; is = ap (λ (l : List Merged). slice_get l p) same ∙ at; within = within_same pattern }

grow_then : (a b c : List Merged) → Grow a b → Grow b c → Grow a c
unfolding Grow
grow_then a b c one two p pattern at =
    let x = one p pattern at in
    let y = two p x.pattern x.is in
    record { pattern = y.pattern; is = y.is; within = within_then pattern x.pattern y.pattern x.within y.within }

grow_set : (old new : List Merged) (p : ℕ) (pattern : Merged) (cube : Cube) → slice_get old p ≡ Some pattern → new ≡ slice_set old p (joined pattern cube) → Grow old new
unfolding Grow
grow_set old new p pattern cube at is q other there = elim (cases_eq p q) [
  | inl same ↦ record {
    pattern = joined pattern cube;
    is = (λ i. slice_get (is i) (sym same i)) ∙ get_set_same old p pattern (joined pattern cube) at;
    within = subst (λ (m : Merged). Within m (joined pattern cube)) (same_Some pattern other (sym at ∙ ap (slice_get old) same ∙ there)) (within_joined pattern cube);
  }
  | inr apart ↦ record { pattern = other; is = ap (λ (l : List Merged). slice_get l q) is ∙ get_set_other old p q (joined pattern cube) apart ∙ there; within = within_same other }
]

grow_push : (old new : List Merged) (pattern : Merged) → new ≡ old ++ pattern ∷ [] → Grow old new
unfolding Grow
grow_push old new pattern is p other at = record { pattern = other; is = ap (λ (l : List Merged). slice_get l p) is ∙ get_left old (pattern ∷ []) p other at; within = within_same other }

places_grow : (n : ℕ) (row : CellRows) (window : ℕ) (old new : List Merged) (cube : Cube) (placed : Placed) → Places n row window old cube placed new → Grow old new
places_grow n row window old new cube (Skipped cell) places = grow_same old new places.1
places_grow n row window old new cube (Into p) (scanned, inl joins) = grow_set old new p joins.pattern cube joins.is joins.patterns
places_grow n row window old new cube (Into p) (scanned, inr begins) = grow_push old new (begun cube) begins.patterns
places_grow n row window old new cube (Unsolvable ids) places = grow_same old new places.2

all_grow : (n : ℕ) (row : CellRows) (window : ℕ) (old new : List Merged) (cubes : List Cube) (placed : List Placed) → PlacesAll n row window old cubes placed new → Grow old new
all_grow n row window old new [] [] places = grow_same old new places
all_grow n row window old new [] (word ∷ placed) places = absurd places
all_grow n row window old new (cube ∷ cubes) [] places = absurd places
all_grow n row window old new (cube ∷ cubes) (word ∷ placed) places =
    grow_then old places.0 new (places_grow n row window old places.0 cube word places.1.0) (all_grow n row window places.0 new cubes placed places.1.1)

-- ---- cubes

here_in : (n : ℕ) (row : CellRows) (window : ℕ) (old new : List Merged) (cube : Cube) (p : ℕ) → Places n row window old cube (Into p) new → IsIn row new p cube
here_in n row window old new cube p (scanned, inl joins) = record {
  pattern = joined joins.pattern cube;
  is = ap (λ (l : List Merged). slice_get l p) joins.patterns ∙ get_set_same old p joins.pattern (joined joins.pattern cube) joins.is;
  holds = record {
    domains = joins.fits.domains;
    cells = all_joined cell_number joins.pattern.cells cube.cells same_cell joins.fits.cells;
    ports = all_joined port_number joins.pattern.ports cube.ports one_port joins.fits.ports;
  };
  scanned = scanned;
}
here_in n row window old new cube p (scanned, inr begins) = record {
  pattern = begun cube;
  is = (λ i. slice_get (begins.patterns i) (begins.number i)) ∙ get_push old (begun cube);
  holds = record { domains = refl; cells = all_same cube.cells; ports = all_same cube.ports };
  scanned = scanned;
}

later_in : (row : CellRows) (old new : List Merged) (p : ℕ) (cube : Cube) → Grow old new → IsIn row old p cube → IsIn row new p cube
unfolding Grow
later_in row old new p cube grow here =
    let l = grow p here.pattern here.is in
    record {
      pattern = l.pattern;
      is = l.is;
      holds = record {
        domains = l.within.domains ∙ here.holds.domains;
        cells = all_then cube.cells here.pattern.cells l.pattern.cells here.holds.cells l.within.cells;
        ports = all_then cube.ports here.pattern.ports l.pattern.ports here.holds.ports l.within.ports;
      };
      scanned = here.scanned;
    }

stay_from : (n : ℕ) (row : CellRows) (window : ℕ) (old new : List Merged) (cubes : List Cube) (placed : List Placed) → PlacesAll n row window old cubes placed new →
    (c p : ℕ) (cube : Cube) → slice_get cubes c ≡ Some cube → slice_get placed c ≡ Some (Into p) → IsIn row new p cube
stay_from n row window old new [] placed places c p cube at word = absurd (none-some cube at)
stay_from n row window old new (x ∷ cubes) [] places c p cube at word = absurd places
stay_from n row window old new (x ∷ cubes) (w ∷ placed) places zero p cube at word =
    let first : Places n row window old cube (Into p) places.0 = subst (λ (y : Cube). Places n row window old y (Into p) places.0) (same_Some x cube at) (subst (λ (v : Placed). Places n row window old x v places.0) (same_Some w (Into p) word) places.1.0) in
    later_in row places.0 new p cube (all_grow n row window places.0 new cubes placed places.1.1) (here_in n row window old places.0 cube p first)
stay_from n row window old new (x ∷ cubes) (w ∷ placed) places (suc c) p cube at word = stay_from n row window places.0 new cubes placed places.1.1 c p cube at word

pub cubes_stay : CubesStay
cubes_stay n row window cubes placed patterns places = stay_from n row window [] patterns cubes placed places
