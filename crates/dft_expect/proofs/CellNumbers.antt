-- The cells of all chains by their numbers: each stands at one, and has the loaded bit of that number.
use Rattle.std.proofs.Common.{ℕ, zero, suc, ◌+◌, ◌≡◌, Bool, true, false, List, [], ◌∷◌, ◌++◌, length, take, slice_get, Option, None, Some, refl, sym, subst, ap, arith, length-append, ◌∙◌}
use Rattle.std.specs.Prelude.{◌==◌, if◌then◌else◌}
use Rattle.std.proofs.lemmas.Bool.{eqb-true}
use Rattle.std.proofs.lemmas.Bool.Decides.{nat_tests}
use Rattle.std.proofs.lemmas.Option.{none-some, same_Some}
use Rattle.dft_netlist.specs.declared.ids.InstanceId.{InstanceId}
use Rattle.dft_netlist.specs.Netlist.{Netlist}
use Rattle.dft_config.specs.Config.{Config}
use Rattle.dft_stitch.specs.Chains.{plan_of}
use Rattle.dft_stitch.specs.Plans.{cell_at}
use Rattle.dft_stitch.specs.Laws.{StandsOnce, IsScanned}
use Rattle.dft_stitch.proofs.OnceLemmas.{cells_once, cells_scanned}
use Rattle.dft_expect.specs.Loaded.{all_cells, bit_of_cell}
use Rattle.dft_expect.specs.Capturing.{CanCapture, cells_in}
use Rattle.dft_expect.proofs.UnloadLemmas.{before}

-- ---- places and numbers

-- the place of a number
pub record IsPlace (chains : List (List InstanceId)) (number : ℕ) (cell : InstanceId) : Type 0 where
  pub chain : ℕ
  pub place : ℕ
  pub at : cell_at chains chain place ≡ Some cell
  pub far : number ≡ before chains chain + place

place_more : (c : List InstanceId) (cs : List (List InstanceId)) (number k : ℕ) (cell : InstanceId) → number ≡ length c + k → IsPlace cs k cell → IsPlace (c ∷ cs) number cell
place_more c cs number k cell is it =
    record { chain = suc it.chain; place = it.place; at = it.at; far = omega (arith, is, it.far, length-append c (all_cells (take it.chain cs))) }

place_in : (c : List InstanceId) (cs : List (List InstanceId)) (front : List InstanceId) (skip number : ℕ) (cell : InstanceId) → ((k : ℕ) → slice_get (all_cells cs) k ≡ Some cell → IsPlace cs k cell) → ((k : ℕ) → slice_get front k ≡ Some cell → slice_get c (skip + k) ≡ Some cell) → length c ≡ skip + length front
    → slice_get (front ++ all_cells cs) number ≡ Some cell → IsPlace (c ∷ cs) (skip + number) cell
place_in c cs [] skip number cell later here size at = place_more c cs (skip + number) number cell (omega (arith, size)) (later number at)
place_in c cs (x ∷ front) skip zero cell later here size at =
    record { chain = zero; place = skip + 0; at = here 0 at; far = omega arith }
place_in c cs (x ∷ front) skip (suc number) cell later here size at =
    let moved : suc skip + number ≡ skip + suc number = omega arith in
    subst (λ (k : ℕ). IsPlace (c ∷ cs) k cell) moved
    (place_in c cs front (suc skip) number cell later (λ k is. (let m : skip + suc k ≡ suc skip + k = omega arith in subst (λ (j : ℕ). slice_get c j ≡ Some cell) m (here (suc k) is))) (omega (arith, size)) at)

pub place_of : (chains : List (List InstanceId)) (number : ℕ) (cell : InstanceId) → slice_get (all_cells chains) number ≡ Some cell → IsPlace chains number cell
place_of [] number cell at = absurd (none-some cell at)
place_of (c ∷ cs) number cell at =
    let e : 0 + number ≡ number = omega arith in
    subst (λ (j : ℕ). IsPlace (c ∷ cs) j cell) e
    (place_in c cs c 0 number cell (λ k is. place_of cs k cell is) (λ k is. (let f : k ≡ 0 + k = omega arith in subst (λ (j : ℕ). slice_get c j ≡ Some cell) f is)) (omega arith) at)

-- the number of a place
front_at : (xs ys : List InstanceId) (k : ℕ) (cell : InstanceId) → slice_get xs k ≡ Some cell → slice_get (xs ++ ys) k ≡ Some cell
front_at [] ys k cell at = absurd (none-some cell at)
front_at (x ∷ xs) ys zero cell at = at
front_at (x ∷ xs) ys (suc k) cell at = front_at xs ys k cell at

back_at : (xs ys : List InstanceId) (k : ℕ) (cell : InstanceId) → slice_get ys k ≡ Some cell → slice_get (xs ++ ys) (length xs + k) ≡ Some cell
back_at [] ys k cell at = let e : k ≡ 0 + k = omega arith in subst (λ (j : ℕ). slice_get ys j ≡ Some cell) e at
back_at (x ∷ xs) ys k cell at =
    let e : suc (length xs + k) ≡ suc (length xs) + k = omega arith in
    subst (λ (j : ℕ). slice_get (x ∷ xs ++ ys) j ≡ Some cell) e (back_at xs ys k cell at)

pub number_of : (chains : List (List InstanceId)) (chain place : ℕ) (cell : InstanceId) → cell_at chains chain place ≡ Some cell → slice_get (all_cells chains) (before chains chain + place) ≡ Some cell
number_of [] chain place cell at = absurd (none-some cell at)
number_of (c ∷ cs) zero place cell at =
    let e : place ≡ before (c ∷ cs) 0 + place = omega arith in
    subst (λ (j : ℕ). slice_get (all_cells (c ∷ cs)) j ≡ Some cell) e (front_at c (all_cells cs) place cell at)
number_of (c ∷ cs) (suc chain) place cell at =
    let far : length c + (before cs chain + place) ≡ before (c ∷ cs) (suc chain) + place = omega (arith, length-append c (all_cells (take chain cs))) in
    subst (λ (k : ℕ). slice_get (all_cells (c ∷ cs)) k ≡ Some cell) far (back_at c (all_cells cs) (before cs chain + place) cell (number_of cs chain place cell at))

-- ---- each cell stands once

pub stands_once : (n : Netlist) (config : Config) (a b : ℕ) (cell : InstanceId) → CanCapture n config → slice_get (cells_in n config) a ≡ Some cell → slice_get (cells_in n config) b ≡ Some cell → a ≡ b
stands_once n config a b cell can at also =
    let chains = (plan_of n config).chains in
    let p : IsPlace chains a cell = place_of chains a cell at in
    let q : IsPlace chains b cell = place_of chains b cell also in
    let it : IsScanned n config cell.0 = cells_scanned n config p.chain p.place cell can.range p.at in
    let once : StandsOnce chains cell = cells_once n config cell.0 it.domain it.falling can.range it.is in
    let one = once.only p.chain p.place p.at in
    let other = once.only q.chain q.place q.at in
    let chain : p.chain ≡ q.chain = one.0 ∙ sym other.0 in
    omega (arith, p.far, q.far, ap (before chains) chain, one.1, other.1)

-- ---- the loaded bit of a cell

bit_by : (c : ℕ) (cell : InstanceId) (cells : List InstanceId) (bit : Bool) (bits : List Bool) (number : ℕ) (b : Bool) → (cell.0 == c) ≡ b
    → ((j k : ℕ) → slice_get (cell ∷ cells) j ≡ Some (record { 0 = c }) → slice_get (cell ∷ cells) k ≡ Some (record { 0 = c }) → j ≡ k)
    → slice_get (cell ∷ cells) number ≡ Some (record { 0 = c })
    → ((k : ℕ) → slice_get cells k ≡ Some (record { 0 = c }) → bit_of_cell cells bits c ≡ slice_get bits k)
    → (if b then Some bit else bit_of_cell cells bits c) ≡ slice_get (bit ∷ bits) number
bit_by c cell cells bit bits zero true is once at more = refl
bit_by c cell cells bit bits (suc k) true is once at more =
    let here : slice_get (cell ∷ cells) 0 ≡ Some (record { 0 = c }) = ap (λ (j : ℕ). Some (record { 0 = j })) (eqb-true cell.0 c is) in
    absurd (omega (arith, once 0 (suc k) here at))
bit_by c cell cells bit bits zero false is once at more =
    let same : cell.0 ≡ c = ap (λ (x : InstanceId). x.0) (same_Some cell (record { 0 = c }) at) in
    let yes : (cell.0 == c) ≡ true = grind (arith, nat_tests) in
    absurd (let f : ⊥ = cc in f)
bit_by c cell cells bit bits (suc k) false is once at more = more k at

pub bit_is : (cells : List InstanceId) (loaded : List Bool) (number c : ℕ) → ((j k : ℕ) → slice_get cells j ≡ Some (record { 0 = c }) → slice_get cells k ≡ Some (record { 0 = c }) → j ≡ k)
    → slice_get cells number ≡ Some (record { 0 = c }) → bit_of_cell cells loaded c ≡ slice_get loaded number
bit_is [] loaded number c once at = absurd (none-some (record { 0 = c }) at)
bit_is (cell ∷ cells) [] number c once at = refl
bit_is (cell ∷ cells) (bit ∷ bits) number c once at =
    bit_by c cell cells bit bits number (cell.0 == c) refl once at (λ k is. bit_is cells bits k c (λ j l one two. (let e = once (suc j) (suc l) one two in omega arith)) is)

none_by : (c : ℕ) (cell : InstanceId) (bit : Bool) (rest : Option Bool) (b : Bool) → (cell.0 == c) ≡ b → (Some cell ≡ Some (record { 0 = c }) → ⊥) → rest ≡ None → (if b then Some bit else rest) ≡ None
none_by c cell bit rest true is apart none = absurd (apart (ap (λ (j : ℕ). Some (record { 0 = j })) (eqb-true cell.0 c is)))
none_by c cell bit rest false is apart none = none

pub bit_none : (cells : List InstanceId) (loaded : List Bool) (c : ℕ) → ((k : ℕ) → slice_get cells k ≡ Some (record { 0 = c }) → ⊥) → bit_of_cell cells loaded c ≡ None
bit_none [] loaded c apart = refl
bit_none (cell ∷ cells) [] c apart = refl
bit_none (cell ∷ cells) (bit ∷ bits) c apart = none_by c cell bit (bit_of_cell cells bits c) (cell.0 == c) refl (apart 0) (bit_none cells bits c (λ k. apart (suc k)))
