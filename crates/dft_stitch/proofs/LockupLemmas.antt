-- What is known of the lock-ups of a plan, and what stands between two neighbours of a chain.
use Rattle.std.proofs.Common.{◌≡◌, ℕ, zero, suc, ◌+◌, ◌<◌, ◌≤◌, ◌==◌, ◌&&◌, not, Bool, true, false, List, [], ◌∷◌, ◌++◌, length, flat_map, filter_map, Option, None, Some, slice_get, slice_index_or, refl, sym, ◌∙◌, ap, subst, arith}
use Rattle.std.specs.Prelude.{if◌then◌else◌}
use Rattle.std.specs.Bool.{beq}
use Rattle.std.specs.List.{AllByRecursion, cons_option, range_with_len}
use Rattle.std.proofs.lemmas.Bool.{eqb-true}
use Rattle.std.proofs.lemmas.Option.{none-some, same_Some, slice_get_within, get_or_from_slice_get}
use Rattle.dft_base.proofs.ListLemmas.{get_left, get_right, get_range}
use Rattle.dft_netlist.specs.declared.ids.InstanceId.{InstanceId}
use Rattle.dft_rules.specs.declared.judged.Judged.{Judged}
use Rattle.dft_stitch.specs.declared.places.CellClock.{CellClock}
use Rattle.dft_stitch.specs.declared.places.LockupPlace.{LockupPlace}
use Rattle.dft_stitch.specs.Chains.{clock_at, is_falling, needs_lockup, lockup_between, lockup_after, lockups_in, lockups_of}

-- ---- one lock-up

-- a lock-up between two clocks: it has the domain of the first and the edge of both
pub record IsBetween (chain after : ℕ) (clock next : Option CellClock) (l : LockupPlace) : Type 0 where
  pub chain_is : l.chain ≡ chain
  pub after_is : l.after ≡ after
  pub clock_is : clock ≡ Some (record { domain = l.domain; falling = l.high })
  pub next_is : is_falling next ≡ l.high

same_edge : (f g b : Bool) → (beq f g && b) ≡ true → g ≡ f
same_edge true true b h = refl
same_edge false false b h = refl
same_edge true false b h = absurd cc
same_edge false true b h = absurd cc

between_by : (chain after : ℕ) (clock next : CellClock) (b : Bool) (l : LockupPlace) → needs_lockup clock next ≡ b →
    (if b then Some (record { chain = chain; after = after; domain = clock.domain; high = clock.falling }) else None) ≡ Some l → IsBetween chain after (Some clock) (Some next) l
between_by chain after clock next false l needs e = absurd (none-some l e)
between_by chain after clock next true l needs e =
    let same = same_Some (record { chain = chain; after = after; domain = clock.domain; high = clock.falling }) l e in
    record {
      chain_is = ap (λ (z : LockupPlace). z.chain) (sym same);
      after_is = ap (λ (z : LockupPlace). z.after) (sym same);
      clock_is = ap (λ (z : LockupPlace). Some (record { domain = z.domain; falling = z.high })) same;
      next_is = same_edge clock.falling next.falling (not (clock.domain == next.domain)) needs ∙ ap (λ (z : LockupPlace). z.high) same;
    }

pub between_is : (chain after : ℕ) (clock next : Option CellClock) (l : LockupPlace) → lockup_between chain after clock next ≡ Some l → IsBetween chain after clock next l
between_is chain after (Some clock) (Some next) l is = between_by chain after clock next (needs_lockup clock next) l refl is
between_is chain after (Some clock) None l is = absurd (none-some l is)
between_is chain after None next l is = absurd (none-some l is)

-- ---- all lock-ups

all_both : (P : LockupPlace → Type 0) (xs ys : List LockupPlace) → AllByRecursion P xs → AllByRecursion P ys → AllByRecursion P (xs ++ ys)
all_both P [] ys h k = k
all_both P (x ∷ xs) ys h k = (h.0, all_both P xs ys h.1 k)

all_kept : (P : LockupPlace → Type 0) (o : Option LockupPlace) (rest : List LockupPlace) → ((l : LockupPlace) → o ≡ Some l → P l) → AllByRecursion P rest → AllByRecursion P (cons_option o rest)
all_kept P None rest each more = more
all_kept P (Some l) rest each more = (each l refl, more)

all_filtered : (P : LockupPlace → Type 0) (f : ℕ → Option LockupPlace) (places : List ℕ) → ((place : ℕ) (l : LockupPlace) → f place ≡ Some l → P l) → AllByRecursion P (filter_map f places)
all_filtered P f [] each = tt
all_filtered P f (place ∷ places) each = all_kept P (f place) (filter_map f places) (each place) (all_filtered P f places each)

all_from : (P : LockupPlace → Type 0) (v : List (Option Judged)) (cs : List (List InstanceId)) (from count : ℕ) → from + count ≤ length cs →
    ((chain place : ℕ) (l : LockupPlace) → chain < length cs → lockup_after v chain (slice_index_or cs chain []) place ≡ Some l → P l) → AllByRecursion P (flat_map (lockups_in v cs) (range_with_len from count))
all_from P v cs from zero le each = tt
all_from P v cs from (suc count) le each =
    all_both P (lockups_in v cs from) (flat_map (lockups_in v cs) (range_with_len (from + 1) count))
    (all_filtered P (lockup_after v from (slice_index_or cs from [])) (range_with_len 0 (length (slice_index_or cs from []))) (λ place l is. each from place l (omega (arith, le)) is))
    (all_from P v cs (from + 1) count (omega (arith, le)) each)

-- what holds of a lock-up after each place holds of all
pub lockups_all : (P : LockupPlace → Type 0) (v : List (Option Judged)) (cs : List (List InstanceId)) →
    ((chain place : ℕ) (l : LockupPlace) → chain < length cs → lockup_after v chain (slice_index_or cs chain []) place ≡ Some l → P l) → AllByRecursion P (lockups_of v cs)
lockups_all P v cs each = all_from P v cs 0 (length cs) (omega arith) each

all_at : (P : LockupPlace → Type 0) (ls : List LockupPlace) (m : ℕ) (l : LockupPlace) → AllByRecursion P ls → slice_get ls m ≡ Some l → P l
all_at P [] m l h at = absurd (none-some l at)
all_at P (x ∷ ls) zero l h at = subst P (same_Some x l at) h.0
all_at P (x ∷ ls) (suc m) l h at = all_at P ls m l h.1 at

-- a lock-up stands between the cell at its place and the next one
abbrev pub IsPlaced : List (Option Judged) → List (List InstanceId) → LockupPlace → Type 0
IsPlaced v cs l = let cells = slice_index_or cs l.chain [] in IsBetween l.chain l.after (clock_at v cells l.after) (clock_at v cells (l.after + 1)) l

placed_at : (v : List (Option Judged)) (cs : List (List InstanceId)) (chain place : ℕ) (l : LockupPlace) → lockup_after v chain (slice_index_or cs chain []) place ≡ Some l → IsPlaced v cs l
placed_at v cs chain place l is =
    let it = between_is chain place (clock_at v (slice_index_or cs chain []) place) (clock_at v (slice_index_or cs chain []) (place + 1)) l is in
    let cells : slice_index_or cs l.chain [] ≡ slice_index_or cs chain [] = ap (λ (c : ℕ). slice_index_or cs c []) it.chain_is in
    record {
      chain_is = refl;
      after_is = refl;
      clock_is = ap (λ (z : List InstanceId). clock_at v z l.after) cells ∙ ap (clock_at v (slice_index_or cs chain [])) it.after_is ∙ it.clock_is;
      next_is = ap (λ (z : List InstanceId). is_falling (clock_at v z (l.after + 1))) cells ∙ ap (λ (k : ℕ). is_falling (clock_at v (slice_index_or cs chain []) (k + 1))) it.after_is ∙ it.next_is;
    }

pub lockup_placed : (v : List (Option Judged)) (cs : List (List InstanceId)) (m : ℕ) (l : LockupPlace) → slice_get (lockups_of v cs) m ≡ Some l → IsPlaced v cs l
lockup_placed v cs m l at = all_at (IsPlaced v cs) (lockups_of v cs) m l (lockups_all (IsPlaced v cs) v cs (λ chain place z less is. placed_at v cs chain place z is)) at

-- ---- a lock-up that is needed is there

get_flat : {X A : Type 0} (f : X → List A) (xs : List X) (j l : ℕ) (x : X) (y : A) → slice_get xs j ≡ Some x → slice_get (f x) l ≡ Some y → (m : ℕ) × (slice_get (flat_map f xs) m ≡ Some y)
get_flat f [] j l x y at within = absurd (none-some x at)
get_flat f (z ∷ xs) zero l x y at within = (l, get_left (f z) (flat_map f xs) l y (subst (λ v. slice_get (f v) l ≡ Some y) (sym (same_Some z x at)) within))
get_flat f (z ∷ xs) (suc j) l x y at within = let more = get_flat f xs j l x y at within in (length (f z) + more.0, get_right (f z) (flat_map f xs) more.0 y more.1)

kept_by : {A : Type 0} (o : Option A) (rest : List A) (y : A) → (m : ℕ) × (slice_get rest m ≡ Some y) → (m : ℕ) × (slice_get (cons_option o rest) m ≡ Some y)
kept_by None rest y more = more
kept_by (Some z) rest y more = (suc more.0, more.1)

get_filter : {X A : Type 0} (h : X → Option A) (xs : List X) (j : ℕ) (x : X) (y : A) → slice_get xs j ≡ Some x → h x ≡ Some y → (m : ℕ) × (slice_get (filter_map h xs) m ≡ Some y)
get_filter h [] j x y at is = absurd (none-some x at)
get_filter h (z ∷ xs) zero x y at is = (zero, ap (λ o. slice_get (cons_option o (filter_map h xs)) zero) (ap h (same_Some z x at) ∙ is))
get_filter h (z ∷ xs) (suc j) x y at is = kept_by (h z) (filter_map h xs) y (get_filter h xs j x y at is)

-- ---- neighbours

-- Two neighbours have one clock; or the first falls and the second rises, whatever their domains; or they have one edge and a lock-up is
-- planned between them.
pub data Neighbours (lockups : List LockupPlace) (chain place : ℕ) (clock next : CellClock) : Type 0 where
  OneClock : clock.domain ≡ next.domain → clock.falling ≡ next.falling → Neighbours lockups chain place clock next
  FallsFirst : clock.falling ≡ true → next.falling ≡ false → Neighbours lockups chain place clock next
  WithLockup : (number : ℕ) → slice_get lockups number ≡ Some (record { chain = chain; after = place; domain = clock.domain; high = clock.falling }) → Neighbours lockups chain place clock next

needed : (f g b : Bool) → f ≡ g → b ≡ false → (beq f g && not b) ≡ true
needed true true false same apart = refl
needed false false false same apart = refl
needed true false b same apart = absurd cc
needed false true b same apart = absurd cc
needed true true true same apart = absurd cc
needed false false true same apart = absurd cc

pub neighbours : (v : List (Option Judged)) (cs : List (List InstanceId)) (cells : List InstanceId) (chain place : ℕ) (cell : InstanceId) (clock next : CellClock) → slice_get cs chain ≡ Some cells → slice_get cells place ≡ Some cell →
    clock_at v cells place ≡ Some clock → clock_at v cells (suc place) ≡ Some next → (next.falling ≡ true → clock.falling ≡ true) → Neighbours (lockups_of v cs) chain place clock next
neighbours v cs cells chain place cell clock next at here one other first = by clock.falling next.falling (clock.domain == next.domain) refl refl refl
  where
    l : LockupPlace
    l = record { chain = chain; after = place; domain = clock.domain; high = clock.falling }

    with_lockup : clock.falling ≡ next.falling → (clock.domain == next.domain) ≡ false → Neighbours (lockups_of v cs) chain place clock next
    with_lockup same apart =
        let own : slice_index_or cs chain [] ≡ cells = get_or_from_slice_get cs chain cells [] at in
        let after : place + 1 ≡ suc place = omega arith in
        let needs : needs_lockup clock next ≡ true = needed clock.falling next.falling (clock.domain == next.domain) same apart in
        let made : lockup_after v chain (slice_index_or cs chain []) place ≡ Some l =
        ap (λ (z : List InstanceId). lockup_after v chain z place) own
        ∙ ap (λ o. lockup_between chain place o (clock_at v cells (place + 1))) one
        ∙ ap (λ o. lockup_between chain place (Some clock) o) (ap (clock_at v cells) after ∙ other)
        ∙ ap (λ b. if b then Some l else None) needs in
        let within : place < length (slice_index_or cs chain []) = subst (λ (z : List InstanceId). place < length z) (sym own) (slice_get_within cells place cell here) in
        let kept = get_filter (lockup_after v chain (slice_index_or cs chain [])) (range_with_len 0 (length (slice_index_or cs chain []))) place place l (get_range 0 (length (slice_index_or cs chain [])) place within ∙ ap Some (omega arith)) made in
        let listed = get_flat (lockups_in v cs) (range_with_len 0 (length cs)) chain kept.0 chain l (get_range 0 (length cs) chain (slice_get_within cs chain cells at) ∙ ap Some (omega arith)) kept.1 in
        WithLockup listed.0 listed.1

    by : (f g b : Bool) → clock.falling ≡ f → next.falling ≡ g → (clock.domain == next.domain) ≡ b → Neighbours (lockups_of v cs) chain place clock next
    by true false b falls rises same = FallsFirst falls rises
    by false true b rises falls same = absurd (let h = first falls in let e = sym rises ∙ h in cc)
    by true true true p q same = OneClock (eqb-true clock.domain next.domain same) (p ∙ sym q)
    by false false true p q same = OneClock (eqb-true clock.domain next.domain same) (p ∙ sym q)
    by true true false p q apart = with_lockup (p ∙ sym q) apart
    by false false false p q apart = with_lockup (p ∙ sym q) apart
