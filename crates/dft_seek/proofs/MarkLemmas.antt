-- Marks that grow, and walks from them: one net more, one list more, one round more.
use Rattle.std.proofs.Common.{ℕ, zero, suc, ◌+◌, ◌-◌, ◌≡◌, ◌<◌, ◌≤◌, ◌==◌, ◌⊎◌, inl, inr, Bool, true, false, ◌||◌, List, [], ◌∷◌, ◌++◌, length, drop, get_or, take, refl, sym, subst, ap, arith, ◌∙◌, slice_set, get_or-set_same, get_or-set_other, true≢false, drop-cons, add-one}
use Rattle.std.specs.List.{list_any}
use Rattle.std.proofs.lemmas.Bool.{eqb-true, or_parts}
use Rattle.std.proofs.lemmas.Bool.Decides.{eqb_tells, leb_tells}
use Rattle.std.proofs.lemmas.List.{length-set, get_or_past, drop_all, take_all, take_more}
use Rattle.dft_netlist.proofs.StandLemmas.{numbers_push}
use Rattle.dft_netlist.specs.declared.ids.NetId.{NetId}
use Rattle.dft_netlist.specs.Orders.{numbers_of}
use Rattle.dft_logic.specs.Circuit.{flag_at}
use Rattle.dft_seek.specs.Walks.{is_among}
use Rattle.dft_seek.specs.Marks.{Draws, Grows, Here, IsBefore, IsBehind, IsDrawn, IsSpread, Onward, Path, Raises, Spreads, ups}
use Rattle.dft_seek.proofs.PinLemmas.{among_here, among_left, among_right}

-- ---- flags

or_false : (a : Bool) → (a || false) ≡ true → a ≡ true
or_false true is = refl
or_false false is = is

pub either_up : (a b : Bool) → (a || b) ≡ true → (a ≡ true) ⊎ (b ≡ true)
either_up true b is = inl refl
either_up false b is = inr is

-- a flag that is up is there
pub up_live : (flags : List Bool) (k : ℕ) → flag_at flags k ≡ true → k < length flags
up_live flags k is = elim (leb_tells (length flags) k) [
  | inl out ↦ absurd (true≢false (sym is ∙ get_or_past flags k false out.1))
  | inr less ↦ less.1
]

pub among_one : (k net : ℕ) → is_among k (net ∷ []) ≡ true → k ≡ net
among_one k net is = sym (eqb-true net k (or_false (net == k) is))

pub among_either : (k : ℕ) (xs ys : List ℕ) → is_among k (xs ++ ys) ≡ true → (is_among k xs ≡ true) ⊎ (is_among k ys ≡ true)
among_either k [] ys is = inr is
among_either k (x ∷ xs) ys is = by (x == k) (is_among k (xs ++ ys)) (is_among k xs) (among_either k xs ys) is
  where
    by : (a b c : Bool) → (b ≡ true → (c ≡ true) ⊎ (is_among k ys ≡ true)) → (a || b) ≡ true → ((a || c) ≡ true) ⊎ (is_among k ys ≡ true)
    by true b c below h = inl refl
    by false b c below h = below h

ups_set : (flags : List Bool) (k : ℕ) → k < length flags → flag_at flags k ≡ false → ups (slice_set flags k true) ≡ suc (ups flags)
ups_set [] k less is = absurd (omega (arith, less))
ups_set (true ∷ flags) zero less is = absurd (true≢false is)
ups_set (false ∷ flags) zero less is = refl
ups_set (true ∷ flags) (suc k) less is = ap suc (ups_set flags k (omega (arith, less)) is)
ups_set (false ∷ flags) (suc k) less is = ups_set flags k (omega (arith, less)) is

pub ups_few : (flags : List Bool) → ups flags ≤ length flags
ups_few [] = omega arith
ups_few (true ∷ flags) = omega (arith, ups_few flags)
ups_few (false ∷ flags) = omega (arith, ups_few flags)

-- ---- growth

pub grows_none : (flags : List Bool) → Grows flags flags false
grows_none flags = record { size = refl; kept = λ k up. up; still = λ is. refl; grows = omega arith; more = λ is. absurd (true≢false (sym is)) }

pub grows_join : (a b c : List Bool) (p q : Bool) → Grows a b p → Grows b c q → Grows a c (p || q)
grows_join a b c p q one two = record {
  size = two.size ∙ one.size;
  kept = λ k up. two.kept k (one.kept k up);
  still = λ is. two.still (or_parts p q is).1 ∙ one.still (or_parts p q is).0;
  grows = omega (arith, one.grows, two.grows);
  more = λ is. elim (either_up p q is) [
    | inl fresh ↦ (let first = one.more fresh in omega (arith, first, two.grows))
    | inr fresh ↦ (let second = two.more fresh in omega (arith, one.grows, second))
  ];
}

-- ---- one net

pub raise_none : (flags : List Bool) (net : ℕ) → (net < length flags → flag_at flags net ≡ true) → Raises flags flags (net ∷ []) false
raise_none flags net up = record {
  grown = grows_none flags;
  only = λ k is. inl is;
  done = λ k among less. (let P : ℕ → Type 0 = λ n. n < length flags → flag_at flags n ≡ true in subst P (sym (among_one k net among)) up less);
}

pub raise_one : (flags : List Bool) (net : ℕ) → net < length flags → flag_at flags net ≡ false → Raises flags (slice_set flags net true) (net ∷ []) true
raise_one flags net less down = record {
  grown = record {
    size = length-set flags net true;
    kept = λ k up. elim (eqb_tells k net) [
      | inl same ↦ ap (flag_at (slice_set flags net true)) same.1 ∙ get_or-set_same flags net true false less
      | inr other ↦ get_or-set_other flags net k true false other.1 ∙ up
    ];
    still = λ is. absurd (true≢false is);
    grows = (let e = ups_set flags net less down in omega (arith, e));
    more = λ is. (let e = ups_set flags net less down in omega (arith, e));
  };
  only = λ k up. elim (eqb_tells k net) [
    | inl same ↦ inr (ap (λ (n : ℕ). is_among n (net ∷ [])) same.1 ∙ among_here net [])
    | inr other ↦ inl (sym (get_or-set_other flags net k true false other.1) ∙ up)
  ];
  done = λ k among live. ap (flag_at (slice_set flags net true)) (among_one k net among) ∙ get_or-set_same flags net true false less;
}

-- ---- more nets

pub raises_none : (flags : List Bool) → Raises flags flags [] false
raises_none flags = record { grown = grows_none flags; only = λ k is. inl is; done = λ k among less. absurd (true≢false (sym among)) }

pub raises_join : (a b c : List Bool) (xs ys : List ℕ) (p q : Bool) → Raises a b xs p → Raises b c ys q → Raises a c (xs ++ ys) (p || q)
raises_join a b c xs ys p q one two = record {
  grown = grows_join a b c p q one.grown two.grown;
  only = λ k up. elim (two.only k up) [
    | inl was ↦ elim (one.only k was) [ inl first ↦ inl first | inr among ↦ inr (among_left k xs ys among) ]
    | inr among ↦ inr (among_right k xs ys among)
  ];
  done = λ k among less. elim (among_either k xs ys among) [
    | inl first ↦ two.grown.kept k (one.done k first less)
    | inr second ↦ two.done k second (let e = one.grown.size in omega (arith, less, e))
  ];
}

-- the numbers of one net more
pub numbers_more : (nets : List NetId) (j : ℕ) (d : NetId) → j < length nets → numbers_of (take (j + 1) nets) ≡ numbers_of (take j nets) ++ (get_or nets j d).0 ∷ []
numbers_more nets j d less = ap numbers_of (take_more nets j d less) ∙ numbers_push (take j nets) (get_or nets j d)

pub raises_more : (nets : List NetId) (j : ℕ) (d : NetId) (a b c : List Bool) (p q : Bool) → j < length nets → Raises a b (numbers_of (take j nets)) p → Raises b c ((get_or nets j d).0 ∷ []) q → Raises a c (numbers_of (take (j + 1) nets)) (p || q)
raises_more nets j d a b c p q less one two =
    subst (λ (ns : List ℕ). Raises a c ns (p || q)) (sym (numbers_more nets j d less)) (raises_join a b c (numbers_of (take j nets)) ((get_or nets j d).0 ∷ []) p q one two)

pub raises_all : (nets : List NetId) (j : ℕ) (a b : List Bool) (p : Bool) → length nets ≤ j → Raises a b (numbers_of (take j nets)) p → Raises a b (numbers_of nets) p
raises_all nets j a b p past is = subst (λ (ns : List NetId). Raises a b (numbers_of ns) p) (take_all j nets past) is

-- ---- paths

pub path_join : (steps : ℕ → List ℕ) (a b c : ℕ) → Path steps a b → Path steps b c → Path steps a c
path_join steps a b c one Here = one
path_join steps a b c one (Onward {by = by} two step) = Onward (path_join steps a b by one two) step

-- one of the nets from which a walk goes on is marked
pub any_among : (flags : List Bool) (nets : List ℕ) → list_any (flag_at flags) nets ≡ true → (k : ℕ) × ((flag_at flags k ≡ true) × (is_among k nets ≡ true))
any_among flags [] is = absurd (true≢false (sym is))
any_among flags (x ∷ nets) is = elim (either_up (flag_at flags x) (list_any (flag_at flags) nets) is) [
  | inl here ↦ (x, (here, among_here x nets))
  | inr later ↦ (let found = any_among flags nets later in (found.0, (found.1.0, among_right found.0 (x ∷ []) nets found.1.1)))
]

-- ---- onwards

behind_here : (steps : ℕ → List ℕ) (marked : List Bool) (k : ℕ) → flag_at marked k ≡ true → IsBehind steps marked k
behind_here steps marked k up = record { from = k; is_up = up; path = Here }

behind_more : (steps : ℕ → List ℕ) (a b : List Bool) (k : ℕ) → ((n : ℕ) → flag_at b n ≡ true → IsBehind steps a n) → IsBehind steps b k → IsBehind steps a k
behind_more steps a b k each is =
    let first = each is.from is.is_up in
    record { from = first.from; is_up = first.is_up; path = path_join steps first.from is.from k first.path is.path }

pub spread_no : (steps : ℕ → List ℕ) (net : ℕ) (flags : List Bool) → list_any (flag_at flags) (steps net) ≡ false → Spreads steps (net ∷ []) flags flags false
spread_no steps net flags none = record {
  grown = grows_none flags;
  only = λ k up. behind_here steps flags k up;
  closed = λ is k among less any. absurd (true≢false (sym any ∙ ap (λ (n : ℕ). list_any (flag_at flags) (steps n)) (among_one k net among) ∙ none));
}

pub spread_yes : (steps : ℕ → List ℕ) (net : ℕ) (old new : List Bool) (fresh : Bool) → list_any (flag_at old) (steps net) ≡ true → Raises old new (net ∷ []) fresh → Spreads steps (net ∷ []) old new fresh
spread_yes steps net old new fresh any raised =
    let found = any_among old (steps net) any in
    record {
      grown = raised.grown;
      only = λ k up. elim (raised.only k up) [
        | inl was ↦ behind_here steps old k was
        | inr among ↦ record { from = found.0; is_up = found.1.0; path = Onward Here (ap (λ (n : ℕ). is_among found.0 (steps n)) (among_one k net among) ∙ found.1.1) }
      ];
      closed = λ is k among less some. raised.done k among less;
    }

pub spreads_none : (steps : ℕ → List ℕ) (flags : List Bool) → Spreads steps [] flags flags false
spreads_none steps flags = record { grown = grows_none flags; only = λ k up. behind_here steps flags k up; closed = λ is k among less any. absurd (true≢false (sym among)) }

spreads_join : (steps : ℕ → List ℕ) (a b c : List Bool) (xs ys : List ℕ) (p q : Bool) → Spreads steps xs a b p → Spreads steps ys b c q → Spreads steps (xs ++ ys) a c (p || q)
spreads_join steps a b c xs ys p q one two = record {
  grown = grows_join a b c p q one.grown two.grown;
  only = λ k up. behind_more steps a b k one.only (two.only k up);
  closed = λ is k among less any.
      (let same : c ≡ b = two.grown.still (or_parts p q is).1 in
      elim (among_either k xs ys among) [
        | inl first ↦ two.grown.kept k (one.closed (or_parts p q is).0 k first less (ap (λ (flags : List Bool). list_any (flag_at flags) (steps k)) (sym same) ∙ any))
        | inr second ↦ two.closed (or_parts p q is).1 k second (let e = one.grown.size in omega (arith, less, e)) any
      ]);
}

pub spreads_more : (steps : ℕ → List ℕ) (nets : List NetId) (j : ℕ) (d : NetId) (a b c : List Bool) (p q : Bool) → j < length nets → Spreads steps (numbers_of (take j nets)) a b p → Spreads steps ((get_or nets j d).0 ∷ []) b c q →
    Spreads steps (numbers_of (take (j + 1) nets)) a c (p || q)
spreads_more steps nets j d a b c p q less one two =
    subst (λ (ns : List ℕ). Spreads steps ns a c (p || q)) (sym (numbers_more nets j d less)) (spreads_join steps a b c (numbers_of (take j nets)) ((get_or nets j d).0 ∷ []) p q one two)

pub spreads_all : (steps : ℕ → List ℕ) (nets : List NetId) (j : ℕ) (a b : List Bool) (p : Bool) → length nets ≤ j → Spreads steps (numbers_of (take j nets)) a b p → Spreads steps (numbers_of nets) a b p
spreads_all steps nets j a b p past is = subst (λ (ns : List NetId). Spreads steps (numbers_of ns) a b p) (take_all j nets past) is

-- so many rounds, each with a net that was not marked before
pub record SpreadFor (steps : ℕ → List ℕ) (old new : List Bool) (rounds : ℕ) : Type 0 where
  pub size : length new ≡ length old
  pub kept : (k : ℕ) → flag_at old k ≡ true → flag_at new k ≡ true
  pub only : (k : ℕ) → flag_at new k ≡ true → IsBehind steps old k
  pub many : rounds ≤ ups new

pub spread_starts : (steps : ℕ → List ℕ) (flags : List Bool) → SpreadFor steps flags flags 0
spread_starts steps flags = record { size = refl; kept = λ k up. up; only = λ k up. behind_here steps flags k up; many = omega arith }

pub spread_round : (steps : ℕ → List ℕ) (nets : List ℕ) (a b c : List Bool) (rounds : ℕ) → SpreadFor steps a b rounds → Spreads steps nets b c true → SpreadFor steps a c (rounds + 1)
spread_round steps nets a b c rounds so round = record {
  size = round.grown.size ∙ so.size;
  kept = λ k up. round.grown.kept k (so.kept k up);
  only = λ k up. behind_more steps a b k so.only (round.only k up);
  many = (let more = round.grown.more refl in let many = so.many in omega (arith, more, many));
}

pub spread_ends : (steps : ℕ → List ℕ) (nets : List ℕ) (a b c : List Bool) (rounds : ℕ) → SpreadFor steps a b rounds → Spreads steps nets b c false → IsSpread steps nets a c
spread_ends steps nets a b c rounds so round = record {
  size = round.grown.size ∙ so.size;
  kept = λ k up. round.grown.kept k (so.kept k up);
  only = λ k up. behind_more steps a b k so.only (round.only k up);
  closed = λ k among less any. round.closed refl k among (let e = so.size in omega (arith, less, e)) any;
}

pub no_more_rounds : (steps : ℕ → List ℕ) (a b : List Bool) (rounds : ℕ) → SpreadFor steps a b rounds → length a + 1 ≤ rounds → ⊥
no_more_rounds steps a b rounds so past = absurd (omega (arith, so.many, so.size, ups_few b, past))

-- ---- back

before_here : (steps : ℕ → List ℕ) (marked : List Bool) (k : ℕ) → flag_at marked k ≡ true → IsBefore steps marked k
before_here steps marked k up = record { to = k; is_up = up; path = Here }

before_more : (steps : ℕ → List ℕ) (a b : List Bool) (k : ℕ) → ((n : ℕ) → flag_at b n ≡ true → IsBefore steps a n) → IsBefore steps b k → IsBefore steps a k
before_more steps a b k each is =
    let last = each is.to is.is_up in
    record { to = last.to; is_up = last.is_up; path = path_join steps k is.to last.to is.path last.path }

pub draw_no : (steps : ℕ → List ℕ) (net : ℕ) (flags : List Bool) → flag_at flags net ≡ false → Draws steps (net ∷ []) flags flags false
draw_no steps net flags none = record {
  grown = grows_none flags;
  only = λ k up. before_here steps flags k up;
  closed = λ is k among up from step less. absurd (true≢false (sym up ∙ ap (flag_at flags) (among_one k net among) ∙ none));
}

pub draw_yes : (steps : ℕ → List ℕ) (net : ℕ) (old new : List Bool) (fresh : Bool) → flag_at old net ≡ true → Raises old new (steps net) fresh → Draws steps (net ∷ []) old new fresh
draw_yes steps net old new fresh up raised = record {
  grown = raised.grown;
  only = λ k is. elim (raised.only k is) [
    | inl was ↦ before_here steps old k was
    | inr among ↦ record { to = net; is_up = up; path = Onward Here among }
  ];
  closed = λ is k among marked from step less. raised.done from (ap (λ (n : ℕ). is_among from (steps n)) (sym (among_one k net among)) ∙ step) less;
}

pub draws_none : (steps : ℕ → List ℕ) (flags : List Bool) → Draws steps [] flags flags false
draws_none steps flags = record { grown = grows_none flags; only = λ k up. before_here steps flags k up; closed = λ is k among up from step less. absurd (true≢false (sym among)) }

-- the nets behind a place first, then the one there
pub draws_more : (steps : ℕ → List ℕ) (net : ℕ) (nets : List ℕ) (a b c : List Bool) (p q : Bool) → Draws steps nets a b p → Draws steps (net ∷ []) b c q → Draws steps (net ∷ nets) a c (p || q)
draws_more steps net nets a b c p q one two = record {
  grown = grows_join a b c p q one.grown two.grown;
  only = λ k up. before_more steps a b k one.only (two.only k up);
  closed = λ is k among up from step less.
      (let same : c ≡ b = two.grown.still (or_parts p q is).1 in
      let last : (net == k) ≡ true → flag_at c from ≡ true = λ q_is. two.closed (or_parts p q is).1 k (ap (λ (b : Bool). b || false) q_is) up from step (let e = one.grown.size in omega (arith, less, e)) in
      elim (either_up (net == k) (is_among k nets) among) [
        | inl first ↦ last first
        | inr second ↦ two.grown.kept from (one.closed (or_parts p q is).0 k second (ap (λ (flags : List Bool). flag_at flags k) (sym same) ∙ up) from step less)
      ]);
}

pub draws_at : (steps : ℕ → List ℕ) (nets : List NetId) (j : ℕ) (d : NetId) (a b c : List Bool) (p q : Bool) → j < length nets → Draws steps (numbers_of (drop (j + 1) nets)) a b p → Draws steps ((get_or nets j d).0 ∷ []) b c q →
    Draws steps (numbers_of (drop j nets)) a c (p || q)
draws_at steps nets j d a b c p q less one two =
    let front : drop j nets ≡ get_or nets j d ∷ drop (j + 1) nets = rw (add-one) (drop-cons nets j d less) in
    subst (λ (ns : List NetId). Draws steps (numbers_of ns) a c (p || q)) (sym front) (draws_more steps (get_or nets j d).0 (numbers_of (drop (j + 1) nets)) a b c p q one two)

-- from a place to the one before it
pub draws_back : (steps : ℕ → List ℕ) (nets : List NetId) (place : ℕ) (d : NetId) (a b c : List Bool) (p q : Bool) → 0 < place → place ≤ length nets → Draws steps (numbers_of (drop place nets)) a b p →
    Draws steps ((get_or nets (place - 1) d).0 ∷ []) b c q → Draws steps (numbers_of (drop (place - 1) nets)) a c (p || q)
draws_back steps nets place d a b c p q more within one two =
    let less : place - 1 < length nets = omega (arith, more, within) in
    let e : place ≡ (place - 1) + 1 = omega (arith, more) in
    draws_at steps nets (place - 1) d a b c p q less (subst (λ (j : ℕ). Draws steps (numbers_of (drop j nets)) a b p) e one) two

pub draws_end : (steps : ℕ → List ℕ) (nets : List NetId) (j : ℕ) (flags : List Bool) → length nets ≤ j → Draws steps (numbers_of (drop j nets)) flags flags false
draws_end steps nets j flags past = subst (λ (ns : List NetId). Draws steps (numbers_of ns) flags flags false) (sym (drop_all j nets past)) (draws_none steps flags)

pub record DrawnFor (steps : ℕ → List ℕ) (old new : List Bool) (rounds : ℕ) : Type 0 where
  pub size : length new ≡ length old
  pub kept : (k : ℕ) → flag_at old k ≡ true → flag_at new k ≡ true
  pub only : (k : ℕ) → flag_at new k ≡ true → IsBefore steps old k
  pub many : rounds ≤ ups new

pub drawn_starts : (steps : ℕ → List ℕ) (flags : List Bool) → DrawnFor steps flags flags 0
drawn_starts steps flags = record { size = refl; kept = λ k up. up; only = λ k up. before_here steps flags k up; many = omega arith }

pub drawn_round : (steps : ℕ → List ℕ) (nets : List ℕ) (a b c : List Bool) (rounds : ℕ) → DrawnFor steps a b rounds → Draws steps nets b c true → DrawnFor steps a c (rounds + 1)
drawn_round steps nets a b c rounds so round = record {
  size = round.grown.size ∙ so.size;
  kept = λ k up. round.grown.kept k (so.kept k up);
  only = λ k up. before_more steps a b k so.only (round.only k up);
  many = (let more = round.grown.more refl in let many = so.many in omega (arith, more, many));
}

pub drawn_ends : (steps : ℕ → List ℕ) (nets : List ℕ) (a b c : List Bool) (rounds : ℕ) → DrawnFor steps a b rounds → Draws steps nets b c false → IsDrawn steps nets a c
drawn_ends steps nets a b c rounds so round = record {
  size = round.grown.size ∙ so.size;
  kept = λ k up. round.grown.kept k (so.kept k up);
  only = λ k up. before_more steps a b k so.only (round.only k up);
  closed = λ k among up from step less. round.closed refl k among up from step (let e = so.size in omega (arith, less, e));
}

pub no_more_draws : (steps : ℕ → List ℕ) (a b : List Bool) (rounds : ℕ) → DrawnFor steps a b rounds → length a + 1 ≤ rounds → ⊥
no_more_draws steps a b rounds so past = absurd (omega (arith, so.many, so.size, ups_few b, past))

-- ---- one flag, or another

pub or_then : (p q r : Bool) → p ≡ true → r ≡ true → (p || q) ≡ r
or_then p q r up is = ap (λ (b : Bool). b || q) up ∙ sym is

pub or_else : (p q r : Bool) → p ≡ false → r ≡ q → (p || q) ≡ r
or_else p q r down is = ap (λ (b : Bool). b || q) down ∙ sym is

-- whether one of these nets is marked
pub any_numbers : (marked : List Bool) (nets : List NetId) → list_any (λ net. flag_at marked net.0) nets ≡ list_any (flag_at marked) (numbers_of nets)
any_numbers marked [] = refl
any_numbers marked (net ∷ nets) = ap (λ (b : Bool). flag_at marked net.0 || b) (any_numbers marked nets)
