-- The most used of some ports.
use Rattle.std.proofs.Common.{◌≡◌, ℕ, zero, suc, ◌+◌, ◌<◌, ◌==◌, Bool, true, false, cond, ◌&&◌, ◌||◌, List, [], ◌∷◌, ◌++◌, map, filter, count_by, Option, refl, sym, ◌∙◌, ap, arith, append_assoc, append-nil, zero-add}
use Rattle.std.specs.Prelude.{nat_lt}
use Rattle.std.specs.List.{range_with_len}
use Rattle.std.proofs.lemmas.List.{map-append}
use Rattle.std.proofs.lemmas.List.Elements.{filter-append}
use Rattle.std.proofs.lemmas.List.FromFn.{map-range_with_len_more}
use Rattle.std.proofs.lemmas.List.Sums.{sum_by-append}
use Rattle.dft_base.proofs.ListLemmas.{range_last}
use Rattle.dft_netlist.specs.declared.ids.NetId.{NetId}
use Rattle.dft_configure.specs.Found.{number, numbers, numbers_of}
use Rattle.dft_configure.specs.Roots.{comes_before, is_most_used}

-- one number more
pub count_more : (p : ℕ → Bool) (k : ℕ) → count_by p (range_with_len 0 (k + 1)) ≡ count_by p (range_with_len 0 k) + cond (p k) 1 0
count_more p k =
    ap (count_by p) (range_last k) ∙ sum_by-append (λ x. cond (p x) 1 0) (range_with_len 0 k) (k ∷ []) ∙ ap (λ (n : ℕ). count_by p (range_with_len 0 k) + n) (zero-add (cond (p k) 1 0))

pub filter_more : (p : ℕ → Bool) (k : ℕ) → filter p (range_with_len 0 (k + 1)) ≡ filter p (range_with_len 0 k) ++ cond (p k) (k ∷ []) []
filter_more p k = ap (filter p) (range_last k) ∙ filter-append p (range_with_len 0 k) (k ∷ [])

-- tests that agree count the same
pub count_same : (p q : ℕ → Bool) (k : ℕ) → ((i : ℕ) → i < k → p i ≡ q i) → count_by p (range_with_len 0 k) ≡ count_by q (range_with_len 0 k)
count_same p q zero same = refl
count_same p q (suc k) same =
    let one : suc k ≡ k + 1 = omega arith in
    ap (λ (n : ℕ). count_by p (range_with_len 0 n)) one ∙ count_more p k
    ∙ (λ i. count_same p q k (λ j less. same j (omega arith)) i + cond (same k (omega arith) i) 1 0) ∙ sym (count_more q k) ∙ ap (λ (n : ℕ). count_by q (range_with_len 0 n)) (sym one)

-- counts that agree choose the same
pub same_most : (f g : ℕ → ℕ) (nets net : ℕ) → net < nets → ((k : ℕ) → k < nets → f k ≡ g k) → is_most_used f nets net ≡ is_most_used g nets net
same_most f g nets net less same =
    let before : (other : ℕ) → other < nets → comes_before f other net ≡ comes_before g other net =
    λ other within. (λ i. nat_lt (same net less i) (same other within i) || ((same other within i == same net less i) && nat_lt other net)) in
    (λ i. nat_lt 0 (same net less i) && nat_lt (count_same (λ other. comes_before f other net) (λ other. comes_before g other net) nets before i) 16)

-- a net is chosen, or it is not
pub chosen_more : (p : ℕ → Bool) (net : ℕ) (before after : List NetId) (x : NetId) → p net ≡ true → after ≡ before ++ x ∷ [] → x.0 ≡ net → numbers before ≡ filter p (range_with_len 0 net) → numbers after ≡ filter p (range_with_len 0 (net + 1))
chosen_more p net before after x is pushed at rest =
    ap numbers pushed ∙ map-append (λ n. n.0) before (x ∷ []) ∙ (λ i. rest i ++ at i ∷ []) ∙ ap (λ (b : Bool). filter p (range_with_len 0 net) ++ cond b (net ∷ []) []) (sym is) ∙ sym (filter_more p net)

pub chosen_not : (p : ℕ → Bool) (net : ℕ) (before : List NetId) → p net ≡ false → numbers before ≡ filter p (range_with_len 0 net) → numbers before ≡ filter p (range_with_len 0 (net + 1))
chosen_not p net before is rest =
    rest ∙ sym (append-nil (filter p (range_with_len 0 net))) ∙ ap (λ (b : Bool). filter p (range_with_len 0 net) ++ cond b (net ∷ []) []) (sym is) ∙ sym (filter_more p net)

-- one number more, behind others
pub pushed_behind : (f : ℕ → Option ℕ) (k : ℕ) (others before after : List (Option NetId)) (x : Option NetId) → after ≡ before ++ x ∷ [] → number x ≡ f k → numbers_of before ≡ numbers_of others ++ map f (range_with_len 0 k) →
    numbers_of after ≡ numbers_of others ++ map f (range_with_len 0 (k + 1))
pushed_behind f k others before after x pushed is rest =
    ap numbers_of pushed ∙ map-append number before (x ∷ []) ∙ (λ i. rest i ++ is i ∷ []) ∙ append_assoc (numbers_of others) (map f (range_with_len 0 k)) (f k ∷ [])
    ∙ ap (λ (l : List (Option ℕ)). numbers_of others ++ l) (sym (map-range_with_len_more f 0 k k (omega arith)))

-- one net more that may not be there
pub pushed_number : (f : ℕ → Option ℕ) (k : ℕ) (before after : List (Option NetId)) (x : Option NetId) → after ≡ before ++ x ∷ [] → number x ≡ f k → numbers_of before ≡ map f (range_with_len 0 k) → numbers_of after ≡ map f (range_with_len 0 (k + 1))
pushed_number f k before after x pushed is rest = pushed_behind f k [] before after x pushed is rest

-- a number is kept, or it is not
pub kept_more : (p : ℕ → Bool) (k : ℕ) (before after : List ℕ) → p k ≡ true → after ≡ before ++ k ∷ [] → before ≡ filter p (range_with_len 0 k) → after ≡ filter p (range_with_len 0 (k + 1))
kept_more p k before after is pushed rest =
    pushed ∙ ap (λ (l : List ℕ). l ++ k ∷ []) rest ∙ ap (λ (b : Bool). filter p (range_with_len 0 k) ++ cond b (k ∷ []) []) (sym is) ∙ sym (filter_more p k)

pub kept_not : (p : ℕ → Bool) (k : ℕ) (before : List ℕ) → p k ≡ false → before ≡ filter p (range_with_len 0 k) → before ≡ filter p (range_with_len 0 (k + 1))
kept_not p k before is rest =
    rest ∙ sym (append-nil (filter p (range_with_len 0 k))) ∙ ap (λ (b : Bool). filter p (range_with_len 0 k) ++ cond b (k ∷ []) []) (sym is) ∙ sym (filter_more p k)
