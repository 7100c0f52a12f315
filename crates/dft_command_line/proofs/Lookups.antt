-- Look-ups by a text: what is found has that text, and is what its own text finds.
use Rattle.std.proofs.Common.{◌≡◌, ◌&&◌, Bool, true, false, true≢false, List, [], ◌∷◌, Option, Some, None, IfSome, find, if◌then◌else◌, bytes_eq, refl, sym, ap, ◌∙◌, subst}
use Rattle.std.specs.List.{list_all}
use Rattle.std.proofs.lemmas.Slice.Eq.{bytes_eq-Decides}
use Rattle.dft_command_line.specs.Words.{Text}

abbrev pub lookup : {X : Type 0} → (X → Text) → List X → Text → Option X
lookup key xs t = find (λ x. bytes_eq (key x) t) xs

abbrev pub IsAt : {X : Type 0} → (X → Text) → List X → Text → X → Type 0
IsAt key xs t x = (t ≡ key x) × (lookup key xs (key x) ≡ Some x)

module _ {X : Type 0} (key : X → Text) where
  lookup_key : (xs : List X) (t : Text) → IfSome (lookup key xs t) (λ x. t ≡ key x)
  lookup_key [] t = tt
  lookup_key (x ∷ xs) t = go (bytes_eq (key x) t) (bytes_eq-Decides (key x) t).0 (lookup_key xs t)
    where
      go : (b : Bool) → (b ≡ true → key x ≡ t) → IfSome (lookup key xs t) (λ y. t ≡ key y) → IfSome (if b then Some x else lookup key xs t) (λ y. t ≡ key y)
      go true is rest = sym (is refl)
      go false is rest = rest

  -- what a text finds
  pub found : (xs : List X) (t : Text) (q : Option X) → lookup key xs t ≡ q → IfSome q (IsAt key xs t)
  found xs t None e = tt
  found xs t (Some x) e =
      let is : t ≡ key x = subst (λ q. IfSome q (λ y. t ≡ key y)) e (lookup_key xs t) in
      (is, ap (lookup key xs) (sym is) ∙ e)

  module _ (test : X → Bool) where
    passing : (xs : List X) (t : Text) → list_all test xs ≡ true → IfSome (lookup key xs t) (λ x. test x ≡ true)
    passing [] t all = tt
    passing (x ∷ xs) t all = go (test x) refl all (bytes_eq (key x) t) (passing xs t)
      where
        go : (b : Bool) → test x ≡ b → (b && list_all test xs) ≡ true → (c : Bool) → (list_all test xs ≡ true → IfSome (lookup key xs t) (λ y. test y ≡ true)) →
            IfSome (if c then Some x else lookup key xs t) (λ y. test y ≡ true)
        go false is all c rest = absurd (true≢false (sym all))
        go true is all true rest = is
        go true is all false rest = rest all

    -- what all pass is passed by what is found
    pub found_passes : (xs : List X) (t : Text) (x : X) → list_all test xs ≡ true → lookup key xs t ≡ Some x → test x ≡ true
    found_passes xs t x all e = subst (λ q. IfSome q (λ y. test y ≡ true)) e (passing xs t all)
