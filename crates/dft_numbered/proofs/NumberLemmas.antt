-- Names with numbers: what a name more brings, and where the names of a list are found.
use Rattle.std.proofs.Common.{ℕ, suc, ◌+◌, ◌<◌, ◌≤◌, ◌≡◌, Bool, true, false, cond, List, [], ◌∷◌, ◌++◌, map, drop, get_or, length, Option, None, Some, refl, sym, ap, arith, ◌∙◌}
use Rattle.std.specs.Option.{option_or}
use Rattle.std.specs.Map.{lookup}
use Rattle.std.specs.Str.{bytes_eq}
use Rattle.std.proofs.lemmas.List.{drop_more}
use Rattle.dft_base.specs.Lexing.{Text}
use Rattle.dft_base.proofs.TextLemmas.{bytes_eq-comm, same_text}
use Rattle.dft_base.proofs.ListLemmas.{drop_over}
use Rattle.dft_numbered.specs.Numbers.{Entry, Finds, first_from, look_up, noted, noted_by}

-- a look-up among keys that show their bytes
pub look_up-map : {K : Type 0} (shown : K → Text) (name : Text) (es : List (K × ℕ)) → lookup (λ k. bytes_eq name (shown k)) es ≡ look_up (map (λ e. (shown e.0, e.1)) es) name
look_up-map shown name [] = refl
look_up-map shown name (e ∷ es) = rw (bytes_eq-comm name (shown e.0), look_up-map shown name es) refl

-- ---- one name more

look_up-push : (entries : List Entry) (e : Entry) (name : Text) → look_up (entries ++ e ∷ []) name ≡ option_or (look_up entries name) (cond (bytes_eq e.0 name) (Some e.1) None)
look_up-push [] e name = refl
look_up-push (x ∷ entries) e name = by (bytes_eq x.0 name) (look_up-push entries e name)
  where
    by : (t : Bool) → look_up (entries ++ e ∷ []) name ≡ option_or (look_up entries name) (cond (bytes_eq e.0 name) (Some e.1) None) →
        cond t (Some x.1) (look_up (entries ++ e ∷ []) name) ≡ option_or (cond t (Some x.1) (look_up entries name)) (cond (bytes_eq e.0 name) (Some e.1) None)
    by true same = refl
    by false same = same

-- what is noted of a name, and what the names behind it give, is what was noted and what it and they give
pushed : (now : Option ℕ) (t : Bool) (number : ℕ) (rest : Option ℕ) → option_or (option_or now (cond t (Some number) None)) rest ≡ option_or now (cond t (Some number) rest)
pushed None true number rest = refl
pushed None false number rest = refl
pushed (Some p) t number rest = refl

stays : (now : Option ℕ) (t : Bool) (number : ℕ) (rest : Option ℕ) → (t ≡ true → now ≡ None → ⊥) → option_or now rest ≡ option_or now (cond t (Some number) rest)
stays None true number rest there = absurd (there refl refl)
stays None false number rest there = refl
stays (Some p) t number rest there = refl

noted_case : (o : Option ℕ) (entries : List Entry) (own name : Text) (number : ℕ) (rest : Option ℕ) → look_up entries own ≡ o → option_or (look_up (noted_by o entries own number) name) rest ≡ option_or (look_up entries name) (cond (bytes_eq own name) (Some number) rest)
noted_case None entries own name number rest is = ap (λ (o : Option ℕ). option_or o rest) (look_up-push entries (own, number) name) ∙ pushed (look_up entries name) (bytes_eq own name) number rest
noted_case (Some first) entries own name number rest is =
    stays (look_up entries name) (bytes_eq own name) number rest
    (λ same none. (let f : Some first ≡ None = sym is ∙ ap (look_up entries) (same_text own name same) ∙ none in let g : ⊥ = cc in g))

-- these names, and those from a number on, give what all give
abbrev pub FindsSoFar : (entries : List Entry) → (number : ℕ) → (names : List Text) → Type 0
FindsSoFar entries number names = (name : Text) → option_or (look_up entries name) (first_from number (drop number names) name) ≡ first_from 0 names name

pub noted_next : (names : List Text) (own d : Text) (number : ℕ) (old new : List Entry) → number < length names → own ≡ get_or names number d → new ≡ noted old own number → FindsSoFar old number names → FindsSoFar new (number + 1) names
noted_next names own d number old new less is more before name =
    let rest : List Text = drop (number + 1) names in
    let cut : drop number names ≡ own ∷ rest = drop_more names number d less ∙ ap (λ (c : Text). c ∷ rest) (sym is) in
    let next : number + 1 ≡ suc number = omega arith in
    ap (λ (entries : List Entry). option_or (look_up entries name) (first_from (number + 1) rest name)) more
    ∙ ap (λ (k : ℕ). option_or (look_up (noted old own number) name) (first_from k rest name)) next
    ∙ noted_case (look_up old own) old own name number (first_from (suc number) rest name) refl
    ∙ ap (λ (l : List Text). option_or (look_up old name) (first_from number l name)) (sym cut) ∙ before name

or_none : (o : Option ℕ) → option_or o None ≡ o
or_none None = refl
or_none (Some p) = refl

pub noted_all : (entries : List Entry) (names : List Text) (number : ℕ) → length names ≤ number → FindsSoFar entries number names → Finds entries names
noted_all entries names number past before name = sym (or_none (look_up entries name)) ∙ ap (λ (l : List Text). option_or (look_up entries name) (first_from number l name)) (sym (drop_over names number past)) ∙ before name
