-- New names in a table.
use Rattle.std.proofs.Common.{◌≡◌, suc, List, [], ◌∷◌, ◌++◌, Option, None, Some, refl, sym, ap, inl, inr}
use Rattle.dft_netlist.specs.declared.named.Named.{Named}
use Rattle.dft_netlist.specs.NameTables.{Entry, look_up, AreNew}
use Rattle.dft_base.specs.Lexing.{Text}
use Rattle.dft_netlist.proofs.NamesLemmas.{found_cases}

-- a name stays free where another is added
still_free_as : (es : List Entry) (q : Text) (named : Named) (name : Text) (r : Option Named) → look_up es name ≡ None → (name ≡ q → ⊥) → look_up (es ++ (q, named) ∷ []) name ≡ r → r ≡ None
still_free_as es q named name None free other is = refl
still_free_as es q named name (Some a) free other is = elim (found_cases es (q, named) name a is) [
  | inl was ↦ (let f : ⊥ = cc in absurd f)
  | inr new ↦ absurd (other new.0)
]

pub still_free : (es : List Entry) (q : Text) (named : Named) (name : Text) → look_up es name ≡ None → (name ≡ q → ⊥) → look_up (es ++ (q, named) ∷ []) name ≡ None
still_free es q named name free other = still_free_as es q named name (look_up (es ++ (q, named) ∷ []) name) free other refl

-- the first of new names, and the others once it is added
pub first_new : (es : List Entry) (q : Text) (qs : List Text) → AreNew es (q ∷ qs) → look_up es q ≡ None
first_new es q qs new = new.free 0 q refl

pub others_new : (es : List Entry) (q : Text) (qs : List Text) (named : Named) → AreNew es (q ∷ qs) → AreNew (es ++ (q, named) ∷ []) qs
others_new es q qs named new = record {
  free = λ k name at. still_free es q named name (new.free (suc k) name at) (λ same. let e : 0 ≡ suc k = new.differ 0 (suc k) name (ap Some (sym same)) at in let f : ⊥ = cc in f);
  differ = λ k j name at also. let e : suc k ≡ suc j = new.differ (suc k) (suc j) name at also in cc;
}
