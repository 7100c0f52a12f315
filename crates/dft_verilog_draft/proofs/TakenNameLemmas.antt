-- The table of taken names: look-ups by bytes, and one name more.
use Rattle.std.proofs.Common.{◌≡◌, ℕ, Bool, true, false, cond, List, [], ◌∷◌, map, Option, Some, option_map, refl, sym, ap}
use Rattle.std.specs.Str.{bytes_eq}
use Rattle.std.specs.Map.{lookup}
use Rattle.indexmap.specs.IndexMap.{insert_entry}
use Rattle.dft_base.proofs.TextLemmas.{bytes_eq-comm}
use Rattle.dft_netlist_text.specs.declared.text.Meaning.{Meaning}
use Rattle.dft_netlist_text.specs.Modules.{TakenName}
use Rattle.dft_verilog_draft.specs.TakenNames.{meaning_in}

-- the first of two, or else the rest, seen by its meaning
first_or : (here : Bool) (e : TakenName) (rest : Option Meaning) (more : Option TakenName) → rest ≡ option_map (λ (o : TakenName). o.meaning) more → cond here (Some e.meaning) rest ≡ option_map (λ (o : TakenName). o.meaning) (cond here (Some e) more)
first_or true e rest more same = refl
first_or false e rest more same = same

abbrev entry_of : {K : Type 0} → (K → List ℕ) → K × Meaning → TakenName
entry_of shown e = record { name = shown e.0; meaning = e.1 }

-- a look-up among keys that show their bytes
pub meaning_in-map : {K : Type 0} (shown : K → List ℕ) (word : List ℕ) (es : List (K × Meaning)) → lookup (λ k. bytes_eq word (shown k)) es ≡ meaning_in (map (λ e. entry_of shown e) es) word
meaning_in-map shown word [] = refl
meaning_in-map shown word (e ∷ es) = rw (bytes_eq-comm word (shown e.0)) (first_or (bytes_eq (shown e.0) word) (entry_of shown e) _ _ (meaning_in-map shown word es))

same_at : {K V : Type 0} (t : Bool) (e : K × V) (es rest : List (K × V)) (v : V) (more : Option V) → cond t (Some e.1) more ≡ Some v → (more ≡ Some v → rest ≡ es) → cond t ((e.0, v) ∷ es) (e ∷ rest) ≡ e ∷ es
same_at true e es rest v more h others = let same : e.1 ≡ v = cc in ap (λ x. (e.0, x) ∷ es) (sym same)
same_at false e es rest v more h others = ap (λ r. e ∷ r) (others h)

-- a key that has this value keeps it
pub insert_entry-same : {K V : Type 0} (eq : K → K → Bool) (es : List (K × V)) (k : K) (v : V) → lookup (eq k) es ≡ Some v → insert_entry eq es k v ≡ es
insert_entry-same eq [] k v h = absurd (cc)
insert_entry-same eq (e ∷ es) k v h = same_at (eq k e.0) e es (insert_entry eq es k v) v (lookup (eq k) es) h (insert_entry-same eq es k v)
