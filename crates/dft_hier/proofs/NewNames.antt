-- Modules that are new one after another have names of their own.
use Rattle.std.proofs.Common.{ℕ, zero, suc, ◌+◌, ◌<◌, ◌≡◌, inl, inr, false, List, [], ◌∷◌, ◌++◌, length, get_or, Some, slice_get, sym, ap, subst, arith, ◌∙◌, true≢false}
use Rattle.std.specs.Str.{bytes_eq}
use Rattle.std.proofs.lemmas.List.Elements.{All-get_or}
use Rattle.std.proofs.lemmas.Bool.{cases_eq, cases_lt}
use Rattle.std.proofs.lemmas.Option.{slice_get-get_or}
use Rattle.std.proofs.lemmas.List.{append_assoc}
use Rattle.dft_base.proofs.ListLemmas.{get_left, length_push}
use Rattle.dft_base.proofs.TextLemmas.{bytes_eq-self}
use Rattle.dft_cells.specs.declared.cell.Cell.{Cell}
use Rattle.dft_modules.specs.Modules.{Module}
use Rattle.dft_modules.specs.Laws.{AreNew}
use Rattle.dft_hier.specs.Hierarchy.{HaveOwnNames}

-- a module's name is none of those before it
apart : (library : List Cell) (before ms : List Module) (place k : ℕ) (m other : Module) → AreNew library before ms → slice_get ms k ≡ Some m → slice_get (before ++ ms) place ≡ Some other → place < length before + k → bytes_eq other.name m.name ≡ false
apart library before [] place k m other new at there less = absurd (let f : ⊥ = cc in f)
apart library before (x ∷ ms) place zero m other new at there less =
    let e : x ≡ m = cc in
    let within : place < length before = omega arith in
    let P : Module → Type 0 = λ (o : Module). bytes_eq o.name x.name ≡ false in
    let d : Module = get_or before place x in
    let same : Some d ≡ Some other = sym (get_left before (x ∷ ms) place d (slice_get-get_or before place x within)) ∙ there in
    let is : d ≡ other = cc in
    subst (λ (y : Module). bytes_eq other.name y.name ≡ false) e (subst P is (All-get_or P before place x within new.1))
apart library before (x ∷ ms) place (suc k) m other new at there less =
    apart library (before ++ x ∷ []) ms place k m other new.2 at (ap (λ (xs : List Module). slice_get xs place) (append_assoc before (x ∷ []) ms) ∙ there) (let l = length_push before x in omega arith)

differ : (library : List Cell) (ms : List Module) (a b : ℕ) (m other : Module) → AreNew library [] ms → slice_get ms a ≡ Some m → slice_get ms b ≡ Some other → a < b → m.name ≡ other.name → ⊥
differ library ms a b m other new at there less same =
    let no = apart library [] ms a b other m new there at (omega arith) in
    true≢false (sym (ap (λ n. bytes_eq n other.name) same ∙ bytes_eq-self other.name) ∙ no)

pub own_names : (library : List Cell) (ms : List Module) → AreNew library [] ms → HaveOwnNames ms
own_names library ms new a b m other at there same = elim (cases_eq a b) [
  | inl e ↦ e
  | inr ne ↦ elim (cases_lt a b) [
    | inl less ↦ absurd (differ library ms a b m other new at there less same)
    | inr more ↦ absurd (differ library ms b a other m new there at (omega (arith, more, ne)) (sym same))
  ]
]
