-- Lines of vectors behind lines of notes.
use Rattle.std.proofs.Common.{◌≡◌, ℕ, suc, ◌<◌, ◌+◌, List, [], ◌∷◌, ◌++◌, codes, flat_map, length, take, drop, drop-cons, get_or, add-one, refl, sym, ap, ◌∙◌, append_assoc, append-nil, ◌≤◌}
use Rattle.std.proofs.lemmas.List.{drop_all}
use Rattle.dft_patterns.specs.declared.act.Act.{Act}
use Rattle.dft_patterns.specs.declared.notes.Note.{Note}
use Rattle.dft_patterns.specs.Patterns.{input_count}
use Rattle.dft_stil_out.specs.Written.{head, vector_line, note_line, due, noted_lines, noted, written}
use Rattle.dft_stil_out.specs.Laws.{HasOneForm}

bare_lines : (count place : ℕ) (vectors : List (List Act)) → noted_lines count place vectors [] ≡ flat_map (vector_line count) vectors
unfolding noted_lines
bare_lines count place [] = refl
bare_lines count place (acts ∷ vectors) = ap (λ x. vector_line count acts ++ x) (bare_lines count (suc place) vectors)

pub noted_bare : HasOneForm
unfolding noted written
noted_bare p e =
    ap (λ (notes : List Note). head p.signals ++ (noted_lines (input_count p.signals) 0 p.vectors notes ++ codes "}\n")) e
    ∙ ap (λ x. head p.signals ++ (x ++ codes "}\n")) (bare_lines (input_count p.signals) 0 p.vectors)

-- what the loop over the vectors keeps
abbrev pub Written : ℕ → List (List Act) → List ℕ → List ℕ → List Note → ℕ → Type 0
Written count vectors whole out notes place = out ++ noted_lines count place (drop place vectors) notes ≡ whole

pub one_more_vector : (count place : ℕ) (vectors : List (List Act)) (whole out lined more : List ℕ) (acts d : List Act) (notes : List Note) → place < length vectors → acts ≡ get_or vectors place d
    → lined ≡ out ++ flat_map note_line (take (due place notes) notes) → more ≡ lined ++ vector_line count acts → Written count vectors whole out notes place
    → Written count vectors whole more (drop (due place notes) notes) (place + 1)
unfolding noted_lines
one_more_vector count place vectors whole out lined more acts d notes less a l m h = rw (add-one) (
    ap (λ x. x ++ noted_lines count (suc place) (drop (suc place) vectors) (drop (due place notes) notes)) (m ∙ ap (λ x. x ++ vector_line count acts) l ∙ ap (λ (a : List Act). (out ++ flat_map note_line (take (due place notes) notes)) ++ vector_line count a) a)
    ∙ append_assoc (out ++ flat_map note_line (take (due place notes) notes)) (vector_line count (get_or vectors place d)) _
    ∙ append_assoc out (flat_map note_line (take (due place notes) notes)) _
    ∙ ap (λ vs. out ++ noted_lines count place vs notes) (sym (drop-cons vectors place d less))
    ∙ h)

pub all_written : (count place : ℕ) (vectors : List (List Act)) (whole out : List ℕ) (notes : List Note) → length vectors ≤ place → Written count vectors whole out notes place → out ≡ whole
unfolding noted_lines
all_written count place vectors whole out notes far h = sym (append-nil out) ∙ ap (λ vs. out ++ noted_lines count place vs notes) (sym (drop_all place vectors far)) ∙ h
