-- The lines of a cube file are read one after another.
use Rattle.std.proofs.Common.{◌≡◌, ℕ, suc, true, List, [], ◌∷◌, ◌++◌, None, refl, sym, ap, ◌∙◌, append_assoc}
use Rattle.std.specs.List.{list_all}
use Rattle.dft_base.specs.Lexing.{Text}
use Rattle.dft_base.specs.declared.place.Place.{Place}
use Rattle.dft_netlist.specs.Netlist.{Netlist}
use Rattle.dft_config.specs.Config.{Config}
use Rattle.dft_word_lines.specs.Lines.{lines_of, words_of, are_printed}
use Rattle.dft_cubes.specs.Cubes.{Reading, line_of, line_refusal, said_refusal, with_line, with_said, or_refused, place_of_line, cubes_from}
use Rattle.dft_cubes_out.proofs.WordLemmas.{Stands, is_of_line, line_first, printed_word, three_line, three_words}

module _ (n : Netlist) (config : Config) where
  -- a text takes what was read to this
  abbrev pub Takes : Reading → Text → Reading → Type 0
  Takes r text new = (number : ℕ) → (last : ℕ) × ((rest : Text) → cubes_from n config r number (lines_of (text ++ rest)) ≡ cubes_from n config new last (lines_of rest))

  pub takes_none : (r : Reading) → Takes r [] r
  takes_none r number = (number, λ rest. refl)

  pub takes_more : (a b c : Reading) (x y : Text) → Takes a x b → Takes b y c → Takes a (x ++ y) c
  takes_more a b c x y one two number =
      let f = one number in
      let g = two f.0 in
      (g.0, λ rest. ap (λ (t : Text). cubes_from n config a number (lines_of t)) (append_assoc x y rest) ∙ f.1 (y ++ rest) ∙ g.1 rest)

  -- a line without a fault
  passes : (r : Reading) (number : ℕ) (line : Text) (lines : List Text) (place : Place) → line_refusal n config r place (words_of line) ≡ None → place ≡ place_of_line (suc number)
      → cubes_from n config r number (line ∷ lines) ≡ cubes_from n config (with_line n config r (words_of line)) (suc number) lines
  unfolding cubes_from
  passes r number line lines place none e =
      ap (λ o. or_refused o (cubes_from n config (with_line n config r (words_of line)) (suc number) lines)) (ap (λ (p : Place). line_refusal n config r p (words_of line)) (sym e) ∙ none)

  pub takes_line : (r new : Reading) (line : Text) → list_all is_of_line line ≡ true → ((place : Place) → line_refusal n config r place (words_of line) ≡ None) → with_line n config r (words_of line) ≡ new → Takes r (line ++ 10 ∷ []) new
  takes_line r new line all none is number = (
    suc number,
    λ rest.
        ap (λ (t : Text). cubes_from n config r number (lines_of t)) (append_assoc line (10 ∷ []) rest)
        ∙ ap (cubes_from n config r number) (line_first line rest all)
        ∙ passes r number line (lines_of rest) (place_of_line (suc number)) (none (place_of_line (suc number))) refl
        ∙ ap (λ (x : Reading). cubes_from n config x (suc number) (lines_of rest)) is,
  )

  -- a line of three words
  pub takes_three : (r new : Reading) (a b c : Text) → Stands a → Stands b → Stands c → ((place : Place) → said_refusal n config r.version r.cubes r.pending place (line_of (a ∷ b ∷ c ∷ [])) ≡ None)
      → with_said n config r.version r.cubes r.pending (line_of (a ∷ b ∷ c ∷ [])) ≡ new → Takes r ((a ++ 32 ∷ (b ++ 32 ∷ c)) ++ 10 ∷ []) new
  takes_three r new a b c p q s none is =
      let words = three_words a b c p q s in
      let printed : are_printed (a ∷ b ∷ c ∷ []) ≡ true = rw (printed_word a p, printed_word b q, printed_word c s) refl in
      takes_line r new (a ++ 32 ∷ (b ++ 32 ∷ c)) (three_line a b c p q s) (λ place. ap (line_refusal n config r place) words ∙ rw printed (none place)) (ap (with_line n config r) words ∙ is)
