-- The lines of a generated cube are read one after another.
use Rattle.std.proofs.Common.{◌≡◌, ℕ, zero, suc, ◌+◌, ◌/◌, ◌%◌, ◌<◌, ◌≤◌, ◌^◌, Bool, true, false, List, [], ◌∷◌, ◌++◌, Option, Some, None, codes, decimal, refl, sym, ap, ◌∙◌, subst, arith, append_assoc, append-nil, zero-add}
use Rattle.std.specs.Prelude.{◌||◌, ◌==◌}
use Rattle.std.specs.List.{list_all, list_any, range_with_len}
use Rattle.std.proofs.Math.Nat.{mod-lt}
use Rattle.std.proofs.lemmas.Bool.Decides.{nat_tests}
use Rattle.std.proofs.lemmas.Fmt.{decimal_digit}
use Rattle.std.proofs.lemmas.List.Folds.{list_any-append}
use Rattle.dft_base.proofs.BitLemmas.{or_false}
use Rattle.dft_base.specs.Lexing.{Text}
use Rattle.dft_base.specs.declared.place.Place.{Place}
use Rattle.dft_base.proofs.TextLemmas.{bytes_eq-self}
use Rattle.dft_cells.specs.Standard.{standard_cells}
use Rattle.dft_netlist.specs.declared.instance.Instance.{Instance}
use Rattle.dft_netlist.specs.Drivers.{kind_of, kind_at}
use Rattle.dft_netlist.specs.Names.{find_instance, find_instance_from}
use Rattle.dft_rules.specs.Rules.{may_be_scanned, flip_flop_named}
use Rattle.dft_word_lines.specs.Lines.{lines_of, words_of, are_printed}
use Rattle.dft_cubes.specs.declared.cube.Cube.{Cube}
use Rattle.dft_cubes.specs.Cubes.{Reading, has_cell, line_refusal, with_line, or_refused, place_of_line, cubes_from}
use Rattle.dft_generate.specs.Configurations.{configuration}
use Rattle.dft_generate.specs.Cubes.{bit_line, is_named, line_unless, new_bit_line}
use Rattle.dft_generate_laws.specs.Designs.{nets_of, f_of, instances_in, design}
use Rattle.dft_generate_laws.specs.CubeLists.{Given, flop_of, bit_given, given_unless, new_bit}
use Rattle.dft_generate_laws.proofs.Ties.{numbers_differ}
use Rattle.dft_generate_laws.proofs.Places.{flop_there}
use Rattle.dft_generate_laws.proofs.CubeWords.{is_inside, is_of_line, digits_inside, printed_word, three_words, three_line, line_first}

-- ---- flip-flops by their names

flop_found : (all : List Text) (size : ℕ) (words : List ℕ) (count i from k : ℕ) → k < count → from + count ≤ 20000
    → find_instance_from i (instances_in all size words (range_with_len from count)) (f_of (from + k)) ≡ Some (record { 0 = suc (i + (k + k)) })
flop_found all size words zero i from k lt few = absurd (omega (arith, lt))
flop_found all size words (suc count) i from zero lt few =
    let e : from + 0 ≡ from = omega arith in
    let f : suc i ≡ suc (i + (0 + 0)) = omega arith in
    ap (λ (c : ℕ). find_instance_from i (instances_in all size words (range_with_len from (suc count))) (f_of c)) e ∙ rw (bytes_eq-self (f_of from)) (ap (λ (j : ℕ). Some (record { 0 = j })) f)
flop_found all size words (suc count) i from (suc k) lt few =
    let e : from + suc k ≡ from + 1 + k = omega arith in
    let f : suc (suc (suc i) + (k + k)) ≡ suc (i + (suc k + suc k)) = omega arith in
    ap (λ (c : ℕ). find_instance_from i (instances_in all size words (range_with_len from (suc count))) (f_of c)) e
    ∙ rw (numbers_differ 102 from (from + 1 + k) (omega (arith, few)) (omega (arith, few, lt)) (λ h. absurd (omega (arith, h)))) (flop_found all size words count (suc (suc i)) (from + 1) k (omega (arith, lt)) (omega (arith, few)) ∙ ap (λ (j : ℕ). Some (record { 0 = j })) f)

found_as : (size : ℕ) (words : List ℕ) (k : ℕ) → k < size → size ≤ 20000 → find_instance (design size words) (f_of k) ≡ Some (flop_of k)
found_as size words k lt few =
    ap (λ (c : ℕ). find_instance (design size words) (f_of c)) (sym (zero-add k)) ∙ flop_found (nets_of size words) size words size 0 0 k lt (omega (arith, few)) ∙ ap (λ (j : ℕ). Some (record { 0 = suc j })) (zero-add (k + k))

-- the flip-flop of a cell is found
pub flop_named : (size : ℕ) (words : List ℕ) (k : ℕ) → k < size → size ≤ 20000 → flip_flop_named (design size words) (f_of k) ≡ Some (flop_of k)
flop_named size words k lt few =
    let kind : may_be_scanned (kind_at (design size words) (suc (k + k))) ≡ true = ap (λ (o : Option Instance). may_be_scanned (kind_of standard_cells o)) (flop_there size words k lt) in
    rw (found_as size words k lt few, kind) refl

-- ---- lines

module _ (size : ℕ) (words : List ℕ) (few : size ≤ 20000) (some : 0 < size) where
  -- a text takes what was read to this
  abbrev pub Takes : Reading → Text → Reading → Type 0
  Takes r text new = (number : ℕ) → (last : ℕ) × ((rest : Text) → cubes_from (design size words) configuration r number (lines_of (text ++ rest)) ≡ cubes_from (design size words) configuration new last (lines_of rest))

  pub takes_none : (r : Reading) → Takes r [] r
  takes_none r number = (number, λ rest. refl)

  pub takes_more : (a b c : Reading) (x y : Text) → Takes a x b → Takes b y c → Takes a (x ++ y) c
  takes_more a b c x y one two number =
      let f = one number in
      let g = two f.0 in
      (g.0, λ rest. ap (λ (t : Text). cubes_from (design size words) configuration a number (lines_of t)) (append_assoc x y rest) ∙ f.1 (y ++ rest) ∙ g.1 rest)

  -- a line without a fault
  passes : (r : Reading) (number : ℕ) (line : Text) (lines : List Text) (place : Place) → line_refusal (design size words) configuration r place (words_of line) ≡ None → place ≡ place_of_line (suc number)
      → cubes_from (design size words) configuration r number (line ∷ lines) ≡ cubes_from (design size words) configuration (with_line (design size words) configuration r (words_of line)) (suc number) lines
  unfolding cubes_from
  passes r number line lines place none e =
      ap (λ o. or_refused o (cubes_from (design size words) configuration (with_line (design size words) configuration r (words_of line)) (suc number) lines)) (ap (λ (p : Place). line_refusal (design size words) configuration r p (words_of line)) (sym e) ∙ none)

  pub takes_line : (r new : Reading) (line : Text) → list_all is_of_line line ≡ true → ((place : Place) → line_refusal (design size words) configuration r place (words_of line) ≡ None)
      → with_line (design size words) configuration r (words_of line) ≡ new → Takes r (line ++ 10 ∷ []) new
  takes_line r new line all none is number = (
    suc number,
    λ rest.
        ap (λ (t : Text). cubes_from (design size words) configuration r number (lines_of t)) (append_assoc line (10 ∷ []) rest)
        ∙ ap (cubes_from (design size words) configuration r number) (line_first line rest all)
        ∙ passes r number line (lines_of rest) (place_of_line (suc number)) (none (place_of_line (suc number))) refl
        ∙ ap (λ (x : Reading). cubes_from (design size words) configuration x (suc number) (lines_of rest)) is,
  )

  -- ---- care bits

  -- the cells that are given are those of these words
  abbrev pub Fits : List Given → List ℕ → Type 0
  Fits cells before = (cell : ℕ) → list_any (λ (g : Given). g.0.0 == suc (cell + cell)) cells ≡ is_named size before cell

  pub fits_none : Fits [] []
  fits_none cell = refl

  same_flop : (a b : ℕ) → (suc (a + a) == suc (b + b)) ≡ (a == b)
  same_flop a b = by (a == b) refl
    where
      by : (t : Bool) → (a == b) ≡ t → (suc (a + a) == suc (b + b)) ≡ t
      by true is = grind (arith, nat_tests)
      by false is = grind (arith, nat_tests)

  covered : (t : Bool) (before : List ℕ) (cell word : ℕ) → (word % size == cell) ≡ t → is_named size before (word % size) ≡ true → is_named size before cell ≡ (is_named size before cell || (t || false))
  covered true before cell word is named =
      let e : word % size ≡ cell = grind (arith, nat_tests) in
      let h : is_named size before cell ≡ true = ap (is_named size before) (sym e) ∙ named in
      rw h refl
  covered false before cell word is named = sym (or_false (is_named size before cell))

  fits_by : (t : Bool) (cells : List Given) (before : List ℕ) (word : ℕ) → is_named size before (word % size) ≡ t → Fits cells before → Fits (cells ++ given_unless t (bit_given size word)) (before ++ word ∷ [])
  fits_by true cells before word named fits cell =
      let same : (word % size == cell) ≡ (word % size == cell) = refl in
      list_any-append (λ (g : Given). g.0.0 == suc (cell + cell)) cells [] ∙ or_false (list_any (λ (g : Given). g.0.0 == suc (cell + cell)) cells) ∙ fits cell
      ∙ covered (word % size == cell) before cell word refl named ∙ sym (list_any-append (λ (w : ℕ). w % size == cell) before (word ∷ []))
  fits_by false cells before word named fits cell =
      list_any-append (λ (g : Given). g.0.0 == suc (cell + cell)) cells (bit_given size word ∷ [])
      ∙ ap (λ (b : Bool). b || ((suc (word % size + word % size) == suc (cell + cell)) || false)) (fits cell)
      ∙ ap (λ (b : Bool). is_named size before cell || (b || false)) (same_flop (word % size) cell) ∙ sym (list_any-append (λ (w : ℕ). w % size == cell) before (word ∷ []))

  -- a cube that has not ended
  abbrev pub pending : List Cube → (name : Text) → (domain : ℕ) → List Given → Reading
  pending cubes name domain cells = record { version = Some 1; cubes = cubes; pending = Some (record { name = name; domains = record { first = domain; second = None }; cells = cells; ports = [] }) }

  bit_by : (bit : ℕ) (word : ℕ) (cubes : List Cube) (name : Text) (domain : ℕ) (cells : List Given) (before : List ℕ) → word / 2 ^ 31 ≡ bit → bit < 2 → is_named size before (word % size) ≡ false → Fits cells before
      → Takes (pending cubes name domain cells) ((codes "cell" ++ 32 ∷ (f_of (word % size) ++ 32 ∷ decimal bit)) ++ 10 ∷ []) (pending cubes name domain (cells ++ (flop_of (word % size), bit == 1) ∷ []))
  bit_by bit word cubes name domain cells before is lt new fits = by bit lt
    where
      abbrev_line : Text → Text
      abbrev_line ds = codes "cell" ++ 32 ∷ (f_of (word % size) ++ 32 ∷ ds)

      cell_inside : list_all is_inside (f_of (word % size)) ≡ true
      cell_inside = digits_inside (word % size) (let m = mod-lt word some in omega (arith, m, few))

      free : has_cell (record { name = name; domains = record { first = domain; second = None }; cells = cells; ports = [] }) (flop_of (word % size)) ≡ false
      free = fits (word % size) ∙ new

      named : flip_flop_named (design size words) (f_of (word % size)) ≡ Some (flop_of (word % size))
      named = flop_named size words (word % size) (mod-lt word some) few

      printed_cell : are_printed (codes "cell" ∷ f_of (word % size) ∷ codes "0" ∷ []) ≡ true
      printed_cell = rw (printed_word (f_of (word % size)) cell_inside) refl

      printed_one : are_printed (codes "cell" ∷ f_of (word % size) ∷ codes "1" ∷ []) ≡ true
      printed_one = rw (printed_word (f_of (word % size)) cell_inside) refl

      by : (b : ℕ) → b < 2 → Takes (pending cubes name domain cells) (abbrev_line (decimal b) ++ 10 ∷ []) (pending cubes name domain (cells ++ (flop_of (word % size), b == 1) ∷ []))
      by zero lt =
          subst (λ (ds : Text). Takes (pending cubes name domain cells) ((codes "cell" ++ 32 ∷ (f_of (word % size) ++ 32 ∷ ds)) ++ 10 ∷ []) (pending cubes name domain (cells ++ (flop_of (word % size), false) ∷ []))) (sym (decimal_digit 0 (omega arith)))
          (takes_line (pending cubes name domain cells) (pending cubes name domain (cells ++ (flop_of (word % size), false) ∷ [])) (codes "cell" ++ 32 ∷ (f_of (word % size) ++ 32 ∷ codes "0"))
          (three_line (codes "cell") (f_of (word % size)) (codes "0") refl cell_inside refl)
          (λ place. ap (line_refusal (design size words) configuration (pending cubes name domain cells) place) (three_words 99 102 48 (codes "ell") (decimal (word % size)) [] refl cell_inside refl) ∙ rw (printed_cell, named, free) refl)
          (ap (with_line (design size words) configuration (pending cubes name domain cells)) (three_words 99 102 48 (codes "ell") (decimal (word % size)) [] refl cell_inside refl) ∙ rw named refl))
      by (suc zero) lt =
          subst (λ (ds : Text). Takes (pending cubes name domain cells) ((codes "cell" ++ 32 ∷ (f_of (word % size) ++ 32 ∷ ds)) ++ 10 ∷ []) (pending cubes name domain (cells ++ (flop_of (word % size), true) ∷ []))) (sym (decimal_digit 1 (omega arith)))
          (takes_line (pending cubes name domain cells) (pending cubes name domain (cells ++ (flop_of (word % size), true) ∷ [])) (codes "cell" ++ 32 ∷ (f_of (word % size) ++ 32 ∷ codes "1"))
          (three_line (codes "cell") (f_of (word % size)) (codes "1") refl cell_inside refl)
          (λ place. ap (line_refusal (design size words) configuration (pending cubes name domain cells) place) (three_words 99 102 49 (codes "ell") (decimal (word % size)) [] refl cell_inside refl) ∙ rw (printed_one, named, free) refl)
          (ap (with_line (design size words) configuration (pending cubes name domain cells)) (three_words 99 102 49 (codes "ell") (decimal (word % size)) [] refl cell_inside refl) ∙ rw named refl))
      by (suc (suc b)) lt = absurd (omega (arith, lt))

  bit_text : (word : ℕ) → bit_line size word ≡ (codes "cell" ++ 32 ∷ (f_of (word % size) ++ 32 ∷ decimal (word / 2 ^ 31))) ++ 10 ∷ []
  unfolding bit_line
  bit_text word = ap (λ (t : Text). codes "cell f" ++ t) (sym (append_assoc (decimal (word % size)) (32 ∷ decimal (word / 2 ^ 31)) (10 ∷ [])))

  new_by : (t : Bool) (word : ℕ) (cubes : List Cube) (name : Text) (domain : ℕ) (cells : List Given) (before : List ℕ) → is_named size before (word % size) ≡ t → word / 2 ^ 31 < 2 → Fits cells before
      → Takes (pending cubes name domain cells) (line_unless t (bit_line size word)) (pending cubes name domain (cells ++ given_unless t (bit_given size word)))
  new_by true word cubes name domain cells before named lt fits =
      subst (λ (gs : List Given). Takes (pending cubes name domain cells) [] (pending cubes name domain gs)) (sym (append-nil cells)) (takes_none (pending cubes name domain cells))
  new_by false word cubes name domain cells before named lt fits =
      subst (λ (t : Text). Takes (pending cubes name domain cells) t (pending cubes name domain (cells ++ bit_given size word ∷ []))) (sym (bit_text word)) (bit_by (word / 2 ^ 31) word cubes name domain cells before refl lt named fits)

  -- the bit of a word
  pub bit_read : (word : ℕ) (cubes : List Cube) (name : Text) (domain : ℕ) (cells : List Given) (before : List ℕ) → word / 2 ^ 31 < 2 → Fits cells before
      → Takes (pending cubes name domain cells) (new_bit_line size before word) (pending cubes name domain (cells ++ new_bit size before word))
  bit_read word cubes name domain cells before lt fits = new_by (is_named size before (word % size)) word cubes name domain cells before refl lt fits

  pub bit_fits : (word : ℕ) (cells : List Given) (before : List ℕ) → Fits cells before → Fits (cells ++ new_bit size before word) (before ++ word ∷ [])
  bit_fits word cells before fits = fits_by (is_named size before (word % size)) cells before word refl fits
