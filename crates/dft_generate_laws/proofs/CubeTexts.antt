-- Generated cubes are read as the stated cubes.
use Rattle.std.proofs.Common.{◌≡◌, ℕ, zero, suc, ◌+◌, ◌-◌, ◌*◌, ◌/◌, ◌%◌, ◌<◌, ◌≤◌, ◌^◌, true, false, leb, List, [], ◌∷◌, ◌++◌, length, map, flat_map, take, drop, Option, Some, None, Ok, codes, decimal, refl, sym, ap, ◌∙◌, subst, arith, append_assoc, append-nil, length-append}
use Rattle.std.specs.List.{list_all, All, range_with_len}
use Rattle.std.proofs.Math.Nat.{mod-lt, div-lt_iff_lt-mul}
use Rattle.std.proofs.lemmas.Bool.Decides.{nat_tests}
use Rattle.std.proofs.lemmas.Fmt.{decimal_digit}
use Rattle.dft_base.specs.Lexing.{Text}
use Rattle.dft_cells.specs.WellFormed.{has_name}
use Rattle.dft_word_lines.specs.Lines.{lines_of, words_from, are_printed}
use Rattle.dft_cubes.specs.declared.cube.Cube.{Cube}
use Rattle.dft_cubes.specs.declared.limits.TheConstants.{MAX_CUBES}
use Rattle.dft_cubes.specs.Cubes.{Reading, names_of, or_first, domain_named, line_refusal, with_line, cubes_from}
use Rattle.dft_generate.specs.Configurations.{configuration}
use Rattle.dft_generate.specs.Cubes.{cube_line, cube_lines, bit_lines, new_bit_line, words_in, cubes_text}
use Rattle.dft_generate_laws.specs.Designs.{numbered, design}
use Rattle.dft_generate_laws.specs.CubeLists.{Given, new_bit, bits_given, cube_in, cubes_in, AreWords}
use Rattle.dft_generate_laws.specs.Laws.{CubesAreRead}
use Rattle.dft_generate_laws.proofs.Nets.{has-other}
use Rattle.dft_generate_laws.proofs.Ties.{numbers_differ}
use Rattle.dft_generate_laws.proofs.CubeWords.{is_inside, digits_inside, printed_word, three_words, word_last, three_line}
use Rattle.dft_generate_laws.proofs.CubeBits.{Takes, takes_more, takes_line, fits_none, pending, bit_read, bit_fits}
use Rattle.dft_generate_laws.proofs.Lengths.{small_drop}

-- ---- words

half : (word : ℕ) → word < 2 ^ 32 → word / 2 ^ 31 < 2
half word lt = (div-lt_iff_lt-mul {k = 2 ^ 31} {x = word} {y = 2} (omega arith)).1 (omega (arith, lt))

front : (xs : List ℕ) → 4 ≤ length xs → (a : ℕ) × (b : ℕ) × (c : ℕ) × (d : ℕ) × (take 4 xs ≡ a ∷ b ∷ c ∷ d ∷ [])
front [] le = absurd (omega (arith, le))
front (a ∷ []) le = absurd (omega (arith, le))
front (a ∷ b ∷ []) le = absurd (omega (arith, le))
front (a ∷ b ∷ c ∷ []) le = absurd (omega (arith, le))
front (a ∷ b ∷ c ∷ d ∷ xs) le = (a, b, c, d, refl)

-- ---- lines

module _ (size : ℕ) (words : List ℕ) (few : size ≤ 20000) (some : 0 < size) where
  -- what was read between cubes, and the version that is known there
  abbrev before : (version : Option ℕ) → List Cube → Reading
  before version cubes = record { version = version; cubes = cubes; pending = None }

  abbrev between : List Cube → Reading
  between cubes = before (Some 1) cubes

  -- behind a cube the version is known
  abbrev behind_all : (version : Option ℕ) → (count : ℕ) → Option ℕ
  behind_all version zero = version
  behind_all version (suc count) = Some 1

  known_behind : (count : ℕ) → behind_all (Some 1) count ≡ Some 1
  known_behind zero = refl
  known_behind (suc count) = refl

  domain_known : (clock : ℕ) → clock < 2 → domain_named configuration (codes "clk" ++ decimal clock) ≡ Some clock
  domain_known zero lt = ap (λ (ds : Text). domain_named configuration (codes "clk" ++ ds)) (decimal_digit 0 (omega arith))
  domain_known (suc zero) lt = ap (λ (ds : Text). domain_named configuration (codes "clk" ++ ds)) (decimal_digit 1 (omega arith))
  domain_known (suc (suc clock)) lt = absurd (omega (arith, lt))

  cube_text : (cube : ℕ) → cube_line cube ≡ (codes "cube" ++ 32 ∷ (numbered 107 cube ++ 32 ∷ (codes "clk" ++ decimal (cube % 2)))) ++ 10 ∷ []
  unfolding cube_line
  cube_text cube =
      ap (λ (t : Text). codes "cube k" ++ t) (ap (λ (t : Text). decimal cube ++ (codes " clk" ++ t)) refl ∙ sym (append_assoc (decimal cube) (codes " clk" ++ decimal (cube % 2)) (10 ∷ [])))

  begins : (version : Option ℕ) → or_first version ≡ 1 → (cube : ℕ) (cubes : List Cube) → cube < 2 ^ 64 → has_name (names_of cubes) (numbered 107 cube) ≡ false → length cubes < MAX_CUBES → Takes size words few some (before version cubes) (cube_line cube) (pending size words few some cubes (numbered 107 cube) (cube % 2) [])
  begins version first cube cubes wide new room =
      let clock : Text = codes "clk" ++ decimal (cube % 2) in
      let lt : cube % 2 < 2 = mod-lt cube (omega arith) in
      let name_in : list_all is_inside (numbered 107 cube) ≡ true = digits_inside cube wide in
      let clock_in : list_all is_inside clock ≡ true = digits_inside (cube % 2) (omega (arith, lt)) in
      let line : Text = codes "cube" ++ 32 ∷ (numbered 107 cube ++ 32 ∷ clock) in
      let said = three_words 99 107 99 (codes "ube") (decimal cube) (codes "lk" ++ decimal (cube % 2)) refl name_in clock_in in
      let printed : are_printed (codes "cube" ∷ numbered 107 cube ∷ clock ∷ []) ≡ true = rw (printed_word (numbered 107 cube) name_in, printed_word clock clock_in) refl in
      let full : leb MAX_CUBES (length cubes) ≡ false = grind (arith, nat_tests) in
      subst (λ (t : Text). Takes size words few some (before version cubes) t (pending size words few some cubes (numbered 107 cube) (cube % 2) [])) (sym (cube_text cube))
      (takes_line size words few some (before version cubes) (pending size words few some cubes (numbered 107 cube) (cube % 2) []) line (three_line (codes "cube") (numbered 107 cube) clock refl name_in clock_in)
      (λ place. ap (line_refusal (design size words) configuration (before version cubes) place) said ∙ rw (printed, domain_known (cube % 2) lt, new, full) refl)
      (ap (with_line (design size words) configuration (before version cubes)) said ∙ rw (domain_known (cube % 2) lt, first) refl))

  ends : (cubes : List Cube) (name : Text) (domain : ℕ) (cells : List Given)
      → Takes size words few some (pending size words few some cubes name domain cells) (codes "end\n") (between (cubes ++ record { name = name; domains = record { first = domain; second = None }; cells = cells; ports = [] } ∷ []))
  ends cubes name domain cells =
      let said = word_last 101 (codes "nd") refl in
      takes_line size words few some (pending size words few some cubes name domain cells) (between (cubes ++ record { name = name; domains = record { first = domain; second = None }; cells = cells; ports = [] } ∷ [])) (codes "end") refl
      (λ place. ap (line_refusal (design size words) configuration (pending size words few some cubes name domain cells) place) said)
      (ap (with_line (design size words) configuration (pending size words few some cubes name domain cells)) said)

  -- ---- care bits

  four_read : (a b c d : ℕ) (cubes : List Cube) (name : Text) (domain : ℕ) → a < 2 ^ 32 → b < 2 ^ 32 → c < 2 ^ 32 → d < 2 ^ 32
      → Takes size words few some (pending size words few some cubes name domain []) (bit_lines size (a ∷ b ∷ c ∷ d ∷ [])) (pending size words few some cubes name domain (bits_given size (a ∷ b ∷ c ∷ d ∷ [])))
  unfolding bit_lines
  four_read a b c d cubes name domain la lb lc ld =
      let n0 : List Given = new_bit size [] a in
      let n1 : List Given = new_bit size (a ∷ []) b in
      let n2 : List Given = new_bit size (a ∷ b ∷ []) c in
      let n3 : List Given = new_bit size (a ∷ b ∷ c ∷ []) d in
      let f0 = bit_fits size words few some a [] [] (fits_none size words few some) in
      let f1 = bit_fits size words few some b n0 (a ∷ []) f0 in
      let f2 = bit_fits size words few some c (n0 ++ n1) (a ∷ b ∷ []) f1 in
      let t0 = bit_read size words few some a cubes name domain [] [] (half a la) (fits_none size words few some) in
      let t1 = bit_read size words few some b cubes name domain n0 (a ∷ []) (half b lb) f0 in
      let t2 = bit_read size words few some c cubes name domain (n0 ++ n1) (a ∷ b ∷ []) (half c lc) f1 in
      let t3 = bit_read size words few some d cubes name domain ((n0 ++ n1) ++ n2) (a ∷ b ∷ c ∷ []) (half d ld) f2 in
      let same : ((n0 ++ n1) ++ n2) ++ n3 ≡ n0 ++ (n1 ++ (n2 ++ n3)) = append_assoc (n0 ++ n1) n2 n3 ∙ append_assoc n0 n1 (n2 ++ n3) in
      subst (λ (gs : List Given). Takes size words few some (pending size words few some cubes name domain [])
      (new_bit_line size [] a ++ (new_bit_line size (a ∷ []) b ++ (new_bit_line size (a ∷ b ∷ []) c ++ new_bit_line size (a ∷ b ∷ c ∷ []) d))) (pending size words few some cubes name domain gs)) same
      (takes_more size words few some (pending size words few some cubes name domain []) (pending size words few some cubes name domain n0) (pending size words few some cubes name domain (((n0 ++ n1) ++ n2) ++ n3)) (new_bit_line size [] a)
      (new_bit_line size (a ∷ []) b ++ (new_bit_line size (a ∷ b ∷ []) c ++ new_bit_line size (a ∷ b ∷ c ∷ []) d)) t0
      (takes_more size words few some (pending size words few some cubes name domain n0) (pending size words few some cubes name domain (n0 ++ n1)) (pending size words few some cubes name domain (((n0 ++ n1) ++ n2) ++ n3)) (new_bit_line size (a ∷ []) b)
      (new_bit_line size (a ∷ b ∷ []) c ++ new_bit_line size (a ∷ b ∷ c ∷ []) d) t1
      (takes_more size words few some (pending size words few some cubes name domain (n0 ++ n1)) (pending size words few some cubes name domain ((n0 ++ n1) ++ n2)) (pending size words few some cubes name domain (((n0 ++ n1) ++ n2) ++ n3)) (new_bit_line size (a ∷ b ∷ []) c)
      (new_bit_line size (a ∷ b ∷ c ∷ []) d) t2 t3)))

  -- ---- cubes

  at_drop : (xs : List ℕ) (k : ℕ) → k ≤ length xs → length (drop k xs) ≡ length xs - k
  at_drop xs zero le = omega arith
  at_drop [] (suc k) le = absurd (omega (arith, le))
  at_drop (x ∷ xs) (suc k) le = at_drop xs k (omega (arith, le)) ∙ omega arith

  bits_read : AreWords size words → (cube : ℕ) (cubes : List Cube) (name : Text) (domain : ℕ) → cube < size / 4
      → Takes size words few some (pending size words few some cubes name domain []) (bit_lines size (words_in size words cube)) (pending size words few some cubes name domain (bits_given size (words_in size words cube)))
  bits_read are cube cubes name domain lt =
      let at : ℕ = size * 3 + cube * 4 in
      let enough = are.enough in
      let inside : at + 4 ≤ length words = omega (arith, enough, lt) in
      let four : at + 4 - at ≡ 4 = omega arith in
      let f = front (drop at words) (let e = at_drop words at (omega (arith, inside)) in omega (arith, e, inside)) in
      let is : words_in size words cube ≡ f.0 ∷ f.1 ∷ f.2 ∷ f.3 ∷ [] = subst (λ (k : ℕ). take k (drop at words) ≡ f.0 ∷ f.1 ∷ f.2 ∷ f.3 ∷ []) {x = 4} (sym four) f.4 in
      let low = lows (drop at words) f.0 f.1 f.2 f.3 f.4 (small_drop words at are.small) in
      subst (λ (ws : List ℕ). Takes size words few some (pending size words few some cubes name domain []) (bit_lines size ws) (pending size words few some cubes name domain (bits_given size ws))) {x = f.0 ∷ f.1 ∷ f.2 ∷ f.3 ∷ []} (sym is)
      (four_read f.0 f.1 f.2 f.3 cubes name domain low.0 low.1 low.2 low.3)
    where
      lows : (xs : List ℕ) (a b c d : ℕ) → take 4 xs ≡ a ∷ b ∷ c ∷ d ∷ [] → All (λ w. w < 2 ^ 32) xs → (a < 2 ^ 32) × (b < 2 ^ 32) × (c < 2 ^ 32) × (d < 2 ^ 32)
      lows [] a b c d e all = absurd (let f : ⊥ = cc in f)
      lows (w ∷ []) a b c d e all = absurd (let f : ⊥ = cc in f)
      lows (w ∷ x ∷ []) a b c d e all = absurd (let f : ⊥ = cc in f)
      lows (w ∷ x ∷ y ∷ []) a b c d e all = absurd (let f : ⊥ = cc in f)
      lows (w ∷ x ∷ y ∷ z ∷ xs) a b c d e all =
          let p : w ≡ a = cc in
          let q : x ≡ b = cc in
          let r : y ≡ c = cc in
          let s : z ≡ d = cc in
          (subst (λ (k : ℕ). k < 2 ^ 32) p (all 0 0 (omega arith)), subst (λ (k : ℕ). k < 2 ^ 32) q (all 1 0 (omega arith)), subst (λ (k : ℕ). k < 2 ^ 32) r (all 2 0 (omega arith)), subst (λ (k : ℕ). k < 2 ^ 32) s (all 3 0 (omega arith)))

  one_cube : (version : Option ℕ) → or_first version ≡ 1 → AreWords size words → (cube : ℕ) (cubes : List Cube) → cube < size / 4 → size / 4 ≤ 20000 → has_name (names_of cubes) (numbered 107 cube) ≡ false → length cubes < MAX_CUBES
      → Takes size words few some (before version cubes) (cube_lines size words cube) (between (cubes ++ cube_in size words cube ∷ []))
  unfolding cube_lines
  one_cube version first are cube cubes lt low new room =
      let name : Text = numbered 107 cube in
      let cells : List Given = bits_given size (words_in size words cube) in
      takes_more size words few some (before version cubes) (pending size words few some cubes name (cube % 2) []) (between (cubes ++ cube_in size words cube ∷ [])) (cube_line cube) (bit_lines size (words_in size words cube) ++ codes "end\n")
      (begins version first cube cubes (omega (arith, lt, low)) new room)
      (takes_more size words few some (pending size words few some cubes name (cube % 2) []) (pending size words few some cubes name (cube % 2) cells) (between (cubes ++ cube_in size words cube ∷ [])) (bit_lines size (words_in size words cube)) (codes "end\n")
      (bits_read are cube cubes name (cube % 2) lt) (ends cubes name (cube % 2) cells))

  names_push : (cubes : List Cube) (c : Cube) → names_of (cubes ++ c ∷ []) ≡ names_of cubes ++ c.name ∷ []
  names_push [] c = refl
  names_push (x ∷ cubes) c = ap (λ (ns : List Text). x.name ∷ ns) (names_push cubes c)

  all_cubes : (version : Option ℕ) → or_first version ≡ 1 → AreWords size words → (count from : ℕ) (cubes : List Cube) → from + count ≤ size / 4 → size / 4 ≤ 20000 → length cubes ≡ from → ((k : ℕ) → from ≤ k → k < 2 ^ 64 → has_name (names_of cubes) (numbered 107 k) ≡ false)
      → Takes size words few some (before version cubes) (flat_map (cube_lines size words) (range_with_len from count)) (before (behind_all version count) (cubes ++ map (cube_in size words) (range_with_len from count)))
  all_cubes version first are zero from cubes last low count new = subst (λ (cs : List Cube). Takes size words few some (before version cubes) [] (before version cs)) (sym (append-nil cubes)) (λ number. (number, λ rest. refl))
  all_cubes version first are (suc more) from cubes last low count new =
      let here : Cube = cube_in size words from in
      let next : length (cubes ++ here ∷ []) ≡ from + 1 = omega (arith, count, length-append cubes (here ∷ [])) in
      let free : (k : ℕ) → from + 1 ≤ k → k < 2 ^ 64 → has_name (names_of (cubes ++ here ∷ [])) (numbered 107 k) ≡ false =
      λ k le wide. ap (λ (ns : List Text). has_name ns (numbered 107 k)) (names_push cubes here) ∙ has-other (names_of cubes) (numbered 107 from) (numbered 107 k) (new k (omega (arith, le)) wide)
      (numbers_differ 107 from k (omega (arith, last, low)) wide (λ e. absurd (omega (arith, e, le)))) in
      let rest = all_cubes (Some 1) refl are more (from + 1) (cubes ++ here ∷ []) (omega (arith, last)) low next free in
      let behind : List Cube = map (cube_in size words) (range_with_len (from + 1) more) in
      takes_more size words few some (before version cubes) (between (cubes ++ here ∷ [])) (between (cubes ++ here ∷ behind)) (cube_lines size words from) (flat_map (cube_lines size words) (range_with_len (from + 1) more))
      (one_cube version first are from cubes (omega (arith, last)) low (new from (omega arith) (omega (arith, last, low))) (omega (arith, count, last, low)))
      (subst (λ (cs : List Cube). Takes size words few some (between (cubes ++ here ∷ [])) (flat_map (cube_lines size words) (range_with_len (from + 1) more)) (between cs)) (append_assoc cubes (here ∷ []) behind)
      (subst (λ (v : Option ℕ). Takes size words few some (between (cubes ++ here ∷ [])) (flat_map (cube_lines size words) (range_with_len (from + 1) more)) (before v ((cubes ++ here ∷ []) ++ behind))) (known_behind more) rest))

  end_read : (version : Option ℕ) (cubes : List Cube) (number : ℕ) → cubes_from (design size words) configuration (before version cubes) number (lines_of []) ≡ Ok cubes
  unfolding cubes_from words_from lines_of
  end_read version cubes number = refl

  pub cubes_read : AreWords size words → cubes_from (design size words) configuration (before None []) 0 (lines_of (cubes_text size words)) ≡ Ok (cubes_in size words)
  cubes_read are =
      let quarter : size / 4 ≤ 20000 = omega (arith, few) in
      let all = all_cubes None refl are (size / 4) 0 [] (omega arith) quarter refl (λ k le wide. refl) 0 in
      ap (λ (t : Text). cubes_from (design size words) configuration (before None []) 0 (lines_of t)) (sym (append-nil (cubes_text size words))) ∙ all.1 [] ∙ end_read (behind_all None (size / 4)) (cubes_in size words) all.0

pub cubes_are_read : CubesAreRead
cubes_are_read size words is are = let low = is.low in cubes_read size words is.high (omega (arith, low)) are
