-- The lines that are left of a text, and what they give.
use Rattle.std.proofs.Common.{ℕ, suc, ◌+◌, ◌-◌, ◌==◌, ◌≡◌, ◌≤◌, Bool, false, List, [], ◌∷◌, length, take, drop, subst, Option, None, Result, sym, ap, arith, ◌∙◌}
use Rattle.std.proofs.lemmas.List.{length-drop, drop-drop, take_rest}
use Rattle.std.specs.Prelude.{if◌then◌else◌}
use Rattle.std.specs.List.{prefix_len}
use Rattle.std.proofs.lemmas.Bool.{eq-eqb}
use Rattle.dft_base.specs.Lexing.{Text}
use Rattle.dft_netlist.specs.Netlist.{Netlist}
use Rattle.dft_config.specs.Config.{Config}
use Rattle.dft_word_lines.specs.Lines.{lines_of, words_of}
use Rattle.dft_word_lines.proofs.LineLemmas.{is_on_line, line_ends}
use Rattle.dft_cubes.specs.declared.cube.Cube.{Cube}
use Rattle.dft_cubes.specs.declared.error.CubeError.{CubeError}
use Rattle.dft_cubes.specs.declared.error.CubeError.TheVariants.{Q1, Q2, Q3, Q4, Q5, Q6, Q7, Q8, Q9, Memory}
use Rattle.dft_cubes.specs.Cubes.{Reading, IsFault, IsRefused, cubes_from, cubes_of, ended, line_refusal, or_refused, place_of_line, with_line}

-- the lines from a place on; there is none behind the last
abbrev pub lines_at : (at : ℕ) → Text → List Text
lines_at at text = if at == length text + 1 then [] else lines_of (drop at text)

not_behind : (at n : ℕ) → at ≤ n → (at == n + 1) ≡ false
not_behind = grind arith

next_at : (at n m k : ℕ) → m ≡ k + 1 + at → at ≤ n → (k == (n - at)) ≡ (m == n + 1)
next_at = grind arith

-- the first of the lines that are left
pub line_at : (at : ℕ) (text : Text) → at ≤ length text →
    lines_at at text ≡ take (prefix_len is_on_line (drop at text)) (drop at text) ∷ lines_at (at + (prefix_len is_on_line (drop at text) + 1)) text
line_at at text begun =
    let t : Text = drop at text in
    let p : ℕ = prefix_len is_on_line t in
    (λ i. if not_behind at (length text) begun i then [] else lines_of t) ∙ line_ends t
    ∙ ap (λ (lines : List Text). take p t ∷ lines)
    ((λ i. if p == length-drop at text i then [] else lines_of (drop (p + 1) t))
    ∙ (λ i. if next_at at (length text) (at + (p + 1)) p (omega arith) begun i then [] else lines_of (drop-drop (p + 1) at text i)))

none_at : (at : ℕ) (text : Text) → at ≡ length text + 1 → lines_at at text ≡ []
none_at at text end = ap (λ (b : Bool). if b then [] else lines_of (drop at text)) (eq-eqb at (length text + 1) end)

-- ---- what the lines give

-- a line that fails decides
pub fails : (fault : Option CubeError) (error : CubeError) (later : Result (List Cube) CubeError) → IsFault fault error → IsRefused (or_refused fault later) error
fails fault (Q1 place) later is = ap (λ (f : Option CubeError). or_refused f later) is
fails fault (Q2 place name) later is = ap (λ (f : Option CubeError). or_refused f later) is
fails fault (Q3 place name) later is = ap (λ (f : Option CubeError). or_refused f later) is
fails fault (Q4 place name) later is = ap (λ (f : Option CubeError). or_refused f later) is
fails fault (Q5 place name) later is = ap (λ (f : Option CubeError). or_refused f later) is
fails fault (Q6 place name) later is = ap (λ (f : Option CubeError). or_refused f later) is
fails fault (Q7 place) later is = ap (λ (f : Option CubeError). or_refused f later) is
fails fault (Q8 place name) later is = ap (λ (f : Option CubeError). or_refused f later) is
fails fault (Q9 place) later is = ap (λ (f : Option CubeError). or_refused f later) is
fails fault (Memory error) later is = tt

-- what is known of a line that is at hand
pub record IsLine (text : Text) (at len : ℕ) (line : Text) : Type 0 where
  pub begun : at ≤ length text
  pub size : len ≡ prefix_len is_on_line (take (length text - at) (drop at text))
  pub same : line ≡ take (at + len - at) (drop at text)

-- the lines that are left begin with the one at hand
pub lines_begin : (text : Text) (at len : ℕ) (line : Text) → IsLine text at len line → lines_at at text ≡ line ∷ lines_at (at + (len + 1)) text
lines_begin text at len line is =
    let p : ℕ = prefix_len is_on_line (drop at text) in
    let size : len ≡ p = is.size ∙ ap (prefix_len is_on_line) (take_rest text at) in
    let count : at + len - at ≡ len = omega arith in
    let front : line ≡ take p (drop at text) = is.same ∙ ap (λ (k : ℕ). take k (drop at text)) (count ∙ size) in
    line_at at text is.begun ∙ (λ i. sym front i ∷ lines_at (at + (sym size i + 1)) text)

-- a line that fails refuses the text
pub text_fails : (n : Netlist) (config : Config) (text : Text) (r : Reading) (number at len : ℕ) (line : Text) (words : List Text) (error : CubeError) → IsLine text at len line →
    words ≡ words_of line → cubes_of n config text ≡ cubes_from n config r number (lines_at at text) →
    IsFault (line_refusal n config r (record { line = number + 1; column = 1 }) words) error → IsRefused (cubes_of n config text) error
unfolding cubes_from
text_fails n config text r number at len line words error is cut rest fault =
    let later : Result (List Cube) CubeError = cubes_from n config (with_line n config r (words_of line)) (suc number) (lines_at (at + (len + 1)) text) in
    let place : number + 1 ≡ suc number = omega arith in
    let failed = subst (λ (ws : List Text). IsFault (line_refusal n config r (record { line = number + 1; column = 1 }) ws) error) cut fault in
    let placed = subst (λ (k : ℕ). IsFault (line_refusal n config r (record { line = k; column = 1 }) (words_of line)) error) place failed in
    subst (λ (told : Result (List Cube) CubeError). IsRefused told error) (sym (rest ∙ ap (cubes_from n config r number) (lines_begin text at len line is)))
    (fails (line_refusal n config r (place_of_line (suc number)) (words_of line)) error later placed)

-- a line that passes leaves the rest
pub text_passes : (n : Netlist) (config : Config) (text : Text) (r more : Reading) (number at len : ℕ) (line : Text) (words : List Text) → IsLine text at len line →
    words ≡ words_of line → cubes_of n config text ≡ cubes_from n config r number (lines_at at text) →
    line_refusal n config r (record { line = number + 1; column = 1 }) words ≡ None → more ≡ with_line n config r words →
    cubes_of n config text ≡ cubes_from n config more (number + 1) (lines_at (at + (len + 1)) text)
unfolding cubes_from
text_passes n config text r more number at len line words is cut rest passed next =
    let place : number + 1 ≡ suc number = omega arith in
    let later : Result (List Cube) CubeError = cubes_from n config (with_line n config r (words_of line)) (suc number) (lines_at (at + (len + 1)) text) in
    let none : line_refusal n config r (place_of_line (suc number)) (words_of line) ≡ None =
    sym (λ i. line_refusal n config r (record { line = place i; column = 1 }) (cut i)) ∙ passed in
    rest ∙ ap (cubes_from n config r number) (lines_begin text at len line is) ∙ ap (λ (f : Option CubeError). or_refused f later) none
    ∙ (λ i. cubes_from n config (sym (next ∙ ap (with_line n config r) cut) i) (sym place i) (lines_at (at + (len + 1)) text))

-- behind the last line
pub text_ends : (n : Netlist) (config : Config) (text : Text) (r : Reading) (number at : ℕ) → at ≡ length text + 1 →
    cubes_of n config text ≡ cubes_from n config r number (lines_at at text) → cubes_of n config text ≡ ended number r.cubes r.pending
unfolding cubes_from
text_ends n config text r number at end rest = rest ∙ ap (cubes_from n config r number) (none_at at text end)
