-- Words at the front of what is left of a line, and the first line of a text.
use Rattle.std.proofs.Common.{ℕ, suc, ◌+◌, ◌-◌, ◌==◌, ◌≡◌, ◌<◌, ◌≤◌, Bool, true, false, not, List, [], ◌∷◌, length, take, drop, drop-cons, get_or, map, ◌++◌, None, Some, refl, sym, subst, ap, arith, ◌∙◌}
use Rattle.std.proofs.lemmas.List.{append_assoc, append-nil, map-append, length-drop, drop_all, drop-drop, get_or-drop, take_rest}
use Rattle.std.proofs.lemmas.List.Elements.{All-push}
use Rattle.std.proofs.lemmas.List.Sums.{prefix_len_stops, prefix_len-le-length}
use Rattle.std.specs.Prelude.{if◌then◌else◌}
use Rattle.std.specs.List.{prefix_len}
use Rattle.dft_base.specs.Lexing.{Text}
use Rattle.dft_word_lines.specs.declared.words.Span.{Span}
use Rattle.dft_word_lines.specs.Lines.{onto_first, lines_of, is_gap, words_from, words_of, cut, IsNextWord, WordsBefore}

abbrev pub is_inner : ℕ → Bool
is_inner b = not (is_gap b)

less_by : (a b : ℕ) → a ≤ b → (a ≡ b → ⊥) → a < b
less_by = grind arith

one_more : (n : ℕ) → suc n ≡ 1 + n
one_more n = omega arith

-- gaps are passed
gaps_by : (b : ℕ) (t : Text) (g : Bool) → is_gap b ≡ g → words_from false t ≡ words_from false (drop (prefix_len is_gap t) t) →
    words_from false (b ∷ t) ≡ words_from false (drop (if g then 1 + prefix_len is_gap t else 0) (b ∷ t))
unfolding words_from
gaps_by b t true is rest = ap (λ (g : Bool). if g then words_from false t else if b == 35 then [] else onto_first b (words_from true t)) is ∙ rest
    ∙ ap (λ (k : ℕ). words_from false (drop k (b ∷ t))) (one_more (prefix_len is_gap t))
gaps_by b t false is rest = refl

pub gaps_pass : (t : Text) → words_from false t ≡ words_from false (drop (prefix_len is_gap t) t)
gaps_pass [] = refl
gaps_pass (b ∷ t) = gaps_by b t (is_gap b) refl (gaps_pass t)

-- a word ends before a gap
word_by : (b : ℕ) (t : Text) (g : Bool) → is_gap b ≡ g → words_from true t ≡ take (prefix_len is_inner t) t ∷ words_from false (drop (prefix_len is_inner t) t) →
    words_from true (b ∷ t) ≡ take (if not g then 1 + prefix_len is_inner t else 0) (b ∷ t) ∷ words_from false (drop (if not g then 1 + prefix_len is_inner t else 0) (b ∷ t))
unfolding words_from
word_by b t true is rest =
    ap (λ (g : Bool). if g then [] ∷ words_from false t else onto_first b (words_from true t)) is
    ∙ ap (λ (g : Bool). [] ∷ (if g then words_from false t else if b == 35 then [] else onto_first b (words_from true t))) (sym is)
word_by b t false is rest =
    ap (λ (g : Bool). if g then [] ∷ words_from false t else onto_first b (words_from true t)) is ∙ ap (onto_first b) rest
    ∙ ap (λ (k : ℕ). take k (b ∷ t) ∷ words_from false (drop k (b ∷ t))) (one_more (prefix_len is_inner t))

pub word_ends : (t : Text) → words_from true t ≡ take (prefix_len is_inner t) t ∷ words_from false (drop (prefix_len is_inner t) t)
unfolding words_from
word_ends [] = refl
word_ends (b ∷ t) = word_by b t (is_gap b) refl (word_ends t)

-- a word begins at a byte that is no gap and begins no comment
pub word_begins : (b : ℕ) (t : Text) → is_gap b ≡ false → (b == 35) ≡ false → words_from false (b ∷ t) ≡ words_from true (b ∷ t)
unfolding words_from
word_begins b t gap hash =
    ap (λ (g : Bool). if g then words_from false t else if b == 35 then [] else onto_first b (words_from true t)) gap
    ∙ ap (λ (h : Bool). if h then [] else onto_first b (words_from true t)) hash
    ∙ sym (ap (λ (g : Bool). if g then [] ∷ words_from false t else onto_first b (words_from true t)) gap)

pub comment_begins : (b : ℕ) (t : Text) → is_gap b ≡ false → b ≡ 35 → words_from false (b ∷ t) ≡ []
unfolding words_from
comment_begins b t gap hash =
    ap (λ (g : Bool). if g then words_from false t else if b == 35 then [] else onto_first b (words_from true t)) gap
    ∙ ap (λ (h : Bool). if h then [] else onto_first b (words_from true t)) (ap (λ (k : ℕ). k == 35) hash)

-- ---- the next word by where it stands

-- the place behind the gaps
gaps_end : (line : Text) (at n : ℕ) → n ≡ prefix_len is_gap (take (length line - at) (drop at line)) → words_from false (drop at line) ≡ words_from false (drop (at + n) line)
gaps_end line at n is =
    gaps_pass (drop at line) ∙ ap (λ (k : ℕ). words_from false (drop k (drop at line))) (sym (is ∙ ap (prefix_len is_gap) (take_rest line at))) ∙ ap (words_from false) (drop-drop n at line)

no_gap : (line : Text) (at n : ℕ) → n ≡ prefix_len is_gap (take (length line - at) (drop at line)) → at + n < length line → is_gap (get_or line (at + n) 0) ≡ false
no_gap line at n is less =
    let same : n ≡ prefix_len is_gap (drop at line) = is ∙ ap (prefix_len is_gap) (take_rest line at) in
    let long : length (drop at line) ≡ length line - at = length-drop at line in
    ap is_gap (sym (get_or-drop at line n 0)) ∙ ap (λ (k : ℕ). is_gap (get_or (drop at line) k 0)) same ∙ prefix_len_stops is_gap (drop at line) 0 (omega (arith, same, long, less))

pub ends_there : (line : Text) (at n : ℕ) → n ≡ prefix_len is_gap (take (length line - at) (drop at line)) → at + n ≡ length line → words_from false (drop at line) ≡ []
unfolding words_from
ends_there line at n is end = gaps_end line at n is ∙ ap (words_from false) (ap (λ (k : ℕ). drop k line) end ∙ drop_all (length line) line (omega arith))

pub comment_there : (line : Text) (at n : ℕ) → n ≡ prefix_len is_gap (take (length line - at) (drop at line)) → at + n < length line → get_or line (at + n) 0 ≡ 35 → words_from false (drop at line) ≡ []
comment_there line at n is less hash =
    gaps_end line at n is ∙ ap (words_from false) (drop-cons line (at + n) 0 less) ∙ comment_begins (get_or line (at + n) 0) (drop (suc (at + n)) line) (no_gap line at n is less) hash

inner_some : (b : ℕ) (t : Text) → is_gap b ≡ false → 0 < prefix_len is_inner (b ∷ t)
inner_some b t gap = subst (λ (g : Bool). 0 < (if not g then 1 + prefix_len is_inner t else 0)) (sym gap) (omega arith)

pub word_there : (line : Text) (at n m : ℕ) → n ≡ prefix_len is_gap (take (length line - at) (drop at line)) → at + n < length line → (get_or line (at + n) 0 == 35) ≡ false →
    m ≡ prefix_len is_inner (take (length line - (at + n)) (drop (at + n) line)) → IsNextWord line at (Some (record { start = at + n; end = at + n + m }))
word_there line at n m is less hash size =
    let s : ℕ = at + n in
    let b : ℕ = get_or line s 0 in
    let here : drop s line ≡ b ∷ drop (suc s) line = drop-cons line s 0 less in
    let gap : is_gap b ≡ false = no_gap line at n is less in
    let same : m ≡ prefix_len is_inner (drop s line) = size ∙ ap (prefix_len is_inner) (take_rest line s) in
    let long : length (drop s line) ≡ length line - s = length-drop s line in
    let some : 0 < prefix_len is_inner (drop s line) = subst (λ (t : Text). 0 < prefix_len is_inner t) (sym here) (inner_some b (drop (suc s) line) gap) in
    let fits : prefix_len is_inner (drop s line) ≤ length (drop s line) = prefix_len-le-length is_inner (drop s line) in
    let count : s + m - s ≡ m = omega arith in (
      gaps_end line at n is ∙ ap (words_from false) here ∙ word_begins b (drop (suc s) line) gap hash ∙ ap (words_from true) (sym here) ∙ word_ends (drop s line)
          ∙ ap (λ (k : ℕ). take k (drop s line) ∷ words_from false (drop k (drop s line))) (sym same)
          ∙ (λ i. take (sym count i) (drop s line) ∷ words_from false (drop-drop m s line i)),
      omega arith,
      omega (arith, same, some),
      omega (arith, same, fits, long, less),
    )

pub front_less : (line : Text) (at n : ℕ) → at ≤ length line → n ≤ length (take (length line - at) (drop at line)) → (at + n ≡ length line → ⊥) → at + n < length line
front_less line at n begun within other =
    let long : length (take (length line - at) (drop at line)) ≡ length line - at = ap length (take_rest line at) ∙ length-drop at line in
    less_by (at + n) (length line) (omega (arith, begun, within, long)) other

-- ---- all words

pub no_words : (line : Text) (spans : List Span) → spans ≡ [] → WordsBefore line 0 spans
no_words line spans none = subst (WordsBefore line 0) (sym none) (record { inside = omega arith; words = refl; within = λ k d less. absurd (omega arith) })

pub one_word : (line : Text) (at : ℕ) (span : Span) (spans more : List Span) → WordsBefore line at spans → IsNextWord line at (Some span) → more ≡ spans ++ span ∷ [] → WordsBefore line span.end more
one_word line at span spans more before next is = subst (WordsBefore line span.end) (sym is) (record {
  inside = next.3;
  words = ap (λ (words : List Text). words ++ words_from false (drop span.end line)) (map-append (cut line) spans (span ∷ []))
      ∙ append_assoc (map (cut line) spans) (cut line span ∷ []) (words_from false (drop span.end line))
      ∙ ap (λ (words : List Text). map (cut line) spans ++ words) (sym next.0) ∙ before.words;
  within = All-push (λ (s : Span). (s.start < s.end) × (s.end ≤ length line)) spans span before.within (next.2, next.3);
})

pub all_words : (line : Text) (at : ℕ) (spans : List Span) → WordsBefore line at spans → IsNextWord line at None → map (cut line) spans ≡ words_of line
all_words line at spans before next = sym (append-nil (map (cut line) spans)) ∙ ap (λ (words : List Text). map (cut line) spans ++ words) (sym next) ∙ before.words

-- ---- lines

abbrev pub is_on_line : ℕ → Bool
is_on_line b = not (b == 10)

-- the first line, and those behind its end
abbrev pub lines_behind : (len : ℕ) → Text → List Text
lines_behind len text = if len == length text then [] else lines_of (drop (len + 1) text)

zero_apart : (m : ℕ) → (0 == suc m) ≡ false
zero_apart = grind arith

both_more : (n m : ℕ) → (n == m) ≡ (1 + n == 1 + m)
both_more = grind arith

behind_more : (n b : ℕ) (t : Text) → lines_behind n t ≡ lines_behind (1 + n) (b ∷ t)
behind_more n b t =
    let long : 1 + length t ≡ length (b ∷ t) = omega arith in
    let left : suc (n + 1) ≡ 1 + n + 1 = omega arith in
    (λ i. if both_more n (length t) i then [] else lines_of (drop (n + 1) t))
    ∙ (λ i. if 1 + n == long i then [] else lines_of (drop (left i) (b ∷ t)))

line_by : (b : ℕ) (t : Text) (e : Bool) → (b == 10) ≡ e → lines_of t ≡ take (prefix_len is_on_line t) t ∷ lines_behind (prefix_len is_on_line t) t →
    lines_of (b ∷ t) ≡ take (if not e then 1 + prefix_len is_on_line t else 0) (b ∷ t) ∷ lines_behind (if not e then 1 + prefix_len is_on_line t else 0) (b ∷ t)
unfolding lines_of
line_by b t true is rest =
    ap (λ (e : Bool). if e then [] ∷ lines_of t else onto_first b (lines_of t)) is ∙ ap (λ (e : Bool). [] ∷ (if e then [] else lines_of t)) (sym (zero_apart (length t)))
line_by b t false is rest =
    ap (λ (e : Bool). if e then [] ∷ lines_of t else onto_first b (lines_of t)) is ∙ ap (onto_first b) rest
    ∙ ap (λ (lines : List Text). (b ∷ take (prefix_len is_on_line t) t) ∷ lines) (behind_more (prefix_len is_on_line t) b t)
    ∙ ap (λ (k : ℕ). take k (b ∷ t) ∷ lines_behind (1 + prefix_len is_on_line t) (b ∷ t)) (one_more (prefix_len is_on_line t))

pub line_ends : (t : Text) → lines_of t ≡ take (prefix_len is_on_line t) t ∷ lines_behind (prefix_len is_on_line t) t
unfolding lines_of
line_ends [] = refl
line_ends (b ∷ t) = line_by b t (b == 10) refl (line_ends t)
