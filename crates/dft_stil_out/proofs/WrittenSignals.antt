-- The written declarations of signals are read.
use Rattle.std.proofs.Common.{◌≡◌, ◌≢◌, ℕ, zero, suc, ◌+◌, ◌-◌, ◌<◌, ◌≤◌, Bool, true, false, not, cond, List, [], ◌∷◌, ◌++◌, length, flat_map, codes, Some, None, is_some, Ok, All, AllPairs, refl, sym, ap, subst, ◌∙◌, arith, get_or, length-append, append_assoc, append-nil}
use Rattle.std.specs.Prelude.{nat_lt}
use Rattle.std.specs.List.{prefix_len, list_all, position_or_len}
use Rattle.std.specs.Str.{bytes_eq}
use Rattle.std.proofs.lemmas.Bool.Decides.{nat_tests}
use Rattle.std.proofs.lemmas.List.{get_or_append_left}
use Rattle.std.proofs.lemmas.Slice.Eq.{bytes_eq-Decides}
use Rattle.std.proofs.Math.Seq.{get_or-append_seam}
use Rattle.std.proofs.lemmas.Bool.{and_parts, and_from}
use Rattle.dft_base.specs.Lexing.{Text}
use Rattle.dft_base.specs.declared.dir.Dir.{Dir}
use Rattle.dft_base.specs.declared.dir.Dir.TheVariants.{Input, Output}
use Rattle.dft_base.proofs.TextLemmas.{bytes_eq-self}
use Rattle.dft_patterns.specs.declared.signal.StilSignal.{StilSignal}
use Rattle.dft_stil_tokens.specs.declared.text.TokenKind.{TokenKind}
use Rattle.dft_stil_tokens.specs.declared.text.TokenKind.TheVariants as kind
use Rattle.dft_stil_tokens.specs.Lexemes.{Token}
use Rattle.dft_stil_tokens.specs.Steps.{kind_of, bytes, left, next, sees, sees_word, sees_name, expect, after, keyword, name}
use Rattle.dft_stil_text.specs.SignalGroups.{Names, number_of, is_declared, names_of_signals, direction, signal, signals_from, signals_block, with_new_signal}
use Rattle.dft_stil_out.specs.Writable.{IsQuotable}
use Rattle.dft_stil_out.specs.Written.{way, signal_line}
use Rattle.dft_stil_out.proofs.WrittenTokens.{cut_up, token, ahead, cut_up-name, cut_up-in, cut_up-out, cut_up-close}

-- ---- names that are not given yet

-- none of these names is this word
abbrev pub are_others : List Text → Text → Bool
are_others names word = list_all (λ known. not (bytes_eq known word)) names

differs : (t : Bool) (a b : Text) → bytes_eq a b ≡ t → a ≢ b → not t ≡ true
differs true a b e h = absurd (h ((bytes_eq-Decides a b).0 e))
differs false a b e h = refl

others_from : (ss : List StilSignal) (word : Text) → ((k : ℕ) (d : StilSignal) → k < length ss → (get_or ss k d).name ≢ word) → are_others (names_of_signals ss) word ≡ true
others_from [] word h = refl
others_from (s ∷ ss) word h = and_from (not (bytes_eq s.name word)) _ (differs _ s.name word refl (h 0 s (omega arith))) (others_from ss word (λ k d l. h (suc k) d (omega arith)))

prefix_len-all : {X : Type 0} (p : X → Bool) (xs : List X) → list_all p xs ≡ true → prefix_len p xs ≡ length xs
prefix_len-all p [] all = refl
prefix_len-all p (x ∷ xs) all =
    let parts = and_parts (p x) (list_all p xs) all in
    ap (λ t. cond t (1 + prefix_len p xs) 0) parts.0 ∙ (let ih = prefix_len-all p xs parts.1 in omega arith)

prefix_len-seam : {X : Type 0} (p : X → Bool) (xs : List X) (y : X) (ys : List X) → list_all p xs ≡ true → p y ≡ false → prefix_len p (xs ++ y ∷ ys) ≡ length xs
prefix_len-seam p [] y ys all stops = ap (λ t. cond t (1 + prefix_len p ys) 0) stops
prefix_len-seam p (x ∷ xs) y ys all stops =
    let parts = and_parts (p x) (list_all p xs) all in
    ap (λ t. cond t (1 + prefix_len p (xs ++ y ∷ ys)) 0) parts.0 ∙ (let ih = prefix_len-seam p xs y ys parts.1 stops in omega arith)

pub no_number : (names : List Text) (word : Text) → are_others names word ≡ true → number_of names word ≡ None
no_number names word h =
    let len : position_or_len (λ known. bytes_eq known word) names ≡ length names = prefix_len-all (λ known. not (bytes_eq known word)) names h in
    let past : nat_lt (length names) (length names) ≡ false = grind (arith, nat_tests) in
    rw (len, past) refl

pub number_at : (names : List Text) (word : Text) (more : List Text) → are_others names word ≡ true → number_of (names ++ word ∷ more) word ≡ Some (length names)
number_at names word more h =
    let len : position_or_len (λ known. bytes_eq known word) (names ++ word ∷ more) ≡ length names =
    prefix_len-seam (λ known. not (bytes_eq known word)) names word more h (ap not (bytes_eq-self word)) in
    let inside : nat_lt (length names) (length (names ++ word ∷ more)) ≡ true = grind (arith, nat_tests, length-append names (word ∷ more)) in
    rw (len, inside) refl

-- the names of the signals that are left are not given yet
abbrev pub AllNew : (done todo : List StilSignal) → Type 0
AllNew done [] = Unit {0}
AllNew done (s ∷ todo) = (are_others (names_of_signals done) s.name ≡ true) × AllNew (done ++ s ∷ []) todo

new_here : (done : List StilSignal) (s : StilSignal) (todo : List StilSignal) → AllPairs (λ (s t : StilSignal). s.name ≢ t.name) (done ++ s ∷ todo) → are_others (names_of_signals done) s.name ≡ true
new_here done s todo h = others_from done s.name (λ k d l e.
    h k (length done) d l (omega (arith, length-append done (s ∷ todo)))
    (ap (λ (t : StilSignal). t.name) (get_or_append_left done (s ∷ todo) d k l) ∙ e ∙ ap (λ (t : StilSignal). t.name) (sym (get_or-append_seam done s todo d))))

pub all_new : (done todo : List StilSignal) → AllPairs (λ (s t : StilSignal). s.name ≢ t.name) (done ++ todo) → AllNew done todo
all_new done [] h = tt
all_new done (s ∷ todo) h = (new_here done s todo h, all_new (done ++ s ∷ []) todo (subst (λ ss. AllPairs (λ (s t : StilSignal). s.name ≢ t.name) ss) (sym (append_assoc done (s ∷ []) todo)) h))

-- each name can be quoted
abbrev pub AllQuotable : List StilSignal → Type 0
AllQuotable [] = Unit {0}
AllQuotable (s ∷ ss) = IsQuotable s.name × AllQuotable ss

pub all_quotable : (ss : List StilSignal) → All (λ s. IsQuotable s.name) ss → AllQuotable ss
all_quotable [] h = tt
all_quotable (s ∷ ss) h = (h 0 s (omega arith), all_quotable ss (λ k d l. h (suc k) d (omega arith)))

-- ---- one declaration

-- signals alone
abbrev pub alone : List StilSignal → Names
alone ss = record { signals = ss; group_names = []; groups = [] }

-- the word of a direction
pub dir_word : Dir → Text
dir_word Input = codes "In"
dir_word Output = codes "Out"

known_none : (names : List Text) (word : Text) → are_others names word ≡ true → is_declared names word ≡ false
known_none names word h = ap is_some (no_number names word h)

signal-at : (names : Names) (word : Text) (dir : Dir) (a b c : ℕ) (ts : List Token) → is_declared (names_of_signals names.signals) word ≡ false
    → signal names (token kind.Quoted word a ∷ token kind.Word (dir_word dir) b ∷ token kind.Semicolon (codes ";") c ∷ ts) ≡ Ok (with_new_signal names word dir, ts)
unfolding signal name sees_name sees kind_of bytes left next direction sees_word expect dir_word
signal-at names word Input a b c ts free = rw free refl
signal-at names word Output a b c ts free = rw free refl

declared-text : (s : StilSignal) (rest : Text) → signal_line s ++ rest ≡ 34 ∷ (s.name ++ (way s.dir ++ rest))
declared-text s rest = ap (λ t. 34 ∷ t) (append_assoc s.name (way s.dir) rest)

-- the tokens of a declaration
pub record Declared (s : StilSignal) (rest : Text) : Type 0 where
  pub a : ℕ
  pub b : ℕ
  pub c : ℕ
  pub at : cut_up false (signal_line s ++ rest) ≡ token kind.Quoted s.name (suc a) ∷ token kind.Word (dir_word s.dir) b ∷ token kind.Semicolon (codes ";") c ∷ cut_up false rest
  pub size : length (signal_line s ++ rest) ≡ suc a

declared_by : (dir : Dir) (name rest : Text) → IsQuotable name → Declared (record { name = name; dir = dir }) rest
unfolding dir_word
declared_by Input name rest n = record {
  a = length (name ++ 34 ∷ (codes " In;\n" ++ rest));
  b = ahead 4 rest;
  c = ahead 2 rest;
  at = ap (cut_up false) (declared-text (record { name = name; dir = Input }) rest) ∙ cut_up-name false name (codes " In;\n" ++ rest) n
      ∙ ap (λ ts. token kind.Quoted name (suc (length (name ++ 34 ∷ (codes " In;\n" ++ rest)))) ∷ ts) (cut_up-in rest);
  size = ap length (declared-text (record { name = name; dir = Input }) rest);
}
declared_by Output name rest n = record {
  a = length (name ++ 34 ∷ (codes " Out;\n" ++ rest));
  b = ahead 5 rest;
  c = ahead 2 rest;
  at = ap (cut_up false) (declared-text (record { name = name; dir = Output }) rest) ∙ cut_up-name false name (codes " Out;\n" ++ rest) n
      ∙ ap (λ ts. token kind.Quoted name (suc (length (name ++ 34 ∷ (codes " Out;\n" ++ rest)))) ∷ ts) (cut_up-out rest);
  size = ap length (declared-text (record { name = name; dir = Output }) rest);
}

declared_at : (s : StilSignal) (rest : Text) → IsQuotable s.name → Declared s rest
declared_at s rest n = declared_by s.dir s.name rest n

-- ---- all declarations

signals_from-more : (k : ℕ) (names new : Names) (word : Text) (l : ℕ) (ts us : List Token) → signal names (token kind.Quoted word l ∷ ts) ≡ Ok (new, us)
    → signals_from (suc k) names (token kind.Quoted word l ∷ ts) ≡ signals_from k new us
unfolding signals_from sees kind_of after
signals_from-more k names new word l ts us e = rw e refl

signals_from-end : (k : ℕ) (names : Names) (word : Text) (l : ℕ) (ts : List Token) → signals_from (suc k) names (token kind.CloseBrace word l ∷ ts) ≡ Ok (names, ts)
unfolding signals_from sees kind_of after next
signals_from-end k names word l ts = refl

signals_read : (k : ℕ) (done todo : List StilSignal) (rest : Text) → length todo ≤ k → AllQuotable todo → AllNew done todo
    → signals_from (suc k) (alone done) (cut_up false (flat_map signal_line todo ++ (codes "}" ++ rest))) ≡ Ok (alone (done ++ todo), cut_up false rest)
signals_read k done [] rest few quotable new =
    ap (signals_from (suc k) (alone done)) (cut_up-close rest) ∙ signals_from-end k (alone done) (codes "}") (ahead 1 rest) (cut_up false rest) ∙ ap (λ ss. Ok (alone ss, cut_up false rest)) (sym (append-nil done))
signals_read zero done (s ∷ todo) rest few quotable new = absurd (omega arith)
signals_read (suc k) done (s ∷ todo) rest few quotable new =
    let later : Text = flat_map signal_line todo ++ (codes "}" ++ rest) in
    let d = declared_at s later quotable.0 in
    ap (λ t. signals_from (suc (suc k)) (alone done) (cut_up false t)) (append_assoc (signal_line s) (flat_map signal_line todo) (codes "}" ++ rest))
    ∙ ap (signals_from (suc (suc k)) (alone done)) d.at
    ∙ signals_from-more (suc k) (alone done) (alone (done ++ s ∷ [])) s.name (suc d.a) _ (cut_up false later) (signal-at (alone done) s.name s.dir (suc d.a) d.b d.c (cut_up false later) (known_none (names_of_signals done) s.name new.0))
    ∙ signals_read k (done ++ s ∷ []) todo rest (omega arith) quotable.1 new.1
    ∙ ap (λ ss. Ok (alone ss, cut_up false rest)) (append_assoc done (s ∷ []) todo)

declared_long : (ss : List StilSignal) (rest : Text) → suc (length ss) ≤ length (flat_map signal_line ss ++ (codes "}" ++ rest))
declared_long [] rest = omega arith
declared_long (s ∷ ss) rest =
    let ih = declared_long ss rest in
    omega (arith, ih, ap length (append_assoc (signal_line s) (flat_map signal_line ss) (codes "}" ++ rest)), length-append (signal_line s) (flat_map signal_line ss ++ (codes "}" ++ rest)))

left_of : (ts us : List Token) → ts ≡ us → left ts ≡ left us
left_of ts us e = ap left e

pub left-token : (k : TokenKind) (word : Text) (l : ℕ) (ts : List Token) → left (token k word l ∷ ts) ≡ l
unfolding left
left-token k word l ts = refl

declared_left : (ss : List StilSignal) (rest : Text) → AllQuotable ss → left (cut_up false (flat_map signal_line ss ++ (codes "}" ++ rest))) ≡ length (flat_map signal_line ss ++ (codes "}" ++ rest))
declared_left [] rest h = left_of _ _ (cut_up-close rest) ∙ left-token kind.CloseBrace (codes "}") (ahead 1 rest) (cut_up false rest)
declared_left (s ∷ ss) rest h =
    let later : Text = flat_map signal_line ss ++ (codes "}" ++ rest) in
    let d = declared_at s later h.0 in
    let e = append_assoc (signal_line s) (flat_map signal_line ss) (codes "}" ++ rest) in
    ap (λ t. left (cut_up false t)) e ∙ left_of _ _ d.at ∙ left-token kind.Quoted s.name (suc d.a) _ ∙ sym d.size ∙ sym (ap length e)

block-at : (a b : ℕ) (ts us : List Token) (names : Names) → signals_from (left ts) (alone []) ts ≡ Ok (names, us)
    → signals_block (token kind.Word (codes "Signals") a ∷ token kind.OpenBrace (codes "{") b ∷ ts) ≡ Ok (names, us)
unfolding signals_block keyword sees_word sees kind_of bytes next expect
block-at a b ts us names e = e

pub declarations_read : (ss : List StilSignal) (a b : ℕ) (rest : Text) → AllQuotable ss → AllNew [] ss
    → signals_block (token kind.Word (codes "Signals") a ∷ token kind.OpenBrace (codes "{") b ∷ cut_up false (flat_map signal_line ss ++ (codes "}" ++ rest))) ≡ Ok (alone ss, cut_up false rest)
declarations_read ss a b rest quotable new =
    let text : Text = flat_map signal_line ss ++ (codes "}" ++ rest) in
    let long = declared_long ss rest in
    let e : left (cut_up false text) ≡ suc (length text - 1) = declared_left ss rest quotable ∙ (omega arith) in
    block-at a b (cut_up false text) (cut_up false rest) (alone ss)
    (ap (λ n. signals_from n (alone []) (cut_up false text)) e ∙ signals_read (length text - 1) [] ss rest (omega arith) quotable new)
