-- The written vectors are read.
use Rattle.std.proofs.Common.{◌≡◌, ℕ, zero, suc, ◌+◌, ◌-◌, ◌<◌, ◌≤◌, Bool, true, false, List, [], ◌∷◌, ◌++◌, length, map, codes, Option, Some, Ok, inr, refl, sym, ap, subst, ◌∙◌, arith, slice_set, length-append, append_assoc, append-nil}
use Rattle.std.specs.Prelude.{nat_lt}
use Rattle.std.specs.List.{list_any}
use Rattle.std.proofs.Math.Seq.{set-append_seam}
use Rattle.std.proofs.lemmas.Bool.Decides.{nat_tests}
use Rattle.dft_base.specs.Lexing.{Text}
use Rattle.dft_base.specs.declared.dir.Dir.{Dir}
use Rattle.dft_base.specs.declared.dir.Dir.TheVariants.{Input, Output}
use Rattle.dft_patterns.specs.declared.act.Act.{Act}
use Rattle.dft_patterns.specs.declared.act.Act.TheVariants.{Unset, Low, High, Pulse, ExpectLow, ExpectHigh, Ignore}
use Rattle.dft_patterns.specs.declared.signal.StilSignal.{StilSignal}
use Rattle.dft_stil_tokens.specs.declared.text.TokenKind.{TokenKind}
use Rattle.dft_stil_tokens.specs.declared.text.TokenKind.TheVariants as kind
use Rattle.dft_patterns.specs.Acts.{IsActOf, IsTold}
use Rattle.dft_stil_out.specs.Letters.{letter}
use Rattle.dft_stil_tokens.specs.Lexemes.{Token}
use Rattle.dft_stil_tokens.specs.Steps.{kind_of, bytes, left, next, sees, sees_word, sees_name, expect, after, keyword, name}
use Rattle.dft_stil_text.specs.SignalGroups.{Names, Members, elsewhere}
use Rattle.dft_stil_text.specs.WaveformTables.{Waveforms, WaveformTables}
use Rattle.dft_stil_text.specs.Statements.{PatternBlock, Filling, act_in, waveforms_at, filled_by, sees_characters, run_of_characters, runs_from, characters, VectorStatement, vector_after, is_told, with_told, assignment, assignments_from, vector}
use Rattle.dft_stil_out.proofs.WrittenTokens.{cut_up, token, ahead, AllTold, run_kind, run_text, letter_passes, cut_up-run, cut_up-vector, cut_up-ins_set, cut_up-outs_set, cut_up-vector_end}
use Rattle.dft_stil_out.proofs.WrittenSignals.{left-token}
use Rattle.dft_stil_out.proofs.WrittenGroups.{counted, has-past, group_of, grouped}
use Rattle.dft_stil_out.proofs.WrittenTiming.{ins_known, outs_known}

-- ---- characters

-- each of these acts is of this direction, and is told
abbrev pub AllActs : Dir → List Act → Type 0
AllActs d [] = Unit {0}
AllActs d (a ∷ acts) = IsActOf d a × IsTold a × AllActs d acts

pub all_told : (d : Dir) (acts : List Act) → AllActs d acts → AllTold acts
all_told d [] h = tt
all_told d (a ∷ acts) h = (h.1, all_told d acts h.2)

-- each letter of the direction means its act for each of these signals
abbrev pub Means : Option Waveforms → Dir → (from count : ℕ) → Type 0
Means t d from n = (i : ℕ) (a : Act) → from ≤ i → i < from + n → IsActOf d a → IsTold a → act_in t i (letter a) ≡ Some a

-- so many signals ahead from one on
abbrev filling : List Act → (from count : ℕ) → Filling
filling acts from n = record { acts = acts; ahead = counted from n; over = false }

filled : (t : Option Waveforms) (d : Dir) (place from n : ℕ) (xs olds : List Act) (done later : List Act) → Means t d from n → AllActs d xs → length done ≡ from → length xs ≡ n → length olds ≡ n
    → filled_by t place (map letter xs) (filling (done ++ (olds ++ later)) from n) ≡ Ok (filling (done ++ (xs ++ later)) (from + n) 0)
unfolding counted
filled t d place from zero [] [] done later means acts at many old = refl
filled t d place from (suc n) [] olds done later means acts at many old = absurd (omega arith)
filled t d place from zero (a ∷ xs) olds done later means acts at many old = absurd (omega arith)
filled t d place from zero [] (o ∷ olds) done later means acts at many old = absurd (omega arith)
filled t d place from (suc n) (a ∷ xs) [] done later means acts at many old = absurd (omega arith)
filled t d place from (suc n) (a ∷ xs) (o ∷ olds) done later means acts at many old =
    let passes = letter_passes a acts.1 in
    let here : act_in t from (letter a) ≡ Some a = means from a (omega arith) (omega arith) acts.0 acts.1 in
    let put : slice_set (done ++ o ∷ (olds ++ later)) from a ≡ (done ++ a ∷ []) ++ (olds ++ later) =
    ap (λ k. slice_set (done ++ o ∷ (olds ++ later)) k a) (sym at) ∙ set-append_seam done o (olds ++ later) a ∙ sym (append_assoc done (a ∷ []) (olds ++ later)) in
    let ends : from + suc n ≡ suc from + n = omega arith in
    rw (passes, here, put) (filled t d (place - 1) (suc from) n xs olds (done ++ a ∷ []) later (λ i b l m. means i b (omega arith) (omega arith)) acts.2 (omega (arith, length-append done (a ∷ []))) (omega arith) (omega arith)
    ∙ ap (λ (x : List Act). Ok (filling x (suc from + n) 0)) (append_assoc done (a ∷ []) (xs ++ later)))

run_seen : (a : Act) (word : Text) (l : ℕ) (ts : List Token) → sees_characters (token (run_kind a) word l ∷ ts) ≡ true
unfolding sees_characters sees kind_of
run_seen Unset word l ts = refl
run_seen Low word l ts = refl
run_seen High word l ts = refl
run_seen Pulse word l ts = refl
run_seen ExpectLow word l ts = refl
run_seen ExpectHigh word l ts = refl
run_seen Ignore word l ts = refl

characters-at : (t : Option Waveforms) (signals : List ℕ) (acts new : List Act) (k : TokenKind) (word s : Text) (l a n : ℕ) (ts : List Token) → sees_characters (token k word (suc l) ∷ token kind.Semicolon s a ∷ ts) ≡ true
    → filled_by t (suc l) word (record { acts = acts; ahead = signals; over = false }) ≡ Ok (filling new n 0)
    → characters t signals acts (token k word (suc l) ∷ token kind.Semicolon s a ∷ ts) ≡ Ok (new, ts)
unfolding characters runs_from run_of_characters sees kind_of bytes left next expect counted
characters-at t signals acts new k word s l a n ts seen e = rw (seen, e) refl

-- the characters of a group
group_filled : (t : Option Waveforms) (d : Dir) (from : ℕ) (x : Act) (xs olds done later : List Act) (l a : ℕ) (s : Text) (ts : List Token) → (means : Means t d from (suc (length xs))) → (acts : AllActs d (x ∷ xs)) → (at : length done ≡ from) → (old : length olds ≡ suc (length xs))
    → characters t (counted from (suc (length xs))) (done ++ (olds ++ later)) (token (run_kind x) (map letter (x ∷ xs)) (suc l) ∷ token kind.Semicolon s a ∷ ts) ≡ Ok (done ++ ((x ∷ xs) ++ later), ts)
group_filled t d from x xs olds done later l a s ts means acts at old =
    characters-at t (counted from (suc (length xs))) (done ++ (olds ++ later)) (done ++ ((x ∷ xs) ++ later)) (run_kind x) (map letter (x ∷ xs)) s l a (from + suc (length xs)) ts (run_seen x (map letter (x ∷ xs)) (suc l) (token kind.Semicolon s a ∷ ts))
    (filled t d (suc l) from (suc (length xs)) (x ∷ xs) olds done later means acts at refl old)

-- ---- assignments

assignment-at : (names : Names) (t : Option Waveforms) (v : VectorStatement) (m : Members) (word e : Text) (a b : ℕ) (us vs : List Token) (new : List Act) → elsewhere names word ≡ Some m → is_told v m ≡ false → characters t m.signals v.acts us ≡ Ok (new, vs)
    → assignment names t v (token kind.Word word a ∷ token kind.Equals e b ∷ us) ≡ Ok (record { acts = new; told = with_told m.signals v.told }, vs)
unfolding assignment name sees_name sees kind_of bytes left next expect
assignment-at names t v m word e a b us vs new known free is = rw (known, free, is) refl

assignments_from-more : (k : ℕ) (names : Names) (t : Option Waveforms) (v new : VectorStatement) (word : Text) (l : ℕ) (ts us : List Token) → assignment names t v (token kind.Word word l ∷ ts) ≡ Ok (new, us)
    → assignments_from (suc k) names t v (token kind.Word word l ∷ ts) ≡ assignments_from k names t new us
unfolding assignments_from sees kind_of after
assignments_from-more k names t v new word l ts us e = rw e refl

assignments_from-end : (k : ℕ) (names : Names) (t : Option Waveforms) (v : VectorStatement) (word : Text) (l : ℕ) (ts : List Token) → assignments_from (suc k) names t v (token kind.CloseBrace word l ∷ ts) ≡ Ok (v, ts)
unfolding assignments_from sees kind_of after next
assignments_from-end k names t v word l ts = refl

vector-at : (most : ℕ) (names : Names) (tables : WaveformTables) (p : PatternBlock) (v : VectorStatement) (a b : ℕ) (us vs : List Token) → nat_lt (length p.vectors) most ≡ true → assignments_from (left us) names (waveforms_at tables p.table) (vector_after p.acts) us ≡ Ok (v, vs)
    → vector most names tables p (token kind.Word (codes "V") a ∷ token kind.OpenBrace (codes "{") b ∷ us) ≡ Ok (record { table = p.table; acts = v.acts; vectors = p.vectors ++ v.acts ∷ [] }, vs)
unfolding vector keyword sees_word sees kind_of bytes left next expect
vector-at most names tables p v a b us vs room e = rw (room, e) refl

none_told : (from n : ℕ) (f : ℕ → Bool) → ((i : ℕ) → from ≤ i → f i ≡ false) → list_any f (counted from n) ≡ false
unfolding counted
none_told from zero f h = refl
none_told from (suc n) f h = rw (h from (omega arith)) (none_told (suc from) n f (λ i l. h i (omega arith)))

first_untold : (acts : List Act) (n : ℕ) → is_told (vector_after acts) (group_of 0 n) ≡ false
first_untold acts n = none_told 0 n (λ _. false) (λ i l. refl)

second_untold : (acts : List Act) (n m : ℕ) → is_told (record { acts = acts; told = with_told (counted 0 n) (λ _. false) }) (group_of n m) ≡ false
second_untold acts n m = none_told n m (with_told (counted 0 n) (λ _. false)) (λ i l. rw (has-past 0 n i (inr (omega arith))) refl)

-- ---- a vector

-- the pattern so far, in the written table
abbrev pub so_far : List Act → List (List Act) → PatternBlock
so_far acts vectors = record { table = Some 0; acts = acts; vectors = vectors }

-- the tables of one table
abbrev pub one_table : Waveforms → WaveformTables
one_table waveforms = record { names = codes "w" ∷ []; waveforms = waveforms ∷ [] }

-- a vector of inputs alone
pub inputs_read : (most : ℕ) (i : StilSignal) (ins : List StilSignal) (waveforms : Waveforms) (x : Act) (xs olds : List Act) (vectors : List (List Act)) (rest : Text) → Means (Some waveforms) Input 0 (suc (length ins)) → AllActs Input (x ∷ xs)
    → length xs ≡ length ins → length olds ≡ suc (length ins) → length vectors < most
    → vector most (grouped (i ∷ ins) []) (one_table waveforms) (so_far olds vectors) (cut_up false (codes "V { " ++ (codes "ins = " ++ run_text x xs (codes " }\n" ++ rest)))) ≡ Ok (so_far (x ∷ xs) (vectors ++ (x ∷ xs) ∷ []), cut_up false rest)
inputs_read most i ins waveforms x xs olds vectors rest means acts many old room =
    let names : Names = grouped (i ∷ ins) [] in
    let n : ℕ = suc (length ins) in
    let run : Text = run_text x xs (codes " }\n" ++ rest) in
    let room_is : nat_lt (length vectors) most ≡ true = grind (arith, nat_tests) in
    let count : suc (length xs) ≡ n = omega arith in
    let more : ℕ = length (map letter xs ++ 59 ∷ (codes " }\n" ++ rest)) in
    let us : List Token = token (run_kind x) (map letter (x ∷ xs)) (suc more) ∷ token kind.Semicolon (codes ";") (ahead 4 rest) ∷ token kind.CloseBrace (codes "}") (ahead 2 rest) ∷ cut_up false rest in
    let behind : List Token = token kind.CloseBrace (codes "}") (ahead 2 rest) ∷ cut_up false rest in
    let v : VectorStatement = record { acts = x ∷ xs; told = with_told (counted 0 n) (λ _. false) } in
    let set : characters (Some waveforms) (counted 0 n) olds us ≡ Ok (x ∷ xs, behind) =
    ap (λ k. characters (Some waveforms) (counted 0 k) olds us) (sym count)
    ∙ ap (λ (o : List Act). characters (Some waveforms) (counted 0 (suc (length xs))) o us) (sym (append-nil olds))
    ∙ group_filled (Some waveforms) Input 0 x xs olds [] [] more (ahead 4 rest) (codes ";") behind (subst (Means (Some waveforms) Input 0) (sym count) means) acts refl (omega arith)
    ∙ ap (λ (o : List Act). Ok (o, behind)) (append-nil (x ∷ xs)) in
    ap (vector most names (one_table waveforms) (so_far olds vectors)) (cut_up-vector (codes "ins = " ++ run) ∙ ap (λ ts. token kind.Word (codes "V") (ahead 4 (codes "ins = " ++ run)) ∷ token kind.OpenBrace (codes "{") (ahead 2 (codes "ins = " ++ run)) ∷ ts)
    (cut_up-ins_set run ∙ ap (λ ts. token kind.Word (codes "ins") (ahead 6 run) ∷ token kind.Equals (codes "=") (ahead 2 run) ∷ ts)
    (cut_up-run x xs (codes " }\n" ++ rest) (all_told Input (x ∷ xs) acts) ∙ ap (λ ts. token (run_kind x) (map letter (x ∷ xs)) (suc more) ∷ ts) (cut_up-vector_end rest))))
    ∙ vector-at most names (one_table waveforms) (so_far olds vectors) v _ _ (token kind.Word (codes "ins") (ahead 6 run) ∷ token kind.Equals (codes "=") (ahead 2 run) ∷ us) (cut_up false rest) room_is
    (ap (λ k. assignments_from k names (Some waveforms) (vector_after olds) (token kind.Word (codes "ins") (ahead 6 run) ∷ token kind.Equals (codes "=") (ahead 2 run) ∷ us)) (left-token kind.Word (codes "ins") (ahead 6 run) _)
    ∙ assignments_from-more (ahead 5 run) names (Some waveforms) (vector_after olds) v (codes "ins") (ahead 6 run) (token kind.Equals (codes "=") (ahead 2 run) ∷ us) behind
    (assignment-at names (Some waveforms) (vector_after olds) (group_of 0 n) (codes "ins") (codes "=") (ahead 6 run) (ahead 2 run) us behind (x ∷ xs) (ins_known i ins []) (first_untold olds n) set)
    ∙ assignments_from-end (ahead 4 run) names (Some waveforms) v (codes "}") (ahead 2 rest) (cut_up false rest))

-- a vector of inputs and outputs
pub both_read : (most : ℕ) (i : StilSignal) (ins : List StilSignal) (o : StilSignal) (outs : List StilSignal) (waveforms : Waveforms) (x : Act) (xs : List Act) (y : Act) (ys olds others : List Act) (vectors : List (List Act)) (rest : Text)
    → (means : Means (Some waveforms) Input 0 (suc (length ins))) → (means' : Means (Some waveforms) Output (suc (length ins)) (suc (length outs))) → (acts : AllActs Input (x ∷ xs)) → (acts' : AllActs Output (y ∷ ys))
    → (many : length xs ≡ length ins) → (many' : length ys ≡ length outs) → (old : length olds ≡ suc (length ins)) → (old' : length others ≡ suc (length outs)) → (room : length vectors < most)
    → vector most (grouped (i ∷ ins) (o ∷ outs)) (one_table waveforms) (so_far (olds ++ others) vectors) (cut_up false (codes "V { " ++ (codes "ins = " ++ run_text x xs (codes " outs = " ++ run_text y ys (codes " }\n" ++ rest)))))
    ≡ Ok (so_far ((x ∷ xs) ++ (y ∷ ys)) (vectors ++ ((x ∷ xs) ++ (y ∷ ys)) ∷ []), cut_up false rest)
both_read most i ins o outs waveforms x xs y ys olds others vectors rest means means' acts acts' many many' old old' room =
    let names : Names = grouped (i ∷ ins) (o ∷ outs) in
    let n : ℕ = suc (length ins) in
    let m : ℕ = suc (length outs) in
    let second : Text = run_text y ys (codes " }\n" ++ rest) in
    let run : Text = run_text x xs (codes " outs = " ++ second) in
    let room_is : nat_lt (length vectors) most ≡ true = grind (arith, nat_tests) in
    let count : suc (length xs) ≡ n = omega arith in
    let count' : suc (length ys) ≡ m = omega arith in
    let more : ℕ = length (map letter xs ++ 59 ∷ (codes " outs = " ++ second)) in
    let more' : ℕ = length (map letter ys ++ 59 ∷ (codes " }\n" ++ rest)) in
    let end : List Token = token kind.CloseBrace (codes "}") (ahead 2 rest) ∷ cut_up false rest in
    let ws : List Token = token (run_kind y) (map letter (y ∷ ys)) (suc more') ∷ token kind.Semicolon (codes ";") (ahead 4 rest) ∷ end in
    let behind : List Token = token kind.Word (codes "outs") (ahead 7 second) ∷ token kind.Equals (codes "=") (ahead 2 second) ∷ ws in
    let us : List Token = token (run_kind x) (map letter (x ∷ xs)) (suc more) ∷ token kind.Semicolon (codes ";") (ahead 9 second) ∷ behind in
    let v : VectorStatement = record { acts = (x ∷ xs) ++ others; told = with_told (counted 0 n) (λ _. false) } in
    let w : VectorStatement = record { acts = (x ∷ xs) ++ (y ∷ ys); told = with_told (counted n m) v.told } in
    let set : characters (Some waveforms) (counted 0 n) (olds ++ others) us ≡ Ok ((x ∷ xs) ++ others, behind) =
    ap (λ k. characters (Some waveforms) (counted 0 k) (olds ++ others) us) (sym count)
    ∙ group_filled (Some waveforms) Input 0 x xs olds [] others more (ahead 9 second) (codes ";") behind (subst (Means (Some waveforms) Input 0) (sym count) means) acts refl (omega arith) in
    let set' : characters (Some waveforms) (counted n m) ((x ∷ xs) ++ others) ws ≡ Ok ((x ∷ xs) ++ (y ∷ ys), end) =
    ap (λ k. characters (Some waveforms) (counted n k) ((x ∷ xs) ++ others) ws) (sym count')
    ∙ ap (λ (a : List Act). characters (Some waveforms) (counted n (suc (length ys))) ((x ∷ xs) ++ a) ws) (sym (append-nil others))
    ∙ group_filled (Some waveforms) Output n y ys others (x ∷ xs) [] more' (ahead 4 rest) (codes ";") end (subst (Means (Some waveforms) Output n) (sym count') means') acts' (omega arith) (omega arith)
    ∙ ap (λ (a : List Act). Ok ((x ∷ xs) ++ a, end)) (append-nil (y ∷ ys)) in
    ap (vector most names (one_table waveforms) (so_far (olds ++ others) vectors)) (cut_up-vector (codes "ins = " ++ run) ∙ ap (λ ts. token kind.Word (codes "V") (ahead 4 (codes "ins = " ++ run)) ∷ token kind.OpenBrace (codes "{") (ahead 2 (codes "ins = " ++ run)) ∷ ts)
    (cut_up-ins_set run ∙ ap (λ ts. token kind.Word (codes "ins") (ahead 6 run) ∷ token kind.Equals (codes "=") (ahead 2 run) ∷ ts)
    (cut_up-run x xs (codes " outs = " ++ second) (all_told Input (x ∷ xs) acts) ∙ ap (λ ts. token (run_kind x) (map letter (x ∷ xs)) (suc more) ∷ ts)
    (cut_up-outs_set second ∙ ap (λ ts. token kind.Semicolon (codes ";") (ahead 9 second) ∷ token kind.Word (codes "outs") (ahead 7 second) ∷ token kind.Equals (codes "=") (ahead 2 second) ∷ ts)
    (cut_up-run y ys (codes " }\n" ++ rest) (all_told Output (y ∷ ys) acts') ∙ ap (λ ts. token (run_kind y) (map letter (y ∷ ys)) (suc more') ∷ ts) (cut_up-vector_end rest))))))
    ∙ vector-at most names (one_table waveforms) (so_far (olds ++ others) vectors) w _ _ (token kind.Word (codes "ins") (ahead 6 run) ∷ token kind.Equals (codes "=") (ahead 2 run) ∷ us) (cut_up false rest) room_is
    (ap (λ k. assignments_from k names (Some waveforms) (vector_after (olds ++ others)) (token kind.Word (codes "ins") (ahead 6 run) ∷ token kind.Equals (codes "=") (ahead 2 run) ∷ us)) (left-token kind.Word (codes "ins") (ahead 6 run) _)
    ∙ assignments_from-more (ahead 5 run) names (Some waveforms) (vector_after (olds ++ others)) v (codes "ins") (ahead 6 run) (token kind.Equals (codes "=") (ahead 2 run) ∷ us) behind
    (assignment-at names (Some waveforms) (vector_after (olds ++ others)) (group_of 0 n) (codes "ins") (codes "=") (ahead 6 run) (ahead 2 run) us behind ((x ∷ xs) ++ others) (ins_known i ins (o ∷ outs)) (first_untold (olds ++ others) n) set)
    ∙ assignments_from-more (ahead 4 run) names (Some waveforms) v w (codes "outs") (ahead 7 second) (token kind.Equals (codes "=") (ahead 2 second) ∷ ws) end
    (assignment-at names (Some waveforms) v (group_of n m) (codes "outs") (codes "=") (ahead 7 second) (ahead 2 second) ws end ((x ∷ xs) ++ (y ∷ ys)) (outs_known (i ∷ ins) o outs) (second_untold v.acts n m) set')
    ∙ assignments_from-end (ahead 3 run) names (Some waveforms) w (codes "}") (ahead 2 rest) (cut_up false rest))
