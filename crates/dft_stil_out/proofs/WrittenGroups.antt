-- The written lists of groups are read.
use Rattle.std.proofs.Common.{◌≡◌, ℕ, zero, suc, ◌+◌, ◌-◌, ◌<◌, ◌≤◌, true, false, List, [], ◌∷◌, ◌++◌, length, map, codes, Some, Ok, inl, inr, ◌⊎◌, subst, refl, sym, ap, ◌∙◌, arith, length-append, append_assoc, append-nil}
use Rattle.std.specs.Prelude.{nat_eq}
use Rattle.std.specs.List.{join_with_byte}
use Rattle.std.proofs.lemmas.Bool.Decides.{nat_tests}
use Rattle.std.proofs.lemmas.List.{map-append, length-map}
use Rattle.dft_base.specs.Lexing.{Text}
use Rattle.dft_base.specs.declared.dir.Dir.{Dir}
use Rattle.dft_base.specs.declared.dir.Dir.TheVariants.{Input, Output}
use Rattle.dft_patterns.specs.declared.signal.StilSignal.{StilSignal}
use Rattle.dft_stil_tokens.specs.declared.text.TokenKind.TheVariants as kind
use Rattle.dft_stil_tokens.specs.Lexemes.{Token}
use Rattle.dft_stil_tokens.specs.Steps.{kind_of, bytes, left, next, sees, sees_word, sees_name, expect, after, after_word, name}
use Rattle.dft_stil_text.specs.SignalGroups.{Names, Members, number_of, is_declared, names_of_signals, one_signal, has_signal, with_members, member, members_from, members, with_group, group, groups_from, name_if_any, group_block, sees_groups, after_groups, group_blocks_from, group_blocks}
use Rattle.dft_stil_out.specs.Written.{quoted}
use Rattle.dft_stil_out.specs.Written as form
use Rattle.dft_stil_out.proofs.WrittenTokens.{cut_up, token, ahead, cut_up-name, cut_up-ins_are, cut_up-outs_are, cut_up-plus, cut_up-listed, cut_up-close, cut_up-timing}
use Rattle.dft_stil_out.proofs.WrittenSignals.{are_others, number_at, AllNew, AllQuotable, alone, left-token}

-- ---- the numbers of a group's signals

-- so many numbers from one on
unfoldable pub counted : (from count : ℕ) → List ℕ
counted from zero = []
counted from (suc n) = from ∷ counted (suc from) n

counted-push : (from n m : ℕ) → m ≡ from + n → counted from n ++ m ∷ [] ≡ counted from (suc n)
unfolding counted
counted-push from zero m e = let f : m ≡ from = omega arith in ap (λ k. k ∷ []) f
counted-push from (suc n) m e = ap (λ ns. from ∷ ns) (counted-push (suc from) n m (omega arith))

pub has-past : (from n m : ℕ) → ((m < from) ⊎ (from + n ≤ m)) → has_signal (counted from n) m ≡ false
unfolding counted
has-past from zero m h = refl
has-past from (suc n) m (inl h) =
    let other : nat_eq from m ≡ false = grind (arith, nat_tests) in
    rw (other, has-past (suc from) n m (inl (omega arith))) refl
has-past from (suc n) m (inr h) =
    let other : nat_eq from m ≡ false = grind (arith, nat_tests) in
    rw (other, has-past (suc from) n m (inr (omega arith))) refl

-- a group of so many signals from one on
abbrev pub group_of : (from count : ℕ) → Members
group_of from n = record { signals = counted from n; repeated = false }

joined-one : (from n m : ℕ) → m ≡ from + n → with_members (group_of from n) (one_signal m) ≡ group_of from (suc n)
joined-one from n m e = rw (has-past from n m (inr (omega arith)), counted-push from n m e) refl

joined-first : (from : ℕ) → with_members (record { signals = []; repeated = false }) (one_signal from) ≡ group_of from 1
unfolding counted
joined-first from = refl

-- ---- one name

number_here : (signals prefix : List StilSignal) (s : StilSignal) (more : List StilSignal) → signals ≡ prefix ++ s ∷ more → are_others (names_of_signals prefix) s.name ≡ true
    → number_of (names_of_signals signals) s.name ≡ Some (length prefix)
number_here signals prefix s more e h =
    ap (λ ss. number_of (names_of_signals ss) s.name) e ∙ ap (λ ns. number_of ns s.name) (map-append (λ (s : StilSignal). s.name) prefix (s ∷ more))
    ∙ number_at (names_of_signals prefix) s.name (names_of_signals more) h ∙ ap (λ n. Some n) (length-map prefix (λ (s : StilSignal). s.name))

member-at : (names : Names) (word : Text) (m l : ℕ) (ts : List Token) → number_of (names_of_signals names.signals) word ≡ Some m → member names (token kind.Quoted word l ∷ ts) ≡ Ok (one_signal m, ts)
unfolding member name sees_name sees kind_of bytes left next
member-at names word m l ts e = rw e refl

quoted_text : (s : StilSignal) (rest : Text) → quoted s ++ rest ≡ 34 ∷ (s.name ++ 34 ∷ rest)
quoted_text s rest = ap (λ t. 34 ∷ t) (append_assoc s.name (codes "\"") rest)

-- ---- the names behind the first

-- the names of a list behind its first, each behind a plus
list_behind : List StilSignal → Text
list_behind [] = []
list_behind (s ∷ ss) = 43 ∷ (quoted s ++ list_behind ss)

join-is : (s : StilSignal) (ss : List StilSignal) → join_with_byte 43 (map quoted (s ∷ ss)) ≡ quoted s ++ list_behind ss
unfolding list_behind
join-is s [] = sym (append-nil (quoted s))
join-is s (t ∷ ss) = ap (λ x. quoted s ++ 43 ∷ x) (join-is t ss)

members_from-more : (k : ℕ) (names : Names) (m x : Members) (word : Text) (l : ℕ) (ts us : List Token) → member names ts ≡ Ok (x, us)
    → members_from (suc k) names m (token kind.Plus word l ∷ ts) ≡ members_from k names (with_members m x) us
unfolding members_from sees kind_of after next
members_from-more k names m x word l ts us e = rw e refl

members_from-end : (k : ℕ) (names : Names) (m : Members) (word : Text) (l : ℕ) (ts : List Token) → members_from (suc k) names m (token kind.Quote word l ∷ ts) ≡ Ok (m, token kind.Quote word l ∷ ts)
unfolding members_from sees kind_of after
members_from-end k names m word l ts = refl

behind-text : (s : StilSignal) (ss : List StilSignal) (rest : Text) → list_behind (s ∷ ss) ++ rest ≡ 43 ∷ 34 ∷ (s.name ++ 34 ∷ (list_behind ss ++ rest))
unfolding list_behind
behind-text s ss rest = ap (λ t. 43 ∷ t) (append_assoc (quoted s) (list_behind ss) rest ∙ quoted_text s (list_behind ss ++ rest))

behind-none : (rest : Text) → list_behind [] ++ rest ≡ rest
unfolding list_behind
behind-none rest = refl

behind_read : (k from n t : ℕ) (names : Names) (prefix todo last : List StilSignal) (rest : Text) → length todo ≤ k → names.signals ≡ prefix ++ (todo ++ last) → length prefix ≡ from + n → n + length todo ≡ t
    → AllQuotable todo → AllNew prefix (todo ++ last)
    → members_from (suc k) names (group_of from n) (cut_up true (list_behind todo ++ (codes "';\n" ++ rest))) ≡ Ok (group_of from t, cut_up true (codes "';\n" ++ rest))
behind_read k from n t names prefix [] last rest few is at total quotable new =
    ap (λ x. members_from (suc k) names (group_of from n) (cut_up true x)) (behind-none (codes "';\n" ++ rest))
    ∙ ap (members_from (suc k) names (group_of from n)) (cut_up-listed rest) ∙ members_from-end k names (group_of from n) (codes "'") (ahead 3 rest) _
    ∙ (let e : n ≡ t = omega arith in ap (λ (m : ℕ). Ok (group_of from m, token kind.Quote (codes "'") (ahead 3 rest) ∷ token kind.Semicolon (codes ";") (ahead 2 rest) ∷ cut_up false rest)) e)
    ∙ ap (λ ts. Ok (group_of from t, ts)) (sym (cut_up-listed rest))
behind_read zero from n t names prefix (s ∷ todo) last rest few is at total quotable new = absurd (omega arith)
behind_read (suc k) from n t names prefix (s ∷ todo) last rest few is at total quotable new =
    let later : Text = list_behind todo ++ (codes "';\n" ++ rest) in
    ap (λ x. members_from (suc (suc k)) names (group_of from n) (cut_up true x)) (behind-text s todo (codes "';\n" ++ rest))
    ∙ ap (members_from (suc (suc k)) names (group_of from n)) (cut_up-plus (34 ∷ (s.name ++ 34 ∷ later)) ∙ ap (λ ts. token kind.Plus (codes "+") (ahead 1 (34 ∷ (s.name ++ 34 ∷ later))) ∷ ts) (cut_up-name true s.name later quotable.0))
    ∙ members_from-more (suc k) names (group_of from n) (one_signal (length prefix)) (codes "+") _ _ (cut_up true later)
    (member-at names s.name (length prefix) _ (cut_up true later) (number_here names.signals prefix s (todo ++ last) is new.0))
    ∙ ap (λ m. members_from (suc k) names m (cut_up true later)) (joined-one from n (length prefix) at)
    ∙ behind_read k from (suc n) t names (prefix ++ s ∷ []) todo last rest (omega arith) (is ∙ sym (append_assoc prefix (s ∷ []) (todo ++ last))) (omega (arith, length-append prefix (s ∷ []))) (omega arith) quotable.1 new.1

behind_left : (todo : List StilSignal) (rest : Text) → left (cut_up true (list_behind todo ++ (codes "';\n" ++ rest))) ≡ length (list_behind todo ++ (codes "';\n" ++ rest))
behind_left [] rest =
    ap (λ t. left (cut_up true t)) (behind-none (codes "';\n" ++ rest)) ∙ ap left (cut_up-listed rest) ∙ left-token kind.Quote (codes "'") (ahead 3 rest) _ ∙ sym (ap length (behind-none (codes "';\n" ++ rest)))
behind_left (s ∷ todo) rest =
    let later : Text = 34 ∷ (s.name ++ 34 ∷ (list_behind todo ++ (codes "';\n" ++ rest))) in
    ap (λ t. left (cut_up true t)) (behind-text s todo (codes "';\n" ++ rest)) ∙ ap left (cut_up-plus later) ∙ left-token kind.Plus (codes "+") (ahead 1 later) _ ∙ sym (ap length (behind-text s todo (codes "';\n" ++ rest)))

behind_long : (todo : List StilSignal) (rest : Text) → suc (length todo) ≤ length (list_behind todo ++ (codes "';\n" ++ rest))
behind_long [] rest = omega (arith, ap length (behind-none (codes "';\n" ++ rest)))
behind_long (s ∷ todo) rest =
    let ih = behind_long todo rest in
    omega (arith, ih, ap length (behind-text s todo (codes "';\n" ++ rest)), length-append s.name (34 ∷ (list_behind todo ++ (codes "';\n" ++ rest))))

-- ---- a list

members-at : (names : Names) (first : Members) (word : Text) (l : ℕ) (ts : List Token) → member names (token kind.Quoted word l ∷ ts) ≡ Ok (first, ts)
    → members names (token kind.Quoted word l ∷ ts) ≡ members_from (left ts) names (with_members (record { signals = []; repeated = false }) first) ts
unfolding members
members-at names first word l ts e = rw e refl

list_read : (names : Names) (prefix : List StilSignal) (s : StilSignal) (todo last : List StilSignal) (rest : Text) → names.signals ≡ prefix ++ (s ∷ todo ++ last) → AllQuotable (s ∷ todo) → AllNew prefix (s ∷ todo ++ last)
    → members names (cut_up true (34 ∷ (s.name ++ 34 ∷ (list_behind todo ++ (codes "';\n" ++ rest))))) ≡ Ok (group_of (length prefix) (suc (length todo)), cut_up true (codes "';\n" ++ rest))
list_read names prefix s todo last rest is quotable new =
    let later : Text = list_behind todo ++ (codes "';\n" ++ rest) in
    let from : ℕ = length prefix in
    let long = behind_long todo rest in
    let size : left (cut_up true later) ≡ suc (length later - 1) = behind_left todo rest ∙ (omega arith) in
    ap (members names) (cut_up-name true s.name later quotable.0)
    ∙ members-at names (one_signal from) s.name _ (cut_up true later) (member-at names s.name from _ (cut_up true later) (number_here names.signals prefix s (todo ++ last) is new.0))
    ∙ ap (λ n. members_from n names (with_members (record { signals = []; repeated = false }) (one_signal from)) (cut_up true later)) size
    ∙ ap (λ m. members_from (suc (length later - 1)) names m (cut_up true later)) (joined-first from)
    ∙ behind_read (length later - 1) from 1 (suc (length todo)) names (prefix ++ s ∷ []) todo last rest (omega arith) (is ∙ sym (append_assoc prefix (s ∷ []) (todo ++ last))) (omega (arith, length-append prefix (s ∷ []))) (omega arith) quotable.1 new.1

-- ---- a group

-- the name of the group of a direction
unfoldable pub label : Dir → Text
label Input = codes "ins"
label Output = codes "outs"

-- the tokens before a group's list
record Listed (d : Dir) (rest : Text) : Type 0 where
  a : ℕ
  b : ℕ
  c : ℕ
  at : cut_up false (label d ++ (codes " = '" ++ rest)) ≡ token kind.Word (label d) a ∷ token kind.Equals (codes "=") b ∷ token kind.Quote (codes "'") c ∷ cut_up true rest
  size : length (label d ++ (codes " = '" ++ rest)) ≡ a

listed_at : (d : Dir) (rest : Text) → Listed d rest
unfolding label
listed_at Input rest = record { a = ahead 7 rest; b = ahead 3 rest; c = ahead 1 rest; at = cut_up-ins_are rest; size = refl }
listed_at Output rest = record { a = ahead 8 rest; b = ahead 3 rest; c = ahead 1 rest; at = cut_up-outs_are rest; size = refl }

group-at : (names : Names) (m : Members) (word e q r s : Text) (a b c d f : ℕ) (us vs : List Token) → is_declared names.group_names word ≡ false → members names us ≡ Ok (m, token kind.Quote r d ∷ token kind.Semicolon s f ∷ vs)
    → group names (token kind.Word word a ∷ token kind.Equals e b ∷ token kind.Quote q c ∷ us) ≡ Ok (with_group names word m, vs)
unfolding group name sees_name sees kind_of bytes left next expect
group-at names m word e q r s a b c d f us vs free is = rw (free, is) refl

groups_from-more : (k : ℕ) (names new : Names) (word : Text) (l : ℕ) (ts us : List Token) → group names (token kind.Word word l ∷ ts) ≡ Ok (new, us)
    → groups_from (suc k) names (token kind.Word word l ∷ ts) ≡ groups_from k new us
unfolding groups_from sees kind_of after
groups_from-more k names new word l ts us e = rw e refl

groups_from-end : (k : ℕ) (names : Names) (word : Text) (l : ℕ) (ts : List Token) → groups_from (suc k) names (token kind.CloseBrace word l ∷ ts) ≡ Ok (names, ts)
unfolding groups_from sees kind_of after next
groups_from-end k names word l ts = refl

-- names with the group of these signals, of which the first has this number
unfoldable pub grown : Dir → (from : ℕ) → List StilSignal → Names → Names
grown d from [] names = names
grown d from (s ∷ ss) names = with_group names (label d) (group_of from (suc (length ss)))

-- one turn more for a group that is written
unfoldable pub turns : List StilSignal → ℕ → ℕ
turns [] k = k
turns (s ∷ ss) k = suc k

group-text : (d : Dir) (s : StilSignal) (ss : List StilSignal) (rest : Text) → form.group_line (label d) (s ∷ ss) ++ rest ≡ label d ++ (codes " = '" ++ (34 ∷ (s.name ++ 34 ∷ (list_behind ss ++ (codes "';\n" ++ rest)))))
group-text d s ss rest =
    append_assoc (label d) (codes " = '" ++ (join_with_byte 43 (map quoted (s ∷ ss)) ++ codes "';\n")) rest
    ∙ ap (λ t. label d ++ (codes " = '" ++ t)) (append_assoc (join_with_byte 43 (map quoted (s ∷ ss))) (codes "';\n") rest
    ∙ ap (λ t. t ++ (codes "';\n" ++ rest)) (join-is s ss) ∙ append_assoc (quoted s) (list_behind ss) (codes "';\n" ++ rest) ∙ quoted_text s (list_behind ss ++ (codes "';\n" ++ rest)))

group_read : (d : Dir) (k : ℕ) (names : Names) (prefix ss last : List StilSignal) (rest : Text) → names.signals ≡ prefix ++ (ss ++ last) → AllQuotable ss → AllNew prefix (ss ++ last) → is_declared names.group_names (label d) ≡ false
    → groups_from (turns ss k) names (cut_up false (form.group_line (label d) ss ++ rest)) ≡ groups_from k (grown d (length prefix) ss names) (cut_up false rest)
unfolding grown turns
group_read d k names prefix [] last rest is quotable new free = refl
group_read d k names prefix (s ∷ ss) last rest is quotable new free =
    let list : Text = 34 ∷ (s.name ++ 34 ∷ (list_behind ss ++ (codes "';\n" ++ rest))) in
    let l = listed_at d list in
    ap (λ t. groups_from (suc k) names (cut_up false t)) (group-text d s ss rest) ∙ ap (groups_from (suc k) names) l.at
    ∙ groups_from-more k names (with_group names (label d) (group_of (length prefix) (suc (length ss)))) (label d) l.a _ (cut_up false rest)
    (group-at names (group_of (length prefix) (suc (length ss))) (label d) (codes "=") (codes "'") (codes "'") (codes ";") l.a l.b l.c (ahead 3 rest) (ahead 2 rest) (cut_up true list) (cut_up false rest) free
    (list_read names prefix s ss last rest is quotable new ∙ ap (λ ts. Ok (group_of (length prefix) (suc (length ss)), ts)) (cut_up-listed rest)))

-- ---- the block of groups

-- the first token's place is the text's begin
abbrev pub IsFront : Text → Type 0
IsFront text = left (cut_up false text) ≡ length text

group_front : (d : Dir) (ss : List StilSignal) (rest : Text) → IsFront rest → IsFront (form.group_line (label d) ss ++ rest)
group_front d [] rest h = h
group_front d (s ∷ ss) rest h =
    let list : Text = 34 ∷ (s.name ++ 34 ∷ (list_behind ss ++ (codes "';\n" ++ rest))) in
    let l = listed_at d list in
    let e = group-text d s ss rest in
    ap (λ t. left (cut_up false t)) e ∙ ap left l.at ∙ left-token kind.Word (label d) l.a _ ∙ sym l.size ∙ sym (ap length e)

pub close_front : (rest : Text) → IsFront (codes "}" ++ rest)
close_front rest = ap left (cut_up-close rest) ∙ left-token kind.CloseBrace (codes "}") (ahead 1 rest) _

-- so many turns are enough for two groups and a brace
pub record Enough (ins outs : List StilSignal) (n : ℕ) : Type 0 where
  pub more : ℕ
  pub is : n ≡ turns ins (turns outs (suc more))

pub enough : (ins outs : List StilSignal) (n : ℕ) → 3 ≤ n → Enough ins outs n
unfolding turns
enough [] [] n h = record { more = n - 1; is = omega arith }
enough [] (o ∷ outs) n h = record { more = n - 2; is = omega arith }
enough (i ∷ ins) [] n h = record { more = n - 2; is = omega arith }
enough (i ∷ ins) (o ∷ outs) n h = record { more = n - 3; is = omega arith }

-- the signals and both groups
abbrev pub grouped : (ins outs : List StilSignal) → Names
grouped ins outs = grown Output (length ins) outs (grown Input 0 ins (alone (ins ++ outs)))

first_free : (d : Dir) (ss : List StilSignal) → is_declared (alone ss).group_names (label d) ≡ false
first_free d ss = refl

second_free : (ins all : List StilSignal) → is_declared (grown Input 0 ins (alone all)).group_names (label Output) ≡ false
unfolding grown label
second_free [] all = refl
second_free (i ∷ ins) all = refl

same_signals : (d : Dir) (from : ℕ) (ss : List StilSignal) (names : Names) → (grown d from ss names).signals ≡ names.signals
unfolding grown
same_signals d from [] names = refl
same_signals d from (s ∷ ss) names = refl

pub grouped-signals : (ins outs : List StilSignal) → (grouped ins outs).signals ≡ ins ++ outs
grouped-signals ins outs = same_signals Output (length ins) outs (grown Input 0 ins (alone (ins ++ outs))) ∙ same_signals Input 0 ins (alone (ins ++ outs))

new_behind : (done ins outs : List StilSignal) → AllNew done (ins ++ outs) → AllNew (done ++ ins) outs
new_behind done [] outs h = subst (λ ss. AllNew ss outs) (sym (append-nil done)) h
new_behind done (i ∷ ins) outs h = subst (λ ss. AllNew ss outs) (append_assoc done (i ∷ []) ins) (new_behind (done ++ i ∷ []) ins outs h.1)

blocks-at : (a b l : ℕ) (names new : Names) (us vs : List Token) → groups_from (left us) names us ≡ Ok (new, token kind.Word (codes "Timing") l ∷ vs)
    → group_blocks names (token kind.Word (codes "SignalGroups") (suc (suc a)) ∷ token kind.OpenBrace (codes "{") b ∷ us) ≡ Ok (new, token kind.Word (codes "Timing") l ∷ vs)
unfolding group_blocks group_blocks_from sees_groups after_groups after_word sees_word sees kind_of bytes left next group_block name_if_any sees_name expect
blocks-at a b l names new us vs e = rw e refl

-- the head of the table of waveforms, and what follows
abbrev pub timing_text : Text → Text
timing_text rest = codes "\nTiming {\nWaveformTable w {\nPeriod '100ns';\nWaveforms {\n" ++ rest

pub groups_read : (ins outs : List StilSignal) (a b : ℕ) (rest : Text) → AllQuotable ins → AllQuotable outs → AllNew [] (ins ++ outs)
    → group_blocks (alone (ins ++ outs)) (token kind.Word (codes "SignalGroups") (suc (suc a)) ∷ token kind.OpenBrace (codes "{") b ∷ cut_up false (form.group_line (codes "ins") ins ++ (form.group_line (codes "outs") outs ++ (codes "}" ++ timing_text rest))))
    ≡ Ok (grouped ins outs, cut_up false (timing_text rest))
unfolding label
groups_read ins outs a b rest qi qo new =
    let end : Text = codes "}" ++ timing_text rest in
    let behind : Text = form.group_line (label Output) outs ++ end in
    let text : Text = form.group_line (label Input) ins ++ behind in
    let all : Names = alone (ins ++ outs) in
    let mid : Names = grown Input 0 ins all in
    let size : left (cut_up false text) ≡ length text = group_front Input ins behind (group_front Output outs end (close_front (timing_text rest))) in
    let n = enough ins outs (length text) (omega (arith, length-append (form.group_line (label Input) ins) behind, length-append (form.group_line (label Output) outs) end)) in
    let ends : groups_from (suc n.more) (grouped ins outs) (cut_up false end) ≡ Ok (grouped ins outs, cut_up false (timing_text rest)) =
    ap (groups_from (suc n.more) (grouped ins outs)) (cut_up-close (timing_text rest)) ∙ groups_from-end n.more (grouped ins outs) (codes "}") (ahead 1 (timing_text rest)) (cut_up false (timing_text rest)) in
    blocks-at a b _ all (grouped ins outs) (cut_up false text) _
    (ap (λ k. groups_from k all (cut_up false text)) (size ∙ n.is)
    ∙ group_read Input (turns outs (suc n.more)) all [] ins outs behind refl qi new (first_free Input (ins ++ outs))
    ∙ group_read Output (suc n.more) mid ins outs [] end (same_signals Input 0 ins all ∙ ap (λ ss. ins ++ ss) (sym (append-nil outs))) qo (subst (λ ss. AllNew ins ss) (sym (append-nil outs)) (new_behind [] ins outs new)) (second_free ins (ins ++ outs))
    ∙ ends ∙ ap (λ ts. Ok (grouped ins outs, ts)) (cut_up-timing rest))
    ∙ ap (λ ts. Ok (grouped ins outs, ts)) (sym (cut_up-timing rest))
