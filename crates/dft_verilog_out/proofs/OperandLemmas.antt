-- Nets and constants, where they are written, are read as themselves.
use Rattle.std.proofs.Common.{◌≡◌, ℕ, suc, ◌+◌, ◌<◌, Bool, true, false, not, cond, List, [], ◌∷◌, ◌++◌, length, get_or, decimal, Some, None, Ok, refl, sym, ap, ◌∙◌, subst, arith, slice_get, append_assoc}
use Rattle.std.specs.Prelude.{◌&&◌, ◌||◌}
use Rattle.std.specs.Option.{option_and_then}
use Rattle.dft_base.proofs.BitLemmas.{and_first}
use Rattle.dft_base.specs.declared.place.Range.{Range}
use Rattle.dft_base.specs.Lexing.{Text}
use Rattle.dft_base.specs.Name.{IsName}
use Rattle.dft_base.specs.Words.{begins_word, continues_word, is_word, is_reserved, is_later_reserved, needs_escape}
use Rattle.dft_base.specs.Ranges.{has_index, place_in}
use Rattle.dft_netlist.specs.declared.ids.NetId.{NetId}
use Rattle.dft_netlist.specs.declared.instance.Signal.{Signal}
use Rattle.dft_netlist.specs.declared.instance.Signal.TheVariants as signal
use Rattle.dft_netlist_text.specs.declared.text.TokenKind.{TokenKind}
use Rattle.dft_netlist_text.specs.declared.text.TokenKind.TheVariants as kind
use Rattle.dft_netlist_text.specs.declared.text.Shape.{Shape}
use Rattle.dft_netlist_text.specs.declared.text.Meaning.TheVariants as meaning
use Rattle.dft_netlist_text.specs.declared.text.Declared.{Declared}
use Rattle.dft_netlist_text.specs.declared.text.Select.{Select}
use Rattle.dft_netlist_text.specs.declared.text.Select.TheVariants as select
use Rattle.dft_netlist_text.specs.declared.text.Site.{Site}
use Rattle.dft_netlist_text.specs.declared.text.Site.TheVariants as site
use Rattle.dft_netlist.specs.Sound.{IsLive, IsConnected}
use Rattle.dft_netlist_text.specs.Lexemes.{Token}
use Rattle.dft_netlist_text.specs.Steps.{kind_of, left, same_kind, sees}
use Rattle.dft_netlist_text.specs.Modules.{HeaderPort, TakenName, Draft, meaning_of}
use Rattle.dft_netlist_text.specs.Expressions.{small_number, bits_of_meaning, fitting, selected, implies, drives, ends, expression}
use Rattle.dft_verilog_out.specs.Written.{name_text, bit_select_text, signal_text}
use Rattle.dft_verilog_out.proofs.CutLemmas.{cut_up, token, digit, constant_tokens, Close, Comma, Semicolon, Space, cut_up-constant, cut_up-close, cut_up-comma, cut_up-semicolon, cut_up-equals, cut_up-open_bracket, cut_up-close_bracket, cut_up-space, cut_up-line, name_at, IsSmall, number_at, Opens}
use Rattle.dft_verilog_out.proofs.RuleLemmas.{whole-at, bit-at, constant-at}
use Rattle.dft_verilog_out.proofs.CountLemmas.{look, look-kept}
use Rattle.dft_verilog_out.proofs.DraftLemmas.{entry, meaning_some}

-- ---- what follows an expression

pub data Follower : Type 0 where
  AClose : Follower
  AComma : Follower
  ASemicolon : Follower
  AnEquals : Follower

abbrev pub follow_byte : Follower → ℕ
follow_byte AClose = 41
follow_byte AComma = 44
follow_byte ASemicolon = 59
follow_byte AnEquals = 32

abbrev pub follow_rest : Follower → Text → Text
follow_rest AClose rest = rest
follow_rest AComma rest = 32 ∷ rest
follow_rest ASemicolon rest = 10 ∷ rest
follow_rest AnEquals rest = 61 ∷ 32 ∷ rest

abbrev pub follow : Follower → Text → Text
follow f rest = follow_byte f ∷ follow_rest f rest

abbrev pub follow_kind : Follower → TokenKind
follow_kind AClose = kind.CloseParen
follow_kind AComma = kind.Comma
follow_kind ASemicolon = kind.Semicolon
follow_kind AnEquals = kind.Equals

abbrev pub follow_bytes : Follower → Text
follow_bytes AClose = 41 ∷ []
follow_bytes AComma = 44 ∷ []
follow_bytes ASemicolon = 59 ∷ []
follow_bytes AnEquals = 61 ∷ []

pub record FollowAt (f : Follower) (rest : Text) : Type 0 where
  pub left : ℕ
  pub at : cut_up (follow f rest) ≡ token (follow_kind f) (follow_bytes f) left ∷ cut_up rest

pub follow_at : (f : Follower) (rest : Text) → FollowAt f rest
follow_at AClose rest = record { left = suc (length rest); at = cut_up-close rest }
follow_at AComma rest = record { left = suc (suc (length rest)); at = cut_up-comma (32 ∷ rest) ∙ ap (λ ts. token kind.Comma (44 ∷ []) (suc (suc (length rest))) ∷ ts) (cut_up-space rest) }
follow_at ASemicolon rest = record { left = suc (suc (length rest)); at = cut_up-semicolon (10 ∷ rest) ∙ ap (λ ts. token kind.Semicolon (59 ∷ []) (suc (suc (length rest))) ∷ ts) (cut_up-line rest) }
follow_at AnEquals rest = record {
  left = suc (suc (length rest));
  at = cut_up-space (61 ∷ 32 ∷ rest) ∙ cut_up-equals (32 ∷ rest) ∙ ap (λ ts. token kind.Equals (61 ∷ []) (suc (suc (length rest))) ∷ ts) (cut_up-space rest);
}

kind-follow : (f : Follower) (rest : Text) → kind_of (cut_up (follow f rest)) ≡ follow_kind f
unfolding kind_of
kind-follow f rest = ap kind_of (follow_at f rest).at

no_bracket : (f : Follower) (l : ℕ) (ts : List Token) → sees kind.OpenBracket (token (follow_kind f) (follow_bytes f) l ∷ ts) ≡ false
unfolding sees kind_of same_kind
no_bracket AClose l ts = refl
no_bracket AComma l ts = refl
no_bracket ASemicolon l ts = refl
no_bracket AnEquals l ts = refl

single : (f : Follower) (rest : Text) → sees kind.OpenBracket (cut_up (follow f rest)) ≡ false
single f rest = let a = follow_at f rest in ap (sees kind.OpenBracket) a.at ∙ no_bracket f a.left (cut_up rest)

stops_word : (f : Follower) → continues_word (follow_byte f) ≡ false
stops_word AClose = refl
stops_word AComma = refl
stops_word ASemicolon = refl
stops_word AnEquals = refl

-- ---- what a name stands for

-- the name stands for these nets
pub data Known (names : List TakenName) (ports : List HeaderPort) (word : Text) (shape : Shape) : Type 0 where
  AsNets : (name : Text) → look names word ≡ Some (entry name (meaning.Nets shape)) → Known names ports word shape
  AsPort : (name : Text) (port : ℕ) (declared : Declared) → look names word ≡ Some (entry name (meaning.Port port))
      → option_and_then (λ (p : HeaderPort). p.declared) (slice_get ports port) ≡ Some declared → declared.shape ≡ shape → Known names ports word shape

pub known-kept : (names more : List TakenName) (ports : List HeaderPort) (word : Text) (shape : Shape) → Known names ports word shape → Known (names ++ more) ports word shape
known-kept names more ports word shape (AsNets name at) = AsNets name (look-kept names more word (entry name (meaning.Nets shape)) at)
known-kept names more ports word shape (AsPort name port declared at is same) = AsPort name port declared (look-kept names more word (entry name (meaning.Port port)) at) is same

selects : (d : Draft) (word : Text) (shape : Shape) (implied : Bool) (what : Select) (place : ℕ) → Known d.names d.ports word shape
    → bits_of_meaning implied (record { word = word; what = what; place = place }) d (meaning_of d word) ≡ fitting place d (selected shape what)
selects d word shape true what place (AsNets name at) = rw (meaning_some d word (entry name (meaning.Nets shape)) at) refl
selects d word shape false what place (AsNets name at) = rw (meaning_some d word (entry name (meaning.Nets shape)) at) refl
selects d word shape true what place (AsPort name port declared at is same) = rw (meaning_some d word (entry name (meaning.Port port)) at, is, same) refl
selects d word shape false what place (AsPort name port declared at is same) = rw (meaning_some d word (entry name (meaning.Port port)) at, is, same) refl

-- ---- where a net is written

-- this text is read as this net
pub data NetAt (names : List TakenName) (ports : List HeaderPort) (text : Text) (net : ℕ) : Type 0 where
  Whole : (word : Text) → text ≡ name_text word → IsName word → Known names ports word (record { range = None; first = record { 0 = net } }) → NetAt names ports text net
  BitOf : (word : Text) (index : ℕ) (range : Range) (first : NetId) → text ≡ bit_select_text word index → IsName word → IsSmall index → Known names ports word (record { range = Some range; first = first })
      → has_index range index ≡ true → first.0 + place_in range index ≡ net → NetAt names ports text net

pub net_at-kept : (names more : List TakenName) (ports : List HeaderPort) (text : Text) (net : ℕ) → NetAt names ports text net → NetAt (names ++ more) ports text net
net_at-kept names more ports text net (Whole word is name known) = Whole word is name (known-kept names more ports word (record { range = None; first = record { 0 = net } }) known)
net_at-kept names more ports text net (BitOf word index range first is name small known inside at) =
    BitOf word index range first is name small (known-kept names more ports word (record { range = Some range; first = first }) known) inside at

-- ---- operands

-- this text is read as this signal where it stands
pub record Operand (d : Draft) (at : Site) (text : Text) (s : Signal) : Type 0 where
  pub reads : (f : Follower) (rest : Text) → ends at (follow_kind f) ≡ true → expression at d (cut_up (text ++ follow f rest)) ≡ Ok ((d, s ∷ []), cut_up (follow f rest))
  pub some : (f : Follower) (rest : Text) → (l : ℕ) × (left (cut_up (text ++ follow f rest)) ≡ suc l)
  pub closed : (f : Follower) (rest : Text) → sees kind.CloseParen (cut_up (text ++ follow f rest)) ≡ false
  pub opens : (rest : Text) → Opens (text ++ rest)

-- a name opens no attribute
no_star : (c : ℕ) → begins_word c ≡ true → c ≡ 42 → ⊥
no_star c begins is = let star : begins_word 42 ≡ true = subst (λ k. begins_word k ≡ true) is begins in cc

word_opens : (name rest : Text) → is_word name ≡ true → Opens (name ++ rest)
word_opens [] rest h = absurd (cc)
word_opens (c ∷ cs) rest h = record { first = c; others = cs ++ rest; is = refl; other = no_star c (and_first (begins_word c) _ h) }

opens_by : (t : Bool) (name rest : Text) → needs_escape name ≡ t → Opens (name_text name ++ rest)
opens_by true name rest e = record { first = 92; others = (name ++ 32 ∷ []) ++ rest; is = ap (λ t. cond t (92 ∷ (name ++ 32 ∷ [])) name ++ rest) e; other = λ h. absurd (omega arith) }
opens_by false name rest e =
    subst (λ text. Opens text) (sym (ap (λ t. cond t (92 ∷ (name ++ 32 ∷ [])) name ++ rest) e)) (word_opens name rest (simple (is_word name) (is_reserved name) (is_later_reserved name) e))
  where
    simple : (w r l : Bool) → (not (w && not r) || l) ≡ false → w ≡ true
    simple true r l h = refl
    simple false r l h = absurd (cc)

pub name_opens : (name rest : Text) → Opens (name_text name ++ rest)
name_opens name rest = opens_by (needs_escape name) name rest refl

pub no_close : (word : Text) (l : ℕ) (ts : List Token) → sees kind.CloseParen (token kind.Name word l ∷ ts) ≡ false
unfolding sees kind_of same_kind
no_close word l ts = refl

pub left_of : (k : TokenKind) (word : Text) (l : ℕ) (ts : List Token) → left (token k word l ∷ ts) ≡ l
unfolding left
left_of k word l ts = refl

whole_operand : (d : Draft) (at : Site) (word : Text) (net : ℕ) → IsName word → Known d.names d.ports word (record { range = None; first = record { 0 = net } }) → Operand d at (name_text word) (signal.Net (record { 0 = net }))
whole_operand d at word net name known = record {
  reads = λ f rest follows.
      let n = name_at word (follow_byte f) (follow_rest f rest) name (stops_word f) in
      ap (expression at d) n.at ∙ whole-at at d d (signal.Net (record { 0 = net }) ∷ []) word n.left (cut_up (follow f rest))
      (selects d word (record { range = None; first = record { 0 = net } }) (implies at 0 && true) select.Whole (suc n.left) known) (ap (ends at) (kind-follow f rest) ∙ follows) (single f rest);
  some = λ f rest. let n = name_at word (follow_byte f) (follow_rest f rest) name (stops_word f) in (n.left, ap left n.at ∙ left_of kind.Name word (suc n.left) (cut_up (follow f rest)));
  closed = λ f rest. let n = name_at word (follow_byte f) (follow_rest f rest) name (stops_word f) in ap (sees kind.CloseParen) n.at ∙ no_close word (suc n.left) (cut_up (follow f rest));
  opens = λ rest. name_opens word rest;
}

-- the text of a bit, before another text
bit-parts : (word : Text) (index : ℕ) (rest : Text) → bit_select_text word index ++ rest ≡ name_text word ++ 91 ∷ (decimal index ++ 93 ∷ rest)
bit-parts word index rest =
    append_assoc (name_text word) (91 ∷ (decimal index ++ 93 ∷ [])) rest ∙ ap (λ more. name_text word ++ 91 ∷ more) (append_assoc (decimal index) (93 ∷ []) rest)

-- the tokens of a bit
pub record BitAt (word : Text) (index : ℕ) (rest : Text) : Type 0 where
  pub l : ℕ
  pub a : ℕ
  pub b : ℕ
  pub c : ℕ
  pub at : cut_up (bit_select_text word index ++ rest) ≡ token kind.Name word (suc l) ∷ token kind.OpenBracket (91 ∷ []) a ∷ token kind.Number (decimal index) b ∷ token kind.CloseBracket (93 ∷ []) c ∷ cut_up rest
  pub value : small_number (decimal index) ≡ Some index

bit_token_at : (word : Text) (index : ℕ) (rest : Text) → IsName word → IsSmall index → BitAt word index rest
bit_token_at word index rest name small =
    let n = name_at word 91 (decimal index ++ 93 ∷ rest) name refl in
    let k = number_at index 93 rest small refl in
    record {
      l = n.left;
      a = suc (length (decimal index ++ 93 ∷ rest));
      b = k.left;
      c = suc (length rest);
      at = ap cut_up (bit-parts word index rest) ∙ n.at
          ∙ ap (λ ts. token kind.Name word (suc n.left) ∷ ts) (cut_up-open_bracket (decimal index ++ 93 ∷ rest)
          ∙ ap (λ ts. token kind.OpenBracket (91 ∷ []) (suc (length (decimal index ++ 93 ∷ rest))) ∷ ts) (k.at
          ∙ ap (λ ts. token kind.Number (decimal index) k.left ∷ ts) (cut_up-close_bracket rest)));
      value = k.value;
    }

bit_is : (d : Draft) (place : ℕ) (range : Range) (first : NetId) (index net : ℕ) → has_index range index ≡ true → first.0 + place_in range index ≡ net
    → fitting place d (selected (record { range = Some range; first = first }) (select.Bit index)) ≡ Ok (d, signal.Net (record { 0 = net }) ∷ [])
bit_is d place range first index net inside at = rw (inside, at) refl

bit_operand : (d : Draft) (at : Site) (word : Text) (index : ℕ) (range : Range) (first : NetId) (net : ℕ) → IsName word → IsSmall index
    → Known d.names d.ports word (record { range = Some range; first = first }) → has_index range index ≡ true → first.0 + place_in range index ≡ net → Operand d at (bit_select_text word index) (signal.Net (record { 0 = net }))
bit_operand d at word index range first net name small known inside is = record {
  reads = λ f rest follows.
      let b = bit_token_at word index (follow f rest) name small in
      ap (expression at d) b.at ∙ bit-at at d (signal.Net (record { 0 = net }) ∷ []) word (decimal index) index b.l b.a b.b b.c (cut_up (follow f rest)) b.value
      (selects d word (record { range = Some range; first = first }) (implies at 0 && false) (select.Bit index) (suc b.l) known ∙ bit_is d (suc b.l) range first index net inside is)
      (ap (ends at) (kind-follow f rest) ∙ follows);
  some = λ f rest. let b = bit_token_at word index (follow f rest) name small in (b.l, ap left b.at ∙ left_of kind.Name word (suc b.l) _);
  closed = λ f rest. let b = bit_token_at word index (follow f rest) name small in ap (sees kind.CloseParen) b.at ∙ no_close word (suc b.l) _;
  opens = λ rest. subst (λ text. Opens text) (sym (append_assoc (name_text word) (91 ∷ (decimal index ++ 93 ∷ [])) rest)) (name_opens word ((91 ∷ (decimal index ++ 93 ∷ [])) ++ rest));
}

pub net_operand : (d : Draft) (at : Site) (text : Text) (net : NetId) → NetAt d.names d.ports text net.0 → Operand d at text (signal.Net net)
net_operand d at text net (Whole word is name known) = subst (λ t. Operand d at t (signal.Net net)) (sym is) (whole_operand d at word net.0 name known)
net_operand d at text net (BitOf word index range first is name small known inside place) =
    subst (λ t. Operand d at t (signal.Net net)) (sym is) (bit_operand d at word index range first net.0 name small known inside place)

-- ---- constants

abbrev constant_text : Bool → Text
constant_text bit = 49 ∷ 39 ∷ 98 ∷ digit bit ∷ []

constant_reads : (d : Draft) (at : Site) (bit : Bool) (f : Follower) (rest : Text) → drives at ≡ false → ends at (follow_kind f) ≡ true
    → expression at d (cut_up (constant_text bit ++ follow f rest)) ≡ Ok ((d, signal.Constant bit ∷ []), cut_up (follow f rest))
constant_reads d at bit AClose rest free follows =
    ap (expression at d) (cut_up-constant bit Close rest) ∙ constant-at at d bit (suc (length rest)) (cut_up (follow AClose rest)) free (ap (ends at) (kind-follow AClose rest) ∙ follows)
constant_reads d at bit AComma rest free follows =
    ap (expression at d) (cut_up-constant bit Comma (32 ∷ rest)) ∙ constant-at at d bit (suc (suc (length rest))) (cut_up (follow AComma rest)) free (ap (ends at) (kind-follow AComma rest) ∙ follows)
constant_reads d at bit ASemicolon rest free follows =
    ap (expression at d) (cut_up-constant bit Semicolon (10 ∷ rest)) ∙ constant-at at d bit (suc (suc (length rest))) (cut_up (follow ASemicolon rest)) free (ap (ends at) (kind-follow ASemicolon rest) ∙ follows)
constant_reads d site.Target bit AnEquals rest free follows = absurd (cc)
constant_reads d site.Source bit AnEquals rest free follows = absurd (cc)
constant_reads d (site.Pin drives) bit AnEquals rest free follows = absurd (cc)
constant_reads d (site.Terminal drives) bit AnEquals rest free follows = absurd (cc)

no_close_constant : (bit : Bool) (more : ℕ) (ts : List Token) → sees kind.CloseParen (constant_tokens bit more ts) ≡ false
unfolding sees kind_of same_kind
no_close_constant bit more ts = refl

constant_tokens_at : (bit : Bool) (f : Follower) (rest : Text) → (more : ℕ) × (ts : List Token) × (cut_up (constant_text bit ++ follow f rest) ≡ constant_tokens bit more ts)
constant_tokens_at bit AClose rest = (suc (length rest), cut_up (follow AClose rest), cut_up-constant bit Close rest)
constant_tokens_at bit AComma rest = (suc (suc (length rest)), cut_up (follow AComma rest), cut_up-constant bit Comma (32 ∷ rest))
constant_tokens_at bit ASemicolon rest = (suc (suc (length rest)), cut_up (follow ASemicolon rest), cut_up-constant bit Semicolon (10 ∷ rest))
constant_tokens_at bit AnEquals rest = (suc (suc (suc (length rest))), cut_up (follow AnEquals rest), cut_up-constant bit Space (61 ∷ 32 ∷ rest))

pub constant_operand : (d : Draft) (at : Site) (bit : Bool) → drives at ≡ false → Operand d at (constant_text bit) (signal.Constant bit)
constant_operand d at bit free = record {
  reads = λ f rest follows. constant_reads d at bit f rest free follows;
  some = λ f rest. let c = constant_tokens_at bit f rest in (suc (suc (suc c.0)), ap left c.2 ∙ left_of kind.Number (49 ∷ []) (suc (suc (suc (suc c.0)))) _);
  closed = λ f rest. let c = constant_tokens_at bit f rest in ap (sees kind.CloseParen) c.2 ∙ no_close_constant bit c.0 c.1;
  opens = λ rest. record { first = 49; others = 39 ∷ 98 ∷ digit bit ∷ rest; is = refl; other = λ h. absurd (omega arith) };
}

-- ---- signals

-- each of these texts is read as the net of its place
abbrev pub NetsAt : List TakenName → List HeaderPort → List Text → Type 0
NetsAt names ports nets = (k : ℕ) → k < length nets → NetAt names ports (get_or nets k []) k

pub target_operand : (d : Draft) (at : Site) (nets : List Text) (net : NetId) → NetsAt d.names d.ports nets → net.0 < length nets → Operand d at (signal_text nets (signal.Net net)) (signal.Net net)
target_operand d at nets net known live = net_operand d at (get_or nets net.0 []) net (known net.0 live)

pub signal_operand : (d : Draft) (at : Site) (nets : List Text) (s : Signal) → NetsAt d.names d.ports nets → IsLive (length nets) s → IsConnected s
    → ((bit : Bool) → s ≡ signal.Constant bit → drives at ≡ false) → Operand d at (signal_text nets s) s
signal_operand d at nets (signal.Net net) known live joined free = target_operand d at nets net known live
signal_operand d at nets (signal.Constant false) known live joined free = constant_operand d at false (free false refl)
signal_operand d at nets (signal.Constant true) known live joined free = constant_operand d at true (free true refl)
signal_operand d at nets signal.Unconnected known live joined free = absurd joined
