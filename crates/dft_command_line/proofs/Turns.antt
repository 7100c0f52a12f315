-- What `clap` makes of one word behind a command.
use Rattle.std.proofs.Common.{◌≡◌, ◌==◌, ◌||◌, ℕ, nat_lt, Bool, true, false, not, List, [], ◌∷◌, map, Option, Some, None, option_map, if◌then◌else◌, bytes_eq, refl, sym, ap, ◌∙◌, subst, cond, true≢false}
use Rattle.std.specs.Option.{option_map_or}
use Rattle.clap.specs.Lexer.{long_of, short_of, name_and_value}
use Rattle.clap.specs.Faults.{long_fault, positional_fault, react_fault, repeat_fault, settle_fault, step_fault, turn_fault, use_fault, word_fault}
use Rattle.clap.specs.Kinds.{Kinds, or_else}
use Rattle.clap.specs.declared.error.kind.ErrorKind.{ErrorKind}
use Rattle.clap.specs.declared.error.kind.ErrorKind.TheVariants as kind
use Rattle.clap.specs.Simple.{App, Shape, built, filled, new_shape}
use Rattle.clap.specs.Walk.{Held, Rule, Step, Walk, Waiting, Row, option, idle, after_flag, after_step, arg_by_id, arg_by_index, arg_by_long, long_met, option_word, plain_word, reacted, settled, used, used_by_id, walked, word_met}
use Rattle.dft_base.proofs.TextLemmas.{bytes_eq-self}
use Rattle.dft_command_line.specs.Words.{Text}
use Rattle.dft_command_line.specs.CommandLine.{Form, Known, dft_app, forms, may_stand, option_rule}
use Rattle.dft_command_line.proofs.Options.{Has, are_names, find_known, good_name, is_plain, long_is, met, no_escape, option_from, option_of, word_of}

-- ---- commands as they are built

abbrev pub rule : Known → Rule
rule o = filled (option_rule o)

abbrev pub shape : Form → Shape
shape f = record (new_shape f.command) {
  rules = map rule f.options;
  no_binary_name = true;
  disable_help_flag = true;
  disable_help_subcommand = true;
  is_built = true;
}

abbrev pub dft : App
dft = record { top = (built dft_app).top; subs = map shape forms }

pub dft_is : built dft_app ≡ dft
dft_is = refl

abbrev pub rules : List Known → List Rule
rules = map rule

abbrev pub at : Waiting → Held → Walk
at waiting h = record { held = h; waiting = waiting; position = 1; is_trailing = false; stopped = None }

-- ---- the options by their names

pub by_long : (os : List Known) (name : Text) → arg_by_long (rules os) name ≡ option_map rule (find_known os name)
by_long [] name = refl
by_long (o ∷ os) name = go (bytes_eq o.name name) (by_long os name)
  where
    go : (b : Bool) → arg_by_long (rules os) name ≡ option_map rule (find_known os name) →
        cond (b || false) (Some (rule o)) (arg_by_long (rules os) name) ≡ option_map rule (if b then Some o else find_known os name)
    go true e = refl
    go false e = e

pub by_id : (os : List Known) (name : Text) → arg_by_id (rules os) name ≡ option_map rule (find_known os name)
by_id [] name = refl
by_id (o ∷ os) name = go (bytes_eq o.name name) (by_id os name)
  where
    go : (b : Bool) → arg_by_id (rules os) name ≡ option_map rule (find_known os name) →
        cond b (Some (rule o)) (arg_by_id (rules os) name) ≡ option_map rule (if b then Some o else find_known os name)
    go true e = refl
    go false e = e

pub no_position : (os : List Known) (i : ℕ) → arg_by_index (rules os) i ≡ None
no_position [] i = refl
no_position (o ∷ os) i = no_position os i

-- ---- words by their first bytes

pub record IsPlainWord (w : Text) : Type 0 where
  pub long : long_of w ≡ None
  pub short : short_of w ≡ None
  pub escape : bytes_eq w (45 ∷ 45 ∷ []) ≡ false

pub record IsLongWord (w : Text) : Type 0 where
  pub parts : Text × Option Text
  pub long : long_of w ≡ Some parts
  pub escape : bytes_eq w (45 ∷ 45 ∷ []) ≡ false

one_byte : (b : ℕ) (t : Bool) → (b == 45) ≡ t → IsPlainWord (b ∷ [])
one_byte b true e = record { long = rw e refl; short = rw e refl; escape = rw e refl }
one_byte b false e = record { long = rw e refl; short = rw e refl; escape = rw e refl }

no_dash : (b c : ℕ) (bs : Text) → (b == 45) ≡ false → IsPlainWord (b ∷ c ∷ bs)
no_dash b c bs e = record { long = rw e refl; short = rw e refl; escape = rw e refl }

two_dashes : (b c d : ℕ) (ds : Text) → (b == 45) ≡ true → (c == 45) ≡ true → IsLongWord (b ∷ c ∷ d ∷ ds)
two_dashes b c d ds e f = record { parts = name_and_value (d ∷ ds); long = rw (e, f) refl; escape = rw (e, f) refl }

abbrev pub Shapes : Text → Bool → Type 0
Shapes w true = IsPlainWord w
Shapes w false = IsLongWord w

dashes : (b c : ℕ) (bs : Text) (t : Bool) → (b == 45) ≡ t → may_stand (b ∷ c ∷ bs) ≡ true → Shapes (b ∷ c ∷ bs) (not t)
dashes b c bs false e stands = no_dash b c bs e
dashes b c [] true e stands = absurd (let s : (if b == 45 then false else true) ≡ true = stands in let f : (if true then false else true) ≡ true = rw e at s in true≢false (sym f))
dashes b c (d ∷ ds) true e stands = two_dashes b c d ds e (let s : (if b == 45 then c == 45 else true) ≡ true = stands in rw e at s)

pub shape_of : (w : Text) → may_stand w ≡ true → Shapes w (is_plain w)
shape_of [] stands = record { long = refl; short = refl; escape = refl }
shape_of (b ∷ []) stands = one_byte b (b == 45) refl
shape_of (b ∷ c ∷ bs) stands = dashes b c bs (b == 45) refl stands

plain_of : (w : Text) → may_stand w ≡ true → is_plain w ≡ true → IsPlainWord w
plain_of w stands plain = subst (Shapes w) plain (shape_of w stands)

-- ---- a word with a name, by the rule of the name

abbrev met_long : List Known → Text → Option Text → Held → Option Rule → Held × Step
met_long os w v h r = after_flag (rules os) idle w (long_met (rules os) r v h).0 (long_met (rules os) r v h).1

abbrev long_turn : Form → Text → Option Text → Held → Option Rule → Kinds
long_turn f w v h r = or_else (long_fault (rules f.options) false r v h) (step_fault (shape f) 1 (met_long f.options w v h r).0 (met_long f.options w v h r).1)

abbrev long_walked : List Known → Text → Option Text → Held → Option Rule → Walk
long_walked os w v h r = after_step (rules os) w (at idle h) (met_long os w v h r).0 (met_long os w v h r).1

long_turn_is : (f : Form) (w : Text) (h : Held) (p : Text × Option Text) → long_of w ≡ Some p → bytes_eq w (45 ∷ 45 ∷ []) ≡ false →
    turn_fault (shape f) [] (at idle h) w ≡ long_turn f w p.1 h (arg_by_long (rules f.options) p.0)
long_turn_is f w h p long escape = rw (escape, long) refl

long_walked_is : (os : List Known) (w : Text) (h : Held) (p : Text × Option Text) → long_of w ≡ Some p → bytes_eq w (45 ∷ 45 ∷ []) ≡ false →
    walked (rules os) [] (at idle h) w ≡ long_walked os w p.1 h (arg_by_long (rules os) p.0)
unfolding walked
long_walked_is os w h p long escape = rw (escape, long) refl

pub first_none : (a b : Kinds) → or_else a b ≡ [] → a ≡ []
first_none [] b e = refl
first_none (k ∷ ks) b e = e

pub not_empty : (k : ErrorKind) → k ∷ [] ≡ [] → ⊥
not_empty k e = cc

-- ---- held values

abbrev pub still_waits : Text → List Row → ℕ → Held
still_waits n rows skip = record { rows = rows; pending = Some (n, []); skip = skip }

abbrev pub has_value : Text → Text → List Row → ℕ → Held
has_value n v rows skip = record { rows = rows; pending = Some (n, v ∷ []); skip = skip }

-- an option waits for its value, behind these rows
abbrev pub waiting_for : List Known → Text → Held → Held
waiting_for os n h = record (settled (rules os) h) { pending = Some (n, []) }

pub use_of : (o : Known) (v : Text) (rows : List Row) → use_fault false (rule o) (v ∷ []) rows ≡ or_else (repeat_fault false o.name rows) []
use_of o v rows = refl

module _ (f : Form) (good : are_names f.options ≡ true) where
  -- ---- the word of an option

  named : (o : Known) → Has f.options o → arg_by_long (rules f.options) o.name ≡ Some (rule o)
  named o has = by_long f.options o.name ∙ ap (option_map rule) has

  turn_of : (o : Known) (v : Option Text) (h : Held) → Has f.options o → turn_fault (shape f) [] (at idle h) (word_of o.name v) ≡ long_turn f (word_of o.name v) v h (Some (rule o))
  turn_of o v h has =
      let is = good_name f.options o good has in
      long_turn_is f (word_of o.name v) h (o.name, v) (long_is o.name v is) (no_escape o.name v is) ∙ ap (long_turn f (word_of o.name v) v h) (named o has)

  walked_of : (o : Known) (v : Option Text) (h : Held) → Has f.options o → walked (rules f.options) [] (at idle h) (word_of o.name v) ≡ long_walked f.options (word_of o.name v) v h (Some (rule o))
  walked_of o v h has =
      let is = good_name f.options o good has in
      long_walked_is f.options (word_of o.name v) h (o.name, v) (long_is o.name v is) (no_escape o.name v is) ∙ ap (long_walked f.options (word_of o.name v) v h) (named o has)

  pub name_turn : (o : Known) (h : Held) → Has f.options o → turn_fault (shape f) [] (at idle h) (word_of o.name None) ≡ or_else (settle_fault (rules f.options) false h) []
  name_turn o h has = turn_of o None h has

  pub name_walked : (o : Known) (h : Held) → Has f.options o → walked (rules f.options) [] (at idle h) (word_of o.name None) ≡ at (option o.name) (waiting_for f.options o.name h)
  name_walked o h has = walked_of o None h has

  pub joined_turn : (o : Known) (v : Text) (h : Held) → Has f.options o →
      turn_fault (shape f) [] (at idle h) (word_of o.name (Some v)) ≡ or_else (react_fault (rules f.options) false (rule o) (v ∷ []) h) []
  joined_turn o v h has = turn_of o (Some v) h has

  pub joined_walked : (o : Known) (v : Text) (h : Held) → Has f.options o →
      walked (rules f.options) [] (at idle h) (word_of o.name (Some v)) ≡ at idle (reacted (rules f.options) (rule o) (v ∷ []) h)
  joined_walked o v h has = walked_of o (Some v) h has

-- ---- words where no option waits

plain_turn : (f : Form) (w : Text) (h : Held) → IsPlainWord w → turn_fault (shape f) [] (at idle h) w ≡ kind.UnknownArgument ∷ []
plain_turn f w h plain = rw (plain.escape, plain.long, plain.short) (ap (λ r. option_map_or (λ a. positional_fault (rules f.options) false a h) r (kind.UnknownArgument ∷ [])) (no_position f.options 1))

waits_word_fault : (f : Form) (id w : Text) (h : Held) (long : IsLongWord w) → word_fault (shape f) [] false (option id) w h ≡ long_fault (rules f.options) false (arg_by_long (rules f.options) long.parts.0) long.parts.1 h
waits_word_fault f id w h long = rw (long.escape, long.long) refl

long_word_fault : (f : Form) (w : Text) (h : Held) (long : IsLongWord w) → word_fault (shape f) [] false idle w h ≡ long_fault (rules f.options) false (arg_by_long (rules f.options) long.parts.0) long.parts.1 h
long_word_fault f w h long = rw (long.escape, long.long) refl

no_option : (q : Option Known) (v : Option Text) → met q v ≡ None → q ≡ None
no_option None v e = refl
no_option (Some o) v e = absurd cc

unknown_long : (f : Form) (w : Text) (h : Held) (long : IsLongWord w) → option_of f.options w ≡ None → turn_fault (shape f) [] (at idle h) w ≡ [] → ⊥
unknown_long f w h long none passes =
    let unnamed : find_known f.options long.parts.0 ≡ None = no_option _ long.parts.1 (ap (option_from f.options) (sym long.long) ∙ none) in
    let fault : long_fault (rules f.options) false (arg_by_long (rules f.options) long.parts.0) long.parts.1 h ≡ kind.UnknownArgument ∷ []
    = ap (λ r. long_fault (rules f.options) false r long.parts.1 h) (by_long f.options long.parts.0 ∙ ap (option_map rule) unnamed) in
    not_empty kind.UnknownArgument (sym fault ∙ sym (long_word_fault f w h long) ∙ first_none _ _ passes)

-- a word that is no option's fails
pub unknown_fails : (f : Form) (w : Text) (h : Held) → may_stand w ≡ true → option_of f.options w ≡ None → turn_fault (shape f) [] (at idle h) w ≡ [] → ⊥
unknown_fails f w h stands none = go (is_plain w) (shape_of w stands)
  where
    go : (b : Bool) → Shapes w b → turn_fault (shape f) [] (at idle h) w ≡ [] → ⊥
    go true plain passes = not_empty kind.UnknownArgument (sym (plain_turn f w h plain) ∙ passes)
    go false long passes = unknown_long f w h long none passes

-- ---- words where an option waits for its value

module _ (os : List Known) (o : Known) (has : Has os o) (rows : List Row) (skip : ℕ) where
  with_id : arg_by_id (rules os) o.name ≡ Some (rule o)
  with_id = by_id os o.name ∙ ap (option_map rule) has

  pub waits_settle : settle_fault (rules os) false (still_waits o.name rows skip) ≡ kind.InvalidValue ∷ []
  waits_settle = ap (λ r. option_map_or (λ a. use_fault false a [] rows) r []) with_id

  pub value_settle : (v : Text) → settle_fault (rules os) false (has_value o.name v rows skip) ≡ or_else (repeat_fault false o.name rows) []
  value_settle v = ap (λ r. option_map_or (λ a. use_fault false a (v ∷ []) rows) r []) with_id

  pub value_rows : (v : Text) → (settled (rules os) (has_value o.name v rows skip)).rows ≡ used (rule o) (v ∷ []) rows
  value_rows v = ap (λ r. used_by_id r (v ∷ []) rows) with_id

long_waits : (os : List Known) (q : Option Known) (v : Option Text) (h : Held) → (settle_fault (rules os) false h ≡ [] → ⊥) → long_fault (rules os) false (option_map rule q) v h ≡ [] → ⊥
long_waits os None v h unsettled passes = not_empty kind.UnknownArgument passes
long_waits os (Some o) None h unsettled passes = unsettled passes
long_waits os (Some o) (Some v) h unsettled passes = unsettled (first_none _ _ passes)

-- a flag in place of a value fails
pub flag_fails : (f : Form) (o : Known) (rows : List Row) (skip : ℕ) (w : Text) → Has f.options o → may_stand w ≡ true → is_plain w ≡ false → turn_fault (shape f) [] (at (option o.name) (still_waits o.name rows skip)) w ≡ [] → ⊥
flag_fails f o rows skip w has stands not_plain passes =
    let long : IsLongWord w = subst (Shapes w) not_plain (shape_of w stands) in
    let h = still_waits o.name rows skip in
    long_waits f.options (find_known f.options long.parts.0) long.parts.1 h (λ e. not_empty kind.InvalidValue (sym (waits_settle f.options o has rows skip) ∙ e))
    (ap (λ r. long_fault (rules f.options) false r long.parts.1 h) (sym (by_long f.options long.parts.0)) ∙ sym (waits_word_fault f o.name w h long) ∙ first_none _ _ passes)

pub value_turn : (f : Form) (n : Text) (h : Held) (w : Text) → may_stand w ≡ true → is_plain w ≡ true → turn_fault (shape f) [] (at (option n) h) w ≡ []
value_turn f n h w stands is_plain = let plain = plain_of w stands is_plain in rw (plain.escape, plain.long, plain.short) refl

value_met : (os : List Known) (id w : Text) (h : Held) → IsPlainWord w → word_met (rules os) [] false (option id) 1 w h ≡ plain_word (rules os) (option id) w h
value_met os id w h plain = rw (plain.escape, plain.long, plain.short) refl

after_value : (os : List Known) (id w : Text) (h : Held) → IsPlainWord w →
    walked (rules os) [] (at (option id) h) w ≡ after_step (rules os) w (at (option id) h) (plain_word (rules os) (option id) w h).0 (plain_word (rules os) (option id) w h).1
unfolding walked
after_value os id w h plain = rw (value_met os id w h plain) refl

-- the walk behind a value, by the rule of the option
abbrev value_walked_by : Text → Text → List Row → ℕ → Option Rule → Walk
value_walked_by n w rows skip r =
    let met = option_word r n w (still_waits n rows skip) in
    at met.1 met.0

value_step : (o : Known) (w : Text) (rows : List Row) (skip : ℕ) → value_walked_by o.name w rows skip (Some (rule o)) ≡ at idle (has_value o.name w rows skip)
value_step o w rows skip = ap (λ b. at (if nat_lt (if b then 1 else 0) 1 then option o.name else idle) (has_value o.name w rows skip)) (bytes_eq-self o.name)

pub value_walked : (os : List Known) (o : Known) (w : Text) (rows : List Row) (skip : ℕ) → Has os o → may_stand w ≡ true → is_plain w ≡ true →
    walked (rules os) [] (at (option o.name) (still_waits o.name rows skip)) w ≡ at idle (has_value o.name w rows skip)
value_walked os o w rows skip has stands plain =
    after_value os o.name w (still_waits o.name rows skip) (plain_of w stands plain)
    ∙ ap (value_walked_by o.name w rows skip) (with_id os o has rows skip) ∙ value_step o w rows skip
