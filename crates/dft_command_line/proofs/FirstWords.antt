-- What `clap` makes of the first word of a command line.
use Rattle.std.proofs.Common.{◌≡◌, ◌&&◌, ◌||◌, Bool, true, false, List, [], ◌∷◌, ◌++◌, map, find, fold, cond, Option, Some, None, IfSome, is_some, option_map, if◌then◌else◌, codes, bytes_eq, refl, sym, ap, ap₂, ◌∙◌, append-nil, append_assoc}
use Rattle.std.specs.List.{list_all}
use Rattle.std.specs.Option.{option_map_or}
use Rattle.std.proofs.lemmas.Bool.{and_parts}
use Rattle.clap.specs.Faults.{check_fault, defaults_fault, entered_fault, fault_of, level_fault, other_fault, settle_fault, step_fault, turn_fault, walk_fault, word_fault}
use Rattle.clap.specs.Kinds.{Kinds, or_else}
use Rattle.clap.specs.declared.error.kind.ErrorKind.TheVariants as kind
use Rattle.clap.specs.Simple.{Shape, entered, label_of, names_of, rows_at, subcommand_of}
use Rattle.clap.specs.Walk.{Held, Names, Rule, Step, Walk, answers_to, finished, idle, nothing_held, settled, subcommand_met, subcommand_or_other, value, walk, walk_from, walked, word_met}
use Rattle.clap.proofs.OnLiterals.{clap_on_literals}
use Rattle.dft_command_line.specs.Words.{Text}
use Rattle.dft_command_line.specs.CommandLine.{Form, dft_app, forms, may_stand}
use Rattle.dft_command_line.proofs.Lookups.{IsAt, found, lookup}
use Rattle.dft_command_line.proofs.Options.{is_plain}
use Rattle.dft_command_line.proofs.Turns.{IsLongWord, IsPlainWord, Shapes, at, dft, first_none, not_empty, shape, shape_of}
use Rattle.dft_command_line.proofs.Walks.{faults, left}

-- ---- the commands by their names

abbrev pub command_of : Form → Text
command_of f = f.command

abbrev pub find_form : Text → Option Form
find_form = lookup command_of forms

abbrev pub IsForm : Form → Type 0
IsForm f = find_form f.command ≡ Some f

met_form : (fs : List Form) (w : Text) → option_map (λ (s : Text × List Text). s.0) (find (answers_to w) (map label_of (map shape fs))) ≡ option_map command_of (lookup command_of fs w)
met_form [] w = refl
met_form (f ∷ fs) w = go (bytes_eq f.command w) (met_form fs w)
  where
    go : (b : Bool) → option_map (λ (s : Text × List Text). s.0) (find (answers_to w) (map label_of (map shape fs))) ≡ option_map command_of (lookup command_of fs w) →
        option_map (λ (s : Text × List Text). s.0) (cond (b || false) (Some (f.command, [])) (find (answers_to w) (map label_of (map shape fs)))) ≡ option_map command_of (if b then Some f else lookup command_of fs w)
    go true e = refl
    go false e = e

entered_form : (fs : List Form) (c : Text) → find (λ s. answers_to c (label_of s)) (map shape fs) ≡ option_map shape (lookup command_of fs c)
entered_form [] c = refl
entered_form (f ∷ fs) c = go (bytes_eq f.command c) (entered_form fs c)
  where
    go : (b : Bool) → find (λ s. answers_to c (label_of s)) (map shape fs) ≡ option_map shape (lookup command_of fs c) →
        cond (b || false) (Some (shape f)) (find (λ s. answers_to c (label_of s)) (map shape fs)) ≡ option_map shape (if b then Some f else lookup command_of fs c)
    go true e = refl
    go false e = e

-- ---- behind a command, its words are gathered

or_else_nil : (k : Kinds) → or_else k [] ≡ k
or_else_nil [] = refl
or_else_nil (k ∷ ks) = refl

gathered : (rules : List Rule) (names : Names) (w : Walk) (name : Text) (got words : List Text) → fold (walked rules names) (record w { stopped = Some (name, got) }) words ≡ record w { stopped = Some (name, got ++ words) }
unfolding walked
gathered rules names w name got [] = ap (λ (l : List Text). record w { stopped = Some (name, l) }) (sym (append-nil got))
gathered rules names w name got (word ∷ words) = gathered rules names w name (got ++ word ∷ []) words ∙ ap (λ (l : List Text). record w { stopped = Some (name, l) }) (append_assoc got (word ∷ []) words)

silent : (s : Shape) (names : Names) (w : Walk) (p : Text × List Text) (words : List Text) → walk_fault s names (record w { stopped = Some p }) words ≡ []
unfolding walk_fault walked
silent s names w p [] = refl
silent s names w p (word ∷ words) = silent s names w (p.0, p.1 ++ word ∷ []) words

-- ---- a command

abbrev stopped_at : Text → List Text → Walk
stopped_at c words = record (walk_from nothing_held) { stopped = Some (c, words) }

and_false : (b : Bool) (k : Kinds) → (if b && false then k else []) ≡ []
and_false true k = refl
and_false false k = refl

form_met : (f : Form) → IsForm f → subcommand_met (names_of dft) idle f.command ≡ Some f.command
form_met f is = met_form forms f.command ∙ ap (option_map command_of) is

form_walked : (f : Form) → IsForm f → walked dft.top.rules (names_of dft) (walk_from nothing_held) f.command ≡ stopped_at f.command []
unfolding walked
form_walked f is = rw (form_met f is) refl

form_silent : (f : Form) → IsForm f → turn_fault dft.top (names_of dft) (walk_from nothing_held) f.command ≡ []
form_silent f is = rw (form_met f is) (ap (λ k. or_else k []) (and_false (bytes_eq f.command (codes "help")) _))

stop_is : (f : Form) (words : List Text) → IsForm f → walk dft.top.rules (names_of dft) nothing_held (f.command ∷ words) ≡ stopped_at f.command words
stop_is f words is = ap (λ w. fold (walked dft.top.rules (names_of dft)) w words) (form_walked f is) ∙ gathered dft.top.rules (names_of dft) (walk_from nothing_held) f.command [] words

no_fault : (f : Form) (words : List Text) → IsForm f → walk_fault dft.top (names_of dft) (walk_from nothing_held) (f.command ∷ words) ≡ []
unfolding walk_fault
no_fault f words is =
    ap₂ or_else (form_silent f is) (ap (λ w. walk_fault dft.top (names_of dft) w words) (form_walked f is) ∙ silent dft.top (names_of dft) (walk_from nothing_held) (f.command, []) words)

-- the faults of the command line from those of its first words and of the command's
abbrev top_faults : Kinds → Kinds → Bool → Walk → Kinds
top_faults first below has_command w = or_else first (or_else below (or_else (settle_fault dft.top.rules dft.top.args_override_self w.held)
    (or_else (defaults_fault (settled dft.top.rules w.held).rows dft.top.rules)
    (check_fault dft.top (finished dft.top.rules w.held) has_command))))

abbrev whole_faults : Kinds → Walk → Kinds
whole_faults first w = top_faults first (entered_fault dft w.stopped) (is_some (entered dft w.stopped)) w

-- by the command that is entered
abbrev entered_faults : Text → List Text → Option Shape → Kinds
entered_faults c words q = top_faults [] (option_map_or (λ s. level_fault s [] nothing_held words false []) q []) (is_some (option_map (λ s. rows_at s words) q)) (stopped_at c words)

below_is : (f : Form) (words : List Text) → entered_faults f.command words (Some (shape f)) ≡ or_else (faults f (at idle nothing_held) words) []
unfolding clap_on_literals
below_is f words = refl

pub form_faults : (f : Form) (words : List Text) → IsForm f → fault_of dft_app (f.command ∷ words) ≡ faults f (at idle nothing_held) words
form_faults f words is =
    ap₂ whole_faults (no_fault f words is) (stop_is f words is)
    ∙ ap (entered_faults f.command words) (entered_form forms f.command ∙ ap (option_map shape) is)
    ∙ below_is f words ∙ or_else_nil (faults f (at idle nothing_held) words)

pub form_rows : (f : Form) (words : List Text) → IsForm f → subcommand_of dft_app (f.command ∷ words) ≡ Some (f.command, left f (at idle nothing_held) words)
form_rows f words is =
    ap (λ (w : Walk). entered dft w.stopped) (stop_is f words is)
    ∙ ap (λ q. option_map (λ s. rows_at s words) q) (entered_form forms f.command ∙ ap (option_map shape) is)

-- ---- another first word fails

no_form : (w : Text) → find_form w ≡ None → subcommand_met (names_of dft) idle w ≡ None
no_form w none = met_form forms w ∙ ap (option_map command_of) none

plain_fault : (w : Text) → IsPlainWord w → other_fault dft.top None w nothing_held ≡ []
plain_fault w plain = rw (plain.escape, plain.long, plain.short) refl

plain_met : (w : Text) → IsPlainWord w → subcommand_or_other dft.top.rules None idle 1 w nothing_held ≡ (nothing_held, value)
plain_met w plain = rw (plain.escape, plain.long, plain.short) refl

long_fault_of : (w : Text) → IsLongWord w → other_fault dft.top None w nothing_held ≡ kind.UnknownArgument ∷ []
long_fault_of w long = rw (long.escape, long.long) refl

other_turn : (w : Text) (b : Bool) → Shapes w b → find_form w ≡ None → turn_fault dft.top (names_of dft) (walk_from nothing_held) w ≡ [] → ⊥
other_turn w true plain other e =
    let none = no_form w other in
    let word : word_fault dft.top (names_of dft) false idle w nothing_held ≡ [] = ap (λ o. other_fault dft.top o w nothing_held) none ∙ plain_fault w plain in
    let met : word_met dft.top.rules (names_of dft) false idle 1 w nothing_held ≡ (nothing_held, value) = ap (λ o. subcommand_or_other dft.top.rules o idle 1 w nothing_held) none ∙ plain_met w plain in
    let turn : turn_fault dft.top (names_of dft) (walk_from nothing_held) w ≡ kind.UnknownArgument ∷ kind.InvalidSubcommand ∷ [] = ap₂ (λ k (m : Held × Step). or_else k (step_fault dft.top 1 m.0 m.1)) word met in
    let bad : kind.UnknownArgument ∷ kind.InvalidSubcommand ∷ [] ≡ [] = sym turn ∙ e in cc
other_turn w false long other e =
    let word : word_fault dft.top (names_of dft) false idle w nothing_held ≡ kind.UnknownArgument ∷ [] = ap (λ o. other_fault dft.top o w nothing_held) (no_form w other) ∙ long_fault_of w long in
    not_empty _ (sym word ∙ first_none _ _ e)

no_words : fault_of dft_app [] ≡ kind.MissingSubcommand ∷ []
unfolding clap_on_literals
no_words = refl

first_turn : (w : Text) (words : List Text) → walk_fault dft.top (names_of dft) (walk_from nothing_held) (w ∷ words) ≡ [] → turn_fault dft.top (names_of dft) (walk_from nothing_held) w ≡ []
unfolding walk_fault
first_turn w words e = first_none _ _ e

pub record Begins (words : List Text) : Type 0 where
  pub form : Form
  pub is : IsForm form
  pub rest : List Text
  pub written : words ≡ form.command ∷ rest

-- words that pass begin with a command
pub begins : (words : List Text) → list_all may_stand words ≡ true → fault_of dft_app words ≡ [] → Begins words
begins [] stand e = absurd (not_empty _ (sym no_words ∙ e))
begins (w ∷ words) stand e = go (find_form w) refl (found command_of forms w (find_form w) refl)
  where
    go : (q : Option Form) → find_form w ≡ q → IfSome q (IsAt command_of forms w) → Begins (w ∷ words)
    go (Some f) is at = record { form = f; is = at.1; rest = words; written = ap (λ (l : Text). l ∷ words) at.0 }
    go None other at = absurd (other_turn w (is_plain w) (shape_of w (and_parts _ _ stand).0) other (first_turn w words (first_none _ _ e)))
