-- What `clap` makes of the words behind a command.
use Rattle.std.proofs.Common.{◌≡◌, ℕ, Bool, true, false, List, [], ◌∷◌, ◌++◌, Option, Some, None, IfSome, fold, refl, sym, ap, ap₂, ◌∙◌, subst, append_assoc, append-nil}
use Rattle.std.specs.List.{list_all}
use Rattle.std.proofs.lemmas.List.{map-append}
use Rattle.std.proofs.lemmas.Bool.{and_parts}
use Rattle.clap.specs.Faults.{check_fault, defaults_fault, react_fault, repeat_fault, settle_fault, turn_fault, use_fault, walk_fault}
use Rattle.clap.specs.Kinds.{Kinds, or_else}
use Rattle.clap.specs.Walk.{Held, Row, Walk, finished, has_row, idle, option, reacted, settled, used, walked, with_default}
use Rattle.dft_command_line.specs.Words.{Text, Given}
use Rattle.dft_command_line.specs.CommandLine.{Form, Known, may_stand}
use Rattle.dft_command_line.proofs.Options.{Has, IsWordOf, apart, are_names, is_plain, joined, option_is, option_of, word_of}
use Rattle.dft_command_line.proofs.Reading.{met_option, met_value, met_word, more, reading}
use Rattle.dft_command_line.proofs.Turns.{at, first_none, flag_fails, has_value, joined_turn, joined_walked, name_turn, name_walked, not_empty, rule, rules, shape, still_waits, unknown_fails, use_of, value_rows, value_settle, value_turn, value_walked, waits_settle}
use Rattle.dft_command_line.proofs.Rows.{AreWanted, Fits, check_passes, check_wants, defaults_pass, fits_more, fits_not, no_defaults, no_repeat, repeats, row, rows, used_new}

-- ---- what is left of the words

-- the faults at the end of the words
abbrev pub end_fault : Form → Held → Kinds
end_fault f h = or_else (settle_fault (rules f.options) false h)
    (or_else (defaults_fault (settled (rules f.options) h).rows (rules f.options))
    (check_fault (shape f) (finished (rules f.options) h) false))

abbrev pub walk_on : Form → Walk → List Text → Walk
walk_on f w words = fold (walked (rules f.options) []) w words

-- the faults of the words from a walk on, and the rows that they leave
abbrev pub faults : Form → Walk → List Text → Kinds
faults f w words = or_else (walk_fault (shape f) [] w words) (or_else [] (end_fault f (walk_on f w words).held))

abbrev pub left : Form → Walk → List Text → List Row
left f w words = finished (rules f.options) (walk_on f w words).held

or_else_assoc : (a b c : Kinds) → or_else (or_else a b) c ≡ or_else a (or_else b c)
or_else_assoc [] b c = refl
or_else_assoc (k ∷ ks) b c = refl

faults_step : (f : Form) (w : Walk) (word : Text) (words : List Text) → faults f w (word ∷ words) ≡ or_else (turn_fault (shape f) [] w word) (faults f (walked (rules f.options) [] w word) words)
unfolding walk_fault
faults_step f w word words = or_else_assoc (turn_fault (shape f) [] w word) (walk_fault (shape f) [] (walked (rules f.options) [] w word) words) _

faults_pass : (f : Form) (w v : Walk) (word : Text) (words : List Text) → turn_fault (shape f) [] w word ≡ [] → walked (rules f.options) [] w word ≡ v → faults f w (word ∷ words) ≡ faults f v words
faults_pass f w v word words passes is = faults_step f w word words ∙ ap₂ or_else passes (ap (λ u. faults f u words) is)

faults_fail : (f : Form) (w : Walk) (word : Text) (words : List Text) → (turn_fault (shape f) [] w word ≡ [] → ⊥) → faults f w (word ∷ words) ≡ [] → ⊥
faults_fail f w word words fails e = fails (first_none _ _ (sym (faults_step f w word words) ∙ e))

no_words : (f : Form) (w : Walk) → faults f w [] ≡ end_fault f w.held
unfolding walk_fault
no_words f w = refl

-- ---- what is held

-- what is held settles without a fault, to the rows of these options
pub record Holds (f : Form) (h : Held) (gs : List Given) : Type 0 where
  pub settles : settle_fault (rules f.options) false h ≡ []
  pub shows : (settled (rules f.options) h).rows ≡ rows gs

abbrev pub Passes : List Known → List Given → Kinds → List Row → Type 0
Passes os gs kinds rs = (Fits gs → AreWanted os gs → kinds ≡ []) × (kinds ≡ [] → Fits gs × AreWanted os gs × (rs ≡ rows gs))

-- what the words from here on come to, behind these options: they fail where no options can be read; else they pass exactly where no option is
-- given twice and those that are wanted are there, and then leave the rows of all
abbrev pub Claim : List Known → Option (List Given) → List Given → Kinds → List Row → Type 0
Claim os None gs kinds rs = kinds ≡ [] → ⊥
Claim os (Some hs) gs kinds rs = Passes os (gs ++ hs) kinds rs

claim_as : (os : List Known) (q : Option (List Given)) (gs : List Given) (kinds kinds' : Kinds) (rs rs' : List Row) → kinds ≡ kinds' → rs ≡ rs' → Claim os q gs kinds' rs' → Claim os q gs kinds rs
claim_as os q gs kinds kinds' rs rs' same alike claim = subst (λ (k : Kinds). Claim os q gs k rs) (sym same) (subst (λ (r : List Row). Claim os q gs kinds' r) (sym alike) claim)

-- one more option is read
claim_more : (os : List Known) (g : Given) (q : Option (List Given)) (gs : List Given) (kinds : Kinds) (rs : List Row) → Claim os q (gs ++ g ∷ []) kinds rs → Claim os (more g q) gs kinds rs
claim_more os g None gs kinds rs claim = claim
claim_more os g (Some hs) gs kinds rs claim = subst (λ (all : List Given). Passes os all kinds rs) (append_assoc gs (g ∷ []) hs) claim

-- an option is read that was given before
claim_repeat : (os : List Known) (g : Given) (q : Option (List Given)) (gs : List Given) (kinds : Kinds) (rs : List Row) → has_row g.name (rows gs) ≡ true → (kinds ≡ [] → ⊥) → Claim os (more g q) gs kinds rs
claim_repeat os g None gs kinds rs present fails = fails
claim_repeat os g (Some hs) gs kinds rs present fails = ((λ fits wanted. absurd (fits_not gs g hs present fits)), λ e. absurd (fails e))

module _ (f : Form) (good : are_names f.options ≡ true) where
  -- ---- the end

  end_claim : (h : Held) (gs : List Given) → Holds f h gs → Fits gs → Claim f.options (Some []) gs (faults f (at idle h) []) (left f (at idle h) [])
  end_claim h gs holds fits =
      let shown : finished (rules f.options) h ≡ rows gs = ap (λ (l : List Row). fold with_default l (rules f.options)) holds.shows ∙ no_defaults f.options (rows gs) in
      let is : end_fault f h ≡ check_fault (shape f) (rows gs) false = ap₂ or_else holds.settles (ap₂ or_else (defaults_pass f.options (settled (rules f.options) h).rows) (ap (λ l. check_fault (shape f) l false) shown)) in
      subst (λ (all : List Given). Passes f.options all (faults f (at idle h) []) (left f (at idle h) [])) (sym (append-nil gs))
      ((λ _ wanted. no_words f (at idle h) ∙ is ∙ check_passes f gs wanted), λ e. (fits, check_wants f gs (sym is ∙ sym (no_words f (at idle h)) ∙ e), shown))

  waits_end : (o : Known) (rs : List Row) (skip : ℕ) → Has f.options o → faults f (at (option o.name) (still_waits o.name rs skip)) [] ≡ [] → ⊥
  waits_end o rs skip has e = not_empty _ (sym (waits_settle f.options o has rs skip) ∙ first_none _ _ (sym (no_words f (at (option o.name) (still_waits o.name rs skip))) ∙ e))

  -- ---- what fails already fails

  unsettled_option : (o : Known) (v : Option Text) (h : Held) → Has f.options o → (settle_fault (rules f.options) false h ≡ [] → ⊥) → turn_fault (shape f) [] (at idle h) (word_of o.name v) ≡ [] → ⊥
  unsettled_option o None h has fails e = fails (first_none _ _ (sym (name_turn f good o h has) ∙ e))
  unsettled_option o (Some v) h has fails e = fails (first_none _ _ (first_none _ _ (sym (joined_turn f good o v h has) ∙ e)))

  unsettled_step : (q : Option (Known × Option Text)) (w : Text) (h : Held) → option_of f.options w ≡ q → IfSome q (IsWordOf f.options w) → may_stand w ≡ true → (settle_fault (rules f.options) false h ≡ [] → ⊥) →
      turn_fault (shape f) [] (at idle h) w ≡ [] → ⊥
  unsettled_step None w h is word stands fails e = unknown_fails f w h stands is e
  unsettled_step (Some p) w h is word stands fails e = unsettled_option p.0 p.1 h word.1 fails (ap (λ (l : Text). turn_fault (shape f) [] (at idle h) l) (sym word.0) ∙ e)

  unsettled : (words : List Text) (h : Held) → list_all may_stand words ≡ true → (settle_fault (rules f.options) false h ≡ [] → ⊥) → faults f (at idle h) words ≡ [] → ⊥
  unsettled [] h stand fails e = fails (first_none _ _ (sym (no_words f (at idle h)) ∙ e))
  unsettled (w ∷ words) h stand fails e = faults_fail f (at idle h) w words (unsettled_step (option_of f.options w) w h refl (option_is f.options w) (and_parts _ _ stand).0 fails) e

  -- ---- the walk

  -- what comes behind an option with its value
  abbrev pub Idle : List Text → Type 0
  Idle words = (h : Held) (gs : List Given) → Holds f h gs → Fits gs → Claim f.options (reading f.options None words) gs (faults f (at idle h) words) (left f (at idle h) words)

  abbrev pub Waits : List Text → Type 0
  Waits words = (o : Known) (gs : List Given) (skip : ℕ) → Has f.options o → Fits gs →
      Claim f.options (reading f.options (Some o) words) gs (faults f (at (option o.name) (still_waits o.name (rows gs) skip)) words) (left f (at (option o.name) (still_waits o.name (rows gs) skip)) words)

  shown_more : (o : Known) (v : Text) (g : Given) (gs : List Given) → row g ≡ row (apart o.name v) → has_row o.name (rows gs) ≡ false → used (rule o) (v ∷ []) (rows gs) ≡ rows (gs ++ g ∷ [])
  shown_more o v g gs is absent = used_new o v (rows gs) absent ∙ ap (λ r. rows gs ++ r ∷ []) (sym is) ∙ sym (map-append row gs (g ∷ []))

  -- a value that waits to be used
  value_claim : (o : Known) (v : Text) (gs : List Given) (skip : ℕ) (words : List Text) (b : Bool) → Has f.options o → has_row o.name (rows gs) ≡ b → list_all may_stand words ≡ true → Fits gs → Idle words →
      Claim f.options (more (apart o.name v) (reading f.options None words)) gs (faults f (at idle (has_value o.name v (rows gs) skip)) words) (left f (at idle (has_value o.name v (rows gs) skip)) words)
  value_claim o v gs skip words true has present stand fits rest =
      claim_repeat f.options (apart o.name v) (reading f.options None words) gs _ _ present
      (unsettled words (has_value o.name v (rows gs) skip) stand (λ e. repeats o.name (rows gs) present (sym (value_settle f.options o has (rows gs) skip v) ∙ e)))
  value_claim o v gs skip words false has absent stand fits rest =
      claim_more f.options (apart o.name v) (reading f.options None words) gs _ _
      (rest (has_value o.name v (rows gs) skip) (gs ++ apart o.name v ∷ [])
      (record { settles = value_settle f.options o has (rows gs) skip v ∙ no_repeat o.name (rows gs) absent; shows = value_rows f.options o has (rows gs) skip v ∙ shown_more o v (apart o.name v) gs refl absent })
      (fits_more gs (apart o.name v) fits absent))

  waits_word : (o : Known) (w : Text) (words : List Text) (gs : List Given) (skip : ℕ) (b : Bool) → Has f.options o → is_plain w ≡ b → may_stand w ≡ true → list_all may_stand words ≡ true → Fits gs → Idle words →
      Claim f.options (met_value b o w (λ next. reading f.options next words)) gs (faults f (at (option o.name) (still_waits o.name (rows gs) skip)) (w ∷ words)) (left f (at (option o.name) (still_waits o.name (rows gs) skip)) (w ∷ words))
  waits_word o w words gs skip true has plain stands stand fits rest =
      let is = value_walked f.options o w (rows gs) skip has stands plain in
      claim_as f.options (more (apart o.name w) (reading f.options None words)) gs _ _ _ _
      (faults_pass f (at (option o.name) (still_waits o.name (rows gs) skip)) (at idle (has_value o.name w (rows gs) skip)) w words (value_turn f o.name (still_waits o.name (rows gs) skip) w stands plain) is)
      (ap (λ u. left f u words) is)
      (value_claim o w gs skip words (has_row o.name (rows gs)) has refl stand fits rest)
  waits_word o w words gs skip false has flag stands stand fits rest =
      faults_fail f (at (option o.name) (still_waits o.name (rows gs) skip)) w words (flag_fails f o (rows gs) skip w has stands flag)

  -- the word of an option whose value follows
  name_claim : (o : Known) (words : List Text) (h : Held) (gs : List Given) → Has f.options o → Holds f h gs → Fits gs → Waits words →
      Claim f.options (reading f.options (Some o) words) gs (faults f (at idle h) (word_of o.name None ∷ words)) (left f (at idle h) (word_of o.name None ∷ words))
  name_claim o words h gs has holds fits rest =
      let is : walked (rules f.options) [] (at idle h) (word_of o.name None) ≡ at (option o.name) (still_waits o.name (rows gs) h.skip)
      = name_walked f good o h has ∙ ap (λ (l : List Row). at (option o.name) (still_waits o.name l h.skip)) holds.shows in
      claim_as f.options (reading f.options (Some o) words) gs _ _ _ _
      (faults_pass f (at idle h) (at (option o.name) (still_waits o.name (rows gs) h.skip)) (word_of o.name None) words (name_turn f good o h has ∙ ap (λ k. or_else k []) holds.settles) is)
      (ap (λ u. left f u words) is)
      (rest o gs h.skip has fits)

  joined_use : (o : Known) (v : Text) (h : Held) (gs : List Given) → Holds f h gs → or_else (react_fault (rules f.options) false (rule o) (v ∷ []) h) [] ≡ or_else (repeat_fault false o.name (rows gs)) []
  joined_use o v h gs holds =
      ap (λ k. or_else k []) (ap₂ or_else holds.settles (ap (use_fault false (rule o) (v ∷ [])) holds.shows ∙ use_of o v (rows gs)))
      ∙ or_else_assoc (repeat_fault false o.name (rows gs)) [] []

  joined_claim : (o : Known) (v : Text) (words : List Text) (h : Held) (gs : List Given) (b : Bool) → Has f.options o → has_row o.name (rows gs) ≡ b → Holds f h gs → Fits gs → Idle words →
      Claim f.options (more (joined o.name v) (reading f.options None words)) gs (faults f (at idle h) (word_of o.name (Some v) ∷ words)) (left f (at idle h) (word_of o.name (Some v) ∷ words))
  joined_claim o v words h gs true has present holds fits rest =
      claim_repeat f.options (joined o.name v) (reading f.options None words) gs _ _ present
      (faults_fail f (at idle h) (word_of o.name (Some v)) words (λ e. repeats o.name (rows gs) present (sym (joined_turn f good o v h has ∙ joined_use o v h gs holds) ∙ e)))
  joined_claim o v words h gs false has absent holds fits rest =
      let after = reacted (rules f.options) (rule o) (v ∷ []) h in
      claim_as f.options (more (joined o.name v) (reading f.options None words)) gs _ _ _ _
      (faults_pass f (at idle h) (at idle after) (word_of o.name (Some v)) words (joined_turn f good o v h has ∙ joined_use o v h gs holds ∙ no_repeat o.name (rows gs) absent) (joined_walked f good o v h has))
      (ap (λ u. left f u words) (joined_walked f good o v h has))
      (claim_more f.options (joined o.name v) (reading f.options None words) gs _ _
      (rest after (gs ++ joined o.name v ∷ [])
      (record { settles = refl; shows = ap (used (rule o) (v ∷ [])) holds.shows ∙ shown_more o v (joined o.name v) gs refl absent })
      (fits_more gs (joined o.name v) fits absent)))

  option_claim : (o : Known) (v : Option Text) (words : List Text) (h : Held) (gs : List Given) → Has f.options o → Holds f h gs → Fits gs → Idle words → Waits words →
      Claim f.options (met_option o v (λ next. reading f.options next words)) gs (faults f (at idle h) (word_of o.name v ∷ words)) (left f (at idle h) (word_of o.name v ∷ words))
  option_claim o None words h gs has holds fits idles waits = name_claim o words h gs has holds fits waits
  option_claim o (Some v) words h gs has holds fits idles waits = joined_claim o v words h gs (has_row o.name (rows gs)) has refl holds fits idles

  idle_word : (q : Option (Known × Option Text)) (w : Text) (words : List Text) (h : Held) (gs : List Given) → option_of f.options w ≡ q → IfSome q (IsWordOf f.options w) → may_stand w ≡ true → Holds f h gs → Fits gs → Idle words → Waits words →
      Claim f.options (met_word q (λ next. reading f.options next words)) gs (faults f (at idle h) (w ∷ words)) (left f (at idle h) (w ∷ words))
  idle_word None w words h gs is word stands holds fits idles waits = faults_fail f (at idle h) w words (unknown_fails f w h stands is)
  idle_word (Some p) w words h gs is word stands holds fits idles waits =
      subst (λ (l : Text). Claim f.options (met_option p.0 p.1 (λ next. reading f.options next words)) gs (faults f (at idle h) (l ∷ words)) (left f (at idle h) (l ∷ words))) (sym word.0)
      (option_claim p.0 p.1 words h gs word.1 holds fits idles waits)

  pub walks : (words : List Text) → list_all may_stand words ≡ true → Idle words × Waits words
  walks [] stand = ((λ h gs holds fits. end_claim h gs holds fits), λ o gs skip has fits. waits_end o (rows gs) skip has)
  walks (w ∷ words) stand =
      let here = and_parts (may_stand w) (list_all may_stand words) stand in
      let rest = walks words here.1 in (
        (λ h gs holds fits. idle_word (option_of f.options w) w words h gs refl (option_is f.options w) here.0 holds fits rest.0 rest.1),
        λ o gs skip has fits. waits_word o w words gs skip (is_plain w) has refl here.0 here.1 fits rest.0,
      )
