-- What completions share stands above each, and grows with the values.
use Rattle.std.proofs.Common.{Bool, true, false, List, [], ◌∷◌}
use Rattle.dft_base.specs.declared.tri.Tri.{Tri}
use Rattle.dft_base.specs.declared.tri.Tri.TheVariants.{Zero, One, Unknown}
use Rattle.dft_base.specs.Tri.{known, Above, AboveTri, join}
use Rattle.dft_cells.specs.Gates.{completing, shared}
use Rattle.dft_cells.specs.FlipFlops.{forced, chosen, tri_forced, tri_chosen}
use Rattle.dft_cells.specs.Laws.{CompletionsAreAbove, ForcedIsAbove, ChosenIsAbove}

pub above_known : (b : Bool) → Above (known b) b
above_known true = tt
above_known false = tt

pub join_left : (t u : Tri) (b : Bool) → Above t b → Above (join t u) b
join_left Unknown u b h = tt
join_left Zero Zero b h = h
join_left Zero One b h = tt
join_left Zero Unknown b h = tt
join_left One One b h = h
join_left One Zero b h = tt
join_left One Unknown b h = tt

pub join_right : (t u : Tri) (b : Bool) → Above u b → Above (join t u) b
join_right Unknown u b h = tt
join_right Zero Zero b h = h
join_right Zero One b h = tt
join_right Zero Unknown b h = tt
join_right One One b h = h
join_right One Zero b h = tt
join_right One Unknown b h = tt

-- a function's value at a value stands above a bit that its value at the bit below stands above
pub completing_above : (f : Bool → Tri) (t : Tri) (b x : Bool) → Above t b → Above (f b) x → Above (completing f t) x
completing_above f Zero false x h r = r
completing_above f Zero true x h r = absurd h
completing_above f One true x h r = r
completing_above f One false x h r = absurd h
completing_above f Unknown false x h r = join_left (f false) (f true) x r
completing_above f Unknown true x h r = join_right (f false) (f true) x r

pub shared_above : CompletionsAreAbove
shared_above f [] [] h = above_known (f [])
shared_above f [] (b ∷ bs) h = absurd h
shared_above f (t ∷ ts) [] h = absurd h
shared_above f (t ∷ ts) (b ∷ bs) h = completing_above (λ b. shared (λ bs. f (b ∷ bs)) ts) t b (f (b ∷ bs)) h.0 (shared_above (λ bs. f (b ∷ bs)) ts bs h.1)

pub forced_above : ForcedIsAbove
forced_above value pin bit p b hp hb =
    completing_above (λ p. completing (λ b. known (forced value p b)) bit) pin p (forced value p b) hp
    (completing_above (λ b. known (forced value p b)) bit b (forced value p b) hb (above_known (forced value p b)))

pub chosen_above : ChosenIsAbove
chosen_above enable scan_in data_in e s d he hs hd =
    completing_above (λ e. completing (λ s. completing (λ d. known (chosen e s d)) data_in) scan_in) enable e (chosen e s d) he
    (completing_above (λ s. completing (λ d. known (chosen e s d)) data_in) scan_in s (chosen e s d) hs
    (completing_above (λ d. known (chosen e s d)) data_in d (chosen e s d) hd (above_known (chosen e s d))))

-- ---- monotony

pub above_self : (t : Tri) → AboveTri t t
above_self Zero = tt
above_self One = tt
above_self Unknown = tt

pub above_trans : (x y : Tri) (b : Bool) → AboveTri x y → Above y b → Above x b
above_trans Unknown y b p h = tt
above_trans Zero Zero b p h = h
above_trans Zero One b p h = absurd p
above_trans Zero Unknown b p h = absurd p
above_trans One One b p h = h
above_trans One Zero b p h = absurd p
above_trans One Unknown b p h = absurd p

pub trans : (a b c : Tri) → AboveTri a b → AboveTri b c → AboveTri a c
trans Unknown b c p q = tt
trans Zero Zero c p q = q
trans Zero One c p q = absurd p
trans Zero Unknown c p q = absurd p
trans One One c p q = q
trans One Zero c p q = absurd p
trans One Unknown c p q = absurd p

pub join_least : (a b c : Tri) → AboveTri a b → AboveTri a c → AboveTri a (join b c)
join_least Unknown b c p q = tt
join_least Zero Zero Zero p q = tt
join_least Zero Zero One p q = absurd q
join_least Zero Zero Unknown p q = absurd q
join_least Zero One c p q = absurd p
join_least Zero Unknown c p q = absurd p
join_least One One One p q = tt
join_least One One Zero p q = absurd q
join_least One One Unknown p q = absurd q
join_least One Zero c p q = absurd p
join_least One Unknown c p q = absurd p

pub join_over_left : (a b c : Tri) → AboveTri a c → AboveTri (join a b) c
join_over_left Unknown b c p = tt
join_over_left Zero Zero c p = p
join_over_left Zero One c p = tt
join_over_left Zero Unknown c p = tt
join_over_left One One c p = p
join_over_left One Zero c p = tt
join_over_left One Unknown c p = tt

pub join_over_right : (a b c : Tri) → AboveTri b c → AboveTri (join a b) c
join_over_right Unknown b c p = tt
join_over_right Zero Zero c p = p
join_over_right Zero One c p = tt
join_over_right Zero Unknown c p = tt
join_over_right One One c p = p
join_over_right One Zero c p = tt
join_over_right One Unknown c p = tt

pub completing_monotone : (f g : Bool → Tri) (t u : Tri) → AboveTri t u → ((b : Bool) → AboveTri (f b) (g b)) → AboveTri (completing f t) (completing g u)
completing_monotone f g Zero Zero h fg = fg false
completing_monotone f g Zero One h fg = absurd h
completing_monotone f g Zero Unknown h fg = absurd h
completing_monotone f g One One h fg = fg true
completing_monotone f g One Zero h fg = absurd h
completing_monotone f g One Unknown h fg = absurd h
completing_monotone f g Unknown Zero h fg = join_over_left (f false) (f true) (g false) (fg false)
completing_monotone f g Unknown One h fg = join_over_right (f false) (f true) (g true) (fg true)
completing_monotone f g Unknown Unknown h fg =
    join_least (join (f false) (f true)) (g false) (g true) (join_over_left (f false) (f true) (g false) (fg false)) (join_over_right (f false) (f true) (g true) (fg true))

abbrev pub AllOver : List Tri → List Tri → Type 0
AllOver [] [] = Unit {0}
AllOver [] (u ∷ us) = ⊥
AllOver (t ∷ ts) [] = ⊥
AllOver (t ∷ ts) (u ∷ us) = AboveTri t u × AllOver ts us

pub shared_monotone : (f : List Bool → Bool) (ts us : List Tri) → AllOver ts us → AboveTri (shared f ts) (shared f us)
shared_monotone f [] [] h = above_self (known (f []))
shared_monotone f [] (u ∷ us) h = absurd h
shared_monotone f (t ∷ ts) [] h = absurd h
shared_monotone f (t ∷ ts) (u ∷ us) h =
    completing_monotone (λ b. shared (λ bs. f (b ∷ bs)) ts) (λ b. shared (λ bs. f (b ∷ bs)) us) t u h.0 (λ b. shared_monotone (λ bs. f (b ∷ bs)) ts us h.1)

pub forced_monotone : (value : Bool) (pin pin' bit bit' : Tri) → AboveTri pin pin' → AboveTri bit bit' → AboveTri (tri_forced value pin bit) (tri_forced value pin' bit')
forced_monotone value pin pin' bit bit' hp hb =
    completing_monotone _ _ pin pin' hp (λ p. completing_monotone (λ b. known (forced value p b)) (λ b. known (forced value p b)) bit bit' hb (λ b. above_self (known (forced value p b))))

pub chosen_monotone : (enable enable' scan_in scan_in' data_in data_in' : Tri) → AboveTri enable enable' → AboveTri scan_in scan_in' → AboveTri data_in data_in' → AboveTri (tri_chosen enable scan_in data_in) (tri_chosen enable' scan_in' data_in')
chosen_monotone enable enable' scan_in scan_in' data_in data_in' he hs hd =
    completing_monotone _ _ enable enable' he (λ e.
    completing_monotone _ _ scan_in scan_in' hs (λ s.
    completing_monotone (λ d. known (chosen e s d)) (λ d. known (chosen e s d)) data_in data_in' hd (λ d. above_self (known (chosen e s d)))))

-- a reset or set that acts again changes nothing
pub forced_again : (value : Bool) (pin bit : Tri) → AboveTri (tri_forced value pin bit) (tri_forced value pin (tri_forced value pin bit))
forced_again true Zero Zero = tt
forced_again true Zero One = tt
forced_again true Zero Unknown = tt
forced_again true One Zero = tt
forced_again true One One = tt
forced_again true One Unknown = tt
forced_again true Unknown Zero = tt
forced_again true Unknown One = tt
forced_again true Unknown Unknown = tt
forced_again false Zero Zero = tt
forced_again false Zero One = tt
forced_again false Zero Unknown = tt
forced_again false One Zero = tt
forced_again false One One = tt
forced_again false One Unknown = tt
forced_again false Unknown Zero = tt
forced_again false Unknown One = tt
forced_again false Unknown Unknown = tt
