-- A netlist to which things are added, one after another, up to a whole.
use Rattle.std.proofs.Common.{ℕ, ◌+◌, ◌≡◌, ◌<◌, List, ◌∷◌, length, map, drop, get_or, sym, subst, ap, ◌∙◌}
use Rattle.std.proofs.lemmas.List.{drop_more}
use Rattle.dft_netlist.specs.Netlist.{Netlist}
use Rattle.dft_scan_frame.specs.Growing.{Thing, with_thing, with_things, AllFit}

-- the things that are left can be added, and with them it is the whole
pub record Completes (whole n : Netlist) (things : List Thing) : Type 0 where
  pub fit : AllFit n things
  pub all : with_things n things ≡ whole

pub goes_on : (whole n new : Netlist) (thing : Thing) (things : List Thing) → Completes whole n (thing ∷ things) → new ≡ with_thing n thing → Completes whole new things
goes_on whole n new thing things c is = subst (λ (m : Netlist). Completes whole m things) (sym is) (record { fit = c.fit.1; all = c.all })

-- the next of the things that are left
pub next_thing : {X : Type 0} (whole n : Netlist) (f : X → Thing) (xs : List X) (k : ℕ) (x d : X) → k < length xs → x ≡ get_or xs k d → Completes whole n (map f (drop k xs)) → Completes whole n (f x ∷ map f (drop (k + 1) xs))
next_thing whole n f xs k x d within is c = subst (Completes whole n) (ap (map f) (drop_more xs k d within) ∙ ap (λ y. f y ∷ map f (drop (k + 1) xs)) (sym is)) c
