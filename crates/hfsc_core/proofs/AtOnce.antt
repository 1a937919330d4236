-- Where any class may send at any moment, what is due is due now.
use Rattle.std.proofs.Common.{◌≡◌, ◌≤◌, ◌<◌, ◌⊎◌, inl, inr, ℕ, List, [], ◌∷◌, None, Some, refl, ap, sym, subst, arith, ◌∙◌}
use Rattle.std.specs.Prelude.{Option, option_map}
use Rattle.altq_model.specs.History.{Arrival, Event, head}
use Rattle.altq_model.specs.Play.{IsOneOf, Policy, lesser}
use Rattle.altq_model.specs.Lawful.{IsHead, NeverWaits, first_at, start_at}
use Rattle.discipline.specs.Laws.{IsDue}
use Rattle.discipline.specs.declared.pick.Pick.{Pick}
use Rattle.discipline.specs.declared.pick.Pick.TheVariants.{Send, Wait, Empty}
use Rattle.hfsc_core.specs.Waiting.{IsNoWait}

-- a moment that is there is this one
abbrev IsAt : (t : ℕ) → Option ℕ → Type 0
IsAt t None = Unit {0}
IsAt t (Some s) = s ≡ t

lesser_at : (t : ℕ) (o p : Option ℕ) → IsAt t o → IsAt t p → IsAt t (lesser o p)
lesser_at t None p x y = y
lesser_at t (Some u) None x y = x
lesser_at t (Some u) (Some v) x y = omega (arith, x, y)

start_is : (p : Policy) (t : ℕ) (h : List Event) (c : ℕ) → NeverWaits p → IsOneOf c p.classes → IsAt t (start_at p t h c)
start_is p t h c never held = go (head c h) refl
  where
    go : (o : Option Arrival) → head c h ≡ o → IsAt t (option_map (λ (a : Arrival). p.start_from h c t) o)
    go None e = tt
    go (Some a) e = never h c t a (record { held = held; front = e })

first_is : (p : Policy) (t : ℕ) (h : List Event) (cs : List ℕ) → NeverWaits p → ((c : ℕ) → IsOneOf c cs → IsOneOf c p.classes)
    → IsAt t (first_at p t h cs)
first_is p t h [] never held = tt
first_is p t h (c ∷ cs) never held =
    lesser_at t (start_at p t h c) (first_at p t h cs) (start_is p t h c never (held c (inl refl))) (first_is p t h cs never (λ d m. held d (inr m)))

pub no_wait : (p : Policy) (h : List Event) (now : ℕ) (pick : Pick) → NeverWaits p → IsDue p h now pick → IsNoWait pick
no_wait p h now (Send ticket class len rule) never due = tt
no_wait p h now (Wait till) never due =
    let at : till ≡ now = subst (λ (o : Option ℕ). IsAt now o) due.0 (first_is p now h p.classes never (λ c m. m)) in
    omega (arith, at, due.1)
no_wait p h now Empty never due = tt
