-- The arrival of a number, and what can occur in a class.
use Rattle.std.proofs.Common.{◌≡◌, ◌∙◌, ◌-◌, ◌<◌, ℕ, false, List, Option, Some, length, get_or, ap, sym}
use Rattle.std.specs.Prelude.{slice_get}
use Rattle.std.specs.Option.{option_map_or}
use Rattle.std.proofs.lemmas.Option.{slice_get-map, slice_get-get_or}
use Rattle.altq_model.specs.declared.Fate.{Fate}
use Rattle.altq_model.specs.History.{Arrival}
use Rattle.altq_model.specs.Laws.{at_of}
use Rattle.journal_laws.specs.Journal.{class_of, len_of}
use Rattle.fate_judge.specs.declared.given.Allowed.{Allowed}
use Rattle.fate_judge.specs.declared.given.Arrived.{Arrived}
use Rattle.fate_judge.specs.Given.{bare_arrival, bare_arrivals}
use Rattle.fate_judge.specs.Reading.{can_occur, can_occur_in}
use Rattle.std.specs.Option.{option_map}

bare_arrival_at : (arrived : List Arrived) (n : ℕ) (a : Arrived) → n - 1 < length arrived → a ≡ get_or arrived (n - 1) a
    → slice_get (bare_arrivals arrived) (n - 1) ≡ Some (bare_arrival a)
bare_arrival_at arrived n a lt is =
    slice_get-map bare_arrival arrived (n - 1)
    ∙ ap (λ (o : Option Arrived). option_map bare_arrival o) (slice_get-get_or arrived (n - 1) a lt ∙ ap (λ (x : Arrived). Some x) (sym is))

pub at_is : (arrived : List Arrived) (n : ℕ) (a : Arrived) → n - 1 < length arrived → a ≡ get_or arrived (n - 1) a → at_of (bare_arrivals arrived) n ≡ a.at
at_is arrived n a lt is = ap (λ (o : Option Arrival). option_map_or (λ (x : Arrival). x.at) o 0) (bare_arrival_at arrived n a lt is)

pub len_is : (arrived : List Arrived) (n : ℕ) (a : Arrived) → n - 1 < length arrived → a ≡ get_or arrived (n - 1) a → len_of (bare_arrivals arrived) n ≡ a.len
len_is arrived n a lt is = ap (λ (o : Option Arrival). option_map_or (λ (x : Arrival). x.len) o 0) (bare_arrival_at arrived n a lt is)

pub class_is : (arrived : List Arrived) (n : ℕ) (a : Arrived) → n - 1 < length arrived → a ≡ get_or arrived (n - 1) a → class_of (bare_arrivals arrived) n ≡ a.class
class_is arrived n a lt is = ap (λ (o : Option Arrival). option_map_or (λ (x : Arrival). x.class) o 0) (bare_arrival_at arrived n a lt is)

pub occurs_in : (classes : List Allowed) (class : ℕ) (c : Allowed) (fate : Fate) → class < length classes → c ≡ get_or classes class c
    → can_occur_in classes class fate ≡ can_occur c fate
occurs_in classes class c fate lt is =
    ap (λ (o : Option Allowed). option_map_or (λ (x : Allowed). can_occur x fate) o false) (slice_get-get_or classes class c lt ∙ ap (λ (x : Allowed). Some x) (sym is))
