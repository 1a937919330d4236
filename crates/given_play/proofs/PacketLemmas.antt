-- Packets that arrive.
use Rattle.std.proofs.Common.{◌≡◌, ◌≤◌, ◌+◌, ◌∙◌, ℕ, zero, suc, List, [], Some, None, ◌∷◌, ◌++◌, length, drop, map, max, refl, ap, sym, subst, arith, add-one, append-nil}
use Rattle.std.proofs.Math.ListN.{drop_of_length-le}
use Rattle.std.specs.Prelude.{slice_get}
use Rattle.std.proofs.lemmas.List.{append_assoc, map_push}
use Rattle.altq_model.specs.declared.Placed.{Placed}
use Rattle.altq_model.specs.History.{Arrival}
use Rattle.altq_model.specs.Lawful.{AreRising, RiseFrom}
use Rattle.altq_model.specs.Arrivals.{arrivals_from, arrivals_of, bare_arrivals as bare_arrivals_of}
use Rattle.capture_model.specs.Capture.{Record}
use Rattle.fate_judge.specs.declared.given.Arrived.{Arrived}
use Rattle.fate_judge.specs.Given.{bare_arrival, bare_arrivals}
use Rattle.input_files.specs.Records.{Shown, shown_of}
use Rattle.given_play.specs.Packets.{bare_arrival_at, bare_arrivals_shown}

-- the packets of records that are shown
pub bare_arrivals_same : (place : List ℕ → Placed) (latest : ℕ) (rs : List Record)
    → bare_arrivals_shown place latest (map shown_of rs) ≡ bare_arrivals_of (arrivals_from place latest rs)
bare_arrivals_same place latest [] = refl
bare_arrivals_same place latest (r ∷ rs) =
    ap (λ (cs : List Arrival). bare_arrival_at place (max latest r.stamp) (shown_of r) ∷ cs) (bare_arrivals_same place (max latest r.stamp) rs)

-- they rise
shown_rise : (place : List ℕ → Placed) (latest : ℕ) (ss : List Shown) → RiseFrom latest (bare_arrivals_shown place latest ss)
shown_rise place latest [] = tt
shown_rise place latest (s ∷ ss) = (omega arith, shown_rise place (max latest s.stamp) ss)

-- where there is no record, all stand before
pub none_past : (ss : List Shown) (i : ℕ) → slice_get ss i ≡ None → length ss ≤ i
none_past [] i h = omega arith
none_past (s ∷ ss) zero h = absurd (cc)
none_past (s ∷ ss) (suc i) h = let rest = none_past ss i h in omega (arith, rest)

-- a record, and those behind it
pub drop_at : (ss : List Shown) (i : ℕ) (s : Shown) → slice_get ss i ≡ Some s → drop i ss ≡ s ∷ drop (suc i) ss
drop_at [] i s h = absurd (cc)
drop_at (x ∷ ss) zero s h = let same : x ≡ s = cc in ap (λ (y : Shown). y ∷ ss) same
drop_at (x ∷ ss) (suc i) s h = drop_at ss i s h

-- one packet more
pub one_more : (place : List ℕ → Placed) (latest at : ℕ) (shown : List Shown) (i : ℕ) (s : Shown) (all : List Arrived) (a : Arrived) → slice_get shown i ≡ Some s
    → at ≡ max latest s.stamp → bare_arrival a ≡ bare_arrival_at place at s
    → bare_arrivals_shown place 0 shown ≡ bare_arrivals all ++ bare_arrivals_shown place latest (drop i shown)
    → bare_arrivals_shown place 0 shown ≡ bare_arrivals (all ++ a ∷ []) ++ bare_arrivals_shown place at (drop (i + 1) shown)
one_more place latest at shown i s all a found is same h =
    let rest : List Shown = drop (suc i) shown in
    let P : ℕ → Type 0 = λ m. bare_arrivals_shown place latest (drop i shown) ≡ bare_arrival_at place m s ∷ bare_arrivals_shown place m rest in
    let next : bare_arrivals_shown place latest (drop i shown) ≡ bare_arrival_at place at s ∷ bare_arrivals_shown place at rest =
    subst P (sym is) (ap (bare_arrivals_shown place latest) (drop_at shown i s found)) in
    let pushed : bare_arrivals (all ++ a ∷ []) ++ bare_arrivals_shown place at rest ≡ bare_arrivals all ++ bare_arrival_at place at s ∷ bare_arrivals_shown place at rest =
    ap (λ (cs : List Arrival). cs ++ bare_arrivals_shown place at rest) (map_push bare_arrival all a ∙ ap (λ (x : Arrival). bare_arrivals all ++ x ∷ []) same)
    ∙ append_assoc (bare_arrivals all) (bare_arrival_at place at s ∷ []) (bare_arrivals_shown place at rest) in
    rw add-one (h ∙ ap (λ (cs : List Arrival). bare_arrivals all ++ cs) next ∙ sym pushed)

-- all packets, where none are to come
all_shown : (place : List ℕ → Placed) (latest : ℕ) (shown : List Shown) (i : ℕ) (all : List Arrived) → length shown ≤ i
    → bare_arrivals_shown place 0 shown ≡ bare_arrivals all ++ bare_arrivals_shown place latest (drop i shown)
    → bare_arrivals all ≡ bare_arrivals_shown place 0 shown
all_shown place latest shown i all end h =
    let none : bare_arrivals_shown place latest (drop i shown) ≡ [] =
    ap (λ (ys : List Shown). bare_arrivals_shown place latest ys) (drop_of_length-le shown end) in
    sym (append-nil (bare_arrivals all)) ∙ ap (λ (cs : List Arrival). bare_arrivals all ++ cs) (sym none) ∙ sym h

pub all_rise : (place : List ℕ → Placed) (latest : ℕ) (shown : List Shown) (i : ℕ) (all : List Arrived) → length shown ≤ i
    → bare_arrivals_shown place 0 shown ≡ bare_arrivals all ++ bare_arrivals_shown place latest (drop i shown)
    → AreRising (bare_arrivals all)
all_rise place latest shown i all end h =
    let P : List Arrival → Type 0 = λ cs. AreRising cs in
    subst P (sym (all_shown place latest shown i all end h)) (shown_rise place 0 shown)

pub all_bare_arrivals : (place : List ℕ → Placed) (latest : ℕ) (shown : List Shown) (i : ℕ) (all : List Arrived) (rs : List Record) → length shown ≤ i
    → bare_arrivals_shown place 0 shown ≡ bare_arrivals all ++ bare_arrivals_shown place latest (drop i shown)
    → shown ≡ map shown_of rs → bare_arrivals all ≡ bare_arrivals_of (arrivals_of place rs)
all_bare_arrivals place latest shown i all rs end h is =
    all_shown place latest shown i all end h ∙ ap (λ (ss : List Shown). bare_arrivals_shown place 0 ss) is ∙ bare_arrivals_same place 0 rs
