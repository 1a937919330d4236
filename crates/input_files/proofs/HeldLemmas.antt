-- Records whose bytes stand in one list.
use Rattle.std.proofs.Common.{◌≡◌, ◌∙◌, ◌<◌, ◌≤◌, ◌++◌, ◌∷◌, ℕ, zero, suc, List, [], None, length, map, take, drop, get_or, refl, ap, arith, length-append, length-drop}
use Rattle.std.proofs.lemmas.List.{drop-append-le, map-append, take-append-le, take_all}
use Rattle.std.proofs.Math.Seq.{drop-append_seam}
use Rattle.std.specs.Prelude.{slice_get}
use Rattle.input_files.specs.declared.held.HeldRecord.{HeldRecord}
use Rattle.input_files.specs.Held.{AreHeld, IsHeldRecord, shown_at}
use Rattle.input_files.specs.Records.{Shown}

-- more bytes behind them change nothing
more_at : (bytes more : List ℕ) (h : HeldRecord) → IsHeldRecord bytes h → shown_at (bytes ++ more) h ≡ shown_at bytes h
more_at bytes more h is =
    ap (λ (b : List ℕ). record { stamp = h.stamp; len = h.len; bytes = b })
    (ap (take h.captured) (drop-append-le h.from bytes more (omega (arith, is.there)))
    ∙ take-append-le h.captured (drop h.from bytes) more (omega (arith, is.there, length-drop h.from bytes)))

pub more_shown : (bytes more : List ℕ) (hs : List HeldRecord) → AreHeld bytes hs → map (shown_at (bytes ++ more)) hs ≡ map (shown_at bytes) hs
more_shown bytes more [] are = refl
more_shown bytes more (h ∷ hs) are =
    ap (λ (s : Shown). s ∷ map (shown_at (bytes ++ more)) hs) (more_at bytes more h are.0) ∙ ap (λ (ss : List Shown). shown_at bytes h ∷ ss) (more_shown bytes more hs are.1)

pub more_held : (bytes more : List ℕ) (hs : List HeldRecord) → AreHeld bytes hs → AreHeld (bytes ++ more) hs
more_held bytes more [] are = tt
more_held bytes more (h ∷ hs) are =
    (record { there = omega (arith, are.0.there, length-append bytes more); some = are.0.some; most = are.0.most; short = are.0.short }, more_held bytes more hs are.1)

pub held_push : (bytes : List ℕ) (hs : List HeldRecord) (h : HeldRecord) → AreHeld bytes hs → IsHeldRecord bytes h → AreHeld bytes (hs ++ h ∷ [])
held_push bytes [] h are is = (is, tt)
held_push bytes (x ∷ hs) h are is = (are.0, held_push bytes hs h are.1 is)

-- a record whose bytes are the last
pub last_shown : (bytes more : List ℕ) (h : HeldRecord) → h.from ≡ length bytes → h.captured ≡ length more
    → shown_at (bytes ++ more) h ≡ record { stamp = h.stamp; len = h.len; bytes = more }
last_shown bytes more h from captured =
    ap (λ (b : List ℕ). record { stamp = h.stamp; len = h.len; bytes = b })
    (rw from (ap (take h.captured) (drop-append_seam bytes more)) ∙ take_all h.captured more (omega (arith, captured)))

-- one record more
pub added : (bytes more : List ℕ) (hs : List HeldRecord) (h : HeldRecord) → AreHeld bytes hs → h.from ≡ length bytes → h.captured ≡ length more
    → map (shown_at (bytes ++ more)) (hs ++ h ∷ []) ≡ map (shown_at bytes) hs ++ record { stamp = h.stamp; len = h.len; bytes = more } ∷ []
added bytes more hs h are from captured =
    map-append (shown_at (bytes ++ more)) hs (h ∷ []) ∙ ap (λ (ss : List Shown). ss ++ shown_at (bytes ++ more) h ∷ []) (more_shown bytes more hs are)
    ∙ ap (λ (s : Shown). map (shown_at bytes) hs ++ s ∷ []) (last_shown bytes more h from captured)

pub held_at : (bytes : List ℕ) (hs : List HeldRecord) (i : ℕ) (none : HeldRecord) → AreHeld bytes hs → i < length hs → IsHeldRecord bytes (get_or hs i none)
held_at bytes [] i none are l = absurd (omega arith)
held_at bytes (h ∷ hs) zero none are l = are.0
held_at bytes (h ∷ hs) (suc i) none are l = held_at bytes hs i none are.1 (omega arith)

pub get_past : (hs : List HeldRecord) (i : ℕ) → length hs ≤ i → slice_get hs i ≡ None
get_past [] i le = refl
get_past (h ∷ hs) zero le = absurd (omega arith)
get_past (h ∷ hs) (suc i) le = get_past hs i (omega arith)
