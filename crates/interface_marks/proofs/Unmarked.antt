-- Without conditioners each frame stays, and so does the capture.
use Rattle.std.proofs.Common.{◌≡◌, ◌∙◌, ◌+◌, ap, ℕ, List, [], ◌∷◌, ◌++◌, length, take, drop, Bool, true, false, refl, sym, Some, None}
use Rattle.std.specs.Prelude.{Option, is_some, ◌||◌}
use Rattle.std.specs.List.{list_any}
use Rattle.std.proofs.lemmas.List.{drop-drop, take-append-drop}
use Rattle.capture_model.specs.Capture.{Record, outcome}
use Rattle.altq_model.specs.declared.Placed.{Placed}
use Rattle.altq_model.specs.Arrivals.{Captured, arrivals_from}
use Rattle.conf_tree.specs.Conditioners.{meters}
use Rattle.conf_tree.specs.declared.class.Class.{Class}
use Rattle.marked_files.specs.Metering.{conditioners_from}
use Rattle.traffic_marks.specs.Marked.{Conditioner, marked, marked_frames, with_frames}
use Rattle.traffic_marks.proofs.Lengths.{RecordsHeld, held}
use Rattle.traffic_meter.specs.declared.rule.MeterRule.{MeterRule}

or_second : (a b : Bool) → (a || b) ≡ false → b ≡ false
or_second true b h = absurd (cc)
or_second false b h = h

none_first : (o : Option MeterRule) (b : Bool) (class : ℕ) (rules : List (Option MeterRule)) → (is_some o || b) ≡ false
    → conditioners_from (class + 1) rules ≡ [] → conditioners_from class (o ∷ rules) ≡ []
none_first None b class rules h rest = rest
none_first (Some rule) b class rules h rest = absurd (cc)

pub none_from : (class : ℕ) (classes : List Class) → list_any (λ (c : Class). is_some c.meter) classes ≡ false → conditioners_from class (meters classes) ≡ []
none_from class [] h = refl
none_from class (c ∷ classes) h =
    let more = list_any (λ (c : Class). is_some c.meter) classes in
    none_first c.meter more class (meters classes) h (none_from (class + 1) classes (or_second (is_some c.meter) more h))

-- the records' own frames in their places
own_frames : (place : List ℕ → Placed) (rs : List Record) (latest : ℕ) (earlier : List Captured) (bytes : List ℕ) → RecordsHeld rs bytes
    → with_frames (marked_frames [] earlier (arrivals_from place latest rs)) bytes ≡ bytes
own_frames place [] latest earlier bytes h = refl
own_frames place (r ∷ rs) latest earlier bytes h =
    let n = length r.captured in
    let behind : drop n (drop 16 bytes) ≡ drop (16 + n) bytes = drop-drop n 16 bytes in
    let rest = own_frames place rs _ _ (drop (16 + n) bytes) h.2 in
    ap (λ (l : List ℕ). take 16 bytes ++ (r.captured ++ l)) (rest ∙ sym behind)
    ∙ ap (λ (l : List ℕ). take 16 bytes ++ (l ++ drop n (drop 16 bytes))) h.0
    ∙ ap (λ (l : List ℕ). take 16 bytes ++ l) (take-append-drop n (drop 16 bytes))
    ∙ take-append-drop 16 bytes

pub unmarked : (place : List ℕ → Placed) (cs : List Conditioner) (bytes : List ℕ) → cs ≡ [] → marked (record { place = place; conditioners = cs }) bytes ≡ bytes
unmarked place cs bytes none =
    ap (λ (l : List Conditioner). marked (record { place = place; conditioners = l }) bytes) none
    ∙ ap (λ (l : List ℕ). take 24 bytes ++ l) (own_frames place (outcome bytes).records 0 [] (drop 24 bytes) (held bytes))
    ∙ take-append-drop 24 bytes
