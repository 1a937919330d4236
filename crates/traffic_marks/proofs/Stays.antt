-- The bytes that no mark changes.
use Rattle.std.proofs.Common.{◌≡◌, ◌≤◌, ◌<◌, ◌+◌, ◌-◌, ◌∙◌, ap, ℕ, zero, suc, List, [], ◌∷◌, ◌++◌, length, take, drop, get_or, Bool, true, false, refl, arith, sym, subst, IsTrue}
use Rattle.std.specs.Prelude.{All, if◌then◌else◌, ◌&&◌, is_some, nat_lt, not, max, Option, Some, None}
use Rattle.std.proofs.lemmas.Bool.{ltb-true, ltb-false}
use Rattle.std.proofs.lemmas.List.{get_or-append_right, get_or_append_left, get_or-drop, get_or-take, length-take-le, take_at, take-append-drop}
use Rattle.std.proofs.lemmas.List.Elements.{All-head, All-tail}
use Rattle.capture_model.specs.Capture.{Header, Formed, Unformed, Record, header, outcome_from}
use Rattle.altq_model.specs.declared.Placed.{Placed}
use Rattle.altq_model.specs.Arrivals.{Captured, arrivals_from}
use Rattle.packet_heads.specs.Flow.{flow}
use Rattle.packet_heads.specs.Departing.{tos_of}
use Rattle.packet_heads.proofs.Retagging.{are_bytes, retagged_differs}
use Rattle.traffic_meter.specs.declared.rule.Colour.{Colour}
use Rattle.traffic_meter.specs.declared.rule.Colour.TheVariants.{Green, Yellow, Red}
use Rattle.traffic_meter.specs.declared.rule.MeterRule.{MeterRule}
use Rattle.traffic_meter.specs.History.{colour_after}
use Rattle.traffic_meter.specs.Mark.{marked_tos}
use Rattle.traffic_marks.specs.Laws.{AreAssured, KeepsOthers, is_conditioned, is_mark, may_change}
use Rattle.traffic_marks.specs.Marked.{Conditioner, Conditioning, assured_class, frames, history, marked_frame, marked_frames, metered, rule_of, with_frames}
use Rattle.traffic_marks.proofs.Lengths.{RecordsHeld, held, length-marked_frame}
use Rattle.traffic_marks.proofs.Steps.{formed_whole}

abbrev AreBytes : List ℕ → Type 0
AreBytes l = (k : ℕ) → get_or l k 0 < 256

take_bytes : (n : ℕ) (l : List ℕ) → AreBytes l → AreBytes (take n l)
take_bytes zero l h k = omega arith
take_bytes (suc n) [] h k = omega arith
take_bytes (suc n) (x ∷ xs) h zero = h 0
take_bytes (suc n) (x ∷ xs) h (suc k) = take_bytes n xs (λ j. h (suc j)) k

drop_bytes : (n : ℕ) (l : List ℕ) → AreBytes l → AreBytes (drop n l)
drop_bytes n l h k = rw (get_or-drop n l k 0) (h (n + k))

-- a conditioner's class of assured forwarding
abbrev pub IsAssured : Option MeterRule → Type 0
IsAssured None = Unit {0}
IsAssured (Some rule) = assured_class rule ≤ 4

either : (b : Bool) (rule : MeterRule) (o : Option MeterRule) → assured_class rule ≤ 4 → IsAssured o → IsAssured (if b then Some rule else o)
either true rule o here there = here
either false rule o here there = there

assured : (cs : List Conditioner) (class : ℕ) → All (λ (c : Conditioner). assured_class c.rule ≤ 4) cs → IsAssured (rule_of cs class)
assured [] class all = tt
assured (c ∷ cs) class all =
    either _ c.rule (rule_of cs class) (All-head (λ (c : Conditioner). assured_class c.rule ≤ 4) c cs all)
    (assured cs class (All-tail (λ (c : Conditioner). assured_class c.rule ≤ 4) c cs all))

tos_bound : (af : ℕ) (colour : Colour) (tos : ℕ) → af ≤ 4 → marked_tos af colour tos < 256
tos_bound af Green tos h = omega arith
tos_bound af Yellow tos h = omega arith
tos_bound af Red tos h = omega arith

is_not : (b : Bool) → b ≡ false → IsTrue (not b)
is_not true h = absurd (cc)
is_not false h = refl

-- a byte of a frame that is no mark
frame_stays : (rule : Option MeterRule) (earlier : List Captured) (a : Captured) (k : ℕ) → AreBytes a.bytes → IsAssured rule
    → (is_some rule && is_mark a.bytes k) ≡ false → get_or (marked_frame rule earlier a) k 0 ≡ get_or a.bytes k 0
frame_stays None earlier a k bytes h none = refl
frame_stays (Some rule) earlier a k bytes h none =
    let colour = colour_after rule (history a.class earlier) (metered a) in
    let tos = marked_tos (assured_class rule) colour (tos_of (flow a.bytes)) in
    (retagged_differs a.bytes tos bytes (tos_bound (assured_class rule) colour (tos_of (flow a.bytes)) h)).others k
    (is_not (is_mark a.bytes k) none)

-- the three parts behind a record's place: its header, its frame, and what follows
by_part : (m n x y : Bool) (P : Type 0) → (m ≡ true → P) → (m ≡ false → n ≡ true → x ≡ false → P)
    → (m ≡ false → n ≡ false → y ≡ false → P) → (if m then false else if n then x else y) ≡ false → P
by_part true n x y P head frame rest h = head refl
by_part false true x y P head frame rest h = frame refl refl h
by_part false false x y P head frame rest h = rest refl refl h

-- a byte of a header, a frame and what follows
in_head : (x frame rest : List ℕ) (k : ℕ) → 16 + length frame ≤ length x → k < 16
    → get_or (take 16 x ++ (frame ++ rest)) k 0 ≡ get_or x k 0
in_head x frame rest k enough h =
    let long : length (take 16 x) ≡ 16 = length-take-le 16 x (omega arith) in
    get_or_append_left (take 16 x) (frame ++ rest) 0 k (omega arith) ∙ get_or-take 16 x k 0 h

in_frame : (x frame rest : List ℕ) (k : ℕ) → 16 + length frame ≤ length x → 16 ≤ k → k < 16 + length frame
    → get_or (take 16 x ++ (frame ++ rest)) k 0 ≡ get_or frame (k - 16) 0
in_frame x frame rest k enough from to =
    let long : length (take 16 x) ≡ 16 = length-take-le 16 x (omega arith) in
    get_or-append_right (take 16 x) (frame ++ rest) 16 k 0 long from ∙ get_or_append_left frame rest 0 (k - 16) (omega arith)

in_rest : (x frame rest : List ℕ) (k : ℕ) → 16 + length frame ≤ length x → 16 + length frame ≤ k
    → get_or (take 16 x ++ (frame ++ rest)) k 0 ≡ get_or rest (k - (16 + length frame)) 0
in_rest x frame rest k enough from =
    let long : length (take 16 x) ≡ 16 = length-take-le 16 x (omega arith) in
    get_or-append_right (take 16 x) (frame ++ rest) 16 k 0 long (omega arith)
    ∙ get_or-append_right frame rest (length frame) (k - 16) 0 refl (omega arith)
    ∙ ap (λ (n : ℕ). get_or rest n 0) (omega arith)

-- where the bytes behind `n` begin
from_drop : (n k : ℕ) (x : List ℕ) → n ≤ k → get_or (drop n x) (k - n) 0 ≡ get_or x k 0
from_drop n k x h = get_or-drop n x (k - n) 0 ∙ ap (λ (m : ℕ). get_or x m 0) (omega arith)

-- the arrival of a record
abbrev arrival_of : (place : List ℕ → Placed) (latest : ℕ) → Record → Captured
arrival_of place latest r = record {
  at = max latest r.stamp;
  len = max r.original (length r.captured);
  class = (place r.captured).class;
  prec = (place r.captured).prec;
  bytes = r.captured;
  raised = nat_lt r.stamp latest;
}

records_stay : (c : Conditioning) (rs : List Record) (latest : ℕ) (earlier : List Captured) (x : List ℕ) (k : ℕ)
    → AreAssured c → AreBytes x → RecordsHeld rs x → may_change c rs k ≡ false
    → get_or (with_frames (marked_frames c.conditioners earlier (arrivals_from c.place latest rs)) x) k 0 ≡ get_or x k 0
records_stay c [] latest earlier x k af bytes h none = refl
records_stay c (r ∷ rs) latest earlier x k af bytes h none =
    let len = length r.captured in
    let a = arrival_of c.place latest r in
    let rule = rule_of c.conditioners a.class in
    let f = marked_frame rule earlier a in
    let same : length f ≡ len = length-marked_frame rule earlier a in
    let fs = marked_frames c.conditioners (a ∷ earlier) (arrivals_from c.place (max latest r.stamp) rs) in
    let rest = with_frames fs (drop (16 + length f) x) in
    let enough : 16 + length f ≤ length x = omega (arith, same, h.1) in
    let captured : AreBytes r.captured = subst AreBytes (sym h.0) (take_bytes len (drop 16 x) (drop_bytes 16 x bytes)) in
    by_part (nat_lt k 16) (nat_lt k (16 + len)) (is_conditioned c r.captured && is_mark r.captured (k - 16))
    (may_change c rs (k - (16 + len))) (get_or (take 16 x ++ (f ++ rest)) k 0 ≡ get_or x k 0)
    (λ in_16. in_head x f rest k enough (ltb-true k 16 in_16))
    (λ past in_it mark.
    let from : 16 ≤ k = ltb-false k 16 past in
    let to : k < 16 + len = ltb-true k (16 + len) in_it in
    in_frame x f rest k enough from (omega arith)
    ∙ frame_stays rule earlier a (k - 16) captured (assured c.conditioners a.class af) mark
    ∙ ap (λ (l : List ℕ). get_or l (k - 16) 0) h.0 ∙ get_or-take len (drop 16 x) (k - 16) 0 (omega arith) ∙ from_drop 16 k x from)
    (λ past behind mark.
    let from : 16 + len ≤ k = ltb-false k (16 + len) behind in
    in_rest x f rest k enough (omega arith)
    ∙ ap (λ (n : ℕ). get_or (with_frames fs (drop (16 + n) x)) (k - (16 + n)) 0) same
    ∙ records_stay c rs (max latest r.stamp) (a ∷ earlier) (drop (16 + len) x) (k - (16 + len)) af (drop_bytes (16 + len) x bytes) h.2 mark
    ∙ from_drop (16 + len) k x from)
    none

-- the capture with frames in the place of those of records
abbrev replaced : Conditioning → List ℕ → List Record → List ℕ
replaced c bytes rs = take 24 bytes ++ with_frames (frames c rs) (drop 24 bytes)

record Stays (c : Conditioning) (bytes : List ℕ) (rs : List Record) : Type 0 where
  pub head : take 24 (replaced c bytes rs) ≡ take 24 bytes
  pub others : (k : ℕ) → may_change c rs k ≡ false → get_or (replaced c bytes rs) (24 + k) 0 ≡ get_or bytes (24 + k) 0

by_header : (h : Header) (c : Conditioning) (bytes : List ℕ) → header bytes ≡ h → AreAssured c → AreBytes bytes
    → RecordsHeld (outcome_from h bytes).records (drop 24 bytes) → Stays c bytes (outcome_from h bytes).records
by_header (Unformed d) c bytes e af are h =
    let same : take 24 bytes ++ drop 24 bytes ≡ bytes = take-append-drop 24 bytes in
    record { head = ap (take 24) same; others = λ k none. ap (λ (l : List ℕ). get_or l (24 + k) 0) same }
by_header (Formed form) c bytes e af are h =
    let rs = (outcome_from (Formed form) bytes).records in
    let behind = with_frames (frames c rs) (drop 24 bytes) in
    let long : length (take 24 bytes) ≡ 24 = length-take-le 24 bytes (ltb-false (length bytes) 24 (formed_whole bytes form e)) in
    record {
      head = take_at (take 24 bytes) behind 24 long;
      others = λ k none.
          get_or-append_right (take 24 bytes) behind 24 (24 + k) 0 long (omega arith)
          ∙ ap (λ (n : ℕ). get_or behind n 0) (omega arith)
          ∙ records_stay c rs 0 [] (drop 24 bytes) k af (drop_bytes 24 bytes are) h none
          ∙ get_or-drop 24 bytes k 0;
    }

pub keeps_others : (c : Conditioning) (bytes : List ℕ) → All (λ byte. byte < 256) bytes → AreAssured c → KeepsOthers c bytes
keeps_others c bytes all af =
    let s = by_header (header bytes) c bytes refl af (are_bytes bytes all) (held bytes) in
    record { head = s.head; others = s.others }
