-- What a row leaves, at the front of a rest.
use Rattle.std.proofs.Common.{◌≡◌, ◌∙◌, ◌<◌, ◌≤◌, ℕ, Bool, true, false, List, ◌++◌, Option, None, Some, MatchOption, Bor, refl, ap, sym, subst, arith, append_assoc}
use Rattle.std.specs.Prelude.{is_some}
use Rattle.std.proofs.lemmas.List.{append_cancel_left}
use Rattle.capture_model.specs.Written.{record_text}
use Rattle.altq_model.specs.declared.Fate.{Fate}
use Rattle.altq_model.specs.declared.Fate.TheVariants.{Sent}
use Rattle.altq_model.specs.declared.Rule.{Rule}
use Rattle.altq_model.specs.Departures.{Dressing}
use Rattle.altq_model.specs.Laws.{clock_end}
use Rattle.fate_check.specs.declared.reading.Row.{Row}
use Rattle.fate_departures.specs.Departures.{IsRecordOf, LeavesBy, LeavesFront, LeavesNoFront, leaving}
use Rattle.fate_departures.specs.Frames.{Packets, is_markable}

-- what stands behind a head and bytes
pub not_first : (rest head bytes : List ℕ) → ((more : List ℕ) → rest ≡ head ++ more → ⊥) → (more : List ℕ) → rest ≡ (head ++ bytes) ++ more → ⊥
not_first rest head bytes none = λ more e. none (bytes ++ more) (e ∙ append_assoc head bytes more)

pub both_at : (rest head bytes rest' : List ℕ) (o : Option (Bor (List ℕ))) → rest ≡ head ++ rest'
    → MatchOption o ((more : List ℕ) → rest' ≡ bytes ++ more → ⊥) (λ more. rest' ≡ bytes ++ more.now)
    → MatchOption o ((more : List ℕ) → rest ≡ (head ++ bytes) ++ more → ⊥) (λ more. rest ≡ (head ++ bytes) ++ more.now)
both_at rest head bytes rest' None e none = λ more f. none more (append_cancel_left head rest' (bytes ++ more) (sym e ∙ f ∙ append_assoc head bytes more))
both_at rest head bytes rest' (Some x) e f = e ∙ ap (λ (xs : List ℕ). head ++ xs) f ∙ sym (append_assoc head bytes x.now)

-- a record stands at the front, or it does not
abbrev pub Record_at : Dressing → Packets → Row → (end : ℕ) → (marked : Bool) → (rest : List ℕ) → Option (Bor (List ℕ)) → Type 0
Record_at dress p r end marked rest o = MatchOption o ((more : List ℕ) → rest ≡ record_text (leaving dress p r end marked) ++ more → ⊥)
    (λ more. rest ≡ record_text (leaving dress p r end marked) ++ more.now)

abbrev pub Front_at : Dressing → Packets → Row → (rest : List ℕ) → Option (Bor (List ℕ)) → Type 0
Front_at dress p r rest o = MatchOption o (LeavesNoFront dress p r rest) (λ more. LeavesFront dress p r rest more.now)

leaves_sent : (dress : Dressing) (p : Packets) (r : Row) (start end : ℕ) (rule : Rule) (marked : Bool) (rest more : List ℕ) → r.fate ≡ Sent start end rule
    → end < clock_end → (marked ≡ true → is_markable p r.number r.class ≡ true) → rest ≡ record_text (leaving dress p r end marked) ++ more
    → LeavesFront dress p r rest more
leaves_sent dress p r start end rule marked rest more f early allowed e =
    let P : Fate → Type 0 = λ t. LeavesBy dress p r t (record_text (leaving dress p r end marked)) in
    let is : IsRecordOf dress p r end (record_text (leaving dress p r end marked)) = record { in_time = early; marked = marked; allowed = allowed; is = refl } in
    record { piece = record_text (leaving dress p r end marked); leaves = subst P (sym f) is; whole = e }

-- no record of a sending, marked or not, where it may be
refuse : (dress : Dressing) (p : Packets) (r : Row) (end : ℕ) (marked : Bool) (rest piece more : List ℕ)
    → ((more : List ℕ) → rest ≡ record_text (leaving dress p r end false) ++ more → ⊥)
    → (is_markable p r.number r.class ≡ true → (more : List ℕ) → rest ≡ record_text (leaving dress p r end true) ++ more → ⊥)
    → (marked ≡ true → is_markable p r.number r.class ≡ true) → piece ≡ record_text (leaving dress p r end marked) → rest ≡ piece ++ more → ⊥
refuse dress p r end false rest piece more plain congested allowed is whole = plain more (whole ∙ ap (λ (xs : List ℕ). xs ++ more) is)
refuse dress p r end true rest piece more plain congested allowed is whole = congested (allowed refl) more (whole ∙ ap (λ (xs : List ℕ). xs ++ more) is)

leaves_none : (dress : Dressing) (p : Packets) (r : Row) (start end : ℕ) (rule : Rule) (rest : List ℕ) → r.fate ≡ Sent start end rule
    → ((more : List ℕ) → rest ≡ record_text (leaving dress p r end false) ++ more → ⊥)
    → (is_markable p r.number r.class ≡ true → (more : List ℕ) → rest ≡ record_text (leaving dress p r end true) ++ more → ⊥)
    → LeavesNoFront dress p r rest
leaves_none dress p r start end rule rest f plain congested = λ piece more whole l.
    let P : Fate → Type 0 = λ t. LeavesBy dress p r t piece in
    let d : IsRecordOf dress p r end piece = subst P f l in
    refuse dress p r end d.marked rest piece more plain congested d.allowed d.is whole

none_of : (A : Type 0) (B : Bor (List ℕ) → Type 0) (o : Option (Bor (List ℕ))) → is_some o ≡ false → MatchOption o A B → A
none_of A B None e h = h
none_of A B (Some m) e h = absurd cc

unset : (b : Bool) (A : Type 0) → b ≡ false → b ≡ true → A
unset true A e f = absurd cc
unset false A e f = absurd cc

pub too_late : (dress : Dressing) (p : Packets) (r : Row) (start end : ℕ) (rule : Rule) (rest : List ℕ) → r.fate ≡ Sent start end rule → clock_end ≤ end
    → LeavesNoFront dress p r rest
too_late dress p r start end rule rest f late = λ piece more whole l.
    let P : Fate → Type 0 = λ t. LeavesBy dress p r t piece in
    let d : IsRecordOf dress p r end piece = subst P f l in
    absurd (omega (arith, late, d.in_time))

pub front_plain : (dress : Dressing) (p : Packets) (r : Row) (start end : ℕ) (rule : Rule) (rest : List ℕ) (o : Option (Bor (List ℕ))) → r.fate ≡ Sent start end rule
    → end < clock_end → Record_at dress p r end false rest o → is_some o ≡ true → Front_at dress p r rest o
front_plain dress p r start end rule rest None f early h e = absurd cc
front_plain dress p r start end rule rest (Some m) f early h e = leaves_sent dress p r start end rule false rest m.now f early (λ is. absurd cc) h

pub none_plain : (dress : Dressing) (p : Packets) (r : Row) (start end : ℕ) (rule : Rule) (rest : List ℕ) (o : Option (Bor (List ℕ))) → r.fate ≡ Sent start end rule
    → Record_at dress p r end false rest o → is_some o ≡ false → is_markable p r.number r.class ≡ false → LeavesNoFront dress p r rest
none_plain dress p r start end rule rest o f h e m =
    leaves_none dress p r start end rule rest f (none_of _ _ o e h) (λ is. unset (is_markable p r.number r.class) _ m is)

pub front_marked : (dress : Dressing) (p : Packets) (r : Row) (start end : ℕ) (rule : Rule) (rest : List ℕ) (plain o : Option (Bor (List ℕ))) → r.fate ≡ Sent start end rule
    → end < clock_end → Record_at dress p r end false rest plain → is_some plain ≡ false → is_markable p r.number r.class ≡ true
    → Record_at dress p r end true rest o → Front_at dress p r rest o
front_marked dress p r start end rule rest plain None f early h e m k = leaves_none dress p r start end rule rest f (none_of _ _ plain e h) (λ is. k)
front_marked dress p r start end rule rest plain (Some x) f early h e m k = leaves_sent dress p r start end rule true rest x.now f early (λ is. m) k
