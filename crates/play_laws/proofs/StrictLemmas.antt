-- Strict order is lawful, and never waits.
use Rattle.std.proofs.Common.{◌≡◌, ◌∙◌, inl, inr, ℕ, max, List, [], ◌∷◌, Some, refl, ap, sym, arith}
use Rattle.std.specs.Prelude.{slice_get, option_map}
use Rattle.altq_model.specs.declared.Rule.{Rule}
use Rattle.altq_model.specs.declared.Placed.{Placed}
use Rattle.capture_model.specs.Capture.{Record}
use Rattle.altq_model.specs.Arrivals.{arrivals_of, bare_arrivals}
use Rattle.altq_model.specs.History.{Arrival, Event, head, waiting}
use Rattle.altq_model.specs.Play.{Policy, class_start, first_start, lesser}
use Rattle.altq_model.specs.Policies.{Answering, strict, one_queue, first_waiting}
use Rattle.altq_model.specs.Lawful.{IsOneOf, IsLawful, HaveArrived, MaySend, NeverWaits, IsSteady, AreHeld}
use Rattle.play_laws.proofs.Starts.{first_of, least_is, head_of, start_of}
use Rattle.play_laws.proofs.ArrivalLemmas.{arrivals_held}

record HasFirst (h : List Event) (cs : List ℕ) (c : ℕ) : Type 0 where
  one : IsOneOf c cs
  packet : Arrival
  front : head c h ≡ Some packet

waits_case : (p : Policy) (free : ℕ) (h : List Event) (c : ℕ) (cs : List ℕ) (s : ℕ) (ws : List Arrival) → waiting c h ≡ ws
    → lesser (option_map (λ (a : Arrival). p.start_from h c (max free a.at)) (slice_get ws 0)) (first_start p free h cs) ≡ Some s
    → (first_start p free h cs ≡ Some s → HasFirst h cs (first_waiting cs h)) → HasFirst h (c ∷ cs) (elim ws [ [] ↦ first_waiting cs h | a ∷ as' ↦ c ])
waits_case p free h c cs s [] w e f = let x = f e in record { one = inr x.one; packet = x.packet; front = x.front }
waits_case p free h c cs s (a ∷ ws) w e f = record { one = inl refl; packet = a; front = ap (λ (l : List Arrival). slice_get l 0) w }

first_waits : (p : Policy) (free : ℕ) (h : List Event) (cs : List ℕ) (s : ℕ) → first_start p free h cs ≡ Some s → HasFirst h cs (first_waiting cs h)
first_waits p free h [] s e = absurd (cc)
first_waits p free h (c ∷ cs) s e = waits_case p free h c cs s (waiting c h) refl e (first_waits p free h cs s)

strict_picks : (classes : List ℕ) (r : Rule) (answer : Answering) (h : List Event) (free s : ℕ) → first_start (strict classes r answer) free h classes ≡ Some s → HaveArrived (strict classes r answer) s h
    → MaySend (strict classes r answer) free h (first_waiting classes h) s
strict_picks classes r answer h free s e arrived =
    let p : Policy = strict classes r answer in
    let c : ℕ = first_waiting classes h in
    let x = first_waits p free h classes s e in
    let q : class_start p free h c ≡ Some (max free x.packet.at) = start_of p free h c x.packet x.front in
    let low = least_is p free h classes c s (max free x.packet.at) e x.one q in
    let f = first_of p free h classes s e in
    let y = head_of p free h f.class s f.start in
    let m : max free y.packet.at ≡ s = y.start in
    let same : max free x.packet.at ≡ s = omega (arith, low, m, arrived c x.packet x.one x.front) in
    record { held = x.one; start = q ∙ ap (λ (n : ℕ). Some n) same }

pub strict_lawful : (classes : List ℕ) (r : Rule) (answer : Answering) → IsLawful (strict classes r answer)
strict_lawful classes r answer = record {
  later = λ h c t b e. omega arith;
  offers = λ h a w v c t b e. refl;
  picks = λ h free s e a. strict_picks classes r answer h free s e a;
}

pub strict_never_waits : (classes : List ℕ) (r : Rule) (answer : Answering) → NeverWaits (strict classes r answer)
strict_never_waits classes r answer = λ h c t b e. refl

-- a policy that never waits is steady
pub steady : (p : Policy) → NeverWaits p → IsSteady p
steady p nw = λ h c t u b e l m. nw h c u b e ∙ (let q : u ≡ t = omega (arith, l, m, nw h c t b e) in q) ∙ sym (nw h c t b e)

pub one_queue_holds : (limit : ℕ) (mark : List ℕ → Placed) (records : List Record) → ((bytes : List ℕ) → (mark bytes).class ≡ 1)
    → AreHeld (one_queue limit) (bare_arrivals (arrivals_of mark records))
one_queue_holds limit mark records one = arrivals_held (one_queue limit) mark records (λ bytes. inl (sym (one bytes)))
