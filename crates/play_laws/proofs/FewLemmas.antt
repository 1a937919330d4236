-- No more packets are decided than offered.
use Rattle.std.proofs.Common.{◌≡◌, ◌≤◌, ◌+◌, ◌∙◌, inl, inr, ℕ, Bool, true, false, cond, List, [], ◌∷◌, ◌++◌, length, length-append, Some, ap, sym, subst, arith}
use Rattle.std.specs.Prelude.{slice_get, ◌==◌}
use Rattle.altq_model.specs.declared.Verdict.{Verdict}
use Rattle.altq_model.specs.declared.Verdict.TheVariants.{Keep, Mark, Drop}
use Rattle.altq_model.specs.History.{Arrival, DrawnWords, Event, Sent, LabelledEvent, unlabelled, offered, drawn, dropped_by, decided, journal}
use Rattle.altq_model.specs.Play.{Policy}
use Rattle.play_laws.specs.Events.{EachFollows}
use Rattle.play_laws.proofs.CountLemmas.{Place, places, with_place, without_first, of_class, of_class_labels}

out_case : (d m : ℕ) (x : Place) (xs : List Place) (b : Bool) → slice_get (cond b (x.1 ∷ of_class d xs) (of_class d xs)) 0 ≡ Some m
    → (slice_get (of_class d xs) 0 ≡ Some m → length (without_first d xs) + 1 ≡ length xs)
    → length (cond b xs (x ∷ without_first d xs)) + 1 ≡ length xs + 1
out_case d m x xs true h r = omega arith
out_case d m x xs false h r = omega (arith, r h)

-- the head of a class that is taken out leaves one place less
pub one_less : (d m : ℕ) (xs : List Place) → slice_get (of_class d xs) 0 ≡ Some m → length (without_first d xs) + 1 ≡ length xs
one_less d m [] h = absurd (cc)
one_less d m (x ∷ xs) h = let q = out_case d m x xs (x.0 == d) h (one_less d m xs) in omega (arith, q)

-- each packet that was offered was decided, or waits
placed_offer : (v : Verdict) (n c : ℕ) (g : List LabelledEvent) (m : ℕ) → length (journal g) + length (places g) ≡ m
    → length (journal g ++ dropped_by v n) + length (with_place v (c, n) (places g)) ≡ m + 1
placed_offer Keep n c g m h = omega (arith, h, length-append (journal g) (dropped_by Keep n), length-append (places g) ((c, n) ∷ []))
placed_offer Mark n c g m h = omega (arith, h, length-append (journal g) (dropped_by Mark n), length-append (places g) ((c, n) ∷ []))
placed_offer (Drop r) n c g m h = omega (arith, h, length-append (journal g) (dropped_by (Drop r) n))

placed : (p : Policy) (rate seed : ℕ) (arrived : List Arrival) (g : List LabelledEvent) → EachFollows p rate seed arrived g
    → length (journal g) + length (places g) ≡ offered (unlabelled g)
placed p rate seed arrived [] f = omega arith
placed p rate seed arrived (e ∷ g) (inl y, f) =
    let P : LabelledEvent → Type 0 = λ z. length (journal (z ∷ g)) + length (places (z ∷ g)) ≡ offered (unlabelled (z ∷ g)) in
    let w : DrawnWords = record { seed = seed; drawn = drawn (unlabelled g) } in
    subst P (sym y.offer) (placed_offer (p.answer (unlabelled g) w y.packet).verdict (offered (unlabelled g) + 1) y.packet.class g (offered (unlabelled g)) (placed p rate seed arrived g f))
placed p rate seed arrived (e ∷ g) (inr y, f) =
    let P : Event → Type 0 = λ z. let k : LabelledEvent = record { label = e.label; what = z } in length (journal (k ∷ g)) + length (places (k ∷ g)) ≡ offered (unlabelled (k ∷ g)) in
    let l = one_less y.sending.class e.label (places g) (ap (λ (ns : List ℕ). slice_get ns 0) (of_class_labels y.sending.class g) ∙ y.number) in
    subst P (sym y.event) (omega (arith, l, placed p rate seed arrived g f, length-append (journal g) (decided e.label (Sent y.sending))))

pub few_decided : (p : Policy) (rate seed : ℕ) (arrived : List Arrival) (g : List LabelledEvent) → EachFollows p rate seed arrived g
    → length (journal g) ≤ offered (unlabelled g)
few_decided p rate seed arrived g f = omega (arith, placed p rate seed arrived g f)
