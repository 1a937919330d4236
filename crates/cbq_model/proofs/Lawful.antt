-- CBQ is a policy by when a class may send.
use Rattle.std.proofs.Common.{◌≡◌, ◌<◌, ◌∙◌, ℕ, true, List, ◌∷◌, None, Some, length, refl, ap, sym, subst, arith}
use Rattle.std.specs.declared.option.Option.{Option}
use Rattle.std.specs.Prelude.{option_map, unwrap_or, IsTrue}
use Rattle.altq_model.specs.History.{Arrival, Answer, DrawnWords, Event, Offered, head}
use Rattle.altq_model.specs.Lawful.{IsCandidate, IsHead, IsLawful, IsSteady, SendsWhen}
use Rattle.altq_model.specs.Play.{IsOneOf, Policy}
use Rattle.altq_model.specs.Policies.{Answering}
use Rattle.play_laws.proofs.TimeLemmas.{head_stays}
use Rattle.play_laws.proofs.LawfulLemmas.{when_lawful, when_steady}
use Rattle.cbq_model.specs.declared.CbqClass.{CbqClass}
use Rattle.cbq_model.specs.Tree.{numbers}
use Rattle.cbq_model.specs.Choice.{Situation, able, class_in, head_in, may, may_send, may_with, picked, start_of, start_with}
use Rattle.cbq_model.specs.Rounds.{cbq, situation}
use Rattle.cbq_model.proofs.Least.{send_is}
use Rattle.cbq_model.proofs.Best.{best_of}
use Rattle.cbq_model.proofs.Members.{kept, was_kept}
use Rattle.cbq_model.proofs.Places.{at_place, is_below}

abbrev length_of : Option Arrival → Option ℕ
length_of o = option_map (λ (a : Arrival). a.len) o

pub head_is : (cs : List CbqClass) (rate : ℕ) (h : List Event) (c : ℕ) → c < length cs → head_in (situation cs rate h) c ≡ length_of (head c h)
head_is cs rate h c l = at_place (λ d k. length_of (head d h)) cs c None l

pub head_len : (cs : List CbqClass) (rate : ℕ) (h : List Event) (c : ℕ) (b : Arrival) → IsOneOf c (numbers cs) → head c h ≡ Some b
    → head_in (situation cs rate h) c ≡ Some b.len
head_len cs rate h c b m e = head_is cs rate h c (is_below c cs m) ∙ ap length_of e

module _ (cs : List CbqClass) (rate : ℕ) (answer : Answering) where
  abbrev policy : Policy
  policy = cbq cs rate answer

  abbrev allowed : List Event → (c t : ℕ) → Type 0
  allowed h c t = IsTrue (may cs rate (situation cs rate h) c t)

  start_is : (h : List Event) (c t : ℕ) (b : Arrival) → IsHead policy h c b
      → start_of cs rate (situation cs rate h) c t ≡ start_with cs rate (situation cs rate h) c t (Some b.len)
  start_is h c t b i = ap (start_with cs rate (situation cs rate h) c t) (head_len cs rate h c b i.held i.front)

  may_is : (h : List Event) (c t : ℕ) (b : Arrival) → IsHead policy h c b
      → may cs rate (situation cs rate h) c t ≡ may_send cs rate (situation cs rate h) c t b.len
  may_is h c t b i = ap (may_with cs rate (situation cs rate h) c t) (head_len cs rate h c b i.held i.front)

  offer_keeps : (h : List Event) (a : Arrival) (w : DrawnWords) (v : Answer) (c t : ℕ) (b : Arrival) → IsHead policy h c b
      → may cs rate (situation cs rate (Offered a w v ∷ h)) c t ≡ may cs rate (situation cs rate h) c t
  offer_keeps h a w v c t b i =
      let after : IsHead policy (Offered a w v ∷ h) c b = record { held = i.held; front = head_stays c h a w v b i.front } in
      may_is (Offered a w v ∷ h) c t b after ∙ sym (may_is h c t b i)

  able_is : (h : List Event) (s c : ℕ) → IsCandidate allowed policy h s c → IsOneOf c (able cs rate (situation cs rate h) s)
  able_is h s c k = kept (λ d. may cs rate (situation cs rate h) d s) c (numbers cs) k.head.held k.may

  picked_is : (h : List Event) (s c : ℕ) → IsOneOf c (able cs rate (situation cs rate h) s)
      → IsOneOf (picked cs rate (situation cs rate h) s) (able cs rate (situation cs rate h) s)
  picked_is h s c m =
      let x : Situation = situation cs rate h in
      let one = best_of cs rate x c (able cs rate x s) m in
      let P : ℕ → Type 0 = λ d. IsOneOf d (able cs rate x s) in
      subst P (ap class_in (sym one.is)) one.there

  -- a class that may send has a head
  has_head : (h : List Event) (s c : ℕ) (o : Option Arrival) → IsOneOf c (numbers cs) → head c h ≡ o
      → may_with cs rate (situation cs rate h) c s (length_of o) ≡ true → IsTrue (may cs rate (situation cs rate h) c s)
      → IsCandidate allowed policy h s c
  has_head h s c None m e t k = absurd (cc)
  has_head h s c (Some b) m e t k = record { packet = b; head = record { held = m; front = e }; may = k }

  pick_is : (h : List Event) (s c : ℕ) → IsCandidate allowed policy h s c → IsCandidate allowed policy h s (picked cs rate (situation cs rate h) s)
  pick_is h s c k =
      let x : Situation = situation cs rate h in
      let d : ℕ = picked cs rate x s in
      let one = picked_is h s c (able_is h s c k) in
      let may_now = was_kept (λ e. may cs rate x e s) d (numbers cs) one in
      let P : Option ℕ → Type 0 = λ o. may_with cs rate x d s o ≡ true in
      has_head h s d (head d h) may_now.there refl (subst P (head_is cs rate h d (is_below d cs may_now.there)) may_now.passes) may_now.passes

  pub sends_when : 0 < rate → SendsWhen allowed policy
  sends_when some = record {
    later = λ h c t b i. omega (arith, start_is h c t b i, (send_is cs rate h t b.len c some).from);
    may = λ h c t b i.
        let x : Situation = situation cs rate h in
        let P : ℕ → Type 0 = λ n. may cs rate x c n ≡ true in
        subst P (sym (start_is h c t b i)) (may_is h c _ b i ∙ (send_is cs rate h t b.len c some).allowed);
    least = λ h c t u b i from a.
        let low = (send_is cs rate h t b.len c some).least u from (sym (may_is h c u b i) ∙ a) in
        omega (arith, start_is h c t b i, low);
    keeps = λ h a w v c t b i.
        let e = offer_keeps h a w v c t b i in
        (λ k. sym e ∙ k, λ k. e ∙ k);
    picks = λ h s c k. pick_is h s c k;
  }

  pub cbq_lawful : 0 < rate → IsLawful policy
  cbq_lawful some = when_lawful allowed policy (sends_when some)

  pub cbq_steady : 0 < rate → IsSteady policy
  cbq_steady some = when_steady allowed policy (sends_when some)
