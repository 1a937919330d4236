-- Classes that are told of a packet are held back no longer.
use Rattle.std.proofs.Common.{◌≡◌, ◌≢◌, ◌∙◌, ℕ, zero, suc, List, None, Some, get_or, ap, refl, sym, arith, get_or-set_other}
use Rattle.std.specs.Prelude.{slice_set}
use Rattle.cbq_estimator.specs.Average.{Ended}
use Rattle.cbq_estimator.specs.Estimate.{Estimate}
use Rattle.cbq_estimator.specs.Now.{after_end}
use Rattle.cbq_model.specs.declared.CbqClass.{CbqClass}
use Rattle.cbq_model.specs.Tree.{class_of}
use Rattle.class_sets.specs.Marked.{marked}
use Rattle.cbq_sharing.specs.Held.{IsUntold}
use Rattle.cbq_sharing.specs.Sent.{told_up}
use Rattle.cbq_sharing.specs.Shared.{no_estimate}

-- nobody is told
none_told : (levels : ℕ) (cs : List CbqClass) (x : Ended) (es : List Estimate) → told_up levels cs None x es ≡ es
none_told zero cs x es = refl
none_told (suc levels) cs x es = refl

pub untold_none : (levels c : ℕ) (cs : List CbqClass) (old : List ℕ) → marked old c ≡ 1 → (x : Ended) (es : List Estimate) → IsUntold old es (told_up levels cs None x es) c
untold_none levels c cs old e x es = record { was = e; same = ap (λ (fs : List Estimate). get_or fs c no_estimate) (none_told levels cs x es) }

-- one class is held back no longer, and then those above it
pub untold_up : (levels p c : ℕ) (cs : List CbqClass) (old mid new : List ℕ) → marked mid p ≡ 0 → ((k : ℕ) → k ≢ p → marked mid k ≡ marked old k)
    → ((k : ℕ) → marked new k ≡ 1 → (x : Ended) (es : List Estimate) → IsUntold mid es (told_up levels cs (class_of cs p).parent x es) k) → marked new c ≡ 1
    → (x : Ended) (es : List Estimate) → IsUntold old es (told_up (suc levels) cs (Some p) x es) c
untold_up levels p c cs old mid new here others more e x es =
    let v : Estimate = after_end (get_or es p no_estimate) x in
    let u = more c e x (slice_set es p v) in
    let other : c ≢ p = λ q. let one : marked mid p ≡ 1 = ap (marked mid) (sym q) ∙ u.was in omega (arith, one, here) in
    record { was = sym (others c other) ∙ u.was; same = u.same ∙ get_or-set_other es p c v no_estimate other }
