-- A class to which the root may lend may always send.
use Rattle.std.proofs.Common.{◌≡◌, ◌∙◌, ℕ, Bool, true, false, List, [], ◌∷◌, ap, get_or, refl, sym}
use Rattle.std.specs.Prelude.{◌||◌}
use Rattle.std.specs.List.{list_any}
use Rattle.cbq_estimator.specs.Estimate.{Estimate}
use Rattle.cbq_estimator.specs.Now.{allows_now}
use Rattle.cbq_model.specs.declared.CbqClass.{CbqClass}
use Rattle.cbq_model.specs.Tree.{class_of, is_root, lenders}
use Rattle.cbq_sharing.specs.Shared.{allows_end, borrows_from_root, may_end, no_estimate}

or_true : (b : Bool) → (b || true) ≡ true
or_true true = refl
or_true false = refl

-- one class more
any_more : (cs : List CbqClass) (es : List Estimate) (end len p : ℕ) (ps : List ℕ) (root : Bool) → is_root cs p ≡ root
    → (list_any (is_root cs) ps ≡ true → list_any (allows_end cs es end len) ps ≡ true)
    → (root || list_any (is_root cs) ps) ≡ true → (allows_end cs es end len p || list_any (allows_end cs es end len) ps) ≡ true
any_more cs es end len p ps true r more e =
    ap (λ (b : Bool). (b || allows_now (get_or es p no_estimate) end len) || list_any (allows_end cs es end len) ps) r
any_more cs es end len p ps false r more e = ap (λ (b : Bool). allows_end cs es end len p || b) (more e) ∙ or_true (allows_end cs es end len p)

-- the root allows each packet
any_allows : (cs : List CbqClass) (es : List Estimate) (end len : ℕ) (ps : List ℕ) → list_any (is_root cs) ps ≡ true → list_any (allows_end cs es end len) ps ≡ true
any_allows cs es end len [] e = absurd (cc)
any_allows cs es end len (p ∷ ps) e = any_more cs es end len p ps (is_root cs p) refl (any_allows cs es end len ps) e

pub rooted_may : (cs : List CbqClass) (es : List Estimate) (end len c : ℕ) → borrows_from_root cs (class_of cs c) ≡ true → true ≡ may_end cs es end len c
rooted_may cs es end len c root =
    sym (ap (λ (b : Bool). allows_end cs es end len c || b) (any_allows cs es end len (lenders cs c) root) ∙ or_true (allows_end cs es end len c))
