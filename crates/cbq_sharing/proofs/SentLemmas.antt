-- What CBQ keeps after a sending is that of the history with it.
use Rattle.std.proofs.Common.{◌≡◌, ◌≤◌, ◌<◌, ◌+◌, ◌∙◌, inl, inr, ℕ, zero, suc, Bool, true, false, List, [], ◌∷◌, None, Some, length, get_or, refl, ap, sym, subst, arith, eqb, get_or-set_same, get_or-set_other, length-set}
use Rattle.std.specs.declared.option.Option.{Option}
use Rattle.std.specs.Prelude.{◌||◌, slice_get, slice_set, is_none, if◌then◌else◌}
use Rattle.std.specs.List.{list_any}
use Rattle.std.proofs.lemmas.Bool.{cases_eq, eq-eqb, ne_eqb}
use Rattle.altq_model.specs.History.{Arrival, Event, Sent, Sending}
use Rattle.cbq_estimator.specs.Average.{Ended}
use Rattle.cbq_estimator.specs.Estimate.{Estimate}
use Rattle.cbq_estimator.specs.Now.{after_end, estimate_of}
use Rattle.cbq_estimator.proofs.Now as now
use Rattle.leaf_queue.specs.declared.node.Entry.{Entry}
use Rattle.discipline.specs.Laws.{seen, seen_of}
use Rattle.cbq_model.specs.declared.CbqClass.{CbqClass}
use Rattle.cbq_model.specs.Rounds.{ends, estimates}
use Rattle.cbq_model.specs.Tree.{class_of, each, each_from, is_under, pace_of, path_up}
use Rattle.cbq_model.proofs.Places.{at_place}
use Rattle.cbq_sharing.specs.Sent.{told_up}
use Rattle.cbq_sharing.specs.Shared.{IsTree, no_estimate}

-- the classes above one stand before it
below_path : (cs : List CbqClass) (levels m c : ℕ) (o : Option ℕ) → IsTree cs → ((p : ℕ) → o ≡ Some p → p < m) → m ≤ c
    → list_any (λ k. eqb k c) (path_up levels cs o) ≡ false
below_path cs zero m c o t low l = refl
below_path cs (suc levels) m c None t low l = refl
below_path cs (suc levels) m c (Some p) t low l =
    let less : p < m = low p refl in
    ap (λ (b : Bool). b || list_any (λ k. eqb k c) (path_up levels cs (class_of cs p).parent)) (ne_eqb p c (λ q. omega (arith, q, less, l)))
    ∙ below_path cs levels p c (class_of cs p).parent t (λ q e. t.earlier p q e) (omega (arith, less, l))

told_length : (cs : List CbqClass) (x : Ended) (levels : ℕ) (o : Option ℕ) (es : List Estimate) → length (told_up levels cs o x es) ≡ length es
told_length cs x zero o es = refl
told_length cs x (suc levels) None es = refl
told_length cs x (suc levels) (Some k) es =
    told_length cs x levels (class_of cs k).parent (slice_set es k (after_end (get_or es k no_estimate) x)) ∙ length-set es k (after_end (get_or es k no_estimate) x)

abbrev told_if : Ended → Bool → Estimate → Estimate
told_if x b e = if b then after_end e x else e

told_self : (cs : List CbqClass) (x : Ended) (c : ℕ) (es : List Estimate) (rest : Bool) → c < length es → rest ≡ false
    → told_if x rest (get_or (slice_set es c (after_end (get_or es c no_estimate) x)) c no_estimate) ≡ told_if x (eqb c c || rest) (get_or es c no_estimate)
told_self cs x c es rest l e =
    ap (λ (b : Bool). told_if x b (get_or (slice_set es c (after_end (get_or es c no_estimate) x)) c no_estimate)) e
    ∙ (rw get_or-set_same refl)
    ∙ sym (ap (λ (b : Bool). told_if x (b || rest) (get_or es c no_estimate)) (eq-eqb c c refl))

told_other : (x : Ended) (k c : ℕ) (v : Estimate) (es : List Estimate) (rest : Bool) → (c ≡ k → ⊥) → (k ≡ c → ⊥)
    → told_if x rest (get_or (slice_set es k v) c no_estimate) ≡ told_if x (eqb k c || rest) (get_or es c no_estimate)
told_other x k c v es rest other turned =
    (rw get_or-set_other refl) ∙ sym (ap (λ (b : Bool). told_if x (b || rest) (get_or es c no_estimate)) (ne_eqb k c turned))

-- each class on the way up is told once, and no other
told_at : (cs : List CbqClass) (x : Ended) (levels c : ℕ) (o : Option ℕ) (es : List Estimate) → IsTree cs → c < length es
    → get_or (told_up levels cs o x es) c no_estimate ≡ told_if x (list_any (λ k. eqb k c) (path_up levels cs o)) (get_or es c no_estimate)
told_at cs x zero c o es t l = refl
told_at cs x (suc levels) c None es t l = refl
told_at cs x (suc levels) c (Some k) es t l =
    let v : Estimate = after_end (get_or es k no_estimate) x in
    let rest : Bool = list_any (λ j. eqb j c) (path_up levels cs (class_of cs k).parent) in
    let more = told_at cs x levels c (class_of cs k).parent (slice_set es k v) t (omega (arith, l, length-set es k v)) in
    elim (cases_eq k c) [
      | inl same ↦
          let P : ℕ → Type 0 = λ j. told_if x rest (get_or (slice_set es j (after_end (get_or es j no_estimate) x)) c no_estimate)
          ≡ told_if x (eqb j c || rest) (get_or es c no_estimate) in
          more ∙ subst P (sym same) (told_self cs x c es rest l (below_path cs levels k c (class_of cs k).parent t (λ q e. t.earlier k q e) (omega (arith, same))))
      | inr other ↦ more ∙ told_other x k c v es rest (λ q. other (sym q)) other
    ]

same_estimates : (xs ys : List Estimate) → length xs ≡ length ys → ((i : ℕ) → i < length xs → get_or xs i no_estimate ≡ get_or ys i no_estimate)
    → xs ≡ ys
same_estimates [] [] l e = refl
same_estimates [] (y ∷ ys) l e = absurd (omega arith)
same_estimates (x ∷ xs) [] l e = absurd (omega arith)
same_estimates (x ∷ xs) (y ∷ ys) l e =
    let more : length xs ≡ length ys = omega arith in
    let here : x ≡ y = e 0 (omega arith) in
    ap (λ (n : Estimate). n ∷ xs) here ∙ ap (λ (ns : List Estimate). y ∷ ns) (same_estimates xs ys more (λ i k. e (suc i) (omega (arith, k))))

length_each : {X : Type 0} (f : ℕ → CbqClass → X) (b : ℕ) (cs : List CbqClass) → length (each_from f b cs) ≡ length cs
length_each f b [] = refl
length_each f b (k ∷ ks) = let more = length_each f (b + 1) ks in omega (arith, more)

told_case : (cs : List CbqClass) (c : ℕ) (x : Ended) (es : List Ended) (b : Bool)
    → told_if x b (estimate_of (pace_of (class_of cs c)) es) ≡ estimate_of (pace_of (class_of cs c)) (if b then x ∷ es else es)
told_case cs c x es true = now.ended (pace_of (class_of cs c)) es x
told_case cs c x es false = refl

-- the averages after a sending
pub estimates_after : (cs : List CbqClass) (h : List Event) (s : Sending) → IsTree cs
    → told_up 8 cs (Some s.class) (record { end = s.end; len = s.len }) (estimates cs h) ≡ estimates cs (Sent s ∷ h)
estimates_after cs h s t =
    let x : Ended = record { end = s.end; len = s.len } in
    let f : ℕ → CbqClass → Estimate = λ c k. estimate_of (pace_of k) (ends cs c h) in
    let g : ℕ → CbqClass → Estimate = λ c k. estimate_of (pace_of k) (ends cs c (Sent s ∷ h)) in
    let old : length (estimates cs h) ≡ length cs = length_each f 0 cs in
    let told = told_length cs x 8 (Some s.class) (estimates cs h) in
    same_estimates (told_up 8 cs (Some s.class) x (estimates cs h)) (estimates cs (Sent s ∷ h)) (told ∙ old ∙ sym (length_each g 0 cs))
    (λ c l.
    let low : c < length cs = omega (arith, l, told, old) in
    told_at cs x 8 c (Some s.class) (estimates cs h) t (omega (arith, low, old))
    ∙ ap (told_if x (is_under cs c s.class)) (at_place f cs c no_estimate low)
    ∙ told_case cs c x (ends cs c h) (is_under cs c s.class)
    ∙ sym (at_place g cs c no_estimate low))

same_numbers : (xs ys : List ℕ) → length xs ≡ length ys → ((i : ℕ) → i < length xs → get_or xs i 0 ≡ get_or ys i 0) → xs ≡ ys
same_numbers [] [] l e = refl
same_numbers [] (y ∷ ys) l e = absurd (omega arith)
same_numbers (x ∷ xs) [] l e = absurd (omega arith)
same_numbers (x ∷ xs) (y ∷ ys) l e =
    let more : length xs ≡ length ys = omega arith in
    let here : x ≡ y = e 0 (omega arith) in
    ap (λ (n : ℕ). n ∷ xs) here ∙ ap (λ (ns : List ℕ). y ∷ ns) (same_numbers xs ys more (λ i k. e (suc i) (omega (arith, k))))

-- one number of a list of each class's is another
pub set_each : (f g : ℕ → ℕ) (cs : List CbqClass) (class v : ℕ) → class < length cs → v ≡ g class
    → slice_set (each (λ c k. f c) cs) class v ≡ each (λ c k. if eqb class c then g c else f c) cs
set_each f g cs class v low e =
    let xs : List ℕ = each (λ c k. f c) cs in
    let h : ℕ → CbqClass → ℕ = λ c k. if eqb class c then g c else f c in
    let old : length xs ≡ length cs = length_each (λ c k. f c) 0 cs in
    let new : length (slice_set xs class v) ≡ length xs = length-set xs class v in
    same_numbers (slice_set xs class v) (each h cs) (new ∙ old ∙ sym (length_each h 0 cs))
    (λ c l.
    let there : c < length cs = omega (arith, l, new, old) in
    elim (cases_eq c class) [
      | inl same ↦
          let P : ℕ → Type 0 = λ j. get_or (slice_set xs class v) j 0 ≡ (if eqb class j then g j else f j) in
          let place : class < length xs = omega (arith, low, old) in
          let here : get_or (slice_set xs class v) class 0 ≡ (if eqb class class then g class else f class) =
          (rw get_or-set_same e) ∙ sym (ap (λ (b : Bool). if b then g class else f class) (eq-eqb class class refl)) in
          subst P (sym same) here ∙ sym (at_place h cs c 0 there)
      | inr other ↦
          (rw get_or-set_other refl) ∙ at_place (λ j k. f j) cs c 0 there
          ∙ sym (ap (λ (b : Bool). if b then g c else f c) (ne_eqb class c (λ q. other (sym q)))) ∙ sym (at_place h cs c 0 there)
    ])

-- a list shows none exactly where nothing waits
pub none_shown : (xs : List Entry) (ws : List Arrival) → seen xs ≡ seen_of ws → is_none (slice_get xs 0) ≡ is_none (slice_get ws 0)
none_shown [] [] e = refl
none_shown [] (a ∷ ws) e = absurd (cc)
none_shown (x ∷ xs) [] e = absurd (cc)
none_shown (x ∷ xs) (a ∷ ws) e = refl
