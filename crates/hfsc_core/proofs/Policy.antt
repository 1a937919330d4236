-- What is due is the policy's.
use Rattle.std.proofs.Common.{◌≡◌, ◌≤◌, ◌<◌, ◌⊎◌, inl, inr, ℕ, Bool, true, false, List, [], ◌∷◌, None, Some, refl, ap, sym, subst, arith, ◌∙◌}
use Rattle.std.specs.Prelude.{Option, slice_get, option_map}
use Rattle.std.proofs.lemmas.Bool.{cases_lt}
use Rattle.std.proofs.lemmas.Bool.Decides.{nat_tests}
use Rattle.altq_model.specs.History.{Arrival, Event, head}
use Rattle.altq_model.specs.Play.{Policy, IsOneOf, lesser}
use Rattle.altq_model.specs.Policies.{Answering}
use Rattle.altq_model.specs.Lawful.{first_at, start_at}
use Rattle.leaf_queue.specs.declared.node.Entry.{Entry}
use Rattle.discipline.specs.Laws.{IsDue}
use Rattle.hfsc_model.specs.declared.HfscClass.{HfscClass}
use Rattle.hfsc_model.specs.Leaf.{leaf, is_waiting}
use Rattle.hfsc_model.specs.RealTime.{has_come}
use Rattle.hfsc_model.specs.Choice.{choice}
use Rattle.hfsc_model.specs.Tree.{is_leaf}
use Rattle.hfsc_policy.specs.Events.{hfsc_history, rule_of}
use Rattle.hfsc_policy.specs.Classes.{IsClassTree, leaves}
use Rattle.hfsc_policy.specs.Policy.{send_from, not_before, choice_of, hfsc_policy}
use Rattle.hfsc_policy.proofs.Moments.{send_is, send_there, from_come, from_later, at_come}
use Rattle.hfsc_policy.proofs.Histories.{head_waits, waits_head}
use Rattle.hfsc_policy.proofs.Lawful.{one_leaf, leaf_one}
use Rattle.hfsc_policy.proofs.Paths.{IsSender}
use Rattle.hfsc_policy.proofs.Timely.{first_one}
use Rattle.hfsc_core.specs.declared.chooser.Chosen.{Chosen}
use Rattle.hfsc_core.specs.declared.chooser.Chosen.TheVariants.{Real, Shared, Later, Nothing}
use Rattle.hfsc_core.specs.Hfsc.{pick_of, send_head}
use Rattle.hfsc_core.proofs.Choosing.{ChosenIs, IsLater}

-- the least of the starts
first_least : (p : Policy) (t : ℕ) (h : List Event) (xs : List ℕ) (c m : ℕ) → IsOneOf c xs → start_at p t h c ≡ Some m
    → ((d u : ℕ) → IsOneOf d xs → start_at p t h d ≡ Some u → m ≤ u) → first_at p t h xs ≡ Some m
first_least p t h [] c m i e f = absurd i
first_least p t h (x ∷ xs) c m (inl s) e f = go (first_at p t h xs) refl
  where
    here : start_at p t h x ≡ Some m
    here = ap (start_at p t h) s ∙ e

    least : (m v : ℕ) → m ≤ v → lesser (Some m) (Some v) ≡ Some m
    least m v l = ap Some (omega (arith, l))

    go : (o : Option ℕ) → first_at p t h xs ≡ o → lesser (start_at p t h x) (first_at p t h xs) ≡ Some m
    go None g = ap (λ (a : Option ℕ). lesser a (first_at p t h xs)) here ∙ ap (λ (b : Option ℕ). lesser (Some m) b) g
    go (Some v) g =
        let y = first_one p t h xs v g in
        ap (λ (a : Option ℕ). lesser a (first_at p t h xs)) here ∙ ap (λ (b : Option ℕ). lesser (Some m) b) g ∙ least m v (f y.0 v (inr y.1) y.2)
first_least p t h (x ∷ xs) c m (inr i) e f = go (start_at p t h x) refl (first_least p t h xs c m i e (λ d u j g. f d u (inr j) g))
  where
    least : (m v : ℕ) → m ≤ v → lesser (Some v) (Some m) ≡ Some m
    least m v l = ap Some (omega (arith, l))

    go : (o : Option ℕ) → start_at p t h x ≡ o → first_at p t h xs ≡ Some m → lesser (start_at p t h x) (first_at p t h xs) ≡ Some m
    go None g r = ap (λ (a : Option ℕ). lesser a (first_at p t h xs)) g ∙ r
    go (Some v) g r =
        ap (λ (a : Option ℕ). lesser a (first_at p t h xs)) g ∙ ap (λ (b : Option ℕ). lesser (Some v) b) r ∙ least m v (f x v (inl refl) g)

first_none : (p : Policy) (t : ℕ) (h : List Event) (xs : List ℕ) → ((d : ℕ) → IsOneOf d xs → head d h ≡ None) → first_at p t h xs ≡ None
first_none p t h [] f = refl
first_none p t h (x ∷ xs) f =
    ap (λ (o : Option Arrival). lesser (option_map (λ (a : Arrival). p.start_from h x t) o) (first_at p t h xs)) (f x (inl refl))
    ∙ first_none p t h xs (λ d i. f d (inr i))

module _ (cs : List HfscClass) (answer : Answering) (h : List Event) (k : IsClassTree cs) where
  start_is : (t c u : ℕ) → start_at (hfsc_policy cs answer) t h c ≡ Some u → IsOneOf c (leaves cs) → (u ≡ not_before t (send_from cs (hfsc_history h) c)) × IsSender cs (hfsc_history h) u c
  start_is t c u e i = go (head c h) refl e
    where
      go : (o : Option Arrival) → head c h ≡ o → option_map (λ (a : Arrival). not_before t (send_from cs (hfsc_history h) c)) o ≡ Some u
          → (u ≡ not_before t (send_from cs (hfsc_history h) c)) × IsSender cs (hfsc_history h) u c
      go None f g = absurd cc
      go (Some b) f g =
          let same : not_before t (send_from cs (hfsc_history h) c) ≡ u = cc in
          let l = one_leaf cs c i in
          let w = head_waits c h b f in (
            sym same,
            record {
              is_leaf = l;
              waits = w;
              may = send_is cs (hfsc_history h) u c l w
                  ∙ subst (λ n. has_come (send_from cs (hfsc_history h) c) n ≡ true) same (from_come (send_from cs (hfsc_history h) c) t (send_there cs (hfsc_history h) c k));
            },
          )

  start_of : (t u c : ℕ) → IsSender cs (hfsc_history h) u c → not_before t (send_from cs (hfsc_history h) c) ≡ u → start_at (hfsc_policy cs answer) t h c ≡ Some u
  start_of t u c s e =
      let y = waits_head c h s.waits in
      ap (λ (o : Option Arrival). option_map (λ (a : Arrival). not_before t (send_from cs (hfsc_history h) c)) o) y.front ∙ ap Some e

  pub now_first : (now c : ℕ) → IsSender cs (hfsc_history h) now c → first_at (hfsc_policy cs answer) now h (leaves cs) ≡ Some now
  now_first now c s =
      first_least (hfsc_policy cs answer) now h (leaves cs) c now (leaf_one cs c s.is_leaf)
      (start_of now now c s (at_come (send_from cs (hfsc_history h) c) now (sym (send_is cs (hfsc_history h) now c s.is_leaf s.waits) ∙ s.may)))
      (λ d u i e. let y = start_is now d u e i in let low = from_later (send_from cs (hfsc_history h) d) now in omega (arith, low, y.0))

  later_first : (now t : ℕ) → IsLater cs (hfsc_history h) now t → first_at (hfsc_policy cs answer) now h (leaves cs) ≡ Some t
  later_first now t i =
      first_least (hfsc_policy cs answer) now h (leaves cs) i.sender t (leaf_one cs i.sender i.may.is_leaf) (start_of now t i.sender i.may here)
      (λ d u j e. let y = start_is now d u e j in no_less d u y.0 y.1)
    where
      no_less : (d u : ℕ) → u ≡ not_before now (send_from cs (hfsc_history h) d) → IsSender cs (hfsc_history h) u d → t ≤ u
      no_less d u e s = go (cases_lt u t)
        where
          go : (u < t) ⊎ (t ≤ u) → t ≤ u
          go (inl l) = let low = from_later (send_from cs (hfsc_history h) d) now in absurd (i.none u (omega (arith, low, e)) l d s)
          go (inr l) = l

      at_most : (o : Option ℕ) → has_come o t ≡ true → now ≤ t → not_before now o ≤ t
      at_most None e l = absurd cc
      at_most (Some v) e l = grind (arith, nat_tests, e, l)

      here : not_before now (send_from cs (hfsc_history h) i.sender) ≡ t
      here =
          let c = i.sender in
          let later = i.later in
          let come = sym (send_is cs (hfsc_history h) t c i.may.is_leaf i.may.waits) ∙ i.may.may in
          let most = at_most (send_from cs (hfsc_history h) c) come (omega (arith, later)) in
          let u = not_before now (send_from cs (hfsc_history h) c) in
          let s : IsSender cs (hfsc_history h) u c = record {
            is_leaf = i.may.is_leaf;
            waits = i.may.waits;
            may = send_is cs (hfsc_history h) u c i.may.is_leaf i.may.waits ∙ from_come (send_from cs (hfsc_history h) c) now (send_there cs (hfsc_history h) c k);
          } in
          let less = no_less c u refl s in
          omega (arith, most, less)

  due_head : (now c : ℕ) (real : Bool) (xs : List Entry) (x : Entry) → slice_get xs 0 ≡ Some x → choice cs (hfsc_history h) now ≡ Some (record { class = c; real = real })
      → IsSender cs (hfsc_history h) now c → IsDue (hfsc_policy cs answer) h now (send_head c (rule_of real) xs)
  due_head now c real [] x e f s = absurd cc
  due_head now c real (y ∷ xs) x e f s = (now_first now c s, ap choice_of f)

  pub due_is : (lists : ℕ → List Entry) (now : ℕ) (q : Chosen) → ((c : ℕ) → is_waiting (leaf (hfsc_history h) c).waiting ≡ true → (x : Entry) × (slice_get (lists c) 0 ≡ Some x))
      → ChosenIs cs (hfsc_history h) now q → IsDue (hfsc_policy cs answer) h now (pick_of lists q)
  due_is lists now (Real c) f i = let x = f c i.1.waits in due_head now c true (lists c) x.0 x.1 i.0 i.1
  due_is lists now (Shared c) f i = let x = f c i.1.waits in due_head now c false (lists c) x.0 x.1 i.0 i.1
  due_is lists now (Later t) f i = (later_first now t i, i.later)
  due_is lists now Nothing f i = first_none (hfsc_policy cs answer) now h (leaves cs) (λ d j. go d (one_leaf cs d j) (head d h) refl)
    where
      go : (d : ℕ) → is_leaf cs d ≡ true → (o : Option Arrival) → head d h ≡ o → o ≡ None
      go d l None e = refl
      go d l (Some b) e = absurd (i d l (head_waits d h b e))
