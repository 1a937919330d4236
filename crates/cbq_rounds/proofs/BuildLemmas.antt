-- What CBQ keeps at first.
use Rattle.std.proofs.Common.{◌≡◌, ◌≤◌, ◌<◌, ◌+◌, ◌∙◌, ℕ, zero, suc, true, List, [], ◌∷◌, length, map, replicate, refl, ap, sym, subst, arith}
use Rattle.leaf_queue.specs.Queue.{QueueEvent, Saying}
use Rattle.leaf_queue.specs.declared.node.Entry.{Entry}
use Rattle.class_rows.specs.Rows.{ClassQueuesView, RowRepresents, answering, classes_in, holding, list_in}
use Rattle.discipline.specs.Laws.{seen}
use Rattle.cbq_estimator.specs.Estimate.{Estimate}
use Rattle.cbq_model.specs.declared.CbqClass.{CbqClass}
use Rattle.cbq_model.specs.Tree.{each_from, numbers}
use Rattle.cbq_model.proofs.Lawful.{cbq_lawful, cbq_steady}
use Rattle.cbq_sharing.specs.Fresh.{fresh, fresh_estimate}
use Rattle.cbq_sharing.specs.Rings.{AreRings}
use Rattle.cbq_sharing.specs.Shared.{Shared}
use Rattle.cbq_rounds.specs.Stands.{IsRuling, Sets, Represents}
use Rattle.class_sets.specs.Marked.{marked}
use Rattle.cbq_sharing.specs.Waiting.{AreSized, waits}
use Rattle.cbq_sharing.proofs.BuildLemmas.{count_copies}
use Rattle.cbq_rounds.proofs.StandsLemmas.{distinct_in}

hold_numbers : (b n : ℕ) (cs : List CbqClass) → n ≡ length cs → holding b (replicate n true) ≡ each_from (λ c k. c) b cs
hold_numbers b zero [] e = refl
hold_numbers b zero (k ∷ ks) e = absurd (omega arith)
hold_numbers b (suc n) [] e = absurd (omega arith)
hold_numbers b (suc n) (k ∷ ks) e = let more : n ≡ length ks = omega arith in ap (λ (xs : List ℕ). b ∷ xs) (hold_numbers (b + 1) n ks more)

pub hold_all : {Q : Type 0} (rows : ClassQueuesView Q) (cs : List CbqClass) → rows.first ≡ 0 → rows.holds ≡ replicate (length cs) true
    → classes_in rows ≡ numbers cs
hold_all rows cs f h = ap (λ (n : ℕ). holding n rows.holds) f ∙ ap (holding 0) h ∙ hold_numbers 0 (length cs) cs refl

nothing_seen : (xs : List Entry) → seen xs ≡ [] → xs ≡ []
nothing_seen [] e = refl
nothing_seen (x ∷ xs) e = absurd (cc)

all_empty : {Q : Type 0} (stands : Q → List QueueEvent → Type 0) (rows : ClassQueuesView Q) → RowRepresents stands rows [] → (c : ℕ) → list_in rows c ≡ []
all_empty stands rows t c = nothing_seen (list_in rows c) (t.shown c).packets

fresh_each : (b : ℕ) (cs : List CbqClass) → map fresh_estimate cs ≡ each_from (λ c k. fresh_estimate k) b cs
fresh_each b [] = refl
fresh_each b (k ∷ ks) = ap (λ (es : List Estimate). fresh_estimate k ∷ es) (fresh_each (b + 1) ks)

zero_each : (b : ℕ) (cs : List CbqClass) → ◌≡◌ {A = List ℕ} (replicate {A = ℕ} (length cs) 0) (each_from (λ c k. 0) b cs)
zero_each b [] = refl
zero_each b (k ∷ ks) = ap (λ (ns : List ℕ). 0 ∷ ns) (zero_each (b + 1) ks)

-- a discipline as it was built: of its classes and its queues
pub record IsBuilt {Q : Type 0} (stands : Q → List QueueEvent → Type 0) (rate : ℕ) (cs : List CbqClass) (shares : Shared) (rows : ClassQueuesView Q) : Type 0 where
  pub some : 0 < rate
  pub is : shares ≡ fresh rate cs
  pub recorded : RowRepresents stands rows []
  pub classes : classes_in rows ≡ numbers cs

-- and its sets, in which no class is
pub record AreEmpty (cs : List CbqClass) (k : Sets) : Type 0 where
  pub none_waits : (c : ℕ) → marked k.waiting c ≡ 0
  pub none_held : (c : ℕ) → marked k.held.set c ≡ 0
  pub rings : AreRings cs k.sets k.tops

module _ {Q : Type 0} (stands : Q → List QueueEvent → Type 0) (rate : ℕ) (cs : List CbqClass) (shares : Shared) (rows : ClassQueuesView Q)
    (b : IsBuilt stands rate cs shares rows) where
  tree_is : shares.tree ≡ cs
  tree_is = ap (λ (s : Shared). s.tree) b.is

  pub is_ruling : (k : Sets) → AreEmpty cs k → rows.first ≡ 0 → length rows.queues ≡ length cs → length cs ≤ 256 → IsRuling shares rows k
  is_ruling k e first count few =
      let S : List Entry → Type 0 = λ xs. AreSized xs in
      let R : List CbqClass → Type 0 = λ ks. AreRings ks k.sets k.tops in
      record {
        first = first;
        count = count ∙ ap (λ (ks : List CbqClass). length ks) (sym tree_is);
        credit_each = ap (λ (s : Shared). length s.credits) b.is ∙ count_copies (length cs) ∙ ap (λ (ks : List CbqClass). length ks) (sym tree_is);
        classes = b.classes ∙ ap numbers (sym tree_is);
        sized = λ c. subst S (sym (all_empty stands rows b.recorded c)) tt;
        others = λ c l. all_empty stands rows b.recorded c;
        few = omega (arith, few, ap (λ (ks : List CbqClass). length ks) tree_is);
        waiting = λ c. e.none_waits c ∙ ap waits (sym (all_empty stands rows b.recorded c));
        held = record {
          rate = omega (arith, b.some, ap (λ (s : Shared). s.rate) b.is);
          wait = λ c m. absurd (let z = e.none_held c in omega (arith, z, m));
          head = λ c n m f. absurd (let z = e.none_held c in omega (arith, z, m));
        };
        rings = subst R (sym tree_is) e.rings;
      }

  pub stands_empty : (says : Q → Saying) → Represents stands says (record { shares = shares; rows = rows }) []
  stands_empty says =
      let P : Shared → Type 0 = λ s. Represents stands says (record { shares = s; rows = rows }) [] in
      subst P (sym b.is) (record {
        recorded = b.recorded;
        estimates = fresh_each 0 cs;
        credits = zero_each 0 cs;
        cursors = refl;
        ended = λ r e. omega arith;
        rate = b.some;
        classes = b.classes;
        lawful = cbq_lawful cs rate (answering says rows) b.some;
        steady = cbq_steady cs rate (answering says rows) b.some;
        distinct = distinct_in stands says (record { shares = fresh rate cs; rows = rows }) b.classes;
        orderly = tt;
        sendings = tt;
      })
