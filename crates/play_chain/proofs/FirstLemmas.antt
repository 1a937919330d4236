-- What the first table holds after one more fate.
use Rattle.std.proofs.Common.{◌≡◌, ◌≢◌, ◌≤◌, ◌<◌, ◌+◌, ◌∙◌, ℕ, Bool, true, false, List, [], ◌∷◌, ◌++◌, length, length-append, None, Some, refl, ap, sym, subst, arith}
use Rattle.std.specs.Prelude.{◌==◌}
use Rattle.std.specs.declared.option.Option.{Option}
use Rattle.std.proofs.lemmas.Bool.{eqb-true, eq-eqb}
use Rattle.altq_model.specs.declared.Fate.{Fate}
use Rattle.altq_model.specs.declared.Fate.TheVariants.{Dropped, Sent}
use Rattle.altq_model.specs.Laws.{occurs}
use Rattle.play_loop.specs.declared.kept.KeptFate.{KeptFate}
use Rattle.play_chain.specs.declared.firsts.First.{First}
use Rattle.play_chain.specs.declared.firsts.First.TheVariants as first
use Rattle.play_chain.specs.declared.firsts.Firsts.{Firsts}
use Rattle.play_chain.specs.Path.{kept_under, numbers_of, second_number, sendings, with_sent}
use Rattle.play_chain.specs.Tables.{AreOnce, HoldsFirsts, IsFirstTable, first_by, first_in, first_row}
use Rattle.play_chain.proofs.ListLemmas.{IsSending, WasSent, above_more, kept_new, kept_none, kept_other, none_kept, numbers_more, occurs_append, place_new, place_stays, sendings_more, sendings_occur, was_sent}

-- `u` has the rows of `t`, and this one under n
pub record HasSet (t u : Firsts) (n : ℕ) (row : First) : Type 0 where
  pub here : first_in u.rows.items n ≡ row
  pub others : (m : ℕ) → n ≢ m → first_in u.rows.items m ≡ first_in t.rows.items m
  pub longer : length t.rows.items ≤ length u.rows.items
  pub room : n < length u.rows.items

pub not_same : (n m : ℕ) → (n == m) ≡ false → n ≢ m
not_same n m e q = let t : (n == m) ≡ true = eq-eqb n m q in let x : true ≡ false = sym t ∙ e in (cc)

-- a place matters to a sending alone
by_same : (at a b : ℕ) (f : Fate) → (IsSending f → a ≡ b) → first_by at a f ≡ first_by at b f
by_same at a b (Dropped r) h = refl
by_same at a b (Sent start end rule) h = ap (λ (k : ℕ). first.Sent at k) (h tt)

row_same : (o : Option KeptFate) (ms ns : List ℕ) (n : ℕ) → (WasSent o → second_number ns n ≡ second_number ms n) → first_row ns n o ≡ first_row ms n o
row_same None ms ns n h = refl
row_same (Some f) ms ns n h = by_same f.arrival _ _ f.fate h

sent_place : (ms : List ℕ) (n : ℕ) (f : Fate) → occurs n ms ≡ 0 → IsSending f → second_number (ms ++ with_sent n f []) n ≡ length ms + 1
sent_place ms n (Dropped r) o s = absurd s
sent_place ms n (Sent start end rule) o s = place_new ms n o

-- a number whose row is absent has no fate
absent_by : (at k : ℕ) (f : Fate) → first_by at k f ≡ first.Absent → ⊥
absent_by at k (Dropped r) e = cc
absent_by at k (Sent start end rule) e = cc

pub absent_none : (o : Option KeptFate) (ms : List ℕ) (n : ℕ) → first_row ms n o ≡ first.Absent → o ≡ None
absent_none None ms n e = refl
absent_none (Some f) ms n e = absurd (absent_by _ _ f.fate e)

-- a number that is new in one reading of a table is new in each
pub new_in : (t : Firsts) (n : ℕ) (xs ys : List KeptFate) → IsFirstTable t xs → IsFirstTable t ys → occurs n (numbers_of xs) ≡ 0 → kept_under ys n ≡ None
new_in t n xs ys x y o =
    absent_none (kept_under ys n) (sendings ys) n (sym (y.rows n) ∙ x.rows n ∙ ap (λ (k : Option KeptFate). first_row (sendings xs) n k) (kept_none xs n o))

module _ (t u : Firsts) (x : KeptFate) (fates : List KeptFate) (table : IsFirstTable t fates) (none : kept_under fates x.number ≡ None)
    (set : HasSet t u x.number (first_by x.arrival (t.sent + 1) x.fate)) where
  abbrev more : List KeptFate
  more = fates ++ x ∷ []

  new : occurs x.number (numbers_of fates) ≡ 0
  new = none_kept fates x.number none

  row_here : first_in u.rows.items x.number ≡ first_row (sendings more) x.number (kept_under more x.number)
  row_here =
      let before : occurs x.number (sendings fates) ≡ 0 = omega (arith, new, sendings_occur fates x.number) in
      let place : IsSending x.fate → t.sent + 1 ≡ second_number (sendings more) x.number = λ i.
      omega (
        arith,
        table.sent,
        ap (λ (ms : List ℕ). second_number ms x.number) (sendings_more fates x),
        sent_place (sendings fates) x.number x.fate before i,
      ) in
      set.here ∙ by_same x.arrival (t.sent + 1) (second_number (sendings more) x.number) x.fate place
      ∙ sym (ap (λ (o : Option KeptFate). first_row (sendings more) x.number o) (kept_new fates x new))

  row_other : (m : ℕ) → (x.number == m) ≡ false → first_in u.rows.items m ≡ first_row (sendings more) m (kept_under more m)
  row_other m e =
      let stays : WasSent (kept_under fates m) → second_number (sendings more) m ≡ second_number (sendings fates) m = λ w.
      ap (λ (ms : List ℕ). second_number ms m) (sendings_more fates x) ∙ place_stays (sendings fates) (with_sent x.number x.fate []) m (was_sent fates m w) in
      set.others m (not_same x.number m e) ∙ table.rows m ∙ sym (row_same (kept_under fates m) (sendings fates) (sendings more) m stays)
      ∙ sym (ap (λ (o : Option KeptFate). first_row (sendings more) m o) (kept_other fates x m e))

  row_of : (m : ℕ) (b : Bool) → (x.number == m) ≡ b → first_in u.rows.items m ≡ first_row (sendings more) m (kept_under more m)
  row_of m true e =
      let P : ℕ → Type 0 = λ k. first_in u.rows.items k ≡ first_row (sendings more) k (kept_under more k) in subst P (eqb-true x.number m e) row_here
  row_of m false e = row_other m e

  -- one more fate
  pub one_more : u.sent ≡ t.sent + length (with_sent x.number x.fate []) → IsFirstTable u more
  one_more count = record {
    rows = λ m. row_of m (x.number == m) refl;
    within = omega (arith, above_more fates x, table.within, set.longer, set.room);
    sent = omega (arith, count, table.sent, ap (length {A = ℕ}) (sendings_more fates x), length-append (sendings fates) (with_sent x.number x.fate []));
  }

-- fates of which each has its own number are those of a longer list
fewer : (n : ℕ) (fates : List KeptFate) (x : KeptFate) → occurs n (numbers_of (fates ++ x ∷ [])) ≤ 1
    → occurs n (numbers_of fates) + occurs n (x.number ∷ []) ≤ 1
fewer n fates x l = omega (arith, l, ap (λ (ns : List ℕ). occurs n ns) (numbers_more fates x), occurs_append n (numbers_of fates) (x.number ∷ []))

pub once_before : (fates : List KeptFate) (x : KeptFate) → AreOnce (fates ++ x ∷ []) → AreOnce fates
once_before fates x h n = omega (arith, fewer n fates x (h n))

itself : (n : ℕ) → occurs n (n ∷ []) ≡ 1
itself n = let s : (n == n) ≡ true = eq-eqb n n refl in rw s refl

pub new_before : (fates : List KeptFate) (x : KeptFate) → AreOnce (fates ++ x ∷ []) → occurs x.number (numbers_of fates) ≡ 0
new_before fates x h = omega (arith, fewer x.number fates x (h x.number), itself x.number)

pub firsts_more : (t u : Firsts) (x : KeptFate)
    → ((fates : List KeptFate) → IsFirstTable t fates → kept_under fates x.number ≡ None → IsFirstTable u (fates ++ x ∷ []))
    → (fates : List KeptFate) → HoldsFirsts t fates → HoldsFirsts u (fates ++ x ∷ [])
firsts_more t u x h fates holds once =
    h fates (holds (once_before fates x once)) (kept_none fates x.number (new_before fates x once))
