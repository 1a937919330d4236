-- What a path stands for after one more fate.
use Rattle.std.proofs.Common.{◌≡◌, ◌≢◌, ◌≤◌, ◌<◌, ◌+◌, ◌-◌, ◌∙◌, ℕ, zero, suc, Bool, true, false, List, [], ◌∷◌, ◌++◌, length, length-append, None, Some, Ok, Err, refl, ap, sym, subst, arith}
use Rattle.std.specs.Prelude.{◌==◌, OnOk, Result, option_map, slice_get, if◌then◌else◌}
use Rattle.std.specs.declared.option.Option.{Option}
use Rattle.std.proofs.lemmas.Bool.{eqb-true}
use Rattle.altq_model.specs.declared.Fate.{Fate}
use Rattle.altq_model.specs.declared.Fate.TheVariants.{Dropped, Sent}
use Rattle.altq_model.specs.History.{Decision}
use Rattle.altq_model.specs.Laws.{occurs}
use Rattle.play_loop.specs.declared.kept.KeptFate.{KeptFate}
use Rattle.play_chain.specs.declared.outcome.Outcome.{Outcome}
use Rattle.play_chain.specs.declared.outcome.Passage.{Passage}
use Rattle.play_chain.specs.declared.firsts.Firsts.{Firsts}
use Rattle.play_chain.specs.declared.firsts.First.{First}
use Rattle.play_chain.specs.declared.seconds.Second.{Second}
use Rattle.play_chain.specs.declared.seconds.Second.TheVariants as second
use Rattle.play_chain.specs.declared.path.Path.{Path}
use Rattle.play_chain.specs.Path.{fate_under, kept_under, numbers_of, outcome_of, passage, second_number, second_outcome, sendings, with_sent}
use Rattle.play_chain.specs.Stands.{HasSeconds, Represents, TakesFirst, TakesSecond}
use Rattle.play_chain.specs.Tables.{IsFirstTable, first_by, first_row, in_tables, outcome_by, passage_by, second_in, second_row}
use Rattle.play_chain.proofs.FirstLemmas.{new_in, not_same}
use Rattle.play_chain.proofs.ListLemmas.{IsSending, WasSent, fate_none, fate_other, none_kept, numbers_more, occurs_append, other_is, sendings_more, there, was_sent}
use Rattle.play_chain.proofs.SecondLemmas.{HasSet, absent_none, row_more}

abbrev through : (at : ℕ) → Outcome → Passage
through at o = record { arrival = at; outcome = o }

-- the passage by the rows of both tables
row_outcome : (o : Option Fate) → outcome_by (second_row o) ≡ second_outcome o
row_outcome None = refl
row_outcome (Some (Dropped r)) = refl
row_outcome (Some (Sent start end rule)) = refl

passed : (at : ℕ) (f : Fate) (sent : List ℕ) (rows : List Second) (js : List Decision) (n : ℕ)
    → (IsSending f → second_in rows (second_number sent n) ≡ second_row (fate_under js (second_number sent n)))
    → passage_by rows (first_by at (second_number sent n) f) ≡ Some (through at (outcome_of sent js n f))
passed at (Dropped r) sent rows js n h = refl
passed at (Sent start end rule) sent rows js n h =
    ap (λ (row : Second). Some (through at (outcome_by row))) (h tt)
    ∙ ap (λ (o : Outcome). Some (through at o)) (row_outcome (fate_under js (second_number sent n)))

passage_row : (o : Option KeptFate) (sent : List ℕ) (rows : List Second) (js : List Decision) (n : ℕ)
    → (WasSent o → second_in rows (second_number sent n) ≡ second_row (fate_under js (second_number sent n)))
    → passage_by rows (first_row sent n o) ≡ option_map (λ (f : KeptFate). through f.arrival (outcome_of sent js n f.fate)) o
passage_row None sent rows js n h = refl
passage_row (Some f) sent rows js n h = passed f.arrival f.fate sent rows js n h

inside : (ms : List ℕ) (k n : ℕ) → slice_get ms k ≡ Some n → k < length ms
inside [] k n e = absurd (cc)
inside (m ∷ ms) zero n e = omega arith
inside (m ∷ ms) (suc k) n e = omega (arith, inside ms k n e)

-- a packet that was sent has its place among the sendings
pub placed : (fates : List KeptFate) (n : ℕ) → WasSent (kept_under fates n)
    → (0 < second_number (sendings fates) n) × (second_number (sendings fates) n ≤ length (sendings fates))
placed fates n w =
    let y = there (sendings fates) n (was_sent fates n w) in
    (y.0, omega (arith, y.0, inside (sendings fates) (second_number (sendings fates) n - 1) n y.1))

pub passages : (t : Firsts) (rows : List Second) (fates : List KeptFate) (js : List Decision) → IsFirstTable t fates
    → ((k : ℕ) → 0 < k → k ≤ length (sendings fates) → second_in rows k ≡ second_row (fate_under js k)) → (n : ℕ)
    → in_tables t.rows.items rows n ≡ passage fates js n
passages t rows fates js x y n =
    ap (λ (row : First). passage_by rows row) (x.rows n)
    ∙ passage_row (kept_under fates n) (sendings fates) rows js n
    (λ w. let at = placed fates n w in y (second_number (sendings fates) n) at.0 at.1)

-- what it stands for by its tables
pub stands_by : (p : Path) (fates : List KeptFate) (js : List Decision) → IsFirstTable p.firsts fates
    → HasSeconds p.seconds.rows.items (length (sendings fates)) js
    → ((n : ℕ) → occurs n (numbers_of fates) ≤ 1) → ((k : ℕ) → length (sendings fates) < k → fate_under js k ≡ None) → Represents p fates js
stands_by p fates js x y once of_sent = record {
  table = passages p.firsts p.seconds.rows.items fates js x y.stands;
  firsts = x;
  seconds = y;
  once = once;
  of_sent = of_sent;
}

pub on_ok : {T E : Type 0} (r : Result T E) (A B : Type 0) → (A → B) → OnOk r A → OnOk r B
on_ok (Ok v) A B f h = f h
on_ok (Err e) A B f h = h

-- rows that were made longer, of which that of the next sending was cleared
pub record HasRoom (p : Path) (rows : List Second) (place : ℕ) : Type 0 where
  pub next : place ≡ p.firsts.sent + 1
  pub here : second_in rows place ≡ second.Absent
  pub others : (k : ℕ) → place ≢ k → second_in rows k ≡ second_in p.seconds.rows.items k
  pub longer : length p.seconds.rows.items ≤ length rows
  pub room : place < length rows

module _ (p : Path) (rows : List Second) (place : ℕ) (h : HasRoom p rows place) (fates : List KeptFate) (js : List Decision) (s : Represents p fates js) where
  next_is : place ≡ length (sendings fates) + 1
  next_is = omega (arith, h.next, s.firsts.sent)

  cleared : (k : ℕ) → 0 < k → (b : Bool) → (place == k) ≡ b → k ≤ length (sendings fates) + 1 → second_in rows k ≡ second_row (fate_under js k)
  cleared k some true e l =
      let P : ℕ → Type 0 = λ j. second_in rows j ≡ second_row (fate_under js j) in
      subst P (eqb-true place k e) (h.here ∙ sym (ap (λ (o : Option Fate). second_row o) (s.of_sent place (omega (arith, next_is)))))
  cleared k some false e l =
      let other : place ≢ k = not_same place k e in
      h.others k other ∙ s.seconds.stands k some (omega (arith, l, next_is, other))

  pub with_room : HasSeconds rows (length (sendings fates) + 1) js
  with_room = record {
    stands = λ k some l. cleared k some (place == k) refl l;
    room = λ k some l. omega (arith, l, next_is, h.room);
  }

fewer_seconds : (rows : List Second) (m n : ℕ) (js : List Decision) → n ≤ m → HasSeconds rows m js → HasSeconds rows n js
fewer_seconds rows m n js l h = record {
  stands = λ k some few. h.stands k some (omega (arith, l, few));
  room = λ k some few. h.room k some (omega (arith, l, few));
}

one_sent : (n : ℕ) (f : Fate) → length (with_sent n f []) ≤ 1
one_sent n (Dropped r) = omega arith
one_sent n (Sent start end rule) = omega arith

once_by : (n m : ℕ) (b : Bool) → (n == m) ≡ b → (ms : List ℕ) → occurs m ms ≤ 1 → (n ≡ m → occurs m ms ≡ 0) → occurs m ms + ((if b then 1 else 0) + 0) ≤ 1
once_by n m true e ms l h = omega (arith, h (eqb-true n m e))
once_by n m false e ms l h = omega (arith, l)

once_more : (n m : ℕ) (ms : List ℕ) → occurs m ms ≤ 1 → (n ≡ m → occurs m ms ≡ 0) → occurs m (ms ++ n ∷ []) ≤ 1
once_more n m ms l h = omega (arith, occurs_append m ms (n ∷ []), once_by n m (n == m) refl ms l h)

-- one more first fate
pub stands_first : (p : Path) (t : Firsts) (rows : List Second) (place : ℕ) (x : KeptFate) → TakesFirst p x.number → HasRoom p rows place
    → ((fates : List KeptFate) → IsFirstTable p.firsts fates → kept_under fates x.number ≡ None → IsFirstTable t (fates ++ x ∷ []))
    → (q : Path) → q.firsts ≡ t → q.seconds.rows.items ≡ rows
    → (fates : List KeptFate) (js : List Decision) → Represents p fates js → Represents q (fates ++ x ∷ []) js
stands_first p t rows place x takes room add q firsts seconds fates js s =
    let none = new_in p.firsts x.number takes.first fates takes.stands.firsts s.firsts takes.new in
    let new = none_kept fates x.number none in
    let count : length (sendings (fates ++ x ∷ [])) ≡ length (sendings fates) + length (with_sent x.number x.fate []) =
    omega (arith, ap (length {A = ℕ}) (sendings_more fates x), length-append (sendings fates) (with_sent x.number x.fate [])) in
    let most : length (sendings (fates ++ x ∷ [])) ≤ length (sendings fates) + 1 = omega (arith, count, one_sent x.number x.fate) in
    let P : Firsts → Type 0 = λ u. IsFirstTable u (fates ++ x ∷ []) in
    let Q : List Second → Type 0 = λ l. HasSeconds l (length (sendings (fates ++ x ∷ []))) js in
    let R : List ℕ → Type 0 = λ ms. (m : ℕ) → occurs m ms ≤ 1 in
    stands_by q (fates ++ x ∷ []) js (subst P (sym firsts) (add fates s.firsts none))
    (subst Q (sym seconds) (fewer_seconds rows _ _ js most (with_room p rows place room fates js s)))
    (subst R (sym (numbers_more fates x))
    (λ m. once_more x.number m (numbers_of fates) (s.once m) (λ e. subst (λ (k : ℕ). occurs k (numbers_of fates) ≡ 0) e new)))
    (λ k l. s.of_sent k (omega (arith, l, count)))

-- one more second fate
pub stands_second : (p q : Path) (k : ℕ) (f : Fate) → TakesSecond p k → q.firsts ≡ p.firsts → HasSet p.seconds.rows.items q.seconds.rows.items k f
    → length q.seconds.rows.items ≡ length p.seconds.rows.items
    → (fates : List KeptFate) (js : List Decision) → Represents p fates js → Represents q fates (js ++ (k, f) ∷ [])
stands_second p q k f takes firsts set same fates js s =
    let few : k ≤ length (sendings fates) = omega (arith, takes.sent, takes.stands.firsts.sent, s.firsts.sent) in
    let theirs : fate_under takes.second k ≡ None = fate_none takes.second k takes.new in
    let none : fate_under js k ≡ None =
    absent_none (fate_under js k)
    (sym (s.seconds.stands k takes.some few) ∙ takes.stands.seconds.stands k takes.some takes.sent ∙ ap (λ (o : Option Fate). second_row o) theirs) in
    let P : Firsts → Type 0 = λ u. IsFirstTable u fates in
    stands_by q fates (js ++ (k, f) ∷ []) (subst P (sym firsts) s.firsts)
    (record {
      stands = λ m some l. row_more p.seconds.rows.items q.seconds.rows.items k f set js none m (s.seconds.stands m some l);
      room = λ m some l. omega (arith, same, s.seconds.room m some l);
    }) s.once
    (λ m l. let other : k ≢ m = λ e. omega (arith, few, l, e) in fate_other js k f m (other_is k m other (k == m) refl) ∙ s.of_sent m l)
