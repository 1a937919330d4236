-- What is held of all classes, from row to row.
use Rattle.std.proofs.Common.{◌≡◌, ◌∙◌, ◌+◌, ◌<◌, ◌≤◌, ◌≢◌, ◌^◌, inl, inr, ℕ, Bool, true, false, List, [], ◌∷◌, length, get_or, Option, None, Some, refl, ap, sym, subst, arith, get_or-set_same, get_or-set_other}
use Rattle.std.specs.Prelude.{◌==◌, if◌then◌else◌, IfSome}
use Rattle.std.proofs.Math.ListN.{set, length-set}
use Rattle.std.proofs.lemmas.Bool.{cases_eq}
use Rattle.std.proofs.lemmas.List.{get_or_default}
use Rattle.std.proofs.lemmas.Bool.Decides.{nat_tests}
use Rattle.altq_model.specs.declared.Fate.{Fate}
use Rattle.altq_model.specs.declared.Fate.TheVariants.{Dropped, Sent}
use Rattle.altq_model.specs.declared.Reason.{Reason}
use Rattle.altq_model.specs.declared.Rule.{Rule}
use Rattle.journal_laws.specs.Journal.{IfSent, NoneAbove, start_then, starts}
use Rattle.service_curve.specs.declared.Curve.{Curve}
use Rattle.service_curve.specs.Moment.{HasCome}
use Rattle.runtime_curve.specs.Deadline.{deadline}
use Rattle.runtime_curve.proofs.Deadlines.{deadline_came, deadline_comes}
use Rattle.hfsc_model.specs.Timely.{IsDue, opens, units_of, Row as SentRow}
use Rattle.fate_check.specs.declared.reading.Row.{Row}
use Rattle.fate_judge.specs.Given.{decisions}
use Rattle.fate_timely.specs.declared.leaf.Leaf.{Leaf}
use Rattle.fate_timely.specs.Dues.{AreDues, ForLeaf, IsLeafOf, UnitsAreUpTo, leaf_at}
use Rattle.fate_timely.specs.Leaf.{IsLeaf, last_start}
use Rattle.fate_timely.specs.Timely.{EndsInTime, ForCurve, curve_at, is_in_time, sent_rows, with_sent}

-- a leaf that is held, and its curve
pub record HeldLeaf (curves : List (Option Curve)) (before : List Row) (class : ℕ) (leaf : Leaf) : Type 0 where
  pub curve : Curve
  pub of : curve_at curves class ≡ Some curve
  pub leaf_is : IsLeaf curve (sent_rows class before) leaf

held_of : (o : Option Curve) (class : ℕ) (before : List Row) (held : Option Leaf) (leaf : Leaf) → IsLeafOf o class before held → held ≡ Some leaf
    → (s : Curve) × (o ≡ Some s) × IsLeaf s (sent_rows class before) leaf
held_of None class before held leaf h e = absurd cc
held_of (Some s) class before None leaf h e = absurd h
held_of (Some s) class before (Some x) leaf h e =
    let same : x ≡ leaf = cc in
    let P : Leaf → Type 0 = λ y. IsLeaf s (sent_rows class before) y in
    (s, refl, subst P same h)

pub held : (curves : List (Option Curve)) (before : List Row) (leaves : List (Option Leaf)) (class : ℕ) (leaf : Leaf) → AreDues curves before leaves
    → leaf_at leaves class ≡ Some leaf → HeldLeaf curves before class leaf
held curves before leaves class leaf d e =
    let x = held_of (curve_at curves class) class before (leaf_at leaves class) leaf (d.each class) e in
    record { curve = x.0; of = x.1; leaf_is = x.2 }

-- a class's last start is not later than a start that is in turn
last_with : (r : Row) (f : Fate) (rs : List SentRow) (ns : List ℕ) (start : ℕ) → NoneAbove start (start_then f ns)
    → (NoneAbove start ns → IfSome (last_start rs) (λ last. last ≤ start)) → IfSome (last_start (with_sent r f rs)) (λ last. last ≤ start)
last_with r (Dropped reason) rs ns start n h = h n
last_with r (Sent begin end rule) rs ns start n h = n.0

none_then : (f : Fate) (ns : List ℕ) (start : ℕ) → NoneAbove start (start_then f ns) → NoneAbove start ns
none_then (Dropped reason) ns start n = n
none_then (Sent begin end rule) ns start n = n.1

last_if : (b : Bool) (xs ys : List SentRow) (start : ℕ) → IfSome (last_start xs) (λ last. last ≤ start) → IfSome (last_start ys) (λ last. last ≤ start)
    → IfSome (last_start (if b then xs else ys)) (λ last. last ≤ start)
last_if true xs ys start x y = x
last_if false xs ys start x y = y

pub last_before : (class : ℕ) (before : List Row) (start : ℕ) → NoneAbove start (starts (decisions before))
    → IfSome (last_start (sent_rows class before)) (λ last. last ≤ start)
last_before class [] start n = tt
last_before class (r ∷ before) start n =
    last_if (r.class == class) (with_sent r r.fate (sent_rows class before)) (sent_rows class before) start
    (last_with r r.fate (sent_rows class before) (starts (decisions before)) start n (last_before class before start))
    (last_before class before start (none_then r.fate (starts (decisions before)) start n))

-- the packets that a class sent, with one row more
if_same : {A : Type 0} (b : Bool) (x : A) → (if b then x else x) ≡ x
if_same true x = refl
if_same false x = refl

dropped_adds_none : (r : Row) (class : ℕ) (before : List Row) (reason : Reason) → r.fate ≡ Dropped reason → sent_rows class (r ∷ before) ≡ sent_rows class before
dropped_adds_none r class before reason f =
    ap (λ (t : Fate). if r.class == class then with_sent r t (sent_rows class before) else sent_rows class before) f
    ∙ if_same (r.class == class) (sent_rows class before)

other_adds_none : (r : Row) (class : ℕ) (before : List Row) → r.class ≢ class → sent_rows class (r ∷ before) ≡ sent_rows class before
other_adds_none r class before ne =
    let no_class : (r.class == class) ≡ false = grind (arith, nat_tests, ne) in
    ap (λ (b : Bool). if b then with_sent r r.fate (sent_rows class before) else sent_rows class before) no_class

abbrev pub sent_row : Row → (start end : ℕ) → SentRow
sent_row r start end = record { at = r.at; len = r.len; start = start; end = end }

sent_adds : (r : Row) (before : List Row) (start end : ℕ) (rule : Rule) → r.fate ≡ Sent start end rule
    → sent_rows r.class (r ∷ before) ≡ sent_row r start end ∷ sent_rows r.class before
sent_adds r before start end rule f =
    let its_class : (r.class == r.class) ≡ true = grind (arith, nat_tests) in
    ap (λ (b : Bool). if b then with_sent r r.fate (sent_rows r.class before) else sent_rows r.class before) its_class
    ∙ ap (λ (t : Fate). with_sent r t (sent_rows r.class before)) f

leaf_moves : (o : Option Curve) (class : ℕ) (before after : List Row) (held : Option Leaf) → sent_rows class after ≡ sent_rows class before
    → IsLeafOf o class before held → IsLeafOf o class after held
leaf_moves None class before after held e h = h
leaf_moves (Some s) class before after None e h = h
leaf_moves (Some s) class before after (Some leaf) e h =
    let P : List SentRow → Type 0 = λ rs. IsLeaf s rs leaf in
    subst P (sym e) h

-- a drop changes nothing
pub dues_dropped : (curves : List (Option Curve)) (before : List Row) (leaves : List (Option Leaf)) (r : Row) (reason : Reason) → r.fate ≡ Dropped reason
    → AreDues curves before leaves → AreDues curves (r ∷ before) leaves
dues_dropped curves before leaves r reason f d = record {
  size = d.size;
  each = λ class. leaf_moves (curve_at curves class) class before (r ∷ before) (leaf_at leaves class) (dropped_adds_none r class before reason f) (d.each class);
}

-- nor does a packet of a class without a curve
no_leaf : (o : Option Curve) (class : ℕ) (before after : List Row) (held : Option Leaf) → held ≡ None → IsLeafOf o class before held → IsLeafOf o class after held
no_leaf None class before after held e h = h
no_leaf (Some s) class before after None e h = h
no_leaf (Some s) class before after (Some leaf) e h = absurd cc

pub dues_without : (curves : List (Option Curve)) (before : List Row) (leaves : List (Option Leaf)) (r : Row) → leaf_at leaves r.class ≡ None
    → AreDues curves before leaves → AreDues curves (r ∷ before) leaves
dues_without curves before leaves r none d = record {
  size = d.size;
  each = λ class. elim (cases_eq r.class class) [
    | inl e ↦
        let P : ℕ → Type 0 = λ c. IsLeafOf (curve_at curves c) c (r ∷ before) (leaf_at leaves c) in
        subst P e (no_leaf (curve_at curves r.class) r.class before (r ∷ before) (leaf_at leaves r.class) none (d.each r.class))
    | inr ne ↦ leaf_moves (curve_at curves class) class before (r ∷ before) (leaf_at leaves class) (other_adds_none r class before ne) (d.each class)
  ];
}

-- the leaf of a packet that is sent is told of it
pub dues_sent : (curves : List (Option Curve)) (before : List Row) (leaves : List (Option Leaf)) (r : Row) (old new : Leaf) (start end : ℕ) (rule : Rule)
    → r.fate ≡ Sent start end rule → AreDues curves before leaves → leaf_at leaves r.class ≡ Some old → r.class < length leaves
    → ((s : Curve) (rs : List SentRow) → IsLeaf s rs old → IsLeaf s (sent_row r start end ∷ rs) new)
    → AreDues curves (r ∷ before) (set leaves r.class (Some new))
dues_sent curves before leaves r old new start end rule f d e lt next =
    let h = held curves before leaves r.class old d e in
    let P : ℕ → Type 0 = λ c. IsLeafOf (curve_at curves c) c (r ∷ before) (leaf_at (set leaves r.class (Some new)) c) in
    let Q : Option Curve → Type 0 = λ o. IsLeafOf o r.class (r ∷ before) (Some new) in
    let R : Option Leaf → Type 0 = λ o. IsLeafOf (curve_at curves r.class) r.class (r ∷ before) o in
    let S : List SentRow → Type 0 = λ rs. IsLeaf h.curve rs new in
    let told : Q (Some h.curve) = subst S (sym (sent_adds r before start end rule f)) (next h.curve (sent_rows r.class before) h.leaf_is) in
    record {
      size = length-set leaves r.class (Some new) ∙ d.size;
      each = λ class. elim (cases_eq r.class class) [
        | inl same ↦ subst P same (subst R (sym (get_or-set_same leaves r.class (Some new) None lt)) (subst Q (sym h.of) told))
        | inr ne ↦
            let T : Option Leaf → Type 0 = λ o. IsLeafOf (curve_at curves class) class (r ∷ before) o in
            subst T (sym (get_or-set_other leaves r.class class (Some new) None (λ e. ne (sym e))))
            (leaf_moves (curve_at curves class) class before (r ∷ before) (leaf_at leaves class) (other_adds_none r class before ne) (d.each class))
      ];
    }

-- the test of a packet that is sent
in_time : (end m u : ℕ) (due : Option ℕ) → is_in_time end due (Some m) ≡ true → HasCome due u → end ≤ u + m
in_time end m u None e h = absurd h
in_time end m u (Some t) e h = let le : end ≤ t + m = grind (arith, nat_tests, e) in omega (arith, le, h)

pub passes_sent : (curves : List (Option Curve)) (before : List Row) (leaves : List (Option Leaf)) (r : Row) (old : Leaf) (start end m : ℕ) (rule : Rule) (due : Option ℕ)
    → r.fate ≡ Sent start end rule → AreDues curves before leaves → leaf_at leaves r.class ≡ Some old
    → ((s : Curve) (rs : List SentRow) → IsLeaf s rs old → due ≡ deadline s (opens (sent_row r start end ∷ rs)) (units_of (sent_row r start end ∷ rs)))
    → is_in_time end due (Some m) ≡ true → EndsInTime curves m before r
passes_sent curves before leaves r old start end m rule due f d e is test =
    let h = held curves before leaves r.class old d e in
    let rs = sent_row r start end ∷ sent_rows r.class before in
    let D : Option ℕ → ℕ → Type 0 = λ o u. HasCome o u in
    let S : List SentRow → Type 0 = λ xs. (u : ℕ) → IsDue h.curve xs u → end ≤ u + m in
    let C : Option Curve → Type 0 = λ o. ForCurve o (λ s. (u : ℕ) → IsDue s (sent_rows r.class (r ∷ before)) u → end ≤ u + m) in
    let F : Fate → Type 0 = λ t. IfSent t (λ start' end'. ForCurve (curve_at curves r.class) (λ s. (u : ℕ) → IsDue s (sent_rows r.class (r ∷ before)) u → end' ≤ u + m)) in
    let all : S rs = λ u reach.
    let K : Option ℕ → Type 0 = λ o. HasCome o u in
    in_time end m u due test (subst K (sym (is h.curve (sent_rows r.class before) h.leaf_is)) (deadline_comes h.curve (opens rs) u (units_of rs) reach)) in
    subst F (sym f) (subst C (sym h.of) (subst S (sym (sent_adds r before start end rule f)) all))

-- what is not in time has a due moment, and a bound after it
pub record IsOverdue (end : ℕ) (due most : Option ℕ) : Type 0 where
  pub moment : ℕ
  pub bound : ℕ
  pub due_is : due ≡ Some moment
  pub most_is : most ≡ Some bound
  pub past : moment + bound < end

overdue : (end : ℕ) (due most : Option ℕ) → is_in_time end due most ≡ false → IsOverdue end due most
overdue end None most e = absurd cc
overdue end (Some due) None e = absurd cc
overdue end (Some due) (Some most) e =
    let past : due + most < end = grind (arith, nat_tests, e) in
    record { moment = due; bound = most; due_is = refl; most_is = refl; past = past }

pub fails_sent : (curves : List (Option Curve)) (before : List Row) (leaves : List (Option Leaf)) (r : Row) (old : Leaf) (start end : ℕ) (rule : Rule) (due most : Option ℕ)
    → r.fate ≡ Sent start end rule → AreDues curves before leaves → leaf_at leaves r.class ≡ Some old
    → ((s : Curve) (rs : List SentRow) → IsLeaf s rs old → due ≡ deadline s (opens (sent_row r start end ∷ rs)) (units_of (sent_row r start end ∷ rs)))
    → is_in_time end due most ≡ false → (m : ℕ) × (most ≡ Some m) × (EndsInTime curves m before r → ⊥)
fails_sent curves before leaves r old start end rule due most f d e is test =
    let h = held curves before leaves r.class old d e in
    let o = overdue end due most test in
    let rs = sent_row r start end ∷ sent_rows r.class before in
    let C : Option Curve → Type 0 = λ x. ForCurve x (λ s. (u : ℕ) → IsDue s (sent_rows r.class (r ∷ before)) u → end ≤ u + o.bound) in
    let S : List SentRow → Type 0 = λ xs. (u : ℕ) → IsDue h.curve xs u → end ≤ u + o.bound in
    let F : Fate → Type 0
    = λ t. IfSent t (λ start' end'. ForCurve (curve_at curves r.class) (λ s. (u : ℕ) → IsDue s (sent_rows r.class (r ∷ before)) u → end' ≤ u + o.bound)) in
    let K : Option ℕ → Type 0 = λ x. HasCome x o.moment in
    let come : HasCome (deadline h.curve (opens rs) (units_of rs)) o.moment
    = subst K (sym o.due_is ∙ is h.curve (sent_rows r.class before) h.leaf_is) (let same : o.moment ≤ o.moment = omega arith in same) in (
      o.bound,
      o.most_is,
      λ ends.
          let all : S rs = subst S (sent_adds r before start end rule f) (subst C h.of (subst F f ends)) in
          let le = all o.moment (deadline_came h.curve (opens rs) o.moment (units_of rs) come) in
          absurd (omega (arith, le, o.past)),
    )

-- the units of the leaves
pub units_set : (n : ℕ) (leaves : List (Option Leaf)) (class : ℕ) (old new : Leaf) → UnitsAreUpTo n leaves → leaf_at leaves class ≡ Some old
    → class < length leaves → new.units ≤ old.units + 2 ^ 65 → UnitsAreUpTo (n + 2 ^ 65) (set leaves class (Some new))
units_set n leaves class old new few e lt more = λ d. elim (cases_eq class d) [
  | inl same ↦
      let P : ℕ → Type 0 = λ c. ForLeaf (leaf_at (set leaves class (Some new)) c) (λ leaf. leaf.units ≤ n + 2 ^ 65) in
      let Q : Option Leaf → Type 0 = λ o. ForLeaf o (λ leaf. leaf.units ≤ n) in
      let R : Option Leaf → Type 0 = λ o. ForLeaf o (λ leaf. leaf.units ≤ n + 2 ^ 65) in
      let low : old.units ≤ n = subst Q e (few class) in
      let high : new.units ≤ n + 2 ^ 65 = omega (arith, low, more) in
      subst P same (subst R (sym (get_or-set_same leaves class (Some new) None lt)) high)
  | inr ne ↦
      let R : Option Leaf → Type 0 = λ o. ForLeaf o (λ leaf. leaf.units ≤ n + 2 ^ 65) in
      subst R (sym (get_or-set_other leaves class d (Some new) None (λ f. ne (sym f)))) (wider n (leaf_at leaves d) (few d))
]
  where
    wider : (m : ℕ) (o : Option Leaf) → ForLeaf o (λ leaf. leaf.units ≤ m) → ForLeaf o (λ leaf. leaf.units ≤ m + 2 ^ 65)
    wider m None h = tt
    wider m (Some leaf) h = omega (arith, h)

pub units_same : (n : ℕ) (leaves : List (Option Leaf)) → UnitsAreUpTo n leaves → UnitsAreUpTo (n + 2 ^ 65) leaves
units_same n leaves few = λ d. wider (leaf_at leaves d) (few d)
  where
    wider : (o : Option Leaf) → ForLeaf o (λ leaf. leaf.units ≤ n) → ForLeaf o (λ leaf. leaf.units ≤ n + 2 ^ 65)
    wider None h = tt
    wider (Some leaf) h = omega (arith, h)

pub leaf_there : (leaves : List (Option Leaf)) (now : Option Leaf) (class : ℕ) (leaf : Leaf) → class < length leaves → now ≡ get_or leaves class now
    → now ≡ Some leaf → leaf_at leaves class ≡ Some leaf
leaf_there leaves now class leaf lt value is = sym (value ∙ get_or_default leaves class now None lt) ∙ is
