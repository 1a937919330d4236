-- What files that came to be along a plan leave.
use Rattle.std.proofs.Common.{◌≡◌, ◌≢◌, ◌∙◌, ◌⊎◌, ◌++◌, ℕ, zero, suc, Bool, true, false, cond, eq-eqb, append-nil, append_assoc, get_or, slice_get, List, [], ◌∷◌, None, Some, ap, sym, refl, subst, inl, inr}
use Rattle.std.specs.Prelude.{IsTrue, nat_eq}
use Rattle.play_base.specs.View.{View}
use Rattle.file_plans.specs.declared.plan.Way.{Way}
use Rattle.file_plans.specs.declared.plan.Way.TheVariants as way
use Rattle.file_plans.specs.Came.{AreOf, Came, CameAlong, IsAmong, IsOf}
use Rattle.file_plans.specs.End.{AreFew, AreInOrder, AreUntouched, FilesEnd, KeepUncreated, Unless, Untouched}
use Rattle.file_plans.specs.Plan.{AreApart, HasPart, HasPlace, IfWritten, IsOther, IsUnwritten, Place, comes_once, comes_twice, is_part, number_of}
use Rattle.file_plans.proofs.CameLaws.{came_more, other_first, other_where_told, same_part, unwritten_second, written_all, written_map}

true_false : true ≡ false → ⊥
true_false h = cc

either : (b : Bool) → cond b true true ≡ true
either true = refl
either false = refl

named_in : (a b : View) (es ds : List Place) (fs : List ℕ) (f p : ℕ) → AreOf a b es fs → IsTrue a.tells → IsAmong f fs → b.part f ≡ Some p
    → HasPlace (es ++ ds) p (b.name f)
named_in a b [] ds [] f p x t h k = absurd h
named_in a b [] ds (g ∷ gs) f p x t h k = absurd x
named_in a b (e ∷ es) ds [] f p x t h k = absurd x
named_in a b (e ∷ es) ds (g ∷ gs) f p x t (inl h) k = inl (same_part p (number_of e) (sym k ∙ ap b.part h ∙ x.0.part), ap b.name h ∙ x.0.name t)
named_in a b (e ∷ es) ds (g ∷ gs) f p x t (inr h) k = inr (named_in a b es ds gs f p x.1 t h k)

part_in : (a b : View) (es ds : List Place) (fs : List ℕ) (f p : ℕ) → AreOf a b es fs → IsAmong f fs → b.part f ≡ Some p → HasPart (es ++ ds) p
part_in a b [] ds [] f p x h k = absurd h
part_in a b [] ds (g ∷ gs) f p x h k = absurd x
part_in a b (e ∷ es) ds [] f p x h k = absurd x
part_in a b (e ∷ es) ds (g ∷ gs) f p x (inl h) k = inl (same_part p (number_of e) (sym k ∙ ap b.part h ∙ x.0.part))
part_in a b (e ∷ es) ds (g ∷ gs) f p x (inr h) k = inr (part_in a b es ds gs f p x.1 h k)

here : (p : ℕ) (e : Place) (es : List Place) → p ≡ (number_of e) → is_part p (e ∷ es) ≡ true
here p e es h = ap (λ (b : Bool). cond b true (is_part p es)) (eq-eqb p (number_of e) h)

there : (p : ℕ) (e : Place) (es : List Place) → is_part p es ≡ true → is_part p (e ∷ es) ≡ true
there p e es h = ap (λ (b : Bool). cond (nat_eq p (number_of e)) true b) h ∙ either (nat_eq p (number_of e))

is_in : (a b : View) (es ds : List Place) (fs : List ℕ) (f p : ℕ) → AreOf a b es fs → IsAmong f fs → b.part f ≡ Some p → is_part p (es ++ ds) ≡ true
is_in a b [] ds [] f p x h k = absurd h
is_in a b [] ds (g ∷ gs) f p x h k = absurd x
is_in a b (e ∷ es) ds [] f p x h k = absurd x
is_in a b (e ∷ es) ds (g ∷ gs) f p x (inl h) k = here p e (es ++ ds) (same_part p (number_of e) (sym k ∙ ap b.part h ∙ x.0.part))
is_in a b (e ∷ es) ds (g ∷ gs) f p x (inr h) k = there p e (es ++ ds) (is_in a b es ds gs f p x.1 h k)

once_rest : (b r o : Bool) → cond b (cond r false true) o ≡ true → r ≡ true → o ≡ true
once_rest true true o h e = absurd (true_false (sym h))
once_rest true false o h e = absurd (true_false (sym e))
once_rest false r o h e = h

once_twice : (b r o : Bool) → cond b (cond r false true) o ≡ true → b ≡ true → r ≡ true → ⊥
once_twice true true o h d e = true_false (sym h)
once_twice true false o h d e = true_false (sym e)
once_twice false r o h d e = true_false (sym d)

once_in : (a b : View) (es ds : List Place) (fs : List ℕ) (f g p : ℕ) → AreOf a b es fs → comes_once p (es ++ ds) ≡ true → IsAmong f fs → IsAmong g fs
    → b.part f ≡ Some p → b.part g ≡ Some p → f ≡ g
once_in a b [] ds [] f g p x o h k i j = absurd h
once_in a b [] ds (n ∷ ns) f g p x o h k i j = absurd x
once_in a b (e ∷ es) ds [] f g p x o h k i j = absurd x
once_in a b (e ∷ es) ds (n ∷ ns) f g p x o (inl h) (inl k) i j = h ∙ sym k
once_in a b (e ∷ es) ds (n ∷ ns) f g p x o (inl h) (inr k) i j =
    absurd (once_twice (nat_eq p (number_of e)) (is_part p (es ++ ds)) (comes_once p (es ++ ds)) o
    (eq-eqb p (number_of e) (same_part p (number_of e) (sym i ∙ ap b.part h ∙ x.0.part))) (is_in a b es ds ns g p x.1 k j))
once_in a b (e ∷ es) ds (n ∷ ns) f g p x o (inr h) (inl k) i j =
    absurd (once_twice (nat_eq p (number_of e)) (is_part p (es ++ ds)) (comes_once p (es ++ ds)) o
    (eq-eqb p (number_of e) (same_part p (number_of e) (sym j ∙ ap b.part k ∙ x.0.part))) (is_in a b es ds ns f p x.1 h i))
once_in a b (e ∷ es) ds (n ∷ ns) f g p x o (inr h) (inr k) i j =
    once_in a b es ds ns f g p x.1
    (once_rest (nat_eq p (number_of e)) (is_part p (es ++ ds)) (comes_once p (es ++ ds)) o (is_in a b es ds ns f p x.1 h i)) h k i j

head_or_rest : (b o t : Bool) → cond b o t ≡ true → (o ≡ true) ⊎ (t ≡ true)
head_or_rest true o t h = inl h
head_or_rest false o t h = inr h

twice_in : (a b : View) (es ds : List Place) (fs : List ℕ) (f g h p : ℕ) → AreOf a b es fs → comes_twice p (es ++ ds) ≡ true → IsAmong f fs → IsAmong g fs
    → IsAmong h fs → b.part f ≡ Some p → b.part g ≡ Some p → b.part h ≡ Some p → (f ≡ g) ⊎ (f ≡ h) ⊎ (g ≡ h)
twice_in a b [] ds [] f g h p x o i j k u v w = absurd i
twice_in a b [] ds (n ∷ ns) f g h p x o i j k u v w = absurd x
twice_in a b (e ∷ es) ds [] f g h p x o i j k u v w = absurd x
twice_in a b (e ∷ es) ds (n ∷ ns) f g h p x o i j k u v w =
    by (λ m i j k. twice_in a b es ds ns f g h p x.1 m i j k u v w) i j k
  where
    once : b.part n ≡ Some p → comes_once p (es ++ ds) ≡ true
    once is =
        sym (ap (λ (c : Bool). cond c (comes_once p (es ++ ds)) (comes_twice p (es ++ ds))) (eq-eqb p (number_of e) (same_part p (number_of e) (sym is ∙ x.0.part)))) ∙ o

    rest : (comes_twice p (es ++ ds) ≡ true → IsAmong f ns → IsAmong g ns → IsAmong h ns → (f ≡ g) ⊎ (f ≡ h) ⊎ (g ≡ h))
        → IsAmong f ns → IsAmong g ns → IsAmong h ns → (comes_once p (es ++ ds) ≡ true) ⊎ (comes_twice p (es ++ ds) ≡ true) → (f ≡ g) ⊎ (f ≡ h) ⊎ (g ≡ h)
    rest next i j k (inl m) = inl (once_in a b es ds ns f g p x.1 m i j u v)
    rest next i j k (inr m) = next m i j k

    by : (comes_twice p (es ++ ds) ≡ true → IsAmong f ns → IsAmong g ns → IsAmong h ns → (f ≡ g) ⊎ (f ≡ h) ⊎ (g ≡ h))
        → (f ≡ n) ⊎ IsAmong f ns → (g ≡ n) ⊎ IsAmong g ns → (h ≡ n) ⊎ IsAmong h ns → (f ≡ g) ⊎ (f ≡ h) ⊎ (g ≡ h)
    by next (inl i) (inl j) k = inl (i ∙ sym j)
    by next (inl i) (inr j) (inl k) = inr (inl (i ∙ sym k))
    by next (inr i) (inl j) (inl k) = inr (inr (j ∙ sym k))
    by next (inl i) (inr j) (inr k) = inr (inr (once_in a b es ds ns g h p x.1 (once (sym (ap b.part i) ∙ u)) j k v w))
    by next (inr i) (inl j) (inr k) = inr (inl (once_in a b es ds ns f h p x.1 (once (sym (ap b.part j) ∙ v)) i k u w))
    by next (inr i) (inr j) (inl k) = inl (once_in a b es ds ns f g p x.1 (once (sym (ap b.part k) ∙ w)) i j u v)
    by next (inr i) (inr j) (inr k) = rest next i j k (head_or_rest (nat_eq p (number_of e)) (comes_once p (es ++ ds)) (comes_twice p (es ++ ds)) o)

unless : (c : Bool) (P : Type 0) → (c ≡ false → P) → Unless c P
unless true P h = tt
unless false P h = h refl

none_later : (a b : View) (before ds : List Place) → ((f p : ℕ) → a.part f ≡ None → b.part f ≡ Some p → is_part p before ≡ true) → AreUntouched a b before ds
none_later a b before [] h = tt
none_later a b before (d ∷ ds) h = (
  unless (is_part (number_of d) before) (Untouched a b (number_of d)) (λ no f fresh e. true_false (sym (h f (number_of d) fresh e) ∙ no)),
  none_later a b before ds h,
)

order_none : (a b : View) (before ds : List Place) → ((f p : ℕ) → a.part f ≡ None → b.part f ≡ Some p → is_part p before ≡ true) → AreInOrder a b before ds
order_none a b before [] h = tt
order_none a b before (d ∷ ds) h =
    (λ _. none_later a b before ds h, order_none a b (d ∷ before) ds (λ f p fresh e. there p d before (h f p fresh e)))

order_in : (a b : View) (before es ds : List Place) (fs : List ℕ) → AreOf a b es fs
    → ((f p : ℕ) → a.part f ≡ None → b.part f ≡ Some p → (is_part p before ≡ true) ⊎ IsAmong f fs) → AreInOrder a b before (es ++ ds)
order_in a b before [] ds [] x h = order_none a b before ds (λ f p fresh e. by p f (h f p fresh e))
  where
    by : (p f : ℕ) → (is_part p before ≡ true) ⊎ IsAmong f [] → is_part p before ≡ true
    by p f (inl m) = m
    by p f (inr m) = absurd m
order_in a b before [] ds (g ∷ gs) x h = absurd x
order_in a b before (e ∷ es) ds [] x h = absurd x
order_in a b before (e ∷ es) ds (g ∷ gs) x h = (
  λ u. absurd (u g x.0.fresh x.0.part),
  order_in a b (e ∷ before) es ds gs x.1 (λ f p fresh k. by f p k (h f p fresh k)),
)
  where
    by : (f p : ℕ) → b.part f ≡ Some p → (is_part p before ≡ true) ⊎ IsAmong f (g ∷ gs) → (is_part p (e ∷ before) ≡ true) ⊎ IsAmong f gs
    by f p k (inl m) = inl (there p e before m)
    by f p k (inr (inl m)) = inl (here p e before (same_part p (number_of e) (sym k ∙ ap b.part m ∙ x.0.part)))
    by f p k (inr (inr m)) = inr m

-- the name of each written one of these is that of no written one of those
abbrev pub Apart : List Place → List Place → Type 0
Apart es [] = Unit {0}
Apart es (d ∷ ds) = IfWritten d.way (IsUnwritten es d.name) × Apart es ds

swap : (w v : Way) (P Q R S : Type 0) → (P → Q) → IfWritten w (IfWritten v P × S) → IfWritten v R → IfWritten v (IfWritten w Q × R)
swap way.Read way.Read P Q R S f h r = tt
swap way.Written way.Read P Q R S f h r = tt
swap way.Read way.Written P Q R S f h r = (tt, r)
swap way.Written way.Written P Q R S f h r = (f h.0, r)

apart_none : (ds : List Place) → Apart [] ds
apart_none [] = tt
apart_none (d ∷ ds) = (written_all d.way (Unit {0}) tt, apart_none ds)

apart_more : (e : Place) (es ds : List Place) → IfWritten e.way (IsUnwritten ds e.name) → Apart es ds → Apart (e ∷ es) ds
apart_more e es [] h x = tt
apart_more e es (d ∷ ds) h x = (
  swap e.way d.way (e.name ≢ d.name) (d.name ≢ e.name) (IsUnwritten es d.name) (IsUnwritten ds e.name) (λ n s. n (sym s)) h x.0,
  apart_more e es ds (written_map e.way (IsUnwritten (d ∷ ds) e.name) (IsUnwritten ds e.name) (λ y. y.1) h) x.1,
)

apart_of : (es ds : List Place) → AreApart (es ++ ds) → Apart es ds
apart_of [] ds h = apart_none ds
apart_of (e ∷ es) ds h =
    apart_more e es ds (written_map e.way (IsUnwritten (es ++ ds) e.name) (IsUnwritten ds e.name) (unwritten_second e.name es ds) h.0) (apart_of es ds h.1)

uncreated_rest : (a b : View) (es ds : List Place) → IsTrue a.tells → ((m : List ℕ) → IsOther a es m → b.bytes m ≡ a.bytes m) → Apart es ds → KeepUncreated a b ds
uncreated_rest a b es [] t k x = tt
uncreated_rest a b es (d ∷ ds) t k x = (
  written_map d.way (IsUnwritten es d.name) (Untouched a b (number_of d) → b.bytes d.name ≡ a.bytes d.name) (λ y _. k d.name (other_where_told a d.name es t y)) x.0,
  uncreated_rest a b es ds t k x.1,
)

uncreated_in : (a b : View) (es ds : List Place) (fs : List ℕ) → AreOf a b es fs → KeepUncreated a b ds → KeepUncreated a b (es ++ ds)
uncreated_in a b [] ds [] x h = h
uncreated_in a b [] ds (g ∷ gs) x h = absurd x
uncreated_in a b (e ∷ es) ds [] x h = absurd x
uncreated_in a b (e ∷ es) ds (g ∷ gs) x h = (
  written_all e.way (Untouched a b (number_of e) → b.bytes e.name ≡ a.bytes e.name) (λ u. absurd (u g x.0.fresh x.0.part)),
  uncreated_in a b es ds gs x.1 h,
)

pub front_end : (es ds : List Place) (fs : List ℕ) (a b : View) → Came es fs a b → AreFew a b (es ++ ds) → FilesEnd (es ++ ds) a b
front_end es ds fs a b x few = record {
  named = λ t f p fresh k. named_in a b es ds fs f p x.are t (x.only f p fresh k) k;
  parts = λ f p fresh k. part_in a b es ds fs f p x.are (x.only f p fresh k) k;
  once = λ f g p o fresh other k l. once_in a b es ds fs f g p x.are o (x.only f p fresh k) (x.only g p other l) k l;
  twice = λ f g h p o fresh other third k l m.
      twice_in a b es ds fs f g h p x.are o (x.only f p fresh k) (x.only g p other l) (x.only h p third m) k l m;
  order = order_in a b [] es ds fs x.are (λ f p fresh k. inr (x.only f p fresh k));
  uncreated = λ t h. uncreated_in a b es ds fs x.are (uncreated_rest a b es ds t x.keeps.bytes (apart_of es ds h));
  others = record {
    tells = x.keeps.tells;
    bytes = λ m h. x.keeps.bytes m (other_first a m es ds h);
    left = λ f p e h. x.keeps.left f p e (other_first a (a.name f) es ds h);
    part = x.keeps.part;
    name = x.keeps.name;
    later = x.keeps.later;
  };
  few = few;
}

-- what came to be along a plan ends so
pub files_end : (plan : List Place) (a b : View) → CameAlong plan a b → AreFew a b plan → FilesEnd plan a b
files_end plan a b x few =
    let P : List Place → Type 0 = λ es. FilesEnd es a b in
    let Q : List Place → Type 0 = λ es. AreFew a b es in
    subst P (sym x.split) (front_end x.front x.rest x.files a b x.came (subst Q x.split few))

-- all of it
pub came_all : (es : List Place) (fs : List ℕ) (a b : View) → Came es fs a b → CameAlong es a b
came_all es fs a b x = record { front = es; rest = []; split = sym (append-nil es); files = fs; came = x }

-- some of it
pub came_some : (es ds : List Place) (fs : List ℕ) (a b : View) → Came es fs a b → CameAlong (es ++ ds) a b
came_some es ds fs a b x = record { front = es; rest = ds; split = refl; files = fs; came = x }

-- the one whole, and the next as far as it came
pub came_then : (es plan : List Place) (fs : List ℕ) (a b c : View) → Came es fs a b → CameAlong plan b c → CameAlong (es ++ plan) a c
came_then es plan fs a b c x y = record {
  front = es ++ y.front;
  rest = y.rest;
  split = ap (λ ds. es ++ ds) y.split ∙ sym (append_assoc es y.front y.rest);
  files = fs ++ y.files;
  came = came_more es y.front fs y.files a b c x y.came;
}

some_same : (d e : Place) → Some d ≡ Some e → d ≡ e
some_same d e h = cc

-- the place's file is at its index
pub of_at : (a b : View) (es : List Place) (fs : List ℕ) (i : ℕ) (e : Place) → AreOf a b es fs → slice_get es i ≡ Some e
    → IsOf a b e (get_or fs i 0) × IsAmong (get_or fs i 0) fs
of_at a b [] fs i e x h = cc
of_at a b (d ∷ es) [] i e x h = absurd x
of_at a b (d ∷ es) (f ∷ fs) zero e x h =
    let P : Place → Type 0 = λ y. IsOf a b y f in
    (subst P (some_same d e h) x.0, inl refl)
of_at a b (d ∷ es) (f ∷ fs) (suc i) e x h = let y = of_at a b es fs i e x.1 h in (y.0, inr y.1)
