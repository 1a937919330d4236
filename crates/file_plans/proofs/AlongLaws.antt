-- The files of a plan come to be one by one, and are used.
use Rattle.std.proofs.Common.{◌≡◌, ◌≢◌, ◌<◌, ◌+◌, ◌∙◌, ◌⊎◌, ◌++◌, ℕ, zero, suc, List, [], ◌∷◌, Some, IsTrue, length, take, drop, get_or, slice_get, slice_set, ap, sym, refl, subst, inl, inr, arith}
use Rattle.std.specs.Prelude.{IsSome}
use Rattle.std.proofs.lemmas.List.{take_more, take_more_set, take-append-drop}
use Rattle.play_base.specs.Holds.{Apart, HoldsAt}
use Rattle.play_base.specs.View.{View, Later, SameCounts, Unchanged, Wrote}
use Rattle.play_base.proofs.ViewLaws.{is_some_of, rose_later, same_trans}
use Rattle.file_plans.specs.declared.plan.Entry.{Entry}
use Rattle.file_plans.specs.declared.plan.Way.{Way}
use Rattle.file_plans.specs.declared.plan.Way.TheVariants as way
use Rattle.file_plans.specs.Came.{AreEmpty, Came, CameAlong, IsRefused, Refuses}
use Rattle.file_plans.specs.Plan.{IfWritten, IsOther, Place, number_of, place_of, places_of}
use Rattle.file_plans.proofs.CameLaws.{came_more, came_works, same_or_not, works_unchanged, works_wrote, written_map}
use Rattle.file_plans.proofs.EndLaws.{came_some, of_at}

places_both : (es ds : List Entry) → places_of (es ++ ds) ≡ places_of es ++ places_of ds
places_both [] ds = refl
places_both (e ∷ es) ds = ap (λ ps. place_of e ∷ ps) (places_both es ds)

pub places_more : (es : List Entry) (i : ℕ) (d : Entry) → i < length es → places_of (take (i + 1) es) ≡ places_of (take i es) ++ place_of (get_or es i d) ∷ []
places_more es i d h = ap places_of (take_more es i d h) ∙ places_both (take i es) (get_or es i d ∷ [])

-- one more
pub came_next : (es : List Entry) (fs : List ℕ) (i : ℕ) (d : Entry) (file : ℕ) (a b c : View) → i < length es → length fs ≡ length es
    → Came (places_of (take i es)) (take i fs) a b → Came (place_of (get_or es i d) ∷ []) (file ∷ []) b c
    → Came (places_of (take (i + 1) es)) (take (i + 1) (slice_set fs i file)) a c
came_next es fs i d file a b c h l x y =
    let P : List Place → Type 0 = λ ps. Came ps (take (i + 1) (slice_set fs i file)) a c in
    let Q : List ℕ → Type 0 = λ gs. Came (places_of (take i es) ++ place_of (get_or es i d) ∷ []) gs a c in
    let m : i < length fs = omega arith in
    subst P (sym (places_more es i d h))
    (subst Q (sym (take_more_set fs i file m)) (came_more (places_of (take i es)) (place_of (get_or es i d) ∷ []) (take i fs) (file ∷ []) a b c x y))

-- these, and no more
pub came_so_far : (es : List Entry) (fs : List ℕ) (i : ℕ) (a b : View) → Came (places_of (take i es)) fs a b → CameAlong (places_of es) a b
came_so_far es fs i a b x =
    let P : List Place → Type 0 = λ ps. CameAlong ps a b in
    subst P (sym (places_both (take i es) (drop i es)) ∙ ap places_of (take-append-drop i es)) (came_some (places_of (take i es)) (places_of (drop i es)) fs a b x)

pub came_refused : (es : List Entry) (fs : List ℕ) (i : ℕ) (a b c : View) → Came (places_of (take i es)) fs a b → Unchanged b c → CameAlong (places_of es) a c
came_refused es fs i a b c x u =
    came_so_far es fs i a c (came_works (places_of (take i es)) fs a b c x (works_unchanged (places_of (take i es)) fs b c u))

place_at : (es : List Entry) (i : ℕ) (d : Entry) (e : Place) → slice_get (places_of es) i ≡ Some e → place_of (get_or es i d) ≡ e
place_at [] i d e h = cc
place_at (x ∷ es) zero d e h = cc
place_at (x ∷ es) (suc i) d e h = place_at es i d e h

refuses_earlier : (w : Way) (a b c : View) (e : Place) → Later a b → SameCounts a b → Refuses w b c e → Refuses w a c e
refuses_earlier way.Read a b c e l s (inl r) = inl (rose_later _ _ _ (l.read (number_of e)) r)
refuses_earlier way.Read a b c e l s (inr m) = inr (m.0, same_trans a b c s m.1)
refuses_earlier way.Written a b c e l s r = rose_later _ _ _ (l.write (number_of e)) r

pub refused_at : (es : List Entry) (i : ℕ) (d : Entry) (e : Place) (a b c : View) → Later a b → SameCounts a b → IsRefused b c (place_of (get_or es i d))
    → slice_get (places_of es) i ≡ Some e → IsRefused a c e
refused_at es i d e a b c l s r h =
    let P : Place → Type 0 = λ x. IsRefused a c x in
    subst P (place_at es i d e h) (refuses_earlier (get_or es i d).way a b c (place_of (get_or es i d)) l s r)

same_name_or_not : (m n : List ℕ) → (m ≡ n) ⊎ (m ≢ n)
same_name_or_not [] [] = inl refl
same_name_or_not [] (y ∷ ys) = inr (λ h. cc)
same_name_or_not (x ∷ xs) [] = inr (λ h. cc)
same_name_or_not (x ∷ xs) (y ∷ ys) = by (same_or_not x y) (same_name_or_not xs ys)
  where
    by : (x ≡ y) ⊎ (x ≢ y) → (xs ≡ ys) ⊎ (xs ≢ ys) → (x ∷ xs ≡ y ∷ ys) ⊎ (x ∷ xs ≢ y ∷ ys)
    by (inl h) (inl k) = inl cc
    by (inl h) (inr k) = inr (λ e. k cc)
    by (inr h) k = inr (λ e. h cc)

still : (v : Way) (n m : List ℕ) (b c : View) → ((m : List ℕ) → IfWritten v (m ≢ n) → c.bytes m ≡ b.bytes m) → IfWritten v (c.bytes n ≡ Some [])
    → b.bytes m ≡ Some [] → (m ≡ n) ⊎ (m ≢ n) → c.bytes m ≡ Some []
still way.Read n m b c k e h s = k m tt ∙ h
still way.Written n m b c k e h (inl s) = ap c.bytes s ∙ e
still way.Written n m b c k e h (inr s) = k m s ∙ h

still_empty : (b c : View) (d : Place) (es : List Place) → ((m : List ℕ) → IfWritten d.way (m ≢ d.name) → c.bytes m ≡ b.bytes m)
    → IfWritten d.way (c.bytes d.name ≡ Some []) → AreEmpty b es → AreEmpty c es
still_empty b c d [] k e h = tt
still_empty b c d (x ∷ es) k e h = (
  written_map x.way (b.bytes x.name ≡ Some []) (c.bytes x.name ≡ Some []) (λ y. still d.way d.name x.name b c k e y (same_name_or_not x.name d.name)) h.0,
  still_empty b c d es k e h.1,
)

both_empty : (c : View) (es ds : List Place) → AreEmpty c es → AreEmpty c ds → AreEmpty c (es ++ ds)
both_empty c [] ds x y = y
both_empty c (e ∷ es) ds x y = (x.0, both_empty c es ds x.1 y)

beside : (v : View) (d : Place) (m : List ℕ) → IsTrue v.tells → IfWritten d.way (m ≢ d.name) → IfWritten d.way (IsTrue v.tells × (m ≢ d.name))
beside v d m t = written_map d.way (m ≢ d.name) (IsTrue v.tells × (m ≢ d.name)) (λ x. (t, x))

-- a name that was empty is, and the next
pub empty_next : (es : List Entry) (fs : List ℕ) (i : ℕ) (d : Entry) (file : ℕ) (b c : View) → i < length es → IsTrue b.tells
    → AreEmpty b (places_of (take i es)) → Came (place_of (get_or es i d) ∷ []) (file ∷ []) b c → AreEmpty c (place_of (get_or es i d) ∷ [])
    → AreEmpty c (places_of (take (i + 1) es))
empty_next es fs i d file b c h t x y e =
    let P : List Place → Type 0 = λ ps. AreEmpty c ps in
    subst P (sym (places_more es i d h))
    (both_empty c (places_of (take i es)) (place_of (get_or es i d) ∷ [])
    (still_empty b c (place_of (get_or es i d)) (places_of (take i es)) (λ m n. y.keeps.bytes m (beside b (place_of (get_or es i d)) m t n, tt)) e.0 x) e)

written_other : (w : Way) (P : Type 0) → w ≡ way.Written → IfWritten w P → P
written_other way.Read P h x = cc
written_other way.Written P h x = x

-- a name that is no written place's is not this one's
pub other_at : (v : View) (es : List Place) (i : ℕ) (e : Place) (n : List ℕ) → slice_get es i ≡ Some e → e.way ≡ way.Written → IsOther v es n
    → IsTrue v.tells × (n ≢ e.name)
other_at v [] i e n h w u = cc
other_at v (d ∷ es) zero e n h w u =
    let s : d ≡ e = cc in
    let P : Place → Type 0 = λ x. IfWritten x.way (IsTrue v.tells × (n ≢ x.name)) in
    written_other e.way (IsTrue v.tells × (n ≢ e.name)) w (subst P s u.0)
other_at v (d ∷ es) (suc i) e n h w u = other_at v es i e n h w u.1

-- a place's file is there
pub file_at : (es : List Place) (fs : List ℕ) (i : ℕ) (e : Place) (a b : View) → slice_get es i ≡ Some e → Came es fs a b → IsSome (b.part (get_or fs i 0))
file_at es fs i e a b h x = is_some_of (b.part (get_or fs i 0)) (number_of e) (of_at a b es fs i e x.are h).0.part

-- a written place's file is written
pub came_wrote : (es : List Place) (fs : List ℕ) (i : ℕ) (e : Place) (bytes : List ℕ) (a b c : View) → slice_get es i ≡ Some e → e.way ≡ way.Written
    → Came es fs a b → Wrote b c (get_or fs i 0) bytes → Came es fs a c
came_wrote es fs i e bytes a b c h w x y =
    came_works es fs a b c x
    (works_wrote es fs b c (get_or fs i 0) bytes
    (λ n u s.
    let o : IsTrue b.tells × (n ≢ e.name) = other_at b es i e n h w u in
    o.1 (s ∙ (of_at a b es fs i e x.are h).0.name (sym x.keeps.tells ∙ o.0))) y)

-- and holds these bytes
pub wrote_bytes : (es : List Place) (fs : List ℕ) (i : ℕ) (e : Place) (bytes : List ℕ) (a b c : View) → slice_get es i ≡ Some e → Came es fs a b
    → b.bytes e.name ≡ Some [] → Wrote b c (get_or fs i 0) bytes → IsTrue a.tells → c.bytes e.name ≡ Some bytes
wrote_bytes es fs i e bytes a b c h x z y t =
    let n : b.name (get_or fs i 0) ≡ e.name = (of_at a b es fs i e x.are h).0.name t in
    ap c.bytes (sym n) ∙ y.grown (x.keeps.tells ∙ t) [] (ap b.bytes n ∙ z)

empty_at : (v : View) (es : List Place) (i : ℕ) (e : Place) → slice_get es i ≡ Some e → e.way ≡ way.Written → AreEmpty v es → v.bytes e.name ≡ Some []
empty_at v [] i e h w x = cc
empty_at v (d ∷ es) zero e h w x =
    let s : d ≡ e = cc in
    let P : Place → Type 0 = λ y. IfWritten y.way (v.bytes y.name ≡ Some []) in
    written_other e.way (v.bytes e.name ≡ Some []) w (subst P s x.0)
empty_at v (d ∷ es) (suc i) e h w x = empty_at v es i e h w x.1

-- a written place's file holds nothing yet
pub empty_holds : (es : List Place) (fs : List ℕ) (i : ℕ) (e : Place) (a b : View) → slice_get es i ≡ Some e → e.way ≡ way.Written → Came es fs a b
    → (IsTrue a.tells → AreEmpty b es) → HoldsAt b (get_or fs i 0) []
empty_holds es fs i e a b h w x y = record {
  there = file_at es fs i e a b h x;
  bytes = λ t.
      let told : IsTrue a.tells = sym x.keeps.tells ∙ t in
      ap b.bytes ((of_at a b es fs i e x.are h).0.name told) ∙ empty_at b es i e h w (y told);
}

-- the files of two places have their names
pub names_apart : (es : List Place) (fs : List ℕ) (i j : ℕ) (d e : Place) (a b : View) → slice_get es i ≡ Some d → slice_get es j ≡ Some e
    → d.name ≢ e.name → Came es fs a b → Apart b (get_or fs i 0) (get_or fs j 0)
names_apart es fs i j d e a b h k n x = λ t s.
    let told : IsTrue a.tells = sym x.keeps.tells ∙ t in
    n (sym ((of_at a b es fs i d x.are h).0.name told) ∙ s ∙ (of_at a b es fs j e x.are k).0.name told)
