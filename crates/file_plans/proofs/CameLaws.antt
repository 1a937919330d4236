-- Files that come to be, one after another.
use Rattle.std.proofs.Common.{◌≡◌, ◌≢◌, ◌∙◌, ◌⊎◌, ◌++◌, ℕ, List, [], ◌∷◌, None, Some, ap, sym, refl, subst, inl, inr, arith}
use Rattle.std.specs.Prelude.{IsTrue}
use Rattle.std.specs.declared.option.Option.{Option}
use Rattle.play_base.specs.View.{View, Everything, Created, Keeps, IsNewFile, NoneAppears, Opened, Said, Took, Unchanged, Wrote}
use Rattle.play_base.proofs.ViewLaws.{keeps_refl, later_trans}
use Rattle.file_plans.specs.declared.plan.Way.TheVariants as way
use Rattle.file_plans.specs.declared.part.Part.{Part}
use Rattle.file_plans.specs.declared.plan.Way.{Way}
use Rattle.file_plans.specs.Came.{AreOf, Came, IsAmong, Works}
use Rattle.file_plans.specs.Parts.{part_number}
use Rattle.file_plans.specs.Plan.{IfWritten, IsOther, IsUnwritten, Place, number_of, read_place, written_place}

pub none_some : (p : ℕ) → None ≡ Some p → ⊥
none_some p h = cc

pub same_part : (p q : ℕ) → Some p ≡ Some q → p ≡ q
same_part p q h = cc

pub same_or_not : (n m : ℕ) → (n ≡ m) ⊎ (n ≢ m)
same_or_not n m = grind arith

pub there_or_not : (o : Option ℕ) → (o ≡ None) ⊎ ((p : ℕ) × (o ≡ Some p))
there_or_not None = inl refl
there_or_not (Some p) = inr (p, refl)

-- a file that was not there after calls was not there before
pub fresh_before : (N : List ℕ → Type 0) (F : ℕ → Type 0) (a b : View) (f : ℕ) → Keeps N F a b → b.part f ≡ None → a.part f ≡ None
fresh_before N F a b f k fresh = by (there_or_not (a.part f))
  where
    by : (a.part f ≡ None) ⊎ ((p : ℕ) × (a.part f ≡ Some p)) → a.part f ≡ None
    by (inl e) = e
    by (inr e) = absurd (none_some e.0 (sym fresh ∙ k.part f e.0 e.1))

of_later : (N : List ℕ → Type 0) (F : ℕ → Type 0) (a b c : View) (es : List Place) (fs : List ℕ) → Keeps N F b c → AreOf a b es fs → AreOf a c es fs
of_later N F a b c [] [] k x = tt
of_later N F a b c [] (f ∷ fs) k x = absurd x
of_later N F a b c (e ∷ es) [] k x = absurd x
of_later N F a b c (e ∷ es) (f ∷ fs) k x = (
  record { fresh = x.0.fresh; part = k.part f (number_of e) x.0.part; name = λ t. k.name f (number_of e) x.0.part ∙ x.0.name t },
  of_later N F a b c es fs k x.1,
)

of_earlier : (N : List ℕ → Type 0) (F : ℕ → Type 0) (a b c : View) (es : List Place) (fs : List ℕ) → Keeps N F a b → AreOf b c es fs → AreOf a c es fs
of_earlier N F a b c [] [] k x = tt
of_earlier N F a b c [] (f ∷ fs) k x = absurd x
of_earlier N F a b c (e ∷ es) [] k x = absurd x
of_earlier N F a b c (e ∷ es) (f ∷ fs) k x = (
  record { fresh = fresh_before N F a b f k x.0.fresh; part = x.0.part; name = λ t. x.0.name (k.tells ∙ t) },
  of_earlier N F a b c es fs k x.1,
)

of_both : (a b : View) (es ds : List Place) (fs gs : List ℕ) → AreOf a b es fs → AreOf a b ds gs → AreOf a b (es ++ ds) (fs ++ gs)
of_both a b [] ds [] gs x y = y
of_both a b [] ds (f ∷ fs) gs x y = absurd x
of_both a b (e ∷ es) ds [] gs x y = absurd x
of_both a b (e ∷ es) ds (f ∷ fs) gs x y = (x.0, of_both a b es ds fs gs x.1 y)

pub of_fresh : (a b : View) (es : List Place) (fs : List ℕ) (f : ℕ) → AreOf a b es fs → IsAmong f fs → a.part f ≡ None
of_fresh a b [] [] f x h = absurd h
of_fresh a b [] (g ∷ gs) f x h = absurd x
of_fresh a b (e ∷ es) [] f x h = absurd x
of_fresh a b (e ∷ es) (g ∷ gs) f x (inl h) = ap a.part h ∙ x.0.fresh
of_fresh a b (e ∷ es) (g ∷ gs) f x (inr h) = of_fresh a b es gs f x.1 h

among_first : (f : ℕ) (fs gs : List ℕ) → IsAmong f fs → IsAmong f (fs ++ gs)
among_first f [] gs h = absurd h
among_first f (g ∷ fs) gs (inl h) = inl h
among_first f (g ∷ fs) gs (inr h) = inr (among_first f fs gs h)

among_second : (f : ℕ) (fs gs : List ℕ) → IsAmong f gs → IsAmong f (fs ++ gs)
among_second f [] gs h = h
among_second f (g ∷ fs) gs h = inr (among_second f fs gs h)

pub written_map : (w : Way) (P Q : Type 0) → (P → Q) → IfWritten w P → IfWritten w Q
written_map way.Read P Q f h = tt
written_map way.Written P Q f h = f h

pub written_all : (w : Way) (P : Type 0) → P → IfWritten w P
written_all way.Read P h = tt
written_all way.Written P h = h

pub unwritten_second : (m : List ℕ) (es ds : List Place) → IsUnwritten (es ++ ds) m → IsUnwritten ds m
unwritten_second m [] ds h = h
unwritten_second m (e ∷ es) ds h = unwritten_second m es ds h.1

-- the name is that of no written one of the first places, and of the others
pub other_first : (v : View) (m : List ℕ) (es ds : List Place) → IsOther v (es ++ ds) m → IsOther v es m
other_first v m [] ds h = tt
other_first v m (e ∷ es) ds h = (h.0, other_first v m es ds h.1)

pub other_second : (v : View) (m : List ℕ) (es ds : List Place) → IsOther v (es ++ ds) m → IsOther v ds m
other_second v m [] ds h = h
other_second v m (e ∷ es) ds h = other_second v m es ds h.1

-- it is so as long as the object tells
pub other_later : (a b : View) (m : List ℕ) (es : List Place) → b.tells ≡ a.tells → IsOther a es m → IsOther b es m
other_later a b m [] t h = tt
other_later a b m (e ∷ es) t h = (
  written_map e.way (IsTrue a.tells × (m ≢ e.name)) (IsTrue b.tells × (m ≢ e.name)) (λ x. (t ∙ x.0, x.1)) h.0,
  other_later a b m es t h.1,
)

pub other_where_told : (v : View) (m : List ℕ) (es : List Place) → IsTrue v.tells → IsUnwritten es m → IsOther v es m
other_where_told v m [] t h = tt
other_where_told v m (e ∷ es) t h =
    (written_map e.way (m ≢ e.name) (IsTrue v.tells × (m ≢ e.name)) (λ x. (t, x)) h.0, other_where_told v m es t h.1)

-- no file yet
pub came_none : (a : View) → Came [] [] a a
came_none a = record {
  are = tt;
  only = λ f p fresh e. absurd (none_some p (sym fresh ∙ e));
  keeps = keeps_refl (IsOther a []) (λ f. IsOther a [] (a.name f)) a;
}

-- the files of the one and then those of the other
pub came_more : (es ds : List Place) (fs gs : List ℕ) (a b c : View) → Came es fs a b → Came ds gs b c → Came (es ++ ds) (fs ++ gs) a c
came_more es ds fs gs a b c x y = record {
  are = of_both a c es ds fs gs (of_later _ _ a b c es fs y.keeps x.are) (of_earlier _ _ a b c ds gs x.keeps y.are);
  only = λ f p fresh e. by f p fresh e (there_or_not (b.part f));
  keeps = record {
    tells = y.keeps.tells ∙ x.keeps.tells;
    bytes = λ m h. y.keeps.bytes m (other_later a b m ds x.keeps.tells (other_second a m es ds h)) ∙ x.keeps.bytes m (other_first a m es ds h);
    left = λ f p e h.
        let P : List ℕ → Type 0 = λ m. IsOther b ds m in
        y.keeps.left f p (x.keeps.part f p e)
        (subst P (sym (x.keeps.name f p e)) (other_later a b (a.name f) ds x.keeps.tells (other_second a (a.name f) es ds h)))
        ∙ x.keeps.left f p e (other_first a (a.name f) es ds h);
    part = λ f p e. y.keeps.part f p (x.keeps.part f p e);
    name = λ f p e. y.keeps.name f p (x.keeps.part f p e) ∙ x.keeps.name f p e;
    later = later_trans a b c x.keeps.later y.keeps.later;
  };
}
  where
    by : (f p : ℕ) → a.part f ≡ None → c.part f ≡ Some p → (b.part f ≡ None) ⊎ ((q : ℕ) × (b.part f ≡ Some q)) → IsAmong f (fs ++ gs)
    by f p fresh e (inl h) = among_second f fs gs (y.only f p h e)
    by f p fresh e (inr h) = among_first f fs gs (x.only f h.0 fresh h.1)

-- what is done with them leaves them there
pub came_works : (es : List Place) (fs : List ℕ) (a b c : View) → Came es fs a b → Works es fs b c → Came es fs a c
came_works es fs a b c x w = record {
  are = of_later _ _ a b c es fs w.keeps x.are;
  only = λ f p fresh e. by f p fresh e (there_or_not (b.part f));
  keeps = record {
    tells = w.keeps.tells ∙ x.keeps.tells;
    bytes = λ m h. w.keeps.bytes m (other_later a b m es x.keeps.tells h) ∙ x.keeps.bytes m h;
    left = λ f p e h.
        let P : List ℕ → Type 0 = λ m. IsOther b es m in
        w.keeps.left f p (x.keeps.part f p e)
        (subst P (sym (x.keeps.name f p e)) (other_later a b (a.name f) es x.keeps.tells h), λ m. none_some p (sym (of_fresh a b es fs f x.are m) ∙ e))
        ∙ x.keeps.left f p e h;
    part = λ f p e. w.keeps.part f p (x.keeps.part f p e);
    name = λ f p e. w.keeps.name f p (x.keeps.part f p e) ∙ x.keeps.name f p e;
    later = later_trans a b c x.keeps.later w.keeps.later;
  };
}
  where
    by : (f p : ℕ) → a.part f ≡ None → c.part f ≡ Some p → (b.part f ≡ None) ⊎ ((q : ℕ) × (b.part f ≡ Some q)) → IsAmong f fs
    by f p fresh e (inl h) = absurd (none_some p (sym (w.none f h) ∙ e))
    by f p fresh e (inr h) = x.only f h.0 fresh h.1

pub works_then : (es : List Place) (fs : List ℕ) (a b c : View) → Works es fs a b → Works es fs b c → Works es fs a c
works_then es fs a b c x y = record {
  keeps = record {
    tells = y.keeps.tells ∙ x.keeps.tells;
    bytes = λ m h. y.keeps.bytes m (other_later a b m es x.keeps.tells h) ∙ x.keeps.bytes m h;
    left = λ f p e h.
        let P : List ℕ → Type 0 = λ m. IsOther b es m in
        y.keeps.left f p (x.keeps.part f p e) (subst P (sym (x.keeps.name f p e)) (other_later a b (a.name f) es x.keeps.tells h.0), h.1)
        ∙ x.keeps.left f p e h;
    part = λ f p e. y.keeps.part f p (x.keeps.part f p e);
    name = λ f p e. y.keeps.name f p (x.keeps.part f p e) ∙ x.keeps.name f p e;
    later = later_trans a b c x.keeps.later y.keeps.later;
  };
  none = λ f h. y.none f (x.none f h);
}

-- what keeps every name and every other file
works_keeps : (F : ℕ → Type 0) (es : List Place) (fs : List ℕ) (a b : View) → ((f : ℕ) → (IsAmong f fs → ⊥) → F f) → Keeps Everything F a b → NoneAppears a b → Works es fs a b
works_keeps F es fs a b h k n = record {
  keeps = record {
    tells = k.tells;
    bytes = λ m _. k.bytes m tt;
    left = λ f p e o. k.left f p e (h f o.1);
    part = k.part;
    name = k.name;
    later = k.later;
  };
  none = n;
}

pub works_unchanged : (es : List Place) (fs : List ℕ) (a b : View) → Unchanged a b → Works es fs a b
works_unchanged es fs a b x = works_keeps Everything es fs a b (λ f _. tt) x.keeps x.none

pub works_said : (es : List Place) (fs : List ℕ) (a b : View) (text : List ℕ) → Said a b text → Works es fs a b
works_said es fs a b text x = works_keeps Everything es fs a b (λ f _. tt) x.keeps x.none

-- one of the files is read
pub works_took : (es : List Place) (fs : List ℕ) (a b : View) (file : ℕ) (bytes : List ℕ) → IsAmong file fs → Took a b file bytes → Works es fs a b
works_took es fs a b file bytes h x =
    let P : ℕ → Type 0 = λ g. IsAmong g fs in
    works_keeps (λ f. f ≢ file) es fs a b (λ f o s. o (subst P (sym s) h)) x.keeps x.none

-- a file of a written place's name is written
pub works_wrote : (es : List Place) (fs : List ℕ) (a b : View) (file : ℕ) (bytes : List ℕ)
    → ((n : List ℕ) → IsOther a es n → n ≢ a.name file) → Wrote a b file bytes → Works es fs a b
works_wrote es fs a b file bytes h x = record {
  keeps = record {
    tells = x.keeps.tells;
    bytes = λ m o. x.keeps.bytes m (h m o);
    left = λ f p e o. x.keeps.left f p e (h (a.name f) o.0);
    part = x.keeps.part;
    name = x.keeps.name;
    later = x.keeps.later;
  };
  none = x.none;
}

only_new : (a b : View) (part : ℕ) (name : List ℕ) (file f p : ℕ) → IsNewFile a b part name file → a.part f ≡ None → b.part f ≡ Some p
    → (f ≡ file) ⊎ (f ≢ file) → IsAmong f (file ∷ [])
only_new a b part name file f p x fresh e (inl s) = inl s
only_new a b part name file f p x fresh e (inr s) = absurd (none_some p (sym (x.none f s fresh) ∙ e))

-- a file that is opened
pub came_opened : (a b : View) (p : Part) (name : List ℕ) (file : ℕ) → Opened a b (part_number p) name file
    → Came (read_place p name ∷ []) (file ∷ []) a b
came_opened a b p name file x = record {
  are = (record { fresh = x.is_new.fresh; part = x.is_new.part; name = x.is_new.name }, tt);
  only = λ f q fresh e. only_new a b (part_number p) name file f q x.is_new fresh e (same_or_not f file);
  keeps = record {
    tells = x.keeps.tells;
    bytes = λ m _. x.keeps.bytes m tt;
    left = λ f q e _. x.keeps.left f q e tt;
    part = x.keeps.part;
    name = x.keeps.name;
    later = x.keeps.later;
  };
}

-- a file that is created
pub came_created : (a b : View) (p : Part) (name : List ℕ) (file : ℕ) → Created a b (part_number p) name file
    → Came (written_place p name ∷ []) (file ∷ []) a b
came_created a b p name file x = record {
  are = (record { fresh = x.is_new.fresh; part = x.is_new.part; name = x.is_new.name }, tt);
  only = λ f q fresh e. only_new a b (part_number p) name file f q x.is_new fresh e (same_or_not f file);
  keeps = record {
    tells = x.keeps.tells;
    bytes = λ m h. x.keeps.bytes m h.0.1;
    left = λ f q e h. x.keeps.left f q e h.0.1;
    part = x.keeps.part;
    name = x.keeps.name;
    later = x.keeps.later;
  };
}

pub came_unchanged : (es : List Place) (fs : List ℕ) (a b c : View) → Came es fs a b → Unchanged b c → Came es fs a c
came_unchanged es fs a b c x u = came_works es fs a b c x (works_unchanged es fs b c u)

pub came_took : (es : List Place) (fs : List ℕ) (a b c : View) (file : ℕ) (bytes : List ℕ) → IsAmong file fs → Came es fs a b → Took b c file bytes → Came es fs a c
came_took es fs a b c file bytes h x y = came_works es fs a b c x (works_took es fs b c file bytes h y)
