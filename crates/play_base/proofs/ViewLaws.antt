-- Calls one after another.
use Rattle.std.specs.Prelude.{◌≡◌, ◌≢◌, ℕ, List, ◌++◌, [], ◌≤◌, None, Some, IsTrue, IsSome}
use Rattle.std.proofs.Common.{arith, ◌∙◌, ap, sym, refl, subst, append_assoc, append-nil}
use Rattle.std.specs.declared.option.Option.{Option}
use Rattle.play_base.specs.View.{View, Rose, Later, SameCounts, Keeps, Everything, Unchanged, Took, Wrote, Opened, Created, OtherThan, NotNamed}

pub later_trans : (a b c : View) → Later a b → Later b c → Later a c
later_trans a b c x y = record {
  read = λ p. omega (arith, x.read p, y.read p);
  write = λ p. omega (arith, x.write p, y.write p);
  fixed = y.fixed ∙ x.fixed;
}

pub same_trans : (a b c : View) → SameCounts a b → SameCounts b c → SameCounts a c
same_trans a b c x y = record { read = λ p. y.read p ∙ x.read p; write = λ p. y.write p ∙ x.write p }

pub same_refl : (a : View) → SameCounts a a
same_refl a = record { read = λ _. refl; write = λ _. refl }

-- what two calls keep is what both keep
pub keeps_trans : (N : List ℕ → Type 0) (F : ℕ → Type 0) (a b c : View) → Keeps N F a b → Keeps N F b c → Keeps N F a c
keeps_trans N F a b c x y = record {
  tells = y.tells ∙ x.tells;
  bytes = λ n h. y.bytes n h ∙ x.bytes n h;
  left = λ f p h k. y.left f p (x.part f p h) k ∙ x.left f p h k;
  part = λ f p h. y.part f p (x.part f p h);
  name = λ f p h. y.name f p (x.part f p h) ∙ x.name f p h;
  later = later_trans a b c x.later y.later;
}

-- what is kept of more is kept of fewer
pub keeps_fewer : (N N' : List ℕ → Type 0) (F F' : ℕ → Type 0) (a b : View)
    → ((n : List ℕ) → N' n → N n) → ((f : ℕ) → F' f → F f) → Keeps N F a b → Keeps N' F' a b
keeps_fewer N N' F F' a b n f x = record {
  tells = x.tells;
  bytes = λ m h. x.bytes m (n m h);
  left = λ g p h k. x.left g p h (f g k);
  part = x.part;
  name = x.name;
  later = x.later;
}

-- a count that rose from a later one rose
pub rose_later : (a b c : ℕ) → a ≤ b → Rose b c → Rose a c
rose_later a b c x y = omega arith

pub rose_before : (a b c : ℕ) → Rose a b → b ≤ c → Rose a c
rose_before a b c x y = omega arith

pub keeps_refl : (N : List ℕ → Type 0) (F : ℕ → Type 0) (v : View) → Keeps N F v v
keeps_refl N F v = record {
  tells = refl;
  bytes = λ _ _. refl;
  left = λ _ _ _ _. refl;
  part = λ _ _ h. h;
  name = λ _ _ _. refl;
  later = record { read = λ p. omega arith; write = λ p. omega arith; fixed = refl };
}

pub took_nothing : (a : View) (file : ℕ) → Took a a file []
took_nothing a file = record { left = λ all h. (all, refl, h); keeps = keeps_refl Everything (λ f. f ≢ file) a; none = λ f h. h; said = refl }

pub took_more : (a b c : View) (file : ℕ) (xs ys : List ℕ) → Took a b file xs → Took b c file ys → Took a c file (xs ++ ys)
took_more a b c file xs ys x y = record {
  left = λ all h.
      let one = x.left all h in
      let two = y.left one.0 one.2 in
      (two.0, one.1 ∙ ap (λ r. xs ++ r) two.1 ∙ sym (append_assoc xs ys two.0), two.2);
  keeps = keeps_trans Everything (λ f. f ≢ file) a b c x.keeps y.keeps;
  none = λ f h. y.none f (x.none f h);
  said = y.said ∙ x.said;
}

pub wrote_nothing : (a : View) (file : ℕ) → Wrote a a file []
wrote_nothing a file = record {
  grown = λ _ all h. h ∙ ap Some (sym (append-nil all));
  keeps = keeps_refl (λ n. n ≢ a.name file) (λ f. a.name f ≢ a.name file) a;
  none = λ f h. h;
  said = refl;
}

pub wrote_more : (a b c : View) (file p : ℕ) (xs ys : List ℕ) → a.part file ≡ Some p → Wrote a b file xs → Wrote b c file ys → Wrote a c file (xs ++ ys)
wrote_more a b c file p xs ys at x y =
    let same : b.name file ≡ a.name file = x.keeps.name file p at in
    record {
      grown = λ t all h.
          let one : b.bytes (b.name file) ≡ Some (all ++ xs) = ap b.bytes same ∙ x.grown t all h in
          let two : c.bytes (b.name file) ≡ Some ((all ++ xs) ++ ys) = y.grown (x.keeps.tells ∙ t) (all ++ xs) one in
          ap c.bytes (sym same) ∙ two ∙ ap Some (append_assoc all xs ys);
      keeps = record {
        tells = y.keeps.tells ∙ x.keeps.tells;
        bytes = λ n h. y.keeps.bytes n (λ e. h (e ∙ same)) ∙ x.keeps.bytes n h;
        left = λ f q h d. y.keeps.left f q (x.keeps.part f q h) (λ e. d (sym (x.keeps.name f q h) ∙ e ∙ same)) ∙ x.keeps.left f q h d;
        part = λ f q h. y.keeps.part f q (x.keeps.part f q h);
        name = λ f q h. y.keeps.name f q (x.keeps.part f q h) ∙ x.keeps.name f q h;
        later = later_trans a b c x.keeps.later y.keeps.later;
      };
      none = λ f h. y.none f (x.none f h);
      said = y.said ∙ x.said;
    }

some_none : (p : ℕ) → Some p ≡ None → ⊥
some_none p h = cc

pub part_of_there : (o : Option ℕ) → IsSome o → (p : ℕ) × (o ≡ Some p)
part_of_there None h = cc
part_of_there (Some p) h = (p, refl)

pub is_some_of : (o : Option ℕ) (p : ℕ) → o ≡ Some p → IsSome o
is_some_of None p h = cc
is_some_of (Some q) p h = refl

-- a file that was answered is still there
pub still_there : (N : List ℕ → Type 0) (F : ℕ → Type 0) (a b : View) (file : ℕ) → Keeps N F a b → IsSome (a.part file) → IsSome (b.part file)
still_there N F a b file x h = let p = part_of_there (a.part file) h in is_some_of (b.part file) p.0 (x.part file p.0 p.1)

pub wrote_more_there : (a b c : View) (file : ℕ) (xs ys : List ℕ) → IsSome (a.part file) → Wrote a b file xs → Wrote b c file ys → Wrote a c file (xs ++ ys)
wrote_more_there a b c file xs ys there x y = let p = part_of_there (a.part file) there in wrote_more a b c file p.0 xs ys p.1 x y

-- a call that changed nothing leaves what was written so far
pub wrote_unchanged : (a b c : View) (file : ℕ) (xs : List ℕ) → IsSome (a.part file) → Wrote a b file xs → Unchanged b c → Wrote a c file xs
wrote_unchanged a b c file xs there x y =
    let p = part_of_there (a.part file) there in
    let none : Wrote b c file [] = record {
      grown = λ t all h. y.keeps.bytes (b.name file) tt ∙ h ∙ ap Some (sym (append-nil all));
      keeps = keeps_fewer Everything (λ n. n ≢ b.name file) Everything (λ f. b.name f ≢ b.name file) b c (λ n _. tt) (λ f _. tt) y.keeps;
      none = y.none;
      said = y.said;
    } in
    let P : List ℕ → Type 0 = λ ys. Wrote a c file ys in
    subst P (append-nil xs) (wrote_more a b c file p.0 xs [] p.1 x none)

-- what is kept from an opening on is kept over it, but of the new file
pub opened_then : (N : List ℕ → Type 0) (a b c : View) (part : ℕ) (name : List ℕ) (file : ℕ) → Opened a b part name file → Keeps N (λ f. f ≢ file) b c → Keeps N Everything a c
opened_then N a b c part name file x y = record {
  tells = y.tells ∙ x.keeps.tells;
  bytes = λ n h. y.bytes n h ∙ x.keeps.bytes n tt;
  left = λ f p h k. y.left f p (x.keeps.part f p h) (λ e. some_none p (sym h ∙ ap a.part e ∙ x.is_new.fresh)) ∙ x.keeps.left f p h tt;
  part = λ f p h. y.part f p (x.keeps.part f p h);
  name = λ f p h. y.name f p (x.keeps.part f p h) ∙ x.keeps.name f p h;
  later = later_trans a b c x.keeps.later y.later;
}

-- a file that was created and then written
pub created_then : (a b c : View) (part : ℕ) (name : List ℕ) (file : ℕ) (bytes : List ℕ) → Created a b part name file → Wrote b c file bytes
    → Keeps (OtherThan a name) (NotNamed a name) a c
created_then a b c part name file bytes x y =
    record {
      tells = y.keeps.tells ∙ x.keeps.tells;
      bytes = λ n h. y.keeps.bytes n (λ e. h.1 (e ∙ x.is_new.name h.0)) ∙ x.keeps.bytes n h.1;
      left = λ f p h k. y.keeps.left f p (x.keeps.part f p h) (λ e. k.1 (sym (x.keeps.name f p h) ∙ e ∙ x.is_new.name k.0)) ∙ x.keeps.left f p h k.1;
      part = λ f p h. y.keeps.part f p (x.keeps.part f p h);
      name = λ f p h. y.keeps.name f p (x.keeps.part f p h) ∙ x.keeps.name f p h;
      later = later_trans a b c x.keeps.later y.keeps.later;
    }

pub created_bytes : (a b c : View) (part : ℕ) (name : List ℕ) (file : ℕ) (bytes : List ℕ) → Created a b part name file → Wrote b c file bytes
    → IsTrue a.tells → c.bytes name ≡ Some bytes
created_bytes a b c part name file bytes x y t =
    let named : b.name file ≡ name = x.is_new.name t in
    ap c.bytes (sym named) ∙ y.grown (x.keeps.tells ∙ t) [] (ap b.bytes named ∙ (x.empty t).0)
