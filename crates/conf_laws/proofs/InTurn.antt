-- Tests one after the other: what holds of their first fault, and what holds of what they come to.
use Rattle.std.proofs.Common.{◌≡◌, ◌⊎◌, inl, inr, ⊎_elim, Bool, true, false, Option, Some, None, Result, Ok, Err, IfOk, refl}
use Rattle.std.specs.Option.{IfSome}
use Rattle.std.specs.Result.{IfErr}
use Rattle.conf_lines.specs.declared.fault.ConfPlace.{ConfPlace}
use Rattle.conf_tree.specs.Tests.{◌>>=◌, some, refuse, own}

-- ITS FAULT: `Q` holds of it, as it does of the fault of other tests that begin alike, or since `Far` holds: the tests are far enough
-- on, and there it holds of each fault
module _ (Q : ConfPlace → Type 0) where
  pub so_option : {A B Far : Type 0} (o : Option A) (fault other : ConfPlace) (next more : A → Result B ConfPlace) → Far ⊎ IfErr (some o other >>= more) Q
      → (Far ⊎ Q other → Q fault) → ((x : A) → Far ⊎ IfErr (more x) Q → IfErr (next x) Q) → IfErr (some o fault >>= next) Q
  so_option None fault other next more link here k = here link
  so_option (Some x) fault other next more link here k = k x link

  pub so_some : {A B Far : Type 0} (o : Option A) (fault : ConfPlace) (next more : A → Result B ConfPlace) → Far ⊎ IfErr (some o fault >>= more) Q
      → (Far → Q fault) → ((x : A) → Far ⊎ IfErr (more x) Q → IfErr (next x) Q) → IfErr (some o fault >>= next) Q
  so_some o fault next more link far k = so_option o fault fault next more link (⊎_elim far (λ same. same)) k

  pub so_refuse : {B Far : Type 0} (t : Bool) (fault : ConfPlace) (next more : Unit {0} → Result B ConfPlace) → Far ⊎ IfErr (refuse t fault >>= more) Q
      → (Far → Q fault) → (Far ⊎ IfErr (more tt) Q → IfErr (next tt) Q) → IfErr (refuse t fault >>= next) Q
  so_refuse true fault next more link far k = ⊎_elim far (λ same. same) link
  so_refuse false fault next more link far k = k link

  -- the same ones, and then others
  pub so_both : {A B Far : Type 0} (r : Result A ConfPlace) (next more : A → Result B ConfPlace) → Far ⊎ IfErr (r >>= more) Q
      → (Far ⊎ IfErr r Q → IfErr r Q) → ((x : A) → Far ⊎ IfErr (more x) Q → IfErr (next x) Q) → IfErr (r >>= next) Q
  so_both (Ok x) next more link front k = k x link
  so_both (Err fault) next more link front k = front link

  -- some, and then some of whose fault it holds at any rate
  pub so_next : {A B : Type 0} (r : Result A ConfPlace) (next : A → Result B ConfPlace) → IfErr r Q → ((x : A) → IfErr (next x) Q) → IfErr (r >>= next) Q
  so_next (Ok x) next h k = k x
  so_next (Err fault) next h k = h

  pub so_front : {A B : Type 0} (r : Result A ConfPlace) (next : A → Result B ConfPlace) → IfErr (r >>= next) Q → IfErr r Q
  so_front (Ok x) next h = tt
  so_front (Err fault) next h = h

  pub so_then : {A B Far : Type 0} (r t : Result A ConfPlace) (next more : A → Result B ConfPlace) → Far ⊎ IfErr (t >>= more) Q
      → (Far ⊎ IfErr t Q → IfErr r Q) → ((x : A) → IfErr (next x) Q) → IfErr (r >>= next) Q
  so_then r t next more link front k = so_next r next (front (⊎_elim inl (λ same. inr (so_front t more same)) link)) k

  pub so_own : {B : Type 0} (o : Option ConfPlace) (next : Unit {0} → Result B ConfPlace) → IfSome o Q → IfErr (next tt) Q → IfErr (own o >>= next) Q
  so_own None next h k = k
  so_own (Some fault) next h k = h

  pub so_last : {A : Type 0} (o : Option A) (fault : ConfPlace) → Q fault → IfErr (some o fault) Q
  so_last None fault h = h
  so_last (Some x) fault h = tt

-- WHAT IT COMES TO
pub fit_then : {A B : Type 0} (R : A → Type 0) (Q : B → Type 0) (r : Result A ConfPlace) (next : A → Result B ConfPlace) → IfOk r R
    → ((x : A) → R x → IfOk (next x) Q) → IfOk (r >>= next) Q
fit_then R Q (Ok x) next h k = k x h
fit_then R Q (Err fault) next h k = tt

pub fit_any : {A : Type 0} (Q : A → Type 0) (r : Result A ConfPlace) → ((x : A) → Q x) → IfOk r Q
fit_any Q (Ok x) k = k x
fit_any Q (Err fault) k = tt

pub fit_some : {A B : Type 0} (Q : B → Type 0) (o : Option A) (fault : ConfPlace) (next : A → Result B ConfPlace)
    → ((x : A) → o ≡ Some x → IfOk (next x) Q) → IfOk (some o fault >>= next) Q
fit_some Q None fault next k = tt
fit_some Q (Some x) fault next k = k x refl

pub fit_refuse : {B : Type 0} (Q : B → Type 0) (t : Bool) (fault : ConfPlace) (next : Unit {0} → Result B ConfPlace)
    → (t ≡ false → IfOk (next tt) Q) → IfOk (refuse t fault >>= next) Q
fit_refuse Q true fault next k = tt
fit_refuse Q false fault next k = k refl

pub fit_whole : {B : Type 0} (Q : B → Type 0) (o : Option ConfPlace) (next : Unit {0} → Result B ConfPlace) → IfOk (next tt) Q → IfOk (own o >>= next) Q
fit_whole Q None next k = k
fit_whole Q (Some fault) next k = tt
