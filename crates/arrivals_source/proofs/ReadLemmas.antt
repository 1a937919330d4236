-- A read through a wrapper is one of the files behind it.
use Rattle.std.proofs.Common.{◌≡◌, ◌∙◌, ap, ℕ, Bool, List, ◌∷◌, refl, subst}
use Rattle.std.specs.Prelude.{◌≢◌, eqb}
use Rattle.std.specs.declared.option.Option.{Option}
use Rattle.std.specs.declared.result.Result.{Result}
use Rattle.altq_model.specs.declared.Placed.{Placed}
use Rattle.pcapng_files.specs.declared.front.Front.{Front}
use Rattle.play_base.specs.View.{View}
use Rattle.play_base.specs.declared.trouble.Trouble.{Trouble}
use Rattle.arrivals_source.specs.Through.{ReadSo}
use Rattle.arrivals_source.specs.Ways.{source_view, way_number, way_view, with_way}
use Rattle.arrivals_source.specs.declared.way.Way.{Way}
use Rattle.arrivals_source.proofs.Alike.{alike, read_alike, read_keeps}
use Rattle.arrivals_source.proofs.SourceLaws.{left_other}

-- A wrapper fixes its reference to the files, the file, and more: `x` before the read, and `y` after it. What the files have left then
-- it tells by `m` of the file that it has.
pub record Unwrapped (v w : View) (g h : ℕ) (x y : List ℕ) (l m : ℕ → Option (List ℕ)) (file : ℕ) (into : List ℕ) (r : Result ℕ Trouble) : Type 0 where
  pub reference : h ≡ g
  pub more : y ≡ x
  pub read : ReadSo (alike v l v.fixed) (alike w m w.fixed) file into r

pub unwrapped : (v w : View) (g h file next : ℕ) (x y : List ℕ) (l : ℕ → Option (List ℕ)) (m : (file : ℕ) → ℕ → Option (List ℕ)) (into : List ℕ) (r : Result ℕ Trouble)
    → (y ≡ x → w.fixed ≡ v.fixed) → ReadSo (alike v l (g ∷ file ∷ x)) (alike w (m next) (h ∷ next ∷ y)) file into r
    → Unwrapped v w g h x y l (m file) file into r
unwrapped v w g h file next x y l m into r behind s =
    let a : View = alike v l (g ∷ file ∷ x) in
    let e : h ∷ next ∷ y ≡ g ∷ file ∷ x = (read_keeps a (alike w (m next) (h ∷ next ∷ y)) file into r s).later.fixed in
    let same : next ≡ file = cc in
    let more : y ≡ x = cc in
    let P : ℕ → Type 0 = λ n. ReadSo a (alike w (m n) (h ∷ n ∷ y)) file into r in
    record {
      reference = cc;
      more = more;
      read = read_alike a (alike w (m file) (h ∷ file ∷ y)) l (m file) v.fixed w.fixed file into r refl refl (λ t f e. e) (λ e. behind more) (subst P same s);
    }

-- A READ THROUGH A SOURCE is one in its way, and of another file one of the files behind
module _ {C : Type 0} (placed : C → List ℕ → Placed) (v w : View) (g file f : ℕ) (front : Front) (way : Way C) (into : List ℕ) (r : Result ℕ Trouble) where
  abbrev Old : View
  Old = source_view placed v g file front way

  pub way_read : (next : Front) (later : Way C) → f ≡ file → way_number later ≡ way_number way
      → ReadSo (way_view placed v f front way) (way_view placed w f next later) f into r → ReadSo Old (source_view placed w g file next later) f into r
  way_read next later at same s =
      let new : View = source_view placed w g file next later in
      let P : ℕ → Type 0 = λ n. ReadSo (way_view placed v n front way) (way_view placed w n next later) f into r in
      read_alike (way_view placed v file front way) (way_view placed w file next later) Old.left new.left Old.fixed new.fixed f into r refl refl (λ t i e. e)
      (λ e. let n : w.fixed ≡ v.fixed = e in cc) (subst P at s)

  pub other_read : f ≢ file → ReadSo v w f into r → ReadSo Old (source_view placed w g file front way) f into r
  other_read other s =
      let new : View = source_view placed w g file front way in
      read_alike v w Old.left new.left Old.fixed new.fixed f into r (left_other f file placed front way v.tells (v.left f) other)
      (left_other f file placed front way w.tells (w.left f) other)
      (λ t i e. ap (λ (b : Bool). with_way (eqb i file) placed front way b (w.left i)) t
      ∙ ap (λ (o : Option (List ℕ)). with_way (eqb i file) placed front way v.tells o) e)
      (λ e. ap (λ (l : List ℕ). g ∷ file ∷ way_number way ∷ l) e) s
