-- What is read through a source, and what a call on it did to the files behind it.
use Rattle.std.proofs.Common.{◌≡◌, ◌≤◌, ◌+◌, ◌∙◌, ◌∷◌, ap, ℕ, Bool, true, false, List, [], length, refl, arith, sym}
use Rattle.std.specs.Prelude.{◌≢◌, eqb, None, Some}
use Rattle.std.specs.declared.option.Option.{Option}
use Rattle.std.proofs.lemmas.Bool.{eq-eqb, ne_eqb}
use Rattle.altq_model.specs.declared.Placed.{Placed}
use Rattle.marked_files.specs.Markings.{given}
use Rattle.marked_files.specs.Taking.{holds}
use Rattle.marked_files.specs.Through.{with_marks}
use Rattle.marked_files.proofs.CaptureLaws.{all_read, given_marked}
use Rattle.marked_files.proofs.Lengths.{length-given}
use Rattle.pcapng_files.specs.declared.front.Front.{Front}
use Rattle.pcapng_files.specs.Fronts.{with_front}
use Rattle.play_base.specs.View.{View, Keeps}
use Rattle.arrivals_source.specs.Chosen.{is_streamed}
use Rattle.arrivals_source.specs.Reading.{IsReadWhole, ReadsByWay}
use Rattle.arrivals_source.specs.Ways.{held_by, source_view, way_number, way_own, with_way}
use Rattle.arrivals_source.specs.declared.way.Way.{Way}
use Rattle.arrivals_source.specs.declared.way.Way.TheVariants.{AsGiven, Converted, Marked, MarkedConverted}
use Rattle.arrivals_source.proofs.Alike.{keeps_alike}

-- the file itself has what comes of it, and another has its own
pub left_self : {C : Type 0} (file : ℕ) (placed : C → List ℕ → Placed) (front : Front) (way : Way C) (tells : Bool) (left : Option (List ℕ))
    → with_way (eqb file file) placed front way tells left ≡ way_own placed front way tells left
left_self file placed front way tells left = ap (λ (b : Bool). with_way b placed front way tells left) (eq-eqb file file refl)

not_own : {C : Type 0} (placed : C → List ℕ → Placed) (front : Front) (way : Way C) (tells : Bool) (left : Option (List ℕ))
    → with_way false placed front way tells left ≡ left
not_own placed front AsGiven tells left = refl
not_own placed front Converted tells left = refl
not_own placed front (Marked m) tells left = refl
not_own placed front (MarkedConverted m) tells left = refl

pub left_other : {C : Type 0} (f file : ℕ) (placed : C → List ℕ → Placed) (front : Front) (way : Way C) (tells : Bool) (left : Option (List ℕ)) → f ≢ file
    → with_way (eqb f file) placed front way tells left ≡ left
left_other f file placed front way tells left other =
    ap (λ (b : Bool). with_way b placed front way tells left) (ne_eqb f file other) ∙ not_own placed front way tells left

pub is_read_whole : {C : Type 0} (placed : C → List ℕ → Placed) (v w : View) (g file : ℕ) (front : Front) (way : Way C) (capture bytes : List ℕ)
    → IsReadWhole placed v w g file front way capture bytes
is_read_whole placed v w g file front way capture bytes tells reads took ended =
    all_read (source_view placed v g file front way) w file capture bytes (left_self file placed front way v.tells (v.left file) ∙ reads tells) took ended

become : (tells : Bool) (make : List ℕ → List ℕ) (left : Option (List ℕ)) (own all : List ℕ) → tells ≡ true → left ≡ Some own → make own ≡ all
    → with_marks true tells make left ≡ Some all
become tells make left own all t h e =
    ap (λ (b : Bool). with_marks true b make left) t ∙ ap (λ (o : Option (List ℕ)). with_marks true true make o) h ∙ ap Some e

in_memory : (rest : Bool) (front : List ℕ) (left : Option (List ℕ)) → rest ≡ false → with_front true rest front left ≡ Some front
in_memory rest front left e = ap (λ (b : Bool). with_front true b front left) e

pub reads_by_way : {C : Type 0} (placed : C → List ℕ → Placed) (v : View) (file : ℕ) (front : Front) (own : List ℕ) → ReadsByWay placed v file front own
reads_by_way placed v file front own = record {
  as_given = λ h tells. h;
  converted = λ e tells. in_memory front.rest front.bytes.now (v.left file) e;
  marked = λ m rules first unused h tells. become v.tells (given placed m) (v.left file) own _ tells h (given_marked placed m rules first own unused);
  both = λ m rules unused e tells.
      become v.tells (given placed m) (with_front true front.rest front.bytes.now (v.left file)) front.bytes.now _ tells
      (in_memory front.rest front.bytes.now (v.left file) e) (given_marked placed m rules [] front.bytes.now unused);
}

-- what is fixed of a source: its reference to the files, the file and the way
pub record AreFixed {C : Type 0} (g h file next : ℕ) (way later : Way C) (old new : List ℕ) : Type 0 where
  pub reference : h ≡ g
  pub file_is : next ≡ file
  pub number : way_number later ≡ way_number way
  pub behind : new ≡ old

pub fixed_are : {C : Type 0} (g h file next : ℕ) (way later : Way C) (old new : List ℕ)
    → h ∷ next ∷ way_number later ∷ new ≡ g ∷ file ∷ way_number way ∷ old → AreFixed g h file next way later old new
fixed_are g h file next way later old new e = record { reference = cc; file_is = cc; number = cc; behind = cc }

-- the files behind a source, before calls on it and after them
module _ {C : Type 0} (placed : C → List ℕ → Placed) (v w : View) (g h file next : ℕ) (front ahead : Front) (way later : Way C) where
  abbrev Old : View
  Old = source_view placed v g file front way

  abbrev New : View
  New = source_view placed w h next ahead later

  pub still_fixed : (N : List ℕ → Type 0) (F : ℕ → Type 0) → Keeps N F Old New → AreFixed g h file next way later v.fixed w.fixed
  still_fixed N F k = fixed_are g h file next way later v.fixed w.fixed k.later.fixed

  -- what is kept of a source's files is kept of those behind it, but for what the arrivals have left
  pub keeps_back : (N : List ℕ → Type 0) (F : ℕ → Type 0) → ((f : ℕ) → F f → f ≢ file) → Keeps N F Old New → Keeps N F v w
  keeps_back N F other k =
      let same = still_fixed N F k in
      keeps_alike Old New v.left w.left v.fixed w.fixed N F
      (λ t f kept e. sym (left_other f next placed ahead later w.tells (w.left f) (λ i. other f kept (i ∙ same.file_is))) ∙ e
      ∙ left_other f file placed front way v.tells (v.left f) (other f kept)) (λ e. same.behind) k

some_is : (a b : List ℕ) → Some a ≡ Some b → a ≡ b
some_is a b h = cc

-- what a file has left of its own, where a source has these bytes left: no fewer but for those that a marker holds
pub record Mine (left : Option (List ℕ)) (rest : List ℕ) (held : ℕ) : Type 0 where
  pub bytes : List ℕ
  pub left_is : left ≡ Some bytes
  pub within : length rest ≤ length bytes + held

marked_mine : (tells : Bool) (make : List ℕ → List ℕ) (held : ℕ) (left : Option (List ℕ)) (rest : List ℕ)
    → ((own : List ℕ) → length (make own) ≡ held + length own) → with_marks true tells make left ≡ Some rest → Mine left rest held
marked_mine true make held (Some own) rest long e =
    let l = long own in
    let m = ap length (some_is (make own) rest e) in
    record { bytes = own; left_is = refl; within = omega (arith, l, m) }
marked_mine true make held None rest long e = absurd (cc)
marked_mine false make held left rest long e = absurd (cc)

pub streamed_mine : {C : Type 0} (placed : C → List ℕ → Placed) (front : Front) (way : Way C) (tells : Bool) (left : Option (List ℕ)) (rest : List ℕ) → is_streamed way ≡ true
    → way_own placed front way tells left ≡ Some rest → Mine left rest (held_by way)
streamed_mine placed front AsGiven tells left rest s e = record { bytes = rest; left_is = e; within = omega arith }
streamed_mine placed front Converted tells left rest s e = absurd (cc)
streamed_mine placed front (Marked m) tells left rest s e = marked_mine tells (given placed m) (holds m) left rest (length-given placed m) e
streamed_mine placed front (MarkedConverted m) tells left rest s e = absurd (cc)
