-- What calls one after another leave as it was.
use Rattle.std.proofs.Common.{◌≡◌, ◌≢◌, ◌++◌, ◌∙◌, ℕ, Bool, true, false, List, [], Some, Ok, Err, refl, ap, sym, append_assoc, append-nil}
use Rattle.std.proofs.lemmas.Slice.Eq.{bytes_eq-Decides}
use Rattle.std.specs.Prelude.{IsErrOf, IsSome, IsTrue, bytes_eq}
use Rattle.capture_model.specs.Header.{capture_header}
use Rattle.play_base.specs.declared.trouble.Trouble.{Trouble}
use Rattle.play_base.specs.declared.trouble.Trouble.TheVariants as trouble
use Rattle.play_base.specs.View.{View, Keeps, Everything, WriteFault, Wrote}
use Rattle.play_base.proofs.ViewLaws.{keeps_fewer, keeps_refl, later_trans, part_of_there, rose_later, same_refl, same_trans as same_counts, still_there}
use Rattle.pcap_files.specs.Ahead.{TookSome}
use Rattle.play_text.specs.Texts.{fates_header}
use Rattle.play_loop.specs.declared.fault.Opened.{Opened}
use Rattle.play_loop.specs.declared.fault.Output.TheVariants as output
use Rattle.play_loop.specs.declared.fault.PlayFault.{PlayFault}
use Rattle.play_loop.specs.declared.fault.PlayFault.TheVariants as play
use Rattle.play_loop.specs.declared.outputs.Outputs.{Outputs}
use Rattle.play_loop.specs.Kept.{Grows, HasTailLeft, IsOther, OnlyWrote, OnlyPlayed}
use Rattle.play_loop.specs.Outputs.{AddsOnly, AreOpened, HasTexts, IsWriteCause, SameFiles, TextsAre, output_fault}
use Rattle.play_loop.specs.Played.{AreEmpty, AreReady, BeginsWith, HaveHeads}
use Rattle.play_loop.proofs.OutputLemmas.{same_trans}

-- what only grows
grows_kept : {F : ℕ → Type 0} {v w : View} → Keeps Everything F v w → Grows v w
grows_kept k t n bytes h = ([], k.bytes n tt ∙ h ∙ ap Some (sym (append-nil bytes)))

pub grows_wrote : {v w : View} {file : ℕ} {xs : List ℕ} → Wrote v w file xs → Grows v w
grows_wrote {v} {w} {file} {xs} x t n bytes h = by (bytes_eq n (v.name file)) refl
  where
    by : (b : Bool) → bytes_eq n (v.name file) ≡ b → (more : List ℕ) × (w.bytes n ≡ Some (bytes ++ more))
    by true e =
        let same : n ≡ v.name file = (bytes_eq-Decides n (v.name file)).0 e in
        (xs, ap w.bytes same ∙ x.grown t bytes (ap v.bytes (sym same) ∙ h))
    by false e = ([], x.keeps.bytes n (λ same. cc ((bytes_eq-Decides n (v.name file)).1 same)) ∙ h ∙ ap Some (sym (append-nil bytes)))

grows_more : (u v w : View) → v.tells ≡ u.tells → Grows u v → Grows v w → Grows u w
grows_more u v w same x y t n bytes h =
    let a = x t n bytes h in
    let b = y (same ∙ t) n (bytes ++ a.0) a.1 in
    (a.0 ++ b.0, b.1 ∙ ap Some (append_assoc bytes a.0 b.0))

pub wrote_first : {v w : View} {dep fat : ℕ} {xs : List ℕ} → Wrote v w dep xs → OnlyWrote dep fat v w
wrote_first x = record { keeps = keeps_fewer _ _ _ _ _ _ (λ n h. h.0) (λ f h. h.0) x.keeps; grows = grows_wrote x; none = x.none; said = x.said }

pub wrote_second : {v w : View} {dep fat : ℕ} {xs : List ℕ} → Wrote v w fat xs → OnlyWrote dep fat v w
wrote_second x = record { keeps = keeps_fewer _ _ _ _ _ _ (λ n h. h.1) (λ f h. h.1) x.keeps; grows = grows_wrote x; none = x.none; said = x.said }

-- a file that is there keeps its name
named : (N : List ℕ → Type 0) (F : ℕ → Type 0) (u v : View) (f : ℕ) → Keeps N F u v → IsSome (u.part f) → v.name f ≡ u.name f
named N F u v f x there = let p = part_of_there (u.part f) there in x.name f p.0 p.1

other_later : (u v : View) (dep fat : ℕ) (n m : List ℕ) → v.name dep ≡ u.name dep → v.name fat ≡ u.name fat → m ≡ n → IsOther u dep fat n → IsOther v dep fat m
other_later u v dep fat n m d f e h = ((λ q. h.0 (sym e ∙ q ∙ d)), (λ q. h.1 (sym e ∙ q ∙ f)))

-- two calls keep what both keep, each beside the names at its own start
abbrev KeepsOf : (E : ℕ → Type 0) (dep fat : ℕ) → View → View → Type 0
KeepsOf E dep fat u v = Keeps (IsOther u dep fat) (λ f. E f × IsOther u dep fat (u.name f)) u v

keeps_more : (E : ℕ → Type 0) (u v w : View) (dep fat : ℕ) → IsSome (u.part dep) → IsSome (u.part fat) → KeepsOf E dep fat u v → KeepsOf E dep fat v w → KeepsOf E dep fat u w
keeps_more E u v w dep fat is_dep is_fat x y =
    let later = other_later u v dep fat in
    let d : v.name dep ≡ u.name dep = named _ _ u v dep x is_dep in
    let t : v.name fat ≡ u.name fat = named _ _ u v fat x is_fat in
    record {
      tells = y.tells ∙ x.tells;
      bytes = λ n h. y.bytes n (later n n d t refl h) ∙ x.bytes n h;
      left = λ f p h k. y.left f p (x.part f p h) (k.0, later (u.name f) (v.name f) d t (x.name f p h) k.1) ∙ x.left f p h k;
      part = λ f p h. y.part f p (x.part f p h);
      name = λ f p h. y.name f p (x.part f p h) ∙ x.name f p h;
      later = later_trans u v w x.later y.later;
    }

only_more : {u v w : View} {dep fat : ℕ} → IsSome (u.part dep) → IsSome (u.part fat) → OnlyWrote dep fat u v → OnlyWrote dep fat v w → OnlyWrote dep fat u w
only_more {u} {v} {w} {dep} {fat} is_dep is_fat x y =
    let a : KeepsOf Everything dep fat u v = keeps_fewer _ _ _ _ _ _ (λ n h. h) (λ f h. h.1) x.keeps in
    let b : KeepsOf Everything dep fat v w = keeps_fewer _ _ _ _ _ _ (λ n h. h) (λ f h. h.1) y.keeps in
    record {
      keeps = keeps_fewer _ _ _ _ _ _ (λ n h. h) (λ f h. (tt, h)) (keeps_more Everything u v w dep fat is_dep is_fat a b);
      grows = grows_more u v w x.keeps.tells x.grows y.grows;
      none = λ f h. y.none f (x.none f h);
      said = y.said ∙ x.said;
    }

pub only_files : {v w : View} {dep fat dep' fat' : ℕ} → dep' ≡ dep → fat' ≡ fat → OnlyWrote dep' fat' v w → OnlyWrote dep fat v w
only_files d f x = rw (← d, ← f) x

pub wrote_both : {u v w : View} {dep fat : ℕ} {xs ys : List ℕ} → IsSome (u.part dep) → IsSome (u.part fat) → Wrote u v dep xs → Wrote v w fat ys → OnlyWrote dep fat u w
wrote_both is_dep is_fat x y = only_more is_dep is_fat (wrote_first x) (wrote_second y)

-- a write of the two files that failed failed for one of them, or for lack of memory
pub by_cause : (P : PlayFault → Type 0) {dep fat : ℕ} (u v : View) (f : PlayFault) → IsWriteCause dep fat u v f
    → (WriteFault u v dep → P (play.Write output.Departures)) → (WriteFault u v fat → P (play.Write output.Fates)) → P play.NoMemory → P f
by_cause P u v (play.Write output.Departures) h d t n = d h
by_cause P u v (play.Write output.Fates) h d t n = t h
by_cause P u v (play.Write output.Statistics) h d t n = absurd h
by_cause P u v play.NoMemory h d t n = n
by_cause P u v (play.Capture damage) h d t n = absurd h
by_cause P u v play.Read h d t n = absurd h
by_cause P u v (play.Limit limit) h d t n = absurd h

-- why a write failed, where nothing failed before
pub cause_since : {N : List ℕ → Type 0} {F : ℕ → Type 0} {dep fat dep' fat' : ℕ} {u v : View} (w : View) (f : PlayFault) → Keeps N F u v → dep' ≡ dep → fat' ≡ fat
    → IsWriteCause dep' fat' v w f → IsWriteCause dep fat u w f
cause_since {dep = dep} {fat} {u = u} {v} w f k d t x =
    by_cause (λ q. IsWriteCause dep fat u w q) v w f x (λ y p at. rose_later _ _ _ (k.later.write p) (y p (ap v.part d ∙ k.part dep p at)))
    (λ y p at. rose_later _ _ _ (k.later.write p) (y p (ap v.part t ∙ k.part fat p at))) tt

-- why the fates were not written
by_trouble : (dep fat : ℕ) (v w : View) (t : Trouble) → (IsErrOf {T = Unit {0}} (Err t) trouble.Failed → WriteFault v w fat) → IsWriteCause dep fat v w (output_fault output.Fates t)
by_trouble dep fat v w trouble.Failed h = h refl
by_trouble dep fat v w trouble.NoMemory h = tt

pub fates_cause : (dep fat : ℕ) (v w : View) (t : Trouble) (f : PlayFault) → f ≡ output_fault output.Fates t
    → (IsErrOf {T = Unit {0}} (Err t) trouble.Failed → WriteFault v w fat) → IsWriteCause dep fat v w f
fates_cause dep fat v w t f e h = rw e (by_trouble dep fat v w t h)

-- and after a whole write of the departures
pub fates_later : {dep fat : ℕ} {u v : View} {xs : List ℕ} (w : View) (t : Trouble) (f : PlayFault) → Wrote u v dep xs → f ≡ output_fault output.Fates t
    → (IsErrOf {T = Unit {0}} (Err t) trouble.Failed → WriteFault v w fat) → IsWriteCause dep fat u w f
fates_later {dep} {fat} {v = v} w t f x e h = cause_since w f x.keeps refl refl (fates_cause dep fat v w t f e h)

-- calls one after another that add to the outputs
pub adds_nothing : {A : Type 0} (v : View) (o : Outputs) (a : A) → AddsOnly v v o o (Ok a)
adds_nothing v o a = record {
  same = record { departures = refl; fates = refl };
  others = record { keeps = keeps_refl _ _ v; grows = grows_kept (keeps_refl Everything Everything v); none = λ f h. h; said = refl };
  no_fault = same_refl v;
  why = tt;
}

module _ {A : Type 0} {u v w : View} {a b : Outputs} {x : A} {ds ts : List ℕ} (h : HasTexts u a ds ts) (p : AddsOnly u v a b (Ok x)) where
  then_only : OnlyWrote b.departures b.fates v w → OnlyWrote a.departures a.fates u w
  then_only y = only_more h.departures.holds.there h.fates.holds.there p.others (only_files p.same.departures p.same.fates y)

  pub then_ok : {B C : Type 0} {c : Outputs} {y : B} {z : C} → AddsOnly v w b c (Ok y) → AddsOnly u w a c (Ok z)
  then_ok q = record { same = same_trans p.same q.same; others = then_only q.others; no_fault = same_counts u v w p.no_fault q.no_fault; why = tt }

  pub then_err : {B C : Type 0} {c : Outputs} {f : PlayFault} → AddsOnly {A = B} v w b c (Err f) → AddsOnly {A = C} u w a c (Err f)
  then_err {f = f} q = record {
    same = same_trans p.same q.same;
    others = then_only q.others;
    no_fault = tt;
    why = cause_since w f p.others.keeps p.same.departures p.same.fates q.why;
  }

-- reads of the arrivals among the writes
pub played_nothing : (v : View) (arr dep fat : ℕ) → OnlyPlayed arr dep fat v v
played_nothing v arr dep fat = record {
  keeps = keeps_refl _ _ v;
  grows = grows_kept (keeps_refl Everything Everything v);
  took = λ p at h all l. ([], all, refl, l);
  none = λ f h. h;
  said = refl;
}

played_wrote : {v w : View} (arr : ℕ) {dep fat : ℕ} → OnlyWrote dep fat v w → OnlyPlayed arr dep fat v w
played_wrote arr x = record {
  keeps = keeps_fewer _ _ _ _ _ _ (λ n h. h) (λ f h. h.1) x.keeps;
  grows = x.grows;
  took = λ p at h all l. ([], all, refl, x.keeps.left arr p at h ∙ l);
  none = x.none;
  said = x.said;
}

played_took : {v w : View} {arr : ℕ} (dep fat : ℕ) → TookSome v w arr → OnlyPlayed arr dep fat v w
played_took dep fat x = record {
  keeps = keeps_fewer _ _ _ _ _ _ (λ n h. tt) (λ f h. h.0) x.1.keeps;
  grows = grows_kept x.1.keeps;
  took = λ p at h all l. (let t = x.1.left all l in (x.0, t.0, t.1, t.2));
  none = x.1.none;
  said = x.1.said;
}

-- an end of an end
pub tail_trans : (u v w : View) (file : ℕ) → HasTailLeft file u v → HasTailLeft file v w → HasTailLeft file u w
tail_trans u v w file x y = λ all l.
    let a = x all l in
    let b = y a.1 a.3 in
    (a.0 ++ b.0, b.1, a.2 ∙ ap (λ (r : List ℕ). a.0 ++ r) b.2 ∙ sym (append_assoc a.0 b.0 b.1), b.3)

played_more : {u v w : View} {arr dep fat : ℕ} → IsSome (u.part dep) → IsSome (u.part fat) → OnlyPlayed arr dep fat u v → OnlyPlayed arr dep fat v w → OnlyPlayed arr dep fat u w
played_more {u} {v} {w} {arr} {dep} {fat} is_dep is_fat x y = record {
  keeps = keeps_more (λ f. f ≢ arr) u v w dep fat is_dep is_fat x.keeps y.keeps;
  grows = grows_more u v w x.keeps.tells x.grows y.grows;
  took = λ p at h. tail_trans u v w arr (x.took p at h) (y.took p (x.keeps.part arr p at)
      (other_later u v dep fat _ _ (named _ _ u v dep x.keeps is_dep) (named _ _ u v fat x.keeps is_fat) (x.keeps.name arr p at) h));
  none = λ f h. y.none f (x.none f h);
  said = y.said ∙ x.said;
}

-- then the arrivals are read, and the outputs are written
module _ {u v w : View} {arr dep fat : ℕ} {recs rows ds ts : List ℕ} (h : TextsAre u dep fat recs rows ds ts) (x : OnlyPlayed arr dep fat u v) where
  pub took_more : {arr' : ℕ} → arr' ≡ arr → TookSome v w arr' → OnlyPlayed arr dep fat u w
  took_more e y = let z : TookSome v w arr = rw (← e) y in played_more h.departures.holds.there h.fates.holds.there x (played_took dep fat z)

  pub wrote_more : {dep' fat' : ℕ} → dep' ≡ dep → fat' ≡ fat → OnlyWrote dep' fat' v w → OnlyPlayed arr dep fat u w
  wrote_more d t y = played_more h.departures.holds.there h.fates.holds.there x (played_wrote arr (only_files d t y))

-- the same over the opened files: the heads are written, the arrivals begun, their records played, and the rest written
abbrev pub HasPlayedOn : Opened → View → View → Type 0
HasPlayedOn o u v = OnlyPlayed o.arrivals o.departures o.fates u v

pub heads_played : {u v : View} (o : Opened) → OnlyWrote o.departures o.fates u v → HasPlayedOn o u v
heads_played o x = played_wrote o.arrivals x

pub start_played : {u v w : View} (o : Opened) → AreReady u o → OnlyWrote o.departures o.fates u v → TookSome v w o.arrivals → HasPlayedOn o u w
start_played o r x y = played_more r.empty.departures.there r.empty.fates.there (heads_played o x) (played_took o.departures o.fates y)

pub records_played : {u v w : View} (o : Opened) (p : Outputs) {file : ℕ} → AreReady u o → AreOpened p o → file ≡ o.arrivals → HasPlayedOn o u v
    → OnlyPlayed file p.departures p.fates v w → HasPlayedOn o u w
records_played {v = v} {w} o p r a e x y =
    let z : HasPlayedOn o v w = rw (← a.departures, ← a.fates, ← e) y in played_more r.empty.departures.there r.empty.fates.there x z

pub close_played : {u v w : View} (o : Opened) (p : Outputs) → AreReady u o → AreOpened p o → HasPlayedOn o u v → OnlyWrote p.departures p.fates v w → HasPlayedOn o u w
close_played o p r a x y = played_more r.empty.departures.there r.empty.fates.there x (played_wrote o.arrivals (only_files a.departures a.fates y))

pub opened_same : {o : Opened} {p q : Outputs} → AreOpened p o → SameFiles p q → AreOpened q o
opened_same a s = record { departures = s.departures ∙ a.departures; fates = s.fates ∙ a.fates }

-- the heads stay where every name only grows
begins_on : {N : List ℕ → Type 0} {F : ℕ → Type 0} (v w : View) (file : ℕ) (front : List ℕ) → IsSome (v.part file) → Keeps N F v w → Grows v w → IsTrue v.tells
    → BeginsWith v file front → BeginsWith w file front
begins_on v w file front there k grows t h =
    let more = grows t (v.name file) (front ++ h.0) h.1 in
    (h.0 ++ more.0, ap w.bytes (named _ _ v w file k there) ∙ more.1 ∙ ap Some (append_assoc front h.0 more.0))

pub heads_on : {N M : List ℕ → Type 0} {F G : ℕ → Type 0} (u v w : View) (dep fat : ℕ) → AreEmpty u dep fat → Keeps N F u v → Keeps M G v w → Grows v w → IsTrue u.tells
    → HaveHeads v dep fat → HaveHeads w dep fat
heads_on u v w dep fat r k m grows t h =
    let told : IsTrue v.tells = k.tells ∙ t in (
      begins_on v w dep capture_header (still_there _ _ u v dep k r.departures.there) m grows told h.0,
      begins_on v w fat fates_header (still_there _ _ u v fat k r.fates.there) m grows told h.1,
    )
