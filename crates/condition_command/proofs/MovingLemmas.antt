-- What a marker takes from one file it writes to another.
use Rattle.std.proofs.Common.{◌≡◌, ◌≤◌, ◌∙◌, ap, ℕ, List, [], ◌++◌, length, take, drop, Err, refl, arith, sym, subst, append_assoc, append-nil, length-append, true≢false}
use Rattle.std.specs.Prelude.{◌≢◌, Bool, eqb, None, Some, true, false, ⊤}
use Rattle.std.specs.declared.option.Option.{Option}
use Rattle.std.proofs.Math.Seq.{take-length}
use Rattle.std.proofs.lemmas.List.{append_cancel_left, take-append-drop}
use Rattle.std.specs.declared.result.Result.{Result}
use Rattle.frame_classes.specs.Frames.{Classes, placed_by}
use Rattle.marked_files.specs.Courses.{made}
use Rattle.marked_files.specs.Markings.{Marking, given}
use Rattle.marked_files.specs.Standing.{AreWhole, HasTakenOn, IsBehind, IsAtRecordEnd, TellsLeft, Waits}
use Rattle.marked_files.specs.Taking.{holds}
use Rattle.marked_files.specs.declared.behind.Behind.{Behind}
use Rattle.marked_files.proofs.BehindLemmas.{cut_whole}
use Rattle.play_base.specs.declared.trouble.Trouble.{Trouble}
use Rattle.play_base.specs.declared.trouble.Trouble.TheVariants as trouble
use Rattle.arrivals_source.specs.Counted.{counted_view}
use Rattle.arrivals_source.specs.Ways.{source_view, way_number, way_own, with_way}
use Rattle.arrivals_source.specs.declared.way.Way.{Way}
use Rattle.arrivals_source.specs.declared.way.Way.TheVariants.{AsGiven, Converted, Marked, MarkedConverted}
use Rattle.arrivals_source.proofs.CountedLaws.{keeps_behind}
use Rattle.arrivals_source.proofs.SourceLaws.{AreFixed, keeps_back, left_self, still_fixed}
use Rattle.pcapng_files.specs.declared.front.Front.{Front}
use Rattle.pcapng_files.specs.Fronts.{with_front}
use Rattle.play_base.specs.View.{View, Everything, NotNamed, OtherThan, Took, Wrote, WroteFront}
use Rattle.play_base.proofs.ViewLaws.{keeps_fewer, keeps_refl, keeps_trans, later_trans, part_of_there, still_there, wrote_nothing}
use Rattle.traffic_marks.specs.Marked.{Conditioning, marked}
use Rattle.condition_command.specs.Marking.{AreMarked, CameOf, Marks, MarksLeft, Stays, read_trouble, way_by, write_trouble}
use Rattle.condition_command.specs.Moving.{AreApart, HasMoved, IsOn}
use Rattle.condition_command.specs.declared.marking.Unmarked.{Unmarked}

pub moved_nothing : (v : View) (from to : ℕ) → HasMoved v v from to [] []
moved_nothing v from to = record {
  left = λ t all at. (all, refl, at);
  grown = λ t before at. at ∙ ap Some (sym (append-nil before));
  keeps = keeps_refl (OtherThan v (v.name to)) (λ f. (f ≢ from) × NotNamed v (v.name to) f) v;
  none = λ f h. h;
  said = refl;
}

-- more is taken, or written
module _ {u v w : View} {from to : ℕ} {taken written : List ℕ} (x : HasMoved u v from to taken written) where
  pub moved_took : (more : List ℕ) → Took v w from more → HasMoved u w from to (taken ++ more) written
  moved_took more y = record {
    left = λ t all at.
        let one = x.left t all at in
        let two = y.left one.0 one.2 in
        (two.0, one.1 ∙ ap (λ (l : List ℕ). taken ++ l) two.1 ∙ sym (append_assoc taken more two.0), two.2);
    grown = λ t before at. y.keeps.bytes (u.name to) tt ∙ x.grown t before at;
    keeps = keeps_trans (OtherThan u (u.name to)) (λ f. (f ≢ from) × NotNamed u (u.name to) f) u v w x.keeps
        (keeps_fewer Everything (OtherThan u (u.name to)) (λ f. f ≢ from) (λ f. (f ≢ from) × NotNamed u (u.name to) f) v w (λ n h. tt) (λ f h. h.0) y.keeps);
    none = λ f h. y.none f (x.none f h);
    said = y.said ∙ x.said;
  }

  pub moved_wrote : (bytes : List ℕ) → AreApart u from to → Wrote v w to bytes → HasMoved u w from to taken (written ++ bytes)
  moved_wrote bytes apart y =
      let p = part_of_there (u.part from) apart.from_there in
      let q = part_of_there (u.part to) apart.to_there in
      let named : v.name to ≡ u.name to = x.keeps.name to q.0 q.1 in
      record {
        left = λ t all at.
            let one = x.left t all at in
            let other : v.name from ≢ v.name to = λ e. apart.names t (sym (x.keeps.name from p.0 p.1) ∙ e ∙ named) in
            (one.0, one.1, y.keeps.left from p.0 (x.keeps.part from p.0 p.1) other ∙ one.2);
        grown = λ t before at.
            ap w.bytes (sym named) ∙ y.grown (x.keeps.tells ∙ t) (before ++ written) (ap v.bytes named ∙ x.grown t before at)
            ∙ ap Some (append_assoc before written bytes);
        keeps = record {
          tells = y.keeps.tells ∙ x.keeps.tells;
          bytes = λ n h. y.keeps.bytes n (λ e. h.1 (e ∙ named)) ∙ x.keeps.bytes n h;
          left = λ f r h k.
              y.keeps.left f r (x.keeps.part f r h) (λ e. k.1.1 (sym (x.keeps.name f r h) ∙ e ∙ named)) ∙ x.keeps.left f r h k;
          part = λ f r h. y.keeps.part f r (x.keeps.part f r h);
          name = λ f r h. y.keeps.name f r (x.keeps.part f r h) ∙ x.keeps.name f r h;
          later = later_trans u v w x.keeps.later y.keeps.later;
        };
        none = λ f h. y.none f (x.none f h);
        said = y.said ∙ x.said;
      }

-- the files stay where they are
pub apart_on : (u v : View) (from to : ℕ) (taken written : List ℕ) → AreApart u from to → HasMoved u v from to taken written → AreApart v from to
apart_on u v from to taken written apart x =
    let p = part_of_there (u.part from) apart.from_there in
    let q = part_of_there (u.part to) apart.to_there in
    record {
      from_there = still_there _ _ u v from x.keeps apart.from_there;
      to_there = still_there _ _ u v to x.keeps apart.to_there;
      names = λ t e. apart.names (sym x.keeps.tells ∙ t) (sym (x.keeps.name from p.0 p.1) ∙ e ∙ x.keeps.name to q.0 q.1);
    }

-- before the first turn
pub on_begun : (v : View) (from to : ℕ) (m : Marking Classes) → IsOn v v from to m m
on_begun v from to m = record {
  taken = [];
  written = [];
  moved = moved_nothing v from to;
  stands = λ c first s. subst (λ (l : List ℕ). IsAtRecordEnd placed_by c l [] m) (sym (append-nil first)) s;
}

module _ {u v w : View} {from to : ℕ} {m n : Marking Classes} (x : IsOn u v from to m n) where
  pub on_taken : {o : Marking Classes} → HasTakenOn placed_by v w from n o → IsOn u w from to m o
  on_taken {o = o} y = record {
    taken = x.taken ++ y.more;
    written = x.written;
    moved = moved_took x.moved y.more y.took;
    stands = λ c first s.
        subst (λ (l : List ℕ). IsAtRecordEnd placed_by c l x.written o) (append_assoc first x.taken y.more) (y.stands c (first ++ x.taken) x.written (x.stands c first s));
  }

  pub on_wrote : {o : Marking Classes} → AreApart u from to → Wrote v w to n.held.ready
      → ((c : Conditioning) (taken bytes : List ℕ) → IsAtRecordEnd placed_by c taken bytes n → IsAtRecordEnd placed_by c taken (bytes ++ n.held.ready) o)
      → IsOn u w from to m o
  on_wrote apart y given = record {
    taken = x.taken;
    written = x.written ++ n.held.ready;
    moved = moved_wrote x.moved n.held.ready apart y;
    stands = λ c first s. given c (first ++ x.taken) x.written (x.stands c first s);
  }

  -- all but the two files stays
  pub stays_wrote : {bytes : List ℕ} → AreApart u from to → Wrote v w to bytes → Stays u w from to
  stays_wrote {bytes = bytes} apart y = let h = moved_wrote x.moved bytes apart y in record { keeps = h.keeps; none = h.none; said = h.said }

pub stays_on : {u v : View} {from to : ℕ} {m n : Marking Classes} → IsOn u v from to m n → Stays u v from to
stays_on x = record { keeps = x.moved.keeps; none = x.moved.none; said = x.moved.said }

-- what a marker stands for, and what its file has left, is a front of what becomes of the capture
pub stands_front : (c : Conditioning) (taken bytes left : List ℕ) (m : Marking Classes) (k : ℕ) → IsAtRecordEnd placed_by c taken bytes m
    → (tail : List ℕ) × (marked c (taken ++ left) ≡ (bytes ++ take k m.held.ready) ++ tail)
stands_front c taken bytes left m k s =
    let rest = made m.stage (placed_by m.classes) m.course (m.held.pending ++ left) in
    let halves : take k m.held.ready ++ drop k m.held.ready ≡ m.held.ready = take-append-drop k m.held.ready in (
      drop k m.held.ready ++ rest,
      sym (s.same left) ∙ ap (λ (l : List ℕ). bytes ++ (l ++ rest)) (sym halves)
          ∙ ap (λ (l : List ℕ). bytes ++ l) (append_assoc (take k m.held.ready) (drop k m.held.ready) rest)
          ∙ sym (append_assoc bytes (take k m.held.ready) (drop k m.held.ready ++ rest)),
    )

came_unwritten : (c : Conditioning) (capture taken written : List ℕ) (t : Trouble) → CameOf c capture taken written (Err (write_trouble t))
came_unwritten c capture taken written trouble.Failed = tt
came_unwritten c capture taken written trouble.NoMemory = tt

-- what was told of what stands behind what is ready, once that is written
abbrev pub EndsAs : Behind → Result ⊤ Unmarked → Type 0
EndsAs b r = (c : Conditioning) (capture taken written : List ℕ) → IsBehind c capture written b → CameOf c capture taken written r

-- what came of a marking of which a front of what is ready was written, or all or nothing
module _ {u v w : View} {from to : ℕ} {m n : Marking Classes} (apart : AreApart u from to) (x : IsOn u v from to m n) (room : holds n ≤ 262160) where
  marks_by : (k : ℕ) (r : Result ⊤ Unmarked) → Wrote v w to (take k n.held.ready)
      → ((c : Conditioning) (taken bytes left : List ℕ) → IsAtRecordEnd placed_by c taken bytes n → v.left from ≡ Some left
      → CameOf c (taken ++ left) taken (bytes ++ take k n.held.ready) r)
      → MarksLeft u w from to m r
  marks_by k r y came t c first s left at =
      let ready = take k n.held.ready in
      let moved = moved_wrote x.moved ready apart y in
      let there = x.moved.left t left at in
      let rest = moved.left t left at in
      let stands = x.stands c first s in
      let taken = first ++ x.taken in
      let split : first ++ left ≡ taken ++ there.0 = ap (λ (l : List ℕ). first ++ l) there.1 ∙ sym (append_assoc first x.taken there.0) in
      let same : there.0 ≡ rest.0 = append_cancel_left x.taken there.0 rest.0 (sym there.1 ∙ rest.1) in
      let front = stands_front c taken x.written there.0 n k stands in (
        record {
          written = x.written ++ ready;
          grown = moved.grown t;
          front = (front.0, ap (marked c) split ∙ front.1);
          taken = taken;
          left = there.0;
          split = split;
          few = omega (arith, stands.many, room, length-append x.written ready);
          came = subst (λ (l : List ℕ). CameOf c l taken (x.written ++ ready) r) (sym split) (came c taken x.written there.0 stands there.2);
        },
        λ e. rest.2 ∙ ap Some (sym same),
      )

  -- a write failed, or no memory was left for it: a front of what is ready was written
  pub marks_unwritten : (t : Trouble) → WroteFront v w to n.held.ready → MarksLeft u w from to m (Err (write_trouble t))
  marks_unwritten t y = marks_by y.0 (Err (write_trouble t)) y.1 (λ c taken bytes left s at. came_unwritten c (taken ++ left) taken (bytes ++ take y.0 n.held.ready) t)

  pub marks_told : (b : Behind) (r : Result ⊤ Unmarked) → TellsLeft placed_by v from n b → Wrote v w to n.held.ready → EndsAs b r → MarksLeft u w from to m r
  marks_told b r told y ends =
      let all : n.held.ready ≡ take (length n.held.ready) n.held.ready = sym (take-length n.held.ready) in
      marks_by (length n.held.ready) r (subst (λ (l : List ℕ). Wrote v w to l) all y)
      (λ c taken bytes left s at.
      ends c (taken ++ left) taken (bytes ++ take (length n.held.ready) n.held.ready)
      (subst (λ (l : List ℕ). IsBehind c (taken ++ left) (bytes ++ l) b) all (told left at c taken bytes s)))

-- a read failed, or no memory was left for it: nothing more is written
came_cut : (c : Conditioning) (taken bytes left : List ℕ) (n : Marking Classes) (streamed : Bool) (t : Trouble) → IsAtRecordEnd placed_by c taken bytes n → Waits n → length n.held.ready ≡ 0
    → CameOf c (taken ++ left) taken (bytes ++ []) (Err (read_trouble streamed t))
came_cut c taken bytes left n true trouble.Failed s w none =
    let x = cut_whole placed_by c taken bytes n s w none in
    (x.0, x.1, subst (λ (l : List ℕ). AreWhole c taken x.0 l) (sym (append-nil bytes)) x.2)
came_cut c taken bytes left n streamed other s w none = tt

pub marks_cut : {u v : View} {from to : ℕ} {m n : Marking Classes} → AreApart u from to → IsOn u v from to m n → holds n ≤ 262160 → (streamed : Bool) (t : Trouble)
    → Waits n → length n.held.ready ≡ 0 → MarksLeft u v from to m (Err (read_trouble streamed t))
marks_cut {v = v} {to = to} {n = n} apart x room streamed t w none =
    marks_by apart x room 0 (Err (read_trouble streamed t)) (wrote_nothing v to) (λ c taken bytes left s at. came_cut c taken bytes left n streamed t s w none)

some_is : (x y : List ℕ) → Some x ≡ Some y → x ≡ y
some_is x y h = cc

-- WHAT IS MARKED THROUGH A SOURCE is marked of the files behind it: of what they have left behind the front, or of the front alone
module _ (v w : View) (g h from next to : ℕ) (front ahead : Front) (later : Way Classes) (m : Marking Classes) (r : Result ⊤ Unmarked) where
  abbrev Old : Bool → View
  Old rest = source_view placed_by v g from front (way_by rest)

  abbrev New : View
  New = source_view placed_by w h next ahead later

  as_given : (l : Way Classes) (t : Bool) (left : Option (List ℕ)) → way_number l ≡ 0 → way_own placed_by ahead l t left ≡ left
  as_given AsGiven t left e = refl
  as_given Converted t left e = absurd (cc)
  as_given (Marked n) t left e = absurd (cc)
  as_given (MarkedConverted n) t left e = absurd (cc)

  new_left : way_number later ≡ 0 → next ≡ from → New.left from ≡ w.left from
  new_left number same =
      ap (λ (n : ℕ). with_way (eqb from n) placed_by ahead later w.tells (w.left from)) same ∙ left_self from placed_by ahead later w.tells (w.left from)
      ∙ as_given later w.tells (w.left from) number

  followed : Stays (Old true) New from to → MarksLeft (Old true) New from to m r → Marks v w from to true front.bytes.now m r
  followed s x t c stands capture at = by (v.left from) refl at
    where
      fixed : AreFixed g h from next (way_by true) later v.fixed w.fixed
      fixed = still_fixed placed_by v w g h from next front ahead (way_by true) later _ _ s.keeps

      by : (left : Option (List ℕ)) → v.left from ≡ left → with_front true true front.bytes.now left ≡ Some capture → AreMarked v w from to true c capture r
      by None e k = absurd (cc)
      by (Some own) e k =
          let y = x t c front.bytes.now stands own (left_self from placed_by front AsGiven v.tells (v.left from) ∙ e) in
          subst (λ (l : List ℕ). AreMarked v w from to true c l r) (some_is (front.bytes.now ++ own) capture k)
          (y.0, λ b. sym (new_left fixed.number fixed.file_is) ∙ y.1 b)

  in_memory : front.rest ≡ false → MarksLeft (Old false) New from to m r → Marks v w from to false front.bytes.now m r
  in_memory none x t c stands capture at =
      let shown : (Old false).left from ≡ Some capture =
      left_self from placed_by front Converted v.tells (v.left from) ∙ ap (λ (b : Bool). with_front true b front.bytes.now (v.left from)) none ∙ at in
      ((x t c [] stands capture shown).0, λ e. absurd (true≢false (sym e)))

  marks_by_way : (rest : Bool) → front.rest ≡ rest → Stays (Old rest) New from to → MarksLeft (Old rest) New from to m r
      → Marks v w from to rest front.bytes.now m r
  marks_by_way true e s x = followed s x
  marks_by_way false e s x = in_memory e x

  module _ (way : Way Classes) (stays : Stays (source_view placed_by v g from front way) New from to) where
    pub source_reference : h ≡ g
    source_reference = (still_fixed placed_by v w g h from next front ahead way later _ _ stays.keeps).reference

    pub marks_source : (rest : Bool) → way ≡ way_by rest → front.rest ≡ rest → MarksLeft (source_view placed_by v g from front way) New from to m r
        → Marks v w from to rest front.bytes.now m r
    marks_source rest is e x =
        let P : Way Classes → Type 0 = λ y. Stays (source_view placed_by v g from front y) New from to in
        let R : Way Classes → Type 0 = λ y. MarksLeft (source_view placed_by v g from front y) New from to m r in
        marks_by_way rest e (subst P is stays) (subst R is x)

    pub stays_source : Stays v w from to
    stays_source = record {
      keeps = keeps_back placed_by v w g h from next front ahead way later (OtherThan v (v.name to)) (λ f. (f ≢ from) × NotNamed v (v.name to) f)
          (λ f k. k.0) stays.keeps;
      none = stays.none;
      said = stays.said;
    }

-- and so of files of which the bytes are counted
module _ (v w : View) (g h from next to later : ℕ) where
  pub stays_counted : Stays (counted_view v g from 0) (counted_view w h next later) from to → Stays v w from to
  stays_counted s = record { keeps = keeps_behind v w g h from next later _ _ s.keeps; none = s.none; said = s.said }
