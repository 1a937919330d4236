-- What writes to the two output files leave of both texts.
use Rattle.std.proofs.Common.{◌≡◌, ◌++◌, ◌∙◌, ℕ, List, [], Some, refl, ap, sym, inl, inr}
use Rattle.std.proofs.lemmas.List.{append-nil}
use Rattle.std.specs.Prelude.{IsSome, IsTrue, Result}
use Rattle.std.specs.declared.option.Option.{Option}
use Rattle.capture_model.specs.Header.{capture_header}
use Rattle.play_base.specs.View.{View, Everything, Keeps, Wrote, WroteFront}
use Rattle.play_base.proofs.HoldsLaws.{apart_kept, apart_sym, holds_beside}
use Rattle.play_text.specs.Texts.{fates_header}
use Rattle.gathered_writes.specs.Gathered.{Grew, HasText, Stopped}
use Rattle.gathered_writes.proofs.GatheredLaws.{text_grew, text_stopped, text_beside, text_front, text_kept, text_of_held, text_same, text_whole, front_longer, front_same}
use Rattle.gathered_writes.proofs.GatherLemmas.{grew_whole, stopped_at_front, stopped_whole}
use Rattle.play_loop.specs.declared.outputs.Outputs.{Outputs}
use Rattle.play_loop.specs.declared.spare.Spare.{Spare}
use Rattle.play_loop.specs.declared.fault.PlayFault.{PlayFault}
use Rattle.play_loop.specs.Outputs.{AddsOnly, TextsAre, FrontsAre, SameFiles}
use Rattle.play_loop.specs.Played.{AreEmpty, BeginsWith, HaveHeads, RowsWait}

module _ {u : View} {dep fat : ℕ} {recs rows ds ts : List ℕ} (h : TextsAre u dep fat recs rows ds ts) where
  -- where one of them was given more
  pub texts_departed : {v : View} {recs' d : List ℕ} → Grew u v dep recs recs' d → TextsAre v dep fat recs' rows (ds ++ d) ts
  texts_departed x = record {
    departures = text_grew _ _ _ _ _ _ _ h.departures x;
    fates = text_beside _ _ fat dep _ _ _ h.fates (apart_sym u dep fat h.apart) x.wrote;
    apart = apart_kept _ _ _ _ _ _ h.departures.holds.there h.fates.holds.there h.apart x.wrote.keeps;
  }

  pub texts_rowed : {v : View} {rows' t : List ℕ} → Grew u v fat rows rows' t → TextsAre v dep fat recs rows' ds (ts ++ t)
  texts_rowed x = record {
    departures = text_beside _ _ dep fat _ _ _ h.departures h.apart x.wrote;
    fates = text_grew _ _ _ _ _ _ _ h.fates x;
    apart = apart_kept _ _ _ _ _ _ h.departures.holds.there h.fates.holds.there h.apart x.wrote.keeps;
  }

  -- where that was not written whole
  pub fronts_departed : {v : View} {d : List ℕ} (t : List ℕ) → Stopped u v dep recs d → FrontsAre v dep fat (ds ++ d) (ts ++ t)
  fronts_departed {v} t x = record {
    departures = text_stopped _ _ _ _ _ _ h.departures x;
    fates = front_longer v fat ts t (text_front _ _ _ _ (text_beside _ _ fat dep _ _ _ h.fates (apart_sym u dep fat h.apart) x.wrote));
  }

  pub fronts_rowed : {v : View} {t : List ℕ} → Stopped u v fat rows t → FrontsAre v dep fat ds (ts ++ t)
  fronts_rowed x = record {
    departures = text_front _ _ _ _ (text_beside _ _ dep fat _ _ _ h.departures h.apart x.wrote);
    fates = text_stopped _ _ _ _ _ _ h.fates x;
  }

  pub fronts_of_texts : FrontsAre u dep fat ds ts
  fronts_of_texts = record { departures = text_front _ _ _ _ h.departures; fates = text_front _ _ _ _ h.fates }

  pub texts_same : {ds' ts' : List ℕ} → ds ≡ ds' → ts ≡ ts' → TextsAre u dep fat recs rows ds' ts'
  texts_same d t = record { departures = text_same _ _ _ _ _ d h.departures; fates = text_same _ _ _ _ _ t h.fates; apart = h.apart }

  -- what was read leaves what was written
  pub texts_kept : {F : ℕ → Type 0} {v : View} → Keeps Everything F u v → TextsAre v dep fat recs rows ds ts
  texts_kept k = record {
    departures = text_kept _ _ _ _ _ _ h.departures k;
    fates = text_kept _ _ _ _ _ _ h.fates k;
    apart = apart_kept _ _ _ _ _ _ h.departures.holds.there h.fates.holds.there h.apart k;
  }

pub fronts_same : {v : View} {dep fat : ℕ} {ds ds' ts ts' : List ℕ} → ds ≡ ds' → ts ≡ ts' → FrontsAre v dep fat ds ts → FrontsAre v dep fat ds' ts'
fronts_same d t h = record { departures = front_same _ _ _ _ d h.departures; fates = front_same _ _ _ _ t h.fates }

-- where what was gathered could not be written whole
pub flushed_first : {u v : View} {dep fat : ℕ} {recs rows ds ts : List ℕ} → TextsAre u dep fat recs rows ds ts → WroteFront u v dep recs → FrontsAre v dep fat ds ts
flushed_first {ds = ds} {ts = ts} h x = fronts_same (append-nil ds) (append-nil ts) (fronts_departed h [] (stopped_at_front _ _ _ _ [] x))

pub flushed_second : {u v w : View} {dep fat : ℕ} {recs rows ds ts : List ℕ} → TextsAre u dep fat recs rows ds ts → Wrote u v dep recs → WroteFront v w fat rows
    → FrontsAre w dep fat ds ts
flushed_second {u} {v} {w} {dep} {fat} {recs} {rows} {ds} {ts} h x y =
    let grew : Grew u v dep recs [] [] = record { written = recs; wrote = x; split = refl } in
    fronts_same (append-nil ds) (append-nil ts) (fronts_rowed (texts_departed h grew) (stopped_at_front _ _ _ _ [] y))

-- where it was
pub flushed_whole : {u v w : View} {dep fat : ℕ} {recs rows ds ts : List ℕ} → TextsAre u dep fat recs rows ds ts → Wrote u v dep recs → Wrote v w fat rows
    → TextsAre w dep fat [] [] ds ts
flushed_whole {u} {v} {w} {dep} {fat} {recs} {rows} {ds} {ts} h x y =
    let first : Grew u v dep recs [] [] = record { written = recs; wrote = x; split = refl } in
    let second : Grew v w fat rows [] [] = record { written = rows; wrote = y; split = refl } in
    texts_same (texts_rowed (texts_departed h first) second) (append-nil ds) (append-nil ts)

pub same_trans : {a b c : Outputs} → SameFiles a b → SameFiles b c → SameFiles a c
same_trans x y = record { departures = y.departures ∙ x.departures; fates = y.fates ∙ x.fates }

-- whatever memory is left to the next packet that is kept
pub same_spare : {a b : Outputs} {spare : Spare} → SameFiles a b → SameFiles a (record b { spare = spare })
same_spare x = record { departures = x.departures; fates = x.fates }

pub only_spare : {A : Type 0} {u v : View} {a b : Outputs} {spare : Spare} {r : Result A PlayFault} → AddsOnly u v a b r → AddsOnly u v a (record b { spare = spare }) r
only_spare x = record { same = same_spare x.same; others = x.others; no_fault = x.no_fault; why = x.why }

pub fronts_files : {v : View} {dep fat dep' fat' : ℕ} {ds ts : List ℕ} → dep ≡ dep' → fat ≡ fat' → FrontsAre v dep fat ds ts → FrontsAre v dep' fat' ds ts
fronts_files d f h = rw (← d, ← f) h

pub there_same : (o : ℕ → Option ℕ) (a b : ℕ) → b ≡ a → IsSome (o a) → IsSome (o b)
there_same o a b e h = rw e h

-- the heads of both
texts_empty : {v : View} {dep fat : ℕ} → AreEmpty v dep fat → TextsAre v dep fat [] [] [] []
texts_empty h = record { departures = text_of_held _ _ [] h.departures; fates = text_of_held _ _ [] h.fates; apart = h.apart }

head_written : {u v : View} {dep fat : ℕ} {bytes : List ℕ} → bytes ≡ capture_header → AreEmpty u dep fat → Wrote u v dep bytes → TextsAre v dep fat [] [] capture_header []
head_written {u} {v} {dep} e h x = let y : Wrote u v dep capture_header = rw (← e) x in texts_departed (texts_empty h) (grew_whole _ _ _ capture_header y)

pub heads_first : {u v : View} {dep fat : ℕ} {bytes : List ℕ} → bytes ≡ capture_header → AreEmpty u dep fat → WroteFront u v dep bytes
    → FrontsAre v dep fat capture_header fates_header
heads_first {u} {v} {dep} e h x =
    let y : WroteFront u v dep capture_header = rw (← e) x in fronts_departed (texts_empty h) fates_header (stopped_whole _ _ _ capture_header y)

pub heads_second : {u v w : View} {dep fat : ℕ} {bytes row : List ℕ} → bytes ≡ capture_header → row ≡ fates_header → AreEmpty u dep fat
    → Wrote u v dep bytes → WroteFront v w fat row → FrontsAre w dep fat capture_header fates_header
heads_second {v = v} {w} {fat = fat} e f h x y =
    let z : WroteFront v w fat fates_header = rw (← f) y in fronts_rowed (head_written e h x) (stopped_whole _ _ _ fates_header z)

pub heads_whole : {u v w : View} {dep fat : ℕ} {bytes row : List ℕ} → bytes ≡ capture_header → row ≡ fates_header → AreEmpty u dep fat
    → Wrote u v dep bytes → Wrote v w fat row → TextsAre w dep fat [] [] capture_header fates_header
heads_whole {v = v} {w} {fat = fat} e f h x y = let z : Wrote v w fat fates_header = rw (← f) y in texts_rowed (head_written e h x) (grew_whole _ _ _ fates_header z)

begins : {v : View} {file : ℕ} {text : List ℕ} → HasText v file [] text → IsTrue v.tells → BeginsWith v file text
begins h t = ([], (text_whole _ _ _ h).bytes t ∙ ap Some (sym (append-nil _)))

pub have_heads : {v : View} {dep fat : ℕ} → TextsAre v dep fat [] [] capture_header fates_header → IsTrue v.tells → HaveHeads v dep fat
have_heads h t = (begins h.departures t, begins h.fates t)

-- where that of the departures was not written whole, no row was; where that of the fates was not, that of the departures was
pub rows_first : {u v : View} {dep fat : ℕ} {bytes : List ℕ} → AreEmpty u dep fat → WroteFront u v dep bytes → IsTrue u.tells → RowsWait v dep fat
rows_first {u} {v} {dep} {fat} h x t =
    inl ((holds_beside u v fat dep [] _ h.fates (apart_sym u dep fat h.apart) x.1).bytes (x.1.keeps.tells ∙ t))

pub rows_second : {u v w : View} {dep fat : ℕ} {bytes row : List ℕ} → bytes ≡ capture_header → AreEmpty u dep fat → Wrote u v dep bytes
    → WroteFront v w fat row → IsTrue u.tells → RowsWait w dep fat
rows_second {dep = dep} {fat} e h x y t =
    let head = head_written e h x in
    inr (begins (text_beside _ _ dep fat _ _ _ head.departures head.apart y.1) (y.1.keeps.tells ∙ x.keeps.tells ∙ t))
