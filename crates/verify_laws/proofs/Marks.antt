-- The stamps of a marked capture are those of the capture.
use Rattle.std.proofs.Common.{◌∙◌, ap, ℕ, List, [], ◌∷◌, sym, subst}
use Rattle.capture_model.specs.Capture.{End, IsCapture, Outcome, Reads, Record, Step, outcome}
use Rattle.capture_model.proofs.OutcomeLemmas.{outcome_ends, reads_outcome}
use Rattle.pcap_files.proofs.ReadingLaws.{one_reading}
use Rattle.traffic_marks.specs.Laws.{recaptured}
use Rattle.traffic_marks.specs.Marked.{Conditioning, frames, marked}
use Rattle.traffic_marks.proofs.Reading.{keeps_reading}
use Rattle.verify_laws.proofs.Stamps.{AreEarly}

early_recaptured : (rs : List Record) (fs : List (List ℕ)) → AreEarly rs → AreEarly (recaptured rs fs)
early_recaptured [] fs h = h
early_recaptured (r ∷ rs) [] h = h
early_recaptured (r ∷ rs) (f ∷ fs) h = (h.0, early_recaptured rs fs h.1)

pub early_marked : (c : Conditioning) (capture : List ℕ) (records : List Record) → ((rs : List Record) → IsCapture capture rs → AreEarly rs)
    → IsCapture (marked c capture) records → AreEarly records
early_marked c capture records early reads =
    let keeps = keeps_reading c capture in
    let one = one_reading (marked c capture) records (outcome (marked c capture)).records End (outcome (marked c capture)).last reads tt
    (reads_outcome (marked c capture)) (outcome_ends (marked c capture)) in
    let P : Step → Type 0 = λ s. Reads capture (outcome capture).records s in
    let whole : IsCapture capture (outcome capture).records = subst P (sym (one.1 ∙ ap (λ (o : Outcome). o.last) keeps)) (reads_outcome capture) in
    let Q : List Record → Type 0 = λ rs. AreEarly rs in
    subst Q (sym (one.0 ∙ ap (λ (o : Outcome). o.records) keeps)) (early_recaptured (outcome capture).records (frames c (outcome capture).records) (early (outcome capture).records whole))
