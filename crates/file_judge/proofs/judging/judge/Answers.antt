use Rattle.std.proofs.Common.{◌≡◌, ◌≤◌, ◌<◌, ◌∙◌, ℕ, List, length, map, refl, ap, sym, subst, arith}
use Rattle.std.specs.Prelude.{All}
use Rattle.std.proofs.lemmas.List.{length-map}
use Rattle.altq_model.specs.declared.Placed.{Placed}
use Rattle.altq_model.specs.Arrivals.{arrivals_of}
use Rattle.altq_model.specs.Arrivals.{bare_arrivals as bare_arrivals_of}
use Rattle.altq_model.specs.History.{Arrival}
use Rattle.capture_model.specs.Capture.{Record as Original}
use Rattle.fate_check.specs.declared.reading.Row.{Row}
use Rattle.fate_check.specs.Text.{Reads}
use Rattle.fate_judge.specs.declared.given.Arrived.{Arrived}
use Rattle.fate_judge.specs.Given.{bare_arrival, bare_arrivals}
use Rattle.fate_judge.specs.Judged.{Case}
use Rattle.given_fates.specs.declared.fates.Fates.{Fates}
use Rattle.given_fates.specs.Fates.{HasFates}
use Rattle.given_play.specs.Rights.{allowed_of}
use Rattle.fate_departures.specs.Frames.{bytes_of}
use Rattle.file_judge.specs.Given.{Given}
use Rattle.file_judge.proofs.JudgeLemmas.{IsHeldTo, passed_busy, passed_departures, passed_rows, unverified_busy, unverified_departures, unverified_due, unverified_rows, verified}
use Rattle.file_judge.proofs.VerdictLemmas.{are_some, bytes_same}
use Rattle.file_judge.proofs.judging.judge.Goals.{In-Ok}
use Rattle.input_files.specs.Records.{shown_of}
use Rattle.interface_policy.specs.Policy.{queue_names}
use Rattle.file_judge.proofs.judging.judge.Goals as goal

-- the files, whichever capture and text they are read of
abbrev given : (c : In-Ok) (capture : List Original) (text : List ℕ) → Given
given c capture text = record { interface = c.args.interface.now; records = capture; departures = c.args.departures.now; fates = text }

-- what they are held to
held : (c : In-Ok) (capture : List Original) (text : List ℕ) → c.args.records.now ≡ map shown_of capture → HasFates (queue_names c.args.interface.now) text c.args.fates.now
    → IsHeldTo (given c capture text) c.as_slice-rows.result.now (bare_arrivals c.in-Ok.packets.items) (map bytes_of c.args.records.now)
held c capture text shown has =
    let names = queue_names c.args.interface.now in
    let W : Fates → Type 0 = λ f. HasFates names text f in
    let R : List Row → Type 0 = λ rs. Reads names text rs in
    record {
      reads = subst R (sym c.as_slice-rows.ensures.value) (subst W c.in-Rows.is has);
      comes = c.in-Ok.ensures.packets capture shown ∙ ap (λ (place : List ℕ → Placed). bare_arrivals_of (arrivals_of place capture)) c.in_ok-classify.ensures.placed;
      frames = bytes_same c.args.records.now capture shown;
    }

pub returns-in-Err-clause-refuted : goal.returns-in-Err-clause-refuted
returns-in-Err-clause-refuted c = λ capture text shown has.
    let o = (goal.at.returns-in-Err-clause-refuted c).In-Ok in
    unverified_rows (given o capture text) _ c.as_slice-rows.result.now _ (bare_arrivals c.deref.result.now) _ c.in-Err.why (held o capture text shown has) refl
    (ap bare_arrivals c.deref.ensures.value) c.in-Err.ensures.refuted

pub returns-in-Err-judge_busy-clause-refuted : goal.returns-in-Err-judge_busy-clause-refuted
returns-in-Err-judge_busy-clause-refuted c = λ capture text shown has.
    let o = (goal.at.returns-in-Err-judge_busy-clause-refuted c).In-Ok in
    let g = given o capture text in
    let h = held o capture text shown has in
    let rs = c.as_slice-rows.result.now in
    unverified_busy g _ rs _ (bare_arrivals c.deref-2.result.now) _ c.in-Err-judge_busy.why h refl (ap bare_arrivals c.deref-2.ensures.value)
    (passed_rows g _ rs _ (bare_arrivals c.deref.result.now) _ h refl (ap bare_arrivals c.deref.ensures.value) c.in_default-judge_rows.ensures.passed)
    c.in-Err-judge_busy.ensures.refuted

pub returns-in-Err-leaving-clause-refuted : goal.returns-in-Err-leaving-clause-refuted
returns-in-Err-leaving-clause-refuted c = λ capture text shown has.
    let o = (goal.at.returns-in-Err-leaving-clause-refuted c).In-Ok in
    let g = given o capture text in
    let h = held o capture text shown has in
    let rs = c.as_slice-rows.result.now in
    unverified_departures g _ rs _ (bare_arrivals c.deref-3.result.now) _ c.in-Err-leaving.why h refl (ap bare_arrivals c.deref-3.ensures.value)
    (passed_rows g _ rs _ (bare_arrivals c.deref.result.now) _ h refl (ap bare_arrivals c.deref.ensures.value) c.in_default-judge_rows.ensures.passed)
    (passed_busy g _ rs _ (bare_arrivals c.deref-2.result.now) _ h refl (ap bare_arrivals c.deref-2.ensures.value) c.in_default-judge_busy.ensures.passed)
    c.in-Err-leaving.ensures.refuted

pub judge_due-requires-clause-few : goal.judge_due-requires-clause-few
judge_due-requires-clause-few c =
    let rs = c.as_slice-rows.result.now in
    let case : Case = record { rate = c.args.interface.now.rate; classes = allowed_of c.args.interface.now; arrived = bare_arrivals c.deref.result.now; rows = rs } in
    let few : length rs ≤ length (bare_arrivals c.deref.result.now) = c.rows_that_pass.ensures.few case c.in_default-judge_rows.ensures.passed in
    let packets : length (bare_arrivals c.deref.result.now) ≡ length c.args.records.now = length-map c.deref.result.now bare_arrival ∙ ap length c.deref.ensures.value ∙ c.in-Ok.ensures.count in
    omega (arith, few, packets, c.requires.few)

pub judge_due-requires-clause-in_turn : goal.judge_due-requires-clause-in_turn
judge_due-requires-clause-in_turn c =
    let case : Case = record { rate = c.args.interface.now.rate; classes = allowed_of c.args.interface.now; arrived = bare_arrivals c.deref.result.now; rows = c.as_slice-rows.result.now } in
    let there = are_some (bare_arrivals c.deref.result.now) (subst (λ (ps : List Arrived). All (λ (a : Arrival). 0 < a.len) (bare_arrivals ps)) (sym c.deref.ensures.value) c.in-Ok.ensures.some) in
    c.rows_that_pass.ensures.in_turn case there c.in_default-judge_rows.ensures.passed

pub returns-in-Ok-judge_due-clause-verified : goal.returns-in-Ok-judge_due-clause-verified
returns-in-Ok-judge_due-clause-verified c = λ capture text shown has.
    let o = (goal.at.returns-in-Ok-judge_due-clause-verified c).In-Ok in
    let g = given o capture text in
    let h = held o capture text shown has in
    let rs = c.as_slice-rows.result.now in
    verified g _ rs _ _ c.in-Ok-judge_due.late.items h refl
    (passed_rows g _ rs _ (bare_arrivals c.deref.result.now) _ h refl (ap bare_arrivals c.deref.ensures.value) c.in_default-judge_rows.ensures.passed)
    (passed_busy g _ rs _ (bare_arrivals c.deref-2.result.now) _ h refl (ap bare_arrivals c.deref-2.ensures.value) c.in_default-judge_busy.ensures.passed)
    (passed_departures g _ rs _ (bare_arrivals c.deref-3.result.now) _ h refl (ap bare_arrivals c.deref-3.ensures.value) c.in_default-leaving.ensures.passed)
    c.in-Ok-judge_due.ensures.passed c.in-Ok-judge_due.ensures.late

pub returns-clause-refuted : goal.returns-clause-refuted
returns-clause-refuted c = λ capture text shown has.
    let o = (goal.at.returns-clause-refuted c).In-Ok in
    let g = given o capture text in
    let h = held o capture text shown has in
    let rs = c.as_slice-rows.result.now in
    unverified_due g _ rs _ _ c.in-Err-judge_due.why h refl
    (passed_rows g _ rs _ (bare_arrivals c.deref.result.now) _ h refl (ap bare_arrivals c.deref.ensures.value) c.in_default-judge_rows.ensures.passed)
    (passed_busy g _ rs _ (bare_arrivals c.deref-2.result.now) _ h refl (ap bare_arrivals c.deref-2.ensures.value) c.in_default-judge_busy.ensures.passed)
    (passed_departures g _ rs _ (bare_arrivals c.deref-3.result.now) _ h refl (ap bare_arrivals c.deref-3.ensures.value) c.in_default-leaving.ensures.passed)
    c.in-Err-judge_due.ensures.refuted
