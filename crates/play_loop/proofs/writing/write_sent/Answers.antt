-- A packet that was sent adds its record to the departures, and then its row to the fates.
use Rattle.std.proofs.Common.{◌∙◌, ℕ, List, ap, refl, rules, subst}
use Rattle.altq_model.specs.declared.Fate.TheVariants as fate
use Rattle.capture_model.specs.Written.{record_text}
use Rattle.play_core.specs.declared.turn.Departure.{Departure}
use Rattle.play_text.specs.Names.{name_of}
use Rattle.play_text.specs.Texts.{fate_text}
use Rattle.gathered_writes.specs.Gathered.{Grew, Stopped}
use Rattle.play_base.proofs.ViewLaws.{same_trans as same_counts}
use Rattle.play_loop.proofs.KeptLemmas.{cause_since, fates_cause, wrote_both, wrote_first}
use Rattle.play_loop.proofs.OutputLemmas.{texts_departed, texts_rowed, fronts_departed, fronts_rowed}
use Rattle.play_loop.proofs.writing.write_sent.Goals as goal

pub returns-in-Err-clause-stopped : goal.returns-in-Err-clause-stopped
returns-in-Err-clause-stopped g c = λ ds ts h.
    let R : List ℕ → Type 0 = λ xs. Stopped (g.F.Files.view c.args.files.now) (g.F.Files.view c.gather_record.new.files) c.args.outputs.now.departures c.args.outputs.now.records.items (record_text (record { stamp = c.args.departure.end; captured = xs; original = c.args.departure.packet.len })) in
    fronts_departed h _ (subst R (c.as_slice-bytes.ensures ∙ ap (λ (d : Departure). d.packet.bytes) c.dress_packet.ensures) c.in-Err.ensures.stopped)

pub returns-in-Ok-gather_row-clause-added : goal.returns-in-Ok-gather_row-clause-added
returns-in-Ok-gather_row-clause-added g c =
    let R : List ℕ → Type 0 = λ xs. Grew (g.F.Files.view c.args.files.now) (g.F.Files.view c.gather_record.new.files) c.args.outputs.now.departures c.args.outputs.now.records.items c.gather_record.new.pending.items (record_text (record { stamp = c.args.departure.end; captured = xs; original = c.args.departure.packet.len })) in
    let S : Departure → Type 0 = λ d. Grew (g.F.Files.view c.gather_record.new.files) (g.F.Files.view c.gather_row.new.files) c.args.outputs.now.fates c.args.outputs.now.rows c.gather_row.new.rows (fate_text d.packet.number d.packet.at d.packet.len (name_of c.args.names.now c.args.departure.class) (fate.Sent d.start d.end d.rule)) in
    record {
      wrote = λ ds ts h.
          texts_rowed (texts_departed h (subst R (c.as_slice-bytes.ensures ∙ ap (λ (d : Departure). d.packet.bytes) c.dress_packet.ensures) c.in-Ok.ensures.grew))
          (subst S c.dress_packet.ensures c.in-Ok-gather_row.ensures.grew);
      counted = c.count.ensures;
    }

pub returns-in-Err-gather_row-clause-stopped : goal.returns-in-Err-gather_row-clause-stopped
returns-in-Err-gather_row-clause-stopped g c = λ ds ts h.
    let R : List ℕ → Type 0 = λ xs. Grew (g.F.Files.view c.args.files.now) (g.F.Files.view c.gather_record.new.files) c.args.outputs.now.departures c.args.outputs.now.records.items c.gather_record.new.pending.items (record_text (record { stamp = c.args.departure.end; captured = xs; original = c.args.departure.packet.len })) in
    let S : Departure → Type 0 = λ d. Stopped (g.F.Files.view c.gather_record.new.files) (g.F.Files.view c.gather_row.new.files) c.args.outputs.now.fates c.args.outputs.now.rows (fate_text d.packet.number d.packet.at d.packet.len (name_of c.args.names.now c.args.departure.class) (fate.Sent d.start d.end d.rule)) in
    fronts_rowed (texts_departed h (subst R (c.as_slice-bytes.ensures ∙ ap (λ (d : Departure). d.packet.bytes) c.dress_packet.ensures) c.in-Ok.ensures.grew))
    (subst S c.dress_packet.ensures c.in-Err-gather_row.ensures.stopped)

pub returns-in-Ok-gather_row-clause-only : goal.returns-in-Ok-gather_row-clause-only
returns-in-Ok-gather_row-clause-only g c = record {
  same = record { departures = refl; fates = refl };
  others = wrote_both c.requires.can.departures c.requires.can.fates c.in-Ok.ensures.grew.wrote c.in-Ok-gather_row.ensures.grew.wrote;
  no_fault = same_counts _ _ _ c.in-Ok.ensures.no_fault c.in-Ok-gather_row.ensures.no_fault;
  why = tt;
}

pub returns-in-Err-gather_row-clause-only : goal.returns-in-Err-gather_row-clause-only
returns-in-Err-gather_row-clause-only g c = record {
  same = record { departures = refl; fates = refl };
  others = wrote_both c.requires.can.departures c.requires.can.fates c.in-Ok.ensures.grew.wrote c.in-Err-gather_row.ensures.stopped.wrote;
  no_fault = tt;
  why = cause_since (g.F.Files.view c.gather_row.new.files) c.output_fault-in-Err-gather_row.result (wrote_first {fat = c.args.outputs.now.fates} c.in-Ok.ensures.grew.wrote).keeps refl refl
      (fates_cause c.args.outputs.now.departures c.args.outputs.now.fates (g.F.Files.view c.gather_record.new.files) (g.F.Files.view c.gather_row.new.files) c.in-Err-gather_row.trouble c.output_fault-in-Err-gather_row.result c.output_fault-in-Err-gather_row.ensures c.in-Err-gather_row.ensures.failed);
}

pub returns-in-Err-clause-only : goal.returns-in-Err-clause-only
returns-in-Err-clause-only g c = record {
  same = record { departures = refl; fates = refl };
  others = wrote_first c.in-Err.ensures.stopped.wrote;
  no_fault = tt;
  why = search rules;
}
