use Rattle.std.proofs.Common.{◌≤◌, rules, arith, sym, subst, length, List, ℕ}
use Rattle.capture_model.specs.Capture.{most_bytes}
use Rattle.pcapng_model.specs.Reading.{step}
use Rattle.pcapng_files.specs.Converted.{IsFault}
use Rattle.pcapng_files.specs.Converting.{place_of}
use Rattle.pcapng_files.proofs.ConvertingLemmas.{cause_of, converting_none, turned, whole}
use Rattle.pcapng_files.proofs.RecordLemmas.{finished_fits}
use Rattle.pcapng_files.proofs.converting.convert.Goals as goal

pub loop-conversion-init : goal.loop-conversion-init
loop-conversion-init c = record {
  converting = converting_none _ _ (search rules) (search rules);
  few = search rules;
  behind = search rules;
  within = search rules;
  small = search rules;
}

pub loop-conversion-preserved : goal.loop-conversion-preserved
loop-conversion-preserved c =
    let known = c.loop-conversion.invariant in
    let next = c.in-Ok.ensures in
    record {
      converting = turned c.args.bytes.items c.loop-conversion.file.items c.as_mut_slice.result.now c.next.new.bytes c.loop-conversion.file.len
          c.loop-conversion.conversion c.next.new.self c.as_mut_slice.ensures.value c.loop-conversion.file.ok.0
          known.converting next.advanced next.size next.further;
      few = next.few;
      behind = next.behind;
      within = omega (arith, next.within, c.as_mut_slice.ensures.len);
      small = λ _. omega (arith, next.small, c.as_mut_slice.ensures.len);
    }

pub returns-in-Err-clause-fault : goal.returns-in-Err-clause-fault
returns-in-Err-clause-fault c =
    let P : List ℕ → Type 0 = λ bytes. IsFault c.in-Err.fault (step bytes (place_of c.loop-conversion.conversion)) in
    cause_of c.args.bytes.items c.loop-conversion.file.items c.loop-conversion.conversion c.in-Err.fault c.loop-conversion.invariant.converting
    (subst P c.as_mut_slice.ensures.value c.in-Err.ensures.err)

pub returns-clause-converted : goal.returns-clause-converted
returns-clause-converted c =
    let known = c.loop-conversion.invariant in
    let file = c.loop-conversion.file.items in
    let done = c.loop-conversion.conversion in
    let past : length file ≤ done.place = omega (arith, c.loop-conversion-test.false, c.loop-conversion.file.ok.0) in
    whole c.args.bytes.items file c.in-Ok-finished.capture.items done known.converting past known.few
    (subst (λ (t : List ℕ). length t ≤ most_bytes) (sym c.in-Ok-finished.ensures)
    (finished_fits file done.written done.place past (λ some. omega (arith, known.small some, c.loop-conversion.file.ok.0))))
    c.in-Ok-finished.ensures
