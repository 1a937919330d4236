use Rattle.std.proofs.Common.{◌∙◌, ◌+◌, ◌++◌, ℕ, List, ap, arith, subst, sym, take, drop, length, vec_len}
use Rattle.capture_model.specs.Capture.{Record}
use Rattle.capture_model.specs.Written.{record_texts}
use Rattle.pcapng_files.proofs.ConvertingLemmas.{advanced_by, refused, unframed}
use Rattle.pcapng_files.proofs.RecordLemmas.{ends_before, ends_within, same_records, stands_within, within_there}
use Rattle.pcapng_files.specs.Converted.{IsFault}
use Rattle.pcapng_files.specs.Converting.{place_of}
use Rattle.pcapng_files.specs.Views.{records_of}
use Rattle.pcapng_files.specs.declared.fault.NgFault.{NgFault}
use Rattle.pcapng_model.specs.Reading.{step}
use Rattle.pcapng_files.proofs.conversion.Conversion.next.Goals as goal

pub put_found-self-requires-clause-within : goal.put_found-self-requires-clause-within
put_found-self-requires-clause-within c =
    within_there c.args.bytes.now c.in-Ok.block.body.now (c.args.self.now.place + 8) c.in-Ok-take.found c.in-Ok.ensures.body
    c.in-Ok-take.ensures.short c.in-Ok-take.ensures.within

pub returns-clause-advanced : goal.returns-clause-advanced
returns-clause-advanced c =
    let old = c.args.self.now in
    let xs = c.args.bytes.now in
    let block = c.in-Ok.block in
    let taken = c.in-Ok-take.ensures in
    let put = c.put_found-self.ensures in
    let found = c.in-Ok-take.found in
    let body = block.body.now in
    let ends = ends_before found c.take.new.self.written old.place (vec_len old.interfaces) (length body) block.after
    (omega (arith, taken.written, c.requires.behind.most)) c.requires.behind.interfaces taken.some taken.short c.in-Ok.ensures.size in
    advanced_by xs c.put_found-self.new.bytes old c.take.new.self block.big block.kind body block.after c.put_found-self.result found
    c.requires.here c.if-bytes-gt-MOST_BYTES.false c.in-Ok.ensures.ok taken.took (record {
      written = put.put ∙ ap (λ (n : ℕ). take n xs ++ record_texts (records_of (drop (old.place + 8) xs) found)) taken.written
          ∙ ap (λ (rs : List Record). take old.written xs ++ record_texts rs)
          (sym (same_records xs body (old.place + 8) found c.in-Ok.ensures.body taken.short));
      rest = put.rest block.after ends;
    })

pub put_found-self-requires-clause-here : goal.put_found-self-requires-clause-here
put_found-self-requires-clause-here c =
    stands_within c.in-Ok-take.found c.args.self.now.place (length c.in-Ok.block.body.now) c.in-Ok.block.after (length c.args.bytes.now)
    c.in-Ok-take.ensures.short c.in-Ok.ensures.size c.in-Ok.ensures.within

pub put_found-self-requires-clause-room : goal.put_found-self-requires-clause-room
put_found-self-requires-clause-room c =
    let old = c.args.self.now in
    let taken = c.in-Ok-take.ensures in
    ends_within c.in-Ok-take.found c.take.new.self.written c.in-Ok.block.after (length c.args.bytes.now)
    (ends_before c.in-Ok-take.found c.take.new.self.written old.place (vec_len old.interfaces) (length c.in-Ok.block.body.now) c.in-Ok.block.after
    (omega (arith, taken.written, c.requires.behind.most)) c.requires.behind.interfaces taken.some taken.short c.in-Ok.ensures.size)
    c.in-Ok.ensures.within

pub returns-in-Err-clause-err : goal.returns-in-Err-clause-err
returns-in-Err-clause-err c =
    let xs = c.args.bytes.now in
    let place = place_of c.args.self.now in
    let P : NgFault → Type 0 = λ f. IsFault f (step xs place) in
    subst P (sym c.at.ensures) (unframed xs place c.in-Err.kind c.requires.here c.if-bytes-gt-MOST_BYTES.false c.in-Err.ensures.err)

pub returns-in-Err-take-clause-err : goal.returns-in-Err-take-clause-err
returns-in-Err-take-clause-err c =
    let xs = c.args.bytes.now in
    let block = c.in-Ok.block in
    let place = place_of c.args.self.now in
    let P : NgFault → Type 0 = λ f. IsFault f (step xs place) in
    subst P (sym c.at-in-Err-take.ensures)
    (refused xs place c.in-Err-take.refusal block.big block.kind block.body.now block.after c.requires.here c.if-bytes-gt-MOST_BYTES.false
    c.in-Ok.ensures.ok c.in-Err-take.ensures.err)
