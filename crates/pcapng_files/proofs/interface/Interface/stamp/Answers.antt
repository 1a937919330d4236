use Rattle.std.proofs.Common.{◌∙◌, ◌/◌, ◌%◌, ◌*◌, ◌^◌, ◌+◌, ap, sym, Some}
use Rattle.pcapng_files.specs.Views.{offset}
use Rattle.pcapng_files.proofs.StampLemmas.{of_seconds, stamp_by}
use Rattle.pcapng_files.proofs.interface.Interface.stamp.Goals as goal

pub returns-in-None-clause-value : goal.returns-in-None-clause-value
returns-in-None-clause-value c =
    let i = c.args.self.now in
    let part = c.args.count % i.units * 10 ^ 9 / i.units in
    sym (stamp_by (offset i.offset) c.args.count i.units i.some ∙ ap (λ s. of_seconds s part) (sym c.in-None.ensures.value))

pub returns-clause-value : goal.returns-clause-value
returns-clause-value c =
    let i = c.args.self.now in
    let part = c.args.count % i.units * 10 ^ 9 / i.units in
    ap (λ p. Some (c.in-Some.seconds * 10 ^ 9 + p)) c.fraction.ensures.value
    ∙ sym (stamp_by (offset i.offset) c.args.count i.units i.some ∙ ap (λ s. of_seconds s part) (sym c.in-Some.ensures.value))
