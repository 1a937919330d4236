use Rattle.std.proofs.Common.{arith, ◌∙◌, ap, sym, map, Some, slice_get}
use Rattle.std.specs.Option.{option_map}
use Rattle.std.proofs.lemmas.Option.{slice_get-map}
use Rattle.pcapng_model.specs.Number.{number}
use Rattle.pcapng_files.specs.Views.{interface}
use Rattle.pcapng_files.proofs.PacketLemmas.{told_on}
use Rattle.pcapng_files.proofs.packet.packet_in.Goals as goal

pub returns-in-Ok-clause-ok : goal.returns-in-Ok-clause-ok
returns-in-Ok-clause-ok c =
    told_on c.args.big c.args.body.now (map interface c.args.interfaces.now) c.args.count (Some (interface c.in-Some.from))
    (omega arith) (omega arith) c.if-count-eq-MOST_PACKETS.false
    (slice_get-map interface c.args.interfaces.now (number c.args.big 4 c.args.body.now 0)
    ∙ ap (option_map interface) (ap (slice_get c.args.interfaces.now) (sym c.four-2.ensures) ∙ sym c.in-Some.ensures))
    ∙ c.in-Ok.ensures.ok

pub returns-in-Err-clause-err : goal.returns-in-Err-clause-err
returns-in-Err-clause-err c =
    told_on c.args.big c.args.body.now (map interface c.args.interfaces.now) c.args.count (Some (interface c.in-Some.from))
    (omega arith) (omega arith) c.if-count-eq-MOST_PACKETS.false
    (slice_get-map interface c.args.interfaces.now (number c.args.big 4 c.args.body.now 0)
    ∙ ap (option_map interface) (ap (slice_get c.args.interfaces.now) (sym c.four-2.ensures) ∙ sym c.in-Some.ensures))
    ∙ c.in-Err.ensures.err
