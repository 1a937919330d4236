use Rattle.std.proofs.Common.{◌<◌, arith}
use Rattle.std.proofs.lemmas.List.{take_more}
use Rattle.conf_lines.proofs.Names.{name_is_ascii}
use Rattle.conf_lines.proofs.step.text_of.Goals as goal

pub loop-byte-preserved : goal.loop-byte-preserved
loop-byte-preserved c =
    let small = name_is_ascii c.args.name.now c.loop-byte.byte-index c.requires c.loop-byte-test.true in
    let more = take_more c.args.name.now c.loop-byte.byte-index 0 c.loop-byte-test.true in
    let below : c.from.result < 128 = omega (arith, c.from.ensures) in
    cc (c.in_ok-push.ensures.bytes, c.push.ensures.ascii below, more, c.from.ensures)
