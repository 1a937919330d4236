use Rattle.packet_heads.specs.Flow.{Heads}
use Rattle.flow_filter.specs.declared.ports.Version.TheVariants.{V4, V6}
use Rattle.flow_filter.proofs.Asked.{none_without_numbers}
use Rattle.flow_filter.proofs.index.Index.first.Goals as goal

pub returns-in-Some : goal.returns-in-Some
returns-in-Some c = λ filters i.
    let its : Heads = record {
      tos = c.in-V4.tos;
      protocol = c.in-V4.protocol;
      source = c.in-V4.source.now;
      target = c.in-V4.target.now;
      ports = c.in-V4.ports;
    } in
    rw c.in-V4.is (c.first.ensures V4 filters c.args.self.now.places.items its i.four c.in-Some.ensures)

pub returns-in-None : goal.returns-in-None
returns-in-None c = λ filters i.
    let its : Heads = record {
      tos = c.in-V4.tos;
      protocol = c.in-V4.protocol;
      source = c.in-V4.source.now;
      target = c.in-V4.target.now;
      ports = c.in-V4.ports;
    } in
    rw c.in-V4.is (none_without_numbers V4 filters c.args.self.now.places.items its c.args.self.now.four i.four c.in-None.ensures)

pub returns-in-Some-numbers_6 : goal.returns-in-Some-numbers_6
returns-in-Some-numbers_6 c = λ filters i.
    let its : Heads = record {
      tos = c.in-V6.tos;
      protocol = c.in-V6.protocol;
      source = c.in-V6.source.now;
      target = c.in-V6.target.now;
      ports = c.in-V6.ports;
    } in
    rw c.in-V6.is (c.first-in-Some-numbers_6.ensures V6 filters c.args.self.now.places.items its i.six c.in-Some-numbers_6.ensures)

pub returns-in-None-numbers_6 : goal.returns-in-None-numbers_6
returns-in-None-numbers_6 c = λ filters i.
    let its : Heads = record {
      tos = c.in-V6.tos;
      protocol = c.in-V6.protocol;
      source = c.in-V6.source.now;
      target = c.in-V6.target.now;
      ports = c.in-V6.ports;
    } in
    rw c.in-V6.is (none_without_numbers V6 filters c.args.self.now.places.items its c.args.self.now.six i.six c.in-None-numbers_6.ensures)
