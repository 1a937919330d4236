use Rattle.std.proofs.Common.{◌∙◌, sym}
use Rattle.flow_filter.specs.declared.ports.Side.TheVariants.{Target, Source}
use Rattle.flow_filter.specs.Entries.{of_version}
use Rattle.flow_filter.proofs.Asked.{first_with_ports, ports_are}
use Rattle.flow_filter.proofs.sides.Sides.first_of_all.Goals as goal

pub returns : goal.returns
returns c = λ ports v filters places heads sides numbers.
    rw (c.least-2.ensures, c.least.ensures)
    (first_with_ports v filters places heads c.args.self.now sides c.args.source c.args.target c.first_under-any.result
    c.first_under-of_source.result c.first_under-of_target.result
    (sym (ports_are (of_version v heads) c.args.flow.now numbers) ∙ ports)
    (c.first_under-any.ensures (record { version = v; side = Source }) filters places heads sides.sources numbers)
    (c.first_under-of_source.ensures (record { version = v; side = Source }) filters places heads sides.sources numbers)
    (c.first_under-of_target.ensures (record { version = v; side = Target }) filters places heads sides.targets numbers))
