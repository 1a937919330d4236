use Rattle.std.proofs.Common.{◌∙◌, refl, sym}
use Rattle.flow_filter.specs.declared.ports.Side.TheVariants.{Target, Source}
use Rattle.flow_filter.specs.Entries.{of_version}
use Rattle.flow_filter.proofs.Asked.{first_by_target, first_without_ports, ports_are}
use Rattle.flow_filter.proofs.sides.Sides.first.Goals as goal

pub returns-in_default : goal.returns-in_default
returns-in_default c = λ v filters places heads sides numbers.
    first_without_ports v filters places heads c.args.self.now sides c.first_under.result
    (sym (c.in_default.ensures ∙ ports_are (of_version v heads) c.args.flow.now numbers))
    (c.first_under.ensures (record { version = v; side = Source }) filters places heads sides.sources numbers)

pub returns-then-is_empty : goal.returns-then-is_empty
returns-then-is_empty c = λ v filters places heads sides numbers.
    first_by_target v filters places heads c.args.self.now sides c.in-Some.source c.in-Some.target c.first_under-then-is_empty.result
    (sym (c.in-Some.ensures ∙ ports_are (of_version v heads) c.args.flow.now numbers)) (c.if-is_empty.ensures refl)
    (c.first_under-then-is_empty.ensures (record { version = v; side = Target }) filters places heads sides.targets numbers)

pub returns : goal.returns
returns c = c.first_of_all.ensures (sym c.in-Some.ensures)
