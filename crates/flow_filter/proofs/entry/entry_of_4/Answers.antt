use Rattle.std.proofs.Common.{rules, arith, length, ◌≡◌}
use Rattle.flow_filter.specs.declared.entry.Entry4.{Entry4}
use Rattle.flow_filter.proofs.EntryLemmas.{IsUnder, stands_4}
use Rattle.flow_filter.proofs.entry.entry_of_4.Goals as goal

pub returns-in-V4 : goal.returns-in-V4
returns-in-V4 c =
    let f = c.args.filter.now in
    let target : length c.in-V4.target ≡ 4 = search (rules, arith) in
    let target_mask : length c.in-V4.target_mask ≡ 4 = search (rules, arith) in
    let source : length c.in-V4.source ≡ 4 = search (rules, arith) in
    let source_mask : length c.in-V4.source_mask ≡ 4 = search (rules, arith) in
    let entry : Entry4 = record {
      target = c.number_4.result;
      target_mask = c.number_4-in-V4.result;
      source = c.number_4-in-V4-2.result;
      source_mask = c.number_4-in-V4-3.result;
      rest = c.rest_of.result;
    } in
    let to : IsUnder c.in-V4.target_mask c.in-V4.target entry.target_mask entry.target = record {
      mask_long = target_mask;
      own_long = target;
      mask_is = c.number_4-in-V4.ensures;
      own_is = c.number_4.ensures;
    } in
    let from : IsUnder c.in-V4.source_mask c.in-V4.source entry.source_mask entry.source = record {
      mask_long = source_mask;
      own_long = source;
      mask_is = c.number_4-in-V4-3.ensures;
      own_is = c.number_4-in-V4-2.ensures;
    } in
    stands_4 f c.in-V4.target c.in-V4.target_mask c.in-V4.source c.in-V4.source_mask entry c.in-V4.is c.rest_of.ensures to from
