use Rattle.std.proofs.Common.{rules, arith, length, ◌≡◌}
use Rattle.flow_filter.specs.declared.entry.Entry6.{Entry6}
use Rattle.flow_filter.proofs.EntryLemmas.{IsInMask, stands_6}
use Rattle.flow_filter.proofs.entry.entry_of_6.Goals as goal

pub returns-in-V6 : goal.returns-in-V6
returns-in-V6 c =
    let f = c.args.filter.now in
    let target : length c.in-V6.target ≡ 16 = search (rules, arith) in
    let source : length c.in-V6.source ≡ 16 = search (rules, arith) in
    let entry : Entry6 = record {
      target = c.number_6.result;
      target_mask = c.first_ones.result;
      source = c.number_6-in-V6.result;
      source_mask = c.first_ones-in-V6.result;
      rest = c.rest_of.result;
    } in
    let to : IsInMask c.in-V6.target_len c.in-V6.target entry.target_mask entry.target = record {
      own_long = target;
      mask_is = c.first_ones.ensures;
      own_is = c.number_6.ensures;
    } in
    let from : IsInMask c.in-V6.source_len c.in-V6.source entry.source_mask entry.source = record {
      own_long = source;
      mask_is = c.first_ones-in-V6.ensures;
      own_is = c.number_6-in-V6.ensures;
    } in
    stands_6 f c.in-V6.target c.in-V6.target_len c.in-V6.source c.in-V6.source_len entry c.in-V6.is c.rest_of.ensures to from
