use Rattle.std.proofs.Common.{Some}
use Rattle.flow_filter.specs.Entries.{fits_at, of_version}
use Rattle.flow_filter.specs.Ranked.{matches_at}
use Rattle.flow_filter.proofs.Stretches.{found_at, found_none}
use Rattle.flow_filter.proofs.table.Table.first_of.Goals as goal

pub returns-in-Some : goal.returns-in-Some
returns-in-Some c = λ group filters places heads t numbers.
    let filed = c.args.self.now.filed.items in
    let stretch = (rw (c.as_slice-filed.ensures.value, c.as_slice.ensures.value) at c.stretch-its.ensures) t.order t.likely in
    rw (c.rank_at.ensures, c.as_slice-filed.ensures.value)
    (found_at filed c.args.port c.stretch-its.result.start c.stretch-its.result.end (fits_at c.args.self.now.entries (Some c.args.flow.now))
    (matches_at filters places (of_version group.version heads)) t.order stretch (λ k d h. t.stand k d h heads (Some c.args.flow.now) numbers)
    c.in-Some.k c.in-Some.ensures)

pub returns-in-None : goal.returns-in-None
returns-in-None c = λ group filters places heads t numbers.
    let filed = c.args.self.now.filed.items in
    let stretch = (rw (c.as_slice-filed.ensures.value, c.as_slice.ensures.value) at c.stretch-its.ensures) t.order t.likely in
    found_none filed c.args.port c.stretch-its.result.start c.stretch-its.result.end (fits_at c.args.self.now.entries (Some c.args.flow.now))
    (matches_at filters places (of_version group.version heads)) t.order stretch (λ k d h. t.stand k d h heads (Some c.args.flow.now) numbers)
    c.in-None.ensures
