use Rattle.std.proofs.Common.{◌≡◌, ◌∙◌, ◌++◌, ◌∷◌, [], ℕ, List, Some, None, inr, sym, ap, arith, append_assoc, append-nil, length}
use Rattle.std.proofs.lemmas.Bool.Decides.{Decides-eqb}
use Rattle.std.proofs.lemmas.List.{length-append}
use Rattle.std.proofs.lemmas.Slice.Eq.{strip_prefix_is}
use Rattle.play_text.specs.Texts.{fates_header}
use Rattle.fate_check.specs.declared.reading.Row.{Row}
use Rattle.fate_check.specs.Parse.{row_of}
use Rattle.fate_check.proofs.RowLemmas.{no_row, read_all, row_shorter, row_stands, rows_more, some_left, whole_more}
use Rattle.fate_check.proofs.reading.push_rows.Goals as goal

pub returns-clause-read : goal.returns-clause-read
returns-clause-read c =
    let i = c.loop-rest.invariant in
    record {
      more = i.more;
      all_are = i.all_are;
      added = record {
        rows = i.rows;
        whole = read_all c.args.names.now fates_header c.args.text.now i.more c.loop-rest.rest.now i.whole (sym c.is_empty.ensures ∙ c.loop-rest-test.false);
      };
    }

pub returns-in_default-row_at-clause-fault : goal.returns-in_default-row_at-clause-fault
returns-in_default-row_at-clause-fault c =
    let i = c.loop-rest.invariant in
    let none : row_of c.args.names.now c.loop-rest.rest.now ≡ None = sym c.in_default-row_at.ensures in
    inr (record {
      before = i.more;
      rest = c.loop-rest.rest.now;
      rows = i.rows;
      whole = i.whole;
      some = some_left c.loop-rest.rest.now (sym c.is_empty.ensures ∙ c.loop-rest-test.true);
      none = no_row c.args.names.now c.loop-rest.rest.now c.check_names.ensures none;
      place = i.count;
    })

pub loop-rest-smaller : goal.loop-rest-smaller
loop-rest-smaller c =
    let some : row_of c.args.names.now c.loop-rest.rest.now ≡ Some (c.in-Some-row_at.row, c.in-Some-row_at.more.now) = sym c.in-Some-row_at.ensures in
    let r = row_stands c.args.names.now c.loop-rest.rest.now c.in-Some-row_at.row c.in-Some-row_at.more.now c.check_names.ensures some in
    row_shorter c.args.names.now c.loop-rest.rest.now c.in-Some-row_at.row c.in-Some-row_at.more.now c.check_names.ensures r

pub loop-rest-init : goal.loop-rest-init
loop-rest-init c =
    let front = strip_prefix_is Decides-eqb c.args.text.now c.fates_header.result.now (Some c.in-Some.rest) c.in-Some.ensures.cases in
    let whole : c.args.text.now ≡ fates_header ++ c.in-Some.rest.now = front ∙ ap (λ (head : List ℕ). head ++ c.in-Some.rest.now) c.fates_header.ensures in
    record {
      more = [];
      all_are = sym (append-nil c.args.rows.now.items);
      rows = tt;
      whole = whole;
      count = omega arith;
      few = omega (arith, ap length whole);
    }

pub loop-rest-preserved : goal.loop-rest-preserved
loop-rest-preserved c =
    let i = c.loop-rest.invariant in
    let names = c.args.names.now in
    let row = c.in-Some-row_at.row in
    let some : row_of names c.loop-rest.rest.now ≡ Some (row, c.in-Some-row_at.more.now) = sym c.in-Some-row_at.ensures in
    let r = row_stands names c.loop-rest.rest.now row c.in-Some-row_at.more.now c.check_names.ensures some in
    let less = row_shorter names c.loop-rest.rest.now row c.in-Some-row_at.more.now c.check_names.ensures r in
    let pushed : c.push.new.self.items ≡ c.loop-rest.rows.items ++ row ∷ [] = c.in_ok-push.ensures.items in
    record {
      more = i.more ++ row ∷ [];
      all_are = pushed ∙ ap (λ (rs : List Row). rs ++ row ∷ []) i.all_are ∙ append_assoc c.args.rows.now.items i.more (row ∷ []);
      rows = rows_more names i.more row i.rows r.is;
      whole = whole_more names fates_header c.args.text.now i.more row c.loop-rest.rest.now c.in-Some-row_at.more.now i.whole r.front;
      count = omega (arith, i.count, length-append i.more (row ∷ []));
      few = omega (arith, less, i.few);
    }
