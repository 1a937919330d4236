use Rattle.std.proofs.Common.{◌∙◌, ap, sym}
use Rattle.clap.specs.Words.{found_of, rows_of}
use Rattle.play_words.specs.Read.{files_of}
use Rattle.play_words.specs.declared.words.ChainWords.{ChainWords}
use Rattle.play_words.proofs.TextLemmas.{all_apart, files_read, kind_by, links_known}
use Rattle.play_words.proofs.words.links_read.Goals as goal

pub returns-then-not-are_distinct_links-clause-refused : goal.returns-then-not-are_distinct_links-clause-refused
returns-then-not-are_distinct_links-clause-refused c =
    let rows = rows_of (found_of c.args.matches.now) in
    let w : ChainWords = record { play = c.in-Some.play; next = c.value.result; departures2 = c.value-2.result; fates2 = c.value-3.result; stats2 = c.value-4.result; path = c.value-5.result } in
    links_known rows c.in-Some.play.seed (files_of w) c.are_distinct_links.result c.in-Some.ensures.read.seed
    (files_read rows w c.in-Some.ensures.read c.value-2.ensures c.value-3.ensures c.value-4.ensures c.value-5.ensures) c.are_distinct_links.ensures
    ∙ ap kind_by c.if-not-are_distinct_links.true

pub returns-clause-accepted : goal.returns-clause-accepted
returns-clause-accepted c =
    let rows = rows_of (found_of c.args.matches.now) in
    let w : ChainWords = record { play = c.in-Some.play; next = c.value.result; departures2 = c.value-2.result; fates2 = c.value-3.result; stats2 = c.value-4.result; path = c.value-5.result } in
    links_known rows c.in-Some.play.seed (files_of w) c.are_distinct_links.result c.in-Some.ensures.read.seed
    (files_read rows w c.in-Some.ensures.read c.value-2.ensures c.value-3.ensures c.value-4.ensures c.value-5.ensures) c.are_distinct_links.ensures
    ∙ ap kind_by c.if-not-are_distinct_links.false

pub returns-clause-read : goal.returns-clause-read
returns-clause-read c =
    let w : ChainWords = record { play = c.in-Some.play; next = c.value.result; departures2 = c.value-2.result; fates2 = c.value-3.result; stats2 = c.value-4.result; path = c.value-5.result } in
    record {
      names = c.in-Some.ensures.read;
      next = c.value.ensures;
      departures2 = c.value-2.ensures;
      fates2 = c.value-3.ensures;
      stats2 = c.value-4.ensures;
      path = c.value-5.ensures;
      distinct = all_apart (files_of w) (sym c.are_distinct_links.ensures ∙ c.if-not-are_distinct_links.false);
    }
