use Rattle.std.proofs.Common.{◌∙◌, ap, sym}
use Rattle.line_text.specs.Numbers.{number}
use Rattle.play_words.proofs.words.seeded.Goals as goal

pub returns-clause-read : goal.returns-clause-read
returns-clause-read c = record {
  config = c.value-2.ensures;
  interface = c.value-3.ensures;
  arrivals = c.value-4.ensures;
  departures = c.value-5.ensures;
  fates = c.value-6.ensures;
  stats = c.value-7.ensures;
  seed = ap (number 10) (sym c.value.ensures) ∙ (sym c.decimal.ensures ∙ c.in-Some.is);
}
