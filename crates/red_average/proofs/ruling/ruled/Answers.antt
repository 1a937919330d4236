use Rattle.std.proofs.Common.{subst, ℤ, w64, rules}
use Rattle.std.proofs.lemmas.Int.{to_z-of_z}
use Rattle.leaf_queue.specs.Words.{word, Drew}
use Rattle.red_average.specs.Ruling.{KeepsCount, between}
use Rattle.red_average.proofs.ruling.ruled.Goals as goal

pub returns-clause-law : goal.returns-clause-law
returns-clause-law c =
    let P : ℤ → Type 0 = λ z. KeepsCount c.args.thresholds c.args.average z c.between.result in
    subst P (to_z-of_z w64 c.args.count c.ranges.count) c.between.ensures.law

pub returns-clause-words : goal.returns-clause-words
returns-clause-words c = λ few.
    let w = c.args.words.now in
    let P : ℤ → Type 0 = λ z. Drew w c.between.new.words (between c.args.thresholds c.args.average z (word w.seed w.drawn)).took in
    let drew = subst P (to_z-of_z w64 c.args.count c.ranges.count) (c.between.ensures.words few) in
    search (rules, drew)
