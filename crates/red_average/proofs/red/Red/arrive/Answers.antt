use Rattle.std.proofs.Common.{◌==◌, ℤ, sym, subst, w64, FitsSigned, arith}
use Rattle.std.proofs.lemmas.Int.{to_z-of_z, ints}
use Rattle.leaf_queue.specs.Words.{word, Drew}
use Rattle.red_average.specs.Ruling.{KeepsCount, ruled}
use Rattle.red_average.specs.Red.{thresholds}
use Rattle.red_average.proofs.Near.{near_some, near_none}
use Rattle.red_average.proofs.red.Red.arrive.Goals as goal

pub returns-clause-law_of_the_average : goal.returns-clause-law_of_the_average
returns-clause-law_of_the_average c = λ n exact near some.
    let r = c.args.self.now in
    near_some n exact r.step r.idle c.args.now c.args.q r.average c.moved-self.result c.moved-self.ensures.value some near

pub returns-clause-law_of_the_idle_average : goal.returns-clause-law_of_the_idle_average
returns-clause-law_of_the_idle_average c = λ n exact near none.
    let r = c.args.self.now in
    near_none n exact r.step r.idle c.args.now c.args.q r.average c.moved-self.result c.moved-self.ensures.value none near

pub returns-clause-law_of_the_count : goal.returns-clause-law_of_the_count
returns-clause-law_of_the_count c =
    let r = c.ruled-ruling.result in
    let was : ℤ = c.args.self.now.count in
    let fits_was : FitsSigned w64 was = omega (arith, ints, c.args.self.now.least, c.args.self.now.most) in
    let fits : FitsSigned w64 r.count = omega (arith, ints, c.ruled-ruling.ensures.least, c.ruled-ruling.ensures.most) in
    let P : ℤ → Type 0 = λ z. KeepsCount thresholds c.moved-self.result z r in
    let Q : ℤ → Type 0 = λ z. KeepsCount thresholds c.moved-self.result was (record { verdict = r.verdict; count = z }) in
    subst Q (sym (to_z-of_z w64 r.count fits)) (subst P (to_z-of_z w64 was fits_was) c.ruled-ruling.ensures.law)

pub returns-clause-words : goal.returns-clause-words
returns-clause-words c = λ few.
    let r = c.args.self.now in
    let w = c.args.words.now in
    let was : ℤ = r.count in
    let fits_was : FitsSigned w64 was = omega (arith, ints, r.least, r.most) in
    let P : ℤ → Type 0 = λ z. Drew w c.ruled-ruling.new.words
    (ruled thresholds (c.args.q == r.limit) c.moved-self.result z (word w.seed w.drawn)).took in
    subst P (to_z-of_z w64 was fits_was) (c.ruled-ruling.ensures.words few)
