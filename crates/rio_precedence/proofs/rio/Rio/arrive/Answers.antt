use Rattle.std.proofs.Common.{◌≡◌, ◌∙◌, ◌<◌, ◌==◌, ◌^◌, ℕ, ℤ, pos, negsuc, ◌≤ℤ◌, length, slice_index, slice_index_or, slice_set, sym, ap, subst, w64, to_z, of_z, rules}
use Rattle.std.proofs.lemmas.Int.{to_z-of_z}
use Rattle.leaf_queue.specs.Words.{word, Drew}
use Rattle.red_average.specs.declared.ruling.Thresholds.{Thresholds}
use Rattle.red_average.specs.Ruling.{ruled}
use Rattle.rio_precedence.proofs.Standing.{each_set, full_as, fits_count}
use Rattle.rio_precedence.proofs.rio.Rio.arrive.Goals as goal

pub invariant_of-self : goal.invariant_of-self
invariant_of-self c =
    let r = c.args.self.now in
    let z : ℤ = c.ruled-ruling.result.count in
    let same = to_z-of_z w64 z (fits_count z c.ruled-ruling.ensures.least c.ruled-ruling.ensures.most) in
    let P : ℤ → Type 0 = λ x. negsuc 0 ≤ℤ x in
    let Q : ℤ → Type 0 = λ x. x ≤ℤ pos (2 ^ 62) in
    record {
      small = c.averages_after-self.ensures.small;
      least = λ i h. each_set P r.count c.args.prec i (to_z w64 (of_z w64 z)) r.least (subst P (sym same) c.ruled-ruling.ensures.least) h;
      most = λ i h. each_set Q r.count c.args.prec i (to_z w64 (of_z w64 z)) r.most (subst Q (sym same) c.ruled-ruling.ensures.most) h;
      some = r.some;
    }

pub returns-clause-words : goal.returns-clause-words
returns-clause-words c = λ d.
    let r = c.args.self.now in
    let w = c.args.words.now in
    let within : c.args.prec < length r.count = search rules in
    let z : ℤ = slice_index_or r.count c.args.prec (pos 0) in
    let same = to_z-of_z w64 z (fits_count z (r.least c.args.prec within) (r.most c.args.prec within)) in
    let a : ℕ = slice_index c.averages_after-self.result c.args.prec in
    let P : Thresholds → Type 0 = λ t. Drew w c.ruled-ruling.new.words (ruled t (c.args.waiting.all == r.limit) a z (word w.seed w.drawn)).took in
    let Q : ℤ → Type 0 = λ x. Drew w c.ruled-ruling.new.words (ruled c.thresholds_of.result (c.args.waiting.all == r.limit) a x (word w.seed w.drawn)).took in
    subst P c.thresholds_of.ensures.value (subst Q same (c.ruled-ruling.ensures.words d))

pub returns-clause-full : goal.returns-clause-full
returns-clause-full c = full_as c.args.waiting.all c.args.self.now.limit _ c.ruled-ruling.ensures.full

pub returns-clause-count : goal.returns-clause-count
returns-clause-count c = λ d.
    let r = c.args.self.now in
    let w = c.args.words.now in
    let within : c.args.prec < length r.count = search rules in
    let z : ℤ = slice_index_or r.count c.args.prec (pos 0) in
    let same = to_z-of_z w64 z (fits_count z (r.least c.args.prec within) (r.most c.args.prec within)) in
    let new : ℤ = c.ruled-ruling.result.count in
    let kept = to_z-of_z w64 new (fits_count new c.ruled-ruling.ensures.least c.ruled-ruling.ensures.most) in
    let a : ℕ = slice_index c.averages_after-self.result c.args.prec in
    let P : Thresholds → Type 0 = λ t. c.ruled-ruling.result ≡ (ruled t (c.args.waiting.all == r.limit) a z (word w.seed w.drawn)).ruling in
    let Q : ℤ → Type 0 = λ x. c.ruled-ruling.result ≡ (ruled c.thresholds_of.result (c.args.waiting.all == r.limit) a x (word w.seed w.drawn)).ruling in
    let ruling = subst P c.thresholds_of.ensures.value (subst Q same (c.ruled-ruling.ensures.ruling d)) in
    ap (λ x. slice_set r.count c.args.prec x) kept ∙ ap (λ x. slice_set r.count c.args.prec x.count) ruling
