-- The next number has the digits of this one but for the last.
use Rattle.std.proofs.Common.{rules, ◌≡◌, ◌+◌, ◌%◌, ◌∙◌, ◌++◌, ◌∷◌, [], ℕ, length, arith, ap, sym, length-append, length-drop}
use Rattle.std.specs.Fmt.{decimal}
use Rattle.std.specs.Prelude.{drop, slice_index_or, slice_set}
use Rattle.play_text.proofs.DigitLemmas.{Ending, ending, last_item, last_set}
use Rattle.play_text.proofs.number.Number.follow.Goals as goal

pub invariant_of-self : goal.invariant_of-self
invariant_of-self c =
    let number = c.args.self.now in
    let n = number.value in
    let long : length number.bytes ≡ 20 = search (rules) in
    let more = c.if-value-self-eq1.true in
    let fits = c.ranges.value.fits in
    let below = c.if-digit-lt57.true in
    let e : Ending n = ending n (omega (arith, more, fits)) in
    let digits : drop number.from number.bytes ≡ e.front ++ ((48 + n % 10) ∷ []) = number.digits ∙ e.digits in
    let counted = ap length digits in
    let at : number.from + length e.front ≡ 19 =
    omega (arith, counted, length-drop number.from number.bytes, length-append e.front ((48 + n % 10) ∷ []), long, number.within) in
    let last : slice_index_or number.bytes 19 0 ≡ 48 + n % 10 = last_item number.from 19 number.bytes e.front _ digits at in
    let digit : slice_index_or number.bytes 19 0 + 1 ≡ 49 + n % 10 = omega (arith, last) in
    let next : n + 1 ≡ c.args.value = omega (arith, more) in
    record {
      within = number.within;
      digits = ap (λ (d : ℕ). drop number.from (slice_set number.bytes 19 d)) digit ∙ last_set number.from 19 number.bytes e.front _ _ digits at
          ∙ sym (e.next (omega (arith, last, below)) (omega (arith, next, fits))) ∙ ap decimal next;
    }
