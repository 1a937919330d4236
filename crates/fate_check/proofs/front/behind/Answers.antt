use Rattle.std.proofs.Common.{◌≡◌, ◌+◌, ◌-◌, ◌&&◌, ℕ, List, false, length, drop, get_or, nat_lt, eqb, subst, sym, arith, length-drop}
use Rattle.std.proofs.lemmas.Bool.Decides.{nat_tests}
use Rattle.std.proofs.lemmas.List.{take_all}
use Rattle.fate_check.specs.Front.{StandsBefore}
use Rattle.fate_check.proofs.FrontLemmas.{DigitsEnd, stands_before}
use Rattle.fate_check.proofs.front.behind.Goals as goal
use Rattle.fate_check.proofs.front.behind.Goals.{else-digits-gt1-via-then-digits-gt1+else-text-eq48, else-digits-gt1-via-else-digits-gt1}

pub returns : goal.returns
returns c =
    let leads : (nat_lt 1 c.args.digits && eqb (get_or c.args.text.now 0 0) 48) ≡ false = elim c.else-digits-gt1.branch [
      | else-digits-gt1-via-then-digits-gt1+else-text-eq48 w ↦ grind (arith, nat_tests, w.if-text-eq48.false)
      | else-digits-gt1-via-else-digits-gt1 w ↦ grind (arith, nat_tests, w.if-digits-gt1.false)
    ] in
    let h : DigitsEnd c.args.mark c.args.text.now c.args.digits c.args.value = record {
      low = c.requires.low;
      some = omega (arith, c.if-digits-eq0.false);
      inside = c.requires.inside;
      digits = c.requires.digits;
      value = c.requires.value;
      small = omega (arith, c.ranges.value.fits);
      here = c.if-text-digits.false;
      leads = leads;
    } in
    let P : List ℕ → Type 0 = λ rest. StandsBefore c.args.mark c.args.text.now c.args.value rest in
    subst P (sym (take_all (length c.args.text.now - (c.args.digits + 1)) (drop (c.args.digits + 1) c.args.text.now) (omega (arith, length-drop (c.args.digits + 1) c.args.text.now))))
    (stands_before c.args.mark c.args.text.now c.args.digits c.args.value h)
