use Rattle.std.proofs.Common.{arith, ◌≡◌, ◌+◌, List, length, sym, ap, subst}
use Rattle.std.specs.Prelude.{ℕ}
use Rattle.fate_check.specs.declared.reading.Row.{Row}
use Rattle.fate_check.specs.declared.reading.RowFault.{RowFault}
use Rattle.fate_check.specs.Fault.{IfAt}
use Rattle.fate_check.specs.Text.{FailsAt, Reads}
use Rattle.given_fates.proofs.ReadLemmas.{fails_later, fails_within, reads_last}
use Rattle.given_fates.proofs.reading.last_rows.Goals as goal

pub returns-in-Ok : goal.returns-in-Ok
returns-in-Ok c = λ text x.
    let a = c.in-Ok.ensures.read in
    let P : List Row → Type 0 = λ rs. Reads c.args.names.now text rs in
    subst P (sym a.all_are) (reads_last c.args.names.now c.args.found.items a.more c.args.left.now text x a.added)

pub overflow_add-result : goal.overflow_add-result
overflow_add-result c =
    let W : RowFault → Type 0 = λ f. IfAt (FailsAt c.args.names.now c.args.left.now) f in
    let fails : FailsAt c.args.names.now c.args.left.now c.in-Err-At.row = subst W c.in-Err-At.field-0-is c.in-Err-At.ensures.fault in
    omega (arith, fails_within c.args.names.now c.args.left.now c.in-Err-At.row c.check_names.ensures fails, c.len.ensures, c.type_inv.left)

pub returns-in-Err-At : goal.returns-in-Err-At
returns-in-Err-At c = λ text x.
    let W : RowFault → Type 0 = λ f. IfAt (FailsAt c.args.names.now c.args.left.now) f in
    let fails : FailsAt c.args.names.now c.args.left.now c.in-Err-At.row = subst W c.in-Err-At.field-0-is c.in-Err-At.ensures.fault in
    let P : ℕ → Type 0 = λ n. FailsAt c.args.names.now text (n + c.in-Err-At.row) in
    let same : c.len.result ≡ length c.args.found.items = omega (arith, c.len.ensures, c.add_rows.new.rows.ok.0, ap length c.in-Err-At.ensures.stays) in
    subst P (sym same) (fails_later c.args.names.now c.args.found.items c.args.left.now text c.in-Err-At.row x fails)
