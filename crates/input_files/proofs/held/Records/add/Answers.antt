use Rattle.std.proofs.Common.{◌∙◌, ◌++◌, ◌∷◌, [], List, length, length-append, arith, ap, refl}
use Rattle.input_files.specs.Held.{IsHeldRecord}
use Rattle.input_files.specs.Records.{Shown}
use Rattle.input_files.specs.declared.held.HeldRecord.{HeldRecord}
use Rattle.input_files.proofs.HeldLemmas.{added, held_push, more_held}
use Rattle.input_files.proofs.held.Records.add.Goals as goal

pub invariant_of-self-in_err-push : goal.invariant_of-self-in_err-push
invariant_of-self-in_err-push c = rw (c.in_ok-extend_from_slice.ensures.items, c.in_err-push.ensures.items) (more_held _ _ _ c.self.invariant)

pub invariant_of-self-2 : goal.invariant_of-self-2
invariant_of-self-2 c =
    let bytes = c.self.inside.bytes.items in
    let more = c.args.found.now.bytes.now in
    let h : HeldRecord = record { stamp = c.args.found.now.stamp; from = c.len-from.result; len = c.args.found.now.len; captured = length more } in
    let is : IsHeldRecord (bytes ++ more) h = record {
      there = omega (arith, c.len-from.ensures, length-append bytes more);
      some = c.args.found.now.some;
      most = c.args.found.now.short;
      short = omega (arith, c.args.found.now.within, c.args.found.now.short);
    } in
    rw (c.in_ok-extend_from_slice.ensures.items, c.in_ok-push.ensures.items) (held_push (bytes ++ more) c.self.inside.held.items h (more_held bytes more c.self.inside.held.items c.self.invariant) is)

pub returns : goal.returns
returns c =
    let bytes = c.self.inside.bytes.items in
    let more = c.args.found.now.bytes.now in
    let r = c.args.found.now in
    let h : HeldRecord = record { stamp = r.stamp; from = c.len-from.result; len = r.len; captured = length more } in
    rw (c.in_ok-extend_from_slice.ensures.items, c.in_ok-push.ensures.items)
    (added bytes more c.self.inside.held.items h c.self.invariant (c.len-from.ensures ∙ c.self.inside.bytes.ok.0) refl
    ∙ ap (λ (ss : List Shown). ss ++ record { stamp = r.stamp; len = r.len; bytes = more } ∷ []) c.self.view_is)
