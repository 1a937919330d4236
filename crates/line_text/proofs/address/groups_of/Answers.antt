use Rattle.std.proofs.Common.{◌≡◌, None, [], refl, sym, ◌∙◌}
use Rattle.line_text.specs.Addresses.{pieces, groups_of}
use Rattle.line_text.proofs.Colons.{pieces_cut, pieces_none, capped-refused, capped-step, capped-end}
use Rattle.line_text.proofs.address.groups_of.Goals as goal

pub returns-in_err-add_group-in-Some : goal.returns-in_err-add_group-in-Some
returns-in_err-add_group-in-Some c =
    let e = pieces_cut c.loop-piece.rest.now c.in-Some.piece.now c.in-Some.behind.now c.in-Some.ensures.value in
    let none : groups_of c.args.text.now ≡ None =
    sym (rw e at c.loop-piece.invariant) ∙ capped-refused c.loop-piece.bytes.items c.in-Some.piece.now (pieces c.in-Some.behind.now) c.in_err-add_group-in-Some.ensures.added in
    rw (c.from_residual.ensures, none) refl

pub loop-piece-preserved : goal.loop-piece-preserved
loop-piece-preserved c =
    let e = pieces_cut c.loop-piece.rest.now c.in-Some.piece.now c.in-Some.behind.now c.in-Some.ensures.value in
    sym (capped-step c.loop-piece.bytes.items c.add_group.new.bytes.items c.in-Some.piece.now (pieces c.in-Some.behind.now) c.in_ok-add_group-in-Some.ensures.added)
    ∙ rw e at c.loop-piece.invariant

pub returns-in_err-add_group-in-None : goal.returns-in_err-add_group-in-None
returns-in_err-add_group-in-None c =
    let e = pieces_none c.loop-piece.rest.now c.in-None.ensures.value in
    let none : groups_of c.args.text.now ≡ None =
    sym (rw e at c.loop-piece.invariant) ∙ capped-refused c.loop-piece.bytes.items c.loop-piece.rest.now [] c.in_err-add_group-in-None.ensures.added in
    rw (c.from_residual-in_err-add_group-in-None.ensures, none) refl

pub returns-in-None : goal.returns-in-None
returns-in-None c =
    let e = pieces_none c.loop-piece.rest.now c.in-None.ensures.value in
    let bytes = c.add_group-in-None.new.bytes.items in
    let last = capped-step c.loop-piece.bytes.items bytes c.loop-piece.rest.now [] c.in_ok-add_group-in-None.ensures.added in
    sym (sym (rw e at c.loop-piece.invariant) ∙ last ∙ capped-end bytes c.in_ok-add_group-in-None.ensures.fits)
