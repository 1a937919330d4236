use Rattle.std.proofs.Common.{◌≡◌, ◌∙◌, ◌≤◌, ◌<◌, ℕ, List, Some, length, get_or, ap, sym, subst, arith}
use Rattle.std.specs.Prelude.{slice_get}
use Rattle.std.specs.Option.{option_map}
use Rattle.std.proofs.lemmas.Option.{slice_get-get_or, slice_get-map}
use Rattle.std.specs.declared.option.Option.{Option}
use Rattle.input_files.proofs.HeldLemmas.{get_past, held_at}
use Rattle.input_files.specs.Held.{IsHeldRecord, shown_at}
use Rattle.input_files.specs.Records.{Shown}
use Rattle.input_files.specs.declared.held.HeldRecord.{HeldRecord}
use Rattle.input_files.proofs.held.Records.get.Goals as goal

pub seen-requires : goal.seen-requires
seen-requires c =
    let look = c.in-Some.ensures.lookup in
    let inside : c.args.place < length c.self.inside.held.items = omega (arith, look.3.0, ap length c.as_slice.ensures.value) in
    let here : get_or c.self.inside.held.items c.args.place c.in-Some.held.now ≡ c.in-Some.held.now =
    ap (λ (hs : List HeldRecord). get_or hs c.args.place c.in-Some.held.now) (sym c.as_slice.ensures.value) ∙ sym look.1 in
    let P : HeldRecord → Type 0 = λ h. IsHeldRecord c.as_slice-in-Some.result.now h in
    let Q : List ℕ → Type 0 = λ bytes. IsHeldRecord bytes (get_or c.self.inside.held.items c.args.place c.in-Some.held.now) in
    subst P here (subst Q (sym c.as_slice-in-Some.ensures.value) (held_at c.self.inside.bytes.items c.self.inside.held.items c.args.place c.in-Some.held.now c.self.invariant inside))

pub returns-in-Some-clause-value : goal.returns-in-Some-clause-value
returns-in-Some-clause-value c =
    let look = c.in-Some.ensures.lookup in
    let inside : c.args.place < length c.self.inside.held.items = omega (arith, look.3.0, ap length c.as_slice.ensures.value) in
    let here : get_or c.self.inside.held.items c.args.place c.in-Some.held.now ≡ c.in-Some.held.now =
    ap (λ (hs : List HeldRecord). get_or hs c.args.place c.in-Some.held.now) (sym c.as_slice.ensures.value) ∙ sym look.1 in
    let found : slice_get c.self.inside.held.items c.args.place ≡ Some c.in-Some.held.now =
    slice_get-get_or c.self.inside.held.items c.args.place c.in-Some.held.now inside ∙ ap Some here in
    let all : slice_get c.args.self.now c.args.place ≡ Some (shown_at c.self.inside.bytes.items c.in-Some.held.now) =
    ap (λ (ss : List Shown). slice_get ss c.args.place) (sym c.self.view_is) ∙ slice_get-map (shown_at c.self.inside.bytes.items) c.self.inside.held.items c.args.place
    ∙ ap (λ (o : Option HeldRecord). option_map (shown_at c.self.inside.bytes.items) o) found in
    ap Some (c.seen.ensures.value ∙ ap (λ (bytes : List ℕ). shown_at bytes c.in-Some.held.now) c.as_slice-in-Some.ensures.value) ∙ sym all

pub returns-in-None-clause-value : goal.returns-in-None-clause-value
returns-in-None-clause-value c =
    let past : length c.self.inside.held.items ≤ c.args.place = omega (arith, c.in-None.ensures.lookup.3, ap length c.as_slice.ensures.value) in
    sym (ap (λ (ss : List Shown). slice_get ss c.args.place) (sym c.self.view_is) ∙ slice_get-map (shown_at c.self.inside.bytes.items) c.self.inside.held.items c.args.place
    ∙ ap (λ (o : Option HeldRecord). option_map (shown_at c.self.inside.bytes.items) o) (get_past c.self.inside.held.items c.args.place past))
