use Rattle.std.proofs.Common.{ap, sym, subst, refl, ◌∙◌, ◌≡◌, true, false}
use Rattle.arrivals_front.specs.Given.{IsRefused, is_pcapng}
use Rattle.arrivals_front.specs.declared.given.GivenFault.{GivenFault}
use Rattle.arrivals_front.proofs.GivenLemmas.{begun, begun_itself, begun_whole, follows_converted, follows_itself, refused_converted, refused_whole, taken_all}
use Rattle.arrivals_front.proofs.TakingLemmas.{some_more}
use Rattle.arrivals_front.proofs.given.given_arrivals.Goals as goal

pub returns-then-not-begins_section-clause-given : goal.returns-then-not-begins_section-clause-given
returns-then-not-begins_section-clause-given g c =
    let old = g.F.Files.view c.args.files.now in
    let new = g.F.Files.view c.take_to.new.files in
    let taken = c.take_to.new.taken.items in
    let x = begun old new c.args.file _ taken c.new-taken.ensures.items c.in-Ok.ensures.gained c.in-Ok.ensures.enough c.in-Ok.ensures.most in
    let other : is_pcapng taken ≡ false = ap is_pcapng (sym c.as_slice.ensures.value) ∙ sym c.begins_section.ensures ∙ c.if-not-begins_section.true in
    λ given h. follows_itself old new c.args.file taken given (record { front = c.take_to.new.taken; rest = true }) refl refl x other h

pub returns-in-Err-whole_file-clause-refused : goal.returns-in-Err-whole_file-clause-refused
returns-in-Err-whole_file-clause-refused g c =
    let old = g.F.Files.view c.args.files.now in
    let mid = g.F.Files.view c.take_to.new.files in
    let taken = c.take_to.new.taken.items in
    let x = begun old mid c.args.file _ taken c.new-taken.ensures.items c.in-Ok.ensures.gained c.in-Ok.ensures.enough c.in-Ok.ensures.most in
    let begins : is_pcapng taken ≡ true = ap is_pcapng (sym c.as_slice.ensures.value) ∙ sym c.begins_section.ensures ∙ c.if-not-begins_section.false in
    refused_whole old mid (g.F.Files.view c.whole_file.new.files) c.args.file taken c.in-Err-whole_file.fault c.long_files_are_a_limit.ensures.longer x begins
    c.in-Err-whole_file.ensures.cut

pub returns-in-Ok-convert-clause-given : goal.returns-in-Ok-convert-clause-given
returns-in-Ok-convert-clause-given g c =
    let old = g.F.Files.view c.args.files.now in
    let mid = g.F.Files.view c.take_to.new.files in
    let new = g.F.Files.view c.whole_file.new.files in
    let taken = c.take_to.new.taken.items in
    let whole = c.whole_file.new.taken.items in
    let x = begun old mid c.args.file _ taken c.new-taken.ensures.items c.in-Ok.ensures.gained c.in-Ok.ensures.enough c.in-Ok.ensures.most in
    let begins : is_pcapng taken ≡ true = ap is_pcapng (sym c.as_slice.ensures.value) ∙ sym c.begins_section.ensures ∙ c.if-not-begins_section.false in
    λ given h.
    follows_converted old new c.args.file given whole (record { front = c.in-Ok-convert.front; rest = false }) refl
    (taken_all old mid new c.args.file taken whole given x begins c.in-Ok-whole_file.ensures.whole h) c.in-Ok-convert.ensures.converted

pub returns-then-not-begins_section-clause-begun : goal.returns-then-not-begins_section-clause-begun
returns-then-not-begins_section-clause-begun g c =
    let old = g.F.Files.view c.args.files.now in
    let new = g.F.Files.view c.take_to.new.files in
    let taken = c.take_to.new.taken.items in
    let x = begun old new c.args.file _ taken c.new-taken.ensures.items c.in-Ok.ensures.gained c.in-Ok.ensures.enough c.in-Ok.ensures.most in
    let other : is_pcapng taken ≡ false = ap is_pcapng (sym c.as_slice.ensures.value) ∙ sym c.begins_section.ensures ∙ c.if-not-begins_section.true in
    λ given h. begun_itself old new c.args.file taken given x other h

pub returns-in-Ok-convert-clause-begun : goal.returns-in-Ok-convert-clause-begun
returns-in-Ok-convert-clause-begun g c =
    let old = g.F.Files.view c.args.files.now in
    let mid = g.F.Files.view c.take_to.new.files in
    let new = g.F.Files.view c.whole_file.new.files in
    let taken = c.take_to.new.taken.items in
    let whole = c.whole_file.new.taken.items in
    let x = begun old mid c.args.file _ taken c.new-taken.ensures.items c.in-Ok.ensures.gained c.in-Ok.ensures.enough c.in-Ok.ensures.most in
    let begins : is_pcapng taken ≡ true = ap is_pcapng (sym c.as_slice.ensures.value) ∙ sym c.begins_section.ensures ∙ c.if-not-begins_section.false in
    λ given h.
    begun_whole new c.args.file given whole c.in-Ok-convert.front.items
    (taken_all old mid new c.args.file taken whole given x begins c.in-Ok-whole_file.ensures.whole h) c.in-Ok-convert.ensures.converted

pub returns-in-Err-convert-clause-refused : goal.returns-in-Err-convert-clause-refused
returns-in-Err-convert-clause-refused g c =
    let old = g.F.Files.view c.args.files.now in
    let mid = g.F.Files.view c.take_to.new.files in
    let new = g.F.Files.view c.whole_file.new.files in
    let taken = c.take_to.new.taken.items in
    let whole = c.whole_file.new.taken.items in
    let x = begun old mid c.args.file _ taken c.new-taken.ensures.items c.in-Ok.ensures.gained c.in-Ok.ensures.enough c.in-Ok.ensures.most in
    let begins : is_pcapng taken ≡ true = ap is_pcapng (sym c.as_slice.ensures.value) ∙ sym c.begins_section.ensures ∙ c.if-not-begins_section.false in
    subst (λ (f : GivenFault). IsRefused old new c.args.file f) (sym c.conversion_fault.ensures)
    (refused_converted old mid new c.args.file taken whole c.in-Err-convert.fault x begins c.in-Ok-whole_file.ensures.whole c.in-Err-convert.ensures.fault)

pub returns-in-Err-whole_file-clause-took : goal.returns-in-Err-whole_file-clause-took
returns-in-Err-whole_file-clause-took g c = some_more _ _ _ _ _ c.in-Ok.ensures.took c.in-Err-whole_file.ensures.took

pub returns-in-Ok-convert-clause-took : goal.returns-in-Ok-convert-clause-took
returns-in-Ok-convert-clause-took g c = some_more _ _ _ _ _ c.in-Ok.ensures.took c.in-Ok-whole_file.ensures.took

pub returns-in-Err-convert-clause-took : goal.returns-in-Err-convert-clause-took
returns-in-Err-convert-clause-took g c = some_more _ _ _ _ _ c.in-Ok.ensures.took c.in-Ok-whole_file.ensures.took
