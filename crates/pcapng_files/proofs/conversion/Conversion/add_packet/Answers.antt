use Rattle.std.proofs.Common.{◌+◌, ◌≡◌, refl, map, subst, List}
use Rattle.pcapng_model.specs.Block.{Packet, Tells, told_packet}
use Rattle.pcapng_files.specs.Views.{interface, packet}
use Rattle.pcapng_files.specs.declared.conversion.Conversion.{Conversion}
use Rattle.pcapng_files.specs.declared.interface.Interface.{Interface}
use Rattle.pcapng_files.proofs.ConvertingLemmas.{took_packet}
use Rattle.pcapng_files.proofs.conversion.Conversion.add_packet.Goals as goal

pub returns-clause-took : goal.returns-clause-took
returns-clause-took c =
    let old = c.args.self.now in
    let body = c.args.body.now in
    let found = c.in-Ok.found in
    let P : List Interface → Type 0 = λ is. told_packet c.args.big body (map interface is) old.packets ≡ Tells (Packet (packet body found)) in
    let new : Conversion = record { big = old.big; interfaces = old.interfaces; packets = old.packets + 1; written = old.written; place = old.place } in
    took_packet old new (told_packet c.args.big body (map interface old.interfaces.items) old.packets) body found
    (subst P c.deref.ensures.value c.in-Ok.ensures.ok) c.in-Ok.ensures.within refl refl refl refl
