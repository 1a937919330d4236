-- What the values of the code stand for in the definitions.
use Rattle.std.specs.Prelude.{◌+◌, ◌-◌, ◌^◌, ℕ, List, [], ◌∷◌, take, drop, nat_lt, if◌then◌else◌, None, Some}
use Rattle.std.specs.declared.option.Option.{Option}
use Rattle.capture_model.specs.Capture.{Record}
use Rattle.pcapng_model.specs.Interface as model
use Rattle.pcapng_files.specs.declared.interface.Interface.{Interface}
use Rattle.pcapng_files.specs.declared.units.Offset.{Offset}
use Rattle.pcapng_files.specs.declared.units.Offset.TheVariants.{Later, Earlier}
use Rattle.pcapng_files.specs.declared.options.Settings.{Settings}
use Rattle.pcapng_files.specs.declared.packet.Packet.{Packet}

abbrev pub settings : Settings → model.Settings
settings s = record { resolution = s.resolution; offset = s.offset }

abbrev pub offset : Offset → model.Offset
offset (Later seconds) = model.Later seconds
offset (Earlier seconds) = model.Earlier seconds

abbrev pub interface : Interface → model.Interface
interface i = record { link = i.link; units = i.units; offset = offset i.offset }

-- whole seconds, moved by an offset: None before the epoch, or from 2^32 on
abbrev pub seconds_by : model.Offset → ℕ → Option ℕ
seconds_by (model.Later more) seconds = if nat_lt (seconds + more) (2 ^ 32) then Some (seconds + more) else None
seconds_by (model.Earlier less) seconds =
    if nat_lt seconds less then None else if nat_lt (seconds - less) (2 ^ 32) then Some (seconds - less) else None

-- the packet of a body: its captured bytes stand from byte 20 on
abbrev pub packet : (body : List ℕ) → Packet → Record
packet body p = record { stamp = p.stamp; captured = take p.captured (drop 20 body); original = p.original }

abbrev pub records_of : (body : List ℕ) → Option Packet → List Record
records_of body None = []
records_of body (Some p) = packet body p ∷ []

-- the bytes that its record takes
abbrev pub size_of : Option Packet → ℕ
size_of None = 0
size_of (Some p) = 16 + p.captured
