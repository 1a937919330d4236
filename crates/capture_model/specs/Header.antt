-- The header of a written capture, and the headers of its records (libpcap, pcap-savefile(5)): little-endian, with nanosecond
-- stamps.
use Rattle.std.specs.Prelude.{ℕ, ◌/◌, ◌%◌, ◌^◌, List, [], ◌∷◌, ◌++◌}
use Rattle.byteorder.specs.Endian.{little_bytes}

-- the header of a record: a packet of `len` bytes that ends at `end`, of which `captured` bytes follow
abbrev pub record_header : (end captured len : ℕ) → List ℕ
record_header end captured len =
    little_bytes 4 (end / 10 ^ 9) ++ little_bytes 4 (end % 10 ^ 9) ++ little_bytes 4 captured ++ little_bytes 4 len

-- the header of a little-endian nanosecond capture of Ethernet frames with a snap length of 262,144
abbrev pub capture_header : List ℕ
capture_header =
    77 ∷ 60 ∷ 178 ∷ 161 ∷ 2 ∷ 0 ∷ 4 ∷ 0 ∷ 0 ∷ 0 ∷ 0 ∷ 0 ∷ 0 ∷ 0 ∷ 0 ∷ 0 ∷ 0 ∷ 0 ∷ 4 ∷ 0 ∷ 1 ∷ 0 ∷ 0 ∷ 0 ∷ []
