use Rattle.pcap_files.proofs.ReadingLaws.{one_reading}
use Rattle.pcap_files.proofs.laws.bytes_read_one_way.Goals as goal

pub returns : goal.returns
returns c = one_reading
