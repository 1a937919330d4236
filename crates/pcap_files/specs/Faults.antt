-- How a failed call on a file becomes a fault of its reader.
use Rattle.play_base.specs.declared.trouble.Trouble.{Trouble}
use Rattle.play_base.specs.declared.trouble.Trouble.TheVariants as trouble
use Rattle.pcap_files.specs.declared.fault.CaptureFault.{CaptureFault}
use Rattle.pcap_files.specs.declared.fault.CaptureFault.TheVariants.{Read, NoMemory}

abbrev pub fault_of : Trouble → CaptureFault
fault_of trouble.Failed = Read
fault_of trouble.NoMemory = NoMemory
