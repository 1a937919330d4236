use Rattle.std.proofs.Common.{◌≤◌, ◌<◌, ◌-◌, ◌^◌, vec_len}
use Rattle.pcapng_files.proofs.ConvertingLemmas.{IsConverting}
use Rattle.pcapng_files.specs.Converting.{IsBehind}
use Rattle.pcapng_files.proofs.converting.convert.Given as goal

abbrev pub invariant-loop-conversion : goal.invariant-loop-conversion
invariant-loop-conversion l = record {
  converting : IsConverting l.fn.bytes.items l.file.items l.conversion;
  few : l.conversion.packets ≤ 4000000;
  behind : IsBehind l.conversion;
  within : l.conversion.place ≤ vec_len l.file;
  small : 0 < l.conversion.place → vec_len l.file ≤ 2 ^ 30;
}

abbrev pub decreases-loop-conversion : goal.decreases-loop-conversion
decreases-loop-conversion l = vec_len l.file - l.conversion.place
