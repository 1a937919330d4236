-- What files that never fail mean: every name is there, one that was not put being empty, and no count of faults moves; and the calls that
-- are counted for them.
use Rattle.std.specs.Prelude.{◌≡◌, ◌≢◌, ◌+◌, ◌-◌, ◌^◌, ℕ, [], true, Some, min, slice_index, unwrap_or}
use Rattle.play_base.specs.View.{View}
use Rattle.memory_files.specs.Memory.{bytes_under, part_at, name_at, left_at}
use Rattle.memory_files.specs.Planned.{place_of}
use Rattle.memory_files.specs.declared.planned.Call.{Call}
use Rattle.memory_files.specs.declared.steady.SteadyFiles.{SteadyFiles}

abbrev pub steady_view : SteadyFiles → View
steady_view m = record {
  tells = true;
  bytes = λ n. Some (unwrap_or (bytes_under m.names n) []);
  said = m.said.items;
  part = part_at m.opened.items;
  name = name_at m.opened.items;
  left = left_at m.opened.items;
  read_faults = λ part. 0;
  write_faults = λ part. 0;
  fixed = [];
}

-- how many calls of this kind were made
abbrev pub steady_made : SteadyFiles → Call → ℕ
steady_made m call = slice_index m.calls (place_of call)

-- the bounds on a read and a write stand
pub record HasSameBounds (old new : SteadyFiles) : Type 0 where
  pub most : new.chunk.most ≡ old.chunk.most
  pub short : new.short.most ≡ old.short.most

-- one call more was made of this kind, and none of another; the bounds on a read and a write stand
pub record IsCounted (call : Call) (old new : SteadyFiles) : Type 0 where
  pub one : steady_made new call ≡ min (steady_made old call + 1) (2 ^ 64 - 1)
  pub others : (c : Call) → c ≢ call → steady_made new c ≡ steady_made old c
  pub bounds : HasSameBounds old new
