use Rattle.std.proofs.Common.{◌≡◌, length, ◌-◌, ◌≤◌, ◌<◌}
use Rattle.replay.proofs.file.read_bytes.Given as goal

abbrev pub invariant-loop-done : goal.invariant-loop-done
invariant-loop-done g l = record {
  no_more : l.done ≤ l.n;
  some_room : 0 < l.room;
  room : l.room ≡ length l.bytes;
}

abbrev pub decreases-loop-done : goal.decreases-loop-done
decreases-loop-done g l = l.n - l.done
