-- How far a reader filled a buffer.
use Rattle.std.specs.Prelude.{ℕ}
use Rattle.std.specs.declared.result.Result.{Result}
use Rattle.std.specs.declared.result.Result.TheVariants.{Ok, Err}
use Rattle.input.specs.declared.Unread.{Unread}

-- how many bytes stand at the buffer's start, whether a read failed behind them or not
abbrev pub filled : Result ℕ Unread → ℕ
filled (Ok n) = n
filled (Err e) = e.bytes
