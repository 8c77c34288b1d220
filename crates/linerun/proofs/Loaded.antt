-- The run of the words that were loaded from bytes is the run of the bytes.
use mathlib.Core.Path.{◌≡◌, sym, ap}
use mathlib.Core.List.{List}
use Prim.Native.Nat.{ℕ, ◌/◌, ◌≤◌}
use native.Mathlib.Nat.{sub-zero}
use native.Mathlib.Omega.{arith}
use lib.ListN.{length, take}
use Rattle.image.specs.Directory.{max_words}
use Rattle.image.specs.Bytes.{refusal_code, bytes_refusal, words_of_bytes, loaded}
use Rattle.image.specs.declared.bytes.BytesRefusal.{BytesRefusal}
use Rattle.image.specs.declared.bytes.BytesRefusal.TheVariants.{TooLong, BrokenWord}
use Rattle.image.proofs.LittleEndian.{accepted, front_loaded}
use Rattle.machine.specs.Machine.{machine, zeros, zero_state}
use Rattle.machine.specs.declared.state.State.{State}
use Rattle.runs.specs.Plain.{ended, report, plain_run}
use Rattle.runs.specs.declared.report.Ran.{Ran}
use Rattle.linerun.specs.BytesRun.{zero_machine, bytes_run, ran}

module _ (bs : List ℕ) where
  pub words_ran : 0 ≡ bytes_refusal bs → (ws words mem : List ℕ) {z : State} (x : Ran) → max_words ≤ length ws → words ≡ loaded bs ws
      → z ≡ zero_state → ended x.report (machine x.state mem) ≡ plain_run (take (length bs / 4) words) (machine z (zeros 64))
      → x ≡ ran (bytes_run bs)
  unfolding bytes_run
  words_ran e ws words mem x room l zero q =
      let h = accepted bs (sym e) in
      let f = front_loaded bs ws (omega arith) in
      let w : take (length bs / 4) words ≡ words_of_bytes bs = rw l (rw sub-zero at f) in
      let p : ended x.report (machine x.state mem) ≡ plain_run (words_of_bytes bs) zero_machine = rw (w, zero) at q in
      rw (← e) (ap ran p)

  pub bytes_refused : (why : BytesRefusal) {z : State} → refusal_code why ≡ bytes_refusal bs → z ≡ zero_state
      → ◌≡◌ {A = Ran} (record { report = report (refusal_code why) 0 0 0 0; state = z }) (ran (bytes_run bs))
  unfolding bytes_run
  bytes_refused TooLong e zero = rw (zero, ← e)
  bytes_refused BrokenWord e zero = rw (zero, ← e)
