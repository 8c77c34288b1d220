use native.Mathlib.Omega.{arith}
use mathlib.Core.Path.{refl, ◌∙◌}
use Rattle.std.proofs.Common.{replicate}
use Rattle.layout.specs.Layout.{words_of_state}
use Rattle.states.proofs.EndsLaid.{words_length}
use Rattle.states.proofs.Seams.{first, next, all}
use Rattle.states.proofs.States.{laid_state}
use Rattle.states.proofs.words.words_of.Goals as goal

pub returns : goal.returns
unfolding words_of_state
returns c =
    let x = c.args.state in
    let sixteen = words_length x.end in
    let r = first (replicate 246 0) _ x.r 64 refl c.copy_from_slice.ensures.after (omega arith) (omega arith) in
    let tr = next _ x.tr 64 128 r c.copy_from_slice-2.ensures.after (omega arith) (omega arith) (omega arith) in
    let thr = next _ x.thr 8 136 tr c.copy_from_slice-3.ensures.after (omega arith) (omega arith) (omega arith) in
    let j = next _ x.j 31 167 thr c.copy_from_slice-4.ensures.after (omega arith) (omega arith) (omega arith) in
    let k = next _ x.k 31 198 j c.copy_from_slice-5.ensures.after (omega arith) (omega arith) (omega arith) in
    let base = next _ x.base 8 206 k c.copy_from_slice-6.ensures.after (omega arith) (omega arith) (omega arith) in
    let length = next _ x.length 8 214 base c.copy_from_slice-7.ensures.after (omega arith) (omega arith) (omega arith) in
    let flags = next _ x.flags 8 222 length c.copy_from_slice-8.ensures.after (omega arith) (omega arith) (omega arith) in
    let ends = next _ _ 16 238 flags (c.copy_from_slice-9.ensures.after ∙ c.split_ends.ensures) (omega arith) (omega arith) (omega arith) in
    let dab = next _ x.dab 8 246 ends c.copy_from_slice-10.ensures.after (omega arith) (omega arith) (omega arith) in (
      all dab,
      λ mem. laid_state x (omega arith) (omega arith) (omega arith) (omega arith) (omega arith) (omega arith) (omega arith) (omega arith)
          (omega arith) (omega arith) _ mem (all dab),
    )
