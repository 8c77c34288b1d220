use borrow.Author.Rules.{rules}
use Rattle.bits.proofs.SignedWords.{read_is}
use Rattle.clu.specs.Tmax.{as_word}
use Rattle.clu.proofs.tmax.as_word.Goals as goal

pub returns : goal.returns
unfolding as_word
returns c = rw (c.word.ensures, read_is c.args.s.value (search rules))
