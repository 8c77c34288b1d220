use Rattle.word.proofs.Swaps.{in_turn, reversed}
use Rattle.word.proofs.reverse.reverse.Goals as goal

pub returns : goal.returns
returns c =
    reversed _ c.swap_bits.result c.swap_bits.type_inv
    (in_turn _ _ _ _ _ _ c.swap_halves-halves.ensures
    c.swap_bytes-bytes.ensures c.swap_nibbles-nibbles.ensures
    c.swap_pairs-pairs.ensures c.swap_bits.ensures).4
