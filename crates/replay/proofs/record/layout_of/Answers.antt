use Rattle.replay.proofs.Layouts.{too_short, image_past, memory_past, orders_past, words_left, filled, laid_out}
use Rattle.replay.proofs.record.layout_of.Goals as goal

pub returns-then-n-lt-FIXED_WORDS : goal.returns-then-n-lt-FIXED_WORDS
returns-then-n-lt-FIXED_WORDS c =
    too_short c.args.words.now c.if-n-lt-FIXED_WORDS.true

pub returns-then-n-image : goal.returns-then-n-image
returns-then-n-image c =
    image_past c.args.words.now c.if-n-lt-FIXED_WORDS.false c.index-image.ensures c.if-n-image.true

pub returns-then-n-image-2 : goal.returns-then-n-image-2
returns-then-n-image-2 c =
    memory_past c.args.words.now c.if-n-lt-FIXED_WORDS.false c.index-image.ensures c.if-n-image.false
    c.index-memory.ensures c.if-n-image-2.true

pub returns-then-n-all : goal.returns-then-n-all
returns-then-n-all c =
    orders_past c.args.words.now c.if-n-lt-FIXED_WORDS.false c.index-image.ensures c.if-n-image.false
    c.index-memory.ensures c.if-n-image-2.false c.index-orders.ensures c.if-n-all.true

pub returns-then-all-n : goal.returns-then-all-n
returns-then-all-n c =
    words_left c.args.words.now c.if-n-lt-FIXED_WORDS.false c.index-image.ensures c.if-n-image.false
    c.index-memory.ensures c.if-n-image-2.false c.index-orders.ensures c.if-n-all.false c.if-all-n.true

pub counted-requires : goal.counted-requires
counted-requires c =
    filled c.args.words.now c.if-n-lt-FIXED_WORDS.false c.index-image.ensures c.if-n-image.false
    c.index-memory.ensures c.if-n-image-2.false c.index-orders.ensures c.if-n-all.false
    c.if-all-n.false c.parts_of.ensures

pub returns : goal.returns
returns c =
    laid_out c.args.words.now c.if-n-lt-FIXED_WORDS.false c.index-image.ensures c.if-n-image.false
    c.index-memory.ensures c.if-n-image-2.false c.index-orders.ensures c.if-n-all.false
    c.if-all-n.false c.parts_of.ensures c.counted.ensures
