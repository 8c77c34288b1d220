-- The record of a case, by the vector file: where its parts lie, or why it has none.
use Rattle.std.specs.Prelude.{ℕ, ◌+◌, ◌-◌, ◌*◌, ◌/◌, ◌≡◌, List, length, get_or, ltb, eqb}
use Rattle.std.specs.declared.result.Result.{Result}
use Rattle.std.specs.declared.result.Result.TheVariants.{Ok, Err}
use Rattle.bits.specs.Pick.{pick}
use Rattle.layout.specs.Layout.{state_words}
use Rattle.replay.specs.Outcome.{run_numbers}
use Rattle.replay.specs.declared.record.Parts.{Parts}
use Rattle.replay.specs.declared.record.Fault.{Fault}
use Rattle.replay.specs.declared.record.Fault.TheVariants.{Short, Image, Memory, Orders, Length, Check, Plain, Ordered}

-- the words of a record whose image, memory and orders are empty: three states, and 21 words beside them
abbrev pub fixed_words : ℕ
fixed_words = 3 * state_words + 21

-- where the orders' length stands in such a record; how far the limit is behind the state, without the orders' bytes, and the
-- numbers of the ordered run behind the limit, without the memory words
abbrev pub orders_at : ℕ
orders_at = state_words + 2

abbrev pub limit_after : ℕ
limit_after = state_words + 1

abbrev pub ordered_after : ℕ
ordered_after = state_words + 13

-- bytes lie four to a word
abbrev pub words_for : ℕ → ℕ
words_for bytes = (bytes + 3) / 4

-- ---- the lengths that a record gives

abbrev pub image_length : List ℕ → ℕ
image_length w = get_or w 0 0

abbrev pub memory_length : List ℕ → ℕ
memory_length w = get_or w (1 + image_length w) 0

abbrev pub orders_length : List ℕ → ℕ
orders_length w = get_or w (orders_at + image_length w + memory_length w) 0

-- the words of all parts: the memory comes three times
abbrev pub parts_words : List ℕ → ℕ
parts_words w = fixed_words + image_length w + 3 * memory_length w + words_for (orders_length w)

-- ---- the parts

-- image length and words, memory length and words, state, orders length and bytes, limit, and each call's numbers behind
-- their count
abbrev pub parts_from : ℕ → ℕ → ℕ → ℕ → ℕ → Parts
parts_from image memory orders state limit =
    record {
      image = image;
      memory = memory;
      orders = orders;
      state = state;
      limit = limit;
      check = limit + 3;
      plain = limit + 7;
      ordered = limit + ordered_after + memory;
    }

abbrev pub parts_of : ℕ → ℕ → ℕ → Parts
parts_of image memory orders =
    parts_from image memory orders (2 + image + memory) (2 + image + memory + limit_after + words_for orders)

-- the parts follow each other and fill so many words
pub record Fill (p : Parts) (words : ℕ) : Type 0 where
  pub state_at : p.state ≡ 2 + p.image + p.memory
  pub limit_at : p.limit ≡ p.state + limit_after + words_for p.orders
  pub check_at : p.check ≡ p.limit + 3
  pub plain_at : p.plain ≡ p.limit + 7
  pub ordered_at : p.ordered ≡ p.limit + ordered_after + p.memory
  pub ends : p.ordered + run_numbers + p.memory ≡ words

-- the counts before the calls' numbers
unfoldable pub counted : List ℕ → Parts → Result Parts Fault
counted w p =
    pick (eqb (get_or w (p.check - 1) 0) 3)
    (pick (eqb (get_or w (p.plain - 1) 0) 5)
    (pick (eqb (get_or w (p.ordered - 1) 0) 5) (Ok p) (Err (Ordered (get_or w (p.ordered - 1) 0))))
    (Err (Plain (get_or w (p.plain - 1) 0))))
    (Err (Check (get_or w (p.check - 1) 0)))

-- the first fault, or the parts: too short for any case; a length that passes the end; words that no part has; a count
unfoldable pub layout_of : List ℕ → Result Parts Fault
layout_of w =
    pick (ltb (length w) fixed_words) (Err (Short (length w)))
    (pick (ltb (length w) (fixed_words + image_length w)) (Err (Image (image_length w)))
    (pick (ltb (length w) (fixed_words + image_length w + 3 * memory_length w)) (Err (Memory (memory_length w)))
    (pick (ltb (length w) (parts_words w)) (Err (Orders (orders_length w)))
    (pick (ltb (parts_words w) (length w)) (Err (Length (length w) (parts_words w)))
    (counted w (parts_of (image_length w) (memory_length w) (orders_length w)))))))
