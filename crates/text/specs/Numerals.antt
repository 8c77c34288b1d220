-- Numbers in a text.
use Rattle.std.specs.Prelude.{ℕ, ◌+◌, ◌-◌, ◌*◌, ◌%◌, Bool, true, false, ◌&&◌, List, [], ◌∷◌, ◌==◌, nat_lt, option_map}
use Rattle.std.specs.declared.option.Option.{Option}
use Rattle.std.specs.declared.option.Option.TheVariants.{None, Some}
use Rattle.std.specs.Char.{digit_value}
use Rattle.bits.specs.Pick.{pick}
use Rattle.text.specs.Parts.{after, byte_at}

abbrev pub base : Bool → ℕ
base hex = pick hex 16 10

abbrev pub longer : Bool → ℕ → ℕ → ℕ
longer hex value d = value * base hex + d

-- digits behind those of a value, 0 to 9 and letters of either case: each below the base, and the whole below 2^32
unfoldable pub digits_from : Bool → ℕ → List ℕ → Option ℕ
digits_from hex value [] = Some value
digits_from hex value (c ∷ cs) =
    pick (nat_lt (digit_value c) (base hex))
    (pick (nat_lt 0xFFFFFFFF (longer hex value (digit_value c))) None (digits_from hex (longer hex value (digit_value c)) cs))
    None

unfoldable pub digits : Bool → List ℕ → Option ℕ
digits hex [] = None
digits hex (c ∷ cs) = digits_from hex 0 (c ∷ cs)

abbrev pub minus : ℕ → ℕ
minus value = (4294967296 - value) % 4294967296

abbrev pub is_hex : List ℕ → Bool
is_hex cs = byte_at cs 0 == 48 && byte_at cs 1 == 120

-- base sixteen behind 0x, else base ten, with or without a minus sign
unfoldable pub number : List ℕ → Option ℕ
number cs =
    pick (is_hex cs) (digits true (after 120 cs))
    (pick (byte_at cs 0 == 45) (option_map minus (digits false (after 45 cs))) (digits false cs))
