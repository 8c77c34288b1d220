-- Note 1 of document 02: each N condition is yes exactly when its partner, whose number is three lower, is no.
use mathlib.Core.Path.{◌≡◌, refl, sym}
use mathlib.Core.Logic.{◌↔◌, ◌⊎◌, inl, inr}
use mathlib.Core.Bool.{Bool, true, false, not}
use mathlib.Core.List.{List}
use Prim.Native.Nat.{ℕ, zero, suc, ◌+◌, ◌*◌, ◌-◌, ◌<◌, ◌≤◌}
use native.Mathlib.Omega.{arith}
use lib.Arith.{digits_div, digits_mod}
use borrow.Author.Tests.{le-ltb}
use Rattle.std.specs.Prelude.{Option, Some}
use Rattle.bits.specs.Flags.{flag}
use Rattle.machine.specs.declared.state.State.{State}
use Rattle.machine.specs.Conditions.{met, ialu_flags, holds_in, holds, condition_of, condition_value}

-- EQ and NEQ, LT and NLT, LE and NLE, for every Z and N
met_partner : (c : ℕ) (z n : Bool) → c < 3 → met (c + 3) z n ≡ not (met c z n)
unfolding met
met_partner zero true n h = refl
met_partner zero false n h = refl
met_partner (suc zero) z true h = refl
met_partner (suc zero) z false h = refl
met_partner (suc (suc zero)) true n h = refl
met_partner (suc (suc zero)) false true h = refl
met_partner (suc (suc zero)) false false h = refl
met_partner (suc (suc (suc c))) z n h = absurd (omega arith)

-- on either IALU: each has six conditions
holds_partner : (number ialu c : ℕ) (flags : List ℕ) → number ≡ ialu * 6 + c → c < 3
    → holds (number + 3) flags ≡ not (holds number flags)
unfolding holds holds_in
holds_partner number ialu c flags e h =
    let up : number + 3 ≡ ialu * 6 + (c + 3) = omega (arith, e) in
    let low : c < 6 = omega (arith, h) in
    let high : c + 3 < 6 = omega (arith, h) in
    let group = ialu_flags ialu flags in
    rw (up, e, digits_div ialu high, digits_mod ialu high, digits_div ialu low, digits_mod ialu low)
    (met_partner c (flag 0 group) (flag 1 group) h)

-- the one is yes exactly where the other is no, and one of them is yes
abbrev pub Opposed : Option Bool → Option Bool → Type 0
Opposed one other = ((one ≡ Some true) ↔ (other ≡ Some false)) × (condition_value one + condition_value other ≡ 1)

opposed : (held : Bool) → Opposed (Some (not held)) (Some held)
opposed true = ((sym, sym), refl)
opposed false = ((λ _. refl, λ _. refl), refl)

answers_opposed : (number : ℕ) (flags : List ℕ) → number ≤ 8 → holds (number + 3) flags ≡ not (holds number flags)
    → Opposed (condition_of (number + 3) flags) (condition_of number flags)
unfolding condition_of
answers_opposed number flags h e =
    rw (le-ltb 11 (number + 3) (omega (arith, h)), le-ltb 11 number (omega (arith, h)), e) (opposed (holds number flags))

-- the numbers 0 to 2 and 6 to 8: EQ, LT and LE, on J and on K
abbrev pub HasPartner : ℕ → Type 0
HasPartner number = (number ≤ 2) ⊎ ((6 ≤ number) × (number ≤ 8))

pub partners : (number : ℕ) (state : State) → HasPartner number
    → Opposed (condition_of (number + 3) state.flags) (condition_of number state.flags)
partners number state (inl j) =
    answers_opposed number state.flags (omega (arith, j))
    (holds_partner number 0 number state.flags (omega arith) (omega (arith, j)))
partners number state (inr k) =
    answers_opposed number state.flags k.1
    (holds_partner number 1 (number - 6) state.flags (omega (arith, k.0)) (omega (arith, k.0, k.1)))
