-- A slot that `let .. else` tells to be of none of some families: what matters for those alone is `none`.
use mathlib.Core.Path.{◌≡◌, refl}
use Prim.Native.Nat.{ℕ}
use Rattle.slots.specs.Families.{on_despread, on_modifier, on_access, on_dab_load}
use Rattle.slots.specs.declared.slot.Slot.{Slot}
use Rattle.slots.specs.declared.slot.Slot.TheVariants.{Despread}
use Rattle.slots.specs.declared.slot.Slot.TheVariants.{Arith, Access, DabLoad}

-- what is told of a slot that is not of a family
abbrev pub NotDespread : Slot → Type 0
NotDespread x = (b op t f p o : ℕ) → x ≡ Despread b op t f p o → ⊥

abbrev pub NotArith : Slot → Type 0
NotArith x = (ialu op t f s i : ℕ) → x ≡ Arith ialu op t f s i → ⊥

abbrev pub NotAccess : Slot → Type 0
NotAccess x = (ialu op w file n f s i : ℕ) → x ≡ Access ialu op w file n f s i → ⊥

abbrev pub NotDabLoad : Slot → Type 0
NotDabLoad x = (ialu b t f i : ℕ) → x ≡ DabLoad ialu b t f i → ⊥

pub not_despread : {A : Type 0} (none : A) (f : ℕ → ℕ → ℕ → ℕ → ℕ → ℕ → A) (x : Slot) → NotDespread x
    → on_despread none f x ≡ none
not_despread none f (Despread b op t x p o) h = absurd (h b op t x p o refl)
not_despread none f x h = refl

pub not_access : {A : Type 0} (none : A) (f : ℕ → ℕ → ℕ → ℕ → ℕ → ℕ → ℕ → ℕ → A) (x : Slot) → NotAccess x
    → on_access none f x ≡ none
not_access none f (Access ialu op w file n x s i) h = absurd (h ialu op w file n x s i refl)
not_access none f x h = refl

pub not_dab_load : {A : Type 0} (none : A) (f : ℕ → ℕ → ℕ → ℕ → ℕ → A) (x : Slot) → NotDabLoad x
    → on_dab_load none f x ≡ none
not_dab_load none f (DabLoad ialu b t x i) h = absurd (h ialu b t x i refl)
not_dab_load none f x h = refl

pub not_modifier : {A : Type 0} (none : A) (f : ℕ → ℕ → ℕ → A) (x : Slot) → NotArith x → NotAccess x
    → NotDabLoad x → on_modifier none f x ≡ none
not_modifier none f (Arith ialu op t x s i) h g d = absurd (h ialu op t x s i refl)
not_modifier none f (Access ialu op w file n x s i) h g d = absurd (g ialu op w file n x s i refl)
not_modifier none f (DabLoad ialu b t x i) h g d = absurd (d ialu b t x i refl)
not_modifier none f x h g d = refl
