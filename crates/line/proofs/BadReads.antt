-- A line with a slot whose condition is above 12, or whose modifier does not fit: rule 3 over the whole line comes before 15, 15 before
-- 16, and 16 before the others.
use mathlib.Core.Path.{◌≡◌, refl, ap, ◌∙◌}
use mathlib.Core.Bool.{Bool, true, false, ◌||◌, false≢true}
use mathlib.Core.List.{List, [], ◌∷◌}
use Prim.Native.Nat.{ℕ, zero, suc, ◌+◌, ◌≤◌}
use native.Mathlib.Omega.{arith}
use lib.ListN.{length, take}
use Rattle.std.specs.Prelude.{Option, Some, None, is_some, Result, Ok, Err}
use Rattle.bits.specs.Pick.{pick}
use Rattle.slots.specs.Lists.{first}
use Rattle.slots.specs.declared.conditional_slot.Conditional.{Conditional}
use Rattle.slots.specs.declared.slot.SlotRefusal.{SlotRefusal}
use Rattle.slots.specs.declared.slot.SlotRefusal.TheVariants.{BadFields, BadCondition, BadModifier}
use Rattle.line.specs.Rules.{rule3, rule15, verdict, unit_of}
use Rattle.line.specs.Pass.{usage_of, note, note_all, see, refuse_at, chosen, refused_read, pass}
use Rattle.line.specs.declared.rules.Seen.{Seen}
use Rattle.line.proofs.Noted.{not_noted}
use Rattle.line.specs.Verdicts.{Verdict}

-- a slot is noted for 15 or for 16
abbrev pub Noted15or16 : Option ℕ → Option ℕ → Type 0
Noted15or16 c m = (is_some c || is_some m) ≡ true

-- the code's choice among what is noted
last_chosen : (c m : Option ℕ) (other : Verdict) → Noted15or16 c m
    → refuse_at 15 c (refuse_at 16 m other) ≡ refuse_at 15 c (refuse_at 16 m (verdict 0 0))
last_chosen (Some i) m other n = refl
last_chosen None (Some i) other n = refl
last_chosen None None other n = absurd (false≢true n)

-- where a slot is noted, the pass is left to rules 3, 15 and 16
pub read_noted : (seen : Seen) (c m : Option ℕ) (rs : List (Result Conditional SlotRefusal)) {s : ℕ} → seen.noted.condition ≡ c → seen.noted.modifier ≡ m
    → Noted15or16 c m → seen.slots ≡ s → pass seen rs ≡ refused_read c m s rs
unfolding pass see note_all chosen
read_noted seen c m [] p q n e = rw (p, q) (last_chosen c m _ n)
read_noted seen c m (Ok x ∷ rs) p q n e =
    read_noted (see seen (usage_of (unit_of x.slot) x.slot) false false) c m rs (not_noted seen.noted.condition seen.slots ∙ p)
    (not_noted seen.noted.modifier seen.slots ∙ q) n (ap (λ (i : ℕ). i + 1) e)
read_noted seen c m (Err BadFields ∷ rs) p q n e = ap (verdict 3) e
read_noted seen c m (Err BadCondition ∷ rs) p q n e = rw (p, q, e)
read_noted seen c m (Err BadModifier ∷ rs) p q n e = rw (p, q, e)

-- where one is noted for 15, none that is noted for 16 matters
pub condition_first : (c m k : Option ℕ) (s : ℕ) (rs : List (Result Conditional SlotRefusal)) → is_some c ≡ true
    → refused_read c m s rs ≡ refused_read c k s rs
condition_first None m k s rs n = absurd (false≢true n)
condition_first (Some i) m k s [] n = refl
condition_first (Some i) m k s (Ok x ∷ rs) n = condition_first (Some i) m k (s + 1) rs n
condition_first (Some i) m k s (Err BadFields ∷ rs) n = refl
condition_first (Some i) m k s (Err BadCondition ∷ rs) n = condition_first (Some i) m k (s + 1) rs n
condition_first (Some i) m k s (Err BadModifier ∷ rs) n = condition_first (Some i) (note m s true) (note k s true) (s + 1) rs n

-- the first slot that breaks a rule, of at most n
abbrev first_of : (List (Result Conditional SlotRefusal) → Bool) → ℕ → List (Result Conditional SlotRefusal) → ℕ
first_of rule n rs = first (λ k. rule (take (suc k) rs)) n

pub condition_verdict : (c : ℕ) (m : Option ℕ) (s n : ℕ) (rs : List (Result Conditional SlotRefusal)) {at : ℕ} → length rs ≤ n → s + first_of rule3 n rs ≡ at
    → refused_read (Some c) m s rs ≡ pick (rule3 rs) (verdict 3 at) (verdict 15 c)
condition_verdict c m s n [] h e = refl
condition_verdict c m s zero (r ∷ rs) h e = absurd (omega arith)
condition_verdict c m s (suc n) (Ok x ∷ rs) h e = condition_verdict c m (s + 1) n rs (omega arith) (omega arith)
condition_verdict c m s (suc n) (Err BadFields ∷ rs) h e = ap (verdict 3) (omega arith)
condition_verdict c m s (suc n) (Err BadCondition ∷ rs) h e = condition_verdict c m (s + 1) n rs (omega arith) (omega arith)
condition_verdict c m s (suc n) (Err BadModifier ∷ rs) h e = condition_verdict c (note m s true) (s + 1) n rs (omega arith) (omega arith)

pub modifier_verdict : (m s n : ℕ) (rs : List (Result Conditional SlotRefusal)) {at at' : ℕ} → length rs ≤ n
    → s + first_of rule3 n rs ≡ at → s + first_of rule15 n rs ≡ at'
    → refused_read None (Some m) s rs ≡ pick (rule3 rs) (verdict 3 at) (pick (rule15 rs) (verdict 15 at') (verdict 16 m))
modifier_verdict m s n [] h e g = refl
modifier_verdict m s zero (r ∷ rs) h e g = absurd (omega arith)
modifier_verdict m s (suc n) (Ok x ∷ rs) h e g = modifier_verdict m (s + 1) n rs (omega arith) (omega arith) (omega arith)
modifier_verdict m s (suc n) (Err BadFields ∷ rs) h e g = ap (verdict 3) (omega arith)
modifier_verdict m s (suc n) (Err BadCondition ∷ rs) {at} {at'} h e g =
    condition_verdict s (Some m) (s + 1) n rs (omega arith) (omega arith)
    ∙ ap (λ (i : ℕ). pick (rule3 rs) (verdict 3 at) (verdict 15 i)) (omega arith)
modifier_verdict m s (suc n) (Err BadModifier ∷ rs) h e g = modifier_verdict m (s + 1) n rs (omega arith) (omega arith) (omega arith)
