-- What proofs above cite of this crate: answers one after another, a cause at its line, and lists that are put together.
use Rattle.std.proofs.Common.{◌≡◌, ℕ, List, ◌++◌, Result, Ok, Err, refl, sym, ap, append_assoc, ◌⊎◌, inl, inr}
use Rattle.nv_base.specs.declared.refusals.LineError.{LineError}
use Rattle.nv_base.specs.declared.refusals.Refusal.{Refusal}
use Rattle.nv_base.specs.declared.refusals.Refusal.TheVariants as refusal
use Rattle.nv_base.specs.Refusals.{Refuses, at, refusal_at}
use Rattle.nv_base.specs.Results.{◌>>=◌}
pub use Rattle.object_sets.proofs.ForCallers.{all_append, all_with}
pub use Rattle.nv_base.proofs.Puts.{appended_twice}

pub bind_ok : {E A B : Type 0} (r : Result A E) (f : A → Result B E) (y : B) → (r >>= f) ≡ Ok y → (x : A) × (r ≡ Ok x) × (f x ≡ Ok y)
bind_ok (Ok x) f y h = (x, refl, h)
bind_ok (Err e) f y h = absurd cc

pub bind_err : {E A B : Type 0} (r : Result A E) (f : A → Result B E) (e : E) → (r >>= f) ≡ Err e → (r ≡ Err e) ⊎ ((x : A) × (r ≡ Ok x) × (f x ≡ Err e))
bind_err (Ok x) f e h = inr (x, refl, h)
bind_err (Err y) f e h = let same : y ≡ e = cc in inl (ap (λ z. Err z) same)

pub at_ok : {A C : Type 0} (line : ℕ) (r : Result A C) (x : A) → at line r ≡ Ok x → r ≡ Ok x
at_ok line (Ok y) x h = let same : y ≡ x = cc in ap (λ z. Ok z) same
at_ok line (Err cause) x h = absurd cc

pub at_err : {A C : Type 0} (line : ℕ) (r : Result A C) (e : LineError C) → at line r ≡ Err e → e.line ≡ line
at_err line (Ok x) e h = absurd cc
at_err {C = C} line (Err cause) e h = let same : record { line = line; cause = cause } ≡ e = cc in ap (λ (e : LineError C). e.line) (sym same)

-- a refusal of what comes first is one of the whole
pub refuses_bind : {A B E : Type 0} (refusal : Refusal E) (r : Result A E) (f : A → Result B E) → Refuses refusal r → Refuses refusal (r >>= f)
refuses_bind refusal.NoMemory r f h = tt
refuses_bind (refusal.At cause) r f h = rw h refl

pub refuses_at : {A C : Type 0} (line : ℕ) (refusal : Refusal C) (r : Result A C) → Refuses refusal r → Refuses (refusal_at line refusal) (at line r)
refuses_at line refusal.NoMemory r h = tt
refuses_at line (refusal.At cause) r h = rw h refl

-- four parts, grouped the other way
pub four_parts : (a b c d : List ℕ) → ((a ++ b) ++ c) ++ d ≡ a ++ (b ++ (c ++ d))
four_parts a b c d = simp append_assoc
