-- The word of each trap is that of its cause.
use Rattle.std.proofs.Common.{◌≡◌, ℕ, zero, suc, refl, arith}
use Rattle.nv_base.specs.Causes.{cause_number, cause_word}
use Rattle.nv_base.specs.declared.causes.TrapCause.{TrapCause}
use Rattle.nv_base.specs.declared.causes.TrapCause.TheVariants.{Illegal, Jump, Fetch, LoadAlign, Load, StoreAlign, Store, Break, Call, Object, CallAlign, CallRange, Program, Spawns, Fuel}
use Rattle.kernel_model.specs.Effects.{Trap}
use Rattle.kernel_model.specs.Fit.{IsOutcome}
use Rattle.report_text.specs.Causes.{numbered_cause_word}

pub word_of_cause : (cause : TrapCause) → numbered_cause_word (cause_number cause) ≡ cause_word cause
word_of_cause Illegal = refl
word_of_cause Jump = refl
word_of_cause Fetch = refl
word_of_cause LoadAlign = refl
word_of_cause Load = refl
word_of_cause StoreAlign = refl
word_of_cause Store = refl
word_of_cause Break = refl
word_of_cause Call = refl
word_of_cause Object = refl
word_of_cause CallAlign = refl
word_of_cause CallRange = refl
word_of_cause Program = refl
word_of_cause Spawns = refl
word_of_cause Fuel = refl

pub cause_named : (n : ℕ) → IsOutcome (Trap n) → (cause : TrapCause) × (cause_number cause ≡ n) × (numbered_cause_word n ≡ cause_word cause)
cause_named zero h = absurd (omega arith)
cause_named (suc zero) h = (Illegal, refl, refl)
cause_named (suc (suc zero)) h = (Jump, refl, refl)
cause_named (suc (suc (suc zero))) h = (Fetch, refl, refl)
cause_named (suc (suc (suc (suc zero)))) h = (LoadAlign, refl, refl)
cause_named (suc (suc (suc (suc (suc zero))))) h = (Load, refl, refl)
cause_named (suc (suc (suc (suc (suc (suc zero)))))) h = (StoreAlign, refl, refl)
cause_named (suc (suc (suc (suc (suc (suc (suc zero))))))) h = (Store, refl, refl)
cause_named (suc (suc (suc (suc (suc (suc (suc (suc zero)))))))) h = (Break, refl, refl)
cause_named (suc (suc (suc (suc (suc (suc (suc (suc (suc zero))))))))) h = (Call, refl, refl)
cause_named (suc (suc (suc (suc (suc (suc (suc (suc (suc (suc zero)))))))))) h = (Object, refl, refl)
cause_named (suc (suc (suc (suc (suc (suc (suc (suc (suc (suc (suc zero))))))))))) h = (CallAlign, refl, refl)
cause_named (suc (suc (suc (suc (suc (suc (suc (suc (suc (suc (suc (suc zero)))))))))))) h = (CallRange, refl, refl)
cause_named (suc (suc (suc (suc (suc (suc (suc (suc (suc (suc (suc (suc (suc zero))))))))))))) h = (Program, refl, refl)
cause_named (suc (suc (suc (suc (suc (suc (suc (suc (suc (suc (suc (suc (suc (suc zero)))))))))))))) h = (Spawns, refl, refl)
cause_named (suc (suc (suc (suc (suc (suc (suc (suc (suc (suc (suc (suc (suc (suc (suc zero))))))))))))))) h = (Fuel, refl, refl)
cause_named (suc (suc (suc (suc (suc (suc (suc (suc (suc (suc (suc (suc (suc (suc (suc (suc n)))))))))))))))) h = absurd (omega arith)
