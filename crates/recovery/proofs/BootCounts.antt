-- A boot counts by one write more.
use Rattle.std.proofs.Common.{◌≡◌, ℕ, ◌+◌, ◌<◌, List, ◌++◌, length, slice_index, arith, ap, ◌∙◌}
use Rattle.fram_dev.specs.Device.{Change, made_in}
use Rattle.fram_dev.proofs.MadeIn.{length-made_in, made_in-append}
use Rattle.set_model.specs.Limits.{IsTaskSet}
use Rattle.device_model.specs.Words.{made}
use Rattle.device_model.specs.Decoding.{Held, decode}
use Rattle.device_model.specs.Journals.{boot_writes, booted}
use Rattle.device_model.specs.Devices.{Device, HoldsOn, IsKindOn}
use Rattle.device_model.proofs.ForCallers.{boot_decodes, image_by_place}
use Rattle.shadow_index.specs.declared.state.State.{State}
use Rattle.recovery.specs.Images.{IsStateOn, words_of}

-- the words after some writes more
pub words_more : (log more new : List Change) (start same : List ℕ) → new ≡ log ++ more → same ≡ start → words_of new same ≡ slice_index (made_in more (made_in log start))
words_more log more new start same e f = rw (e, f) (ap slice_index (made_in-append log more start))

pub counted : (d : Device) (h : Held) (log new : List Change) (start same : List ℕ) → IsTaskSet d.set → IsKindOn d → 2 < length start → HoldsOn d h (words_of log start) → new ≡ log ++ boot_writes h → same ≡ start → HoldsOn d (booted h) (words_of new same)
counted d h log new start same t k long holds e f =
    let low : 2 < length (made_in log start) = omega (arith, long, length-made_in log start) in
    let image : words_of new same ≡ made (boot_writes h) (words_of log start) = words_more log (boot_writes h) new start same e f ∙ image_by_place (boot_writes h) (made_in log start) (low, tt) in
    ap (decode d.set) image ∙ boot_decodes d.set.format d.kind d.set h (words_of log start) t k holds

-- what was read, and counted
pub state_counted : (d : Device) (h : Held) (into after : State) → IsStateOn d h into → after ≡ record into { boots = into.boots + 1 } → IsStateOn d (booted h) after
state_counted d h into after s e = rw e (record {
  index = s.index;
  boots = ap (λ (n : ℕ). n + 1) s.boots;
  root = s.root;
  shift = s.shift;
})
