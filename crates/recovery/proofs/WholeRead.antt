-- All words are read.
use Rattle.std.proofs.Common.{◌≡◌, ℕ, ◌+◌, ◌-◌, ◌<◌, ◌≤◌, List, [], ◌∷◌, ◌++◌, length, Result, Ok, Err, arith, ap, sym, ◌∙◌, subst}
use Rattle.std.specs.Result.{OnOk}
use Rattle.set_model.specs.Sets.{TaskSet}
use Rattle.device_model.specs.Words.{Change, Words}
use Rattle.device_model.specs.Layouts.{kind_named, reads}
use Rattle.device_model.specs.Decoding.{index_in}
use Rattle.device_model.specs.Journals.{boot_writes}
use Rattle.device_model.specs.Devices.{Device, HoldsOn, IsKindOn, held_on, layout_on, need_on}
use Rattle.device_model.proofs.ForCallers.{decodes_held}
use Rattle.shadow_index.specs.declared.state.State.{State}
use Rattle.shadow_index.proofs.Taken.{taken_are_index}
use Rattle.recovery.specs.declared.reader.Reader.{Reader}
use Rattle.shadow_index.specs.Tells.{IsShift, device_of}
use Rattle.recovery.specs.Images.{IsOwn, IsStateOn, device_at, words_of}
use Rattle.recovery.specs.Reading.{HasRead, IsRead}
use Rattle.recovery.specs.Booting.{IsBooted}
use Rattle.recovery.proofs.BootCounts.{counted, state_counted}
use Rattle.recovery.proofs.KindLaws.{named_magic, need_some}
use Rattle.recovery.proofs.ShiftLaws.{shift_tells}
use Rattle.recovery.proofs.MoreRead.{laid}

pub held : (d : Device) (words : Words) (r : Reader) (into : State) → HasRead d words r into → r.count ≡ reads (layout_on d) → HoldsOn d (held_on d words) words
held d words r into h e = decodes_held d.set.format d.kind d.set words h.written h.named (λ j a. h.faultless j (omega arith))

pub state_read : (d : Device) (words : Words) (r : Reader) (into : State) → HasRead d words r into → r.count ≡ reads (layout_on d) → IsStateOn d (held_on d words) into
state_read d words r into h e =
    let k = laid d h.limits in let i = k.root_in in let c = k.head_read in let f = k.fits in record {
      index = taken_are_index d.set into (index_in (layout_on d) words) (r.count - (layout_on d).head_reads) (omega (arith, e, f)) h.taken h.index;
      boots = h.boots (omega (arith, e, c));
      root = h.root (omega (arith, e, i));
      shift = h.shift;
    }

-- what was read, and of which device it is
pub whole_read : (set : TaskSet) (words : Words) (r : Reader) (into : State) → IsOwn set words → HasRead (device_at set words) words r into → r.count ≡ reads (layout_on (device_at set words)) → IsRead set words into
whole_read set words r into own h e =
    let d = device_at set words in
    let shift = shift_tells set words d.kind h.limits own h.named in record {
      held = held d words r into h e;
      state = state_read d words r into h e;
      moved = subst (IsShift set) (sym h.shift) shift.0;
      device = ap (device_of set) h.shift ∙ shift.1;
    }

-- the same, where it was read by words that are these
pub whole_on_ok : {T E : Type 0} (set : TaskSet) (words now : Words) (result : Result T E) (r : Reader) (into : State) → IsOwn set words → now ≡ words → OnOk result (HasRead (device_at set now) now r into) → OnOk result (r.count ≡ reads (layout_on (device_at set now))) → OnOk result (IsRead set words into)
whole_on_ok set words now (Ok x) r into own e h n =
    whole_read set words r into own (subst (λ (w : Words). HasRead (device_at set w) w r into) e h) (n ∙ ap (λ (w : Words). reads (layout_on (device_at set w))) e)
whole_on_ok set words now (Err x) r into own e h n = tt

-- devices of this kind are looked for
pub kind_read : (d : Device) (words : Words) (r : Reader) (into : State) → HasRead d words r into → IsKindOn d
kind_read d words r into h = ap (kind_named d.set.format) (sym (named_magic d.set.format (words 0) d.kind h.named)) ∙ h.named

-- the one write of a boot
pub write_is : (d : Device) (words : Words) (r : Reader) (into : State) (log new : List Change) → HasRead d words r into → r.count ≡ reads (layout_on d) → new ≡ log ++ (2, into.boots + 1) ∷ [] → new ≡ log ++ boot_writes (held_on d words)
write_is d words r into log new h e w = w ∙ ap (λ (n : ℕ). let c : Change = (2, n + 1) in log ++ c ∷ []) (state_read d words r into h e).boots

pub boot_counted : (set : TaskSet) (r : Reader) (into after : State) (log new : List Change) (start same : List ℕ) → (let words = words_of log start in let d = device_at set words in
    IsOwn set words → HasRead d words r into → r.count ≡ reads (layout_on d) → need_on d ≤ length start → new ≡ log ++ (2, into.boots + 1) ∷ [] → same ≡ start → after ≡ record into { boots = into.boots + 1 }
    → IsBooted set words (words_of new same) after)
boot_counted set r into after log new start same own h e room w f a =
    let words = words_of log start in
    let d = device_at set words in
    let read = whole_read set words r into own h e in
    let long : 2 < length start = omega (arith, need_some d.kind d.set, room) in record {
      held = read.held;
      counted = counted d (held_on d words) log new start same h.limits (kind_read d words r into h) long read.held (write_is d words r into log new h e w) f;
      state = state_counted d (held_on d words) into after read.state a;
      moved = rw a read.moved;
      device = rw a read.device;
    }
