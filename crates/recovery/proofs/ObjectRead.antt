-- A word of an object is in the slot that the state names.
use Rattle.std.proofs.Common.{◌≡◌, ℕ, ◌+◌, ◌<◌, ◌≤◌, List, [], length, slice_index, ap, sym, ◌∙◌}
use Rattle.kernel_model.specs.Effects.{object_words}
use Rattle.set_model.specs.Sets.{ObjPart, object_at}
use Rattle.set_model.specs.Limits.{IsObject, IsTaskSet}
use Rattle.set_model.proofs.AtFacts.{all_at}
use Rattle.device_model.specs.Words.{Words}
use Rattle.device_model.specs.Layouts.{slot_place}
use Rattle.device_model.specs.IndexWords.{Index}
use Rattle.device_model.specs.Decoding.{Held, Stored, Blank, Damaged, Holds}
use Rattle.device_model.specs.Devices.{Device, HoldsOn, KeepsOn, layout_on, need_on}
use Rattle.device_model.proofs.ForCallers.{decodes_keeps, laid_out_set, slot_place-high}
use Rattle.shadow_index.specs.declared.state.State.{State}
use Rattle.recovery.specs.Images.{IsStateOn}

abbrev held_or : Held → Stored → Held
held_or h Blank = h
held_or h (Damaged place) = h
held_or h (Holds kind k) = k

-- words are those of one state
pub held_once : (d : Device) (g h : Held) (words : Words) → HoldsOn d g words → HoldsOn d h words → g ≡ h
held_once d g h words a b = ap (held_or g) (sym a ∙ b)

keeps : (d : Device) (h : Held) (words : Words) → IsTaskSet d.set → HoldsOn d h words → KeepsOn d h words
keeps d h words t e = decodes_keeps d.set.format d.kind d.set h words (λ kind. laid_out_set kind d.set t) e

slots_are : (d : Device) (h : Held) (s : State) → IsStateOn d h s → s.slots.items ≡ h.index.slots
slots_are d h s e = ap (λ (x : Index). x.slots) e.index

pub few_slots : (d : Device) (o : ℕ) → IsTaskSet d.set → o < length d.set.objects → (object_at d.set o).slots ≤ 8
few_slots d o t l =
    let none : ObjPart = record { name = []; size = 0; slots = 0; first = [] } in
    (all_at IsObject d.set.objects none o t.each_object l).slots.1

pub word_low : (d : Device) (s : State) (o i : ℕ) → o < length d.set.objects → slice_index s.slots.items o < (object_at d.set o).slots → i < (object_at d.set o).size
    → slot_place (layout_on d) d.set o (slice_index s.slots.items o) + i < need_on d
word_low d s o i l slot m = slot_place-high (layout_on d) d.set o (slice_index s.slots.items o) i l slot m

pub word_kept : (d : Device) (h : Held) (words : Words) (s : State) (o i : ℕ) → IsTaskSet d.set → o < length d.set.objects → i < (object_at d.set o).size → HoldsOn d h words → IsStateOn d h s
    → words (slot_place (layout_on d) d.set o (slice_index s.slots.items o) + i) ≡ slice_index (object_words h.objects o) i
word_kept d h words s o i t l m e f =
    ap (λ (slots : List ℕ). words (slot_place (layout_on d) d.set o (slice_index slots o) + i)) (slots_are d h s f)
    ∙ (keeps d h words t e).objects o i l m
