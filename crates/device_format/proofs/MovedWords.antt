-- The words that a migration puts, by what stands on the device.
use Rattle.std.proofs.Common.{◌+◌, ◌<◌, length, slice_index, arith, ap, sym, ◌∙◌, subst}
use Rattle.std.proofs.lemmas.List.{length-map}
use Rattle.kernel_model.specs.Effects.{object_words}
use Rattle.set_model.specs.Sets.{TaskSet, object_at}
use Rattle.set_model.specs.Limits.{IsTaskSet}
use Rattle.set_model.specs.Views.{task_of}
use Rattle.device_model.specs.Words.{Words}
use Rattle.device_model.specs.Layouts.{Migrated, Plain, layout_of, slot_place}
use Rattle.device_model.specs.IndexWords.{Index}
use Rattle.device_model.specs.Decoding.{Held}
use Rattle.device_model.specs.Keeping.{Keeps}
use Rattle.device_model.specs.Migrations.{moved_index, moved_word}
use Rattle.device_model.proofs.ForCallers.{kept, laid_out_set, two_slots}
use Rattle.shadow_index.specs.declared.state.State.{State}
use Rattle.shadow_index.specs.States.{index_of}
use Rattle.device_format.specs.Fresh.{HasObjects, HasPages}
use Rattle.device_format.specs.Moves.{IsInSlots, IsMovable, old_words}
use Rattle.device_format.specs.Shown.{IsStateOf}
use Rattle.device_format.proofs.FreshPlaces.{fresh_objects, fresh_pages, object_again}

pub movable_keeps : (set : TaskSet) (s : State) (words : Words) (h : Held) → IsTaskSet set → IsMovable set s words h → Keeps Plain set h words
movable_keeps set s words h t m = kept set.format Plain set h words t m.holds

pub movable_state : (set : TaskSet) (s : State) (words : Words) (h : Held) → IsTaskSet set → IsMovable set s words h → IsStateOf set s
movable_state set s words h t m =
    let k = (movable_keeps set s words h t m).held.index in record {
      slots = ap (λ (x : Index). length x.slots) m.index ∙ k.slots;
      tasks = omega (arith, k.records, ap (λ (x : Index). length x.tasks) m.index, length-map s.tasks.items task_of);
    }

pub movable_slots : (set : TaskSet) (s : State) (words : Words) (h : Held) → IsTaskSet set → IsMovable set s words h → IsInSlots set s
movable_slots set s words h t m o a = subst (λ (x : Index). slice_index x.slots o < (object_at set o).slots) (sym m.index) ((movable_keeps set s words h t m).held.index.named o a)

pub moved_pages : (set : TaskSet) (s : State) (words : Words) (h : Held) → IsTaskSet set → IsMovable set s words h → HasPages (layout_of Migrated set) (moved_index set (index_of s)) (moved_word set h)
moved_pages set s words h t m = subst (λ (x : Index). HasPages (layout_of Migrated set) (moved_index set x) (moved_word set h)) (sym m.index) (fresh_pages (layout_of Migrated set) set (moved_index set h.index) h.objects (laid_out_set Migrated set t))

pub moved_objects : (set : TaskSet) (s : State) (words : Words) (h : Held) → IsTaskSet set → IsMovable set s words h → HasObjects (layout_of Migrated set) set (old_words set s words) (moved_word set h)
moved_objects set s words h t m o a =
    let k = movable_keeps set s words h t m in
    object_again (layout_of Migrated set) set o (slice_index (object_words h.objects o)) (old_words set s words o) (moved_word set h)
    (λ i b. sym (ap (λ (x : Index). words (slot_place (layout_of Plain set) set o (slice_index x.slots o) + i)) m.index ∙ k.objects o i a b))
    (fresh_objects (layout_of Migrated set) set (moved_index set h.index) h.objects (laid_out_set Migrated set t) (λ o a. two_slots set o t a) k.held.words o a)
