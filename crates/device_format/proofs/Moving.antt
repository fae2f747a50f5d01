-- What a migration reads stays as it is while the words behind it are put.
use Rattle.std.proofs.Common.{◌≡◌, ℕ, ◌+◌, ◌<◌, ◌≤◌, List, length, slice_index, arith, sym}
use Rattle.fram_dev.specs.Device.{made_in}
use Rattle.set_model.specs.Sets.{TaskSet}
use Rattle.device_model.specs.Words.{Change, Words}
use Rattle.device_model.specs.Layouts.{Layout, Plain, layout_of, need, slot_place}
use Rattle.device_model.proofs.ForCallers.{slot_place-high}
use Rattle.shadow_index.specs.declared.state.State.{State}
use Rattle.device_format.specs.Fresh.{HasObject, HasObjects}
use Rattle.device_format.specs.Moves.{IsInSlots, old_words}
use Rattle.device_format.specs.Puts.{HasPut}
use Rattle.device_format.proofs.FreshPlaces.{object_again}
use Rattle.device_format.proofs.Putting.{old_stays}

pub object_later : (w v : Words) (l : Layout) (set : TaskSet) (s : State) (o p n : ℕ) (a b : List Change) (start new : List ℕ) → o < length set.objects → IsInSlots set s → need (layout_of Plain set) set ≤ p → HasPut w p n a b → new ≡ start
    → HasObject l set o (old_words set s (slice_index (made_in a start)) o) v → HasObject l set o (old_words set s (slice_index (made_in b new)) o) v
object_later w v l set s o p n a b start new within slots behind put same = object_again l set o _ _ v (λ i c.
    let place : ℕ = slot_place (layout_of Plain set) set o (slice_index s.slots.items o) + i in
    sym (old_stays w p n a b start new place put same (omega (arith, slot_place-high (layout_of Plain set) set o (slice_index s.slots.items o) i within (slots o within) c, behind))))

pub objects_later : (w v : Words) (l : Layout) (set : TaskSet) (s : State) (p n : ℕ) (a b : List Change) (start new : List ℕ) → IsInSlots set s → need (layout_of Plain set) set ≤ p → HasPut w p n a b → new ≡ start
    → HasObjects l set (old_words set s (slice_index (made_in a start))) v → HasObjects l set (old_words set s (slice_index (made_in b new))) v
objects_later w v l set s p n a b start new slots behind put same h o within = object_later w v l set s o p n a b start new within slots behind put same (h o within)
