use Rattle.std.proofs.Common.{◌≡◌, ℕ, ◌+◌, ◌-◌, ◌*◌, ◌<◌, ◌≤◌, List, length, slice_index, sum_by, arith, refl, sym, ◌∙◌, subst}
use Rattle.std.proofs.lemmas.Result.{on_err_weaker, on_ok_weaker}
use Rattle.std.specs.Result.{OnErr, OnOk}
use Rattle.fram_dev.specs.Device.{made_in}
use Rattle.set_model.specs.Sets.{TaskSet}
use Rattle.set_model.specs.Numbers.{words_needed}
use Rattle.device_model.specs.Words.{Change, Words}
use Rattle.device_model.specs.Layouts.{Layout, Migrated, index_reads, layout_of, slots_at, slots_words}
use Rattle.device_model.specs.IndexWords.{Index}
use Rattle.device_model.specs.Migrations.{moved_index, moved_word}
use Rattle.device_model.specs.Devices.{Device, layout_on, migrated, need_on, plain}
use Rattle.device_model.proofs.ForCallers.{fresh-root}
use Rattle.shadow_index.specs.declared.state.State.{State}
use Rattle.shadow_index.specs.States.{index_of}
use Rattle.device_format.specs.Fresh.{HasObjects, HasPages}
use Rattle.device_format.specs.Moves.{old_words}
use Rattle.device_format.specs.Puts.{HasPut, HasPutFront}
use Rattle.device_format.specs.Shown.{device_in}
use Rattle.device_format.proofs.FormatLogs.{same_device, table_of}
use Rattle.device_format.proofs.MovedWords.{movable_slots, movable_state, moved_objects, moved_pages}
use Rattle.device_format.proofs.Moving.{objects_later}
use Rattle.device_format.proofs.Putting.{at_err, front_one, front_then, put_one, put_then}
use Rattle.device_format.proofs.migration.put_moved.Goals as goal

pub write-requires : goal.write-requires
write-requires g c =
    let set : TaskSet = c.args.set.now in
    let s : State = c.args.state.now in
    let t = c.requires.set in
    let d : Device = migrated set in
    let l : Layout = layout_of Migrated set in
    let same : device_in set c.args.places.now ≡ d = same_device d c.args.places.now c.requires.table in
    let held = c.requires.holds in
    omega (arith, c.root_at.ensures d c.requires.table, c.requires.room)

pub put_pages-requires-clause-table : goal.put_pages-requires-clause-table
put_pages-requires-clause-table g c =
    let set : TaskSet = c.args.set.now in
    let s : State = c.args.state.now in
    let t = c.requires.set in
    let d : Device = migrated set in
    let l : Layout = layout_of Migrated set in
    let same : device_in set c.args.places.now ≡ d = same_device d c.args.places.now c.requires.table in
    let held = c.requires.holds in
    table_of d c.args.places.now c.requires.table

pub put_pages-requires-clause-room : goal.put_pages-requires-clause-room
put_pages-requires-clause-room g c =
    let set : TaskSet = c.args.set.now in
    let s : State = c.args.state.now in
    let t = c.requires.set in
    let d : Device = migrated set in
    let l : Layout = layout_of Migrated set in
    let same : device_in set c.args.places.now ≡ d = same_device d c.args.places.now c.requires.table in
    let held = c.requires.holds in
    rw c.write.ensures.same (subst (λ (e : Device). need_on e ≤ length (g.F.Fram.start c.args.dev.now)) (sym same) c.requires.room)

pub put_pages-requires-clause-small : goal.put_pages-requires-clause-small
put_pages-requires-clause-small g c =
    let set : TaskSet = c.args.set.now in
    let s : State = c.args.state.now in
    let t = c.requires.set in
    let d : Device = migrated set in
    let l : Layout = layout_of Migrated set in
    let same : device_in set c.args.places.now ≡ d = same_device d c.args.places.now c.requires.table in
    let held = c.requires.holds in
    subst (λ (e : Device). need_on e < 4294967296) (sym same) c.requires.small

pub put_moved_objects-requires-clause-table : goal.put_moved_objects-requires-clause-table
put_moved_objects-requires-clause-table g c =
    let set : TaskSet = c.args.set.now in
    let s : State = c.args.state.now in
    let t = c.requires.set in
    let d : Device = migrated set in
    let l : Layout = layout_of Migrated set in
    let same : device_in set c.args.places.now ≡ d = same_device d c.args.places.now c.requires.table in
    let held = c.requires.holds in
    table_of d c.args.places.now c.requires.table

pub put_moved_objects-requires-clause-room : goal.put_moved_objects-requires-clause-room
put_moved_objects-requires-clause-room g c =
    let set : TaskSet = c.args.set.now in
    let s : State = c.args.state.now in
    let t = c.requires.set in
    let d : Device = migrated set in
    let l : Layout = layout_of Migrated set in
    let same : device_in set c.args.places.now ≡ d = same_device d c.args.places.now c.requires.table in
    let held = c.requires.holds in
    rw (c.put_pages.ensures.same ∙ c.write.ensures.same) (subst (λ (e : Device). need_on e ≤ length (g.F.Fram.start c.args.dev.now)) (sym same) c.requires.room)

pub put_moved_objects-requires-clause-small : goal.put_moved_objects-requires-clause-small
put_moved_objects-requires-clause-small g c =
    let set : TaskSet = c.args.set.now in
    let s : State = c.args.state.now in
    let t = c.requires.set in
    let d : Device = migrated set in
    let l : Layout = layout_of Migrated set in
    let same : device_in set c.args.places.now ≡ d = same_device d c.args.places.now c.requires.table in
    let held = c.requires.holds in
    subst (λ (e : Device). need_on e < 4294967296) (sym same) c.requires.small

pub put_pages-requires-clause-fits : goal.put_pages-requires-clause-fits
put_pages-requires-clause-fits g c =
    let set : TaskSet = c.args.set.now in
    let s : State = c.args.state.now in
    let t = c.requires.set in
    let d : Device = migrated set in
    let l : Layout = layout_of Migrated set in
    let same : device_in set c.args.places.now ≡ d = same_device d c.args.places.now c.requires.table in
    let held = c.requires.holds in
    movable_state set s _ held.0 t held.1

pub put_moved_objects-requires-clause-behind : goal.put_moved_objects-requires-clause-behind
put_moved_objects-requires-clause-behind g c =
    let set : TaskSet = c.args.set.now in
    let s : State = c.args.state.now in
    let t = c.requires.set in
    let d : Device = migrated set in
    let l : Layout = layout_of Migrated set in
    let same : device_in set c.args.places.now ≡ d = same_device d c.args.places.now c.requires.table in
    let held = c.requires.holds in
    subst (λ (e : Device). need_on (plain set) ≤ slots_at (layout_on e)) (sym same) (omega arith)

pub put_moved_objects-requires-clause-state : goal.put_moved_objects-requires-clause-state
put_moved_objects-requires-clause-state g c =
    let set : TaskSet = c.args.set.now in
    let s : State = c.args.state.now in
    let t = c.requires.set in
    let d : Device = migrated set in
    let l : Layout = layout_of Migrated set in
    let same : device_in set c.args.places.now ≡ d = same_device d c.args.places.now c.requires.table in
    let held = c.requires.holds in
    movable_state set s _ held.0 t held.1

pub put_moved_objects-requires-clause-slots : goal.put_moved_objects-requires-clause-slots
put_moved_objects-requires-clause-slots g c =
    let set : TaskSet = c.args.set.now in
    let s : State = c.args.state.now in
    let t = c.requires.set in
    let d : Device = migrated set in
    let l : Layout = layout_of Migrated set in
    let same : device_in set c.args.places.now ≡ d = same_device d c.args.places.now c.requires.table in
    let held = c.requires.holds in
    movable_slots set s _ held.0 t held.1

pub returns-in_err-write-clause-front : goal.returns-in_err-write-clause-front
returns-in_err-write-clause-front g c =
    let set : TaskSet = c.args.set.now in
    let s : State = c.args.state.now in
    let t = c.requires.set in
    let d : Device = migrated set in
    let l : Layout = layout_of Migrated set in
    let same : device_in set c.args.places.now ≡ d = same_device d c.args.places.now c.requires.table in
    let x : Index = moved_index set (index_of s) in
    let p : ℕ = words_needed set in
    let count : ℕ = need_on d - p in
    let all : ℕ = sum_by slots_words set.objects in
    let place : c.root_at.result ≡ p = c.root_at.ensures d c.requires.table in
    let value : c.first_root.result ≡ l.first_root = c.first_root.ensures d c.requires.table in
    let log0 : List Change = g.F.Fram.log c.args.dev.now in
    let log1 : List Change = g.F.Fram.log c.write.new.self in
    λ h m. at_err c.from_residual.result (front_one (moved_word set h) p c.root_at.result c.first_root.result count _ _ c.in_err-write.ensures.either place (value ∙ sym (fresh-root l set (moved_index set h.index) h.objects)) (omega arith))

pub returns-in_err-put_pages-clause-front : goal.returns-in_err-put_pages-clause-front
returns-in_err-put_pages-clause-front g c =
    let set : TaskSet = c.args.set.now in
    let s : State = c.args.state.now in
    let t = c.requires.set in
    let d : Device = migrated set in
    let l : Layout = layout_of Migrated set in
    let same : device_in set c.args.places.now ≡ d = same_device d c.args.places.now c.requires.table in
    let x : Index = moved_index set (index_of s) in
    let p : ℕ = words_needed set in
    let count : ℕ = need_on d - p in
    let all : ℕ = sum_by slots_words set.objects in
    let place : c.root_at.result ≡ p = c.root_at.ensures d c.requires.table in
    let value : c.first_root.result ≡ l.first_root = c.first_root.ensures d c.requires.table in
    let log0 : List Change = g.F.Fram.log c.args.dev.now in
    let log1 : List Change = g.F.Fram.log c.write.new.self in
    let log2 : List Change = g.F.Fram.log c.put_pages.new.dev in
    let pages = subst (λ (e : Device). (w : Words) → HasPages (layout_on e) x w → HasPutFront w (layout_on e).pages_at (2 * index_reads (layout_on e)) log1 log2) same c.in_err-put_pages.ensures.front in
    λ h m. at_err c.from_residual-in_err-put_pages.result (front_then (moved_word set h) p 1 l.pages_at (2 * index_reads l) count log0 log1 log2
    (put_one (moved_word set h) p c.root_at.result c.first_root.result log0 log1 c.in_ok-write.ensures.written place (value ∙ sym (fresh-root l set (moved_index set h.index) h.objects))) (pages (moved_word set h) (moved_pages set s _ h t m)) (omega arith) (omega arith))

pub returns-clause-put : goal.returns-clause-put
returns-clause-put g c =
    let set : TaskSet = c.args.set.now in
    let s : State = c.args.state.now in
    let t = c.requires.set in
    let d : Device = migrated set in
    let l : Layout = layout_of Migrated set in
    let same : device_in set c.args.places.now ≡ d = same_device d c.args.places.now c.requires.table in
    let x : Index = moved_index set (index_of s) in
    let p : ℕ = words_needed set in
    let count : ℕ = need_on d - p in
    let all : ℕ = sum_by slots_words set.objects in
    let place : c.root_at.result ≡ p = c.root_at.ensures d c.requires.table in
    let value : c.first_root.result ≡ l.first_root = c.first_root.ensures d c.requires.table in
    let log0 : List Change = g.F.Fram.log c.args.dev.now in
    let log1 : List Change = g.F.Fram.log c.write.new.self in
    let log2 : List Change = g.F.Fram.log c.put_pages.new.dev in
    let pages = subst (λ (e : Device). (w : Words) → HasPages (layout_on e) x w → HasPut w (layout_on e).pages_at (2 * index_reads (layout_on e)) log1 log2) same c.in_ok-put_pages.ensures.put in
    let log3 : List Change = g.F.Fram.log c.put_moved_objects.new.dev in
    let image : Words = slice_index (made_in log2 (g.F.Fram.start c.put_pages.new.dev)) in
    let objects = subst (λ (e : Device). (w : Words) → HasObjects (layout_on e) set (old_words set s image) w → OnOk c.put_moved_objects.result (HasPut w (slots_at (layout_on e)) all log2 log3)) same c.put_moved_objects.ensures.put in
    λ h m.
    let w : Words = moved_word set h in
    let root : HasPut w p 1 log0 log1 = put_one w p c.root_at.result c.first_root.result log0 log1 c.in_ok-write.ensures.written place (value ∙ sym (fresh-root l set (moved_index set h.index) h.objects)) in
    let both : HasPut w l.pages_at (2 * index_reads l) log1 log2 = pages w (moved_pages set s _ h t m) in
    let slots = movable_slots set s _ h t m in
    let later = objects_later w w l set s l.pages_at (2 * index_reads l) log1 log2 _ _ slots (omega arith) both c.put_pages.ensures.same
    (objects_later w w l set s p 1 log0 log1 _ _ slots (omega arith) root c.write.ensures.same (moved_objects set s _ h t m)) in
    on_ok_weaker c.put_moved_objects.result
    (λ k. put_then w p (1 + 2 * index_reads l) (slots_at l) all count log0 log2 log3
    (put_then w p 1 l.pages_at (2 * index_reads l) (1 + 2 * index_reads l) log0 log1 log2 root both (omega arith) refl)
    k (omega arith) (omega arith))
    (objects w later)

pub returns-clause-front : goal.returns-clause-front
returns-clause-front g c =
    let set : TaskSet = c.args.set.now in
    let s : State = c.args.state.now in
    let t = c.requires.set in
    let d : Device = migrated set in
    let l : Layout = layout_of Migrated set in
    let same : device_in set c.args.places.now ≡ d = same_device d c.args.places.now c.requires.table in
    let x : Index = moved_index set (index_of s) in
    let p : ℕ = words_needed set in
    let count : ℕ = need_on d - p in
    let all : ℕ = sum_by slots_words set.objects in
    let place : c.root_at.result ≡ p = c.root_at.ensures d c.requires.table in
    let value : c.first_root.result ≡ l.first_root = c.first_root.ensures d c.requires.table in
    let log0 : List Change = g.F.Fram.log c.args.dev.now in
    let log1 : List Change = g.F.Fram.log c.write.new.self in
    let log2 : List Change = g.F.Fram.log c.put_pages.new.dev in
    let pages = subst (λ (e : Device). (w : Words) → HasPages (layout_on e) x w → HasPut w (layout_on e).pages_at (2 * index_reads (layout_on e)) log1 log2) same c.in_ok-put_pages.ensures.put in
    let log3 : List Change = g.F.Fram.log c.put_moved_objects.new.dev in
    let image : Words = slice_index (made_in log2 (g.F.Fram.start c.put_pages.new.dev)) in
    let objects = subst (λ (e : Device). (w : Words) → HasObjects (layout_on e) set (old_words set s image) w → OnErr c.put_moved_objects.result (HasPutFront w (slots_at (layout_on e)) all log2 log3)) same c.put_moved_objects.ensures.front in
    λ h m.
    let w : Words = moved_word set h in
    let root : HasPut w p 1 log0 log1 = put_one w p c.root_at.result c.first_root.result log0 log1 c.in_ok-write.ensures.written place (value ∙ sym (fresh-root l set (moved_index set h.index) h.objects)) in
    let both : HasPut w l.pages_at (2 * index_reads l) log1 log2 = pages w (moved_pages set s _ h t m) in
    let slots = movable_slots set s _ h t m in
    let later = objects_later w w l set s l.pages_at (2 * index_reads l) log1 log2 _ _ slots (omega arith) both c.put_pages.ensures.same
    (objects_later w w l set s p 1 log0 log1 _ _ slots (omega arith) root c.write.ensures.same (moved_objects set s _ h t m)) in
    on_err_weaker c.put_moved_objects.result
    (λ k. front_then w p (1 + 2 * index_reads l) (slots_at l) all count log0 log2 log3
    (put_then w p 1 l.pages_at (2 * index_reads l) (1 + 2 * index_reads l) log0 log1 log2 root both (omega arith) refl)
    k (omega arith) (omega arith))
    (objects w later)
