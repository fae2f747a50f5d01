-- The commit of a first finish, which writes object 0.
use Rattle.std.proofs.Common.{◌≡◌, ℕ, suc, ◌+◌, ◌<◌, ◌≤◌, Bool, true, false, cond, eqb, ◌||◌, not, filter, List, [], ◌∷◌, length, slice_index, Some, refl, sym, ap, ◌∙◌, subst, arith}
use Rattle.std.proofs.lemmas.Bool.{eqb-true}
use Rattle.object_sets.specs.ObjectSets.{is_among}
use Rattle.kernel_model.specs.Effects.{Spawn, Run, Exit}
use Rattle.kernel_model.specs.Items.{Entry, FinishRecord}
use Rattle.kernel_model.specs.Replay.{TaskRec, task_under}
use Rattle.kernel_model.specs.OpenTasks.{children, others_than}
use Rattle.kernel_model.proofs.ForCallers.{length-children}
use Rattle.set_model.specs.Sets.{TaskSet, object_at}
use Rattle.set_model.specs.Limits.{IsTaskSet}
use Rattle.set_model.specs.Views as views
use Rattle.device_model.specs.IndexWords.{Index}
use Rattle.device_model.specs.Decoding.{Held}
use Rattle.device_model.specs.Commits.{Commit, commit_of, writes_by}
use Rattle.device_model.specs.Formats.{formatted_held, formatted_index}
use Rattle.device_model.specs.Devices.{IsHeldOn}
use Rattle.device_model.proofs.ForCallers.{by-order, by-writes, first_slot, formatted_fits, laid_out_set, two_slots}
use Rattle.shadow_index.specs.declared.plan.Plan.{Plan}
use Rattle.shadow_index.specs.declared.state.State.{State}
use Rattle.shadow_index.specs.States.{index_of}
use Rattle.shadow_index.specs.Tells.{device_of, kind_by}
use Rattle.commit_writer.specs.Afters.{IsAfter, IsGranted, IsNextFinish, IsPlanned, planned_slots}
use Rattle.commit_writer.specs.Rooms.{IsTold, layout_by}
use Rattle.commit_writer.proofs.NextState.{finish_told}

-- object 0 is written, and no other
abbrev pub is_first : ℕ → Bool
is_first o = eqb 0 o

abbrev pub one_word : ℕ → ℕ → List ℕ
one_word word o = word ∷ []

pub first_run : TaskSet → ℕ → Run
first_run set word = record { outcome = Exit 0; reads = []; writes = writes_by is_first (one_word word) 0 (length set.objects); spawns = [] }

pub first_finish : TaskSet → ℕ → ℕ → FinishRecord
first_finish set word first = record { number = 1; task = 1; point = 1; first = first; run = first_run set word }

pub first_commit : TaskSet → Plan → (word first : ℕ) → Commit
first_commit set plan word first =
    let h : Held = formatted_held (layout_by set 0) set in
    commit_of h (first_finish set word first) (planned_slots plan (formatted_index set).slots)

length-filter : (p : TaskRec → Bool) (xs : List TaskRec) → length (filter p xs) ≤ length xs
length-filter p [] = omega arith
length-filter p (x ∷ xs) = at (p x) (length-filter p xs)
  where
    at : (b : Bool) → length (filter p xs) ≤ length xs → length (cond b (x ∷ filter p xs) (filter p xs)) ≤ suc (length xs)
    at true h = omega (arith, h)
    at false h = omega (arith, h)

-- those but one are no more than all
pub few_others : (task : ℕ) (xs : List TaskRec) → length (others_than task xs) ≤ length xs
few_others task xs = length-filter (λ t. not (eqb t.id task)) xs

or_false : (b : Bool) → b ≡ b || false
or_false true = refl
or_false false = refl

open_first : (tasks : List Spawn) → 0 < length tasks → (s : Spawn) × (task_under (children 1 tasks) 1 ≡ Some s)
open_first [] l = absurd (omega arith)
open_first (s ∷ tasks) l = (let r : Spawn = record { program = s.program; arg = s.arg } in r, refl)

first_next : (set : TaskSet) (word first : ℕ) → IsTaskSet set → (object_at set 0).size ≡ 1 → 0 < length set.tasks → first ≡ length set.tasks + 1
    → IsNextFinish set (formatted_index set) (first_finish set word first)
unfolding first_finish first_run
first_next set word first s size some e =
    let open_ = open_first set.tasks some in
    record {
      run = record {
        outcome = tt;
        reads = tt;
        in_range = tt;
        in_order = by-order is_first (one_word word) 0 (length set.objects);
        writes = by-writes set is_first (one_word word) 0 (length set.objects) (omega arith) (λ p l t. sized p (eqb-true 0 p t));
        spawns = omega arith;
        programs = tt;
      };
      task = open_.0;
      open_ = open_.1;
      number = refl;
      point = omega arith;
      first = e;
      records = omega (arith, few_others 1 (children 1 set.tasks), length-children 1 set.tasks, s.tasks);
    }
  where
    sized : (p : ℕ) → 0 ≡ p → length (one_word word p) ≡ (object_at set p).size
    sized p f = let g : (object_at set 0).size ≡ (object_at set p).size = ap (λ (o : ℕ). (object_at set o).size) f in omega (arith, size, g)

first_planned : (set : TaskSet) (plan : Plan) (word first : ℕ) → IsTaskSet set → (object_at set 0).size ≡ 1 → 0 < length set.tasks → first ≡ length set.tasks + 1
    → plan.written ≡ 0 ∷ [] → slice_index plan.slots 0 ≡ 1
    → IsPlanned set plan (formatted_index set) (first_finish set word first) is_first (one_word word)
unfolding first_finish first_run
first_planned set plan word first s size some e w slot = record {
  finish = first_next set word first s size some e;
  writes = refl;
  written = λ o l. or_false (eqb 0 o) ∙ ap (is_among o) (sym w);
  named = λ o l t. let one = at o (eqb-true 0 o t) in let two = two_slots set o s l in omega (arith, one, two);
  other = λ o l t f. let one = at o (eqb-true 0 o t) in let none = first_slot set o l in omega (arith, one, none, f);
}
  where
    at : (o : ℕ) → 0 ≡ o → slice_index plan.slots o ≡ 1
    at o f = ap (slice_index plan.slots) (sym f) ∙ slot

pub first_told : (set : TaskSet) (plan : Plan) (before after : State) (word : ℕ) → IsTaskSet set
    → index_of before ≡ formatted_index set → before.root ≡ (layout_by set 0).first_root → before.shift ≡ 0
    → (let e : Entry = record { number = 1; task = 1; point = 1; first = before.next.0; outcome = Exit 0 } in views.entry_of plan.granted ≡ e)
    → plan.written ≡ 0 ∷ [] → slice_index plan.slots 0 ≡ 1
    → (object_at set 0).size ≡ 1 → 0 < length set.tasks
    → ((i : FinishRecord) → IsGranted plan [] i → IsAfter plan before i after)
    → (let h : Held = formatted_held (layout_by set 0) set in IsTold set plan before after h (first_commit set plan word before.next.0) is_first (one_word word))
unfolding first_commit first_finish first_run
first_told set plan before after word s index root shift granted written slot size some is_after =
    let h : Held = formatted_held (layout_by set 0) set in
    let next : before.next.0 ≡ length set.tasks + 1 = ap (λ (x : Index). x.next) index in
    let held0 : IsHeldOn (device_of set 0) h = formatted_fits set (layout_by set 0) (laid_out_set (kind_by set.format 0) set s) s in
    let held : IsHeldOn (device_of set before.shift) h = subst (λ (n : ℕ). IsHeldOn (device_of set n) h) (sym shift) held0 in
    finish_told set plan before after h (first_finish set word before.next.0) is_first (one_word word) held (sym index) (sym root)
    (first_planned set plan word before.next.0 s size some next written slot)
    (is_after (first_finish set word before.next.0) (record { entry = sym granted; spawned = refl }))
