-- What a writer keeps for a set, and what a commit is by the states before and after it. This project's own.
use Rattle.std.specs.Prelude.{◌≡◌, ℕ, ◌+◌, ◌<◌, ◌≤◌, Bool, true, List, length, slice_index, vec_capacity}
use Rattle.object_sets.specs.ObjectSets.{is_among}
use Rattle.set_model.specs.Sets.{TaskSet, object_at}
use Rattle.set_model.specs.Limits.{IsTaskSet}
use Rattle.device_model.specs.Layouts.{Layout, index_reads}
use Rattle.device_model.specs.Decoding.{Held}
use Rattle.device_model.specs.Commits.{Commit, IsNext, is_changed, object_changes, page_changes, writes_by}
use Rattle.device_model.specs.Devices.{IsHeldOn, layout_on}
use Rattle.shadow_index.specs.declared.plan.Plan.{Plan}
use Rattle.shadow_index.specs.declared.state.State.{State}
use Rattle.shadow_index.specs.States.{index_of, word_of}
use Rattle.shadow_index.specs.Tells.{IsLayoutOf, device_of}
use Rattle.commit_writer.specs.declared.job.Job.{Job}
use Rattle.commit_writer.specs.Courses.{Course, IsBegun, object_writes, page_writes}
use Rattle.commit_writer.specs.Lists.{is_page_changed, objects_by, pages_by}

-- the layout of a device whose words were moved so far
abbrev pub layout_by : TaskSet → (shift : ℕ) → Layout
layout_by set shift = layout_on (device_of set shift)

-- the tables have room for each commit of a set
pub record IsFor (set : TaskSet) (job : Job) : Type 0 where
  pub limits : IsTaskSet set
  pub places : IsLayoutOf (device_of set job.shift) job.layout
  pub objects : length set.objects ≤ vec_capacity job.objects
  pub pages : (layout_by set 0).pages ≤ vec_capacity job.pages
  pub words : index_reads (layout_by set 0) ≤ vec_capacity job.words

-- a state has a slot for each object of a set, and no more tasks than its records
pub record IsStateOf (set : TaskSet) (s : State) : Type 0 where
  pub slots : length s.slots.items ≡ length set.objects
  pub tasks : length s.tasks.items ≤ set.records

-- a commit of a device whose words were moved so far
abbrev pub course_of : TaskSet → (shift : ℕ) → Held → Commit → Course
course_of set shift h c = record { device = device_of set shift; held = h; commit = c }

-- a plan and the states before and after tell a commit, for copies that write just the plan's objects
pub record IsTold (set : TaskSet) (plan : Plan) (before after : State) (h : Held) (c : Commit)
    (is_written : ℕ → Bool) (words : ℕ → List ℕ) : Type 0 where
  pub held : IsHeldOn (device_of set before.shift) h
  pub next : IsNext set h c
  pub index : h.index ≡ index_of before
  pub root : h.root ≡ before.root
  pub index_after : c.after ≡ index_of after
  pub writes : c.writes ≡ writes_by is_written words 0 (length set.objects)
  pub written : (o : ℕ) → o < length set.objects → is_written o ≡ is_among o plan.written
  pub sizes : (o : ℕ) → o < length set.objects → is_written o ≡ true
      → length (words o) ≡ (object_at set o).size
  pub slots : (o : ℕ) → o < length set.objects → is_written o ≡ true
      → slice_index plan.slots o ≡ slice_index c.after.slots o

-- which pages the tables of a commit change, from a state before it
abbrev pub changed_by : TaskSet → (before : State) → Job → ℕ → Bool
changed_by set before job =
    is_page_changed (9 + length set.objects) (layout_by set before.shift).page_words
    job.objects.items (word_of before) (slice_index job.words.items)

-- the tables are filled by a plan and two states
pub record IsTabled (set : TaskSet) (plan : Plan) (before after : State) (job : Job) : Type 0 where
  pub places : IsLayoutOf (device_of set before.shift) job.layout
  pub objects : job.objects.items
      ≡ objects_by (λ o. is_among o plan.written) 0 (length set.objects)
  pub slots : job.slots ≡ plan.slots
  pub long : length job.words.items ≡ index_reads (layout_by set before.shift)
  pub words : (i : ℕ) → i < index_reads (layout_by set before.shift)
      → slice_index job.words.items i ≡ word_of after i
  pub pages : job.pages.items
      ≡ pages_by (changed_by set before job) 0 (layout_by set before.shift).pages
  pub root : job.root ≡ before.root
  pub next_root : (layout_by set before.shift).is_root before.root ≡ true → job.next_root
      ≡ (layout_by set before.shift).flipped (changed_by set before job) before.root

-- they are those of a commit, and list all of its writes
pub record IsFilled (g : Course) (is_written : ℕ → Bool) (words : ℕ → List ℕ)
    (job : Job) : Type 0 where
  pub begun : IsBegun g is_written words job
  pub objects : object_writes g words job.objects.items
      ≡ object_changes (layout_on g.device) g.device.set g.commit.after.slots g.commit.writes
  pub pages : page_writes g job.pages.items
      ≡ page_changes (layout_on g.device) g.held.root g.commit.after
      (is_changed (layout_on g.device) g.device.set g.held.index g.commit) 0
      (layout_on g.device).pages
