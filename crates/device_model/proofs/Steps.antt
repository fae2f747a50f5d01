-- The kernel's model of what a device holds, from one state to the next.
use Rattle.std.proofs.Common.{◌≡◌, ℕ, ◌+◌, ◌<◌, List, [], ◌∷◌, ◌++◌, length, slice_index, max, Option, Some, None, arith, refl, ap, ◌∙◌}
use Rattle.kernel_model.specs.Effects.{Objects, put}
use Rattle.kernel_model.specs.Items.{Entry, FinishRecord, entry_of}
use Rattle.kernel_model.specs.OpenTasks.{children, others_than}
use Rattle.kernel_model.specs.Replay.{DeviceState}
use Rattle.kernel_model.specs.Durable.{Durable, last_of, state_left}
use Rattle.kernel_model.specs.Fit.{IsBase, IsLast}
use Rattle.set_model.specs.Sets.{TaskSet, object_at}
use Rattle.set_model.specs.Numbers.{sizes_of}
use Rattle.device_model.specs.Layouts.{Layout}
use Rattle.device_model.specs.IndexWords.{Index, IsIndex, base_of}
use Rattle.device_model.specs.Decoding.{Held, durable_of}
use Rattle.device_model.specs.Commits.{commit_of, committed}

-- what is durable after one finish more
next_durable : (d : Durable) (i : FinishRecord) → Durable
next_durable d i = record {
  state = record {
    objects = put i.run.writes d.state.objects;
    tasks = others_than i.task d.state.tasks ++ children i.first i.run.spawns;
    clock = max i.point d.state.clock;
    number = d.state.number + 1;
    next = d.state.next + length i.run.spawns;
  };
  last = Some (entry_of i);
  boots = d.boots;
}

left_next : (base : DeviceState) (last : Option Entry) (history : List FinishRecord) (boots : ℕ) (i : FinishRecord)
    → next_durable (record { state = state_left base history; last = last_of last history; boots = boots }) i ≡ record { state = state_left base (i ∷ history); last = last_of last (i ∷ history); boots = boots }
unfolding next_durable
left_next base last history boots i =
    let e : base.number + length history + 1 ≡ base.number + length (i ∷ history) = omega arith in
    ap (λ (n : ℕ). let d : Durable = record {
      state = record { objects = (state_left base (i ∷ history)).objects; tasks = (state_left base (i ∷ history)).tasks; clock = (state_left base (i ∷ history)).clock; number = n; next = (state_left base (i ∷ history)).next };
      last = Some (entry_of i);
      boots = boots;
    } in d) e

committed_next : (l : Layout) (set : TaskSet) (h : Held) (i : FinishRecord) (slots : List ℕ) → durable_of (committed l set h (commit_of h i slots)) ≡ next_durable (durable_of h) i
unfolding next_durable
committed_next l set h i slots = refl

pub commit_lists : (l : Layout) (set : TaskSet) (h : Held) (i : FinishRecord) (slots : List ℕ) (base : DeviceState) (last : Option Entry) (history : List FinishRecord) (boots : ℕ)
    → durable_of h ≡ record { state = state_left base history; last = last_of last history; boots = boots }
    → durable_of (committed l set h (commit_of h i slots)) ≡ record { state = state_left base (i ∷ history); last = last_of last (i ∷ history); boots = boots }
commit_lists l set h i slots base last history boots e = committed_next l set h i slots ∙ ap (λ (d : Durable). next_durable d i) e ∙ left_next base last history boots i

-- a state of the model, with slots that there are
pub fit_index : (set : TaskSet) (x : Index) (objects : Objects) → IsBase (sizes_of set) (base_of x objects) → IsLast (base_of x objects) x.last → length x.slots ≡ length set.objects
    → ((o : ℕ) → o < length set.objects → slice_index x.slots o < (object_at set o).slots) → IsIndex set x
fit_index set x objects b l slots named = record {
  clock = b.clock;
  next = b.next;
  last = last x.last l;
  slots = slots;
  named = named;
  records = b.records;
  in_order = b.in_order;
  positive = b.positive;
  old = b.old;
  programs = b.programs;
}
  where
    last : (e : Option Entry) → IsLast (base_of x objects) e → IsLast (base_of x []) e
    last None z = z
    last (Some e) z = record { number = z.number; counted = z.counted; task = z.task; older = z.older; first = z.first; children = z.children; point = z.point; outcome = z.outcome }
