-- What the table machine looks at.
use Rattle.std.proofs.Common.{◌≡◌, ℕ, zero, suc, ◌+◌, ◌<◌, Bool, true, false, cond, eqb, ◌||◌, List, [], ◌∷◌, length, get_or, map, Option, Some, refl, sym, ap, ap₂, ◌∙◌, arith, add-zero}
use Rattle.std.specs.Prelude.{is_some, slice_index, unwrap_or}
use Rattle.object_sets.specs.ObjectSets.{is_among}
use Rattle.rv_core.specs.State.{MachineState}
use Rattle.kernel_model.specs.Sizes.{Sizes}
use Rattle.kernel_model.specs.Effects.{Run, Write, written}
use Rattle.kernel_model.specs.Items.{FinishRecord}
use Rattle.kernel_model.specs.Replay.{TaskRec}
use Rattle.slot_model.specs.Tabled.{Tables, View, free_place, table_verdict}
use Rattle.set_model.specs.Sets.{ObjPart, TaskSet}
use Rattle.shadow_index.specs.declared.plan.Plan.{Plan}
use Rattle.device_model.specs.Layouts.{Layout}
use Rattle.device_model.specs.IndexWords.{Index}
use Rattle.device_model.specs.Counting.{sizes_on}
use Rattle.device_model.specs.Commits as commits
use Rattle.table_machine.specs.Tables.{Seat, Try, chain_at}
use Rattle.table_machine.specs.Places.{index_after, places_at, plan_in, slots_after, verdict_in, views_in}
use Rattle.ver_table.specs.Tabled.{all_tabled}
use Rattle.ver_table.proofs.Reopens.{slots_told}
use Rattle.vol_copy.specs.declared.attempt.Attempt.{Attempt}
use Rattle.validate.specs.Answers.{AreForOne, AreSizes, IsPlanOf, IsPlanned, IsSeenIn, Seen, tables_in}
use Rattle.validate.proofs.Fulls.{all_among}
use Rattle.validate.proofs.Raises.{objects_in}

pub verdict_is : (s : Seen) (x : Index) (seats : List (Seat MachineState)) (sizes : Sizes) (t : Try MachineState) (run : Run) → IsSeenIn s x seats
    → verdict_in sizes x (all_tabled s.chains) seats t run ≡ table_verdict sizes (tables_in s) s.others t.task t.interval run
verdict_is s x seats sizes t run h =
    let by = λ (clock number next : ℕ) (tasks : List TaskRec) (views : List View).
    let looked : Tables = record { places = places_at (all_tabled s.chains); bounds = λ o. (chain_at (all_tabled s.chains) o).bound; clock = clock; number = number; next = next; pending = length tasks } in
    table_verdict sizes looked views t.task t.interval run in
    ap (λ (n : ℕ). by n x.number x.next x.tasks (views_in seats)) h.clock
    ∙ ap (λ (n : ℕ). by s.clock n x.next x.tasks (views_in seats)) h.number
    ∙ ap (λ (n : ℕ). by s.clock s.number n x.tasks (views_in seats)) h.next
    ∙ ap (λ (ts : List TaskRec). by s.clock s.number s.queue.next ts (views_in seats)) h.tasks
    ∙ ap (by s.clock s.number s.queue.next s.queue.tasks) h.others

-- what is written is among the objects
written_among : (ws : List Write) (o : ℕ) → is_some (written ws o) ≡ true → is_among o (objects_in ws) ≡ true
written_among [] o e = absurd (cc e)
written_among (w ∷ ws) o e = at (written_among ws o) (eqb w.object o) e
  where
    at : (is_some (written ws o) ≡ true → is_among o (objects_in ws) ≡ true) → (b : Bool) → is_some (cond b (Some w.words) (written ws o)) ≡ true → (b || is_among o (objects_in ws)) ≡ true
    at rest true e = refl
    at rest false e = rest e

-- plans that agree on what is written give the same slots
same_slots : (p q : ℕ → ℕ) (ws : List Write) (o : ℕ) (slots : List ℕ) → ((j : ℕ) → is_some (written ws j) ≡ true → p j ≡ q j) → slots_after p ws o slots ≡ slots_after q ws o slots
same_slots p q ws o [] h = refl
same_slots p q ws o (slot ∷ slots) h = at (is_some (written ws o)) refl (same_slots p q ws (o + 1) slots h)
  where
    at : (b : Bool) → is_some (written ws o) ≡ b → slots_after p ws (o + 1) slots ≡ slots_after q ws (o + 1) slots → cond b (p o) slot ∷ slots_after p ws (o + 1) slots ≡ cond b (q o) slot ∷ slots_after q ws (o + 1) slots
    at true e rest = ap₂ (λ (k : ℕ) (ks : List ℕ). k ∷ ks) (h o e) rest
    at false e rest = ap (λ (ks : List ℕ). slot ∷ ks) rest

pub plan_is : (s : Seen) (x : Index) (seats : List (Seat MachineState)) (sizes : Sizes) (plan : Plan) (i : FinishRecord) → views_in seats ≡ s.others → IsPlanOf s sizes plan i
    → index_after (plan_in sizes seats (all_tabled s.chains)) x i ≡ index_after (slice_index plan.slots) x i
plan_is s x seats sizes plan i e h =
    ap (commits.index_after x i)
    (same_slots (plan_in sizes seats (all_tabled s.chains)) (slice_index plan.slots) i.run.writes 0 x.slots (λ j w.
    let one = all_among (λ o. IsPlanned s sizes o (slice_index plan.slots o)) plan.written j h.slots (ap (is_among j) h.written ∙ written_among i.run.writes j w) in
    ap (λ (views : List View). unwrap_or (free_place (sizes.slots j) j views (places_at (all_tabled s.chains) j)) 0) e
    ∙ ap (λ (k : Option ℕ). unwrap_or k 0) one.free))

-- the slot that is named of an object, from number k on
slots_at : (plan : ℕ → ℕ) (ws : List Write) (k : ℕ) (slots : List ℕ) (o : ℕ) → o < length slots → slice_index (slots_after plan ws k slots) o ≡ cond (is_some (written ws (k + o))) (plan (k + o)) (slice_index slots o)
slots_at plan ws k [] o l = absurd (omega (arith, l))
slots_at plan ws k (slot ∷ slots) zero l = let z : k ≡ k + 0 = sym (add-zero k) in ap (λ (m : ℕ). cond (is_some (written ws m)) (plan m) slot) z
slots_at plan ws k (slot ∷ slots) (suc o) l =
    let z : k + 1 + o ≡ k + suc o = omega arith in
    slots_at plan ws (k + 1) slots o (omega (arith, l)) ∙ ap (λ (m : ℕ). cond (is_some (written ws m)) (plan m) (slice_index slots o)) z

pub slot_is : (plan : ℕ → ℕ) (ws : List Write) (slots : List ℕ) (o : ℕ) → o < length slots → slice_index (slots_after plan ws 0 slots) o ≡ cond (is_some (written ws o)) (plan o) (slice_index slots o)
slot_is plan ws slots o l = let z : 0 + o ≡ o = omega arith in slots_at plan ws 0 slots o l ∙ ap (λ (m : ℕ). cond (is_some (written ws m)) (plan m) (slice_index slots o)) z

-- the slots of an object of a set
part_slots : (parts : List ObjPart) (o : ℕ) → slice_index (map (λ (p : ObjPart). p.slots) parts) o ≡ (get_or parts o (record { name = []; size = 0; slots = 0; first = [] })).slots
part_slots [] o = refl
part_slots (p ∷ parts) zero = refl
part_slots (p ∷ parts) (suc o) = part_slots parts o

pub sizes_are : (s : Seen) (set : TaskSet) (l : Layout) (a : Attempt) → AreForOne set s.chains a → s.queue.records ≡ set.records → AreSizes s (sizes_on l set)
sizes_are s set l a h e = record {
  slots = λ o b. sym (part_slots set.objects o) ∙ ap (λ (ns : List ℕ). slice_index ns o) (sym h.table) ∙ slots_told s.chains o;
  records = sym e;
}
