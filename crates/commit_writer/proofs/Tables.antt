-- What the tables of a commit say of one object or one page.
use Rattle.std.proofs.Common.{◌≡◌, ℕ, ◌+◌, ◌-◌, ◌<◌, Bool, true, List, [], get_or, length, slice_index, ap, ap₂, sym, ◌∙◌, subst, arith}
use Rattle.nv_base.specs.declared.ids.ObjId.{ObjId}
use Rattle.nv_base.specs.declared.limits.TheConstants.{MAX_OBJECTS, MAX_SLOTS}
use Rattle.set_model.specs.Sets.{TaskSet, object_at}
use Rattle.set_model.specs.Limits.{IsObject}
use Rattle.set_model.proofs.AtFacts.{all_at}
use Rattle.set_model.proofs.LimitFacts.{few_objects}
use Rattle.device_model.specs.Layouts.{copy_place, slot_place}
use Rattle.device_model.specs.Devices.{layout_on, need_on}
use Rattle.device_model.specs.Places.{IsLaidOut}
use Rattle.device_model.proofs.ForCallers.{laid_out_set}
use Rattle.device_model.proofs.PlaceLaws.{copy_place-high, slot_place-high}
use Rattle.commit_writer.specs.declared.job.Job.{Job}
use Rattle.commit_writer.specs.Courses.{Course, IsBegun, no_object}

pub laid_out : (g : Course) (is_written : ℕ → Bool) (words : ℕ → List ℕ) (job : Job) → IsBegun g is_written words job → IsLaidOut g.device.set (layout_on g.device)
laid_out g is_written words job b = laid_out_set g.device.kind g.device.set b.limits

pub some_words : (g : Course) (is_written : ℕ → Bool) (words : ℕ → List ℕ) (job : Job) → IsBegun g is_written words job → 0 < (layout_on g.device).page_words
some_words g is_written words job b = let d = laid_out g is_written words job b in let w = d.page_words in omega (arith, w)

-- the object has as many words as the copies have of it
pub sized : (g : Course) (is_written : ℕ → Bool) (words : ℕ → List ℕ) (job : Job) (nth : ℕ) (set : TaskSet) (o : ObjId) → IsBegun g is_written words job → nth < length job.objects.items → g.device.set ≡ set → o ≡ get_or job.objects.items nth no_object
    → length (words (get_or job.objects.items nth no_object).0) ≡ (object_at set o.0).size
sized g is_written words job nth set o b l e f = (b.objects nth l).size ∙ ap₂ (λ (s : TaskSet) (x : ObjId). (object_at s x.0).size) e (sym f)

-- and that is one at least
pub some_size : (g : Course) (is_written : ℕ → Bool) (words : ℕ → List ℕ) (job : Job) (nth : ℕ) → IsBegun g is_written words job → nth < length job.objects.items → 0 < length (words (get_or job.objects.items nth no_object).0)
some_size g is_written words job nth b l =
    let o = b.objects nth l in
    let s = (all_at IsObject g.device.set.objects (record { name = []; size = 0; slots = 0; first = [] }) (get_or job.objects.items nth no_object).0 b.limits.each_object o.object).size in
    omega (arith, s.0, o.size)

-- its slot is one of its slots
pub slot_is_named : (g : Course) (is_written : ℕ → Bool) (words : ℕ → List ℕ) (job : Job) (nth : ℕ) → IsBegun g is_written words job → nth < length job.objects.items
    → slice_index g.commit.after.slots (get_or job.objects.items nth no_object).0 < (object_at g.device.set (get_or job.objects.items nth no_object).0).slots
slot_is_named g is_written words job nth b l = b.next.index.named (get_or job.objects.items nth no_object).0 (b.objects nth l).object

pub few_slots : (g : Course) (is_written : ℕ → Bool) (words : ℕ → List ℕ) (job : Job) (nth : ℕ) → IsBegun g is_written words job → nth < length job.objects.items
    → slice_index job.slots (get_or job.objects.items nth no_object).0 < MAX_SLOTS
few_slots g is_written words job nth b l =
    let o = b.objects nth l in
    let s = (all_at IsObject g.device.set.objects (record { name = []; size = 0; slots = 0; first = [] }) (get_or job.objects.items nth no_object).0 b.limits.each_object o.object).slots in
    let n = slot_is_named g is_written words job nth b l in
    omega (arith, s.1, n, o.slot)

pub few_numbers : (g : Course) (is_written : ℕ → Bool) (words : ℕ → List ℕ) (job : Job) (nth : ℕ) → IsBegun g is_written words job → nth < length job.objects.items → (get_or job.objects.items nth no_object).0 < MAX_OBJECTS
few_numbers g is_written words job nth b l = let o = b.objects nth l in omega (arith, o.object, few_objects g.device.set b.limits)

-- a word of it is on the device
pub slot_word_fits : (g : Course) (is_written : ℕ → Bool) (words : ℕ → List ℕ) (job : Job) (nth word : ℕ) → IsBegun g is_written words job → nth < length job.objects.items → word < length (words (get_or job.objects.items nth no_object).0)
    → slot_place (layout_on g.device) g.device.set (get_or job.objects.items nth no_object).0 (slice_index g.commit.after.slots (get_or job.objects.items nth no_object).0) + word < need_on g.device
slot_word_fits g is_written words job nth word b l m =
    let o = b.objects nth l in
    slot_place-high (layout_on g.device) g.device.set (get_or job.objects.items nth no_object).0 (slice_index g.commit.after.slots (get_or job.objects.items nth no_object).0) word o.object (slot_is_named g is_written words job nth b l) (omega (arith, m, o.size))

-- the place that was looked up
pub object_place : (g : Course) (is_written : ℕ → Bool) (words : ℕ → List ℕ) (job : Job) (nth : ℕ) (o : ObjId) (slot place : ℕ) → IsBegun g is_written words job → nth < length job.objects.items → o ≡ get_or job.objects.items nth no_object
    → slot ≡ slice_index job.slots o.0 → (o.0 < length g.device.set.objects → slot < (object_at g.device.set o.0).slots → place ≡ slot_place (layout_on g.device) g.device.set o.0 slot)
    → place ≡ slot_place (layout_on g.device) g.device.set (get_or job.objects.items nth no_object).0 (slice_index g.commit.after.slots (get_or job.objects.items nth no_object).0)
object_place g is_written words job nth o slot place b l e f h =
    let same = (b.objects nth l).slot in
    let k : o.0 ≡ (get_or job.objects.items nth no_object).0 = ap (λ (x : ObjId). x.0) e in
    let s : slot ≡ slice_index g.commit.after.slots (get_or job.objects.items nth no_object).0 = f ∙ ap (slice_index job.slots) k ∙ same in
    let low : o.0 < length g.device.set.objects = omega (arith, k, (b.objects nth l).object) in
    let named : slot < (object_at g.device.set o.0).slots = subst (λ (i : ℕ). slot < (object_at g.device.set i).slots) (sym k) (omega (arith, s, slot_is_named g is_written words job nth b l)) in
    h low named ∙ ap₂ (slot_place (layout_on g.device) g.device.set) k s

-- a word of a page's other copy is on the device
pub page_word_fits : (g : Course) (is_written : ℕ → Bool) (words : ℕ → List ℕ) (job : Job) (nth word : ℕ) → IsBegun g is_written words job → nth < length job.pages.items → word < (layout_on g.device).page_words
    → copy_place (layout_on g.device) (get_or job.pages.items nth 0) (1 - (layout_on g.device).copy g.held.root (get_or job.pages.items nth 0)) 0 + word < need_on g.device
page_word_fits g is_written words job nth word b l m =
    let y = layout_on g.device in
    let page : ℕ = get_or job.pages.items nth 0 in
    let q = (laid_out g is_written words job b).copies g.held.root page b.held.root (b.pages nth l) in
    let high = copy_place-high y page (1 - y.copy g.held.root page) word (b.pages nth l) (omega arith) m in
    omega (arith, high)

pub page_place : (g : Course) (is_written : ℕ → Bool) (words : ℕ → List ℕ) (job : Job) (nth page copy place : ℕ) → IsBegun g is_written words job → nth < length job.pages.items → page ≡ get_or job.pages.items nth 0
    → ((layout_on g.device).is_root job.root ≡ true → copy ≡ (layout_on g.device).copy job.root page) → (page < (layout_on g.device).pages → place ≡ copy_place (layout_on g.device) page (1 - copy) 0)
    → place ≡ copy_place (layout_on g.device) (get_or job.pages.items nth 0) (1 - (layout_on g.device).copy g.held.root (get_or job.pages.items nth 0)) 0
page_place g is_written words job nth page copy place b l e f h =
    let y = layout_on g.device in
    let r : y.is_root job.root ≡ true = ap y.is_root b.root ∙ b.held.root in
    let k : copy ≡ y.copy g.held.root (get_or job.pages.items nth 0) = f r ∙ ap₂ y.copy b.root e in
    h (omega (arith, e, b.pages nth l)) ∙ ap₂ (λ (p q : ℕ). copy_place y p (1 - q) 0) e k
