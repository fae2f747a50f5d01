-- The parts of what is read back, line by line.
use Rattle.std.proofs.Common.{◌≡◌, ℕ, zero, suc, ◌+◌, ◌≤◌, ◌<◌, List, [], ◌∷◌, ◌++◌, length, take, drop, get_or, map, refl, ap, ap₂, sym, subst, ◌∙◌, append_assoc, add-one, arith}
use Rattle.std.specs.List.{AllByRecursion, flat_map}
use Rattle.std.specs.Prelude.{slice_index}
use Rattle.std.proofs.lemmas.Grind.{flat_map-append}
use Rattle.std.proofs.lemmas.List.Concat.{flat_map-cons}
use Rattle.std.proofs.lemmas.List.{append-nil, take_all, take_more, take-append-drop}
use Rattle.nv_base.specs.Streams.{PutsFront, PutsText, Stream}
use Rattle.kernel_model.specs.Effects.{Objects}
use Rattle.set_model.specs.Sets.{ObjPart, object_at}
use Rattle.report_text.specs.Lines.{end_text, object_text, open_text}
use Rattle.report_text.specs.Report.{objects_text}
use Rattle.set_model.specs.Limits.{IsTaskSet}
use Rattle.set_model.specs.Sets.{TaskSet}
use Rattle.device_model.specs.Words.{Words}
use Rattle.device_model.specs.IndexWords.{Index}
use Rattle.set_model.specs.Views.{task_of}
use Rattle.nv_base.specs.declared.lines.TaskRec.{TaskRec}
use Rattle.device_model.specs.Keeping.{KeepsIn}
use Rattle.device_model.specs.Devices.{layout_on}
use Rattle.shadow_index.specs.declared.state.State.{State}
use Rattle.recovery.specs.Images.{device_at}
use Rattle.recovery.specs.Reading.{IsRead}
use Rattle.kernel_core.proofs.Opened.{kept_on}
use Rattle.simulation.specs.Runs.{IsHalted, numbers_part, open_part, read_at}
use Rattle.simulation.specs.declared.halt.Halt.{Halt}
use Rattle.simulation.proofs.Halting.{halted_middle}
use Rattle.simulation.proofs.Fronts.{front_later, puts_more}

-- ---- texts of a list, one after another

module _ {A : Type 0} (text : A → List ℕ) where
  pub text_more : (xs : List A) (i : ℕ) (d : A) → i < length xs → flat_map text (take (i + 1) xs) ≡ flat_map text (take i xs) ++ text (get_or xs i d)
  text_more xs i d l = ap (flat_map text) (take_more xs i d l) ∙ flat_map-append text (take i xs) (get_or xs i d ∷ []) ∙ ap (λ t. flat_map text (take i xs) ++ t) (append-nil (text (get_or xs i d)))

  pub text_split : (xs : List A) (i : ℕ) → flat_map text xs ≡ flat_map text (take i xs) ++ flat_map text (drop i xs)
  text_split xs i = ap (flat_map text) (sym (take-append-drop i xs)) ∙ flat_map-append text (take i xs) (drop i xs)

  pub next_text : (xs : List A) (i : ℕ) (d : A) (o p q : Stream) → i < length xs → PutsText (flat_map text (take i xs)) o p → PutsText (text (get_or xs i d)) p q → PutsText (flat_map text (take (i + 1) xs)) o q
  next_text xs i d o p q l e f = subst (λ t. PutsText t o q) (sym (text_more xs i d l)) (puts_more o p q _ _ e f)

  pub cut_text : (xs : List A) (i : ℕ) (d : A) (o p q : Stream) → i < length xs → PutsText (flat_map text (take i xs)) o p → PutsFront (text (get_or xs i d)) p q → PutsFront (flat_map text xs) o q
  cut_text xs i d o p q l e f =
      front_later o p q (flat_map text (take i xs)) (text (get_or xs i d)) (flat_map text (drop (i + 1) xs)) (flat_map text xs)
      (text_split xs (i + 1) ∙ ap (λ t. t ++ flat_map text (drop (i + 1) xs)) (text_more xs i d l)) e f

  pub last_text : (xs : List A) (i : ℕ) (o p : Stream) → length xs ≤ i → PutsText (flat_map text (take i xs)) o p → PutsText (flat_map text xs) o p
  last_text xs i o p l e = subst (λ x. PutsText (flat_map text x) o p) (take_all i xs l) e

-- ---- objects

-- the line of one of some objects
abbrev pub object_line : List ObjPart → Objects → ObjPart → ℕ → List ℕ
object_line parts objects none o = object_text (get_or parts o none).name (get_or objects o [])

more : (parts : List ObjPart) (objects : Objects) (none : ObjPart) (o : ℕ) → o < length parts → o < length objects
    → objects_text (take (suc o) parts) (take (suc o) objects) ≡ objects_text (take o parts) (take o objects) ++ object_line parts objects none o
more [] objects none o l m = absurd (omega (arith, l))
more (p ∷ parts) [] none o l m = absurd (omega (arith, m))
more (p ∷ parts) (w ∷ objects) none zero l m = append-nil (object_text p.name w)
more (p ∷ parts) (w ∷ objects) none (suc o) l m =
    ap (λ t. object_text p.name w ++ t) (more parts objects none o (omega arith) (omega arith))
    ∙ sym (append_assoc (object_text p.name w) (objects_text (take o parts) (take o objects)) (object_line parts objects none o))

pub objects_more : (parts : List ObjPart) (objects : Objects) (none : ObjPart) (o : ℕ) → o < length parts → length objects ≡ length parts
    → objects_text (take (o + 1) parts) (take (o + 1) objects) ≡ objects_text (take o parts) (take o objects) ++ object_line parts objects none o
objects_more parts objects none o l e = let z : o + 1 ≡ suc o = add-one o in rw z (more parts objects none o l (omega arith))

no_objects : (parts : List ObjPart) → objects_text parts [] ≡ []
no_objects [] = refl
no_objects (p ∷ parts) = refl

pub objects_split : (parts : List ObjPart) (objects : Objects) (i : ℕ) → objects_text parts objects ≡ objects_text (take i parts) (take i objects) ++ objects_text (drop i parts) (drop i objects)
objects_split parts objects zero = refl
objects_split [] objects (suc i) = refl
objects_split (p ∷ parts) [] (suc i) = sym (no_objects (drop i parts))
objects_split (p ∷ parts) (w ∷ objects) (suc i) =
    ap (λ t. object_text p.name w ++ t) (objects_split parts objects i)
    ∙ sym (append_assoc (object_text p.name w) (objects_text (take i parts) (take i objects)) (objects_text (drop i parts) (drop i objects)))

pub next_object : (parts : List ObjPart) (objects : Objects) (none : ObjPart) (i : ℕ) (o p q : Stream) → i < length parts → length objects ≡ length parts
    → PutsText (objects_text (take i parts) (take i objects)) o p → PutsText (object_line parts objects none i) p q → PutsText (objects_text (take (i + 1) parts) (take (i + 1) objects)) o q
next_object parts objects none i o p q l s e f = subst (λ t. PutsText t o q) (sym (objects_more parts objects none i l s)) (puts_more o p q _ _ e f)

pub halted_object : (parts : List ObjPart) (objects : Objects) (none : ObjPart) (i : ℕ) (l k m : ℕ) (o p q : Stream) (h : Halt) → i < length parts → length objects ≡ length parts → l ≤ k
    → PutsText (objects_text (take i parts) (take i objects)) o p → IsHalted (object_line parts objects none i) k m p q h → IsHalted (objects_text parts objects) l m o q h
halted_object parts objects none i l k m o p q h less sized few e f =
    halted_middle (objects_text (take i parts) (take i objects)) (object_line parts objects none i) (objects_text (drop (i + 1) parts) (drop (i + 1) objects)) (objects_text parts objects) l k m o p q h
    (objects_split parts objects (i + 1) ∙ ap (λ t. t ++ objects_text (drop (i + 1) parts) (drop (i + 1) objects)) (objects_more parts objects none i less sized)) few e f

pub last_object : (parts : List ObjPart) (objects : Objects) (i : ℕ) (o p : Stream) → length parts ≤ i → length objects ≡ length parts
    → PutsText (objects_text (take i parts) (take i objects)) o p → PutsText (objects_text parts objects) o p
last_object parts objects i o p l s e =
    subst (λ x. PutsText (objects_text parts x) o p) (take_all i objects (omega arith)) (subst (λ x. PutsText (objects_text x (take i objects)) o p) (take_all i parts l) e)

pub of_mapped : {A B : Type 0} (f : B → List ℕ) (g : A → B) (xs : List A) → flat_map f (map g xs) ≡ flat_map (λ x. f (g x)) xs
of_mapped f g [] = refl
of_mapped f g (x ∷ xs) = flat_map-cons f (g x) (map g xs) ∙ ap (λ t. f (g x) ++ t) (of_mapped f g xs) ∙ sym (flat_map-cons (λ x. f (g x)) x xs)

pub at_place : {A : Type 0} (P : A → Type 0) (xs : List A) (i : ℕ) (d : A) → AllByRecursion P xs → i < length xs → P (get_or xs i d)
at_place P [] i d h l = absurd (omega (arith, l))
at_place P (x ∷ xs) zero d h l = h.0
at_place P (x ∷ xs) (suc i) d h l = at_place P xs i d h.1 (omega arith)

-- ---- what a read state tells

pub read_keeps : (set : TaskSet) (words : Words) (state : State) → IsTaskSet set → IsRead set words state → KeepsIn set (layout_on (device_at set words)) (read_at set words) words
read_keeps set words state limits r = kept_on (device_at set words) (read_at set words) words limits r.held

pub read_slots : (set : TaskSet) (words : Words) (state : State) → IsTaskSet set → IsRead set words state → length state.slots.items ≡ length set.objects
read_slots set words state limits r = ap (λ x. length x.slots) r.state.index ∙ (read_keeps set words state limits r).held.index.slots

pub read_slot : (set : TaskSet) (words : Words) (state : State) (o : ℕ) → IsTaskSet set → IsRead set words state → o < length set.objects → slice_index state.slots.items o < (object_at set o).slots
read_slot set words state o limits r l = subst (λ x. slice_index x.slots o < (object_at set o).slots) (sym r.state.index) ((read_keeps set words state limits r).held.index.named o l)

-- the next of the first words of an object
pub next_word : (all items : List ℕ) (i word : ℕ) → i < length all → items ≡ take i all → word ≡ slice_index all i → items ++ word ∷ [] ≡ take (i + 1) all
next_word all items i word l e f = ap₂ (λ (x : List ℕ) (w : ℕ). x ++ w ∷ []) e f ∙ sym (take_more all i 0 l)

-- the numbers and the open tasks that were read
pub numbers_same : (set : TaskSet) (words : Words) (state : State) → IsRead set words state → end_text state.clock.0 state.number.0 state.next.0 state.boots ≡ numbers_part set words
numbers_same set words state r =
    let h = read_at set words in
    ap (λ (x : Index). end_text x.clock x.number x.next state.boots) r.state.index ∙ ap (λ (n : ℕ). end_text h.index.clock h.index.number h.index.next n) r.state.boots

pub open_same : (set : TaskSet) (words : Words) (state : State) → IsRead set words state → flat_map (open_text set) (map task_of state.tasks.items) ≡ open_part set words
open_same set words state r = ap (λ (x : Index). flat_map (open_text set) x.tasks) r.state.index

all_mapped : {A B : Type 0} → (P : B → Type 0) (f : A → B) (xs : List A) → AllByRecursion P (map f xs) → AllByRecursion (λ x. P (f x)) xs
all_mapped P f [] h = tt
all_mapped P f (x ∷ xs) h = (h.0, all_mapped P f xs h.1)

-- their programs are of the set
pub read_programs : (set : TaskSet) (words : Words) (state : State) → IsTaskSet set → IsRead set words state → AllByRecursion (λ t. t.program.0 < length set.programs) state.tasks.items
read_programs set words state limits r =
    all_mapped (λ t. t.program < length set.programs) task_of state.tasks.items
    (subst (λ (x : Index). AllByRecursion (λ t. t.program < length set.programs) x.tasks) (sym r.state.index) (read_keeps set words state limits r).held.index.programs)

pub tasks_same : (set : TaskSet) (xs ys : List TaskRec) → xs ≡ ys → flat_map (open_text set) (map task_of xs) ≡ flat_map (open_text set) (map task_of ys)
tasks_same set xs ys e = ap (λ (ts : List TaskRec). flat_map (open_text set) (map task_of ts)) e
