-- Which difference a report has, from what its listing's replay answered.
use Rattle.std.proofs.Common.{◌≡◌, ℕ, ◌<◌, List, [], ◌∷◌, length, map, get_or, Option, Some, None, refl, sym, ap, ◌∙◌, subst, arith}
use Rattle.std.specs.Option.{option_or}
use Rattle.std.proofs.lemmas.List.{get_or-map, length-map}
use Rattle.kernel_model.specs.Items.{Entry}
use Rattle.kernel_model.specs.Replay.{DeviceState, Tables, after, tables_of}
use Rattle.kernel_model.specs.EntryReplay as model
use Rattle.kernel_model.proofs.ForCallers.{length-put_from}
use Rattle.nv_base.specs.declared.lines.Entry as base
use Rattle.set_model.specs.Sets.{TaskSet}
use Rattle.set_model.specs.Formatted.{formatted}
use Rattle.set_model.specs.Views.{entry_of}
use Rattle.report_text.specs.Reports.{Listed, Report}
use Rattle.report.specs.Views.{listed_of}
use Rattle.task_model.specs.Finals.{AnswersWithSpawns, AreSpawnsOf, replay_of, runs_of, state_of}
use Rattle.task_model.specs.declared.finals.Final.{Final}
use Rattle.task_model.specs.declared.finals.Replayed.{Replayed}
use Rattle.task_model.specs.declared.finals.Replayed.TheVariants.{Good, Wrong}
use Rattle.audit.specs.Differences.{DiffersBy, DiffersUnless, IsFirstDifference, entries_of, line_at, wrong_first, wrong_number, wrong_state}
use Rattle.audit.proofs.NoDifference.{PlaceLaw, WrongLaw, line_there, wrong_inside}

-- the entries of a listing
listed_entries : (ls : List (ℕ × base.Entry)) → map entry_of (map (λ (p : ℕ × base.Entry). p.1) ls) ≡ map (λ (l : Listed). l.entry) (map listed_of ls)
listed_entries [] = refl
listed_entries (l ∷ ls) = ap (λ es. entry_of l.1 ∷ es) (listed_entries ls)

-- the entries that were replayed are those of the report
pub record AreEntries (r : Report) (ls : List (ℕ × base.Entry)) (es : List base.Entry) : Type 0 where
  pub listing : r.listing ≡ map listed_of ls
  pub entries : es ≡ map (λ (p : ℕ × base.Entry). p.1) ls

pub entries_told : (r : Report) (ls : List (ℕ × base.Entry)) (es : List base.Entry) → AreEntries r ls es → map entry_of es ≡ entries_of r
entries_told r ls es h = ap (map entry_of) h.entries ∙ listed_entries ls ∙ ap (map (λ (l : Listed). l.entry)) (sym h.listing)

pub as_many : (r : Report) (ls : List (ℕ × base.Entry)) (es : List base.Entry) → AreEntries r ls es → length es ≡ length ls
as_many r ls es h = ap length h.entries ∙ length-map ls _

-- the answer that was met
pub met : (s : TaskSet) (es : List base.Entry) (a b : Replayed) → AnswersWithSpawns s es a → a ≡ b → AnswersWithSpawns s es b
met s es a b h e = subst (AnswersWithSpawns s es) e h

pub place_inside : WrongLaw → PlaceLaw → (s : TaskSet) (r : Report) (ls : List (ℕ × base.Entry)) (es : List base.Entry) (place : ℕ) → AreEntries r ls es → AnswersWithSpawns s es (Wrong place) → place < length ls
place_inside wrong places s r ls es place h a =
    let l = wrong_inside wrong places (runs_of s) (formatted s) (map entry_of es) place a in
    omega (arith, l, length-map es entry_of, as_many r ls es h)

-- by the replay
unless : (s : TaskSet) (r : Report) (es : List base.Entry) (x : model.Replayed) (line : Option ℕ) → wrong_number 0 r.listing ≡ None → map entry_of es ≡ entries_of r → replay_of s es ≡ x → DiffersBy s r x line → IsFirstDifference s r line
unless s r es x line n e h d =
    let replay : List Entry → model.Replayed = λ xs. model.replay (runs_of s) (formatted s) xs in
    let same : x ≡ replay (entries_of r) = sym h ∙ ap replay e in
    let one : DiffersUnless s r None line = subst (λ y. DiffersBy s r y line) same d in
    subst (λ o. DiffersUnless s r o line) (sym n) one

pub number_differs : (s : TaskSet) (r : Report) (ls : List (ℕ × base.Entry)) (line : ℕ) → r.listing ≡ map listed_of ls → Some line ≡ wrong_number 0 (map listed_of ls) → IsFirstDifference s r (Some line)
number_differs s r ls line h e =
    let at : wrong_number 0 r.listing ≡ Some line = ap (wrong_number 0) h ∙ sym e in
    let line_is : Option ℕ = Some line in
    let one : DiffersUnless s r (Some line) line_is = refl in
    subst (λ o. DiffersUnless s r o line_is) (sym at) one

pub replay_differs : (s : TaskSet) (r : Report) (ls : List (ℕ × base.Entry)) (es : List base.Entry) (place : ℕ) (d : ℕ × base.Entry) → AreEntries r ls es → wrong_number 0 (map listed_of ls) ≡ None → AnswersWithSpawns s es (Wrong place) → place < length ls
    → IsFirstDifference s r (Some (get_or ls place d).0)
replay_differs s r ls es place d h n a l =
    let there : line_at r.listing place ≡ Some (get_or ls place d).0 =
    ap (λ xs. line_at xs place) h.listing ∙ line_there (map listed_of ls) place (listed_of d) (omega (arith, l, length-map ls listed_of)) ∙ ap (λ (x : Listed). Some x.line) (get_or-map listed_of ls place d (listed_of d) l) in
    unless s r es (model.Wrong place) (Some (get_or ls place d).0) (ap (wrong_number 0) h.listing ∙ n) (entries_told r ls es h) a (sym there)

leaves_told : (s : TaskSet) (r : Report) (ls : List (ℕ × base.Entry)) (es : List base.Entry) (reruns : List model.Rerun) (f : DeviceState) → AreEntries r ls es → model.Leaves (formatted s) (map entry_of es) reruns f → model.Leaves (formatted s) (entries_of r) reruns f
leaves_told s r ls es reruns f h k = subst (λ xs. model.Leaves (formatted s) xs reruns f) (entries_told r ls es h) k

pub first_differs : (s : TaskSet) (r : Report) (ls : List (ℕ × base.Entry)) (es : List base.Entry) (f : Final) (counts : List ℕ) (next line : ℕ) → AreEntries r ls es → wrong_number 0 (map listed_of ls) ≡ None → AnswersWithSpawns s es (Good f counts) → next ≡ (formatted s).next
    → ((reruns : List model.Rerun) → AreSpawnsOf counts reruns → Some line ≡ wrong_first reruns 0 next (map listed_of ls)) → IsFirstDifference s r (Some line)
first_differs s r ls es f counts next line h n a e k =
    let one : wrong_first a.0 0 (formatted s).next r.listing ≡ Some line = ap (wrong_first a.0 0 (formatted s).next) h.listing ∙ ap (λ m. wrong_first a.0 0 m (map listed_of ls)) (sym e) ∙ sym (k a.0 a.3) in
    unless s r es (model.Good a.0) (Some line) (ap (wrong_number 0) h.listing ∙ n) (entries_told r ls es h) a.1 (state_of f, leaves_told s r ls es a.0 (state_of f) h a.2, sym (ap (λ o. option_or o (wrong_state r (state_of f))) one))

pub state_differs : (s : TaskSet) (r : Report) (ls : List (ℕ × base.Entry)) (es : List base.Entry) (f : Final) (counts : List ℕ) (next : ℕ) (line : Option ℕ) → AreEntries r ls es → wrong_number 0 (map listed_of ls) ≡ None → AnswersWithSpawns s es (Good f counts) → next ≡ (formatted s).next
    → ((reruns : List model.Rerun) → AreSpawnsOf counts reruns → wrong_first reruns 0 next (map listed_of ls) ≡ None) → line ≡ wrong_state r (state_of f) → IsFirstDifference s r line
state_differs s r ls es f counts next line h n a e k w =
    let one : wrong_first a.0 0 (formatted s).next r.listing ≡ None = ap (wrong_first a.0 0 (formatted s).next) h.listing ∙ ap (λ m. wrong_first a.0 0 m (map listed_of ls)) (sym e) ∙ k a.0 a.3 in
    unless s r es (model.Good a.0) line (ap (wrong_number 0) h.listing ∙ n) (entries_told r ls es h) a.1 (state_of f, leaves_told s r ls es a.0 (state_of f) h a.2, w ∙ sym (ap (λ o. option_or o (wrong_state r (state_of f))) one))

-- a replay leaves as many objects
length-after : (reruns : List model.Rerun) (t : Tables) → length (model.after_reruns reruns t).objects ≡ length t.objects
length-after [] t = refl
length-after (x ∷ reruns) t = length-after reruns (after x.item t) ∙ length-put_from 0 x.item.run.writes t.objects

pub objects_left : (s : TaskSet) (es : List base.Entry) (f : Final) (counts : List ℕ) → AnswersWithSpawns s es (Good f counts) → length f.objects ≡ length s.objects
objects_left s es f counts a = ap length a.2.objects ∙ length-after a.0 (tables_of (formatted s)) ∙ length-map s.objects _

-- no first line
pub none_of : (o : Option ℕ) → ((x : ℕ) → o ≡ Some x → ⊥) → o ≡ None
none_of None h = refl
none_of (Some x) h = absurd (h x refl)
