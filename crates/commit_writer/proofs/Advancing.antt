-- One write more of a commit, as a list.
use Rattle.std.proofs.Common.{◌≡◌, ℕ, zero, suc, ◌+◌, ◌<◌, ◌≤◌, Bool, List, [], ◌∷◌, drop, get_or, length, ap, sym, ◌∙◌, arith}
use Rattle.set_model.specs.Sets.{TaskSet}
use Rattle.device_model.specs.Words.{Change}
use Rattle.device_model.specs.Devices.{layout_on, need_on}
use Rattle.device_model.proofs.Writes.{Every}
use Rattle.device_model.proofs.InRange.{commit-low}
use Rattle.commit_writer.specs.declared.job.Job.{Job}
use Rattle.commit_writer.specs.declared.writer.Writer.{Writer}
use Rattle.commit_writer.specs.declared.position.Position as own
use Rattle.commit_writer.specs.declared.position.Position.TheVariants.{Done}
use Rattle.commit_writer.specs.Courses.{Course, IsBegun, IsNextPosition, first_left, left, writes_of}
use Rattle.commit_writer.specs.Turns.{IsWriting, write_number}
use Rattle.commit_writer.proofs.Left.{at_from, some_left}
use Rattle.commit_writer.proofs.Tables.{laid_out}

-- ---- what stands at a place of a list, and behind it

at_place : (log : List Change) (n : ℕ) (c : Change) (rest : List Change) → drop n log ≡ c ∷ rest → get_or log n (0, 0) ≡ c
at_place [] zero c rest e = absurd (cc e)
at_place [] (suc n) c rest e = absurd (cc e)
at_place (x ∷ log) zero c rest e = cc e
at_place (x ∷ log) (suc n) c rest e = at_place log n c rest e

behind_place : (log : List Change) (n : ℕ) (c : Change) (rest : List Change) → drop n log ≡ c ∷ rest → drop (n + 1) log ≡ rest
behind_place [] zero c rest e = absurd (cc e)
behind_place [] (suc n) c rest e = absurd (cc e)
behind_place (x ∷ log) zero c rest e = cc e
behind_place (x ∷ log) (suc n) c rest e = let f : suc n + 1 ≡ suc (n + 1) = omega arith in ap (λ (k : ℕ). drop k (x ∷ log)) f ∙ behind_place log n c rest e

length_to : (log : List Change) (n : ℕ) (c : Change) (rest : List Change) → drop n log ≡ c ∷ rest → length log ≡ n + 1 + length rest
length_to [] zero c rest e = absurd (cc e)
length_to [] (suc n) c rest e = absurd (cc e)
length_to (x ∷ log) zero c rest e = let f : log ≡ rest = cc e in omega (arith, ap (length {A = Change}) f)
length_to (x ∷ log) (suc n) c rest e = omega (arith, length_to log n c rest e)

pub every_place : (P : Change → Type 0) (log : List Change) (k : ℕ) → Every P log → k < length log → P (get_or log k (0, 0))
every_place P [] k h l = absurd (omega arith)
every_place P (w ∷ log) zero h l = h.0
every_place P (w ∷ log) (suc k) h l = every_place P log k h.1 (omega arith)

-- ---- the next write

pub write_is : (set : TaskSet) (g : Course) (is_written : ℕ → Bool) (words : ℕ → List ℕ) (count : ℕ) (w : Writer) (c : Change) → IsWriting set g is_written words count w → c ≡ first_left g words w.job w.position → c ≡ write_number g count
write_is set g is_written words count w c h e =
    let s = some_left g words w.job w.position h.at in
    e ∙ sym (at_place (writes_of g) count (first_left g words w.job w.position) s.0 (h.left ∙ s.1))

pub some_more : (set : TaskSet) (g : Course) (is_written : ℕ → Bool) (words : ℕ → List ℕ) (count : ℕ) (w : Writer) → IsWriting set g is_written words count w → count < length (writes_of g)
some_more set g is_written words count w h =
    let s = some_left g words w.job w.position h.at in
    omega (arith, length_to (writes_of g) count (first_left g words w.job w.position) s.0 (h.left ∙ s.1))

pub left_then : (set : TaskSet) (g : Course) (is_written : ℕ → Bool) (words : ℕ → List ℕ) (count : ℕ) (w : Writer) (next : own.Position) → IsWriting set g is_written words count w → IsNextPosition g words w.job w.position next
    → drop (count + 1) (writes_of g) ≡ left g words w.job next
left_then set g is_written words count w next h n = behind_place (writes_of g) count (first_left g words w.job w.position) (left g words w.job next) (h.left ∙ n.left)

pub length_then : (set : TaskSet) (g : Course) (is_written : ℕ → Bool) (words : ℕ → List ℕ) (count : ℕ) (w : Writer) (next : own.Position) → IsWriting set g is_written words count w → IsNextPosition g words w.job w.position next
    → length (writes_of g) ≡ count + 1 + length (left g words w.job next)
length_then set g is_written words count w next h n = length_to (writes_of g) count (first_left g words w.job w.position) (left g words w.job next) (h.left ∙ n.left)

-- a write is on the device
pub write_fits : (g : Course) (is_written : ℕ → Bool) (words : ℕ → List ℕ) (job : Job) (count : ℕ) → IsBegun g is_written words job → count < length (writes_of g) → (write_number g count).0 < need_on g.device
write_fits g is_written words job count b l = every_place (λ c. c.0 < need_on g.device) (writes_of g) count (commit-low g.device.set (layout_on g.device) g.held g.commit (laid_out g is_written words job b) b.held b.next) l

-- the write that was looked up is on the device
pub looked_up_fits : (set : TaskSet) (g : Course) (is_written : ℕ → Bool) (words : ℕ → List ℕ) (count : ℕ) (w : Writer) (c : Change) (n : ℕ) → IsWriting set g is_written words count w → c ≡ first_left g words w.job w.position → need_on g.device ≤ n → c.0 < n
looked_up_fits set g is_written words count w c n h e l =
    let f : c.0 ≡ (write_number g count).0 = ap (λ (x : Change). x.0) (write_is set g is_written words count w c h e) in
    omega (arith, f, write_fits g is_written words w.job count h.begun (some_more set g is_written words count w h), l)

-- ---- the writer after it

pub then_writing : (set : TaskSet) (g : Course) (is_written : ℕ → Bool) (words : ℕ → List ℕ) (count : ℕ) (w : Writer) (next : own.Position) → IsWriting set g is_written words count w → IsNextPosition g words w.job w.position next → (next ≡ Done → ⊥)
    → IsWriting set g is_written words (count + 1) (record w { position = next }) × (count + 1 < length (writes_of g))
then_writing set g is_written words count w next h n d =
    let at = at_from g words w.job next n.at d in
    let s = some_left g words w.job next at in (
      record { set_is = h.set_is; begun = h.begun; left = left_then set g is_written words count w next h n; at = at },
      omega (arith, length_then set g is_written words count w next h n, ap (length {A = Change}) s.1),
    )

pub then_done : (set : TaskSet) (g : Course) (is_written : ℕ → Bool) (words : ℕ → List ℕ) (count : ℕ) (w : Writer) (next : own.Position) → IsWriting set g is_written words count w → IsNextPosition g words w.job w.position next → next ≡ Done
    → count + 1 ≡ length (writes_of g)
then_done set g is_written words count w next h n d =
    let none : left g words w.job next ≡ [] = ap (left g words w.job) d in
    omega (arith, length_then set g is_written words count w next h n, ap (length {A = Change}) none)
