-- One write of a core's commit.
use Rattle.std.proofs.Common.{◌≡◌, ◌⊎◌, inl, inr, ⊎_elim, ℕ, zero, suc, ◌+◌, ◌-◌, ◌<◌, ◌≤◌, Bool, true, false, nat_eq, List, [], ◌∷◌, ◌++◌, length, set, get_or, slice_index, Some, refl, sym, ap, ◌∙◌, subst, arith, get_or-set_other, get_or-set_same}
use Rattle.std.specs.Global.{Vec}
use Rattle.object_sets.specs.ObjectSets.{is_among}
use Rattle.kernel_model.specs.Effects.{object_words}
use Rattle.std.specs.List.{AllByRecursion}
use Rattle.std.proofs.lemmas.Bool.{eqb-false, eqb-true}
use Rattle.std.proofs.lemmas.List.{length-append, length-set}
use Rattle.rv_core.specs.State.{MachineState}
use Rattle.nv_base.specs.declared.lines.Line.TheVariants as line
use Rattle.kernel_model.specs.Items.{FinishRecord}
use Rattle.kernel_model.specs.Cores.{all_but}
use Rattle.kernel_model.specs.Turns as turns
use Rattle.set_model.specs.Sets.{TaskSet}
use Rattle.fram_dev.specs.Device.{made_in}
use Rattle.fram_dev.proofs.MadeIn.{length-made_in, made_in-append}
use Rattle.device_model.specs.Words.{Change, Words, made}
use Rattle.device_model.specs.IndexWords.{Index}
use Rattle.device_model.specs.Devices.{need_on}
use Rattle.device_model.proofs.ForCallers.{image_by_place}
use Rattle.shadow_index.specs.States.{index_of}
use Rattle.table_machine.specs.Tables.{Seat, Vacant, Saves, Tables}
use Rattle.table_machine.specs.Seats.{seat_turn, writes_in}
use Rattle.table_machine.specs.Events.{Answer, joined, next_write, written_by}
use Rattle.recovery.specs.Images.{IsOwn, device_at, words_of}
use Rattle.shadow_index.specs.Tells.{IsLayoutOf, device_of}
use Rattle.vol_copy.specs.Tries.{IsFor}
use Rattle.vol_copy.specs.declared.attempt.Attempt.{Attempt}
use Rattle.commit_writer.specs.Courses.{Course, IsBegun, writes_of}
use Rattle.commit_writer.specs.Rooms.{IsFor as HasTables}
use Rattle.commit_writer.specs.declared.job.Job.{Job}
use Rattle.committed_state.specs.declared.committed.Committed.{Committed}
use Rattle.commit_writer.specs.Turns.{IsWriting, write_number}
use Rattle.commit_writer.specs.declared.writer.Writer.{Writer}
use Rattle.commit_writer.proofs.Advancing.{write_fits}
use Rattle.core_seats.specs.declared.seat.Seat as own
use Rattle.core_seats.specs.declared.seat.Saving.{Saving}
use Rattle.core_seats.specs.Holding.{AreSeats, IsSaving, StandsFor, StandsForBy}
use Rattle.core_seats.specs.Steps.{Completes}
use Rattle.kernel_core.specs.Commits.{IsCommitting, course_by, is_written_by, setting_on, words_by}
use Rattle.kernel_core.specs.Keeping.{IsOn, IsPowered, IsSeatNumber, Keeps}
use Rattle.kernel_core.specs.Turns.{CoreTurns, CoreWrites, HasMade, IsAnswered, IsSavingAt, answer_at, held_at}
use Rattle.kernel_core.specs.declared.kernel.Kernel.{Kernel}
use Rattle.kernel_core.specs.declared.kernel.Power.{Power}
use Rattle.kernel_core.specs.declared.kernel.Power.TheVariants as power
use Rattle.kernel_core.proofs.Turned.{all_at, all_set, seat_at, seated_tables, seats_length, seats_set}
use Rattle.kernel_core.proofs.Cutting.{same_place}
use Rattle.kernel_core.proofs.Represented.{first_word, one_saves}

-- with power on, what has committed is as the tables have it
pub on_saving : (k : Kernel) (words : Words) (t : Tables MachineState) (n : ℕ) (b : Bool) → Keeps k words t → IsSavingAt k n b → IsOn k words t
on_saving k words t n b h g = subst (IsPowered k words t) g.power h.powered

-- what the core stands for
pub saving_stands : (k : Kernel) (words : Words) (t : Tables MachineState) (n : ℕ) (b : Bool) → Keeps k words t → (g : IsSavingAt k n b) → IsSaving g.seat g.saving (index_of k.committed.after) (held_at t n)
saving_stands k words t n b h g = subst (λ v. StandsForBy g.seat (index_of k.committed.after) v (held_at t n)) g.saving_is (seat_at k.seats.items (index_of k.committed.after) t.seats n g.seat h.seats g.inside g.seat_is)

-- a number that is not 0
pub one_less : (n : ℕ) → 0 < n → (m : ℕ) × (n ≡ suc m)
one_less zero l = absurd (omega (arith, l))
one_less (suc m) l = (m, refl)

-- the commit under way, of which a write is left
pub record HasNext (k : Kernel) (words : Words) (t : Tables MachineState) (n : ℕ) (seat : own.Seat) : Type 0 where
  pub finish : FinishRecord
  pub left : ℕ
  pub held : held_at t n ≡ Saves finish (index_of k.committed.after) (suc left)
  pub committing : IsCommitting k.set words k.committed k.writer seat t finish (index_of k.committed.after) (suc left)

pub has_next : (k : Kernel) (words : Words) (t : Tables MachineState) (n : ℕ) → Keeps k words t → (g : IsSavingAt k n false) → HasNext k words t n g.seat
has_next k words t n h g =
    let s = saving_stands k words t n false h g in
    let less = one_less s.left (s.begun g.whole) in
    let held : held_at t n ≡ Saves s.finish (index_of k.committed.after) (suc less.0) = s.is ∙ ap (λ (m : ℕ). Saves s.finish (index_of k.committed.after) m) less.1 in
    record { finish = s.finish; left = less.0; held = held; committing = (on_saving k words t n false h g).commits n g.seat s.finish (index_of k.committed.after) (suc less.0) (g.inside, g.seat_is) held }

-- its answer
pub write_answer : (k : Kernel) (words : Words) (t : Tables MachineState) (n : ℕ) (i : FinishRecord) (after : Index) (left : ℕ) → held_at t n ≡ Saves i after (suc left)
    → answer_at k words t n ≡ record { tables = seated_tables t n (Saves i after left); writes = next_write (writes_in (setting_on k.set words) t i after) (suc left) ∷ []; line = turns.Nothing }
write_answer k words t n i after left e =
    let x = setting_on k.set words in
    let by : Seat MachineState → Answer MachineState = λ c. (let u = joined x c t in let turn = seat_turn x t words (all_but n t.seats) n c in record { tables = record u { seats = set u.seats n turn.seat }; writes = written_by x t c; line = turn.line }) in
    ap by e

-- the write is the writer's next one
pub next_is : (log : List Change) (count left : ℕ) → count + suc left ≡ length log → next_write log (suc left) ≡ get_or log count (0, 0)
next_is log count left e = let same : length log - suc left ≡ count = omega (arith, e) in ap (λ (n : ℕ). get_or log n (0, 0)) same

-- the words of a device after one write more
pub words_more : (start : List ℕ) (log more : List Change) (w : Change) → w.0 < length start → more ≡ log ++ w ∷ [] → words_of more start ≡ made (w ∷ []) (words_of log start)
words_more start log more w l e =
    ap (λ (ws : List Change). words_of ws start) e ∙ ap (λ (ws : List ℕ). slice_index ws) (made_in-append log (w ∷ []) start)
    ∙ image_by_place (w ∷ []) (made_in log start) (omega (arith, l, length-made_in log start), tt)

-- ---- the words are others, and word 0 is the same

same_committing : (set : TaskSet) (words later : Words) (c : Committed) (w : Writer) (s : own.Seat) (t : Tables MachineState) (i : FinishRecord) (after : Index) (left : ℕ) → later 0 ≡ words 0 → IsCommitting set words c w s t i after left → IsCommitting set later c w s t i after left
same_committing set words later c w s t i after left e h =
    let one : IsCommitting set (λ p. words 0) c w s t i after left = record { held = h.held; index = h.index; root = h.root; after_is = h.after_is; rest = h.rest; begun = h.begun; writes = h.writes; writing = h.writing } in
    let two : IsCommitting set (λ p. later 0) c w s t i after left = subst (λ (v : ℕ). IsCommitting set (λ p. v) c w s t i after left) (sym e) one in
    record { held = two.held; index = two.index; root = two.root; after_is = two.after_is; rest = two.rest; begun = two.begun; writes = two.writes; writing = two.writing }

-- the commit goes on, with one write less, and another seat of the same attempt
less_left : (set : TaskSet) (words : Words) (c : Committed) (v w : Writer) (s u : own.Seat) (t : Tables MachineState) (n count : ℕ) (seat : Seat MachineState) (i : FinishRecord) (after : Index) (left : ℕ) (h : IsCommitting set words c v s t i after (suc left)) → count + suc left ≡ length (writes_in (setting_on set words) t i after)
    → u.attempt ≡ s.attempt → w.job ≡ v.job
    → (0 < left → IsWriting set (course_by (device_at set words) h.held i after) (is_written_by s) (words_by s) (count + 1) w)
    → IsCommitting set words c w u (seated_tables t n seat) i after left
less_left set words c v w s u t n count seat i after left h number attempt job goes =
    let course = course_by (device_at set words) h.held i after in
    record {
      held = h.held;
      index = h.index;
      root = h.root;
      after_is = h.after_is;
      rest = h.rest;
      begun = subst (λ (j : Job). IsBegun course (is_written_by u) (words_by u) j) (sym job) (subst (λ (a : Attempt). IsBegun course (λ o. is_among o a.written) (object_words a.words) v.job) (sym attempt) h.begun);
      writes = h.writes;
      writing = λ l. (count + 1, omega (arith, number), subst (λ (a : Attempt). IsWriting set course (λ o. is_among o a.written) (object_words a.words) (count + 1) w) (sym attempt) (goes l));
    }

-- ---- the kernel after a write

-- the commit under way of the new seats
commit_at : (k : Kernel) (later : Words) (t : Tables MachineState) (n : ℕ) (w : Writer) (seats : List own.Seat) (s : own.Seat) (i : FinishRecord) (after : Index) (left : ℕ)
    → length t.seats ≡ length k.seats.items → n < length k.seats.items → seats ≡ set k.seats.items n s
    → ((m : ℕ) (j : FinishRecord) (y : Index) (b : ℕ) → held_at t m ≡ Saves j y b → m ≡ n)
    → IsCommitting k.set later k.committed w s (seated_tables t n (Saves i after left)) i after left
    → (m : ℕ) (x : own.Seat) (j : FinishRecord) (y : Index) (b : ℕ) → IsSeatNumber seats m x → get_or (set t.seats n (Saves i after left)) m Vacant ≡ Saves j y b
    → IsCommitting k.set later k.committed w x (seated_tables t n (Saves i after left)) j y b
commit_at k later t n w seats s i after left same inside e one h m x j y b number f = at (nat_eq m n) refl
  where
    seat : Seat MachineState
    seat = Saves i after left

    at : (d : Bool) → nat_eq m n ≡ d → IsCommitting k.set later k.committed w x (seated_tables t n seat) j y b
    at false d =
        let ne = eqb-false m n d in
        absurd (ne (one m j y b (sym (get_or-set_other t.seats n m seat Vacant ne) ∙ f)))
    at true d =
        let here : m ≡ n = eqb-true m n d in
        let at_n : get_or (set t.seats n seat) n Vacant ≡ Saves j y b = ap (λ (p : ℕ). get_or (set t.seats n seat) p Vacant) (sym here) ∙ f in
        let stands : Saves i after left ≡ Saves j y b = sym (get_or-set_same t.seats n seat Vacant (omega (arith, inside, same))) ∙ at_n in
        let item : i ≡ j = cc stands in
        let index : after ≡ y = cc stands in
        let count : left ≡ b = cc stands in
        let seat_is : s ≡ x = sym (number.1 ∙ ap (λ (xs : List own.Seat). get_or xs m x) e ∙ ap (λ (p : ℕ). get_or (set k.seats.items n s) p x) here ∙ get_or-set_same k.seats.items n s x inside) in
        subst (λ (z : own.Seat). IsCommitting k.set later k.committed w z (seated_tables t n seat) j y b) seat_is
        (subst (λ (z : ℕ). IsCommitting k.set later k.committed w s (seated_tables t n seat) j y z) count
        (subst (λ (z : Index). IsCommitting k.set later k.committed w s (seated_tables t n seat) j z left) index
        (subst (λ (z : FinishRecord). IsCommitting k.set later k.committed w s (seated_tables t n seat) z after left) item h)))

-- the kernel with these seats and this writer
abbrev pub writing_on : Kernel → Vec own.Seat → Writer → Kernel
writing_on k seats w = record k { seats = seats; writer = w }

written_on : (k : Kernel) (words later : Words) (t : Tables MachineState) (n : ℕ) (w : Writer) (seats : Vec own.Seat) (s : own.Seat) (i : FinishRecord) (after : Index) (left : ℕ)
    → Keeps k words t → IsOn k words t → n < length k.seats.items → seats.items ≡ set k.seats.items n s → later 0 ≡ words 0
    → ((m : ℕ) (j : FinishRecord) (y : Index) (b : ℕ) → held_at t m ≡ Saves j y b → m ≡ n)
    → IsCommitting k.set later k.committed w s (seated_tables t n (Saves i after left)) i after left
    → IsOn (writing_on k seats w) later (seated_tables t n (Saves i after left))
written_on k words later t n w seats s i after left h o inside e first one c = record {
  power = o.power;
  boots = o.boots;
  index = o.index;
  root = o.root;
  chains = o.chains;
  committed = o.committed;
  shift = o.shift;
  device = subst (λ (v : ℕ). device_of k.set k.committed.state.shift ≡ device_at k.set (λ p. v)) (sym first) o.device;
  commits = commit_at k later t n w seats.items s i after left (seats_length k.seats.items (index_of k.committed.after) t.seats h.seats) inside e one c;
}

powered : (k : Kernel) (words later : Words) (t : Tables MachineState) (p : Power) → p ≡ power.On → IsOn k later t → IsPowered k later t p
powered k words later t power.On e o = o
powered k words later t (power.Boot b) e o = absurd (cc e)

pub written_keeps : (k : Kernel) (words later : Words) (t : Tables MachineState) (n : ℕ) (w : Writer) (seats : Vec own.Seat) (s : own.Seat) (i : FinishRecord) (after : Index) (left : ℕ)
    → Keeps k words t → k.power ≡ power.On → IsOn k words t → n < length k.seats.items → seats.items ≡ set k.seats.items n s → later 0 ≡ words 0
    → IsFor k.set s.attempt → StandsFor s (index_of k.committed.after) (Saves i after left) → w.job ≡ k.writer.job
    → ((m : ℕ) (j : FinishRecord) (y : Index) (b : ℕ) → held_at t m ≡ Saves j y b → m ≡ n)
    → IsCommitting k.set later k.committed w s (seated_tables t n (Saves i after left)) i after left
    → Keeps (writing_on k seats w) later (seated_tables t n (Saves i after left))
written_keeps k words later t n w seats s i after left h on o inside e first kept stands job one c = record {
  limits = h.limits;
  cores = ap length e ∙ length-set k.seats.items n s ∙ h.cores;
  few = let l = ap length e ∙ length-set k.seats.items n s in let f = h.few in omega (arith, l, f);
  attempts = subst (λ (xs : List own.Seat). AllByRecursion (λ (x : own.Seat). IsFor k.set x.attempt) xs) (sym e) (all_set (λ (x : own.Seat). IsFor k.set x.attempt) k.seats.items n s h.attempts kept);
  own = subst (λ (v : ℕ). IsOwn k.set (λ p. v)) (sym first) h.own;
  layout = subst (λ (v : ℕ). IsLayoutOf (device_at k.set (λ p. v)) k.layout) (sym first) h.layout;
  rooms = h.rooms;
  writer = subst (λ (j : Job). HasTables k.set j) (sym job) h.writer;
  seats = subst (λ (xs : List own.Seat). AreSeats xs (index_of k.committed.after) (set t.seats n (Saves i after left))) (sym e) (seats_set k.seats.items (index_of k.committed.after) t.seats n s (Saves i after left) h.seats stands);
  owed = h.owed;
  entries = h.entries;
  capacity = h.capacity;
  powered = powered (writing_on k seats w) words later (seated_tables t n (Saves i after left)) k.power on (written_on k words later t n w seats s i after left h o inside e first one c);
}

-- ---- the turn

-- what the writer and the seat are after the write, with so many left behind it
pub record Goes (set : TaskSet) (w : Writer) (old new : own.Seat) (x : Course) (count left : ℕ) : Type 0 where
  pub writing : 0 < left → IsWriting set x (is_written_by old) (words_by old) (count + 1) w
  pub stands : (i : FinishRecord) (after : Index) → StandsFor old after (Saves i after (suc left)) → StandsFor new after (Saves i after left)

-- the log by the writer
abbrev pub Logs : (set : TaskSet) (v : Writer) (seat : own.Seat) (log more : List Change) → Type 0
Logs set v seat log more = (x : Course) (count : ℕ) → IsWriting set x (is_written_by seat) (words_by seat) count v → more ≡ log ++ write_number x count ∷ []

-- the write of the tables is the writer's
writes_are : (k : Kernel) (words : Words) (t : Tables MachineState) (n : ℕ) (seat : own.Seat) (c : HasNext k words t n seat) (count : ℕ) → count + suc c.left ≡ length (writes_in (setting_on k.set words) t c.finish (index_of k.committed.after))
    → (answer_at k words t n).writes ≡ write_number (course_by (device_at k.set words) c.committing.held c.finish (index_of k.committed.after)) count ∷ []
writes_are k words t n seat c count e =
    let log = writes_in (setting_on k.set words) t c.finish (index_of k.committed.after) in
    ap (λ (a : Answer MachineState). a.writes) (write_answer k words t n c.finish (index_of k.committed.after) c.left c.held)
    ∙ ap (λ (w : Change). w ∷ []) (next_is log count c.left e ∙ ap (λ (ws : List Change). get_or ws count (0, 0)) (sym c.committing.writes))

-- it is made
write_made : (k : Kernel) (n : ℕ) (g : IsSavingAt k n false) (start : List ℕ) (log more : List Change) (t : Tables MachineState) → need_on (device_at k.set (words_of log start)) ≤ length start → Logs k.set k.writer g.seat log more → Keeps k (words_of log start) t
    → HasMade (answer_at k (words_of log start) t n).writes (words_of log start) (words_of more start) log more
write_made k n g start log more t room logs h =
    let words = words_of log start in
    let after = index_of k.committed.after in
    let c = has_next k words t n h g in
    let v = c.committing.writing (omega arith) in
    let count = v.0 in
    let x = course_by (device_at k.set words) c.committing.held c.finish after in
    let number : count + suc c.left ≡ length (writes_of x) = v.1 ∙ ap length (sym c.committing.writes) in
    let change = write_number x count in
    let fits : change.0 < length start = let m = write_fits x (is_written_by g.seat) (words_by g.seat) k.writer.job count c.committing.begun (omega (arith, number)) in omega (arith, m, room) in
    let same = sym (writes_are k words t n g.seat c count v.1) in
    record {
      logged = logs x count v.2 ∙ ap (λ (ws : List Change). log ++ ws) same;
      words_are = words_more start log more change fits (logs x count v.2) ∙ ap (λ (ws : List Change). made ws words) same;
    }

pub turn_writes : (k : Kernel) (n : ℕ) (g : IsSavingAt k n false) (start : List ℕ) (log more : List Change) → need_on (device_at k.set (words_of log start)) ≤ length start → Logs k.set k.writer g.seat log more → CoreWrites k n (words_of log start) (words_of more start) log more
unfolding CoreWrites
turn_writes k n g start log more room logs = λ t h l. write_made k n g start log more t room logs h

-- the kernel stands for the tables after the write
pub turn_turns : (k : Kernel) (n : ℕ) (g : IsSavingAt k n false) (w : Writer) (seats : Vec own.Seat) (s : own.Seat) (start : List ℕ) (log more : List Change)
    → seats.items ≡ set k.seats.items n s → s.attempt ≡ g.seat.attempt → w.job ≡ k.writer.job
    → need_on (device_at k.set (words_of log start)) ≤ length start → Logs k.set k.writer g.seat log more
    → ((x : Course) (count left : ℕ) → IsWriting k.set x (is_written_by g.seat) (words_by g.seat) count k.writer → count + suc left ≡ length (writes_of x) → Goes k.set w g.seat s x count left)
    → CoreTurns k n (writing_on k seats w) (words_of log start) (words_of more start) line.Nothing
unfolding CoreTurns
turn_turns k n g w seats s start log more e attempt job room logs goes = λ t h l.
    let words = words_of log start in
    let later = words_of more start in
    let after = index_of k.committed.after in
    let o = on_saving k words t n false h g in
    let c = has_next k words t n h g in
    let v = c.committing.writing (omega arith) in
    let count = v.0 in
    let x = course_by (device_at k.set words) c.committing.held c.finish after in
    let number : count + suc c.left ≡ length (writes_of x) = v.1 ∙ ap length (sym c.committing.writes) in
    let go = goes x count c.left v.2 number in
    let first : later 0 ≡ words 0 = ap (λ (f : Words). f 0) (write_made k n g start log more t room logs h).words_are ∙ first_word k words t n h.limits l o.power in
    let kept = subst (IsFor k.set) (sym attempt) (all_at (λ (z : own.Seat). IsFor k.set z.attempt) k.seats.items n g.seat h.attempts g.inside g.seat_is) in
    let old = subst (StandsFor g.seat after) c.held (seat_at k.seats.items after t.seats n g.seat h.seats g.inside g.seat_is) in
    let less = less_left k.set words k.committed k.writer w g.seat s t n count (Saves c.finish after c.left) c.finish after c.left c.committing v.1 attempt job go.writing in
    let there = same_committing k.set words later k.committed w s (seated_tables t n (Saves c.finish after c.left)) c.finish after c.left first less in
    let one : (m : ℕ) (j : FinishRecord) (y : Index) (b : ℕ) → held_at t m ≡ Saves j y b → m ≡ n = λ m j y b f. one_saves k words t l o.power n m c.finish j after y (suc c.left) b c.held f in
    subst (λ (a : Answer MachineState). IsAnswered (writing_on k seats w) later a line.Nothing) (sym (write_answer k words t n c.finish after c.left c.held))
    (record { keeps = written_keeps k words later t n w seats s c.finish after c.left h g.power o g.inside e first kept (go.stands c.finish after old) job one there; tells = refl })

-- ---- the exits

-- a write was made, and more are left: the seat goes on
pub goes_on : (set : TaskSet) (v w : Writer) (seat : own.Seat) (saving : Saving) → seat.saving ≡ Some saving → saving.is_whole ≡ false
    → ((x : Course) (count : ℕ) → IsWriting set x (is_written_by seat) (words_by seat) count v → IsWriting set x (is_written_by seat) (words_by seat) (count + 1) w × (count + 1 < length (writes_of x)))
    → (x : Course) (count left : ℕ) → IsWriting set x (is_written_by seat) (words_by seat) count v → count + suc left ≡ length (writes_of x) → Goes set w seat seat x count left
goes_on set v w seat saving e f more x count left h number =
    let m = more x count h in
    record { writing = λ l. m.0; stands = λ i after s. subst (λ u. StandsForBy seat after u (Saves i after left)) (sym e) (on i after (let l = m.1 in omega (arith, l, number)) (subst (λ u. StandsForBy seat after u (Saves i after (suc left))) e s)) }
  where
    on : (i : FinishRecord) (after : Index) → 0 < left → IsSaving seat saving after (Saves i after (suc left)) → IsSaving seat saving after (Saves i after left)
    on i after l s = let item : i ≡ s.finish = cc s.is in record {
      finish = s.finish;
      left = left;
      is = ap (λ (j : FinishRecord). Saves j after left) item;
      whole = λ b. absurd (let no : true ≡ false = sym b ∙ f in cc no);
      begun = λ b. l;
      entry = s.entry;
      outcome = s.outcome;
      ended = s.ended;
      task = s.task;
      run = s.run;
    }

-- the last write was made
pub goes_whole : (set : TaskSet) (v w : Writer) (seat new : own.Seat) → Completes seat new
    → ((x : Course) (count : ℕ) → IsWriting set x (is_written_by seat) (words_by seat) count v → count + 1 ≡ length (writes_of x))
    → (x : Course) (count left : ℕ) → IsWriting set x (is_written_by seat) (words_by seat) count v → count + suc left ≡ length (writes_of x) → Goes set w seat new x count left
unfolding Completes
goes_whole set v w seat new completes last x count left h number =
    let m = last x count h in
    let none : left ≡ 0 = omega (arith, m, number) in
    record { writing = λ l. absurd (omega (arith, l, none)); stands = λ i after s. subst (λ (z : ℕ). StandsFor new after (Saves i after z)) (sym none) (completes i after (suc left) s) }

-- the same step by another name of the core's seat
abbrev pub by_seat : (k : Kernel) (n at : ℕ) (b : Bool) (seat : own.Seat) → IsSavingAt k n b → at ≡ n → seat ≡ get_or k.seats.items at seat → IsSavingAt k n b
by_seat k n at b seat g e f =
    let here : seat ≡ get_or k.seats.items n seat = f ∙ ap (λ (m : ℕ). get_or k.seats.items m seat) e in
    let same : seat ≡ g.seat = here ∙ same_place k.seats.items n seat g.seat g.inside ∙ sym g.seat_is in
    record { power = g.power; inside = g.inside; seat = seat; seat_is = here; saving = g.saving; saving_is = ap (λ (s : own.Seat). s.saving) same ∙ g.saving_is; whole = g.whole }

pub one_saving : (s : own.Seat) (v w : Saving) → s.saving ≡ Some v → s.saving ≡ Some w → v.is_whole ≡ w.is_whole
one_saving s v w p q = let same : v ≡ w = cc (sym p ∙ q) in ap (λ (x : Saving). x.is_whole) same

-- and by another name of its finish
abbrev pub by_saving : (k : Kernel) (n at : ℕ) (b : Bool) (seat : own.Seat) (saving : Saving) → IsSavingAt k n b → at ≡ n → seat ≡ get_or k.seats.items at seat → seat.saving ≡ Some saving → IsSavingAt k n b
by_saving k n at b seat saving g e f p =
    let h = by_seat k n at b seat g e f in
    record { power = h.power; inside = h.inside; seat = seat; seat_is = h.seat_is; saving = saving; saving_is = p; whole = one_saving seat saving h.saving p h.saving_is ∙ h.whole }

-- two names of the core's seat
pub one_seat : (k : Kernel) (n at : ℕ) (b : Bool) (x y : own.Seat) → IsSavingAt k n b → at ≡ n → x ≡ get_or k.seats.items at x → y ≡ get_or k.seats.items at y → x ≡ y
one_seat k n at b x y g e p q = p ∙ same_place k.seats.items at x y (let l = g.inside in omega (arith, l, e)) ∙ sym q

pub one_place : (xs : List own.Seat) (n at : ℕ) (x y : own.Seat) → n < length xs → at ≡ n → x ≡ get_or xs n x → y ≡ get_or xs at y → x ≡ y
one_place xs n at x y l e p q = p ∙ same_place xs n x y l ∙ sym (q ∙ ap (λ (m : ℕ). get_or xs m y) e)

-- the log of a call that was lost
longer : (log : List Change) (w : Change) → log ++ w ∷ [] ≡ log → ⊥
longer log w e = let l = ap length e in let m = length-append log (w ∷ []) in absurd (omega (arith, l, m))

pub turn_lost : (k : Kernel) (t : Tables MachineState) (n : ℕ) (g : IsSavingAt k n false) (start : List ℕ) (log more : List Change) → Keeps k (words_of log start) t → need_on (device_at k.set (words_of log start)) ≤ length start
    → ((x : Course) (count : ℕ) → IsWriting k.set x (is_written_by g.seat) (words_by g.seat) count k.writer → (more ≡ log) ⊎ (more ≡ log ++ write_number x count ∷ []))
    → (more ≡ log) ⊎ CoreWrites k n (words_of log start) (words_of more start) log more
turn_lost k t n g start log more h room either =
    let words = words_of log start in
    let c = has_next k words t n h g in
    let v = c.committing.writing (omega arith) in
    let x = course_by (device_at k.set words) c.committing.held c.finish (index_of k.committed.after) in
    ⊎_elim (λ same. inl same) (λ grown. inr (turn_writes k n g start log more room (λ y m w. ⊎_elim (λ same. absurd (longer log (write_number x v.0) (sym grown ∙ same))) (λ r. r) (either y m w)))) (either x v.0 v.2)

-- a write is left
pub write_left : (k : Kernel) (words : Words) (t : Tables MachineState) (n : ℕ) (g : IsSavingAt k n false) (long : ℕ) → Keeps k words t → need_on (device_at k.set words) ≤ long
    → (x : Course) × (count : ℕ) × IsWriting k.set x (is_written_by g.seat) (words_by g.seat) count k.writer × (need_on x.device ≤ long)
write_left k words t n g long h room =
    let c = has_next k words t n h g in
    let v = c.committing.writing (omega arith) in
    (course_by (device_at k.set words) c.committing.held c.finish (index_of k.committed.after), v.0, v.2, room)
