-- The commit of a finish has begun, and the kernel stands for the tables in which the core saves it.
use Rattle.std.proofs.Common.{◌≡◌, ℕ, zero, suc, ◌+◌, ◌<◌, Bool, true, false, nat_eq, ◌||◌, List, [], ◌∷◌, set, get_or, length, Option, Some, None, refl, sym, ap, ◌∙◌, subst, arith, get_or-set_other, get_or-set_same}
use Rattle.std.specs.Prelude.{is_some}
use Rattle.std.specs.List.{list_any}
use Rattle.std.proofs.lemmas.Bool.{eqb-false, eqb-true}
use Rattle.std.proofs.lemmas.List.{length-set}
use Rattle.rv_core.specs.State.{MachineState}
use Rattle.nv_base.specs.declared.ids.TaskId.{TaskId}
use Rattle.nv_base.specs.declared.lines.Line.TheVariants as line
use Rattle.nv_base.specs.declared.lines.Spawn.{Spawn}
use Rattle.kernel_model.specs.Cores.{all_but}
use Rattle.kernel_model.specs.Items.{Entry, FinishRecord}
use Rattle.device_model.specs.Words.{Words}
use Rattle.device_model.specs.IndexWords.{Index}
use Rattle.device_model.specs.Decoding.{Held}
use Rattle.device_model.specs.Commits.{Commit}
use Rattle.device_model.specs.Devices.{Device, layout_on}
use Rattle.shadow_index.specs.declared.plan.Plan.{Plan}
use Rattle.shadow_index.specs.declared.state.State.{State}
use Rattle.shadow_index.specs.States.{HasRoom, KeepsRest, index_of}
use Rattle.commit_writer.specs.Afters.{IsAfter, IsGranted}
use Rattle.commit_writer.specs.Courses.{Course}
use Rattle.commit_writer.specs.Rooms.{IsFor as HasTables, IsTold, course_of}
use Rattle.commit_writer.specs.Turns.{IsWriting}
use Rattle.commit_writer.specs.declared.writer.Writer.{Writer}
use Rattle.table_machine.specs.Tables.{Copies, Runs, Saves, Seat, Tables, Vacant, Waits}
use Rattle.table_machine.specs.Seats.{SeatTurn, commit_of, held_in, saves}
use Rattle.recovery.specs.Images.{device_at}
use Rattle.vol_copy.specs.Tries.{IsFor}
use Rattle.vol_copy.specs.declared.attempt.Attempt.{Attempt}
use Rattle.validate.specs.declared.verdict.Verdict.TheVariants as answer
use Rattle.core_seats.specs.declared.seat.Seat as own
use Rattle.core_seats.specs.declared.seat.Saving.{Saving}
use Rattle.core_seats.specs.Holding.{AreSeats, StandsFor, StandsForBy}
use Rattle.core_seats.specs.Others.{saves_in}
use Rattle.core_seats.specs.Steps.{Grants}
use Rattle.kernel_core.specs.Commits.{IsCommitting, course_by, is_written_by, setting_on, words_by}
use Rattle.kernel_core.specs.Deciding.{IsVerdictOn}
use Rattle.kernel_core.specs.Keeping.{IsOn, IsPowered, IsSeatNumber, Keeps}
use Rattle.kernel_core.specs.Turns.{HasTurned, SeatTurns}
use Rattle.kernel_core.specs.declared.kernel.Kernel.{Kernel}
use Rattle.kernel_core.proofs.AtStage.{on}
use Rattle.kernel_core.proofs.Beginning.{granted_is, is_told, kept_seat, same_writes, some_writes}
use Rattle.kernel_core.proofs.Granted.{IsGrantedAt, after_at, granted_at, writes_at}
use Rattle.kernel_core.proofs.Turned.{all_set, seated, seated_tables, seats_length, seats_set}
use Rattle.kernel_core.proofs.Waiting.{IsReady, others_save}

-- ---- cores of which none saves a finish

-- they stand for the same seats, whatever index a finish would lead to
seats_stay : (seats : List own.Seat) (before after : Index) (held : List (Seat MachineState)) → AreSeats seats before held → saves_in seats ≡ false → AreSeats seats after held
seats_stay [] before after [] h e = tt
seats_stay [] before after (t ∷ held) h e = absurd h
seats_stay (s ∷ seats) before after [] h e = absurd h
seats_stay (s ∷ seats) before after (t ∷ held) h e = let one = at s.saving e h.0 in (one.0, seats_stay seats before after held h.1 one.1)
  where
    at : (v : Option Saving) → (is_some v || saves_in seats) ≡ false → StandsForBy s before v t → StandsForBy s after v t × (saves_in seats ≡ false)
    at None e h = (h, e)
    at (Some v) e h = absurd (cc e)

both_false : (a b : Bool) → (a || b) ≡ false → (a ≡ false) × (b ≡ false)
both_false true b e = absurd (cc e)
both_false false b e = (refl, e)

none_of : (held : List (Seat MachineState)) (m : ℕ) → list_any saves held ≡ false → saves (get_or held m Vacant) ≡ false
none_of [] m e = refl
none_of (t ∷ held) zero e = (both_false (saves t) (list_any saves held) e).0
none_of (t ∷ held) (suc m) e = none_of held m (both_false (saves t) (list_any saves held) e).1

none_saves : (held : List (Seat MachineState)) (n m : ℕ) → list_any saves (all_but n held) ≡ false → (m ≡ n → ⊥) → saves (get_or held m Vacant) ≡ false
none_saves [] n m e ne = refl
none_saves (t ∷ held) zero zero e ne = absurd (ne refl)
none_saves (t ∷ held) zero (suc m) e ne = none_of held m e
none_saves (t ∷ held) (suc n) zero e ne = (both_false (saves t) (list_any saves (all_but n held)) e).0
none_saves (t ∷ held) (suc n) (suc m) e ne = none_saves held n m (both_false (saves t) (list_any saves (all_but n held)) e).1 (λ same. ne (ap suc same))

-- ---- the kernel in which the commit has begun

abbrev pub begun : Kernel → ℕ → own.Seat → State → Writer → Kernel
begun k n s after w = record (seated k n s) { committed = record k.committed { after = after }; writer = w; saver = n }

-- the writer has all writes of the commit before it
writes_all : (k : Kernel) (words : Words) (t : Tables MachineState) (n : ℕ) (plan : Plan) (s new : own.Seat) (after : State) (w : Writer) → Keeps k words t → IsReady k n → (d : IsGrantedAt k words t n plan s)
    → new.attempt ≡ s.attempt → index_of after ≡ after_at k words t n d.finish → KeepsRest k.committed.state after
    → IsWriting k.set (course_of k.set k.committed.state.shift d.due.held (commit_of d.finish (after_at k words t n d.finish))) (is_written_by s) (words_by s) 0 w
    → IsCommitting k.set words (record k.committed { after = after }) w new t d.finish (after_at k words t n d.finish) (writes_at k words t n d.finish)
writes_all k words t n plan s new after w h g d same is rest writing =
    let o = on k words t h g.power in
    let next = after_at k words t n d.finish in
    let c = commit_of d.finish next in
    let x = setting_on k.set words in
    let on_device = subst (λ (y : Device). IsWriting k.set (let course : Course = record { device = y; held = d.due.held; commit = c } in course) (is_written_by s) (words_by s) 0 w) o.device writing in
    let of_new = subst (λ (a : Attempt). IsWriting k.set (course_by (device_at k.set words) d.due.held d.finish next) (is_written_by (record s { attempt = a })) (words_by (record s { attempt = a })) 0 w) (sym same) on_device in
    record {
      held = d.due.held;
      index = d.due.index ∙ o.index;
      root = d.due.root ∙ o.root;
      after_is = sym is;
      rest = rest;
      begun = of_new.begun;
      writes = same_writes (layout_on (device_at k.set words)) k.set d.due.held (held_in t) c d.due.index d.due.root;
      writing = λ some. (0, (let z : 0 + writes_at k words t n d.finish ≡ writes_at k words t n d.finish = omega arith in z), of_new);
    }

-- what a seat's finish that commits needs, if it saves one
abbrev IsCommittingBy : Kernel → Words → Tables MachineState → own.Seat → Seat MachineState → Type 0
IsCommittingBy k words t s Vacant = Unit {0}
IsCommittingBy k words t s (Runs a) = Unit {0}
IsCommittingBy k words t s (Copies a slot) = Unit {0}
IsCommittingBy k words t s (Waits a o) = Unit {0}
IsCommittingBy k words t s (Saves i after left) = IsCommitting k.set words k.committed k.writer s t i after left

-- it is the one of the core's new seat alone
commits_one : (k : Kernel) (words : Words) (t : Tables MachineState) (n : ℕ) (new : own.Seat) (after : State) (w : Writer) (seat : Seat MachineState) → n < length k.seats.items → length t.seats ≡ length k.seats.items → list_any saves (all_but n t.seats) ≡ false
    → IsCommittingBy (begun k n new after w) words (seated_tables t n seat) new seat
    → (m : ℕ) (x : own.Seat) (i : FinishRecord) (then_ : Index) (left : ℕ) → IsSeatNumber (set k.seats.items n new) m x → get_or (set t.seats n seat) m Vacant ≡ Saves i then_ left
    → IsCommitting k.set words (record k.committed { after = after }) w x (seated_tables t n seat) i then_ left
commits_one k words t n new after w seat inside long alone one m x i then_ left number e = at (nat_eq m n) refl
  where
    at : (b : Bool) → nat_eq m n ≡ b → IsCommitting k.set words (record k.committed { after = after }) w x (seated_tables t n seat) i then_ left
    at true b =
        let same : m ≡ n = eqb-true m n b in
        let here : seat ≡ Saves i then_ left = sym (get_or-set_same t.seats n seat Vacant (omega (arith, inside, long))) ∙ ap (λ (j : ℕ). get_or (set t.seats n seat) j Vacant) (sym same) ∙ e in
        let mine : x ≡ new = number.1 ∙ ap (λ (j : ℕ). get_or (set k.seats.items n new) j x) same ∙ get_or-set_same k.seats.items n new x inside in
        let moved = subst (IsCommittingBy (begun k n new after w) words (seated_tables t n seat) new) here one in
        subst (λ (y : own.Seat). IsCommitting k.set words (record k.committed { after = after }) w y (seated_tables t n seat) i then_ left) (sym mine) moved
    at false b =
        let other : m ≡ n → ⊥ = eqb-false m n b in
        let is : get_or t.seats m Vacant ≡ Saves i then_ left = sym (get_or-set_other t.seats n m seat Vacant other) ∙ e in
        let q : true ≡ false = sym (ap saves is) ∙ none_saves t.seats n m alone other in
        absurd (cc q)

keeps_on : (k : Kernel) (words : Words) (t : Tables MachineState) (n : ℕ) (plan : Plan) (s new : own.Seat) (after : State) (w : Writer) → Keeps k words t → (g : IsReady k n) → saves_in k.seats.items ≡ false → (d : IsGrantedAt k words t n plan s)
    → HasRoom k.set after → IsCommitting k.set words (record k.committed { after = after }) w new t d.finish (after_at k words t n d.finish) (writes_at k words t n d.finish)
    → IsOn (begun k n new after w) words (seated_tables t n (Saves d.finish (after_at k words t n d.finish) (writes_at k words t n d.finish)))
keeps_on k words t n plan s new after w h g alone d room one =
    let o = on k words t h g.power in
    let rooms = o.committed.rooms in
    record {
      power = o.power;
      boots = o.boots;
      index = o.index;
      root = o.root;
      chains = o.chains;
      committed = record {
        rooms = record { limits = rooms.limits; state = rooms.state; after = room; slots = rooms.slots; records = rooms.records };
        index = o.committed.index;
        queue = o.committed.queue;
      };
      shift = o.shift;
      device = o.device;
      commits = commits_one k words t n new after w (Saves d.finish (after_at k words t n d.finish) (writes_at k words t n d.finish)) g.inside
          (seats_length k.seats.items (index_of k.committed.after) t.seats h.seats) (others_save k words t n h g ∙ alone)
          (record { held = one.held; index = one.index; root = one.root; after_is = one.after_is; rest = one.rest; begun = one.begun; writes = one.writes; writing = one.writing });
    }

keeps_begun : (k : Kernel) (words : Words) (t : Tables MachineState) (n : ℕ) (plan : Plan) (s new : own.Seat) (after : State) (w : Writer) → Keeps k words t → (g : IsReady k n) → s ≡ get_or k.seats.items n s → saves_in k.seats.items ≡ false → (d : IsGrantedAt k words t n plan s)
    → HasRoom k.set after → HasTables k.set w.job → new.attempt ≡ s.attempt → StandsFor new (index_of after) (Saves d.finish (after_at k words t n d.finish) (writes_at k words t n d.finish))
    → IsCommitting k.set words (record k.committed { after = after }) w new t d.finish (after_at k words t n d.finish) (writes_at k words t n d.finish)
    → Keeps (begun k n new after w) words (seated_tables t n (Saves d.finish (after_at k words t n d.finish) (writes_at k words t n d.finish)))
keeps_begun k words t n plan s new after w h g at alone d room tables same stands one =
    let seat = Saves d.finish (after_at k words t n d.finish) (writes_at k words t n d.finish) in
    let kept = subst (IsFor k.set) (sym same) (kept_seat k words t n s h g at) in
    record {
      limits = h.limits;
      cores = length-set k.seats.items n new ∙ h.cores;
      few = let l = length-set k.seats.items n new in omega (arith, l, h.few);
      attempts = all_set (λ (x : own.Seat). IsFor k.set x.attempt) k.seats.items n new h.attempts kept;
      own = h.own;
      layout = h.layout;
      rooms = record { limits = h.rooms.limits; state = h.rooms.state; after = room; slots = h.rooms.slots; records = h.rooms.records };
      writer = tables;
      seats = seats_set k.seats.items (index_of after) t.seats n new seat (seats_stay k.seats.items (index_of k.committed.after) (index_of after) t.seats h.seats alone) stands;
      owed = h.owed;
      entries = h.entries;
      capacity = h.capacity;
      powered = subst (IsPowered (begun k n new after w) words (seated_tables t n seat)) (sym g.power) (keeps_on k words t n plan s new after w h g alone d room one);
    }

-- ---- the turn

pub begins : (k : Kernel) (n : ℕ) (plan : Plan) (s new : own.Seat) (spawns : List Spawn) (after : State) (w : Writer) → IsReady k n → s ≡ get_or k.seats.items n s → saves_in k.seats.items ≡ false → IsVerdictOn k n (answer.Granted plan)
    → spawns ≡ s.attempt.spawns → ((i : FinishRecord) → IsGranted plan spawns i → IsAfter plan k.committed.state i after) → HasRoom k.set after → KeepsRest k.committed.state after → HasTables k.set w.job
    → ((h : Held) (c : Commit) (is_written : ℕ → Bool) (words : ℕ → List ℕ) → IsTold k.set plan k.committed.state after h c is_written words → IsWriting k.set (course_of k.set k.committed.state.shift h c) is_written words 0 w)
    → new.attempt ≡ s.attempt → Grants s plan.granted new → SeatTurns k n (begun k n new after w) line.Nothing
unfolding SeatTurns Grants
begins k n plan s new spawns after w g at alone v spawned makes room rest tables writes same grants = λ words t h lawful.
    let d = granted_at k words t n plan s h lawful g at alone v in
    let next = after_at k words t n d.finish in
    let left = writes_at k words t n d.finish in
    let is = granted_is k words t n plan s spawns after h g d spawned makes in
    let told = is_told k words t n plan s spawns after h g at d spawned makes in
    let writing = writes d.due.held (commit_of d.finish next) (is_written_by s) (words_by s) told in
    let one = writes_all k words t n plan s new after w h g d same is rest writing in
    let some = some_writes (layout_on (device_at k.set words)) k.set (held_in t) (commit_of d.finish next) in
    let task : plan.granted.task ≡ s.attempt.task = ap (λ (j : ℕ). let y : TaskId = record { 0 = j } in y) (ap (λ (e : Entry). e.task) d.plan_is.entry ∙ d.task) in
    let stands = subst (λ (y : Index). StandsFor new y (Saves d.finish next left)) (sym is) (grants d.outcome d.finish next left d.ready (sym d.plan_is.entry) task d.run some) in
    subst (λ (u : SeatTurn MachineState). HasTurned (begun k n new after w) words t n u line.Nothing) (sym d.turn)
    (record { keeps = keeps_begun k words t n plan s new after w h g at alone d room tables same stands one; tells = refl })
