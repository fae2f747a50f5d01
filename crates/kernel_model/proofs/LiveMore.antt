-- The first state of the machine of calls, the records, and a caller alone.
use Rattle.std.proofs.Common.{◌≡◌, ℕ, zero, suc, ◌<◌, ◌≤◌, Bool, true, false, cond, leb, List, [], ◌∷◌, ◌++◌, get_or, set, length, replicate, Option, Some, None, refl, sym, ◌∙◌, subst, arith}
use Rattle.std.specs.Prelude.{unwrap_or}
use Rattle.std.specs.List.{AllByRecursion}
use Rattle.std.proofs.lemmas.Bool.{leb-true}
use Rattle.std.proofs.lemmas.List.{get_or-set_same}
use Rattle.kernel_model.specs.Sizes.{Sizes}
use Rattle.kernel_model.specs.Effects.{Objects, Programs, Run, Spawn}
use Rattle.kernel_model.specs.Items.{FinishRecord}
use Rattle.kernel_model.specs.Replay.{DeviceState, TaskRec, after_history, max_id, tables_of, task_under, clock_of, next_id}
use Rattle.kernel_model.specs.Serial.{InIdOrder}
use Rattle.kernel_model.specs.Versions.{Read, Version, chosen, versions}
use Rattle.kernel_model.specs.Intervals.{Interval, finish_interval, is_empty, read_interval}
use Rattle.kernel_model.specs.OpenTasks.{open_tasks}
use Rattle.kernel_model.specs.Cores.{Idle, all_but, next_task}
use Rattle.kernel_model.specs.Room.{without_room}
use Rattle.kernel_model.specs.Verdicts.{finish_of, Empty, Granted, Records, has_records, room_verdict}
use Rattle.kernel_model.specs.Live.{Answer, Begun, IsStale, Limit, CallState, Mark, attempt_of, begin_answer, begin_call, cores_of, fetch_answer, fetch_call, finish_answer, finish_call, marked}
use Rattle.kernel_model.specs.Fit.{HasOldTasks, IsSizes}
use Rattle.kernel_model.specs.History.{IsAttempt, IsHistory, IsNumbered}
use Rattle.kernel_model.specs.LiveSound.{IsLiveState}
use Rattle.kernel_model.specs.LiveAlone.{HasNoEnd, HoldsAlone, IsUnmetAnswer}
use Rattle.kernel_model.proofs.AloneLaws.{newest, newest-found, not_empty, room_alone}
use Rattle.kernel_model.proofs.Growth.{attempt_grows, next_task-open, task_under-open}
use Rattle.kernel_model.proofs.OpenLaws.{length-open_tasks, open_order}
use Rattle.kernel_model.proofs.Points.{raised_for-hi}
use Rattle.kernel_model.proofs.Soundness.{still_open}

pub no_marks : (n k : ℕ) → (let none : Option Mark = None in get_or (replicate n none) k none ≡ none)
no_marks zero k = refl
no_marks (suc n) zero = refl
no_marks (suc n) (suc k) = no_marks n k

-- before the first call
pub first_live : (whole : Programs) (base : DeviceState) (callers limit : ℕ) → IsLiveState whole base (record { history = []; marks = replicate callers None; loss = None; limit = limit })
first_live whole base callers limit = record {
  history = record { replays = tt; numbered = (tt, tt); ordered = tt; timely = tt };
  marks = λ k. let e = no_marks callers k in rw e tt;
  one_holds = λ j k t e f. absurd (let a = no_marks callers j in let b = rw a at e in cc b);
}

-- an attempt goes on when other tasks' finishes join
pub attempt_far : (whole : Programs) (base : DeviceState) (newer history : List FinishRecord) → IsNumbered base (newer ++ history) → (task start : ℕ) (reads : List Read) (rest : Objects → Run) → AllByRecursion (λ x. task ≡ x.task → ⊥) newer →
    IsAttempt whole base history task start reads rest → IsAttempt whole base (newer ++ history) task start reads rest
attempt_far whole base [] history n task start reads rest ne a = a
attempt_far whole base (i ∷ newer) history n task start reads rest ne a =
    attempt_grows whole base i (newer ++ history) n task start reads rest ne.0 (attempt_far whole base newer history (n.0.2, n.1.1) task start reads rest ne.1 a)

-- a begin and a fetch leave the history
pub begin_history : (base : DeviceState) (s : CallState) (n : ℕ) → (begin_call base s n s.loss).0.history ≡ s.history
begin_history base s n = by s.loss
  where
    at : (o : Option TaskRec) → (begin_answer base s n o).0.history ≡ s.history
    at None = refl
    at (Some t) = refl

    by : (loss : Option ℕ) → (begin_call base s n loss).0.history ≡ s.history
    by (Some losses) = refl
    by None = elim (leb s.limit (length s.history)) as (λ b. (cond b (s, Limit) (begin_answer base s n (next_task (cores_of s.marks) (open_tasks base s.history)))).0.history ≡ s.history) [ true ↦ refl | false ↦ at (next_task (cores_of s.marks) (open_tasks base s.history)) ]

pub fetch_history : (base : DeviceState) (s : CallState) (n : ℕ) (m : Mark) (o : ℕ) (device : Option ℕ) → (fetch_call base s n m o s.loss device).0.history ≡ s.history
fetch_history base s n m o device = by s.loss
  where
    i : Interval
    i = read_interval base s.history m.start m.reads

    at : (v : Option Version) (device : Option ℕ) → (fetch_answer s n m o v device).0.history ≡ s.history
    at v (Some losses) = refl
    at None None = refl
    at (Some v) None = refl

    by : (loss : Option ℕ) → (fetch_call base s n m o loss device).0.history ≡ s.history
    by (Some losses) = refl
    by None = elim (is_empty i) as (λ b. (cond b (marked s n None, IsStale i.lo (unwrap_or i.hi 0)) (fetch_answer s n m o (chosen i.hi (versions base o s.history)) device)).0.history ≡ s.history) [ true ↦ refl | false ↦ at (chosen i.hi (versions base o s.history)) device ]

-- a granted finish finds a record for each of its spawns
pub finish_records : (whole : Programs) (sizes : Sizes) (base : DeviceState) → HasOldTasks base → InIdOrder base.tasks → (s : CallState) → IsHistory whole base s.history → next_id base s.history ≤ max_id → length (open_tasks base s.history) ≤ sizes.records →
    (n : ℕ) (m : Mark) (run : Run) → IsAttempt whole base s.history m.task m.start m.reads (λ x. run) → (device : Option ℕ) → length (open_tasks base (finish_call sizes base s n m run s.loss device).0.history) ≤ sizes.records
finish_records whole sizes base old order s h l r n m run a device = by_loss s.loss
  where
    item : FinishRecord
    item = finish_of base s.history m.task m.start m.reads run

    i : Interval
    i = finish_interval base s.history m.start m.reads run

    open_now : task_under (open_tasks base s.history) m.task ≡ Some a.spawn
    open_now = task_under-open base s.history h.numbered l m.task ∙ subst (λ (x : List FinishRecord). (after_history x (tables_of base)).tasks m.task ≡ Some a.spawn) (sym a.split) (still_open m.task a.spawn (tables_of base) a.newer a.older a.not_since a.was_open)

    granted : has_records sizes base s.history run.spawns ≡ true → (device : Option ℕ) → length (open_tasks base (finish_answer s n (Granted item) device).0.history) ≤ sizes.records
    granted f (Some losses) = r
    granted f None = omega (arith, leb-true _ _ f, length-open_tasks base item s.history (open_order base old order s.history h.numbered) a.spawn open_now)

    by_records : (b : Bool) → has_records sizes base s.history run.spawns ≡ b → length (open_tasks base (finish_answer s n (cond b (Granted item) (Records (length (open_tasks base s.history)) (length run.spawns))) device).0.history) ≤ sizes.records
    by_records true f = granted f device
    by_records false f = r

    by_room : (o : Option ℕ) → length (open_tasks base (finish_answer s n (room_verdict sizes base s.history (attempt_of m) run o) device).0.history) ≤ sizes.records
    by_room (Some o) = r
    by_room None = by_records (has_records sizes base s.history run.spawns) refl

    by_empty : (b : Bool) (o : Option ℕ) → length (open_tasks base (finish_answer s n (cond b (Empty i.lo (unwrap_or i.hi 0)) (room_verdict sizes base s.history (attempt_of m) run o)) device).0.history) ≤ sizes.records
    by_empty true o = r
    by_empty false o = by_room o

    by_loss : (loss : Option ℕ) → length (open_tasks base (finish_call sizes base s n m run loss device).0.history) ≤ sizes.records
    by_loss (Some losses) = r
    by_loss None = by_empty (is_empty i) (without_room sizes base s.history (cores_of (all_but n s.marks)) run.writes)

-- the mark of a task that begins
pub begun_mark : (base : DeviceState) (s : CallState) (n : ℕ) → n < length s.marks → (t : TaskRec) → (begin_call base s n s.loss).1 ≡ Begun t →
    (task_under (open_tasks base s.history) t.id ≡ Some (record { program = t.program; arg = t.arg }))
    × (get_or (begin_call base s n s.loss).0.marks n None ≡ Some (record { task = t.id; start = clock_of base s.history; reads = [] }))
begun_mark base s n l t e = by s.loss e
  where
    Says : CallState × Answer → Type 0
    Says a = a.1 ≡ Begun t → (task_under (open_tasks base s.history) t.id ≡ Some (let spawn : Spawn = record { program = t.program; arg = t.arg } in spawn)) × (get_or a.0.marks n None ≡ Some (let m : Mark = record { task = t.id; start = clock_of base s.history; reads = [] } in m))

    at : (o : Option TaskRec) → next_task (cores_of s.marks) (open_tasks base s.history) ≡ o → Says (begin_answer base s n o)
    at None f g = absurd (cc g)
    at (Some u) f g =
        let same : u ≡ t = cc in
        subst (λ (x : TaskRec). (task_under (open_tasks base s.history) x.id ≡ Some (let spawn : Spawn = record { program = x.program; arg = x.arg } in spawn)) × (get_or (marked s n (Some (let m : Mark = record { task = u.id; start = clock_of base s.history; reads = [] } in m))).marks n None ≡ Some (let m : Mark = record { task = x.id; start = clock_of base s.history; reads = [] } in m))) same
        ((next_task-open (cores_of s.marks) (open_tasks base s.history) u f).0, get_or-set_same s.marks n _ None l)

    by : (loss : Option ℕ) → Says (begin_call base s n loss)
    by (Some losses) = λ g. absurd (cc g)
    by None = elim (leb s.limit (length s.history)) as (λ b. Says (cond b (s, Limit) (begin_answer base s n (next_task (cores_of s.marks) (open_tasks base s.history))))) [ true ↦ (λ g. absurd (cc g)) | false ↦ at (next_task (cores_of s.marks) (open_tasks base s.history)) refl ]

-- an attempt that saw nothing end is not stale
pub fetch_unmet : (base : DeviceState) (s : CallState) (n : ℕ) (m : Mark) (o : ℕ) (device : Option ℕ) → HasNoEnd base s.history m → IsUnmetAnswer (fetch_call base s n m o s.loss device).1
fetch_unmet base s n m o device h = by s.loss
  where
    i : Interval
    i = read_interval base s.history m.start m.reads

    at : (v : Option Version) (device : Option ℕ) → IsUnmetAnswer (fetch_answer s n m o v device).1
    at v (Some losses) = tt
    at None None = tt
    at (Some v) None = tt

    by : (loss : Option ℕ) → IsUnmetAnswer (fetch_call base s n m o loss device).1
    by (Some losses) = tt
    by None = rw (not_empty i h) (at (chosen i.hi (versions base o s.history)) device)

-- and goes on with a version that has not ended
pub fetch_no_end : (base : DeviceState) (s : CallState) (n : ℕ) (m : Mark) (o : ℕ) (device : Option ℕ) → n < length s.marks → get_or s.marks n None ≡ Some m → HasNoEnd base s.history m →
    (after : Mark) → get_or (fetch_call base s n m o s.loss device).0.marks n None ≡ Some after → HasNoEnd base s.history after
fetch_no_end base s n m o device l own h after e = by s.loss e
  where
    i : Interval
    i = read_interval base s.history m.start m.reads

    Says : CallState × Answer → Type 0
    Says a = get_or a.0.marks n None ≡ Some after → HasNoEnd base s.history after

    gone : get_or (set s.marks n None) n None ≡ Some after → HasNoEnd base s.history after
    gone g = absurd (let k = get_or-set_same s.marks n None None l in cc (k, g))

    more : (v : Version) → chosen None (versions base o s.history) ≡ Some v → HasNoEnd base s.history (record m { reads = record { object = o; writer = v.writer } ∷ m.reads })
    more v f = let k = newest base o s.history v f in let g = newest-found (versions base o s.history) v f in rw g (rw k.0 h)

    at : (v : Option Version) → chosen None (versions base o s.history) ≡ v → (device : Option ℕ) → Says (fetch_answer s n m o v device)
    at v f (Some losses) g = gone g
    at None f None g = let same : m ≡ after = cc (own, g) in subst (HasNoEnd base s.history) same h
    at (Some v) f None g =
        let k = get_or-set_same s.marks n (Some (record m { reads = record { object = o; writer = v.writer } ∷ m.reads })) None l in
        let same : record m { reads = record { object = o; writer = v.writer } ∷ m.reads } ≡ after = cc (k, g) in
        subst (HasNoEnd base s.history) same (more v f)

    by : (loss : Option ℕ) → Says (fetch_call base s n m o loss device)
    by (Some losses) = gone
    by None = rw (not_empty i h) (rw h (at (chosen None (versions base o s.history)) refl device))

alone_cores : (marks : List (Option Mark)) (n : ℕ) → HoldsAlone n marks → (k : ℕ) → get_or (cores_of (all_but n marks)) k Idle ≡ Idle
alone_cores [] n h k = refl
alone_cores (m ∷ marks) zero h k = idle marks (λ j. h (suc j) (λ e. absurd (omega (arith, e)))) k
  where
    idle : (marks : List (Option Mark)) → ((j : ℕ) → get_or marks j None ≡ None) → (k : ℕ) → get_or (cores_of marks) k Idle ≡ Idle
    idle [] h k = refl
    idle (m ∷ marks) h zero = let e = h 0 in rw e refl
    idle (m ∷ marks) h (suc k) = idle marks (λ j. h (suc j)) k
alone_cores (m ∷ marks) (suc n) h zero = let e = h 0 (λ f. absurd (omega (arith, f))) in rw e refl
alone_cores (m ∷ marks) (suc n) h (suc k) = alone_cores marks n (λ j ne. h (suc j) (λ e. ne (omega (arith, e)))) k

-- a caller alone is refused for records at most
pub finish_unmet : (sizes : Sizes) → IsSizes sizes → (base : DeviceState) (s : CallState) (n : ℕ) (m : Mark) (run : Run) (device : Option ℕ) → HoldsAlone n s.marks → HasNoEnd base s.history m → AllByRecursion (λ w. w.object < sizes.objects) run.writes →
    IsUnmetAnswer (finish_call sizes base s n m run s.loss device).1
finish_unmet sizes ok base s n m run device alone h r = by s.loss
  where
    i : Interval
    i = finish_interval base s.history m.start m.reads run

    none : is_empty i ≡ false
    none = not_empty i (raised_for-hi s.history run.writes (read_interval base s.history m.start m.reads) ∙ h)

    room : without_room sizes base s.history (cores_of (all_but n s.marks)) run.writes ≡ None
    room = room_alone sizes ok base s.history (cores_of (all_but n s.marks)) (alone_cores s.marks n alone) run.writes r

    granted : (item : FinishRecord) (device : Option ℕ) → IsUnmetAnswer (finish_answer s n (Granted item) device).1
    granted item (Some losses) = tt
    granted item None = tt

    by : (loss : Option ℕ) → IsUnmetAnswer (finish_call sizes base s n m run loss device).1
    by (Some losses) = tt
    by None =
        rw (none, room) (elim (has_records sizes base s.history run.spawns) as (λ b. IsUnmetAnswer (finish_answer s n (cond b (Granted (finish_of base s.history m.task m.start m.reads run)) (Records (length (open_tasks base s.history)) (length run.spawns))) device).1)
        [ true ↦ granted (finish_of base s.history m.task m.start m.reads run) device | false ↦ tt ])
