-- What stands goes on through threads' calls.
use Rattle.std.proofs.Common.{◌≡◌, ℕ, suc, ◌+◌, ◌-◌, ◌<◌, ◌≤◌, Bool, true, false, cond, leb, List, [], ◌∷◌, get_or, set, length, replicate, Option, Some, None, refl, sym, ap, ◌∙◌, subst, arith, get_or-set_same, set-set, zero-add}
use Rattle.std.specs.Prelude.{unwrap_or}
use Rattle.std.specs.List.{AllByRecursion}
use Rattle.kernel_model.specs.Sizes.{Sizes}
use Rattle.kernel_model.specs.Effects.{Programs, Run, object_words, written}
use Rattle.kernel_model.specs.Items.{FinishRecord}
use Rattle.kernel_model.specs.Replay.{DeviceState, TaskRec, after_history, clock_of, tables_of}
use Rattle.kernel_model.specs.Versions.{Read, Version, chosen, version_read, versions}
use Rattle.kernel_model.specs.Intervals.{Interval, finish_interval, is_empty, read_interval, within}
use Rattle.kernel_model.specs.OpenTasks.{open_tasks}
use Rattle.kernel_model.specs.Cores.{Committing, Core, Idle, all_but, next_task}
use Rattle.kernel_model.specs.Room.{interval_of, is_needed, is_needed_by, meet, without_room}
use Rattle.kernel_model.specs.Verdicts.{Empty, Granted, Records, Slots, Verdict, finish_of, room_verdict, verdict}
use Rattle.kernel_model.specs.Turns.{commit_writes}
use Rattle.kernel_model.specs.Durable.{state_left}
use Rattle.kernel_model.specs.History.{AreFound, IsAttempt, IsHistory}
use Rattle.kernel_model.specs.Chain.{cut}
use Rattle.kernel_model.specs.Live.{IsStale, Limit, CallState, Mark, Receipt, added_by, attempt_of, begin_answer, begin_call, core_of, cores_of, fetch_answer, fetch_call, finish_answer, finish_call, lost, marked}
use Rattle.kernel_model.specs.LiveSound.{IsLiveState, IsMarkedIf}
use Rattle.kernel_model.proofs.ForCallers.{AreFrom, IsAfter, IsOld, as_before, at_needed, base_chain, chosen_exists, clock_base, core_at, core_at_marks, history_added, interval-shrinks, lawful_of, length-after_history, length-open_tasks, meet-wider, newest_words, no_core, no_marks, open_order, starts_after, still_open, task_under-open, turned_now, within-shrinks, object_words-put, object_words-put_written}
use Rattle.slot_model.specs.Slots.{Image, IsSized}
use Rattle.slot_model.specs.Kept.{Kept, newest_slot, with_held}
use Rattle.slot_model.specs.Places.{planned}
use Rattle.slot_model.specs.Store.{Target, after_write, late_writes, target}
use Rattle.slot_model.specs.Changes.{first_kept, with_finished}
use Rattle.slot_model.specs.Tabled.{AreTables, IsRead, Tables, is_written_read, table_verdict, tables_with, views_of}
use Rattle.slot_model.specs.Marks.{committing}
use Rattle.slot_model.specs.LiveStanding.{IsLiveLawful, LiveCommits, LiveStands}
use Rattle.slot_model.specs.Standing.{IsFree, IsServed, IsTarget, IsUnderWay, Stands}
use Rattle.slot_model.proofs.Arms.{free_target, free_writes, late_write}
use Rattle.slot_model.proofs.Fresh.{tables_join}
use Rattle.slot_model.proofs.LiveCores.{commit_able, cores_but, cores_length, cores_set, history_ended, joined_run, live_able, live_starts, mark_present, next_join, next_turn, none_commits}
use Rattle.slot_model.proofs.Named.{newest_stands}
use Rattle.slot_model.proofs.Nexts.{newest_of, written_given}
use Rattle.slot_model.proofs.Reading.{read_at}
use Rattle.slot_model.proofs.Tables.{cut_readers}
use Rattle.slot_model.proofs.TableVerdicts.{verdict_at}
use Rattle.slot_model.proofs.Turning.{calm, finishing, planning, writing}

abbrev pub Caller : Type 0
Caller = Core (Unit {0})

-- a caller's mark changes
mark_turn : (whole : Programs) (sizes : Sizes) (base : DeviceState) (s : CallState) (kept : Kept) (image : Image) → IsLiveState whole base s → LiveStands sizes base s kept image → (n : ℕ) (m : Option Mark) → ((i : Interval) → interval_of base s.history (core_of m) ≡ Some i → base.clock ≤ i.lo) →
    ((o : ℕ) (v : Version) → IsOld base o s.history v → is_needed_by base s.history o v (core_of m) ≡ true → is_needed base s.history o (cores_of s.marks) v ≡ true) → Stands sizes base base.clock s.history (cores_of (set s.marks n m)) kept image
mark_turn whole sizes base s kept image h f n m starts own =
    subst (λ (cs : List Caller). Stands sizes base base.clock s.history cs kept image) (cores_set s.marks n m)
    (calm sizes base base.clock s.history (cores_of s.marks) kept image (live_able whole sizes base s kept image h f) n (core_of m) (next_turn whole base base.clock s.history (cores_of s.marks) n (core_of m) h.history f.starts starts own) (served m))
  where
    served : (m : Option Mark) → IsServed sizes base s.history (set (cores_of s.marks) n (core_of m)) kept image n (core_of m)
    served None = tt
    served (Some m) = tt

-- a caller gives its task back
mark_gone : (whole : Programs) (sizes : Sizes) (base : DeviceState) (s : CallState) (kept : Kept) (image : Image) → IsLiveState whole base s → LiveStands sizes base s kept image → (n : ℕ) → Stands sizes base base.clock s.history (cores_of (set s.marks n None)) kept image
mark_gone whole sizes base s kept image h f n = mark_turn whole sizes base s kept image h f n None (λ i e. absurd (cc e)) (λ o v old e. absurd (cc e))

-- a begin
pub begin_stands : (whole : Programs) (sizes : Sizes) (base : DeviceState) (s : CallState) (kept : Kept) (image : Image) (n : ℕ) → IsLiveState whole base s → LiveStands sizes base s kept image → LiveStands sizes base (begin_call base s n s.loss).0 kept image
begin_stands whole sizes base s kept image n h f = by s.loss
  where
    at : (t : Option TaskRec) → LiveStands sizes base (begin_answer base s n t).0 kept image
    at None = f
    at (Some t) =
        mark_turn whole sizes base s kept image h f n (Some (record { task = t.id; start = clock_of base s.history; reads = [] }))
        (λ i e. let same : record { lo = clock_of base s.history; hi = None } ≡ i = cc e in omega (arith, clock_base base s.history, ap (λ (y : Interval). y.lo) same))
        (λ o v old e. absurd (starts_after v (clock_of base s.history) old.ended_by e))

    by : (loss : Option ℕ) → LiveStands sizes base (begin_call base s n loss).0 kept image
    by (Some losses) = f
    by None = elim (leb s.limit (length s.history)) as (λ b. LiveStands sizes base (cond b (s, Limit) (begin_answer base s n (next_task (cores_of s.marks) (open_tasks base s.history)))).0 kept image) [ true ↦ f | false ↦ at (next_task (cores_of s.marks) (open_tasks base s.history)) ]

-- a fetch
pub fetch_stands : (whole : Programs) (sizes : Sizes) (base : DeviceState) (s : CallState) (kept : Kept) (image : Image) (n : ℕ) (m : Mark) (p : ℕ) (device : Option ℕ) → IsLiveState whole base s → get_or s.marks n None ≡ Some m → LiveStands sizes base s kept image →
    LiveStands sizes base (fetch_call base s n m p s.loss device).0 kept image
fetch_stands whole sizes base s kept image n m p device h own f = by s.loss
  where
    i : Interval
    i = read_interval base s.history m.start m.reads

    of_core : interval_of base s.history (get_or (cores_of s.marks) n Idle) ≡ Some i
    of_core = ap (interval_of base s.history) (core_at_marks s.marks n ∙ ap core_of own)

    gone : Stands sizes base base.clock s.history (cores_of (set s.marks n None)) kept image
    gone = mark_gone whole sizes base s kept image h f n

    at : (u : Option Version) (device : Option ℕ) → LiveStands sizes base (fetch_answer s n m p u device).0 kept image
    at u (Some losses) = gone
    at None None = f
    at (Some u) None = mark_turn whole sizes base s kept image h f n (Some (record m { reads = record { object = p; writer = u.writer } ∷ m.reads })) starts own_needs
      where
        x : Option Version
        x = version_read base s.history (record { object = p; writer = u.writer })

        starts : (j : Interval) → Some (within x i) ≡ Some j → base.clock ≤ j.lo
        starts j e =
            let same : within x i ≡ j = cc e in
            let l = f.starts n i of_core in
            let k = (within-shrinks x i).lo in
            omega (arith, l, k, ap (λ (y : Interval). y.lo) same)

        own_needs : (o : ℕ) (v : Version) → IsOld base o s.history v → meet v (within x i) ≡ true → is_needed base s.history o (cores_of s.marks) v ≡ true
        own_needs o v old e = at_needed base s.history o v (cores_of s.marks) n (subst (λ (c : Caller). is_needed_by base s.history o v c ≡ true) (sym (core_at_marks s.marks n ∙ ap core_of own)) (meet-wider v (within x i) i (within-shrinks x i) e))

    by : (loss : Option ℕ) → LiveStands sizes base (fetch_call base s n m p loss device).0 kept image
    by (Some losses) = gone
    by None = elim (is_empty i) as (λ b. LiveStands sizes base (cond b (marked s n None, IsStale i.lo (unwrap_or i.hi 0)) (fetch_answer s n m p (chosen i.hi (versions base p s.history)) device)).0 kept image) [ true ↦ gone | false ↦ at (chosen i.hi (versions base p s.history)) device ]

-- a finish that adds nothing
pub refused_stands : (whole : Programs) (sizes : Sizes) (base : DeviceState) (s : CallState) (kept : Kept) (image : Image) (n : ℕ) (m : Mark) (run : Run) (device : Option ℕ) → IsLiveState whole base s → LiveStands sizes base s kept image → added_by (finish_call sizes base s n m run s.loss device).1 ≡ None →
    LiveStands sizes base (finish_call sizes base s n m run s.loss device).0 kept image
refused_stands whole sizes base s kept image n m run device h f = by s.loss
  where
    gone : Stands sizes base base.clock s.history (cores_of (set s.marks n None)) kept image
    gone = mark_gone whole sizes base s kept image h f n

    at : (v : Verdict) (device : Option ℕ) → added_by (finish_answer s n v device).1 ≡ None → LiveStands sizes base (finish_answer s n v device).0 kept image
    at (Granted i) (Some losses) e = gone
    at (Granted i) None e = absurd (cc e)
    at (Empty lo hi) device e = gone
    at (Slots o) device e = gone
    at (Records pending spawns) device e = gone

    by : (loss : Option ℕ) → added_by (finish_call sizes base s n m run loss device).1 ≡ None → LiveStands sizes base (finish_call sizes base s n m run loss device).0 kept image
    by (Some losses) e = gone
    by None e = at (verdict sizes base s.history (cores_of (all_but n s.marks)) (attempt_of m) run) device e

-- what a grant says
granted_item : (sizes : Sizes) (base : DeviceState) (s : CallState) (others : List Caller) (m : Mark) (run : Run) (i : FinishRecord) → verdict sizes base s.history others (attempt_of m) run ≡ Granted i →
    (is_empty (finish_interval base s.history m.start m.reads run) ≡ false) × (without_room sizes base s.history others run.writes ≡ None) × (finish_of base s.history m.task m.start m.reads run ≡ i)
granted_item sizes base s others m run i e = go (is_empty j) (without_room sizes base s.history others run.writes) refl refl e
  where
    j : Interval
    j = finish_interval base s.history m.start m.reads run

    records : (b : Bool) → cond b (Granted (finish_of base s.history m.task m.start m.reads run)) (Records (length (open_tasks base s.history)) (length run.spawns)) ≡ Granted i → finish_of base s.history m.task m.start m.reads run ≡ i
    records true f = cc f
    records false f = absurd (cc f)

    go : (b : Bool) (o : Option ℕ) → is_empty j ≡ b → without_room sizes base s.history others run.writes ≡ o → cond b (Empty j.lo (unwrap_or j.hi 0)) (room_verdict sizes base s.history (attempt_of m) run o) ≡ Granted i →
        (is_empty j ≡ false) × (without_room sizes base s.history others run.writes ≡ None) × (finish_of base s.history m.task m.start m.reads run ≡ i)
    go true o f g e = absurd (cc e)
    go false (Some o) f g e = absurd (cc e)
    go false None f g e = (f, g, records (leb (length (open_tasks base s.history) - 1 + length run.spawns) sizes.records) e)

-- a grant begins a commit
pub grant_stands : (whole : Programs) (sizes : Sizes) (base : DeviceState) (s : CallState) (kept : Kept) (image : Image) (n : ℕ) (m : Mark) (run : Run) (i : FinishRecord) → IsLiveLawful whole sizes base s → LiveStands sizes base s kept image → get_or s.marks n None ≡ Some m →
    IsAttempt whole base s.history m.task m.start m.reads (λ x. run) → verdict sizes base s.history (cores_of (all_but n s.marks)) (attempt_of m) run ≡ Granted i →
    LiveCommits whole sizes base s n i (commit_writes sizes base s.history i) (planned sizes base s.history (all_but n (cores_of s.marks)) kept) image
grant_stands whole sizes base s kept image n m run i h f own a e = record {
  caller = mark_present s.marks n m own;
  joins = joins;
  was_open = (
    a.spawn,
    task_under-open base s.history h.live.history.numbered h.ids i.task ∙ subst (λ (t : ℕ). (after_history s.history (tables_of base)).tasks t ≡ Some a.spawn) (ap (λ (x : FinishRecord). x.task) g.2)
        (subst (λ (x : List FinishRecord). (after_history x (tables_of base)).tasks m.task ≡ Some a.spawn) (sym a.split) (still_open m.task a.spawn (tables_of base) a.newer a.older a.not_since a.was_open)),
  );
  stands = planning sizes base base.clock s.history (cores_of s.marks) kept image (live_able whole sizes base s kept image h.live f) n i (λ k ne c. none_commits s.marks k c) (joined_run whole sizes base i s.history h.based h.fit joins) room
      (next_turn whole base base.clock s.history (cores_of s.marks) n (Committing i (commit_writes sizes base s.history i)) h.live.history f.starts (λ j x. absurd (cc x)) (λ o v old x. absurd (cc x)));
}
  where
    g : (is_empty (finish_interval base s.history m.start m.reads run) ≡ false) × (without_room sizes base s.history (cores_of (all_but n s.marks)) run.writes ≡ None) × (finish_of base s.history m.task m.start m.reads run ≡ i)
    g = granted_item sizes base s (cores_of (all_but n s.marks)) m run i e

    joins : IsHistory whole base (i ∷ s.history)
    joins = subst (λ (x : FinishRecord). IsHistory whole base (x ∷ s.history)) g.2 (history_added whole h.rests base h.based.old s.history h.live.history m.task m.start m.reads run a g.0)

    room : without_room sizes base s.history (all_but n (cores_of s.marks)) i.run.writes ≡ None
    room =
        ap (λ (cs : List Caller). without_room sizes base s.history cs i.run.writes) (cores_but s.marks n) ∙ ap (λ (x : FinishRecord). without_room sizes base s.history (cores_of (all_but n s.marks)) x.run.writes) (sym g.2) ∙ g.1

-- the core of a commit
commit_core : (s : CallState) (n : ℕ) (i : FinishRecord) (left : ℕ) → n < length s.marks → get_or (committing s n i left) n Idle ≡ Committing i left
commit_core s n i left l = get_or-set_same (cores_of s.marks) n (Committing i left) Idle (let k = cores_length s.marks in omega (arith, l, k))

-- a write of it
pub live_write : (whole : Programs) (sizes : Sizes) (base : DeviceState) (s : CallState) (kept : Kept) (image : Image) (n : ℕ) (i : FinishRecord) (left : ℕ) → IsLiveLawful whole sizes base s → LiveCommits whole sizes base s n i (suc left) kept image →
    LiveCommits whole sizes base s n i left kept (after_write kept.plan (target sizes (commit_writes sizes base s.history i - suc left) i.run.writes) image)
live_write whole sizes base s kept image n i left h c = record {
  caller = c.caller;
  joins = c.joins;
  was_open = c.was_open;
  stands = subst (λ (cs : List Caller). Stands sizes base base.clock s.history cs kept (after_write kept.plan (target sizes (commit_writes sizes base s.history i - suc left) i.run.writes) image)) (set-set (cores_of s.marks) n (Committing i (suc left)) (Committing i left))
      (writing sizes base base.clock s.history (committing s n i (suc left)) kept image (commit_able whole sizes base s n i (suc left) kept image h.live (joined_run whole sizes base i s.history h.based h.fit c.joins) c.stands) n i left (commit_core s n i (suc left) c.caller)
      (next_turn whole base base.clock s.history (committing s n i (suc left)) n (Committing i left) h.live.history c.stands.starts (λ j x. absurd (cc x)) (λ o v old x. absurd (cc x))));
}

-- a loss within it
pub loss_stands : (whole : Programs) (sizes : Sizes) (base : DeviceState) (s : CallState) (kept : Kept) (image : Image) (n : ℕ) (i : FinishRecord) (left losses : ℕ) → IsLiveLawful whole sizes base s → LiveCommits whole sizes base s n i left kept image → LiveStands sizes base (lost s n losses).0 kept image
loss_stands whole sizes base s kept image n i left losses h c =
    subst (λ (cs : List Caller). Stands sizes base base.clock s.history cs kept image) (set-set (cores_of s.marks) n (Committing i left) Idle ∙ cores_set s.marks n None)
    (calm sizes base base.clock s.history (committing s n i left) kept image (commit_able whole sizes base s n i left kept image h.live (joined_run whole sizes base i s.history h.based h.fit c.joins) c.stands) n Idle
    (next_turn whole base base.clock s.history (committing s n i left) n Idle h.live.history c.stands.starts (λ j x. absurd (cc x)) (λ o v old x. absurd (cc x))) tt)

-- its end
pub receipt_stands : (whole : Programs) (sizes : Sizes) (base : DeviceState) (s : CallState) (kept : Kept) (image : Image) (n : ℕ) (m : Mark) (run : Run) (i : FinishRecord) (device : Option ℕ) → IsLiveLawful whole sizes base s → LiveCommits whole sizes base s n i 0 kept image →
    (finish_call sizes base s n m run s.loss device).1 ≡ Receipt i → LiveStands sizes base (finish_call sizes base s n m run s.loss device).0 (with_finished (Some i) kept) image
receipt_stands whole sizes base s kept image n m run i device h c = by s.loss
  where
    t : CallState
    t = record s { history = i ∷ s.history; marks = set s.marks n None }

    cores : List Caller
    cores = committing s n i 0

    narrower : (d : Option Mark) → IsMarkedIf whole base s.history d → (o : ℕ) (v : Version) → is_needed_by base (i ∷ s.history) o v (core_of d) ≡ true → is_needed_by base s.history o v (core_of d) ≡ true
    narrower None x o v e = e
    narrower (Some d) x o v e = meet-wider v (read_interval base (i ∷ s.history) d.start d.reads) (read_interval base s.history d.start d.reads) (interval-shrinks base i s.history c.joins.numbered d.start d.reads x.attempt.are_found) e

    others : (k : ℕ) → (k ≡ n → ⊥) → (o : ℕ) (v : Version) → is_needed_by base (i ∷ s.history) o v (get_or cores k Idle) ≡ true → is_needed_by base s.history o v (get_or cores k Idle) ≡ true
    others k ne o v = at (get_or cores k Idle) (core_at (cores_of s.marks) n (Committing i 0) k)
      where
        at : (x : Caller) → IsAfter (cores_of s.marks) n (Committing i 0) k x → is_needed_by base (i ∷ s.history) o v x ≡ true → is_needed_by base s.history o v x ≡ true
        at x (turned_now a f) e = absurd (ne a)
        at x (as_before a f) e =
            let same : x ≡ core_of (get_or s.marks k None) = f ∙ core_at_marks s.marks k in
            subst (λ (y : Caller). is_needed_by base s.history o v y ≡ true) (sym same) (narrower (get_or s.marks k None) (h.live.marks k) o v (subst (λ (y : Caller). is_needed_by base (i ∷ s.history) o v y ≡ true) same e))
        at x (no_core f) e = absurd (let y : is_needed_by {M = Unit {0}} base (i ∷ s.history) o v Idle ≡ true = subst (λ (z : Caller). is_needed_by base (i ∷ s.history) o v z ≡ true) f e in cc y)

    later : (d : Option Mark) → IsMarkedIf whole base s.history d → ((j : Interval) → interval_of base s.history (core_of d) ≡ Some j → base.clock ≤ j.lo) → (j : Interval) → interval_of base (i ∷ s.history) (core_of d) ≡ Some j → base.clock ≤ j.lo
    later None x l j e = absurd (cc e)
    later (Some d) x l j e =
        let same : read_interval base (i ∷ s.history) d.start d.reads ≡ j = cc e in
        let k = l (read_interval base s.history d.start d.reads) refl in
        let shrunk = (interval-shrinks base i s.history c.joins.numbered d.start d.reads x.attempt.are_found).lo in
        omega (arith, k, shrunk, ap (λ (y : Interval). y.lo) same)

    from : AreFrom base (i ∷ s.history) base.clock (set cores n Idle)
    from k j e = at (get_or (set cores n Idle) k Idle) (core_at cores n Idle k) e
      where
        before : (x : Caller) → IsAfter (cores_of s.marks) n (Committing i 0) k x → (k ≡ n → ⊥) → interval_of base (i ∷ s.history) x ≡ Some j → base.clock ≤ j.lo
        before x (turned_now a f) ne e = absurd (ne a)
        before x (as_before a f) ne e =
            let same : x ≡ core_of (get_or s.marks k None) = f ∙ core_at_marks s.marks k in
            later (get_or s.marks k None) (h.live.marks k) (λ q z. live_starts whole base s h.live k q (ap (interval_of base s.history) (core_at_marks s.marks k) ∙ z)) j (ap (interval_of base (i ∷ s.history)) (sym same) ∙ e)
        before x (no_core f) ne e = absurd (let y : interval_of {M = Unit {0}} base (i ∷ s.history) Idle ≡ Some j = ap (interval_of base (i ∷ s.history)) (sym f) ∙ e in cc y)

        at : (x : Caller) → IsAfter cores n Idle k x → interval_of base (i ∷ s.history) x ≡ Some j → base.clock ≤ j.lo
        at x (turned_now a f) e = absurd (let y : interval_of {M = Unit {0}} base (i ∷ s.history) Idle ≡ Some j = ap (interval_of base (i ∷ s.history)) (sym f) ∙ e in cc y)
        at x (as_before a f) e = before (get_or cores k Idle) (core_at (cores_of s.marks) n (Committing i 0) k) a (ap (interval_of base (i ∷ s.history)) (sym f) ∙ e)
        at x (no_core f) e = absurd (let y : interval_of {M = Unit {0}} base (i ∷ s.history) Idle ≡ Some j = ap (interval_of base (i ∷ s.history)) (sym f) ∙ e in cc y)

    joined : Stands sizes base base.clock (i ∷ s.history) (cores_of (set s.marks n None)) (with_finished (Some i) kept) image
    joined =
        subst (λ (cs : List Caller). Stands sizes base base.clock (i ∷ s.history) cs (with_finished (Some i) kept) image) (set-set (cores_of s.marks) n (Committing i 0) Idle ∙ cores_set s.marks n None)
        (finishing sizes base base.clock s.history cores kept image (commit_able whole sizes base s n i 0 kept image h.live (joined_run whole sizes base i s.history h.based h.fit c.joins) c.stands) n i (commit_core s n i 0 c.caller)
        (next_join whole base i s.history cores n h.live.history c.joins others from))

    at : (v : Verdict) (device : Option ℕ) → (finish_answer s n v device).1 ≡ Receipt i → LiveStands sizes base (finish_answer s n v device).0 (with_finished (Some i) kept) image
    at (Granted j) (Some losses) e = absurd (cc e)
    at (Granted j) None e = let same : j ≡ i = cc e in subst (λ (x : FinishRecord). LiveStands sizes base (record s { history = x ∷ s.history; marks = set s.marks n None }) (with_finished (Some i) kept) image) (sym same) joined
    at (Empty lo hi) device e = absurd (cc e)
    at (Slots o) device e = absurd (cc e)
    at (Records pending spawns) device e = absurd (cc e)

    by : (loss : Option ℕ) → (finish_call sizes base s n m run loss device).1 ≡ Receipt i → LiveStands sizes base (finish_call sizes base s n m run loss device).0 (with_finished (Some i) kept) image
    by (Some losses) e = absurd (cc e)
    by None e = at (verdict sizes base s.history (cores_of (all_but n s.marks)) (attempt_of m) run) device e

-- the newest slots have what the history leaves
pub live_named : (whole : Programs) (sizes : Sizes) (base : DeviceState) (s : CallState) (kept : Kept) (image : Image) (cores : List Caller) → IsLiveLawful whole sizes base s → Stands sizes base base.clock s.history cores kept image → (o : ℕ) → o < sizes.objects →
    (newest_slot (kept.chains o) < sizes.slots o) × (image o (newest_slot (kept.chains o)) ≡ object_words (state_left base s.history).objects o)
live_named whole sizes base s kept image cores h f o l =
    let v = chosen_exists base o s.history None None tt in
    let k = newest_stands (sizes.slots o) base.clock (is_needed base s.history o cores) (image o) (versions base o s.history) v.0 (kept.chains o) (newest_of base o s.history) v.1 (f.objects o l) in
    (k.0, k.1 ∙ newest_words base o (let n = h.based.objects in omega (arith, n, l)) s.history v.0 v.1)

-- the slots of a commit that has written all object words have what it leaves
pub live_commit_named : (whole : Programs) (sizes : Sizes) (base : DeviceState) (s : CallState) (kept : Kept) (image : Image) (n : ℕ) (i : FinishRecord) (left : ℕ) → IsLiveLawful whole sizes base s → LiveCommits whole sizes base s n i left kept image → left ≤ late_writes sizes base s.history i → (o : ℕ) → o < sizes.objects →
    (let slot : ℕ = newest_slot ((with_finished (Some i) kept).chains o) in (slot < sizes.slots o) × (image o slot ≡ object_words (state_left base (i ∷ s.history)).objects o))
live_commit_named whole sizes base s kept image n i left h c few o l = go (written i.run.writes o) refl
  where
    long : o < length (after_history s.history (tables_of base)).objects
    long = let k = length-after_history s.history (tables_of base) in let n = h.based.objects in omega (arith, k, n, l)

    under : IsUnderWay sizes base s.history (committing s n i left) kept image i left
    under = subst (IsServed sizes base s.history (committing s n i left) kept image n) (commit_core s n i left c.caller) (c.stands.served n)

    go : (w : Option (List ℕ)) → written i.run.writes o ≡ w → (newest_slot (with_held i w (kept.plan o) (kept.chains o)) < sizes.slots o) × (image o (newest_slot (with_held i w (kept.plan o) (kept.chains o))) ≡ object_words (after_history (i ∷ s.history) (tables_of base)).objects o)
    go None e = let top = live_named whole sizes base s kept image (committing s n i left) h c.stands o l in (top.0, top.1 ∙ sym (object_words-put 0 i.run.writes (after_history s.history (tables_of base)).objects o (rw zero-add e)))
    go (Some words) e =
        let k = written_given sizes base s.history (committing s n i left) kept image c.stands.sized i left (joined_run whole sizes base i s.history h.based h.fit c.joins) few under i refl o words e in
        (k.0.place, k.1 ∙ sym (object_words-put_written 0 i.run.writes (after_history s.history (tables_of base)).objects o words long (rw zero-add e)))

-- a read, by tables
pub live_read : (whole : Programs) (sizes : Sizes) (base : DeviceState) (s : CallState) (kept : Kept) (image : Image) (t : Tables) (n o : ℕ) (m : Mark) (v : Version) → IsLiveState whole base s → LiveStands sizes base s kept image → AreTables sizes base base.clock s.history kept t → get_or s.marks n None ≡ Some m →
    is_empty (read_interval base s.history m.start m.reads) ≡ false → o < sizes.objects → chosen (read_interval base s.history m.start m.reads).hi (versions base o s.history) ≡ Some v → IsRead sizes base s.history m.start m.reads o (t.places o) image v
live_read whole sizes base s kept image t n o m v h f p own ne l e =
    read_at sizes base base.clock s.history (cores_of s.marks) kept image h.history.numbered f t p n o m.start m.reads v (ap (interval_of base s.history) (core_at_marks s.marks n ∙ ap core_of own)) ne l e

-- the verdict, by tables
pub live_verdict : (whole : Programs) (sizes : Sizes) (base : DeviceState) (s : CallState) (kept : Kept) (image : Image) (t : Tables) (n : ℕ) (m : Mark) (run : Run) → IsLiveState whole base s → LiveStands sizes base s kept image → AreTables sizes base base.clock s.history kept t → get_or s.marks n None ≡ Some m →
    AllByRecursion (λ w. w.object < sizes.objects) run.writes →
    table_verdict sizes t (views_of base s.history kept.pins 0 (cores_of (set s.marks n None))) m.task (read_interval base s.history m.start m.reads) run ≡ verdict sizes base s.history (cores_of (all_but n s.marks)) (attempt_of m) run
live_verdict whole sizes base s kept image t n m run h f p own r =
    ap (λ (cs : List Caller). table_verdict sizes t (views_of base s.history kept.pins 0 cs) m.task (read_interval base s.history m.start m.reads) run) (sym (cores_set s.marks n None))
    ∙ verdict_at sizes base base.clock s.history (cores_of s.marks) kept image h.history.numbered (history_ended whole base s.history h.history) f t p n (attempt_of m) run start r
    ∙ ap (λ (cs : List Caller). verdict sizes base s.history cs (attempt_of m) run) (cores_but s.marks n)
  where
    start : base.clock ≤ m.start
    start = let x = subst (IsMarkedIf whole base s.history) own (h.marks n) in let e = x.attempt.start_is in let l = clock_base base x.attempt.older in omega (arith, e, l)

-- the tables after a finish
pub live_tables : (whole : Programs) (sizes : Sizes) (base : DeviceState) (s : CallState) (kept : Kept) (image : Image) (t : Tables) (n : ℕ) (i : FinishRecord) (left : ℕ) → IsLiveLawful whole sizes base s → LiveCommits whole sizes base s n i left kept image → AreTables sizes base base.clock s.history kept t →
    AreTables sizes base base.clock (i ∷ s.history) (with_finished (Some i) kept) (tables_with i kept.plan t)
live_tables whole sizes base s kept image t n i left h c p =
    tables_join sizes base base.clock i s.history kept t (length-open_tasks base i s.history (open_order base h.based.old h.based.in_order s.history h.live.history.numbered) c.was_open.0 c.was_open.1) p

-- the intervals after a finish
pub live_cuts : (whole : Programs) (sizes : Sizes) (base : DeviceState) (s : CallState) (kept : Kept) (image : Image) (n : ℕ) (i : FinishRecord) (left start : ℕ) (reads : List Read) → LiveCommits whole sizes base s n i left kept image → AreFound base s.history reads →
    read_interval base (i ∷ s.history) start reads ≡ cut i.point (is_written_read i reads) (read_interval base s.history start reads)
live_cuts whole sizes base s kept image n i left start reads c k = cut_readers base i s.history (lawful_of base (i ∷ s.history) c.joins.numbered c.joins.ordered) c.joins.numbered start reads k

-- before the first call
pub live_first : (sizes : Sizes) (base : DeviceState) (callers limit : ℕ) (named : ℕ → ℕ) (image : Image) → IsSized sizes image → ((o : ℕ) → o < sizes.objects → (named o < sizes.slots o) × (image o (named o) ≡ object_words base.objects o)) →
    LiveStands sizes base (record { history = []; marks = replicate callers None; loss = None; limit = limit }) (first_kept base named) image
live_first sizes base callers limit named image sized h = record {
  starts = λ k i e. absurd (let g = idle k in cc (g, e));
  sized = sized;
  objects = λ o l. record { chained = base_chain base o (is_needed base [] o (cores_of (replicate callers None))); places = ((h o l).0, tt); apart = (tt, tt); words = (λ e. (h o l).1, tt) };
  served = λ k. subst (IsServed sizes base [] (cores_of (replicate callers None)) (first_kept base named) image k) (sym (idle k)) tt;
}
  where
    idle : (k : ℕ) → get_or (cores_of (replicate callers None)) k Idle ≡ Idle
    idle k = core_at_marks (replicate callers None) k ∙ ap core_of (no_marks callers k)

-- where a commit may write
pub live_free : (whole : Programs) (sizes : Sizes) (base : DeviceState) (s : CallState) (kept : Kept) (image : Image) (n : ℕ) (i : FinishRecord) (left : ℕ) → IsLiveLawful whole sizes base s → LiveCommits whole sizes base s n i left kept image →
    AllByRecursion (IsFree sizes base s.history (committing s n i left) kept) i.run.writes × ((made : ℕ) (t : Target) → target sizes made i.run.writes ≡ Some t → IsTarget sizes kept i.run.writes t)
live_free whole sizes base s kept image n i left h c = (
  free_writes sizes base base.clock s.history (committing s n i left) kept image c.stands i.run.writes (joined_run whole sizes base i s.history h.based h.fit c.joins).writes under.spare,
  λ made t e. free_target sizes base s.history (committing s n i left) kept made i.run t (joined_run whole sizes base i s.history h.based h.fit c.joins) under.spare e,
)
  where
    under : IsUnderWay sizes base s.history (committing s n i left) kept image i left
    under = subst (IsServed sizes base s.history (committing s n i left) kept image n) (commit_core s n i left c.caller) (c.stands.served n)

-- a write beside its objects' words
pub live_late : (whole : Programs) (sizes : Sizes) (base : DeviceState) (s : CallState) (kept : Kept) (image : Image) (n : ℕ) (i : FinishRecord) (left : ℕ) → IsLiveLawful whole sizes base s → suc left ≤ late_writes sizes base s.history i → LiveCommits whole sizes base s n i (suc left) kept image → LiveCommits whole sizes base s n i left kept image
live_late whole sizes base s kept image n i left h l c =
    subst (λ (x : Image). LiveCommits whole sizes base s n i left kept x) (ap (λ t. after_write kept.plan t image) (late_write sizes base s.history i (suc left) l)) (live_write whole sizes base s kept image n i left h c)
