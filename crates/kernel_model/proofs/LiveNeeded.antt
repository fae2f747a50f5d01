-- At a call of the machine of calls no older version becomes needed again, and a chain goes on.
use Rattle.std.proofs.Common.{◌≡◌, ℕ, zero, suc, ◌≤◌, Bool, true, false, cond, leb, max, List, [], ◌∷◌, get_or, set, length, Option, Some, None, refl, sym, ap, ◌∙◌, subst, arith}
use Rattle.std.specs.Prelude.{unwrap_or}
use Rattle.std.specs.List.{AllByRecursion}
use Rattle.kernel_model.specs.Sizes.{Sizes}
use Rattle.kernel_model.specs.Effects.{Programs, Run, object_words}
use Rattle.kernel_model.specs.Items.{FinishRecord}
use Rattle.kernel_model.specs.Replay.{DeviceState, TaskRec, clock_of}
use Rattle.kernel_model.specs.Versions.{Version, chosen, older, version_read, versions}
use Rattle.kernel_model.specs.Intervals.{Interval, finish_interval, is_empty, read_interval, within}
use Rattle.kernel_model.specs.OpenTasks.{open_tasks}
use Rattle.kernel_model.specs.Cores.{Idle, all_but, next_task}
use Rattle.kernel_model.specs.Room.{is_needed, is_needed_by, meet, without_room}
use Rattle.kernel_model.specs.Verdicts.{finish_of, Empty, Granted, Records, Slots, has_records, room_verdict, verdict, Verdict}
use Rattle.kernel_model.specs.Live.{Answer, Dark, IsStale, Limit, CallState, Lost, Mark, Refused, added_by, attempt_of, begin_answer, begin_call, core_of, cores_of, fetch_answer, fetch_call, finish_answer, finish_call, marked}
use Rattle.kernel_model.specs.Events.{with_finish}
use Rattle.kernel_model.specs.History.{IsHistory, IsNumbered, IsTimely}
use Rattle.kernel_model.specs.Chain.{IsChain, with_joining}
use Rattle.kernel_model.specs.LiveSound.{IsLiveState, IsMarkedIf}
use Rattle.kernel_model.proofs.ChainLaws.{chain-joined, chain-less}
use Rattle.kernel_model.proofs.LiveMore.{begin_history, fetch_history}
use Rattle.kernel_model.proofs.LiveLaws.{IsMarkAfter, as_before, mark_at, marked_now, no_caller}
use Rattle.kernel_model.proofs.NeededLaws.{IsOld, at_needed, needed_at, older-old}
use Rattle.kernel_model.proofs.Ordered.{lawful_of}
use Rattle.kernel_model.proofs.RoomLaws.{interval-shrinks, meet-wider, starts_after, within-shrinks}

-- a caller's core
pub core_at_marks : (marks : List (Option Mark)) (k : ℕ) → get_or (cores_of marks) k Idle ≡ core_of (get_or marks k None)
core_at_marks [] k = refl
core_at_marks (m ∷ marks) zero = refl
core_at_marks (m ∷ marks) (suc k) = core_at_marks marks k

-- where a caller needs a version
needed_here : (base : DeviceState) (history : List FinishRecord) (o : ℕ) (v : Version) (marks : List (Option Mark)) (k : ℕ) → is_needed_by base history o v (core_of (get_or marks k None)) ≡ true → is_needed base history o (cores_of marks) v ≡ true
needed_here base history o v marks k e = at_needed base history o v (cores_of marks) k (subst (λ c. is_needed_by base history o v c ≡ true) (sym (core_at_marks marks k)) e)

-- one mark changes
needed_before : (base : DeviceState) (g h : List FinishRecord) (o : ℕ) (v : Version) (marks : List (Option Mark)) (n : ℕ) (m : Option Mark) →
    (is_needed_by base g o v (core_of m) ≡ true → is_needed base h o (cores_of marks) v ≡ true) →
    ((k : ℕ) → (k ≡ n → ⊥) → is_needed_by base g o v (core_of (get_or marks k None)) ≡ true → is_needed_by base h o v (core_of (get_or marks k None)) ≡ true) →
    is_needed base g o (cores_of (set marks n m)) v ≡ true → is_needed base h o (cores_of marks) v ≡ true
needed_before base g h o v marks n m own others e = go k.0 _ (mark_at marks n m k.0) (subst (λ c. is_needed_by base g o v c ≡ true) (core_at_marks (set marks n m) k.0) k.1)
  where
    k : (k : ℕ) × (is_needed_by base g o v (get_or (cores_of (set marks n m)) k Idle) ≡ true)
    k = needed_at base g o v (cores_of (set marks n m)) e

    go : (k : ℕ) (d : Option Mark) → IsMarkAfter marks n m k d → is_needed_by base g o v (core_of d) ≡ true → is_needed base h o (cores_of marks) v ≡ true
    go k d (marked_now a f) i = own (rw f at i)
    go k d (as_before ne f) i = needed_here base h o v marks k (others k ne (rw f at i))
    go k d (no_caller f) i = absurd (let x = rw f at i in cc x)

-- of each version that has this
pub each_version : (P R : Version → Type 0) → ((v : Version) → P v → R v) → (vs : List Version) → AllByRecursion P vs → AllByRecursion R vs
each_version P R f [] h = tt
each_version P R f (v ∷ vs) h = (f v h.0, each_version P R f vs h.1)

-- a begin needs no older version
begin_needs : (base : DeviceState) (s : CallState) (n o : ℕ) (v : Version) → IsOld base o s.history v → is_needed base (begin_call base s n s.loss).0.history o (cores_of (begin_call base s n s.loss).0.marks) v ≡ true → is_needed base s.history o (cores_of s.marks) v ≡ true
begin_needs base s n o v old = by s.loss
  where
    Says : CallState × Answer → Type 0
    Says a = is_needed base a.0.history o (cores_of a.0.marks) v ≡ true → is_needed base s.history o (cores_of s.marks) v ≡ true

    at : (t : Option TaskRec) → Says (begin_answer base s n t)
    at None e = e
    at (Some t) e =
        needed_before base s.history s.history o v s.marks n (Some (record { task = t.id; start = clock_of base s.history; reads = [] }))
        (λ f. absurd (starts_after v (clock_of base s.history) old.ended_by f)) (λ k ne f. f) e

    by : (loss : Option ℕ) → Says (begin_call base s n loss)
    by (Some losses) = λ e. e
    by None = elim (leb s.limit (length s.history)) as (λ b. Says (cond b (s, Limit) (begin_answer base s n (next_task (cores_of s.marks) (open_tasks base s.history))))) [ true ↦ (λ e. e) | false ↦ at (next_task (cores_of s.marks) (open_tasks base s.history)) ]

-- a caller that gives its task back needs nothing more
gone_needs : (base : DeviceState) (history : List FinishRecord) (o : ℕ) (v : Version) (marks : List (Option Mark)) (n : ℕ) → is_needed base history o (cores_of (set marks n None)) v ≡ true → is_needed base history o (cores_of marks) v ≡ true
gone_needs base history o v marks n e = needed_before base history history o v marks n None (λ f. absurd (cc f)) (λ k ne f. f) e

-- a fetch narrows the interval
fetch_needs : (base : DeviceState) (s : CallState) (n : ℕ) (m : Mark) (p : ℕ) (device : Option ℕ) (o : ℕ) (v : Version) → get_or s.marks n None ≡ Some m →
    is_needed base (fetch_call base s n m p s.loss device).0.history o (cores_of (fetch_call base s n m p s.loss device).0.marks) v ≡ true → is_needed base s.history o (cores_of s.marks) v ≡ true
fetch_needs base s n m p device o v own = by s.loss
  where
    i : Interval
    i = read_interval base s.history m.start m.reads

    Says : CallState × Answer → Type 0
    Says a = is_needed base a.0.history o (cores_of a.0.marks) v ≡ true → is_needed base s.history o (cores_of s.marks) v ≡ true

    narrower : (u : Option Version) → meet v (within u i) ≡ true → is_needed base s.history o (cores_of s.marks) v ≡ true
    narrower u f = needed_here base s.history o v s.marks n (rw own (meet-wider v (within u i) i (within-shrinks u i) f))

    at : (u : Option Version) (device : Option ℕ) → Says (fetch_answer s n m p u device)
    at u (Some losses) e = gone_needs base s.history o v s.marks n e
    at None None e = e
    at (Some u) None e =
        needed_before base s.history s.history o v s.marks n (Some (record m { reads = record { object = p; writer = u.writer } ∷ m.reads }))
        (λ f. narrower (version_read base s.history (record { object = p; writer = u.writer })) f) (λ k ne f. f) e

    by : (loss : Option ℕ) → Says (fetch_call base s n m p loss device)
    by (Some losses) = gone_needs base s.history o v s.marks n
    by None = elim (is_empty i) as (λ b. Says (cond b (marked s n None, IsStale i.lo (unwrap_or i.hi 0)) (fetch_answer s n m p (chosen i.hi (versions base p s.history)) device))) [ true ↦ gone_needs base s.history o v s.marks n | false ↦ at (chosen i.hi (versions base p s.history)) device ]

-- a finish shrinks the intervals of the others
finish_needs : (whole : Programs) (sizes : Sizes) (base : DeviceState) (s : CallState) → IsLiveState whole base s → (n : ℕ) (m : Mark) (run : Run) (device : Option ℕ) (o : ℕ) (v : Version) → IsHistory whole base (finish_call sizes base s n m run s.loss device).0.history →
    is_needed base (finish_call sizes base s n m run s.loss device).0.history o (cores_of (finish_call sizes base s n m run s.loss device).0.marks) v ≡ true → is_needed base s.history o (cores_of s.marks) v ≡ true
finish_needs whole sizes base s h n m run device o v = by_loss s.loss
  where
    item : FinishRecord
    item = finish_of base s.history m.task m.start m.reads run

    i : Interval
    i = finish_interval base s.history m.start m.reads run

    Says : CallState × Answer → Type 0
    Says a = IsHistory whole base a.0.history → is_needed base a.0.history o (cores_of a.0.marks) v ≡ true → is_needed base s.history o (cores_of s.marks) v ≡ true

    gone : (answer : Answer) (loss : Option ℕ) → Says (record { history = s.history; marks = set s.marks n None; loss = loss; limit = s.limit }, answer)
    gone answer loss g e = gone_needs base s.history o v s.marks n e

    others : IsNumbered base (item ∷ s.history) → (d : Option Mark) → IsMarkedIf whole base s.history d → is_needed_by base (item ∷ s.history) o v (core_of d) ≡ true → is_needed_by base s.history o v (core_of d) ≡ true
    others g None x e = e
    others g (Some d) x e = meet-wider v (read_interval base (item ∷ s.history) d.start d.reads) (read_interval base s.history d.start d.reads) (interval-shrinks base item s.history g d.start d.reads x.attempt.are_found) e

    granted : (device : Option ℕ) → Says (finish_answer s n (Granted item) device)
    granted (Some losses) = gone (Lost losses) (Some losses)
    granted None = λ g e. needed_before base (item ∷ s.history) s.history o v s.marks n None (λ f. absurd (cc f)) (λ k ne f. others g.numbered (get_or s.marks k None) (h.marks k) f) e

    by_records : (b : Bool) → Says (finish_answer s n (cond b (Granted item) (Records (length (open_tasks base s.history)) (length run.spawns))) device)
    by_records true = granted device
    by_records false = gone (Refused (Records (length (open_tasks base s.history)) (length run.spawns))) s.loss

    by_room : (x : Option ℕ) → Says (finish_answer s n (room_verdict sizes base s.history (attempt_of m) run x) device)
    by_room (Some x) = gone (Refused (Slots x)) s.loss
    by_room None = by_records (has_records sizes base s.history run.spawns)

    by_empty : (b : Bool) (x : Option ℕ) → Says (finish_answer s n (cond b (Empty i.lo (unwrap_or i.hi 0)) (room_verdict sizes base s.history (attempt_of m) run x)) device)
    by_empty true x = gone (Refused (Empty i.lo (unwrap_or i.hi 0))) s.loss
    by_empty false x = by_room x

    by_loss : (loss : Option ℕ) → Says (finish_call sizes base s n m run loss device)
    by_loss (Some losses) = gone (Dark losses) s.loss
    by_loss None = by_empty (is_empty i) (without_room sizes base s.history (cores_of (all_but n s.marks)) run.writes)

-- what a finish leaves of the history and of the marks
pub finish_leaves : (sizes : Sizes) (base : DeviceState) (s : CallState) (n : ℕ) (m : Mark) (run : Run) (device : Option ℕ) →
    (let a : CallState × Answer = finish_call sizes base s n m run s.loss device in (a.0.history ≡ with_finish (added_by a.1) s.history) × (a.0.marks ≡ set s.marks n None))
finish_leaves sizes base s n m run device = by s.loss
  where
    Says : CallState × Answer → Type 0
    Says a = (a.0.history ≡ with_finish (added_by a.1) s.history) × (a.0.marks ≡ set s.marks n None)

    at : (v : Verdict) (device : Option ℕ) → Says (finish_answer s n v device)
    at (Granted i) (Some losses) = (refl, refl)
    at (Granted i) None = (refl, refl)
    at (Empty lo hi) device = (refl, refl)
    at (Slots o) device = (refl, refl)
    at (Records pending spawns) device = (refl, refl)

    by : (loss : Option ℕ) → Says (finish_call sizes base s n m run loss device)
    by (Some losses) = (refl, refl)
    by None = at (verdict sizes base s.history (cores_of (all_but n s.marks)) (attempt_of m) run) device

-- the history after a finish
pub finish_history : (sizes : Sizes) (base : DeviceState) (s : CallState) (n : ℕ) (m : Mark) (run : Run) (device : Option ℕ) →
    (finish_call sizes base s n m run s.loss device).0.history ≡ with_finish (added_by (finish_call sizes base s n m run s.loss device).1) s.history
finish_history sizes base s n m run device = (finish_leaves sizes base s n m run device).0

-- the base's version alone is a chain, at first
pub base_chain : (base : DeviceState) (o : ℕ) (needed : Version → Bool) → IsChain base.clock needed (versions base o []) (versions base o [])
base_chain base o needed =
    let at : max base.clock base.clock ≡ base.clock = omega arith in
    ([], ap (λ (p : ℕ). let v : Version = record { writer = base.number; begin = p; end = None; words = object_words base.objects o } in v ∷ []) (sym at), refl)

-- a chain stays one where the history stays and less is needed
stays : (base : DeviceState) (s : CallState) (t : CallState) (o : ℕ) (chain : List Version) → t.history ≡ s.history →
    AllByRecursion (λ v. is_needed base t.history o (cores_of t.marks) v ≡ true → is_needed base s.history o (cores_of s.marks) v ≡ true) (older (versions base o s.history)) →
    IsChain base.clock (is_needed base s.history o (cores_of s.marks)) chain (versions base o s.history) → IsChain base.clock (is_needed base t.history o (cores_of t.marks)) chain (versions base o t.history)
stays base s t o chain e h c =
    subst (λ (g : List FinishRecord). IsChain base.clock (is_needed base t.history o (cores_of t.marks)) chain (versions base o g)) (sym e)
    (chain-less base.clock (is_needed base s.history o (cores_of s.marks)) (is_needed base t.history o (cores_of t.marks)) chain (versions base o s.history) h c)

pub begin_chain : (whole : Programs) (base : DeviceState) (s : CallState) → IsLiveState whole base s → (n o : ℕ) (chain : List Version) → IsChain base.clock (is_needed base s.history o (cores_of s.marks)) chain (versions base o s.history) →
    (let t = (begin_call base s n s.loss).0 in IsChain base.clock (is_needed base t.history o (cores_of t.marks)) chain (versions base o t.history))
begin_chain whole base s h n o chain =
    stays base s (begin_call base s n s.loss).0 o chain (begin_history base s n)
    (each_version (IsOld base o s.history) _ (λ v old e. begin_needs base s n o v old e) (older (versions base o s.history)) (older-old base o s.history (lawful_of base s.history h.history.numbered h.history.ordered) h.history.numbered))

pub fetch_chain : (whole : Programs) (base : DeviceState) (s : CallState) → IsLiveState whole base s → (n : ℕ) (m : Mark) → get_or s.marks n None ≡ Some m → (p : ℕ) (device : Option ℕ) (o : ℕ) (chain : List Version) →
    IsChain base.clock (is_needed base s.history o (cores_of s.marks)) chain (versions base o s.history) →
    (let t = (fetch_call base s n m p s.loss device).0 in IsChain base.clock (is_needed base t.history o (cores_of t.marks)) chain (versions base o t.history))
fetch_chain whole base s h n m own p device o chain =
    stays base s (fetch_call base s n m p s.loss device).0 o chain (fetch_history base s n m p device)
    (each_version (IsOld base o s.history) _ (λ v old e. fetch_needs base s n m p device o v own e) (older (versions base o s.history)) (older-old base o s.history (lawful_of base s.history h.history.numbered h.history.ordered) h.history.numbered))

pub finish_chain : (whole : Programs) (sizes : Sizes) (base : DeviceState) (s : CallState) → IsLiveState whole base s → (n : ℕ) (m : Mark) (run : Run) (device : Option ℕ) (o : ℕ) (chain : List Version) → IsHistory whole base (finish_call sizes base s n m run s.loss device).0.history →
    IsChain base.clock (is_needed base s.history o (cores_of s.marks)) chain (versions base o s.history) →
    (let a = finish_call sizes base s n m run s.loss device in IsChain base.clock (is_needed base a.0.history o (cores_of a.0.marks)) (with_joining (added_by a.1) o chain) (versions base o a.0.history))
finish_chain whole sizes base s h n m run device o chain g c =
    subst (λ (x : List FinishRecord). IsChain base.clock (is_needed base a.0.history o (cores_of a.0.marks)) (with_joining (added_by a.1) o chain) (versions base o x)) (sym same)
    (chain-joined (is_needed base a.0.history o (cores_of a.0.marks)) base.clock base o (added_by a.1) s.history from chain
    (chain-less base.clock (is_needed base s.history o (cores_of s.marks)) (is_needed base a.0.history o (cores_of a.0.marks)) chain (versions base o s.history)
    (each_version (IsOld base o s.history) _ (λ v old e. finish_needs whole sizes base s h n m run device o v g e) (older (versions base o s.history)) (older-old base o s.history (lawful_of base s.history h.history.numbered h.history.ordered) h.history.numbered)) c))
  where
    a : CallState × Answer
    a = finish_call sizes base s n m run s.loss device

    same : a.0.history ≡ with_finish (added_by a.1) s.history
    same = finish_history sizes base s n m run device

    from : (i : FinishRecord) → added_by a.1 ≡ Some i → base.clock ≤ i.point
    from i e =
        let one : a.0.history ≡ i ∷ s.history = same ∙ ap (λ (j : Option FinishRecord). with_finish j s.history) e in
        let timely : IsTimely base (i ∷ s.history) = subst (IsTimely base) one g.timely in timely.0
