-- The floor changes no need while all that is active began there or later.
use Rattle.std.proofs.Common.{◌≡◌, ℕ, zero, suc, ◌≤◌, List, [], ◌∷◌, get_or, refl, Option, Some, None, sym, ap, subst, arith}
use Rattle.kernel_model.specs.Effects.{Programs}
use Rattle.kernel_model.specs.Items.{FinishRecord}
use Rattle.kernel_model.specs.Replay.{DeviceState}
use Rattle.kernel_model.specs.Versions.{Version, older, versions}
use Rattle.kernel_model.specs.Intervals.{Interval, read_interval}
use Rattle.kernel_model.specs.Cores.{Core, Committing, Copying, Idle, Ready, Running, all_but}
use Rattle.kernel_model.specs.Room.{count_needed, interval_of, is_needed}
use Rattle.kernel_model.specs.Chain.{IsChain, StartsFrom, floored}
use Rattle.kernel_model.specs.Live.{CallState, Mark, core_of, cores_of}
use Rattle.kernel_model.specs.LiveSound.{IsLiveState, IsMarkedIf}
use Rattle.kernel_model.proofs.BoundLaws.{start-lo}
use Rattle.kernel_model.proofs.ChainLaws.{all_but-from, chain-count, needed-floored, not_needed}
use Rattle.kernel_model.proofs.LiveNeeded.{core_at_marks}
use Rattle.kernel_model.proofs.Theorem.{clock_base}

-- an attempt that began at the floor or later has an interval from there on
interval-from : {M : Type 0} → (base : DeviceState) (history : List FinishRecord) (floor : ℕ) (c : Core M) → StartsFrom floor c → (i : Interval) → interval_of base history c ≡ Some i → floor ≤ i.lo
interval-from base history floor Idle f i e = absurd (cc e)
interval-from base history floor (Running a) f i e = let same : read_interval base history a.start a.reads ≡ i = cc in omega (arith, f, start-lo base history a.start a.reads, ap (λ (x : Interval). x.lo) same)
interval-from base history floor (Copying a k) f i e = let same : read_interval base history a.start a.reads ≡ i = cc in omega (arith, f, start-lo base history a.start a.reads, ap (λ (x : Interval). x.lo) same)
interval-from base history floor (Ready a outcome) f i e = let same : read_interval base history a.start a.reads ≡ i = cc in omega (arith, f, start-lo base history a.start a.reads, ap (λ (x : Interval). x.lo) same)
interval-from base history floor (Committing j left) f i e = absurd (cc e)

pub floor_needs : {M : Type 0} → (base : DeviceState) (history : List FinishRecord) (floor o : ℕ) (cores : List (Core M)) (v : Version) → ((k : ℕ) → StartsFrom floor (get_or cores k Idle)) → is_needed base history o cores (floored floor v) ≡ is_needed base history o cores v
floor_needs base history floor o cores v f = needed-floored base history floor o v cores (λ k i e. interval-from base history floor (get_or cores k Idle) (f k) i e)

-- what is held by a caller began at the base or later
pub marks_start : (whole : Programs) (base : DeviceState) (s : CallState) → IsLiveState whole base s → (k : ℕ) → StartsFrom base.clock (get_or (cores_of s.marks) k Idle)
marks_start whole base s h k = subst (StartsFrom base.clock) (sym (core_at_marks s.marks k)) (at (get_or s.marks k None) (h.marks k))
  where
    at : (m : Option Mark) → IsMarkedIf whole base s.history m → StartsFrom base.clock (core_of m)
    at None x = tt
    at (Some m) x = omega (arith, x.attempt.start_is, clock_base base x.attempt.older)

-- the other callers are the other cores
cores_but : (n : ℕ) (marks : List (Option Mark)) → cores_of (all_but n marks) ≡ all_but n (cores_of marks)
cores_but n [] = refl
cores_but zero (m ∷ marks) = refl
cores_but (suc n) (m ∷ marks) = ap (λ (cs : List (Core (Unit {0}))). core_of m ∷ cs) (cores_but n marks)

-- the versions that the other callers need are as many in a chain as among all
pub live_counts : (whole : Programs) (base : DeviceState) (s : CallState) → IsLiveState whole base s → (o n : ℕ) (chain : List Version) → IsChain base.clock (is_needed base s.history o (cores_of s.marks)) chain (versions base o s.history)
    → count_needed base s.history o (cores_of (all_but n s.marks)) (older chain) ≡ count_needed base s.history o (cores_of (all_but n s.marks)) (older (versions base o s.history))
live_counts whole base s h o n chain c =
    let cores = cores_of s.marks in
    let from = λ (k : ℕ) (i : Interval) (e : interval_of base s.history (get_or cores k Idle) ≡ Some i). interval-from base s.history base.clock (get_or cores k Idle) (marks_start whole base s h k) i e in
    rw (cores_but n s.marks)
    (chain-count base s.history base.clock o (all_but n cores) (all_but-from base s.history base.clock n cores from) (is_needed base s.history o cores) (not_needed base s.history o n cores) chain (versions base o s.history) c)
