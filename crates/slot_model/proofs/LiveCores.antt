-- Threads' calls as turns of cores.
use Rattle.std.proofs.Common.{◌≡◌, ℕ, zero, suc, ◌<◌, ◌≤◌, true, false, List, [], ◌∷◌, get_or, set, length, Option, Some, None, refl, sym, ap, ◌∙◌, subst, arith}
use Rattle.std.specs.Prelude.{is_none}
use Rattle.std.specs.List.{AllByRecursion}
use Rattle.kernel_model.specs.Sizes.{Sizes}
use Rattle.kernel_model.specs.Effects.{Objects, Programs}
use Rattle.kernel_model.specs.Items.{FinishRecord}
use Rattle.kernel_model.specs.Replay.{DeviceState, clock_of}
use Rattle.kernel_model.specs.Versions.{Version, older, versions}
use Rattle.kernel_model.specs.Intervals.{Interval, read_interval}
use Rattle.kernel_model.specs.Cores.{Committing, Core, Idle, all_but, commits}
use Rattle.kernel_model.specs.Room.{interval_of, is_needed, is_needed_by}
use Rattle.kernel_model.specs.History.{IsHistory}
use Rattle.kernel_model.specs.Fit.{AreSized, IsBase, IsRun}
use Rattle.kernel_model.specs.Live.{CallState, Mark, core_of, cores_of}
use Rattle.kernel_model.specs.LiveSound.{IsLiveState, IsMarkedIf}
use Rattle.kernel_model.proofs.ForCallers.{AreFrom, EndsBy, IsAfter, IsOld, as_before, at_needed, base-sized, chain-joined, chain-less, clock_base, core_at, core_at_marks, each_version, fit-runs, lawful_of, needed_at, no_core, older-ended, older-old, start_lo, turned_now}
use Rattle.slot_model.specs.Slots.{Image}
use Rattle.slot_model.specs.Kept.{Kept}
use Rattle.slot_model.specs.Standing.{Stands}
use Rattle.slot_model.proofs.Nexts.{IsNext}
use Rattle.slot_model.proofs.Rooms.{HaveEnded}
use Rattle.slot_model.proofs.Turning.{IsAble}

pub cores_set : (marks : List (Option Mark)) (n : ℕ) (m : Option Mark) → set (cores_of marks) n (core_of m) ≡ cores_of (set marks n m)
cores_set [] n m = refl
cores_set (x ∷ marks) zero m = refl
cores_set (x ∷ marks) (suc n) m = ap (λ cs. core_of x ∷ cs) (cores_set marks n m)

pub cores_but : (marks : List (Option Mark)) (n : ℕ) → all_but n (cores_of marks) ≡ cores_of (all_but n marks)
cores_but [] n = refl
cores_but (x ∷ marks) zero = refl
cores_but (x ∷ marks) (suc n) = ap (λ cs. core_of x ∷ cs) (cores_but marks n)

pub cores_length : (marks : List (Option Mark)) → length (cores_of marks) ≡ length marks
cores_length [] = refl
cores_length (x ∷ marks) = ap suc (cores_length marks)

pub mark_present : (marks : List (Option Mark)) (n : ℕ) (m : Mark) → get_or marks n None ≡ Some m → n < length marks
mark_present [] n m e = absurd (cc e)
mark_present (x ∷ marks) zero m e = omega arith
mark_present (x ∷ marks) (suc n) m e = let l = mark_present marks n m e in omega (arith, l)

-- one core turns: what is needed then
needed_turn : {M : Type 0} → (base : DeviceState) (g h : List FinishRecord) (o : ℕ) (v : Version) (cores : List (Core M)) (n : ℕ) (d : Core M) → (is_needed_by base g o v d ≡ true → is_needed base h o cores v ≡ true) →
    ((k : ℕ) → (k ≡ n → ⊥) → is_needed_by base g o v (get_or cores k Idle) ≡ true → is_needed_by base h o v (get_or cores k Idle) ≡ true) → is_needed base g o (set cores n d) v ≡ true → is_needed base h o cores v ≡ true
needed_turn {M} base g h o v cores n d own others e = at k.0 (get_or (set cores n d) k.0 Idle) (core_at cores n d k.0) k.1
  where
    k : (k : ℕ) × (is_needed_by base g o v (get_or (set cores n d) k Idle) ≡ true)
    k = needed_at base g o v (set cores n d) e

    at : (k : ℕ) (x : Core M) → IsAfter cores n d k x → is_needed_by base g o v x ≡ true → is_needed base h o cores v ≡ true
    at k x (turned_now a f) i = own (rw f at i)
    at k x (as_before ne f) i = at_needed base h o v cores k (others k ne (rw f at i))
    at k x (no_core f) i = absurd (let y : is_needed_by {M = M} base g o v Idle ≡ true = rw f at i in cc y)

olds : (whole : Programs) (base : DeviceState) (history : List FinishRecord) → IsHistory whole base history → (o : ℕ) → AllByRecursion (IsOld base o history) (older (versions base o history))
olds whole base history h o = older-old base o history (lawful_of base history h.numbered h.ordered) h.numbered

pub history_ended : (whole : Programs) (base : DeviceState) (history : List FinishRecord) → IsHistory whole base history → (o : ℕ) → HaveEnded (versions base o history)
history_ended whole base history h o = each_version (λ v. EndsBy (clock_of base history) v.end) (λ v. is_none v.end ≡ false) (λ v k. at v.end k) (older (versions base o history)) (older-ended base o history (lawful_of base history h.numbered h.ordered))
  where
    at : (e : Option ℕ) → EndsBy (clock_of base history) e → is_none e ≡ false
    at None h = absurd h
    at (Some e) h = refl

-- where no finish joins
pub next_turn : {M : Type 0} → (whole : Programs) (base : DeviceState) (floor : ℕ) (history : List FinishRecord) (cores : List (Core M)) (n : ℕ) (d : Core M) → IsHistory whole base history → AreFrom base history floor cores → ((i : Interval) → interval_of base history d ≡ Some i → floor ≤ i.lo) →
    ((o : ℕ) (v : Version) → IsOld base o history v → is_needed_by base history o v d ≡ true → is_needed base history o cores v ≡ true) → IsNext base floor history cores None history (set cores n d)
next_turn {M} whole base floor history cores n d h from starts own = record { less = less; chains = λ o chain c. chain-less floor (is_needed base history o cores) (is_needed base history o (set cores n d)) chain (versions base o history) (less o) c; starts = λ k i e. at k i (get_or (set cores n d) k Idle) (core_at cores n d k) e }
  where
    less : (o : ℕ) → AllByRecursion (λ v. is_needed base history o (set cores n d) v ≡ true → is_needed base history o cores v ≡ true) (older (versions base o history))
    less o = each_version (IsOld base o history) (λ v. is_needed base history o (set cores n d) v ≡ true → is_needed base history o cores v ≡ true) (λ v old e. needed_turn base history history o v cores n d (own o v old) (λ k ne f. f) e) (older (versions base o history)) (olds whole base history h o)

    at : (k : ℕ) (i : Interval) (x : Core M) → IsAfter cores n d k x → interval_of base history x ≡ Some i → floor ≤ i.lo
    at k i x (turned_now a f) e = starts i (ap (interval_of base history) (sym f) ∙ e)
    at k i x (as_before ne f) e = from k i (ap (interval_of base history) (sym f) ∙ e)
    at k i x (no_core f) e = absurd (cc (f, e))

-- where one does
pub next_join : {M : Type 0} → (whole : Programs) (base : DeviceState) (i : FinishRecord) (history : List FinishRecord) (cores : List (Core M)) (n : ℕ) → IsHistory whole base history → IsHistory whole base (i ∷ history) →
    ((k : ℕ) → (k ≡ n → ⊥) → (o : ℕ) (v : Version) → is_needed_by base (i ∷ history) o v (get_or cores k Idle) ≡ true → is_needed_by base history o v (get_or cores k Idle) ≡ true) → AreFrom base (i ∷ history) base.clock (set cores n Idle) →
    IsNext base base.clock history cores (Some i) (i ∷ history) (set cores n Idle)
next_join {M} whole base i history cores n h g others from = record {
  less = less;
  chains = λ o chain c. chain-joined (is_needed base (i ∷ history) o (set cores n Idle)) base.clock base o (Some i) history (λ j e. let same : i ≡ j = cc e in subst (λ (x : FinishRecord). base.clock ≤ x.point) same g.timely.0) chain
      (chain-less base.clock (is_needed base history o cores) (is_needed base (i ∷ history) o (set cores n Idle)) chain (versions base o history) (less o) c);
  starts = from;
}
  where
    less : (o : ℕ) → AllByRecursion (λ v. is_needed base (i ∷ history) o (set cores n Idle) v ≡ true → is_needed base history o cores v ≡ true) (older (versions base o history))
    less o = each_version (IsOld base o history) (λ v. is_needed base (i ∷ history) o (set cores n Idle) v ≡ true → is_needed base history o cores v ≡ true) (λ v old e. needed_turn base (i ∷ history) history o v cores n Idle (λ f. absurd (cc f)) (λ k ne f. others k ne o v f) e) (older (versions base o history)) (olds whole base history h o)

-- each caller's interval begins at the base's clock or later
pub live_starts : (whole : Programs) (base : DeviceState) (s : CallState) → IsLiveState whole base s → AreFrom base s.history base.clock (cores_of s.marks)
live_starts whole base s h k i e = at (get_or s.marks k None) (h.marks k) (ap (interval_of base s.history) (sym (core_at_marks s.marks k)) ∙ e)
  where
    at : (m : Option Mark) → IsMarkedIf whole base s.history m → interval_of base s.history (core_of m) ≡ Some i → base.clock ≤ i.lo
    at None x e = absurd (cc e)
    at (Some m) x e =
        let same : read_interval base s.history m.start m.reads ≡ i = cc e in
        let a = start_lo base s.history m.start m.reads x.attempt.are_found in
        let b = clock_base base x.attempt.older in
        let c = x.attempt.start_is in
        omega (arith, a, b, c, ap (λ (y : Interval). y.lo) same)

-- no caller commits
pub none_commits : (marks : List (Option Mark)) (k : ℕ) → commits (get_or (cores_of marks) k Idle) ≡ true → ⊥
none_commits marks k e = at (get_or marks k None) (ap commits (sym (core_at_marks marks k)) ∙ e)
  where
    at : (m : Option Mark) → commits (core_of m) ≡ true → ⊥
    at None e = cc e
    at (Some m) e = cc e

-- what is known between calls
pub live_able : (whole : Programs) (sizes : Sizes) (base : DeviceState) (s : CallState) (kept : Kept) (image : Image) → IsLiveState whole base s → Stands sizes base base.clock s.history (cores_of s.marks) kept image → IsAble sizes base base.clock s.history (cores_of s.marks) kept image
live_able whole sizes base s kept image h f = record {
  stands = f;
  runs = λ k i left e. absurd (none_commits s.marks k (ap commits e));
  one = λ j k e g. absurd (none_commits s.marks j e);
  ended = history_ended whole base s.history h.history;
}

-- and within a finish
pub commit_able : (whole : Programs) (sizes : Sizes) (base : DeviceState) (s : CallState) (n : ℕ) (i : FinishRecord) (left : ℕ) (kept : Kept) (image : Image) → IsLiveState whole base s → IsRun sizes i.run → Stands sizes base base.clock s.history (set (cores_of s.marks) n (Committing i left)) kept image →
    IsAble sizes base base.clock s.history (set (cores_of s.marks) n (Committing i left)) kept image
commit_able whole sizes base s n i left kept image h run f = record {
  stands = f;
  runs = λ k j more e. at k j more (get_or (set (cores_of s.marks) n (Committing i left)) k Idle) (core_at (cores_of s.marks) n (Committing i left) k) e;
  one = λ j k e g. only j (get_or (set (cores_of s.marks) n (Committing i left)) j Idle) (core_at (cores_of s.marks) n (Committing i left) j) e ∙ sym (only k (get_or (set (cores_of s.marks) n (Committing i left)) k Idle) (core_at (cores_of s.marks) n (Committing i left) k) g);
  ended = history_ended whole base s.history h.history;
}
  where
    at : (k : ℕ) (j : FinishRecord) (more : ℕ) (x : Core (Unit {0})) → IsAfter (cores_of s.marks) n (Committing i left) k x → x ≡ Committing j more → IsRun sizes j.run
    at k j more x (turned_now a f) e = let same : Committing i left ≡ Committing j more = sym f ∙ e in let item : i ≡ j = cc same in subst (λ (y : FinishRecord). IsRun sizes y.run) item run
    at k j more x (as_before ne f) e = absurd (none_commits s.marks k (ap commits (sym f ∙ e)))
    at k j more x (no_core f) e = absurd (cc (f, e))

    only : (k : ℕ) (x : Core (Unit {0})) → IsAfter (cores_of s.marks) n (Committing i left) k x → commits x ≡ true → k ≡ n
    only k x (turned_now a f) e = a
    only k x (as_before ne f) e = absurd (none_commits s.marks k (ap commits (sym f) ∙ e))
    only k x (no_core f) e = absurd (let y : false ≡ true = ap commits (sym f) ∙ e in cc y)

-- the run of a finish is fit
pub joined_runs : (whole : Programs) (sizes : Sizes) (base : DeviceState) (history : List FinishRecord) → IsBase sizes base → ((program arg : ℕ) (objects : Objects) → AreSized sizes objects → IsRun sizes (whole program arg objects)) → IsHistory whole base history → AllByRecursion (λ i. IsRun sizes i.run) history
joined_runs whole sizes base history based fit h = fit-runs whole sizes fit base (base-sized sizes base based) history h.replays

pub joined_run : (whole : Programs) (sizes : Sizes) (base : DeviceState) (i : FinishRecord) (history : List FinishRecord) → IsBase sizes base → ((program arg : ℕ) (objects : Objects) → AreSized sizes objects → IsRun sizes (whole program arg objects)) → IsHistory whole base (i ∷ history) → IsRun sizes i.run
joined_run whole sizes base i history based fit h = (joined_runs whole sizes base (i ∷ history) based fit h).0
