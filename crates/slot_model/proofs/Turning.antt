-- What stands goes on through a core's turn: each kind of turn.
use Rattle.std.proofs.Common.{◌≡◌, ℕ, zero, suc, ◌+◌, ◌-◌, ◌<◌, Bool, true, false, cond, ◌||◌, List, [], ◌∷◌, get_or, set, Option, Some, None, refl, sym, ap, ◌∙◌, subst, arith, ne_eqb}
use Rattle.std.specs.Prelude.{is_none, is_some, unwrap_or}
use Rattle.std.specs.List.{AllByRecursion}
use Rattle.std.proofs.lemmas.Bool.{eq-eqb}
use Rattle.kernel_model.specs.Sizes.{Sizes}
use Rattle.kernel_model.specs.Effects.{Write}
use Rattle.kernel_model.specs.Items.{FinishRecord}
use Rattle.kernel_model.specs.Replay.{DeviceState}
use Rattle.kernel_model.specs.Versions.{Version, versions}
use Rattle.kernel_model.specs.Cores.{Attempt, Committing, Copying, Core, Idle, all_but, commits}
use Rattle.kernel_model.specs.Room.{has_room, is_needed, is_needed_by, without_room}
use Rattle.kernel_model.specs.Turns.{commit_writes}
use Rattle.kernel_model.specs.Fit.{IsRun, IsWrite}
use Rattle.kernel_model.specs.Chain.{floored}
use Rattle.kernel_model.proofs.ForCallers.{AreFrom, chosen_exists, not_needed}
use Rattle.slot_model.specs.Slots.{Image}
use Rattle.slot_model.specs.Kept.{Held, Kept, must_stand}
use Rattle.slot_model.specs.Places.{free_slot, is_taken, planned}
use Rattle.slot_model.specs.Store.{AreWritten, after_write, target}
use Rattle.slot_model.specs.Changes.{put_at, with_finished}
use Rattle.slot_model.specs.Standing.{IsPinned, IsServed, IsSpare, IsUnderWay, Stands}
use Rattle.slot_model.proofs.Chains.{IsSeen, standing_words}
use Rattle.slot_model.proofs.Nexts.{IsGiven, IsNext, both_writes, long_writes, newest_of, objects_next, pin_next, seen_of, served_next, spares_next, written_given}
use Rattle.slot_model.proofs.Pigeons.{one_free}
use Rattle.slot_model.proofs.Rooms.{HaveEnded, all_room, free_is_room, free_is_spare}
use Rattle.slot_model.proofs.Writing.{none_written, one_written, write_other, write_sized}

-- what stands, with what is known of the cores
pub record IsAble {M : Type 0} (sizes : Sizes) (base : DeviceState) (floor : ℕ) (history : List FinishRecord) (cores : List (Core M)) (kept : Kept) (image : Image) : Type 0 where
  pub stands : Stands sizes base floor history cores kept image
  pub runs : (k : ℕ) (i : FinishRecord) (left : ℕ) → get_or cores k Idle ≡ Committing i left → IsRun sizes i.run
  pub one : (j k : ℕ) → commits (get_or cores j Idle) ≡ true → commits (get_or cores k Idle) ≡ true → j ≡ k
  pub ended : (o : ℕ) → HaveEnded (versions base o history)

-- no finish joins, and nothing else changes of what stands
pub calm : {M : Type 0} → (sizes : Sizes) (base : DeviceState) (floor : ℕ) (history : List FinishRecord) (cores : List (Core M)) (kept : Kept) (image : Image) → IsAble sizes base floor history cores kept image → (n : ℕ) (d : Core M) →
    IsNext base floor history cores None history (set cores n d) → IsServed sizes base history (set cores n d) kept image n d → Stands sizes base floor history (set cores n d) kept image
calm {M} sizes base floor history cores kept image f n d x own = record {
  starts = x.starts;
  sized = f.stands.sized;
  objects = objects_next sizes base floor history cores kept image None history (set cores n d) f.stands x (λ i e. absurd (cc e));
  served = served_next sizes base history cores kept image n d history (set cores n d) kept image f.stands.served (λ k ne. refl) (λ k slot a copied ne at p. p)
      (λ k i left ne at u. record { few = u.few; spare = spares_next sizes base floor history cores kept image history (set cores n d) f.stands x i.run.writes (f.runs k i left at).writes u.spare; written = u.written }) own;
}

-- core n copies from a slot from now on
pub pinning : {M : Type 0} → (sizes : Sizes) (base : DeviceState) (floor : ℕ) (history : List FinishRecord) (cores : List (Core M)) (kept : Kept) (image : Image) → IsAble sizes base floor history cores kept image → (n slot : ℕ) (b : Attempt M) (copied : ℕ) →
    IsNext base floor history cores None history (set cores n (Copying b copied)) → IsPinned kept.chains slot b.reads → Stands sizes base floor history (set cores n (Copying b copied)) (record kept { pins = put_at n slot kept.pins }) image
pinning {M} sizes base floor history cores kept image f n slot b copied x own = record {
  starts = x.starts;
  sized = f.stands.sized;
  objects = objects_next sizes base floor history cores kept image None history (set cores n (Copying b copied)) f.stands x (λ i e. absurd (cc e));
  served = served_next sizes base history cores kept image n (Copying b copied) history (set cores n (Copying b copied)) (record kept { pins = put_at n slot kept.pins }) image f.stands.served
      (λ k ne. ap (λ t. cond t slot (kept.pins k)) (ne_eqb k n ne)) (λ k slot a copied ne at p. p)
      (λ k i left ne at u. record { few = u.few; spare = spares_next sizes base floor history cores kept image history (set cores n (Copying b copied)) f.stands x i.run.writes (f.runs k i left at).writes u.spare; written = u.written })
      (subst (λ k. IsPinned kept.chains k b.reads) (sym (ap (λ t. cond t slot (kept.pins n)) (eq-eqb n n refl))) own);
}

-- what a core that holds no attempt leaves to the others
pub idle_needs : {M : Type 0} → (base : DeviceState) (history : List FinishRecord) (o : ℕ) (v : Version) (cores : List (Core M)) (n : ℕ) (d : Core M) → is_needed_by base history o v d ≡ false → is_needed base history o (set cores n d) v ≡ is_needed base history o (all_but n cores) v
idle_needs base history o v [] n d e = refl
idle_needs base history o v (c ∷ cores) zero d e = rw e refl
idle_needs base history o v (c ∷ cores) (suc n) d e = ap (λ t. is_needed_by base history o v c || t) (idle_needs base history o v cores n d e)

-- a spare slot is spare of the same versions
pub spare_same : (slots : ℕ) (n m : Version → Bool) → ((v : Version) → m v ≡ n v) → (chain : List Held) (k : ℕ) → IsSpare slots n chain k → IsSpare slots m chain k
spare_same slots n m same chain k s = record { place = s.place; spare = go chain s.spare }
  where
    go : (hs : List Held) → AllByRecursion (λ h. must_stand n h ≡ true → h.slot ≡ k → ⊥) hs → AllByRecursion (λ h. must_stand m h ≡ true → h.slot ≡ k → ⊥) hs
    go [] p = tt
    go (h ∷ hs) p = (λ e. p.0 (ap (λ t. is_none h.version.end || t) (sym (same h.version)) ∙ e), go hs p.1)

-- what the others need, as seen after a boot
pub others_seen : {M : Type 0} → (base : DeviceState) (history : List FinishRecord) (floor o : ℕ) (cores : List (Core M)) (n : ℕ) (d : Core M) → ((v : Version) → is_needed_by base history o v d ≡ false) → AreFrom base history floor (set cores n d) → IsSeen floor (is_needed base history o (all_but n cores))
others_seen base history floor o cores n d none from v =
    sym (idle_needs base history o (floored floor v) cores n d (none (floored floor v))) ∙ seen_of base history floor o (set cores n d) from v ∙ idle_needs base history o v cores n d (none v)

-- where there is room the least free slot is spare
pub room_spare : {M : Type 0} → (sizes : Sizes) (base : DeviceState) (floor : ℕ) (history : List FinishRecord) (cores : List (Core M)) (kept : Kept) (image : Image) → IsAble sizes base floor history cores kept image → (n o : ℕ) → o < sizes.objects → IsSeen floor (is_needed base history o (all_but n cores)) →
    has_room sizes base history (all_but n cores) o ≡ true →
    IsSpare (sizes.slots o) (is_needed base history o (all_but n cores)) (kept.chains o) (unwrap_or (free_slot sizes base history (all_but n cores) kept o) 0)
room_spare sizes base floor history cores kept image f n o l seen room = go (free_slot sizes base history (all_but n cores) kept o) refl
  where
    some : is_some (free_slot sizes base history (all_but n cores) kept o) ≡ true
    some =
        let v = chosen_exists base o history None None tt in
        free_is_room base history floor o (sizes.slots o) (is_needed base history o cores) (image o) (all_but n cores) seen (not_needed base history o n cores) (versions base o history) v.0 v.1 (newest_of base o history) (f.ended o) (kept.chains o) (f.stands.objects o l) ∙ room

    go : (k : Option ℕ) → free_slot sizes base history (all_but n cores) kept o ≡ k → IsSpare (sizes.slots o) (is_needed base history o (all_but n cores)) (kept.chains o) (unwrap_or k 0)
    go None e = absurd (let g : is_some (let none : Option ℕ = None in none) ≡ true = subst (λ x. is_some x ≡ true) e some in cc g)
    go (Some k) e =
        let least = one_free 0 (sizes.slots o) (is_taken (must_stand (is_needed base history o (all_but n cores))) (kept.chains o)) k e in
        free_is_spare (sizes.slots o) (is_needed base history o (all_but n cores)) (kept.chains o) k (let m = least.below in omega (arith, m)) least.is_free

-- a commit begins, with a slot for each object that it writes
pub planning : {M : Type 0} → (sizes : Sizes) (base : DeviceState) (floor : ℕ) (history : List FinishRecord) (cores : List (Core M)) (kept : Kept) (image : Image) → IsAble sizes base floor history cores kept image → (n : ℕ) (i : FinishRecord) →
    ((k : ℕ) → (k ≡ n → ⊥) → commits (get_or cores k Idle) ≡ true → ⊥) → IsRun sizes i.run → without_room sizes base history (all_but n cores) i.run.writes ≡ None →
    (let now : List (Core M) = set cores n (Committing i (commit_writes sizes base history i)) in
    IsNext base floor history cores None history now → Stands sizes base floor history now (planned sizes base history (all_but n cores) kept) image)
planning {M} sizes base floor history cores kept image f n i alone run room x = record {
  starts = x.starts;
  sized = f.stands.sized;
  objects = objects_next sizes base floor history cores kept image None history now f.stands x (λ i e. absurd (cc e));
  served = served_next sizes base history cores kept image n (Committing i writes) history now (planned sizes base history (all_but n cores) kept) image f.stands.served (λ k ne. refl) (λ k slot a copied ne at p. p)
      (λ k j left ne at u. absurd (alone k ne (ap commits at))) own;
}
  where
    writes : ℕ
    writes = commit_writes sizes base history i

    now : List (Core M)
    now = set cores n (Committing i writes)

    spare : (w : Write) → IsWrite sizes w → has_room sizes base history (all_but n cores) w.object ≡ true → IsSpare (sizes.slots w.object) (is_needed base history w.object now) (kept.chains w.object) ((planned sizes base history (all_but n cores) kept).plan w.object)
    spare w l r =
        spare_same (sizes.slots w.object) (is_needed base history w.object (all_but n cores)) (is_needed base history w.object now) (λ v. idle_needs base history w.object v cores n (Committing i writes) refl) (kept.chains w.object) _
        (room_spare sizes base floor history cores kept image f n w.object l.object (others_seen base history floor w.object cores n (Committing i writes) (λ v. refl) x.starts) r)

    own : IsUnderWay sizes base history now (planned sizes base history (all_but n cores) kept) image i writes
    own = record {
      few = omega arith;
      spare = both_writes (IsWrite sizes) (λ w. has_room sizes base history (all_but n cores) w.object ≡ true)
          (λ w. IsSpare (sizes.slots w.object) (is_needed base history w.object now) (kept.chains w.object) ((planned sizes base history (all_but n cores) kept).plan w.object)) spare i.run.writes run.writes (all_room sizes base history (all_but n cores) i.run.writes room);
      written = let z : writes - writes ≡ 0 = omega arith in none_written sizes _ image (writes - writes) i.run.writes z;
    }

-- for each version that must stand, none of the writes goes to its slot
apart_writes : (o : ℕ) (plan : ℕ → ℕ) (must : Held → Bool) (chain : List Held) (ws : List Write) → AllByRecursion (λ w. w.object ≡ o → AllByRecursion (λ h. must h ≡ true → h.slot ≡ plan w.object → ⊥) chain) ws →
    AllByRecursion (λ h. must h ≡ true → AllByRecursion (λ w. w.object ≡ o → h.slot ≡ plan w.object → ⊥) ws) chain
apart_writes o plan must [] ws p = tt
apart_writes o plan must (h ∷ hs) ws p = (λ e. first ws p e, apart_writes o plan must hs ws (rest ws p))
  where
    first : (ws : List Write) → AllByRecursion (λ w. w.object ≡ o → AllByRecursion (λ h. must h ≡ true → h.slot ≡ plan w.object → ⊥) (h ∷ hs)) ws → must h ≡ true → AllByRecursion (λ w. w.object ≡ o → h.slot ≡ plan w.object → ⊥) ws
    first [] p e = tt
    first (w ∷ ws) p e = (λ f g. (p.0 f).0 e g, first ws p.1 e)

    rest : (ws : List Write) → AllByRecursion (λ w. w.object ≡ o → AllByRecursion (λ h. must h ≡ true → h.slot ≡ plan w.object → ⊥) (h ∷ hs)) ws → AllByRecursion (λ w. w.object ≡ o → AllByRecursion (λ h. must h ≡ true → h.slot ≡ plan w.object → ⊥) hs) ws
    rest [] p = tt
    rest (w ∷ ws) p = (λ f. (p.0 f).1, rest ws p.1)

-- what must stand keeps its words through a write
pub writes_apart : (sizes : Sizes) (needed : ℕ → Version → Bool) (kept : Kept) (image : Image) (made : ℕ) (ws : List Write) → AllByRecursion (λ w. IsSpare (sizes.slots w.object) (needed w.object) (kept.chains w.object) (kept.plan w.object)) ws → (o : ℕ) →
    AllByRecursion (λ h. must_stand (needed o) h ≡ true → after_write kept.plan (target sizes made ws) image o h.slot ≡ image o h.slot) (kept.chains o)
writes_apart sizes needed kept image made ws spare o = turn (kept.chains o) (apart_writes o kept.plan (must_stand (needed o)) (kept.chains o) ws (at ws spare))
  where
    at : (ws : List Write) → AllByRecursion (λ w. IsSpare (sizes.slots w.object) (needed w.object) (kept.chains w.object) (kept.plan w.object)) ws → AllByRecursion (λ w. w.object ≡ o → AllByRecursion (λ h. must_stand (needed o) h ≡ true → h.slot ≡ kept.plan w.object → ⊥) (kept.chains o)) ws
    at [] p = tt
    at (w ∷ ws) p = (λ e. subst (λ x. AllByRecursion (λ h. must_stand (needed x) h ≡ true → h.slot ≡ kept.plan w.object → ⊥) (kept.chains x)) e p.0.spare, at ws p.1)

    turn : (hs : List Held) → AllByRecursion (λ h. must_stand (needed o) h ≡ true → AllByRecursion (λ w. w.object ≡ o → h.slot ≡ kept.plan w.object → ⊥) ws) hs → AllByRecursion (λ h. must_stand (needed o) h ≡ true → after_write kept.plan (target sizes made ws) image o h.slot ≡ image o h.slot) hs
    turn [] p = tt
    turn (h ∷ hs) p = (λ e. write_other sizes kept.plan image o h.slot made ws (p.0 e), turn hs p.1)

-- a commit writes
pub writing : {M : Type 0} → (sizes : Sizes) (base : DeviceState) (floor : ℕ) (history : List FinishRecord) (cores : List (Core M)) (kept : Kept) (image : Image) → IsAble sizes base floor history cores kept image → (n : ℕ) (i : FinishRecord) (left : ℕ) → get_or cores n Idle ≡ Committing i (suc left) →
    (let now : List (Core M) = set cores n (Committing i left) in
    IsNext base floor history cores None history now → Stands sizes base floor history now kept (after_write kept.plan (target sizes (commit_writes sizes base history i - suc left) i.run.writes) image))
writing {M} sizes base floor history cores kept image f n i left at x = record {
  starts = x.starts;
  sized = write_sized sizes kept.plan (target sizes made i.run.writes) image f.stands.sized;
  objects = λ o l. standing_words (sizes.slots o) floor (is_needed base history o now) (image o) (after o) (versions base o history) (kept.chains o)
      (writes_apart sizes (λ p. is_needed base history p now) kept image made i.run.writes spares o) (objects_next sizes base floor history cores kept image None history now f.stands x (λ i e. absurd (cc e)) o l);
  served = served_next sizes base history cores kept image n (Committing i left) history now kept after f.stands.served (λ k ne. refl) (λ k slot a copied ne at p. p)
      (λ k j more ne e u. absurd (ne (f.one k n (ap commits e) (ap commits at)))) own;
}
  where
    now : List (Core M)
    now = set cores n (Committing i left)

    made : ℕ
    made = commit_writes sizes base history i - suc left

    after : Image
    after = after_write kept.plan (target sizes made i.run.writes) image

    run : IsRun sizes i.run
    run = f.runs n i (suc left) at

    under : IsUnderWay sizes base history cores kept image i (suc left)
    under = let h = f.stands.served n in subst (IsServed sizes base history cores kept image n) at h

    spares : AllByRecursion (λ w. IsSpare (sizes.slots w.object) (is_needed base history w.object now) (kept.chains w.object) (kept.plan w.object)) i.run.writes
    spares = spares_next sizes base floor history cores kept image history now f.stands x i.run.writes run.writes under.spare

    own : IsUnderWay sizes base history now kept after i left
    own = record {
      few = let l = under.few in omega (arith, l);
      spare = spares;
      written =
          let z : made + 1 ≡ commit_writes sizes base history i - left = let l = under.few in omega (arith, l) in
          subst (λ m. AreWritten sizes kept.plan after m i.run.writes) z
          (one_written sizes kept.plan image made i.run.writes run.in_order (long_writes sizes base history cores kept image f.stands.sized i.run.writes run.writes under.spare) under.written);
    }

-- a finish joins
pub finishing : {M : Type 0} → (sizes : Sizes) (base : DeviceState) (floor : ℕ) (history : List FinishRecord) (cores : List (Core M)) (kept : Kept) (image : Image) → IsAble sizes base floor history cores kept image → (n : ℕ) (i : FinishRecord) → get_or cores n Idle ≡ Committing i 0 →
    (let now : List (Core M) = set cores n Idle in IsNext base floor history cores (Some i) (i ∷ history) now → Stands sizes base floor (i ∷ history) now (with_finished (Some i) kept) image)
finishing {M} sizes base floor history cores kept image f n i at x = record {
  starts = x.starts;
  sized = f.stands.sized;
  objects = objects_next sizes base floor history cores kept image (Some i) (i ∷ history) (set cores n Idle) f.stands x given;
  served = served_next sizes base history cores kept image n Idle (i ∷ history) (set cores n Idle) (with_finished (Some i) kept) image f.stands.served (λ k ne. refl)
      (λ k slot a copied ne e p. pin_next sizes base history cores kept image (Some i) given k slot a copied e p)
      (λ k j more ne e u. absurd (ne (f.one k n (ap commits e) (ap commits at)))) tt;
}
  where
    under : IsUnderWay sizes base history cores kept image i 0
    under = let h = f.stands.served n in subst (IsServed sizes base history cores kept image n) at h

    given : IsGiven sizes base history cores kept image (Some i)
    given = written_given sizes base history cores kept image f.stands.sized i 0 (f.runs n i 0 at) (omega arith) under
