-- What stands for a history and some cores, where a finish joins or none does, and a core turns.
use Rattle.std.proofs.Common.{◌≡◌, ℕ, ◌-◌, ◌<◌, ◌≤◌, Bool, true, List, [], ◌∷◌, get_or, set, Option, Some, None, refl, sym, ◌∙◌, subst, arith}
use Rattle.std.specs.List.{AllByRecursion}
use Rattle.std.proofs.lemmas.Bool.{eq-eqb, or_right}
use Rattle.kernel_model.specs.Sizes.{Sizes}
use Rattle.kernel_model.specs.Effects.{Write, written}
use Rattle.kernel_model.specs.Items.{FinishRecord}
use Rattle.kernel_model.specs.Replay.{DeviceState}
use Rattle.kernel_model.specs.Versions.{Read, Version, older, versions}
use Rattle.kernel_model.specs.Cores.{Attempt, Committing, Copying, Core, Idle, Ready, Running}
use Rattle.kernel_model.specs.Room.{is_needed, is_newest_read}
use Rattle.kernel_model.specs.Turns.{commit_writes}
use Rattle.kernel_model.specs.Fit.{IsRun, IsWrite}
use Rattle.kernel_model.specs.Chain.{IsChain, with_joining}
use Rattle.kernel_model.proofs.ForCallers.{AreFrom, IsAfter, as_before, at_needed, core_at, needed-floored, newest, no_core, turned_now}
use Rattle.slot_model.specs.Slots.{Image, IsSized}
use Rattle.slot_model.specs.Kept.{Held, Kept, must_stand, versions_in}
use Rattle.slot_model.specs.Store.{late_writes}
use Rattle.slot_model.specs.Changes.{with_finished}
use Rattle.slot_model.specs.Standing.{AreStanding, IsPinned, IsServed, IsSpare, IsUnderWay, Stands}
use Rattle.slot_model.proofs.Chains.{HasNewest, IsSeen, both_held, must_less, spare_less, standing_with}
use Rattle.slot_model.proofs.Writing.{IsLong, all_written, commit_writes-all, write_of}
use Rattle.slot_model.proofs.Pins.{there_apart, there_joined}

-- a history and what cores do, and those that come next
pub record IsNext {M : Type 0} (base : DeviceState) (floor : ℕ) (history : List FinishRecord) (cores : List (Core M)) (joined : Option FinishRecord) (later : List FinishRecord) (now : List (Core M)) : Type 0 where
  pub less : (o : ℕ) → AllByRecursion (λ v. is_needed base later o now v ≡ true → is_needed base history o cores v ≡ true) (older (versions base o history))
  pub chains : (o : ℕ) (chain : List Version) → IsChain floor (is_needed base history o cores) chain (versions base o history) → IsChain floor (is_needed base later o now) (with_joining joined o chain) (versions base o later)
  pub starts : AreFrom base later floor now

-- the version of a finish that joins stands in a spare slot
abbrev pub IsGiven : {M : Type 0} → Sizes → DeviceState → List FinishRecord → List (Core M) → Kept → Image → Option FinishRecord → Type 0
IsGiven sizes base history cores kept image joined =
    (i : FinishRecord) → joined ≡ Some i → (o : ℕ) (words : List ℕ) → written i.run.writes o ≡ Some words → IsSpare (sizes.slots o) (is_needed base history o cores) (kept.chains o) (kept.plan o) × (image o (kept.plan o) ≡ words)

pub seen_of : {M : Type 0} → (base : DeviceState) (history : List FinishRecord) (floor o : ℕ) (cores : List (Core M)) → AreFrom base history floor cores → IsSeen floor (is_needed base history o cores)
seen_of base history floor o cores f v = needed-floored base history floor o v cores f

pub newest_of : (base : DeviceState) (o : ℕ) (history : List FinishRecord) → HasNewest (versions base o history)
newest_of base o history v e = (newest base o history v e).0

-- where none joins the chain is the same
standing_chain : (slots floor : ℕ) (n m : Version → Bool) (words_at : ℕ → List ℕ) (vs later : List Version) (chain : List Held) → IsSeen floor n → IsSeen floor m → HasNewest vs → AllByRecursion (λ v. m v ≡ true → n v ≡ true) (older vs) → IsChain floor m (versions_in chain) later →
    AreStanding slots floor n words_at vs chain → AreStanding slots floor m words_at later chain
standing_chain slots floor n m words_at vs later chain fn fm new less c s = record {
  chained = c;
  places = s.places;
  apart = s.apart;
  words = both_held (λ h. must_stand m h ≡ true → must_stand n h ≡ true) (λ h. must_stand n h ≡ true → words_at h.slot ≡ h.version.words) (λ h. must_stand m h ≡ true → words_at h.slot ≡ h.version.words) (λ h f g e. g (f e)) chain (must_less floor n m fn fm vs new less chain s.chained) s.words;
}

-- what stands of each object goes on
pub objects_next : {M : Type 0} → (sizes : Sizes) (base : DeviceState) (floor : ℕ) (history : List FinishRecord) (cores : List (Core M)) (kept : Kept) (image : Image) (joined : Option FinishRecord) (later : List FinishRecord) (now : List (Core M)) →
    Stands sizes base floor history cores kept image → IsNext base floor history cores joined later now → IsGiven sizes base history cores kept image joined → (o : ℕ) → o < sizes.objects →
    AreStanding (sizes.slots o) floor (is_needed base later o now) (image o) (versions base o later) ((with_finished joined kept).chains o)
objects_next sizes base floor history cores kept image None later now s x g o l =
    let at = s.objects o l in
    standing_chain (sizes.slots o) floor (is_needed base history o cores) (is_needed base later o now) (image o) (versions base o history) (versions base o later) (kept.chains o)
    (seen_of base history floor o cores s.starts) (seen_of base later floor o now x.starts) (newest_of base o history) (x.less o) (x.chains o (versions_in (kept.chains o)) at.chained) at
objects_next sizes base floor history cores kept image (Some i) later now s x g o l =
    let at = s.objects o l in
    standing_with (sizes.slots o) floor (is_needed base history o cores) (is_needed base later o now) (image o) (versions base o history) (versions base o later) (kept.chains o) i (written i.run.writes o) (kept.plan o)
    (seen_of base history floor o cores s.starts) (seen_of base later floor o now x.starts) (newest_of base o history) (x.less o) (x.chains o (versions_in (kept.chains o)) at.chained) (λ words e. g i refl o words e) at

-- a core's copy stays where it is
pub pin_next : {M : Type 0} → (sizes : Sizes) (base : DeviceState) (history : List FinishRecord) (cores : List (Core M)) (kept : Kept) (image : Image) (joined : Option FinishRecord) → IsGiven sizes base history cores kept image joined →
    (k slot : ℕ) (a : Attempt M) (copied : ℕ) → get_or cores k Idle ≡ Copying a copied → IsPinned kept.chains slot a.reads → IsPinned (with_finished joined kept).chains slot a.reads
pin_next sizes base history cores kept image None g k slot a copied at p = p
pin_next {M} sizes base history cores kept image (Some i) g k slot a copied at p = go a.reads refl p
  where
    go : (reads : List Read) → a.reads ≡ reads → IsPinned kept.chains slot reads → IsPinned (with_finished (Some i) kept).chains slot reads
    go [] e p = tt
    go (r ∷ reads) e p =
        there_joined slot r.writer i (written i.run.writes r.object) (kept.plan r.object) (kept.chains r.object)
        (λ words f. there_apart (must_stand (is_needed base history r.object cores)) (kept.plan r.object) slot r.writer (kept.chains r.object) must (g i refl r.object words f).0.spare p) p
      where
        read : (h : Held) → h.version.writer ≡ r.writer → is_newest_read r.object h.version a.reads ≡ true
        read h f = rw (e, eq-eqb r.object r.object refl, eq-eqb r.writer h.version.writer (sym f)) refl

        must : (h : Held) → h.version.writer ≡ r.writer → must_stand (is_needed base history r.object cores) h ≡ true
        must h f = or_right _ (is_needed base history r.object cores h.version) (at_needed base history r.object h.version cores k (rw (at, read h f) refl))

-- of two facts on each write
pub both_writes : (P Q R : Write → Type 0) → ((w : Write) → P w → Q w → R w) → (ws : List Write) → AllByRecursion P ws → AllByRecursion Q ws → AllByRecursion R ws
both_writes P Q R f [] p q = tt
both_writes P Q R f (w ∷ ws) p q = (f w p.0 q.0, both_writes P Q R f ws p.1 q.1)

-- the slots of a commit under way stay spare where none joins
pub spares_next : {M : Type 0} → (sizes : Sizes) (base : DeviceState) (floor : ℕ) (history : List FinishRecord) (cores : List (Core M)) (kept : Kept) (image : Image) (later : List FinishRecord) (now : List (Core M)) →
    Stands sizes base floor history cores kept image → IsNext base floor history cores None later now → (ws : List Write) → AllByRecursion (IsWrite sizes) ws →
    AllByRecursion (λ w. IsSpare (sizes.slots w.object) (is_needed base history w.object cores) (kept.chains w.object) (kept.plan w.object)) ws →
    AllByRecursion (λ w. IsSpare (sizes.slots w.object) (is_needed base later w.object now) (kept.chains w.object) (kept.plan w.object)) ws
spares_next sizes base floor history cores kept image later now s x ws r p =
    both_writes (IsWrite sizes) (λ w. IsSpare (sizes.slots w.object) (is_needed base history w.object cores) (kept.chains w.object) (kept.plan w.object))
    (λ w. IsSpare (sizes.slots w.object) (is_needed base later w.object now) (kept.chains w.object) (kept.plan w.object))
    (λ w l q. spare_less (sizes.slots w.object) floor (is_needed base history w.object cores) (is_needed base later w.object now) (versions base w.object history) (kept.chains w.object) (kept.plan w.object)
    (seen_of base history floor w.object cores s.starts) (seen_of base later floor w.object now x.starts) (newest_of base w.object history) (x.less w.object) (s.objects w.object l.object).chained q) ws r p

-- slots and words of a commit under way are as long as their objects
pub long_writes : {M : Type 0} → (sizes : Sizes) (base : DeviceState) (history : List FinishRecord) (cores : List (Core M)) (kept : Kept) (image : Image) → IsSized sizes image → (ws : List Write) → AllByRecursion (IsWrite sizes) ws →
    AllByRecursion (λ w. IsSpare (sizes.slots w.object) (is_needed base history w.object cores) (kept.chains w.object) (kept.plan w.object)) ws → AllByRecursion (IsLong sizes kept.plan image) ws
long_writes sizes base history cores kept image sized ws r p =
    both_writes (IsWrite sizes) (λ w. IsSpare (sizes.slots w.object) (is_needed base history w.object cores) (kept.chains w.object) (kept.plan w.object)) (IsLong sizes kept.plan image)
    (λ w l q. record { slot = sized w.object (kept.plan w.object) l.object q.place; words = l.words }) ws r p

-- a commit that has written all object words has given its versions
pub written_given : {M : Type 0} → (sizes : Sizes) (base : DeviceState) (history : List FinishRecord) (cores : List (Core M)) (kept : Kept) (image : Image) → IsSized sizes image → (i : FinishRecord) (left : ℕ) → IsRun sizes i.run → left ≤ late_writes sizes base history i → IsUnderWay sizes base history cores kept image i left →
    IsGiven sizes base history cores kept image (Some i)
written_given {M} sizes base history cores kept image sized i left run few u j e o words f =
    let same : j ≡ i = cc e in
    let h = write_of (λ w. IsSpare (sizes.slots w.object) (is_needed base history w.object cores) (kept.chains w.object) (kept.plan w.object) × (image w.object (kept.plan w.object) ≡ w.words)) i.run.writes o words
    (both_writes (λ w. IsSpare (sizes.slots w.object) (is_needed base history w.object cores) (kept.chains w.object) (kept.plan w.object)) (λ w. image w.object (kept.plan w.object) ≡ w.words)
    (λ w. IsSpare (sizes.slots w.object) (is_needed base history w.object cores) (kept.chains w.object) (kept.plan w.object) × (image w.object (kept.plan w.object) ≡ w.words)) (λ w p q. (p, q)) i.run.writes u.spare
    (all_written sizes kept.plan image (commit_writes sizes base history i - left) i.run.writes (let k = commit_writes-all sizes base history i in omega (arith, k, few))
    (long_writes sizes base history cores kept image sized i.run.writes run.writes u.spare) u.written))
    (subst (λ (x : FinishRecord). written x.run.writes o ≡ Some words) same f) in
    subst (λ p. IsSpare (sizes.slots p) (is_needed base history p cores) (kept.chains p) (kept.plan p) × (image p (kept.plan p) ≡ words)) h.2 (h.1.0, h.1.1 ∙ h.3)

-- what each core needs, after core n's turn to d
pub served_next : {M : Type 0} → (sizes : Sizes) (base : DeviceState) (history : List FinishRecord) (cores : List (Core M)) (kept : Kept) (image : Image) (n : ℕ) (d : Core M) (later : List FinishRecord) (now : List (Core M)) (then : Kept) (after : Image) →
    ((k : ℕ) → IsServed sizes base history cores kept image k (get_or cores k Idle)) →
    ((k : ℕ) → (k ≡ n → ⊥) → then.pins k ≡ kept.pins k) →
    ((k slot : ℕ) (a : Attempt M) (copied : ℕ) → (k ≡ n → ⊥) → get_or cores k Idle ≡ Copying a copied → IsPinned kept.chains slot a.reads → IsPinned then.chains slot a.reads) →
    ((k : ℕ) (i : FinishRecord) (left : ℕ) → (k ≡ n → ⊥) → get_or cores k Idle ≡ Committing i left → IsUnderWay sizes base history cores kept image i left → IsUnderWay sizes base later now then after i left) →
    IsServed sizes base later now then after n d → (k : ℕ) → IsServed sizes base later now then after k (get_or (set cores n d) k Idle)
served_next {M} sizes base history cores kept image n d later now then after before pins copies commits own k = at (get_or (set cores n d) k Idle) (core_at cores n d k)
  where
    other : (k ≡ n → ⊥) → (c : Core M) → get_or cores k Idle ≡ c → IsServed sizes base history cores kept image k c → IsServed sizes base later now then after k c
    other ne Idle e h = tt
    other ne (Running a) e h = tt
    other ne (Copying a copied) e h = copies k (then.pins k) a copied ne e (subst (λ x. IsPinned kept.chains x a.reads) (sym (pins k ne)) h)
    other ne (Ready a outcome) e h = tt
    other ne (Committing i left) e h = commits k i left ne e h

    at : (x : Core M) → IsAfter cores n d k x → IsServed sizes base later now then after k x
    at x (turned_now e f) = rw f (subst (λ j. IsServed sizes base later now then after j d) (sym e) own)
    at x (as_before ne f) = rw f (other ne (get_or cores k Idle) refl (before k))
    at x (no_core f) = rw f tt
