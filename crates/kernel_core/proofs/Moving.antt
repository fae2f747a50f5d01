-- A kernel that goes on from what a device holds, once a state of format 1 was moved.
use Rattle.std.proofs.Common.{◌≡◌, ◌⊎◌, inl, inr, ⊎_elim, ℕ, ◌<◌, ◌≤◌, ◌&&◌, ◌++◌, Bool, true, false, cond, not, List, [], length, refl, sym, ap, ap₂, ◌∙◌, subst, arith}
use Rattle.std.specs.Prelude.{nat_le}
use Rattle.std.proofs.lemmas.Bool.{cases_eq, eq-eqb, ne_eqb}
use Rattle.std.proofs.lemmas.List.{append-nil}
use Rattle.std.proofs.Math.Seq.{take-length}
use Rattle.nv_base.specs.Streams.{FaultCounted}
use Rattle.set_model.specs.Sets.{TaskSet}
use Rattle.set_model.specs.Limits.{IsTaskSet}
use Rattle.device_model.specs.Words.{Change, Words}
use Rattle.device_model.specs.Layouts.{Plain, Paged, Migrated, magic_of}
use Rattle.device_model.specs.Decoding.{Held, Stored, Blank, Damaged, Holds, decode, durable_of, is_worn}
use Rattle.device_model.specs.Migrations.{migration_writes, moved_held}
use Rattle.device_model.specs.Devices.{Device, HoldsOn, IsKindOn, first_on, format_on, held_on, migrated, need_on, plain}
use Rattle.device_format.specs.Puts.{HasFront}
use Rattle.shadow_index.specs.Tells.{device_of}
use Rattle.recovery.specs.Images.{IsOwn, IsUnmoved, device_at, words_of}
use Rattle.recovery.specs.Migrating.{CanMove, HasBegun, HasMoved, IsMigrated}
use Rattle.recovery.proofs.KindLaws.{named_magic}
use Rattle.recovery.proofs.MovedState.{moved_at, moved_own, plain_named}
use Rattle.recovery.proofs.ObjectRead.{held_once}
use Rattle.recovery.proofs.ShiftLaws.{held_device, held_named, unmoved_device}
use Rattle.kernel_core.specs.Opening.{IsMoved, IsNotBooted, IsLeft, IsNotOpened, IsReady, durable_stored, is_of_migration, migration_of, need_for, opening_writes}
use Rattle.kernel_core.specs.declared.open.How.{How}
use Rattle.kernel_core.specs.declared.open.How.TheVariants.{Fresh, Again}
use Rattle.kernel_core.specs.declared.open.OpenRefusal.{OpenRefusal}
use Rattle.kernel_core.specs.declared.open.OpenRefusal.TheVariants as refusal
use Rattle.kernel_core.proofs.Opened.{counted_later, first_kind_of}

-- ---- which writes a migration makes

-- none, where word 0 is not that of format 1 for a set of format 2
no_writes : (set : TaskSet) (words : Words) → IsOwn set words → opening_writes Again set words ≡ []
no_writes set words own = at (decode set words) refl
  where
    at : (s : Stored) → decode set words ≡ s → migration_of set s ≡ []
    at Blank e = refl
    at (Damaged place) e = refl
    at (Holds Plain h) e = ⊎_elim
        (λ two. absurd (own two (plain_named set h words e)))
        (λ n. rw (ne_eqb set.format 2 n) refl)
        (cases_eq set.format 2)
    at (Holds Paged h) e = refl
    at (Holds Migrated h) e = refl

-- those of the state of format 1
all_writes : (set : TaskSet) (words : Words) → set.format ≡ 2 → HoldsOn (plain set) (held_on (plain set) words) words → is_worn (durable_of (held_on (plain set) words)) ≡ false
    → opening_writes Again set words ≡ migration_writes set (held_on (plain set) words)
all_writes set words two held fresh = ap (migration_of set) held ∙ ap₂ (λ (a b : Bool). cond (a && not b) (migration_writes set (held_on (plain set) words)) []) (eq-eqb set.format 2 two) fresh

-- ---- after a migration

left_same : (set : TaskSet) (len : ℕ) (words later : Words) → IsOwn set words → need_on (device_at set words) ≤ len → later ≡ words → IsReady set len words later
left_same set len words later own long e = record {
  own = subst (IsOwn set) (sym e) own;
  long = subst (λ (w : Words). need_on (device_at set w) ≤ len) (sym e) long;
  same = inl (e, no_writes set words own);
}

left_moved : (set : TaskSet) (len : ℕ) (words later : Words) → set.format ≡ 2 → CanMove set words len → HoldsOn (migrated set) (moved_held set (held_on (plain set) words)) later → IsReady set len words later
left_moved set len words later two can holds =
    let named = named_magic set.format (later 0) Migrated (held_named set.format Migrated set (moved_held set (held_on (plain set) words)) later holds) in record {
      own = moved_own set later named;
      long = subst (λ (d : Device). need_on d ≤ len) (sym (moved_at set later two named)) can.old.room;
      same = inr (record { held = can.held; fresh = can.fresh; moved = holds });
    }

-- a boot may begin where a migration went well
pub left : (set : TaskSet) (len : ℕ) (words later : Words) (log grown : List Change) → IsTaskSet set → set.format ≡ 2 → need_on (device_of set 0) ≤ len → (grown ≡ log → later ≡ words) → IsMigrated set words len log grown
    → ((h : Held) → HoldsOn (plain set) h words → HoldsOn (migrated set) (moved_held set h) later) → IsReady set len words later
left set len words later log grown t two long same m moved = ⊎_elim unmoved (⊎_elim before now) m
  where
    unmoved : IsUnmoved set words × (grown ≡ log) → IsReady set len words later
    unmoved u = left_same set len words later u.0.0 (subst (λ (d : Device). need_on d ≤ len) (sym (unmoved_device set words t u.0)) long) (same u.1)

    before : (words 0 ≡ magic_of Migrated) × (need_on (migrated set) ≤ len) × (grown ≡ log) → IsReady set len words later
    before b = left_same set len words later (moved_own set words b.0) (subst (λ (d : Device). need_on d ≤ len) (sym (moved_at set words two b.0)) b.1) (same b.2)

    now : CanMove set words len × HasMoved set words log grown → IsReady set len words later
    now c = left_moved set len words later two c.0 (moved (held_on (plain set) words) c.0.held)

-- ---- the first writes of a list

pub front_none : (writes log grown : List Change) → grown ≡ log → HasFront writes log grown
front_none writes log grown e = (0, omega arith, e ∙ sym (append-nil log))

pub front_all : (writes log grown : List Change) → grown ≡ log ++ writes → HasFront writes log grown
front_all writes log grown e = (length writes, omega arith, e ∙ ap (λ (l : List Change). log ++ l) (sym (take-length writes)))

pub front_begun : {X : Type 0} (set : TaskSet) (len : ℕ) (words : Words) (log grown : List Change) → set.format ≡ 2 → (grown ≡ log) ⊎ (X × CanMove set words len × HasBegun set words log grown) → HasFront (opening_writes Again set words) log grown
front_begun set len words log grown two = ⊎_elim
    (front_none (opening_writes Again set words) log grown)
    (λ b. subst (λ (writes : List Change). HasFront writes log grown) (sym (all_writes set words two b.1.held b.1.fresh)) b.2)

-- ---- a device that is too small

either_fits : (b : Bool) (m n len : ℕ) → m ≤ len → n ≤ len → len < cond b m n → ⊥
either_fits true m n len a b less = omega (arith, a, less)
either_fits false m n len a b less = omega (arith, b, less)

-- is not written where it is to be migrated: what can be moved has room
fits_moved : (set : TaskSet) (len : ℕ) (words : Words) → need_on (device_of set 0) ≤ len → CanMove set words len → len < need_for Again set words len → ⊥
fits_moved set len words long can less = either_fits (nat_le (need_on (device_of set 0)) len && is_of_migration set words) (need_on (migrated set)) (need_on (device_of set 0)) len can.old.room long less

pub spared_cut : {X : Type 0} (set : TaskSet) (len : ℕ) (words : Words) (log grown : List Change) → need_on (device_of set 0) ≤ len → (grown ≡ log) ⊎ (X × CanMove set words len × HasBegun set words log grown) → len < need_for Again set words len → grown ≡ log
spared_cut set len words log grown long unwritten less = ⊎_elim (λ e. e) (λ b. absurd (fits_moved set len words long b.1 less)) unwritten

pub spared_moved : (set : TaskSet) (len : ℕ) (words : Words) (log grown : List Change) → need_on (device_of set 0) ≤ len → IsMigrated set words len log grown → len < need_for Again set words len → grown ≡ log
spared_moved set len words log grown long m less = ⊎_elim (λ u. u.1) (⊎_elim (λ b. b.2) (λ c. absurd (fits_moved set len words long c.0 less))) m

-- ---- what a format leaves, whole or cut

abbrev CutLaw : Type 0
CutLaw = (d : Device) (start : List ℕ) (old new : List Change) → IsTaskSet d.set → IsKindOn d → need_on d ≤ length start → HasFront (format_on d) old new
    → (words_of new start ≡ words_of old start) ⊎ (decode d.set (words_of new start) ≡ Blank) ⊎ HoldsOn d (first_on d) (words_of new start)

pub format_left : (set : TaskSet) (start same : List ℕ) (old new : List Change) → CutLaw → IsTaskSet set → need_on (device_of set 0) ≤ length start → same ≡ start → HasFront (format_on (device_of set 0)) old new → IsLeft Fresh set (words_of old start) (words_of new same)
format_left set start same old new law t long e front = subst (λ (xs : List ℕ). IsLeft Fresh set (words_of old start) (words_of new xs)) (sym e) (law (device_of set 0) start old new t (first_kind_of set.format t.format) long front)

-- ---- the state stays the same

moved_same : (set : TaskSet) (words later : Words) → IsMoved set words later → HoldsOn (device_at set later) (held_on (device_at set later) later) later → durable_of (held_on (device_at set later) later) ≡ durable_of (held_on (plain set) words)
moved_same set words later m held =
    let h = moved_held set (held_on (plain set) words) in
    let d : device_at set later ≡ migrated set = held_device (migrated set) h later m.moved in
    let holds = subst (λ (e : Device). HoldsOn e (held_on e later) later) d held in
    let one : held_on (migrated set) later ≡ h = held_once (migrated set) (held_on (migrated set) later) h later holds m.moved in
    ap (λ (e : Device). durable_of (held_on e later)) d ∙ ap durable_of one

pub ready_holds : (set : TaskSet) (len : ℕ) (words later : Words) → IsReady set len words later → IsLeft Again set words later
ready_holds set len words later r = ⊎_elim
    (λ e. ap (λ (w : Words). durable_stored (decode set w)) e.0)
    (λ m. ap durable_stored m.moved ∙ sym (ap durable_stored m.held))
    r.same

-- also where a migration was cut
pub cut_holds : {X : Type 0} (set : TaskSet) (len : ℕ) (words later : Words) (log grown : List Change) → (grown ≡ log → later ≡ words) → (grown ≡ log) ⊎ (X × CanMove set words len × HasBegun set words log grown)
    → ((h : Held) → HoldsOn (plain set) h words → HoldsOn (plain set) h later ⊎ HoldsOn (migrated set) (moved_held set h) later) → IsLeft Again set words later
cut_holds set len words later log grown same unwritten cut = ⊎_elim
    (λ e. ap (λ (w : Words). durable_stored (decode set w)) (same e))
    (λ b. ⊎_elim
    (λ old. ap durable_stored old ∙ sym (ap durable_stored b.1.held))
    (λ new. ap durable_stored new ∙ sym (ap durable_stored b.1.held))
    (cut (held_on (plain set) words) b.1.held))
    unwritten

pub left_later : (how : How) (set : TaskSet) (words later last : Words) → last ≡ later → IsLeft how set words later → IsLeft how set words last
left_later how set words later last e h = subst (IsLeft how set words) (sym e) h

-- ---- why no boot begins after it

-- a state that was moved is read, but for a call that is lost
moved_is_lost : (set : TaskSet) (words later : Words) (old new : ℕ) (r : OpenRefusal) → IsMoved set words later → IsNotBooted set later old new r → r ≡ refusal.Lost
moved_is_lost set words later old new (refusal.Small need len) m h = absurd h
moved_is_lost set words later old new refusal.NoMemory m h = absurd h
moved_is_lost set words later old new refusal.Lost m h = refl
moved_is_lost set words later old new refusal.Blank m h = let u : Holds Migrated (moved_held set (held_on (plain set) words)) ≡ Blank = sym m.moved ∙ h in absurd (cc u)
moved_is_lost set words later old new (refusal.Damaged place) m h = let u : Holds Migrated (moved_held set (held_on (plain set) words)) ≡ Damaged place = sym m.moved ∙ h in absurd (cc u)
moved_is_lost set words later old new refusal.Worn m h = let u : true ≡ false = sym h.1 ∙ ap is_worn (moved_same set words later m h.0) ∙ m.fresh in absurd (cc u)

same_refused : (set : TaskSet) (words : Words) (len old new : ℕ) (r : OpenRefusal) → IsNotBooted set words old new r → IsNotOpened Again set words len old new r
same_refused set words len old new (refusal.Small need most) h = absurd h
same_refused set words len old new refusal.NoMemory h = absurd h
same_refused set words len old new refusal.Lost h = h
same_refused set words len old new refusal.Blank h = (refl, h)
same_refused set words len old new (refusal.Damaged place) h = (refl, h)
same_refused set words len old new refusal.Worn h = (refl, h)

lost_counts : (set : TaskSet) (later : Words) (old new : ℕ) (r : OpenRefusal) → r ≡ refusal.Lost → IsNotBooted set later old new r → FaultCounted old new
lost_counts set later old new r e h = let f : IsNotBooted set later old new refusal.Lost = subst (IsNotBooted set later old new) e h in f

later_refused : (set : TaskSet) (words : Words) (len old mid new : ℕ) (r : OpenRefusal) → old ≤ mid → mid ≤ new → IsNotBooted set words mid new r → IsNotBooted set words old new r
later_refused set words len old mid new (refusal.Small need most) l g h = absurd h
later_refused set words len old mid new refusal.NoMemory l g h = absurd h
later_refused set words len old mid new refusal.Lost l g h = counted_later old mid new l h
later_refused set words len old mid new refusal.Blank l g h = h
later_refused set words len old mid new (refusal.Damaged place) l g h = h
later_refused set words len old mid new refusal.Worn l g h = h

pub not_begun : (set : TaskSet) (len : ℕ) (words later : Words) (old mid new : ℕ) (r : OpenRefusal) → IsReady set len words later → old ≤ mid → mid ≤ new → IsNotBooted set later mid new r → IsNotOpened Again set words len old new r
not_begun set len words later old mid new r ready l g h = ⊎_elim stays moved ready.same
  where
    stays : (later ≡ words) × (opening_writes Again set words ≡ []) → IsNotOpened Again set words len old new r
    stays e = same_refused set words len old new r (later_refused set words len old mid new r l g (subst (λ (w : Words). IsNotBooted set w mid new r) e.0 h))

    moved : IsMoved set words later → IsNotOpened Again set words len old new r
    moved m =
        let e = moved_is_lost set words later mid new r m h in
        subst (IsNotOpened Again set words len old new) (sym e) (counted_later old mid new l (lost_counts set later mid new r e h))
