-- What a migration reads, and what stands on the device after it.
use Rattle.std.proofs.Common.{◌≡◌, ◌≢◌, ◌⊎◌, ⊎_elim, inl, ℕ, Bool, true, false, cond, eqb, List, ◌++◌, length, Option, Some, None, Result, Ok, Err, arith, refl, ap, ap₂, sym, ◌∙◌, subst}
use Rattle.std.specs.Result.{IfErr, IsErrAnd}
use Rattle.set_model.specs.Sets.{TaskSet}
use Rattle.set_model.specs.Limits.{IsTaskSet}
use Rattle.device_model.specs.Words.{Change, Words}
use Rattle.device_model.specs.Layouts.{Plain, Migrated, kind_named, layout_of, magic_of, reads}
use Rattle.device_model.specs.Decoding as stored
use Rattle.device_model.specs.Decoding.{Held, Stored, Holds, decided, decode, decode_by, decode_kind, durable_of, first_fault, is_worn}
use Rattle.device_model.specs.Migrations.{migration_writes, moved_held}
use Rattle.device_model.specs.Devices.{Device, HoldsOn, held_on, layout_on, migrated, plain}
use Rattle.device_format.specs.Moves.{IsMovable}
use Rattle.device_format.specs.Puts.{HasFront}
use Rattle.device_format.proofs.Images.{migration_all_image, migration_image}
use Rattle.shadow_index.specs.declared.state.State.{State}
use Rattle.recovery.specs.declared.reader.Reader.{Reader}
use Rattle.recovery.specs.declared.refusals.BootRefusal.{BootRefusal}
use Rattle.recovery.specs.declared.refusals.BootRefusal.TheVariants.{Blank, Damaged, Lost}
use Rattle.recovery.specs.declared.refusals.MigrateRefusal as migrate
use Rattle.recovery.specs.declared.refusals.MigrateRefusal.TheVariants as not_moved
use Rattle.recovery.specs.Images.{IsOwn, IsStateOn, device_at, words_of}
use Rattle.recovery.specs.Reading.{HasRead, IsRefused}
use Rattle.recovery.specs.Migrating.{CanMove, HasBegun, HasMoved, IsPlainIn, IsUnmigrated}
use Rattle.recovery.proofs.KindLaws.{named_device, named_magic}
use Rattle.recovery.proofs.ObjectRead.{held_once}
use Rattle.recovery.proofs.ShiftLaws.{held_named}
use Rattle.recovery.proofs.WholeRead.{held, state_read}

-- ---- an error that is handed on

pub at_error : {T E : Type 0} (r : Result T E) (x : E) (Q : E → Type 0) → IsErrAnd r (λ y. y ≡ x) → Q x → IfErr r Q
at_error (Ok y) x Q h q = tt
at_error (Err y) x Q h q = subst Q (sym h) q

-- ---- words of format 1

pub plain_at : (set : TaskSet) (words : Words) → words 0 ≡ magic_of Plain → device_at set words ≡ plain set
plain_at set words e = named_device set words Plain (ap (kind_named set.format) e)

pub plain_named : (set : TaskSet) (h : Held) (words : Words) → HoldsOn (plain set) h words → words 0 ≡ magic_of Plain
plain_named set h words e = named_magic set.format (words 0) Plain (held_named set.format Plain set h words e)

-- other words hold no state of format 1
pub other_holds : {X : Type 0} (set : TaskSet) (h : Held) (words : Words) (word magic : ℕ) → word ≢ magic → word ≡ words 0 → magic ≡ magic_of Plain → HoldsOn (plain set) h words → X
other_holds set h words word magic n a b e = absurd (n (a ∙ plain_named set h words e ∙ sym b))

-- ---- words that a migration leaves

pub moved_own : (set : TaskSet) (words : Words) → words 0 ≡ magic_of Migrated → IsOwn set words
moved_own set words e two p = let u : magic_of Migrated ≡ magic_of Plain = sym e ∙ p in absurd (omega (arith, u))

pub moved_at : (set : TaskSet) (words : Words) → set.format ≡ 2 → words 0 ≡ magic_of Migrated → device_at set words ≡ migrated set
moved_at set words two e = named_device set words Migrated (ap₂ kind_named two e)

-- ---- what stands in words of format 1

plain_decodes : (format : ℕ) (set : TaskSet) (words : Words) → words 0 ≡ magic_of Plain → decode_by format set words ≡ decided Plain set words (first_fault (layout_of Plain set) set words)
unfolding decode_by decode_kind
plain_decodes format set words e = ap (λ (k : ℕ). cond (eqb k 0) stored.Blank (decode_kind set words (kind_named format k))) e

abbrev is_blank : Stored → Bool
is_blank stored.Blank = true
is_blank (stored.Damaged place) = false
is_blank (Holds kind h) = false

decided_not : (set : TaskSet) (words : Words) (fault : Option ℕ) → is_blank (decided Plain set words fault) ≡ false
decided_not set words None = refl
decided_not set words (Some j) = refl

never_blank : (set : TaskSet) (words : Words) → words 0 ≡ magic_of Plain → decode set words ≢ stored.Blank
never_blank set words e f =
    let u : true ≡ false = sym (ap is_blank f) ∙ ap is_blank (plain_decodes set.format set words e) ∙ decided_not set words (first_fault (layout_of Plain set) set words) in cc u

-- ---- why they were not read

pub not_blank : (set : TaskSet) (words : Words) (old new : ℕ) (refusal : BootRefusal) → words 0 ≡ magic_of Plain → IsRefused set words old new refusal → refusal ≢ Blank
not_blank set words old new Blank e h = λ f. absurd (never_blank set words e h)
not_blank set words old new (Damaged place) e h = λ f. cc f
not_blank set words old new Lost e h = λ f. cc f

pub refused_so : (set : TaskSet) (words : Words) (len old new : ℕ) (refusal : BootRefusal) (result : migrate.MigrateRefusal) → IsPlainIn set words len → IsRefused set words old new refusal → ((place : ℕ) → refusal ≡ Damaged place → result ≡ not_moved.Damaged place) → (refusal ≡ Lost → result ≡ not_moved.Lost)
    → IsUnmigrated set words len old new result
refused_so set words len old new Blank result p h d l = absurd (never_blank set words p.named h)
refused_so set words len old new (Damaged place) result p h d l = subst (IsUnmigrated set words len old new) (sym (d place refl)) (p, h)
refused_so set words len old new Lost result p h d l = subst (IsUnmigrated set words len old new) (sym (l refl)) h

-- ---- once they were read

-- all words were read, and the device is one of format 1
pub record AreRead (set : TaskSet) (words : Words) (into : State) : Type 0 where
  pub held : HoldsOn (plain set) (held_on (plain set) words) words
  pub state : IsStateOn (plain set) (held_on (plain set) words) into

pub are_read : (set : TaskSet) (words : Words) (r : Reader) (into : State) → words 0 ≡ magic_of Plain → HasRead (device_at set words) words r into → r.count ≡ reads (layout_on (device_at set words)) → AreRead set words into
are_read set words r into e h n =
    let f = plain_at set words e in
    let a : HasRead (plain set) words r into = subst (λ (d : Device). HasRead d words r into) f h in
    let b : r.count ≡ reads (layout_on (plain set)) = n ∙ ap (λ (d : Device). reads (layout_on d)) f in
    record { held = held (plain set) words r into a b; state = state_read (plain set) words r into a b }

pub movable : (set : TaskSet) (words now : Words) (into : State) → AreRead set words into → now ≡ words → IsMovable set into now (held_on (plain set) words)
movable set words now into a e = record {
  holds = subst (λ (w : Words). HoldsOn (plain set) (held_on (plain set) words) w) (sym e) a.held;
  index = a.state.index;
}

-- ---- after a migration

pub moved_all : (set : TaskSet) (h : Held) (log new : List Change) (start : List ℕ) → IsTaskSet set → set.format ≡ 2 → HoldsOn (plain set) h (words_of log start) → CanMove set (words_of log start) (length start) → HasMoved set (words_of log start) log new
    → HoldsOn (migrated set) (moved_held set h) (words_of new start)
moved_all set h log new start t two e can moved =
    let words = words_of log start in
    let once : held_on (plain set) words ≡ h = held_once (plain set) (held_on (plain set) words) h words can.held e in
    let log_is : new ≡ log ++ migration_writes set h = moved ∙ ap (λ (k : Held). log ++ migration_writes set k) once in
    subst (λ (l : List Change). HoldsOn (migrated set) (moved_held set h) (words_of l start)) (sym log_is) (migration_all_image set h start log t two can.old.room e)

pub moved_or_not : (set : TaskSet) (h : Held) (log new : List Change) (start : List ℕ) (X : Type 0) → IsTaskSet set → set.format ≡ 2 → HoldsOn (plain set) h (words_of log start)
    → (new ≡ log) ⊎ (X × CanMove set (words_of log start) (length start) × HasBegun set (words_of log start) log new)
    → HoldsOn (plain set) h (words_of new start) ⊎ HoldsOn (migrated set) (moved_held set h) (words_of new start)
moved_or_not set h log new start X t two e = ⊎_elim
    (λ q. inl (subst (λ (l : List Change). HoldsOn (plain set) h (words_of l start)) (sym q) e))
    (λ q. let words = words_of log start in
    let once : held_on (plain set) words ≡ h = held_once (plain set) (held_on (plain set) words) h words q.1.held e in
    migration_image set h start log new t two q.1.old.room e (subst (λ (k : Held). HasFront (migration_writes set k) log new) once q.2))
