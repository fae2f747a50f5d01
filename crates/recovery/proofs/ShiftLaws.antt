-- How far the words of a device were moved tells its kind.
use Rattle.std.proofs.Common.{◌≡◌, ◌≢◌, inl, inr, ⊎_elim, ℕ, ◌-◌, Bool, true, false, cond, eqb, Option, Some, None, arith, refl, ap, ap₂, sym, ◌∙◌}
use Rattle.std.proofs.lemmas.Bool.{cases_eq, eq-eqb, ne_eqb}
use Rattle.set_model.specs.Sets.{TaskSet}
use Rattle.set_model.specs.Limits.{IsTaskSet}
use Rattle.set_model.specs.Numbers.{first_index, words_needed}
use Rattle.device_model.specs.Words.{Words}
use Rattle.device_model.specs.Layouts.{Kind, Plain, Paged, Migrated, kind_named, layout_of}
use Rattle.device_model.specs.Decoding.{Held, Stored, Blank, Damaged, Holds, decided, decode_by, decode_kind, first_fault}
use Rattle.device_model.specs.Devices.{Device, HoldsOn}
use Rattle.shadow_index.specs.Tells.{IsShift, device_of, kind_by}
use Rattle.shadow_index.specs.Views.{first_kind}
use Rattle.recovery.specs.Images.{IsOwn, IsUnmoved, device_at, kind_or, shift_by}
use Rattle.recovery.proofs.KindLaws.{named_device, named_magic}

by_kind : (set : TaskSet) (shift : ℕ) (kind : Kind) → kind_by set.format shift ≡ kind → device_of set shift ≡ record { kind = kind; set = set }
by_kind set shift kind e = ap (λ (k : Kind). let d : Device = record { kind = k; set = set } in d) e

format_two : (set : TaskSet) → IsTaskSet set → set.format ≢ 1 → set.format ≡ 2
format_two set t n = let f = t.format in omega (arith, f, n)

paged_not_one : (format word : ℕ) → kind_named format word ≡ Some Paged → format ≢ 1
paged_not_one format word e z = let u : None ≡ Some Paged = ap₂ kind_named (sym z) (sym (named_magic format word Paged e)) ∙ e in cc u

migrated_not_one : (format word : ℕ) → kind_named format word ≡ Some Migrated → format ≢ 1
migrated_not_one format word e z = let u : None ≡ Some Migrated = ap₂ kind_named (sym z) (sym (named_magic format word Migrated e)) ∙ e in cc u

-- the device that word 0 names is the one that the shift names
pub shift_tells : (set : TaskSet) (words : Words) (kind : Kind) → IsTaskSet set → IsOwn set words → kind_named set.format (words 0) ≡ Some kind
    → IsShift set (shift_by kind set) × (device_of set (shift_by kind set) ≡ record { kind = kind; set = set })
shift_tells set words Plain t own e = (
  inl refl,
  ⊎_elim
      (λ one. by_kind set 0 Plain (let f : kind_by set.format 0 ≡ Plain = rw (eq-eqb set.format 1 one) refl in f))
      (λ two. absurd (own (format_two set t two) (named_magic set.format (words 0) Plain e)))
      (cases_eq set.format 1),
)
shift_tells set words Paged t own e = (inl refl, by_kind set 0 Paged (let f : kind_by set.format 0 ≡ Paged = rw (ne_eqb set.format 1 (paged_not_one set.format (words 0) e)) refl in f))
shift_tells set words Migrated t own e =
    let n = migrated_not_one set.format (words 0) e in
    let some : words_needed set - first_index set ≢ 0 = λ z. omega arith in
    (inr (format_two set t n, refl), by_kind set (shift_by Migrated set) Migrated (let f : kind_by set.format (words_needed set - first_index set) ≡ Migrated = rw (ne_eqb set.format 1 n, ne_eqb (words_needed set - first_index set) 0 some) refl in f))

-- ---- words that hold a state

abbrev kind_held : Stored → Option Kind
kind_held Blank = None
kind_held (Damaged place) = None
kind_held (Holds kind h) = Some kind

-- word 0 names their kind
pub held_named : (format : ℕ) (kind : Kind) (set : TaskSet) (h : Held) (words : Words) → decode_by format set words ≡ Holds kind h → kind_named format (words 0) ≡ Some kind
unfolding decode_by decode_kind
held_named format kind set h words e = by_blank (eqb (words 0) 0) (ap kind_held e)
  where
    by_fault : (k : Kind) (fault : Option ℕ) → kind_held (decided k set words fault) ≡ Some kind → Some k ≡ Some kind
    by_fault k (Some j) f = let u : None ≡ Some kind = f in cc u
    by_fault k None f = f

    by_kind : (k : Option Kind) → kind_held (decode_kind set words k) ≡ Some kind → k ≡ Some kind
    by_kind None f = f
    by_kind (Some k) f = by_fault k (first_fault (layout_of k set) set words) f

    by_blank : (b : Bool) → kind_held (cond b Blank (decode_kind set words (kind_named format (words 0)))) ≡ Some kind → kind_named format (words 0) ≡ Some kind
    by_blank true f = let u : None ≡ Some kind = f in cc u
    by_blank false f = by_kind (kind_named format (words 0)) f

pub held_device : (d : Device) (h : Held) (words : Words) → HoldsOn d h words → device_at d.set words ≡ d
held_device d h words e = named_device d.set words d.kind (held_named d.set.format d.kind d.set h words e)

-- ---- words that no migration reads or writes

unmoved_kind : (set : TaskSet) (words : Words) → IsTaskSet set → IsUnmoved set words → kind_or (first_kind set.format) (kind_named set.format (words 0)) ≡ first_kind set.format
unmoved_kind set words t u = by (kind_named set.format (words 0)) refl
  where
    plain : kind_named set.format (words 0) ≡ Some Plain → set.format ≡ 1
    plain e = ⊎_elim (λ one. one) (λ two. absurd (u.0 (format_two set t two) (named_magic set.format (words 0) Plain e))) (cases_eq set.format 1)

    by : (k : Option Kind) → kind_named set.format (words 0) ≡ k → kind_or (first_kind set.format) k ≡ first_kind set.format
    by None e = refl
    by (Some Plain) e = rw (eq-eqb set.format 1 (plain e)) refl
    by (Some Paged) e = rw (ne_eqb set.format 1 (paged_not_one set.format (words 0) e)) refl
    by (Some Migrated) e = absurd (u.1 (named_magic set.format (words 0) Migrated e))

pub unmoved_device : (set : TaskSet) (words : Words) → IsTaskSet set → IsUnmoved set words → device_at set words ≡ device_of set 0
unmoved_device set words t u = ap (λ (k : Kind). let d : Device = record { kind = k; set = set } in d) (unmoved_kind set words t u)
