-- What word 0 tells of a device.
use Rattle.std.proofs.Common.{◌≡◌, ◌≢◌, ℕ, ◌+◌, ◌<◌, ⊎_elim, Bool, true, false, not, cond, eqb, Option, Some, None, arith, refl, ap, sym, ◌∙◌, subst}
use Rattle.std.proofs.lemmas.Bool.{eq-eqb, eqb-true, lt-ltb, ne_eqb}
use Rattle.set_model.specs.Sets.{TaskSet}
use Rattle.set_model.specs.Numbers.{first_index, words_needed}
use Rattle.device_model.specs.Words.{Words}
use Rattle.device_model.specs.Layouts.{Kind, Plain, Paged, Migrated, Layout, kind_named, layout_of, magic_of, need}
use Rattle.device_model.specs.Decoding.{is_faulty_read}
use Rattle.device_model.specs.Devices.{Device, layout_on}
use Rattle.device_model.specs.Places.{IsLaidOut}
use Rattle.device_model.proofs.ForCallers.{magic-is}
use Rattle.recovery.specs.Images.{device_at, kind_or}
use Rattle.shadow_index.specs.declared.kind.DeviceKind.{DeviceKind}
use Rattle.shadow_index.specs.declared.layout.Layout.{Layout as Places}
use Rattle.shadow_index.specs.Tells.{IsLayoutOf, device_by, device_of}
use Rattle.shadow_index.specs.Views.{first_kind, kind_of}

same_kind : (a b : Kind) → Some a ≡ Some b → a ≡ b
same_kind a b e = cc e

-- a word that names a kind is its magic
pub named_magic : (format word : ℕ) (kind : Kind) → kind_named format word ≡ Some kind → word ≡ magic_of kind
named_magic format word kind = by (eqb word (magic_of Plain)) (eqb format 1) (eqb word (magic_of Paged)) (eqb word (magic_of Migrated)) refl refl refl
  where
    by : (a b c d : Bool) → eqb word (magic_of Plain) ≡ a → eqb word (magic_of Paged) ≡ c → eqb word (magic_of Migrated) ≡ d
        → cond a (Some Plain) (cond b None (cond c (Some Paged) (cond d (Some Migrated) None))) ≡ Some kind → word ≡ magic_of kind
    by true b c d p q r e = eqb-true word (magic_of Plain) p ∙ ap magic_of (same_kind Plain kind e)
    by false true c d p q r e = let u : None ≡ Some kind = e in cc u
    by false false true d p q r e = eqb-true word (magic_of Paged) q ∙ ap magic_of (same_kind Paged kind e)
    by false false false true p q r e = eqb-true word (magic_of Migrated) r ∙ ap magic_of (same_kind Migrated kind e)
    by false false false false p q r e = let u : None ≡ Some kind = e in cc u

-- the device that it names
pub named_device : (set : TaskSet) (words : Words) (kind : Kind) → kind_named set.format (words 0) ≡ Some kind → device_at set words ≡ record { kind = kind; set = set }
named_device set words kind e = ap device e
  where
    device : Option Kind → Device
    device k = record { kind = kind_or (first_kind set.format) k; set = set }

-- there are words 0 to 2
pub need_some : (kind : Kind) (set : TaskSet) → 2 < need (layout_of kind set) set
need_some Plain set = omega arith
need_some Paged set = omega arith
need_some Migrated set = omega arith

-- word 0 is the first that is read, and it is not faulty
pub first_sound : (l : Layout) (set : TaskSet) (words : Words) → IsLaidOut set l → words 0 ≡ l.magic → is_faulty_read l set words 0 ≡ false
first_sound l set words d e =
    let some : 0 < l.head_reads = let r = d.root_in in omega (arith, r) in
    let other : 0 ≢ l.root_read = λ z. ⊎_elim (λ f. omega (arith, z, f)) (λ f. omega (arith, z, f)) d.root_once in
    rw (lt-ltb 0 l.head_reads some, ne_eqb 0 l.root_read other) (ap not (eq-eqb (words 0) l.magic e))

pub magic_named : (d : Device) (words : Words) → kind_named d.set.format (words 0) ≡ Some d.kind → words 0 ≡ (layout_of d.kind d.set).magic
magic_named d words e = named_magic d.set.format (words 0) d.kind e ∙ sym (magic-is d.kind d.set)

-- where the root of a device stands that was migrated, and how many words are read before its pages
pub migrated_places : (d : Device) → d.kind ≡ Migrated → ((layout_on d).root ≡ words_needed d.set) × ((layout_on d).head_reads ≡ first_index d.set + 1)
migrated_places d e = (ap (λ (k : Kind). (layout_of k d.set).root) e, ap (λ (k : Kind). (layout_of k d.set).head_reads) e)

-- the layout of the set's first kind is that of the same kind
pub same_layout : (set : TaskSet) (first kind : DeviceKind) (places : Places) → IsLayoutOf (device_of set 0) places → kind_of first ≡ (device_of set 0).kind → first ≡ kind → IsLayoutOf (device_by set kind) places
same_layout set first kind places h e f = subst (λ (d : Device). IsLayoutOf d places) (ap (λ (k : Kind). let d : Device = record { kind = k; set = set } in d) (sym e ∙ ap kind_of f)) h
