-- The images of a format and of a migration, write by write.
use Rattle.std.proofs.Common.{◌≡◌, inl, inr, ⊎_elim, ℕ, ◌-◌, ◌<◌, ◌≤◌, ◌&&◌, ◌||◌, Bool, true, false, cond, not, List, [], ◌∷◌, ◌++◌, length, take, refl, ap, ap₂, sym, ◌∙◌, subst, length-append, arith}
use Rattle.std.specs.Prelude.{◌==◌}
use Rattle.std.proofs.lemmas.Bool.{cases_eq, eq-eqb, le-leb, ne_eqb}
use Rattle.std.proofs.lemmas.Bool.Decides.{leb_tells}
use Rattle.std.proofs.lemmas.List.{append-nil}
use Rattle.std.proofs.Math.Seq.{take-append_seam}
use Rattle.set_model.specs.Sets.{TaskSet}
use Rattle.set_model.specs.Limits.{IsTaskSet}
use Rattle.device_model.specs.Words.{Change, Words, made}
use Rattle.device_model.specs.Layouts.{Layout, Plain, Paged, Migrated, magic_of, need}
use Rattle.device_model.specs.Decoding as stored
use Rattle.device_model.specs.Decoding.{Held, decode, durable_of, is_worn}
use Rattle.device_model.specs.Formats.{format_body, format_word, format_writes, formatted_words}
use Rattle.device_model.specs.Migrations.{migration_writes}
use Rattle.device_model.specs.Devices.{HoldsOn, first_on, format_on, layout_on, migrated, need_on}
use Rattle.device_model.specs.Places.{IsLaidOut}
use Rattle.device_model.proofs.Decoded.{blank_format}
use Rattle.device_model.proofs.Formatted.{length-format}
use Rattle.device_model.proofs.ForCallers.{laid_out_set}
use Rattle.device_model.proofs.Writes.{Every, Every-append, Every-written, length-words_from}
use Rattle.device_format.proofs.Images.{format_all_image, image_after_writes, migration_image}
use Rattle.device_format.specs.Puts.{HasFront}
use Rattle.recovery.specs.Images.{words_of}
use Rattle.recovery.proofs.MovedState.{plain_named}
use Rattle.kernel_core.specs.Opening.{durable_stored, migration_of, need_for, opening_writes}
use Rattle.kernel_core.specs.declared.open.How.{How}
use Rattle.kernel_core.specs.declared.open.How.TheVariants.{Fresh, Again}
use Rattle.kernel_core.proofs.Opened.{first_kind_of}
use Rattle.simulation.specs.Stores.{Store, words_in}
use Rattle.sim_run.specs.OpeningImages.{HasOpening, StandsAmid}
use Rattle.sim_run.specs.Origins.{device_for}

-- ---- before the first write

none_made : (how : How) (set : TaskSet) (old : Store) (left : List Change) → StandsAmid how set (words_in old) (words_of (old.log ++ []) old.start) [] left
none_made Fresh set old left = ap (λ (log : List Change). words_of log old.start) (append-nil old.log)
none_made Again set old left = ap (λ (log : List Change). durable_stored (decode set (words_of log old.start))) (append-nil old.log)

-- ---- a format

Every-front : (P : Change → Type 0) (xs ys : List Change) → Every P (xs ++ ys) → Every P xs
Every-front P [] ys a = tt
Every-front P (x ∷ xs) ys a = (a.0, Every-front P xs ys a.1)

within : (set : TaskSet) (l : Layout) (n : ℕ) → IsLaidOut set l → need l set ≤ n → Every (λ w. w.0 < n) (format_writes l set)
unfolding format_writes
within set l n d a =
    let low = d.header_first in
    Every-append (λ w. w.0 < n) (format_body l set) ((0, l.magic) ∷ [])
    (omega (arith, low, a), Every-written (λ p. p < n) 1 (formatted_words l set) (λ i b. omega (arith, b, a, length-words_from (format_word l set) 1 (need l set - 1))))
    (omega (arith, low, a), tt)

format_amid : (set : TaskSet) (old : Store) (w : Change) (some left : List Change) → IsTaskSet set → need_on (device_for set) ≤ length old.start → format_on (device_for set) ≡ (w ∷ some) ++ left
    → StandsAmid Fresh set (words_in old) (words_of (old.log ++ (w ∷ some)) old.start) (w ∷ some) left
format_amid set old w some [] t room all =
    let same : w ∷ some ≡ format_on (device_for set) = sym (all ∙ append-nil (w ∷ some)) in
    subst (λ (xs : List Change). HoldsOn (device_for set) (first_on (device_for set)) (words_of (old.log ++ xs) old.start)) (sym same)
    (format_all_image (device_for set) old.start old.log t (first_kind_of set.format t.format) room)
format_amid set old w some (v ∷ left) t room all =
    let l : Layout = layout_on (device_for set) in
    let laid : IsLaidOut set l = laid_out_set (device_for set).kind set t in
    let k : ℕ = length (w ∷ some) in
    let few : k ≤ need l set = omega (arith, length-format set l laid, ap (λ (xs : List Change). length xs) all, length-append (w ∷ some) (v ∷ left)) in
    let fits : Every (λ x. x.0 < length old.start) (w ∷ some) = Every-front (λ x. x.0 < length old.start) (w ∷ some) (v ∷ left) (subst (Every (λ x. x.0 < length old.start)) all (within set l (length old.start) laid room)) in
    let front : take k (format_on (device_for set)) ≡ w ∷ some = ap (take k) all ∙ take-append_seam (w ∷ some) (v ∷ left) in
    ap (decode set) (image_after_writes (w ∷ some) old.log old.start fits ∙ ap (λ (xs : List Change). made xs (words_in old)) (sym front))
    ∙ blank_format set.format (device_for set).kind set (words_in old) k t (omega arith) few

-- ---- a migration

first_fits : (set : TaskSet) (words : Words) (len : ℕ) → need_for Again set words len ≤ len → need_on (device_for set) ≤ len
first_fits set words len room = elim (leb_tells (need_on (device_for set)) len) [
  | inl fits ↦ fits.1
  | inr less ↦ absurd (omega (arith, less.1, room, ap (λ (b : Bool). cond (b && ((set.format == 2) && ((words 0 == magic_of Plain) || (words 0 == magic_of Migrated)))) (need_on (migrated set)) (need_on (device_for set))) less.0))
]

moved_fits : (set : TaskSet) (h : Held) (words : Words) (len : ℕ) → set.format ≡ 2 → decode set words ≡ stored.Holds Plain h → need_for Again set words len ≤ len → need_on (migrated set) ≤ len
moved_fits set h words len two e room =
    let first : need_on (device_for set) ≤ len = first_fits set words len room in
    let named : (words 0 == magic_of Plain) ≡ true = eq-eqb (words 0) (magic_of Plain) (plain_named set h words e) in
    let need : need_for Again set words len ≡ need_on (migrated set) =
    ap₂ (λ (a b : Bool). cond (a && (b && ((words 0 == magic_of Plain) || (words 0 == magic_of Migrated)))) (need_on (migrated set)) (need_on (device_for set))) (le-leb (need_on (device_for set)) len first) (eq-eqb set.format 2 two)
    ∙ ap (λ (b : Bool). cond (b || (words 0 == magic_of Migrated)) (need_on (migrated set)) (need_on (device_for set))) named in
    subst (λ (n : ℕ). n ≤ len) need room

-- a front of a migration keeps the state
moved_amid : (set : TaskSet) (h : Held) (old : Store) (some left : List Change) → IsTaskSet set → set.format ≡ 2 → decode set (words_in old) ≡ stored.Holds Plain h → need_on (migrated set) ≤ length old.start → migration_writes set h ≡ some ++ left
    → durable_stored (decode set (words_of (old.log ++ some) old.start)) ≡ durable_stored (decode set (words_in old))
moved_amid set h old some left t two holds room all =
    let k : ℕ = length some in
    let front : take k (migration_writes set h) ≡ some = ap (take k) all ∙ take-append_seam some left in
    let few : k ≤ length (migration_writes set h) = omega (arith, ap (λ (xs : List Change). length xs) all, length-append some left) in
    let put : HasFront (migration_writes set h) old.log (old.log ++ some) = (k, few, ap (λ (xs : List Change). old.log ++ xs) (sym front)) in
    ⊎_elim (λ e. ap durable_stored e ∙ sym (ap durable_stored holds)) (λ e. ap durable_stored e ∙ sym (ap durable_stored holds))
    (migration_image set h old.start old.log (old.log ++ some) t two room holds put)

-- where nothing is moved nothing is made
same_amid : (set : TaskSet) (old : Store) (some left : List Change) → [] ≡ some ++ left → durable_stored (decode set (words_of (old.log ++ some) old.start)) ≡ durable_stored (decode set (words_in old))
same_amid set old [] left all = none_made Again set old left
same_amid set old (w ∷ some) left all = absurd (cc all)

again_amid : (set : TaskSet) (old : Store) (some left : List Change) → IsTaskSet set → need_for Again set (words_in old) (length old.start) ≤ length old.start → opening_writes Again set (words_in old) ≡ some ++ left
    → durable_stored (decode set (words_of (old.log ++ some) old.start)) ≡ durable_stored (decode set (words_in old))
again_amid set old some left t room all = at (decode set (words_in old)) refl
  where
    at : (s : stored.Stored) → decode set (words_in old) ≡ s → durable_stored (decode set (words_of (old.log ++ some) old.start)) ≡ durable_stored (decode set (words_in old))
    at stored.Blank e = same_amid set old some left (sym (ap (migration_of set) e) ∙ all)
    at (stored.Damaged place) e = same_amid set old some left (sym (ap (migration_of set) e) ∙ all)
    at (stored.Holds Paged h) e = same_amid set old some left (sym (ap (migration_of set) e) ∙ all)
    at (stored.Holds Migrated h) e = same_amid set old some left (sym (ap (migration_of set) e) ∙ all)
    at (stored.Holds Plain h) e = ⊎_elim
        (λ two. by (is_worn (durable_of h)) two (sym (ap (λ (a : Bool). cond (a && not (is_worn (durable_of h))) (migration_writes set h) []) (eq-eqb set.format 2 two)) ∙ sym (ap (migration_of set) e) ∙ all))
        (λ n. same_amid set old some left (sym (ap (λ (a : Bool). cond (a && not (is_worn (durable_of h))) (migration_writes set h) []) (ne_eqb set.format 2 n)) ∙ sym (ap (migration_of set) e) ∙ all))
        (cases_eq set.format 2)
      where
        by : (worn : Bool) → set.format ≡ 2 → cond (not worn) (migration_writes set h) [] ≡ some ++ left → durable_stored (decode set (words_of (old.log ++ some) old.start)) ≡ durable_stored (decode set (words_in old))
        by true two whole = same_amid set old some left whole
        by false two whole = moved_amid set h old some left t two e (moved_fits set h (words_in old) (length old.start) two e room) whole

-- ---- each of both

amid : (how : How) (set : TaskSet) (old : Store) (some left : List Change) → IsTaskSet set → need_for how set (words_in old) (length old.start) ≤ length old.start → opening_writes how set (words_in old) ≡ some ++ left
    → StandsAmid how set (words_in old) (words_of (old.log ++ some) old.start) some left
amid Fresh set old [] left t room all = none_made Fresh set old left
amid Fresh set old (w ∷ some) left t room all = format_amid set old w some left t room all
amid Again set old some left t room all = again_amid set old some left t room all

-- a device that is too small is not written
none_grown : (log more : List Change) (w : Change) (some : List Change) → log ≡ log ++ ((w ∷ some) ++ more) → ⊥
none_grown log more w some e = omega (arith, ap (λ (xs : List Change). length xs) e, length-append log ((w ∷ some) ++ more))

small_amid : (how : How) (set : TaskSet) (old : Store) (some left more : List Change) → old.log ≡ old.log ++ (some ++ more) → StandsAmid how set (words_in old) (words_of (old.log ++ some) old.start) some left
small_amid how set old [] left more e = none_made how set old left
small_amid how set old (w ∷ some) left more e = absurd (none_grown old.log more w some e)

pub has_opening : (how : How) (set : TaskSet) (old new : Store) → IsTaskSet set → (length old.start < need_for how set (words_in old) (length old.start) → new.log ≡ old.log) → HasOpening how set old new
has_opening how set old new t spared = λ some left more all grown. elim (leb_tells (need_for how set (words_in old) (length old.start)) (length old.start)) [
  | inl fits ↦ amid how set old some left t fits.1 all
  | inr less ↦ small_amid how set old some left more (sym (spared less.1) ∙ grown)
]

-- nothing was written
pub unopened : (how : How) (set : TaskSet) (old : Store) → HasOpening how set old old
unopened how set old = λ some left more all grown. small_amid how set old some left more grown
