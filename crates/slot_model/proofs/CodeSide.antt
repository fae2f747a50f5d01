-- What ties code's tables and lists of writes to the definitions.
use Rattle.std.proofs.Common.{◌≡◌, ℕ, zero, suc, ◌+◌, ◌-◌, ◌<◌, ◌≤◌, Bool, true, false, cond, ltb, List, [], ◌∷◌, ◌++◌, get_or, set, length, slice_get, Option, Some, None, refl, sym, ap, ◌∙◌, arith}
use Rattle.std.specs.Prelude.{option_map}
use Rattle.std.specs.List.{AllByRecursion}
use Rattle.std.proofs.lemmas.Bool.{ltb-true, ltb-false}
use Rattle.kernel_model.specs.Sizes.{Sizes}
use Rattle.kernel_model.specs.Effects.{Programs, Write}
use Rattle.kernel_model.specs.Items.{FinishRecord}
use Rattle.kernel_model.specs.Replay.{DeviceState}
use Rattle.kernel_model.specs.Cores.{Idle, all_but}
use Rattle.kernel_model.specs.Events.{State, durable_commit}
use Rattle.kernel_model.specs.Fit.{IsWrite}
use Rattle.kernel_model.specs.Live.{CallState, Mark, core_of, cores_of}
use Rattle.kernel_model.specs.LiveSound.{IsLiveState}
use Rattle.kernel_model.proofs.ForCallers.{core_at_marks, durable_commit-idle}
use Rattle.slot_model.specs.Slots.{Image}
use Rattle.slot_model.specs.Kept.{Held, Kept, chosen_held, newest_slot, slot_in}
use Rattle.slot_model.specs.Places.{free_slot}
use Rattle.slot_model.specs.Store.{Target, target, targets, targets_from}
use Rattle.slot_model.specs.Changes.{afresh, named_slot, with_finished}
use Rattle.slot_model.specs.Tabled.{AreTables, Place, Tables, View, chosen_place, free_place, others_views, place_of, places_of, view_of, views_of}
use Rattle.slot_model.specs.Marks.{mark_view}
use Rattle.slot_model.specs.LiveStanding.{LiveStands}
use Rattle.slot_model.proofs.Going.{views_all}
use Rattle.slot_model.proofs.LiveCalls.{Caller}
use Rattle.slot_model.proofs.LiveCores.{cores_length, cores_set}
use Rattle.slot_model.proofs.Tables.{choose_places}
use Rattle.slot_model.proofs.Views.{free_at}
use Rattle.slot_model.proofs.Named.{alone_slot}

-- the place that is chosen is that of the version that is
pub place_held : (hi : Option ℕ) (chain : List Held) (p : Place) → chosen_place hi (places_of chain) ≡ Some p → slot_in (chosen_held hi chain) ≡ p.slot
place_held hi chain p e = go (chosen_held hi chain) (sym (choose_places hi chain) ∙ e)
  where
    go : (h : Option Held) → option_map place_of h ≡ Some p → slot_in h ≡ p.slot
    go None e = absurd (cc e)
    go (Some h) e = let same : place_of h ≡ p = cc e in ap (λ (q : Place). q.slot) same

-- what is kept anew names the same slots
pub afresh_named : {M : Type 0} → (s : State M) (kept : Kept) (clock o : ℕ) → ((k : ℕ) → get_or s.cores k Idle ≡ Idle) → named_slot s (afresh clock kept) o ≡ named_slot s kept o
afresh_named s kept clock o idle =
    let none : durable_commit s.cores ≡ None = durable_commit-idle s.cores idle in
    ap (λ j. newest_slot ((with_finished j (afresh clock kept)).chains o)) none ∙ alone_slot clock (kept.chains o) ∙ ap (λ j. newest_slot ((with_finished j kept).chains o)) (sym none)

get_front : {A : Type 0} → (xs ys : List A) (n : ℕ) → n < length xs → slice_get (xs ++ ys) n ≡ slice_get xs n
get_front [] ys n l = absurd (omega (arith, l))
get_front (x ∷ xs) ys zero l = refl
get_front (x ∷ xs) ys (suc n) l = get_front xs ys n (omega (arith, l))

get_back : {A : Type 0} → (xs ys : List A) (n : ℕ) → length xs ≤ n → slice_get (xs ++ ys) n ≡ slice_get ys (n - length xs)
get_back [] ys n l = let z : n - 0 ≡ n = omega arith in ap (slice_get ys) (sym z)
get_back (x ∷ xs) ys zero l = absurd (omega (arith, l))
get_back (x ∷ xs) ys (suc n) l = let z : suc n - length (x ∷ xs) ≡ n - length xs = omega arith in get_back xs ys n (omega (arith, l)) ∙ ap (slice_get ys) (sym z)

from_length : (object k : ℕ) (words : List ℕ) → length (targets_from object k words) ≡ length words
from_length object k [] = refl
from_length object k (word ∷ words) = ap suc (from_length object (suc k) words)

from_at : (object k : ℕ) (words : List ℕ) (n : ℕ) → n < length words → slice_get (targets_from object k words) n ≡ Some (let t : Target = record { object = object; place = k + n; word = get_or words n 0 } in t)
from_at object k [] n l = absurd (omega (arith, l))
from_at object k (word ∷ words) zero l = let z : k ≡ k + 0 = omega arith in ap (λ (p : ℕ). Some (let t : Target = record { object = object; place = p; word = word } in t)) z
from_at object k (word ∷ words) (suc n) l =
    let z : suc k + n ≡ k + suc n = omega arith in
    from_at object (suc k) words n (omega (arith, l)) ∙ ap (λ (p : ℕ). Some (let t : Target = record { object = object; place = p; word = get_or words n 0 } in t)) z

-- each write of a commit is that of the list
pub target_listed : (sizes : Sizes) (ws : List Write) (made : ℕ) → AllByRecursion (IsWrite sizes) ws → target sizes made ws ≡ slice_get (targets ws) made
target_listed sizes [] made r = refl
target_listed sizes (w ∷ ws) made r = go (target_listed sizes ws (made - sizes.size w.object) r.1) (ltb made (sizes.size w.object)) refl
  where
    long : length (targets_from w.object 0 w.words) ≡ sizes.size w.object
    long = from_length w.object 0 w.words ∙ r.0.words

    go : target sizes (made - sizes.size w.object) ws ≡ slice_get (targets ws) (made - sizes.size w.object) → (b : Bool) → ltb made (sizes.size w.object) ≡ b →
        cond b (Some (let t : Target = record { object = w.object; place = made; word = get_or w.words made 0 } in t)) (target sizes (made - sizes.size w.object) ws) ≡ slice_get (targets_from w.object 0 w.words ++ targets ws) made
    go rest true e =
        let l : made < sizes.size w.object = ltb-true made (sizes.size w.object) e in
        let z : 0 + made ≡ made = omega arith in
        ap (λ (p : ℕ). Some (let t : Target = record { object = w.object; place = p; word = get_or w.words made 0 } in t)) (sym z)
        ∙ sym (from_at w.object 0 w.words made (let k = r.0.words in omega (arith, k, l))) ∙ sym (get_front (targets_from w.object 0 w.words) (targets ws) made (omega (arith, long, l)))
    go rest false e =
        let l : sizes.size w.object ≤ made = ltb-false made (sizes.size w.object) e in
        rest ∙ ap (λ n. slice_get (targets ws) (made - n)) (sym long) ∙ sym (get_back (targets_from w.object 0 w.words) (targets ws) made (omega (arith, long, l)))

-- the views of other callers
pub callers_views : (base : DeviceState) (history : List FinishRecord) (pins : ℕ → ℕ) (views : ℕ → Option View) (marks : List (Option Mark)) (n : ℕ) → ((k : ℕ) → views k ≡ mark_view base history (get_or marks k None)) →
    others_views views n 0 (length marks) ≡ views_of base history pins 0 (cores_of (set marks n None))
callers_views base history pins views marks n h =
    ap (others_views views n 0) (sym (cores_length marks)) ∙ views_all base history pins views (cores_of marks) n (λ k. h k ∙ at k (get_or marks k None) ∙ ap (view_of base history (pins k)) (sym (core_at_marks marks k)))
    ∙ ap (views_of base history pins 0) (cores_set marks n None)
  where
    at : (k : ℕ) (m : Option Mark) → mark_view base history m ≡ view_of base history (pins k) (core_of m)
    at k None = refl
    at k (Some m) = refl

-- the free slot for a caller, by tables
pub caller_free : (whole : Programs) (sizes : Sizes) (base : DeviceState) (s : CallState) (kept : Kept) (image : Image) (t : Tables) (n o : ℕ) → IsLiveState whole base s → LiveStands sizes base s kept image → AreTables sizes base base.clock s.history kept t → o < sizes.objects →
    free_place (sizes.slots o) o (views_of base s.history kept.pins 0 (cores_of (set s.marks n None))) (t.places o) ≡ free_slot sizes base s.history (all_but n (cores_of s.marks)) kept o
caller_free whole sizes base s kept image t n o h f p l =
    ap (λ ps. free_place (sizes.slots o) o (views_of base s.history kept.pins 0 (cores_of (set s.marks n None))) ps) (p.places o l)
    ∙ ap (λ (cs : List Caller). free_place (sizes.slots o) o (views_of base s.history kept.pins 0 cs) (places_of (kept.chains o))) (sym (cores_set s.marks n None))
    ∙ free_at sizes base base.clock s.history (cores_of s.marks) kept image h.history.numbered f n o l
