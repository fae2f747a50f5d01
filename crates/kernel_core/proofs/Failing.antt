-- Power fails.
use Rattle.std.proofs.Common.{◌≡◌, ℕ, zero, suc, ◌+◌, ◌<◌, ◌≤◌, Bool, true, false, cond, List, [], ◌∷◌, ◌++◌, length, map, set, take, get_or, replicate, Option, Some, None, refl, sym, ap, ap₂, ◌∙◌, subst, arith}
use Rattle.std.specs.Prelude.{vec_capacity}
use Rattle.std.specs.List.{AllByRecursion}
use Rattle.std.specs.Option.{option_or}
use Rattle.std.proofs.lemmas.List.{length-append, map-append}
use Rattle.rv_core.specs.State.{MachineState}
use Rattle.nv_base.specs.declared.lines.Entry as base
use Rattle.nv_base.specs.declared.lines.Line.TheVariants as line
use Rattle.kernel_model.specs.Items as items
use Rattle.kernel_model.specs.Items.{Entry, FinishRecord}
use Rattle.kernel_model.specs.Events.{Fail, still_owed}
use Rattle.set_model.specs.Sets.{TaskSet}
use Rattle.set_model.specs.Views.{entry_if, entry_of}
use Rattle.device_model.specs.Words.{Words}
use Rattle.device_model.specs.IndexWords.{Index}
use Rattle.device_model.specs.Layouts.{boot_turns_of}
use Rattle.device_model.specs.Devices.{layout_on}
use Rattle.shadow_index.specs.States.{HasTaken, index_of}
use Rattle.shadow_index.specs.declared.state.State as own_state
use Rattle.interval.specs.Ranges.{range_of}
use Rattle.table_machine.specs.Tables.{Seat, Vacant, Saves, Tables}
use Rattle.table_machine.specs.Events.{saved_by, saved_in, table_step, untold, with_entry}
use Rattle.table_machine.specs.Configurations.{Configuration, IsRepresented}
use Rattle.table_machine.proofs.EachImage.{holds, tables_tell}
use Rattle.table_machine.proofs.Opened.{kind_setting}
use Rattle.recovery.specs.Images.{device_at}
use Rattle.recovery.specs.Booting.{IsBooting, turns_of}
use Rattle.recovery.specs.declared.boot.Boot as booting
use Rattle.vol_copy.specs.Tries.{IsFor, IsSeatAt}
use Rattle.vol_copy.specs.declared.attempt.Stage.{Stage}
use Rattle.vol_copy.specs.declared.attempt.Stage.TheVariants as stage
use Rattle.core_seats.specs.declared.seat.Seat as own
use Rattle.core_seats.specs.declared.seat.Saving.{Saving}
use Rattle.core_seats.specs.Holding.{AreSeats, IsSaving, StandsFor, StandsForBy}
use Rattle.kernel_core.specs.Commits.{setting_on}
use Rattle.kernel_core.specs.Keeping.{IsLawful, Keeps}
use Rattle.kernel_core.specs.Turns.{IsAnswered}
use Rattle.kernel_core.specs.Failures.{Fails, whole_if, whole_in, with_found}
use Rattle.kernel_core.specs.declared.kernel.Kernel.{Kernel}
use Rattle.kernel_core.specs.declared.kernel.Power.TheVariants as power
use Rattle.kernel_core.proofs.Turned.{seats_length}

-- ---- the search for a finish whose writes are all made

none_left : (o p : Option base.Entry) → option_or o p ≡ None → (o ≡ None) × (p ≡ None)
none_left None p e = (refl, e)
none_left (Some x) p e = absurd (cc e)

-- not among so many cores
whole_next : (seats : List own.Seat) (k : ℕ) (d : own.Seat) → k < length seats → whole_in (take k seats) ≡ None → whole_if (get_or seats k d).saving ≡ None → whole_in (take (suc k) seats) ≡ None
whole_next [] k d l h e = absurd (omega (arith, l))
whole_next (s ∷ seats) zero d l h e = ap (λ o. option_or o None) e
whole_next (s ∷ seats) (suc k) d l h e = let g = none_left (whole_if s.saving) (whole_in (take k seats)) h in ap₂ option_or g.0 (whole_next seats k d (omega (arith, l)) g.1 e)

pub whole_more : (seats : List own.Seat) (k : ℕ) (d : own.Seat) → k < length seats → whole_in (take k seats) ≡ None → whole_if (get_or seats k d).saving ≡ None → whole_in (take (k + 1) seats) ≡ None
whole_more seats k d l h e = let z : k + 1 ≡ suc k = omega arith in ap (λ n. whole_in (take n seats)) z ∙ whole_next seats k d l h e

-- the first one
pub whole_found : (seats : List own.Seat) (k : ℕ) (d : own.Seat) (x : base.Entry) → k < length seats → whole_in (take k seats) ≡ None → whole_if (get_or seats k d).saving ≡ Some x → Some x ≡ whole_in seats
whole_found [] k d x l h e = absurd (omega (arith, l))
whole_found (s ∷ seats) zero d x l h e = sym (ap (λ o. option_or o (whole_in seats)) e)
whole_found (s ∷ seats) (suc k) d x l h e = let g = none_left (whole_if s.saving) (whole_in (take k seats)) h in whole_found seats k d x (omega (arith, l)) g.1 e ∙ sym (ap (λ o. option_or o (whole_in seats)) g.0)

-- ---- each core gives its task up

all_next : {A : Type 0} → (P : A → Type 0) (xs : List A) (k : ℕ) (x : A) → k < length xs → AllByRecursion P (take k xs) → P x → AllByRecursion P (take (suc k) (set xs k x))
all_next P [] k x l h p = absurd (omega (arith, l))
all_next P (y ∷ xs) zero x l h p = (p, tt)
all_next P (y ∷ xs) (suc k) x l h p = (h.0, all_next P xs k x (omega (arith, l)) h.1 p)

pub all_taken : {A : Type 0} → (P : A → Type 0) (xs : List A) (k : ℕ) (x : A) → k < length xs → AllByRecursion P (take k xs) → P x → AllByRecursion P (take (k + 1) (set xs k x))
all_taken P xs k x l h p = let z : suc k ≡ k + 1 = omega arith in subst (λ n. AllByRecursion P (take n (set xs k x))) z (all_next P xs k x l h p)

pub vacant_seats : (seats : List own.Seat) (after : Index) → AllByRecursion (λ s. StandsFor s after Vacant) seats → AreSeats seats after (replicate (length seats) Vacant)
vacant_seats [] after h = tt
vacant_seats (s ∷ seats) after h = (h.0, vacant_seats seats after h.1)

-- ---- the finish is that of the tables

abbrev pub saved_if : Option FinishRecord → Option Entry
saved_if None = None
saved_if (Some i) = Some (items.entry_of i)

one_saved : (s : own.Seat) (after : Index) (t : Seat MachineState) → StandsFor s after t → saved_if (saved_by t) ≡ entry_if (whole_if s.saving)
one_saved s after t h = at s.saving h
  where
    by_stage : (st : Stage) → IsSeatAt s.attempt (range_of s.reads) st t → saved_if (saved_by t) ≡ None
    by_stage stage.Blank g = ap (λ u. saved_if (saved_by u)) g
    by_stage stage.Running g = ap (λ u. saved_if (saved_by u)) g.3
    by_stage (stage.Fetching object want) g = absurd g
    by_stage (stage.Copying object want copied) g = ap (λ u. saved_if (saved_by u)) g.4
    by_stage (stage.Ready outcome) g = ap (λ u. saved_if (saved_by u)) g.3

    by_left : (v : Saving) (g : IsSaving s v after t) (left : ℕ) (b : Bool) → g.left ≡ left → v.is_whole ≡ b → (let u : Seat MachineState = Saves g.finish after left in saved_if (saved_by u)) ≡ entry_if (cond b (Some v.entry) None)
    by_left v g zero true e f = ap (λ (x : Entry). Some x) g.entry
    by_left v g zero false e f = absurd (let l = g.begun f in omega (arith, l, e))
    by_left v g (suc left) true e f = absurd (let l = g.whole f in omega (arith, l, e))
    by_left v g (suc left) false e f = refl

    at : (v : Option Saving) → StandsForBy s after v t → saved_if (saved_by t) ≡ entry_if (whole_if v)
    at None g = by_stage s.attempt.stage g.0
    at (Some v) g = ap (λ u. saved_if (saved_by u)) g.is ∙ by_left v g g.left v.is_whole refl refl

saved_first : (o : Option FinishRecord) (p : Option FinishRecord) → saved_if (option_or o p) ≡ option_or (saved_if o) (saved_if p)
saved_first None p = refl
saved_first (Some i) p = refl

entry_first : (o p : Option base.Entry) → entry_if (option_or o p) ≡ option_or (entry_if o) (entry_if p)
entry_first None p = refl
entry_first (Some e) p = refl

pub all_saved : (seats : List own.Seat) (after : Index) (held : List (Seat MachineState)) → AreSeats seats after held → saved_if (saved_in held) ≡ entry_if (whole_in seats)
all_saved [] after [] h = refl
all_saved [] after (t ∷ held) h = absurd h
all_saved (s ∷ seats) after [] h = absurd h
all_saved (s ∷ seats) after (t ∷ held) h = saved_first (saved_by t) (saved_in held) ∙ ap₂ option_or (one_saved s after t h.0) (all_saved seats after held h.1) ∙ sym (entry_first (whole_if s.saving) (whole_in seats))

-- what is owed, and what is listed
owed_same : (found : Option base.Entry) (owed : Option base.Entry) (i : Option FinishRecord) → saved_if i ≡ entry_if found → still_owed i (entry_if owed) ≡ entry_if (option_or found owed)
owed_same None owed None e = refl
owed_same None owed (Some i) e = absurd (cc e)
owed_same (Some x) owed None e = absurd (cc e)
owed_same (Some x) owed (Some i) e = e

listed_same : (found : Option base.Entry) (xs : List base.Entry) (i : Option FinishRecord) → saved_if i ≡ entry_if found → with_entry i (map entry_of xs) ≡ map entry_of (with_found found xs)
listed_same None xs None e = refl
listed_same None xs (Some i) e = absurd (cc e)
listed_same (Some x) xs None e = absurd (cc e)
listed_same (Some x) xs (Some i) e = let same : items.entry_of i ≡ entry_of x = cc e in ap (λ y. map entry_of xs ++ y ∷ []) same ∙ sym (map-append entry_of xs (x ∷ []))

-- one more at most
pub few_listed : (found : Option base.Entry) (xs ys : List base.Entry) (room : ℕ) → ys ≡ with_found found xs → length xs < room → length ys ≤ room
few_listed None xs ys room e l = let m = ap length e in omega (arith, m, l)
few_listed (Some x) xs ys room e l = let m = ap length e in let n = length-append xs (x ∷ []) in omega (arith, m, n, l)

-- ---- the kernel

-- the configuration that a lawful kernel's tables are of
abbrev pub configuration : (k : Kernel) (words : Words) (t : Tables MachineState) → IsLawful k words t → Configuration MachineState
configuration k words t l = record { setting = setting_on k.set words; base = l.base; last = l.last; tables = t; words = words; state = l.state }

pub represented : (k : Kernel) (words : Words) (t : Tables MachineState) → Keeps k words t → (l : IsLawful k words t) → IsRepresented (configuration k words t l)
represented k words t h l = record { setting = kind_setting (setting_on k.set words).steps (device_at k.set words).kind k.set h.limits; represents = l.represented }

-- the boots stand in word 2
pub boots_stand : (k : Kernel) (words : Words) (t : Tables MachineState) → Keeps k words t → IsLawful k words t → t.boots ≡ words 2
boots_stand k words t h l =
    let c = configuration k words t l in
    let g = holds c (represented k words t h l) in
    (tables_tell c.setting c.base c.last t words c.state l.represented).1 ∙ sym (ap (λ d. d.boots) g.is_durable) ∙ sym g.keeps.boots

pub fails : (k new : Kernel) (b : booting.Boot) (found : Option base.Entry)
    → new ≡ record k { seats = new.seats; power = power.Boot b; owed = new.owed; listing = new.listing }
    → found ≡ whole_in k.seats.items
    → new.listing.items ≡ with_found found k.listing.items
    → new.owed ≡ option_or found k.owed
    → vec_capacity new.listing ≡ vec_capacity k.listing
    → length new.seats.items ≡ length k.seats.items
    → ((set : TaskSet) → AllByRecursion (λ s. IsFor set s.attempt) k.seats.items → AllByRecursion (λ s. IsFor set s.attempt) new.seats.items)
    → ((after : Index) → AreSeats new.seats.items after (replicate (length k.seats.items) Vacant))
    → turns_of b ≡ 0
    → ((words : Words) (into : own_state.State) → HasTaken k.set 0 into → IsBooting k.set words b into)
    → Fails k new line.Fail
unfolding Fails
fails k new b found is e entries owed capacity count kept vacant none ready = λ words t h l.
    let saved = all_saved k.seats.items (index_of k.committed.after) t.seats h.seats ∙ sym (ap entry_if e) in
    let seats : replicate (length k.seats.items) Vacant ≡ replicate (length t.seats) Vacant = ap (λ n. replicate n Vacant) (sym (seats_length k.seats.items (index_of k.committed.after) t.seats h.seats)) in
    subst (λ (x : Kernel). IsAnswered x words (table_step (setting_on k.set words) words t Fail) line.Fail) (sym is) (record {
      keeps = record {
        limits = h.limits;
        cores = count ∙ h.cores;
        few = omega (arith, count, h.few);
        attempts = kept k.set h.attempts;
        own = h.own;
        layout = h.layout;
        rooms = h.rooms;
        writer = h.writer;
        seats = subst (AreSeats new.seats.items (index_of k.committed.after)) seats (vacant (index_of k.committed.after));
        owed = ap (still_owed (saved_in t.seats)) h.owed ∙ owed_same found k.owed (saved_in t.seats) saved ∙ ap entry_if (sym owed);
        entries = ap (with_entry (saved_in t.seats)) h.entries ∙ listed_same found k.listing.items (saved_in t.seats) saved ∙ ap (map entry_of) (sym entries);
        capacity = omega (arith, capacity, h.capacity);
        powered = record {
          left = boot_turns_of (layout_on (device_at k.set words));
          some = omega arith;
          counted = omega (arith, none);
          power = refl;
          boots = boots_stand k words t h l;
          index = refl;
          root = refl;
          chains = refl;
          booting = ready words k.committed.after (record { room = h.rooms.after; last = λ m. absurd (omega (arith, m)); tasks = λ m. absurd (omega (arith, m)) });
        };
      };
      tells = refl;
    })

-- what no line has told
pub told_now : (k : Kernel) (words : Words) (t : Tables MachineState) → Keeps k words t → untold t ≡ entry_if (option_or (whole_in k.seats.items) k.owed)
told_now k words t h = ap (still_owed (saved_in t.seats)) h.owed ∙ owed_same (whole_in k.seats.items) k.owed (saved_in t.seats) (all_saved k.seats.items (index_of k.committed.after) t.seats h.seats)
