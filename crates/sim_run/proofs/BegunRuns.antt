-- A kernel that was opened stands before the first event of a run from where the call begins.
use Rattle.std.proofs.Common.{◌≡◌, inl, inr, ⊎_elim, ℕ, ◌≤◌, Bool, true, false, cond, not, ltb, ◌&&◌, ◌||◌, List, [], ◌++◌, length, Some, None, Result, Ok, refl, ap, ap₂, sym, ◌∙◌, subst, arith}
use Rattle.std.specs.Prelude.{◌==◌}
use Rattle.std.proofs.lemmas.Bool.{cases_eq, eq-eqb, le-leb, lt-ltb, ne_eqb}
use Rattle.std.proofs.lemmas.Bool.Decides.{leb_tells}
use Rattle.std.proofs.lemmas.List.{append-nil}
use Rattle.kernel_model.specs.Durable.{Durable}
use Rattle.kernel_model.specs.Events.{Event}
use Rattle.set_model.specs.Sets.{TaskSet}
use Rattle.set_model.specs.Limits.{IsTaskSet}
use Rattle.device_model.specs.Words.{Change, Words}
use Rattle.device_model.specs.Layouts.{Kind, Plain, Paged, Migrated, magic_of}
use Rattle.device_model.specs.Decoding as stored
use Rattle.device_model.specs.Decoding.{Held, decode, durable_of, is_worn, most_worn}
use Rattle.device_model.specs.Migrations.{migration_writes, moved_held}
use Rattle.device_model.specs.Devices.{Device, held_on, migrated, need_on, plain}
use Rattle.device_format.proofs.Images.{migration_all_image}
use Rattle.recovery.specs.Images.{device_at, words_of}
use Rattle.recovery.proofs.MovedState.{plain_named}
use Rattle.recovery.proofs.ShiftLaws.{held_device}
use Rattle.headline.specs.Report.{report_text}
use Rattle.headline.specs.Runs.{Origin, booting_origin, first_state}
use Rattle.kernel_core.specs.Events.{IsAt}
use Rattle.kernel_core.specs.Opening.{HoldsFresh, IsLeft, IsOpened, durable_stored, migration_of, need_for}
use Rattle.kernel_core.specs.declared.kernel.Kernel.{Kernel}
use Rattle.kernel_core.specs.declared.open.How.{How}
use Rattle.kernel_core.specs.declared.open.How.TheVariants.{Fresh, Again}
use Rattle.kernel_core.specs.declared.open.OpenRefusal.{OpenRefusal}
use Rattle.simulation.specs.Stores.{Store, words_in}
use Rattle.sim_run.specs.Origins.{begin_on, device_for, device_from, found_origin, fresh_run}
use Rattle.sim_run.specs.Promises.{IsBegun}
use Rattle.sim_run.specs.Replies.{Finds, Puts, found_reply}
use Rattle.answers.specs.declared.status.Status.TheVariants.{Image}
use Rattle.answers.specs.declared.status.ImageFault.TheVariants as fault
use Rattle.sim_run.proofs.Sizes.{MoveLaw, SmallLaw, fits_ok, fits_ok_then, large}

-- ---- what stood there, where a boot begins now

record Stood (set : TaskSet) (words later : Words) : Type 0 where
  kind : Kind
  held : Held
  stands : decode set words ≡ stored.Holds kind held
  device : device_from set kind ≡ device_at set later
  same : durable_of (held_on (device_at set later) later) ≡ durable_of held

unmoved_words : (set : TaskSet) (old new : Store) (s : stored.Stored) → decode set (words_in old) ≡ s → migration_of set s ≡ [] → new.log ≡ old.log ++ migration_of set (decode set (words_in old)) → new.start ≡ old.start → words_in new ≡ words_in old
unmoved_words set old new s e none written start =
    ap₂ words_of (written ∙ ap (λ (x : List Change). old.log ++ x) (ap (migration_of set) e ∙ none) ∙ append-nil old.log) start

-- words that were not moved: the device is that of before
same_device : (set : TaskSet) (kind : Kind) (h : Held) (old new : Store) → decode set (words_in old) ≡ stored.Holds kind h → words_in new ≡ words_in old → record { kind = kind; set = set } ≡ device_at set (words_in new)
same_device set kind h old new e same = sym (ap (device_at set) same ∙ held_device (record { kind = kind; set = set }) h (words_in old) e)

-- words of format 1 for a set of format 2
moved_device : (set : TaskSet) (h : Held) (old new : Store) → IsTaskSet set → set.format ≡ 2 → decode set (words_in old) ≡ stored.Holds Plain h → is_worn (durable_of h) ≡ false → need_on (device_for set) ≤ length old.start → need_for Again set (words_in old) (length old.start) ≤ length old.start
    → new.log ≡ old.log ++ migration_of set (decode set (words_in old)) → new.start ≡ old.start → migrated set ≡ device_at set (words_in new)
moved_device set h old new t two e fresh long more written start =
    let writes : migration_of set (decode set (words_in old)) ≡ migration_writes set h = ap (migration_of set) e ∙ ap₂ (λ (a b : Bool). cond (a && not b) (migration_writes set h) []) (eq-eqb set.format 2 two) fresh in
    let same : words_in new ≡ words_of (old.log ++ migration_writes set h) old.start = ap₂ words_of (written ∙ ap (λ (x : List Change). old.log ++ x) writes) start in
    let named : (words_in old 0 == magic_of Plain) ≡ true = eq-eqb (words_in old 0) (magic_of Plain) (plain_named set h (words_in old) e) in
    let need : need_for Again set (words_in old) (length old.start) ≡ need_on (migrated set) =
    ap₂ (λ (a b : Bool). cond (a && (b && ((words_in old 0 == magic_of Plain) || (words_in old 0 == magic_of Migrated)))) (need_on (migrated set)) (need_on (device_for set))) (le-leb (need_on (device_for set)) (length old.start) long) (eq-eqb set.format 2 two)
    ∙ ap (λ (b : Bool). cond (b || (words_in old 0 == magic_of Migrated)) (need_on (migrated set)) (need_on (device_for set))) named in
    let room : need_on (migrated set) ≤ length old.start = subst (λ (n : ℕ). n ≤ length old.start) need more in
    let holds = migration_all_image set h old.start old.log t two room e in
    sym (ap (device_at set) same ∙ held_device (migrated set) (moved_held set h) (words_of (old.log ++ migration_writes set h) old.start) holds)

device_then : (set : TaskSet) (kind : Kind) (h : Held) (old new : Store) → IsTaskSet set → decode set (words_in old) ≡ stored.Holds kind h → is_worn (durable_of h) ≡ false → need_on (device_for set) ≤ length old.start → need_for Again set (words_in old) (length old.start) ≤ length old.start
    → new.log ≡ old.log ++ migration_of set (decode set (words_in old)) → new.start ≡ old.start → device_from set kind ≡ device_at set (words_in new)
device_then set Plain h old new t e fresh long more written start = ⊎_elim
    (λ two. ap (λ (b : Bool). cond b (migrated set) (plain set)) (eq-eqb set.format 2 two) ∙ moved_device set h old new t two e fresh long more written start)
    (λ other.
    let n = ne_eqb set.format 2 other in
    ap (λ (b : Bool). cond b (migrated set) (plain set)) n
    ∙ same_device set Plain h old new e (unmoved_words set old new (stored.Holds Plain h) e (ap (λ (b : Bool). cond (b && not (is_worn (durable_of h))) (migration_writes set h) []) n) written start))
    (cases_eq set.format 2)
device_then set Paged h old new t e fresh long more written start = same_device set Paged h old new e (unmoved_words set old new (stored.Holds Paged h) e refl written start)
device_then set Migrated h old new t e fresh long more written start = same_device set Migrated h old new e (unmoved_words set old new (stored.Holds Migrated h) e refl written start)

stood : (set : TaskSet) (old new : Store) → IsTaskSet set → HoldsFresh set (words_in new) → durable_stored (decode set (words_in new)) ≡ durable_stored (decode set (words_in old)) → need_on (device_for set) ≤ length old.start → need_for Again set (words_in old) (length old.start) ≤ length old.start
    → new.log ≡ old.log ++ migration_of set (decode set (words_in old)) → new.start ≡ old.start → Stood set (words_in old) (words_in new)
stood set old new t f left long more written start = at (decode set (words_in old)) refl
  where
    now : durable_stored (decode set (words_in old)) ≡ Some (durable_of (held_on (device_at set (words_in new)) (words_in new)))
    now = sym left ∙ ap durable_stored f.holds

    at : (s : stored.Stored) → decode set (words_in old) ≡ s → Stood set (words_in old) (words_in new)
    at stored.Blank e = let u : None ≡ Some (durable_of (held_on (device_at set (words_in new)) (words_in new))) = sym (ap durable_stored e) ∙ now in absurd (cc u)
    at (stored.Damaged place) e = let u : None ≡ Some (durable_of (held_on (device_at set (words_in new)) (words_in new))) = sym (ap durable_stored e) ∙ now in absurd (cc u)
    at (stored.Holds kind h) e =
        let u : Some (durable_of h) ≡ Some (durable_of (held_on (device_at set (words_in new)) (words_in new))) = sym (ap durable_stored e) ∙ now in
        let same : durable_of h ≡ durable_of (held_on (device_at set (words_in new)) (words_in new)) = cc u in
        let fresh : is_worn (durable_of h) ≡ false = ap is_worn same ∙ f.fresh in record {
          kind = kind;
          held = h;
          stands = e;
          device = device_then set kind h old new t e fresh long more written start;
          same = sym same;
        }

-- ---- so the run begins there

origin_by : (d e : Device) (g h : Held) → d ≡ e → durable_of g ≡ durable_of h → booting_origin d g ≡ booting_origin e h
origin_by d e g h same held = ap (λ (x : Device). booting_origin x g) same ∙ ap (by e) held
  where
    by : Device → Durable → Origin
    by e x = record (booting_origin e g) { base = x.state; last = x.last; boots = x.boots }

begun_there : (set : TaskSet) (words later : Words) → Stood set words later → is_worn (durable_of (held_on (device_at set later) later)) ≡ false → begin_on Again set words ≡ Some (booting_origin (device_at set later) (held_on (device_at set later) later))
begun_there set words later s fresh =
    ap (found_origin set) s.stands ∙ ap (λ (b : Bool). cond b None (Some (booting_origin (device_from set s.kind) s.held))) (sym (ap is_worn s.same) ∙ fresh)
    ∙ ap (λ (o : Origin). Some o) (origin_by (device_from set s.kind) (device_at set later) s.held (held_on (device_at set later) later) s.device (sym s.same))

replied_there : (set : TaskSet) (words later : Words) (events : List Event) → Stood set words later → is_worn (durable_of (held_on (device_at set later) later)) ≡ false
    → found_reply set events (decode set words) ≡ Puts (report_text (booting_origin (device_at set later) (held_on (device_at set later) later)) events)
replied_there set words later events s fresh =
    ap (found_reply set events) s.stands ∙ ap (λ (b : Bool). cond b (Finds (Image fault.Worn)) (Puts (report_text (booting_origin (device_from set s.kind) s.held) events))) (sym (ap is_worn s.same) ∙ fresh)
    ∙ ap (λ (o : Origin). Puts (report_text o events)) (origin_by (device_from set s.kind) (device_at set later) s.held (held_on (device_at set later) later) s.device (sym s.same))

third_false : (a b c : Bool) → (a || (b || c)) ≡ false → c ≡ false
third_false true b c e = absurd (cc e)
third_false false true c e = absurd (cc e)
third_false false false c e = e

few_boots : (d : Durable) → is_worn d ≡ false → d.boots ≤ 4000000000
few_boots d e = elim (leb_tells d.boots most_worn) [ inl t ↦ t.1 | inr t ↦ let u : false ≡ true = sym (third_false (ltb most_worn d.state.number) (ltb most_worn d.state.next) (ltb most_worn d.boots) e) ∙ lt-ltb most_worn d.boots t.1 in absurd (cc u) ]

again : (set : TaskSet) (events : List Event) (room : ℕ) (old new : Store) (k : Kernel) → IsOpened Again set room (words_in old) old.log (words_in new) new.log k → need_on (device_at set (words_in new)) ≤ length new.start → IsLeft Again set (words_in old) (words_in new) → new.start ≡ old.start → old.losses ≤ new.losses
    → room ≡ length events → length events ≤ 1000000 → need_on (device_for set) ≤ length old.start → need_for Again set (words_in old) (length old.start) ≤ length old.start → IsBegun Again set events old new k
again set events room old new k o long left start grows count few first then =
    let later : Words = words_in new in
    let d : Device = device_at set later in
    let g : Held = held_on d later in
    let boot : HoldsFresh set later × IsAt (booting_origin d g) k later (first_state (booting_origin d g)) = subst (λ (x : TaskSet). HoldsFresh x later × IsAt (booting_origin (device_at x later) (held_on (device_at x later) later)) k later (first_state (booting_origin (device_at x later) (held_on (device_at x later) later)))) o.set_is (o.begins.held, o.begins.at) in
    let t : IsTaskSet set = subst IsTaskSet o.set_is boot.1.keeps.limits in
    let s : Stood set (words_in old) later = stood set old new t boot.0 left first then o.written start in
    let boots : g.boots ≤ 4000000000 = few_boots (durable_of g) boot.0.fresh in record {
      origin = booting_origin d g;
      is = begun_there set (words_in old) later s boot.0.fresh;
      replies = large Again (length old.start) set (words_in old) events first then ∙ replied_there set (words_in old) later events s boot.0.fresh;
      begins = record {
        at = boot.1;
        live = o.live;
        room = let r = o.room_is in omega (arith, r, count);
        long = long;
        boots = omega (arith, few, boots);
      };
      written = o.written;
      start = start;
      few = grows;
      fits = then;
    }

fresh : (set : TaskSet) (events : List Event) (room : ℕ) (old new : Store) (k : Kernel) → IsOpened Fresh set room (words_in old) old.log (words_in new) new.log k → new.start ≡ old.start → old.losses ≤ new.losses → room ≡ length events → length events ≤ 1000000 → need_on (device_for set) ≤ length old.start
    → IsBegun Fresh set events old new k
fresh set events room old new k o start grows count few first = record {
  origin = fresh_run set;
  is = refl;
  replies = large Fresh (length old.start) set (words_in old) events first first;
  begins = record {
    at = subst (λ (x : TaskSet). IsAt (fresh_run x) k (words_in new) (first_state (fresh_run x))) o.set_is o.begins;
    live = o.live;
    room = let r = o.room_is in omega (arith, r, count);
    long = subst (λ (xs : List ℕ). need_on (device_for set) ≤ length xs) (sym start) first;
    boots = omega (arith, few);
  };
  written = o.written;
  start = start;
  few = grows;
  fits = first;
}

pub begun : {Q : Type 0} → (how : How) (set : TaskSet) (events : List Event) (room : ℕ) (old new : Store) (r : Result Kernel OpenRefusal) (k : Kernel) → SmallLaw (length old.start) (need_on (device_for set)) r Q → MoveLaw (length old.start) (need_for how set (words_in old) (length old.start)) r → r ≡ Ok k
    → IsOpened how set room (words_in old) old.log (words_in new) new.log k → need_on (device_at set (words_in new)) ≤ length new.start → IsLeft how set (words_in old) (words_in new) → new.start ≡ old.start → old.losses ≤ new.losses → room ≡ length events → length events ≤ 1000000 → IsBegun how set events old new k
begun Fresh set events room old new r k small move ok o long left start grows count few = fresh set events room old new k o start grows count few (fits_ok (length old.start) (need_on (device_for set)) r k small ok)
begun Again set events room old new r k small move ok o long left start grows count few =
    again set events room old new k o long left start grows count few (fits_ok (length old.start) (need_on (device_for set)) r k small ok) (fits_ok_then (length old.start) (need_for Again set (words_in old) (length old.start)) r k move ok)
