-- A run that begins on what a stopped one has left.
use Rattle.std.proofs.Common.{◌≡◌, ◌⊎◌, inl, inr, ⊎_elim, ℕ, ◌+◌, ◌≤◌, Bool, true, false, cond, ltb, ◌||◌, List, [], ◌++◌, length, take, Option, Some, None, refl, ap, sym, ◌∙◌, subst, arith}
use Rattle.std.specs.Prelude.{◌==◌}
use Rattle.std.proofs.lemmas.Bool.{lt-ltb}
use Rattle.std.proofs.lemmas.Bool.Decides.{leb_tells}
use Rattle.std.proofs.lemmas.List.{length-take}
use Rattle.nv_base.specs.Streams.{Stream}
use Rattle.rv_core.specs.State.{MachineState}
use Rattle.kernel_model.specs.Events.{Event, durable_commit, with_finish}
use Rattle.kernel_model.specs.Fit.{HasIds, IsBase, IsMachine, IsSetUp}
use Rattle.kernel_model.specs.Items.{FinishRecord, listing}
use Rattle.kernel_model.specs.Replay.{DeviceState}
use Rattle.kernel_model.specs.Durable.{Durable, last_of, listed, state_left}
use Rattle.kernel_model.proofs.ForCallers.{durable_commit-idle, get_or-replicate_idle}
use Rattle.set_model.specs.Sets.{TaskSet}
use Rattle.set_model.specs.Limits.{IsTaskSet}
use Rattle.set_model.specs.Numbers.{sizes_of}
use Rattle.set_model.specs.Formatted.{formatted}
use Rattle.set_model.proofs.ForCallers.{few_records, formatted_is_base}
use Rattle.device_model.specs.Words.{Words}
use Rattle.device_model.specs.Layouts.{Kind, Plain, Paged, Migrated, layout_of}
use Rattle.device_model.specs.Counting.{sizes_on}
use Rattle.device_model.specs.Decoding as stored
use Rattle.device_model.specs.Decoding.{Held, decode, durable_of, is_worn, most_worn}
use Rattle.device_model.specs.Devices.{Device, first_on, layout_on, migrated, plain}
use Rattle.device_model.proofs.ForCallers.{fit_on, held_fits}
use Rattle.recovery.specs.Images.{words_of}
use Rattle.task_model.specs.TaskSteps.{task_steps}
use Rattle.headline.specs.Chains.{Follows, IsSerial, begun_with}
use Rattle.headline.specs.Images.{Decodes, HasImages}
use Rattle.headline.specs.Runs.{Origin, after, booting_origin, durable_after, first_state, state_read, world_from}
use Rattle.kernel_core.specs.Opening.{durable_stored}
use Rattle.kernel_core.specs.declared.open.How.{How}
use Rattle.kernel_core.specs.declared.open.How.TheVariants.{Fresh, Again}
use Rattle.kernel_core.proofs.Opened.{kept_on, machine_on}
use Rattle.simulation.specs.Runs.{HasDone, Stops, StopsAt}
use Rattle.simulation.specs.Stores.{Store, words_in}
use Rattle.simulation.specs.declared.halt.Halt.{Halt}
use Rattle.simulation.specs.declared.halt.Halt.TheVariants as halt
use Rattle.sim_run.specs.Chains.{AreCalls, GoOn}
use Rattle.sim_run.specs.Origins.{begin_on, device_for, device_from, found_origin, fresh_run, opened_on}
use Rattle.sim_run.specs.Promises.{HasOpenedPart, HasRun}
use Rattle.sim_run.proofs.Chained.{follows, found_by, set_begun, some_is, words_after}

-- ---- all premises of the laws are met where a call begins

abbrev MachineLaw : Type 0
MachineLaw = (set : TaskSet) → IsMachine (task_steps set) (sizes_of set)

base_on : (set : TaskSet) (kind : Kind) (base : DeviceState) → IsBase (sizes_of set) base → IsBase (sizes_on (layout_of kind set) set) base
base_on set kind base k = record { objects = k.objects; words = k.words; in_order = k.in_order; positive = k.positive; old = k.old; programs = k.programs; records = k.records; clock = k.clock; next = k.next }

set_up_on : MachineLaw → (d : Device) (h : Held) → IsTaskSet d.set → IsBase (sizes_of d.set) (durable_of h).state → IsSetUp (world_from (booting_origin d h))
set_up_on m d h t b = record {
  machine = machine_on d.set d (m d.set);
  sized = fit_on (layout_on d) d.set t;
  based = base_on d.set d.kind (durable_of h).state b;
}

set_up_fresh : MachineLaw → (set : TaskSet) → IsTaskSet set → IsSetUp (world_from (fresh_run set))
set_up_fresh m set t = record {
  machine = machine_on set (device_for set) (m set);
  sized = fit_on (layout_on (device_for set)) set t;
  based = base_on set (device_for set).kind (formatted set) (formatted_is_base set t);
}

-- on the device of which a state is read, and on the one on which the run goes on
set_up_from : MachineLaw → (set : TaskSet) (kind : Kind) (h : Held) (words : Words) → IsTaskSet set → decode set words ≡ stored.Holds kind h → IsSetUp (world_from (booting_origin (device_from set kind) h))
set_up_from m set kind h words t e = at kind based
  where
    based : IsBase (sizes_of set) (durable_of h).state
    based = let d : Device = record { kind = kind; set = set } in (held_fits set (layout_on d) h (kept_on d h words t e).held).0

    by : (b : Bool) → IsBase (sizes_of set) (durable_of h).state → IsSetUp (world_from (booting_origin (cond b (migrated set) (plain set)) h))
    by true k = set_up_on m (migrated set) h t k
    by false k = set_up_on m (plain set) h t k

    at : (kind : Kind) → IsBase (sizes_of set) (durable_of h).state → IsSetUp (world_from (booting_origin (device_from set kind) h))
    at Plain k = by (set.format == 2) k
    at Paged k = set_up_on m (record { kind = Paged; set = set }) h t k
    at Migrated k = set_up_on m (migrated set) h t k

second_false : (a b c : Bool) → (a || (b || c)) ≡ false → b ≡ false
second_false true b c e = absurd (cc e)
second_false false true c e = absurd (cc e)
second_false false false c e = refl

few_ids : (d : Durable) → is_worn d ≡ false → d.state.next ≤ 4000000000
few_ids d e = elim (leb_tells d.state.next most_worn) [
  | inl t ↦ t.1
  | inr t ↦ let u : false ≡ true = sym (second_false (ltb most_worn d.state.number) (ltb most_worn d.state.next) (ltb most_worn d.boots) e) ∙ lt-ltb most_worn d.state.next t.1 in absurd (cc u)
]

-- ids are left for so many finishes
record IsReadyFor (o : Origin) : Type 0 where
  up : IsSetUp (world_from o)
  ids : (n : ℕ) → n ≤ 1000000 → HasIds o.base n

ready_found : MachineLaw → (set : TaskSet) (words : Words) (s : stored.Stored) (o : Origin) → IsTaskSet set → decode set words ≡ s → found_origin set s ≡ Some o → IsReadyFor o
ready_found m set words stored.Blank o t e f = absurd (cc f)
ready_found m set words (stored.Damaged place) o t e f = absurd (cc f)
ready_found m set words (stored.Holds kind h) o t e f = at (is_worn (durable_of h)) refl f
  where
    at : (b : Bool) → is_worn (durable_of h) ≡ b → cond b None (Some (booting_origin (device_from set kind) h)) ≡ Some o → IsReadyFor o
    at true w g = absurd (cc g)
    at false w g = subst IsReadyFor (some_is _ _ g) (record {
      up = set_up_from m set kind h words t e;
      ids = λ n few. let i = few_ids (durable_of h) w in omega (arith, few, i);
    })

ready : MachineLaw → (how : How) (set : TaskSet) (words : Words) (o : Origin) → IsTaskSet set → begin_on how set words ≡ Some o → IsReadyFor o
ready m Fresh set words o t e = subst IsReadyFor (some_is _ _ e) (record {
  up = set_up_fresh m set t;
  ids = λ n few. let r = few_records set t in let q = (formatted_is_base set t).records in omega (arith, few, r, q);
})
ready m Again set words o t e = ready_found m set words (decode set words) o t refl e

-- ---- what is durable before the first event

begun_first : (o : Origin) → durable_after o [] ≡ begun_with o
begun_first o =
    let none : durable_commit {M = MachineState} (first_state o).cores ≡ None = durable_commit-idle (first_state o).cores (λ k. get_or-replicate_idle MachineState o.device.set.cores k) in
    let number : o.base.number + 0 ≡ o.base.number = omega arith in
    ap (λ (i : Option FinishRecord). let d : Durable = record { state = state_left o.base (with_finish i []); last = last_of o.last (with_finish i []); boots = o.boots } in d) none
    ∙ ap (λ (n : ℕ). let d : Durable = record { state = record o.base { number = n }; last = o.last; boots = o.boots } in d) number

begun_stored : (set : TaskSet) (s : stored.Stored) (p : Origin) → found_origin set s ≡ Some p → Some (begun_with p) ≡ durable_stored s
begun_stored set stored.Blank p f = absurd (cc f)
begun_stored set (stored.Damaged place) p f = absurd (cc f)
begun_stored set (stored.Holds kind h) p f = sym (ap (λ (o : Origin). Some (begun_with o)) (found_by set (stored.Holds kind h) kind h p refl f))

durable_is : (x y : Durable) → Some x ≡ Some y → x ≡ y
durable_is x y e = cc e

-- ---- the second run goes on from some number of events

abbrev TogetherLaw : Type 0
TogetherLaw = (o p : Origin) (events more : List Event) → IsSetUp (world_from o) → HasIds o.base (length events) → IsSetUp (world_from p) → HasIds p.base (length more) → Follows o events p → IsSerial o.device.set o.base (listing (listed (after o events)) ++ listing (listed (after p more))) (state_read p more)

take-few : {A : Type 0} (n : ℕ) (xs : List A) → length (take n xs) ≤ length xs
take-few n xs = let l = length-take n xs in omega (arith, l)

goes_on : TogetherLaw → MachineLaw → (how : How) (set : TaskSet) (events more : List Event) (old new : Store) (o p : Origin) (least most n : ℕ) → AreCalls how set events more old new o p → least ≤ n → n ≤ most → Follows o (take n events) p → GoOn o events p more least most
goes_on law m how set events more old new o p least most n c from to f =
    let first = ready m how set (words_in old) o c.limits c.first in
    let then = ready m Again set (words_in new) p c.limits c.then in
    let few : length (take n events) ≤ 1000000 = let l = take-few n events in let b = c.few in omega (arith, l, b) in record {
      done = n;
      from = from;
      to = to;
      history = record { follows = f; together = law o p (take n events) more first.up (first.ids (length (take n events)) few) then.up (then.ids (length more) c.few_more) f };
    }

follows_images : (how : How) (set : TaskSet) (events more : List Event) (old new : Store) (o p : Origin) (n : ℕ) → AreCalls how set events more old new o p → HasImages o events old.start (opened_on how set old).log new.log n → Follows o (take n events) p
follows_images how set events more old new o p n c images =
    follows set o (take n events) (words_in new) p (set_begun how set (words_in old) o c.first)
    (subst (λ (xs : List ℕ). Decodes o (words_of new.log xs) (after o (take n events))) (sym c.start) (words_after o events old.start (opened_on how set old).log new.log n images)) c.then

-- within the format or the migration
follows_opened : (how : How) (set : TaskSet) (events more : List Event) (old new : Store) (o p : Origin) → AreCalls how set events more old new o p → HasOpenedPart how set old new → ((how ≡ Fresh) × (words_in new ≡ words_in old)) ⊎ Follows o [] p
follows_opened Again set events more old new o p c h =
    let same : Some (begun_with p) ≡ Some (begun_with o) = begun_stored set (decode set (words_in new)) p c.then ∙ h.left ∙ sym (begun_stored set (decode set (words_in old)) o c.first) in
    inr (record {
      set = set_begun Again set (words_in new) p c.then ∙ sym (set_begun Again set (words_in old) o c.first);
      left = durable_is (begun_with p) (begun_with o) same ∙ sym (begun_first o);
    })
follows_opened Fresh set events more old new o p c h = ⊎_elim
    (λ e. inl (refl, e))
    (⊎_elim
    (λ blank. let u : None ≡ Some p = sym (ap (found_origin set) blank) ∙ c.then in absurd (cc u))
    (λ first. inr (subst (λ (x : Origin). Follows x [] p) (some_is _ _ c.first)
    (follows set (fresh_run set) [] (words_in new) p refl (record { held = first_on (device_for set); holds = first; durable_is = sym (begun_first (fresh_run set)) }) c.then))))
    h.left

pub any : TogetherLaw → MachineLaw → (how : How) (set : TaskSet) (events more : List Event) (old new : Store) (o p : Origin) → AreCalls how set events more old new o p → HasRun how set events old new → ((how ≡ Fresh) × (words_in new ≡ words_in old)) ⊎ GoOn o events p more 0 (length events)
any law m how set events more old new o p c run = ⊎_elim before amid run
  where
    before : HasOpenedPart how set old new → ((how ≡ Fresh) × (words_in new ≡ words_in old)) ⊎ GoOn o events p more 0 (length events)
    before h = ⊎_elim (λ e. inl e) (λ f. inr (goes_on law m how set events more old new o p 0 (length events) 0 c (omega arith) (omega arith) f)) (follows_opened how set events more old new o p c h)

    amid : (q : Origin) × (begin_on how set (words_in old) ≡ Some q) × HasDone q events (opened_on how set old) new → ((how ≡ Fresh) × (words_in new ≡ words_in old)) ⊎ GoOn o events p more 0 (length events)
    amid r =
        let same : r.0 ≡ o = some_is _ _ (sym r.1 ∙ c.first) in
        let done = subst (λ (x : Origin). HasDone x events (opened_on how set old) new) same r.2 in
        inr (goes_on law m how set events more old new o p 0 (length events) done.0 c (omega arith) done.1 (follows_images how set events more old new o p done.0 c done.2))

pub told : TogetherLaw → MachineLaw → (how : How) (set : TaskSet) (events more : List Event) (old new : Store) (o p : Origin) → AreCalls how set events more old new o p → (sink now : Stream) (h : Halt) → (s : Stops o events (opened_on how set old) new sink now h) → GoOn o events p more s.lines (s.lines + 1)
told law m how set events more old new o p c sink now h s = ⊎_elim (λ a. at h a.1) (λ a. here (length events) (omega (arith, a.0)) (omega (arith, a.0)) a.1) s.stands
  where
    here : (n : ℕ) → s.lines ≤ n → n ≤ s.lines + 1 → HasImages o events old.start (opened_on how set old).log new.log n → GoOn o events p more s.lines (s.lines + 1)
    here n from to images = goes_on law m how set events more old new o p s.lines (s.lines + 1) n c from to (follows_images how set events more old new o p n c images)

    at : (h : Halt) → StopsAt o events (opened_on how set old) new s.lines s.middle now h → GoOn o events p more s.lines (s.lines + 1)
    at halt.WriteFault a = here (s.lines + 1) (omega arith) (omega arith) a.3
    at halt.DeviceLost a = ⊎_elim (here s.lines (omega arith) (omega arith)) (here (s.lines + 1) (omega arith) (omega arith)) a.1
