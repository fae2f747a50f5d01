-- A run that begins on what another left.
use Rattle.std.proofs.Common.{◌≡◌, ℕ, Bool, true, false, cond, List, ◌++◌, length, take, Some, None, refl, ap, sym, ◌∙◌, subst, arith}
use Rattle.std.specs.Prelude.{◌==◌}
use Rattle.std.proofs.lemmas.List.{take_all}
use Rattle.kernel_model.specs.Events.{Event}
use Rattle.kernel_model.specs.Items.{listing}
use Rattle.kernel_model.specs.Durable.{Durable, listed}
use Rattle.kernel_model.specs.Replay.{DeviceState}
use Rattle.set_model.specs.Sets.{TaskSet}
use Rattle.device_model.specs.Words.{Change, Words}
use Rattle.device_model.specs.Layouts.{Kind, Plain, Paged, Migrated}
use Rattle.device_model.specs.Decoding as stored
use Rattle.device_model.specs.Decoding.{Held, decode, durable_of, is_worn}
use Rattle.device_model.specs.Devices.{migrated, plain}
use Rattle.recovery.specs.Images.{words_of}
use Rattle.headline.specs.Chains.{Follows, IsSerial, begun_with}
use Rattle.headline.specs.Images.{Decodes, HasImages}
use Rattle.headline.specs.Runs.{Origin, after, booting_origin, state_read, writes_by}
use Rattle.kernel_core.specs.declared.open.How.{How}
use Rattle.kernel_core.specs.declared.open.How.TheVariants.{Fresh, Again}
use Rattle.simulation.specs.Stores.{Store, words_in}
use Rattle.sim_run.specs.Chains.{AreOneHistory}
use Rattle.sim_run.specs.Origins.{begin_on, device_from, found_origin, fresh_run, opened_on}
use Rattle.sim_run.specs.Promises.{HasPromise, HasRunAll}

pub some_is : {A : Type 0} (x y : A) → Some x ≡ Some y → x ≡ y
some_is x y e = cc e

-- ---- of which set a run is

set_from : (set : TaskSet) (kind : Kind) → (device_from set kind).set ≡ set
set_from set Plain = at (set.format == 2)
  where
    at : (b : Bool) → (cond b (migrated set) (plain set)).set ≡ set
    at true = refl
    at false = refl
set_from set Paged = refl
set_from set Migrated = refl

pub found_by : (set : TaskSet) (s : stored.Stored) (kind : Kind) (h : Held) (p : Origin) → s ≡ stored.Holds kind h → found_origin set s ≡ Some p → booting_origin (device_from set kind) h ≡ p
found_by set s kind h p e f = at (is_worn (durable_of h)) (sym (ap (found_origin set) e) ∙ f)
  where
    at : (b : Bool) → cond b None (Some (booting_origin (device_from set kind) h)) ≡ Some p → booting_origin (device_from set kind) h ≡ p
    at true g = absurd (cc g)
    at false g = some_is _ _ g

set_found : (set : TaskSet) (s : stored.Stored) (p : Origin) → found_origin set s ≡ Some p → p.device.set ≡ set
set_found set stored.Blank p f = absurd (cc f)
set_found set (stored.Damaged place) p f = absurd (cc f)
set_found set (stored.Holds kind h) p f = sym (ap (λ (o : Origin). o.device.set) (found_by set (stored.Holds kind h) kind h p refl f)) ∙ set_from set kind

pub set_begun : (how : How) (set : TaskSet) (words : Words) (o : Origin) → begin_on how set words ≡ Some o → o.device.set ≡ set
set_begun Fresh set words o e = let same : fresh_run set ≡ o = some_is _ _ e in sym (ap (λ (x : Origin). x.device.set) same)
set_begun Again set words o e = set_found set (decode set words) o e

-- ---- what the first run left

pub words_after : (o : Origin) (events : List Event) (start : List ℕ) (before log : List Change) (n : ℕ) → HasImages o events start before log n → Decodes o (words_of log start) (after o (take n events))
words_after o events start before log n h =
    let k : ℕ = writes_by o (take n events) in
    let count = h.count in
    let all : before ++ take k h.writes ≡ log = ap (λ (x : List Change). before ++ x) (take_all k h.writes (omega (arith, count))) ∙ sym h.grown in
    subst (λ (x : List Change). Decodes o (words_of x start) (after o (take n events))) all (h.images n k (omega arith) refl)

words_left : (o : Origin) (events : List Event) (start : List ℕ) (before log : List Change) → HasImages o events start before log (length events) → Decodes o (words_of log start) (after o events)
words_left o events start before log h =
    let n : ℕ = length events in
    subst (λ (x : List Event). Decodes o (words_of log start) (after o x)) (take_all n events (omega arith)) (words_after o events start before log n h)

pub follows : (set : TaskSet) (o : Origin) (events : List Event) (words : Words) (p : Origin) → o.device.set ≡ set → Decodes o words (after o events) → begin_on Again set words ≡ Some p → Follows o events p
follows set o events words p same d e =
    let holds : decode set words ≡ stored.Holds o.device.kind d.held = subst (λ (x : TaskSet). decode x words ≡ stored.Holds o.device.kind d.held) same d.holds in
    let begins = found_by set (decode set words) o.device.kind d.held p holds e in record {
      set = set_found set (decode set words) p e ∙ sym same;
      left = sym (ap begun_with begins) ∙ d.durable_is;
    }

pub one_history : (how : How) (set : TaskSet) (events more : List Event) (old new : Store) (first : HasPromise how set events (words_in old)) (then : HasPromise Again set more (words_in new)) → HasRunAll how set events old new → new.start ≡ old.start → AreOneHistory first.origin events then.origin more
one_history how set events more old new first then run start =
    let o = first.origin in
    let p = then.origin in
    let same : run.0 ≡ o = some_is _ _ (sym run.1 ∙ first.begins) in
    let images = subst (λ (x : Origin). HasImages x events old.start (opened_on how set old).log new.log (length events)) same run.2 in
    let left = subst (λ (xs : List ℕ). Decodes o (words_of new.log xs) (after o events)) (sym start) (words_left o events old.start (opened_on how set old).log new.log images) in
    let f = follows set o events (words_in new) p (set_begun how set (words_in old) o first.begins) left then.begins in
    let one = listing (listed (after o events)) in
    let before = subst (λ (s : DeviceState). IsSerial o.device.set o.base one s) (sym (ap (λ (d : Durable). d.state) f.left)) first.promise.serial in record {
      follows = f;
      together = subst (λ (x : TaskSet). IsSerial x o.base (one ++ listing (listed (after p more))) (state_read p more)) f.set
          (then.goes_on o.base one (subst (λ (x : TaskSet). IsSerial x o.base one p.base) (sym f.set) before));
    }
