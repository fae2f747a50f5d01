-- What the services that wait for an object's words are in the table machine.
use Rattle.std.proofs.Common.{◌≡◌, ℕ, ◌<◌, Bool, true, false, cond, ◌||◌, List, length, Option, Some, None, refl, sym, ap, ap₂, subst, ◌∙◌}
use Rattle.object_sets.specs.ObjectSets.{IsIncreasing, is_among}
use Rattle.rv_core.specs.State.{MachineState, Calls}
use Rattle.rv_core.specs.declared.services.Service.{Service}
use Rattle.rv_core.specs.declared.services.Service.TheVariants as service
use Rattle.nv_base.specs.declared.causes.TrapCause.{TrapCause}
use Rattle.nv_base.specs.declared.ids.ObjId.{ObjId}
use Rattle.nv_base.specs.declared.lines.Outcome.TheVariants as outcome
use Rattle.kernel_model.specs.Effects.{also_written, object_words, written}
use Rattle.kernel_model.specs.Runs.{Reads}
use Rattle.set_model.specs.Sets.{TaskSet, object_at}
use Rattle.task_model.specs.TaskSteps.{given_words, part_refusal, part_step, past, refusal, rewritten_words, served, task_steps, unless}
use Rattle.task_model.specs.declared.part.Part.{Part}
use Rattle.table_machine.specs.Tables.{Chain, Copy, Try, Runs}
use Rattle.table_machine.specs.Seats.{SeatTurn, copy_of, read_object, still}
use Rattle.vol_copy.specs.Wants.{Awaits, memory_wanted, part_in, part_service, rewritten_wanted}
use Rattle.vol_copy.specs.Received.{MayReceive, ended_so, received, received_with}
use Rattle.vol_copy.specs.Tries.{IsFor, IsTry}
use Rattle.vol_copy.specs.Turns.{Obtains, Serves}
use Rattle.vol_copy.specs.declared.attempt.Attempt.{Attempt}
use Rattle.vol_copy.specs.declared.attempt.Stage.TheVariants as stage
use Rattle.vol_copy.specs.declared.running.Need.{Need}
use Rattle.vol_copy.specs.declared.running.Need.TheVariants as need
use Rattle.vol_copy.specs.declared.want.Want.{Want}
use Rattle.vol_copy.specs.declared.want.Want.TheVariants as want
use Rattle.vol_copy.proofs.WriteTables.{writes-with, written-table}
use Rattle.vol_copy.proofs.CopyTables.{found, none_found}
use Rattle.vol_copy.proofs.Keeping.{fetches, received_kept}
use Rattle.vol_copy.proofs.StepTurns.{ends, placed, ran, tried}

-- the call waits for this object's words
abbrev pub WaitsFor : TaskSet → Attempt → Service → ℕ → Type 0
WaitsFor s a asked o = served s (Calls a.machine asked) ≡ Reads a.machine o

-- the turn of such a call, by what the try wrote and read of the object
abbrev reading : TaskSet → List Chain → ℕ → Try MachineState → MachineState → ℕ → Option (List ℕ) → Option Copy → SeatTurn MachineState
reading s chains n t m o own copy = read_object (task_steps s) chains n t m o own copy

read_turns : (s : TaskSet) (a : Attempt) (chains : List Chain) (n : ℕ) (t : Try MachineState) (asked : Service) (o : ℕ) (own : Option (List ℕ)) (copy : Option Copy) → WaitsFor s a asked o → written t.writes o ≡ own → copy_of o t.copies ≡ copy
    → ran s chains n t (served s (Calls a.machine asked)) ≡ reading s chains n t a.machine o own copy
read_turns s a chains n t asked o own copy to w r = ap (ran s chains n t) to ∙ ap (λ x. reading s chains n t a.machine o x (copy_of o t.copies)) w ∙ ap (reading s chains n t a.machine o own) r

-- the try goes on with this machine, and with new words of an object if there are some
abbrev pub told : Try MachineState → ℕ → Option (List ℕ) → MachineState → SeatTurn MachineState
told t o new m = still (Runs (record t { writes = also_written o new t.writes; state = m }))

pub wanted_turn : (t : Try MachineState) (m : MachineState) (o size : ℕ) (w : Want) (words : List ℕ) → Awaits m size w → length words ≡ size
    → told t o (rewritten_words m words) (given_words m words) ≡ told t o (rewritten_wanted w m.memory words) (past (record m { memory = memory_wanted w m.memory words }))
wanted_turn t m o size w words a l = ap₂ (told t o) (a.rewritten words l) (a.given words l)

-- it has these words
receives : (s : TaskSet) (a : Attempt) (o : ℕ) (w : Want) (asked : Service) (words : List ℕ) → a.stage ≡ stage.Running → IsIncreasing a.written → o < length a.words → Awaits a.machine (length words) w
    → ((t : Try MachineState) (chains : List Chain) (n : ℕ) → IsTry a (record t { state = a.machine }) → ran s chains n t (served s (Calls a.machine asked)) ≡ told t o (rewritten_words a.machine words) (given_words a.machine words))
    → Serves s a asked (received_with a o w words) need.Went
unfolding Serves
receives s a o w asked words running i l awaits turn =
    let new : Option (List ℕ) = rewritten_wanted w a.machine.memory words in
    let m : MachineState = past (record a.machine { memory = memory_wanted w a.machine.memory words }) in (
      running,
      λ t h chains n. (
        record t { writes = also_written o new t.writes; state = m },
        tried a m t (also_written o new t.writes) t.spawns (received_with a o w words).written (received_with a o w words).words a.spawns h (writes-with o new a.words a.written t.writes l i h.done.writes) h.done.spawns,
        refl,
        turn t chains n h ∙ wanted_turn t a.machine o (length words) w words awaits refl,
      ),
    )

-- those of its own last write
receives_own : (s : TaskSet) (a : Attempt) (o : ℕ) (w : Want) (asked : Service) → WaitsFor s a asked o → a.stage ≡ stage.Running → IsIncreasing a.written → o < length a.words → Awaits a.machine (length (object_words a.words o)) w → is_among o a.written ≡ true
    → Serves s a asked (received_with a o w (object_words a.words o)) need.Went
receives_own s a o w asked to running i l awaits e =
    receives s a o w asked (object_words a.words o) running i l awaits
    (λ t chains n h.
    read_turns s a chains n t asked o (Some (object_words a.words o)) (copy_of o t.copies) to
    (ap (λ ws. written ws o) h.done.writes ∙ written-table a.written a.words o ∙ ap (λ b. cond b (Some (object_words a.words o)) None) e)
    refl)

-- those of its earlier copy
not_written : (a : Attempt) (t : Try MachineState) (o : ℕ) → IsTry a (record t { state = a.machine }) → is_among o a.written ≡ false → written t.writes o ≡ None
not_written a t o h e = ap (λ ws. written ws o) h.done.writes ∙ written-table a.written a.words o ∙ ap (λ b. cond b (Some (object_words a.words o)) None) e

receives_copy : (s : TaskSet) (a : Attempt) (o : ℕ) (w : Want) (asked : Service) → WaitsFor s a asked o → a.stage ≡ stage.Running → IsIncreasing a.written → o < length a.words → Awaits a.machine (length (object_words a.copies o)) w
    → is_among o a.written ≡ false → is_among o a.reads ≡ true → Serves s a asked (received_with a o w (object_words a.copies o)) need.Went
receives_copy s a o w asked to running i l awaits e g =
    receives s a o w asked (object_words a.copies o) running i l awaits
    (λ t chains n h.
    let c = found o a.copies t.copies h.copies.words (ap (is_among o) h.copies.objects ∙ g) in
    read_turns s a chains n t asked o None (Some c.0) to (not_written a t o h e) c.1
    ∙ ap (λ x. told t o (rewritten_words a.machine x) (given_words a.machine x)) c.2)

-- a version is to be chosen
waits_for : (s : TaskSet) (a : Attempt) (o : ObjId) (w : Want) (asked : Service) → WaitsFor s a asked o.0 → is_among o.0 a.written ≡ false → is_among o.0 a.reads ≡ false → Serves s a asked (record a { stage = stage.Fetching o w }) (need.Fetch o)
unfolding Serves
waits_for s a o w asked to e g = (
  (w, refl),
  λ t h chains n. (
    record { done = record { task = h.done.task; writes = h.done.writes; spawns = h.done.spawns; state = refl }; copies = h.copies },
    read_turns s a chains n t asked o.0 None None to (not_written a t o.0 h e) (none_found o.0 t.copies (ap (is_among o.0) h.copies.objects ∙ g)),
  ),
)

-- the attempt behind a service that has the words that it sees
seen_so : (a n : Attempt) (o : ℕ) (w : Want) (b : Bool) → b ≡ is_among o a.written → n ≡ received a o w → n ≡ received_with a o w (cond b (object_words a.words o) (object_words a.copies o))
seen_so a n o w b e same = same ∙ ap (λ x. received_with a o w (cond x (object_words a.words o) (object_words a.copies o))) (sym e)

-- an attempt that runs on
running_kept : (s : TaskSet) (a n : Attempt) (o : ℕ) (w : Want) → IsFor s a → a.stage ≡ stage.Running → o < length s.objects → Awaits a.machine (object_at s o).size w → n ≡ received a o w → length n.machine.memory ≡ length a.machine.memory → IsFor s n
running_kept s a n o w h p l awaits same room =
    subst (λ q. IsFor s (record n { stage = q })) (sym (ap (λ (x : Attempt). x.stage) same ∙ p)) (received_kept s a n o w h l awaits.inside same room)

-- the machine waits for as many words as the object has in the set
waits_so : (s : TaskSet) (a : Attempt) (o : ℕ) (w : Want) → MayReceive a o w → IsFor s a → Awaits a.machine (object_at s o).size w
waits_so s a o w may h = subst (λ size. Awaits a.machine size w) (h.words.sizes o may.own) may.awaits

has_own : (a n : Attempt) (o : ObjId) (w : Want) → MayReceive a o.0 w → true ≡ is_among o.0 a.written → n ≡ received a o.0 w → length n.machine.memory ≡ length a.machine.memory → Obtains a o n need.Went
unfolding Obtains
has_own a n o w may among same room = λ s h p l some. (
  running_kept s a n o.0 w h p l (waits_so s a o.0 w may h) same room,
  λ asked to.
      placed s a n _ asked _ _ (seen_so a n o.0 w true among same) refl
      (receives_own s a o.0 w asked to p h.increasing may.own may.awaits (sym among)),
)

has_copy : (a n : Attempt) (o : ObjId) (w : Want) → MayReceive a o.0 w → false ≡ is_among o.0 a.written → true ≡ is_among o.0 a.reads → n ≡ received a o.0 w → length n.machine.memory ≡ length a.machine.memory → Obtains a o n need.Went
unfolding Obtains
has_copy a n o w may none among same room = λ s h p l some. (
  running_kept s a n o.0 w h p l (waits_so s a o.0 w may h) same room,
  λ asked to.
      placed s a n _ asked _ _ (seen_so a n o.0 w false none same) refl
      (receives_copy s a o.0 w asked to p h.increasing may.own (subst (λ size. Awaits a.machine size w) (sym may.sizes) may.awaits) (sym none) (sym among)),
)

pub has_words : (a n : Attempt) (o : ObjId) (w : Want) → MayReceive a o.0 w → true ≡ (is_among o.0 a.written || is_among o.0 a.reads) → n ≡ received a o.0 w → length n.machine.memory ≡ length a.machine.memory → Obtains a o n need.Went
has_words a n o w may among same room = at (is_among o.0 a.written) refl among
  where
    at : (b : Bool) → is_among o.0 a.written ≡ b → true ≡ (b || is_among o.0 a.reads) → Obtains a o n need.Went
    at true e f = has_own a n o w may (sym e) same room
    at false e f = has_copy a n o w may (sym e) f same room

pub has_none : (a : Attempt) (o : ObjId) (w : Want) → MayReceive a o.0 w → false ≡ (is_among o.0 a.written || is_among o.0 a.reads) → Obtains a o (record a { stage = stage.Fetching o w }) (need.Fetch o)
unfolding Obtains
has_none a o w may none = λ s h p l some.
    let each = neither (is_among o.0 a.written) (is_among o.0 a.reads) none in
    (fetches s a o w h l some each.0 each.1 (waits_so s a o.0 w may h), λ asked to. waits_for s a o w asked to each.0 each.1)
  where
    neither : (b c : Bool) → false ≡ (b || c) → (b ≡ false) × (c ≡ false)
    neither true c e = absurd (cc e)
    neither false c e = (refl, sym e)

-- what is told of a call that waits
pub obtained_kept : (s : TaskSet) (a n : Attempt) (o : ObjId) (p : Need) → Obtains a o n p → IsFor s a → a.stage ≡ stage.Running → o.0 < length s.objects → 0 < (object_at s o.0).size → IsFor s n
unfolding Obtains
obtained_kept s a n o p g h r l some = (g s h r l some).0

pub obtained_serves : (s : TaskSet) (a n : Attempt) (o : ObjId) (p : Need) (asked : Service) → Obtains a o n p → IsFor s a → a.stage ≡ stage.Running → o.0 < length s.objects → 0 < (object_at s o.0).size → WaitsFor s a asked o.0 → Serves s a asked n p
unfolding Obtains
obtained_serves s a n o p asked g h r l some to = (g s h r l some).1 asked to

-- READPART and WRITEPART have the same tests
part_served : (s : TaskSet) (m : MachineState) (o : ℕ) (w : Want) → served s (Calls m (part_service o w)) ≡ part_step s m o (part_in w).at (part_in w).first (part_in w).count
part_served s m o (want.Give p) = refl
part_served s m o (want.Take p) = refl

-- their tests come to this, where the code has the part as p
part_tested : (s : TaskSet) (m : MachineState) (o : ℕ) (w : Want) (p : Part) (failed : Option TrapCause) → p ≡ part_in w → failed ≡ part_refusal s m o p.at p.first p.count
    → served s (Calls m (part_service o w)) ≡ unless failed (Reads m o)
part_tested s m o w p failed q e = part_served s m o w ∙ ap (λ f. unless f (Reads m o)) (sym (e ∙ ap (λ (x : Part). part_refusal s m o x.at x.first x.count) q))

-- the part that a call asks for is refused
pub traps_part : (s : TaskSet) (a n : Attempt) (q : Need) (o : ℕ) (w : Want) (p : Part) (c : TrapCause) → p ≡ part_in w → Some c ≡ part_refusal s a.machine o p.at p.first p.count → n ≡ ended_so a (outcome.Trap c) → q ≡ need.Ready
    → Serves s a (part_service o w) n q
traps_part s a n q o w p c is e same f = placed s a n _ _ q _ same f (ends s a (part_service o w) (outcome.Trap c) (part_tested s a.machine o w p (Some c) is e))

-- where no test fails, the call waits for the object's words. Its number is that of the object that was tested
pub read_waits : (s : TaskSet) (a : Attempt) (o x at : ℕ) → x ≡ o → None ≡ refusal s a.machine o at → WaitsFor s a (service.Read o at) x
read_waits s a o x at e fine = ap (λ f. unless f (Reads a.machine o)) (sym fine) ∙ ap (Reads a.machine) (sym e)

pub part_waits : (s : TaskSet) (a : Attempt) (o x : ℕ) (w : Want) (p : Part) → x ≡ o → p ≡ part_in w → None ≡ part_refusal s a.machine o p.at p.first p.count → WaitsFor s a (part_service o w) x
part_waits s a o x w p e q fine = part_tested s a.machine o w p None q fine ∙ ap (Reads a.machine) (sym e)
