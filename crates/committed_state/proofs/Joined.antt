-- What is kept once a finish has joined.
use Rattle.std.proofs.Common.{◌≡◌, ℕ, ◌≤◌, List, length, map, sym, ap, ◌∙◌, subst, arith}
use Rattle.std.proofs.lemmas.List.{length-map}
use Rattle.nv_base.specs.declared.lines.Spawn as base_spawn
use Rattle.set_model.specs.Sets.{ObjPart, TaskSet}
use Rattle.set_model.specs.Views.{spawn_of}
use Rattle.shadow_index.specs.declared.state.State.{State}
use Rattle.task_queue.specs.Queues.{Queued, after_finish}
use Rattle.ver_table.specs.Chains.{Chain}
use Rattle.committed_state.specs.Committed.{IsCommitted, MayJoin}
use Rattle.committed_state.specs.Joining.{AreTouchedBy}
use Rattle.committed_state.specs.declared.committed.Committed.{Committed}
use Rattle.committed_state.specs.declared.joining.Joining.{Joining}
use Rattle.committed_state.proofs.Slots.{slots_after_finish}
use Rattle.committed_state.proofs.Queues.{queue_after}

-- as many objects as the table has
pub count_versions : (set : TaskSet) (chains : List Chain) → map (λ (c : Chain). c.slots) chains ≡ map (λ (p : ObjPart). p.slots) set.objects → length chains ≡ length set.objects
count_versions set chains e = sym (length-map chains (λ (c : Chain). c.slots)) ∙ ap length e ∙ length-map set.objects (λ (p : ObjPart). p.slots)

pub joined : (set : TaskSet) (j : Joining) (spawns : List base_spawn.Spawn) (c : Committed) (slots : List ℕ) (count : ℕ) (versions : List Chain) (queue : Queued) (root : ℕ) (new old : State)
    → IsCommitted set c → MayJoin set j spawns c → count ≡ length set.objects → AreTouchedBy j slots count c.versions versions → queue ≡ after_finish j.task.0 (map spawn_of spawns) c.queue → new ≡ c.after → old ≡ c.state
    → IsCommitted set (record { versions = versions; queue = queue; state = record new { root = root }; after = old })
joined set j spawns c slots count versions queue root new old h m n t q e f =
    subst (λ (s : State). IsCommitted set (record { versions = versions; queue = queue; state = record s { root = root }; after = old })) (sym e)
    (subst (λ (s : State). IsCommitted set (record { versions = versions; queue = queue; state = record c.after { root = root }; after = s })) (sym f) whole)
  where
    few : length c.versions ≤ count
    few = let k = count_versions set c.versions h.rooms.slots in omega (arith, k, n)

    whole : IsCommitted set (record { versions = versions; queue = queue; state = record c.after { root = root }; after = c.state })
    whole = record {
      rooms = record {
        limits = h.rooms.limits;
        state = record { slots = h.rooms.after.slots; records = h.rooms.after.records };
        after = h.rooms.state;
        slots = slots_after_finish j slots count c.versions versions t few ∙ h.rooms.slots;
        records = ap (λ (x : Queued). x.records) q ∙ h.rooms.records;
      };
      index = m.after;
      queue = q ∙ queue_after set j spawns c h m;
    }
