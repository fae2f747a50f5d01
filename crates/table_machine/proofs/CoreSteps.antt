-- Each event of tables that stand for a state follows the event machine.
use Rattle.std.proofs.Common.{◌≡◌, ℕ, zero, suc, get_or, Option, refl, sym, subst}
use Rattle.std.proofs.lemmas.Bool.{eqb-true}
use Rattle.kernel_model.specs.Items.{Entry}
use Rattle.kernel_model.specs.Replay.{DeviceState}
use Rattle.kernel_model.specs.Cores.{Core, Idle, Running, Copying, Ready, Committing, all_but, finished_by}
use Rattle.kernel_model.specs.Turns.{core_turn}
use Rattle.kernel_model.specs.Events.{On, Boot, State, CoreStep}
use Rattle.slot_model.specs.Changes.{kept_turn}
use Rattle.slot_model.specs.Standing.{IsLawful, StandsFor}
use Rattle.device_model.specs.Words.{Words}
use Rattle.table_machine.specs.Tables.{Setting, sizes_in, world_in}
use Rattle.table_machine.specs.Represents.{Ghost, IsFitting, held_of, slots_in}
use Rattle.table_machine.specs.Simulates.{Follows, IsSetting, ghost_after, root_with}
use Rattle.table_machine.proofs.OnPower.{Turned, copy_turned, idle_turned, ready_turned, run_turned, turned_follows, write_turned}
use Rattle.table_machine.proofs.Joins.{join_turned}
use Rattle.table_machine.proofs.PowerTurns.{same_ghost}

-- the ghost after a core's turn
abbrev pub turned_ghost : {M : Type 0} → Setting M → DeviceState → Option Entry → Ghost → State M → ℕ → Core M → Ghost
turned_ghost x base last g s n c = record {
  floor = g.floor;
  kept = kept_turn (sizes_in x) base s.history (all_but n s.cores) n c (core_turn (world_in x base) s.history (all_but n s.cores) n c).core g.kept;
  root = root_with x (held_of x base last g s) g.kept.plan (finished_by c);
}

-- each turn of a core
pub core_turned : {M : Type 0} → (x : Setting M) (base : DeviceState) (last : Option Entry) (g : Ghost) (words : Words) (s : State M) (n : ℕ) → IsSetting x → IsLawful (world_in x base) s → StandsFor (sizes_in x) base g.floor s g.kept (slots_in x words) →
    (c : Core M) → get_or s.cores n Idle ≡ c → IsFitting x.steps (sizes_in x) c → Turned x base last g words s n c (turned_ghost x base last g s n c)
core_turned x base last g words s n fit h f Idle at k = idle_turned x base last g words s n
core_turned x base last g words s n fit h f (Running a) at k = run_turned x base last g words s n a h f at
core_turned x base last g words s n fit h f (Copying a copied) at k = copy_turned x base last g words s n a copied h f at k.1
core_turned x base last g words s n fit h f (Ready a outcome) at k = ready_turned x base last g words s n a outcome fit h f at k
core_turned x base last g words s n fit h f (Committing i zero) at k = join_turned x base last g words s n i h f at
core_turned x base last g words s n fit h f (Committing i (suc left)) at k = write_turned x base last g words s n i left

-- a step of a core with power on
pub step_follows : {M : Type 0} → (x : Setting M) (base : DeviceState) (last : Option Entry) (g : Ghost) (words : Words) (s : State M) (n : ℕ) → IsSetting x → IsLawful (world_in x base) s → StandsFor (sizes_in x) base g.floor s g.kept (slots_in x words) →
    IsFitting x.steps (sizes_in x) (get_or s.cores n Idle) → s.power ≡ On → Follows x base last g words s (CoreStep n) (ghost_after x base last g s (CoreStep n))
step_follows {M} x base last g words s n fit h f k on =
    let t = turned_follows x base last g words s n (turned_ghost x base last g s n (get_or s.cores n Idle)) on (core_turned x base last g words s n fit h f (get_or s.cores n Idle) refl k) in
    subst (λ (after : Ghost). Follows x base last g words s (CoreStep n) after) same t
  where
    same : turned_ghost x base last g s n (get_or s.cores n Idle) ≡ ghost_after x base last g s (CoreStep n)
    same = subst (λ p. turned_ghost x base last g s n (get_or s.cores n Idle) ≡ ghost_after x base last g (record s { power = p }) (CoreStep n)) (sym on) refl

-- a turn of a boot, but the last
pub boot_follows : {M : Type 0} → (x : Setting M) (base : DeviceState) (last : Option Entry) (g : Ghost) (words : Words) (s : State M) (n left : ℕ) → s.power ≡ Boot left → (n ≡ 0 → left ≡ 1 → ⊥) → Follows x base last g words s (CoreStep n) g
boot_follows x base last g words s n left off more = same_ghost x base last g words s n left off (λ e. more (eqb-true n 0 e))
