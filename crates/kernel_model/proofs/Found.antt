-- The versions that a sound attempt has read are there, and the open tasks are of the set.
use Rattle.std.proofs.Common.{◌≡◌, ℕ, ◌<◌, List, length, Option, Some, subst}
use Rattle.std.specs.List.{AllByRecursion}
use Rattle.kernel_model.specs.Effects.{Outcome, Programs}
use Rattle.kernel_model.specs.Runs.{whole_run}
use Rattle.kernel_model.specs.Items.{FinishRecord}
use Rattle.kernel_model.specs.Replay.{DeviceState}
use Rattle.kernel_model.specs.Worlds.{World}
use Rattle.kernel_model.specs.OpenTasks.{open_tasks}
use Rattle.kernel_model.specs.Cores.{Attempt, Core, Running, Copying, Ready}
use Rattle.kernel_model.specs.Fit.{IsSetUp}
use Rattle.kernel_model.specs.History.{AreFound, IsHistory}
use Rattle.kernel_model.specs.Sound.{IsSoundCore}
use Rattle.kernel_model.specs.Live.{Mark}
use Rattle.kernel_model.specs.LiveSound.{IsMarkedIf}
use Rattle.kernel_model.proofs.OpenLaws.{open_programs}
use Rattle.kernel_model.proofs.RunFacts.{base-sized, history-runs}

pub running_found : {M : Type 0} → (world : World M) (history : List FinishRecord) (a : Attempt M) (c : Core M) → IsSoundCore world history c → c ≡ Running a → AreFound world.base history a.reads
running_found world history a c h e =
    let k = subst (IsSoundCore world history) e h in k.2.are_found

pub copying_found : {M : Type 0} → (world : World M) (history : List FinishRecord) (a : Attempt M) (copied : ℕ) (c : Core M) → IsSoundCore world history c → c ≡ Copying a copied → AreFound world.base history a.reads × (0 < length a.reads)
copying_found world history a copied c h e =
    let k = subst (IsSoundCore world history) e h in (k.3.are_found, k.1)

pub ready_found : {M : Type 0} → (world : World M) (history : List FinishRecord) (a : Attempt M) (outcome : Outcome) (c : Core M) → IsSoundCore world history c → c ≡ Ready a outcome → AreFound world.base history a.reads
ready_found world history a outcome c h e =
    let k = subst (IsSoundCore world history) e h in k.are_found

pub marked_found : (whole : Programs) (base : DeviceState) (history : List FinishRecord) (m : Mark) (mark : Option Mark) → IsMarkedIf whole base history mark → mark ≡ Some m → AreFound base history m.reads
marked_found whole base history m mark h e = let k = subst (IsMarkedIf whole base history) e h in k.attempt.are_found

pub programs_of_set : {M : Type 0} → (world : World M) → IsSetUp world → (history : List FinishRecord) → IsHistory (whole_run world.steps) world.base history → AllByRecursion (λ t. t.program < world.sizes.programs) (open_tasks world.base history)
programs_of_set world set_up history h =
    open_programs world.sizes world.base set_up.based.programs history (history-runs world set_up.machine (base-sized world.sizes world.base set_up.based) history h.replays)
