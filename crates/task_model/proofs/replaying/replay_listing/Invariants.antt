use Rattle.std.proofs.Common.{◌≡◌, ◌≤◌, List, length, map, take}
use Rattle.kernel_model.specs.EntryReplay.{Rerun}
use Rattle.set_model.specs.Formatted.{formatted}
use Rattle.set_model.specs.Views.{entry_of}
use Rattle.task_model.specs.Turns.{place_at}
use Rattle.task_model.specs.Replaying.{HasReplayed}
use Rattle.task_model.proofs.replaying.replay_listing.Given as goal

abbrev pub invariant-loop-turn : goal.invariant-loop-turn
invariant-loop-turn l = record {
  has : (reruns : List Rerun) × HasReplayed l.set (map (place_at (map entry_of l.listing)) (take l.turn-index l.turn-items)) reruns l.replaying;
  places : length l.replaying.spawned ≡ length l.listing;
  start : (formatted l.set).next ≤ 1025;
}
