use Rattle.std.proofs.Common.{◌≡◌, take, replicate}
use Rattle.std.specs.List.{flat_map}
use Rattle.script.proofs.timeline.one_by_one.Given as goal

abbrev pub invariant-loop-on : goal.invariant-loop-on
invariant-loop-on l = l.list.items ≡ flat_map (λ on. replicate on.times on.time) (take l.on-index l.all)
