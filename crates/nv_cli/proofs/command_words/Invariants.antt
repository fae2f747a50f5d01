use Rattle.std.proofs.Common.{◌≡◌, ◌++◌, map, string_bytes}
use Rattle.std.specs.Rc.{rc_str_bytes}
use Rattle.std.specs.Vec.Iter.{into_iter_items}
use Rattle.nv_cli.proofs.command_words.Given as goal

abbrev pub invariant-loop-argument : goal.invariant-loop-argument
invariant-loop-argument l =
    map string_bytes (into_iter_items l.initial.argument-iterator) ≡ map rc_str_bytes l.words.items ++ map string_bytes (into_iter_items l.argument-iterator)
