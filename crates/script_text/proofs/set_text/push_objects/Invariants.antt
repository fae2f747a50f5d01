use Rattle.std.proofs.Common.{◌≡◌, ◌++◌, take}
use Rattle.std.specs.List.{flat_map}
use Rattle.std.specs.String.{string_bytes}
use Rattle.script_text.specs.ScriptText.{object_text}
use Rattle.script_text.proofs.set_text.push_objects.Given as goal

-- the objects so far are written
abbrev pub invariant-loop-o : goal.invariant-loop-o
invariant-loop-o l = string_bytes l.out ≡ string_bytes l.initial.out ++ flat_map object_text (take l.o l.set.objects)
