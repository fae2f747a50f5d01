use Rattle.std.proofs.Common.{◌≡◌, ◌++◌, take}
use Rattle.std.specs.List.{flat_map}
use Rattle.std.specs.String.{string_bytes}
use Rattle.script_text.specs.ScriptText.{program_text}
use Rattle.script_text.proofs.set_text.push_programs.Given as goal

-- the programs so far are written
abbrev pub invariant-loop-p : goal.invariant-loop-p
invariant-loop-p l = string_bytes l.out ≡ string_bytes l.initial.out ++ flat_map program_text (take l.p l.set.programs)
