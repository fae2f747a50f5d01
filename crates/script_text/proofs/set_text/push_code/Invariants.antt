use Rattle.std.proofs.Common.{◌≡◌, ◌++◌, take}
use Rattle.std.specs.List.{flat_map}
use Rattle.std.specs.String.{string_bytes}
use Rattle.script_text.specs.ScriptText.{code_text}
use Rattle.script_text.proofs.set_text.push_code.Given as goal

-- the words so far are written
abbrev pub invariant-loop-word : goal.invariant-loop-word
invariant-loop-word l = string_bytes l.out ≡ string_bytes l.initial.out ++ flat_map code_text (take l.word-index l.code)
