use Rattle.std.proofs.Common.{◌≡◌, ◌++◌, take, codes}
use Rattle.std.specs.List.{flat_map}
use Rattle.std.specs.String.{string_bytes}
use Rattle.script_text.proofs.set_text.push_words.Given as goal
use Rattle.nv_base.specs.Texts.{field}

-- the words so far are written
abbrev pub invariant-loop-word : goal.invariant-loop-word
invariant-loop-word l = string_bytes l.out ≡ string_bytes l.initial.out ++ flat_map (field (codes " ")) (take l.word-index l.words)
