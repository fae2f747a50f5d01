use Rattle.std.proofs.Common.{◌≡◌, ◌≤◌, ◌+◌, ◌*◌, ◌++◌, length, take, codes}
use Rattle.std.specs.List.{flat_map}
use Rattle.report.proofs.line_buf.LineBuf.append_words.Given as goal
use Rattle.nv_base.specs.Texts.{field}

abbrev pub invariant-loop-word : goal.invariant-loop-word
invariant-loop-word l =
    (l.self ≡ l.initial.self ++ flat_map (field (codes " ")) (take l.word-index l.words)) × (length l.self ≤ length l.initial.self + 11 * l.word-index)
