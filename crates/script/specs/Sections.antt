-- A script cut into lines that stand alone, and blocks of lines up to an `end` line. This project's own.
use Rattle.std.specs.Prelude.{ℕ, ◌+◌, Bool, false, is_some, List, [], ◌∷◌, ◌++◌, length, Option, Some, None, if◌then◌else◌, codes}
use Rattle.plain_text.specs.Words.{is_plain, line_words}
use Rattle.script.specs.declared.keyword.BlockKind.{BlockKind}
use Rattle.script.specs.Keywords.{is, block_kind_of}

-- a block: what it is, the words behind the first of its first line, the lines in it, and its `end` line, where the input has one
pub data Section : Type 0 where
  Single : (line : List ℕ) → Section
  Block : (kind : BlockKind) (words : List (List ℕ)) (body : List (List ℕ)) (end : Option (List ℕ)) → Section

-- a block whose `end` line is still to come
pub record Open : Type 0 where
  pub kind : BlockKind
  pub words : List (List ℕ)
  pub body : List (List ℕ)

abbrev pub open_of : Option BlockKind → List (List ℕ) → Option Open
open_of None words = None
open_of (Some kind) words = Some (record { kind = kind; words = words; body = [] })

abbrev pub opened_words : List (List ℕ) → Option Open
opened_words [] = None
opened_words (first ∷ words) = open_of (block_kind_of first) words

-- the block that a line opens: none where it has a byte that is not allowed
abbrev pub opened : List ℕ → Option Open
opened line = if is_plain line then opened_words (line_words line) else None

abbrev pub is_end : List (List ℕ) → Bool
is_end [] = false
is_end (first ∷ words) = is first (codes "end")

-- a line ends a block also where it has a byte that is not allowed
abbrev pub ends : List ℕ → Bool
ends line = is_end (line_words line)

abbrev pub with_line : Open → List ℕ → Open
with_line o line = record o { body = o.body ++ line ∷ [] }

-- the sections of lines that stand behind an open block, or behind none
unfoldable pub sections_from : Option Open → List (List ℕ) → List Section
sections_from None [] = []
sections_from None (line ∷ lines) =
    if is_some (opened line) then sections_from (opened line) lines else Single line ∷ sections_from None lines
sections_from (Some o) [] = Block o.kind o.words o.body None ∷ []
sections_from (Some o) (line ∷ lines) =
    if ends line then Block o.kind o.words o.body (Some line) ∷ sections_from None lines
    else sections_from (Some (with_line o line)) lines

abbrev pub sections : List (List ℕ) → List Section
sections lines = sections_from None lines

-- how many lines a section has: an `end` line that the input lacks is counted, and refused there
abbrev pub line_count : Section → ℕ
line_count (Single line) = 1
line_count (Block kind words body end) = length body + 2
