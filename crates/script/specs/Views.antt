-- What the code's own types are in the definitions. This project's own.
use Rattle.std.specs.Prelude.{map, option_map, []}
use Rattle.plain_text.specs.Left.{words_left}
use Rattle.script.specs.declared.section.Section as code
use Rattle.script.specs.declared.section.Section.TheVariants as sections
use Rattle.script.specs.declared.section.Block as blocks
use Rattle.script.specs.declared.section.Opening.{Opening}
use Rattle.script.specs.declared.block.Header as headers
use Rattle.script.specs.declared.reading.Script as scripts
use Rattle.script.specs.Parts.{Script}
use Rattle.script.specs.Sections.{Section, Single, Block, Open}
use Rattle.script.specs.Blocks.{Header}

-- a block whose first line was read
abbrev pub open_of : Opening → Open
open_of o = record { kind = o.kind; words = words_left o.words; body = [] }

abbrev pub block_of : blocks.Block → Section
block_of b = Block b.kind (words_left b.words) (map (λ line. line.now) b.body.items) (option_map (λ line. line.now) b.end)

abbrev pub section_of : code.Section → Section
section_of (sections.Line line) = Single line.now
section_of (sections.Block block) = block_of block

abbrev pub header_of : headers.Header → Header
header_of h = record { name = h.name.now; fuel = h.fuel }

abbrev pub script_of : scripts.Script → Script
script_of s = record { set = s.set; schedule = s.schedule; cores_line = s.cores_line }
