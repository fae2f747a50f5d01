use Rattle.std.proofs.Common.{arith}
use Rattle.recovery.specs.Images.{device_at}
use Rattle.recovery.proofs.boot.Boot.reads.Goals as goal

pub returns-then-turn-boot_turns-clause-more : goal.returns-then-turn-boot_turns-clause-more
returns-then-turn-boot_turns-clause-more c = λ set words into h yes.
    let later = h.later (omega (arith, c.if-self-eq0.false)) in
    let turns = c.boot_turns.ensures (device_at set words) later.layout in
    omega (arith, turns, c.if-turn-boot_turns.true)

pub returns-clause-last : goal.returns-clause-last
returns-clause-last c = λ set words into h no.
    let later = h.later (omega (arith, c.if-self-eq0.false)) in
    let turns = c.boot_turns.ensures (device_at set words) later.layout in
    omega (arith, turns, later.most, c.if-turn-boot_turns.false)
