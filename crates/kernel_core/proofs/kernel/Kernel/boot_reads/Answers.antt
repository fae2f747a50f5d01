use Rattle.std.proofs.Common.{◌+◌, ⊎_elim, inl, inr, Ok, ap, ap₂, ◌∙◌, subst}
use Rattle.std.proofs.lemmas.Bool.{ne_eqb}
use Rattle.recovery.specs.Reading.{IsRefusedAt}
use Rattle.recovery.specs.Images.{words_of}
use Rattle.recovery.specs.Booting.{turns_of}
use Rattle.kernel_core.proofs.Booting.{counted_image, in_boot, lost_writes, more_image, more_steps, more_writes, never_blank, never_damaged, other_image, other_steps, other_writes}
use Rattle.kernel_core.proofs.kernel.Kernel.boot_reads.Goals as goal

pub returns-then-core-ne0-clause-steps : goal.returns-then-core-ne0-clause-steps
returns-then-core-ne0-clause-steps g c = λ yes. other_steps c.args.self.now _ c.args.core.0 c.requires.booting.0 c.requires.booting.1 (ne_eqb c.args.core.0 0 c.if-core-ne0.true)

pub returns-then-core-ne0-clause-written : goal.returns-then-core-ne0-clause-written
returns-then-core-ne0-clause-written g c = λ yes. other_writes c.args.self.now _ c.args.core.0 c.requires.booting.0 _ c.requires.booting.1 (ne_eqb c.args.core.0 0 c.if-core-ne0.true)

pub returns-then-core-ne0-clause-image : goal.returns-then-core-ne0-clause-image
returns-then-core-ne0-clause-image g c = λ yes. other_image c.args.self.now _ c.args.core.0 c.requires.booting.0 c.requires.booting.1 (ne_eqb c.args.core.0 0 c.if-core-ne0.true)

pub reads-requires : goal.reads-requires
reads-requires g c =
    let k = c.args.self.now in
    let words = words_of (g.F.Fram.log c.args.dev.now) (g.F.Fram.start c.args.dev.now) in
    (k.set, words, k.committed.after, (in_boot k words c.requires.keeps.0 c.in-Boot.boot c.requires.keeps.1 c.in-Boot.is).booting)

pub unreachable-requires-in-Err-Blank : goal.unreachable-requires-in-Err-Blank
unreachable-requires-in-Err-Blank g c =
    let words = words_of (g.F.Fram.log c.args.dev.now) (g.F.Fram.start c.args.dev.now) in
    never_blank c.args.self.now words c.requires.keeps.0 c.requires.keeps.1 c.requires.keeps.2 (subst (IsRefusedAt c.args.self.now.set words (turns_of c.in-Boot.boot) (g.F.Fram.lost c.args.dev.now) (g.F.Fram.lost c.turn.new.dev)) c.in-Err-Blank.field-0-is c.in-Err-Blank.ensures.refused)

pub unreachable-requires-in-Err-Damaged : goal.unreachable-requires-in-Err-Damaged
unreachable-requires-in-Err-Damaged g c =
    let words = words_of (g.F.Fram.log c.args.dev.now) (g.F.Fram.start c.args.dev.now) in
    never_damaged c.args.self.now words c.requires.keeps.0 c.in-Err-Damaged.field-0-0 c.requires.keeps.1 c.requires.keeps.2 (subst (IsRefusedAt c.args.self.now.set words (turns_of c.in-Boot.boot) (g.F.Fram.lost c.args.dev.now) (g.F.Fram.lost c.turn.new.dev)) c.in-Err-Damaged.field-0-is c.in-Err-Damaged.ensures.refused).0

pub returns-in-Ok-More-clause-steps : goal.returns-in-Ok-More-clause-steps
returns-in-Ok-More-clause-steps g c = λ yes.
    let e = c.in-Ok-More.is ∙ ap Ok c.in-Ok-More.field-0-is in
    more_steps c.args.self.now _ _ c.args.core.0 c.in-Boot.boot c.turn.new.self c.turn.new.into c.if-core-ne0.false c.in-Boot.is (ap₂ words_of (c.turn.ensures.kept e) c.turn.ensures.start) (c.turn.ensures.more e) (c.turn.ensures.count e) (c.turn.ensures.early e) c.turn.ensures.room

pub returns-in-Ok-More-clause-written : goal.returns-in-Ok-More-clause-written
returns-in-Ok-More-clause-written g c = λ yes.
    let e = c.in-Ok-More.is ∙ ap Ok c.in-Ok-More.field-0-is in
    more_writes c.args.self.now _ c.args.core.0 c.in-Boot.boot c.turn.new.self _ _ c.if-core-ne0.false c.in-Boot.is (c.turn.ensures.kept e) (c.turn.ensures.count e) (c.turn.ensures.early e)

pub returns-in-Ok-More-clause-image : goal.returns-in-Ok-More-clause-image
returns-in-Ok-More-clause-image g c = λ yes.
    let e = c.in-Ok-More.is ∙ ap Ok c.in-Ok-More.field-0-is in
    more_image c.args.self.now _ _ c.args.core.0 c.in-Boot.boot c.turn.new.self c.if-core-ne0.false c.in-Boot.is (ap₂ words_of (c.turn.ensures.kept e) c.turn.ensures.start) (c.turn.ensures.count e) (c.turn.ensures.early e)

pub returns-in-Err-Lost-clause-cut : goal.returns-in-Err-Lost-clause-cut
returns-in-Err-Lost-clause-cut g c =
    let words = words_of (g.F.Fram.log c.args.dev.now) (g.F.Fram.start c.args.dev.now) in
    lost_writes c.args.self.now words _ c.args.core.0 c.in-Boot.boot _ _ c.if-core-ne0.false c.in-Boot.is
    (λ e. counted_image c.args.self.now.set (words 2 + 1) (g.F.Fram.log c.args.dev.now) _ (g.F.Fram.start c.args.dev.now) _ c.requires.room e c.turn.ensures.start)
    (⊎_elim inl (λ counted. inr counted.1) c.in-Err-Lost.ensures.unwritten)
