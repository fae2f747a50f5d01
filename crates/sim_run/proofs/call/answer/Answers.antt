use Rattle.std.proofs.Common.{refl}
use Rattle.simulation.specs.Stores.{store}
use Rattle.sim_run.specs.Answers.{how_of}
use Rattle.sim_run.specs.declared.command.Command.TheVariants.{Run, Resume, Asm, Dis, Pack, Serial, Audit, Make}
use Rattle.sim_run.proofs.Answering.{by_reply, by_some, none_left, none_lost, some_left}
use Rattle.sim_run.proofs.call.answer.Goals as goal

pub returns-in-Asm-clause-store : goal.returns-in-Asm-clause-store
returns-in-Asm-clause-store g c = none_left (how_of c.args.command) _ _ _ _ c.asm.result c.asm.ensures.replied

pub returns-in-Dis-clause-store : goal.returns-in-Dis-clause-store
returns-in-Dis-clause-store g c = none_left (how_of c.args.command) _ _ _ _ c.dis.result c.dis.ensures.replied

pub returns-in-Pack-clause-store : goal.returns-in-Pack-clause-store
returns-in-Pack-clause-store g c = none_left (how_of c.args.command) _ _ _ _ c.pack.result c.pack.ensures.replied

pub returns-in-Serial-clause-store : goal.returns-in-Serial-clause-store
returns-in-Serial-clause-store g c = none_left (how_of c.args.command) _ _ _ _ c.serial.result c.serial.ensures.replied

pub returns-in-Audit-clause-store : goal.returns-in-Audit-clause-store
returns-in-Audit-clause-store g c = some_left (how_of c.args.command) _ _ _ _ c.audit.result c.audit.ensures.replied

pub returns-in-Run-clause-replied : goal.returns-in-Run-clause-replied
returns-in-Run-clause-replied g c = by_reply c.args.command Run (store g.F.Fram.start g.F.Fram.log g.F.Fram.lost c.args.dev.now) c.args.input.now _ _ _ c.run.result c.in-Run.is c.requires.input refl c.run.ensures.replied

pub returns-in-Resume-clause-replied : goal.returns-in-Resume-clause-replied
returns-in-Resume-clause-replied g c = by_reply c.args.command Resume (store g.F.Fram.start g.F.Fram.log g.F.Fram.lost c.args.dev.now) c.args.input.now _ _ _ c.run-in-Resume.result c.in-Resume.is c.requires.input refl c.run-in-Resume.ensures.replied

pub returns-in-Make-clause-replied : goal.returns-in-Make-clause-replied
returns-in-Make-clause-replied g c = by_reply c.args.command (Make c.in-Make.seed) (store g.F.Fram.start g.F.Fram.log g.F.Fram.lost c.args.dev.now) c.args.input.now _ _ _ c.make.result c.in-Make.is c.requires.input refl c.make.ensures.replied

pub returns-in-Asm-clause-replied : goal.returns-in-Asm-clause-replied
returns-in-Asm-clause-replied g c = by_reply c.args.command Asm (store g.F.Fram.start g.F.Fram.log g.F.Fram.lost c.args.dev.now) c.args.input.now _ _ _ c.asm.result c.in-Asm.is c.requires.input refl (none_lost _ _ _ c.asm.result c.asm.ensures.replied)

pub returns-in-Dis-clause-replied : goal.returns-in-Dis-clause-replied
returns-in-Dis-clause-replied g c = by_reply c.args.command Dis (store g.F.Fram.start g.F.Fram.log g.F.Fram.lost c.args.dev.now) c.args.input.now _ _ _ c.dis.result c.in-Dis.is c.requires.input refl (none_lost _ _ _ c.dis.result c.dis.ensures.replied)

pub returns-in-Pack-clause-replied : goal.returns-in-Pack-clause-replied
returns-in-Pack-clause-replied g c = by_reply c.args.command Pack (store g.F.Fram.start g.F.Fram.log g.F.Fram.lost c.args.dev.now) c.args.input.now _ _ _ c.pack.result c.in-Pack.is c.requires.input refl (none_lost _ _ _ c.pack.result c.pack.ensures.replied)

pub returns-in-Serial-clause-replied : goal.returns-in-Serial-clause-replied
returns-in-Serial-clause-replied g c = by_reply c.args.command (Serial c.in-Serial.count) (store g.F.Fram.start g.F.Fram.log g.F.Fram.lost c.args.dev.now) c.args.input.now _ _ _ c.serial.result c.in-Serial.is c.requires.input refl (none_lost _ _ _ c.serial.result c.serial.ensures.replied)

pub returns-in-Audit-clause-replied : goal.returns-in-Audit-clause-replied
returns-in-Audit-clause-replied g c = by_some c.args.command Audit (store g.F.Fram.start g.F.Fram.log g.F.Fram.lost c.args.dev.now) c.args.input.now _ _ c.audit.result c.in-Audit.is c.requires.input c.audit.ensures.replied
