use Rattle.std.proofs.Common.{arith}
use Rattle.shadow_index.specs.Tells.{device_of}
use Rattle.commit_writer.proofs.Fields.{same_reads}
use Rattle.commit_writer.proofs.job.Job.take_words.Goals as goal

pub push_reserved-requires : goal.push_reserved-requires
push_reserved-requires c =
    let r = c.requires.set in
    omega (arith, c.loop-i.invariant.room, c.loop-i.invariant.long, c.clear.ensures.capacity, c.index_reads-i-end.ensures (device_of c.args.set.now c.args.self.now.shift) r.places, same_reads c.args.set.now c.args.self.now.shift, r.words)

pub returns-clause-long : goal.returns-clause-long
returns-clause-long c = omega (arith, c.loop-i.invariant.long, c.index_reads-i-end.ensures (device_of c.args.set.now c.args.self.now.shift) c.requires.set.places)

pub returns-clause-words : goal.returns-clause-words
returns-clause-words c = λ i l. c.loop-i.invariant.done i (omega (arith, l, c.index_reads-i-end.ensures (device_of c.args.set.now c.args.self.now.shift) c.requires.set.places))
