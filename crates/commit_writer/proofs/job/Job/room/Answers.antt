use Rattle.std.proofs.Common.{arith}
use Rattle.shadow_index.specs.Tells.{device_of}
use Rattle.commit_writer.proofs.job.Job.room.Goals as goal

pub returns : goal.returns
returns c =
    let d = device_of c.args.set.now 0 in
    record {
      limits = c.objects.ensures.limits;
      places = c.of-layout.ensures;
      objects = omega (arith, c.in_ok-with_capacity.ensures.exact, c.from-2.ensures, c.objects.ensures.exact);
      pages = omega (arith, c.in_ok-pages.ensures.exact, c.from.ensures, c.pages.ensures.exact d c.of-layout.ensures);
      words = omega (arith, c.in_ok-words.ensures.exact, c.index_reads.ensures d c.of-layout.ensures);
    }
