use Rattle.std.proofs.Common.{arith, length}
use Rattle.device_model.proofs.UnderWay.{by-order, by-writes, by-written}
use Rattle.device_model.proofs.commits.writes_by_objects.Goals as goal

pub returns-clause-order : goal.returns-clause-order
returns-clause-order g = λ is_written words n. by-order is_written words 0 n

pub returns-clause-sizes : goal.returns-clause-sizes
returns-clause-sizes g = λ set is_written words h. by-writes set is_written words 0 (length set.objects) (omega arith) h

pub returns-clause-written : goal.returns-clause-written
returns-clause-written g = λ is_written words n p l. by-written is_written words 0 n p (omega arith) (omega arith)
