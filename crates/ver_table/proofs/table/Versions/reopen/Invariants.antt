use Rattle.ver_table.proofs.Reopens.{AreReopening}
use Rattle.ver_table.proofs.table.Versions.reopen.Given as goal

abbrev pub invariant-loop-o : goal.invariant-loop-o
invariant-loop-o l = AreReopening l.slots l.clock.0 l.initial.self-inside.chains.items l.self-inside.chains.items l.o
