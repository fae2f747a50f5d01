use Rattle.std.proofs.Common.{◌≡◌, ◌⊎◌, false, ℕ, set, List, Ok, refl, sym, ap, ◌∙◌, subst}
use Rattle.std.specs.Vec.{with_item}
use Rattle.core_seats.specs.declared.seat.Seat as own
use Rattle.core_seats.specs.Steps.{Completes}
use Rattle.recovery.specs.Images.{words_of}
use Rattle.nv_base.specs.declared.lines.Line.TheVariants as line
use Rattle.kernel_core.specs.Turns.{CoreTurns, CoreWrites}
use Rattle.kernel_core.proofs.AtStage.{same_set}
use Rattle.kernel_core.proofs.Writing.{by_seat, one_seat, write_left, turn_lost, turn_turns, turn_writes, goes_on, goes_whole, writing_on}
use Rattle.kernel_core.proofs.kernel.Kernel.write.Goals as goal

pub turn-requires : goal.turn-requires
turn-requires g c =
    let k = c.args.self.now in
    let at = by_seat k c.args.core.0 c.from-seat.result false c.index.result.now c.requires.saving c.from-seat.ensures c.index.ensures in
    write_left k _ c.requires.lawful.0 c.args.core.0 at _ c.requires.lawful.1 c.requires.room

pub returns-in-Ok-Wrote-clause-turns : goal.returns-in-Ok-Wrote-clause-turns
returns-in-Ok-Wrote-clause-turns g c =
    let k = c.args.self.now in
    let n = c.args.core.0 in
    let seat = c.index.result.now in
    let at = by_seat k n c.from-seat.result false seat c.requires.saving c.from-seat.ensures c.index.ensures in
    let e = c.in-Ok-Wrote.ensures in
    let same = sym (ap (set k.seats.items n) at.seat_is ∙ same_set k.seats.items n seat at.inside) in
    subst (λ (start : List ℕ). CoreTurns k n (writing_on k k.seats c.turn.new.self) (words_of (g.F.Fram.log c.args.dev.now) (g.F.Fram.start c.args.dev.now)) (words_of (g.F.Fram.log c.turn.new.dev) start) line.Nothing) (sym c.turn.ensures.start)
    (turn_turns k n at c.turn.new.self k.seats seat (g.F.Fram.start c.args.dev.now) (g.F.Fram.log c.args.dev.now) (g.F.Fram.log c.turn.new.dev) same refl c.turn.ensures.kept c.requires.room e.written
    (goes_on k.set k.writer c.turn.new.self seat at.saving at.saving_is at.whole (e.wrote (ap Ok c.in-Ok-Wrote.field-0-is))))

pub returns-in-Ok-Wrote-clause-written : goal.returns-in-Ok-Wrote-clause-written
returns-in-Ok-Wrote-clause-written g c =
    let k = c.args.self.now in
    let at = by_seat k c.args.core.0 c.from-seat.result false c.index.result.now c.requires.saving c.from-seat.ensures c.index.ensures in
    subst (λ (start : List ℕ). CoreWrites k c.args.core.0 (words_of (g.F.Fram.log c.args.dev.now) (g.F.Fram.start c.args.dev.now)) (words_of (g.F.Fram.log c.turn.new.dev) start) (g.F.Fram.log c.args.dev.now) (g.F.Fram.log c.turn.new.dev)) (sym c.turn.ensures.start)
    (turn_writes k c.args.core.0 at (g.F.Fram.start c.args.dev.now) (g.F.Fram.log c.args.dev.now) (g.F.Fram.log c.turn.new.dev) c.requires.room c.in-Ok-Wrote.ensures.written)

pub returns-in-Ok-Flipped-clause-turns : goal.returns-in-Ok-Flipped-clause-turns
returns-in-Ok-Flipped-clause-turns g c =
    let k = c.args.self.now in
    let n = c.args.core.0 in
    let seat = c.index.result.now in
    let at = by_seat k n c.from-seat.result false seat c.requires.saving c.from-seat.ensures c.index.ensures in
    let one = one_seat k n c.from-seat.result false seat c.index_mut.result.now c.requires.saving c.from-seat.ensures c.index.ensures c.index_mut.ensures.value in
    let e = c.in-Ok-Flipped.ensures in
    subst (λ (start : List ℕ). CoreTurns k n (writing_on k (with_item k.seats c.from-seat.result c.complete.new.self) c.turn.new.self) (words_of (g.F.Fram.log c.args.dev.now) (g.F.Fram.start c.args.dev.now)) (words_of (g.F.Fram.log c.turn.new.dev) start) line.Nothing) (sym c.turn.ensures.start)
    (turn_turns k n at c.turn.new.self (with_item k.seats c.from-seat.result c.complete.new.self) c.complete.new.self (g.F.Fram.start c.args.dev.now) (g.F.Fram.log c.args.dev.now) (g.F.Fram.log c.turn.new.dev)
    (ap (λ (m : ℕ). set k.seats.items m c.complete.new.self) c.from-seat.ensures) (c.complete.ensures.attempt ∙ ap (λ (s : own.Seat). s.attempt) (sym one)) c.turn.ensures.kept c.requires.room e.written
    (goes_whole k.set k.writer c.turn.new.self seat c.complete.new.self (subst (λ (s : own.Seat). Completes s c.complete.new.self) (sym one) c.complete.ensures.completes) (e.flipped (ap Ok c.in-Ok-Flipped.field-0-is))))

pub returns-in-Ok-Flipped-clause-written : goal.returns-in-Ok-Flipped-clause-written
returns-in-Ok-Flipped-clause-written g c =
    let k = c.args.self.now in
    let at = by_seat k c.args.core.0 c.from-seat.result false c.index.result.now c.requires.saving c.from-seat.ensures c.index.ensures in
    subst (λ (start : List ℕ). CoreWrites k c.args.core.0 (words_of (g.F.Fram.log c.args.dev.now) (g.F.Fram.start c.args.dev.now)) (words_of (g.F.Fram.log c.turn.new.dev) start) (g.F.Fram.log c.args.dev.now) (g.F.Fram.log c.turn.new.dev)) (sym c.turn.ensures.start)
    (turn_writes k c.args.core.0 at (g.F.Fram.start c.args.dev.now) (g.F.Fram.log c.args.dev.now) (g.F.Fram.log c.turn.new.dev) c.requires.room c.in-Ok-Flipped.ensures.written)

pub returns-in-Err-clause-lost : goal.returns-in-Err-clause-lost
returns-in-Err-clause-lost g c =
    let k = c.args.self.now in
    let at = by_seat k c.args.core.0 c.from-seat.result false c.index.result.now c.requires.saving c.from-seat.ensures c.index.ensures in
    subst (λ (start : List ℕ). (g.F.Fram.log c.turn.new.dev ≡ g.F.Fram.log c.args.dev.now) ⊎ CoreWrites k c.args.core.0 (words_of (g.F.Fram.log c.args.dev.now) (g.F.Fram.start c.args.dev.now)) (words_of (g.F.Fram.log c.turn.new.dev) start) (g.F.Fram.log c.args.dev.now) (g.F.Fram.log c.turn.new.dev)) (sym c.turn.ensures.start)
    (turn_lost k c.requires.lawful.0 c.args.core.0 at (g.F.Fram.start c.args.dev.now) (g.F.Fram.log c.args.dev.now) (g.F.Fram.log c.turn.new.dev) c.requires.lawful.1 c.requires.room c.in-Err.ensures.lost)
