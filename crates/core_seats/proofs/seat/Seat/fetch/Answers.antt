use Rattle.std.proofs.Common.{refl}
use Rattle.core_seats.proofs.Fetching.{is_read, is_stale}
use Rattle.core_seats.specs.declared.seat.Seat.{Seat}
use Rattle.core_seats.proofs.seat.Seat.fetch.Goals as goal

pub returns-in-Err-clause-fetches : goal.returns-in-Err-clause-fetches
returns-in-Err-clause-fetches c = is_stale c.args.versions.now c.args.self.now c.clear.new.self c.args.object c.in-Err.stale c.in-Err.ensures c.clear.ensures.vacant

pub returns-in-Ok-clause-fetches : goal.returns-in-Ok-clause-fetches
returns-in-Ok-clause-fetches c =
    let old = c.args.self.now in
    let new : Seat = record { attempt = c.open_read.new.self; reads = c.opened-self.result; slot = c.in-Ok.version.slot; saving = old.saving } in
    is_read c.args.versions.now old new c.args.object c.in-Ok.version c.in-Ok.ensures c.requires.trying c.requires.fetching c.opened-self.ensures refl c.open_read.ensures.opens
