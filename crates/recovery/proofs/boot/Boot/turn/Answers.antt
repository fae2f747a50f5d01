use Rattle.std.proofs.Common.{◌≡◌, ⊎_elim, inl, inr, arith, refl}
use Rattle.device_model.specs.Layouts.{reads}
use Rattle.device_model.specs.Devices.{layout_on}
use Rattle.recovery.specs.Images.{device_at, words_of}
use Rattle.recovery.proofs.WholeRead.{boot_counted, held, state_read, write_is}
use Rattle.recovery.proofs.boot.Boot.turn.Goals as goal

pub next-requires-clause-more : goal.next-requires-clause-more
next-requires-clause-more g c =
    let words = words_of (g.F.Fram.log c.args.dev.now) (g.F.Fram.start c.args.dev.now) in
    let d = device_at c.args.set.now words in
    let r = c.args.self.now.reader in
    let h = c.requires.booting.later (omega (arith, c.if-self-eq0.false)) in
    let turns = c.boot_turns.ensures d h.layout in
    omega (arith, turns, c.if-self-boot_turns.true)

pub overflow_add-into : goal.overflow_add-into
overflow_add-into g c =
    let words = words_of (g.F.Fram.log c.args.dev.now) (g.F.Fram.start c.args.dev.now) in
    let d = device_at c.args.set.now words in
    let r = c.args.self.now.reader in
    let h = c.requires.booting.later (omega (arith, c.if-self-eq0.false)) in
    let turns = c.boot_turns.ensures d h.layout in
    let whole : r.count ≡ reads (layout_on d) = omega (arith, turns, h.most, c.if-self-boot_turns.false) in
    omega (arith, (state_read d words r c.args.into.now h whole).boots, c.requires.boots)

pub overflow_add-into-in-Ok : goal.overflow_add-into-in-Ok
overflow_add-into-in-Ok g c =
    let words = words_of (g.F.Fram.log c.args.dev.now) (g.F.Fram.start c.args.dev.now) in
    let d = device_at c.args.set.now words in
    let r = c.args.self.now.reader in
    let h = c.requires.booting.later (omega (arith, c.if-self-eq0.false)) in
    let turns = c.boot_turns.ensures d h.layout in
    let whole : r.count ≡ reads (layout_on d) = omega (arith, turns, h.most, c.if-self-boot_turns.false) in
    omega (arith, (state_read d words r c.args.into.now h whole).boots, c.requires.boots)

pub returns-in-Ok-clause-last : goal.returns-in-Ok-clause-last
returns-in-Ok-clause-last g c =
    let words = words_of (g.F.Fram.log c.args.dev.now) (g.F.Fram.start c.args.dev.now) in
    let d = device_at c.args.set.now words in
    let r = c.args.self.now.reader in
    let h = c.requires.booting.later (omega (arith, c.if-self-eq0.false)) in
    let turns = c.boot_turns.ensures d h.layout in
    let whole : r.count ≡ reads (layout_on d) = omega (arith, turns, h.most, c.if-self-boot_turns.false) in
    λ e. omega (arith, whole)

pub returns-in-Ok-clause-done : goal.returns-in-Ok-clause-done
returns-in-Ok-clause-done g c =
    let words = words_of (g.F.Fram.log c.args.dev.now) (g.F.Fram.start c.args.dev.now) in
    let d = device_at c.args.set.now words in
    let r = c.args.self.now.reader in
    let h = c.requires.booting.later (omega (arith, c.if-self-eq0.false)) in
    let turns = c.boot_turns.ensures d h.layout in
    let whole : r.count ≡ reads (layout_on d) = omega (arith, turns, h.most, c.if-self-boot_turns.false) in
    λ e. boot_counted c.args.set.now r c.args.into.now _ _ _ _ _ c.requires.own h whole c.requires.room c.in-Ok.ensures.written c.write.ensures.same refl

pub returns-in-Ok-clause-counted : goal.returns-in-Ok-clause-counted
returns-in-Ok-clause-counted g c =
    let words = words_of (g.F.Fram.log c.args.dev.now) (g.F.Fram.start c.args.dev.now) in
    let d = device_at c.args.set.now words in
    let r = c.args.self.now.reader in
    let h = c.requires.booting.later (omega (arith, c.if-self-eq0.false)) in
    let turns = c.boot_turns.ensures d h.layout in
    let whole : r.count ≡ reads (layout_on d) = omega (arith, turns, h.most, c.if-self-boot_turns.false) in
    λ e. write_is d words r c.args.into.now _ _ h whole c.in-Ok.ensures.written

pub returns-in-Err-clause-unwritten : goal.returns-in-Err-clause-unwritten
returns-in-Err-clause-unwritten g c =
    let words = words_of (g.F.Fram.log c.args.dev.now) (g.F.Fram.start c.args.dev.now) in
    let d = device_at c.args.set.now words in
    let r = c.args.self.now.reader in
    let h = c.requires.booting.later (omega (arith, c.if-self-eq0.false)) in
    let turns = c.boot_turns.ensures d h.layout in
    let whole : r.count ≡ reads (layout_on d) = omega (arith, turns, h.most, c.if-self-boot_turns.false) in
    ⊎_elim inl (λ made. inr (
      refl,
      record {
        held = held d words r c.args.into.now h whole;
        last = omega (arith, whole);
        written = write_is d words r c.args.into.now _ _ h whole made;
      },
    )) c.in-Err.ensures.either
