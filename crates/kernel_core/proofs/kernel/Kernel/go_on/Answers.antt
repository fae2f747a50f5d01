use Rattle.std.proofs.Common.{◌≤◌, ℕ, List, length, ap₂, sym, ◌∙◌, subst}
use Rattle.std.proofs.lemmas.Result.{IfErr-weaker}
use Rattle.device_model.specs.Words.{Words}
use Rattle.device_model.specs.Devices.{need_on}
use Rattle.recovery.specs.Images.{device_at, words_of}
use Rattle.kernel_core.specs.Opening.{IsNotBooted, IsNotOpened, opening_writes}
use Rattle.kernel_core.specs.declared.open.How.TheVariants.{Again}
use Rattle.kernel_core.proofs.Stepping.{on_err_here, on_ok_here}
use Rattle.kernel_core.proofs.Moving.{front_all, left_later, not_begun}
use Rattle.kernel_core.proofs.kernel.Kernel.go_on.Goals as goal

pub begin_again-requires-clause-room : goal.begin_again-requires-clause-room
begin_again-requires-clause-room g c = let room = c.requires.room in (room.0, room.1, c.move_first.ensures.room room.0 room.2)

pub returns-clause-refused : goal.returns-clause-refused
returns-clause-refused g c =
    let set = c.args.self.now.set in
    let log = g.F.Fram.log in
    let start = g.F.Fram.start in
    let words = words_of (log c.args.dev.now) (start c.args.dev.now) in
    let later = words_of (log c.move_first.new.dev) (start c.move_first.new.dev) in
    let len = length (start c.args.dev.now) in
    let old = g.F.Fram.lost c.args.dev.now in
    let mid = g.F.Fram.lost c.move_first.new.dev in
    let new = g.F.Fram.lost c.begin_again.new.dev in
    IfErr-weaker c.begin_again.result (IsNotBooted c.move_first.new.self.set later mid new) (IsNotOpened Again set words len old new)
    (λ r h. not_begun set len words later old mid new r c.in_default.ensures.ready c.move_first.ensures.never_falls c.begin_again.ensures.never_falls (subst (λ s. IsNotBooted s later mid new r) c.move_first.ensures.rest.set h))
    c.begin_again.ensures.refused

pub returns-clause-cut : goal.returns-clause-cut
returns-clause-cut g c =
    let log = g.F.Fram.log in
    let words = words_of (log c.args.dev.now) (g.F.Fram.start c.args.dev.now) in
    on_err_here c.begin_again.result (front_all (opening_writes Again c.args.self.now.set words) (log c.args.dev.now) (log c.begin_again.new.dev) (c.begin_again.ensures.log ∙ c.in_default.ensures.written))

pub returns-clause-left : goal.returns-clause-left
returns-clause-left g c =
    let log = g.F.Fram.log in
    let start = g.F.Fram.start in
    left_later Again c.args.self.now.set (words_of (log c.args.dev.now) (start c.args.dev.now)) (words_of (log c.move_first.new.dev) (start c.move_first.new.dev)) (words_of (log c.begin_again.new.dev) (start c.begin_again.new.dev))
    (ap₂ words_of c.begin_again.ensures.log c.begin_again.ensures.start) c.move_first.ensures.left

pub returns-clause-long : goal.returns-clause-long
returns-clause-long g c =
    let log = g.F.Fram.log in
    let start = g.F.Fram.start in
    let last = c.begin_again.new.dev in
    let set = c.args.self.now.set in
    let later = words_of (log c.move_first.new.dev) (start c.move_first.new.dev) in
    let kept = c.begin_again.ensures.start ∙ c.move_first.ensures.start in
    on_ok_here c.begin_again.result
    (subst (λ (w : Words). need_on (device_at set w) ≤ length (start last)) (sym (ap₂ words_of c.begin_again.ensures.log c.begin_again.ensures.start))
    (subst (λ (xs : List ℕ). need_on (device_at set later) ≤ length xs) (sym kept) c.in_default.ensures.ready.long))

pub returns-clause-spared : goal.returns-clause-spared
returns-clause-spared g c = λ less. c.begin_again.ensures.log ∙ c.move_first.ensures.spared less
