use Rattle.std.proofs.Common.{◌≡◌, ◌⊎◌, inr, ℕ, ◌+◌, ◌≤◌, List, [], ◌∷◌, ◌++◌, length, sym, subst, arith}
use Rattle.device_model.specs.Devices.{HoldsOn, slot_on}
use Rattle.commit_writer.specs.declared.writer.Turn.TheVariants as turn
use Rattle.commit_writer.specs.Courses.{held_after, writes_of}
use Rattle.commit_writer.specs.Turns.{IsBeforeOrAfter, IsUnderWayIn, words_in, write_number}
use Rattle.commit_writer.proofs.Advancing.{some_more, write_fits}
use Rattle.commit_writer.proofs.Images.{either_way, err_then, holds_after, holds_before, holds_one, of_ok, ok_then, slot_stays, under_way_more}
use Rattle.commit_writer.proofs.writer.Writer.turn.Goals as goal

pub returns-clause-under_way : goal.returns-clause-under_way
returns-clause-under_way g c =
    let isw = g.C.Copies.is_written c.args.copies.now in
    let words = g.C.Copies.words c.args.copies.now in
    let w = c.args.self.now in
    ok_then c.advance.result _ _ (λ log k count h u.
    let a = some_more c.args.set.now k isw words count w h in
    let P : List ℕ → Type 0 = λ start. IsUnderWayIn k (count + 1) start (g.F.Fram.log c.advance.new.dev) in
    subst P (sym c.advance.ensures.start) (under_way_more k count (g.F.Fram.start c.args.dev.now) (g.F.Fram.log c.args.dev.now) (g.F.Fram.log c.advance.new.dev) u a (write_fits k isw words w.job count h.begun a) (log k count h))) c.advance.ensures.written

pub returns-clause-before : goal.returns-clause-before
returns-clause-before g c = λ r k count h u n.
    let isw = g.C.Copies.is_written c.args.copies.now in
    let words = g.C.Copies.words c.args.copies.now in
    let w = c.args.self.now in
    let a = some_more c.args.set.now k isw words count w h in
    let log = of_ok c.advance.result turn.Wrote _ r c.advance.ensures.written in
    let P : List ℕ → Type 0 = λ start. HoldsOn k.device k.held (words_in start (g.F.Fram.log c.advance.new.dev)) in
    subst P (sym c.advance.ensures.start) (holds_before k (count + 1) (g.F.Fram.start c.args.dev.now) (g.F.Fram.log c.advance.new.dev) h.begun.limits n
    (under_way_more k count (g.F.Fram.start c.args.dev.now) (g.F.Fram.log c.args.dev.now) (g.F.Fram.log c.advance.new.dev) u a (write_fits k isw words w.job count h.begun a) (log k count h)) (c.advance.ensures.wrote r k count h).1)

pub returns-clause-after : goal.returns-clause-after
returns-clause-after g c = λ r k count h u n.
    let isw = g.C.Copies.is_written c.args.copies.now in
    let words = g.C.Copies.words c.args.copies.now in
    let w = c.args.self.now in
    let a = some_more c.args.set.now k isw words count w h in
    let log = of_ok c.advance.result turn.Flipped _ r c.advance.ensures.written in
    let e : count + 1 ≡ length (writes_of k) = c.advance.ensures.flipped r k count h in
    let all : length (writes_of k) ≤ count + 1 = omega (arith, e) in
    let P : List ℕ → Type 0 = λ start. HoldsOn k.device (held_after k) (words_in start (g.F.Fram.log c.advance.new.dev)) in
    subst P (sym c.advance.ensures.start) (holds_after k (count + 1) (g.F.Fram.start c.args.dev.now) (g.F.Fram.log c.advance.new.dev) h.begun.limits n
    (under_way_more k count (g.F.Fram.start c.args.dev.now) (g.F.Fram.log c.args.dev.now) (g.F.Fram.log c.advance.new.dev) u a (write_fits k isw words w.job count h.begun a) (log k count h)) all)

pub returns-clause-cut : goal.returns-clause-cut
returns-clause-cut g c =
    let isw = g.C.Copies.is_written c.args.copies.now in
    let words = g.C.Copies.words c.args.copies.now in
    let w = c.args.self.now in
    err_then c.advance.result _ _ (λ log k count h u n.
    let a = some_more c.args.set.now k isw words count w h in
    let P : List ℕ → Type 0 = λ start. IsBeforeOrAfter k count (words_in start (g.F.Fram.log c.advance.new.dev)) in
    subst P (sym c.advance.ensures.start) (holds_one k count (g.F.Fram.start c.args.dev.now) (g.F.Fram.log c.args.dev.now) (g.F.Fram.log c.advance.new.dev) h.begun.limits n u a (write_fits k isw words w.job count h.begun a) (log k count h))) c.advance.ensures.lost

pub returns-clause-other_slots : goal.returns-clause-other_slots
returns-clause-other_slots g c = λ k count o slot i h u s n.
    let isw = g.C.Copies.is_written c.args.copies.now in
    let words = g.C.Copies.words c.args.copies.now in
    let w = c.args.self.now in
    let a = some_more c.args.set.now k isw words count w h in
    let old = g.F.Fram.log c.args.dev.now in
    let new = g.F.Fram.log c.advance.new.dev in
    let start = g.F.Fram.start c.args.dev.now in
    let P : List ℕ → Type 0 = λ first. words_in first new (slot_on k.device o slot i) ≡ words_in start old (slot_on k.device o slot i) in
    subst P (sym c.advance.ensures.start) (slot_stays k count start old new o slot i h.begun.limits u a (write_fits k isw words w.job count h.begun a) s n
    (either_way c.advance.result _ _ ((new ≡ old) ⊎ (new ≡ old ++ write_number k count ∷ [])) (λ log. inr (log k count h)) (λ log. log k count h) c.advance.ensures.written c.advance.ensures.lost))
